-- A beat that is refused leaves its port as it is; else the port that stands at the client's place takes it.
use Rattle.std.proofs.Common.{◌≡◌, ◌∙◌, ℕ, Bool, ap, ap₂, get_or, sym, List, Option, Some, None, refl}
use Rattle.std.proofs.lemmas.Option.{get_or_from_slice_get}
use Rattle.std.specs.Prelude.{IfSome, IsSomeAnd, Result, Err, Ok, slice_get, slice_set}
use Rattle.bus_words.proofs.StoredPlaces.{set_back}
use Rattle.tl_messages.specs.declared.ABeat.{ABeat}
use Rattle.tl_checker.specs.Ports.{PortState, judged, port_after}
use Rattle.tl_checker.specs.declared.Progress.{Progress}
use Rattle.tl_checker.specs.declared.TlRule.{TlRule}
use Rattle.bridge_core.proofs.ports.take_told.Goals as goal

kept : (ports : List PortState) (client : ℕ) (beat : ABeat) (told : Result Progress TlRule) (there : Option PortState) → slice_get ports client ≡ there
    → ((progress : Progress) → told ≡ Ok progress → ⊥) → IfSome there (λ port. ports ≡ slice_set ports client (port_after port beat told))
kept ports client beat told None is never = tt
kept ports client beat (Ok progress) (Some port) is never = absurd (never progress refl)
kept ports client beat (Err rule) (Some port) is never = sym (set_back ports client port is)

-- the port that was read is the one at the client's place
read_is : (ports : List PortState) (client place : ℕ) (port found : PortState) → slice_get ports client ≡ Some found → place ≡ client → port ≡ get_or ports place port → port ≡ found
read_is ports client place port found is same read = read ∙ ap (λ (k : ℕ). get_or ports k port) same ∙ get_or_from_slice_get ports client found port is

is_free : (ports : List PortState) (client place : ℕ) (port : PortState) (there : Option PortState) → slice_get ports client ≡ there → place ≡ client → port ≡ get_or ports place port
    → IsSomeAnd there (λ p. p.whole ≡ None) → port.whole ≡ None
is_free ports client place port None is same read free = absurd free
is_free ports client place port (Some found) is same read free = ap (λ (p : PortState). p.whole) (read_is ports client place port found is same read) ∙ free

is_told : (ports : List PortState) (client place : ℕ) (port : PortState) (beat : ABeat) (busy : Bool) (told : Result Progress TlRule) (there : Option PortState) → slice_get ports client ≡ there
    → place ≡ client → port ≡ get_or ports place port → IsSomeAnd there (λ p. p.whole ≡ None) → IfSome there (λ p. told ≡ judged p.limits p.front beat busy)
    → judged port.limits port.front beat busy ≡ told
is_told ports client place port beat busy told None is same read free tells = absurd free
is_told ports client place port beat busy told (Some found) is same read free tells =
    ap (λ (p : PortState). judged p.limits p.front beat busy) (read_is ports client place port found is same read) ∙ sym tells

taken : (ports : List PortState) (client place : ℕ) (port new : PortState) (beat : ABeat) (told : Result Progress TlRule) (progress : Progress) (there : Option PortState)
    → slice_get ports client ≡ there → place ≡ client → port ≡ get_or ports place port → new ≡ port_after port beat (Ok progress) → told ≡ Ok progress
    → IfSome there (λ p. slice_set ports place new ≡ slice_set ports client (port_after p beat told))
taken ports client place port new beat told progress None is same read made tells = tt
taken ports client place port new beat told progress (Some found) is same read made tells =
    ap₂ (slice_set ports) same (made ∙ ap₂ (λ (p : PortState) (t : Result Progress TlRule). port_after p beat t) (read_is ports client place port found is same read) (sym tells))

pub take_judged-requires-clause-whole : goal.take_judged-requires-clause-whole
take_judged-requires-clause-whole c = is_free c.args.ports.now.items c.args.client c.from.result c.index_mut.result.now _ refl c.from.ensures c.index_mut.ensures.value c.requires.whole

pub take_judged-requires-clause-told : goal.take_judged-requires-clause-told
take_judged-requires-clause-told c =
    is_told c.args.ports.now.items c.args.client c.from.result c.index_mut.result.now c.args.beat.now c.args.busy c.args.told _ refl c.from.ensures c.index_mut.ensures.value c.requires.whole c.requires.told
    ∙ c.in-Ok.is

pub returns-in-Ok : goal.returns-in-Ok
returns-in-Ok c =
    taken c.args.ports.now.items c.args.client c.from.result c.index_mut.result.now c.take_judged.new.self c.args.beat.now c.args.told c.in-Ok.progress _ refl c.from.ensures c.index_mut.ensures.value c.take_judged.ensures
    c.in-Ok.is

pub returns-in_default : goal.returns-in_default
returns-in_default c = kept c.args.ports.now.items c.args.client c.args.beat.now c.args.told _ refl c.in_default.not-Ok
