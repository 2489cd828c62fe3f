-- Lists of beats by their length: those that have begun rightly are a front as long as a beat is still to come, and spell their request
-- with the last.
use Rattle.std.proofs.Common.{◌≡◌, ℕ, zero, suc, ◌-◌, ◌<◌, nat_lt, nat_le, Bool, true, false, List, [], ◌∷◌, ◌++◌, length, None, refl, sym, ◌∙◌, arith}
use Rattle.std.proofs.Math.ListN.{replicate}
use Rattle.std.proofs.lemmas.Bool.{and_parts, and_from, le-ltb}
use Rattle.std.proofs.lemmas.List.{length-append, length-map, length-replicate}
use Rattle.std.proofs.lemmas.List.Folds.{list_all-append}
use Rattle.std.specs.List.{list_all}
use Rattle.tl_messages.specs.Operations.{opcode_has_data, beats_of}
use Rattle.tl_messages.specs.Requests.{WholeRequest, begun, message_of, request_of, is_whole, masked_word}
use Rattle.tl_messages.specs.declared.ABeat.{ABeat}
use Rattle.tl_checker.specs.RequestRules.{TlPortLimits, first_fault, Spells, IsFront}
use Rattle.tl_checker.specs.declared.Level.TheVariants.{Ul, Uh}
use Rattle.tl_checker.proofs.BeatRules.{first_none, right_named, is_right_later, right_again}

-- a first beat that breaks no rule, and later beats that are right after it, however many
pub record HasBegun (limits : TlPortLimits) (first : ABeat) (rest : List ABeat) : Type 0 where
  pub right : first_fault limits None first false ≡ None
  pub later : list_all (is_right_later (begun limits.client first)) rest ≡ true

-- how many beats the message of a first beat has
abbrev pub beats_wanted : ABeat → ℕ
beats_wanted first = beats_of first.size (opcode_has_data first.opcode)

pub beats_wanted-pos : (first : ABeat) → 0 < beats_wanted first
beats_wanted-pos first = elim (opcode_has_data first.opcode) as (λ b. 0 < beats_of first.size b) [ true ↦ omega arith | false ↦ omega arith ]

-- ---- spellings

pub begun_spells : (limits : TlPortLimits) (first : ABeat) (rest : List ABeat) → HasBegun limits first rest → length (first ∷ rest) ≡ beats_wanted first
    → Spells limits (first ∷ rest) (request_of (message_of limits.client first rest))
begun_spells limits first rest begins all = (begins.right, begins.later, all, refl)

pub spells_begun : (limits : TlPortLimits) (first : ABeat) (rest : List ABeat) (q : WholeRequest) → Spells limits (first ∷ rest) q → HasBegun limits first rest
spells_begun limits first rest q spells = record { right = spells.0; later = spells.1 }

-- ---- fronts

pub begun-append : (limits : TlPortLimits) (first : ABeat) (rest more : List ABeat) → HasBegun limits first (rest ++ more) → HasBegun limits first rest
begun-append limits first rest more begins =
    let right = is_right_later (begun limits.client first) in
    record { right = begins.right; later = (and_parts (list_all right rest) (list_all right more) (sym (list_all-append right rest more) ∙ begins.later)).0 }

-- a front has begun, and has fewer beats than its message
pub record IsPart (limits : TlPortLimits) (first : ABeat) (rest : List ABeat) : Type 0 where
  pub begins : HasBegun limits first rest
  pub fewer : length (first ∷ rest) < beats_wanted first

pub front_part : (limits : TlPortLimits) (first : ABeat) (rest : List ABeat) → IsFront limits (first ∷ rest) → IsPart limits first rest
front_part limits first rest (next, more, q, spells) =
    record {
      begins = begun-append limits first rest (next ∷ more) (spells_begun limits first (rest ++ next ∷ more) q spells);
      fewer = omega (arith, spells.2, length-append rest (next ∷ more));
    }

all_copies : (right : ABeat → Bool) (beat : ABeat) (n : ℕ) → right beat ≡ true → list_all right (replicate n beat) ≡ true
all_copies right beat zero is = refl
all_copies right beat (suc n) is = and_from (right beat) (list_all right (replicate n beat)) is (all_copies right beat n is)

-- the first beat over again, as often as beats are still to come, makes a spelling
pub part_front : (limits : TlPortLimits) (first : ABeat) (rest : List ABeat) → IsPart limits first rest → IsFront limits (first ∷ rest)
part_front limits first rest part =
    let right = is_right_later (begun limits.client first) in
    let again = right_again limits first (first_none limits first false part.begins.right).0 in
    let missing = beats_wanted first - length (first ∷ rest) - 1 in
    let more = replicate missing first in
    let begins : HasBegun limits first (rest ++ first ∷ more) = record {
      right = part.begins.right;
      later = list_all-append right rest (first ∷ more) ∙ and_from (list_all right rest) (list_all right (first ∷ more)) part.begins.later (all_copies right first (suc missing) again);
    } in
    let many : length (first ∷ (rest ++ first ∷ more)) ≡ beats_wanted first = omega (arith, part.fewer, length-append rest (first ∷ more), length-replicate missing first) in
    (first, more, request_of (message_of limits.client first (rest ++ first ∷ more)), begun_spells limits first (rest ++ first ∷ more) begins many)

-- every port takes a Get of one byte
get_of_one : ABeat
get_of_one = record { opcode = 4; param = 0; size = 0; source = 0; address = 0; mask = 1; payload = 0; corrupt = false }

get_is_right : (limits : TlPortLimits) → first_fault limits None get_of_one false ≡ None
unfolding get_of_one
get_is_right limits =
    let fits : nat_lt limits.max_size 0 ≡ false = le-ltb limits.max_size 0 (omega arith) in
    elim limits.level as (λ level. first_fault (record limits { level = level }) None get_of_one false ≡ None) [ Ul ↦ rw fits refl | Uh ↦ rw fits refl ]

-- no beats are a front
pub none_front : (limits : TlPortLimits) → IsFront limits []
unfolding get_of_one
none_front limits = (get_of_one, [], request_of (message_of limits.client get_of_one []), begun_spells limits get_of_one [] (record { right = get_is_right limits; later = refl }) refl)

-- ---- what is held of a list

-- a message that has begun is whole where it has as many beats as it wants
pub whole-begun : (limits : TlPortLimits) (first : ABeat) (rest : List ABeat) → HasBegun limits first rest → is_whole (message_of limits.client first rest) ≡ nat_le (beats_wanted first) (length (first ∷ rest))
whole-begun limits first rest begins =
    let named = right_named limits first (first_none limits first false begins.right).0 in
    rw (named.same_opcode, length-map rest masked_word) refl
