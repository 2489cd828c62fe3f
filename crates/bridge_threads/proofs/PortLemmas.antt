-- The ports of clients by number: whose limits a port has, and that they stay where a port is used.
use Rattle.std.proofs.Common.{◌≡◌, ℕ, ◌<◌, List, [], ◌∷◌, Some, zero, suc, refl, sym, ap, ◌∙◌, arith}
use Rattle.std.specs.Prelude.{option_map, slice_get, slice_set}
use Rattle.std.proofs.lemmas.List.FromFn.{get_or-map-range_with_len, length-map-range_with_len}
use Rattle.std.proofs.lemmas.Option.{get_or_from_slice_get, same_Some, slice_get-map, slice_get_within}
use Rattle.tl_checker.specs.Ports.{PortState}
use Rattle.tl_checker.specs.RequestRules.{TlPortLimits}
use Rattle.config.specs.Configs.{port_of}
use Rattle.config.specs.declared.Config.{Config}
use Rattle.bridge_threads.specs.RefusedBeats.{client_limits, limits_of_ports}

-- a port in whose place stands one of the same limits
pub limits_kept : (ports : List PortState) (place : ℕ) (old new : PortState) → slice_get ports place ≡ Some old → new.limits ≡ old.limits
    → limits_of_ports (slice_set ports place new) ≡ limits_of_ports ports
limits_kept [] place old new there same = refl
limits_kept (port ∷ ports) zero old new there same =
    ap (λ (limits : TlPortLimits). limits ∷ limits_of_ports ports) (same ∙ ap (λ (p : PortState). p.limits) (sym (same_Some port old there)))
limits_kept (port ∷ ports) (suc place) old new there same = ap (λ (rest : List TlPortLimits). port.limits ∷ rest) (limits_kept ports place old new there same)

-- the port at a place is that of the client of this number
pub client_at : (config : Config) (clients place : ℕ) (ports : List PortState) (port : PortState) → limits_of_ports ports ≡ client_limits config clients → slice_get ports place ≡ Some port
    → (port.limits ≡ port_of config place) × (place < clients)
client_at config clients place ports port same there =
    let listed : slice_get (client_limits config clients) place ≡ Some port.limits =
    ap (λ (xs : List TlPortLimits). slice_get xs place) (sym same) ∙ slice_get-map (λ p. p.limits) ports place ∙ ap (option_map (λ (p : PortState). p.limits)) there in
    let within = slice_get_within (client_limits config clients) place port.limits listed in
    let below : place < clients = omega (arith, within, length-map-range_with_len (port_of config) 0 clients) in (
      sym (get_or_from_slice_get (client_limits config clients) place port.limits port.limits listed)
          ∙ get_or-map-range_with_len (port_of config) 0 clients place place port.limits below (omega arith),
      below,
    )
