-- W beats that come before their AW: where none is early, a port goes on as one that asks for an AW before its W beats; and how a list of them is taken.
use Rattle.std.proofs.Common.{◌≡◌, ◌<◌, true, false, ◌&&◌, List, [], ◌∷◌, drop, length, slice_index_or, Option, None, sym, ◌∙◌, ap, arith}
use Rattle.std.specs.Prelude.{nat_lt}
use Rattle.std.specs.Option.{option_or}
use Rattle.axi_beats.specs.declared.AwBeat.{AwBeat}
use Rattle.axi_beats.specs.declared.WBeat.{WBeat}
use Rattle.axi_checker.specs.OpenBursts.{OpenBursts}
use Rattle.axi_checker.specs.declared.AxiBeat.{AxiBeat}
use Rattle.axi_checker.specs.declared.AxiBeat.TheVariants.{W as OnW}
use Rattle.axi_checker.specs.Rules.{AxiPortLimits, axi_fault}
use Rattle.axi_checker.specs.declared.AxiRule.{AxiRule}
use Rattle.scoreboard.specs.AxiPorts.{bursts_after, wrong_axi, PortBoard, Taken, none_early, wrong_with_early, taken_by, taking, tells_no_write, wrong_first, wrong_in_order}
use Rattle.scoreboard.specs.declared.Wrong.{Wrong}

or_none : (first : Option Wrong) → option_or first None ≡ first
or_none first = grind arith

-- ---- nothing is early

module _ (limits : AxiPortLimits) (open_bursts : OpenBursts) where
  pub aw_wrong : (aw : AwBeat) (fault : Option AxiRule) → (taken_by (none_early limits open_bursts) aw fault).wrong ≡ wrong_axi fault
  aw_wrong aw fault = or_none (wrong_axi fault)

-- ---- a list of early beats

-- a list by its first
by_first : {X : Type 0} (xs : List X) (x : X) → 0 < length xs → x ≡ slice_index_or xs 0 x → xs ≡ x ∷ drop 1 xs
by_first [] x some first = absurd (omega (arith, some))
by_first {X} (y ∷ ys) x some first = ap (λ (z : X). z ∷ ys) (sym first)

module _ (limits : AxiPortLimits) (open_bursts : OpenBursts) (beats : List WBeat) (w : WBeat) (first verdict : Option Wrong) (some : 0 < length beats) (there : w ≡ slice_index_or beats 0 w) (is : verdict ≡ wrong_axi (axi_fault limits open_bursts (OnW w))) where
  -- the first has no write: all stay early
  pub taking_stops : tells_no_write verdict ≡ true → wrong_first first (taking limits open_bursts beats) ≡ record { open_bursts = open_bursts; early = beats; wrong = first }
  taking_stops none =
      let stops : tells_no_write (wrong_axi (axi_fault limits open_bursts (OnW w))) ≡ true = ap tells_no_write (sym is) ∙ none in
      rw (by_first beats w some there, stops) (ap {B = Taken} (λ (wrong : Option Wrong). record { open_bursts = open_bursts; early = w ∷ drop 1 beats; wrong = wrong }) (or_none first))

  -- the first has one: it is taken, and then the others
  pub taking_more : tells_no_write verdict ≡ false → wrong_first first (taking limits open_bursts beats)
      ≡ wrong_first (option_or first verdict) (taking limits (bursts_after limits open_bursts (OnW w) (axi_fault limits open_bursts (OnW w))) (drop 1 beats))
  taking_more none = grind (arith, none, is, some, there)

-- none is left: what was wrong so far
pub taking_ends : (limits : AxiPortLimits) (open_bursts : OpenBursts) (first : Option Wrong)
    → wrong_first first (taking limits open_bursts []) ≡ record { open_bursts = open_bursts; early = []; wrong = first }
taking_ends limits open_bursts first = grind arith

-- ---- a W beat that isn't early

-- its verdict is as it would be in order
pub not_early : (port : PortBoard) (beat : AxiBeat) (w : WBeat) (verdict : Option Wrong) → beat ≡ OnW w → verdict ≡ wrong_in_order port beat
    → (tells_no_write verdict && nat_lt (length port.early) 256) ≡ false → verdict ≡ wrong_with_early port beat
not_early port beat w verdict is same none = grind (arith, is, same, none)
