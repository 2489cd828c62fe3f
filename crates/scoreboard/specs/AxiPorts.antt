-- The AXI4 port as a scoreboard sees it. AXI4 (A3.3) lets the W beats of a burst come before its AW, and where requests take effect in real time they
-- may: until then they are early. Where they take effect in order of acceptance an AW comes before its W beats.
use Rattle.std.specs.Prelude.{◌*◌, Bool, true, false, ◌&&◌, List, [], ◌∷◌, ◌++◌, length, Option, Some, None, if◌then◌else◌, nat_lt}
use Rattle.std.specs.Option.{option_or}
use Rattle.axi_beats.specs.declared.AwBeat.{AwBeat}
use Rattle.axi_beats.specs.declared.WBeat.{WBeat}
use Rattle.axi_checker.specs.Forced.{forced}
use Rattle.axi_checker.specs.OpenBursts.{OpenBursts, nothing_open, open_after}
use Rattle.axi_checker.specs.declared.AxiBeat.{AxiBeat}
use Rattle.axi_checker.specs.declared.AxiBeat.TheVariants.{Ar as OnAr, Aw as OnAw, B as OnB, R as OnR, W as OnW}
use Rattle.axi_checker.specs.Rules.{AxiPortLimits, axi_fault}
use Rattle.axi_checker.specs.declared.AxiRule.{AxiRule}
use Rattle.axi_checker.specs.declared.AxiRule.TheVariants.{WWithoutAw}
use Rattle.scoreboard.specs.declared.Policy.{Policy}
use Rattle.scoreboard.specs.declared.Policy.TheVariants.{AcceptanceOrder, RealTime}
use Rattle.scoreboard.specs.declared.Wrong.{Wrong}
use Rattle.scoreboard.specs.declared.Wrong.TheVariants.{Axi}

-- an AXI4 port: its limits, its outstanding bursts, and the W beats that are early, in their order
pub record PortBoard : Type 0 where
  pub limits : AxiPortLimits
  pub open_bursts : OpenBursts
  pub early : List WBeat

-- a port on which nothing is early
abbrev pub none_early : AxiPortLimits → OpenBursts → PortBoard
none_early limits open_bursts = record { limits = limits; open_bursts = open_bursts; early = [] }

-- ---- a beat, by the rules that ask for an AW before its W beats

abbrev pub wrong_axi : Option AxiRule → Option Wrong
wrong_axi None = None
wrong_axi (Some broken) = Some (Axi broken)

-- the limits of a port of which as many bursts again may be outstanding
abbrev pub doubled : AxiPortLimits → AxiPortLimits
doubled limits = record limits { depth = 2 * limits.depth }

-- the outstanding bursts after a beat, by the rule that it breaks. So that one event isn't told by many lines, data that break a rule of theirs count as
-- come, and an address that breaks DEPTH, CROSS_4K or BURST_KIND, and no other rule, opens its burst, of the depth up to as many again
abbrev pub bursts_after : AxiPortLimits → OpenBursts → AxiBeat → Option AxiRule → OpenBursts
bursts_after limits open_bursts beat None = open_after open_bursts beat
bursts_after limits open_bursts beat (Some broken) = forced (doubled limits) open_bursts beat

-- what is wrong with it
abbrev pub wrong_in_order : PortBoard → AxiBeat → Option Wrong
wrong_in_order port beat = wrong_axi (axi_fault port.limits port.open_bursts beat)

-- the port after it
abbrev pub after_in_order : PortBoard → AxiBeat → PortBoard
after_in_order port beat = record port { open_bursts = bursts_after port.limits port.open_bursts beat (axi_fault port.limits port.open_bursts beat) }

-- whether a verdict is that a W beat has no write to belong to
abbrev pub tells_no_write : Option Wrong → Bool
tells_no_write (Some (Axi WWithoutAw)) = true
tells_no_write verdict = false

-- ---- a W beat

-- whether it is early: it has no write to belong to, and there is room, for 256 early ones at most
abbrev pub is_early : PortBoard → WBeat → Bool
is_early port w = tells_no_write (wrong_in_order port (OnW w)) && nat_lt (length port.early) 256

-- an early one isn't wrong
abbrev pub w_wrong : PortBoard → WBeat → Option Wrong
w_wrong port w = if is_early port w then None else wrong_in_order port (OnW w)

-- it is held behind the other early ones
abbrev pub after_w : PortBoard → WBeat → PortBoard
after_w port w = if is_early port w then record port { early = port.early ++ w ∷ [] } else after_in_order port (OnW w)

-- ---- an AW beat

-- what an AW beat leaves: the outstanding bursts, the W beats that stay early, and what is wrong, if anything is
pub record Taken : Type 0 where
  pub open_bursts : OpenBursts
  pub early : List WBeat
  pub wrong : Option Wrong

-- what was wrong before goes before what is wrong then
abbrev pub wrong_first : Option Wrong → Taken → Taken
wrong_first wrong taken = record taken { wrong = option_or wrong taken.wrong }

-- early beats are taken in their order as W beats of the open writes: each counts, and one that breaks a rule is wrong; from the first that has no
-- write they stay early
abbrev pub taking : AxiPortLimits → OpenBursts → List WBeat → Taken
taking limits open_bursts [] = record { open_bursts = open_bursts; early = []; wrong = None }
taking limits open_bursts (w ∷ rest) =
    if tells_no_write (wrong_axi (axi_fault limits open_bursts (OnW w)))
    then record { open_bursts = open_bursts; early = w ∷ rest; wrong = None }
    else wrong_first (wrong_axi (axi_fault limits open_bursts (OnW w)))
    (taking limits (bursts_after limits open_bursts (OnW w) (axi_fault limits open_bursts (OnW w))) rest)

-- by the rule that the AW beat breaks itself, if it breaks one: that goes before those of the early beats, which are taken as far as there are writes
abbrev pub taken_by : PortBoard → AwBeat → Option AxiRule → Taken
taken_by port aw fault = wrong_first (wrong_axi fault) (taking port.limits (bursts_after port.limits port.open_bursts (OnAw aw) fault) port.early)

abbrev pub taken_at : PortBoard → AwBeat → Taken
taken_at port aw = taken_by port aw (axi_fault port.limits port.open_bursts (OnAw aw))

-- ---- any beat, where W beats may be early

-- what is wrong with it, if anything is: of an AW beat the first rule that it breaks, or that an early beat breaks which it takes
abbrev pub wrong_with_early : PortBoard → AxiBeat → Option Wrong
wrong_with_early port (OnAw aw) = (taken_at port aw).wrong
wrong_with_early port (OnW w) = w_wrong port w
wrong_with_early port (OnB b) = wrong_in_order port (OnB b)
wrong_with_early port (OnAr ar) = wrong_in_order port (OnAr ar)
wrong_with_early port (OnR r) = wrong_in_order port (OnR r)

-- the port after it
abbrev pub after_with_early : PortBoard → AxiBeat → PortBoard
after_with_early port (OnAw aw) = record port { open_bursts = (taken_at port aw).open_bursts; early = (taken_at port aw).early }
after_with_early port (OnW w) = after_w port w
after_with_early port (OnB b) = after_in_order port (OnB b)
after_with_early port (OnAr ar) = after_in_order port (OnAr ar)
after_with_early port (OnR r) = after_in_order port (OnR r)

-- ---- by policy

-- what is wrong with a beat, if anything is
abbrev pub port_wrong : Policy → PortBoard → AxiBeat → Option Wrong
port_wrong AcceptanceOrder port beat = wrong_in_order port beat
port_wrong RealTime port beat = wrong_with_early port beat

-- the port after it
abbrev pub port_after : Policy → PortBoard → AxiBeat → PortBoard
port_after AcceptanceOrder port beat = after_in_order port beat
port_after RealTime port beat = after_with_early port beat

-- nothing is outstanding any more, and nothing early
abbrev pub drained : PortBoard → PortBoard
drained port = none_early port.limits nothing_open
