-- A beat on the AXI4 port, to a whole memory: each request that its burst strikes has failed, if it was answered with an error; and what is no event of any byte.
use Rattle.std.proofs.Common.{◌≡◌, ℕ, ◌+◌, List, [], ◌∷◌, ◌++◌, length, Option, Some, None, refl, sym, ◌∙◌, ap}
use Rattle.axi_checker.specs.declared.AxiBeat.{AxiBeat}
use Rattle.scoreboard.specs.Boards.{Beginning}
use Rattle.scoreboard.specs.FailedBursts.{Span, failed_span}
use Rattle.scoreboard.specs.declared.Errors.{Errors}
use Rattle.scoreboard.specs.declared.ObservedBeat.TheVariants.{Axi as OnAxi, Drained}
use Rattle.scoreboard.specs.declared.Wrong.{Wrong}
use Rattle.value_memory.specs.ValueMemory.{ValueState, to_all}
use Rattle.value_orders.specs.Events.{failed_events}
use Rattle.value_orders.specs.Histories.{Happening, Seen, board_in, history_in}
use Rattle.value_laws.specs.Kept.{AllAreOnWay, AllArePast}
use Rattle.value_laws.proofs.Failing.{fails_all, struck_events, struck_from}
use Rattle.value_laws.proofs.Keeps.{events_next}
use Rattle.value_laws.proofs.Nexts.{failed_next}
use Rattle.value_laws.proofs.Ways.{way_last}

module _ (errors : Errors) (beginning : Beginning) (happenings : List Happening) (beat : AxiBeat) (lanes : ℕ) (said : Option Wrong) where
  by_span : (x : ℕ) (span : Option Span) → failed_span errors (board_in errors beginning happenings).board.axi beat ≡ span
      → events_next errors beginning happenings (Seen (OnAxi beat) lanes said) x
      ≡ failed_events (board_in errors beginning happenings).board.memory span (length (history_in errors beginning happenings).over + 1)
      (history_in errors beginning happenings).since
  by_span x span is =
      failed_next errors beginning happenings beat lanes said x
      ∙ ap (λ (s : Option Span). failed_events (board_in errors beginning happenings).board.memory s (length (history_in errors beginning happenings).over + 1)
      (history_in errors beginning happenings).since) is

  -- the numbers of those that it strikes
  abbrev pub struck : Span → List ℕ
  struck span =
      struck_from (board_in errors beginning happenings).board.memory span (length (history_in errors beginning happenings).over + 1)
      (history_in errors beginning happenings).since

  pub failed_done : (span : Span) → failed_span errors (board_in errors beginning happenings).board.axi beat ≡ Some span → (memory : ValueState)
      → AllAreOnWay errors beginning happenings (λ x. fails_all (struck span)) memory
      → AllArePast errors beginning (happenings ++ Seen (OnAxi beat) lanes said ∷ []) memory
  failed_done span is memory way =
      way_last errors beginning happenings (Seen (OnAxi beat) lanes said) (λ x. fails_all (struck span)) memory way
      (λ x. sym (by_span x (Some span) is
      ∙ struck_events (board_in errors beginning happenings).board.memory span (length (history_in errors beginning happenings).over + 1)
      (history_in errors beginning happenings).since))

  -- none has, where it wasn't
  pub answered_done : failed_span errors (board_in errors beginning happenings).board.axi beat ≡ None → (memory : ValueState)
      → AllArePast errors beginning happenings memory → AllArePast errors beginning (happenings ++ Seen (OnAxi beat) lanes said ∷ []) memory
  answered_done is memory past =
      way_last errors beginning happenings (Seen (OnAxi beat) lanes said) (to_all []) memory past (λ x. sym (by_span x None is))

-- the end of a run
pub drained_done : (errors : Errors) (beginning : Beginning) (happenings : List Happening) (lanes : ℕ) (said : Option Wrong) (memory : ValueState)
    → AllArePast errors beginning happenings memory → AllArePast errors beginning (happenings ++ Seen Drained lanes said ∷ []) memory
drained_done errors beginning happenings lanes said memory past =
    way_last errors beginning happenings (Seen Drained lanes said) (to_all []) memory past (λ x. refl)
