-- A beat on channel A that was taken, to a whole memory: a request begins, goes on or is whole, and then all bytes go along with one happening more.
use Rattle.std.proofs.Common.{◌≡◌, ℕ, ◌+◌, true, false, List, [], ◌∷◌, ◌++◌, length, Option, Some, None, sym, ◌∙◌}
use Rattle.std.specs.Prelude.{Ok, slice_get}
use Rattle.tl_checker.specs.Ports.{joined}
use Rattle.tl_checker.specs.declared.Progress.TheVariants.{More, Whole}
use Rattle.tl_messages.specs.Requests.{HeldMessage, WholeRequest, request_of}
use Rattle.tl_messages.specs.declared.ABeat.{ABeat}
use Rattle.scoreboard.specs.Boards.{Beginning, ClientBoard, answer_to}
use Rattle.scoreboard.specs.RealTime.{completed, entry_of, is_open}
use Rattle.scoreboard.specs.Unknown.{unknown_given}
use Rattle.scoreboard.specs.declared.Errors.{Errors}
use Rattle.scoreboard.specs.declared.ObservedBeat.TheVariants.{A}
use Rattle.scoreboard.specs.declared.Policy.TheVariants.{RealTime}
use Rattle.scoreboard.specs.declared.Wrong.{Wrong}
use Rattle.value_memory.specs.ValueMemory.{ValueState, to_all}
use Rattle.value_orders.specs.Events.{begun_as, ends_as, ends_with, whole_as}
use Rattle.value_orders.specs.Histories.{Happening, Past, Seen, begun_by, board_in, entries_of, first_seen, hear, history_in}
use Rattle.value_orders.proofs.EventOnes.{IsTheOne, at, completed_one}
use Rattle.value_laws.specs.Kept.{AllAreOnWay, AllArePast}
use Rattle.value_laws.proofs.Nexts.{begins_next, begun_next, completes_next, goes_on_next}
use Rattle.value_laws.proofs.Ways.{way_last}

module _ (errors : Errors) (beginning : Beginning) (happenings : List Happening) (client : ℕ) (beat : ABeat) (lanes : ℕ) (said : Option Wrong) (found : ClientBoard)
    (there : slice_get (board_in errors beginning happenings).board.clients client ≡ Some found) where
  -- the request that a message makes with the beat
  abbrev pub asks : WholeRequest
  asks = request_of (joined found.limits found.front beat)

  abbrev next : ℕ
  next = begun_by (history_in errors beginning happenings) + 1

  -- it begins
  pub begins_done : found.front ≡ None → answer_to RealTime found beat ≡ Ok More → (memory : ValueState)
      → AllAreOnWay errors beginning happenings
      (λ x. begun_as beginning.lists errors x next (first_seen (unknown_given beat lanes) (entry_of errors client asks false)) false) memory
      → AllArePast errors beginning (happenings ++ Seen (A client beat) lanes said ∷ []) memory
  begins_done none more memory way =
      way_last errors beginning happenings (Seen (A client beat) lanes said)
      (λ x. begun_as beginning.lists errors x next (first_seen (unknown_given beat lanes) (entry_of errors client asks false)) false) memory way
      (λ x. sym (begins_next errors beginning happenings client beat lanes said x found there none more))

  -- and is whole with that
  pub begun_done : found.front ≡ None → answer_to RealTime found beat ≡ Ok Whole → (memory : ValueState)
      → AllAreOnWay errors beginning happenings
      (λ x. begun_as beginning.lists errors x next (first_seen (unknown_given beat lanes) (entry_of errors client asks true)) true) memory
      → AllArePast errors beginning (happenings ++ Seen (A client beat) lanes said ∷ []) memory
  begun_done none whole memory way =
      way_last errors beginning happenings (Seen (A client beat) lanes said)
      (λ x. begun_as beginning.lists errors x next (first_seen (unknown_given beat lanes) (entry_of errors client asks true)) true) memory way
      (λ x. sym (begun_next errors beginning happenings client beat lanes said x found there none whole))

  -- one that had begun goes on
  pub goes_on_done : (held : HeldMessage) → found.front ≡ Some held → answer_to RealTime found beat ≡ Ok More → (memory : ValueState)
      → AllArePast errors beginning happenings memory → AllArePast errors beginning (happenings ++ Seen (A client beat) lanes said ∷ []) memory
  goes_on_done held some more memory past =
      way_last errors beginning happenings (Seen (A client beat) lanes said) (to_all []) memory past
      (λ x. sym (goes_on_next errors beginning happenings client beat lanes said x found there held some more))

  -- or is whole, and may end with that
  module _ (one : IsTheOne (is_open client) (entries_of (history_in errors beginning happenings).since)) where
    abbrev pub number : ℕ
    number = length (history_in errors beginning happenings).over + 1 + one.place

    abbrev pub before : Past
    before = at (history_in errors beginning happenings).since one.place

    abbrev pub after : Past
    after = record (hear (unknown_given beat lanes) before) { entry = completed errors client asks before.entry }

    pub completes_done : (held : HeldMessage) → found.front ≡ Some held → answer_to RealTime found beat ≡ Ok Whole → (memory : ValueState)
        → AllAreOnWay errors beginning happenings
        (λ x. whole_as beginning.lists errors x number after ++ ends_as number (ends_with before.entry (completed errors client asks before.entry))) memory
        → AllArePast errors beginning (happenings ++ Seen (A client beat) lanes said ∷ []) memory
    completes_done held some whole memory way =
        way_last errors beginning happenings (Seen (A client beat) lanes said)
        (λ x. whole_as beginning.lists errors x number after ++ ends_as number (ends_with before.entry (completed errors client asks before.entry))) memory way
        (λ x. sym (completes_next errors beginning happenings client beat lanes said x found there held some whole
        ∙ completed_one beginning.lists errors x client (unknown_given beat lanes) asks (length (history_in errors beginning happenings).over + 1)
        (history_in errors beginning happenings).since one))
