-- Which events to a byte one happening more is: with a beat on channel A, by what a client's port has begun; with one on channel D; with one on the AXI4 port.
use Rattle.std.proofs.Common.{◌≡◌, ℕ, ◌+◌, Bool, true, false, List, [], length, Option, Some, None, ◌∙◌, ap, ◌++◌, append_assoc, sym}
use Rattle.std.specs.Prelude.{Result, Ok, slice_get}
use Rattle.std.specs.List.{list_any}
use Rattle.byte_orders.specs.Runs.{Event}
use Rattle.axi_checker.specs.declared.AxiBeat.{AxiBeat}
use Rattle.tl_checker.specs.Ports.{joined}
use Rattle.tl_checker.specs.declared.Progress.{Progress}
use Rattle.tl_checker.specs.declared.Progress.TheVariants.{More, Whole}
use Rattle.tl_checker.specs.declared.TlRule.{TlRule}
use Rattle.tl_messages.specs.Requests.{HeldMessage, request_of}
use Rattle.tl_messages.specs.declared.ABeat.{ABeat}
use Rattle.tl_messages.specs.declared.DBeat.{DBeat}
use Rattle.scoreboard.specs.Boards.{Beginning, Board, ClientBoard, answer_to}
use Rattle.scoreboard.specs.FailedBursts.{failed_span}
use Rattle.scoreboard.specs.Orders.{begun_to, cut_short, is_over}
use Rattle.scoreboard.specs.RealTime.{entry_of}
use Rattle.scoreboard.specs.Unknown.{unknown_given}
use Rattle.scoreboard.specs.declared.Errors.{Errors}
use Rattle.scoreboard.specs.declared.ObservedBeat.TheVariants.{A, D, Axi as OnAxi}
use Rattle.scoreboard.specs.declared.Policy.TheVariants.{RealTime}
use Rattle.scoreboard.specs.declared.Wrong.{Wrong}
use Rattle.value_orders.specs.Events.{answer_events, begun_as, completed_as, each_from, cut_as, counted_as, failed_events, progress_events, reply_events, request_events, shown_events}
use Rattle.value_orders.specs.Histories.{Happening, History, Past, Seen, begun_by, board_in, entries_of, first_seen, history_in}
use Rattle.value_orders.proofs.WellHistories.{kept_in}
use Rattle.value_laws.proofs.Keeps.{events_next}

module _ (errors : Errors) (beginning : Beginning) (happenings : List Happening) where
  abbrev history : History
  history = history_in errors beginning happenings

  abbrev board : Board
  board = (board_in errors beginning happenings).board

  abbrev pub first : ℕ
  first = length (history_in errors beginning happenings).over + 1

  errors_are : board.errors ≡ errors
  errors_are = (kept_in errors beginning happenings).errors_are

  -- ---- a beat on channel D, and one on the AXI4 port

  pub reply_next : (client : ℕ) (beat : DBeat) (lanes : ℕ) (said : Option Wrong) (x : ℕ)
      → events_next errors beginning happenings (Seen (D client beat) lanes said) x
      ≡ reply_events beginning.lists errors x client beat lanes said first (history_in errors beginning happenings).since
  reply_next client beat lanes said x = ap (λ (e : Errors). reply_events beginning.lists e x client beat lanes said first history.since) errors_are

  -- by what is shown of it, what is cut short, and what ends with it
  pub reply_parts : (client : ℕ) (beat : DBeat) (lanes : ℕ) (said : Option Wrong) (x : ℕ) (shown cut last : List Event)
      → shown_events beginning.lists errors x client beat lanes said first (history_in errors beginning happenings).since ≡ shown
      → each_from (cut_as (is_over (entries_of (history_in errors beginning happenings).since) client beat.source) client) first
      (history_in errors beginning happenings).since ≡ cut
      → each_from (counted_as (is_over (entries_of (history_in errors beginning happenings).since) client beat.source)
      (list_any (begun_to client) (cut_short (entries_of (history_in errors beginning happenings).since) client beat.source)) client beat.source) first
      (history_in errors beginning happenings).since ≡ last
      → events_next errors beginning happenings (Seen (D client beat) lanes said) x ≡ (shown ++ cut) ++ last
  reply_parts client beat lanes said x shown cut last shows cuts ends =
      reply_next client beat lanes said x ∙ both shows (both cuts ends) ∙ sym (append_assoc shown cut last)
    where
      both : {some same others alike : List Event} → some ≡ same → others ≡ alike → some ++ others ≡ same ++ alike
      both one other = cc (one, other)

  pub failed_next : (beat : AxiBeat) (lanes : ℕ) (said : Option Wrong) (x : ℕ)
      → events_next errors beginning happenings (Seen (OnAxi beat) lanes said) x
      ≡ failed_events (board_in errors beginning happenings).board.memory (failed_span errors (board_in errors beginning happenings).board.axi beat) first
      (history_in errors beginning happenings).since
  failed_next beat lanes said x = ap (λ (e : Errors). failed_events board.memory (failed_span e board.axi beat) first history.since) errors_are

  -- ---- one on channel A

  module _ (client : ℕ) (beat : ABeat) (lanes : ℕ) (said : Option Wrong) (x : ℕ) where
    abbrev events : List Event
    events = events_next errors beginning happenings (Seen (A client beat) lanes said) x

    abbrev next : ℕ
    next = begun_by (history_in errors beginning happenings) + 1

    pub request_next : events_next errors beginning happenings (Seen (A client beat) lanes said) x
        ≡ request_events beginning.lists errors x client (slice_get (board_in errors beginning happenings).board.clients client) beat lanes next first
        (history_in errors beginning happenings).since
    request_next = ap (λ (e : Errors). request_events beginning.lists e x client (slice_get board.clients client) beat lanes next first history.since) errors_are

    -- of a client whose port takes it
    module _ (found : ClientBoard) (there : slice_get (board_in errors beginning happenings).board.clients client ≡ Some found) where
      abbrev pub message : HeldMessage
      message = joined found.limits found.front beat

      -- the request that begins with it
      abbrev pub begins : Bool → Past
      begins whole = first_seen (unknown_given beat lanes) (entry_of errors client (request_of message) whole)

      answered : (progress : Progress) → answer_to RealTime found beat ≡ Ok progress
          → events_next errors beginning happenings (Seen (A client beat) lanes said) x
          ≡ progress_events beginning.lists errors x client (unknown_given beat lanes) found.front (request_of message) progress next first history.since
      answered progress is =
          request_next
          ∙ ap (λ (c : Option ClientBoard). request_events beginning.lists errors x client c beat lanes next first history.since) there
          ∙ ap (λ (answer : Result Progress TlRule). answer_events beginning.lists errors x client (unknown_given beat lanes) found.front message answer next first history.since)
          is

      by_front : (progress : Progress) (front : Option HeldMessage) → answer_to RealTime found beat ≡ Ok progress → found.front ≡ front
          → events_next errors beginning happenings (Seen (A client beat) lanes said) x
          ≡ progress_events beginning.lists errors x client (unknown_given beat lanes) front (request_of message) progress next first history.since
      by_front progress front is same =
          answered progress is
          ∙ ap (λ (f : Option HeldMessage). progress_events beginning.lists errors x client (unknown_given beat lanes) f (request_of message) progress next first history.since)
          same

      pub begins_next : found.front ≡ None → answer_to RealTime found beat ≡ Ok More
          → events_next errors beginning happenings (Seen (A client beat) lanes said) x ≡ begun_as beginning.lists errors x next (begins false) false
      begins_next none more = by_front More None more none

      pub begun_next : found.front ≡ None → answer_to RealTime found beat ≡ Ok Whole
          → events_next errors beginning happenings (Seen (A client beat) lanes said) x ≡ begun_as beginning.lists errors x next (begins true) true
      begun_next none whole = by_front Whole None whole none

      -- one that had begun goes on, or is whole
      pub goes_on_next : (held : HeldMessage) → found.front ≡ Some held → answer_to RealTime found beat ≡ Ok More
          → events_next errors beginning happenings (Seen (A client beat) lanes said) x ≡ []
      goes_on_next held some more = by_front More (Some held) more some

      pub completes_next : (held : HeldMessage) → found.front ≡ Some held → answer_to RealTime found beat ≡ Ok Whole
          → events_next errors beginning happenings (Seen (A client beat) lanes said) x
          ≡ each_from (completed_as beginning.lists errors x client (unknown_given beat lanes) (request_of message)) first (history_in errors beginning happenings).since
      completes_next held some whole = by_front Whole (Some held) whole some
