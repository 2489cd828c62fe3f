-- A beat of a reply, to a whole memory: what is shown, the reply that is over with it, and the end of its request are told one after another, and then all bytes go
-- along with one happening more.
use Rattle.std.proofs.Common.{◌≡◌, ℕ, ◌+◌, ◌%◌, Bool, true, false, List, [], ◌∷◌, ◌++◌, length, Some, None, refl, sym, ◌∙◌, ap}
use Rattle.std.specs.List.{list_any}
use Rattle.bus_words.specs.Lanes.{lane_byte}
use Rattle.byte_orders.specs.Runs.{Event, Resets}
use Rattle.tl_messages.specs.declared.DBeat.{DBeat}
use Rattle.scoreboard.specs.Boards.{Beginning}
use Rattle.scoreboard.specs.Orders.{begun_to, cut_short, ended_early, is_due, is_due_in, is_over}
use Rattle.scoreboard.specs.declared.Errors.{Errors}
use Rattle.scoreboard.specs.declared.ObservedBeat.TheVariants.{D}
use Rattle.scoreboard.specs.declared.Wrong.{Wrong}
use Rattle.value_memory.specs.ValueMemory.{AllGo, ValueState, byte_in, to_all}
use Rattle.value_orders.specs.Events.{counted_as, cut_as, each_from, ends_as, made_as, told_as}
use Rattle.value_orders.specs.Histories.{Happening, Past, Reset, Seen, entries_of, history_in, tells}
use Rattle.value_orders.proofs.EventOnes.{IsTheOne, at, counted_one, cut_none, cut_one, shown_one}
use Rattle.value_laws.specs.Kept.{AllAreOnWay, AllArePast, NoneIsOlder}
use Rattle.value_laws.proofs.Nexts.{reply_parts}
use Rattle.value_laws.proofs.Opening.{reset_past}
use Rattle.value_laws.proofs.Ways.{way_last}

module _ (errors : Errors) (beginning : Beginning) (happenings : List Happening) where
  abbrev since : List Past
  since = (history_in errors beginning happenings).since

  abbrev first : ℕ
  first = length (history_in errors beginning happenings).over + 1

  -- the reply that is over, if one is, is that to a request
  pub record CutsOne (client source : ℕ) (over : Bool) (number : ℕ) : Type 0 where
    pub over_is : is_over (entries_of (history_in errors beginning happenings).since) client source ≡ over
    pub one : over ≡ true → IsTheOne (begun_to client) (entries_of (history_in errors beginning happenings).since)
    pub number_is : (cuts : over ≡ true) → number ≡ length (history_in errors beginning happenings).over + 1 + (one cuts).place

  cut_is : (client source : ℕ) (over : Bool) (number : ℕ) → CutsOne client source over number
      → each_from (cut_as (is_over (entries_of since) client source) client) first since ≡ ends_as number over
  cut_is client source true number cuts =
      ap (λ (b : Bool). each_from (cut_as b client) first since) cuts.over_is ∙ cut_one client first since (cuts.one refl)
      ∙ ap (λ n. ends_as n true) (sym (cuts.number_is refl))
  cut_is client source false number cuts =
      ap (λ (b : Bool). each_from (cut_as b client) first since) cuts.over_is ∙ cut_none client first since

  module _ (client : ℕ) (beat : DBeat) (lanes : ℕ) where
    -- whether a reply has begun then
    abbrev pub begun : Bool
    begun = list_any (begun_to client) (cut_short (entries_of (history_in errors beginning happenings).since) client beat.source)

    -- the beat is counted for one request alone
    abbrev pub IsCountedFor : Bool → Type 0
    IsCountedFor over =
        IsTheOne (λ entry. is_due begun client beat.source (ended_early over client entry)) (entries_of (history_in errors beginning happenings).since)

    counted_is : (over : Bool) → is_over (entries_of since) client beat.source ≡ over → (one : IsCountedFor over)
        → each_from (counted_as (is_over (entries_of since) client beat.source) begun client beat.source) first since
        ≡ counted_as over begun client beat.source (first + one.place) (at since one.place)
    counted_is over is one =
        ap (λ (b : Bool). each_from (counted_as b begun client beat.source) first since) is ∙ counted_one over begun client beat.source first since one

    -- what a beat shows of the request that it is due to, and wasn't found wrong
    abbrev pub shown_of : ℕ → ℕ → List Event
    shown_of place x =
        told_as (length (history_in errors beginning happenings).over + 1 + place)
        (tells beginning.lists errors (at (history_in errors beginning happenings).since place).entry beat lanes x) (lane_byte beat.payload (x % 8))
        ++ made_as beginning.lists errors x beat lanes (length (history_in errors beginning happenings).over + 1 + place)
        (at (history_in errors beginning happenings).since place)

    pub reply_done : (due : IsTheOne (is_due_in (entries_of (history_in errors beginning happenings).since) client beat.source) (entries_of (history_in errors beginning happenings).since))
        (over : Bool) (number : ℕ) → CutsOne client beat.source over number → (one : IsCountedFor over) → (memory : ValueState)
        → AllAreOnWay errors beginning happenings
        (λ x. (shown_of due.place x ++ ends_as number over)
        ++ counted_as over begun client beat.source (length (history_in errors beginning happenings).over + 1 + one.place) (at (history_in errors beginning happenings).since one.place))
        memory
        → AllArePast errors beginning (happenings ++ Seen (D client beat) lanes None ∷ []) memory
    reply_done due over number cuts one memory way =
        way_last errors beginning happenings (Seen (D client beat) lanes None)
        (λ x. (shown_of due.place x ++ ends_as number over) ++ counted_as over begun client beat.source (first + one.place) (at since one.place)) memory way
        (λ x. sym (reply_parts errors beginning happenings client beat lanes None x (shown_of due.place x) (ends_as number over)
        (counted_as over begun client beat.source (first + one.place) (at since one.place)) (shown_one beginning.lists errors x client beat lanes first since due)
        (cut_is client beat.source over number cuts) (counted_is over cuts.over_is one)))

    -- one that was found wrong shows nothing
    pub wrong_done : (wrong : Wrong) (over : Bool) (number : ℕ) → CutsOne client beat.source over number → (one : IsCountedFor over) → (memory : ValueState)
        → AllAreOnWay errors beginning happenings
        (λ x. ends_as number over
        ++ counted_as over begun client beat.source (length (history_in errors beginning happenings).over + 1 + one.place) (at (history_in errors beginning happenings).since one.place))
        memory
        → AllArePast errors beginning (happenings ++ Seen (D client beat) lanes (Some wrong) ∷ []) memory
    wrong_done wrong over number cuts one memory way =
        way_last errors beginning happenings (Seen (D client beat) lanes (Some wrong))
        (λ x. ends_as number over ++ counted_as over begun client beat.source (first + one.place) (at since one.place)) memory way
        (λ x. sym (reply_parts errors beginning happenings client beat lanes (Some wrong) x [] (ends_as number over)
        (counted_as over begun client beat.source (first + one.place) (at since one.place)) refl (cut_is client beat.source over number cuts)
        (counted_is over cuts.over_is one)))

  -- ---- a reset

  pub reset_done : (oldest : ℕ) (old new : ValueState) → AllArePast errors beginning happenings old → AllGo oldest false old new (to_all (Resets ∷ []))
      → NoneIsOlder errors beginning happenings (λ x. []) oldest → AllArePast errors beginning (happenings ++ Reset ∷ []) new
  reset_done oldest old new past goes none x = reset_past errors beginning happenings x oldest (byte_in old x) (byte_in new x) (past x) (goes x) (none x)
