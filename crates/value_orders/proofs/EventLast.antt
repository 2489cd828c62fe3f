-- Whether a request ends with a beat: by how many beats are left of its reply, and whether this came before it was whole.
use Rattle.std.proofs.Common.{◌≡◌, ℕ, ◌+◌, ◌<◌, ◌==◌, Bool, true, false, ◌&&◌, ◌||◌, not, drop, length, map, inl, inr, if◌then◌else◌, refl, sym, ◌∙◌, ap, arith}
use Rattle.std.specs.Prelude.{nat_le}
use Rattle.std.specs.List.{list_any}
use Rattle.std.proofs.lemmas.Bool.{cases_lt, le-leb, leb-false, lt-leb}
use Rattle.std.proofs.lemmas.List.{length-drop, length-map}
use Rattle.responses.specs.Shown.{Reply, shown}
use Rattle.tl_messages.specs.Requests.{WholeRequest}
use Rattle.scoreboard.specs.Boards.{is_spoiled}
use Rattle.scoreboard.specs.Orders.{Entry, Order, begun_to, counted, cut_short, ended_early, has_ended, is_due, is_due_in, is_over, reply_beats, with_beat}
use Rattle.scoreboard.specs.RealTime.{completed, is_open, numbered}
use Rattle.scoreboard.specs.declared.Errors.{Errors}
use Rattle.scoreboard.proofs.real_time.Becoming.{numbered_map}
use Rattle.scoreboard.proofs.real_time.Lengths.{length-shown, some_beats}
use Rattle.scoreboard.proofs.real_time.ReplySteps.{due_place}
use Rattle.value_orders.specs.Events.{ends_with}
use Rattle.value_orders.proofs.EventOnes.{IsTheOne}

-- ---- a reply of which one more beat came

module _ (begun : Bool) (client source : ℕ) (entry : Entry) where
  -- to one that is whole: it ends with its last
  pub counted_ends : is_due begun client source entry ≡ true → (entry.request.source == source) ≡ true → entry.whole ≡ true
      → ends_with entry (with_beat begun client source entry) ≡ nat_le (reply_beats entry.request) (entry.came + 1)
  counted_ends due own whole =
      let live : has_ended entry ≡ false = (due_place begun client source entry due).live in
      let goes : with_beat begun client source entry ≡ record entry { came = entry.came + 1 } = rw (due, own, whole) refl in
      ap (λ (e : Entry). ends_with entry e) goes ∙ ap (λ (b : Bool). not b && nat_le (reply_beats entry.request) (entry.came + 1)) live

  -- to one that isn't: it goes on
  pub begun_stays : is_due begun client source entry ≡ true → (entry.request.source == source) ≡ true → entry.whole ≡ false
      → ends_with entry (with_beat begun client source entry) ≡ false
  begun_stays due own unwhole =
      let live : has_ended entry ≡ false = (due_place begun client source entry due).live in
      let goes : with_beat begun client source entry ≡ record entry { early = false; replied = true } = rw (due, own, unwhole) refl in
      ap (λ (e : Entry). ends_with entry e) goes ∙ ap (λ (b : Bool). not b && b) live

  -- one of another source isn't counted
  pub other_stays : (entry.request.source == source) ≡ false → ends_with entry (with_beat begun client source entry) ≡ false
  other_stays other =
      let goes : with_beat begun client source entry ≡ entry = by_due (is_due begun client source entry) other in
      ap (λ (e : Entry). ends_with entry e) goes ∙ by_ended (has_ended entry)
    where
      by_due : (b : Bool) → (entry.request.source == source) ≡ false → (if b && entry.request.source == source then counted entry.whole entry else entry) ≡ entry
      by_due true is = rw is refl
      by_due false is = refl

      by_ended : (b : Bool) → (not b && b) ≡ false
      by_ended true = refl
      by_ended false = refl

-- the last is the one beat that is left
pub last_left : (entry : Entry) (reply : Reply) → has_ended entry ≡ false
    → nat_le (reply_beats entry.request) (entry.came + 1) ≡ nat_le (length (drop entry.came (shown entry.request reply))) 1
last_left entry reply live =
    let some = leb-false (reply_beats entry.request) entry.came live in
    let count = length-shown entry.request reply in
    let left = length-drop entry.came (shown entry.request reply) in
    elim (cases_lt (entry.came + 1) (reply_beats entry.request)) [
      | inl more ↦
          lt-leb (reply_beats entry.request) (entry.came + 1) more
          ∙ sym (lt-leb (length (drop entry.came (shown entry.request reply))) 1 (omega (arith, some, count, left, more)))
      | inr last ↦
          le-leb (reply_beats entry.request) (entry.came + 1) last
          ∙ sym (le-leb (length (drop entry.came (shown entry.request reply))) 1 (omega (arith, some, count, left, last)))
    ]

-- ---- a message that is whole: it ends with that, if its reply came before

pub completed_ends : (errors : Errors) (client : ℕ) (q : WholeRequest) (entry : Entry) → is_open client entry ≡ true → entry.came ≡ 0
    → ends_with entry (completed errors client q entry) ≡ entry.replied
completed_ends errors client q entry is none =
    let live : has_ended entry ≡ false = rw none (lt-leb (reply_beats entry.request) 0 (some_beats entry.request)) in
    let goes : completed errors client q entry ≡ done = rw is refl in
    ap (λ (e : Entry). ends_with entry e) goes ∙ ap (λ (b : Bool). not b && has_ended done) live ∙ by_replied entry.replied
  where
    done : Entry
    done = record entry {
      request = q;
      whole = true;
      spoiled = entry.spoiled || is_spoiled errors q;
      early = false;
      came = if entry.replied then reply_beats q else entry.came;
    }

    by_replied : (b : Bool) → nat_le (reply_beats q) (if b then reply_beats q else entry.came) ≡ b
    by_replied true = le-leb (reply_beats q) (reply_beats q) (omega arith)
    by_replied false = rw none (lt-leb (reply_beats q) 0 (some_beats q))

-- ---- one alone to which a beat is due, where a reply was cut short

pub cut_due : (now : Order) (client source : ℕ) → IsTheOne (is_due_in (cut_short now client source) client source) (cut_short now client source)
    → IsTheOne (λ entry. is_due (list_any (begun_to client) (cut_short now client source)) client source (ended_early (is_over now client source) client entry)) now
cut_due now client source one =
    record {
      place = one.place;
      small = within one.place one.small;
      passes = sym (at_test one.place (within one.place one.small)) ∙ one.passes;
      only = λ other small its. one.only other (outside other small) (at_test other small ∙ its);
    }
  where
    change : Entry → Entry
    change entry = ended_early (is_over now client source) client entry

    within : (k : ℕ) → k < length (map change now) → k < length now
    within k small = omega (arith, small, length-map now change)

    outside : (k : ℕ) → k < length now → k < length (map change now)
    outside k small = omega (arith, small, length-map now change)

    at_test : (k : ℕ) → k < length now → is_due_in (cut_short now client source) client source (numbered (cut_short now client source) k)
        ≡ is_due (list_any (begun_to client) (cut_short now client source)) client source (change (numbered now k))
    at_test k small = ap (is_due_in (cut_short now client source) client source) (numbered_map change now k small)
