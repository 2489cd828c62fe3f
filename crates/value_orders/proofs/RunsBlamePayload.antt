-- The law of what is blamed: a beat that tells a blamed byte is wrong in every order of the requests of a run in which each atomic finds what it was told, and by
-- the rule on payloads, where the board of requests leaves that open.
use Rattle.std.proofs.Common.{◌≡◌, ℕ, ◌+◌, ◌-◌, Bool, true, false, List, [], ◌∷◌, map, drop, length, Option, Some, None, ◌⊎◌, inl, inr, ⊎_elim, refl, sym, ◌∙◌, ap, subst, arith}
use Rattle.std.specs.Prelude.{slice_get}
use Rattle.std.proofs.lemmas.Bool.Decides.{nat_tests}
use Rattle.bus_words.specs.Lanes.{has_lane}
use Rattle.bus_words.specs.Tables.{first_broken}
use Rattle.meaning.specs.Meaning.{Bytes, acknowledged}
use Rattle.responses.specs.Shown.{Reply, beat_without_data, shown}
use Rattle.setups.specs.Setups.{SetupLists, faults_of}
use Rattle.tl_messages.specs.Operations.{beats_of, reply_has_data, reply_opcode}
use Rattle.tl_messages.specs.Requests.{WholeRequest}
use Rattle.tl_messages.specs.declared.DBeat.{DBeat}
use Rattle.tl_messages.specs.declared.Operation.{Operation}
use Rattle.tl_messages.specs.declared.Operation.TheVariants.{Atomic, Get, Intent, PutFull, PutPartial}
use Rattle.scoreboard.specs.Boards.{Beginning, Board, ClientBoard, d_wrong, due_beat, next_to, reply_rules, tells_otherwise, told_to, unless_indeterminate, wrong_at, wrong_beat, wrong_by, wrong_reply, wrong_told}
use Rattle.scoreboard.specs.Flights.{Footprint, InFlight}
use Rattle.scoreboard.specs.Orders.{Asked, Entry, IsWrongAs, due_beats, has_failed, is_due_in, known_request, meaning_on, shown_to}
use Rattle.scoreboard.specs.RealTime.{asked_on, numbered}
use Rattle.scoreboard.specs.Telling.{telling_of}
use Rattle.scoreboard.specs.Unknown.{as_far_as_known, or_unknown, some_unknown, unknown_wrong}
use Rattle.scoreboard.specs.declared.Errors.{Errors}
use Rattle.scoreboard.specs.declared.ObservedBeat.TheVariants.{D}
use Rattle.scoreboard.specs.declared.Policy.TheVariants.{RealTime}
use Rattle.scoreboard.specs.declared.ReplyRule.{ReplyRule}
use Rattle.scoreboard.specs.declared.ReplyRule.TheVariants as rule
use Rattle.scoreboard.specs.declared.Wrong.{Wrong}
use Rattle.scoreboard.specs.declared.Wrong.TheVariants as wrong
use Rattle.scoreboard.proofs.real_time.Fronts.{front_at, front_of}
use Rattle.scoreboard.proofs.real_time.Verdicts.{sure_shown}
use Rattle.value_orders.specs.Blames.{BlamesRightly, IsAsKnown, MayHaveBeen, TellsBlamed, leaves_payload, standing_in}
use Rattle.value_orders.specs.Histories.{Happening, History, Past, board_in, entries_of}
use Rattle.value_orders.specs.RunOrders.{MayBe, bytes_before, past_of}
use Rattle.value_orders.proofs.Effects.{IsWellPast}
use Rattle.value_orders.proofs.Matches.{IsBegun}
use Rattle.value_orders.proofs.MatchesDue.{HasBegunThere, InFlightAt, IsHad, IsOnlyDue, due_one}
use Rattle.value_orders.proofs.MatchesHistories.{matches_in}
use Rattle.value_orders.proofs.RunsBlame.{IsTelling, history, is_telling, kept, means_same, not_spoiled, same_failed, well, wrong_in}
use Rattle.value_orders.proofs.RunsBlameLive.{live_in}
use Rattle.value_orders.proofs.RunsBlameOrders.{due_found, entry_at, small_at, stands_since}
use Rattle.value_orders.proofs.RunsBlameRule.{AtMostPayload, map_drop, still_payload, tell_alike, without_payload}
use Rattle.value_orders.proofs.RunsBlameSilent.{held_silent}

-- ---- a verdict that leaves the payload open

-- it is that of the beat as far as it is known, or says that nobody knows a lane
open_verdict : (verdict : Option Wrong) (looked : Bool) (unknown : Wrong) → leaves_payload (or_unknown verdict looked unknown) ≡ true
    → (verdict ≡ None) ⊎ (leaves_payload verdict ≡ true)
open_verdict None looked unknown leaves = inl refl
open_verdict (Some found) true unknown leaves = inr leaves
open_verdict (Some found) false unknown leaves = inr leaves

-- no rule on a beat that is due speaks of lanes that nobody knows
never_unknown : (due beat : DBeat) → first_broken (reply_rules due beat) ≡ Some rule.Unknown → ⊥
never_unknown due beat is = grind (arith, is)

-- nothing is broken, or the rule on payloads at most
open_due : (due beat : DBeat) (otherwise : Bool) → (wrong_by due (unless_indeterminate otherwise (first_broken (reply_rules due beat))) ≡ None)
    ⊎ (leaves_payload (wrong_by due (unless_indeterminate otherwise (first_broken (reply_rules due beat)))) ≡ true)
    → AtMostPayload (first_broken (reply_rules due beat))
open_due due beat otherwise is = by_found (first_broken (reply_rules due beat)) refl is
  where
    by_found : (found : Option ReplyRule) → first_broken (reply_rules due beat) ≡ found → (wrong_by due (unless_indeterminate otherwise found) ≡ None)
        ⊎ (leaves_payload (wrong_by due (unless_indeterminate otherwise found)) ≡ true) → AtMostPayload found
    by_found None found open_one = inl refl
    by_found (Some rule.Payload) found open_one = inr refl
    by_found (Some rule.Unknown) found open_one = absurd (never_unknown due beat found)
    by_found (Some rule.Unasked) found open_one = absurd (⊎_elim (λ none. cc (none)) (λ leaves. cc (leaves)) open_one)
    by_found (Some rule.Interleaved) found open_one = absurd (⊎_elim (λ none. cc (none)) (λ leaves. cc (leaves)) open_one)
    by_found (Some rule.Opcode) found open_one = absurd (⊎_elim (λ none. cc (none)) (λ leaves. cc (leaves)) open_one)
    by_found (Some rule.Size) found open_one = absurd (⊎_elim (λ none. cc (none)) (λ leaves. cc (leaves)) open_one)
    by_found (Some rule.Denied) found open_one = absurd (⊎_elim (λ none. cc (none)) (λ leaves. cc (leaves)) open_one)
    by_found (Some rule.Corrupt) found open_one = absurd (⊎_elim (λ none. cc (none)) (λ leaves. cc (leaves)) open_one)

-- ---- the request to which it is due

-- a beat without data has another opcode
pub no_data : (op : Operation) → reply_has_data op ≡ false → reply_opcode op ≡ 1 → ⊥
no_data PutFull is one = absurd (omega (arith, one))
no_data PutPartial is one = absurd (omega (arith, one))
no_data (Atomic op) is one = absurd (cc (is))
no_data Get is one = absurd (cc (is))
no_data (Intent write) is one = absurd (omega (arith, one))

-- where nothing is broken but the rule on payloads the opcode is right
pub same_opcode : (due beat : DBeat) → AtMostPayload (first_broken (reply_rules due beat)) → due.opcode ≡ beat.opcode
same_opcode due beat at_most = ⊎_elim (λ none. grind (arith, nat_tests, none)) (λ some. grind (arith, nat_tests, some)) at_most

module _ (errors : Errors) (beginning : Beginning) (happenings : List Happening) (client : ℕ) (beat : DBeat) (lanes : ℕ)
    (blamed : TellsBlamed errors beginning happenings client beat lanes) where
  abbrev whole_history : History
  whole_history = history errors beginning happenings

  abbrev board : Board
  board = (board_in errors beginning happenings).board

  abbrev number : ℕ
  number = blamed.number

  abbrev past : Past
  past = past_of whole_history number

  abbrev setup : SetupLists
  setup = beginning.lists

  telling : IsTelling setup errors past.entry beat lanes blamed.x
  telling = is_telling setup errors past.entry beat lanes blamed.x blamed.tells_it

  -- the beat as far as it is known
  abbrev as_known : DBeat
  as_known = as_far_as_known RealTime board client beat lanes

  -- what the board has due of it: a beat of its reply, made of some bytes
  record HasDue : Type 0 where
    due : DBeat
    rest : List DBeat
    made_of : Bytes
    whole : past.entry.whole ≡ true
    left : drop past.entry.came (shown past.entry.request (meaning_on setup past.entry.request made_of).reply) ≡ due ∷ rest
    at_most : AtMostPayload (first_broken (reply_rules due as_known))

  module _ (found : ClientBoard) (there : slice_get board.clients client ≡ Some found) (flight : InFlight) (next : next_to RealTime found beat.source ≡ Some flight) where
    one : IsOnlyDue setup errors board.clients (entries_of whole_history.since) client beat.source flight
    one = due_one setup errors board.clients (entries_of whole_history.since) (matches_in errors beginning happenings).fits client beat.source found there flight next

    own : numbered (entries_of whole_history.since) one.number ≡ past.entry
    own =
        sym (ap (numbered (entries_of whole_history.since))
        (one.only (number - (length whole_history.over + 1)) (small_at whole_history number blamed.is_due.since blamed.is_due.begun)
        (ap (λ (entry : Entry). is_due_in (entries_of whole_history.since) client beat.source entry) (entry_at whole_history number blamed.is_due.since) ∙ blamed.is_due.due)))
        ∙ entry_at whole_history number blamed.is_due.since

    had : IsHad setup errors board.clients past.entry flight
    had = subst (λ (entry : Entry). IsHad setup errors board.clients entry flight) own one.had

    own_client : past.entry.client ≡ client
    own_client = grind (arith, nat_tests, blamed.is_due.due)

    by_flight : flight.footprint.failed ≡ false → (beats : List DBeat) → flight.beats ≡ beats
        → (wrong_told flight.footprint (told_to found) beats as_known ≡ None) ⊎ (leaves_payload (wrong_told flight.footprint (told_to found) beats as_known) ≡ true)
        → (due : DBeat) × (rest : List DBeat) × (beats ≡ due ∷ rest) × AtMostPayload (first_broken (reply_rules due as_known))
    by_flight sound [] is open_one = absurd (⊎_elim (λ none. cc (none)) (λ leaves. cc (leaves)) open_one)
    by_flight sound (due ∷ rest) is open_one = (
      due,
      rest,
      refl,
      open_due due as_known (tells_otherwise flight.footprint (beats_of flight.footprint.size true - length (due ∷ rest)) due as_known)
          (subst (λ (b : Bool). (wrong_by (due_beat b (told_to found) due as_known)
          (unless_indeterminate (tells_otherwise flight.footprint (beats_of flight.footprint.size true - length (due ∷ rest)) due as_known)
          (first_broken (reply_rules (due_beat b (told_to found) due as_known) as_known))) ≡ None)
          ⊎ (leaves_payload (wrong_by (due_beat b (told_to found) due as_known)
          (unless_indeterminate (tells_otherwise flight.footprint (beats_of flight.footprint.size true - length (due ∷ rest)) due as_known)
          (first_broken (reply_rules (due_beat b (told_to found) due as_known) as_known)))) ≡ true)) sound open_one),
    )

    has_due : (wrong_told flight.footprint (told_to found) flight.beats as_known ≡ None) ⊎ (leaves_payload (wrong_told flight.footprint (told_to found) flight.beats as_known) ≡ true)
        → HasDue
    has_due open_one = by_had had
      where
        by_had : IsHad setup errors board.clients past.entry flight → HasDue
        by_had (InFlightAt whole is same) =
            let failed : flight.footprint.failed ≡ false =
            ap (λ (f : InFlight). f.footprint.failed) (sym same) ∙ ap (λ (f : Footprint). f.failed) is.acts ∙ telling.unfailed in
            let parts = by_flight failed flight.beats refl open_one in
            record {
              due = parts.0;
              rest = parts.1;
              made_of = is.made_of;
              whole = whole;
              left = sym is.left ∙ ap (λ (f : InFlight). f.beats) same ∙ parts.2;
              at_most = parts.3;
            }
        by_had (HasBegunThere unwhole is early beats_are footprint_is) =
            let failed : flight.footprint.failed ≡ false =
            ap (λ (f : Footprint). f.failed) footprint_is ∙ ap (λ (f : Footprint). f.failed) is.acts ∙ telling.unfailed in
            let parts = by_flight failed flight.beats refl open_one in
            let first : beat_without_data past.entry.request acknowledged ∷ [] ≡ parts.0 ∷ parts.1 = sym beats_are ∙ parts.2 in
            let due_is : beat_without_data past.entry.request acknowledged ≡ parts.0 = cc (first) in
            absurd (no_data past.entry.request.operation (silent is) (ap (λ (d : DBeat). d.opcode) due_is ∙ same_opcode parts.0 as_known parts.3 ∙ telling.opcode))
          where
            silent : IsBegun setup errors board.clients past.entry → reply_has_data past.entry.request.operation ≡ false
            silent begun =
                ap (λ (q : WholeRequest). reply_has_data q.operation) (sym begun.fields)
                ∙ held_silent found begun.held ((kept errors beginning happenings).followed.fronts client found there)
                (sym (ap front_of there) ∙ ap (front_at board.clients) (sym own_client) ∙ begun.front)

  -- where the verdict leaves the payload open
  is_due_there : leaves_payload (unknown_wrong RealTime board (D client beat) lanes) ≡ true → HasDue
  is_due_there leaves =
      by_client (slice_get board.clients client) refl
      (open_verdict (wrong_at RealTime board (D client as_known))
      (some_unknown lanes (has_lane (telling_of RealTime board (D client beat)).lanes)) (wrong.Reply rule.Unknown (Some as_known)) leaves)
    where
      by_next : (found : ClientBoard) → slice_get board.clients client ≡ Some found → (o : Option InFlight) → next_to RealTime found beat.source ≡ o
          → (wrong_reply RealTime (told_to found) o as_known ≡ None) ⊎ (leaves_payload (wrong_reply RealTime (told_to found) o as_known) ≡ true) → HasDue
      by_next found there None none open_one = absurd (⊎_elim (λ nothing. cc (nothing)) (λ left. cc (left)) open_one)
      by_next found there (Some flight) some open_one = has_due found there flight some open_one

      by_client : (o : Option ClientBoard) → slice_get board.clients client ≡ o
          → (d_wrong RealTime o as_known ≡ None) ⊎ (leaves_payload (d_wrong RealTime o as_known) ≡ true) → HasDue
      by_client None none open_one = absurd (⊎_elim (λ nothing. cc (nothing)) (λ left. cc (left)) open_one)
      by_client (Some found) there open_one = by_next found there (next_to RealTime found beat.source) refl open_one

  -- ---- in an order

  module _ (requests : ℕ → WholeRequest) (numbers : List ℕ) (start : Bytes) (seen : DBeat) (been : MayHaveBeen errors beginning happenings requests numbers start)
      (known : IsAsKnown lanes beat seen) where
    abbrev asked : Asked
    asked = asked_on board client seen

    abbrev q : WholeRequest
    q = requests number

    well_past : IsWellPast errors past
    well_past = well errors beginning happenings number (omega (arith, blamed.is_due.since)) blamed.is_due.begun

    may : MayBe past q
    may = been.requests_may number (omega (arith, blamed.is_due.since)) blamed.is_due.begun

    abbrev before : Bytes
    before = bytes_before setup requests start numbers number

    abbrev theirs : List DBeat
    theirs = drop past.entry.came (shown q (meaning_on setup (known_request past.entry.whole q) before).reply)

    -- what is due in the order
    dues : due_beats setup start (standing_in whole_history requests numbers) asked ≡ shown_to setup asked (record past.entry { request = q }) before
    dues =
        due_found setup errors whole_history requests (well errors beginning happenings) been.requests_may (live_in errors beginning happenings) numbers been.order
        board.clients (matches_in errors beginning happenings).fits client beat number blamed.is_due asked start refl (ap (λ (b : DBeat). b.source) known.rest)
        ∙ ap (λ (entry : Entry). shown_to setup asked entry before)
        (stands_since setup errors whole_history requests (well errors beginning happenings) been.requests_may number blamed.is_due.since)

    judged_same : wrong_beat (due_beats setup start (standing_in whole_history requests numbers) asked) seen ≡ wrong_beat theirs seen
    judged_same =
        ap (λ beats. wrong_beat beats seen) dues
        ∙ sure_shown (has_failed asked.errors setup (record past.entry { request = q })) asked.told theirs seen
        (ap (λ e. has_failed e setup (record past.entry { request = q })) (kept errors beginning happenings).errors_are
        ∙ same_failed setup errors past q well_past may telling.unfailed)

    alike : (made_of : Bytes) → past.entry.whole ≡ true
        → map without_payload (drop past.entry.came (shown past.entry.request (meaning_on setup past.entry.request made_of).reply)) ≡ map without_payload theirs
    alike made_of whole =
        map_drop without_payload (shown past.entry.request (meaning_on setup past.entry.request made_of).reply) past.entry.came
        ∙ ap (drop past.entry.came)
        (tell_alike (faults_of setup) setup.regions past.entry.request made_of before
        ∙ ap (λ (reply : Reply). map without_payload (shown past.entry.request reply)) (sym (means_same (faults_of setup) setup.regions past.entry.request q.bytes before))
        ∙ ap (λ (r : WholeRequest). map without_payload (shown r (meaning_on setup r before).reply)) (sym q_is)
        ∙ ap (λ (b : Bool). map without_payload (shown q (meaning_on setup (known_request b q) before).reply)) (sym whole))
        ∙ sym (map_drop without_payload (shown q (meaning_on setup (known_request past.entry.whole q) before).reply) past.entry.came)
      where
        q_is : q ≡ record past.entry.request { bytes = q.bytes }
        q_is =
            may.fields
            ∙ ap (λ (r : WholeRequest). record r { bytes = q.bytes }) (may.becomes.same whole (not_spoiled setup errors past q well_past may telling.unfailed))

    wrong_as : HasDue → (due : Option DBeat) → IsWrongAs setup start (standing_in whole_history requests numbers) asked (wrong.Reply rule.Payload due)
    wrong_as has due =
        subst (λ (b : DBeat). (other : Option DBeat) × (wrong_beat (due_beats setup start (standing_in whole_history requests numbers) asked) b ≡ Some (wrong.Reply rule.Payload other))) seen_is
        (payload.0, ap (λ (b : DBeat). wrong_beat (due_beats setup start (standing_in whole_history requests numbers) asked) b) seen_is ∙ judged_same ∙ sym (ap (wrong_beat theirs) seen_is) ∙ payload.1)
      where
        seen_is : record as_known { payload = seen.payload } ≡ seen
        seen_is = sym known.rest

        payload : (other : Option DBeat) × (wrong_beat theirs (record as_known { payload = seen.payload }) ≡ Some (wrong.Reply rule.Payload other))
        payload =
            still_payload (drop past.entry.came (shown past.entry.request (meaning_on setup past.entry.request has.made_of).reply)) theirs as_known seen.payload has.due has.rest
            (alike has.made_of has.whole) has.left has.at_most
            (λ none. wrong_in errors beginning happenings client beat lanes blamed requests numbers start seen been known
            (judged_same ∙ ap (wrong_beat theirs) (sym seen_is) ∙ none))

pub blames_rightly : (errors : Errors) (beginning : Beginning) (happenings : List Happening) (client : ℕ) (beat : DBeat) (lanes : ℕ)
    → TellsBlamed errors beginning happenings client beat lanes → BlamesRightly errors beginning happenings client beat lanes
blames_rightly errors beginning happenings client beat lanes blamed requests numbers start seen due been known = (
  wrong_in errors beginning happenings client beat lanes blamed requests numbers start seen been known,
  λ leaves. wrong_as errors beginning happenings client beat lanes blamed requests numbers start seen been known
      (is_due_there errors beginning happenings client beat lanes blamed leaves) due,
)
