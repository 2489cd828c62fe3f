-- What has begun and isn't whole, along lists of beats: its client's port holds its beats so far. So what a request may become after a beat, it may have
-- become before.
use Rattle.std.proofs.Common.{◌≡◌, ℕ, ◌<◌, ◌==◌, Bool, true, false, ◌&&◌, ◌||◌, not, List, [], ◌∷◌, ◌++◌, map, length, Option, Some, None, Result, Ok, Err, inl, inr, if◌then◌else◌, refl, sym, ◌∙◌, ap, subst, arith}
use Rattle.std.specs.Prelude.{slice_get}
use Rattle.std.specs.List.{list_any}
use Rattle.std.proofs.lemmas.Bool.{and_parts, cases_eq, cases_Bool, eq-eqb, eqb-true, ne_eqb, not-true, or_right}
use Rattle.std.proofs.lemmas.List.{get_or-map, get_or_append_left, get_or_at, length-append, length-map}
use Rattle.tl_messages.specs.Requests.{HeldMessage, WholeRequest, begun, bytes_given, no_message, request_of, with_beat as with_more}
use Rattle.tl_messages.specs.declared.ABeat.{ABeat}
use Rattle.tl_checker.specs.Ports.{joined, judged}
use Rattle.tl_checker.specs.RequestRules.{TlPortLimits}
use Rattle.tl_checker.specs.declared.Progress.{Progress}
use Rattle.tl_checker.specs.declared.Progress.TheVariants.{More, Whole}
use Rattle.tl_checker.specs.declared.TlRule.{TlRule}
use Rattle.scoreboard.specs.AxiPorts.{port_after}
use Rattle.scoreboard.specs.Boards.{Beginning, Board, ClientBoard, after_a, after_all, after_seen, answer_to, answered_on, is_spoiled, opening_from}
use Rattle.scoreboard.specs.FailedBursts.{Span, failed_span, shares}
use Rattle.scoreboard.specs.Flights.{is_busy}
use Rattle.scoreboard.specs.InsideBoards.{front_after}
use Rattle.scoreboard.specs.Orders.{Entry, Order, begun_to, board_after, counted, cut_short, ended_early, has_ended, is_due, is_over, with_beat}
use Rattle.scoreboard.specs.RealTime.{MayBecome, acting_footprint, begun_from, begun_in, begun_next, completed, entry_of, heard, numbered, struck, with_answered, with_failed, with_progress, with_request}
use Rattle.serial_memory.specs.SerialMemory.{Memory}
use Rattle.scoreboard.specs.declared.Errors.{Errors}
use Rattle.scoreboard.specs.declared.Errors.TheVariants.{Strict}
use Rattle.scoreboard.specs.declared.ObservedBeat.{ObservedBeat}
use Rattle.scoreboard.specs.declared.ObservedBeat.TheVariants.{A, D, Axi as OnAxi, Drained}
use Rattle.scoreboard.specs.declared.Policy.TheVariants.{RealTime}
use Rattle.scoreboard.proofs.real_time.CheckedRequests.{first_well, sound_well, whole_sound}
use Rattle.scoreboard.proofs.real_time.Fronts.{AreFronts, front_answered, front_at, front_hit, front_of, front_replied, fronts_next, fronts_opening}
use Rattle.scoreboard.proofs.real_time.RequestActs.{IsWell}

-- ---- what is held of a request

-- a front holds the beats so far of a request that isn't whole
pub record IsHeld (errors : Errors) (front : Option HeldMessage) (request : WholeRequest) (spoiled : Bool) : Type 0 where
  pub held : HeldMessage
  pub told : is_spoiled errors (request_of held) ≡ true → spoiled ≡ true
  pub is : front ≡ Some held
  pub fields : request_of held ≡ record request { bytes = bytes_given held; corrupt = held.corrupt }
  pub corrupt : request.corrupt ≡ true → held.corrupt ≡ true
  pub well : IsWell request

-- with one more beat
abbrev held_more : (errors : Errors) (front : Option HeldMessage) (request : WholeRequest) (spoiled : Bool) (beat : ABeat) (h : IsHeld errors front request spoiled)
    → IsHeld errors (Some (with_more h.held beat)) request (spoiled || is_spoiled errors (request_of (with_more h.held beat)))
held_more errors front request spoiled beat h =
    record {
      held = with_more h.held beat;
      told = λ is. or_right spoiled (is_spoiled errors (request_of (with_more h.held beat))) is;
      is = refl;
      fields = ap (λ (q : WholeRequest). record q { bytes = bytes_given (with_more h.held beat); corrupt = (with_more h.held beat).corrupt }) h.fields;
      corrupt = λ is. let was = h.corrupt is in rw was refl;
      well = h.well;
    }

-- an entry as one that was spoiled, or wasn't
abbrev pub as_fated : Bool → Entry → Entry
as_fated fated entry = record entry { spoiled = fated }

-- ---- each entry of an order, by its number

abbrev pub EachIn : (Entry → Type 0) → Order → Type 0
EachIn P now = (number : ℕ) → number < length now → P (numbered now number)

abbrev pub no_entry : Entry
no_entry = entry_of Strict 0 (request_of no_message) true

pub numbered_map : (change : Entry → Entry) (now : Order) (number : ℕ) → number < length now → numbered (map change now) number ≡ change (numbered now number)
numbered_map change now number small = get_or-map change now number no_entry no_entry small

pub numbered_first : (now : Order) (entry : Entry) (number : ℕ) → number < length now → numbered (now ++ entry ∷ []) number ≡ numbered now number
numbered_first now entry number small = get_or_append_left now (entry ∷ []) no_entry number small

pub numbered_last : (now : Order) (entry : Entry) → numbered (now ++ entry ∷ []) (length now) ≡ entry
numbered_last now entry = get_or_at now entry [] no_entry (length now) refl

pub each_map : (P Q : Entry → Type 0) (change : Entry → Entry) (now : Order) → ((entry : Entry) → P entry → Q (change entry)) → EachIn P now
    → EachIn Q (map change now)
each_map P Q change now goes all number small =
    let within : number < length now = omega (arith, small, length-map now change) in
    subst Q (sym (numbered_map change now number within)) (goes (numbered now number) (all number within))

pub each_last : (P : Entry → Type 0) (now : Order) (entry : Entry) → EachIn P now → P entry → EachIn P (now ++ entry ∷ [])
each_last P now entry all last number small =
    elim (cases_eq number (length now)) [
      | inl same ↦ subst P (sym (ap (numbered (now ++ entry ∷ [])) same ∙ numbered_last now entry)) last
      | inr differ ↦
          let within : number < length now = omega (arith, small, differ, length-append now (entry ∷ [])) in
          subst P (sym (numbered_first now entry number within)) (all number within)
    ]

-- ---- what is held of those that have begun

-- a request that isn't whole is held by its client's front, and each is well
abbrev pub IsHeldBy : Errors → (ℕ → Option HeldMessage) → Entry → Type 0
IsHeldBy errors fronts entry =
    (entry.whole ≡ false → IsHeld errors (fronts entry.client) entry.request entry.spoiled) × IsWell entry.request

abbrev pub AreHeld : Errors → (ℕ → Option HeldMessage) → Order → Type 0
AreHeld errors fronts now = EachIn (IsHeldBy errors fronts) now

-- where its client's front stays
held_still : (errors : Errors) (fronts next : ℕ → Option HeldMessage) (entry : Entry) → (entry.whole ≡ false → next entry.client ≡ fronts entry.client)
    → IsHeldBy errors fronts entry → IsHeldBy errors next entry
held_still errors fronts next entry same held = grind (arith, same, held)

-- of a client that has begun nothing, nothing is held
of_others : (errors : Errors) (fronts : ℕ → Option HeldMessage) (entry : Entry) (number : ℕ) → fronts number ≡ None → IsHeldBy errors fronts entry
    → entry.whole ≡ false → entry.client ≡ number → ⊥
of_others errors fronts entry number none held unwhole same = grind (arith, none, held, unwhole, same)

-- what isn't completed isn't the client's, or is whole
still_others : (entry : Entry) (number : ℕ) → (entry.client == number && not entry.whole) ≡ false → entry.whole ≡ false → entry.client ≡ number → ⊥
still_others entry number test unwhole same = let is = eq-eqb entry.client number same in grind (arith, test, unwhole, is)

-- ---- what they may become, by which are fated to be spoiled

-- what each that has begun may become, where those are spoiled that are fated to be
abbrev pub MayBecomeFated : (ℕ → Bool) → Order → (ℕ → WholeRequest) → Type 0
MayBecomeFated fate begun requests = (number : ℕ) → number < length begun → MayBecome (as_fated (fate number) (numbered begun number)) (requests number)

-- before one more begins
may_first : (fate : ℕ → Bool) (now : Order) (entry : Entry) (requests : ℕ → WholeRequest) → MayBecomeFated fate (now ++ entry ∷ []) requests
    → MayBecomeFated fate now requests
may_first fate now entry requests may k small =
    subst (λ (e : Entry). MayBecome (as_fated (fate k) e) (requests k)) (numbered_first now entry k small)
    (may k (omega (arith, small, length-append now (entry ∷ []))))

-- before each changes
may_change : (fate : ℕ → Bool) (change : Entry → Entry) (now : Order) (requests : ℕ → WholeRequest)
    → ((k : ℕ) → k < length now → MayBecome (as_fated (fate k) (change (numbered now k))) (requests k) → MayBecome (as_fated (fate k) (numbered now k)) (requests k))
    → MayBecomeFated fate (map change now) requests → MayBecomeFated fate now requests
may_change fate change now requests back may k small =
    back k small
    (subst (λ (e : Entry). MayBecome (as_fated (fate k) e) (requests k)) (numbered_map change now k small) (may k (omega (arith, small, length-map now change))))

module _ (errors : Errors) (limits : TlPortLimits) (beat : ABeat) (busy : Bool) (number : ℕ) (fronts next : ℕ → Option HeldMessage) (now : Order) where
  -- the fronts after an answer
  abbrev ComeNext : Option HeldMessage → Progress → Type 0
  ComeNext front progress =
      (other : ℕ) → next other ≡ (if other == number then front_after front (joined limits front beat) (Ok progress) else fronts other)

  next_other : (front : Option HeldMessage) (progress : Progress) → ComeNext front progress → (other : ℕ) → (other ≡ number → ⊥) → next other ≡ fronts other
  next_other front progress come other differ = come other ∙ rw (ne_eqb other number differ) refl

  next_own : (front : Option HeldMessage) (progress : Progress) → ComeNext front progress
      → next number ≡ front_after front (joined limits front beat) (Ok progress)
  next_own front progress come = come number ∙ rw (eq-eqb number number refl) refl

  -- all that had begun, where the client had begun nothing
  others_held : (progress : Progress) → ComeNext None progress → fronts number ≡ None → AreHeld errors fronts now → AreHeld errors next now
  others_held progress come none are k small =
      let entry = numbered now k in
      held_still errors fronts next entry
      (λ unwhole. next_other None progress come entry.client (of_others errors fronts entry number none (are k small) unwhole)) (are k small)

  -- with a beat that a port takes
  held_progress : (front : Option HeldMessage) (progress : Progress) → judged limits front beat busy ≡ Ok progress → fronts number ≡ front
      → ComeNext front progress → (progress ≡ Whole → IsWell (request_of (joined limits front beat)))
      → AreHeld errors fronts now → AreHeld errors next (with_progress errors number front (request_of (joined limits front beat)) progress now)
  held_progress None More answer own come well are =
      each_last (IsHeldBy errors next) now (record (entry_of errors number (request_of (begun limits.client beat)) false) { number = length now }) (others_held More come own are) (
        λ unwhole. record {
          held = begun limits.client beat;
          told = λ is. is;
          is = next_own None More come;
          fields = refl;
          corrupt = λ is. is;
          well = first_well limits beat busy answer;
        },
        first_well limits beat busy answer,
      )
  held_progress None Whole answer own come well are =
      each_last (IsHeldBy errors next) now (record (entry_of errors number (request_of (begun limits.client beat)) true) { number = length now }) (others_held Whole come own are)
      (λ unwhole. absurd (cc (unwhole)), well refl)
  held_progress (Some held) More answer own come well are =
      each_map (IsHeldBy errors fronts) (IsHeldBy errors next) (heard errors number (request_of (with_more held beat))) now by_test are
    where
      by_test : (entry : Entry) → IsHeldBy errors fronts entry → IsHeldBy errors next (heard errors number (request_of (with_more held beat)) entry)
      by_test entry was =
          elim (cases_Bool (entry.client == number && not entry.whole)) [
            | inl is ↦
                let parts = and_parts (entry.client == number) (not entry.whole) is in
                let h = was.0 (not-true entry.whole parts.1) in
                let same = eqb-true entry.client number parts.0 in
                let this : held ≡ h.held = cc (sym own ∙ sym (ap fronts same) ∙ h.is) in
                rw is (
                  λ unwhole. subst (λ (m : HeldMessage). IsHeld errors (next entry.client) entry.request (entry.spoiled || is_spoiled errors (request_of (with_more m beat)))) (sym this)
                      (subst (λ (front : Option HeldMessage). IsHeld errors front entry.request (entry.spoiled || is_spoiled errors (request_of (with_more h.held beat))))
                      (ap (λ (m : HeldMessage). Some (with_more m beat)) (sym this) ∙ sym (next_own (Some held) More come) ∙ sym (ap next same))
                      (held_more errors (fronts entry.client) entry.request entry.spoiled beat h)),
                  was.1,
                )
            | inr is ↦
                rw is (held_still errors fronts next entry (λ unwhole. next_other (Some held) More come entry.client (still_others entry number is unwhole)) was)
          ]
  held_progress (Some held) Whole answer own come well are =
      each_map (IsHeldBy errors fronts) (IsHeldBy errors next) (completed errors number (request_of (with_more held beat))) now by_test are
    where
      by_test : (entry : Entry) → IsHeldBy errors fronts entry → IsHeldBy errors next (completed errors number (request_of (with_more held beat)) entry)
      by_test entry was =
          elim (cases_Bool (entry.client == number && not entry.whole)) [
            | inl is ↦ rw is (λ unwhole. absurd (cc (unwhole)), well refl)
            | inr is ↦
                rw is (held_still errors fronts next entry (λ unwhole. next_other (Some held) Whole come entry.client (still_others entry number is unwhole)) was)
          ]

  -- ---- what they may become

  -- after the beat, and so before it
  may_progress : (fate : ℕ → Bool) (front : Option HeldMessage) (progress : Progress) (requests : ℕ → WholeRequest) → fronts number ≡ front
      → ((held : HeldMessage) → front ≡ Some held → progress ≡ Whole → IsWell (request_of (with_more held beat)))
      → AreHeld errors fronts now → MayBecomeFated fate (with_progress errors number front (request_of (joined limits front beat)) progress now) requests
      → MayBecomeFated fate now requests
  may_progress fate None More requests own well are may k small =
      may_first fate now (record (entry_of errors number (request_of (begun limits.client beat)) false) { number = length now }) requests may k small
  may_progress fate None Whole requests own well are may k small =
      may_first fate now (record (entry_of errors number (request_of (begun limits.client beat)) true) { number = length now }) requests may k small
  may_progress fate (Some held) More requests own well are may k small =
      may_change fate (heard errors number (request_of (with_more held beat))) now requests (λ i below. by_test (fate i) (numbered now i) (requests i)) may k small
    where
      by_test : (fated : Bool) (entry : Entry) (r : WholeRequest) → MayBecome (as_fated fated (heard errors number (request_of (with_more held beat)) entry)) r
          → MayBecome (as_fated fated entry) r
      by_test fated entry r becomes = grind (arith, becomes)
  may_progress fate (Some held) Whole requests own well are may k small =
      may_change fate change now requests (λ i below. by_test (fate i) (numbered now i) (requests i) (are i below)) may k small
    where
      change : Entry → Entry
      change = completed errors number (request_of (with_more held beat))

      by_test : (fated : Bool) (entry : Entry) (r : WholeRequest) → IsHeldBy errors fronts entry → MayBecome (as_fated fated (change entry)) r
          → MayBecome (as_fated fated entry) r
      by_test fated entry r was becomes =
          grind (arith, was, becomes, change entry, well held refl refl)

-- ---- along lists of beats

-- what a board's clients hold is what has begun and isn't whole
pub record IsFollowed (board : Board) (now : Order) : Type 0 where
  pub fronts : AreFronts board.clients
  pub held : AreHeld board.errors (front_at board.clients) now

-- a beat on channel D changes how many have come alone
held_beat : (errors : Errors) (fronts next : ℕ → Option HeldMessage) (begun : Bool) (client source : ℕ) (entry : Entry)
    → ((other : ℕ) → next other ≡ fronts other)
    → IsHeldBy errors fronts entry → IsHeldBy errors next (with_beat begun client source entry)
held_beat errors fronts next begun client source entry same was =
    elim (cases_Bool (is_due begun client source entry && entry.request.source == source)) [
      | inl is ↦ rw is (by_whole entry.whole (held_still errors fronts next entry (λ unwhole. same entry.client) was))
      | inr is ↦ rw is (held_still errors fronts next entry (λ unwhole. same entry.client) was)
    ]
  where
    by_whole : (whole : Bool) → IsHeldBy errors next entry → IsHeldBy errors next (counted whole entry)
    by_whole true held = held
    by_whole false held = held

-- nor does a reply that is over
held_early : (errors : Errors) (fronts : ℕ → Option HeldMessage) (over : Bool) (client : ℕ) (entry : Entry) → IsHeldBy errors fronts entry
    → IsHeldBy errors fronts (ended_early over client entry)
held_early errors fronts over client entry was = grind (arith, was)

held_request : (board : Board) (number : ℕ) (beat : ABeat) (now : Order) → AreFronts board.clients → AreHeld board.errors (front_at board.clients) now
    → AreHeld board.errors (front_at (after_a RealTime board number (slice_get board.clients number) beat).clients)
    (with_request board.errors number (slice_get board.clients number) beat now)
held_request board number beat now fronts are = by_client (slice_get board.clients number) refl
  where
    by_answer : (client : ClientBoard) (answer : Result Progress TlRule) → slice_get board.clients number ≡ Some client
        → answer_to RealTime client beat ≡ answer
        → AreHeld board.errors (front_at (answered_on RealTime board number client (joined client.limits client.front beat) answer).clients)
        (with_answered board.errors number client.front (joined client.limits client.front beat) answer now)
    by_answer client (Err rule) there is = are
    by_answer client (Ok progress) there is =
        let message = joined client.limits client.front beat in
        held_progress board.errors client.limits beat (is_busy RealTime client.flights beat.source) number (front_at board.clients)
        (front_at (answered_on RealTime board number client message (Ok progress)).clients) now client.front progress is (ap front_of there)
        (λ other. front_answered board number other client message (Ok progress) there)
        (λ whole. sound_well client.limits message (whole_sound client beat (fronts number client there) (is ∙ ap (λ (p : Progress). Ok p) whole))) are

    by_client : (found : Option ClientBoard) → slice_get board.clients number ≡ found
        → AreHeld board.errors (front_at (after_a RealTime board number found beat).clients) (with_request board.errors number found beat now)
    by_client None there = are
    by_client (Some client) there = by_answer client (answer_to RealTime client beat) there refl

-- how errors may be told stays
pub errors_kept : (board : Board) (seen : ObservedBeat) → (after_seen RealTime board seen).errors ≡ board.errors
errors_kept board seen = grind arith

-- an error response spoils those that haven't ended
held_failed : (errors : Errors) (memory : Memory) (fronts next : ℕ → Option HeldMessage) (span : Option Span) (now : Order)
    → ((other : ℕ) → next other ≡ fronts other) → AreHeld errors fronts now → AreHeld errors next (with_failed memory span now)
held_failed errors memory fronts next None now same are k small = held_still errors fronts next (numbered now k) (λ unwhole. same (numbered now k).client) (are k small)
held_failed errors memory fronts next (Some span) now same are k small =
    each_map (IsHeldBy errors fronts) (IsHeldBy errors next) (struck memory span) now by_test are k small
  where
    by_test : (entry : Entry) → IsHeldBy errors fronts entry → IsHeldBy errors next (struck memory span entry)
    by_test entry was = grind (arith, was)

-- with any beat
pub followed_next : (board : Board) (seen : ObservedBeat) (now : Order) → IsFollowed board now
    → IsFollowed (after_seen RealTime board seen) (begun_next board seen now)
followed_next board seen now follows =
    record {
      fronts = fronts_next board seen follows.fronts;
      held = subst (λ errors. AreHeld errors (front_at (after_seen RealTime board seen).clients) (begun_next board seen now)) (sym (errors_kept board seen)) (by_seen seen);
    }
  where
    by_seen : (seen : ObservedBeat) → AreHeld board.errors (front_at (after_seen RealTime board seen).clients) (begun_next board seen now)
    by_seen (A number beat) = held_request board number beat now follows.fronts follows.held
    by_seen (D number beat) =
        let next = front_at (after_seen RealTime board (D number beat)).clients in
        let over = is_over now number beat.source in
        let cut = cut_short now number beat.source in
        let begun = list_any (begun_to number) cut in
        each_map (IsHeldBy board.errors (front_at board.clients)) (IsHeldBy board.errors next) (with_beat begun number beat.source) cut
        (λ entry. held_beat board.errors (front_at board.clients) next begun number beat.source entry (λ other. front_replied board number other beat))
        (each_map (IsHeldBy board.errors (front_at board.clients)) (IsHeldBy board.errors (front_at board.clients)) (ended_early over number) now
        (held_early board.errors (front_at board.clients) over number) follows.held)
    by_seen (OnAxi beat) =
        let span = failed_span board.errors board.axi beat in
        held_failed board.errors board.memory (front_at board.clients) (front_at (after_seen RealTime board (OnAxi beat)).clients) span now
        (front_hit span (record board { axi = port_after RealTime board.axi beat })) follows.held
    by_seen Drained = follows.held

-- with a list of beats
followed_from : (beats : List ObservedBeat) (board : Board) (now : Order) → IsFollowed board now
    → IsFollowed (after_all RealTime board beats) (begun_from board now beats)
followed_from [] board now follows = follows
followed_from (seen ∷ beats) board now follows =
    followed_from beats (after_seen RealTime board seen) (begun_next board seen now) (followed_next board seen now follows)

followed_opening : (errors : Errors) (setup : Beginning) → IsFollowed (opening_from errors setup) []
followed_opening errors setup = record { fronts = fronts_opening setup.lists; held = λ number small. absurd (omega (arith, small)) }

-- since the start
pub followed : (errors : Errors) (setup : Beginning) (beats : List ObservedBeat) → IsFollowed (board_after errors setup beats) (begun_in errors setup beats)
followed errors setup beats = followed_from beats (opening_from errors setup) [] (followed_opening errors setup)

-- ---- what they may become after a beat, they may become before

may_beat : (begun : Bool) (client source : ℕ) (entry : Entry) (fated : Bool) (q : WholeRequest) → MayBecome (as_fated fated (with_beat begun client source entry)) q
    → MayBecome (as_fated fated entry) q
may_beat begun client source entry fated q = grind arith

may_early : (over : Bool) (client : ℕ) (entry : Entry) (fated : Bool) (q : WholeRequest) → MayBecome (as_fated fated (ended_early over client entry)) q
    → MayBecome (as_fated fated entry) q
may_early over client entry fated q = grind arith

may_failed : (fate : ℕ → Bool) (memory : Memory) (span : Option Span) (now : Order) (requests : ℕ → WholeRequest)
    → MayBecomeFated fate (with_failed memory span now) requests → MayBecomeFated fate now requests
may_failed fate memory None now requests may k small = may k small
may_failed fate memory (Some span) now requests may k small =
    may_change fate (struck memory span) now requests (λ i below. by_test (fate i) (numbered now i) (requests i)) may k small
  where
    by_test : (fated : Bool) (entry : Entry) (r : WholeRequest) → MayBecome (as_fated fated (struck memory span entry)) r → MayBecome (as_fated fated entry) r
    by_test fated entry r becomes = grind (arith, becomes, cases_Bool (not (has_ended entry) && shares span (acting_footprint memory entry.request)))

may_request : (fate : ℕ → Bool) (board : Board) (number : ℕ) (beat : ABeat) (now : Order) (requests : ℕ → WholeRequest) → IsFollowed board now
    → MayBecomeFated fate (with_request board.errors number (slice_get board.clients number) beat now) requests → MayBecomeFated fate now requests
may_request fate board number beat now requests follows = by_client (slice_get board.clients number) refl
  where
    by_answer : (client : ClientBoard) (answer : Result Progress TlRule) → slice_get board.clients number ≡ Some client
        → answer_to RealTime client beat ≡ answer
        → MayBecomeFated fate (with_answered board.errors number client.front (joined client.limits client.front beat) answer now) requests
        → MayBecomeFated fate now requests
    by_answer client (Err rule) there is may = may
    by_answer client (Ok progress) there is may =
        may_progress board.errors client.limits beat (is_busy RealTime client.flights beat.source) number (front_at board.clients) (front_at board.clients) now
        fate client.front progress requests (ap front_of there) well follows.held may
      where
        well : (held : HeldMessage) → client.front ≡ Some held → progress ≡ Whole → IsWell (request_of (with_more held beat))
        well held front whole =
            grind (arith, front, whole, sound_well client.limits (joined client.limits client.front beat), whole_sound client beat (follows.fronts number client there))

    by_client : (found : Option ClientBoard) → slice_get board.clients number ≡ found
        → MayBecomeFated fate (with_request board.errors number found beat now) requests → MayBecomeFated fate now requests
    by_client None there may = may
    by_client (Some client) there may = by_answer client (answer_to RealTime client beat) there refl may

pub may_before : (fate : ℕ → Bool) (board : Board) (seen : ObservedBeat) (now : Order) (requests : ℕ → WholeRequest) → IsFollowed board now
    → MayBecomeFated fate (begun_next board seen now) requests → MayBecomeFated fate now requests
may_before fate board (A number beat) now requests follows may = may_request fate board number beat now requests follows may
may_before fate board (D number beat) now requests follows may =
    let over = is_over now number beat.source in
    let cut = cut_short now number beat.source in
    let begun = list_any (begun_to number) cut in
    may_change fate (ended_early over number) now requests (λ i below. may_early over number (numbered now i) (fate i) (requests i))
    (may_change fate (with_beat begun number beat.source) cut requests (λ i below. may_beat begun number beat.source (numbered cut i) (fate i) (requests i)) may)
may_before fate board (OnAxi beat) now requests follows may =
    may_failed fate board.memory (failed_span board.errors board.axi beat) now requests may
may_before fate board Drained now requests follows may = may

-- along a list of beats
pub may_from : (fate : ℕ → Bool) (beats : List ObservedBeat) (board : Board) (now : Order) (requests : ℕ → WholeRequest) → IsFollowed board now
    → MayBecomeFated fate (begun_from board now beats) requests → MayBecomeFated fate now requests
may_from fate [] board now requests follows may = may
may_from fate (seen ∷ beats) board now requests follows may =
    may_before fate board seen now requests follows
    (may_from fate beats (after_seen RealTime board seen) (begun_next board seen now) requests (followed_next board seen now follows) may)
