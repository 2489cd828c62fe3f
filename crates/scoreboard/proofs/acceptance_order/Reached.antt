-- A scoreboard that was reached by beats of which none was wrong holds what was observed, which is right; and the next beat is wrong exactly
-- where what was observed with it isn't.
use Rattle.std.proofs.Common.{◌≡◌, ℕ, Bool, false, List, [], ◌∷◌, ◌++◌, length, arith, Option, Some, None, ◌⊎◌, inl, inr, refl, sym, ◌∙◌, ap, subst}
use Rattle.std.specs.Prelude.{◌↔◌, slice_get}
use Rattle.std.proofs.lemmas.List.{append-nil, append_assoc, length-append, nil_from_length}
use Rattle.std.proofs.lemmas.Option.{slice_get_within}
use Rattle.bus_words.proofs.PlaceChanges.{all-append}
use Rattle.bus_words.proofs.StoredPlaces.{there_is}
use Rattle.tl_messages.specs.declared.ABeat.{ABeat}
use Rattle.tl_messages.specs.declared.DBeat.{DBeat}
use Rattle.meaning.specs.Meaning.{Bytes, bytes_after_all}
use Rattle.setups.specs.Setups.{faults_of}
use Rattle.scoreboard.specs.Boards.{Beginning, Board, ClientBoard, IsReached, MayBegin, a_wrong, after_a, after_all, after_d, after_seen, answer_to, d_wrong, opening_from, wrong_at}
use Rattle.scoreboard.specs.Observed.{Observed, nothing_observed, observed_in, requests_in, with_seen}
use Rattle.scoreboard.specs.Right.{HasClient, IsContiguous, IsRight, IsRightNow}
use Rattle.scoreboard.specs.declared.Errors.{Errors}
use Rattle.scoreboard.specs.declared.Policy.TheVariants.{AcceptanceOrder}
use Rattle.scoreboard.specs.declared.ObservedBeat.{ObservedBeat}
use Rattle.serial_memory.specs.SerialMemory.{Memory}
use Rattle.scoreboard.specs.declared.ObservedBeat.TheVariants.{A, D, Axi as OnAxi, Drained}
use Rattle.scoreboard.proofs.MappedLists.{all_parts}
use Rattle.scoreboard.proofs.acceptance_order.BoardOf.{IsBoardOf, board_opens, right_opens}
use Rattle.scoreboard.proofs.acceptance_order.KnownBytes.{all_well, known_after_all}
use Rattle.scoreboard.proofs.acceptance_order.ReplySteps.{axi_right, next_contiguous, reply_right, step_axi, step_drained, step_reply}
use Rattle.scoreboard.proofs.acceptance_order.RequestSteps.{request_right, step_request}
use Rattle.scoreboard.proofs.acceptance_order.SeenLists.{cut_of, observed-append}

-- ---- one beat

-- what a beat that isn't wrong makes of what was observed and held
record Goes (beginning : Beginning) (observed : Observed) (seen : ObservedBeat) (new : Board) : Type 0 where
  client : HasClient beginning.lists.config.clients seen
  contiguous : IsContiguous beginning observed seen
  board : IsBoardOf beginning (with_seen observed seen) new

goes_a : (beginning : Beginning) (observed : Observed) (old : Board) (number : ℕ) (beat : ABeat) (found : Option ClientBoard) → slice_get old.clients number ≡ found → IsBoardOf beginning observed old
    → a_wrong AcceptanceOrder found beat ≡ None → Goes beginning observed (A number beat) (after_a AcceptanceOrder old number found beat)
goes_a beginning observed old number beat None there of none = absurd (cc (none))
goes_a beginning observed old number beat (Some client) there of none =
    record {
      client = omega (arith, slice_get_within old.clients number client there, of.count);
      contiguous = tt;
      board = step_request beginning observed old number client beat (answer_to AcceptanceOrder client beat) of there refl none;
    }

goes_d : (beginning : Beginning) (observed : Observed) (old : Board) (number : ℕ) (beat : DBeat) (found : Option ClientBoard) → slice_get old.clients number ≡ found → IsBoardOf beginning observed old
    → d_wrong AcceptanceOrder found beat ≡ None → Goes beginning observed (D number beat) (after_d old number found beat)
goes_d beginning observed old number beat None there of none = absurd (cc (none))
goes_d beginning observed old number beat (Some client) there of none =
    record {
      client = omega (arith, slice_get_within old.clients number client there, of.count);
      contiguous = next_contiguous beginning observed number client beat (of.clients number client there) none;
      board = step_reply beginning observed old number client beat of there none;
    }

goes : (beginning : Beginning) (observed : Observed) (old : Board) (seen : ObservedBeat) → IsBoardOf beginning observed old → wrong_at AcceptanceOrder old seen ≡ None → Goes beginning observed seen (after_seen AcceptanceOrder old seen)
goes beginning observed old (A client beat) of none = goes_a beginning observed old client beat (slice_get old.clients client) refl of none
goes beginning observed old (D client beat) of none = goes_d beginning observed old client beat (slice_get old.clients client) refl of none
goes beginning observed old (OnAxi beat) of none = record { client = tt; contiguous = tt; board = step_axi beginning observed old beat of none }
goes beginning observed old Drained of none = record { client = tt; contiguous = tt; board = step_drained beginning observed old of }

-- ---- lists

-- what holds of an observation with one beat more
pub right_with : (beginning : Beginning) (before : List ObservedBeat) (seen : ObservedBeat) → IsRight beginning before → HasClient beginning.lists.config.clients seen → IsContiguous beginning (observed_in before) seen
    → IsRightNow beginning (with_seen (observed_in before) seen) → IsRight beginning (before ++ seen ∷ [])
right_with beginning before seen right client contiguous now =
    record {
      clients = all-append (HasClient beginning.lists.config.clients) before seen right.clients client;
      always = λ earlier later is. always_by earlier later (cut_of before earlier later seen is);
      contiguous = λ earlier later next is. contiguous_by earlier later next (cut_of before earlier (next ∷ later) seen is);
    }
  where
    always_by : (earlier later : List ObservedBeat) → ((earlier ≡ before ++ seen ∷ []) × (later ≡ [])) ⊎ ((rest : List ObservedBeat) × (before ≡ earlier ++ rest) × (later ≡ rest ++ seen ∷ []))
        → IsRightNow beginning (observed_in earlier)
    always_by earlier later (inl (all, none)) = rw (all, observed-append nothing_observed before seen) now
    always_by earlier later (inr (rest, part, end)) = right.always earlier rest part

    contiguous_by : (earlier later : List ObservedBeat) (next : ObservedBeat)
        → ((earlier ≡ before ++ seen ∷ []) × (next ∷ later ≡ [])) ⊎ ((rest : List ObservedBeat) × (before ≡ earlier ++ rest) × (next ∷ later ≡ rest ++ seen ∷ [])) → IsContiguous beginning (observed_in earlier) next
    contiguous_by earlier later next (inl (all, none)) = absurd (cc (none))
    contiguous_by earlier later next (inr ([], part, end)) =
        let same : before ≡ earlier = part ∙ append-nil earlier in
        let is : seen ≡ next = cc (end) in
        rw (← same, ← is) contiguous
    contiguous_by earlier later next (inr (x ∷ rest, part, end)) = right.contiguous earlier rest next (cc (part, end))

-- a board that holds a right observation
record Holds (beginning : Beginning) (before : List ObservedBeat) (board : Board) : Type 0 where
  held : IsBoardOf beginning (observed_in before) board
  right : IsRight beginning before

pub right_nothing : (beginning : Beginning) → IsRight beginning []
right_nothing beginning =
    record {
      clients = tt;
      always = λ before after is. rw (nil_from_length before (omega (arith, ap length is, length-append before after))) (right_opens beginning);
      contiguous = λ before after next is. absurd (omega (arith, ap length is, length-append before (next ∷ after)));
    }

holds_with : (beginning : Beginning) (before : List ObservedBeat) (old : Board) (seen : ObservedBeat) → Holds beginning before old → wrong_at AcceptanceOrder old seen ≡ None → Holds beginning (before ++ seen ∷ []) (after_seen AcceptanceOrder old seen)
holds_with beginning before old seen holds none =
    let went = goes beginning (observed_in before) old seen holds.held none in
    record {
      held = rw (observed-append nothing_observed before seen) went.board;
      right = right_with beginning before seen holds.right went.client went.contiguous went.board.right;
    }

holds_after : (beginning : Beginning) (before rest : List ObservedBeat) (middle board : Board) → Holds beginning before middle → IsReached AcceptanceOrder middle rest board → Holds beginning (before ++ rest) board
holds_after beginning before [] middle board holds is = rw (append-nil before, is) holds
holds_after beginning before (seen ∷ rest) middle board holds (none, more) =
    subst (λ (xs : List ObservedBeat). Holds beginning xs board) (append_assoc before (seen ∷ []) rest)
    (holds_after beginning (before ++ seen ∷ []) rest (after_seen AcceptanceOrder middle seen) board (holds_with beginning before middle seen holds none) more)

reached_holds : (errors : Errors) (beginning : Beginning) (before : List ObservedBeat) (board : Board) → IsReached AcceptanceOrder (opening_from errors beginning) before board → Holds beginning before board
reached_holds errors beginning before board reached = holds_after beginning [] before (opening_from errors beginning) board (record { held = board_opens errors beginning; right = right_nothing beginning }) reached

-- and what was observed is held there
pub held_when_reached : (errors : Errors) (beginning : Beginning) (before : List ObservedBeat) (board : Board) → IsReached AcceptanceOrder (opening_from errors beginning) before board → IsBoardOf beginning (observed_in before) board
held_when_reached errors beginning before board reached = (reached_holds errors beginning before board reached).held

-- ---- the next beat

-- a beat that may come isn't wrong
not_wrong : (beginning : Beginning) (observed : Observed) (board : Board) (seen : ObservedBeat) → IsBoardOf beginning observed board → HasClient beginning.lists.config.clients seen
    → IsContiguous beginning observed seen → IsRightNow beginning (with_seen observed seen) → wrong_at AcceptanceOrder board seen ≡ None
not_wrong beginning observed board (A number beat) of below contiguous now =
    let (client, there) = there_is board.clients number (omega (arith, below, of.count)) in
    ap (λ (found : Option ClientBoard). a_wrong AcceptanceOrder found beat) there ∙ request_right beginning observed number client beat (of.clients number client there) of.right now
not_wrong beginning observed board (D number beat) of below contiguous now =
    let (client, there) = there_is board.clients number (omega (arith, below, of.count)) in
    ap (λ (found : Option ClientBoard). d_wrong AcceptanceOrder found beat) there ∙ reply_right beginning observed number client beat (of.clients number client there) now contiguous
not_wrong beginning observed board (OnAxi beat) of below contiguous now = axi_right beginning observed board beat of now
not_wrong beginning observed board Drained of below contiguous now = refl

-- of a board that was reached: a beat isn't wrong exactly where what was observed with it is right
pub right_exactly : (errors : Errors) (beginning : Beginning) (before : List ObservedBeat) (old : Board) (seen : ObservedBeat) → IsReached AcceptanceOrder (opening_from errors beginning) before old
    → (wrong_at AcceptanceOrder old seen ≡ None) ↔ IsRight beginning (before ++ seen ∷ [])
right_exactly errors beginning before old seen reached = (
  (λ none. (holds_with beginning before old seen holds none).right),
  (λ right.
      not_wrong beginning (observed_in before) old seen holds.held (all_parts (HasClient beginning.lists.config.clients) before (seen ∷ []) right.clients).1.0 (right.contiguous before [] seen refl)
      (subst (IsRightNow beginning) (observed-append nothing_observed before seen) (right.always (before ++ seen ∷ []) [] (sym (append-nil (before ++ seen ∷ [])))))),
)
  where
    holds : Holds beginning before old
    holds = reached_holds errors beginning before old reached

-- and holds the bytes that the accepted requests leave
pub memory_reached : (errors : Errors) (beginning : Beginning) (before : List ObservedBeat) (board : Board) → IsReached AcceptanceOrder (opening_from errors beginning) before board → board.memory.bytes ≡ bytes_after_all (faults_of beginning.lists) beginning.lists.regions (requests_in (observed_in before)) beginning.bytes
memory_reached errors beginning before board reached = ap (λ (m : Memory). m.bytes) (reached_holds errors beginning before board reached).held.memory

-- and where a byte is known, it is what they leave whatever the memory began with
pub known_reached : (errors : Errors) (beginning : Beginning) (before : List ObservedBeat) (board : Board) → IsReached AcceptanceOrder (opening_from errors beginning) before board
    → (start : Bytes) → MayBegin beginning start → (x : ℕ) → board.indeterminate x ≡ false
    → bytes_after_all (faults_of beginning.lists) beginning.lists.regions (requests_in (observed_in before)) start x ≡ board.memory.bytes x
known_reached errors beginning before board reached start begins x known =
    let requests = requests_in (observed_in before) in
    let held = (reached_holds errors beginning before board reached).held in
    let well = all_well beginning.lists (observed_in before).messages requests held.right.as_many held.right.spelled in
    known_after_all beginning.lists beginning.unknown requests beginning.bytes start well begins.known x (sym (ap (λ (unknown : ℕ → Bool). unknown x) held.unknown) ∙ known)
    ∙ sym (ap (λ (m : Memory). m.bytes x) held.memory)

-- ---- whole lists

-- each first part of what is right is right
pub right_front : (beginning : Beginning) (first rest : List ObservedBeat) → IsRight beginning (first ++ rest) → IsRight beginning first
right_front beginning first rest right =
    record {
      clients = (all_parts (HasClient beginning.lists.config.clients) first rest right.clients).0;
      always = λ before after is. right.always before (after ++ rest) (longer (before ++ after) is ∙ append_assoc before after rest);
      contiguous = λ before after next is. right.contiguous before (after ++ rest) next (longer (before ++ next ∷ after) is ∙ append_assoc before (next ∷ after) rest);
    }
  where
    longer : (all : List ObservedBeat) → first ≡ all → first ++ rest ≡ all ++ rest
    longer all is = ap (λ (xs : List ObservedBeat). xs ++ rest) is

reached_next : (start : Board) (beats : List ObservedBeat) (seen : ObservedBeat) → IsReached AcceptanceOrder start beats (after_all AcceptanceOrder start beats) → wrong_at AcceptanceOrder (after_all AcceptanceOrder start beats) seen ≡ None
    → IsReached AcceptanceOrder start (beats ++ seen ∷ []) (after_all AcceptanceOrder start (beats ++ seen ∷ []))
reached_next start [] seen reached none = (none, refl)
reached_next start (first ∷ beats) seen (right, more) none = (right, reached_next (after_seen AcceptanceOrder start first) beats seen more none)

-- by what is right a board is reached
pub right_reached : (errors : Errors) (beginning : Beginning) (beats : List ObservedBeat) → IsRight beginning beats → IsReached AcceptanceOrder (opening_from errors beginning) beats (after_all AcceptanceOrder (opening_from errors beginning) beats)
right_reached errors beginning beats right = from_front [] beats refl refl
  where
    from_front : (done rest : List ObservedBeat) → beats ≡ done ++ rest → IsReached AcceptanceOrder (opening_from errors beginning) done (after_all AcceptanceOrder (opening_from errors beginning) done)
        → IsReached AcceptanceOrder (opening_from errors beginning) beats (after_all AcceptanceOrder (opening_from errors beginning) beats)
    from_front done [] is reached =
        subst (λ (xs : List ObservedBeat). IsReached AcceptanceOrder (opening_from errors beginning) xs (after_all AcceptanceOrder (opening_from errors beginning) xs)) (sym (is ∙ append-nil done)) reached
    from_front done (seen ∷ rest) is reached =
        let longer : beats ≡ (done ++ seen ∷ []) ++ rest = is ∙ sym (append_assoc done (seen ∷ []) rest) in
        let next = right_front beginning (done ++ seen ∷ []) rest (subst (IsRight beginning) longer right) in
        let none = (right_exactly errors beginning done (after_all AcceptanceOrder (opening_from errors beginning) done) seen reached).1 next in
        from_front (done ++ seen ∷ []) rest longer (reached_next (opening_from errors beginning) done seen reached none)
