-- What is left of the reply in flight to a client's source, where what was observed is right in order of acceptance: it was made of the bytes that the requests
-- leave which were accepted before its own.
use Rattle.std.proofs.Common.{◌≡◌, ℕ, zero, suc, ◌≤◌, Bool, true, false, List, [], ◌∷◌, ◌++◌, map, drop, length, Some, if◌then◌else◌, refl, sym, ◌∙◌, ap, subst, arith}
use Rattle.std.specs.List.{list_any}
use Rattle.std.proofs.lemmas.Bool.{or_parts}
use Rattle.std.proofs.lemmas.List.{length-append, length-drop}
use Rattle.meaning.specs.Meaning.{Bytes, bytes_after_all, zeros}
use Rattle.responses.specs.Shown.{Reply, shown}
use Rattle.setups.specs.Setups.{SetupLists, faults_of}
use Rattle.tl_messages.specs.Requests.{WholeRequest}
use Rattle.tl_messages.specs.declared.DBeat.{DBeat}
use Rattle.scoreboard.specs.Boards.{ClientBoard, from_zeros}
use Rattle.scoreboard.specs.Flights.{Footprint, InFlight}
use Rattle.scoreboard.specs.InTurn.{DueBeat, dues_of}
use Rattle.scoreboard.specs.Observed.{Observed, requests_in}
use Rattle.scoreboard.specs.Orders.{meaning_on}
use Rattle.scoreboard.specs.Right.{acts, all_beats, is_of, last_of, left_of, replies_to, shown_to, unknown_after}
use Rattle.scoreboard.proofs.acceptance_order.BoardOf.{IsClientOf}
use Rattle.scoreboard.proofs.acceptance_order.DueLists.{beats_in}
use Rattle.scoreboard.proofs.acceptance_order.Owed.{flying_of}
use Rattle.scoreboard.proofs.acceptance_order.SeenLists.{all_beats-append, last_of-append, pairs}
use Rattle.scoreboard.proofs.real_time.Lengths.{length-shown}

-- ---- the last of the replies to a client's source

none_shown : (client source : ℕ) (qs : List WholeRequest) (replies : List (Footprint × Reply)) → list_any (is_of client source) qs ≡ false
    → shown_to client source qs replies ≡ []
none_shown client source [] replies none = refl
none_shown client source (q ∷ qs) [] none = refl
none_shown client source (q ∷ qs) ((footprint, reply) ∷ replies) none =
    let parts = or_parts (is_of client source q) (list_any (is_of client source) qs) none in
    rw parts.0 (none_shown client source qs replies parts.1)

-- a list of replies has this one last
record EndsWith (setup : SetupLists) (q : WholeRequest) (m : Bytes) (replies : List (List DueBeat)) : Type 0 where
  init : List (List DueBeat)
  footprint : Footprint
  is : replies ≡ init ++ dues_of footprint (shown q (meaning_on setup q m).reply) ∷ []

ends_with : (setup : SetupLists) (unknown : ℕ → Bool) (m : Bytes) (client source : ℕ) (front back : List WholeRequest) (q : WholeRequest) → is_of client source q ≡ true
    → list_any (is_of client source) back ≡ false
    → EndsWith setup q (bytes_after_all (faults_of setup) setup.regions front m) (shown_to client source (front ++ q ∷ back) (pairs setup unknown m (front ++ q ∷ back)))
ends_with setup unknown m client source [] back q own none =
    record {
      init = [];
      footprint = acts setup unknown q;
      is =
          rw own
          (ap (λ (rest : List (List DueBeat)). dues_of (acts setup unknown q) (shown q (meaning_on setup q m).reply) ∷ rest)
          (none_shown client source back (pairs setup (unknown_after setup unknown q) (meaning_on setup q m).after back) none));
    }
ends_with setup unknown m client source (first ∷ front) back q own none =
    by_test (is_of client source first) (ends_with setup (unknown_after setup unknown first) (meaning_on setup first m).after client source front back q own none)
  where
    rest : List (List DueBeat)
    rest =
        shown_to client source (front ++ q ∷ back)
        (pairs setup (unknown_after setup unknown first) (meaning_on setup first m).after (front ++ q ∷ back))

    by_test : (b : Bool) → EndsWith setup q (bytes_after_all (faults_of setup) setup.regions front (meaning_on setup first m).after) rest
        → EndsWith setup q (bytes_after_all (faults_of setup) setup.regions front (meaning_on setup first m).after)
        (if b then dues_of (acts setup unknown first) (shown first (meaning_on setup first m).reply) ∷ rest else rest)
    by_test true found =
        record {
          init = dues_of (acts setup unknown first) (shown first (meaning_on setup first m).reply) ∷ found.init;
          footprint = found.footprint;
          is = ap (λ (all : List (List DueBeat)). dues_of (acts setup unknown first) (shown first (meaning_on setup first m).reply) ∷ all) found.is;
        }
    by_test false found = found

-- ---- the end of a list

record IsEndOf (xs all : List DueBeat) : Type 0 where
  from : ℕ
  is : xs ≡ drop from all

end_of : (front back : List DueBeat) (k : ℕ) → length (drop k (front ++ back)) ≤ length back → IsEndOf (drop k (front ++ back)) back
end_of [] back k short = record { from = k; is = refl }
end_of (first ∷ front) back zero short = absurd (omega (arith, short, length-append front back))
end_of (first ∷ front) back (suc k) short = end_of front back k short

beats_of_dues : (footprint : Footprint) (beats : List DBeat) → map (λ (due : DueBeat). due.beat) (dues_of footprint beats) ≡ beats
beats_of_dues footprint [] = refl
beats_of_dues footprint (beat ∷ beats) = ap (λ (rest : List DBeat). beat ∷ rest) (beats_of_dues footprint beats)

map_drop : (f : DueBeat → DBeat) (dues : List DueBeat) (n : ℕ) → map f (drop n dues) ≡ drop n (map f dues)
map_drop f [] zero = refl
map_drop f [] (suc n) = refl
map_drop f (due ∷ dues) zero = refl
map_drop f (due ∷ dues) (suc n) = map_drop f dues n

-- beats that are left of two replies to a request are as many
same_left : (q : WholeRequest) (one other : Reply) (i j : ℕ) (beats rest : List DBeat) (first : DBeat) → beats ≡ first ∷ rest → beats ≡ drop i (shown q one)
    → beats ≡ drop j (shown q other) → beats ≡ drop j (shown q one)
same_left q one other i j beats rest first some here there =
    let same : i ≡ j =
    omega (arith, ap length some, ap length here, ap length there, length-drop i (shown q one), length-drop j (shown q other), length-shown q one, length-shown q other) in
    here ∙ ap (λ n. drop n (shown q one)) same

-- ---- what is in flight

pub made_in_turn : (setup : SetupLists) (observed : Observed) (client : ℕ) (found : ClientBoard) (source : ℕ) (flight : InFlight) (front back : List WholeRequest) (q : WholeRequest)
    (came : ℕ) (m : Bytes) (first : DBeat) (rest : List DBeat)
    → IsClientOf (from_zeros setup) observed client found → flying_of found.flights source ≡ Some flight → requests_in observed ≡ front ++ q ∷ back
    → is_of client source q ≡ true → list_any (is_of client source) back ≡ false
    → flight.beats ≡ first ∷ rest → flight.beats ≡ drop came (shown q (meaning_on setup q m).reply)
    → flight.beats ≡ drop came (shown q (meaning_on setup q (bytes_after_all (faults_of setup) setup.regions front zeros)).reply)
made_in_turn setup observed client found source flight front back q came m first rest of flies requests own none some left =
    same_left q (meaning_on setup q before).reply (meaning_on setup q m).reply ending.from came flight.beats rest first some here left
  where
    before : Bytes
    before = bytes_after_all (faults_of setup) setup.regions front zeros

    replies : List (List DueBeat)
    replies = replies_to (from_zeros setup) observed client source

    ends : EndsWith setup q before replies
    ends =
        subst (λ qs. EndsWith setup q before (shown_to client source qs (pairs setup (λ x. false) zeros qs))) (sym requests)
        (ends_with setup (λ x. false) zeros client source front back q own none)

    last : List DueBeat
    last = dues_of ends.footprint (shown q (meaning_on setup q before).reply)

    left_is : left_of replies (observed.told client source) ≡ dues_of flight.footprint flight.beats
    left_is = (of.owed source).left_is ∙ ap beats_in flies

    parts : left_of replies (observed.told client source) ≡ drop (length (observed.told client source)) (all_beats ends.init ++ last)
    parts = ap (λ all. drop (length (observed.told client source)) (all_beats all)) ends.is ∙ ap (drop (length (observed.told client source))) (all_beats-append ends.init last)

    short : length (drop (length (observed.told client source)) (all_beats ends.init ++ last)) ≤ length last
    short =
        subst (λ n. n ≤ length last) (ap length parts)
        (subst (λ all. length (left_of replies (observed.told client source)) ≤ length all) (ap last_of ends.is ∙ last_of-append ends.init last) (of.owed source).is_told.but_last)

    ending : IsEndOf (drop (length (observed.told client source)) (all_beats ends.init ++ last)) last
    ending = end_of (all_beats ends.init) last (length (observed.told client source)) short

    here : flight.beats ≡ drop ending.from (shown q (meaning_on setup q before).reply)
    here =
        sym (beats_of_dues flight.footprint flight.beats)
        ∙ ap (map (λ (due : DueBeat). due.beat)) (sym left_is ∙ parts ∙ ending.is)
        ∙ map_drop (λ (due : DueBeat). due.beat) last ending.from
        ∙ ap (drop ending.from) (beats_of_dues ends.footprint (shown q (meaning_on setup q before).reply))
