-- Lists with one element more at their end: what was observed, the messages, requests and replies in it, and the beats of the AXI4 port.
use Rattle.std.proofs.Common.{◌≡◌, ℕ, suc, Bool, List, [], ◌∷◌, ◌++◌, length, zip, Some, None, if◌then◌else◌, ◌⊎◌, inl, inr, refl, sym, ◌∙◌, ap, arith}
use Rattle.std.proofs.lemmas.Grind.{flat_map-append}
use Rattle.std.proofs.lemmas.List.{append-nil}
use Rattle.tl_messages.specs.Requests.{WholeRequest}
use Rattle.axi_checker.specs.OpenBursts.{OpenBursts, open_after}
use Rattle.axi_checker.specs.declared.AxiBeat.{AxiBeat}
use Rattle.axi_checker.specs.Rules.{AxiPortLimits, axi_fault, first_axi_fault, open_after_all}
use Rattle.axi_checker.proofs.Histories.{first_axi_fault-append}
use Rattle.burst_plan.specs.declared.Region.{Region}
use Rattle.responses.specs.Shown.{Reply, shown}
use Rattle.subordinate.specs.Faults.{Faults}
use Rattle.meaning.specs.Meaning.{Bytes, bytes_after_all, meaning, replies_in_order}
use Rattle.meaning.specs.InTurn.{AcceptedMessage, request_in, requests_of}
use Rattle.scoreboard.specs.Observed.{Observed, with_all, with_seen}
use Rattle.setups.specs.Setups.{SetupLists, faults_of}
use Rattle.scoreboard.specs.Flights.{Footprint}
use Rattle.scoreboard.specs.InTurn.{DueBeat, dues_of}
use Rattle.scoreboard.specs.Right.{acts, acts_in_turn, all_beats, is_of, last_of, shown_to, unknown_after, unknown_after_all}
use Rattle.scoreboard.specs.declared.ObservedBeat.{ObservedBeat}

-- ---- where a list with one element more is cut

-- behind all of it, or before its last element
pub cut_of : {X : Type 0} (xs before after : List X) (x : X) → xs ++ x ∷ [] ≡ before ++ after
    → ((before ≡ xs ++ x ∷ []) × (after ≡ [])) ⊎ ((rest : List X) × (xs ≡ before ++ rest) × (after ≡ rest ++ x ∷ []))
cut_of xs [] after x is = inr (xs, refl, sym is)
cut_of [] (b ∷ []) after x is = inl (cc, cc)
cut_of [] (b ∷ c ∷ before) after x is = absurd (cc)
cut_of (y ∷ ys) (b ∷ before) after x is = grind (arith, is, cut_of ys before after x (cc))

pub zip-append : {X Y : Type 0} (xs : List X) (ys : List Y) (x : X) (y : Y) → length ys ≡ length xs → zip (xs ++ x ∷ []) (ys ++ y ∷ []) ≡ zip xs ys ++ (x, y) ∷ []
zip-append [] [] x y same = refl
zip-append [] (b ∷ ys) x y same = absurd (omega (arith, same))
zip-append (a ∷ xs) [] x y same = absurd (omega (arith, same))
zip-append (a ∷ xs) (b ∷ ys) x y same = ap (λ rest. (a, b) ∷ rest) (zip-append xs ys x y (omega (arith, same)))

-- ---- what was observed

pub observed-append : (observed : Observed) (before : List ObservedBeat) (seen : ObservedBeat) → with_all observed (before ++ seen ∷ []) ≡ with_seen (with_all observed before) seen
observed-append observed [] seen = refl
observed-append observed (first ∷ before) seen = observed-append (with_seen observed first) before seen

-- ---- messages, requests and replies

pub requests_of-append : (messages : List AcceptedMessage) (message : AcceptedMessage) (q : WholeRequest) → request_in message ≡ Some q → requests_of (messages ++ message ∷ []) ≡ requests_of messages ++ q ∷ []
requests_of-append [] message q is = rw is refl
requests_of-append (first ∷ messages) message q is = grind (arith, requests_of-append messages message q is)

pub bytes_after_all-append : (faults : Faults) (regions : List Region) (qs : List WholeRequest) (q : WholeRequest) (m : Bytes)
    → bytes_after_all faults regions (qs ++ q ∷ []) m ≡ (meaning faults regions q (bytes_after_all faults regions qs m)).after
bytes_after_all-append faults regions [] q m = refl
bytes_after_all-append faults regions (first ∷ qs) q m = bytes_after_all-append faults regions qs q (meaning faults regions first m).after

-- a request more: of the client and the source, or of another
pub shown_to-append : (client source : ℕ) (qs : List WholeRequest) (replies : List (Footprint × Reply)) (q : WholeRequest) (footprint : Footprint) (reply : Reply) → length replies ≡ length qs
    → shown_to client source (qs ++ q ∷ []) (replies ++ (footprint, reply) ∷ []) ≡ shown_to client source qs replies ++ (if is_of client source q then dues_of footprint (shown q reply) ∷ [] else [])
shown_to-append client source [] [] q footprint reply same = refl
shown_to-append client source [] (r ∷ rs) q footprint reply same = absurd (omega (arith, same))
shown_to-append client source (p ∷ ps) [] q footprint reply same = absurd (omega (arith, same))
shown_to-append client source (p ∷ ps) ((f, r) ∷ rs) q footprint reply same = grind (arith, shown_to-append client source ps rs q footprint reply (omega (arith, same)))

-- ---- what isn't known

pub unknown_after_all-append : (setup : SetupLists) (unknown : ℕ → Bool) (qs : List WholeRequest) (q : WholeRequest)
    → unknown_after_all setup unknown (qs ++ q ∷ []) ≡ unknown_after setup (unknown_after_all setup unknown qs) q
unknown_after_all-append setup unknown [] q = refl
unknown_after_all-append setup unknown (first ∷ qs) q = unknown_after_all-append setup (unknown_after setup unknown first) qs q

-- the replies to requests from these bytes, of which these aren't known
abbrev pub pairs : SetupLists → (ℕ → Bool) → Bytes → List WholeRequest → List (Footprint × Reply)
pairs setup unknown m qs = zip (acts_in_turn setup unknown qs) (replies_in_order (faults_of setup) setup.regions qs m)

pub pairs-count : (setup : SetupLists) (unknown : ℕ → Bool) (m : Bytes) (qs : List WholeRequest) → length (pairs setup unknown m qs) ≡ length qs
pairs-count setup unknown m [] = refl
pairs-count setup unknown m (q ∷ qs) = ap suc (pairs-count setup (unknown_after setup unknown q) (meaning (faults_of setup) setup.regions q m).after qs)

pub pairs-append : (setup : SetupLists) (unknown : ℕ → Bool) (m : Bytes) (qs : List WholeRequest) (q : WholeRequest)
    → pairs setup unknown m (qs ++ q ∷ [])
    ≡ pairs setup unknown m qs ++ (acts setup (unknown_after_all setup unknown qs) q, (meaning (faults_of setup) setup.regions q (bytes_after_all (faults_of setup) setup.regions qs m)).reply) ∷ []
pairs-append setup unknown m [] q = refl
pairs-append setup unknown m (first ∷ qs) q =
    ap (λ (rest : List (Footprint × Reply)). (acts setup unknown first, (meaning (faults_of setup) setup.regions first m).reply) ∷ rest)
    (pairs-append setup (unknown_after setup unknown first) (meaning (faults_of setup) setup.regions first m).after qs q)

-- ---- the beats of replies

pub all_beats-append : (replies : List (List DueBeat)) (beats : List DueBeat) → all_beats (replies ++ beats ∷ []) ≡ all_beats replies ++ beats
all_beats-append replies beats = flat_map-append (λ (bs : List DueBeat). bs) replies (beats ∷ []) ∙ ap (λ (rest : List DueBeat). all_beats replies ++ rest) (append-nil beats)

pub last_of-append : (replies : List (List DueBeat)) (beats : List DueBeat) → last_of (replies ++ beats ∷ []) ≡ beats
last_of-append [] beats = refl
last_of-append (first ∷ []) beats = refl
last_of-append (first ∷ next ∷ more) beats = last_of-append (next ∷ more) beats

-- ---- the AXI4 port

pub open_after_all-append : (open_bursts : OpenBursts) (beats : List AxiBeat) (beat : AxiBeat) → open_after_all open_bursts (beats ++ beat ∷ []) ≡ open_after (open_after_all open_bursts beats) beat
open_after_all-append open_bursts [] beat = refl
open_after_all-append open_bursts (first ∷ beats) beat = open_after_all-append (open_after open_bursts first) beats beat

-- beats without a fault, and the fault of one more after them
pub axi_fault-append : (port : AxiPortLimits) (open_bursts : OpenBursts) (beats : List AxiBeat) (beat : AxiBeat) → first_axi_fault port open_bursts beats ≡ None
    → first_axi_fault port open_bursts (beats ++ beat ∷ []) ≡ axi_fault port (open_after_all open_bursts beats) beat
axi_fault-append port open_bursts beats beat none = first_axi_fault-append port open_bursts beats (beat ∷ []) none ∙ grind arith
