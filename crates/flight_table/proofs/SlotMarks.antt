-- Marks at the slots of the live requests that pass a test, through each change of them.
use Rattle.std.proofs.Common.{◌-◌, ap₂, inl, inr, ◌≡◌, ◌≢◌, ℕ, zero, suc, ◌+◌, ◌==◌, ◌<◌, Bool, true, false, List, [], ◌∷◌, ◌++◌, map, length, get_or, set, replicate, Option, None, Some, IsSome, refl, ap, sym, ◌∙◌, arith, get_or-set_other, get_or-set_same, length-set, set-set}
use Rattle.std.specs.Prelude.{if◌then◌else◌}
use Rattle.std.specs.List.{AllByRecursion, filter, position, position_or_len}
use Rattle.std.proofs.lemmas.Bool.{cases_eq, eq-eqb, ne_eqb}
use Rattle.std.proofs.lemmas.Bool.Decides.{nat_tests}
use Rattle.std.proofs.lemmas.List.{set_comm, set-get_or}
use Rattle.bus_words.specs.Places.{change_first, without_first}
use Rattle.bus_words.proofs.FirstPlaces.{position_is_first}
use Rattle.bus_words.proofs.MappedPlaces.{all-mapped}
use Rattle.flight_table.specs.Conflicts.{slot_marks}
use Rattle.flight_table.specs.Laws.{HaveOwnKeys}
use Rattle.flight_table.specs.LiveRequests.{LiveRequest}
use Rattle.flight_table.specs.Marks.{number_of}
use Rattle.flight_table.specs.Tables.{KeyedRequest, change_entry, has_key, request_in, requests_of}

abbrev pub AreOthers : ℕ → List KeyedRequest → Type 0
AreOthers key entries = AllByRecursion (λ entry. entry.key ≢ key) entries

abbrev pub HaveSlots : List KeyedRequest → Type 0
HaveSlots entries = AllByRecursion (λ entry. entry.key < 64) entries

-- the others of the first one
pub others : (entry : KeyedRequest) (entries : List KeyedRequest) → HaveOwnKeys (entry ∷ entries) → AreOthers entry.key entries
others entry entries own = all-mapped (λ m. m ≢ entry.key) (λ (e : KeyedRequest). e.key) entries own.0

-- a key that has no request
pub none_has : (key : ℕ) (entries : List KeyedRequest) → request_in key entries ≡ None → AreOthers key entries
none_has key [] none = tt
none_has key (entry ∷ entries) none = (λ same. grind (arith, nat_tests, none, same), none_has key entries (grind (arith, none)))

-- each request is that of its key
pub own_requests : (entries : List KeyedRequest) → HaveOwnKeys entries → AllByRecursion (λ entry. request_in entry.key entries ≡ Some entry.request) entries
own_requests [] own = tt
own_requests (entry ∷ entries) own = (rw (eq-eqb entry.key entry.key refl) refl, later entries (others entry entries own) (own_requests entries own.1))
  where
    later : (es : List KeyedRequest) → AreOthers entry.key es → AllByRecursion (λ e. request_in e.key entries ≡ Some e.request) es → AllByRecursion (λ e. request_in e.key (entry ∷ entries) ≡ Some e.request) es
    later [] apart all = tt
    later (e ∷ es) apart all = (rw (ne_eqb entry.key e.key (λ same. apart.0 (sym same))) all.0, later es apart.1 all.1)

-- ---- no marks

no_mark : (n k : ℕ) → get_or (replicate n false) k false ≡ false
no_mark zero k = refl
no_mark (suc n) zero = refl
no_mark (suc n) (suc k) = no_mark n k

pub no_slots : (n : ℕ) → number_of (replicate n false) ≡ 0
no_slots zero = refl
no_slots (suc n) = rw (no_slots n) refl

unmark_none : (n k : ℕ) → set (replicate n false) k false ≡ replicate n false
unmark_none zero k = refl
unmark_none (suc n) zero = refl
unmark_none (suc n) (suc k) = ap (λ ms. false ∷ ms) (unmark_none n k)

pub marks_none : (q : LiveRequest → Bool) (entries : List KeyedRequest) → AllByRecursion (λ entry. q entry.request ≡ false) entries → slot_marks q entries ≡ replicate 64 false
marks_none q [] none = refl
marks_none q (entry ∷ entries) none = rw (none.0, marks_none q entries none.1) (unmark_none 64 entry.key)

pub marks_never : (q : LiveRequest → Bool) (entries : List KeyedRequest) → ((r : LiveRequest) → q r ≡ false) → slot_marks q entries ≡ replicate 64 false
marks_never q [] never = refl
marks_never q (entry ∷ entries) never = rw (never entry.request, marks_never q entries never) (unmark_none 64 entry.key)

-- ---- the mark at a slot

pub length_slots : (q : LiveRequest → Bool) (entries : List KeyedRequest) → length (slot_marks q entries) ≡ 64
length_slots q [] = refl
length_slots q (entry ∷ entries) = length-set (slot_marks q entries) entry.key (q entry.request) ∙ length_slots q entries

pub unmarked : (q : LiveRequest → Bool) (key : ℕ) (entries : List KeyedRequest) → AreOthers key entries → get_or (slot_marks q entries) key false ≡ false
unmarked q key [] apart = no_mark 64 key
unmarked q key (entry ∷ entries) apart = get_or-set_other (slot_marks q entries) entry.key key (q entry.request) false (λ same. apart.0 (sym same)) ∙ unmarked q key entries apart.1

pub marked : (q : LiveRequest → Bool) (key : ℕ) (entries : List KeyedRequest) (r : LiveRequest) → HaveSlots entries → request_in key entries ≡ Some r → get_or (slot_marks q entries) key false ≡ q r
marked q key [] r slots found = absurd (cc (found))
marked q key (entry ∷ entries) r slots found =
    grind (
      arith,
      nat_tests,
      slots.0,
      length_slots q entries,
      get_or-set_same (slot_marks q entries) entry.key (q entry.request) false,
      get_or-set_other (slot_marks q entries) entry.key key (q entry.request) false,
      λ (later : request_in key entries ≡ Some r). marked q key entries r slots.1 later,
    )

-- a slot that is marked has a request
pub marked_live : (q : LiveRequest → Bool) (key : ℕ) (entries : List KeyedRequest) → get_or (slot_marks q entries) key false ≡ true → IsSome (request_in key entries)
marked_live q key entries mark = by_request (request_in key entries) refl
  where
    by_request : (o : Option LiveRequest) → request_in key entries ≡ o → IsSome (request_in key entries)
    by_request None none = absurd (cc (mark, unmarked q key entries (none_has key entries none)))
    by_request (Some r) found = rw found refl

-- ---- changes

pub marks_pushed : (q : LiveRequest → Bool) (entries : List KeyedRequest) (last : KeyedRequest) → AreOthers last.key entries → slot_marks q (entries ++ last ∷ []) ≡ set (slot_marks q entries) last.key (q last.request)
marks_pushed q [] last apart = refl
marks_pushed q (entry ∷ entries) last apart =
    ap (λ ms. set ms entry.key (q entry.request)) (marks_pushed q entries last apart.1) ∙ set_comm (slot_marks q entries) last.key entry.key (q last.request) (q entry.request) (λ same. apart.0 (sym same))

-- of whom a test says the same after a change
pub marks_kept : (q : LiveRequest → Bool) (change : LiveRequest → LiveRequest) (key : ℕ) (entries : List KeyedRequest) → ((r : LiveRequest) → q (change r) ≡ q r)
    → slot_marks q (change_first (has_key key) (change_entry change) entries) ≡ slot_marks q entries
marks_kept q change key [] same = refl
marks_kept q change key (entry ∷ entries) same = grind (arith, nat_tests, same entry.request, marks_kept q change key entries same)

pub marks_changed : (q : LiveRequest → Bool) (change : LiveRequest → LiveRequest) (key : ℕ) (entries : List KeyedRequest) (r : LiveRequest) → HaveOwnKeys entries → request_in key entries ≡ Some r
    → slot_marks q (change_first (has_key key) (change_entry change) entries) ≡ set (slot_marks q entries) key (q (change r))
marks_changed q change key [] r own found = absurd (cc (found))
marks_changed q change key (entry ∷ entries) r own found =
    grind (
      arith,
      nat_tests,
      set-set (slot_marks q entries) entry.key (q entry.request) (q (change entry.request)),
      set_comm (slot_marks q entries) key entry.key (q (change r)) (q entry.request),
      λ (later : request_in key entries ≡ Some r). marks_changed q change key entries r own.1 later,
    )

-- a request less, which fails the test
pub marks_without : (q : LiveRequest → Bool) (key : ℕ) (entries : List KeyedRequest) (r : LiveRequest) → HaveOwnKeys entries → request_in key entries ≡ Some r → q r ≡ false
    → slot_marks q (without_first (has_key key) entries) ≡ slot_marks q entries
marks_without q key [] r own found fails = refl
marks_without q key (entry ∷ entries) r own found fails =
    grind (
      arith,
      nat_tests,
      fails,
      set-get_or (slot_marks q entries) entry.key false,
      unmarked q entry.key entries (others entry entries own),
      λ (later : request_in key entries ≡ Some r). marks_without q key entries r own.1 later fails,
    )

-- ---- how many pass a test, after a change of one

pub count_changed : (q : LiveRequest → Bool) (change : LiveRequest → LiveRequest) (key : ℕ) (entries : List KeyedRequest) (r : LiveRequest) → request_in key entries ≡ Some r
    → length (filter q (requests_of (change_first (has_key key) (change_entry change) entries))) + (if q r then 1 else 0) ≡ length (filter q (requests_of entries)) + (if q (change r) then 1 else 0)
count_changed q change key [] r found = absurd (cc (found))
count_changed q change key (entry ∷ entries) r found =
    grind (arith, nat_tests, λ (later : request_in key entries ≡ Some r). count_changed q change key entries r later)

pub count_without : (q : LiveRequest → Bool) (key : ℕ) (entries : List KeyedRequest) (r : LiveRequest) → request_in key entries ≡ Some r → q r ≡ false
    → length (filter q (requests_of (without_first (has_key key) entries))) ≡ length (filter q (requests_of entries))
count_without q key [] r found fails = refl
count_without q key (entry ∷ entries) r found fails = grind (arith, fails, λ (later : request_in key entries ≡ Some r). count_without q key entries r later fails)

-- ---- the marks of those whose count is none, after another count

same_unheld : (entries : List KeyedRequest) (slot count : ℕ) (counts : List ℕ) → AreOthers slot entries → map (λ entry. get_or counts entry.key 0 == 0) entries ≡ map (λ entry. get_or (set counts slot count) entry.key 0 == 0) entries
same_unheld [] slot count counts apart = refl
same_unheld (entry ∷ entries) slot count counts apart = rw (get_or-set_other counts slot entry.key count 0 apart.0, same_unheld entries slot count counts apart.1) refl

-- where some are left, nobody is marked
pub still_held : (entries : List KeyedRequest) (slot count : ℕ) (counts : List ℕ) → count ≢ 0 → count ≡ get_or counts slot 0 - 1 → slot < length counts
    → map (λ entry. get_or counts entry.key 0 == 0) entries ≡ map (λ entry. get_or (set counts slot count) entry.key 0 == 0) entries
still_held [] slot count counts some is within = refl
still_held (entry ∷ entries) slot count counts some is within = ap₂ (λ m ms. m ∷ ms) here (still_held entries slot count counts some is within)
  where
    zero_test : (m n : ℕ) → m ≢ 0 → n ≢ 0 → (m == 0) ≡ (n == 0)
    zero_test m n some more = ne_eqb m 0 some ∙ sym (ne_eqb n 0 more)

    here : (get_or counts entry.key 0 == 0) ≡ (get_or (set counts slot count) entry.key 0 == 0)
    here =
        elim (cases_eq entry.key slot) [
          | inl same ↦
              rw (same, get_or-set_same counts slot count 0 within) (zero_test (get_or counts slot 0) count (λ none. some (omega (arith, is, none))) some)
          | inr other ↦ rw (get_or-set_other counts slot entry.key count 0 other) refl
        ]

next_unheld : (entries : List KeyedRequest) (slot count : ℕ) (counts : List ℕ) → HaveOwnKeys entries → position_or_len (has_key slot) entries < length entries → slot < length counts
    → set (map (λ entry. get_or counts entry.key 0 == 0) entries) (position_or_len (has_key slot) entries) (count == 0) ≡ map (λ entry. get_or (set counts slot count) entry.key 0 == 0) entries
next_unheld [] slot count counts own within inside = absurd (omega (arith, within))
next_unheld (entry ∷ entries) slot count counts own within inside =
    grind (
      arith,
      nat_tests,
      within,
      get_or-set_same counts entry.key count 0,
      get_or-set_other counts slot entry.key count 0,
      same_unheld entries entry.key count counts (others entry entries own),
      λ (later : position_or_len (has_key slot) entries < length entries). next_unheld entries slot count counts own.1 later inside,
    )

pub unheld_next : (entries : List KeyedRequest) (slot place count : ℕ) (counts : List ℕ) → HaveOwnKeys entries → position (has_key slot) entries ≡ Some place → slot < length counts
    → set (map (λ entry. get_or counts entry.key 0 == 0) entries) place (count == 0) ≡ map (λ entry. get_or (set counts slot count) entry.key 0 == 0) entries
unheld_next entries slot place count counts own at inside =
    let first = position_is_first (has_key slot) entries place at in
    ap (λ k. set (map (λ entry. get_or counts entry.key 0 == 0) entries) k (count == 0)) (sym first.first) ∙ next_unheld entries slot count counts own (rw first.first first.within) inside
