-- What a request does to a byte is what its access says.
use Rattle.std.proofs.Common.{◌≡◌, ℕ, ◌<◌, ◌^◌, Bool, true, false, Option, Some, None, inl, inr, ⊎_elim, refl, sym, ◌∙◌, ap, subst, is_some, arith}
use Rattle.std.specs.Prelude.{◌⊎◌, slice_get}
use Rattle.std.specs.Option.{option_flatten}
use Rattle.std.proofs.lemmas.Bool.{both_ways, false_from_ne_true}
use Rattle.bus_words.specs.Lanes.{given_at}
use Rattle.burst_plan.specs.PageMap.{address_of, translated_address}
use Rattle.meaning.specs.Meaning.{Bytes}
use Rattle.serial_memory.specs.SerialMemory.{on_good_page}
use Rattle.setups.specs.Setups.{SetupLists, faults_of}
use Rattle.tl_messages.specs.Operations.{has_data}
use Rattle.tl_messages.specs.Requests.{WholeRequest}
use Rattle.tl_messages.specs.declared.AtomicOp.{AtomicOp}
use Rattle.tl_messages.specs.declared.Operation.TheVariants.{Atomic}
use Rattle.scoreboard.specs.Races.{alone}
use Rattle.scoreboard.specs.Orders.{meaning_on}
use Rattle.scoreboard.specs.declared.Errors.{Errors}
use Rattle.scoreboard.specs.declared.Errors.TheVariants.{Any, Strict}
use Rattle.scoreboard.proofs.real_time.RequestActs.{IsWell, acts, gives, given_within, own, well_put}
use Rattle.value_orders.specs.Bytes.{is_hidden_byte}
use Rattle.value_orders.specs.Histories.{Past}
use Rattle.value_orders.specs.Places.{acts_at, acts_on, covers_from}
use Rattle.value_orders.specs.RunOrders.{MayBe, MayBeByte}

-- what holds of each request that a checker let pass: a whole one gives as many bytes as it has, an atomic all of them; one of several beats is no atomic; it is
-- spoiled only where errors may be told in any way, and there one that isn't spoiled isn't corrupt
pub record IsWellPast (errors : Errors) (past : Past) : Type 0 where
  pub well : past.entry.whole ≡ true → IsWell past.entry.request
  pub no_atomic : past.entry.whole ≡ false → (op : AtomicOp) → past.entry.request.operation ≡ Atomic op → ⊥
  pub any : past.entry.spoiled ≡ true → errors ≡ Any
  pub sound : errors ≡ Any → past.entry.spoiled ≡ false → past.entry.request.corrupt ≡ false

module _ (setup : SetupLists) (errors : Errors) (past : Past) (q : WholeRequest) (well : IsWellPast errors past) (may : MayBe past q) where
  abbrev pub entry_fields : may.known ≡ record past.entry.request { bytes = may.known.bytes; corrupt = may.known.corrupt }
  entry_fields = may.becomes.fields

  -- what is known of it is well
  pub known_well : IsWell may.known
  known_well = by_whole past.entry.whole refl
    where
      by_spoiled : (b : Bool) → past.entry.whole ≡ true → past.entry.spoiled ≡ b → IsWell may.known
      by_spoiled false is sound = subst IsWell (sym (may.becomes.same is sound)) (well.well is)
      by_spoiled true is spoiled =
          let left = may.becomes.left is spoiled in
          record {
            count = left.bytes.count;
            small = left.bytes.small;
            full = λ op atomic i below.
                left.full op (sym (ap (λ (r : WholeRequest). r.operation) entry_fields) ∙ atomic) i
                (subst (λ k. i < 2 ^ k) (ap (λ (r : WholeRequest). r.size) entry_fields) below);
          }

      by_whole : (b : Bool) → past.entry.whole ≡ b → IsWell may.known
      by_whole false is =
          well_put may.known (may.becomes.bytes is) (λ op atomic. well.no_atomic is op (sym (ap (λ (r : WholeRequest). r.operation) entry_fields) ∙ atomic))
      by_whole true is = by_spoiled past.entry.spoiled is refl

  -- a byte that is given is one that may be
  byte_of : (hidden : Bool) (given byte : Option (Option ℕ)) (b : ℕ) → MayBeByte hidden given byte → ((c : ℕ) → given ≡ Some (Some c) → c < 256)
      → byte ≡ Some (Some b) → b < 256
  byte_of true (Some (Some c)) byte b may_be small is = grind (arith, may_be.1, may_be.2, is)
  byte_of true (Some None) byte b may_be small is = absurd (cc (sym may_be ∙ is))
  byte_of true None byte b may_be small is = absurd (cc (sym may_be ∙ is))
  byte_of false given byte b may_be small is = small b (sym may_be ∙ is)

  pub given_same : (hidden : Bool) (given byte : Option (Option ℕ)) → MayBeByte hidden given byte → is_some (option_flatten byte) ≡ is_some (option_flatten given)
  given_same true (Some (Some c)) byte may_be = ap (λ (o : Option (Option ℕ)). is_some (option_flatten o)) may_be.1
  given_same true (Some None) byte may_be = ap (λ (o : Option (Option ℕ)). is_some (option_flatten o)) may_be
  given_same true None byte may_be = ap (λ (o : Option (Option ℕ)). is_some (option_flatten o)) may_be
  given_same false given byte may_be = ap (λ (o : Option (Option ℕ)). is_some (option_flatten o)) may_be

  -- and it is, with any bytes in place of those that nobody knows
  pub q_well : IsWell q
  q_well =
      record {
        count = may.count ∙ known_well.count ∙ ap (λ (r : WholeRequest). 2 ^ r.size) (sym may.fields);
        small = λ i b is.
            byte_of (is_hidden_byte past.hidden may.known.address i) (slice_get may.known.bytes i) (slice_get q.bytes i) b (may.bytes i) (known_well.small i) is;
        full = λ op atomic i below.
            given_same (is_hidden_byte past.hidden may.known.address i) (slice_get may.known.bytes i) (slice_get q.bytes i) (may.bytes i)
            ∙ known_well.full op (sym (ap (λ (r : WholeRequest). r.operation) may.fields) ∙ atomic) i
            (subst (λ k. i < 2 ^ k) (ap (λ (r : WholeRequest). r.size) may.fields) below);
      }

  -- ---- where it acts

  abbrev pub place : Option ℕ
  place = acts_at setup errors past.entry.request

  abbrev pub q_place : Option ℕ
  q_place = on_good_page (faults_of setup) (address_of setup.regions q)

  -- it has the fields of what came of it
  pub q_fields : q ≡ record past.entry.request { bytes = q.bytes; corrupt = q.corrupt }
  q_fields =
      may.fields ∙ ap (λ (r : WholeRequest). record r { bytes = q.bytes }) entry_fields
      ∙ ap (λ (c : Bool). record past.entry.request { bytes = q.bytes; corrupt = c }) (ap (λ (r : WholeRequest). r.corrupt) (sym may.fields))

  pub never_spoiled : (b : Bool) → past.entry.spoiled ≡ b → errors ≡ Strict → past.entry.spoiled ≡ false
  never_spoiled false is strict = is
  never_spoiled true is strict = absurd (cc (sym (well.any is) ∙ strict))

  -- where it acts if no beat of it is corrupt
  abbrev sound_place : Option ℕ
  sound_place = on_good_page (faults_of setup) (translated_address setup.regions past.entry.request)

  -- it acts there, or nowhere: it may be corrupt
  pub sound_acts : q.corrupt ≡ false → q_place ≡ place
  sound_acts is = by_errors errors refl
    where
      translated : translated_address setup.regions q ≡ translated_address setup.regions past.entry.request
      translated = ap (λ (r : WholeRequest). translated_address setup.regions r) q_fields

      q_sound : q_place ≡ sound_place
      q_sound = rw is (ap (on_good_page (faults_of setup)) translated)

      place_any : errors ≡ Any → place ≡ sound_place
      place_any any = rw any refl

      place_strict : errors ≡ Strict → past.entry.request.corrupt ≡ false → place ≡ sound_place
      place_strict strict corrupt = rw (strict, corrupt) refl

      at_place : (b : Bool) → past.entry.request.corrupt ≡ b → errors ≡ Strict → q_place ≡ place
      at_place true corrupt strict =
          absurd
          (both_ways q.corrupt is
          (ap (λ (r : WholeRequest). r.corrupt) may.fields ∙ may.becomes.corrupt (never_spoiled past.entry.spoiled refl strict) corrupt))
      at_place false corrupt strict = q_sound ∙ sym (place_strict strict corrupt)

      by_errors : (e : Errors) → errors ≡ e → q_place ≡ place
      by_errors Any any = q_sound ∙ sym (place_any any)
      by_errors Strict strict = at_place past.entry.request.corrupt refl strict

  pub q_acts : (q_place ≡ None) ⊎ (q_place ≡ place)
  q_acts = by_corrupt q.corrupt refl
    where
      q_nowhere : q.corrupt ≡ true → q_place ≡ None
      q_nowhere is = rw is refl

      by_corrupt : (b : Bool) → q.corrupt ≡ b → (q_place ≡ None) ⊎ (q_place ≡ place)
      by_corrupt true is = inl (q_nowhere is)
      by_corrupt false is = inr (sound_acts is)

  -- ---- what it leaves

  abbrev pub left : Bytes → Bytes
  left m = (meaning_on setup q m).after

  abbrev pub footprint_gives : ℕ → Bool
  footprint_gives x = gives (own (faults_of setup) setup.regions q) q.bytes x

  -- what it doesn't give stays
  pub kept : (m : Bytes) (x : ℕ) → footprint_gives x ≡ false → left m x ≡ m x
  kept m x none = (acts (faults_of setup) setup.regions q q_well).keeps m x none

  -- it has the same operation and size
  pub same_operation : q.operation ≡ past.entry.request.operation
  same_operation = ap (λ (r : WholeRequest). r.operation) q_fields

  pub same_size : q.size ≡ past.entry.request.size
  same_size = ap (λ (r : WholeRequest). r.size) q_fields

  -- what it gives, where it acts at an address
  abbrev pub gives_there : Option ℕ → ℕ → Bool
  gives_there at x = gives (alone (λ y. false) at q) q.bytes x

  pub given_there : (at : Option ℕ) (x : ℕ) → q_place ≡ at → footprint_gives x ≡ gives_there at x
  given_there at x is = ap (λ (o : Option ℕ). gives_there o x) is

  given_nowhere : (x : ℕ) → gives_there None x ≡ false
  given_nowhere x = refl

  -- nothing where it has no data
  pub without_data : (x : ℕ) → has_data past.entry.request.operation ≡ false → footprint_gives x ≡ false
  without_data x none = grind (arith, same_operation, none)

  -- nor where it acts nowhere, or elsewhere
  pub without_place : (x : ℕ) → acts_on setup errors past.entry.request x ≡ false → footprint_gives x ≡ false
  without_place x none =
      ⊎_elim (λ nowhere. given_there None x nowhere) (λ there. by_place place there none) q_acts
    where
      outside : (a : ℕ) → covers_from (Some a) past.entry.request.size x ≡ false → is_some (given_at q.bytes a x) ≡ false
      outside a not_covered =
          false_from_ne_true (is_some (given_at q.bytes a x))
          (λ some. both_ways (covers_from (Some a) past.entry.request.size x) not_covered
          (given_within q.bytes a (2 ^ past.entry.request.size) x (q_well.count ∙ ap (λ k. 2 ^ k) same_size) some))

      by_place : (at : Option ℕ) → q_place ≡ at → covers_from at past.entry.request.size x ≡ false → footprint_gives x ≡ false
      by_place None there not_covered = given_there None x there
      by_place (Some a) there not_covered = given_there (Some a) x there ∙ rw (outside a not_covered) (grind arith)
