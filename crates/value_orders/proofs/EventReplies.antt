-- The events of requests with a beat on channel D: what it tells, and which replies end with it.
use Rattle.std.proofs.Common.{◌≡◌, ℕ, ◌+◌, ◌%◌, ◌==◌, Bool, true, false, ◌&&◌, not, List, [], ◌++◌, Option, Some, None, if◌then◌else◌, refl, sym, ◌∙◌, ap, arith}
use Rattle.std.specs.Prelude.{is_some, option_map}
use Rattle.std.proofs.Math.Path.{fun_ext}
use Rattle.std.proofs.lemmas.Bool.{le-leb, leb-true}
use Rattle.bus_words.specs.Lanes.{has_lane, lane_byte}
use Rattle.byte_orders.specs.Accesses.{Access}
use Rattle.byte_orders.specs.Runs.{Event}
use Rattle.byte_orders.proofs.Leading.{AllOf, of_both, one_after, one_then}
use Rattle.byte_orders.proofs.QuietEvents.{IsOpenAt}
use Rattle.setups.specs.Setups.{SetupLists, faults_of}
use Rattle.subordinate.specs.Faults.{is_bad}
use Rattle.tl_messages.specs.declared.DBeat.{DBeat}
use Rattle.tl_messages.specs.declared.Operation.{Operation}
use Rattle.tl_messages.specs.declared.Operation.TheVariants.{Atomic, Get, Intent, PutFull, PutPartial}
use Rattle.scoreboard.specs.Orders.{Entry, begun_to, counted, ended_early, has_ended, has_failed, is_due, reply_beats, with_beat}
use Rattle.scoreboard.specs.declared.Errors.{Errors}
use Rattle.value_orders.specs.Bytes.{access_of, gives_as, gives_at, gives_from, is_failed, is_sure, left_by, may_write_at}
use Rattle.value_orders.specs.Events.{cut_as, ends_as, ends_with, is_atomic, known_as, made_as, shown_as, shows, told_as}
use Rattle.value_orders.specs.Histories.{Past, tells, with_entry, with_told}
use Rattle.value_orders.specs.Places.{acts_at, acts_on, is_in_word}
use Rattle.value_orders.proofs.EventEnds.{KnowsEnd, ends_steps, open_of}
use Rattle.value_orders.proofs.EventLists.{StepsTo, unwhole_gives, unwhole_unsure}
use Rattle.value_orders.proofs.EventParts.{IsAlike, alike_gives, alike_sure}
use Rattle.value_orders.proofs.EventSteps.{known_live, of_known, of_told, told_live}

-- ---- what a beat tells

-- what nobody knows any more
abbrev forgotten : Option ℕ → Option ℕ
forgotten byte = None

-- what shows nothing tells nothing
all_false : (a b c d e f : Bool) → (a && b && c) ≡ false → (a && b && c && d && e && f) ≡ false
all_false true true true d e f is = absurd (cc (is))
all_false true true false d e f is = refl
all_false true false c d e f is = refl
all_false false b c d e f is = refl

module _ (setup : SetupLists) (errors : Errors) (x : ℕ) (beat : DBeat) (lanes : ℕ) (past : Past) where
  abbrev told_past : Past
  told_past = with_told setup errors beat lanes past

  none_told : (y : ℕ) → shows setup errors beat past.entry ≡ false → tells setup errors past.entry beat lanes y ≡ false
  none_told y none =
      all_false (beat.opcode == 1) (not beat.corrupt) (not (has_failed errors setup past.entry)) (acts_on setup errors past.entry.request y)
      (is_in_word (acts_at setup errors past.entry.request) past.entry.came y) (not (has_lane lanes (y % 8))) none

  same_told : shows setup errors beat past.entry ≡ false → told_past.told ≡ past.told
  same_told none = fun_ext (λ y. ap (λ (b : Bool). if b then Some (lane_byte beat.payload (y % 8)) else past.told y) (none_told y none))

  -- what one that isn't an atomic gives stays
  left_told : (address : ℕ) (operation : Operation) → is_atomic operation ≡ false → left_by setup operation told_past address x ≡ left_by setup operation past address x
  left_told address (Atomic op) none = absurd (cc (none))
  left_told address PutFull none = refl
  left_told address PutPartial none = refl
  left_told address Get none = refl
  left_told address (Intent write) none = refl

  given_told : is_atomic past.entry.request.operation ≡ false → gives_at setup errors told_past x ≡ gives_at setup errors past x
  given_told none = ap (λ (o : Option (Option ℕ)). if may_write_at setup errors past x then o else None) (by_place (acts_at setup errors past.entry.request))
    where
      by_both : (address : ℕ) (whole failed : Bool) → gives_as setup whole failed told_past address x ≡ gives_as setup whole failed past address x
      by_both address false failed = refl
      by_both address true true = ap (option_map (λ (byte : Option ℕ). None)) (left_told address past.entry.request.operation none)
      by_both address true false = left_told address past.entry.request.operation none

      by_place : (place : Option ℕ) → gives_from setup errors told_past place x ≡ gives_from setup errors past place x
      by_place None = refl
      by_place (Some address) = by_both address past.entry.whole (is_failed setup errors past)

  pub same_given : (is_atomic past.entry.request.operation && shows setup errors beat past.entry) ≡ false → gives_at setup errors told_past x ≡ gives_at setup errors past x
  same_given none = by_shows (shows setup errors beat past.entry) refl
    where
      by_atomic : (b : Bool) → is_atomic past.entry.request.operation ≡ b → shows setup errors beat past.entry ≡ true → b ≡ false
      by_atomic false is shown = refl
      by_atomic true is shown = sym (rw (is, shown) refl) ∙ none

      by_shows : (b : Bool) → shows setup errors beat past.entry ≡ b → gives_at setup errors told_past x ≡ gives_at setup errors past x
      by_shows true is = given_told (by_atomic (is_atomic past.entry.request.operation) refl is)
      by_shows false is =
          alike_gives setup errors x past told_past
          (record { request = refl; whole = refl; spoiled = refl; replied = refl; hidden = refl; told = same_told is; cut = refl })

  -- and an atomic gives something where it gave something
  mapped_some : (o : Option (Option ℕ)) → is_some (option_map forgotten o) ≡ is_some o
  mapped_some None = refl
  mapped_some (Some byte) = refl

  left_some : (address : ℕ) (operation : Operation) → is_some (left_by setup operation told_past address x) ≡ is_some (left_by setup operation past address x)
  left_some address (Atomic op) = by_bad (is_bad (faults_of setup) address) _ _
    where
      by_bad : (b : Bool) (one two : Option ℕ) → is_some (if b then None else Some one) ≡ is_some (if b then None else Some two)
      by_bad true one two = refl
      by_bad false one two = refl
  left_some address PutFull = refl
  left_some address PutPartial = refl
  left_some address Get = refl
  left_some address (Intent write) = refl

  pub some_given : is_some (gives_at setup errors told_past x) ≡ is_some (gives_at setup errors past x)
  some_given = by_may (may_write_at setup errors past x)
    where
      by_both : (address : ℕ) (whole failed : Bool) → is_some (gives_as setup whole failed told_past address x) ≡ is_some (gives_as setup whole failed past address x)
      by_both address false failed = refl
      by_both address true true =
          mapped_some (left_by setup past.entry.request.operation told_past address x) ∙ left_some address past.entry.request.operation
          ∙ sym (mapped_some (left_by setup past.entry.request.operation past address x))
      by_both address true false = left_some address past.entry.request.operation

      by_place : (place : Option ℕ) → is_some (gives_from setup errors told_past place x) ≡ is_some (gives_from setup errors past place x)
      by_place None = refl
      by_place (Some address) = by_both address past.entry.whole (is_failed setup errors past)

      by_may : (b : Bool) → is_some (if b then gives_from setup errors told_past (acts_at setup errors past.entry.request) x else None)
          ≡ is_some (if b then gives_from setup errors past (acts_at setup errors past.entry.request) x else None)
      by_may false = refl
      by_may true = by_place (acts_at setup errors past.entry.request)

  -- ---- its events

  abbrev pub makes : Bool
  makes = is_atomic past.entry.request.operation && shows setup errors beat past.entry

  of_made : (number : ℕ) (b : Bool) → AllOf number (if b then known_as number (gives_at setup errors told_past x) else [])
  of_made number true = of_known number (gives_at setup errors told_past x)
  of_made number false = tt

  made_live : (now number : ℕ) (a : Access) → IsOpenAt number a → a.gives ≡ gives_at setup errors past x
      → one_after number now (made_as setup errors x beat lanes number past) a ≡ record a { gives = gives_at setup errors told_past x }
  made_live now number a is gives = by_makes makes refl
    where
      by_makes : (b : Bool) → makes ≡ b
          → one_after number now (if b then known_as number (gives_at setup errors told_past x) else []) a ≡ record a { gives = gives_at setup errors told_past x }
      by_makes true it = known_live number now a (gives_at setup errors told_past x) is (λ some. ap is_some gives ∙ sym some_given ∙ some)
      by_makes false it = ap (λ (g : Option (Option ℕ)). record a { gives = g }) (gives ∙ sym (same_given it))

  pub told_steps : (now number : ℕ) → past.ended ≡ None
      → StepsTo setup errors x now number
      (told_as number (tells setup errors past.entry beat lanes x) (lane_byte beat.payload (x % 8)) ++ made_as setup errors x beat lanes number past) past told_past
  told_steps now number live =
      record {
        of = of_both number first (made_as setup errors x beat lanes number past) (of_told number told byte) (of_made number makes);
        leads = one_then number now first (made_as setup errors x beat lanes number past) own
            ∙ ap (one_after number now (made_as setup errors x beat lanes number past)) (told_live number now own told byte (open_of setup errors x number past live))
            ∙ made_live now number (record own { told = if told then Some byte else own.told }) (record { begun = refl; live = live }) refl;
      }
    where
      told : Bool
      told = tells setup errors past.entry beat lanes x

      byte : ℕ
      byte = lane_byte beat.payload (x % 8)

      first : List Event
      first = told_as number told byte

      own : Access
      own = access_of setup errors x number past

-- one to which the beat may be due hasn't ended
abbrev pub IsDueLive : (Entry → Bool) → Past → Type 0
IsDueLive due past = due past.entry ≡ true → past.ended ≡ None

abbrev pub shown_past : SetupLists → Errors → (Entry → Bool) → DBeat → ℕ → Past → Past
shown_past setup errors due beat lanes past = if due past.entry then with_told setup errors beat lanes past else past

pub shown_steps : (setup : SetupLists) (errors : Errors) (x now number : ℕ) (due : Entry → Bool) (beat : DBeat) (lanes : ℕ) (past : Past) → IsDueLive due past
    → StepsTo setup errors x now number (shown_as setup errors x due beat lanes number past) past (shown_past setup errors due beat lanes past)
shown_steps setup errors x now number due beat lanes past live = by_due (due past.entry) refl
  where
    by_due : (b : Bool) → due past.entry ≡ b
        → StepsTo setup errors x now number
        (if b then told_as number (tells setup errors past.entry beat lanes x) (lane_byte beat.payload (x % 8)) ++ made_as setup errors x beat lanes number past else [])
        past (if b then with_told setup errors beat lanes past else past)
    by_due true is = told_steps setup errors x beat lanes past now number (live is)
    by_due false is = record { of = tt; leads = refl }

-- ---- a reply that is over

pub cut_stays : (over : Bool) (client : ℕ) (entry : Entry) → has_ended entry ≡ true → has_ended (ended_early over client entry) ≡ true
cut_stays over client entry ended = by_test (over && begun_to client entry)
  where
    by_test : (b : Bool) → has_ended (if b then record entry { came = reply_beats entry.request } else entry) ≡ true
    by_test true = le-leb (reply_beats entry.request) (reply_beats entry.request) (omega arith)
    by_test false = ended

cut_alike : (now : ℕ) (over : Bool) (client : ℕ) (past : Past) → IsAlike past (with_entry now (ended_early over client past.entry) past)
cut_alike now over client past = by_test (over && begun_to client past.entry)
  where
    by_test : (b : Bool) → IsAlike past (with_entry now (if b then record past.entry { came = reply_beats past.entry.request } else past.entry) past)
    by_test true = record { request = refl; whole = refl; spoiled = refl; replied = refl; hidden = refl; told = refl; cut = refl }
    by_test false = record { request = refl; whole = refl; spoiled = refl; replied = refl; hidden = refl; told = refl; cut = refl }

pub cut_steps : (setup : SetupLists) (errors : Errors) (x now number : ℕ) (over : Bool) (client : ℕ) (past : Past) → KnowsEnd past
    → StepsTo setup errors x now number (cut_as over client number past) past (with_entry now (ended_early over client past.entry) past)
cut_steps setup errors x now number over client past knows =
    let alike = cut_alike now over client past in
    let next = with_entry now (ended_early over client past.entry) past in
    ends_steps setup errors x now number (ended_early over client past.entry) past knows (cut_stays over client past.entry)
    (alike_gives setup errors x past next alike) (alike_sure setup errors x past next alike)

-- ---- a beat of a reply is counted

pub counted_stays : (begun : Bool) (client source : ℕ) (entry : Entry) → has_ended entry ≡ true → has_ended (with_beat begun client source entry) ≡ true
counted_stays begun client source entry ended = by_test (is_due begun client source entry && entry.request.source == source)
  where
    by_whole : (b : Bool) → has_ended (counted b entry) ≡ true
    by_whole true =
        let came = leb-true (reply_beats entry.request) entry.came ended in le-leb (reply_beats entry.request) (entry.came + 1) (omega (arith, came))
    by_whole false = ended

    by_test : (b : Bool) → has_ended (if b then counted entry.whole entry else entry) ≡ true
    by_test true = by_whole entry.whole
    by_test false = ended

-- what is the same of its access
record IsSameWork (setup : SetupLists) (errors : Errors) (x : ℕ) (old new : Past) : Type 0 where
  gives : gives_at setup errors new x ≡ gives_at setup errors old x
  sure : is_sure setup errors new x ≡ is_sure setup errors old x

same_work : (setup : SetupLists) (errors : Errors) (x : ℕ) (old new : Past) → IsAlike old new → IsSameWork setup errors x old new
same_work setup errors x old new alike = record { gives = alike_gives setup errors x old new alike; sure = alike_sure setup errors x old new alike }

module _ (setup : SetupLists) (errors : Errors) (x now : ℕ) (begun : Bool) (client source : ℕ) (past : Past) where
  counted_work : (b : Bool) → past.entry.whole ≡ b → IsSameWork setup errors x past (with_entry now (counted b past.entry) past)
  counted_work true whole =
      same_work setup errors x past (with_entry now (counted true past.entry) past)
      (record { request = refl; whole = refl; spoiled = refl; replied = refl; hidden = refl; told = refl; cut = refl })
  counted_work false unwhole =
      let next = with_entry now (counted false past.entry) past in
      record {
        gives = unwhole_gives setup errors x next unwhole ∙ sym (unwhole_gives setup errors x past unwhole);
        sure = unwhole_unsure setup errors x next unwhole ∙ sym (unwhole_unsure setup errors x past unwhole);
      }

  beat_work : IsSameWork setup errors x past (with_entry now (with_beat begun client source past.entry) past)
  beat_work = by_test (is_due begun client source past.entry && past.entry.request.source == source)
    where
      by_test : (b : Bool) → IsSameWork setup errors x past (with_entry now (if b then counted past.entry.whole past.entry else past.entry) past)
      by_test true = counted_work past.entry.whole refl
      by_test false =
          same_work setup errors x past (with_entry now past.entry past)
          (record { request = refl; whole = refl; spoiled = refl; replied = refl; hidden = refl; told = refl; cut = refl })

  pub beat_steps : (number : ℕ) → KnowsEnd past
      → StepsTo setup errors x now number (ends_as number (ends_with past.entry (with_beat begun client source past.entry))) past
      (with_entry now (with_beat begun client source past.entry) past)
  beat_steps number knows =
      ends_steps setup errors x now number (with_beat begun client source past.entry) past knows (counted_stays begun client source past.entry) beat_work.gives
      beat_work.sure
