-- A request joins those on a shadow: what becomes of the bytes there.
use Rattle.std.proofs.Common.{◌≡◌, ℕ, Bool, true, false, List, ◌⊎◌, inl, inr, sym, ◌∙◌, ap, arith}
use Rattle.std.specs.Prelude.{is_some}
use Rattle.std.specs.List.{list_any}
use Rattle.std.proofs.lemmas.Bool.{and_parts, or_from}
use Rattle.bus_words.specs.Lanes.{given_at}
use Rattle.tl_messages.specs.Requests.{WholeRequest}
use Rattle.burst_plan.specs.declared.Region.{Region}
use Rattle.subordinate.specs.Faults.{Faults}
use Rattle.meaning.specs.Meaning.{Bytes}
use Rattle.scoreboard.specs.Boards.{Board, footprints_of, joining_on}
use Rattle.scoreboard.specs.Flights.{Footprint}
use Rattle.scoreboard.specs.Orders.{Order}
use Rattle.scoreboard.specs.Races.{after_given, after_joining, covers, may_write}
use Rattle.scoreboard.proofs.real_time.Ahead.{HasBecome, IsGiven, Shadow, reads_nothing, shadow_of, touches, will_give}
use Rattle.scoreboard.proofs.real_time.Apart.{AreAll}
use Rattle.scoreboard.proofs.real_time.Entries.{carry}
use Rattle.scoreboard.proofs.real_time.Explained.{Explains}
use Rattle.scoreboard.proofs.real_time.FlightLists.{are_all}
use Rattle.scoreboard.proofs.real_time.Places.{Place, cases_place, due_at, footprint_at, footprint_in}
use Rattle.scoreboard.proofs.real_time.RequestActs.{Acts, IsWell, acts, own}

module _ {start : Bytes} (board : Board) (shadow : Shadow) (order : Order) (explains : Explains start (shadow_of board shadow) order) (q : WholeRequest) (well : IsWell q) where
  abbrev faults : Faults
  faults = board.memory.faults

  abbrev regions : List Region
  regions = board.memory.regions

  abbrev theirs : Footprint
  theirs = joining_on (shadow_of board shadow) q

  abbrev all : List Footprint
  all = footprints_of shadow.clients

  abbrev indeterminate : ℕ → Bool
  indeterminate = after_joining shadow.indeterminate (footprints_of shadow.clients) theirs q.bytes

  are : AreAll (footprint_at shadow.clients) all
  are = are_all shadow.clients explains.sources explains.nothing

  q_acts : Acts (carry faults regions q) (own faults regions q) q.bytes
  q_acts = acts faults regions q well

  -- a byte that it may not write it doesn't give
  pub unwritten_there : (x : ℕ) → may_write (joining_on (shadow_of board shadow) q) x ≡ false → will_give board.memory.faults board.memory.regions q x ≡ false
  unwritten_there x none = grind (arith, none, q_acts.within x)

  pub bytes_kept : (x : ℕ) → will_give board.memory.faults board.memory.regions q x ≡ false
      → carry board.memory.faults board.memory.regions q shadow.bytes x ≡ shadow.bytes x
  bytes_kept x none = q_acts.keeps shadow.bytes x none

  -- what isn't indeterminate then
  pub certain_there : (x : ℕ) → after_given shadow.indeterminate (joining_on (shadow_of board shadow) q) q.bytes x ≡ false
      → ((i : Place) → touches (joining_on (shadow_of board shadow) q) x (footprint_at shadow.clients i) ≡ false)
      → after_joining shadow.indeterminate (footprints_of shadow.clients) (joining_on (shadow_of board shadow) q) q.bytes x ≡ false
  certain_there x own_certain none =
      or_from (after_given shadow.indeterminate theirs q.bytes x) (list_any (touches theirs x) all) own_certain (are.none (touches theirs x) none)

  pub still_certain : (x : ℕ) → will_give board.memory.faults board.memory.regions q x ≡ false → shadow.indeterminate x ≡ false
      → after_given shadow.indeterminate (joining_on (shadow_of board shadow) q) q.bytes x ≡ false
  still_certain x none certain = rw none certain

  -- what nobody may write nobody touches
  pub untouched_there : (r : Footprint) (x : ℕ) → may_write r x ≡ false → touches (joining_on (shadow_of board shadow) q) x r ≡ false
  untouched_there r x none = grind (arith, none)

  -- a byte that it gives where nobody may write
  pub given_there : (x : ℕ) → will_give board.memory.faults board.memory.regions q x ≡ true
      → ((own board.memory.faults board.memory.regions q).reads ≡ true → shadow.indeterminate x ≡ false)
      → ((i : Place) → may_write (footprint_at shadow.clients i) x ≡ false)
      → (joining_on (shadow_of board shadow) q).determined x ≡ true
  given_there x gives_it known nobody =
      let parts = and_parts (own faults regions q).writes (is_some (given_at q.bytes (own faults regions q).address x)) gives_it in
      let covered : covers theirs x ≡ true = q_acts.within x parts.1 in
      let alone : list_any (λ r. may_write r x) all ≡ false = are.none (λ r. may_write r x) nobody in
      grind (arith, covered, alone, known)

  -- what another request gives that has begun still stands there, where this one may not write
  pub given_kept : (coming : Footprint) (client : ℕ) (other : WholeRequest) (x : ℕ)
      → HasBecome board.memory.faults board.memory.regions shadow.clients coming client other → coming.determined x ≡ true
      → will_give board.memory.faults board.memory.regions other x ≡ true
      → IsGiven board.memory.faults board.memory.regions shadow.bytes shadow.indeterminate other x
      → may_write (joining_on (shadow_of board shadow) q) x ≡ false
      → IsGiven board.memory.faults board.memory.regions (carry board.memory.faults board.memory.regions q shadow.bytes)
      (after_joining shadow.indeterminate (footprints_of shadow.clients) (joining_on (shadow_of board shadow) q) q.bytes) other x
  given_kept coming client other x become determined gives_it given none =
      record {
        byte = λ m. bytes_kept x not_given ∙ given.byte m;
        certain = certain_there x (still_certain x not_given given.certain) nobody;
      }
    where
      not_given : will_give faults regions q x ≡ false
      not_given = unwritten_there x none

      place : Place
      place = due_at client other.source

      its : footprint_at shadow.clients place ≡ become.other.footprint
      its = ap footprint_in become.there

      writes : (own faults regions other).writes ≡ true
      writes = (and_parts (own faults regions other).writes (is_some (given_at other.bytes (own faults regions other).address x)) gives_it).0

      its_determined : (footprint_at shadow.clients place).determined x ≡ true
      its_determined = ap (λ (r : Footprint). r.determined x) its ∙ become.becomes.less x writes determined

      nobody : (i : Place) → touches theirs x (footprint_at shadow.clients i) ≡ false
      nobody i = by_place (cases_place i place)
        where
          by_place : (i ≡ place) ⊎ (i ≡ place → ⊥) → touches theirs x (footprint_at shadow.clients i) ≡ false
          by_place (inl same) =
              let reads : (footprint_at shadow.clients i).reads ≡ false =
              ap (λ (p : Place). (footprint_at shadow.clients p).reads) same ∙ ap (λ (r : Footprint). r.reads) its
              ∙ reads_nothing faults regions coming other become.other become.becomes in
              grind (arith, reads)
          by_place (inr differ) =
              untouched_there (footprint_at shadow.clients i) x (explains.apart.apart place i x (λ same. differ (sym same)) its_determined)
