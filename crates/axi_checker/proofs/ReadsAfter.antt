-- The reads after an R beat: the oldest of its ID has one more, or is closed.
use Rattle.std.proofs.Common.{arith, ◌≡◌, ℕ, ◌+◌, Bool, true, false, List, [], ◌∷◌, refl, ap, sym, ◌∙◌, ◌<◌, ◌≤◌, get_or}
use Rattle.std.proofs.Math.ListN.{set}
use Rattle.std.proofs.lemmas.Bool.{lt-ltb, le-ltb}
use Rattle.std.specs.List.{position, remove}
use Rattle.std.specs.Prelude.{Some, find, nat_lt}
use Rattle.bus_words.specs.Places.{change_first, without_first}
use Rattle.bus_words.proofs.FirstPlaces.{position_is_first, find-first, change_first-first, without_first-first}
use Rattle.axi_checker.specs.OpenBursts.{OpenRead, read_of_id, reads_after}

-- whether R beats are to come after the next
abbrev pub goes_on : OpenRead → Bool
goes_on read = nat_lt read.came read.ar.len

-- a read that had one more of its R beats
abbrev pub one_more : OpenRead → OpenRead
one_more read = record read { came = read.came + 1 }

pub reads_after-goes_on : (id : ℕ) (reads : List OpenRead) (read : OpenRead) → find (read_of_id id) reads ≡ Some read → goes_on read ≡ true
    → reads_after id reads ≡ change_first (read_of_id id) one_more reads
reads_after-goes_on id [] read found goes = refl
reads_after-goes_on id (r ∷ rs) read found goes = grind (arith, reads_after-goes_on id rs read)

pub reads_after-closes : (id : ℕ) (reads : List OpenRead) (read : OpenRead) → find (read_of_id id) reads ≡ Some read → goes_on read ≡ false
    → reads_after id reads ≡ without_first (read_of_id id) reads
reads_after-closes id [] read found stops = refl
reads_after-closes id (r ∷ rs) read found stops = grind (arith, reads_after-closes id rs read)

-- the same at the place of the ID's oldest read
pub reads_after-set : (id k : ℕ) (reads : List OpenRead) (read : OpenRead) → position (read_of_id id) reads ≡ Some k → read ≡ get_or reads k read → read.came < read.ar.len
    → set reads k (one_more read) ≡ reads_after id reads
reads_after-set id k reads read place is few =
    let at = position_is_first (read_of_id id) reads k place in
    let found : find (read_of_id id) reads ≡ Some read = find-first (read_of_id id) reads k read at ∙ ap Some (sym is) in
    ap (λ r. set reads k (one_more r)) is
    ∙ sym (change_first-first (read_of_id id) one_more reads k read at)
    ∙ sym (reads_after-goes_on id reads read found (lt-ltb read.came read.ar.len few))

pub reads_after-remove : (id k : ℕ) (reads : List OpenRead) (read : OpenRead) → position (read_of_id id) reads ≡ Some k → read ≡ get_or reads k read → read.ar.len ≤ read.came
    → remove reads k ≡ reads_after id reads
reads_after-remove id k reads read place is all =
    let at = position_is_first (read_of_id id) reads k place in
    let found : find (read_of_id id) reads ≡ Some read = find-first (read_of_id id) reads k read at ∙ ap Some (sym is) in
    sym (without_first-first (read_of_id id) reads k at) ∙ sym (reads_after-closes id reads read found (le-ltb read.came read.ar.len all))
