-- Changes of the table of live requests by key, seen by what they make of the request of the key.
use Rattle.std.proofs.Common.{◌≡◌, ℕ, Bool, true, false, ◌&&◌, List, [], ◌∷◌, ◌⊎◌, refl, ap, arith}
use Rattle.std.specs.Prelude.{IfSome, IsSomeAnd, option_map}
use Rattle.bus_words.specs.Places.{change_first}
use Rattle.flight_table.specs.LiveRequests.{LiveRequest, awaits_write, finished, is_settled, with_answered, with_write}
use Rattle.flight_table.specs.Tables.{KeyedRequest, KeyedTable, change_entry, change_key, has_key, request_at, request_in}
use Rattle.bridge_core.specs.Inside.{IsUndone, settled_flight}

entries_same : (key : ℕ) (f g : LiveRequest → LiveRequest) (entries : List KeyedRequest) → IfSome (request_in key entries) (λ r. f r ≡ g r)
    → change_first (has_key key) (change_entry f) entries ≡ change_first (has_key key) (change_entry g) entries
entries_same key f g [] same = refl
entries_same key f g (e ∷ es) same = grind (arith, entries_same key f g es)

-- two changes that make the same of the request of a key are the same change
pub change_same : (key : ℕ) (f g : LiveRequest → LiveRequest) (table : KeyedTable) → IfSome (request_at key table) (λ r. f r ≡ g r) → change_key key f table ≡ change_key key g table
change_same key f g table same = ap (λ (l : List KeyedRequest). record table { entries = l }) (entries_same key f g table.entries same)

entries_kept : (key : ℕ) (g : LiveRequest → LiveRequest) (entries : List KeyedRequest) → IfSome (request_in key entries) (λ r. r ≡ g r) → entries ≡ change_first (has_key key) (change_entry g) entries
entries_kept key g [] same = refl
entries_kept key g (e ∷ es) same = grind (arith, entries_kept key g es)

-- one that leaves the request as it is leaves the table
pub change_none : (key : ℕ) (g : LiveRequest → LiveRequest) (table : KeyedTable) → IfSome (request_at key table) (λ r. r ≡ g r) → table ≡ change_key key g table
change_none key g table same = ap (λ (l : List KeyedRequest). record table { entries = l }) (entries_kept key g table.entries same)

entries_twice : (key : ℕ) (f g : LiveRequest → LiveRequest) (entries : List KeyedRequest)
    → change_first (has_key key) (change_entry g) (change_first (has_key key) (change_entry f) entries) ≡ change_first (has_key key) (change_entry (λ r. g (f r))) entries
entries_twice key f g [] = refl
entries_twice key f g (e ∷ es) = grind (arith, entries_twice key f g es)

pub change_twice : (key : ℕ) (f g : LiveRequest → LiveRequest) (table : KeyedTable) → change_key key g (change_key key f table) ≡ change_key key (λ r. g (f r)) table
change_twice key f g table = ap (λ (l : List KeyedRequest). record table { entries = l }) (entries_twice key f g table.entries)

-- the request of a key after a change
pub request_changed : (key : ℕ) (f : LiveRequest → LiveRequest) (entries : List KeyedRequest) → request_in key (change_first (has_key key) (change_entry f) entries) ≡ option_map f (request_in key entries)
request_changed key f [] = refl
request_changed key f (e ∷ es) = grind (arith, request_changed key f es)

-- ---- settling

pub settled_none : (key : ℕ) (found : Bool) (table : KeyedTable) → IfSome (request_at key table) (λ r. false ≡ is_settled r) → table ≡ change_key key (settled_flight found) table
settled_none key found table is = change_none key (settled_flight found) table (grind arith)

pub settled_write : (key : ℕ) (found : Bool) (table : KeyedTable) → found ≡ true → IfSome (request_at key table) (λ r. true ≡ awaits_write r) → change_key key with_write table ≡ change_key key (settled_flight found) table
settled_write key found table is awaits = change_same key with_write (settled_flight found) table (grind arith)

pub not_both : (answer found : Bool) → (((answer ≡ true) × (found ≡ false)) ⊎ (answer ≡ false)) → (answer && found) ≡ false
not_both answer found either = grind arith

pub settled_finished : (key : ℕ) (found answer : Bool) (table : KeyedTable) → IsSomeAnd (request_at key table) (IsUndone found) → IfSome (request_at key table) (λ r. true ≡ is_settled r)
    → IfSome (request_at key table) (λ r. answer ≡ awaits_write r) → (answer && found) ≡ false → change_key key finished table ≡ change_key key (settled_flight found) table
settled_finished key found answer table undone settled awaits none = change_same key finished (settled_flight found) table (grind arith)

-- what was asked of a request holds of it after one more answer
pub undone_answered : (key : ℕ) (found : Bool) (old new : KeyedTable) → new ≡ change_key key with_answered old → IsSomeAnd (request_at key old) (IsUndone found) → IsSomeAnd (request_at key new) (IsUndone found)
undone_answered key found old new is undone = rw (is, request_changed key with_answered old.entries) (grind arith)
