-- How the live requests lie in a slab, and the index of their keys.
use Rattle.std.specs.Prelude.{◌≡◌, ℕ, ◌<◌, ◌≤◌, ⊤, Option, Some, filter, slice_set, ◌-◌, ◌==◌, Bool, false, ◌&&◌, not, List, [], ◌∷◌, map, length, None, is_some, nat_lt, unwrap_or, slice_index_or, suc, if◌then◌else◌}
use Rattle.std.specs.List.{AllByRecursion, list_any, range_with_len}
use Rattle.bus_words.specs.Places.{AreDistinct}
use Rattle.slab.specs.Slab.{Slab, get, ContainsKey, slab_len}
use Rattle.tl_messages.specs.declared.Operation.TheVariants.{Get}
use Rattle.flight_table.specs.LiveRequests.{LiveRequest, next_piece, unanswered}
use Rattle.flight_table.specs.Order.{holders, holds_id}
use Rattle.flight_table.specs.Tables.{KeyedRequest, KeyedTable, key_in}
use Rattle.flight_table.specs.declared.TableLimits.{TableLimits}

-- what stands in where a key has no request
abbrev pub no_request : LiveRequest
no_request =
    record { number = 0; client = 0; source = 0; operation = Get; plan = None; id = None; writing = false; sent = 0; answered = 0; done = false }

abbrev pub stored : Slab LiveRequest → ℕ → LiveRequest
stored slab key = unwrap_or (get slab key) no_request

abbrev pub entry_in : Slab LiveRequest → ℕ → KeyedRequest
entry_in slab key = record { key = key; request = stored slab key }

-- the requests with their keys, in the order of the index
abbrev pub entries_in : Slab LiveRequest → List ℕ → List KeyedRequest
entries_in slab keys = map (entry_in slab) keys

-- the index has each key of the slab once
pub record IsIndex (slab : Slab LiveRequest) (keys : List ℕ) : Type 0 where
  pub there : AllByRecursion (ContainsKey slab) keys
  pub distinct : AreDistinct keys
  pub count : length keys ≡ slab_len slab

-- the slots of the keys hold their places, which rise from this one
abbrev pub ArePlaces : ℕ → List ℕ → List ℕ → Type 0
ArePlaces place places [] = ⊤
ArePlaces place places (key ∷ keys) = (slice_index_or places key 0 ≡ place) × ArePlaces (suc place) places keys

-- a place, after the request at this one was taken out
abbrev pub lowered_place : ℕ → ℕ → ℕ
lowered_place place other = other - (if nat_lt place other then 1 else 0)

-- ---- what is kept by place

-- the live requests with their keys, and the limits of their table
pub record LiveEntries : Type 0 where
  pub limits : TableLimits
  pub entries : List KeyedRequest

abbrev pub with_entries : List KeyedRequest → LiveEntries → LiveEntries
with_entries entries live = record live { entries = entries }

-- the table of so many accepted requests
abbrev pub keyed_of : ℕ → LiveEntries → KeyedTable
keyed_of accepted live = record { limits = live.limits; accepted = accepted; entries = live.entries }

-- whether a burst is open: planned, unsent and within the depth
abbrev pub is_open : ℕ → LiveRequest → Bool
is_open depth request = not request.done && is_some (next_piece request) && nat_lt (unanswered request) depth

-- and its request holds an ID
abbrev pub is_named : ℕ → LiveRequest → Bool
is_named depth request = is_open depth request && is_some request.id

-- how many hold back a request
abbrev pub count_holders : List LiveRequest → LiveRequest → ℕ
count_holders live request = length (holders live request)

-- what is kept is what it says: which bursts are open, which of their requests hold an ID, and which nobody holds back
pub record IsKept (depth : ℕ) (live : List LiveRequest) (open_marks named_marks free_marks : List Bool) : Type 0 where
  pub open_bursts : open_marks ≡ map (is_open depth) live
  pub named_bursts : named_marks ≡ map (is_named depth) live
  pub free : free_marks ≡ map (λ request. count_holders live request == 0) live

-- what sending and answering make of a request that isn't done; nothing that tells whose it is, or whom it holds back
pub record IsProgress (old new : LiveRequest) : Type 0 where
  pub number : new.number ≡ old.number
  pub client : new.client ≡ old.client
  pub source : new.source ≡ old.source
  pub operation : new.operation ≡ old.operation
  pub plan : new.plan ≡ old.plan
  pub done : new.done ≡ old.done

-- ---- what is kept by ID

-- the holders of the IDs, after the request of a key held the one and holds the other
abbrev pub renamed : ℕ → Option ℕ → Option ℕ → List (Option ℕ) → List (Option ℕ)
renamed key None None holders = holders
renamed key None (Some id) holders = slice_set holders id (Some key)
renamed key (Some old) None holders = slice_set holders old None
renamed key (Some old) (Some id) holders = holders

-- of which so many are kept
abbrev pub CanRename : ℕ → Option ℕ → Option ℕ → Type 0
CanRename ids None None = ⊤
CanRename ids None (Some id) = id < ids
CanRename ids (Some old) None = old < ids
CanRename ids (Some old) (Some id) = ⊤

-- the key of the request that holds each of so many IDs
abbrev pub holders_of_ids : ℕ → List KeyedRequest → List (Option ℕ)
holders_of_ids ids entries = map (λ id. key_in (holds_id id) entries) (range_with_len 0 ids)

-- what a request may do with its ID before it is done: keep it, or take one that is free
abbrev pub MayName : ℕ → List LiveRequest → Option ℕ → Option ℕ → Type 0
MayName ids live None None = ⊤
MayName ids live None (Some id) = (id < ids) × (list_any (holds_id id) live ≡ false)
MayName ids live (Some old) None = ⊥
MayName ids live (Some old) (Some id) = old ≡ id

-- an ID that one request holds at most
abbrev pub HasOneHolder : ℕ → List LiveRequest → ℕ → Type 0
HasOneHolder ids live id = (id < ids) × (length (filter (holds_id id) live) ≤ 1)
