-- The table of live requests, and their keys (this project's profile).
use Rattle.std.specs.Prelude.{ℕ, ◌+◌, ◌==◌, Bool, ◌&&◌, not, List, [], ◌∷◌, ◌++◌, map, length, Option, find, filter, nat_lt, option_map, option_and_then}
use Rattle.std.specs.List.{list_any}
use Rattle.bus_words.specs.Places.{change_first, without_first}
use Rattle.flight_table.specs.LiveRequests.{LiveRequest}
use Rattle.flight_table.specs.declared.TableLimits.{TableLimits}

-- how many requests were accepted, and those that are live, by rising number
pub record FlightTable : Type 0 where
  pub limits : TableLimits
  pub accepted : ℕ
  pub live : List LiveRequest

-- the request with this number
abbrev pub has_number : ℕ → LiveRequest → Bool
has_number number request = request.number == number

abbrev pub flight_of : FlightTable → ℕ → Option LiveRequest
flight_of table number = find (has_number number) table.live

-- a client's live requests
abbrev pub is_of : ℕ → LiveRequest → Bool
is_of client request = request.client == client

abbrev pub live_of : ℕ → List LiveRequest → List LiveRequest
live_of client live = filter (is_of client) live

-- whether a client has fewer live requests than it may have
abbrev pub has_room : FlightTable → ℕ → Bool
has_room table client = nat_lt (length (live_of client table.live)) table.limits.quota

-- whether a live request of this client has this source
abbrev pub has_source : ℕ → ℕ → LiveRequest → Bool
has_source client source request = is_of client request && request.source == source

abbrev pub is_busy : FlightTable → ℕ → ℕ → Bool
is_busy table client source = list_any (has_source client source) table.live

-- a client's request that is done
abbrev pub is_done_of : ℕ → LiveRequest → Bool
is_done_of client request = is_of client request && request.done

abbrev pub oldest_done : FlightTable → ℕ → Option LiveRequest
oldest_done table client = find (is_done_of client) table.live

-- a request that was accepted and isn't done
abbrev pub is_undone : LiveRequest → Bool
is_undone request = not request.done

-- how many requests are accepted and not done
abbrev pub in_flight : FlightTable → ℕ
in_flight table = length (filter is_undone table.live)

-- ---- changes, by number

abbrev pub with_request : LiveRequest → FlightTable → FlightTable
with_request request table = record table { accepted = table.accepted + 1; live = table.live ++ request ∷ [] }

abbrev pub change_number : ℕ → (LiveRequest → LiveRequest) → FlightTable → FlightTable
change_number number change table = record table { live = change_first (has_number number) change table.live }

abbrev pub without_number : ℕ → FlightTable → FlightTable
without_number number table = record table { live = without_first (has_number number) table.live }

-- ---- keys

-- a live request, and the key by which calls name it
pub record KeyedRequest : Type 0 where
  pub key : ℕ
  pub request : LiveRequest

-- the table with the keys of its live requests
pub record KeyedTable : Type 0 where
  pub limits : TableLimits
  pub accepted : ℕ
  pub entries : List KeyedRequest

abbrev pub requests_of : List KeyedRequest → List LiveRequest
requests_of entries = map (λ entry. entry.request) entries

abbrev pub table_of : KeyedTable → FlightTable
table_of keyed = record { limits = keyed.limits; accepted = keyed.accepted; live = requests_of keyed.entries }

abbrev pub has_key : ℕ → KeyedRequest → Bool
has_key key entry = entry.key == key

-- the live request of a key
abbrev pub request_in : ℕ → List KeyedRequest → Option LiveRequest
request_in key entries = option_map (λ entry. entry.request) (find (has_key key) entries)

abbrev pub request_at : ℕ → KeyedTable → Option LiveRequest
request_at key keyed = request_in key keyed.entries

-- the live request of a key, if there is a key
abbrev pub request_named : Option ℕ → KeyedTable → Option LiveRequest
request_named key keyed = option_and_then (λ k. request_at k keyed) key

-- the key of the first live request that passes a test
abbrev pub key_in : (LiveRequest → Bool) → List KeyedRequest → Option ℕ
key_in test entries = option_map (λ entry. entry.key) (find (λ entry. test entry.request) entries)

abbrev pub key_where : (LiveRequest → Bool) → KeyedTable → Option ℕ
key_where test keyed = key_in test keyed.entries

abbrev pub change_entry : (LiveRequest → LiveRequest) → KeyedRequest → KeyedRequest
change_entry change entry = record entry { request = change entry.request }

abbrev pub change_key : ℕ → (LiveRequest → LiveRequest) → KeyedTable → KeyedTable
change_key key change keyed = record keyed { entries = change_first (has_key key) (change_entry change) keyed.entries }

abbrev pub without_key : ℕ → KeyedTable → KeyedTable
without_key key keyed = record keyed { entries = without_first (has_key key) keyed.entries }

abbrev pub with_entry : KeyedRequest → KeyedTable → KeyedTable
with_entry entry keyed = record keyed { accepted = keyed.accepted + 1; entries = keyed.entries ++ entry ∷ [] }
