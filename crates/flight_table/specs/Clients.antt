-- What is kept of each client's live requests.
use Rattle.std.specs.Prelude.{◌≡◌, ◌<◌, ℕ, ◌==◌, Bool, true, List, map, filter}
use Rattle.std.specs.List.{AllByRecursion, range_with_len}
use Rattle.flight_table.specs.Tables.{KeyedRequest, is_of, requests_of}
use Rattle.flight_table.specs.declared.clients.OwnRequest.{OwnRequest}

-- the part of a request that its client's calls ask for
abbrev pub own_part : KeyedRequest → OwnRequest
own_part entry = record { key = entry.key; source = entry.request.source; done = entry.request.done }

abbrev pub has_own_key : ℕ → OwnRequest → Bool
has_own_key key own = own.key == key

abbrev pub has_own_source : ℕ → OwnRequest → Bool
has_own_source source own = own.source == source

abbrev pub own_done : OwnRequest → Bool
own_done own = own.done

abbrev pub own_finished : OwnRequest → OwnRequest
own_finished own = record { key = own.key; source = own.source; done = true }

-- a client's live requests, in the order of acceptance
abbrev pub own_requests : List KeyedRequest → ℕ → List OwnRequest
own_requests entries client = map own_part (filter (λ entry. is_of client entry.request) entries)

-- those of each of so many clients
abbrev pub requests_of_clients : ℕ → List KeyedRequest → List (List OwnRequest)
requests_of_clients clients entries = map (own_requests entries) (range_with_len 0 clients)

-- what is kept is what it says, and no live request is of another client
pub record AreOwned (clients : ℕ) (entries : List KeyedRequest) (kept : List (List OwnRequest)) : Type 0 where
  pub lists : kept ≡ requests_of_clients clients entries
  pub few : AllByRecursion (λ request. request.client < clients) (requests_of entries)
