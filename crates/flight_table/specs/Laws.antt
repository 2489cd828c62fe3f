-- What is true of every table that the calls make (this project's profile).
use Rattle.std.specs.Prelude.{ℕ, ◌≡◌, ◌+◌, ◌<◌, ◌≤◌, true, false, List, [], ◌∷◌, length, map, filter, None, IfSome, IsSome, ⊤}
use Rattle.std.specs.List.{AllByRecursion}
use Rattle.bus_words.specs.Places.{AreDistinct}
use Rattle.tl_messages.specs.Operations.{has_data, reply_has_data}
use Rattle.flight_table.specs.LiveRequests.{LiveRequest, all_sent, planned}
use Rattle.flight_table.specs.Order.{holds_id, is_held}
use Rattle.flight_table.specs.Tables.{FlightTable, KeyedRequest, KeyedTable, has_source, live_of, table_of}
use Rattle.flight_table.specs.declared.TableLimits.{TableLimits}

-- what a table may be made for
pub record AreLimits (limits : TableLimits) : Type 0 where
  pub some_clients : 1 ≤ limits.clients
  pub most_clients : limits.clients ≤ 8
  pub some_quota : 1 ≤ limits.quota
  pub most_quota : limits.quota ≤ 8
  pub some_ids : 1 ≤ limits.ids
  pub most_ids : limits.ids ≤ 16
  pub some_depth : 1 ≤ limits.depth
  pub most_depth : limits.depth ≤ 4

-- a request keeps to the limits; one that reads has data in its reply, and one that writes has data of its own; one that isn't done holds an ID
-- once it sent a burst and not before, and one that is done holds none
pub record IsSoundRequest (limits : TableLimits) (accepted : ℕ) (request : LiveRequest) : Type 0 where
  pub number : request.number < accepted
  pub client : request.client < limits.clients
  pub reads : request.writing ≡ false → reply_has_data request.operation ≡ true
  pub writes : request.writing ≡ true → request.done ≡ false → has_data request.operation ≡ true
  pub sent : request.sent ≤ length (planned request)
  pub answered : request.answered ≤ request.sent
  pub depth : request.sent ≤ request.answered + limits.depth
  pub id : IfSome request.id (λ id. id < limits.ids)
  pub holds : request.done ≡ false → 0 < all_sent request → IsSome request.id
  pub unsent : all_sent request ≡ 0 → request.id ≡ None
  pub freed : request.done ≡ true → request.id ≡ None
  pub no_plan : request.plan ≡ None → request.done ≡ true

-- numbers that rise, so no two are the same
abbrev pub AreRising : List ℕ → Type 0
AreRising [] = ⊤
AreRising (n ∷ ns) = AllByRecursion (λ m. n < m) ns × AreRising ns

-- numbers rise; an ID is held by one request at most; of two requests that conflict and aren't done, the one that was accepted later holds no ID, so
-- it has sent nothing; no client has more live requests than it may have, or two of the same source
pub record IsSoundTable (table : FlightTable) : Type 0 where
  pub requests : AllByRecursion (IsSoundRequest table.limits table.accepted) table.live
  pub rising : AreRising (map (λ request. request.number) table.live)
  pub one_holder : (id : ℕ) → length (filter (holds_id id) table.live) ≤ 1
  pub in_order : AllByRecursion (λ request. request.done ≡ false → is_held table.live request ≡ true → request.id ≡ None) table.live
  pub few : (client : ℕ) → length (live_of client table.live) ≤ table.limits.quota
  pub own_sources : (client source : ℕ) → length (filter (has_source client source) table.live) ≤ 1

-- each key names one request
abbrev pub HaveOwnKeys : List KeyedRequest → Type 0
HaveOwnKeys entries = AreDistinct (map (λ entry. entry.key) entries)

pub record IsSound (keyed : KeyedTable) : Type 0 where
  pub limits : AreLimits keyed.limits
  pub table : IsSoundTable (table_of keyed)
  pub keys : HaveOwnKeys keyed.entries
