-- What a live request gathers stays what serial execution says: of a new one, of one that sent a burst, of one whose burst was answered, and of
-- one that is settled after it. It knows one request and how its counts move; the answers themselves are hidden.
use Rattle.std.specs.List.{enumerate_from}
use Rattle.std.proofs.Common.{◌≡◌, ℕ, zero, suc, ◌+◌, ◌<◌, ◌⊎◌, min, Bool, true, false, not, ◌&&◌, List, [], ◌∷◌, ◌++◌, length, Option, Some, None, is_some, if◌then◌else◌, refl, sym, subst, ◌∙◌, ap, arith, inl, inr, length-append, ◌≤◌, slice_get}
use Rattle.std.proofs.lemmas.List.Elements.{All-nil, All-push}
use Rattle.std.proofs.lemmas.Bool.{and_parts}
use Rattle.std.proofs.lemmas.Option.{same_Some}
use Rattle.tl_messages.specs.Operations.{has_data, reply_has_data}
use Rattle.tl_messages.specs.Requests.{HeldMessage, request_of}
use Rattle.axi_beats.specs.Responses.{is_okay}
use Rattle.axi_beats.specs.declared.RBeat.{RBeat}
use Rattle.axi_beats.specs.declared.Resp.{Resp}
use Rattle.axi_beats.specs.Transfers.{transfer_has}
use Rattle.burst_plan.specs.declared.Piece.{Piece}
use Rattle.responses.specs.Answers.{after_reads, after_writes, gathering_after}
use Rattle.responses.specs.Gathered.{Gathering, after_b, after_r, gathering_of, reads_of}
use Rattle.responses.specs.declared.gather.Outline.{Outline}
use Rattle.flight_table.specs.LiveRequests.{finished, is_settled, with_answered, with_write, planned}
use Rattle.bridge_core.specs.HeldRequests.{BridgedRequest, RequestTable, after_sending, newly_live, outline_in, settled, value_found}
use Rattle.burst_plan.specs.PageMap.{address_of}
use Rattle.bridge_core.proofs.ResponseLinks.{not_so}
use Rattle.bridge_core.proofs.ServedRequests.{atomic_first}
use Rattle.subordinate.specs.Faults.{read_response, standing_at, write_response}
use Rattle.world.proofs.Settled.{settled_has, settled_message, settled_number}
use Rattle.world_run.specs.InOrder.{HasGathered, IsGathered, TellsAt, IsInItsTurn}
use Rattle.world_run.specs.Serial.{Order, asked, writes}

-- ---- a new request

nothing_told : (order : Order) (table : RequestTable) (bus_bytes : ℕ) (message : HeldMessage) (place : Option ℕ) → address_of table.regions (request_of message) ≡ place
    → IsGathered order bus_bytes (newly_live table message) place
nothing_told order table bus_bytes message None at = rw at refl
nothing_told order table bus_bytes message (Some address) at =
    record {
      reads = [];
      responses = [];
      gathered = rw at refl;
      came = refl;
      answered = grind arith;
      tell = λ place r there. absurd (cc (there));
      responded = All-nil (λ (resp : Resp). resp ≡ write_response (standing_at order.faults address));
      readable = λ atomic writing. absurd (atomic_first (reply_has_data message.operation) (has_data message.operation) atomic writing);
    }

-- a new request has gathered nothing
pub gathered-start : (order : Order) (table : RequestTable) (bus_bytes : ℕ) (message : HeldMessage) → table.regions ≡ order.regions
    → IsGathered order bus_bytes (newly_live table message) (address_of order.regions (request_of message))
gathered-start order table bus_bytes message same = nothing_told order table bus_bytes message (address_of order.regions (request_of message)) (ap (λ regions. address_of regions (request_of message)) same)

-- ---- a change of the place in the order of bursts alone

-- a request that sends another burst, plans its write, or is finished
pub gathered-sent : (order : Order) (bus_bytes id : ℕ) (request : BridgedRequest) (place : Option ℕ) → IsGathered order bus_bytes request place → IsGathered order bus_bytes (after_sending id request) place
gathered-sent order bus_bytes id request None told = told
gathered-sent order bus_bytes id request (Some address) told =
    record {
      reads = told.reads;
      responses = told.responses;
      gathered = told.gathered;
      came = told.came;
      answered = told.answered;
      tell = λ place r there. let t = told.tell place r there in record { response = t.response; bytes = t.bytes };
      responded = told.responded;
      readable = told.readable;
    }

writes_now : (order : Order) (bus_bytes : ℕ) (request : BridgedRequest) (address : ℕ) → is_okay (read_response order.faults address) ≡ true → request.flight.writing ≡ false
    → HasGathered order bus_bytes request address → HasGathered order bus_bytes (record request { flight = with_write request.flight }) address
writes_now order bus_bytes request address okay reads told =
    record {
      reads = told.reads;
      responses = told.responses;
      gathered = told.gathered;
      came = told.came;
      answered = told.answered ∙ rw reads refl;
      tell = λ place r there. let t = told.tell place r there in record { response = t.response; bytes = t.bytes };
      responded = told.responded;
      readable = λ atomic writing. okay;
    }

ends_now : (order : Order) (bus_bytes : ℕ) (request : BridgedRequest) (address : ℕ) → HasGathered order bus_bytes request address → HasGathered order bus_bytes (record request { flight = finished request.flight }) address
ends_now order bus_bytes request address told =
    record {
      reads = told.reads;
      responses = told.responses;
      gathered = told.gathered;
      came = told.came;
      answered = told.answered;
      tell = λ place r there. let t = told.tell place r there in record { response = t.response; bytes = t.bytes };
      responded = told.responded;
      readable = told.readable;
    }

-- where an atomic that has found its old value can be read
pub settled_gathered : (order : Order) (bus_bytes : ℕ) (request : BridgedRequest) (address : ℕ)
    → (is_settled request.flight ≡ true → (not request.flight.writing && is_some (value_found request)) ≡ true → is_okay (read_response order.faults address) ≡ true)
    → HasGathered order bus_bytes request address → HasGathered order bus_bytes (settled request) address
settled_gathered order bus_bytes request address readable told = by_flag (is_settled request.flight) refl
  where
    by_value : (b : Bool) → (not request.flight.writing && is_some (value_found request)) ≡ b → is_settled request.flight ≡ true
        → HasGathered order bus_bytes (record request { flight = if b then with_write request.flight else finished request.flight }) address
    by_value true found settles =
        writes_now order bus_bytes request address (readable settles found) (not_so request.flight.writing (and_parts (not request.flight.writing) (is_some (value_found request)) found).0) told
    by_value false found settles = ends_now order bus_bytes request address told

    by_flag : (b : Bool) → is_settled request.flight ≡ b
        → HasGathered order bus_bytes
        (if b
        then record request { flight = if not request.flight.writing && is_some (value_found request) then with_write request.flight else finished request.flight }
        else request)
        address
    by_flag true settles = by_value (not request.flight.writing && is_some (value_found request)) refl settles
    by_flag false going = told

-- ---- a further read

last_or_before : (reads : List RBeat) (r other : RBeat) (place : ℕ) → slice_get (reads ++ r ∷ []) place ≡ Some other → (slice_get reads place ≡ Some other) ⊎ ((place ≡ length reads) × (other ≡ r))
last_or_before [] r other zero there = inr (refl, sym (same_Some r other there))
last_or_before [] r other (suc place) there = absurd (cc (there))
last_or_before (first ∷ reads) r other zero there = inl there
last_or_before (first ∷ reads) r other (suc place) there =
    elim (last_or_before reads r other place there) [
      | inl before ↦ inl before
      | inr last ↦ inr (ap suc last.0, last.1)
    ]

one_more_read : (bus_bytes : ℕ) (outline : Outline) (reads : List RBeat) (r : RBeat) (from : ℕ) (g : Gathering)
    → after_reads bus_bytes outline (enumerate_from from (reads ++ r ∷ [])) g ≡ after_r bus_bytes outline r (from + length reads) (after_reads bus_bytes outline (enumerate_from from reads) g)
one_more_read bus_bytes outline [] r from g = let start : from ≡ from + 0 = omega arith in ap (λ place. after_r bus_bytes outline r place g) start
one_more_read bus_bytes outline (first ∷ reads) r from g =
    let next : from + 1 + length reads ≡ from + suc (length reads) = omega arith in
    one_more_read bus_bytes outline reads r (from + 1) (after_r bus_bytes outline first from g)
    ∙ ap (λ place. after_r bus_bytes outline r place (after_reads bus_bytes outline (enumerate_from (from + 1) reads) (after_r bus_bytes outline first from g))) next

-- one more read, before the request is settled
abbrev pub with_read_told : ℕ → RBeat → Bool → BridgedRequest → BridgedRequest
with_read_told bus_bytes r last request =
    record request {
      flight = if last then with_answered request.flight else request.flight;
      gathering = after_r bus_bytes (outline_in request) r request.gathering.came request.gathering;
    }

-- it is gathered behind those that came before it
read_behind : (bus_bytes : ℕ) (outline : Outline) (g : Gathering) (reads : List RBeat) (responses : List Resp) (r : RBeat) → g ≡ gathering_after bus_bytes outline (record { reads = enumerate_from 0 reads; writes = responses })
    → length reads ≡ g.came → responses ≡ [] → after_r bus_bytes outline r g.came g ≡ gathering_after bus_bytes outline (record { reads = enumerate_from 0 (reads ++ r ∷ []); writes = responses })
read_behind bus_bytes outline g reads responses r is came none = grind (arith, one_more_read, is, came, none)

pub read_told : (order : Order) (bus_bytes : ℕ) (request : BridgedRequest) (address : ℕ) (r : RBeat) → (told : HasGathered order bus_bytes request address) → told.responses ≡ []
    → request.gathering.came < reads_of bus_bytes (outline_in request) → request.flight.writing ≡ false → TellsAt order bus_bytes request address request.gathering.came r
    → (last : Bool) → HasGathered order bus_bytes (with_read_told bus_bytes r last request) address
read_told order bus_bytes request address r told none few reads tells = by_last
  where
    came : length (told.reads ++ r ∷ []) ≡ min (request.gathering.came + 1) (reads_of bus_bytes (outline_in request))
    came = length-append told.reads (r ∷ []) ∙ omega (arith, told.came, few)

    behind : after_r bus_bytes (outline_in request) r request.gathering.came request.gathering
        ≡ gathering_after bus_bytes (outline_in request) (record { reads = enumerate_from 0 (told.reads ++ r ∷ []); writes = told.responses })
    behind = read_behind bus_bytes (outline_in request) request.gathering told.reads told.responses r told.gathered told.came none

    tell : (place : ℕ) (other : RBeat) → slice_get (told.reads ++ r ∷ []) place ≡ Some other → TellsAt order bus_bytes request address place other
    tell place other there =
        elim (last_or_before told.reads r other place there) [
          | inl before ↦ told.tell place other before
          | inr last ↦
              subst (λ n. TellsAt order bus_bytes request address n other) (sym (last.0 ∙ told.came))
              (subst (λ (beat : RBeat). TellsAt order bus_bytes request address request.gathering.came beat) (sym last.1) tells)
        ]

    by_last : (last : Bool) → HasGathered order bus_bytes (with_read_told bus_bytes r last request) address
    by_last true =
        record {
          reads = told.reads ++ r ∷ [];
          responses = told.responses;
          gathered = behind;
          came = came;
          answered = rw reads (rw reads at told.answered);
          tell = λ place other there. let t = tell place other there in record { response = t.response; bytes = t.bytes };
          responded = told.responded;
          readable = told.readable;
        }
    by_last false =
        record {
          reads = told.reads ++ r ∷ [];
          responses = told.responses;
          gathered = behind;
          came = came;
          answered = told.answered;
          tell = λ place other there. let t = tell place other there in record { response = t.response; bytes = t.bytes };
          responded = told.responded;
          readable = told.readable;
        }

-- ---- a further response

one_more_write : (writes : List Resp) (resp : Resp) (g : Gathering) → after_writes (writes ++ resp ∷ []) g ≡ after_b resp (after_writes writes g)
one_more_write [] resp g = refl
one_more_write (first ∷ writes) resp g = one_more_write writes resp (after_b first g)

-- one more response, before the request is settled
abbrev pub with_response_told : Resp → BridgedRequest → BridgedRequest
with_response_told resp request = record request { flight = with_answered request.flight; gathering = after_b resp request.gathering }

pub response_told : (order : Order) (bus_bytes : ℕ) (request : BridgedRequest) (address : ℕ) (resp : Resp) → request.flight.writing ≡ true
    → resp ≡ write_response (standing_at order.faults address) → HasGathered order bus_bytes request address → HasGathered order bus_bytes (with_response_told resp request) address
response_told order bus_bytes request address resp writes is told =
    record {
      reads = told.reads;
      responses = told.responses ++ resp ∷ [];
      gathered =
          ap (after_b resp) told.gathered
          ∙ sym (one_more_write told.responses resp (after_reads bus_bytes (outline_in request) (enumerate_from 0 told.reads) (gathering_of (outline_in request) false)));
      came = told.came;
      answered = rw writes (omega (arith, rw writes at told.answered, length-append told.responses (resp ∷ [])));
      tell = λ place r there. let t = told.tell place r there in record { response = t.response; bytes = t.bytes };
      responded = All-push (λ (other : Resp). other ≡ write_response (standing_at order.faults address)) told.responses resp told.responded is;
      readable = told.readable;
    }

-- ---- it is in order

-- what its answered writes put is written
abbrev pub HasWritten : Order → (ℕ → ℕ → Bool) → BridgedRequest → Type 0
HasWritten order wrote request =
    request.flight.writing ≡ true → (k n x : ℕ) (piece : Piece) → k < request.flight.answered → slice_get (planned request.flight) k ≡ Some piece → 1 ≤ n → n ≤ piece.len + 1
    → transfer_has piece.address piece.size n x ≡ true → writes order request.flight.number x ≡ true → wrote request.flight.number x ≡ true

abbrev pub IsUnwritten : (ℕ → ℕ → Bool) → BridgedRequest → Type 0
IsUnwritten wrote request = request.flight.writing ≡ false → (x : ℕ) → wrote request.flight.number x ≡ false

settled_written : (order : Order) (wrote : ℕ → ℕ → Bool) (request : BridgedRequest) → HasWritten order wrote request → HasWritten order wrote (settled request)
settled_written order wrote request written = settled_has (HasWritten order wrote) request written (λ reads writes k n x piece below. absurd (omega (arith, below))) written

settled_unwritten : (wrote : ℕ → ℕ → Bool) (request : BridgedRequest) → IsUnwritten wrote request → IsUnwritten wrote (settled request)
settled_unwritten wrote request none = settled_has (IsUnwritten wrote) request none (λ reads isnt x. absurd (cc (isnt))) none

-- of a write that isn't sent nothing is written
abbrev pub IsUnsent : (ℕ → ℕ → Bool) → BridgedRequest → Type 0
IsUnsent wrote request =
    request.flight.writing ≡ true → (k n x : ℕ) (piece : Piece) → request.flight.sent ≤ k → slice_get (planned request.flight) k ≡ Some piece → n ≤ piece.len
    → transfer_has piece.address piece.size (n + 1) x ≡ true → wrote request.flight.number x ≡ false

-- nor of one that an atomic plans now
settled_unsent : (wrote : ℕ → ℕ → Bool) (request : BridgedRequest) → IsUnwritten wrote request → IsUnsent wrote request → IsUnsent wrote (settled request)
settled_unsent wrote request none unsent = settled_has (IsUnsent wrote) request unsent (λ reads writes k n x piece past there within has. none reads x) unsent

pub settled_in_order : (order : Order) (bus_bytes : ℕ) (wrote : ℕ → ℕ → Bool) (request : BridgedRequest) → asked order request.flight.number ≡ Some (request_of request.message) → IsUnwritten wrote request → IsUnsent wrote request → HasWritten order wrote request
    → IsGathered order bus_bytes (settled request) (address_of order.regions (request_of request.message)) → IsInItsTurn order bus_bytes wrote (settled request)
settled_in_order order bus_bytes wrote request is_asked none unsent written told =
    record {
      asked = ap (asked order) (settled_number request) ∙ is_asked ∙ ap (λ m. Some (request_of m)) (sym (settled_message request));
      unwritten = settled_unwritten wrote request none;
      unsent = settled_unsent wrote request none unsent;
      written = settled_written order wrote request written;
      gathered = subst (λ m. IsGathered order bus_bytes (settled request) (address_of order.regions (request_of m))) (sym (settled_message request)) told;
    }
