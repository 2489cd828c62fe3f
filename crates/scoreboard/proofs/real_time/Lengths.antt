-- How many beats replies have, and what is left of them.
use Rattle.std.proofs.Common.{◌≡◌, ◌+◌, ◌<◌, true, false, List, length, drop, Some, arith}
use Rattle.std.specs.Prelude.{is_some}
use Rattle.std.proofs.lemmas.Bool.{leb-false, lt-leb}
use Rattle.std.proofs.lemmas.List.{length-drop}
use Rattle.std.proofs.lemmas.List.FromFn.{length-map-range_with_len}
use Rattle.tl_messages.specs.Operations.{beats_of}
use Rattle.tl_messages.specs.Requests.{WholeRequest}
use Rattle.tl_messages.specs.declared.DBeat.{DBeat}
use Rattle.responses.specs.Shown.{Reply, beat_of_word, shown}
use Rattle.scoreboard.specs.Flights.{InFlight, with_left}
use Rattle.scoreboard.specs.Orders.{Entry, has_ended, reply_beats}

pub some_beats : (q : WholeRequest) → 0 < reply_beats q
some_beats q = grind arith

pub length-shown : (q : WholeRequest) (reply : Reply) → length (shown q reply) ≡ reply_beats q
length-shown q reply = grind (arith, length-map-range_with_len (beat_of_word q reply) 0 (beats_of q.size true))

-- a request in flight of which beats are left
pub some_left : (flight : InFlight) (beats : List DBeat) → 0 < length beats → with_left flight beats ≡ Some (record flight { beats = beats })
some_left flight beats some = grind (arith, some)

pub left_some : (flight : InFlight) (beats : List DBeat) → is_some (with_left flight beats) ≡ true → 0 < length beats
left_some flight beats some = grind (arith, some)

-- a reply that hasn't ended has beats left
pub live_left : (entry : Entry) (reply : Reply) → has_ended entry ≡ false → 0 < length (drop entry.came (shown entry.request reply))
live_left entry reply live =
    omega (
      arith,
      length-drop entry.came (shown entry.request reply),
      length-shown entry.request reply,
      leb-false (reply_beats entry.request) entry.came live,
    )

-- a reply with one more beat that has some left
pub next_live : (entry : Entry) (reply : Reply) → 0 < length (drop 1 (drop entry.came (shown entry.request reply)))
    → has_ended (record entry { came = entry.came + 1 }) ≡ false
next_live entry reply some =
    lt-leb (reply_beats entry.request) (entry.came + 1)
    (omega (
      arith,
      some,
      length-drop 1 (drop entry.came (shown entry.request reply)),
      length-drop entry.came (shown entry.request reply),
      length-shown entry.request reply,
    ))
