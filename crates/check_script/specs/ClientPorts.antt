-- The ports of `tlbridge check`: one for each client, with its busy sources (this project's profile).
use Rattle.std.specs.Prelude.{ℕ, Bool, true, false, ◌||◌, List, [], ◌∷◌, ◌++◌, map, replicate, Option, Some, None, Result, Ok, Err, if◌then◌else◌, slice_get, slice_set, unwrap_or, codes}
use Rattle.std.specs.List.{range_with_len}
use Rattle.tl_messages.specs.Lines.{a_text}
use Rattle.tl_messages.specs.Requests.{HeldMessage}
use Rattle.tl_messages.specs.declared.ABeat.{ABeat}
use Rattle.tl_checker.specs.Ports.{joined, judged}
use Rattle.tl_checker.specs.RequestRules.{TlPortLimits}
use Rattle.tl_checker.specs.declared.Progress.{Progress}
use Rattle.tl_checker.specs.declared.Progress.TheVariants.{More, Whole}
use Rattle.tl_checker.specs.declared.TlRule.{TlRule}
use Rattle.config.specs.Configs.{port_of}
use Rattle.config.specs.declared.Config.{Config}
use Rattle.line_text.specs.Traces.{answer_line, refused_text}
use Rattle.check_script.specs.declared.lines.CheckCommand.{CheckCommand}
use Rattle.check_script.specs.declared.lines.CheckCommand.TheVariants.{Offer, Free}
use Rattle.check_script.specs.declared.client_ports.Verdict.{Verdict}
use Rattle.check_script.specs.declared.client_ports.Verdict.TheVariants as verdict

-- ---- one client

-- what a client's port allows, the message that has begun on it, and for each source from 0 to 255 whether it is busy: it had a
-- whole request of this client, and wasn't freed since
pub record SourcedPort : Type 0 where
  pub limits : TlPortLimits
  pub front : Option HeldMessage
  pub busy : List Bool

abbrev pub opening_sources : TlPortLimits → SourcedPort
opening_sources limits = record { limits = limits; front = None; busy = replicate 256 false }

abbrev pub is_busy : SourcedPort → ℕ → Bool
is_busy port source = unwrap_or (slice_get port.busy source) false

-- what the port answers to a beat
abbrev pub beat_answer : SourcedPort → ABeat → Result Progress TlRule
beat_answer port beat = judged port.limits port.front beat (is_busy port beat.source)

-- the port after an answer: a refused beat changes nothing, and the last beat of a request makes its source busy
abbrev pub after_answer : SourcedPort → ABeat → Result Progress TlRule → SourcedPort
after_answer port beat (Err rule) = port
after_answer port beat (Ok More) = record port { front = Some (joined port.limits port.front beat) }
after_answer port beat (Ok Whole) = record port { front = None; busy = slice_set port.busy beat.source true }

abbrev pub after_beat : SourcedPort → ABeat → SourcedPort
after_beat port beat = after_answer port beat (beat_answer port beat)

abbrev pub without_busy : SourcedPort → ℕ → SourcedPort
without_busy port source = record port { busy = slice_set port.busy source false }

-- ---- verdicts

abbrev pub verdict_of : Result Progress TlRule → Verdict
verdict_of (Err rule) = verdict.Refused rule
verdict_of (Ok More) = verdict.More
verdict_of (Ok Whole) = verdict.Whole

-- what is said of a beat, and of a source that is to be free, at a client that is there or isn't
abbrev pub beat_verdict : Option SourcedPort → ABeat → Verdict
beat_verdict None beat = verdict.NoClient
beat_verdict (Some port) beat = verdict_of (beat_answer port beat)

abbrev pub free_verdict : Option SourcedPort → ℕ → Verdict
free_verdict None source = verdict.NoClient
free_verdict (Some port) source = if is_busy port source then verdict.Freed else verdict.NotBusy

-- whether a verdict makes the exit status 1: a beat was refused, or a client isn't there
abbrev pub is_refusal : Verdict → Bool
is_refusal (verdict.Refused rule) = true
is_refusal verdict.NoClient = true
is_refusal _ = false

abbrev pub verdict_text : Verdict → List ℕ
verdict_text verdict.More = answer_line (codes "more" ∷ [])
verdict_text verdict.Whole = answer_line (codes "whole" ∷ [])
verdict_text (verdict.Refused rule) = refused_text rule
verdict_text verdict.NoClient = answer_line (codes "noclient" ∷ [])
verdict_text verdict.Freed = answer_line (codes "freed" ∷ [])
verdict_text verdict.NotBusy = answer_line (codes "notbusy" ∷ [])

-- ---- all clients

-- the port of each client by its number, and whether something was refused so far
pub record PortTable : Type 0 where
  pub clients : List SourcedPort
  pub refused : Bool

abbrev pub opening_clients : Config → ℕ → List SourcedPort
opening_clients config count = map (λ client. opening_sources (port_of config client)) (range_with_len 0 count)

abbrev pub opening_table : Config → PortTable
opening_table config = record { clients = opening_clients config config.clients; refused = false }

abbrev pub verdict_on : List SourcedPort → CheckCommand → Verdict
verdict_on clients (Offer client beat) = beat_verdict (slice_get clients client) beat
verdict_on clients (Free client source) = free_verdict (slice_get clients client) source

-- the ports with one of them changed, if it is there
abbrev pub with_changed : (SourcedPort → SourcedPort) → List SourcedPort → ℕ → Option SourcedPort → List SourcedPort
with_changed change clients client None = clients
with_changed change clients client (Some port) = slice_set clients client (change port)

abbrev pub clients_after : List SourcedPort → CheckCommand → List SourcedPort
clients_after clients (Offer client beat) = with_changed (λ port. after_beat port beat) clients client (slice_get clients client)
clients_after clients (Free client source) = with_changed (λ port. without_busy port source) clients client (slice_get clients client)

abbrev pub table_after : PortTable → CheckCommand → PortTable
table_after table command =
    record { clients = clients_after table.clients command; refused = table.refused || is_refusal (verdict_on table.clients command) }

-- what stands before a verdict: the beat that was offered
abbrev pub before_verdict : CheckCommand → List ℕ
before_verdict (Offer client beat) = a_text client beat
before_verdict (Free client source) = []

-- what a command writes
abbrev pub check_text : PortTable → CheckCommand → List ℕ
check_text table command = before_verdict command ++ verdict_text (verdict_on table.clients command)
