-- The commands that the words of a call say (this project's profile).
use Rattle.std.specs.Prelude.{ℕ, ◌/◌, ◌||◌, ◌==◌, nat_lt, List, length, get_or, Option, Some, None, if◌then◌else◌}
use Rattle.axi_beats.specs.declared.Resp.{Resp}
use Rattle.axi_beats.specs.declared.Resp.TheVariants as resp
use Rattle.axi_checker.specs.declared.AxiBeat.{AxiBeat}
use Rattle.axi_checker.specs.declared.AxiBeat.TheVariants as axi
use Rattle.call_words.specs.CallWords.{byte_in, bytes_of, flag_in, low_in}
use Rattle.score_calls.specs.CallWords.{kind_of}
use Rattle.score_calls.specs.declared.words.CallKind.{CallKind}
use Rattle.score_calls.specs.declared.words.CallKind.TheVariants as kind
use Rattle.score_script.specs.declared.lines.Channel.{Channel}
use Rattle.score_script.specs.declared.lines.Channel.TheVariants as channel
use Rattle.score_script.specs.declared.score.Command.{Command}
use Rattle.score_script.specs.declared.score.Command.TheVariants as command
use Rattle.scoreboard.specs.declared.ObservedBeat.TheVariants.{A, D, Axi, Drained}

-- a beat on the AXI4 port, of which these lanes are unknown
abbrev pub on_axi : AxiBeat → ℕ → Command
on_axi beat unknown = command.Observed (record { beat = Axi beat; unknown = unknown })

abbrev pub a_command : ℕ → ℕ → ℕ → Command
a_command head address payload =
    command.Observed (record {
      beat = A (byte_in (head / 256)) (record {
        opcode = byte_in (head / 65536);
        param = byte_in (head / 16777216);
        size = byte_in (head / 4294967296);
        source = byte_in (head / 1099511627776);
        address = low_in address;
        mask = byte_in (head / 281474976710656);
        payload = payload;
        corrupt = flag_in (head / 72057594037927936);
      });
      unknown = byte_in (address / 4294967296);
    })

abbrev pub d_command : ℕ → ℕ → Command
d_command head payload =
    command.Observed (record {
      beat = D (byte_in (head / 256)) (record {
        opcode = byte_in (head / 65536);
        param = byte_in (head / 16777216);
        size = byte_in (head / 4294967296);
        source = byte_in (head / 1099511627776);
        denied = flag_in (head / 72057594037927936);
        payload = payload;
        corrupt = flag_in (head / 144115188075855872);
      });
      unknown = byte_in (head / 281474976710656);
    })

abbrev pub aw_command : ℕ → ℕ → Command
aw_command head address =
    on_axi (axi.Aw (record {
      id = byte_in (head / 256);
      address = low_in address;
      len = byte_in (head / 65536);
      size = byte_in (head / 16777216);
      burst = byte_in (head / 4294967296);
    })) 0

abbrev pub ar_command : ℕ → ℕ → Command
ar_command head address =
    on_axi (axi.Ar (record {
      id = byte_in (head / 256);
      address = low_in address;
      len = byte_in (head / 65536);
      size = byte_in (head / 16777216);
      burst = byte_in (head / 4294967296);
    })) 0

abbrev pub w_command : ℕ → ℕ → Command
w_command head payload =
    on_axi (axi.W (record { payload = payload; strobes = byte_in (head / 256); last = flag_in (head / 65536) })) (byte_in (head / 16777216))

-- a response, by its number on the wires
abbrev pub resp_of : ℕ → Resp
resp_of number =
    if number == 0 then resp.Okay else (if number == 1 then resp.ExOkay else (if number == 2 then resp.SlvErr else resp.DecErr))

abbrev pub b_command : ℕ → Command
b_command head = on_axi (axi.B (record { id = byte_in (head / 256); resp = resp_of (byte_in (head / 65536)) })) 0

abbrev pub r_command : ℕ → ℕ → Command
r_command head payload =
    on_axi (axi.R (record {
      id = byte_in (head / 256);
      payload = payload;
      resp = resp_of (byte_in (head / 65536));
      last = flag_in (head / 16777216);
    })) (byte_in (head / 4294967296))

-- a channel, by the number that its beats have as heads
abbrev pub channel_by : ℕ → Channel
channel_by number =
    if number == 0 then channel.A
    else (if number == 1 then channel.D
    else (if number == 2 then channel.Aw
    else (if number == 3 then channel.W else (if number == 4 then channel.B else (if number == 5 then channel.Ar else channel.R)))))

abbrev pub unknown_command : ℕ → Command
unknown_command head = command.Unknown (channel_by (byte_in (head / 256))) (byte_in (head / 65536))

-- a filling has 1 to 32 bytes
abbrev pub filling : ℕ → List ℕ → Option Command
filling address bytes = if (length bytes == 0) || nat_lt 32 (length bytes) then None else Some (command.Fill address bytes)

abbrev pub fill_command : ℕ → List ℕ → Option Command
fill_command head words = filling (low_in (head / 4294967296)) (bytes_of words (byte_in (head / 256)))

-- the command that a call says, if it says one
abbrev pub command_by : CallKind → ℕ → List ℕ → Option Command
command_by kind.A head words = Some (a_command head (get_or words 0 0) (get_or words 1 0))
command_by kind.D head words = Some (d_command head (get_or words 0 0))
command_by kind.Aw head words = Some (aw_command head (get_or words 0 0))
command_by kind.W head words = Some (w_command head (get_or words 0 0))
command_by kind.B head words = Some (b_command head)
command_by kind.Ar head words = Some (ar_command head (get_or words 0 0))
command_by kind.R head words = Some (r_command head (get_or words 0 0))
command_by kind.Unknown head words = Some (unknown_command head)
command_by kind.Fill head words = fill_command head words
command_by kind.Time head words = Some (command.Time (get_or words 0 0))
command_by kind.Drained head words = Some (command.Observed (record { beat = Drained; unknown = 0 }))
command_by kind.Reset head words = Some command.Reset
command_by kind.End head words = Some command.End
command_by _ head words = None

abbrev pub command_in : ℕ → List ℕ → Option Command
command_in head words = command_by (kind_of head) head words
