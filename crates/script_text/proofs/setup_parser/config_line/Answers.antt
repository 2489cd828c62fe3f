-- The fields before the bytes of the bus were read, and so were those, or they are the first that aren't right.
use Rattle.std.proofs.Common.{◌≡◌, ◌∙◌, Err, sym, rules}
use Rattle.config.specs.declared.Config.{Config as Limits}
use Rattle.line_text.specs.Fields.{byte_field}
use Rattle.script_text.proofs.ConfigLines.{ReadsLimits, bus_wrong, config_read}
use Rattle.script_text.proofs.setup_parser.config_line.Goals as goal

pub returns-in_err-axi_bytes : goal.returns-in_err-axi_bytes
returns-in_err-axi_bytes c =
    let limits : Limits = record { clients = c.in_ok-clients.clients; quota = c.in_ok-quota.quota; ids = c.in_ok-ids.ids; depth = c.in_ok-depth.depth; max_len = c.in_ok-max_len.max_len; max_size = c.in_ok-max_size.max_size; levels = c.in_ok-levels.levels; axi_bytes = 8 } in
    let reads : ReadsLimits byte_field c.args.words.now limits =
    record { clients = c.in_ok-clients.ensures; quota = c.in_ok-quota.ensures; ids = c.in_ok-ids.ensures; depth = c.in_ok-depth.ensures; max_len = c.in_ok-max_len.ensures; max_size = c.in_ok-max_size.ensures; levels = c.in_ok-levels.ensures } in
    let same : c.from_residual-in_err-axi_bytes.result ≡ Err c.in_err-axi_bytes.field-0.0 = search rules in
    rw same (bus_wrong byte_field c.args.words.now limits c.in_err-axi_bytes.field-0.0 reads (sym c.in_err-axi_bytes.was ∙ c.bus_bytes.ensures))

pub returns : goal.returns
returns c =
    config_read byte_field c.args.words.now _
    record { clients = c.in_ok-clients.ensures; quota = c.in_ok-quota.ensures; ids = c.in_ok-ids.ensures; depth = c.in_ok-depth.ensures; max_len = c.in_ok-max_len.ensures; max_size = c.in_ok-max_size.ensures; levels = c.in_ok-levels.ensures }
    (sym c.in_ok-axi_bytes.was ∙ c.bus_bytes.ensures)

pub returns-in_err-depth : goal.returns-in_err-depth
returns-in_err-depth c = search rules
