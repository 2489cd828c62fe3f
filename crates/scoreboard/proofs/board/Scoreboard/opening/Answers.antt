-- There are at most eight clients, and the board holds what was made for it.
use Rattle.std.proofs.Common.{◌≤◌, ap, length, map, refl, ◌∙◌}
use Rattle.std.proofs.lemmas.List.{length-map}
use Rattle.score_setup.specs.ScoreSetups.{lists_of, ranges_of}
use Rattle.score_setup.proofs.ScoreSetupFaults.{valid_to_score}
use Rattle.scoreboard.specs.Boards.{Board}
use Rattle.scoreboard.specs.InsideBoards.{client_of}
use Rattle.serial_memory.specs.SerialMemory.{rooms_of}
use Rattle.scoreboard.specs.declared.Errors.TheVariants.{Strict}
use Rattle.scoreboard.proofs.acceptance_order.BoardClients.{board_opens, device_fine, few_clients, nothing_written}
use Rattle.scoreboard.proofs.board.Scoreboard.opening.Goals as goal

pub new-requires : goal.new-requires
new-requires c =
    record { fine = rw (c.as_slice-2.ensures.value, c.as_slice-3.ensures.value) (device_fine (lists_of c.args.setup.now) c.requires) }

pub opening_clients-requires-clause-valid : goal.opening_clients-requires-clause-valid
opening_clients-requires-clause-valid c = valid_to_score (lists_of c.args.setup.now) c.requires

pub new-requires-2 : goal.new-requires-2
new-requires-2 c = valid_to_score (lists_of c.args.setup.now) c.requires

pub invariant_of-result : goal.invariant_of-result
invariant_of-result c =
    let setup = lists_of c.args.setup.now in
    let few : length (map client_of c.in_ok-clients.clients.items) ≤ 8 = rw c.in_ok-clients.ensures.0 (few_clients setup c.requires) in (
      rw (length-map c.in_ok-clients.clients.items client_of) at few,
      c.in_ok-clients.ensures.1,
      c.in_ok-joining.ensures,
      nothing_written (rooms_of c.in_ok-serial.serial) setup c.in_ok-clients.clients.items c.in_ok-clients.ensures.0,
    )

pub returns : goal.returns
returns c = record {
  opens = (
    ap {B = Board} (λ (b : Board). record b { errors = c.args.errors })
        (board_opens (ranges_of c.args.setup.now)
        (record {
          policy = c.args.policy;
          errors = Strict;
          clients = c.in_ok-clients.clients.items;
          memory = c.in_ok-serial.serial;
          axi = c.in_ok-axi.axi;
          request = c.in_ok-request.request;
          joining = c.in_ok-joining.joining;
          unknown = c.in_ok-unknown.unknown.items;
        })
        c.in_ok-clients.ensures.0
        (c.in_ok-serial.ensures.memory ∙ rw (c.in-Ok.ensures.ok, c.as_slice.ensures.value, c.as_slice-2.ensures.value, c.as_slice-3.ensures.value) refl)
        (c.in_ok-serial.ensures.doubts ∙ rw c.as_slice-2.ensures.value refl) (cc c.in_ok-axi.ensures)),
    refl,
  );
  unknown = c.in_ok-unknown.ensures;
}
