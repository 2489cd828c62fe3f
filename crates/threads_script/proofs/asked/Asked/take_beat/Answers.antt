-- A beat that may stand has room, and its list has an item more.
use Rattle.std.proofs.Common.{◌≡◌, ◌<◌, ◌∙◌, Ok, ap, length, sym}
use Rattle.line_text.specs.OfferLines.{offer_line}
use Rattle.thread_reports.specs.Reports.{items_of}
use Rattle.threads_script.specs.Lists.{list_at}
use Rattle.threads_script.proofs.AskedLines.{beat_room}
use Rattle.threads_script.proofs.ListLemmas.{pushed_length, short_pushed}
use Rattle.threads_script.proofs.asked.Asked.take_beat.Goals as goal

pub push_to-requires-clause-few : goal.push_to-requires-clause-few
push_to-requires-clause-few c =
    let read : offer_line c.args.words.now ≡ Ok (c.in_ok-client.client, c.in_ok-client.beat) = sym c.offer_line.ensures ∙ c.in_ok-client.was in
    let room = beat_room c.args.self.now c.args.self.now.setup c.args.words.now (c.in_ok-client.client, c.in_ok-client.beat) c.requires read in
    let scripts : items_of c.self.inside.scripts.items ≡ c.args.self.now.scripts = ap (λ asked. asked.scripts) c.self.view_is in
    rw (c.from.ensures, scripts) room

pub invariant_of-self : goal.invariant_of-self
invariant_of-self c =
    let inv = c.self.invariant in
    let lists = items_of c.self.inside.scripts.items in
    let read : offer_line c.args.words.now ≡ Ok (c.in_ok-client.client, c.in_ok-client.beat) = sym c.offer_line.ensures ∙ c.in_ok-client.was in
    let scripts : lists ≡ c.args.self.now.scripts = ap (λ asked. asked.scripts) c.self.view_is in
    let few : length (list_at lists c.from.result) < 4096 =
    rw (c.from.ensures, scripts) (beat_room c.args.self.now c.args.self.now.setup c.args.words.now (c.in_ok-client.client, c.in_ok-client.beat) c.requires read) in (
      rw c.push_to.ensures.items (pushed_length lists c.from.result c.in_ok-client.beat ∙ inv.0),
      rw c.push_to.ensures.items (short_pushed 4096 lists c.from.result c.in_ok-client.beat inv.1 few),
      c.push_to.ensures.room,
      inv.3,
      inv.4,
      inv.5,
      inv.6,
      inv.7,
    )
