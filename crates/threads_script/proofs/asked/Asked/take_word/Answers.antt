-- A word that may stand has room, its list has an item more, and its thread is one of the four.
use Rattle.std.proofs.Common.{◌≡◌, ◌≤◌, ◌∙◌, Ok, ap, arith, sym}
use Rattle.thread_reports.specs.Reports.{items_of}
use Rattle.threads_script.specs.Asked.{word_line}
use Rattle.threads_script.proofs.AskedLines.{word_read, word_room}
use Rattle.threads_script.proofs.ListLemmas.{pushed_length}
use Rattle.threads_script.proofs.asked.Asked.take_word.Goals as goal

pub push_to-requires-clause-few : goal.push_to-requires-clause-few
push_to-requires-clause-few c =
    let read : word_line c.args.words.now ≡ Ok (c.in_ok-thread.thread, c.in_ok-thread.word) = sym c.word_line.ensures ∙ c.in_ok-thread.was in
    let room = word_room c.args.self.now c.args.self.now.setup c.args.words.now (c.in_ok-thread.thread, c.in_ok-thread.word) c.requires read in
    let words : items_of c.self.inside.words.items ≡ c.args.self.now.words = ap (λ asked. asked.words) c.self.view_is in
    rw (c.from.ensures, words) room

pub overflow_add-thread : goal.overflow_add-thread
overflow_add-thread c =
    let read : word_line c.args.words.now ≡ Ok (c.in_ok-thread.thread, c.in_ok-thread.word) = sym c.word_line.ensures ∙ c.in_ok-thread.was in
    let few : c.in_ok-thread.thread ≤ 3 = (word_read c.args.words.now (c.in_ok-thread.thread, c.in_ok-thread.word) read).2 in
    omega (arith, few)

pub invariant_of-self : goal.invariant_of-self
invariant_of-self c =
    let inv = c.self.invariant in
    let read : word_line c.args.words.now ≡ Ok (c.in_ok-thread.thread, c.in_ok-thread.word) = sym c.word_line.ensures ∙ c.in_ok-thread.was in
    let few : c.in_ok-thread.thread ≤ 3 = (word_read c.args.words.now (c.in_ok-thread.thread, c.in_ok-thread.word) read).2 in (
      inv.0,
      inv.1,
      inv.2,
      rw c.push_to.ensures.items (pushed_length (items_of c.self.inside.words.items) c.from.result c.in_ok-thread.word ∙ inv.3),
      c.push_to.ensures.room,
      omega (arith, inv.5, c.max-self-inside.ensures),
      omega (arith, inv.6, few, c.max-self-inside.ensures),
      inv.7,
    )
