-- The client that is there answers.
use Rattle.std.proofs.Common.{◌≡◌, ◌⊎◌, inl, inr, List, Ok, None, Option, Result, Some, false, ap, ap₂, refl, subst, sym, ◌∙◌, arith}
use Rattle.std.proofs.lemmas.Grind.{elements}
use Rattle.std.specs.Prelude.{is_some, slice_get}
use Rattle.std.proofs.lemmas.Option.{slice_get_within}
use Rattle.bus_words.proofs.StoredPlaces.{get_set}
use Rattle.tl_messages.specs.Requests.{HeldMessage}
use Rattle.tl_checker.specs.Ports.{joined}
use Rattle.tl_checker.specs.declared.Progress.{Progress}
use Rattle.tl_checker.specs.declared.Progress.TheVariants.{More, Whole}
use Rattle.tl_checker.specs.declared.TlRule.{TlRule}
use Rattle.serial_memory.specs.SerialMemory.{MemoryState}
use Rattle.scoreboard.specs.Boards.{Board, ClientBoard, accepted_on, answer_to, continued_on, with_client}
use Rattle.scoreboard.specs.InsideBoards.{BoardState, ClientState, HasRoomForBeat, board_of, client_of, front_after, request_taken, taken_by}
use Rattle.scoreboard.specs.declared.Errors.{Errors}
use Rattle.scoreboard.specs.declared.Policy.{Policy}
use Rattle.scoreboard.specs.declared.Policy.TheVariants.{RealTime}
use Rattle.scoreboard.proofs.held.BoardSteps.{client_there, there_at}
use Rattle.scoreboard.proofs.held.RequestAnswered.{state_as, with_front}
use Rattle.scoreboard.proofs.held.Taken.{taken_beside}
use Rattle.scoreboard.proofs.board.Scoreboard.take_request.Goals.{After-take_beat}
use Rattle.scoreboard.proofs.board.Scoreboard.take_request.Goals as goal

none_begun : (front : Option HeldMessage) → is_some front ≡ false → front ≡ None
none_begun None is = refl
none_begun (Some message) is = absurd (cc (is))

module _ (c : After-take_beat) where
  abbrev old : Board
  old = board_of c.args.self.now

  abbrev found : ClientBoard
  found = client_of c.in-Some.found.now

  there : slice_get old.clients c.from-number.result ≡ Some found
  there =
      ap (λ (b : BoardState). slice_get (board_of b).clients c.from-number.result) (sym c.self.view_is)
      ∙ client_there c.self.inside.clients.items c.from-number.result c.in-Some.found.now
      (ap (λ (cs : List ClientState). slice_get cs c.from-number.result) (sym c.deref.ensures.value)
      ∙ there_at c.deref.result.now c.from-number.result c.in-Some.found.now c.in-Some.ensures.lookup.3.0 c.in-Some.ensures.lookup.1)

  -- what its port answers
  told : answer_to c.args.self.now.policy found c.args.beat.now ≡ Ok c.in-Ok.progress
  told = sym (c.judge.ensures ∙ ap (λ (b : BoardState). answer_to b.policy found c.args.beat.now) c.self.view_is) ∙ c.in-Ok.is

  taken : request_taken c.args.self.now.policy (slice_get old.clients c.from-number.result) c.args.beat.now ≡ Ok c.in-Ok.progress
  taken = ap (λ (client : Option ClientBoard). request_taken c.args.self.now.policy client c.args.beat.now) there ∙ ap taken_by told

  -- it is there where room was made
  there_still : slice_get (board_of c.make_room.new.self).clients c.from-number.result ≡ Some found
  there_still = ap (λ (b : Board). slice_get b.clients c.from-number.result) c.make_room.ensures.board ∙ there

  -- the board that has the beat, and the client in it
  mid : (answer : Result Progress TlRule) → Ok c.in-Ok.progress ≡ answer
      → board_of c.take_beat.new.self ≡ with_front c.args.self.now.policy old c.from-number.result found c.args.beat.now there answer
  mid answer is =
      c.take_beat.ensures.state found there_still
      ∙ ap (with_client c.from-number.result (record found { front = front_after found.front (joined found.limits found.front c.args.beat.now) (Ok c.in-Ok.progress) })) c.make_room.ensures.board
      ∙ ap (with_front c.args.self.now.policy old c.from-number.result found c.args.beat.now there) is

  here : (answer : Result Progress TlRule) → Ok c.in-Ok.progress ≡ answer → slice_get (board_of c.take_beat.new.self).clients c.from-number.result
      ≡ Some (record found { front = front_after found.front (joined found.limits found.front c.args.beat.now) answer })
  here answer is =
      ap (λ (b : Board). slice_get b.clients c.from-number.result) (mid answer is)
      ∙ get_set old.clients c.from-number.result (record found { front = front_after found.front (joined found.limits found.front c.args.beat.now) answer })
      (slice_get_within old.clients c.from-number.result found there)

  same_policy : c.take_beat.new.self.policy ≡ c.args.self.now.policy
  same_policy = c.take_beat.ensures.policy ∙ ap (λ (b : BoardState). b.policy) c.make_room.ensures.rest

  -- one of which nothing has begun
  none_here : c.has_begun-begun.result ≡ false → found.front ≡ None
  none_here first = none_begun found.front (sym c.has_begun-begun.ensures ∙ first)

  -- whatever message the beat belongs to has room
  room : (c.in-Ok.progress ≡ Whole) ⊎ (c.args.self.now.policy ≡ RealTime) → HasRoomForBeat c.take_beat.new.self.errors c.take_beat.new.self.memory c.args.beat.now
  room may =
      subst (λ (errors : Errors). HasRoomForBeat errors c.take_beat.new.self.memory c.args.beat.now) (sym (ap (λ (b : Board). b.errors) (mid (Ok c.in-Ok.progress) refl)))
      (subst (λ (memory : MemoryState). HasRoomForBeat c.args.self.now.errors memory c.args.beat.now) (sym c.take_beat.ensures.memory) (c.in_ok-make_room.ensures.room may))

pub go_on-requires-clause-first : goal.go_on-requires-clause-first
go_on-requires-clause-first c first =
    let at = (goal.at.go_on-requires-clause-first c).After-take_beat in
    c.take_beat.ensures.first (found at) (there_still at) (none_here at first) c.in-More.is

pub go_on-requires-clause-room : goal.go_on-requires-clause-room
go_on-requires-clause-room c real_time =
    let at = (goal.at.go_on-requires-clause-room c).After-take_beat in
    room at (inr (sym (same_policy at) ∙ real_time))

pub returns-in-More-clause-answer : goal.returns-in-More-clause-answer
returns-in-More-clause-answer c = rw (← c.from-number.ensures) (sym (taken (goal.at.returns-in-More-clause-answer c).After-take_beat))

pub returns-in-More-clause-state : goal.returns-in-More-clause-state
returns-in-More-clause-state c =
    let at = (goal.at.returns-in-More-clause-state c).After-take_beat in
    let policy = c.args.self.now.policy in
    let number = c.from-number.result in
    let message = joined (found at).limits (found at).front c.args.beat.now in
    let one : ClientBoard = record (found at) { front = Some message } in
    let more : ◌≡◌ {A = Result Progress TlRule} (Ok c.in-Ok.progress) (Ok More) = ap (λ (progress : Progress). Ok progress) c.in-More.is in
    let is = c.from-number.ensures in
    let goes = c.go_on.ensures.state one message (rw is at (here at (Ok More) more)) (λ first. ap (λ (front : Option HeldMessage). joined (found at).limits front c.args.beat.now) (none_here at first)) refl in
    rw (← is)
    (state_as policy (old at) number (found at) c.args.beat.now (there at) (board_of c.go_on.new.self) (Ok c.in-Ok.progress) (Ok More) more (sym (told at))
    (rw (← is) at goes
    ∙ ap (λ (p : Policy). continued_on p (board_of c.take_beat.new.self) number one message c.has_begun-begun.result) (same_policy at)
    ∙ ap (λ (b : Board). continued_on policy b number one message c.has_begun-begun.result) (mid at (Ok More) more)
    ∙ ap (continued_on policy (with_front policy (old at) number (found at) c.args.beat.now (there at) (Ok More)) number one message) c.has_begun-begun.ensures))

pub accept-requires-clause-free : goal.accept-requires-clause-free
accept-requires-clause-free c one is = c.take_beat.ensures.free one is c.in-Whole.is

pub accept-requires-clause-room : goal.accept-requires-clause-room
accept-requires-clause-room c = room (goal.at.accept-requires-clause-room c).After-take_beat (inl c.in-Whole.is) c.take_beat.new.self.request (c.take_beat.ensures.asked c.in-Whole.is)

pub returns-in-Whole-clause-answer : goal.returns-in-Whole-clause-answer
returns-in-Whole-clause-answer c = rw (← c.from-number.ensures) (sym (taken (goal.at.returns-in-Whole-clause-answer c).After-take_beat))

pub returns-in-Whole-clause-whole : goal.returns-in-Whole-clause-whole
returns-in-Whole-clause-whole c is =
    let at = (goal.at.returns-in-Whole-clause-whole c).After-take_beat in
    taken_beside c.take_beat.new.self c.accept.new.self c.accept.ensures.rest
    (record {
      checked = c.take_beat.ensures.checked c.in-Whole.is;
      room = room at (inl c.in-Whole.is) c.take_beat.new.self.request (c.take_beat.ensures.asked c.in-Whole.is);
    })

pub returns-in-Whole-clause-state : goal.returns-in-Whole-clause-state
returns-in-Whole-clause-state c =
    let at = (goal.at.returns-in-Whole-clause-state c).After-take_beat in
    let policy = c.args.self.now.policy in
    let number = c.from-number.result in
    let one : ClientBoard = record (found at) { front = None } in
    let whole : ◌≡◌ {A = Result Progress TlRule} (Ok c.in-Ok.progress) (Ok Whole) = ap (λ (progress : Progress). Ok progress) c.in-Whole.is in
    let begun = c.has_begun-begun.result in
    rw (← c.from-number.ensures)
    (state_as policy (old at) number (found at) c.args.beat.now (there at) (board_of c.accept.new.self) (Ok c.in-Ok.progress) (Ok Whole) whole (sym (told at))
    (c.accept.ensures.state one (here at (Ok Whole) whole)
    ∙ ap (λ (p : Policy). accepted_on p (board_of c.take_beat.new.self) number one c.take_beat.new.self.request begun) (same_policy at)
    ∙ ap (λ (b : Board). accepted_on policy b number one c.take_beat.new.self.request begun) (mid at (Ok Whole) whole)
    ∙ ap₂ (accepted_on policy (with_front policy (old at) number (found at) c.args.beat.now (there at) (Ok Whole)) number one) (c.take_beat.ensures.request (found at) (there_still at) c.in-Whole.is) c.has_begun-begun.ensures))

pub returns-in_default-clause-answer : goal.returns-in_default-clause-answer
returns-in_default-clause-answer c = grind (arith, elements) steps 2000000

pub returns-in_default-clause-state : goal.returns-in_default-clause-state
returns-in_default-clause-state c = grind (arith, elements) steps 2000000

pub returns-in-Err-clause-answer : goal.returns-in-Err-clause-answer
returns-in-Err-clause-answer c = grind (arith, elements) steps 2000000

pub returns-in-Err-clause-state : goal.returns-in-Err-clause-state
returns-in-Err-clause-state c = grind (arith, elements) steps 2000000

pub take_beat-requires-clause-told : goal.take_beat-requires-clause-told
take_beat-requires-clause-told c = grind (arith, elements) steps 2000000
