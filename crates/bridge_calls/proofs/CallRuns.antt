-- The calls of a handle come to a run. A call's steps lead from a world to the next, and bridge and memory agree at each of them; so those of all
-- calls lead from the opening world, and the main theorem holds of them. It knows of a call only which steps it makes and where it leaves the handle.
use Rattle.std.proofs.Common.{◌≡◌, ℕ, zero, suc, Bool, true, false, List, [], ◌∷◌, ◌++◌, ◌+◌, ◌/◌, Option, Some, None, Result, Ok, Err, refl, sym, ap, ◌∙◌, subst, arith}
use Rattle.std.specs.List.{cons_option}
use Rattle.std.specs.Prelude.{IfOk, ⊤, if◌then◌else◌}
use Rattle.std.proofs.lemmas.List.{append-nil, append_assoc}
use Rattle.tl_messages.specs.declared.DBeat.{DBeat}
use Rattle.setups.specs.Setups.{SetupLists, setup_fault}
use Rattle.script_text.specs.Stages.{GivesWorld, Opening, Running as RunningStage, SettingUp as SaidSetUp, Stage as Stages, world_at}
use Rattle.script_text.specs.declared.faults.ScriptFault.{ScriptFault}
use Rattle.world.specs.Choices.{LeadsTo}
use Rattle.world.specs.Laws.{AreSoundAlong, IsSoundWorld}
use Rattle.world.specs.World.{WorldState, after, byte_of, drained, enabled, in_flight, is_reply, leaves_all, next, opening_world}
use Rattle.world.specs.declared.Answer.{Answer}
use Rattle.world.specs.declared.Step.{Step}
use Rattle.world.specs.declared.Step.TheVariants.{Offer, Take}
use Rattle.world.proofs.Events.{each_way}
use Rattle.world_run.specs.Headline.{IsOneAtATime}
use Rattle.world_run.specs.Runs.{HandedReply, answers_of, handed_at, handed_in, sent_in}
use Rattle.world_run.proofs.CarriedOut.{is_carried_out}
use Rattle.world_run.proofs.MainTheorem.{one_at_a_time}
use Rattle.world_run.proofs.RunLemmas.{cons_option-append}
use Rattle.call_words.specs.CallWords.{byte_in, bytes_of}
use Rattle.call_words.specs.Handles.{BeginDone, BegunLeft, CalledBy, Done, LineDone, OwnDone, SetUpLeft}
use Rattle.call_words.specs.PendingCalls.{CallState, is_whole}
use Rattle.call_words.specs.WordLists.{TakesWords, call_after, words_in}
use Rattle.call_words.specs.declared.handle.Stage.{Stage}
use Rattle.call_words.specs.declared.handle.Stage.TheVariants.{Closed, Running, SettingUp}
use Rattle.bridge_calls.specs.Bridges.{AfterDrain, AfterStep, BridgeState, opening_bridge}
use Rattle.bridge_calls.specs.CallKinds.{call_by, call_of, kind_of, step_by, step_in, words_wanted}
use Rattle.bridge_calls.specs.HandleRuns.{HasRun, IsARun, IsNew, first_enabled, last_reply, step_and, steps_at, steps_by, steps_of}
use Rattle.bridge_calls.specs.Handles.{Called, DoneBy, HeldBridge, OtherDone, bridge_session}
use Rattle.bridge_calls.specs.SetUps.{SetUpState, SetUpTold, no_line, set_up_kind, stage_in}
use Rattle.bridge_calls.specs.declared.kinds.CallKind.{CallKind}
use Rattle.bridge_calls.specs.declared.kinds.CallKind.TheVariants as kind
use Rattle.bridge_calls.proofs.Choosing.{all_at, is_own, own_enabled}
use Rattle.bridge_calls.proofs.SetUpLines.{IsEarly, early_line, opening_is}

-- ---- lists of steps

after-append : (state : WorldState) (xs ys : List Step) → after state (xs ++ ys) ≡ after (after state xs) ys
after-append state [] ys = refl
after-append state (x ∷ xs) ys = after-append (next state x).state xs ys

sound-append : (state : WorldState) (xs ys : List Step) → AreSoundAlong state xs → AreSoundAlong (after state xs) ys → AreSoundAlong state (xs ++ ys)
sound-append state [] ys here there = there
sound-append state (x ∷ xs) ys here there = (here.0, sound-append (next state x).state xs ys here.1 there)

handed-append : (state : WorldState) (xs ys : List Step) → handed_in state (xs ++ ys) ≡ handed_in state xs ++ handed_in (after state xs) ys
handed-append state [] ys = refl
handed-append state (x ∷ xs) ys =
    ap (cons_option (handed_at x (next state x).answer (next state x).reply)) (handed-append (next state x).state xs ys)
    ∙ cons_option-append (handed_at x (next state x).answer (next state x).reply) (handed_in (next state x).state xs) (handed_in (after (next state x).state xs) ys)

-- ---- the reply that was handed out last

-- with one reply more, or none
abbrev reply_or : List DBeat → Option HandedReply → List DBeat
reply_or old None = old
reply_or old (Some handed) = handed.beats

last-one : (handed : List HandedReply) (one : HandedReply) → last_reply (handed ++ one ∷ []) ≡ one.beats
last-one [] one = refl
last-one (a ∷ []) one = refl
last-one (a ∷ b ∷ handed) one = last-one (b ∷ handed) one

last-more : (handed : List HandedReply) (more : Option HandedReply) → last_reply (handed ++ cons_option more []) ≡ reply_or (last_reply handed) more
last-more handed None = ap last_reply (append-nil handed)
last-more handed (Some one) = last-one handed one

-- a step changes the reply just where it hands one out
quiet_keeps : (step : Step) (answer : Answer) (old : List DBeat) → leaves_all answer ≡ true → (if is_reply answer then [] else old) ≡ reply_or old (handed_at step answer [])
quiet_keeps step answer old still = grind (arith, still)

hands_over : (state : WorldState) (step : Step) (old : List DBeat)
    → (if is_reply (next state step).answer then (next state step).reply else old) ≡ reply_or old (handed_at step (next state step).answer (next state step).reply)
hands_over state step old =
    each_way (λ event outcome. (if is_reply outcome.answer then outcome.reply else old) ≡ reply_or old (handed_at event outcome.answer outcome.reply)) state
    (record {
      quiet = λ event answer still. quiet_keeps event answer old still;
      begins = λ client beat is. refl;
      accepts = λ client beat is. refl;
      sends = λ sending is. refl;
      performs = λ serial beat memory is. refl;
      gives_b = λ id b is. refl;
      gives_r = λ id r is. refl;
      hands_out = λ client request known is. refl;
    })
    step

-- ---- a drain

-- one of its steps takes no reply
own_hands_none : (step : Step) (answer : Answer) (beats : List DBeat) → is_own step ≡ true → handed_at step answer beats ≡ None
own_hands_none (Offer client beat) answer beats own = absurd (cc (own))
own_hands_none (Take client) answer beats own = absurd (cc (own))
own_hands_none step answer beats own = refl

-- where steps lead from one world to another, these are the first that are enabled, and they hand out nothing
record IsLed (old new : WorldState) (steps : List Step) : Type 0 where
  pub there : new ≡ after old steps
  pub sound : IsSoundWorld new → AreSoundAlong old steps
  pub hands_none : handed_in old steps ≡ []

led_on : (old new : WorldState) (step : Step) (steps : List Step) → IsSoundWorld old → is_own step ≡ true → IsLed (next old step).state new steps → IsLed old new (step ∷ steps)
led_on old new step steps sound own led =
    record {
      there = led.there;
      sound = λ last. (sound, led.sound last);
      hands_none =
          ap (λ (more : Option HandedReply). cons_option more (handed_in (next old step).state steps)) (own_hands_none step (next old step).answer (next old step).reply own) ∙ led.hands_none;
    }

led : (n : ℕ) (old new : WorldState) → LeadsTo old n new → IsLed old new (first_enabled n old)
led zero old new same = record { there = same; sound = λ sound. subst IsSoundWorld same sound; hands_none = refl }
led (suc n) old new (step, sound, first, rest) =
    subst (λ (o : Option Step). IsLed old new (step_and o (λ s. first_enabled n (next old s).state))) (sym first)
    (led_on old new step (first_enabled n (next old step).state) sound (all_at is_own (enabled old) 0 step (own_enabled old) first) (led n (next old step).state new rest))

-- ---- a model that runs

has_run : (setup : SetupLists) (steps : List Step) (bridge : BridgeState) → bridge.world ≡ after (opening_world setup) steps
    → bridge.reply ≡ last_reply (handed_in (opening_world setup) steps) → AreSoundAlong (opening_world setup) steps → HasRun setup steps bridge
has_run setup steps bridge world reply sound =
    record {
      world = world;
      reply = reply;
      sound = sound;
      one_at_a_time =
          subst
          (λ (state : WorldState). IsOneAtATime setup steps (answers_of (opening_world setup) steps) (handed_in (opening_world setup) steps) (sent_in (opening_world setup) steps) (in_flight state) (byte_of state))
          (sym world) (one_at_a_time setup steps sound (is_carried_out setup steps sound));
    }

-- its world keeps the laws
sound_last : (state : WorldState) (steps : List Step) → AreSoundAlong state steps → IsSoundWorld (after state steps)
sound_last state [] along = along
sound_last state (step ∷ steps) along = sound_last (next state step).state steps along.1

ran_soundly : (setup : SetupLists) (steps : List Step) (bridge : BridgeState) → HasRun setup steps bridge → IsSoundWorld bridge.world
ran_soundly setup steps bridge ran = subst IsSoundWorld (sym ran.world) (sound_last (opening_world setup) steps ran.sound)

-- steps more: they lead from its world to the next, and change the reply as they hand out
record Goes (old : BridgeState) (steps : List Step) (new : BridgeState) : Type 0 where
  pub there : new.world ≡ after old.world steps
  pub sound : AreSoundAlong old.world steps
  pub reply : (handed : List HandedReply) → old.reply ≡ last_reply handed → new.reply ≡ last_reply (handed ++ handed_in old.world steps)

ran_on : (setup : SetupLists) (before steps : List Step) (old new : BridgeState) → HasRun setup before old → Goes old steps new → HasRun setup (before ++ steps) new
ran_on setup before steps old new ran goes =
    let start = opening_world setup in
    has_run setup (before ++ steps) new
    (goes.there ∙ ap (λ (w : WorldState). after w steps) ran.world ∙ sym (after-append start before steps))
    (goes.reply (handed_in start before) ran.reply
    ∙ ap (λ (w : WorldState). last_reply (handed_in start before ++ handed_in w steps)) ran.world
    ∙ ap last_reply (sym (handed-append start before steps)))
    (sound-append start before steps ran.sound (subst (λ (w : WorldState). AreSoundAlong w steps) ran.world goes.sound))

stays : (bridge : BridgeState) → IsSoundWorld bridge.world → Goes bridge [] bridge
stays bridge sound = record { there = refl; sound = sound; reply = λ handed is. is ∙ ap last_reply (sym (append-nil handed)) }

one_step : (old new : BridgeState) (step : Step) → AfterStep old step new → Goes old (step ∷ []) new
one_step old new step did =
    record {
      there = ap (λ (b : BridgeState). b.world) did.state;
      sound = (did.laws_before, subst IsSoundWorld (ap (λ (b : BridgeState). b.world) did.state) did.laws);
      reply = λ handed is.
          ap (λ (b : BridgeState). b.reply) did.state
          ∙ hands_over old.world step old.reply
          ∙ ap (λ (beats : List DBeat). reply_or beats (handed_at step (next old.world step).answer (next old.world step).reply)) is
          ∙ sym (last-more handed (handed_at step (next old.world step).answer (next old.world step).reply));
    }

drain_steps : (old new : BridgeState) (made : ℕ) → AfterDrain old made new → Goes old (first_enabled (drained old.world).0 old.world) new
drain_steps old new made did =
    let is = subst (λ (n : ℕ). IsLed old.world new.world (first_enabled n old.world)) did.answer (led made old.world new.world did.leads) in
    record {
      there = is.there;
      sound = is.sound did.laws;
      reply = λ handed same.
          ap (λ (b : BridgeState). b.reply) did.state ∙ same
          ∙ ap last_reply (sym (append-nil handed) ∙ ap (λ (more : List HandedReply). handed ++ more) (sym is.hands_none));
    }

-- ---- what a call leaves

abbrev Held : Type 0
Held = Stage SetUpState BridgeState

-- of a stage: the world of a model that runs keeps its laws, and a set-up has no world
abbrev IsGood : Held → Type 0
IsGood Closed = ⊤
IsGood (SettingUp set_up) = IsEarly (stage_in set_up)
IsGood (Running bridge) = IsSoundWorld bridge.world

-- a set-up was begun: what it said is a set-up, and its opening world keeps the laws
record IsBegun (set_up : SetUpState) (bridge : BridgeState) : Type 0 where
  pub setup : SetupLists
  pub said : stage_in set_up ≡ SaidSetUp setup tt
  pub opens : bridge ≡ opening_bridge setup
  pub sound : IsSoundWorld bridge.world

-- what makes such steps on a world
module _ (makes : WorldState → List Step) where
  -- and what it may make of a stage: a model makes these steps, a set-up goes on or is begun, and whatever it was may be closed
  abbrev Fits : Held → Held → Type 0
  Fits stage Closed = ⊤
  Fits Closed (SettingUp new) = ⊥
  Fits Closed (Running new) = ⊥
  Fits (SettingUp old) (SettingUp new) = IsEarly (stage_in new)
  Fits (SettingUp old) (Running new) = IsBegun old new × ((world : WorldState) → makes world ≡ [])
  Fits (Running old) (SettingUp new) = ⊥
  Fits (Running old) (Running new) = Goes old (makes old.world) new

  fits_kept : (stage : Held) → IsGood stage → ((world : WorldState) → makes world ≡ []) → Fits stage stage
  fits_kept Closed good none = tt
  fits_kept (SettingUp set_up) good none = good
  fits_kept (Running bridge) good none = subst (λ (steps : List Step). Goes bridge steps bridge) (sym (none bridge.world)) (stays bridge good)

  fits_same : (old new : Held) → IsGood old → ((world : WorldState) → makes world ≡ []) → new ≡ old → Fits old new
  fits_same old new good none same = subst (λ (s : Held). Fits old s) (sym same) (fits_kept old good none)

  fits_shut : (old : Held) → Fits old Closed
  fits_shut Closed = tt
  fits_shut old = tt

  fits_closed : (old new : Held) → new ≡ Closed → Fits old new
  fits_closed old new closed = subst (λ (s : Held). Fits old s) (sym closed) (fits_shut old)

  -- a set-up that stays
  fits_early : (set_up : SetUpState) (new : Held) → IsEarly (stage_in set_up) → new ≡ SettingUp set_up → Fits (SettingUp set_up) new
  fits_early set_up new early same = subst (λ (s : Held). Fits (SettingUp set_up) s) (sym same) early

-- what says no step, and is no drain, makes none
abbrev makes_none : WorldState → List Step
makes_none world = []

-- a line
line_leaves : (set_up after : SetUpState) (line : List ℕ) (new : Held) (answer : ℕ) (told : Result (Unit {0}) ScriptFault) → IsEarly (stage_in set_up) → SetUpTold set_up line after told
    → SetUpLeft after told new answer → Fits makes_none (SettingUp set_up) new
line_leaves set_up after line new answer (Ok done) early took left =
    subst (λ (s : Held). Fits makes_none (SettingUp set_up) s) (sym left.0) (early_line set_up after line early took.0)
line_leaves set_up after line new answer (Err fault) early took left = fits_closed makes_none (SettingUp set_up) new left.0

-- the beginning
begun_from : (set_up : SetUpState) (bridge : BridgeState) (number : ℕ) (stage : Stages SetupLists (Unit {0}) BridgeState) → stage_in set_up ≡ stage → IsEarly stage
    → world_at set_up_kind stage number ≡ Ok bridge → IsSoundWorld bridge.world → IsBegun set_up bridge
begun_from set_up bridge number Opening is early opened sound = absurd (cc (opened))
begun_from set_up bridge number (SaidSetUp setup own) is early opened sound =
    record { setup = setup; said = is; opens = sym (opening_is (opening_bridge setup) bridge (setup_fault setup) opened); sound = sound }
begun_from set_up bridge number (RunningStage other) is early opened sound = absurd early

begin_leaves : (set_up : SetUpState) (new : Held) (answer number : ℕ) (given : Result BridgeState ScriptFault) → IsEarly (stage_in set_up)
    → GivesWorld (λ (bridge : BridgeState). bridge) (world_at set_up_kind (stage_in set_up) number) given → IfOk given (λ (bridge : BridgeState). IsSoundWorld bridge.world)
    → BegunLeft given new answer → Fits makes_none (SettingUp set_up) new
begin_leaves set_up new answer number (Ok bridge) early made laws left =
    subst (λ (s : Held). Fits makes_none (SettingUp set_up) s) (sym left.0)
    (begun_from set_up bridge number (stage_in set_up) refl early made laws, λ world. refl)
begin_leaves set_up new answer number (Err fault) early made laws left = fits_closed makes_none (SettingUp set_up) new left.0

fits_begin : (old new : Held) (answer : ℕ) → IsGood old → BeginDone bridge_session old new answer → Fits makes_none old new
fits_begin Closed new answer good did = fits_closed makes_none Closed new did.0
fits_begin (SettingUp set_up) new answer good did = begin_leaves set_up new answer (set_up.number + 1) did.given good did.made.made did.made.laws did.left
fits_begin (Running old) new answer good did = fits_same makes_none (Running old) new good (λ world. refl) did.0

-- a call of a model's own
other_goes : (called : CallKind) (head answer : ℕ) (old after : BridgeState) → IsSoundWorld old.world → OtherDone called head old after answer
    → Goes old (steps_by None called old.world) after
other_goes kind.Drain head answer old after good did = drain_steps old after answer did
other_goes called head answer old after good did = subst (λ (b : BridgeState). Goes old [] b) (sym did.0) (stays old good)

own_goes : (said : Option Step) (head answer : ℕ) (old after : BridgeState) → IsSoundWorld old.world → DoneBy said head old after answer
    → Goes old (steps_by said (kind_of head) old.world) after
own_goes (Some step) head answer old after good did = one_step old after step did.0
own_goes None head answer old after good did = other_goes (kind_of head) head answer old after good did

-- the steps of a call that has all its words, by what is called
module _ (call : CallState) where
  abbrev makes : CallKind → WorldState → List Step
  makes called world = steps_by (step_by called call.head call.words) called world

  fits_own : (called : CallKind) (old new : Held) (answer : ℕ) → kind_of call.head ≡ called → IsGood old → OwnDone bridge_session call old new answer → Fits (makes called) old new
  fits_own called Closed new answer is good did = fits_closed (makes called) Closed new did.0
  fits_own called (SettingUp set_up) new answer is good did = fits_early (makes called) set_up new good did.0
  fits_own called (Running old) new answer is good did =
      subst (λ (s : Held). Fits (makes called) (Running old) s) (sym did.stage_is)
      (subst (λ (c : CallKind). Goes old (makes c old.world) did.after) is (own_goes (step_in call.head call.words) call.head answer old did.after good did.done))

  fits_line : (old new : Held) (answer : ℕ) → kind_of call.head ≡ kind.Line → IsGood old → LineDone bridge_session call old new answer → Fits (makes kind.Line) old new
  fits_line Closed new answer is good did = fits_own kind.Line Closed new answer is good did
  fits_line (SettingUp set_up) new answer is good did =
      line_leaves set_up did.after (bytes_of call.words (byte_in (call.head / 256))) new answer did.told good did.done did.left
  fits_line (Running old) new answer is good did = fits_own kind.Line (Running old) new answer is good did

  fits_call : (old new : Held) (text next : List ℕ) (answer : ℕ) → IsGood old → Done bridge_session (call_of call.head) call old text new next answer
      → Fits (makes (kind_of call.head)) old new
  fits_call old new text next answer good did = by_kind (kind_of call.head) refl did
    where
      by_kind : (called : CallKind) → kind_of call.head ≡ called → Done bridge_session (call_by called) call old text new next answer → Fits (makes called) old new
      by_kind kind.Line is did = fits_line old new answer is good did.0
      by_kind kind.Begin is did = fits_begin old new answer good did.0
      by_kind kind.Close is did = fits_closed makes_none old new did.0
      by_kind kind.FaultLength is did = fits_same makes_none old new good (λ world. refl) did.0
      by_kind kind.TextByte is did = fits_same makes_none old new good (λ world. refl) did.0
      by_kind called is did = fits_own called old new answer is good did.0

-- a word, by whether its call has all its words
fits_by : (whole : Bool) (old new : HeldBridge) (answer : ℕ) → IsGood old.stage → CalledBy bridge_session whole old new answer
    → Fits (λ world. if whole then steps_by (step_in new.call.head new.call.words) (kind_of new.call.head) world else []) old.stage new.stage
fits_by true old new answer good did = fits_call new.call old.stage new.stage old.text new.text answer good did
fits_by false old new answer good did = fits_same makes_none old.stage new.stage good (λ world. refl) did.0

fits_word : (stage : Held) (old new : HeldBridge) (word answer : ℕ) → old.stage ≡ stage → IsGood stage → Called old word new answer
    → Fits (λ world. steps_at world new.call) stage new.stage
fits_word stage old new word answer is good did =
    subst (λ (s : Held). Fits (λ world. steps_at world new.call) s new.stage) is
    (fits_by (is_whole new.call) old new answer (subst IsGood (sym is) good) did.told)

-- ---- words, one after another

-- what is closed stays so
closed_on : (makes : WorldState → List Step) (stage : Held) → Fits makes Closed stage → stage ≡ Closed
closed_on makes Closed fits = refl
closed_on makes (SettingUp set_up) fits = absurd fits
closed_on makes (Running bridge) fits = absurd fits

stays_closed : (calls : List (ℕ × ℕ)) (handle new : HeldBridge) → handle.stage ≡ Closed → TakesWords Called handle calls new → new.stage ≡ Closed
stays_closed [] handle new closed takes = ap (λ (h : HeldBridge). h.stage) takes ∙ closed
stays_closed (call ∷ calls) handle new closed takes =
    stays_closed calls takes.next new
    (closed_on (λ world. steps_at world takes.next.call) takes.next.stage (fits_word Closed handle takes.next call.0 call.1 closed tt takes.called)) takes.behind

never_closed : (bridge : BridgeState) (new : HeldBridge) → new.stage ≡ Running bridge → new.stage ≡ Closed → ⊥
never_closed bridge new there closed = let both : Closed ≡ Running bridge = sym closed ∙ there in cc

-- the model that runs, by its stage
abbrev model_or : BridgeState → Held → BridgeState
model_or other Closed = other
model_or other (SettingUp set_up) = other
model_or other (Running bridge) = bridge

-- a model that has run goes on
runs_on : (calls : List (ℕ × ℕ)) (setup : SetupLists) (before : List Step) (handle new : HeldBridge) (old bridge : BridgeState) → handle.stage ≡ Running old → HasRun setup before old
    → TakesWords Called handle calls new → new.stage ≡ Running bridge → HasRun setup (before ++ steps_of old.world handle.call (words_in calls)) bridge
runs_on [] setup before handle new old bridge here ran takes there =
    subst (λ (steps : List Step). HasRun setup steps bridge) (sym (append-nil before))
    (subst (λ (b : BridgeState). HasRun setup before b) (ap (model_or old) (sym here ∙ sym (ap (λ (h : HeldBridge). h.stage) takes) ∙ there)) ran)
runs_on (call ∷ calls) setup before handle new old bridge here ran takes there =
    by_stage takes.next.stage refl (fits_word (Running old) handle takes.next call.0 call.1 here (ran_soundly setup before old ran) takes.called)
    (λ mid is now. runs_on calls setup (before ++ steps_at old.world takes.next.call) takes.next new mid bridge is now takes.behind there)
  where
    by_stage : (stage : Held) → takes.next.stage ≡ stage → Fits (λ world. steps_at world takes.next.call) (Running old) stage
        → ((mid : BridgeState) → takes.next.stage ≡ Running mid → HasRun setup (before ++ steps_at old.world takes.next.call) mid
        → HasRun setup ((before ++ steps_at old.world takes.next.call) ++ steps_of mid.world takes.next.call (words_in calls)) bridge)
        → HasRun setup (before ++ steps_of old.world handle.call (words_in (call ∷ calls))) bridge
    by_stage Closed is fits later = absurd (never_closed bridge new there (stays_closed calls takes.next new is takes.behind))
    by_stage (SettingUp set_up) is fits later = absurd fits
    by_stage (Running mid) is goes later =
        let now = takes.next.call in
        let made = steps_at old.world now in
        let rest : HasRun setup ((before ++ made) ++ steps_of mid.world now (words_in calls)) bridge = later mid is (ran_on setup before made old mid ran goes) in
        let there_too = subst (λ (w : WorldState). HasRun setup ((before ++ made) ++ steps_of w now (words_in calls)) bridge) goes.there rest in
        subst (λ (c : CallState). HasRun setup (before ++ (steps_at old.world c ++ steps_of (after old.world (steps_at old.world c)) c (words_in calls))) bridge) takes.called.call
        (subst (λ (steps : List Step). HasRun setup steps bridge) (append_assoc before made (steps_of (after old.world made) now (words_in calls))) there_too)

-- a set-up is begun at one of the words
begins_run : (calls : List (ℕ × ℕ)) (handle new : HeldBridge) (set_up : SetUpState) (bridge : BridgeState) → handle.stage ≡ SettingUp set_up → IsEarly (stage_in set_up)
    → TakesWords Called handle calls new → new.stage ≡ Running bridge → IsARun handle calls bridge
begins_run [] handle new set_up bridge here early takes there =
    absurd (let both : SettingUp set_up ≡ Running bridge = sym here ∙ sym (ap (λ (h : HeldBridge). h.stage) takes) ∙ there in cc)
begins_run (call ∷ calls) handle new set_up bridge here early takes there =
    by_stage takes.next.stage refl (fits_word (SettingUp set_up) handle takes.next call.0 call.1 here early takes.called)
    (λ more is still. begins_run calls takes.next new more bridge is still takes.behind there)
  where
    by_stage : (stage : Held) → takes.next.stage ≡ stage → Fits (λ world. steps_at world takes.next.call) (SettingUp set_up) stage
        → ((more : SetUpState) → takes.next.stage ≡ SettingUp more → IsEarly (stage_in more) → IsARun takes.next calls bridge) → IsARun handle (call ∷ calls) bridge
    by_stage Closed is fits later = absurd (never_closed bridge new there (stays_closed calls takes.next new is takes.behind))
    by_stage (SettingUp more) is still later =
        let run = later more is still in
        record {
          first = call ∷ run.first;
          rest = run.rest;
          all = ap (λ (others : List (ℕ × ℕ)). call ∷ others) run.all;
          before = run.before;
          set_up = run.set_up;
          setup = run.setup;
          lines = record { next = takes.next; called = takes.called; behind = run.lines };
          stage = run.stage;
          said = run.said;
          run =
              subst (λ (c : CallState). HasRun run.setup (steps_of (opening_world run.setup) (call_after words_wanted c (words_in run.first)) (words_in run.rest)) bridge)
              takes.called.call run.run;
        }
    by_stage (Running mid) is (begun, none) later =
        let start = opening_world begun.setup in
        let now = takes.next.call in
        let opened : mid.world ≡ start = ap (λ (b : BridgeState). b.world) begun.opens in
        let at_first : HasRun begun.setup [] mid = has_run begun.setup [] mid opened (ap (λ (b : BridgeState). b.reply) begun.opens) (subst IsSoundWorld opened begun.sound) in
        let run : HasRun begun.setup (steps_of mid.world now (words_in calls)) bridge = runs_on calls begun.setup [] takes.next new mid bridge is at_first takes.behind there in
        let from_start = subst (λ (w : WorldState). HasRun begun.setup (steps_of w now (words_in calls)) bridge) opened run in
        let with_first : HasRun begun.setup (steps_at start now ++ steps_of (after start (steps_at start now)) now (words_in calls)) bridge =
        subst (λ (made : List Step). HasRun begun.setup (made ++ steps_of (after start made) now (words_in calls)) bridge) (sym (none start)) from_start in
        record {
          first = [];
          rest = call ∷ calls;
          all = refl;
          before = handle;
          set_up = set_up;
          setup = begun.setup;
          lines = refl;
          stage = here;
          said = begun.said;
          run = subst (λ (c : CallState). HasRun begun.setup (steps_at start c ++ steps_of (after start (steps_at start c)) c (words_in calls)) bridge) takes.called.call with_first;
        }

-- whatever words a new handle took: where a model runs then, they were a run of the steps that they say, from the opening world of the set-up that
-- they said, and the main theorem holds of it
pub is_a_run : (handle new : HeldBridge) (calls : List (ℕ × ℕ)) (bridge : BridgeState) → IsNew handle → TakesWords Called handle calls new → new.stage ≡ Running bridge
    → IsARun handle calls bridge
is_a_run handle new calls bridge is_new takes there = begins_run calls handle new no_line bridge is_new.stage tt takes there
