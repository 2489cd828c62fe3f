-- The request begins at one word more.
use Rattle.std.proofs.Common.{◌≡◌, ℕ, ◌+◌, ◌*◌, ◌/◌, ◌<◌, ◌||◌, false, arith, ap, refl, subst, sym, ◌∙◌}
use Rattle.value_memory.specs.InsideValues.{HasBegunUntil}
use Rattle.value_memory.specs.ValueMemory.{rooms_in, word_count}
use Rattle.value_memory.proofs.Beginnings.{BeginsAll, begun_all, begun_more, begun_none}
use Rattle.value_memory.proofs.MemoryGoes.{keeps_none, keeps_then}
use Rattle.value_memory.proofs.RangeWords.{words_share}
use Rattle.value_memory.specs.States.{after_each, begun_place, contents_of, is_crowded_until}
use Rattle.value_memory.proofs.StateSteps.{begun-more, crowded-more}
use Rattle.value_memory.proofs.memory.ValueMemory.begin_each.Goals as goal

pub loop-place-init : goal.loop-place-init
loop-place-init c = (
  keeps_none c.args.self.now,
  λ x. begun_none c.args.self.now.begun c.args.range c.args.self.now false x (λ inside. (words_share c.args.range x c.requires.range inside).0),
  refl,
  refl,
)

pub begin_at-crowded-requires : goal.begin_at-crowded-requires
begin_at-crowded-requires c =
    let rest = c.loop-place.invariant.0 in
    record {
      some = omega (arith, rest.counts.begun, c.requires.some);
      oldest = omega (arith, rest.counts.begun, rest.counts.oldest, c.requires.oldest);
      room = ap (rooms_in c.loop-place.self) c.word_at.ensures.page ∙ rest.pages.rooms (c.args.range.address / 4096) ∙ c.requires.room;
    }

pub loop-place-preserved : goal.loop-place-preserved
loop-place-preserved c =
    let now = c.args.self.now in
    let range = c.args.range in
    let place = c.loop-place.place in
    let lanes = c.lanes_of-lanes.result in
    let crowded = c.loop-place.crowded in
    let new = c.begin_at-crowded.new.self in
    let number : c.loop-place.self.begun ≡ now.begun = c.loop-place.invariant.0.counts.begun in
    let before : ℕ → Type 0 = λ n. (x : ℕ) → HasBegunUntil n range place now c.loop-place.self crowded x in
    let after : ℕ → Type 0 = λ n. (x : ℕ) → HasBegunUntil n range (place + 1) now new (crowded || c.begin_at-crowded.result) x in
    let there : ℕ → Type 0 = λ address. BeginsAll c.loop-place.self new address lanes c.begin_at-crowded.result in
    let below : place < word_count range = omega (arith, c.loop-place-test.true, c.word_count-place-end.ensures) in
    let begins : BeginsAll c.loop-place.self new (range.address + place * 8) lanes c.begin_at-crowded.result =
    subst there c.word_at.ensures.address (record { given = c.begin_at-crowded.ensures.given; beside = c.begin_at-crowded.ensures.beside; others = c.begin_at-crowded.ensures.others })
    in (
      keeps_then c.loop-place.invariant.0 c.begin_at-crowded.ensures.rest,
      subst after number
          (begun_more range place lanes now c.loop-place.self new crowded c.begin_at-crowded.result begins (λ x at. c.lanes_of-lanes.ensures.lanes x place below at) (subst before (sym number) c.loop-place.invariant.1)),
      begun-more range place c.word_at.result lanes (contents_of now) (contents_of c.loop-place.self) (contents_of new) c.word_at.ensures.address c.lanes_of-lanes.ensures.mask c.begin_at-crowded.ensures.state c.loop-place.invariant.2,
      crowded-more range place c.word_at.result (contents_of now) (contents_of c.loop-place.self) crowded c.begin_at-crowded.result c.word_at.ensures.address c.begin_at-crowded.ensures.crowded c.loop-place.invariant.2
          c.loop-place.invariant.3,
    )

pub returns-clause-held : goal.returns-clause-held
returns-clause-held c =
    let P : ℕ → Type 0 = λ n. (x : ℕ) → HasBegunUntil c.args.self.now.begun c.args.range n c.args.self.now c.loop-place.self c.loop-place.crowded x in
    let all : c.loop-place.place ≡ word_count c.args.range = omega (arith, c.loop-place-test.false, c.loop-place.auto.place-end, c.word_count-place-end.ensures) in
    λ x. begun_all c.args.self.now.begun c.args.range c.args.self.now c.loop-place.self c.loop-place.crowded x c.requires.range (subst P all c.loop-place.invariant.1 x)

pub returns-clause-state : goal.returns-clause-state
returns-clause-state c =
    let all : c.loop-place.place ≡ word_count c.args.range = omega (arith, c.loop-place-test.false, c.loop-place.auto.place-end, c.word_count-place-end.ensures) in
    c.loop-place.invariant.2 ∙ ap (λ n. after_each (begun_place c.args.range) n (contents_of c.args.self.now)) all

pub returns-clause-crowded : goal.returns-clause-crowded
returns-clause-crowded c =
    let all : c.loop-place.place ≡ word_count c.args.range = omega (arith, c.loop-place-test.false, c.loop-place.auto.place-end, c.word_count-place-end.ensures) in
    c.loop-place.invariant.3 ∙ ap (λ n. is_crowded_until c.args.range n (contents_of c.args.self.now)) all
