-- Words that are handed to a handle one after another (this project's profile). A handle says of one word what it does; here this is said of a list.
use Rattle.std.specs.Prelude.{ℕ, ◌≡◌, ◌<◌, ◌^◌, List, [], ◌∷◌, map, ⊤}
use Rattle.call_words.specs.PendingCalls.{CallState, taken}

-- a word was handed over and answered, and of the handle behind it something holds
pub record TakesWord {H : Type 0} (Called : H → ℕ → H → ℕ → Type 0) (old : H) (word answer : ℕ) (Then : H → Type 0) : Type 0 where
  pub next : H
  pub called : Called old word next answer
  pub behind : Then next

-- words were handed over one after another, each with its answer
abbrev pub TakesWords : {H : Type 0} → (H → ℕ → H → ℕ → Type 0) → H → List (ℕ × ℕ) → H → Type 0
TakesWords Called old [] new = new ≡ old
TakesWords Called old ((word, answer) ∷ calls) new = TakesWord Called old word answer (λ next. TakesWords Called next calls new)

-- the words, without the answers
abbrev pub words_in : List (ℕ × ℕ) → List ℕ
words_in calls = map (λ call. call.0) calls

-- each is one, of 64 bits
abbrev pub AreWords : List ℕ → Type 0
AreWords [] = ⊤
AreWords (word ∷ words) = (word < 2 ^ 64) × AreWords words

-- the call that has begun, after more words, where a head wants so many
abbrev pub call_after : (ℕ → ℕ) → CallState → List ℕ → CallState
call_after wanted call [] = call
call_after wanted call (word ∷ words) = call_after wanted (taken call word (wanted word)) words
