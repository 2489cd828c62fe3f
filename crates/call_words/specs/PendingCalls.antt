-- The call that has begun, and what a word makes of it (this project's profile).
use Rattle.std.specs.Prelude.{ℕ, ◌-◌, ◌==◌, Bool, List, [], ◌∷◌, ◌++◌, length, if◌then◌else◌, nat_lt}

-- its head, the words behind it that came, and how many more it wants
pub record CallState : Type 0 where
  pub head : ℕ
  pub words : List ℕ
  pub wanted : ℕ

-- none has begun
abbrev pub no_call : CallState
no_call = record { head = 0; words = []; wanted = 0 }

-- all its words have come
abbrev pub is_whole : CallState → Bool
is_whole call = call.wanted == 0

-- a call keeps at most 16 words
abbrev pub kept_words : List ℕ → ℕ → List ℕ
kept_words words word = if nat_lt (length words) 16 then words ++ word ∷ [] else words

-- one of which a head has come that wants so many words
abbrev pub call_begun : ℕ → ℕ → CallState
call_begun head wanted = record { head = head; words = []; wanted = wanted }

-- with one of the words that are wanted
abbrev pub with_word : CallState → ℕ → CallState
with_word call word = record { head = call.head; words = kept_words call.words word; wanted = call.wanted - 1 }

-- after a word: where the call is whole this is the head of the next, which wants so many words; else it is one of those wanted
abbrev pub taken : CallState → ℕ → ℕ → CallState
taken call word wants = if is_whole call then call_begun word wants else with_word call word
