-- What a threaded run is refused for before it starts. It knows set-ups, scripts and words; the threads are hidden.
use Rattle.std.specs.Prelude.{ℕ, ◌==◌, Bool, ◌&&◌, ◌||◌, not, List, length, is_some, nat_le, nat_lt}
use Rattle.std.specs.List.{list_any}
use Rattle.tl_messages.specs.declared.ABeat.{ABeat}
use Rattle.setups.specs.Setups.{SetupLists, setup_fault}

-- whether a run is refused before it starts: its set-up is, there isn't one script for each client, a script has over 4,096 beats, there aren't one
-- to four lists of words, more than 1,000,000 steps may be stored, or a limit is 0
abbrev pub is_refused : SetupLists → List (List ABeat) → List (List ℕ) → ℕ → ℕ → Bool
is_refused setup scripts words steps idle =
    is_some (setup_fault setup) || not (length scripts == setup.config.clients) || list_any (λ script. nat_lt 4096 (length script)) scripts
    || not (nat_le 1 (length words) && nat_le (length words) 4) || nat_lt 1000000 steps || steps == 0 || idle == 0
