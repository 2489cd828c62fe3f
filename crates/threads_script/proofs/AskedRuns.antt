-- What a script asks for is never refused by the threaded run.
use Rattle.std.proofs.Common.{◌≡◌, ◌≤◌, ℕ, zero, suc, false, List, [], ◌∷◌, length, take, None, refl, arith, rules}
use Rattle.std.specs.Prelude.{◌||◌, ◌&&◌, ◌==◌, nat_le, nat_lt, not}
use Rattle.std.specs.List.{list_any}
use Rattle.std.proofs.lemmas.List.{length-take-le}
use Rattle.setups.specs.Setups.{SetupLists, setup_fault}
use Rattle.thread_reports.specs.Refusals.{is_refused}
use Rattle.threads_script.specs.Asked.{AskedLists, IsFit}
use Rattle.threads_script.specs.Lists.{AreShort}

none_long : {A : Type 0} (most : ℕ) (lists : List (List A)) → AreShort most lists → list_any (λ list. nat_lt most (length list)) lists ≡ false
none_long most [] short = refl
none_long most (list ∷ lists) short =
    let here : nat_lt most (length list) ≡ false = at_most most (length list) (short zero list refl) in
    rw here (none_long most lists (λ k x there. short (suc k) x there))
  where
    at_most : (most n : ℕ) → n ≤ most → nat_lt most n ≡ false
    at_most most n few = search rules

short_front : {A : Type 0} (most n : ℕ) (lists : List (List A)) → AreShort most lists → AreShort most (take n lists)
short_front most zero lists short k x there = search rules
short_front most (suc n) [] short k x there = search rules
short_front most (suc n) (list ∷ lists) short zero x there = short zero x there
short_front most (suc n) (list ∷ lists) short (suc k) x there = short_front most n lists (λ j y at. short (suc j) y at) k x there

pub fit_runs : (asked : AskedLists) (setup : SetupLists) → IsFit asked → setup_fault setup ≡ None → setup.config.clients ≤ 8
    → is_refused setup (take setup.config.clients asked.scripts) (take asked.threads asked.words) 200000 100000000 ≡ false
fit_runs asked setup fit sound few =
    let clients : length (take setup.config.clients asked.scripts) ≡ setup.config.clients = length-take-le setup.config.clients asked.scripts (omega (arith, few, fit.clients)) in
    let threads : length (take asked.threads asked.words) ≡ asked.threads = length-take-le asked.threads asked.words (omega (arith, fit.few, fit.rings)) in
    let long = none_long 4096 (take setup.config.clients asked.scripts) (short_front 4096 setup.config.clients asked.scripts fit.short) in
    rw (sound, clients, long, threads) (by_counts setup.config.clients asked.threads fit.some fit.few)
  where
    by_counts : (n m : ℕ) → 1 ≤ m → m ≤ 4 → (not (n == n) || false || not (nat_le 1 m && nat_le m 4) || nat_lt 1000000 200000 || 200000 == 0 || 100000000 == 0) ≡ false
    by_counts n m some few = search rules
