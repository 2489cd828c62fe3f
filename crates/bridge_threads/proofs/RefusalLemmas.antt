-- A run that isn't refused.
use Rattle.std.proofs.Common.{◌≡◌, ◌≢◌, ℕ, ◌≤◌, ◌==◌, Bool, true, false, List, length, Option, Some, None, Result, Ok, Err, refl, sym, ◌∙◌}
use Rattle.std.specs.Prelude.{◌&&◌, ◌||◌, ◌↔◌, IsTrue, not, is_some, nat_le, nat_lt}
use Rattle.std.specs.List.{list_any}
use Rattle.std.proofs.lemmas.Bool.{eqb-true, false≢true, leb-true, not-false}
use Rattle.bus_words.specs.Lanes.{is_between}
use Rattle.tl_messages.specs.declared.ABeat.{ABeat}
use Rattle.burst_plan.specs.Pieces.{is_max_len}
use Rattle.config.specs.Configs.{is_valid}
use Rattle.setups.specs.Setups.{SetupLists, setup_fault}
use Rattle.setups.proofs.SetupFaults.{valid_of}
use Rattle.thread_reports.specs.Refusals.{is_refused}
use Rattle.bridge_threads.specs.Faults.{is_of_worker}
use Rattle.bridge_threads.specs.declared.threads.Fault.{Fault}
use Rattle.bridge_threads.specs.declared.threads.Fault.TheVariants.{BadConfig}

-- where none of some tests holds, the first two don't
first_two : (a b c d e f g : Bool) → (a || b || c || d || e || f || g) ≡ false → (a ≡ false) × (b ≡ false)
first_two true b c d e f g none = absurd (false≢true (sym none))
first_two false true c d e f g none = absurd (false≢true (sym none))
first_two false false c d e f g none = (refl, refl)

none_is : {A : Type 0} (o : Option A) → is_some o ≡ false → o ≡ None
none_is None none = refl
none_is (Some x) none = absurd (false≢true (sym none))

-- its set-up isn't refused, and it has a script for each client
pub not_refused : (setup : SetupLists) (scripts : List (List ABeat)) (words : List (List ℕ)) (steps idle : ℕ) → is_refused setup scripts words steps idle ≡ false
    → (setup_fault setup ≡ None) × (length scripts ≡ setup.config.clients)
not_refused setup scripts words steps idle none =
    let both = first_two (is_some (setup_fault setup)) (not (length scripts == setup.config.clients)) (list_any (λ script. nat_lt 4096 (length script)) scripts)
    (not (nat_le 1 (length words) && nat_le (length words) 4)) (nat_lt 1000000 steps) (steps == 0) (idle == 0) none in
    (none_is (setup_fault setup) both.0, eqb-true (length scripts) setup.config.clients (not-false (length scripts == setup.config.clients) both.1))

first_of_seven : (a b c d e f g : Bool) → (a && b && c && d && e && f && g) ≡ true → a ≡ true
first_of_seven true b c d e f g all = refl
first_of_seven false b c d e f g all = absurd (false≢true all)

second_of_two : (a b : Bool) → (a && b) ≡ true → b ≡ true
second_of_two true b both = both
second_of_two false b both = absurd (false≢true both)

-- it has at most eight clients
pub few_clients : (setup : SetupLists) → setup_fault setup ≡ None → setup.config.clients ≤ 8
few_clients setup none =
    let valid : is_valid setup.config ≡ true = valid_of (is_valid setup.config) _ none in
    let between = first_of_seven (is_between 1 8 setup.config.clients) (is_between 1 8 setup.config.quota) (is_between 1 16 setup.config.ids) (is_between 1 4 setup.config.depth) (is_max_len setup.config.max_len)
    (is_between 3 12 setup.config.max_size) (setup.config.axi_bytes == 8 || setup.config.axi_bytes == 4 && nat_le 2 setup.config.max_len) valid in
    let most = second_of_two (nat_le 1 setup.config.clients) (nat_le setup.config.clients 8) between in
    leb-true setup.config.clients 8 most

-- ---- what such a run answers isn't that it is refused

pub apart : {A : Type 0} (refused : Bool) (fault : Fault) → refused ≡ false → fault ≢ BadConfig → (◌≡◌ {A = Result A Fault} (Err fault) (Err BadConfig)) ↔ IsTrue refused
apart refused fault taken other = (λ is. absurd (other cc), λ yes. absurd (false≢true (sym taken ∙ yes)))

pub apart_from_report : {A : Type 0} (refused : Bool) (report : A) → refused ≡ false → (◌≡◌ {A = Result A Fault} (Ok report) (Err BadConfig)) ↔ IsTrue refused
apart_from_report refused report taken = (λ is. cc, λ yes. absurd (false≢true (sym taken ∙ yes)))

pub of_worker_apart : (fault : Fault) → is_of_worker fault ≡ true → fault ≢ BadConfig
of_worker_apart fault own is = false≢true (rw is at own)
