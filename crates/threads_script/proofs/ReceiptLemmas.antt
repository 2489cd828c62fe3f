-- The next of a client's receipts, and what a report says of all of them.
use Rattle.std.proofs.Common.{◌≡◌, ◌<◌, ◌+◌, ◌∙◌, ℕ, zero, suc, List, [], ◌∷◌, ◌++◌, append-nil, drop, flat_map, length, map, Some, Result, Ok, Err, refl, sym, ap, arith, rules}
use Rattle.std.specs.Prelude.{OnOk, get_or, option_map, slice_get}
use Rattle.std.proofs.lemmas.List.{length-map}
use Rattle.std.proofs.lemmas.Option.{get_or_from_slice_get, slice_get-map, slice_get_within}
use Rattle.std.specs.List.{range_with_len}
use Rattle.std.proofs.lemmas.Grind.{flat_map-append}
use Rattle.bus_words.proofs.StoredPlaces.{there_is}
use Rattle.axi_beats.proofs.Ranges.{range_with_len-append-range_with_len}
use Rattle.tl_messages.specs.declared.ABeat.{ABeat}
use Rattle.tl_messages.specs.declared.DBeat.{DBeat}
use Rattle.world_run.specs.Runs.{HandedReply}
use Rattle.setups.specs.Setups.{SetupLists}
use Rattle.world.specs.World.{WorldState, opening_world}
use Rattle.world.specs.declared.Step.{Step}
use Rattle.thread_reports.specs.Reports.{IsReport, beats_of_all, head_of}
use Rattle.thread_reports.specs.declared.receipts.Receipts.{Receipts}
use Rattle.threads_script.specs.ReportTexts.{AreReceived}

drop_next : {A : Type 0} (xs : List A) (i : ℕ) (x : A) → slice_get xs i ≡ Some x → drop i xs ≡ x ∷ drop (i + 1) xs
drop_next [] i x there = search rules
drop_next (y ∷ xs) zero x there = search rules
drop_next (y ∷ xs) (suc i) x there = let one : suc i + 1 ≡ suc (i + 1) = omega arith in rw one (drop_next xs i x there)

-- the reply of the head at a place, and where its beats stand
pub record NextReply (heads : List (ℕ × ℕ)) (replies : List HandedReply) (i : ℕ) (rest : List DBeat) : Type 0 where
  pub reply : HandedReply
  pub there : slice_get replies i ≡ Some reply
  pub head : get_or heads i (0, 0) ≡ head_of reply
  pub after : List DBeat
  pub after_is : after ≡ beats_of_all (drop (i + 1) replies)
  pub cut : rest ≡ reply.beats ++ after

pub next_reply : (heads : List (ℕ × ℕ)) (replies : List HandedReply) (i : ℕ) (rest : List DBeat) → heads ≡ map head_of replies → i < length heads → rest ≡ beats_of_all (drop i replies)
    → NextReply heads replies i rest
next_reply heads replies i rest are within left =
    let as_many : length heads ≡ length replies = ap length are ∙ length-map replies head_of in
    let found = there_is replies i (omega (arith, within, as_many)) in
    let here : slice_get heads i ≡ Some (head_of found.0) = ap (λ hs. slice_get hs i) are ∙ slice_get-map head_of replies i ∙ ap (option_map head_of) found.1 in
    record {
      reply = found.0;
      there = found.1;
      head = get_or_from_slice_get heads i (head_of found.0) (0, 0) here;
      after = beats_of_all (drop (i + 1) replies);
      after_is = refl;
      cut = left ∙ ap beats_of_all (drop_next replies i found.0 found.1);
    }

-- each client's receipts are the replies handed to it
pub received_of : (setup : SetupLists) (scripts : List (List ABeat)) (steps : List Step) (receipts : List Receipts) (world : WorldState) → IsReport setup scripts steps receipts world
    → AreReceived (opening_world setup) steps receipts
received_of setup scripts steps receipts world report client received is =
    let within = slice_get_within receipts client received is in
    let script = there_is scripts client (omega (arith, within, report.as_many_scripts, report.as_many_receipts)) in
    (report.clients client script.0 received script.1 is).receipts_kept

pub on_ok : {A E : Type 0} {P Q : Type 0} (result : Result A E) → (P → Q) → OnOk result P → OnOk result Q
on_ok (Ok x) goes holds = goes holds
on_ok (Err e) goes holds = holds

-- the text of one client more
pub one_more : (f : ℕ → List ℕ) (n : ℕ) → flat_map f (range_with_len 0 (n + 1)) ≡ flat_map f (range_with_len 0 n) ++ f n
one_more f n =
    let plain : 0 + n ≡ n = omega arith in
    let joined : range_with_len 0 n ++ n ∷ [] ≡ range_with_len 0 (n + 1) = rw plain at (range_with_len-append-range_with_len 0 n 1) in
    ap (flat_map f) (sym joined) ∙ flat_map-append f (range_with_len 0 n) (n ∷ []) ∙ ap (λ text. flat_map f (range_with_len 0 n) ++ text) (append-nil (f n))
