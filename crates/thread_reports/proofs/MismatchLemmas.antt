-- What was found of a client that has its part of a report, and where the receipts of one end to be its replies. It knows what was found; how it
-- was found is hidden.
use Rattle.std.proofs.Common.{inl, inr, ◌≡◌, ℕ, ◌<◌, ◌≤◌, ◌^◌, ◌-◌, Bool, true, false, List, [], ◌∷◌, ◌++◌, length, take, Some, refl, sym, subst, ap, ◌∙◌, arith}
use Rattle.std.specs.Prelude.{◌≢◌, ◌⊎◌, min, slice_get}
use Rattle.std.proofs.lemmas.Bool.{false≢true}
use Rattle.std.proofs.lemmas.List.{append-nil, length-map, length-take-le, take_all, take_at}
use Rattle.std.proofs.lemmas.Option.{same_Some, slice_get_within}
use Rattle.tl_messages.specs.declared.ABeat.{ABeat}
use Rattle.world.specs.Laws.{AreSoundAlong}
use Rattle.world_run.specs.Runs.{HandedReply}
use Rattle.setups.specs.Setups.{SetupLists}
use Rattle.world.specs.World.{WorldState, in_flight, opening_world}
use Rattle.world.specs.declared.Step.{Step}
use Rattle.thread_reports.specs.Mismatches.{EndsAt, IsMismatch, IsUnsettled}
use Rattle.thread_reports.specs.Replays.{AreFirstReceipts, DiffersAt, FoundOffers, FoundReplies, HasReceipt, IsFound, IsReplay, KeepsScript}
use Rattle.thread_reports.specs.Reports.{IsClientReport, IsReport, handed_to, head_of}
use Rattle.thread_reports.specs.declared.receipts.Receipts.{Receipts}
use Rattle.thread_reports.specs.declared.replay.Found.{Found}
use Rattle.thread_reports.specs.declared.replay.Replay.{Replay}
use Rattle.thread_reports.proofs.FoundLemmas.{at_seam, differs_wrong}
use Rattle.thread_reports.proofs.ReportLemmas.{as_many_handed, few_accepted}

-- ---- where the receipts end to be the replies

module _ (received : Receipts) (replies : List HandedReply) (right beats : ℕ) where
  ends_all : AreFirstReceipts received replies right beats → EndsAt received replies right
  ends_all same =
      record {
        beats = beats;
        same = subst (λ (xs : List HandedReply). AreFirstReceipts received xs right beats) (sym (take_all right replies (omega (arith, same.0)))) same;
        differs = λ reply there has. let within = slice_get_within replies right reply there in absurd (omega (arith, within, same.0));
      }

  ends_before : DiffersAt received replies right beats → EndsAt received replies right
  ends_before found =
      let count : length found.before ≡ right = sym found.same.0 in
      let front : take right replies ≡ found.before = ap (take right) found.replies_are ∙ take_at found.before (found.reply ∷ found.rest) right count in
      let here : slice_get replies right ≡ Some found.reply =
      ap (λ (xs : List HandedReply). slice_get xs right) found.replies_are
      ∙ subst (λ k. slice_get (found.before ++ found.reply ∷ found.rest) k ≡ Some found.reply) count (at_seam found.before found.reply found.rest) in
      record {
        beats = beats;
        same = subst (λ (xs : List HandedReply). AreFirstReceipts received xs right beats) (sym front) found.same;
        differs =
            λ reply there has.
            let same : reply ≡ found.reply = same_Some reply found.reply (sym there ∙ here) in
            found.differs (subst (λ (r : HandedReply). HasReceipt received right beats r.number r.beats) same has);
      }

-- of what was found
module _ {start : WorldState} {steps : List Step} {client : ℕ} {script : List ABeat} {received : Receipts} (found : Found) where
  pub ends_at : IsFound start steps client script received found → EndsAt received (handed_to client start steps) found.right
  ends_at is = by_differs found.differs is.replies
    where
      by_differs : (differs : Bool) → FoundReplies start steps client received found.right found.beats differs → EndsAt received (handed_to client start steps) found.right
      by_differs true replies = ends_before received (handed_to client start steps) found.right found.beats replies
      by_differs false replies = ends_all received (handed_to client start steps) found.right found.beats replies

  -- ---- a client that has its part

  module _ (is : IsFound start steps client script received found) (part : IsClientReport start steps client script received) where
    pub not_strayed : found.strayed ≡ false
    not_strayed = by_strayed found.strayed is.offers
      where
        by_strayed : (strayed : Bool) → FoundOffers start steps client script found.offered strayed → strayed ≡ false
        by_strayed true offers =
            absurd (offers [] (subst (λ (all : List Step). KeepsScript start all client script) (sym (append-nil steps)) (part.script_kept, part.all_taken)))
        by_strayed false offers = refl

    pub not_different : found.differs ≡ false
    not_different = by_differs found.differs is.replies
      where
        by_differs : (differs : Bool) → FoundReplies start steps client received found.right found.beats differs → differs ≡ false
        by_differs true replies = absurd (differs_wrong received (handed_to client start steps) found.right found.beats replies part.receipts_kept)
        by_differs false replies = refl

    pub all_offered : found.offered ≡ length script
    all_offered =
        let offers : FoundOffers start steps client script found.offered false = subst (FoundOffers start steps client script found.offered) not_strayed is.offers in
        sym (length-take-le found.offered script offers.1) ∙ ap length (sym offers.0 ∙ part.script_kept)

    all_same : AreFirstReceipts received (handed_to client start steps) found.right found.beats
    all_same = subst (FoundReplies start steps client received found.right found.beats) not_different is.replies

    pub all_heads : found.right ≡ length received.heads.items
    all_heads = all_same.0 ∙ sym (length-map (handed_to client start steps) head_of) ∙ ap length (sym part.receipts_kept.heads)

    pub all_beats : found.beats ≡ length received.beats.items
    all_beats = sym (length-take-le found.beats received.beats.items all_same.4) ∙ ap length (all_same.3 ∙ sym part.receipts_kept.beats)

    pub all_counted : length received.heads.items < 2 ^ 64 - 1 → found.accepted ≡ found.right
    all_counted small = omega (arith, is.accepted, all_same.0, all_heads, part.all_received, small)

-- ---- what no client shows

pub unsettled_of : {start : WorldState} {steps : List Step} {scripts : List (List ABeat)} {receipts : List Receipts} (replay : Replay) → IsReplay start steps scripts receipts replay
    → (replay.changes ≡ false) ⊎ (in_flight replay.world ≢ 0) ⊎ (replay.accepted ≢ replay.handed) ⊎ (2 ^ 64 - 1 ≤ replay.accepted) → IsUnsettled start steps
unsettled_of replay is (inl unchanged) = inl (sym is.changes ∙ unchanged)
unsettled_of replay is (inr (inl flying)) = inr (inl (λ none. flying (ap in_flight is.world ∙ none)))
unsettled_of replay is (inr (inr (inl apart))) = inr (inr (inl (λ same. apart (is.accepted ∙ ap (λ n. min n (2 ^ 64 - 1)) same ∙ sym is.handed))))
unsettled_of replay is (inr (inr (inr most))) = inr (inr (inr (omega (arith, is.accepted, most))))

-- ---- no report is a mismatch's

pub no_report : (setup : SetupLists) (scripts : List (List ABeat)) (steps : List Step) (receipts : List Receipts) (world : WorldState) (client index : ℕ) → AreSoundAlong (opening_world setup) steps
    → length steps < 2 ^ 63 → IsMismatch (opening_world setup) steps scripts receipts client index → IsReport setup scripts steps receipts world → ⊥
no_report setup scripts steps receipts world client index along short (inl lists) report = lists.0 (report.as_many_receipts ∙ sym report.as_many_scripts)
no_report setup scripts steps receipts world client index along short (inr (inl its)) report =
    its.wrong (report.clients client its.script its.received its.script_is its.received_is)
no_report setup scripts steps receipts world client index along short (inr (inr all)) report = by_cause all.1
  where
    by_cause : IsUnsettled (opening_world setup) steps → ⊥
    by_cause (inl unchanged) = false≢true (sym unchanged ∙ report.history.changes)
    by_cause (inr (inl flying)) = flying (ap in_flight (sym report.history.replays) ∙ report.quiet)
    by_cause (inr (inr (inl apart))) = apart (as_many_handed setup steps along report.all_handed)
    by_cause (inr (inr (inr most))) = absurd (omega (arith, most, few_accepted setup steps along, short))
