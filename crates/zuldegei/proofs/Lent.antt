-- A function that is handed a pointer and a word lends what lies there to another, with the word, and has it back: what the other says of the
-- value before, the word, the value after and the answer holds of what lies there then. Each export that takes the words of a call is one.
use Rattle.std.proofs.Common.{ℕ, [], ◌∷◌, ◌++◌, refl, subst, w64, MutBor}
use Rattle.std.proofs.raw_atomic.Walks.{proved}
use seplogic.Ra.Ura.{Ura}
use base.Fraction.{full_share}
use base.Logic.{id⊢, emp}
use base.Fml.{ftrue, fsep, fex, flft, fauth}
use mir.Syntax.{Ty, ty_int, ty_ptr, ty_ref, erased, mut, local, value_local, place, deref, copy, rv_opd, addr_of, assign, call, seq, return, Fn, Callee}
use mir.Val.{vint}
use prog.Model.{Model}
use prog.Wp.{WpFn, Closed}
use contract.Monad.{fact}
use contract.Running.{Running, tables}
use types.Logic.{Logic, sem}
use types.Kit.{‵, raw, ◌⊛◌, some, later, prop, ◌$◌, ◌∵◌, !, qed, done, move, keep, drop, use1, use2, split, join, fsplit, fjoin, fpack, fpick, feq_i, pick, await, regoal, suffices, group}
use types.Tokens.{lft_new, lft_end, name_new, bor_new, lent_back, res_agree}
use types.Run.{enter, of_opd, addr, stop, no_more, and_then, returns}
use types.ByLocal.{alloc_all, pass_all, free_all, look_at, get, through, sets, lands_as}
use denote.Builtin.{u64}
use denote.Exit.{yes}
use denote.Laws.{Is, shows}
use denote.Memory.{mem}
use denote.Plain.{uint_Makes, uint_Lawful, uint_vals, uint_Tells}
use denote.RattleType.{RattleType}
use denote.RawPtr.{Ptr, RawPtr, block_ptr, lies_at, in_a_block, rawptr_vals, rawptr_Tells}
use denote.Ref.{mut_vals}
use denote.Signature.{plain, mut_ref_to}
use denote.Steps.{heard, nothing, owned, peeks}
use denote.Triple.Call.{calls_at}
use denote.Triple.Clauses.{Clauses, Ended, closing, lasts}
use denote.Triple.Entry.{on_entry}
use denote.Triple.Spec.{Meets, triple_of}
use denote.Triple.Walked.{Stays, walk_of, stay_dropped, Goes-dropped, ends_at}
use denote.Triple.Table.{framed}

-- the code, by the type of what lies there, as a reference names it and as it lies there, and by the other function
abbrev pub lends : Ty → Ty → Callee → Fn
lends named lying other =
    record {
      lifetimes = 0;
      outlives = [];
      ty_params = [];
      givens = 0;
      params = 2;
      locals = local (ty_int w64) value_local ∷ local ty_ptr value_local ∷ local (ty_int w64) value_local ∷ local ty_ptr value_local ∷ local (ty_ref erased mut named) value_local ∷ [];
      body = seq (assign (place 3 []) (rv_opd (copy (place 1 []))))
          (seq (assign (place 4 []) (addr_of (place 3 (deref lying ∷ []))))
          (seq (call other (copy (place 4 []) ∷ copy (place 2 []) ∷ []) (place 0 [])) return));
    }

-- of a type, and what the other function says of a value before, a word, the value after and an answer
module _ (R : RattleType) (Did : R.Denot → ℕ → R.Denot → ℕ → Type 0) where
  -- the contract of the other function
  abbrev pub lent : Ended
  lent = record { signature = record { lifetimes = 1; outlives = []; params = mut_ref_to (0 ∷ []) tt (plain (λ κs. R)) ∷ plain (λ κs. u64) ∷ []; result = plain (λ κs. u64) }; kept = (yes, (yes, tt)) }

  abbrev pub lent_clauses : {M : Type 1} (𝓤 : Ura M) → Clauses 𝓤 lent
  lent_clauses 𝓤 κs a = record { ghost = Unit {0}; requires = λ g. emp 𝓤; ensures = λ g r e. fact 𝓤 (Did a.0.now a.1.0 e.0.now r) }

  -- its own
  abbrev pub lender : Ended
  lender = record { signature = record { lifetimes = 0; outlives = []; params = plain (λ κs. RawPtr) ∷ plain (λ κs. u64) ∷ []; result = plain (λ κs. u64) }; kept = (yes, (yes, tt)) }

  abbrev pub lender_clauses : {M : Type 1} {𝓤 : Ura M} → Logic 𝓤 → Clauses 𝓤 lender
  lender_clauses 𝓛 κs a =
      record {
        ghost = R.Denot;
        requires = λ old. sem 𝓛 (lies_at R full_share a.0 old);
        ensures = λ old r e. sem 𝓛 (fex R.Denot (λ new. fex (Did old a.1.0 new r) (λ done. lies_at R full_share a.0 new)));
      }

  abbrev stayed : Stays lender.signature.params lender.kept
  stayed = (stay_dropped _ yes, (stay_dropped _ yes, tt))

  module _ {M : Type 1} (𝓤 : Ura M) (𝓛 : Logic 𝓤) (𝓜 : Model 𝓤 𝓛.H) (𝓡 : Running 𝓤 𝓛.H 𝓜) where
    pub lender_met : (named lying : Ty) (own other : Callee) → Closed 𝓤 𝓛.H (tables 𝓤 𝓛.H 𝓜 𝓡 𝓡.env).C (tables 𝓤 𝓛.H 𝓜 𝓡 𝓡.env).Λ own (lends named lying other)
        → Meets 𝓛 lent.signature (𝓡.run (𝓡.env other)) (closing 𝓛 lent (lent_clauses 𝓤))
        → Meets 𝓛 lender.signature (𝓡.run (𝓡.env own)) (closing 𝓛 lender (lender_clauses 𝓛))
    lender_met named lying own other closed other_met =
        let c = lender_clauses 𝓛 in let W = walk_of 𝓛 lender stayed c in let 𝓣 = tables 𝓤 𝓛.H 𝓜 𝓡 𝓡.env in
        proved 𝓛 lender stayed c 𝓜 𝓡 (Goes-dropped 𝓛 0 (plain (λ _. RawPtr)) yes (λ κs x w. refl), (Goes-dropped 𝓛 0 (plain (λ _. u64)) yes (λ κs x w. refl), tt))
        own (lends named lying other) closed
        (λ κs. (rawptr_vals, (uint_vals w64, tt))) (λ κs. (rawptr_Tells, (uint_Tells w64, tt))) (λ κs qs bounds a n are.
        let x = a.1.0 in
        let y : Ptr → W.Ghost = λ p. ((κs, qs, bounds, (p, (x, tt)), (rawptr_vals p, (uint_vals w64 x, tt))), n) in
        qed 𝓛 (raw (on_entry 𝓛 lender.signature κs qs a (y a.0).0.4) ∷ ‵ (lies_at R full_share a.0 n) ∷ []) ∵ drop ! $
        in_a_block ! a.0 (λ p. lies_at R full_share p n) (id⊢ 𝓤 _) (λ b o e.
        regoal ! (λ p. prop (WpFn 𝓤 𝓛.H 𝓣.C 𝓣.Λ (lends named lying other) (rawptr_vals p ++ (vint w64 x ∷ [])) (W.post (y p)))) e refl $
        enter ! _ _ _ _ _ $ alloc_all ! (λ l. pass_all ! refl ((tt, tt), ((tt, record { fits = are.1.0.1 }), tt)) $
        sets ! (of_opd ! (get ! refl)) refl (tt, tt) $
        sets ! (addr ! (through ! refl (stop !))) refl (tt, tt) $
        lft_new ! tt (λ α. name_new ! tt (R.coded.code n) (λ γ.
        -- [what γ is seen at; its authority; the token of α; the value]
        move ! (3 ∷ 1 ∷ []) $ fjoin ! $
        fpack ! R.Denot (λ v. fsep ((mem R).own_at v b o) (fauth γ (R.coded.code v))) n $ bor_new ! tt (α ∷ []) $
        -- [the borrow; what comes back; what γ is seen at; the token]
        let r : MutBor R.Denot = record { ref_ptr = (b, o); ghost_name = γ; now = n } in
        let G = triple_of 𝓛 lent.signature (closing 𝓛 lent (lent_clauses 𝓤)) in
        let z : G.Ghost = (((α ∷ [], tt), (full_share, tt), tt, (r, (x, tt)), (mut_vals r, (uint_vals w64 x, tt))), tt) in
        move ! (2 ∷ 0 ∷ []) $ fjoin ! $ feq_i ! _ (mut_vals r) (mut_vals r) refl $ fjoin ! $
        owned ! u64 _ (uint_Makes 𝓛 w64) x _ (refl, are.1.0.1) $
        nothing ! $ move ! (1 ∷ 0 ∷ []) $ join ! $ move ! (1 ∷ 0 ∷ []) $ join ! $
        nothing ! $ move ! (3 ∷ 0 ∷ []) $ join ! $ join ! $ nothing ! $ move ! (1 ∷ 0 ∷ []) $ use2 𝓛 (raw (G.pre z)) (id⊢ 𝓤 _) $
        calls_at ! (framed 𝓤 𝓛.H 𝓜 (tables 𝓤 𝓛.H 𝓜 𝓡 𝓡.env)) G other_met z
        (and_then ! (get ! refl) (and_then ! (get ! refl) (no_more !))) (λ v.
        use1 𝓛 (later (some (λ (s : ℕ). ((‵ (flft (α ∷ []) full_share) ⊛ ‵ ftrue) ⊛ ‵ (u64.own_val s (v ∷ []))) ⊛
        some (λ (ws : R.Denot × (Unit {0} × Unit {0})). ‵ (lasts lent z.0.0 z.0.3 ws) ⊛ raw (fact 𝓤 (Did n x ws.0 s)))))) (id⊢ 𝓤 _) $
        await ! tt $ pick ! (λ s. split ! $ split ! $ split ! $ lft_end ! tt $ move ! (2 ∷ []) $
        -- [the result; α is over; nothing; the rest; what comes back]
        peeks ! u64 (Is u64) (shows 𝓛 u64) s (v ∷ []) (λ is. lands_as ! refl refl ((uint_Lawful 𝓛 w64).typed s _ is).0 $
        move ! (1 ∷ 4 ∷ []) $ lent_back ! tt $ fpick ! (λ w. fsplit ! $
        -- [the value; its authority; the result; nothing; the rest]
        move ! (4 ∷ []) $ pick ! (λ ws. split ! $ fsplit ! $ fsplit ! $ move ! (0 ∷ 5 ∷ []) $
        res_agree ! {γ = γ} R.coded {x = ws.0} {y = w} (λ same. move ! (4 ∷ []) $
        heard ! (Did n x ws.0 s) (λ did.
        -- [what γ came to; its authority; the borrow; nothing; the value; the result; nothing]
        returns ! (look_at ! 0 refl) $ free_all ! refl $ keep ! (4 ∷ 5 ∷ []) $
        suffices ! _ (ends_at 𝓛 lender stayed c (y (block_ptr b o)) v s (tt, (tt, tt)) (tt, (tt, tt))) $
        fpack ! (Did n x w s) (λ _. lies_at R full_share (block_ptr b o) w) (subst (λ (u : R.Denot). Did n x u s) same did) $
        fpack ! R.Denot (λ u. fex (Did n x u s) (λ _. lies_at R full_share (block_ptr b o) u)) w $ move ! (1 ∷ 0 ∷ []) $
        nothing ! $ nothing ! $ join ! $ nothing ! $ join ! $ nothing ! $ group ! 3 $ done !))))))))))))
