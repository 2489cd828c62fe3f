-- A function that is handed a place for a pointer has another make a value on the heap, and writes there where it lies: what the other says of the
-- value holds of what lies there then. Each export that opens a handle is one.
use Rattle.std.proofs.Common.{◌≡◌, List, [], ◌∷◌, ◌++◌, Bool, true, false, IfSome, Some, None, refl, ap, subst, ◌∙◌, lit<}
use Rattle.std.proofs.raw_atomic.Walks.{proved}
use seplogic.Ra.Ura.{Ura}
use base.Fraction.{full_share}
use base.Logic.{SProp, ent, id⊢, emp}
use base.Fml.{Fml, Lft, ftrue, fsep, fex, flft}
use mir.Syntax.{Ty, Dict, Body, impl, a_type, dcons, dnil, Sym, ty_bool, ty_ptr, ty_ref, ty_struct, ty_enum, tcons, tnil, ttcons, ttnil, named, mut, local, value_local, place, deref, variant, field, copy, opd_true, opd_false, rv_opd, assign, call, switch, arm, no_default, seq, return, Fn, Callee}
use mir.Raw.{raw as bare}
use mir.Val.{Val, has_ty, WT, vbool, vptr, vcons, vnil, of_list}
use lib.Dec.{T as Tells}
use prog.Model.{Model}
use prog.Wired.{Wired}
use prog.Wp.{Env, Wp, Closed, after_seq, at_return}
use contract.Monad.{fact, fact_i}
use contract.BorrowLft.{◌⊑◌, ⊑_static}
use contract.Running.{Running, tables}
use types.Logic.{Logic, sem}
use types.Kit.{Post as After, any_q, at_ret, Sq, Goal, Seq, Item, ‵, raw, ◌⊛◌, some, later, prop, ◌$◌, ◌∵◌, !, qed, done, move, keep, drop, use0, use1, use2, split, split3, join, fsplit, fsplit3, fjoin3, fpack, fpick, feq_i, feq_l, pick, await, rewrite, suffices, group}
use types.Tokens.{lft_new}
use types.Match.{live, vrt, in_variant}
use types.Part.{whole}
use types.Run.{enter, of_opd, true_lit, false_lit, stop, fld, no_more, and_then, assigns, store, first, switches_on, exec, returns, returns_within}
use types.ByLocal.{alloc_all, pass_all, free_all, look_at, get, get_in, get_tag, through, sets, sets_last, lands_as, env}
use denote.Builtin.{bool}
use denote.Exit.{yes, no}
use denote.Plain.{bool_Makes}
use denote.RattleType.{RattleType}
use denote.RawPtr.{Ptr, RawPtr, block_ptr, lies_at, in_a_block, ptr_val}
use denote.Ref.{MutRef, mut_vals, mut_Tells}
use denote.Memory.{cell_at}
use denote.Param.{param, layout, arg, bounded}
use denote.Param.Glue as glue
use denote.Param.NoDrop.{glues}
use denote.Param.Laws.{Laws, arg_laws}
use denote.Signature.{plain, mut_ref_to}
use denote.Steps.{heard, nothing, only, opens, closes, owned}
use denote.Triple.Call.{calls_at}
use denote.Triple.Clauses.{Clauses, Ended, closing, lasts}
use denote.Triple.Spec.{Meets, triple_of}
use denote.Triple.Walked.{Stays, walk_of, stay_dropped, Goes-dropped, stay_ref, Goes-ref, ends_at}
use denote.Triple.Table.{framed}
use Rattle.std.proofs.VecSteps.Shapes.{after, head, arm_body}
use Rattle.std.specs.contracts.option.Option as Maybe
use Rattle.std.specs.contracts.alloc.Global as Heap
use Rattle.std.proofs.alloc.Global.TheLaws as heap_laws
use Rattle.std.specs.contracts.impls.GlobalAllocator.TheImpl.{dict, ghosts}
use Rattle.std.proofs.Handle.{heap_val, heap_Tells}
use Rattle.std.specs.Box.Ownership.{box_owns}
use Rattle.std.specs.contracts.boxed.Box as Box
use Rattle.std.specs.contracts.boxed.Box.into_raw as into_raw
use Rattle.std.proofs.boxed.Box.into_raw.Met as into_raw_met
use Rattle.std.proofs.boxed.Box.into_raw.Symbol as into_raw_symbol
use Rattle.std.proofs.impls.GlobalAllocator.TheImpl.Met as allocator
use Rattle.std.proofs.impls.GlobalAllocator.allocate.Symbol as allocate
use Rattle.std.proofs.impls.GlobalAllocator.deallocate.Symbol as deallocate
use Rattle.std.proofs.impls.GlobalAllocator.grow.Symbol as grow
use Rattle.std.proofs.impls.GlobalAllocator.shrink.Symbol as shrink
use Rattle.std.proofs.BoxSteps.Form.{Bx, B, word, box_typed}
use Rattle.std.proofs.BoxSteps.Steps.{box_out, box_in}
use Rattle.std.proofs.ResultValues.{and_tt}
use Rattle.zuldegei.proofs.Destruct++none.drop.Code as none
use Rattle.zuldegei.specs.Opened.{HandedOut}

-- what is owned of an `Option`, by its variants
module _ (X : RattleType) {M : Type 1} {𝓤 : Ura M} {𝓛 : Logic 𝓤} {K : Type 0} {Γ : List (Item 𝓤)} {G : Goal 𝓤 𝓛.H} where
  option_out : K → (m : (Maybe.the_row X).Denot) (v : Val)
      → ((x : X.Denot) (us : List Val) → m ≡ Some x → v ≡ live 1 (of_list (us ++ [])) → Seq K 𝓛 (‵ (X.own_val x us) ∷ Γ) G)
      → (m ≡ None → v ≡ live 0 vnil → Seq K 𝓛 Γ G)
      → Seq K 𝓛 (‵ ((Maybe.the_row X).own_val m (v ∷ [])) ∷ Γ) G
  option_out t None v there gone =
      fpick t (λ us. fsplit t $ feq_l t (λ ev. fpick t (λ vss. fsplit t $ feq_l t (λ eu. drop t $ gone refl (ap only ev ∙ ap (λ ws. live 0 (of_list ws)) eu)))))
  option_out t (Some x) v there gone =
      fpick t (λ us. fsplit t $ feq_l t (λ ev. fpick t (λ vss. fsplit t $ feq_l t (λ eu. fsplit t $ move t (1 ∷ []) $ drop t $
      there x vss.0 refl (ap only ev ∙ ap (λ ws. live 1 (of_list ws)) eu)))))

-- the code, by the names of the types and of the other functions
abbrev heap : Ty
heap = layout Heap.the_row

module _ (box option : Sym) where
  abbrev box_ty : Ty
  box_ty = ty_struct box (tcons ty_ptr (tcons heap tnil))

  abbrev option_ty : Ty
  option_ty = ty_enum option (ttcons tnil (ttcons (tcons box_ty tnil) ttnil))

  abbrev pub opens_one : Callee → Callee → Fn
  opens_one making raw_of =
      record {
        lifetimes = 1;
        outlives = [];
        ty_params = [];
        givens = 0;
        params = 2;
        locals = local ty_bool value_local ∷ local heap value_local ∷ local (ty_ref (named 0) mut ty_ptr) value_local ∷ local box_ty value_local ∷ local option_ty value_local ∷ local ty_ptr value_local ∷ local box_ty value_local ∷ local ty_ptr value_local ∷ [];
        body = seq (call making (copy (place 1 []) ∷ []) (place 4 []))
            (seq (switch (copy (place 4 (variant 0 ∷ field 0 ∷ [])))
            (arm (1 ∷ []) (assign (place 3 []) (rv_opd (copy (place 4 (variant 1 ∷ field 1 ∷ [])))))
            (arm (0 ∷ []) (seq (assign (place 0 []) (rv_opd opd_false)) return) no_default)))
            (seq (assign (place 6 []) (rv_opd (copy (place 3 []))))
            (seq (call raw_of (copy (place 6 []) ∷ []) (place 5 []))
            (seq (assign (place 7 []) (rv_opd (copy (place 5 []))))
            (seq (assign (place 2 (deref ty_ptr ∷ [])) (rv_opd (copy (place 7 []))))
            (seq (assign (place 0 []) (rv_opd opd_true)) return))))));
      }

abbrev pub PassedHeap : RattleType
PassedHeap = arg (bare (layout Heap.the_row)) no Heap.the_row

abbrev pub passed_heap_laws : Laws PassedHeap
passed_heap_laws = arg_laws (bare (layout Heap.the_row)) no Heap.the_row heap_laws.the_row_laws refl

-- how the allocator is let go: there is nothing to do
abbrev pub no_drop : Dict
no_drop = impl ("zuldegei::Destruct++none::drop" ∷ []) (tcons (layout PassedHeap) tnil) dnil

-- of a type, by what it is laid out as where it is passed and how a value of it is let go
module _ (T : RattleType) (τ : Ty) (L : Laws (arg τ no T)) (drops : Dict) where
  abbrev pub Passed : RattleType
  Passed = arg τ no T

  abbrev pub Raw : {M : Type 1} {𝓤 : Ura M} (𝓛 : Logic 𝓤) (𝓜 : Model 𝓤 𝓛.H) (𝓡 : Running 𝓤 𝓛.H 𝓜) → Callee → Type 1
  Raw 𝓛 𝓜 𝓡 k =
      Meets 𝓛 (into_raw.signature Passed PassedHeap ghosts dict no_drop drops) (𝓡.run (𝓡.env k)) (into_raw.spec Passed PassedHeap ghosts dict no_drop drops 𝓛 𝓜.mem 𝓡.returns)

  -- `into_raw` at the type meets its contract
  pub raw_met : {M : Type 1} (𝓤 : Ura M) (𝓛 : Logic 𝓤) (𝓜 : Model 𝓤 𝓛.H) (𝓡 : Running 𝓤 𝓛.H 𝓜)
      → Wired 𝓡.env into_raw_symbol.code → Wired 𝓡.env allocate.code → Wired 𝓡.env deallocate.code → Wired 𝓡.env grow.code → Wired 𝓡.env shrink.code
      → Wired 𝓡.env none.code → glue.Met 𝓛 𝓜 𝓡 𝓡.env Passed drops
      → Raw 𝓛 𝓜 𝓡 (into_raw_symbol.name (bounded (a_type ∷ a_type ∷ []) (Passed, (PassedHeap, tt)) (dcons dict (dcons no_drop (dcons drops dnil)))))
  unfolding none.code
  raw_met {M} 𝓤 𝓛 𝓜 𝓡 raw_code allocate_code deallocate_code grow_code shrink_code none_code own_glue =
      into_raw_met.met 𝓤 𝓛 𝓜 𝓡 raw_code Passed PassedHeap L passed_heap_laws ghosts dict no_drop drops
      (allocator.passed 𝓡.env allocate_code deallocate_code grow_code shrink_code M 𝓤 𝓛 𝓜 𝓡) (glues "zuldegei::Destruct++none::drop" 𝓡.env none_code PassedHeap passed_heap_laws M 𝓤 𝓛 𝓜 𝓡) own_glue

-- and by what a value of it that was just made is
module _ (T : RattleType) (τ : Ty) (L : Laws (arg τ no T)) (drops : Dict) (Is : T.Denot → Type 0) where
  abbrev E : Bx
  E = record { row = Passed T τ L drops; laws = L; al = record { row = PassedHeap; laws = passed_heap_laws; g = ghosts; d = dict; drops = no_drop } }

  abbrev Boxed : RattleType
  Boxed = Box.the_row T Heap.the_row ghosts

  -- the contract of the function that makes one
  abbrev pub maker : Ended
  maker = record { signature = record { lifetimes = 0; outlives = []; params = plain (λ κs. Heap.the_row) ∷ []; result = plain (λ κs. Maybe.the_row Boxed) }; kept = (yes, tt) }

  abbrev pub maker_clauses : {M : Type 1} (𝓤 : Ura M) → Clauses 𝓤 maker
  maker_clauses 𝓤 κs a = record { ghost = Unit {0}; requires = λ g. emp 𝓤; ensures = λ g r e. fact 𝓤 (IfSome r (λ b. Is b.value)) }

  -- its own
  abbrev pub opener : Ended
  opener = record { signature = record { lifetimes = 1; outlives = []; params = plain (λ κs. Heap.the_row) ∷ mut_ref_to (0 ∷ []) tt (plain (λ κs. RawPtr)) ∷ []; result = plain (λ κs. bool) }; kept = (yes, (yes, tt)) }

  abbrev pub opener_clauses : {M : Type 1} {𝓤 : Ura M} → Logic 𝓤 → Clauses 𝓤 opener
  opener_clauses {𝓤 = 𝓤} 𝓛 κs a = record { ghost = Unit {0}; requires = λ g. emp 𝓤; ensures = λ g r e. sem 𝓛 (HandedOut T Is r a.1.0.now e.1.0.now) }

  abbrev stayed : Stays opener.signature.params opener.kept
  stayed = (stay_dropped _ yes, (stay_ref (0 ∷ []) tt (plain (λ _. RawPtr)), tt))

  module _ {M : Type 1} (𝓤 : Ura M) (𝓛 : Logic 𝓤) (𝓜 : Model 𝓤 𝓛.H) (𝓡 : Running 𝓤 𝓛.H 𝓜) where
    -- no lifetime stands in the type, and it is laid out as one value: so each shows by computing
    pub opener_met : ((α : Lft) → α ⊑ T.lives)
        → ((b : (B E).Denot) (us : List Val) → ent 𝓤 (sem 𝓛 (Boxed.own_val b us)) (sem 𝓛 ((B E).own_val b us)))
        → ((p : Ptr) (x : T.Denot) → ent 𝓤 (sem 𝓛 (lies_at (param 0 E.row) full_share p x)) (sem 𝓛 (lies_at T full_share p x)))
        → (box option : Sym) (own making raw_of : Callee)
        → Closed 𝓤 𝓛.H (tables 𝓤 𝓛.H 𝓜 𝓡 𝓡.env).C (tables 𝓤 𝓛.H 𝓜 𝓡 𝓡.env).Λ own (opens_one box option making raw_of)
        → Meets 𝓛 maker.signature (𝓡.run (𝓡.env making)) (closing 𝓛 maker (maker_clauses 𝓤))
        → Raw T τ L drops 𝓛 𝓜 𝓡 raw_of
        → Meets 𝓛 opener.signature (𝓡.run (𝓡.env own)) (closing 𝓛 opener (opener_clauses 𝓛))
    opener_met lives unboxes lies box option own making raw_of closed making_met raw_met =
        let c = opener_clauses 𝓛 in let W = walk_of 𝓛 opener stayed c in let 𝓣 = tables 𝓤 𝓛.H 𝓜 𝓡 𝓡.env in let fn = opens_one box option making raw_of in
        proved 𝓛 opener stayed c 𝓜 𝓡 (Goes-dropped 𝓛 1 (plain (λ _. Heap.the_row)) yes (λ κs x w. refl), (Goes-ref 𝓛 1 0 tt (plain (λ _. RawPtr)), tt))
        own fn closed
        (λ κs. ((λ x. heap_val ∷ []), (mut_vals, tt))) (λ κs. (heap_Tells, (mut_Tells (named 0) κs.0 RawPtr, tt))) (λ κs qs bounds a _ are.
        let κ = κs.0 in let q = qs.0 in let r = a.1.0 in let rb = r.ref_ptr.0 in let ro = r.ref_ptr.1 in let vs = mut_vals r in
        let y : W.Ghost = ((κs, qs, bounds, a, (heap_val ∷ [], (vs, tt))), tt) in
        let Ref : Ptr → Fml = λ p. (MutRef (named 0) κ RawPtr).own_val (record r { now = p }) vs in
        let ends : (told : Bool) (now : Ptr) → Sq 𝓛 (‵ (Ref now) ∷ ‵ (flft κ q) ∷ ‵ (HandedOut T Is told r.now now) ∷ []) (prop (W.post y (vbool told))) = λ told now.
        suffices ! _ (ends_at 𝓛 opener stayed c y (vbool told) told (tt, (now, tt)) (tt, (tt, tt))) $
        nothing ! $ move ! (1 ∷ 0 ∷ []) $ join ! $ nothing ! $ join ! $ nothing ! $ move ! (2 ∷ 0 ∷ []) $ join ! $
        owned ! bool _ (bool_Makes 𝓛) told _ refl $ move ! (1 ∷ 2 ∷ 0 ∷ []) $ group ! 3 $ done ! in
        qed 𝓛 (((‵ (flft κ q) ⊛ ‵ ftrue) ⊛ ‵ ((Heap.the_row).own_val a.0 (heap_val ∷ [])) ⊛ ‵ (Ref r.now) ⊛ ‵ ftrue) ∷ ‵ ftrue ∷ []) ∵
        split ! $ split ! $ move ! (2 ∷ []) $ split3 ! $ keep ! (0 ∷ 1 ∷ 3 ∷ []) $
        enter ! _ _ _ _ _ $ alloc_all ! (λ l. pass_all ! refl ((tt, ((tt, tt), tt)), ((tt, tt), tt)) $
        -- [the allocator; the reference; its token]
        let Gm = triple_of 𝓛 maker.signature (closing 𝓛 maker (maker_clauses 𝓤)) in
        let z : Gm.Ghost = ((tt, tt, tt, (a.0, tt), (heap_val ∷ [], tt)), tt) in
        nothing ! $ move ! (1 ∷ 0 ∷ []) $ join ! $ nothing ! $ join ! $ nothing ! $ move ! (1 ∷ 0 ∷ []) $ use2 𝓛 (raw (Gm.pre z)) (id⊢ 𝓤 _) $
        calls_at ! (framed 𝓤 𝓛.H 𝓜 𝓣) Gm making_met z (and_then ! (get ! refl) (no_more !)) (λ v.
        use1 𝓛 (later (some (λ (m : (Maybe.the_row Boxed).Denot). (‵ ftrue ⊛ ‵ ((Maybe.the_row Boxed).own_val m (v ∷ []))) ⊛
        some (λ (ws : Unit {0} × Unit {0}). ‵ (lasts maker tt (a.0, tt) ws) ⊛ raw (fact 𝓤 (IfSome m (λ b. Is b.value))))))) (id⊢ 𝓤 _) $
        await ! tt $ pick ! (λ m. split ! $ move ! (1 ∷ []) $ pick ! (λ ws. split ! $ drop ! $ heard ! (IfSome m (λ b. Is b.value)) (λ is. split ! $ drop ! $
        let En : Env 𝓤 𝓛.H = env fn.locals l in let Post : Val → SProp 𝓤 = W.post y in let choice : Body = head (after 1 fn.body) in
        let Then : After 𝓤 𝓛.H = any_q (after_seq 𝓤 𝓛.H (Wp 𝓤 𝓛.H 𝓣.C 𝓣.Λ En (after 2 fn.body) (at_return 𝓤 𝓛.H En Post)) (at_return 𝓤 𝓛.H En Post)) in
        option_out Boxed ! m v
        (λ b us there ev. use1 𝓛 (‵ ((B E).own_val b us)) (unboxes b us) $ box_out E ! b us (λ bb bo h e ws fits. box_in E ! b bb bo b.value e refl $
        let w : Val = word E h bb bo in let typed = box_typed E h bb bo fits in
        let full : Tells (has_ty (option_ty box option) (live 1 (vcons w vnil))) × WT (live 1 (vcons w vnil)) = (and_tt _ typed.0, (record { fits = lit< tt }, (typed.1, tt))) in
        let k = triple_of 𝓛 (into_raw.signature E.row PassedHeap ghosts dict no_drop drops) (into_raw.spec E.row PassedHeap ghosts dict no_drop drops 𝓛 𝓜.mem 𝓡.returns) in
        -- [the box; the reference; its token]
        lands_as ! (ev ∙ ap (λ xs. live 1 (of_list (xs ++ []))) ws) refl full $ first ! $ switches_on ! (get_tag ! (vrt ! refl (fld ! refl (stop !))) (whole !)) $
        exec ! 𝓣.C 𝓣.Λ En (arm_body 0 choice) Then $ sets_last ! (of_opd ! (get_in ! (vrt ! refl (fld ! refl (stop !))) (in_variant ! 1 0 refl refl (whole !)))) refl typed $
        exec ! 𝓣.C 𝓣.Λ En (after 2 fn.body) (at_ret En Post) $ sets ! (of_opd ! (get ! refl)) refl typed $
        lft_new ! tt (λ α. lft_new ! tt (λ β.
        let x : k.Ghost = (((α ∷ [], (β ∷ [], tt)), (full_share, (full_share, tt)), tt, (b, tt), (w ∷ [], tt)), tt) in
        let tokens = ‵ (flft (α ∷ []) full_share) ⊛ ‵ (flft (β ∷ []) full_share) ⊛ ‵ ftrue in
        nothing ! $ move ! (1 ∷ 0 ∷ []) $ join ! $ move ! (1 ∷ 0 ∷ []) $ join ! $ move ! (1 ∷ []) $ nothing ! $ move ! (1 ∷ 0 ∷ []) $ join ! $ move ! (1 ∷ 0 ∷ []) $ join ! $
        nothing ! $ use0 𝓛 (raw (fact 𝓤 ((β ∷ []) ⊑ PassedHeap.lives))) (fact_i 𝓤 _ (emp 𝓤) (⊑_static (β ∷ []))) $ join ! $
        use0 𝓛 (raw (fact 𝓤 ((α ∷ []) ⊑ T.lives))) (fact_i 𝓤 _ (emp 𝓤) (lives (α ∷ []))) $ join ! $ move ! (1 ∷ 0 ∷ []) $ join ! $ use1 𝓛 (raw (k.pre x)) (id⊢ 𝓤 _) $
        calls_at ! (framed 𝓤 𝓛.H 𝓜 𝓣) k raw_met x (and_then ! (get ! refl) (no_more !)) (λ u.
        use1 𝓛 (later (some (λ (p : Ptr). (tokens ⊛ ‵ (RawPtr.own_val p (u ∷ []))) ⊛ some (λ (_ : (Unit {0} × (Unit {0} × Unit {0})) × Unit {0}). ‵ (fsep (fsep ftrue (fsep ftrue ftrue)) ftrue) ⊛
        ‵ (box_owns (ghosts.dealloc_token b.alloc) (param 0 E.row) p b.value))))) (id⊢ 𝓤 _) $
        await ! tt $ pick ! (λ p. split ! $ split ! $ drop ! $ feq_l ! (λ ep. pick ! (λ _. split ! $ drop ! $ fsplit ! $
        in_a_block ! p (λ at. lies_at (param 0 E.row) full_share at b.value) (id⊢ 𝓤 _) (λ nb no en.
        -- [the value; the right to free it; the reference; its token]
        lands_as ! (ap only ep ∙ ap ptr_val en) refl (tt, tt) $ sets ! (of_opd ! (get ! refl)) refl (tt, tt) $
        move ! (2 ∷ 3 ∷ []) $ fsplit3 ! $ move ! (1 ∷ 2 ∷ 3 ∷ []) $ opens ! tt RawPtr rb ro (λ olds. move ! (1 ∷ []) $ feq_l ! (λ eo.
        rewrite ! 0 (λ (xs : List Val). ‵ (cell_at full_share RawPtr.mir xs rb ro)) eo refl $
        assigns ! (of_opd ! (get ! refl)) (through ! refl (stop !)) (store ! 0 refl (tt, tt)) $
        feq_i ! (List Val) (vptr nb no ∷ []) (vptr nb no ∷ []) refl $ move ! (1 ∷ 0 ∷ []) $ closes ! tt RawPtr (block_ptr nb no) (vptr nb no ∷ []) rb ro $
        sets ! (of_opd ! (true_lit !)) refl (tt, tt) $ returns ! (look_at ! 0 refl) $ free_all ! refl $
        -- [two parts of the reference; its token; its first part; the value; the right to free it]
        move ! (4 ∷ []) $ use1 𝓛 (‵ (lies_at T full_share (block_ptr nb no) b.value)) (lies (block_ptr nb no) b.value) $
        fpack ! (Is b.value) (λ _. lies_at T full_share (block_ptr nb no) b.value) (subst (λ (o : (Maybe.the_row Boxed).Denot). IfSome o (λ b'. Is b'.value)) there is) $
        fpack ! T.Denot (λ value. fex (Is value) (λ _. lies_at T full_share (block_ptr nb no) value)) b.value $
        keep ! (4 ∷ 1 ∷ 2 ∷ 3 ∷ 0 ∷ []) $ fjoin3 ! $ ends true (block_ptr nb no))))))))))))
        (λ gone ev. lands_as ! ev refl (tt, (record { fits = lit< tt }, tt)) $ first ! $ switches_on ! (get_tag ! (vrt ! refl (fld ! refl (stop !))) (whole !)) $
        exec ! 𝓣.C 𝓣.Λ En (arm_body 1 choice) Then $ sets ! (of_opd ! (false_lit !)) refl (tt, tt) $ returns_within ! Post refl (look_at ! 0 refl) $ free_all ! refl $
        feq_i ! Ptr r.now r.now refl $ move ! (1 ∷ 2 ∷ 0 ∷ []) $ ends false r.now)))))))
