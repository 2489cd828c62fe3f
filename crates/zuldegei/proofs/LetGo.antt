-- A type's own destructor, which says nothing of the value that it lets go, is what a bound `T: Drop` asks of the type as it is passed.
use Rattle.std.proofs.Common.{[], ◌∷◌}
use seplogic.Ra.Ura.{Ura}
use base.Logic.{sep, emp, mono_l, via}
use base.Fml.{ftrue, fsep, flft}
use mir.Syntax.{Ty, Dict, Callee, method, no_args}
use prog.Model.{Model}
use prog.Routine.{◌≼⁺◌}
use contract.Running.{Running}
use types.Logic.{Logic, sem}
use types.Kit.{‵, raw, ◌⊛◌, some, later, ◌$◌, ◌∵◌, !, qed, done, drop, keep, move, use0, split, join, pick, await, show, updating, now}
use denote.Builtin.{unit}
use denote.Exit.{yes, no}
use denote.Param.{arg}
use denote.Param.Glue as glue
use denote.RattleType.{RattleType, owns}
use denote.Signature.{plain}
use denote.Steps.{nothing}
use denote.Triple.Clauses.{Clauses, Ended, closing}
use denote.Triple.Spec.{Back, Meets, triple_of}
use denote.Triple.Table.{run_framed, widened}

module _ (T : RattleType) where
  -- the destructor's contract
  abbrev pub letting_go : Ended
  letting_go = record { signature = record { lifetimes = 0; outlives = []; params = plain (λ κs. T) ∷ []; result = plain (λ κs. unit) }; kept = (yes, tt) }

  abbrev pub letting_go_clauses : {M : Type 1} (𝓤 : Ura M) → Clauses 𝓤 letting_go
  letting_go_clauses 𝓤 κs a = record { ghost = Unit {0}; requires = λ g. emp 𝓤; ensures = λ g r e. emp 𝓤 }

  module _ {M : Type 1} (𝓤 : Ura M) (𝓛 : Logic 𝓤) (𝓜 : Model 𝓤 𝓛.H) (𝓡 : Running 𝓤 𝓛.H 𝓜) (τ : Ty) (d : Dict) where
    pub glue_met : (own : Callee) → 𝓡.env own ≼⁺ 𝓡.env (method d 0 no_args) → Meets 𝓛 letting_go.signature (𝓡.run (𝓡.env own)) (closing 𝓛 letting_go (letting_go_clauses 𝓤))
        → glue.Met 𝓛 𝓜 𝓡 𝓡.env (arg τ no T) d
    glue_met own le own_met y =
        let Own = triple_of 𝓛 letting_go.signature (closing 𝓛 letting_go (letting_go_clauses 𝓤)) in
        let R = arg τ no T in
        let Asked = triple_of 𝓛 (glue.signature R) (glue.spent 𝓛 R) in
        let met = widened 𝓤 𝓛.H Own 𝓜 𝓡 𝓡.env (𝓡.env own) (𝓡.env (method d 0 no_args)) le own_met in
        let κ = y.0.0.0 in let q = y.0.1.0 in let x = y.0.3.0 in
        let z : Own.Ghost = ((tt, tt, tt, (x, tt), y.0.4), tt) in
        let token = flft κ q in
        via 𝓤 (sep 𝓤 (Own.pre z) (sem 𝓛 token))
        (qed 𝓛 (((‵ token ⊛ ‵ ftrue) ⊛ ‵ (owns (T ∷ []) (x, tt) y.0.4)) ∷ raw ((glue.spent 𝓛 R y.0.0 y.0.3).requires y.1) ∷ []) ∵
        split ! $ split ! $ keep ! (2 ∷ 0 ∷ []) $ nothing ! $ join ! $ nothing ! $ move ! (1 ∷ 0 ∷ []) $ join ! $ done !)
        (via 𝓤 (sep 𝓤 (𝓡.run (𝓡.env (method d 0 no_args)) (Own.args z) (Own.post z)) (sem 𝓛 token)) (mono_l 𝓤 (sem 𝓛 token) (met z))
        (run_framed 𝓤 𝓛.H 𝓜 𝓡 (𝓡.env (method d 0 no_args)) (Own.args z) (Own.post z) (Asked.post y) (sem 𝓛 token) (λ v.
        qed 𝓛 (later (some (λ (u : Unit {0}). (‵ ftrue ⊛ ‵ (unit.own_val u (v ∷ []))) ⊛ raw ((closing 𝓛 letting_go (letting_go_clauses 𝓤) tt (x, tt)).ensures tt u))) ∷ ‵ token ∷ []) ∵
        updating ! $ await ! tt $ pick ! (λ u. split ! $ split ! $ drop ! $ keep ! (0 ∷ 2 ∷ []) $ now ! $
        show ! (λ (r : Unit {0}). sep 𝓤 (Back 𝓛 (glue.signature R) y.0 v r) ((glue.spent 𝓛 R y.0.0 y.0.3).ensures y.1 r)) u $
        use0 𝓛 (raw ((glue.spent 𝓛 R y.0.0 y.0.3).ensures y.1 u))
        (qed 𝓛 [] ∵ show ! (λ (ws : Unit {0} × Unit {0}). sep 𝓤 (sem 𝓛 (fsep ftrue ftrue)) (emp 𝓤)) (tt, tt) $ nothing ! $ nothing ! $ nothing ! $ join ! $ done !) $
        move ! (1 ∷ 2 ∷ 0 ∷ []) $ nothing ! $ move ! (2 ∷ 0 ∷ []) $ join ! $ join ! $ done !))))
