-- `tlscore_open` hands out what `made` makes.
use Rattle.std.proofs.Common.{[], ◌∷◌, refl}
use base.Logic.{id⊢}
use contract.BorrowLft.{⊑_static}
use mir.Raw.{raw}
use mir.Syntax.{Ty, Dict, impl, method, no_args, tnil, dnil}
use denote.Exit.{no}
use denote.Param.{arg, layout}
use denote.Param.Laws.{Laws, arg_laws}
use Rattle.score_calls.specs.HandleRuns.{IsNew}
use Rattle.score_calls.specs.contracts.handle.Handle.{the_row}
use Rattle.score_calls.proofs.handle.Handle.TheLaws.{the_row_laws}
use Rattle.zuldegei.proofs.LetGo.{glue_met}
use Rattle.zuldegei.proofs.Opened.{opener_met, raw_met}
use Rattle.zuldegei.proofs.score_calls++handle++Handle+Destruct.drop.Met as dropped
use Rattle.zuldegei.proofs.score_calls++handle++Handle+Destruct.drop.Symbol as drop
use Rattle.zuldegei.proofs.score_exports.made.Met as made
use Rattle.zuldegei.proofs.score_exports.tlscore_open.Statement.{statement}
use Rattle.zuldegei.proofs.score_exports.tlscore_open.Code as code

abbrev τ : Ty
τ = raw (layout the_row)

abbrev laws : Laws (arg τ no the_row)
laws = arg_laws τ no the_row the_row_laws refl

abbrev drops : Dict
drops = impl (drop.symbol ∷ []) tnil dnil

pub tlscore_open_spec : {M : Type 1} → statement M
tlscore_open_spec 𝓤 𝓛 𝓜 𝓡 wired =
    opener_met the_row τ laws drops IsNew 𝓤 𝓛 𝓜 𝓡 ⊑_static (λ b us. id⊢ 𝓤 _) (λ p x. id⊢ 𝓤 _) _ _ _ _ _ (code.unfolded 𝓤 𝓛.H 𝓜 𝓡 wired)
    (made.met 𝓤 𝓛 𝓜 𝓡 (code.calls-zuldegei::score_exports::made 𝓡.env wired))
    (raw_met the_row τ laws drops 𝓤 𝓛 𝓜 𝓡 (code.calls-std_alloc::boxed::Box::into_raw 𝓡.env wired)
    (code.calls-std_heap::GlobalAllocator::allocate 𝓡.env wired) (code.calls-std_heap::GlobalAllocator::deallocate 𝓡.env wired)
    (code.calls-std_heap::GlobalAllocator::grow 𝓡.env wired) (code.calls-std_heap::GlobalAllocator::shrink 𝓡.env wired)
    (code.calls-zuldegei::Destruct++none::drop 𝓡.env wired)
    (glue_met the_row 𝓤 𝓛 𝓜 𝓡 τ drops drop.name (drop.as_method 𝓡.env (code.calls-zuldegei::score_calls++handle++Handle+Destruct::drop 𝓡.env wired) (method drops 0 no_args) refl)
    (dropped.met 𝓤 𝓛 𝓜 𝓡 (code.calls-zuldegei::score_calls++handle++Handle+Destruct::drop 𝓡.env wired))))
