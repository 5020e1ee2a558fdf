-- `holding`: the pointer stays, and the flag is set, so that what was owned is owned by the handle.
use Rattle.knifesilver.proofs.Walking.{◌≡◌, List, [], ◌∷◌, ◌++◌, refl, sym, subst, Bool, true, Val, vptr, vbool}
use Rattle.knifesilver.proofs.Walking.{SProp, ent, emp, id⊢}
use Rattle.knifesilver.proofs.Walking.{WpFn, ‵, raw, ◌⊛◌, ◌$◌, ◌∵◌, !, qed, by, move, keep, split, fsplit, fjoin}
use Rattle.knifesilver.proofs.Walking.{feq_i, use0, suffices}
use Rattle.knifesilver.proofs.Walking.{stop, fld, of_opd, true_lit, no_more, and_then, returns, enter}
use Rattle.knifesilver.proofs.Walking.{alloc_all, pass_all, free_all, look_at, get, get_in, sets, agg, sub, whole}
use Rattle.knifesilver.proofs.Walking.{fact, fact_i, tables, yes, RattleType, owns, types_at, plain, block_ptr}
use Rattle.knifesilver.proofs.Walking.{nothing, alive}
use Rattle.knifesilver.proofs.Walking.{Stays, stay_dropped, walk_of, Goes-dropped, proved_at, leaves}
use Rattle.knifesilver.proofs.ReleasedValues.{pair, Row, opens_released}
use Rattle.knifesilver.proofs.ReleasedValues as released
use Rattle.knifesilver.proofs.HandleValues.{triple, End, Heap, fits, closes_handle}
use Rattle.std.proofs.alloc.Global.TheLaws as heap_laws
use Rattle.std.specs.contracts.impls.GlobalAllocator.TheImpl.{ghosts}
use Rattle.std.specs.declared.option.Option.TheVariants.{Some}
use Rattle.knifesilver.specs.contracts.handle.KsHandle.holding.{ended, clauses}
use Rattle.knifesilver.specs.contracts.handle.KsHandle.holding.Key.{name as #self}
use Rattle.knifesilver.proofs.handle.KsHandle.holding.Statement.{statement}
use Rattle.knifesilver.proofs.handle.KsHandle.holding.Code as code

pub holding_spec : {M : Type 1} → statement M
holding_spec 𝓤 𝓛 𝓜 𝓡 wired =
    let run = tables 𝓤 𝓛.H 𝓜 𝓡 𝓡.env in
    let contract = clauses 𝓛 𝓜.mem 𝓡.returns in
    let laws = heap_laws.the_row_laws in
    let apart : RattleType = Row End Heap laws ghosts in
    let stayed : Stays ended.signature.params ended.kept = (stay_dropped (plain (λ _. apart)) yes, tt) in
    proved_at 𝓛 ended stayed contract 𝓜 𝓡 (Goes-dropped 𝓛 0 (plain (λ _. apart)) yes (λ κs x f. refl), tt)
    #self code.function (code.unfolded 𝓤 𝓛.H 𝓜 𝓡 wired) (λ z are.
    let end = z.0.3.0 in
    let goal : Val → SProp 𝓤 = (walk_of 𝓛 ended stayed contract).post z in
    let runs : List Val → SProp 𝓤 = λ words. WpFn 𝓤 𝓛.H run.C run.Λ code.function words goal in
    qed 𝓛 (
    (raw (alive 𝓛 ended.signature z.0.0 z.0.1) ⊛ ‵ (owns (types_at ended.signature.params z.0.0) z.0.3 z.0.4))
    ∷ raw ((contract z.0.0 z.0.3).requires z.1) ∷ []
    ) ∵ split ! $ move ! (1 ∷ []) $ fsplit ! $ opens_released End Heap laws ghosts ! end z.0.4.0 (λ b o h at_is words_are good.
    let given : Val = pair (vptr b o) h in
    let made : Val = triple (vptr b o) (vbool true) h in
    suffices ! (runs (given ∷ []))
    (subst (λ (us : List Val). ent 𝓤 (runs (given ∷ [])) (runs us)) (sym (λ i. words_are i ++ [])) (id⊢ 𝓤 (runs (given ∷ [])))) $
    enter ! run.C run.Λ code.function (given ∷ []) goal $
    alloc_all ! (λ l. pass_all ! refl (released.fits End Heap laws ghosts b o h good, tt) $
    sets ! (of_opd ! (get_in ! (fld ! refl (stop !)) (sub ! 0 refl (whole !)))) refl (tt, tt) $
    sets ! (of_opd ! (get_in ! (fld ! refl (stop !)) (sub ! 1 refl (whole !)))) refl good $
    sets ! (of_opd ! (get ! refl)) refl (tt, tt) $
    sets ! (agg ! (and_then ! (get ! refl) (and_then ! (true_lit !) (and_then ! (get ! refl) (no_more !))))) refl
    (fits (block_ptr b o) true h good) $
    feq_i ! Bool true true refl $ fjoin ! $ closes_handle ! (block_ptr b o) true h end.alloc (Some end.value) $
    use0 𝓛 (raw (fact 𝓤 (Some end.value ≡ Some end.value))) (fact_i 𝓤 (Some end.value ≡ Some end.value) (emp 𝓤) refl) $
    nothing ! $ nothing ! $ fjoin ! $
    returns ! (look_at ! 0 refl) $ free_all ! refl $ keep ! (4 ∷ 0 ∷ 2 ∷ 1 ∷ []) $
    by ! (leaves 𝓛 ended stayed contract z made
    (record { at = block_ptr b o; live = true; alloc = end.alloc; held = Some end.value }) (tt, tt) (tt, tt)))))
