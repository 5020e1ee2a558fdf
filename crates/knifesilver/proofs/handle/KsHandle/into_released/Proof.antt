-- `into_released`: by the flag, the pointer with what it owns, or nothing.
use Rattle.knifesilver.proofs.Walking.{◌≡◌, List, [], ◌∷◌, ◌++◌, refl, sym, subst, ◌∙◌, lit<, true, false}
use Rattle.knifesilver.proofs.Walking.{Val, vptr, vbool, vcons, vnil, SProp, ent, emp, id⊢, WpFn}
use Rattle.knifesilver.proofs.Walking.{‵, raw, ◌⊛◌, at_ret, ◌$◌, ◌∵◌, !, qed, by, move, keep, split, fsplit, fjoin}
use Rattle.knifesilver.proofs.Walking.{suffices, use0, use1}
use Rattle.knifesilver.proofs.Walking.{stop, fld, lit, of_opd, no_more, and_then, first, branches, exec, returns, enter}
use Rattle.knifesilver.proofs.Walking.{alloc_all, pass_all, free_all, look_at, get, get_in, sets, sets_last, env, agg}
use Rattle.knifesilver.proofs.Walking.{sub, whole}
use Rattle.knifesilver.proofs.Walking.{fact, fact_i, tables, yes, RattleType, owns, types_at, type_at, plain}
use Rattle.knifesilver.proofs.Walking.{block_ptr, ptr_val, layout}
use Rattle.knifesilver.proofs.Walking.{nothing, alive, Stays, stay_dropped, walk_of, Goes-dropped, proved_at, leaves}
use Rattle.knifesilver.proofs.Walking.{after, Good}
use Rattle.knifesilver.proofs.ReleasedValues.{pair, Row, closes_released}
use Rattle.knifesilver.proofs.ReleasedValues as released
use Rattle.knifesilver.proofs.HandleValues.{triple, End, Heap, Handle, fits, opens_handle, by_held}
use types.Match.{live}
use Rattle.core.specs.declared.option.Option.{Option}
use Rattle.core.specs.declared.option.Option.TheVariants.{None, Some}
use Rattle.core.proofs.atomic.Steps.{Ptr-Good}
use Rattle.core.proofs.option.Made.{Some-of, none_of}
use Rattle.std.proofs.alloc.Global.TheLaws as heap_laws
use Rattle.std.specs.contracts.impls.GlobalAllocator.TheImpl.{ghosts}
use Rattle.std_alloc.proofs.ResultValues.{and_tt}
use Rattle.knifesilver.specs.contracts.handle.KsHandle.into_released.{ended, clauses}
use Rattle.knifesilver.specs.contracts.handle.KsHandle.into_released.Key.{name as #self}
use Rattle.knifesilver.proofs.handle.KsHandle.into_released.Statement.{statement}
use Rattle.knifesilver.proofs.handle.KsHandle.into_released.Code as code

pub into_released_spec : {M : Type 1} → statement M
into_released_spec 𝓤 𝓛 𝓜 𝓡 wired =
    let run = tables 𝓤 𝓛.H 𝓜 𝓡 𝓡.env in
    let contract = clauses 𝓛 𝓜.mem 𝓡.returns in
    let laws = heap_laws.the_row_laws in
    let apart : RattleType = Row End Heap laws ghosts in
    let stayed : Stays ended.signature.params ended.kept = (stay_dropped (plain (λ _. Handle)) yes, tt) in
    proved_at 𝓛 ended stayed contract 𝓜 𝓡 (Goes-dropped 𝓛 0 (plain (λ _. Handle)) yes (λ κs x f. refl), tt)
    #self code.function (code.unfolded 𝓤 𝓛.H 𝓜 𝓡 wired) (λ z are.
    let d = z.0.3.0 in
    let alloc = d.alloc in
    let p = d.at in
    let out : RattleType = type_at ended.signature.result z.0.0 in
    let none : Option End.Denot = None in
    let goal : Val → SProp 𝓤 = (walk_of 𝓛 ended stayed contract).post z in
    let runs : List Val → SProp 𝓤 = λ words. WpFn 𝓤 𝓛.H run.C run.Λ code.function words goal in
    qed 𝓛 (
    (raw (alive 𝓛 ended.signature z.0.0 z.0.1) ⊛ ‵ (owns (types_at ended.signature.params z.0.0) z.0.3 z.0.4))
    ∷ raw ((contract z.0.0 z.0.3).requires z.1) ∷ []
    ) ∵ split ! $ move ! (1 ∷ []) $ fsplit ! $ opens_handle ! d z.0.4.0 (λ h words_are good.
    by_held ! alloc d.live p d.held
    -- it holds nothing
    (λ flag_is held_is. let given : Val = triple (ptr_val p) (vbool false) h in
    suffices ! (runs (given ∷ [])) (subst (λ (us : List Val). ent 𝓤 (runs (given ∷ [])) (runs us))
    (sym (λ i. (words_are ∙ (λ j. triple (ptr_val p) (vbool (flag_is j)) h ∷ [])) i ++ [])) (id⊢ 𝓤 (runs (given ∷ [])))) $
    enter ! run.C run.Λ code.function (given ∷ []) goal $
    alloc_all ! (λ l. pass_all ! refl (fits p false h good, tt) $ let locals = env code.function.locals l in
    sets ! (of_opd ! (get_in ! (fld ! refl (stop !)) (sub ! 0 refl (whole !)))) refl (Ptr-Good p) $
    sets ! (of_opd ! (get_in ! (fld ! refl (stop !)) (sub ! 1 refl (whole !)))) refl (tt, tt) $
    sets ! (of_opd ! (get_in ! (fld ! refl (stop !)) (sub ! 2 refl (whole !)))) refl good $
    sets ! (of_opd ! (get ! refl)) refl (tt, tt) $ first ! $ branches ! (get ! refl) (λ set. absurd set) (λ _.
    sets_last ! (agg ! (and_then ! (lit ! tt) (no_more !))) refl (tt, (record { fits = lit< tt }, tt)) $
    exec ! run.C run.Λ locals (after 5 code.function.body) (at_ret locals goal) $
    sets ! (of_opd ! (get ! refl)) refl (tt, (record { fits = lit< tt }, tt)) $
    use0 𝓛 (‵ (out.own_val None (live 0 vnil ∷ []))) (none_of 𝓛 apart) $
    use0 𝓛 (raw (fact 𝓤 (none ≡ d.held))) (fact_i 𝓤 (none ≡ d.held) (emp 𝓤) (sym held_is)) $
    nothing ! $ nothing ! $ fjoin ! $
    returns ! (look_at ! 0 refl) $ free_all ! refl $ keep ! (5 ∷ 0 ∷ 2 ∷ 1 ∷ []) $
    by ! (leaves 𝓛 ended stayed contract z (live 0 vnil) None (tt, tt) (tt, tt)))))
    -- it holds a value
    (λ b o x flag_is at_is held_is.
    let given : Val = triple (vptr b o) (vbool true) h in
    let made : Val = pair (vptr b o) h in
    let typed = released.fits End Heap laws ghosts b o h good in
    let answer : Val = live 1 (vcons made vnil) in
    let end : apart.Denot = record { at = block_ptr b o; alloc = alloc; value = x } in
    let answer_good : Good (layout out) answer = (and_tt _ typed.0, (record { fits = lit< tt }, (typed.1, tt))) in
    suffices ! (runs (given ∷ [])) (subst (λ (us : List Val). ent 𝓤 (runs (given ∷ [])) (runs us))
    (sym (λ i. (words_are ∙ (λ j. triple (ptr_val (at_is j)) (vbool (flag_is j)) h ∷ [])) i ++ []))
    (id⊢ 𝓤 (runs (given ∷ [])))) $
    enter ! run.C run.Λ code.function (given ∷ []) goal $
    alloc_all ! (λ l. pass_all ! refl (fits (block_ptr b o) true h good, tt) $ let locals = env code.function.locals l in
    sets ! (of_opd ! (get_in ! (fld ! refl (stop !)) (sub ! 0 refl (whole !)))) refl (tt, tt) $
    sets ! (of_opd ! (get_in ! (fld ! refl (stop !)) (sub ! 1 refl (whole !)))) refl (tt, tt) $
    sets ! (of_opd ! (get_in ! (fld ! refl (stop !)) (sub ! 2 refl (whole !)))) refl good $
    sets ! (of_opd ! (get ! refl)) refl (tt, tt) $ first ! $ branches ! (get ! refl) (λ _.
    sets ! (of_opd ! (get ! refl)) refl (tt, tt) $
    sets ! (agg ! (and_then ! (get ! refl) (and_then ! (get ! refl) (no_more !)))) refl typed $
    sets_last ! (agg ! (and_then ! (lit ! tt) (and_then ! (get ! refl) (no_more !)))) refl answer_good $
    exec ! run.C run.Λ locals (after 5 code.function.body) (at_ret locals goal) $
    sets ! (of_opd ! (get ! refl)) refl answer_good $ closes_released End Heap laws ghosts ! b o h alloc x $
    use1 𝓛 (‵ (out.own_val (Some end) (answer ∷ []))) (Some-of 𝓛 apart end made) $
    use0 𝓛 (raw (fact 𝓤 (Some x ≡ d.held))) (fact_i 𝓤 (Some x ≡ d.held) (emp 𝓤) (sym held_is)) $
    nothing ! $ nothing ! $ fjoin ! $
    returns ! (look_at ! 0 refl) $ free_all ! refl $ keep ! (4 ∷ 0 ∷ 2 ∷ 1 ∷ []) $
    by ! (leaves 𝓛 ended stayed contract z answer (Some end) (tt, tt) (tt, tt)))
    (λ unset. absurd unset)))))
