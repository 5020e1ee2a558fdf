-- `vacant`: a null pointer and a flag that is not set, so that nothing is owned.
use Rattle.knifesilver.proofs.Walking.{◌≡◌, List, [], ◌∷◌, ◌++◌, refl, sym, subst, Bool, false, one, Val, vbool}
use Rattle.knifesilver.proofs.Walking.{SProp, ent, emp, id⊢}
use Rattle.knifesilver.proofs.Walking.{WpFn, ‵, raw, ◌⊛◌, ◌$◌, ◌∵◌, !, qed, by, move, keep, split, fsplit, fjoin}
use Rattle.knifesilver.proofs.Walking.{feq_i, use0, rewrite, suffices}
use Rattle.knifesilver.proofs.Walking.{lit, false_lit, no_more, and_then, returns, enter, alloc_all, pass_all}
use Rattle.knifesilver.proofs.Walking.{free_all, look_at, get, sets, agg}
use Rattle.knifesilver.proofs.Walking.{fact, fact_i, tables, yes, owns, types_at, plain, null_ptr, ptr_val, layout}
use Rattle.knifesilver.proofs.Walking.{nothing, alive}
use Rattle.knifesilver.proofs.Walking.{Stays, stay_dropped, walk_of, Goes-dropped, proved_at, leaves}
use Rattle.knifesilver.proofs.HandleValues.{triple, End, Heap, fits, closes_handle}
use Rattle.std.proofs.alloc.Global.TheLaws as heap_laws
use Rattle.std.specs.declared.option.Option.{Option}
use Rattle.std.specs.declared.option.Option.TheVariants.{None}
use Rattle.knifesilver.specs.contracts.handle.KsHandle.vacant.{ended, clauses}
use Rattle.knifesilver.specs.contracts.handle.KsHandle.vacant.Key.{name as #self}
use Rattle.knifesilver.proofs.handle.KsHandle.vacant.Statement.{statement}
use Rattle.knifesilver.proofs.handle.KsHandle.vacant.Code as code

pub vacant_spec : {M : Type 1} → statement M
vacant_spec 𝓤 𝓛 𝓜 𝓡 wired =
    let run = tables 𝓤 𝓛.H 𝓜 𝓡 𝓡.env in
    let contract = clauses 𝓛 𝓜.mem 𝓡.returns in
    let stayed : Stays ended.signature.params ended.kept = (stay_dropped (plain (λ _. Heap)) yes, tt) in
    proved_at 𝓛 ended stayed contract 𝓜 𝓡 (Goes-dropped 𝓛 0 (plain (λ _. Heap)) yes (λ κs x f. refl), tt)
    #self code.function (code.unfolded 𝓤 𝓛.H 𝓜 𝓡 wired) (λ z are.
    let alloc = z.0.3.0 in
    let goal : Val → SProp 𝓤 = (walk_of 𝓛 ended stayed contract).post z in
    let runs : List Val → SProp 𝓤 = λ words. WpFn 𝓤 𝓛.H run.C run.Λ code.function words goal in
    let h = one (layout Heap) z.0.4.0 ((heap_laws.the_row_laws.lawful 𝓛).typed alloc z.0.4.0 are.0) in
    let made : Val = triple (ptr_val null_ptr) (vbool false) h.0 in
    let none : Option End.Denot = None in
    qed 𝓛 (
    (raw (alive 𝓛 ended.signature z.0.0 z.0.1) ⊛ ‵ (owns (types_at ended.signature.params z.0.0) z.0.3 z.0.4))
    ∷ raw ((contract z.0.0 z.0.3).requires z.1) ∷ []
    ) ∵ split ! $ move ! (1 ∷ []) $ fsplit ! $ rewrite ! 0 (λ (us : List Val). ‵ (Heap.own_val alloc us)) h.1 refl $
    suffices ! (runs (h.0 ∷ []))
    (subst (λ (us : List Val). ent 𝓤 (runs (h.0 ∷ [])) (runs us)) (sym (λ i. h.1 i ++ [])) (id⊢ 𝓤 (runs (h.0 ∷ [])))) $
    enter ! run.C run.Λ code.function (h.0 ∷ []) goal $ alloc_all ! (λ l. pass_all ! refl (h.2, tt) $
    sets ! (agg ! (and_then ! (lit ! tt) (and_then ! (false_lit !) (and_then ! (get ! refl) (no_more !))))) refl
    (fits null_ptr false h.0 h.2) $
    feq_i ! Bool false false refl $ closes_handle ! null_ptr false h.0 alloc none $
    use0 𝓛 (raw (fact 𝓤 (none ≡ none))) (fact_i 𝓤 (none ≡ none) (emp 𝓤) refl) $ nothing ! $ nothing ! $ fjoin ! $
    returns ! (look_at ! 0 refl) $ free_all ! refl $ keep ! (4 ∷ 0 ∷ 2 ∷ 1 ∷ []) $
    by ! (leaves 𝓛 ended stayed contract z made (record { at = null_ptr; live = false; alloc = alloc; held = none }) (tt, tt) (tt, tt))))
