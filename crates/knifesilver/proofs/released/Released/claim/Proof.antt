-- `claim`: what was owned with the pointer is owned by a box.
use Rattle.knifesilver.proofs.Walking.{◌≡◌, List, [], ◌∷◌, ◌++◌, refl, sym, ap, subst, Good, after}
use Rattle.knifesilver.proofs.Walking.{Val, vptr, SProp, ent, id⊢, WpFn}
use Rattle.knifesilver.proofs.Walking.{‵, raw, ◌⊛◌, some, later, at_ret, ◌$◌, ◌∵◌, !, qed, by, move, keep, drop}
use Rattle.knifesilver.proofs.Walking.{split, split3, join, fsplit, fjoin}
use Rattle.knifesilver.proofs.Walking.{pick, suffices, use1, await, rewrite, feq_i}
use Rattle.knifesilver.proofs.Walking.{stop, fld, of_opd, no_more, and_then, first, blocks, exec, returns, enter}
use Rattle.knifesilver.proofs.Walking.{alloc_all, pass_all, free_all, look_at, get, get_in, sets, lands_last, env}
use Rattle.knifesilver.proofs.Walking.{sub, whole}
use Rattle.knifesilver.proofs.Walking.{fact, tables, no, RattleType, owns, types_at, plain, block_ptr, nothing, only}
use Rattle.knifesilver.proofs.Walking.{param, layout, bounded, Stays, stay_dropped, walk_of, proved_at, leaves}
use Rattle.knifesilver.proofs.ReleasedValues.{pair, Row, fits, opens_released}
use mir.Syntax.{a_type, dcons, dnil}
use mir.MapTy.{inst_fn}
use base.Fml.{ftrue, flft}
use contract.BorrowLft.{◌⊑◌}
use denote.Param.Laws.{param_laws}
use denote.Triple.Clauses.{Lasts, lasts}
use denote.Triple.Spec.{triple_of}
use denote.Triple.Call.{calls_at_last}
use Rattle.core.proofs.alloc.Calls.{Goes-blank}
use Rattle.core.proofs.atomic.Steps.{fm}
use Rattle.std_alloc.proofs.BoxSteps.Form as box
use Rattle.std_alloc.proofs.BoxSteps.Steps.{box_out, box_in}
use Rattle.std_alloc.specs.contracts.boxed.Box.from_raw as from_raw
use Rattle.std_alloc.proofs.boxed.Box.from_raw.Met.{met}
use Rattle.knifesilver.specs.contracts.released.Released.claim.{ended, clauses}
use Rattle.knifesilver.specs.contracts.released.Released.claim.Key.{name as #self}
use Rattle.knifesilver.proofs.released.Released.claim.Statement.{statement}
use Rattle.knifesilver.proofs.released.Released.claim.Code as code

pub claim_spec : {M : Type 1} → statement M
claim_spec 𝓤 𝓛 𝓜 𝓡 wired T A L LA g d dx dd allocator glue glued =
    let run = tables 𝓤 𝓛.H 𝓜 𝓡 𝓡.env in
    let X : RattleType = param 0 T in
    let Y : RattleType = param 1 A in
    let laws = param_laws 1 A LA in
    let at_types = bounded (a_type ∷ a_type ∷ []) (T, (A, tt)) (dcons d (dcons dx (dcons dd dnil))) in
    let here = ended T A g d dx dd in
    let contract = clauses T A g d dx dd 𝓛 𝓜.mem 𝓡.returns in
    let function = inst_fn at_types code.function in
    let B : box.Bx = record { row = T; laws = L; al = record { row = A; laws = LA; g = g; d = d; drops = dd } } in
    let Boxed : RattleType = box.B B in
    let apart = Row X Y laws g in
    let stayed : Stays here.signature.params here.kept = (stay_dropped (plain (λ _. apart)) no, tt) in
    proved_at 𝓛 here stayed contract 𝓜 𝓡 (Goes-blank 𝓛 2 (plain (λ _. apart)) no (λ κs x f. tt), tt)
    (#self at_types) function (code.unfolded 𝓤 𝓛.H 𝓜 𝓡 wired (T, (A, tt)) d dx dd) (λ z are.
    let κs = z.0.0 in
    let qs = z.0.1 in
    let given = z.0.3.0 in
    let owner = given.alloc in
    let goal : Val → SProp 𝓤 = (walk_of 𝓛 here stayed contract).post z in
    let runs : List Val → SProp 𝓤 = λ words. WpFn 𝓤 𝓛.H run.C run.Λ function words goal in
    let tokens = ‵ (flft κs.0 qs.0) ⊛ ‵ (flft κs.1.0 qs.1.0) ⊛ ‵ ftrue in
    let live_long = raw (fact 𝓤 (κs.0 ⊑ T.lives)) ⊛ raw (fact 𝓤 (κs.1.0 ⊑ A.lives)) ⊛ ‵ ftrue in
    let call = triple_of 𝓛 (from_raw.signature T A g d dd) (from_raw.spec T A g d dd 𝓛 𝓜.mem 𝓡.returns) in
    let meets = met 𝓤 𝓛 𝓜 𝓡 (code.calls-std_alloc::boxed::Box::from_raw 𝓡.env wired) T A L LA g d dd allocator glued in
    qed 𝓛 (
    (tokens ⊛ ‵ (owns (types_at here.signature.params κs) z.0.3 z.0.4)) ∷ raw ((contract κs z.0.3).requires z.1) ∷ []
    ) ∵ split ! $ move ! (1 ∷ []) $ fsplit ! $ opens_released X Y laws g ! given z.0.4.0 (λ b o h at_is words_are good.
    let word : Val = pair (vptr b o) h in
    let ghost_of : call.Ghost = ((κs, qs, tt, (owner, (block_ptr b o, tt)), (h ∷ [], (vptr b o ∷ [], tt))), given.value) in
    move ! (4 ∷ []) $ use1 𝓛 live_long (id⊢ 𝓤 _) $ split3 ! $
    -- what the call asks for
    move ! (2 ∷ []) $ drop ! $ move ! (1 ∷ 2 ∷ []) $ join ! $ move ! (1 ∷ 0 ∷ []) $ join ! $ move ! (2 ∷ []) $
    feq_i ! (List Val) (vptr b o ∷ []) (vptr b o ∷ []) refl $ fjoin ! $ move ! (2 ∷ 0 ∷ []) $ fjoin ! $
    move ! (2 ∷ 0 ∷ []) $ join ! $ join ! $ use1 𝓛 (raw (call.pre ghost_of)) (id⊢ 𝓤 _) $
    suffices ! (runs (word ∷ []))
    (subst (λ (us : List Val). ent 𝓤 (runs (word ∷ [])) (runs us)) (sym (λ i. words_are i ++ [])) (id⊢ 𝓤 (runs (word ∷ [])))) $
    enter ! run.C run.Λ function (word ∷ []) goal $ alloc_all ! (λ l. pass_all ! refl (fits X Y laws g b o h good, tt) $
    let locals = env function.locals l in
    sets ! (of_opd ! (get_in ! (fld ! refl (stop !)) (sub ! 0 refl (whole !)))) refl (tt, tt) $
    sets ! (of_opd ! (get_in ! (fld ! refl (stop !)) (sub ! 1 refl (whole !)))) refl good $
    first ! $ blocks ! $ sets ! (of_opd ! (get ! refl)) refl good $
    calls_at_last ! (fm 𝓛 𝓜 𝓡) call meets ghost_of (and_then ! (get ! refl) (and_then ! (get ! refl) (no_more !))) (λ u.
    use1 𝓛 (later (some (λ (r : Boxed.Denot). (tokens ⊛ ‵ (Boxed.own_val r (u ∷ [])))
    ⊛ some (λ (ls : Lasts (from_raw.ended T A g d dd) κs ghost_of.0.3).
    ‵ (lasts (from_raw.ended T A g d dd) κs ghost_of.0.3 ls)
    ⊛ (raw (fact 𝓤 (r.value ≡ given.value)) ⊛ raw (fact 𝓤 (r.alloc ≡ owner))))))) (id⊢ 𝓤 (call.post ghost_of u)) $
    await ! tt $ pick ! (λ r. split ! $ move ! (1 ∷ []) $ pick ! (λ _. split3 ! $ drop ! $ move ! (2 ∷ []) $ split ! $
    move ! (1 ∷ []) $ box_out B ! r (u ∷ []) (λ b' o' h' at_is' boxed_is good'. box_in B ! r b' o' r.value at_is' refl $
    rewrite ! 0 (λ (xs : List Val). ‵ (Boxed.own_val r xs)) (sym boxed_is) refl $
    let typed : Good (layout Boxed) u =
    subst (Good (layout Boxed)) (sym (ap only boxed_is)) (fits X Y laws g b' o' h' good') in
    lands_last ! refl typed $ exec ! run.C run.Λ locals (after 3 function.body) (at_ret locals goal) $
    sets ! (of_opd ! (get ! refl)) refl typed $ nothing ! $ nothing ! $ fjoin ! $
    returns ! (look_at ! 0 refl) $ free_all ! refl $ keep ! (2 ∷ 0 ∷ 1 ∷ 3 ∷ []) $
    by ! (leaves 𝓛 here stayed contract z u r ((tt, (tt, tt)), tt) (tt, tt)))))))))
