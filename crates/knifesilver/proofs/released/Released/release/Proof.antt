-- `release`: what the box owned is owned with its pointer.
use Rattle.knifesilver.proofs.Walking.{◌≡◌, List, [], ◌∷◌, ◌++◌, refl, sym, ap, ◌∙◌, subst}
use Rattle.knifesilver.proofs.Walking.{Val, vstruct, vptr, of_list, SProp, ent, emp, id⊢, WpFn}
use Rattle.knifesilver.proofs.Walking.{‵, raw, ◌⊛◌, some, later, ◌$◌, ◌∵◌, !, qed, by, move, keep, drop, split}
use Rattle.knifesilver.proofs.Walking.{split3, join, fsplit, fjoin}
use Rattle.knifesilver.proofs.Walking.{fpick, pick, suffices, use0, use1, await, rewrite, feq_l}
use Rattle.knifesilver.proofs.Walking.{stop, fld, of_opd, no_more, and_then, returns, enter}
use Rattle.knifesilver.proofs.Walking.{alloc_all, pass_all, free_all, look_at, get, get_in, sets, lands_as, agg, sub}
use Rattle.knifesilver.proofs.Walking.{whole}
use Rattle.knifesilver.proofs.Walking.{fact, fact_i, tables, no, RattleType, owns, types_at, plain, Ptr, block_ptr}
use Rattle.knifesilver.proofs.Walking.{null_ptr, ptr_val, in_a_block}
use Rattle.knifesilver.proofs.Walking.{nothing, only, heard, param, layout, bounded, Stays, stay_dropped, walk_of}
use Rattle.knifesilver.proofs.Walking.{proved_at, leaves}
use Rattle.knifesilver.proofs.ReleasedValues.{pair, fits, closes_released}
use mir.Syntax.{a_type, dcons, dnil}
use mir.Raw.{raw as bare}
use mir.MapTy.{inst_fn}
use base.Logic.{never, fst∗}
use base.Fml.{ftrue, fsep, flft}
use types.Logic.{sem}
use denote.Builtin.{RawPtr}
use denote.Param.Laws.{param_laws}
use denote.Struct.Tuple.{Tuple}
use denote.Triple.Spec.{triple_of}
use denote.Triple.Call.{calls_at}
use Rattle.core.proofs.alloc.Calls.{Goes-blank, handle_tells}
use Rattle.core.proofs.atomic.Steps.{fm}
use Rattle.std_alloc.specs.Box.Ownership.{box_owns}
use Rattle.std_alloc.proofs.BoxSteps.Form as box
use Rattle.std_alloc.proofs.BoxSteps.Steps.{box_out, box_in}
use Rattle.std_alloc.specs.contracts.boxed.Box.into_raw_with_allocator as raw_of
use Rattle.std_alloc.proofs.boxed.Box.into_raw_with_allocator.Met.{met}
use Rattle.knifesilver.specs.contracts.released.Released.release.{ended, clauses}
use Rattle.knifesilver.specs.contracts.released.Released.release.Key.{name as #self}
use Rattle.knifesilver.proofs.released.Released.release.Statement.{statement}
use Rattle.knifesilver.proofs.released.Released.release.Code as code

pub release_spec : {M : Type 1} → statement M
release_spec 𝓤 𝓛 𝓜 𝓡 wired T A L LA g d dx dd allocator glue glued =
    let run = tables 𝓤 𝓛.H 𝓜 𝓡 𝓡.env in
    let X : RattleType = param 0 T in
    let Y : RattleType = param 1 A in
    let laws = param_laws 1 A LA in
    let at_types = bounded (a_type ∷ a_type ∷ []) (T, (A, tt)) (dcons d (dcons dx (dcons dd dnil))) in
    let here = ended T A g d dx dd in
    let contract = clauses T A g d dx dd 𝓛 𝓜.mem 𝓡.returns in
    let function = inst_fn at_types code.function in
    let B : box.Bx = record { row = T; laws = L; al = record { row = A; laws = LA; g = g; d = d; drops = dd } } in
    let stayed : Stays here.signature.params here.kept = (stay_dropped (plain (λ _. box.B B)) no, tt) in
    proved_at 𝓛 here stayed contract 𝓜 𝓡 (Goes-blank 𝓛 2 (plain (λ _. box.B B)) no (λ κs x f. tt), tt)
    (#self at_types) function (code.unfolded 𝓤 𝓛.H 𝓜 𝓡 wired (T, (A, tt)) d dx dd) (λ z are.
    let κs = z.0.0 in
    let qs = z.0.1 in
    let given = z.0.3.0 in
    let owner = given.alloc in
    let goal : Val → SProp 𝓤 = (walk_of 𝓛 here stayed contract).post z in
    let runs : List Val → SProp 𝓤 = λ words. WpFn 𝓤 𝓛.H run.C run.Λ function words goal in
    let tokens = ‵ (flft κs.0 qs.0) ⊛ ‵ (flft κs.1.0 qs.1.0) ⊛ ‵ ftrue in
    let call = triple_of 𝓛 (raw_of.signature T A g d dd dx) (raw_of.spec T A g d dd dx 𝓛 𝓜.mem 𝓡.returns) in
    let meets = met 𝓤 𝓛 𝓜 𝓡 (code.calls-std_alloc::boxed::Box::into_raw_with_allocator 𝓡.env wired) T A L LA g d dd dx allocator glued glue in
    let Both = Tuple (RawPtr ∷ Y ∷ []) in
    qed 𝓛 (
    (tokens ⊛ ‵ (owns (types_at here.signature.params κs) z.0.3 z.0.4)) ∷ raw ((contract κs z.0.3).requires z.1) ∷ []
    ) ∵ split ! $ move ! (1 ∷ []) $ fsplit ! $ box_out B ! given z.0.4.0 (λ b o h at_is words_are good.
    box_in B ! given b o given.value at_is refl $
    let word : Val = box.word B h b o in
    let ghost_of : call.Ghost = ((κs, qs, tt, (given, tt), (word ∷ [], tt)), tt) in
    fjoin ! $ move ! (1 ∷ 0 ∷ []) $ join ! $ join ! $ use1 𝓛 (raw (call.pre ghost_of)) (id⊢ 𝓤 _) $
    suffices ! (runs (word ∷ []))
    (subst (λ (us : List Val). ent 𝓤 (runs (word ∷ [])) (runs us)) (sym (λ i. words_are i ++ [])) (id⊢ 𝓤 (runs (word ∷ [])))) $
    enter ! run.C run.Λ function (word ∷ []) goal $ alloc_all ! (λ l. pass_all ! refl (fits X Y laws g b o h good, tt) $
    sets ! (of_opd ! (get ! refl)) refl (fits X Y laws g b o h good) $
    -- the call: a pointer with its allocator, and what the box owned
    calls_at ! (fm 𝓛 𝓜 𝓡) call meets ghost_of (and_then ! (get ! refl) (no_more !)) (λ u.
    use1 𝓛 (later (some (λ (r : Ptr × A.Denot). (tokens ⊛ ‵ (Both.own_val r (u ∷ [])))
    ⊛ some (λ (_ : (Unit {0} × (Unit {0} × Unit {0})) × Unit {0}). ‵ (fsep (fsep ftrue (fsep ftrue ftrue)) ftrue)
    ⊛ (raw (fact 𝓤 (r.1 ≡ owner)) ⊛ ‵ (box_owns (g.dealloc_token owner) X r.0 given.value)))))) (id⊢ 𝓤 _) $
    await ! tt $ pick ! (λ r. split ! $ move ! (1 ∷ []) $ pick ! (λ _. split3 ! $ drop ! $ heard ! (r.1 ≡ owner) (λ owner_is.
    in_a_block ! r.0 (λ p. box_owns (g.dealloc_token owner) X p given.value)
    (fst∗ 𝓤 (never 𝓤) (sem 𝓛 (g.dealloc_token owner (bare (layout T)) null_ptr))) (λ b' o' at_is'.
    move ! (1 ∷ []) $ split ! $ move ! (1 ∷ []) $ fpick ! (λ words. fsplit ! $ feq_l ! (λ whole_is. fsplit ! $
    feq_l ! (λ pointer_is. fsplit ! $ rewrite ! 0 (λ (s : A.Denot). ‵ (A.own_val s words.1.0)) owner_is refl $
    handle_tells B.al ! owner words.1.0 (λ h' handle_is good'.
    let typed = fits X Y laws g b' o' h' good' in
    let pointer_there = pointer_is ∙ ap (λ (p : Ptr). ptr_val p ∷ []) at_is' in
    lands_as ! (ap only (whole_is ∙ (λ j. vstruct (of_list (pointer_there j ++ (handle_is j ++ []))) ∷ []))) refl typed $
    sets ! (of_opd ! (get_in ! (fld ! refl (stop !)) (sub ! 0 refl (whole !)))) refl (tt, tt) $
    sets ! (of_opd ! (get_in ! (fld ! refl (stop !)) (sub ! 1 refl (whole !)))) refl good' $
    sets ! (of_opd ! (get ! refl)) refl good' $
    sets ! (agg ! (and_then ! (get ! refl) (and_then ! (get ! refl) (no_more !)))) refl typed $
    move ! (3 ∷ 0 ∷ []) $ closes_released X Y laws g ! b' o' h' owner given.value $
    use0 𝓛 (raw (fact 𝓤 (given.value ≡ given.value))) (fact_i 𝓤 (given.value ≡ given.value) (emp 𝓤) refl) $
    nothing ! $ nothing ! $ fjoin ! $
    returns ! (look_at ! 0 refl) $ free_all ! refl $ keep ! (4 ∷ 0 ∷ 2 ∷ 1 ∷ []) $
    by ! (leaves 𝓛 here stayed contract z (pair (vptr b' o') h')
    (record { at = block_ptr b' o'; alloc = owner; value = given.value }) ((tt, (tt, tt)), tt) (tt, tt))))))))))))))
