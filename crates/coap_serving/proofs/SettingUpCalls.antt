-- The calls by which a server is set up, one after the other.
use Rattle.std.proofs.Common.{◌≡◌, ◌<◌, ◌+◌, ◌++◌, ◌∷◌, [], ℕ, List, Option, Some, None, IfNone, Result, Ok, Err, IfOk}
use Rattle.std.proofs.Common.{◌∙◌, ap, drop, get_or, length, take, refl, subst, sym, IfSome}
use Rattle.std.proofs.lemmas.List.{drop_more, take-append-drop, take_more}
use Rattle.coap_resource.specs.declared.refusal.StoreRefusal.{StoreRefusal}
use Rattle.coap_server.specs.Trace.{Call}
use Rattle.coap_arguments.specs.declared.orders.Hold.{Hold}
use Rattle.coap_serving.specs.SettingUp.{Holding, Holds, Refusing, RefusesOne}

holds_more : (holds : List Hold) (hold : Hold) (before between after : List Call) → Holds holds before between
    → Holding hold.path hold.body.items between after → Holds (holds ++ hold ∷ []) before after
holds_more [] hold before between after so one =
    (after, subst (λ (b : List Call). Holding hold.path hold.body.items b after) so one, refl)
holds_more (h ∷ holds) hold before between after so one =
    (so.0, so.1, holds_more holds hold so.0 between after so.2 one)

-- one thing more is held
pub one_hold : (holds : List Hold) (i : ℕ) (x : Hold) → x ≡ get_or holds i x → i < length holds
    → (before between after : List Call) → Holds (take i holds) before between
    → Holding x.path x.body.items between after → Holds (take (i + 1) holds) before after
one_hold holds i x is lt before between after so one =
    subst (λ (hs : List Hold). Holds hs before after)
    (sym (take_more holds i x lt ∙ ap (λ y. take i holds ++ y ∷ []) (sym is)))
    (holds_more (take i holds) x before between after so one)

-- the next thing is refused
pub one_refused : (holds : List Hold) (i : ℕ) (x : Hold) → x ≡ get_or holds i x → i < length holds
    → (why : StoreRefusal) (before between after : List Call) → Holds (take i holds) before between
    → Refusing x.path x.body.items why between after → RefusesOne holds why before after
one_refused holds i x is lt why before between after so one = (
  take i holds,
  x,
  drop (i + 1) holds,
  sym (take-append-drop i holds) ∙ ap (λ rest. take i holds ++ rest) (drop_more holds i x lt)
      ∙ ap (λ y. take i holds ++ y ∷ drop (i + 1) holds) (sym is),
  between,
  so,
  one,
)

-- what holds where something is refused leads on
pub where_some : {X E : Type 0} (r : Result (Option X) E) (P Q : X → Type 0) → ((x : X) → P x → Q x)
    → IfOk r (λ o. IfSome o P) → IfOk r (λ o. IfSome o Q)
where_some (Ok None) P Q on h = tt
where_some (Ok (Some x)) P Q on h = on x h
where_some (Err e) P Q on h = tt

-- what holds where nothing is refused leads on
pub where_none : {X E : Type 0} (r : Result (Option X) E) (P Q : Type 0) → (P → Q) → IfOk r (λ o. IfNone o P)
    → IfOk r (λ o. IfNone o Q)
where_none (Ok None) P Q on h = on h
where_none (Ok (Some x)) P Q on h = tt
where_none (Err e) P Q on h = tt
