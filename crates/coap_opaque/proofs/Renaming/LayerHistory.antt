-- A history of a message layer stands in its law with other endpoints in the place of theirs.
use Rattle.std.proofs.Common.{◌≡◌, ◌≤◌, List, [], ◌∷◌, map, refl, ap, sym, subst, ◌∙◌, arith}
use Rattle.coap_types.specs.declared.endpoint.Endpoint.{Endpoint}
use Rattle.coap_layer.specs.Follows.{IsExact}
use Rattle.coap_layer.specs.Machine.LayerLed.{LayerLed}
use Rattle.coap_layer.specs.Machine.State as S
use Rattle.coap_layer.specs.Machine.Steps.{Asked}
use Rattle.coap_layer.specs.Rows.{LayerLaw, Row}
use Rattle.coap_layer.specs.Trace as L
use Rattle.coap_layer.specs.Words.{clock}
use Rattle.coap_layer.specs.declared.setup.Setup.{Setup}
use Rattle.coap_layer.proofs.Facts.Calls.{led_steps}
use Rattle.coap_opaque.specs.Renaming.Endpoints.{TellsApart}
use Rattle.coap_opaque.specs.Renaming.OfLayer as R
use Rattle.coap_opaque.proofs.Renaming.LayerSteps.{after_same, forgotten_same, made_same, step_same}

module _ (setup : Setup) where
  -- what a history comes to
  abbrev kept : List L.Entry → S.State
  kept t = S.forgotten (S.history setup t)

  module _ (exact : IsExact) (t : List L.Entry) (law : LayerLaw setup t) where
    -- an entry that stands in the law is made by its call

    may_of : (e : L.Entry) (c : L.Call) → Row setup t e c → S.May (kept t) c
    may_of e (L.Reply to id bytes) row = row.0
    may_of e (L.Confirm to content word) row = row.0
    may_of e (L.Plain to content) row = row.0
    may_of e _ row = tt

    moment_of : (e : L.Entry) (c : L.Call) → clock t ≤ e.at → Row setup t e c → e.at ≡ S.moment (kept t) e.at c
    moment_of e (L.Reply to id bytes) later row = row.3
    moment_of e (L.Settle to id) later row = row.1
    moment_of e L.Take later row = row.2
    moment_of e _ later row = omega (arith, later)

    abbrev next : L.Entry → S.State
    next e = S.forgotten (S.after (kept t) (S.made (kept t) e.at e.call))

    here : LayerLed setup t (kept t)
    here = record { law = law; kept = refl }

    step_of : (e : L.Entry) → S.May (kept t) e.call
        → S.Step (kept t) e.at e.call (S.made (kept t) e.at e.call).answer (next e)
    step_of e may = record { may = may; right = refl; new_is = refl }

    made_of : (e : L.Entry) → LayerLaw setup (e ∷ t) → e ≡ S.made (kept t) e.at e.call
    made_of e all =
        let m : L.Entry = S.made (kept t) e.at e.call in
        let at : e.at ≡ m.at = moment_of e e.call all.0.time all.0.row in
        let a : Asked = record { now = e.at; call = e.call; answer = m.answer } in
        let led = led_steps setup t (kept t) (next e) (a ∷ []) here
        (kept t, refl, step_of e (may_of e e.call all.0.row)) in
        let same = exact setup t e m law all.0 led.law.0 refl at in
        let answer = same.0 in
        let out = same.1 in
        λ i. record { at = at i; call = e.call; answer = answer i; out = out i }

  module _ (exact : IsExact) (rename : Endpoint → Endpoint) (apart : TellsApart rename) where
    history_same : (t : List L.Entry)
        → S.history setup (map (R.entry rename) t) ≡ R.state rename (S.history setup t)
    history_same [] = refl
    history_same (e ∷ t) =
        ap (λ s. S.after s (R.entry rename e)) (history_same t) ∙ after_same rename apart (S.history setup t) e

    kept_same : (t : List L.Entry) → kept (map (R.entry rename) t) ≡ R.state rename (kept t)
    kept_same t = ap S.forgotten (history_same t) ∙ forgotten_same rename apart (S.history setup t)

    pub layer_renamed : (t : List L.Entry) → LayerLaw setup t → LayerLaw setup (map (R.entry rename) t)
    layer_renamed [] law = tt
    layer_renamed (e ∷ t) law =
        let past : List L.Entry = map (R.entry rename) t in
        let old : S.State = R.state rename (kept t) in
        let m : L.Entry = S.made (kept t) e.at e.call in
        let led : LayerLed setup past old = record { law = layer_renamed t law.1; kept = sym (kept_same t) } in
        let step = step_same rename apart (kept t) (next exact t law.1 e) e.at e.call m.answer
        (step_of exact t law.1 e (may_of exact t law.1 e e.call law.0.row)) in
        let a : Asked = record { now = e.at; call = R.call rename e.call; answer = R.answer rename m.answer } in
        let on = led_steps setup past old (R.state rename (next exact t law.1 e)) (a ∷ []) led (old, refl, step) in
        subst (λ (x : L.Entry). LayerLaw setup (x ∷ past))
        (made_same rename apart (kept t) e.at e.call ∙ ap (R.entry rename) (sym (made_of exact t law.1 e law))) on.law
