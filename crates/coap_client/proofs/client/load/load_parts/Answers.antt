use Rattle.std.proofs.Common.{◌≡◌, ◌∙◌, ℕ, ap, max, subst, sym}
use Rattle.std.proofs.lemmas.List.{length-map}
use Rattle.coap_layer.specs.Machine.Load.{IsLayerLoad}
use Rattle.coap_client.specs.Led.{State}
use Rattle.coap_client.specs.Object.Held.{seen}
use Rattle.coap_client.specs.Object.Shown.{shown_observation, shown_queued, shown_reported}
use Rattle.coap_client.specs.Turns.Due.{latest}
use Rattle.coap_client.proofs.client.load.load_parts.Goals as goal

pub returns : goal.returns
returns g c =
    let p = c.args.parts.now in
    let h = p.held in
    let s : State = seen p in
    let last = c.later-last.ensures ∙ ap (λ (n : ℕ). max n h.clock.0) c.clock.ensures in
    let at : c.later-at.result.0 ≡ max (latest s) c.args.now.0
    = c.later-at.ensures ∙ ap (λ (n : ℕ). max n c.args.now.0) last in
    record {
      layer = subst (λ (n : ℕ). IsLayerLoad n c.load.result s.layer.layer) at c.load.ensures;
      waiting = c.waiting_len.ensures.len ∙ sym (length-map h.operations.queue shown_queued);
      observations = c.live_len.ensures ∙ sym (length-map h.operations.live shown_observation);
      reports = c.len.ensures ∙ (h.reports.ok.0 ∙ sym (length-map h.reports.items shown_reported));
    }
