use Rattle.std.proofs.Common.{◌≡◌, ◌∙◌, ℕ, ap, length, max, subst, sym}
use Rattle.std.proofs.lemmas.List.{length-map}
use Rattle.coap_layer.specs.Machine.Load.{IsLayerLoad}
use Rattle.coap_block.specs.AssemblyState.{forgotten}
use Rattle.coap_resource.specs.Rate.{changes_left}
use Rattle.coap_server.specs.Led.{State}
use Rattle.coap_server.specs.Load.{moment}
use Rattle.coap_server.specs.Object.Shown.{delay_as, seen}
use Rattle.coap_server.proofs.server.load.load_parts.Goals as goal

pub returns : goal.returns
returns g c =
    let p = c.args.parts.now in
    let s : State = seen g.S.Store.content p in
    let last = c.later-last.ensures ∙ ap (λ (n : ℕ). max n p.clock.0) c.clock.ensures.own in
    let at : c.later-at.result.0 ≡ moment s c.args.now.0
    = c.later-at.ensures ∙ ap (λ (n : ℕ). max n c.args.now.0) last in
    record {
      layer = subst (λ (n : ℕ). IsLayerLoad n c.load.result s.layer) at c.load.ensures;
      observers = c.len-observers.ensures;
      partial = c.partial_len.ensures
          ∙ ap (λ (n : ℕ). length (forgotten (max s.own.uploads.clock n) s.own.uploads.partials)) at;
      deferred = c.deferred_len.ensures;
      paths = c.paths.ensures;
      delays = c.len-delays.ensures ∙ (p.delays.ok.0 ∙ sym (length-map p.delays.items delay_as));
      plains = c.len-plains.ensures ∙ p.plains.ok.0;
      changes_left = c.changes_left.ensures ∙ ap (changes_left s.own.store.tally) at;
    }
