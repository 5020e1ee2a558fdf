use Rattle.std.proofs.Common.{◌≡◌, ap, sym, ◌∙◌, ◌&&◌, ◌==◌, is_some}
use Rattle.std.specs.List.{list_any}
use Rattle.coap_types.specs.SameEndpoint.{same_endpoint}
use Rattle.coap_layer.specs.Machine.State.{is_outstanding, is_remembered, is_full}
use Rattle.coap_layer.proofs.Calls.Sendings.{outstanding_is}
use Rattle.coap_layer.proofs.arriving.known_of.Goals as goal

pub returns : goal.returns
returns g c s bound arrived opened free =
    let from = c.args.from in
    let id : c.id-id.result.0 ≡ c.args.message.now.id = c.id-id.ensures in
    let n = c.id-id.result.0 in
    record {
      outstanding = rw (← id) (c.is_outstanding.ensures ∙ (ap (λ cs. list_any
          (λ x. is_some x.last && (same_endpoint x.to from && (x.id.0 == n))) cs) c.deref.ensures.value
          ∙ (outstanding_is from n c.args.lists.now.sendings.items ∙ ap (is_outstanding from n) (sym opened))));
      remembered = rw (← id) (c.is_remembered.ensures ∙ ap (is_remembered c.args.at.0 from n) (sym arrived));
      full = c.is_full.ensures ∙ (ap (is_full c.args.most c.args.at.0) (sym arrived)
          ∙ ap (λ n. is_full n c.args.at.0 s.arrived) (sym bound));
      free = sym free;
    }
