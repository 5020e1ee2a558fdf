use Rattle.std.proofs.Common.{◌≤◌, None, [], ◌++◌, ap, length, sym, subst, ◌∙◌}
use Rattle.coap_types.specs.MethodCode.{method_code}
use Rattle.coap_types.specs.OptionValues.{option_with}
use Rattle.coap_exchange.specs.Machine.AskerShown.{IsAskable}
use Rattle.coap_client.specs.Requests.{block_option, options_of}
use Rattle.coap_client.specs.Object.CallShown.{shown_request, shown_transfer}
use Rattle.coap_client.proofs.Facts.Calls.AskableRequests.{call_askable, ranges_of}
use Rattle.coap_client.proofs.client.taken_call.TakenCall.send.Goals as goal

pub ask-requires : goal.ask-requires
ask-requires g c =
    let r = shown_request c.self.inside.request in
    let t = shown_transfer c.self.inside.transfer in
    let b = c.block_of-number.ensures in
    let p = c.payload_of.ensures in
    subst (λ os. IsAskable (record {
      code = (method_code r.method).0;
      token = None;
      options = os;
      payload =
          c.payload_of.result.now;
    }))
    (sym (c.as_slice.ensures ∙ (c.push_call.ensures
    ∙ ap (λ l. options_of r ++ l) (ap (option_with c.block_of-number.result.0) c.bytes_in-block.ensures ∙ b.option))))
    (subst (λ l. IsAskable (record {
      code = (method_code r.method).0;
      token = None;
      options =
          options_of r ++ block_option t;
      payload = l;
    })) (sym p.payload)
    (call_askable [] 0 r t _ _ (ranges_of c.self.inside.request c.ranges-2.ensures) c.self.invariant.0
    c.self.invariant.1 b.number b.option b.few (subst (λ l. length l ≤ 1024) p.payload p.few)))
