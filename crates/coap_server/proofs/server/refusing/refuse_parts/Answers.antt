use Rattle.std.proofs.Common.{Some, refl}
use Rattle.std.specs.Option.{option_map}
use Rattle.coap_types.specs.declared.message.Code.{Code}
use Rattle.coap_server.specs.Object.Shown.{state_of}
use Rattle.std.proofs.Common.{ap}
use Rattle.coap_server.proofs.Calls.RefusalIsACall.{refused_by}
use Rattle.coap_server.proofs.server.refusing.refuse_parts.Goals as goal

pub returns-in-Some-clause-step : goal.returns-in-Some-clause-step
returns-in-Some-clause-step g c word =
    let s = c.in_ok-came.ensures.step in
    let said = c.refuse_request.ensures.asks in
    let response = option_map (λ (k : Code). k.0) c.refusal-response.result in (
      s.0,
      Some (c.in-Some.asked, c.in-Some.request),
      response,
      said.0,
      refl,
      refused_by _ _ _ c.args.now.0 c.args.from c.args.bytes.now word c.args.code s.0 c.in-Some.asked
          c.in-Some.request response said.0 c.later-at.result.0 _ c.later-at.ensures c.in-Some.is s.1
          c.refusal-response.ensures.error c.refusal-response.ensures.code refl said.1
          (ap (λ k. (state_of g.S.Store.content k).own) c.refuse_request.ensures.kept),
    )
