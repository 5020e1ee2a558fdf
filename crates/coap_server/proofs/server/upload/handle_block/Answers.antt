use Rattle.std.proofs.Common.{rules, ap}
use Rattle.coap_types.specs.CoapOption.{options_of}
use Rattle.coap_resource.specs.Serves.{Question}
use Rattle.coap_server.specs.Object.Shown.{seen, state_of}
use Rattle.coap_server.proofs.Calls.RequestIsHandled.{refused, continued, completed}
use Rattle.coap_server.proofs.server.upload.handle_block.Goals as goal

pub returns-in-Refused-clause-handled : goal.returns-in-Refused-clause-handled
returns-in-Refused-clause-handled g c =
    let q : Question = record {
      method = c.args.upload.method;
      path = c.args.upload.path;
      options = options_of c.args.upload.options.now;
      body = c.args.upload.payload.now;
      szx = c.args.parts.now.szx;
    }
    in
    refused (seen g.S.Store.content c.args.parts.now) _ c.args.asked.now q c.args.upload.block c.in_ok-why.field-0 _
    c.in_ok-why.ensures.step c.in-Refused.why c.code.result
    c.answer_code.ensures.step.0 c.in-Refused.is c.code.ensures c.answer_code.ensures.step.1
    (ap (λ k. (state_of g.S.Store.content k).own) c.answer_code.ensures.kept)

pub returns-in-More-clause-handled : goal.returns-in-More-clause-handled
returns-in-More-clause-handled g c =
    let q : Question = record {
      method = c.args.upload.method;
      path = c.args.upload.path;
      options = options_of c.args.upload.options.now;
      body = c.args.upload.payload.now;
      szx = c.args.parts.now.szx;
    }
    in
    continued (seen g.S.Store.content c.args.parts.now) _ c.args.asked.now q c.args.upload.block c.in_ok-why.field-0 _
    c.in_ok-why.ensures.step c.in-More.next
    c.answer_code-in-More.ensures.step.0 c.in-More.is c.answer_code-in-More.ensures.step.1
    (ap (λ k. (state_of g.S.Store.content k).own) c.answer_code-in-More.ensures.kept)

pub returns-in-Ok-clause-handled : goal.returns-in-Ok-clause-handled
returns-in-Ok-clause-handled g c =
    let q : Question = record {
      method = c.args.upload.method;
      path = c.args.upload.path;
      options = options_of c.args.upload.options.now;
      body = c.args.upload.payload.now;
      szx = c.args.parts.now.szx;
    }
    in
    completed (seen g.S.Store.content c.args.parts.now) _ c.args.asked.now q c.args.upload.block c.in_ok-why.field-0 _
    c.in_ok-why.ensures.step c.in-Whole.body c.deref.result.now
    c.in-Whole.is (search rules) c.in-Ok.ensures.handled
