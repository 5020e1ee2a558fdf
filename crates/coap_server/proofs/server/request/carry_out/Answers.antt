use Rattle.std.proofs.Common.{refl, ap, sym, ◌∙◌}
use Rattle.coap_types.specs.CoapOption.{options_of}
use Rattle.coap_server.specs.Checks.{Ignored, Refused}
use Rattle.coap_server.specs.Handling.{Handles}
use Rattle.coap_server.specs.Responses.{bare}
use Rattle.coap_server.specs.Object.Checked.{verdict_as}
use Rattle.coap_server.specs.Object.Shown.{seen, state_of}
use Rattle.coap_server.proofs.Calls.FeedIsACall.{on_ok}
use Rattle.coap_server.proofs.Calls.RequestIsHandled.{handled_by, ignored, answered, asks_whole, asks_block}
use Rattle.coap_server.proofs.server.request.carry_out.Goals as goal

pub returns-in-Ignored-clause-handled : goal.returns-in-Ignored-clause-handled
returns-in-Ignored-clause-handled g c m options payload v =
    let s = seen g.S.Store.content c.args.parts.now in
    handled_by s _ c.args.asked.now m Ignored (sym v ∙ ap (verdict_as s.own.szx m) c.in-Ignored.is)
    (ignored s _ c.args.asked.now refl refl)

pub returns-in-Refused-clause-handled : goal.returns-in-Refused-clause-handled
returns-in-Refused-clause-handled g c m options payload v =
    let s = seen g.S.Store.content c.args.parts.now in
    let code = c.in-Refused.code.0 in
    handled_by s _ c.args.asked.now m (Refused code) (sym v ∙ ap (verdict_as s.own.szx m) c.in-Refused.is)
    (answered (Handles s.own c.args.asked.now (Refused code)) s _ c.args.asked.now s.own.uploads
    (bare code) c.answer_code.ensures.step.0 refl c.answer_code.ensures.step.1
    (ap (λ k. (state_of g.S.Store.content k).own) c.answer_code.ensures.kept))

pub returns-in-Asks-clause-handled : goal.returns-in-Asks-clause-handled
returns-in-Asks-clause-handled g c =
    let s = seen g.S.Store.content c.args.parts.now in
    on_ok c.handle_whole.result
    (λ h m options payload v. asks_whole s _ c.args.asked.now m c.in-Asks.method c.in-Asks.path
    (options_of c.args.options.now) c.args.payload.now options payload
    (sym v ∙ ap (verdict_as s.own.szx m) c.in-Asks.is) h)
    c.handle_whole.ensures.handled

pub returns-in-Uploads-clause-handled : goal.returns-in-Uploads-clause-handled
returns-in-Uploads-clause-handled g c =
    let s = seen g.S.Store.content c.args.parts.now in
    on_ok c.handle_block.result
    (λ h m options payload v. asks_block s _ c.args.asked.now m c.in-Uploads.method c.in-Uploads.path
    (options_of c.args.options.now) c.args.payload.now c.in-Uploads.block options payload
    (sym v ∙ ap (verdict_as s.own.szx m) c.in-Uploads.is) h)
    c.handle_block.ensures.handled
