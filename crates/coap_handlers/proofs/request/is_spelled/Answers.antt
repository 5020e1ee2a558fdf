use Rattle.std.proofs.Common.{ap, refl}
use Rattle.coap_types.specs.declared.message.Code.{Code}
use Rattle.coap_handlers.proofs.IsAskableSo.{askable_so, unaskable_so, has_method}
use Rattle.coap_handlers.proofs.request.is_spelled.Goals as goal

pub returns-in-Ok : goal.returns-in-Ok
returns-in-Ok c = (
  λ _. askable_so c.code.result.0 c.longest_token.result c.args.ask.now _ _ c.args.buffer.now c.encode.new.out
      (ap (λ (k : Code). k.0) c.code.ensures) c.longest_token.ensures c.ask.view_is (has_method _)
      c.in-Ok.ensures.spelled.0 c.requires.room c.in-Ok.ensures.spelled.1,
  λ _. refl,
)

pub returns-in-Err : goal.returns-in-Err
returns-in-Err c = (
  λ e. absurd cc,
  λ can. absurd (unaskable_so c.code.result.0 c.longest_token.result c.args.ask.now _ _
      (ap (λ (k : Code). k.0) c.code.ensures) c.longest_token.ensures c.ask.view_is c.requires.room
      c.in-Err.ensures.none can),
)
