use Rattle.std.proofs.Common.{refl}
use Rattle.coap_handlers.proofs.IsSendableSo.{fits_so, unfit_so}
use Rattle.coap_handlers.proofs.response.is_spelled.Goals as goal

pub returns-in-Ok : goal.returns-in-Ok
returns-in-Ok c = (
  λ _. fits_so c.args.token.now c.copy.result c.args.response.now _ c.in-Ok.field-0 c.args.buffer.now c.encode.new.out
      c.copy.ensures c.response.view_is c.requires.role c.in-Ok.ensures.spelled.0 c.requires.room
      c.in-Ok.ensures.spelled.1,
  λ _. refl,
)

pub returns-in-Err : goal.returns-in-Err
returns-in-Err c = (
  λ e. absurd cc,
  λ can. absurd (unfit_so c.args.token.now c.copy.result c.args.response.now _ _ c.copy.ensures c.response.view_is
      c.requires.room c.in-Err.ensures.none can),
)
