use Rattle.std.proofs.Common.{refl, ap, sym, ◌∙◌, arith}
use Rattle.coap_layer.specs.Trace as T
use Rattle.coap_exchange.proofs.Calls.RoomIsKept.{still_may}
use Rattle.coap_exchange.proofs.answerer.Answerer.next_out.Goals as goal

pub returns-clause-kept : goal.returns-clause-kept
returns-clause-kept g c at there may =
    still_may c.self.inside.layer.state c.next_out.new.self.state 0 T.Take
    (T.Gives c.next_out.result) c.next_out.ensures.step
    (record { begun = λ at. refl; given = λ at. refl; later = omega (arith) }) c.args.self.now _ at there
    (sym (ap (λ s. s.state.layer) c.self.view_is)) refl (λ h. ap (λ s. s.room) c.self.view_is ∙ h) may
