use Rattle.std.proofs.Common.{refl, ap, sym, ◌∙◌, arith}
use Rattle.coap_layer.specs.Trace as T
use Rattle.coap_exchange.proofs.Calls.RoomIsKept.{still_may}
use Rattle.coap_exchange.proofs.answerer.Answerer.defer.Goals as goal

pub returns-else-deferred-clause-kept : goal.returns-else-deferred-clause-kept
returns-else-deferred-clause-kept g c no_place at there may =
    still_may c.self.inside.layer.state c.pass.new.self.state c.args.now.0 T.Pass T.Nothing c.pass.ensures.step
    (record { begun = λ at. refl; given = λ at. refl; later = omega (arith) }) c.args.self.now _ at there
    (sym (ap (λ s. s.state.layer) c.self.view_is)) refl (λ h. ap (λ s. s.room) c.self.view_is ∙ h) may
