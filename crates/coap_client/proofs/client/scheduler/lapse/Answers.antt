use Rattle.std.proofs.Common.{true, refl}
use Rattle.coap_client.specs.Own.{clocked}
use Rattle.coap_client.specs.Events.{failed}
use Rattle.std.specs.Prelude.{None}
use Rattle.coap_client.specs.Object.Held.{own_of}
use Rattle.coap_client.specs.Object.Shown.{shown_report}
use Rattle.coap_client.proofs.Facts.Calls.Happening.{deed_happens}
use Rattle.coap_client.proofs.Facts.Calls.PassingLemmas.{fails_silently}
use Rattle.coap_client.proofs.client.scheduler.lapse.Goals as goal

pub returns-clause-comes : goal.returns-clause-comes
returns-clause-comes g c setup =
    let s = clocked c.args.at.0 (own_of c.args.parts.now.held) in
    record {
      asked = None;
      own = own_of c.fail.new.parts.held;
      happens = deed_happens c.args.parts.now.asker.state c.fail.new.parts.asker.state
          (failed (λ t. true) (shown_report c.args.report) s s.running) c.args.at.0 setup (own_of
          c.fail.new.parts.held)
          (fails_silently (λ t. true) (shown_report c.args.report) s s.running) c.fail.ensures.deed c.fail.ensures.own;
      own_is = refl;
    }
