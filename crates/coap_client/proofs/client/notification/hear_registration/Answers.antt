use Rattle.std.proofs.Common.{None, ap, subst, ◌∙◌}
use Rattle.coap_exchange.specs.AskerTrace as E
use Rattle.coap_exchange.specs.AskerLaw as X
use Rattle.coap_client.specs.Effects.{Rests, of}
use Rattle.coap_client.specs.Steps.{reporting}
use Rattle.coap_client.specs.Trace.{Ended}
use Rattle.std.specs.Option.{option_map}
use Rattle.coap_client.specs.Object.Held.{own_of}
use Rattle.coap_client.specs.Object.Shown.{shown_operation}
use Rattle.coap_client.proofs.Facts.Calls.Happening.{begun_own, not_registered, registered_number, was_registered}
use Rattle.coap_client.proofs.client.notification.hear_registration.Goals as goal

pub returns-in_default-clause-happens : goal.returns-in_default-clause-happens
returns-in_default-clause-happens g c setup =
    not_registered c.args.parts.now.asker.state c.args.number c.args.path
    (own_of c.args.parts.now.held) _ c.args.at.0 setup c.args.m.now c.sequence_of.result c.sequence_of.ensures
    c.in_default.is
    (c.give.ensures
    ∙ (ap (λ r. reporting (record {
      own = record (own_of c.args.parts.now.held) { running = option_map shown_operation r };
      report = of c.args.number (Ended c.code.result.0);
      deed = Rests;
    })) c.requires.idle
    ∙ ap (λ k. reporting (record {
      own = record (own_of c.args.parts.now.held) { running = None };
      report =
          of c.args.number (Ended k);
      deed = Rests;
    })) c.code.ensures))

pub returns-in-Ok-clause-happens : goal.returns-in-Ok-clause-happens
returns-in-Ok-clause-happens g c setup =
    let same = registered_number c.sequence_of.result c.args.m.now c.in-Some.sequence c.sequence_of.ensures
    c.in-Some.is in
    was_registered c.args.parts.now.asker.state c.keep-kept.new.self.state c.args.number c.args.path
    (own_of c.args.parts.now.held) _ c.args.at.0 setup c.args.m.now c.sequence_of.result c.in-Some.sequence
    c.keep-kept.result
    c.sequence_of.ensures c.in-Some.is
    (subst (λ t. X.Step c.args.parts.now.asker.state (E.Keep t c.keep-kept.result) c.keep-kept.new.self.state)
    c.make_live-token.ensures.token c.keep-kept.ensures.step)
    (begun_own c.args.number c.args.path (own_of c.args.parts.now.held) (own_of c.begin.new.held)
    (own_of c.make_live-token.new.held) _ c.args.at.0 c.args.m.now _ c.begin.ensures.same c.make_live-token.ensures.live
    c.give_some.ensures (c.in-Ok.ensures.value c.args.number same))
