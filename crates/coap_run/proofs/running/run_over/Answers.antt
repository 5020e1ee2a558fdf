use Rattle.std.proofs.Common.{◌∷◌, [], Err, map, refl, ap, subst, ◌∙◌, arith}
use Rattle.coap_record.specs.LegalEvents.{MayHappen}
use Rattle.coap_run.specs.Run.Ends.{ClientLed, ServerLed}
use Rattle.coap_run.specs.Run.Happening.{event_of}
use Rattle.coap_run.specs.Run.Runs.{IsFirstWrong}
use Rattle.coap_run.specs.Run.Turning.{Stands}
use Rattle.coap_run.proofs.Recording.Runs.{one_more, first_wrong, same_number, to_the_end}
use Rattle.coap_run.proofs.Recording.Standing.{recorded}
use Rattle.coap_run.proofs.running.run_over.Goals as goal

pub events-init : goal.events-init
events-init g c = record { within = omega (arith); stands = λ config same st. ([], st) }

pub events-preserved : goal.events-preserved
events-preserved g c =
    record {
      within = omega (arith, c.events-test.true);
      stands = λ config same start.
          let st = c.events.invariant.stands config same start in
          let more = c.in-Ok.ensures.ok config _ st.0 same st.1 in (
            more.0 ∷ st.0,
            subst (λ es. Stands ClientLed (ServerLed g.S.Store.content) config es
                (more.0 ∷ st.0) c.step.new.client c.step.new.server c.step.new.log c.step.new.last.0)
                (one_more event_of c.args.events.now c.events.number c.index-events-number.result c.events-test.true
                c.index-events-number.is) more.1,
          );
    }

pub returns-clause-record : goal.returns-clause-record
returns-clause-record g c = λ config same start.
    let st = c.events.invariant.stands config same start in (
      st.0,
      c.events.last.0,
      to_the_end event_of c.args.events.now c.events.number
          (λ es. Stands ClientLed (ServerLed g.S.Store.content) config es st.0 c.events.client c.events.server
          c.events.log c.events.last.0) c.events-test.false st.1,
    )

pub returns-in-Err-NotLegal-clause-wrong : goal.returns-in-Err-NotLegal-clause-wrong
returns-in-Err-NotLegal-clause-wrong g c = λ number e config here start.
    let st = c.events.invariant.stands config here start in
    let same = same_number c.events.number number _ refl e in
    subst (λ n. IsFirstWrong config (map event_of c.args.events.now) n) same
    (first_wrong event_of c.args.events.now c.events.number config st.0 c.index-events-number.result c.events-test.true
    c.index-events-number.is
    (recorded g.S.Store.content config _ st.0 _ _ _ _ st.1) st.1.legal st.1.lacks
    (λ may. c.step.ensures.wrong (c.in-Err-NotLegal.is ∙ ap Err c.in-Err-NotLegal.field-0-is) config _ st.0 here st.1
    (subst (λ x. MayHappen x st.0 (event_of c.index-events-number.result)) here may)))
