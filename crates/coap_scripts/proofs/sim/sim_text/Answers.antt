use Rattle.std.proofs.Common.{List, ap, map, subst, sym}
use Rattle.coap_record.specs.Events.{Event}
use Rattle.coap_run.specs.Run.Happening.{event_of}
use Rattle.coap_scripts.specs.Script.{EachSays, lines_of}
use Rattle.coap_scripts.proofs.RunEnds.{bad_by, said_by}
use Rattle.coap_scripts.proofs.sim.sim_text.Goals as goal

pub returns-in-Ok-clause-said : goal.returns-in-Ok-clause-said
returns-in-Ok-clause-said g c =
    said_by _ _ c.args.ends c.args.remembered c.args.plains.now c.args.text.now
    (map event_of c.as_slice.result.now) c.run_events.result
    (subst (λ (events : List Event). EachSays (lines_of c.args.text.now) events)
    (ap (map event_of) (sym c.as_slice.ensures.value)) c.in-Ok.ensures.said)
    c.run_events.ensures.runs c.run_events.ensures.unset

pub returns-in-Err-clause-said : goal.returns-in-Err-clause-said
returns-in-Err-clause-said g c =
    bad_by _ _ c.args.ends c.args.remembered c.args.plains.now c.args.text.now c.events_of.result
    c.in-Err.refusal c.tell_bad_line.result c.in-Err.is c.events_of.ensures.no_event c.tell_bad_line.ensures
