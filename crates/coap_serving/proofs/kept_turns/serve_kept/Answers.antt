use Rattle.std.proofs.Common.{◌∙◌, ap, refl}
use Rattle.coap_resource.specs.Entries.{content_of}
use Rattle.coap_server.specs.Object.Shown.{state_of}
use Rattle.coap_serving.proofs.KeptCalls.{kept_from, no_answer, nothing_done}
use Rattle.coap_serving.proofs.kept_turns.serve_kept.Goals as goal

pub returns-in_ok-writeln-in-None-clause-serves : goal.returns-in_ok-writeln-in-None-clause-serves
returns-in_ok-writeln-in-None-clause-serves g c = (
  refl,
  _,
  kept_from g.F.JournalFile.appends g.F.JournalFile.syncs _ g.L.Link.sends g.L.Link.receives g.L.Link.fault_count
      _ _ c.args.turns.0 c.args.turns.1 _ _ _ _ _ _ _ c.in_ok-ended.field-0 c.in-None.is
      (ap (λ t. state_of content_of t.end.journaled.end) c.new-server.ensures
      ∙ ap (λ j. state_of content_of j.end) c.new.ensures.journaled)
      c.in_ok-ended.ensures.serves,
)

pub returns-in-Some-clause-serves : goal.returns-in-Some-clause-serves
returns-in-Some-clause-serves g c = no_answer _ c.tell_failure.result c.tell_failure.ensures

pub returns-in-Some-clause-printed : goal.returns-in-Some-clause-printed
returns-in-Some-clause-printed g c = nothing_done _ c.tell_failure.result c.tell_failure.ensures
