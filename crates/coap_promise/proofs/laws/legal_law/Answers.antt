use Rattle.coap_promise.proofs.Witness.ComesTill.{may_come}
use Rattle.coap_promise.proofs.Witness.Legal.{calls_may, observes_may, ends_may, sets_may, removes_may, ticks_may}
use Rattle.coap_promise.proofs.Witness.Legal.{strangers_may, deliveries_may, none_falls, none_over, none_longer}
use Rattle.coap_promise.proofs.Witness.Legal.{none_beyond}
use Rattle.coap_promise.proofs.Witness.NoneRuns.{not_after, never, not_of_client, not_of_server}
use Rattle.coap_promise.proofs.laws.legal_law.Goals as goal

pub returns : goal.returns
returns c = record {
  comes = may_come;
  late = not_after;
  calls = calls_may;
  observes = observes_may;
  ends = ends_may;
  sets = sets_may;
  removes = removes_may;
  ticks = ticks_may;
  strangers = strangers_may;
  deliveries = deliveries_may;
  falls = none_falls;
  over = none_over;
  longer = none_longer;
  beyond = none_beyond;
  given = never;
  of_client = not_of_client;
  of_server = not_of_server;
}
