use Rattle.coap_client_laws.proofs.Observing.OfObservations.{are_of_observations}
use Rattle.coap_client_laws.proofs.Hearing.Noted.{are_noted}
use Rattle.coap_client_laws.proofs.Hearing.NotedAt.{are_noted_at}
use Rattle.coap_client_laws.proofs.Observing.Ended.{are_over}
use Rattle.coap_client_laws.proofs.Observing.Notified.{are_taken}
use Rattle.coap_client_laws.proofs.Observing.Rising.{values_rise}
use Rattle.coap_client_laws.proofs.Observing.Values.{values_are_whole}
use Rattle.coap_client_laws.proofs.laws.client_values_law.Goals as goal

pub returns-clause-notified : goal.returns-clause-notified
returns-clause-notified c = are_taken

pub returns-clause-values : goal.returns-clause-values
returns-clause-values c server sizes setup t law = values_are_whole sizes server setup t law

pub returns-clause-rising : goal.returns-clause-rising
returns-clause-rising c server sizes setup t law = values_rise sizes server setup t law

pub returns-clause-ended : goal.returns-clause-ended
returns-clause-ended c server sizes setup t law = are_over sizes server setup t law

pub returns-clause-noted : goal.returns-clause-noted
returns-clause-noted c = are_noted

pub returns-clause-noted_at : goal.returns-clause-noted_at
returns-clause-noted_at c = are_noted_at

pub returns-clause-of_observations : goal.returns-clause-of_observations
returns-clause-of_observations c server sizes setup t law = are_of_observations sizes server setup t law
