use Rattle.coap_server_laws.proofs.Serving.RefusedIsNotServed.{all_refused}
use Rattle.coap_server_laws.proofs.Serving.UnknownIsRefused.{never_served, refuses_unknown}
use Rattle.coap_server_laws.proofs.laws.refusal_law.Goals as goal

pub returns-clause-refused : goal.returns-clause-refused
returns-clause-refused c limits szx setup t law = all_refused limits szx t law.rows

pub returns-clause-unknown : goal.returns-clause-unknown
returns-clause-unknown c limits szx setup t law = refuses_unknown limits szx setup t law

pub returns-clause-never : goal.returns-clause-never
returns-clause-never c limits szx setup t law = never_served limits szx setup t law
