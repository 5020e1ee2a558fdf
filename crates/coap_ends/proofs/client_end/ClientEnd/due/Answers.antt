use Rattle.std.proofs.lemmas.Option.{IfSome_then}
use Rattle.coap_ends.proofs.IfNoneThen.{if_none_then}
use Rattle.coap_ends.proofs.client_end.ClientEnd.due.Goals as goal

pub returns-clause-none : goal.returns-clause-none
returns-clause-none g c = if_none_then c.due.result c.due.ensures.none
    (λ f now word did n less t. f now less word t.0 t.1 t.2 t.3 t.4 did n t.5)

pub returns-clause-some : goal.returns-clause-some
returns-clause-some g c = IfSome_then c.due.result c.due.ensures.some
    (λ at f now word did n less t. f now less word t.0 t.1 t.2 t.3 t.4 did n t.5)

pub returns-clause-does : goal.returns-clause-does
returns-clause-does g c = IfSome_then c.due.result c.due.ensures.does
    (λ at f word did n t. f word t.0 t.1 t.2 t.3 t.4 did n t.5)
