use Rattle.coap_many.specs.Entries.{client_of}
use Rattle.coap_many.proofs.FailedAnswers.{failed, never}
use Rattle.coap_many.proofs.Owned.{all_owned}
use Rattle.coap_many.proofs.Pointed.{at_most_one, has_point}
use Rattle.coap_order_many.proofs.Fresh.{are_fresh}
use Rattle.coap_order_many.proofs.Seen.{agrees, is_bounded, promises}
use Rattle.coap_order_many.proofs.laws.order_of_many_law.Goals as goal

pub returns-clause-each : goal.returns-clause-each
returns-clause-each s = λ c config run runs legal k client. agrees c config run runs legal k client

pub returns-clause-fresh : goal.returns-clause-fresh
returns-clause-fresh s = λ c config run runs legal k client. are_fresh c config run runs legal k client

pub returns-clause-bounded : goal.returns-clause-bounded
returns-clause-bounded s = λ c config run runs legal k client. is_bounded c config run runs legal k client

pub returns-clause-points : goal.returns-clause-points
returns-clause-points s = λ c config run runs legal k client number report definite.
    has_point config k run (promises c config run runs legal k client) number report definite

pub returns-clause-failed : goal.returns-clause-failed
returns-clause-failed s = λ c config run runs legal k client number code.
    failed config k run (promises c config run runs legal k client) number code

pub returns-clause-never_failed : goal.returns-clause-never_failed
returns-clause-never_failed s = λ c config run runs legal k client number code.
    never config k run (promises c config run runs legal k client) number code

pub returns-clause-once : goal.returns-clause-once
returns-clause-once s = λ c config run runs legal k client number.
    at_most_one config k run (promises c config run runs legal k client) number

pub returns-clause-owned : goal.returns-clause-owned
returns-clause-owned s = λ c config run runs legal. all_owned config legal.range run
    (λ k client. s.client_follows_law.ensures.tokens config.server k.sizes k.setup (client_of k.at run)
    (runs.clients k client))
    (λ k client. (promises c config run runs legal k client).each_belongs)
