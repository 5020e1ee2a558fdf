use Rattle.coap_server_laws.proofs.Facts.Laws.{right, stamped}
use Rattle.coap_many.specs.Entries.{client_of, server_trace}
use Rattle.coap_many.proofs.DoneReads.{observes_what_was_done, reads_what_was_done}
use Rattle.coap_many.proofs.NeverBack.{again_rises, never_back}
use Rattle.coap_many.proofs.OneCallWins.{one_call_wins}
use Rattle.coap_many.proofs.OneMaker.{one_maker}
use Rattle.coap_many.proofs.OneRequestMakes.{requests_make}
use Rattle.coap_many.proofs.OneRequestWins.{one_request_wins}
use Rattle.coap_many.proofs.Owned.{one}
use Rattle.coap_many.proofs.RealTime.{in_real_time}
use Rattle.coap_order_many.proofs.Seen.{promises}
use Rattle.coap_order_many.proofs.laws.shared_history_law.Goals as goal

pub returns-clause-in_real_time : goal.returns-clause-in_real_time
returns-clause-in_real_time s = λ c config run runs legal.
    in_real_time config run (λ k client. promises c config run runs legal k client)

pub returns-clause-never_back : goal.returns-clause-never_back
returns-clause-never_back s = λ c config run runs legal.
    never_back config run (λ k client. promises c config run runs legal k client) runs.server.rows
    (stamped config.limits config.szx config.setup (server_trace config run) runs.server)

pub returns-clause-again_rises : goal.returns-clause-again_rises
returns-clause-again_rises s = λ c config run runs legal.
    again_rises config run (λ k client. promises c config run runs legal k client) runs.server.rows
    (stamped config.limits config.szx config.setup (server_trace config run) runs.server)

pub returns-clause-one_request_wins : goal.returns-clause-one_request_wins
returns-clause-one_request_wins s = λ c config run runs legal.
    one_request_wins config run runs.server.rows
    (stamped config.limits config.szx config.setup (server_trace config run) runs.server)
    (right config.limits config.szx config.setup (server_trace config run) runs.server)

pub returns-clause-one_call_wins : goal.returns-clause-one_call_wins
returns-clause-one_call_wins s = λ c config run runs legal.
    one_call_wins config run runs.server.rows
    (stamped config.limits config.szx config.setup (server_trace config run) runs.server)
    (λ k client. promises c config run runs legal k client)
    (λ k l m n x a b. one config legal.range run
    (λ k client. s.client_follows_law.ensures.tokens config.server k.sizes k.setup (client_of k.at run)
    (runs.clients k client)) (λ k client. (promises c config run runs legal k client).each_belongs) x k l m n a b)

pub returns-clause-requests_make : goal.returns-clause-requests_make
returns-clause-requests_make s = λ c config run runs legal.
    requests_make config run (right config.limits config.szx config.setup (server_trace config run) runs.server)

pub returns-clause-one_maker : goal.returns-clause-one_maker
returns-clause-one_maker s = λ c config run runs legal.
    one_maker config run (λ k client. promises c config run runs legal k client)

pub returns-clause-reads_what_was_done : goal.returns-clause-reads_what_was_done
returns-clause-reads_what_was_done s = λ c config run runs legal.
    reads_what_was_done config run (λ k client. promises c config run runs legal k client) runs.server.rows
    (stamped config.limits config.szx config.setup (server_trace config run) runs.server)

pub returns-clause-observes_what_was_done : goal.returns-clause-observes_what_was_done
returns-clause-observes_what_was_done s = λ c config run runs legal.
    observes_what_was_done config run (λ k client. promises c config run runs legal k client) runs.server.rows
    (stamped config.limits config.szx config.setup (server_trace config run) runs.server)
