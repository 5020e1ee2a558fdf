-- What the proofs of upper crates may cite: of turns of a client over its link, and of what becomes of a request.
pub use Rattle.coap_waits.proofs.LinkedTurns.{begins_over, goes_join, goes_on, left_over, no_call, own_call, run_by}
pub use Rattle.coap_waits.proofs.LinkedTurns.{runs_by, runs_on, sent_over, turned_over, where_ok}
pub use Rattle.coap_waits.proofs.TurnCalls.{chain_join, client_sent, client_turned, client_turned_at, each_join, on_ok}
pub use Rattle.coap_waits.proofs.TurnCalls.{turned_by, turned_here, turned_on, was_borne}
pub use Rattle.coap_waits.proofs.WaitedTurns.{each_as, nothing_at, nothing_in_time, turned_in_time}
pub use Rattle.coap_waits.proofs.WhatBecomes.{began, led_on}
