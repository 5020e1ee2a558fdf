-- What a server's side can send at a moment.
use Rattle.std.specs.Prelude.{ℕ, max, Bool, ◌&&◌, not, is_some}
use Rattle.coap_types.specs.declared.endpoint.Endpoint.{Endpoint}
use Rattle.coap_layer.specs.Machine.State.{is_busy, is_free}
use Rattle.coap_exchange.specs.AnswererSteps.{ready_at}
use Rattle.coap_exchange.specs.AnswererLaw.{State}

-- a CON to there: none is outstanding, and a Message ID is free (RFC 7252, sections 4.4 and 4.7)
abbrev pub takes_con : State → ℕ → Endpoint → Bool
takes_con s now to = not (is_busy to s.layer.open_cons)
    && is_free (max s.own.clock now) s.layer.upcoming s.layer.last_used

-- the response to a deferred request: one is ready, and a Message ID is free (section 5.2.2)
abbrev pub takes_response : State → ℕ → Bool
takes_response s now = is_some (ready_at s.own now) && is_free (max s.own.clock now) s.layer.upcoming s.layer.last_used
