-- What a server is left with where a peer never comes again (RFC 7252, section 4.2; RFC 7641, section 3.6).
use Rattle.coap_types.specs.declared.endpoint.Endpoint.{Endpoint}
use Rattle.coap_layer.specs.EmptyMessages.{reset_bytes}
use Rattle.coap_exchange.specs.Peers.{reset_to}
use Rattle.coap_server.specs.Led.{State, Step}
use Rattle.coap_server.specs.Makes.{Fed, Makes}
use Rattle.coap_server.specs.Trace.{Forgets}

-- The peer is taken to reject what is outstanding to it, with a Reset that arrives at the last moment that counted; and
-- then what else is of it is let go.
abbrev pub IsForgotten : Endpoint → State → State → Type 0
IsForgotten peer old new =
    (between : State)
    × Makes old (Fed 0 peer (reset_bytes (reset_to peer old.own.exchanges.separate)) 0) between
    × Step between (Forgets peer) new
