-- Whether a server has something of a peer that it may send, or may still need (RFC 7252, section 5.2; RFC 7641, section
-- 4.1; RFC 7959, section 2.5).
use Rattle.std.specs.Prelude.{ℕ, max, Bool, ◌||◌, List}
use Rattle.std.specs.List.{list_any}
use Rattle.coap_types.specs.SameEndpoint.{same_endpoint}
use Rattle.coap_types.specs.declared.endpoint.Endpoint.{Endpoint}
use Rattle.coap_block.specs.AssemblyState.{PartialBody, forgotten}
use Rattle.coap_observe.specs.Observers.{Observer}
use Rattle.coap_exchange.specs.Peers as X
use Rattle.coap_server.specs.Trace.{Waiting}
use Rattle.coap_server.specs.Led.{State, exchanges_of}
use Rattle.coap_server.specs.Load.{moment}

-- one of these observers is of it, one of the partial bodies, one of the requests that wait
abbrev pub observes : Endpoint → List Observer → Bool
observes peer os = list_any (λ (o : Observer). same_endpoint o.to peer) os

abbrev pub uploads : Endpoint → List PartialBody → Bool
uploads peer ps = list_any (λ (p : PartialBody). same_endpoint p.key.from peer) ps

abbrev pub awaits : Endpoint → List Waiting → Bool
awaits peer ws = list_any (λ (w : Waiting). same_endpoint w.asked.from peer) ws

-- its exchanges have something of the peer, or one of these lists does at that moment. What is remembered of duplicates
-- is not looked at: that is over by itself
abbrev pub knows : State → ℕ → Endpoint → Bool
knows s now peer =
    X.knows peer (exchanges_of s)
    || (observes peer s.own.observers
    || (uploads peer (forgotten (max s.own.uploads.clock (moment s now)) s.own.uploads.partials)
    || awaits peer s.own.waiting))
