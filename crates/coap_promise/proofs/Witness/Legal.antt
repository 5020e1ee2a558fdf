-- Which events are legal, kind by kind.
use Rattle.std.proofs.Common.{◌≡◌, ◌≤◌, ◌<◌, ℕ, ◌^◌, inl, inr, List, [], ◌∷◌, ap, arith}
use Rattle.coap_types.specs.declared.endpoint.Endpoint.{Endpoint}
use Rattle.coap_record.specs.Events.{Event, What, Calls, Observes, Cancels, Forgets, Sets, Removes, TickClient}
use Rattle.coap_record.specs.Events.{TickServer, StrangerToServer, StrangerToClient}
use Rattle.coap_types.specs.Path.{IsPath}
use Rattle.coap_record.specs.Legal.{InRange, NotBefore, MayCome}
use Rattle.coap_record.specs.LegalEvents.{MayHappen, May, at_with, Segments, CallsMay, ObservesMay, EndsMay, SetsMay}
use Rattle.coap_record.specs.LegalEvents.{RemovesMay, TicksMay, StrangersMay, DeliveriesMay, NoneFalls, NoneOver}
use Rattle.coap_record.specs.LegalEvents.{NoneLonger, NoneBeyond}
use Rattle.coap_record.specs.Record.{Turn}
use Rattle.coap_promise.proofs.Witness.NoneRuns.{events_of, newest}
use Rattle.coap_record.specs.declared.addresses.Addresses.{Addresses}

-- what comes from no end
module _ (addresses : Addresses) (what : What) (range : InRange what) (comes : (past : List Turn) (at : ℕ)
    → MayCome addresses past at what) where
  happens : (past : List Turn) (at word : ℕ) → at < 2 ^ 64 → word < 2 ^ 64 → NotBefore past at
      → MayHappen addresses past (at_with at word what)
  happens past at word small word_small later =
      record { at = small; word = word_small; range = range; later = later; comes = comes past at }

  may : May addresses what
  may = record {
    first = λ at word small word_small. happens [] at word small word_small tt;
    then = λ last past at word small word_small later. happens (last ∷ past) at word small word_small later;
  }

path_in : (path : List (List ℕ)) → Segments path → IsPath path
path_in path s = record { bounds = record { few = s.0; short = s.1 }; bytes = s.2 }

pub calls_may : (addresses : Addresses) → CallsMay addresses
calls_may addresses r path accept format body etags if_match =
    may addresses (Calls r) (record {
      path = path_in r.path path;
      format = format;
      body = body;
      etags = etags;
      if_match = if_match;
      accept = accept;
    }) (λ past at. tt)

pub observes_may : (addresses : Addresses) → ObservesMay addresses
observes_may addresses path segments = may addresses (Observes path) (path_in path segments) (λ past at. tt)

pub ends_may : (addresses : Addresses) → EndsMay addresses
ends_may addresses number small = (
  may addresses (Cancels number) small (λ past at. tt),
  may addresses (Forgets number)
      small (λ past at. tt),
)

pub sets_may : (addresses : Addresses) → SetsMay addresses
sets_may addresses path format body segments small bytes =
    may addresses (Sets path format body) (path_in path segments, small, bytes) (λ past at. tt)

pub removes_may : (addresses : Addresses) → RemovesMay addresses
removes_may addresses path segments = may addresses (Removes path) (path_in path segments) (λ past at. tt)

pub ticks_may : (addresses : Addresses) → TicksMay addresses
ticks_may addresses = (may addresses TickClient tt (λ past at. tt), may addresses TickServer tt (λ past at. tt))

pub strangers_may : (addresses : Addresses) → StrangersMay addresses
strangers_may addresses ip port bytes four are small of_bytes client server =
    let from : Endpoint = record { ip = ip; port = port } in (
      may addresses (StrangerToServer from bytes) tt (λ past at. (client, server)),
      may addresses (StrangerToClient from bytes) tt (λ past at. (client, server)),
    )

pub deliveries_may : (addresses : Addresses) → DeliveriesMay addresses 100000
deliveries_may addresses turn past at word number g small word_small later is to young =
    record { at = small; word = word_small; range = tt; later = later; comes = (g, is, to, young) }

-- .. and which are not

last_at : (at : ℕ) (past : List Turn) (e : Event) (es : List Event) → events_of past ≡ e ∷ es → NotBefore past at
    → e.at ≤ at
last_at at [] e es h later = absurd (cc h)
last_at at (t ∷ past) e es h later = let same : t.event
    ≡ e = cc h in let k = ap (λ (x : Event). x.at) same in omega (arith, k, later)

pub none_falls : NoneFalls
none_falls at later falls config turns made legal =
    let n = newest config.addresses turns _ _ made.events_are legal in
    let k = last_at at n.past _ _ n.events_are n.later in
    omega (arith, falls, k)

pub none_over : NoneOver
none_over at word (inl over) config turns made legal = let n = newest config.addresses turns _ _ made.events_are
    legal in let k =
    n.at in omega (arith, over, k)
none_over at word (inr over) config turns made legal = let n = newest config.addresses turns _ _ made.events_are
    legal in let k =
    n.word in omega (arith, over, k)

pub none_longer : NoneLonger
none_longer path long config turns made legal = let n = newest config.addresses turns _ _ made.events_are legal in let k
    =
    n.range.bounds.few in omega (arith, long, k)

pub none_beyond : NoneBeyond
none_beyond path format body over config turns made legal = let n = newest config.addresses turns _ _ made.events_are
    legal in let k =
    n.range.1 in omega (arith, over, k)
