-- What contracts see of a server (RFC 7252, section 5).
use Rattle.std.specs.Prelude.{ℕ, ◌≤◌, not, Option, Some, None, List, [], ◌∷◌, filter, map}
use Rattle.coap_types.specs.CoapOption.{CoapOption}
use Rattle.coap_types.specs.SameEndpoint.{same_endpoint}
use Rattle.coap_types.specs.declared.endpoint.Endpoint.{Endpoint}
use Rattle.coap_block.specs.AssemblyState.{AssemblyState}
use Rattle.coap_observe.specs.Observers.{Roll}
use Rattle.coap_resource.specs.Content.{Content}
use Rattle.coap_exchange.specs.AnswererLaw as X
use Rattle.coap_server.specs.declared.server.parts.Delay.{Delay}
use Rattle.coap_server.specs.declared.server.parts.KeptOption.{KeptOption}
use Rattle.coap_server.specs.declared.server.parts.Waiting.{Waiting}
use Rattle.coap_server.specs.declared.server.parts.Applied.{Applied}
use Rattle.coap_server.specs.declared.server.parts.Parts.{Parts}
use Rattle.coap_server.specs.Trace as T
use Rattle.coap_server.specs.Led.{State}

abbrev pub delay_as : {A : Type 0} → Delay A → T.Delay
delay_as d = record { path = d.path; ms = d.ms }

abbrev pub option_as : {A : Type 0} → KeptOption A → CoapOption
option_as o = record { number = o.number; value = o.value.items }

abbrev pub waiting_as : {A : Type 0} → ℕ → Waiting A → T.Waiting
waiting_as szx w = record {
  asked = w.asked;
  at = w.at.0;
  delay = w.delay;
  question = record {
    method = w.method;
    path = w.path;
    options = map option_as w.options.items;
    body = w.body;
    szx = szx;
  };
}

-- the requests of other peers that wait
abbrev pub waiting_of_others : {A : Type 0} → Endpoint → List (Waiting A) → List (Waiting A)
waiting_of_others {A} peer ws = filter (λ (w : Waiting A). not (same_endpoint w.asked.from peer)) ws

abbrev pub applied_as : {A : Type 0} → Applied A → T.Applied
applied_as x = record { from = x.from; token = x.token; path = x.path; method = x.method; version = x.version }

abbrev pub applied_list : {A : Type 0} → Option (Applied A) → List T.Applied
applied_list None = []
applied_list (Some x) = applied_as x ∷ []

-- What callers see of a server: what it keeps, with its store as it is. (A value holds no function, as the content of a
-- store is one.)
pub record Kept (S : Type 0) : Type 0 where
  pub szx : ℕ
  pub clock : ℕ
  pub exchanges : X.State
  pub store : S
  pub uploads : AssemblyState
  pub observers : Roll
  pub plains : List (List (List ℕ))
  pub delays : List T.Delay
  pub waiting : List T.Waiting
  pub applied : List T.Applied

abbrev pub kept_of : {S A H X : Type 0} → Parts S A H X → Kept S
kept_of p = record {
  szx = p.szx;
  clock = p.clock.0;
  exchanges = p.exchanges.state;
  store = p.store;
  uploads = p.uploads.state;
  observers = p.observers;
  plains = p.plains.items;
  delays = map delay_as p.delays.items;
  waiting = map (waiting_as p.szx) p.waiting.items;
  applied = applied_list p.applied;
}

-- no moment was handed to the observers that the server wasn't handed
abbrev pub IsTimed : {S : Type 0} → Kept S → Type 0
IsTimed k = k.observers.clock ≤ k.clock

-- .. and the state, by what such a store holds
abbrev pub state_of : {S : Type 0} → (S → Content) → Kept S → State
state_of content k = record {
  own = record {
    szx = k.szx;
    clock = k.clock;
    exchanges = k.exchanges.own;
    store = content k.store;
    uploads = k.uploads;
    observers = k.observers.list;
    plains = k.plains;
    delays = k.delays;
    waiting = k.waiting;
    applied = k.applied;
  };
  layer = k.exchanges.layer;
}

abbrev pub seen : {S A H X : Type 0} → (S → Content) → Parts S A H X → State
seen content p = state_of content (kept_of p)
