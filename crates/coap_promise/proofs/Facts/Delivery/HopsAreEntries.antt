-- The hops are the entries of the two layers.
use Rattle.std.proofs.Common.{◌≡◌, List, [], ◌∷◌, ◌++◌, map, refl, ap, ◌∙◌, sym}
use Rattle.coap_layer.specs.Channel.{Hop, Near, Far, near_of, far_of}
use Rattle.coap_layer.specs.Machine.State.{start}
use Rattle.coap_layer.specs.Machine.Steps.{entries}
use Rattle.coap_record.specs.Events.{Config}
use Rattle.coap_record.specs.Record.{Entry, OfClient, OfServer, client_of, server_trace}
use Rattle.coap_record.specs.Record.{Setting, DelayOf, PlainOf, gives_it, settings}
use Rattle.coap_exchange.proofs.Facts.Adds.{answerer_append, entries_append}
use Rattle.coap_promise.specs.Hops.{client_asks, client_asked, client_adds, server_asks, server_asked, server_adds}
use Rattle.coap_promise.specs.Hops.{hops_in}
use Rattle.coap_layer.specs.Trace as L
use Rattle.coap_exchange.specs.AnswererLaw as answerer
use Rattle.coap_client.specs.Trace as C
use Rattle.coap_client.specs.Law as client
use Rattle.coap_server.specs.Trace as S
use Rattle.coap_server.specs.Law as server
use Rattle.coap_server.specs.Asks as asks
use Rattle.coap_client_laws.proofs.Facts.Laws as client_facts

-- hops

pub near_near : (xs : List L.Entry) (hs : List Hop) → near_of (map Near xs ++ hs) ≡ xs ++ near_of hs
near_near [] hs = refl
near_near (x ∷ xs) hs = ap (λ t. x ∷ t) (near_near xs hs)

pub near_far : (xs : List L.Entry) (hs : List Hop) → near_of (map Far xs ++ hs) ≡ near_of hs
near_far [] hs = refl
near_far (x ∷ xs) hs = near_far xs hs

pub far_far : (xs : List L.Entry) (hs : List Hop) → far_of (map Far xs ++ hs) ≡ xs ++ far_of hs
far_far [] hs = refl
far_far (x ∷ xs) hs = ap (λ t. x ∷ t) (far_far xs hs)

pub far_near : (xs : List L.Entry) (hs : List Hop) → far_of (map Near xs ++ hs) ≡ far_of hs
far_near [] hs = refl
far_near (x ∷ xs) hs = far_near xs hs

module _ (config : Config) where
  abbrev pub client_layer : List C.Call → List L.Entry
  client_layer t = client.layer_of config.addresses.server config.client_sizes config.client_setup t

  abbrev pub server_layer : List S.Call → List L.Entry
  server_layer t = server.layer_of config.limits config.server_szx config.server_setup t

  pub client_asked_next : (past : List C.Call) (c : C.Call)
      → client_asked config (c ∷ past) ≡ client_asks config past c ++ client_asked config past
  client_asked_next past c = client_facts.asked_next config.addresses.server config.client_sizes config.client_setup
      past c

  pub server_asked_next : (past : List S.Call) (c : S.Call)
      → server_asked config (c ∷ past) ≡ server_asks config past c ++ server_asked config past
  server_asked_next past c = answerer_append (asks.lower (server.own_of config.limits config.server_szx past) c)
      (server.lower_of config.limits config.server_szx past)

  pub client_next : (past : List C.Call) (c : C.Call)
      → client_layer (c ∷ past) ≡ client_adds config past c ++ client_layer past
  client_next past c = client_facts.layer_next config.addresses.server config.client_sizes config.client_setup past c

  pub server_next : (past : List S.Call) (c : S.Call)
      → server_layer (c ∷ past) ≡ server_adds config past c ++ server_layer past
  server_next past c = ap (entries (start config.server_setup)) (server_asked_next past c)
      ∙ entries_append (start config.server_setup) (server_asks config past c) (server_asked config past)

  -- a server begins with no call of its layer
  pub begins_silent : (ss : List Setting) → server.lower_of config.limits config.server_szx
      (map gives_it ss) ≡ []
  begins_silent [] = refl
  begins_silent (DelayOf d ∷ ss) = begins_silent ss
  begins_silent (PlainOf p ∷ ss) = begins_silent ss

  pub near_is : (all : List Entry) → near_of (hops_in config all) ≡ client_layer (client_of all)
  near_is [] = refl
  near_is (OfClient c ∷ past) = near_near (client_adds config (client_of past) c) (hops_in config past)
      ∙ ap (λ t. client_adds config (client_of past) c ++ t) (near_is past) ∙ sym (client_next (client_of past) c)
  near_is (OfServer c ∷ past) = near_far (server_adds config (server_trace config past) c) (hops_in config past)
      ∙ near_is past

  pub far_is : (all : List Entry) → far_of (hops_in config all) ≡ server_layer (server_trace config all)
  far_is [] = sym (ap (λ t. entries (start config.server_setup) (answerer.lower_of t))
      (begins_silent (settings config)))
  far_is (OfServer c ∷ past) = far_far (server_adds config (server_trace config past) c) (hops_in config past)
      ∙ ap (λ t. server_adds config (server_trace config past) c ++ t) (far_is past)
      ∙ sym (server_next (server_trace config past) c)
  far_is (OfClient c ∷ past) = far_near (client_adds config (client_of past) c) (hops_in config past) ∙ far_is past
