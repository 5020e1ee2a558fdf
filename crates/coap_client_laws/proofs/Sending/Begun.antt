-- Each CON that a client's message layer begins is the request of one of its calls, and begins as that is sent.
use Rattle.std.proofs.Common.{◌≡◌, inl, inr, ℕ, Some, List, [], ◌∷◌, ◌++◌, ap, sym, subst, ◌∙◌}
use Rattle.coap_types.specs.Past.{Ever}
use Rattle.coap_types.proofs.Facts.Traces.{Ever_append}
use Rattle.coap_types.specs.declared.endpoint.Endpoint.{Endpoint}
use Rattle.coap_types.specs.declared.message.Kind.TheVariants.{Con}
use Rattle.coap_codec.specs.Spelling.{message_bytes}
use Rattle.coap_layer.specs.Trace.{with_head}
use Rattle.coap_layer.specs.Rows.{IsSpelled}
use Rattle.coap_layer.specs.Words.{Open, begun}
use Rattle.coap_layer.specs.Machine.State as S
use Rattle.coap_layer.specs.Machine.Steps.{Asked, Steps, entries}
use Rattle.coap_block.specs.Sizes.{Sizes}
use Rattle.coap_exchange.specs.AskerTrace as E
use Rattle.coap_exchange.specs.AskerRequests as Q
use Rattle.coap_layer.proofs.Facts.StepsOfLayer.{steps_split}
use Rattle.coap_layer.specs.declared.setup.Setup.{Setup}
use Rattle.coap_client.specs.Trace.{Call}
use Rattle.coap_client.specs.Steps.{lower}
use Rattle.coap_client.specs.Law.{ClientLaw, own_of, lower_of, layer_of}
use Rattle.coap_exchange.proofs.Facts.Adds.{asker_append, entries_append}
use Rattle.coap_client_laws.proofs.Sending.ConsAreRequests.{Begins, asked_for}
use Rattle.coap_client.proofs.Facts.Turning.Leading.{client_back}
use Rattle.coap_client_laws.specs.Follows.Adds.{call_asks, all_asked, call_adds}
use Rattle.coap_client_laws.specs.Follows.Begins.{SendsNow, BeginAtOnce, ConsAreRequests}
use Rattle.coap_client_laws.proofs.Sending.ExchangeBegins.{left_is, in_exchange}
use Rattle.coap_client_laws.proofs.Sending.Asked.{AsksFor, sent_if_asked}

-- a request that is asked begins it
record BeginsFor (server : Endpoint) (con : Open) (calls : List E.Call) : Type 0 where
  request : E.Request
  token : List ℕ
  asks : Ever (AsksFor request token) calls
  to : con.to ≡ server
  bytes : con.bytes ≡ message_bytes (with_head Con con.id (Q.content_of token request))
  spelled : IsSpelled (Q.content_of token request)

begins_asks : (server : Endpoint) (con : Open) (calls : List E.Call) → Ever (Begins server con) calls
    → BeginsFor server con calls
begins_asks server con [] h = absurd h
begins_asks server con (c ∷ calls) (inl h) = record {
  request = h.request;
  token = h.token;
  asks =
      inl (record { now = h.now; word = h.word; below = h.below; is = h.is });
  to = h.to;
  bytes = h.bytes;
  spelled = h.spelled;
}
begins_asks server con (c ∷ calls) (inr h) = let k =
    begins_asks server con calls h in record {
      request = k.request;
      token = k.token;
      asks = inr k.asks;
      to = k.to;
      bytes = k.bytes;
      spelled = k.spelled;
    }

module _ (server : Endpoint) (sizes : Sizes) (setup : Setup) where
  -- what a call adds stands before what there was
  pub adds_front : (past : List Call) (c : Call)
      → all_asked server sizes setup (c ∷ past) ≡ call_asks server sizes setup past c
      ++ all_asked server sizes setup past
  adds_front past c = asker_append server setup (lower (own_of sizes past) c) (lower_of sizes past)

  pub layer_next : (past : List Call) (c : Call)
      → layer_of server sizes setup (c ∷ past) ≡ call_adds server sizes setup past c ++ layer_of server sizes setup past
  layer_next past c = ap (entries (S.start setup)) (adds_front past c)
      ∙ entries_append (S.start setup) (call_asks server sizes setup past c) (all_asked server sizes setup past)

  -- the steps of the layer at one call
  pub steps_here : (past : List Call) (c : Call) → ClientLaw server sizes setup (c ∷ past)
      → (old new : S.State) × Steps old (call_asks server sizes setup past c) new
      × (call_adds server sizes setup past c ≡ entries old (call_asks server sizes setup past c))
  steps_here past c law =
      let asks = call_asks server sizes setup past c in
      let asked = all_asked server sizes setup past in
      let steps = subst (λ (z : List Asked). Steps (S.start setup) z law.exchanges.left)
      (adds_front past c) law.exchanges.layer in
      let k = steps_split (S.start setup) law.exchanges.left asks asked steps in
      let from = left_is (S.start setup) k.0 asked k.1 in
      (k.0, law.exchanges.left, k.2, ap (λ s. entries s asks) (sym from))

  pub begins_now : (past : List Call) (c : Call) → ClientLaw server sizes setup (c ∷ past) → (con : Open)
      → Ever (λ b. begun b ≡ Some con) (call_adds server sizes setup past c) → SendsNow server sizes con past c
  begins_now past c law con h =
      let k = steps_here past c law in
      let there = asked_for con k.0 k.1 (call_asks server sizes setup past c) k.2
      (subst (Ever (λ b. begun b ≡ Some con)) k.3 h) in
      let b = begins_asks server con (lower (own_of sizes past) c)
      (in_exchange server setup con (lower (own_of sizes past) c) (lower_of sizes past) law.exchanges.rows there) in
      let x = sent_if_asked (own_of sizes past) c b.request b.token b.asks in
      let content : Q.content_of b.token b.request
      ≡ Q.content_of x.sending.token x.sending.request = ap (λ k. Q.content_of k b.request) (sym x.token_is)
      ∙ ap (Q.content_of x.sending.token) (sym x.request) in
      record {
        sending = x.sending;
        sends_it = x.sends_it;
        is = record {
          to = b.to;
          bytes = b.bytes ∙ ap (λ z. message_bytes (with_head Con con.id z)) content;
          spelled = subst IsSpelled content b.spelled;
        };
      }

  pub begin_at_once : (t : List Call) → ClientLaw server sizes setup t → BeginAtOnce server sizes setup t
  begin_at_once [] law = tt
  begin_at_once (c ∷ t) law = (begins_now t c law, begin_at_once t (client_back server sizes setup (c ∷ []) t law))

  pub cons_are_requests : (t : List Call) → ClientLaw server sizes setup t → ConsAreRequests server sizes setup t
  cons_are_requests [] law con h = absurd h
  cons_are_requests (c ∷ t) law con h = elim (Ever_append (λ b. begun b ≡ Some con) (call_adds server sizes setup t c)
      (layer_of server sizes setup t) (subst (Ever (λ b. begun b ≡ Some con)) (layer_next t c) h)) [
        | inl now ↦ (let k = begins_now t c law con now in (k.sending, inl k.sends_it, k.is))
        | inr before ↦ (let k = cons_are_requests t (client_back server sizes setup (c ∷ []) t law) con before
            in (k.0, inr k.1, k.2))
      ]
