-- The registration that was sent of an observation which is not over runs, or that is live under its token (RFC 7641,
-- section 3.1).
use Rattle.std.proofs.Common.{◌≡◌, ◌⊎◌, inl, inr, ℕ, Some, List, [], ◌∷◌, ap, sym, subst, ◌∙◌, is_some, arith}
use Rattle.coap_types.specs.Past.{Ever}
use Rattle.coap_types.specs.declared.endpoint.Endpoint.{Endpoint}
use Rattle.coap_layer.specs.declared.setup.Setup.{Setup}
use Rattle.coap_block.specs.Sizes.{Sizes}
use Rattle.coap_exchange.specs.AskerLaw as X
use Rattle.coap_exchange.specs.declared.asker.Exchange.{Exchange}
use Rattle.coap_client_laws.specs.Follows.Answered.{HasReport, IsSentFor}
use Rattle.coap_client_laws.specs.Follows.Begins.{WasSent}
use Rattle.coap_client_laws.specs.Follows.Ended.{WasForgotten}
use Rattle.coap_client_laws.specs.Follows.Live.{IsLive, IsThere}
use Rattle.coap_client_laws.specs.Follows.OfObservations.{Observed, WasObserved}
use Rattle.coap_client.specs.Places.{in_op}
use Rattle.coap_client.specs.Sendings.{Sending}
use Rattle.coap_client.specs.Law.{ClientLaw, own_of, lower_of}
use Rattle.coap_client.specs.Own.{Operation, Registering}
use Rattle.coap_client.specs.Trace.{Call}
use Rattle.coap_client_laws.proofs.Sending.OpenSince.{open_runs}
use Rattle.coap_client_laws.proofs.Observing.AreThere.{are_there}
use Rattle.coap_client_laws.proofs.Observing.WatchedAs.{have_tokens}
use Rattle.coap_client.proofs.Facts.Places.Once.{beneath, known}
use Rattle.coap_client.proofs.Facts.Places.PlaceEffects.{Linked}
use Rattle.coap_client.proofs.Facts.Places.PlaceLemmas.{hit_self}
use Rattle.coap_client_laws.proofs.Sending.RegisteredOnce.{NoneOf, none_waits, registered_once}
use Rattle.coap_client_laws.proofs.Sending.LiveTokens.{last_was_sent}

not_among : (n : ℕ) (path : List (List ℕ)) (ops : List Operation) → NoneOf n ops
    → Ever (λ op. op ≡ Registering n path) ops → ⊥
not_among n path [] none h = h
not_among n path (op ∷ ops) none (inl h) =
    let a : in_op n (Registering n path) ≡ 0 = subst (λ o. in_op n o ≡ 0) h none.0 in
    let b = hit_self n in
    absurd (omega (arith, a, b))
not_among n path (op ∷ ops) none (inr h) = not_among n path ops none.1 h

module _ (server : Endpoint) (sizes : Sizes) (setup : Setup) where
  -- the exchange of this request is open
  pub record IsAwaited (s : Sending) (t : List Call) : Type 0 where
    pub exchange : Exchange
    pub runs : (X.own_of server setup (lower_of sizes t)).running ≡ Some exchange
    pub token : exchange.token ≡ s.token
    pub cancel : exchange.cancel ≡ is_some s.request.token
    pub operates : (own_of sizes t).running ≡ Some s.operation

  pub registered : (t : List Call) → ClientLaw server sizes setup t → (x : Observed) → WasObserved x t
      → (WasForgotten x.number t → ⊥) → (HasReport server sizes setup x.number t → ⊥) → (s : Sending)
      → WasSent sizes s t → s.operation ≡ Registering x.number x.path
      → IsAwaited s t ⊎ IsLive sizes x.number x.path s.token t
  registered t law x was kept none s sent op = by (are_there sizes server setup t law x was kept none)
    where
      one : (y : Sending) (p : List (List ℕ)) → WasSent sizes y t → y.operation ≡ Registering x.number p → y ≡ s
      one y p there is = registered_once server sizes setup t law y s x.number p x.path there sent is op

      by : IsThere sizes x.number x.path t → IsAwaited s t ⊎ IsLive sizes x.number x.path s.token t
      by (inl waits) = absurd (not_among x.number x.path (own_of sizes t).queue
          (none_waits sizes x.number server setup t law
          (record { sending = s; path = x.path; sent = sent; operation = op })) waits)
      by (inr (inl runs)) =
          let l : Linked (Some (Registering x.number x.path)) (own_of sizes t).observations
          (beneath server sizes setup t).running =
          subst (λ o. Linked o (own_of sizes t).observations (beneath server sizes setup t).running) runs
          (known server sizes setup t law.rows law.exchanges.rows).linked in
          let z = (open_runs server sizes setup t law).is_open l.0 l.1 in
          let k = z.2 in
          let both : Some k.operation ≡ Some (Registering x.number x.path) = sym k.operates ∙ runs in
          let same : k.operation ≡ Registering x.number x.path = cc both in
          let for : k.sending.operation ≡ Registering x.number x.path =
          subst (λ o. IsSentFor o k.sending) same k.sent_for in
          let it : k.sending ≡ s = one k.sending x.path (last_was_sent sizes t k.sending k.last_sent) for in
          inl (record {
            exchange = k.exchange;
            runs = k.runs;
            token = k.token ∙ ap (λ (y : Sending). y.token) it;
            cancel = k.cancel ∙ ap (λ (y : Sending). is_some y.request.token) it;
            operates = runs ∙ ap (λ o. Some o) (sym op);
          })
      by (inr (inr live)) =
          let w = have_tokens server sizes setup t law x.number x.path live.0 live.1 in
          let it : w.sending ≡ s = one w.sending w.path w.sent w.registers in
          let token : live.0 ≡ s.token = sym w.token_is ∙ ap (λ (y : Sending). y.token) it in
          inr (subst (λ k. IsLive sizes x.number x.path k t) token live.1)
