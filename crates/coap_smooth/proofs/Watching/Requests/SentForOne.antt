-- What a client sends that takes on one observation alone registers that, or fetches for it (RFC 7641, sections 2 and
-- 3.6; RFC 7959, section 2.6).
use Rattle.std.proofs.Common.{◌≡◌, inl, inr, ℕ, true, false, Option, Some, None, List, [], ◌∷◌, refl, ap, sym, subst}
use Rattle.std.proofs.Common.{◌∙◌, Ok}
use Rattle.coap_types.specs.Past.{Ever, Always}
use Rattle.coap_types.specs.declared.endpoint.Endpoint.{Endpoint}
use Rattle.coap_layer.specs.declared.setup.Setup.{Setup}
use Rattle.coap_block.specs.Sizes.{Sizes}
use Rattle.coap_client_laws.specs.Follows.Answered.{IsSentFor}
use Rattle.coap_client_laws.specs.Follows.Begins.{WasSent}
use Rattle.coap_client_laws.specs.Follows.Clock.{moment_of}
use Rattle.coap_client_laws.specs.Follows.Live.{cancels}
use Rattle.coap_client_laws.specs.Follows.OfObservations.{Observed, observes, WasObserved, AsksFor, observation_for}
use Rattle.coap_client_laws.specs.Follows.OfObservations.{IsOfObservation}
use Rattle.coap_client_laws.specs.Follows.Open.{RunsSince}
use Rattle.coap_client_laws.specs.Follows.Order.{call_of}
use Rattle.coap_client.specs.Sendings.{Taken, takes, WasTaken, Sending, sends, last_sent}
use Rattle.coap_client.specs.Law.{ClientLaw, own_of}
use Rattle.coap_client.specs.Own.{Operation, Calling, Registering, Fetching, Cancelling, Dropped}
use Rattle.coap_client.specs.Trace.{Call, Calls, Observes, Cancels}
use Rattle.coap_client_laws.proofs.Facts.EachCall.{are_of_observations}
use Rattle.coap_client_laws.proofs.Facts.Exchanges.{open_runs}
use Rattle.coap_client_laws.proofs.Facts.Laws.{back, of_calls}
use Rattle.coap_client_laws.proofs.Facts.Watches.{cancels_are_taken}
use Rattle.coap_smooth.specs.Current.{is_taken, Alone}
use Rattle.coap_smooth.specs.NoticesTaken.{IsForIt}

abbrev IsIt : Observed → List Call → Call → Type 0
IsIt x past c = is_taken c ≡ true → (observes c ≡ Some x) × Always (λ before b. is_taken b ≡ false) past

-- so no call is taken, no other observation, and no cancel

call_here : (x : Observed) (y : Taken) (past : List Call) (c : Call) → IsIt x past c → takes c ≡ Some y → ⊥
call_here x y past (Calls now r (Ok n)) it h = let e : None ≡ Some x = (it refl).0 in cc e
call_here x y past _ it h = cc h

same_here : (x y : Observed) (past : List Call) (c : Call) → IsIt x past c → observes c ≡ Some y → y ≡ x
same_here x y past (Observes now path (Ok n)) it h = let e : Some y ≡ Some x = sym h ∙ (it refl).0 in cc e
same_here x y past _ it h = absurd (cc h)

cancel_here : (x : Observed) (k : ℕ) (past : List Call) (c : Call) → IsIt x past c → cancels c ≡ Some k → ⊥
cancel_here x k past (Cancels now n None) it h = let e : None ≡ Some x = (it refl).0 in cc e
cancel_here x k past _ it h = cc h

no_call : (x : Observed) (y : Taken) (t : List Call) → Alone x t → WasTaken y t → ⊥
no_call x y [] alone h = h
no_call x y (c ∷ t) alone (inl h) = call_here x y t c alone.0 h
no_call x y (c ∷ t) alone (inr h) = no_call x y t alone.1 h

pub one_observed : (x y : Observed) (t : List Call) → Alone x t → WasObserved y t → y ≡ x
one_observed x y [] alone h = absurd h
one_observed x y (c ∷ t) alone (inl h) = same_here x y t c alone.0 h
one_observed x y (c ∷ t) alone (inr h) = one_observed x y t alone.1 h

pub no_cancel : (x : Observed) (k : ℕ) (t : List Call) → Alone x t → Ever (λ c. cancels c ≡ Some k) t → ⊥
no_cancel x k [] alone h = h
no_cancel x k (c ∷ t) alone (inl h) = cancel_here x k t c alone.0 h
no_cancel x k (c ∷ t) alone (inr h) = no_cancel x k t alone.1 h

-- for what a request was sent that is the last, by what runs

cancels_it : (op : Operation) (s : Sending) (k : ℕ) → IsSentFor op s → s.operation ≡ Cancelling k → op ≡ Cancelling k
cancels_it (Cancelling n) s k f is = sym f ∙ is
cancels_it (Calling n r t) s k f is = let e : Calling n r t ≡ Cancelling k = sym f ∙ is in absurd (cc e)
cancels_it (Registering n path) s k f is = let e : Registering n path ≡ Cancelling k = sym f ∙ is in absurd (cc e)
cancels_it (Fetching n) s k f is = let e : Fetching n ≡ Cancelling k = sym f ∙ is in absurd (cc e)
cancels_it Dropped s k f is = let e : Fetching f.0 ≡ Cancelling k = sym f.1 ∙ is in absurd (cc e)

none_dropped : (op : Operation) (s : Sending) → IsSentFor op s → s.operation ≡ Dropped → ⊥
none_dropped (Cancelling n) s f is = let e : Cancelling n ≡ Dropped = sym f ∙ is in cc e
none_dropped (Calling n r t) s f is = let e : Calling n r t ≡ Dropped = sym f ∙ is in cc e
none_dropped (Registering n path) s f is = let e : Registering n path ≡ Dropped = sym f ∙ is in cc e
none_dropped (Fetching n) s f is = let e : Fetching n ≡ Dropped = sym f ∙ is in cc e
none_dropped Dropped s f is = let e : Fetching f.0 ≡ Dropped = sym f.1 ∙ is in cc e

module _ (server : Endpoint) (sizes : Sizes) (setup : Setup) (x : Observed) where
  -- it is sent for the observation, behind that was taken
  pub record SentForIt (s : Sending) (t : List Call) : Type 0 where
    pub for_it : IsForIt x s.operation
    pub taken : WasObserved x t

  sent_here : (t : List Call) (c : Call) → ClientLaw server sizes setup (c ∷ t) → Alone x (c ∷ t) → (s : Sending)
      → sends (own_of sizes t) c ≡ Some s → SentForIt s (c ∷ t)
  sent_here t c law alone s h = by s.operation refl
    where
      of_its : (k : ℕ) → observation_for s.operation ≡ Some k → IsOfObservation sizes k s t
      of_its k is = (are_of_observations sizes server setup (c ∷ t) law).0 s k h is

      same : (k : ℕ) (o : IsOfObservation sizes k s t) → record { number = k; path = o.path } ≡ x
      same k o = one_observed x (record { number = k; path = o.path }) t alone.1 o.taken

      was : (k : ℕ) → IsOfObservation sizes k s t → WasObserved x (c ∷ t)
      was k o = inr (subst (λ y. WasObserved y t) (same k o) o.taken)

      -- what runs behind this call was sent for
      runs : RunsSince server sizes setup (moment_of (own_of sizes t) c) (c ∷ t)
      runs = (open_runs server sizes setup (c ∷ t) law).runs (moment_of (own_of sizes t) c)
          (inl (record { sending = s; sends_it = h; moment = refl }))

      sent_for : IsSentFor runs.operation s
      sent_for =
          let last : last_sent sizes (c ∷ t) ≡ Some s =
          ap (λ (o : Option Sending). elim o as (λ w. Option Sending) [ Some y ↦ Some y | None ↦ last_sent sizes t ])
          h in
          let both : Some runs.sending ≡ Some s = sym runs.last_sent ∙ last in
          let one : runs.sending ≡ s = cc both in
          subst (IsSentFor runs.operation) one runs.sent_for

      by : (op : Operation) → s.operation ≡ op → SentForIt s (c ∷ t)
      by (Calling k r tr) is =
          let z = (of_calls sizes (c ∷ t)).0 s k h (ap call_of is) in
          absurd (no_call x (record { number = k; request = z.request }) t alone.1 z.taken)
      by (Registering k p) is =
          let o = of_its k (ap observation_for is) in
          let asks : AsksFor sizes (Registering k p) o.path s t =
          subst (λ op. AsksFor sizes op o.path s t) is o.asks in
          record {
            for_it = inl (is ∙ (ap (λ q. Registering k q) asks.0 ∙ ap (λ (z : Observed). Registering z.number z.path)
                (same k o)));
            taken = was k o;
          }
      by (Fetching k) is =
          let o = of_its k (ap observation_for is) in
          record {
            for_it = inr (is ∙ ap (λ (z : Observed). Fetching z.number) (same k o));
            taken = was k o;
          }
      by (Cancelling k) is =
          let op = cancels_it runs.operation s k sent_for is in
          absurd (no_cancel x k (c ∷ t) alone
          (cancels_are_taken sizes server setup (c ∷ t) law k (runs.operates ∙ ap (λ o. Some o) op)))
      by Dropped is = absurd (none_dropped runs.operation s sent_for is)

  pub sent_for_it : (t : List Call) → ClientLaw server sizes setup t → Alone x t → (s : Sending) → WasSent sizes s t
      → SentForIt s t
  sent_for_it [] law alone s h = absurd h
  sent_for_it (c ∷ t) law alone s (inl h) = sent_here t c law alone s h
  sent_for_it (c ∷ t) law alone s (inr h) =
      let k = sent_for_it t (back server sizes setup (c ∷ []) t law) alone.1 s h in
      record { for_it = k.for_it; taken = inr k.taken }
