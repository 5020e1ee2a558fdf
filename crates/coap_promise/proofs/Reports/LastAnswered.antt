-- Where a call fails by the answer to its request that was sent last, its last request is that one.
use Rattle.std.proofs.Common.{◌≡◌, inl, inr, ℕ, true, Option, Some, None, List, [], ◌∷◌, refl, sym, ◌∙◌}
use Rattle.coap_types.specs.Past.{Sometime}
use Rattle.coap_types.proofs.Facts.Traces.{Sometime_map}
use Rattle.coap_types.specs.declared.endpoint.Endpoint.{Endpoint}
use Rattle.coap_layer.specs.declared.setup.Setup.{Setup}
use Rattle.coap_block.specs.Sizes.{Sizes}
use Rattle.coap_client.specs.Trace.{Failed, Reported, Call}
use Rattle.coap_client.specs.Own.{Operation, Calling}
use Rattle.coap_client_laws.specs.Follows.Answered.{of_call, HasReport, IsFinal, NoneAfter}
use Rattle.coap_client_laws.specs.Follows.Begins.{WasSent}
use Rattle.coap_client.specs.Effects.{of}
use Rattle.coap_client.specs.Law.{own_of}
use Rattle.coap_client_laws.specs.Follows.Order.{call_of, is_last, AreInOrder}
use Rattle.coap_client.specs.Steps.{reports}
use Rattle.coap_client.specs.Sendings.{Sending, sends, last_sent}

of_it : (op : Operation) (k : ℕ) → call_of op ≡ Some k → of_call op ≡ Some k
of_it (Calling n r t) k h = h
of_it _ k h = absurd (cc h)

module _ (sizes : Sizes) where
  -- the failure of the call is reported here, by the answer to this request, which was sent last
  abbrev pub FailsBy : ℕ → ℕ → Sending → List Call → Call → Type 0
  FailsBy number code x past c = (reports (own_of sizes past) c ≡ of number (Failed code))
      × (last_sent sizes past ≡ Some x)

  module _ (server : Endpoint) (setup : Setup) (number code : ℕ) (x y : Sending)
      (first : call_of x.operation ≡ Some number)
      (second : call_of y.operation ≡ Some number) (final : is_last y.operation ≡ true) where
    -- the last request of the call is the one that was sent last
    sent_last : (t : List Call) → AreInOrder sizes t → last_sent sizes t ≡ Some x → WasSent sizes y t → y ≡ x
    sent_last [] law last was = absurd was
    sent_last (c ∷ t) law last was = by (sends (own_of sizes t) c) refl last was (λ l b. sent_last t law.1 l b)
      where
        by : (o : Option Sending) → sends (own_of sizes t) c ≡ o
            → elim o [ Some z ↦ Some z | None ↦ last_sent sizes t ] ≡ Some x → WasSent sizes y (c ∷ t)
            → (last_sent sizes t ≡ Some x → WasSent sizes y t → y ≡ x) → y ≡ x
        by (Some z) is last (inl now) earlier = let e : Some y ≡ Some x = sym now ∙ (is ∙ last) in cc e
        by (Some z) is last (inr before) earlier =
            absurd (law.0.none_behind y x number (is ∙ last) before second first final)
        by None is last (inl now) earlier = let e : Some y ≡ None = sym now ∙ is in absurd (cc e)
        by None is last (inr before) earlier = earlier last before

    reported : (t : List Call) → Sometime (FailsBy number code x) t → HasReport server sizes setup number t
    reported t h =
        Sometime_map (FailsBy number code x) (λ past c. (z : Reported) × (z.number ≡ number)
        × IsFinal server sizes setup past c z)
        (λ past c k. (record { number = number; report = Failed code }, refl, record { made = k.0; final = refl })) t h

    pub same_last : (t : List Call) → AreInOrder sizes t → NoneAfter server sizes setup t
        → Sometime (FailsBy number code x) t → WasSent sizes y t → y ≡ x
    same_last [] law after h was = absurd h
    same_last (c ∷ t) law after (inl h) (inl now) = let e : of number (Failed code) ≡ None = sym h.0
        ∙ law.0.none_with y now in absurd (cc e)
    same_last (c ∷ t) law after (inl h) (inr before) = sent_last t law.1 h.1 before
    same_last (c ∷ t) law after (inr h) (inl now) =
        absurd (after.0 y number now (of_it y.operation number second) (reported t h))
    same_last (c ∷ t) law after (inr h) (inr before) = same_last t law.1 after.1 h before
