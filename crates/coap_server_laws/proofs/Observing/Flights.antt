-- Of what was told in a CON, that CON is outstanding or was acknowledged, whatever is called.
use Rattle.std.proofs.Common.{◌≡◌, ◌⊎◌, inl, inr, ℕ, zero, suc, Bool, true, false, Option, Some, None, List, [], ◌∷◌}
use Rattle.coap_types.specs.Past.{Ever}
use Rattle.coap_types.specs.declared.endpoint.Endpoint.{Endpoint}
use Rattle.coap_codec.specs.Message.{Message}
use Rattle.coap_layer.specs.Trace as L
use Rattle.coap_block.specs.Whole.{Each}
use Rattle.coap_observe.specs.Observers.{Observer}
use Rattle.coap_resource.specs.Serves.{Question}
use Rattle.coap_exchange.specs.declared.answerer.Asked.{Asked}
use Rattle.coap_exchange.specs.declared.answerer.Ended.{Ended}
use Rattle.coap_exchange.specs.declared.separate.Separate.{Separate}
use Rattle.coap_exchange.specs.AnswererTrace as E
use Rattle.coap_exchange.specs.AnswererSteps.{separate_after, separate_unless, reset_by, failed_by, may_defer}
use Rattle.coap_server.specs.Trace.{Own, Handling, Silent, Replies, Serves, Waits, Notifies, Call}
use Rattle.coap_server.specs.Refusing.{refusing}
use Rattle.coap_server.specs.Deferring.{deferral, deferral_by, delay_for}
use Rattle.coap_server.specs.Notifying.{readies}
use Rattle.coap_server.specs.Asks.{answering, notifies_by}
use Rattle.coap_server.specs.Steps.{exchanges_after}
use Rattle.coap_server.specs.Follows.Tells.{HearsAck, InCon, InNon, InReply, Telling, Way}
use Rattle.coap_server.proofs.Facts.Calls.EachOf.{each_join}
use Rattle.coap_server_laws.proofs.Observing.ConsAreAcknowledged.{Flying, arrival, turn, IsLater, later}

module _ (x : Telling) where
  abbrev pub E1 : Ended
  E1 = record { to = x.to; token = x.token; observe = true }

  -- its CON is outstanding, or was acknowledged
  abbrev pub FlightOf : Way → List Separate → List Call → Type 0
  FlightOf (InCon id) xs after = Flying x.to id x.token xs ⊎ Ever (HearsAck x.to id) after
  FlightOf _ xs after = Unit {0}

  pub flight_fed : (way : Way) (from : Endpoint) (up : L.Answer) (xs : List Separate) (after : List Call) (c : Call)
      → ((id : ℕ) → from ≡ x.to → up ≡ L.Becomes (L.Acked id) → HearsAck x.to id c) → FlightOf way xs after
      → FlightOf way (separate_after from up xs) (c ∷ after) ⊎ (reset_by from up xs ≡ Some E1)
  flight_fed InReply from up xs after c h f = inl tt
  flight_fed InNon from up xs after c h f = inl tt
  flight_fed (InCon id) from up xs after c h (inr k) = inl (inr (inr k))
  flight_fed (InCon id) from up xs after c h (inl f) =
      elim (arrival x.to id x.token from up xs f) [
        | inl g ↦ inl (inl g)
        | inr k ↦ elim k [ inl a ↦ inl (inr (inl (h id a.0 a.1))) | inr e ↦ inr e ]
      ]

  pub flight_ticked : (way : Way) (below : L.Answer) (xs : List Separate) (after : List Call) → FlightOf way xs after
      → FlightOf way (separate_unless below xs) after ⊎ (failed_by below xs ≡ Some E1)
  flight_ticked InReply below xs after f = inl tt
  flight_ticked InNon below xs after f = inl tt
  flight_ticked (InCon id) below xs after (inr k) = inl (inr k)
  flight_ticked (InCon id) below xs after (inl f) =
      elim (turn x.to id x.token below xs f) [ inl g ↦ inl (inl g) | inr e ↦ inr e ]

  pub flight_later : (way : Way) (s : E.Own) (cs : List E.Call) (after : List Call)
      → ((id : ℕ) → Each (IsLater x.to id x.token) cs) → FlightOf way s.separate after
      → FlightOf way (exchanges_after s cs).separate after
  flight_later InReply s cs after l f = tt
  flight_later InNon s cs after l f = tt
  flight_later (InCon id) s cs after l (inr k) = inr k
  flight_later (InCon id) s cs after l (inl f) = inl (later x.to id x.token s cs (l id) f)

  pub flight_more : (way : Way) (xs : List Separate) (after : List Call) (c : Call) → FlightOf way xs after
      → FlightOf way xs (c ∷ after)
  flight_more InReply xs after c f = tt
  flight_more InNon xs after c f = tt
  flight_more (InCon id) xs after c (inl f) = inl f
  flight_more (InCon id) xs after c (inr k) = inr (inr k)

  -- what is asked of the exchanges behind an arrival, and behind a tick
  module _ (id : ℕ) where
    abbrev pub Later : List E.Call → Type 0
    Later cs = Each (IsLater x.to id x.token) cs

    deferring_later : (o : Option ℕ) (place : Bool) (at : ℕ) (a : Asked) → Later (deferral_by o place at a)
    deferring_later None place at a = tt
    deferring_later (Some d) place at a = (tt, tt)

    deferral_later : (s : Own) (a : Asked) (q : Question) → Later (deferral s a q)
    deferral_later s a q = deferring_later (delay_for a.kind q.path s.delays) (may_defer s.exchanges.deferred) s.clock a

    pub refusing_later : (a : Asked) (response : Option ℕ) (below : L.Answer) → Later (refusing a response below)
    refusing_later a None below = tt
    refusing_later a (Some code) below = (tt, tt)

    pub readies_later : (at n : ℕ) (os : List Observer) → Later (readies at n os)
    readies_later at n [] = tt
    readies_later at zero (o ∷ os) = (tt, tt)
    readies_later at (suc n) (o ∷ os) = each_join (IsLater x.to id x.token) (readies at n os)
        (E.Ready at o.to false ∷ [])
        (readies_later at n os) (tt, tt)

    pub notifies_later : (plain : Bool) (at : ℕ) (o : Observer) (r : E.Response) (w n : ℕ)
        → IsLater x.to id x.token (notifies_by plain at o r w n)
    notifies_later true at o r w n = tt
    notifies_later false at o r w n = tt

    pub answering_later : (s : Own) (p : Asked × Message) (h : Handling) (below : L.Answer)
        → Later (answering s (Some p) h below)
    answering_later s p Silent below = tt
    answering_later s p (Replies r) below = (tt, tt)
    answering_later s p (Serves q reply left) below = (tt, deferral_later s p.0 q)
    answering_later s p (Waits q d) below = deferral_later s p.0 q
    answering_later s p (Notifies o reply) below = tt
