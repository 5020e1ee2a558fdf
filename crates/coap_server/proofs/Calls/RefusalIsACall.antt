-- A datagram that is taken, and the refusal of the request in it, is one call of the server.
use Rattle.std.proofs.Common.{◌≡◌, ℕ, max, true, Option, Some, List, [], ◌∷◌, refl, ap, subst, ◌∙◌}
use Rattle.coap_types.specs.declared.endpoint.Endpoint.{Endpoint}
use Rattle.coap_codec.specs.Message.{Message}
use Rattle.coap_layer.specs.Trace as L
use Rattle.coap_exchange.specs.declared.answerer.Asked.{Asked}
use Rattle.coap_exchange.specs.AnswererLaw as X
use Rattle.coap_exchange.specs.AnswererSteps as P
use Rattle.coap_exchange.specs.AnswererTrace as E
use Rattle.coap_exchange.proofs.Facts.ServerSide.{exchanged_join, exchanged_own}
use Rattle.coap_server.specs.Trace.{Own, Refuses}
use Rattle.coap_server.specs.Handling.{incoming}
use Rattle.coap_server.specs.Refusing.{is_error, refusal, refusing}
use Rattle.coap_server.specs.Steps.{exchanges_after}
use Rattle.coap_server.specs.Led.{State, exchanges_of, Step}

module _ (old mid new : State) (now : ℕ) (from : Endpoint) (bytes : List ℕ) (word code : ℕ) (up : L.Answer)
    (a : Asked) (m : Message) (response : Option ℕ) (below : L.Answer) where
  abbrev Refused : Type 0
  Refused = Step old (Refuses now from bytes word code up (a, m) response below) new

  refused_now : X.Step (exchanges_of old) (incoming old.own now from bytes up (Some (a, m))) (exchanges_of mid)
      → is_error code ≡ true → response ≡ refusal code m
      → mid.own ≡ record old.own { clock = max old.own.clock now; exchanges = mid.own.exchanges }
      → X.Exchanged (exchanges_of mid) (refusing a response below) (exchanges_of new)
      → new.own ≡ record mid.own { exchanges = new.own.exchanges; applied = [] } → Refused
  refused_now step error is kept asks left =
      let c : E.Call = incoming old.own now from bytes up (Some (a, m)) in
      let calls : List E.Call = refusing a response below in
      let under : new.own.exchanges ≡ exchanges_after (P.after old.own.exchanges c) calls =
      exchanged_own (exchanges_of mid) (exchanges_of new) calls asks
      ∙ ap (λ (e : E.Own). exchanges_after e calls) step.own_is in
      record {
        right = record { error = error; is = is };
        own_is =
            left ∙ ap (λ (o : Own). record o { exchanges = new.own.exchanges; applied = [] }) kept
            ∙ ap (λ (e : E.Own). record old.own { clock = max old.own.clock now; exchanges = e; applied = [] }) under;
        under = exchanged_join (exchanges_of old) (exchanges_of mid) (exchanges_of new) calls (c ∷ [])
            (exchanges_of old, refl, step) asks;
      }

  -- the same, as the code has it: of the moment that counts, and where a request was handed up
  pub refused_by : (at : ℕ) (came : Option (Asked × Message)) → at ≡ max old.own.clock now → came ≡ Some (a, m)
      → X.Step (exchanges_of old) (E.Incoming at from bytes up came) (exchanges_of mid) → is_error code ≡ true
      → response ≡ refusal code m → mid.own ≡ record old.own { clock = at; exchanges = mid.own.exchanges }
      → X.Exchanged (exchanges_of mid) (refusing a response below) (exchanges_of new)
      → new.own ≡ record mid.own { exchanges = new.own.exchanges; applied = [] } → Refused
  refused_by at came moment some step error is kept asks left =
      refused_now (subst (λ t. X.Step (exchanges_of old) (E.Incoming t from bytes up (Some (a, m))) (exchanges_of mid))
      moment (subst (λ z. X.Step (exchanges_of old) (E.Incoming at from bytes up z) (exchanges_of mid)) some step))
      error is (subst (λ t. mid.own ≡ record old.own { clock = t; exchanges = mid.own.exchanges }) moment kept) asks
      left
