-- What the server's side hands up is what the datagram spells.
use Rattle.std.proofs.Common.{◌≡◌, ℕ, true, Some, List, [], ◌∷◌, ap, sym, subst, ◌∙◌}
use Rattle.coap_types.specs.declared.endpoint.Endpoint.{Endpoint}
use Rattle.coap_codec.specs.Message.{Message, Spells}
use Rattle.coap_layer.specs.Machine.State as L
use Rattle.coap_layer.specs.Machine.Steps.{Steps}
use Rattle.coap_layer.specs.Trace as T
use Rattle.coap_exchange.specs.declared.answerer.Asked.{Asked}
use Rattle.coap_exchange.specs.AnswererTrace.{Own, Call, Incoming}
use Rattle.coap_exchange.specs.AnswererSteps.{lower, asked_of, handed_up, reject_by}
use Rattle.coap_exchange.specs.AnswererLaw.{own_of, lower_of, AnswererLaw}
use Rattle.coap_exchange.specs.AnswererFollows.{AreRequests}
use Rattle.coap_exchange.specs.AskerRequests.{asked}
use Rattle.coap_exchange.specs.AskerArrivals.{id_in, replying}
use Rattle.coap_layer.proofs.Facts.StepsOfLayer.{steps_split}
use Rattle.coap_layer.specs.Machine.Calls.{message_in}
use Rattle.coap_layer.proofs.Facts.HandedUp.{spelled}
use Rattle.coap_layer.specs.declared.setup.Setup.{Setup}

abbrev IsOf : Endpoint → Asked → Message → T.Answer → Type 0
IsOf from a m up = (a ≡ asked_of from m) × (message_in up ≡ Some m)

pair_of : (from : Endpoint) (up : T.Answer) (a : Asked) (m : Message) → Some (a, m) ≡ handed_up from up
    → IsOf from a m up
pair_of from (T.Becomes (T.Request n true)) a m h =
    let p : ◌≡◌ {A = Asked × Message} (a, m) (asked_of from n, n) = cc h in
    let same : m ≡ n = ap (λ (q : Asked × Message). q.1) p in
    (ap (λ (q : Asked × Message). q.0) p ∙ ap (asked_of from) (sym same), ap (λ x. Some x) (sym same))
pair_of from _ a m h = absurd (cc h)

came : (setup : Setup) (t : List Call) (now : ℕ) (from : Endpoint) (bytes : List ℕ) (up : T.Answer) (a : Asked)
    (m : Message)
    → AnswererLaw (Incoming now from bytes up (Some (a, m)) ∷ t)
    → (h : L.State) → Steps (L.start setup) (lower_of (Incoming now from bytes up (Some (a, m)) ∷ t)) h
    → (a ≡ asked_of from m) × Spells bytes m
came setup t now from bytes up a m law h steps =
    let s : Own = own_of t in
    let parts = steps_split (L.start setup) h (lower s (Incoming now from bytes up (Some (a, m)))) (lower_of t) steps in
    let first = steps_split parts.0 h (replying from (id_in up) (reject_by up))
    (asked now (T.Receive from bytes) up ∷ []) parts.2 in
    let p = pair_of from up a m law.0 in
    (p.0, spelled first.1.0 first.0 now from bytes up m first.1.2 p.1)

pub came_in : (setup : Setup) (t : List Call) → AnswererLaw t → (h : L.State) → Steps (L.start setup) (lower_of t) h
    → AreRequests t
came_in setup [] law h steps = tt
came_in setup (c ∷ t) law h steps =
    let parts = steps_split (L.start setup) h (lower (own_of t) c) (lower_of t) steps in (
      record {
        came = λ now from bytes up a m is. came setup t now from bytes up a m (subst (λ d. AnswererLaw (d ∷ t)) is law)
            h
            (subst (λ d. Steps (L.start setup) (lower_of (d ∷ t)) h) is steps);
      },
      came_in setup t law.1 parts.0 parts.1,
    )
