-- What the client's side tells came from the server, and is what the datagram spells.
use Rattle.std.proofs.Common.{◌≡◌, ℕ, Bool, true, Option, Some, None, List, [], ◌∷◌, refl, ap, sym, subst, ◌∙◌}
use Rattle.coap_types.specs.declared.endpoint.Endpoint.{Endpoint}
use Rattle.coap_types.specs.SameEndpoint.{same_endpoint}
use Rattle.coap_codec.specs.Message.{Message, Spells}
use Rattle.coap_layer.specs.Machine.State as L
use Rattle.coap_layer.specs.Machine.Steps.{Steps}
use Rattle.coap_layer.specs.Trace as T
use Rattle.coap_exchange.specs.declared.asker.Event.{Event}
use Rattle.coap_exchange.specs.declared.asker.Event.TheVariants as event
use Rattle.coap_exchange.specs.declared.matching.Verdict.{Verdict}
use Rattle.coap_exchange.specs.declared.matching.Verdict.TheVariants.{AnswerCon, Answer}
use Rattle.coap_exchange.specs.declared.matching.Verdict.TheVariants.{NoticeCon, Notice, EndByReset}
use Rattle.coap_exchange.specs.AskerTrace.{Request, Own, Call, Ask, Receive}
use Rattle.coap_exchange.specs.AskerSteps.{after, lower}
use Rattle.coap_exchange.specs.AskerRequests.{asked, opened, opening_of, sent_as}
use Rattle.coap_exchange.specs.AskerArrivals.{told, verdict_on, acts}
use Rattle.coap_exchange.specs.AskerLaw.{own_of, lower_of, AskerLaw}
use Rattle.coap_exchange.specs.AskerFollows.{carried, AreFromServer}
use Rattle.coap_layer.proofs.Facts.StepsOfLayer.{steps_split}
use Rattle.coap_layer.specs.Machine.Calls.{message_in}
use Rattle.coap_layer.proofs.Facts.HandedUp.{spelled}
use Rattle.coap_exchange.proofs.Facts.Verdicts.{Fits, verdict_fits}
use Rattle.coap_layer.specs.declared.setup.Setup.{Setup}

opened_server : (s : Own) (r : Request) (o : Option ℕ) → (opened s r o).server ≡ s.server
opened_server s r None = refl
opened_server s r (Some id) = refl

after_server : (s : Own) (c : Call) → (after s c).server ≡ s.server
after_server s (Ask now r word below answer) = opened_server s r (sent_as (opening_of s r) below)
after_server s _ = refl

pub server_is : (server : Endpoint) (setup : Setup) (t : List Call) → (own_of server setup t).server ≡ server
server_is server setup [] = refl
server_is server setup (c ∷ t) = after_server (own_of server setup t) c ∙ server_is server setup t

-- the response that is told was handed up, and came from there
module _ (s : Own) (now : ℕ) (from : Endpoint) (bytes : List ℕ) (up : T.Answer) (settled : Bool) (answer : Option Event)
    (m : Message) where
  abbrev told_in : Option Event → Option Message
  told_in a = carried (Receive now from bytes up settled a)

  abbrev Comes : Type 0
  Comes = (same_endpoint from s.server ≡ true) × (message_in up ≡ Some m)

  none_told : (a : Option Event) → answer ≡ a → told_in a ≡ None → told_in answer ≡ Some m → Comes
  none_told a is none h = let e : told_in answer ≡ None = ap told_in is ∙ none in absurd (cc (e, h))

  one_told : (a : Option Event) (n : Message) → answer ≡ a → told_in a ≡ Some n → same_endpoint from s.server ≡ true
      → up ≡ T.Becomes (T.Response n) → told_in answer ≡ Some m → Comes
  one_told a n is one there up_is h =
      let e : Some n ≡ Some m = sym (ap told_in is ∙ one)
      ∙ h in let same : n ≡ m = cc e in (there, ap message_in up_is ∙ ap (λ x. Some x) same)

  comes : (v : Verdict) → Fits s from up v → answer ≡ told v up → told_in answer ≡ Some m → Comes
  comes EndByReset f right h = none_told (Some event.Reset) right refl h
  comes AnswerCon f right h = one_told (Some (event.Answer f.message)) f.message
      (right ∙ ap (told AnswerCon) f.is) refl f.there f.is h
  comes Answer f right h = one_told (Some (event.Answer f.message)) f.message
      (right ∙ ap (told Answer) f.is) refl f.there f.is h
  comes NoticeCon f right h = one_told (Some (event.Notice f.message)) f.message
      (right ∙ ap (told NoticeCon) f.is) refl f.there f.is h
  comes Notice f right h = one_told (Some (event.Notice f.message)) f.message
      (right ∙ ap (told Notice) f.is) refl f.there f.is h
  comes _ f right h = none_told None right refl h

module _ (server : Endpoint) (setup : Setup) where
  came : (t : List Call) (now : ℕ) (from : Endpoint) (bytes : List ℕ) (up : T.Answer) (settled : Bool)
      (answer : Option Event) (m : Message) → AskerLaw server setup (Receive now from bytes up settled answer ∷ t)
      → (h : L.State) → Steps (L.start setup) (lower_of server setup (Receive now from bytes up settled answer ∷ t)) h
      → carried (Receive now from bytes up settled answer) ≡ Some m
      → (same_endpoint from server ≡ true) × Spells bytes m
  came t now from bytes up settled answer m law h steps told_is =
      let s : Own = own_of server setup t in
      let parts = steps_split (L.start setup) h (lower s (Receive now from bytes up settled answer))
      (lower_of server setup t) steps in
      let first = steps_split parts.0 h (acts s from up settled (verdict_on s from up))
      (asked now (T.Receive from bytes) up ∷ []) parts.2 in
      let k = comes s now from bytes up settled answer m (verdict_on s from up)
      (verdict_fits s from up) law.0 told_is in (
        subst (λ e. same_endpoint from e ≡ true) (server_is server setup t) k.0,
        spelled first.1.0 first.0 now from bytes up m first.1.2 k.1,
      )

  pub came_from : (t : List Call) → AskerLaw server setup t → (h : L.State)
      → Steps (L.start setup) (lower_of server setup t) h → AreFromServer server t
  came_from [] law h steps = tt
  came_from (c ∷ t) law h steps =
      let parts = steps_split (L.start setup) h (lower (own_of server setup t) c) (lower_of server setup t) steps in (
        record {
          came = λ now from bytes up settled answer m is told_is.
              came t now from bytes up settled answer m (subst (λ d. AskerLaw server setup (d ∷ t)) is law) h
              (subst (λ d. Steps (L.start setup) (lower_of server setup (d ∷ t)) h) is steps)
              (sym (ap carried is) ∙ told_is);
        },
        came_from t law.1 parts.0 parts.1,
      )
