-- Where nothing is observed each request has a token of its own.
use Rattle.std.proofs.Common.{◌≡◌, inl, inr, ℕ, Some, List, [], ◌∷◌, refl, ap, sym, ◌∙◌, Ok}
use Rattle.coap_types.specs.Past.{Always}
use Rattle.coap_exchange.specs.AskerTrace as A
use Rattle.coap_block.specs.Sizes.{Sizes}
use Rattle.coap_client_laws.specs.Follows.Begins.{WasSent}
use Rattle.coap_client_laws.specs.Follows.OfObservations.{Observed, observes, WasObserved, observation_for}
use Rattle.coap_client_laws.specs.Follows.OfObservations.{AreOfObservations}
use Rattle.coap_client.specs.Sendings.{Sending}
use Rattle.coap_client.specs.Own.{Operation, Registering, Fetching, Cancelling, Observation}
use Rattle.coap_client.specs.Requests.{message_of}
use Rattle.coap_client.specs.Trace as C
use Rattle.coap_smooth.specs.Smooth.{TakesNoObservation}
use Rattle.coap_smooth.proofs.Smoothly.Answers.AnswerEnds.{IsPlain}
use Rattle.coap_smooth.proofs.Smoothly.Answers.ConsCarry.{was_message}

none_here : (c : C.Call) (x : Observed) → TakesNoObservation c → observes c ≡ Some x → ⊥
none_here (C.Observes now path (Ok number)) x none h = none
none_here _ x none h = cc h

none_observed : (t : List C.Call) (x : Observed) → Always (λ past c. TakesNoObservation c) t → WasObserved x t → ⊥
none_observed [] x all h = h
none_observed (c ∷ t) x all (inl h) = none_here c x all.0 h
none_observed (c ∷ t) x all (inr h) = none_observed t x all.1 h

plain_by : (x : Sending) (op : Operation) (os : List Observation) → x.operation ≡ op → x.request ≡ message_of os op
    → ((number : ℕ) → observation_for op ≡ Some number → ⊥) → IsPlain x
plain_by x (Registering number path) os is message f = absurd (f number refl_some)
  where
    refl_some : Some number ≡ Some number
    refl_some = ap (λ (n : ℕ). Some n) (λ i. number)
plain_by x (Fetching number) os is message f = absurd (f number (λ i. Some number))
plain_by x (Cancelling number) os is message f = absurd (f number (λ i. Some number))
plain_by x _ os is message f =
    record { tokenless = ap (λ (q : A.Request). q.token) message; no_cancel = λ n h. (let k = sym is ∙ h in cc k) }

-- what is sent is of no observation
pub of_none : (sizes : Sizes) (x : Sending) (t : List C.Call) → AreOfObservations sizes t
    → Always (λ past c. TakesNoObservation c) t → WasSent sizes x t → (number : ℕ)
    → observation_for x.operation ≡ Some number → ⊥
of_none sizes x [] of none h number is = h
of_none sizes x (c ∷ t) of none (inr h) number is = of_none sizes x t of.1 none.1 h number is
of_none sizes x (c ∷ t) of none (inl h) number is =
    let o = of.0 x number h is in none_observed t (record { number = number; path = o.path }) none.1 o.taken

pub was_plain : (sizes : Sizes) (x : Sending) (t : List C.Call) → AreOfObservations sizes t
    → Always (λ past c. TakesNoObservation c) t → WasSent sizes x t → IsPlain x
was_plain sizes x t of none h =
    let m = was_message sizes x t h in
    plain_by x x.operation m.observations refl m.is (of_none sizes x t of none h)
