-- What is served for the client where it observes alone: its registration, of the path, and no GET with Observe 1 (RFC
-- 7641, sections 2 and 3.6).
use Rattle.std.proofs.Common.{◌≡◌, ◌⊎◌, ◌==◌, ◌&&◌, inl, inr, ℕ, Bool, true, false, cond, Option, Some, None, List, []}
use Rattle.std.proofs.Common.{◌∷◌, ◌++◌}
use Rattle.std.proofs.Common.{map, refl, ap, sym, subst, ◌∙◌}
use Rattle.std.specs.List.{filter}
use Rattle.coap_types.specs.CoapOption.{CoapOption, option}
use Rattle.coap_types.specs.OptionValues.{value_of, uint_at, uint_in}
use Rattle.coap_types.specs.Recognised.{is_recognised, placed, recognised}
use Rattle.coap_types.specs.Uint.{uint}
use Rattle.coap_types.specs.declared.direction.Direction.TheVariants as direction
use Rattle.coap_types.specs.declared.option_number.TheConstants.{OBSERVE as observe}
use Rattle.coap_resource.specs.Serves.{Question}
use Rattle.coap_client_laws.specs.Follows.OfObservations.{Observed}
use Rattle.coap_client.specs.Own.{Registering, Fetching}
use Rattle.coap_client.specs.Requests.{path_options, block2_option, message_of}
use Rattle.coap_exchange.specs.AskerTrace as E
use Rattle.coap_server.specs.Follows.Serves.{Serving}
use Rattle.coap_server.specs.Observers.{observes, is_number, is_get}
use Rattle.coap_record.specs.Events.{Config}
use Rattle.coap_record.specs.Record.{Entry, client_of}
use Rattle.coap_promise.proofs.Facts.Delivery.EntriesInTime.{Every, every_join}
use Rattle.coap_smooth.proofs.Smoothly.Answers.ConsCarry.{was_message}
use Rattle.coap_smooth.specs.NoticesTaken.{IsRequestOfIt}

-- it is no Observe, or Observe 0; or it is none
abbrev IsZero : CoapOption → Type 0
IsZero o = (o.number == observe) ≡ true → o.value ≡ uint 0

abbrev IsOther : CoapOption → Type 0
IsOther o = (o.number == observe) ≡ false

kept : (Q : CoapOption → Type 0) (P : List CoapOption × CoapOption → Bool) (earlier os : List CoapOption) → Every Q os
    → Every Q (map (λ p. p.1) (filter P (placed earlier os)))
kept Q P earlier [] h = tt
kept Q P earlier (o ∷ os) h =
    by (P (earlier, o)) (filter P (placed (earlier ++ o ∷ []) os)) (kept Q P (earlier ++ o ∷ []) os h.1)
  where
    by : (b : Bool) (rest : List (List CoapOption × CoapOption)) → Every Q (map (λ p. p.1) rest)
        → Every Q (map (λ p. p.1) (cond b ((earlier, o) ∷ rest) rest))
    by true rest k = (h.0, k)
    by false rest k = k

others : (n : ℕ) → (n == observe) ≡ false → (vs : List (List ℕ)) → Every IsOther (map (option n) vs)
others n other [] = tt
others n other (v ∷ vs) = (other, others n other vs)

zeros : (n : ℕ) → (n == observe) ≡ false → (vs : List (List ℕ)) → Every IsZero (map (option n) vs)
zeros n other [] = tt
zeros n other (v ∷ vs) = (λ h. absurd (let z = sym h ∙ other in cc z), zeros n other vs)

block_other : (o : Option _) → Every IsOther (block2_option o)
block_other None = tt
block_other (Some a) = (refl, tt)

none_there : (os : List CoapOption) → Every IsOther os → value_of observe os ≡ None
none_there [] h = refl
none_there (o ∷ os) h = ap (λ b. cond b (Some o.value) (value_of observe os)) h.0 ∙ none_there os h.1

zero_there : (os : List CoapOption) → Every IsZero os
    → (value_of observe os ≡ None) ⊎ (value_of observe os ≡ Some (uint 0))
zero_there [] h = inl refl
zero_there (o ∷ os) h = by (o.number == observe) refl (zero_there os h.1)
  where
    by : (b : Bool) → (o.number == observe) ≡ b
        → (value_of observe os ≡ None) ⊎ (value_of observe os ≡ Some (uint 0))
        → (cond (o.number == observe) (Some o.value) (value_of observe os) ≡ None)
        ⊎ (cond (o.number == observe) (Some o.value) (value_of observe os) ≡ Some (uint 0))
    by true is rest = inr (ap (λ b. cond b (Some o.value) (value_of observe os)) is ∙ ap (λ v. Some v) (h.0 is))
    by false is (inl k) = inl (ap (λ b. cond b (Some o.value) (value_of observe os)) is ∙ k)
    by false is (inr k) = inr (ap (λ b. cond b (Some o.value) (value_of observe os)) is ∙ k)

-- a GET with this value of Observe has it among the options
observes_not : (n : ℕ) (q : Question) (v : Option (List ℕ)) → value_of observe q.options ≡ v
    → is_number n (uint_in v) ≡ false → observes n q ≡ true → ⊥
observes_not n q v is other h = by (is_get q.method) h
  where
    by : (b : Bool) → (b && is_number n (uint_at observe q.options)) ≡ true → ⊥
    by true z = let k = sym z ∙ (ap (λ w. is_number n (uint_in w)) is ∙ other) in cc k
    by false z = cc z

module _ (config : Config) (x : Observed) (s : Serving) (older : List Entry) (k : IsRequestOfIt config x older s) where
  -- a fetch has no Observe
  no_fetch : k.sending.operation ≡ Fetching x.number → (n : ℕ) → observes n s.question ≡ true → ⊥
  no_fetch op n h =
      let w = was_message config.client_sizes k.sending (client_of older) k.sent in
      let options : k.sending.request.options ≡ (message_of w.observations (Fetching x.number)).options =
      ap (λ (r : E.Request). r.options) (w.is ∙ ap (message_of w.observations) op) in
      let other : Every IsOther (recognised direction.Request k.sending.request.options) =
      kept IsOther (λ p. is_recognised direction.Request p.0 p.1) [] k.sending.request.options
      (subst (Every IsOther) (sym options)
      (every_join IsOther (path_options _) (block2_option _) (others _ refl _) (block_other _))) in
      observes_not n s.question None (ap (value_of observe) k.options_are ∙ none_there _ other) refl h

  -- a registration has Observe 0
  pub no_cancel : observes 1 s.question ≡ true → ⊥
  no_cancel h = by k.for_it
    where
      by : (k.sending.operation ≡ Registering x.number x.path) ⊎ (k.sending.operation ≡ Fetching x.number) → ⊥
      by (inr op) = no_fetch op 1 h
      by (inl op) =
          let w = was_message config.client_sizes k.sending (client_of older) k.sent in
          let options : k.sending.request.options ≡ option observe (uint 0) ∷ path_options x.path =
          ap (λ (r : E.Request). r.options) (w.is ∙ ap (message_of w.observations) op) in
          let zero : Every IsZero (recognised direction.Request k.sending.request.options) =
          kept IsZero (λ p. is_recognised direction.Request p.0 p.1) [] k.sending.request.options
          (subst (Every IsZero) (sym options) (λ z. refl, zeros _ refl x.path)) in
          elim (zero_there (recognised direction.Request k.sending.request.options) zero) [
            | inl none ↦ observes_not 1 s.question None (ap (value_of observe) k.options_are ∙ none) refl h
            | inr some ↦ observes_not 1 s.question (Some (uint 0)) (ap (value_of observe) k.options_are ∙ some) refl h
          ]
