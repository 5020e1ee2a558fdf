-- Where one observation runs alone, what is asked under the token of its registration asks for its path, without Block2
-- (RFC 7641, sections 2 and 3.6).
use Rattle.std.proofs.Common.{◌≡◌, ◌⊎◌, inl, inr, ℕ, ◌==◌, Bool, true, false, cond, Some, None, List, [], ◌∷◌, ◌++◌}
use Rattle.std.proofs.Common.{map, refl, ap, sym, subst, ◌∙◌}
use Rattle.std.specs.List.{filter}
use Rattle.coap_types.specs.CoapOption.{CoapOption, option}
use Rattle.coap_types.specs.OptionValues.{value_of, uint_in}
use Rattle.coap_types.specs.Recognised.{is_recognised, placed, recognised}
use Rattle.coap_types.specs.RequestPath.{path_of}
use Rattle.coap_types.specs.Uint.{uint}
use Rattle.coap_types.specs.declared.direction.Direction.TheVariants.{Request}
use Rattle.coap_types.specs.declared.option_number.TheConstants.{OBSERVE as observe, BLOCK2 as block2}
use Rattle.coap_exchange.specs.AskerTrace as E
use Rattle.coap_resource.specs.RequestOptions.{block_of, block_said}
use Rattle.coap_client_laws.specs.Follows.Begins.{WasSent}
use Rattle.coap_client_laws.specs.Follows.Notified.{WasRegistered}
use Rattle.coap_client_laws.specs.Follows.OfObservations.{Observed, observation_for}
use Rattle.coap_client_laws.specs.Follows.Tokens.{Deregisters}
use Rattle.coap_client.specs.Sendings.{Sending}
use Rattle.coap_client.specs.Observations.{observed_path}
use Rattle.coap_client.specs.Own.{Registering, Cancelling, Observation}
use Rattle.coap_client.specs.Requests.{path_options, message_of}
use Rattle.coap_client_laws.proofs.Facts.Laws as client_facts
use Rattle.coap_smooth.specs.Current.{Alone}
use Rattle.coap_record.specs.Events.{Config}
use Rattle.coap_record.specs.Record.{Entry, client_of}
use Rattle.coap_promise.proofs.Facts.Delivery.EntriesInTime.{Every}
use Rattle.coap_promise.proofs.Facts.Reports.OfObservations.{of_observation, one_of_observation}
use Rattle.coap_promise.proofs.Facts.Requests.OfACall.{Lawful}
use Rattle.coap_smooth.proofs.Smoothly.Answers.ConsCarry.{was_message}
use Rattle.coap_smooth.proofs.Watching.Requests.SentForOne.{one_observed}
use Rattle.coap_promise.proofs.Facts.Requests.AtAnyTime.{at_any_time}

-- options of other numbers

abbrev IsOther : ℕ → CoapOption → Type 0
IsOther number o = (o.number == number) ≡ false

none_kept : (number : ℕ) (P : List CoapOption × CoapOption → Bool) (earlier os : List CoapOption)
    → Every (IsOther number) os → value_of number (map (λ p. p.1) (filter P (placed earlier os))) ≡ None
none_kept number P earlier [] h = refl
none_kept number P earlier (o ∷ os) h =
    by (P (earlier, o)) (filter P (placed (earlier ++ o ∷ []) os)) (none_kept number P (earlier ++ o ∷ []) os h.1)
  where
    by : (b : Bool) (rest : List (List CoapOption × CoapOption)) → value_of number (map (λ p. p.1) rest) ≡ None
        → value_of number (map (λ p. p.1) (cond b ((earlier, o) ∷ rest) rest)) ≡ None
    by true rest k = ap (λ b. cond b (Some o.value) (value_of number (map (λ p. p.1) rest))) h.0 ∙ k
    by false rest k = k

none_recognised : (number : ℕ) (os : List CoapOption) → Every (IsOther number) os
    → value_of number (recognised Request os) ≡ None
none_recognised number os h = none_kept number (λ p. is_recognised Request p.0 p.1) [] os h

segments : (path : List (List ℕ)) → Every (IsOther block2) (path_options path)
segments [] = tt
segments (s ∷ path) = (refl, segments path)

observing : (value : List ℕ) (path : List (List ℕ)) → Every (IsOther block2) (option observe value ∷ path_options path)
observing value path = (refl, segments path)

module _ (config : Config) (all : List Entry) (law : Lawful config all) (x : Observed) (alone : Alone x (client_of all))
    (token : List ℕ) (registered : WasRegistered config.client_sizes x.number token (client_of all)) where
  -- it registers, or cancels
  abbrev Either : Sending → Type 0
  Either y = ((number : ℕ) × (path : List (List ℕ)) × (y.operation ≡ Registering number path))
      ⊎ ((number : ℕ) × (y.operation ≡ Cancelling number))

  either : (y : Sending) → WasSent config.client_sizes y (client_of all) → y.token ≡ token → Either y
  either y sent same =
      by (client_facts.tokens config.addresses.server config.client_sizes config.client_setup (client_of all) law.client
      y
      registered.sending sent registered.sent (same ∙ sym registered.token_is))
    where
      by : (y ≡ registered.sending) ⊎ (Deregisters y registered.sending ⊎ Deregisters registered.sending y) → Either y
      by (inl e) = inl (x.number, registered.path, ap (λ (z : Sending). z.operation) e ∙ registered.registers)
      by (inr (inl d)) = inl (d.number, d.path, d.registers)
      by (inr (inr d)) = inr (d.number, d.cancels)

  no_block : (y : Sending) (os : List Observation) → y.request ≡ message_of os y.operation → Either y
      → Every (IsOther block2) y.request.options
  no_block y os is (inl k) =
      subst (λ (r : E.Request). Every (IsOther block2) r.options) (sym (is ∙ ap (message_of os) k.2))
      (observing (uint 0) k.1)
  no_block y os is (inr k) =
      subst (λ (r : E.Request). Every (IsOther block2) r.options) (sym (is ∙ ap (message_of os) k.1))
      (observing (uint 1) (observed_path k.0 os))

  pub record AsksAlone (y : Sending) : Type 0 where
    pub path : path_of y.request.options ≡ x.path
    pub none : block_of (recognised Request y.request.options) ≡ None

  pub asks_alone : (y : Sending) → WasSent config.client_sizes y (client_of all) → y.token ≡ token → AsksAlone y
  asks_alone y sent same =
      let mine = one_of_observation config all (at_any_time law) y registered.sending x.number sent registered.sent
      (ap observation_for registered.registers) (same ∙ sym registered.token_is) in
      let k = of_observation config x.number y all (at_any_time law) sent mine in
      let one = one_observed x (record { number = x.number; path = k.path }) (client_of all) alone k.observed in
      let m = was_message config.client_sizes y (client_of all) sent in
      record {
        path = k.asks ∙ ap (λ (z : Observed). z.path) one;
        none = ap (λ v. block_said (uint_in v))
            (none_recognised block2 y.request.options (no_block y m.observations m.is (either y sent same)));
      }
