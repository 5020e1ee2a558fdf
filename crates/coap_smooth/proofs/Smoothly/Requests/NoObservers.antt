-- Where the client observes nothing, it is no observer at the server: the request of a call has no Observe.
use Rattle.std.proofs.Common.{◌≡◌, inl, inr, ℕ, ◌==◌, Bool, true, false, ◌&&◌, cond, Option, Some, None, List, [], ◌∷◌}
use Rattle.std.proofs.Common.{◌++◌, map, refl, ap, sym, subst, ◌∙◌}
use Rattle.std.specs.List.{filter}
use Rattle.coap_types.specs.BlockValue.{block_value}
use Rattle.coap_types.specs.CoapOption.{CoapOption, option}
use Rattle.coap_types.specs.OptionValues.{value_of, uint_at, uint_in, uint_option}
use Rattle.coap_types.specs.Past.{Always}
use Rattle.coap_types.specs.Recognised.{is_recognised, placed, recognised}
use Rattle.coap_types.specs.declared.direction.Direction.TheVariants as direction
use Rattle.coap_types.specs.Uint.{uint}
use Rattle.coap_types.specs.declared.option_number.TheConstants.{OBSERVE as observe, BLOCK1 as block1}
use Rattle.coap_types.specs.declared.request.Method.{Method}
use Rattle.coap_types.specs.declared.request.Method.TheVariants.{Get, Delete}
use Rattle.coap_block.specs.UploadStep.{UploadState, block_to_send}
use Rattle.coap_observe.specs.Observers.{Observer}
use Rattle.coap_resource.specs.Serves.{Question}
use Rattle.coap_client_laws.specs.Follows.OfObservations.{AreOfObservations, observation_for}
use Rattle.coap_client.specs.Sendings.{Sending}
use Rattle.coap_client.specs.Own.{Transfer, Fetches, Uploads, Single, Operation, Calling, Registering, Fetching}
use Rattle.coap_client.specs.Own.{Cancelling, Dropped, Observation}
use Rattle.coap_client.specs.Requests.{flag_option, path_options, before_path, after_path, block2_option, is_longer}
use Rattle.coap_client.specs.Requests.{block1_option, block_option, options_of, message_of}
use Rattle.coap_client.specs.Trace.{Request}
use Rattle.coap_server.specs.Follows.Observes.{WasMade}
use Rattle.coap_server.specs.Observers.{observes, is_number, is_get}
use Rattle.coap_record.specs.Events.{Config}
use Rattle.coap_record.specs.Record.{Entry, OfClient, OfServer, client_of, server_trace, settings}
use Rattle.coap_smooth.specs.Smooth.{TakesNoObservation}
use Rattle.coap_promise.proofs.Facts.Delivery.EntriesInTime.{Every, every_join}
use Rattle.coap_promise.proofs.Facts.Reports.AskedBy.{asked_by}
use Rattle.coap_promise.proofs.Facts.Requests.OfACall.{Lawful, lawful_back}
use Rattle.coap_smooth.proofs.Smoothly.Answers.ConsCarry.{IsMessage, was_message}
use Rattle.coap_smooth.proofs.Smoothly.Requests.PlainRequests.{of_none}
use Rattle.coap_promise.proofs.Facts.Reports.BegunWith.{none_made as none_begun}
use Rattle.coap_promise.proofs.Facts.Requests.AtAnyTime.{at_any_time}

abbrev IsOther : CoapOption → Type 0
IsOther o = (o.number == observe) ≡ false

abbrev AreOther : List CoapOption → Type 0
AreOther os = Every IsOther os

-- the options of the request of a call

mapped : (n : ℕ) → (n == observe) ≡ false → (vs : List (List ℕ)) → AreOther (map (option n) vs)
mapped n other [] = tt
mapped n other (v ∷ vs) = (other, mapped n other vs)

flagged : (n : ℕ) → (n == observe) ≡ false → (b : Bool) → AreOther (flag_option n b)
flagged n other true = (other, tt)
flagged n other false = tt

of_uint : (n : ℕ) → (n == observe) ≡ false → (o : Option ℕ) → AreOther (uint_option n o)
of_uint n other None = tt
of_uint n other (Some v) = (other, tt)

before : (m : Method) (r : Request) → AreOther (before_path m r)
before Get r = mapped _ refl r.etags
before _ r = every_join IsOther _ _ (mapped _ refl r.if_match) (flagged _ refl r.if_none_match)

after : (m : Method) (r : Request) → AreOther (after_path m r)
after Get r = of_uint _ refl r.accept
after Delete r = tt
after _ r = of_uint _ refl r.format

asks_block : (o : Option _) → AreOther (block2_option o)
asks_block None = tt
asks_block (Some a) = (refl, tt)

sends_block : (u : UploadState) → AreOther (block1_option u)
sends_block u = by (is_longer u)
  where
    by : (b : Bool) → AreOther (cond b (option block1 (uint (block_value (block_to_send u))) ∷ []) [])
    by true = (refl, tt)
    by false = tt

blocks : (t : Transfer) → AreOther (block_option t)
blocks (Fetches f) = asks_block f.asked
blocks (Uploads u) = sends_block u
blocks Single = tt

of_call : (r : Request) (t : Transfer) → AreOther (options_of r ++ block_option t)
of_call r t = every_join IsOther (options_of r) (block_option t)
    (every_join IsOther (before_path r.method r) (path_options r.path ++ after_path r.method r) (before r.method r)
    (every_join IsOther (path_options r.path) (after_path r.method r) (mapped _ refl r.path) (after r.method r)))
    (blocks t)

of_operation : (os : List Observation) (op : Operation) → ((number : ℕ) → observation_for op ≡ Some number → ⊥)
    → AreOther (message_of os op).options
of_operation os (Calling number r t) none = of_call r t
of_operation os Dropped none = tt
of_operation os (Registering number path) none = absurd (none number refl)
of_operation os (Fetching number) none = absurd (none number refl)
of_operation os (Cancelling number) none = absurd (none number refl)

-- .. so none of it is recognised

kept : (P : List CoapOption × CoapOption → Bool) (earlier os : List CoapOption) → AreOther os
    → AreOther (map (λ p. p.1) (filter P (placed earlier os)))
kept P earlier [] h = tt
kept P earlier (o ∷ os) h =
    by (P (earlier, o)) (filter P (placed (earlier ++ o ∷ []) os)) (kept P (earlier ++ o ∷ []) os h.1)
  where
    by : (b : Bool) (rest : List (List CoapOption × CoapOption)) → AreOther (map (λ p. p.1) rest)
        → AreOther (map (λ p. p.1) (cond b ((earlier, o) ∷ rest) rest))
    by true rest k = (h.0, k)
    by false rest k = k

none_there : (os : List CoapOption) → AreOther os → value_of observe os ≡ None
none_there [] h = refl
none_there (o ∷ os) h =
    ap (λ b. cond b (Some o.value) (value_of observe os)) h.0 ∙ none_there os h.1

pub observes_none : (q : Question) (options : List CoapOption) → q.options ≡ recognised direction.Request options
    → AreOther options → observes 0 q ≡ true → ⊥
observes_none q options is other h = by (is_get q.method) h
  where
    none : is_number 0 (uint_at observe q.options) ≡ false
    none = ap (λ l. is_number 0 (uint_at observe l)) is
        ∙ ap (λ v. is_number 0 (uint_in v)) (none_there (recognised direction.Request options)
        (kept (λ p. is_recognised direction.Request p.0 p.1) [] options other))

    by : (b : Bool) → (b && is_number 0 (uint_at observe q.options)) ≡ true → ⊥
    by true z = cc (z, none)
    by false z = cc z

module _ (config : Config) where
  pub none_made : (o : Observer) (es : List Entry) → Lawful config es
      → AreOfObservations config.client_sizes (client_of es) → Always (λ p d. TakesNoObservation d) (client_of es)
      → o.to ≡ config.addresses.client → WasMade config.limits config.server_szx (server_trace config es) o → ⊥
  none_made o [] law observed none to h = none_begun config o (settings config) h
  none_made o (OfClient c ∷ past) law observed none to h =
      none_made o past (lawful_back config past (OfClient c) law) observed.1 none.1 to h
  none_made o (OfServer c ∷ past) law observed none to (inr h) =
      none_made o past (lawful_back config past (OfServer c) law) observed none to h
  none_made o (OfServer c ∷ past) law observed none to (inl h) =
      let k = asked_by config past c (at_any_time law) h.made.request h.made.here (h.made.from ∙ to) in
      let x : Sending = k.sending in
      let m : IsMessage x = was_message config.client_sizes x (client_of past) k.sent in
      let other : AreOther x.request.options =
      subst (λ r. AreOther r.options) (sym m.is) (of_operation m.observations x.operation
      (of_none config.client_sizes x (client_of past) observed none k.sent)) in
      observes_none h.made.request.question x.request.options k.options other h.made.observe
