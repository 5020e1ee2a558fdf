-- The newest notification of an observation that was taken: there is one from then on, under the token of the
-- registration.
use Rattle.std.proofs.Common.{◌≡◌, inl, inr, ℕ, Bool, true, false, Option, Some, None, List, [], ◌∷◌, ◌++◌, refl, subst}
use Rattle.coap_types.specs.Past.{Sometime}
use Rattle.coap_types.specs.declared.endpoint.Endpoint.{Endpoint}
use Rattle.coap_layer.specs.declared.setup.Setup.{Setup}
use Rattle.coap_block.specs.Sizes.{Sizes}
use Rattle.coap_client_laws.specs.Follows.Newer.{Newly, notifies}
use Rattle.coap_client_laws.specs.Follows.Notified.{newest, newest_if, is_newly_of, AreTaken, WasRegistered}
use Rattle.coap_client_laws.specs.Follows.OfObservations.{Observed}
use Rattle.coap_client.specs.Law as C
use Rattle.coap_client.specs.Law.{ClientLaw}
use Rattle.coap_client.specs.Trace.{Call}
use Rattle.coap_client_laws.proofs.Facts.EachCall.{are_taken}
use Rattle.coap_record.specs.Events.{Config}
use Rattle.coap_record.specs.Record.{Entry, OfClient, OfServer, Turn, entries_of, client_of}
use Rattle.coap_promise.proofs.Facts.Observations.Chain.{newest_taken}
use Rattle.coap_promise.proofs.Facts.Observations.TagOfAValue.{newest_number}
use Rattle.coap_smooth.proofs.Watching.Values.SmoothBefore.{SmoothRun}

-- what was taken is under the token of its registration
pub registered_taken : (sizes : Sizes) (n : Newly) (t : List Call) → AreTaken sizes t
    → Sometime (λ p b. notifies (C.own_of sizes p) b ≡ Some n) t → WasRegistered sizes n.number n.message.token t
registered_taken sizes n [] all h = absurd h
registered_taken sizes n (c ∷ t) all (inl h) =
    let r = (all.0 n h).registered in
    record { path = r.path; sending = r.sending; sent = inr r.sent; registers = r.registers; token_is = r.token_is }
registered_taken sizes n (c ∷ t) all (inr h) =
    let r = registered_taken sizes n t all.1 h in
    record { path = r.path; sending = r.sending; sent = inr r.sent; registers = r.registers; token_is = r.token_is }

pub newest_registered : (server : Endpoint) (sizes : Sizes) (setup : Setup) (number : ℕ) (n : Newly) (t : List Call)
    → ClientLaw server sizes setup t → newest sizes number t ≡ Some n → WasRegistered sizes number n.message.token t
newest_registered server sizes setup number n t law is =
    subst (λ i. WasRegistered sizes i n.message.token t) (newest_number sizes number t n is)
    (registered_taken sizes n t (are_taken server sizes setup t law) (newest_taken sizes number t n is))

-- there is a newest one where there was one

some_newest : (o last : Option Newly) (number : ℕ) (n : Newly) → last ≡ Some n
    → (m : Newly) × (newest_if o (is_newly_of number o) last ≡ Some m)
some_newest None last number n is = (n, is)
some_newest (Some k) last number n is = by (is_newly_of number (Some k))
  where
    by : (b : Bool) → (m : Newly) × (newest_if (Some k) b last ≡ Some m)
    by true = (k, refl)
    by false = (n, is)

module _ (config : Config) (x : Observed) where
  pub more_newest : (later es : List Entry) (n : Newly) → newest config.client_sizes x.number (client_of es) ≡ Some n
      → (m : Newly) × (newest config.client_sizes x.number (client_of (later ++ es)) ≡ Some m)
  more_newest [] es n is = (n, is)
  more_newest (OfServer c ∷ later) es n is = more_newest later es n is
  more_newest (OfClient c ∷ later) es n is =
      let k = more_newest later es n is in
      some_newest (notifies (C.own_of config.client_sizes (client_of (later ++ es))) c)
      (newest config.client_sizes x.number (client_of (later ++ es))) x.number k.0 k.1

  pub registered : (turns : List Turn) → SmoothRun config turns → (n : Newly)
      → newest config.client_sizes x.number (client_of (entries_of turns)) ≡ Some n
      → WasRegistered config.client_sizes x.number n.message.token (client_of (entries_of turns))
  registered turns r n is = newest_registered config.addresses.server config.client_sizes config.client_setup x.number n
      (client_of (entries_of turns)) r.run.client is
