-- How old an entry of a record is at a moment of the client's clock, and that a later finding keeps it.
use Rattle.std.proofs.Common.{◌≡◌, ◌≤◌, ◌⊎◌, inl, inr, ℕ, ◌+◌, false, List, [], ◌∷◌}
use Rattle.coap_types.specs.Past.{Ever, Sometime}
use Rattle.coap_types.specs.Recognised.{lacks_critical}
use Rattle.coap_types.specs.declared.direction.Direction.TheVariants.{Response}
use Rattle.coap_types.specs.declared.message.Kind.TheVariants.{Ack}
use Rattle.coap_types.specs.declared.transmission.TheConstants.{EXCHANGE_LIFETIME_MS as exchange_lifetime}
use Rattle.coap_types.specs.declared.transmission.TheConstants.{LAST_ARRIVAL_MS as last_arrival}
use Rattle.coap_types.specs.declared.transmission.TheConstants.{MAX_TRANSMIT_WAIT_MS as max_transmit_wait}
use Rattle.coap_codec.specs.Message.{Message}
use Rattle.coap_layer.specs.Channel.{near_of}
use Rattle.coap_layer.specs.Clocks.{Clocks}
use Rattle.coap_layer.specs.Paced.{Lately}
use Rattle.coap_layer.specs.Rested.{RestsFrom}
use Rattle.coap_layer.specs.Words.{clock}
use Rattle.coap_client.specs.Responses.{content, valid}
use Rattle.coap_server.specs.Law.{own_of}
use Rattle.coap_promise.specs.Answers.{AnswersAt}
use Rattle.coap_record.specs.Events.{Config}
use Rattle.coap_promise.specs.Fresh.{age_in}
use Rattle.coap_promise.specs.Hops.{hops_in}
use Rattle.coap_record.specs.Record.{Entry, OfClient, OfServer, server_trace}
use Rattle.coap_promise.proofs.Any.Requests.OfACall.{Lawful, lawful_back}
use Rattle.coap_promise.proofs.Facts.Reports.FormatsSet.{FormatsIn}
use Rattle.coap_promise.proofs.Facts.Reports.Shown.{ShownAt, shown_here, formats_back}
use Rattle.coap_promise.proofs.Reports.ValidShown.{NamedAt, named_here}

abbrev pub OfAServer : Entry → Type 0
OfAServer (OfClient c) = ⊥
OfAServer (OfServer c) = Unit {0}

-- An entry of the server is young at this moment of the client's clock: at most so old, where that clock gains so much.
-- It stands behind the beginning of a CON of the client, whose answer is taken lately, or so soon after that; or what
-- it sends comes so soon by its own clock.
pub data Young (config : Config) (c : Clocks) (gain max_age when : ℕ) (past : List Entry) (e : Entry) : Type 0 where
  by_ack : OfAServer e → exchange_lifetime + gain ≤ max_age → (first : ℕ)
      → first ≤ clock (near_of (hops_in config past))
      → Lately c first when → Young config c gain max_age when past e
  by_open : OfAServer e → (first : ℕ) → first ≤ clock (near_of (hops_in config past)) → when ≤ first + max_age
      → Young config c gain max_age when past e
  by_own : OfAServer e → (late : ℕ) → late + gain ≤ max_age → late ≤ last_arrival → (i : ℕ) → c.near i ≡ when
      → c.far i ≤ (own_of config.limits config.server_szx (server_trace config (e ∷ past))).clock + late
      → Young config c gain max_age when past e

-- it is so too
abbrev pub And : (List Entry → Entry → Type 0) → (List Entry → Entry → Type 0) → List Entry → Entry → Type 0
And P Q past e = P past e × Q past e

module _ (config : Config) (Q : List Entry → Entry → Type 0) (m : Message) where
  -- where the answer was made, it was shown
  pub shown_so : m.code ≡ content → lacks_critical Response m.options ≡ false → config.server_szx ≤ 6
      → (w : List Entry) → Lawful config w → FormatsIn w → Sometime (And (AnswersAt config m) Q) w
      → Sometime (And (ShownAt config m) Q) w
  shown_so code none small [] law formats h = h
  shown_so code none small (OfClient c ∷ past) law formats (inl h) = absurd h.0
  shown_so code none small (OfServer c ∷ past) law formats (inl h) =
      inl (shown_here config m code none small past c law formats h.0, h.1)
  shown_so code none small (e ∷ past) law formats (inr h) =
      inr (shown_so code none small past (lawful_back config past e law) (formats_back config past e formats) h)

  pub named_so : m.code ≡ valid → lacks_critical Response m.options ≡ false → (w : List Entry) → Lawful config w
      → Sometime (And (AnswersAt config m) Q) w → Sometime (And (NamedAt config m) Q) w
  named_so code none [] law h = h
  named_so code none (OfClient c ∷ past) law (inl h) = absurd h.0
  named_so code none (OfServer c ∷ past) law (inl h) = inl (named_here config m code none past c law h.0, h.1)
  named_so code none (e ∷ past) law (inr h) = inr (named_so code none past (lawful_back config past e law) h)

-- why what is taken in such a message, at this moment, is young: by its type, or since nothing of the client's layer
-- was due not long before, and it comes in an acknowledgement
abbrev pub Covers : Config → ℕ → ℕ → ℕ → List Entry → Message → Type 0
Covers config gain max_age when past m = (age_in m.kind + gain ≤ max_age)
    ⊎ ((m.kind ≡ Ack) × ((rest : ℕ) × Ever (RestsFrom rest) (near_of (hops_in config past))
    × (when + max_transmit_wait ≤ rest + max_age)))
