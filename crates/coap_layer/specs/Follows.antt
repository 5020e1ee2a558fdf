-- What follows from the layer's law (RFC 7252, sections 4.2, 4.4, 4.5 and 4.7).
use Rattle.coap_layer.specs.Trace.{Setup}
use Rattle.std.specs.Prelude.{◌≡◌, ◌⊎◌, ◌≤◌, ◌<◌, ℕ, ◌+◌, true, Some, List, [], ◌∷◌}
use Rattle.coap_types.specs.Past.{Ever, Always}
use Rattle.coap_types.specs.declared.endpoint.Endpoint.{Endpoint}
use Rattle.coap_types.specs.SameEndpoint.{same_endpoint}
use Rattle.coap_codec.specs.Message.{Message, Spells}
use Rattle.coap_layer.specs.Ids.{AreApart}
use Rattle.coap_layer.specs.Trace.{Receive, Response, Acked, Reset, Becomes, Sent, Copied, Entry}
use Rattle.coap_layer.specs.Rows.{Stands, LayerLaw, Outstanding}
use Rattle.coap_layer.specs.Words.{clock, Incoming, handed, Remembered, remembered, Open, begun, numbers, outstanding}
use Rattle.coap_types.specs.declared.transmission.TheConstants.{LAST_RETRANSMISSION_MS as last_retransmission}
use Rattle.coap_types.specs.declared.message.TheConstants.{MESSAGE_IDS as message_ids}

-- No message is handed up that was handed up, and remembered, at most EXCHANGE_LIFETIME before.
abbrev pub HandedUpOnce : List Entry → Type 0
HandedUpOnce t = Always (λ past e. (m : Incoming) → handed e ≡ Some m → Remembered past e.at m.from m.message.id → ⊥) t

-- A retransmission's CON was begun at most LAST_RETRANSMISSION_MS before, to the same place, under the same id, with
-- the same bytes.
pub record CopyOf (past : List Entry) (e : Entry) (to : Endpoint) (id : ℕ) : Type 0 where
  pub con : Open
  pub begun_before : Ever (λ b. begun b ≡ Some con) past
  pub to_is : con.to ≡ to
  pub id_is : con.id ≡ id
  pub from : con.first ≤ e.at
  pub till : e.at ≤ con.first + last_retransmission
  pub out : e.out ≡ record { to = con.to; bytes = con.bytes } ∷ []

abbrev pub CopiesInTime : List Entry → Type 0
CopiesInTime t = Always (λ past e. (to : Endpoint) (id : ℕ) → e.answer ≡ Copied to id → CopyOf past e to id) t

-- Equal Message IDs are more than ID_REUSE_AFTER_MS apart.
abbrev pub IdsApart : List Entry → Type 0
IdsApart t = AreApart (numbers t)

-- A CON is begun only where none to that endpoint is outstanding.
abbrev pub OneOutstanding : List Entry → Type 0
OneOutstanding t =
    Always (λ past e. (c : Open) → begun e ≡ Some c
    → Ever (λ (d : Open). same_endpoint d.to c.to ≡ true) (outstanding past) → ⊥) t

-- One call has one answer, and sends one thing.
abbrev pub IsExact : Type 0
IsExact =
    (setup : Setup) (past : List Entry) (e f : Entry) → LayerLaw setup past → Stands setup past e → Stands setup past f
    → e.call ≡ f.call → e.at ≡ f.at → (e.answer ≡ f.answer) × (e.out ≡ f.out)

-- An acknowledgement and a Reset are taken only for a CON that is outstanding.
abbrev pub EndsOutstanding : List Entry → Type 0
EndsOutstanding t =
    Always (λ past e. (from : Endpoint) (bytes : List ℕ) (id : ℕ) → e.call ≡ Receive from bytes
    → (e.answer ≡ Becomes (Acked id)) ⊎ (e.answer ≡ Becomes (Reset id)) → Outstanding past from id) t

-- No more are remembered than there is a place for (profile).
abbrev pub RemembersFew : ℕ → List Entry → Type 0
RemembersFew most t = (now : ℕ) → clock t ≤ now → remembered now t ≤ most

-- Each Message ID that is given has 16 bits (section 3).
abbrev pub IdsSmall : List Entry → Type 0
IdsSmall t = Always (λ past e. (id : ℕ) → e.answer ≡ Sent id → id < message_ids) t

-- the message is what the datagram that arrives spells
pub record Carried (e : Entry) (m : Message) : Type 0 where
  pub from : Endpoint
  pub bytes : List ℕ
  pub call : e.call ≡ Receive from bytes
  pub spells : Spells bytes m

-- A response is what its datagram spells, in an acknowledgement too (section 5.2.1).
abbrev pub ResponsesSpelled : List Entry → Type 0
ResponsesSpelled t = Always (λ past e. (m : Message) → e.answer ≡ Becomes (Response m) → Carried e m) t
