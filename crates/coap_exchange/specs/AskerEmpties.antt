-- When a client answers an arrival with an Empty message, and with which (RFC 7252, sections 4.2, 4.3, 5.3.2 and 5.4.1;
-- RFC 7641, section 3.6). A Reset to a NON is a profile.
use Rattle.std.specs.Prelude.{◌≡◌, ◌≢◌, ◌⊎◌, Bool, true, false, Option, Some, List, [], ◌&&◌, ◌||◌}
use Rattle.coap_types.specs.Past.{Always}
use Rattle.coap_types.specs.Recognised.{lacks_critical, carries}
use Rattle.coap_types.specs.declared.direction.Direction.TheVariants.{Response}
use Rattle.coap_types.specs.declared.endpoint.Endpoint.{Endpoint}
use Rattle.coap_types.specs.declared.message.Kind.TheVariants.{Con, Non, Ack}
use Rattle.coap_types.specs.SameEndpoint.{same_endpoint}
use Rattle.coap_codec.specs.Message.{Message}
use Rattle.coap_layer.specs.Trace as L
use Rattle.coap_exchange.specs.declared.asker.Event.{Event}
use Rattle.coap_exchange.specs.AskerTrace.{Own, Call, Receive}
use Rattle.coap_exchange.specs.AskerArrivals.{has_token, is_cancel, observe}
use Rattle.coap_exchange.specs.AskerSteps.{lower}
use Rattle.coap_exchange.specs.AskerLaw.{own_of}
use Rattle.coap_exchange.specs.AskerFollows.{message_told}
use Rattle.coap_exchange.specs.EmptyMessages.{acknowledging, rejecting, replies_in}
use Rattle.coap_exchange.specs.Tokens.{is_kept}
use Rattle.coap_layer.specs.declared.setup.Setup.{Setup}

-- it comes from the server, with the token of the exchange or a kept one
abbrev pub is_known : Own → Endpoint → Message → Bool
is_known s from m = same_endpoint from s.server && (has_token s.running m.token || is_kept m.token s.kept)

-- a notification that was under way when the observation was cancelled
abbrev pub is_late : Own → Message → Bool
is_late s m = has_token s.running m.token && (is_cancel s.running && carries Response observe m.options)

-- a response that arrives: what is replied to it
pub record RepliesTo (s : Own) (from : Endpoint) (m : Message) (told : Option Event)
    (out : List L.Packet) : Type 0 where
  -- what is told is acknowledged
  pub told_con : message_told told ≡ Some m → m.kind ≡ Con → out ≡ acknowledging from m.id
  pub told_other : message_told told ≡ Some m → m.kind ≢ Con → out ≡ []
  -- what belongs to no request is rejected
  pub strange : (m.kind ≡ Con) ⊎ (m.kind ≡ Non) → is_known s from m ≡ false → out ≡ rejecting from m.id
  -- a critical option that is not recognised
  pub critical_con : m.kind ≡ Con → is_known s from m ≡ true → lacks_critical Response m.options ≡ true
      → out ≡ rejecting from m.id
  pub critical_non : m.kind ≡ Non → is_known s from m ≡ true → lacks_critical Response m.options ≡ true → out ≡ []
  pub late_con : m.kind ≡ Con → is_known s from m ≡ true → lacks_critical Response m.options ≡ false
      → is_late s m ≡ true → out ≡ acknowledging from m.id
  pub late_non : m.kind ≡ Non → is_known s from m ≡ true → lacks_critical Response m.options ≡ false
      → is_late s m ≡ true → out ≡ []
  -- an acknowledgement is never replied to
  pub ack : m.kind ≡ Ack → out ≡ []

-- .. and to what else arrives: a request that is a CON is rejected
abbrev pub RepliesBy : Own → Endpoint → L.Answer → Option Event → List L.Packet → Type 0
RepliesBy s from (L.Becomes (L.Response m)) told out = RepliesTo s from m told out
RepliesBy s from (L.Becomes (L.Request m kept)) told out =
    (m.kind ≡ Con → out ≡ rejecting from m.id) × (m.kind ≢ Con → out ≡ [])
RepliesBy s from _ told out = out ≡ []

module _ (server : Endpoint) (setup : Setup) where
  -- nothing but an arrival is replied to
  abbrev pub RepliesRightly : List Call → Call → Type 0
  RepliesRightly past (Receive now from bytes up settled answer) =
      RepliesBy (own_of server setup past) from up answer
      (replies_in (lower (own_of server setup past) (Receive now from bytes up settled answer)))
  RepliesRightly past c = replies_in (lower (own_of server setup past) c) ≡ []

  abbrev pub AreReplied : List Call → Type 0
  AreReplied trace = Always RepliesRightly trace
