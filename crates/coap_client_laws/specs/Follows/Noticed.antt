-- What a client makes of the answer to a registration, and of a response with the token of a live observation (RFC
-- 7641, sections 3.1, 3.2 and 3.4).
use Rattle.std.specs.Prelude.{◌≡◌, ◌⊎◌, ◌≤◌, ℕ, Bool, true, false, Option, Some, None, List, ◌∷◌, length, Result}
use Rattle.coap_types.specs.Past.{Always}
use Rattle.coap_types.specs.OptionValues.{value_of}
use Rattle.coap_types.specs.Piece.{size_of}
use Rattle.coap_types.specs.declared.block.Block.{Block}
use Rattle.coap_types.specs.declared.endpoint.Endpoint.{Endpoint}
use Rattle.coap_types.specs.declared.message.Kind.TheVariants.{Con, Non}
use Rattle.coap_types.specs.declared.option_number.TheConstants.{BLOCK2 as block2}
use Rattle.coap_codec.specs.Message.{Message}
use Rattle.coap_layer.specs.Trace as L
use Rattle.coap_layer.specs.declared.setup.Setup.{Setup}
use Rattle.coap_block.specs.Sizes.{Sizes}
use Rattle.coap_exchange.specs.declared.asker.AskRefusal.{AskRefusal}
use Rattle.coap_exchange.specs.declared.asker.Event.{Event}
use Rattle.coap_exchange.specs.AskerResponses.{IsSound}
use Rattle.coap_observe.specs.Newer.{Newer}
use Rattle.coap_client.specs.Trace.{Value, Ended, Call, Feeds}
use Rattle.coap_client.specs.Own.{Registering, Cancelling}
use Rattle.coap_client.specs.Responses.{said, block_at, is_notification, sequence_in, tag_in, format_in}
use Rattle.coap_client.specs.Effects.{of}
use Rattle.coap_client.specs.Steps.{reports}
use Rattle.coap_client.specs.Law.{own_of}
use Rattle.coap_client_laws.specs.Follows.Clock.{moment_of}
use Rattle.coap_client_laws.specs.Follows.Live.{IsLive}
use Rattle.coap_client_laws.specs.Follows.Newer.{Newly, newly, notifies}
use Rattle.coap_client_laws.specs.Follows.Notified.{notes, newest}
use Rattle.coap_client.specs.Sendings.{hears}

-- the message has all of a representation: it has no Block2, or one that says the first block and no more (RFC 7959,
-- section 2.2)

pub record IsOneBlock (m : Message) : Type 0 where
  pub block : Block
  pub is : block_at block2 m ≡ Some block
  pub first : block.num ≡ 0
  pub last : block.more ≡ false
  pub fits : length m.payload ≤ size_of block.szx

abbrev pub IsAllOf : Message → Type 0
IsAllOf m = (value_of block2 (said m) ≡ None) ⊎ IsOneBlock m

module _ (server : Endpoint) (sizes : Sizes) (setup : Setup) where
  -- A CON or a NON from the server with the token of a live observation is noted, where no cancel of that runs and each
  -- critical option is recognised (RFC 7252, sections 5.3.2 and 5.4.1; RFC 7641, section 3.2).
  abbrev pub NoticesAreHeard : List Call → Type 0
  NoticesAreHeard trace =
      Always (λ past c. (now : ℕ) (from : Endpoint) (bytes : List ℕ) (w : ℕ) (m : Message) (settled : Bool)
      (event : Option Event) (sent : L.Answer) (token : Result (List ℕ) AskRefusal) (kept : Bool) (number : ℕ)
      (path : List (List ℕ))
      → c ≡ Feeds now from bytes w (L.Becomes (L.Response m)) settled event sent token kept
      → IsSound server setup from m → IsLive sizes number path m.token past
      → ((own_of sizes past).running ≡ Some (Cancelling number) → ⊥) → (m.kind ≡ Con) ⊎ (m.kind ≡ Non)
      → notes c ≡ Some m) trace

module _ (sizes : Sizes) where
  -- it is taken of this observation, at the moment of the call
  abbrev pub IsTakenOf : ℕ → Message → List Call → Call → Type 0
  IsTakenOf number m past c = notifies (own_of sizes past) c
      ≡ newly number (moment_of (own_of sizes past) c) m

  -- it is not newer than the newest one before (RFC 7641, section 3.4)
  pub record IsNotNewer (number : ℕ) (m : Message) (past : List Call) (c : Call) : Type 0 where
    pub before : Newly
    pub is_newest : newest sizes number past ≡ Some before
    pub older : Newer before.mark.number before.mark.at (sequence_in m) (moment_of (own_of sizes past) c) → ⊥

  -- What is noted of a live observation ends it with its code, where it is no 2.05 with Observe; else it is taken, or
  -- is not newer.
  pub record IsNoticed (number : ℕ) (m : Message) (past : List Call) (c : Call) : Type 0 where
    pub ends : is_notification m ≡ false → reports (own_of sizes past) c ≡ of number (Ended m.code)
    pub takes : is_notification m ≡ true → IsTakenOf number m past c ⊎ IsNotNewer number m past c

  abbrev pub AreNoticed : List Call → Type 0
  AreNoticed trace =
      Always (λ past c. (m : Message) (number : ℕ) (path : List (List ℕ)) → notes c ≡ Some m
      → IsLive sizes number path m.token past → IsNoticed number m past c) trace

  -- The answer to a registration ends it with its code, where it is no 2.05 with Observe; else it is taken, and the
  -- observation is live under its token (RFC 7641, section 3.1).
  pub record IsAnswered (number : ℕ) (path : List (List ℕ)) (m : Message) (past : List Call) (c : Call) : Type 0 where
    pub ends : is_notification m ≡ false → reports (own_of sizes past) c ≡ of number (Ended m.code)
    pub takes : is_notification m ≡ true → IsTakenOf number m past c × IsLive sizes number path m.token (c ∷ past)

  abbrev pub RegistrationsAreAnswered : List Call → Type 0
  RegistrationsAreAnswered trace =
      Always (λ past c. (m : Message) (number : ℕ) (path : List (List ℕ)) → hears c ≡ Some m
      → (own_of sizes past).running ≡ Some (Registering number path) → IsAnswered number path m past c) trace

  -- What is taken and has all of a representation that is within the limit is reported in that very call.
  abbrev pub AreShownAtOnce : List Call → Type 0
  AreShownAtOnce trace =
      Always (λ past c. (n : Newly) → notifies (own_of sizes past) c ≡ Some n → IsAllOf n.message
      → length n.message.payload ≤ sizes.limit
      → reports (own_of sizes past) c ≡ of n.number
      (Value (sequence_in n.message) (tag_in n.message) (format_in n.message) n.message.payload)) trace
