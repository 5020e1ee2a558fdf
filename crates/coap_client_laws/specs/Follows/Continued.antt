-- Behind the first block of a body a further one is sent where that was answered with 2.31 (RFC 7959, section 2.5).
use Rattle.std.specs.Prelude.{◌≡◌, ◌<◌, ℕ, Some, List, ◌∷◌}
use Rattle.coap_types.specs.Past.{Ever, Always}
use Rattle.coap_codec.specs.Message.{Message}
use Rattle.coap_block.specs.Sizes.{Sizes}
use Rattle.coap_client.specs.Trace.{Call}
use Rattle.coap_client_laws.specs.Follows.Blocks.{Carried, carried}
use Rattle.coap_client.specs.Responses.{continue}
use Rattle.coap_client.specs.Law.{own_of}
use Rattle.coap_client.specs.Sendings.{Sending, sends, hears}
use Rattle.coap_client_laws.specs.Follows.Begins.{WasSent}

-- a 2.31 with this token is heard
abbrev pub HearsContinue : List ℕ → Call → Type 0
HearsContinue token c = (m : Message) × (hears c ≡ Some m) × (m.token ≡ token) × (m.code ≡ continue)

module _ (sizes : Sizes) where
  -- the first block of the call was sent, and answered with 2.31
  pub record FirstContinued (number : ℕ) (before t : List Call) : Type 0 where
    pub first : Sending
    pub sent : WasSent sizes first before
    pub block : Carried
    pub carries : carried first.operation ≡ Some block
    pub number_is : block.number ≡ number
    pub is_first : block.upload.num ≡ 0
    pub answered : Ever (HearsContinue first.token) t

  abbrev pub AreContinued : List Call → Type 0
  AreContinued trace =
      Always (λ past c. (x : Sending) (y : Carried) → sends (own_of sizes past) c ≡ Some x
      → carried x.operation ≡ Some y
      → 0 < y.upload.num → FirstContinued y.number past (c ∷ past)) trace
