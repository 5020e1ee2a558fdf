-- Which parts a body is made of that a client reports (RFC 7252, section 5.8.1; RFC 7959, section 2.4).
use Rattle.std.specs.Prelude.{◌≡◌, ◌⊎◌, ℕ, ◌==◌, Bool, true, false, Option, Some, None, List, [], ◌∷◌}
use Rattle.coap_types.specs.OptionValues.{value_of}
use Rattle.coap_types.specs.Past.{Always}
use Rattle.coap_types.specs.declared.block.Block.{Block}
use Rattle.coap_types.specs.declared.option_number.TheConstants.{BLOCK2 as block2}
use Rattle.coap_codec.specs.Message.{Message}
use Rattle.coap_block.specs.Sizes.{Sizes}
use Rattle.coap_block.specs.Gathered.{part, payloads_of}
use Rattle.coap_block.specs.Whole.{Part, Each, Whole}
use Rattle.coap_client.specs.Trace.{Body, Call}
use Rattle.coap_client.specs.Own.{Fetches, Operation, Calling}
use Rattle.coap_client.specs.Responses.{content, said, tag_in, format_in, block_at}
use Rattle.coap_client.specs.Effects.{of}
use Rattle.coap_client.specs.Steps.{reports}
use Rattle.coap_client.specs.Law.{own_of}
use Rattle.coap_client.specs.Sendings.{Sending, sends, hears, last_sent}
use Rattle.coap_client_laws.specs.Follows.Begins.{WasSent}
use Rattle.coap_client_laws.specs.Follows.Order.{call_of}

-- a part of a representation that came with Block2
pub record ComesAs (p : Part) (m : Message) : Type 0 where
  pub code : m.code ≡ content
  pub block : Block
  pub says : block_at block2 m ≡ Some block
  pub is : p ≡ part block (tag_in m) m.payload

-- What comes last: without Block2 it is the representation, and there are no parts; else it is the part that Block2
-- says.
abbrev pub ComesLast : List Part → Message → Option Block → Type 0
ComesLast parts m None = (value_of block2 (said m) ≡ None) × (parts ≡ [])
ComesLast parts m (Some b) = block_at block2 m ≡ Some b

-- the request of a call without Block2, which asks for the first block: at its start, and where it begins anew
abbrev pub is_first_of : ℕ → Operation → Bool
is_first_of number (Calling k r (Fetches f)) = elim f.asked [ None ↦ k == number | Some asked ↦ false ]
is_first_of number op = false

abbrev pub is_first : ℕ → Option Sending → Bool
is_first number None = false
is_first number (Some x) = is_first_of number x.operation

module _ (sizes : Sizes) where
  -- the message is heard as the answer to a request of the call, under its token
  pub record HeardFor (number : ℕ) (m : Message) (past : List Call) (c : Call) : Type 0 where
    pub heard : hears c ≡ Some m
    pub sending : Sending
    pub sent : WasSent sizes sending past
    pub of_call : call_of sending.operation ≡ Some number
    pub token : sending.token ≡ m.token

  pub record TakesPart (number : ℕ) (p : Part) (past : List Call) (c : Call) : Type 0 where
    pub message : Message
    pub heard : HeardFor number message past c
    pub part : ComesAs p message

  -- the part was taken since the call asked for the first block last
  abbrev pub TookPart : ℕ → Part → List Call → Type 0
  TookPart number p [] = ⊥
  TookPart number p (c ∷ past) = (is_first number (sends (own_of sizes past) c) ≡ false)
      × (TakesPart number p past c ⊎ TookPart number p past)

  -- The body is whole by the parts since then and the last one, which gives its ETag and its format.
  pub record IsFetched (number : ℕ) (tag : Option (List ℕ)) (format : Option ℕ) (body : List ℕ) (past : List Call)
      (c : Call) : Type 0 where
    pub message : Message
    pub heard : HeardFor number message past c
    pub code : message.code ≡ content
    pub parts : List Part
    pub took : Each (λ p. TookPart number p past) parts
    pub block : Option Block
    pub last : ComesLast parts message block
    -- The last one answers the request that was sent last; where no part is before it, so where it comes without
    -- Block2, that is the request for the first block.
    pub asked : last_sent sizes past ≡ Some heard.sending
    pub alone : parts ≡ [] → is_first number (Some heard.sending) ≡ true
    pub whole : Whole (payloads_of parts block (tag_in message) message.payload) body
    pub tag_is : tag ≡ tag_in message
    pub format_is : format ≡ format_in message

  abbrev pub BodiesAreWhole : List Call → Type 0
  BodiesAreWhole trace =
      Always (λ past c. (number : ℕ) (tag : Option (List ℕ)) (format : Option ℕ) (body : List ℕ)
      → reports (own_of sizes past) c ≡ of number (Body tag format body)
      → IsFetched number tag format body past c) trace
