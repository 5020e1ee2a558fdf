-- Where a representation is whole, a client reports it: as the body of its call, or as a value of its observation (RFC
-- 7252, section 5.8.1; RFC 7641, section 3.2; RFC 7959, sections 2.4 and 2.6).
use Rattle.std.specs.Prelude.{◌≡◌, ◌≤◌, ℕ, Option, Some, None, List, length}
use Rattle.coap_types.specs.Past.{Always}
use Rattle.coap_types.specs.declared.block.Block.{Block}
use Rattle.coap_codec.specs.Message.{Message}
use Rattle.coap_block.specs.Sizes.{Sizes}
use Rattle.coap_block.specs.declared.fetch_progress.Asked.{Asked}
use Rattle.coap_block.specs.FetchStep.{FetchState}
use Rattle.coap_block.specs.FetchStep as F
use Rattle.coap_block.specs.Gathered.{Gathered, payloads_of}
use Rattle.coap_block.specs.Whole.{Part, Whole}
use Rattle.coap_client.specs.Trace.{Request, Body, Value, Call}
use Rattle.coap_client.specs.Own.{Fetches, Calling, Notified}
use Rattle.coap_client.specs.Observations.{rest_of}
use Rattle.coap_client.specs.Responses.{content, tag_in, format_in, sequence_in}
use Rattle.coap_client.specs.Effects.{of}
use Rattle.coap_client.specs.Steps.{reports}
use Rattle.coap_client.specs.Law.{own_of}
use Rattle.coap_client_laws.specs.Follows.Bodies.{ComesLast, HeardFor}
use Rattle.coap_client_laws.specs.Follows.Newer.{Newly, notifies}
use Rattle.coap_client_laws.specs.Follows.Values.{HeardToFetch}

-- the first block is block 0, a later one that which was asked for
abbrev pub IsAsked : Option Asked → Option Block → Type 0
IsAsked asked None = Unit {0}
IsAsked None (Some b) = b.num ≡ 0
IsAsked (Some asked) (Some b) = (b.num ≡ asked.num) × (b.szx ≡ asked.szx)

-- The body is whole by what the transfer has gathered, as parts, and this 2.05, the last of them; it is not longer than
-- the limit.
pub record MakesWhole (limit : ℕ) (f : FetchState) (m : Message) (body : List ℕ) : Type 0 where
  pub code : m.code ≡ content
  pub parts : List Part
  pub gathered : Gathered parts f
  pub block : Option Block
  pub last : ComesLast parts m block
  pub asked : IsAsked f.asked block
  pub whole : Whole (payloads_of parts block (tag_in m) m.payload) body
  pub short : length body ≤ limit

module _ (sizes : Sizes) where
  pub record ReportsWhole (past : List Call) (c : Call) : Type 0 where
    -- of a call, as the answer to its request
    pub body : (number : ℕ) (m : Message) (h : HeardFor sizes number m past c) (r : Request) (f : FetchState)
        → h.sending.operation ≡ Calling number r (Fetches f) → (body : List ℕ) → MakesWhole sizes.limit f m body
        → reports (own_of sizes past) c ≡ of number (Body (tag_in m) (format_in m) body)
    -- of an observation, in one notification that is taken
    pub value : (n : Newly) → notifies (own_of sizes past) c ≡ Some n → (body : List ℕ)
        → MakesWhole sizes.limit (F.start sizes 0) n.message body → reports (own_of sizes past) c
        ≡ of n.number (Value (sequence_in n.message) (tag_in n.message) (format_in n.message) body)
    -- .. or as the answer to a fetch that was sent since the newest notification came, where the observation is live
    -- still (a cancel of it was not sent then: no fetch of it is answered behind that)
    pub fetched : (number : ℕ) (m : Message) → HeardToFetch sizes number m past c → (n : Notified)
        → rest_of number (own_of sizes past).observations ≡ Some n → (body : List ℕ)
        → MakesWhole sizes.limit n.fetch m body
        → reports (own_of sizes past) c ≡ of number (Value n.sequence (tag_in m) (format_in m) body)

  abbrev pub WholeAreReported : List Call → Type 0
  WholeAreReported trace = Always ReportsWhole trace
