-- What a server sends beside Empty messages: responses to the requests that were handed up, and notifications (RFC
-- 7252, sections 4.2 and 5.2; RFC 7641, sections 3.2 and 4.2; RFC 7959, section 2.9).
use Rattle.std.specs.Prelude.{◌≡◌, ◌≢◌, ◌⊎◌, ℕ, max, true, false, Option, Some, None, List, ◌∷◌}
use Rattle.coap_types.specs.Past.{Ever, Sometime, Always}
use Rattle.coap_types.specs.declared.endpoint.Endpoint.{Endpoint}
use Rattle.coap_types.specs.declared.message.TheConstants.Code as codes
use Rattle.coap_types.specs.declared.message.Kind.{Kind}
use Rattle.coap_codec.specs.Message.{Spells}
use Rattle.coap_codec.specs.Spelling.{message_bytes}
use Rattle.coap_layer.specs.Sends.{IsIn}
use Rattle.coap_layer.specs.Trace as L
use Rattle.coap_layer.specs.Trace.{with_head}
use Rattle.coap_layer.specs.declared.setup.Setup.{Setup}
use Rattle.coap_block.specs.declared.block_verdict.BlockVerdict.{BlockVerdict}
use Rattle.coap_block.specs.declared.block_verdict.BlockVerdict.TheVariants.{Refuse, Join}
use Rattle.coap_block.specs.AssemblyAnswer.{refusal_code}
use Rattle.coap_block.specs.AssemblyState.{AssemblyState}
use Rattle.coap_observe.specs.Observers.{Observer}
use Rattle.coap_observe.specs.Versions.{sequence_number}
use Rattle.coap_resource.specs.Content.{Held}
use Rattle.coap_resource.specs.Serves.{Reply, bare, content_reply}
use Rattle.coap_resource.specs.Limits.{Limits}
use Rattle.coap_exchange.specs.declared.answerer.Asked.{Asked}
use Rattle.coap_exchange.specs.AnswererTrace as E
use Rattle.coap_exchange.specs.AnswererSteps.{content_with}
pub use Rattle.coap_server_laws.specs.Follows.EmptyPackets.{IsEmpty}
use Rattle.coap_server.specs.Trace.{Own, Call, Feeds, Refuses}
use Rattle.coap_server.specs.Responses.{response_with}
use Rattle.coap_server.specs.Responses as R
use Rattle.coap_server.specs.Checks.{Verdict, Refused, Uploads, verdict_on}
use Rattle.coap_server.specs.Uploads.{continue, continuing, last_block, ruling_of}
use Rattle.coap_server.specs.Notifying.{notification}
use Rattle.coap_server.specs.Law.{own_of, layer_of}
use Rattle.coap_server.specs.Follows.Serves.{Serving, serving, hands}
use Rattle.coap_server.specs.Follows.Takes.{Took, takes_block}
use Rattle.coap_server.specs.Follows.Brings.{Comes}
use Rattle.coap_server.specs.Follows.Observes.{WasMade}
use Rattle.coap_server_laws.specs.Follows.Shows.{notice_in}

-- The datagram carries this response there, with this token, whatever the type and the Message ID.
pub record Carries (p : L.Packet) (to : Endpoint) (token : List ℕ) (r : E.Response) : Type 0 where
  pub there : p.to ≡ to
  pub kind : Kind
  pub id : ℕ
  pub bytes : p.bytes ≡ message_bytes (with_head kind id (content_with token r))
  pub spells : Spells p.bytes (with_head kind id (content_with token r))

-- The code with which a request is refused without the store: by the checks, or since the block of its upload is not
-- taken; or by the call that hands it up.

abbrev pub refusal_by : BlockVerdict → Option ℕ
refusal_by (Refuse why) = Some (refusal_code why).0
refusal_by _ = None

abbrev pub refusal_of : AssemblyState → ℕ → Asked → Verdict → Option ℕ
refusal_of uploads at a (Refused code) = Some code
refusal_of uploads at a (Uploads q b) = refusal_by (ruling_of uploads at a q b)
refusal_of uploads at a _ = None

abbrev pub refusal_in : Own → Call → Option ℕ
refusal_in s (Feeds now from bytes word up (Some p) h below) =
    refusal_of s.uploads (max s.clock now) p.0 (verdict_on s.szx p.1)
refusal_in s (Refuses now from bytes word code up p response below) = response
refusal_in s _ = None

-- the size that is asked for with 2.31, where the block is taken and there are more

abbrev pub size_by : BlockVerdict → Option ℕ
size_by (Join size) = Some size
size_by _ = None

abbrev pub size_of : AssemblyState → ℕ → Asked → Verdict → Option ℕ
size_of uploads at a (Uploads q b) = size_by (ruling_of uploads at a q b)
size_of uploads at a _ = None

abbrev pub size_in : Own → Call → Option ℕ
size_in s (Feeds now from bytes word up (Some p) h below) =
    size_of s.uploads (max s.clock now) p.0 (verdict_on s.szx p.1)
size_in s _ = None

-- a notification shows what a path holds: 2.05 with its version as Observe, or 4.04 without Observe where it holds
-- nothing
abbrev pub NoticeOf : ℕ → Option Held → E.Response → Type 0
NoticeOf szx None r = r ≡ response_with (bare codes.NOT_FOUND.0 0) None None
NoticeOf szx (Some held) r = r ≡ response_with (content_reply held false 0 szx)
    (Some (sequence_number held.version)) None

module _ (limits : Limits) (szx : ℕ) where
  -- what the store served here
  pub record CarriesServed (past : List Call) (c : Call) (p : L.Packet) : Type 0 where
    pub request : Serving
    pub here : serving (own_of limits szx past) c ≡ Some request
    pub carries : Carries p request.asked.from request.asked.token
        (response_with request.reply request.sequence (last_block request.question))

  -- 2.31 to a block that was taken here
  pub record CarriesContinue (past : List Call) (c : Call) (p : L.Packet) : Type 0 where
    pub block : Took
    pub taken : takes_block (own_of limits szx past) c ≡ Some block
    pub more : block.part.more ≡ true
    pub size : ℕ
    pub asks : size_in (own_of limits szx past) c ≡ Some size
    pub carries : Carries p block.asked.from block.asked.token
        (continuing size (record { num = block.part.num; more = true; szx = block.part.szx }))

  -- the refusal, without the store, of a request that was handed up here
  pub record CarriesRefusal (setup : Setup) (past : List Call) (c : Call) (p : L.Packet) : Type 0 where
    pub asked : Asked
    pub verdict : Verdict
    pub code : ℕ
    pub comes : Comes limits szx setup past c asked verdict
    pub handed : hands c ≡ Some asked
    pub unserved : serving (own_of limits szx past) c ≡ None
    pub refuses : refusal_in (own_of limits szx past) c ≡ Some code
    pub not_continue : code ≢ continue
    pub carries : Carries p asked.from asked.token (R.bare code)

  -- the notification that is sent here, to an observer, of what its path holds here
  pub record CarriesNotice (past : List Call) (c : Call) (p : L.Packet) : Type 0 where
    pub observer : Observer
    pub reply : Reply
    pub here : notice_in c ≡ Some (observer, reply)
    pub made : WasMade limits szx past observer
    pub shows : NoticeOf observer.szx ((own_of limits szx past).store.holds observer.path)
        (notification (own_of limits szx past).store observer reply)
    pub carries : Carries p observer.to observer.token (notification (own_of limits szx past).store observer reply)

  abbrev pub CarriesResponse : Setup → L.Packet → List Call → Call → Type 0
  CarriesResponse setup p past c = CarriesServed past c p
      ⊎ (CarriesContinue past c p ⊎ (CarriesRefusal setup past c p ⊎ CarriesNotice past c p))

  -- what the message layer sent in all these calls is Empty, or carries a response that was made in them
  abbrev pub SentResponses : Setup → List Call → Type 0
  SentResponses setup t = (p : L.Packet) → Ever (λ e. IsIn p e.out) (layer_of limits szx setup t)
      → IsEmpty p ⊎ Sometime (CarriesResponse setup p) t

  -- Whatever is sent, at any time, is Empty, or carries a response that was made by then.
  abbrev pub SendsResponses : Setup → List Call → Type 0
  SendsResponses setup trace = Always (λ past c. SentResponses setup (c ∷ past)) trace

  -- The store never answers 2.31.
  abbrev pub NoneContinues : List Call → Type 0
  NoneContinues t = Always (λ past c. (x : Serving) → serving (own_of limits szx past) c ≡ Some x
      → x.reply.code ≢ continue) t
