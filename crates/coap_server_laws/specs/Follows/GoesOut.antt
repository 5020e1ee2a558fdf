-- What a server answers and notifies was made in that call, and its message layer is given it in that very call (RFC
-- 7252, sections 5.2.1 to 5.2.3; RFC 7641, section 4.5; RFC 7959, section 2.9).
use Rattle.std.specs.Prelude.{◌≡◌, ◌≢◌, ◌⊎◌, ℕ, Bool, true, false, Option, Some, None, List}
use Rattle.coap_types.specs.Past.{Ever, Always}
use Rattle.coap_types.specs.declared.endpoint.Endpoint.{Endpoint}
use Rattle.coap_types.specs.declared.message.Kind.TheVariants.{Con, Ack}
use Rattle.coap_codec.specs.Spelling.{message_bytes}
use Rattle.coap_layer.specs.Trace as L
use Rattle.coap_layer.specs.Trace.{with_head}
use Rattle.coap_layer.specs.declared.setup.Setup.{Setup}
use Rattle.coap_resource.specs.Limits.{Limits}
use Rattle.coap_exchange.specs.declared.answerer.Asked.{Asked}
use Rattle.coap_exchange.specs.AnswererTrace as E
use Rattle.coap_exchange.specs.AnswererSteps.{content_of, content_with}
use Rattle.coap_server.specs.Trace.{Call}
use Rattle.coap_server.specs.Asks.{lower}
use Rattle.coap_server.specs.Responses.{bare, response_with}
use Rattle.coap_server.specs.Uploads.{continuing, last_block}
use Rattle.coap_server.specs.Notifying.{notification}
use Rattle.coap_server.specs.Law.{own_of}
use Rattle.coap_server_laws.specs.Follows.Adds.{call_adds}
use Rattle.coap_server.specs.Follows.Attended.{AnswersIt}
use Rattle.coap_server_laws.specs.Follows.Gives.{refusal_in, size_in}
use Rattle.coap_server.specs.Follows.Observes.{Notice, notice, plain_in}
use Rattle.coap_server.specs.Follows.Serves.{Serving, serving, hands}
use Rattle.coap_server.specs.Follows.Takes.{Took, takes_block}

-- the request that a call of the exchanges responds to, and the response
abbrev pub responds_with : E.Call → Option (Asked × E.Response)
responds_with (E.Answers a r below) = Some (a, r)
responds_with (E.Responds now a r word id) = Some (a, r)
responds_with _ = None

-- the response to a request that the store served
abbrev pub response_of : Serving → E.Response
response_of x = response_with x.reply x.sequence (last_block x.question)

-- This response to the request goes out under its token: in the acknowledgement of a CON, in a NON to what is no CON,
-- or in a CON of its own.
pub data GoesOut (a : Asked) (r : E.Response) (call : L.Call) (answer : L.Answer) : Type 0 where
  in_ack : a.kind ≡ Con → call ≡ L.Reply a.from a.id.0 (message_bytes (with_head Ack a.id.0 (content_of a r)))
      → GoesOut a r call answer
  in_non : (id : ℕ) → a.kind ≢ Con → call ≡ L.Plain a.from (content_of a r) → answer ≡ L.Sent id
      → GoesOut a r call answer
  in_con : (w id : ℕ) → call ≡ L.Confirm a.from (content_of a r) w → answer ≡ L.Sent id → GoesOut a r call answer

-- a notification with this content goes out, in a CON or in a NON

pub record InCon (to : Endpoint) (content : L.Content) (call : L.Call) (answer : L.Answer) : Type 0 where
  pub word : ℕ
  pub id : ℕ
  pub call_is : call ≡ L.Confirm to content word
  pub answer_is : answer ≡ L.Sent id

pub record InNon (to : Endpoint) (content : L.Content) (call : L.Call) (answer : L.Answer) : Type 0 where
  pub id : ℕ
  pub call_is : call ≡ L.Plain to content
  pub answer_is : answer ≡ L.Sent id

abbrev pub InEither : Bool → Endpoint → L.Content → L.Call → L.Answer → Type 0
InEither true to content call answer = InNon to content call answer
InEither false to content call answer = InCon to content call answer

module _ (limits : Limits) (szx : ℕ) where
  -- this response to this request is sent in this call
  abbrev pub Sends : List Call → Call → Asked → E.Response → Type 0
  Sends past c a r = Ever (λ b. responds_with b ≡ Some (a, r)) (lower (own_of limits szx past) c)

  -- the store served the request in this call, and the response says what it replied
  pub record IsReplied (past : List Call) (c : Call) (a : Asked) (r : E.Response) : Type 0 where
    pub request : Serving
    pub here : serving (own_of limits szx past) c ≡ Some request
    pub asked : request.asked ≡ a
    pub is : r ≡ response_of request

  -- 2.31 to the block that was taken in this call
  pub record IsContinued (past : List Call) (c : Call) (a : Asked) (r : E.Response) : Type 0 where
    pub block : Took
    pub taken : takes_block (own_of limits szx past) c ≡ Some block
    pub asked : block.asked ≡ a
    pub unserved : serving (own_of limits szx past) c ≡ None
    pub more : block.part.more ≡ true
    pub size : ℕ
    pub asks : size_in (own_of limits szx past) c ≡ Some size
    pub is : r ≡ continuing size (record { num = block.part.num; more = true; szx = block.part.szx })

  -- the refusal, without the store, of the request that was handed up in this call
  pub record IsRefused (past : List Call) (c : Call) (a : Asked) (r : E.Response) : Type 0 where
    pub code : ℕ
    pub handed : hands c ≡ Some a
    pub unserved : serving (own_of limits szx past) c ≡ None
    pub refuses : refusal_in (own_of limits szx past) c ≡ Some code
    pub is : r ≡ bare code

  -- a response is made in the call that sends it
  abbrev pub IsMade : List Call → Call → Asked → E.Response → Type 0
  IsMade past c a r = IsReplied past c a r ⊎ (IsContinued past c a r ⊎ IsRefused past c a r)

-- What is answered is sent a response, and to what is served it is what the store replied; each that is sent was made
-- in that call, and goes out in it; and so does each notification.
module _ (limits : Limits) (szx : ℕ) (setup : Setup) where
  pub record GoesOutHere (past : List Call) (c : Call) : Type 0 where
    pub answers : (a : Asked) → AnswersIt limits szx past c a → (r : E.Response) × Sends limits szx past c a r
    pub serves : (x : Serving) → serving (own_of limits szx past) c ≡ Some x
        → Sends limits szx past c x.asked (response_of x)
    pub made : (a : Asked) (r : E.Response) → Sends limits szx past c a r → IsMade limits szx past c a r
    pub responses : (a : Asked) (r : E.Response) → Sends limits szx past c a r
        → Ever (λ e. GoesOut a r e.call e.answer) (call_adds limits szx setup past c)
    pub notices : (x : Notice) → notice c ≡ Some x
        → Ever (λ e. InEither (plain_in (own_of limits szx past) c) x.observer.to
        (content_with x.observer.token (notification (own_of limits szx past).store x.observer x.reply)) e.call
        e.answer)
        (call_adds limits szx setup past c)

  abbrev pub AllGoOut : List Call → Type 0
  AllGoOut t = Always GoesOutHere t
