-- Who observes, and when an observation ends (RFC 7641, sections 3.6, 4.1, 4.2 and 4.5).
use Rattle.std.specs.Prelude.{◌≡◌, ◌≢◌, ℕ, Bool, true, false, Option, Some, None, List, ◌∷◌}
use Rattle.coap_types.specs.Past.{Sometime, Always}
use Rattle.coap_types.specs.declared.endpoint.Endpoint.{Endpoint}
use Rattle.coap_types.specs.declared.message.TheConstants.Code as codes
use Rattle.coap_block.specs.Whole.{Each}
use Rattle.coap_observe.specs.Observers.{Observer, AreRegistrations, registration, rejected}
use Rattle.coap_resource.specs.RequestOptions.{block_of, szx_by}
use Rattle.coap_resource.specs.Serves.{Reply}
use Rattle.coap_resource.specs.Limits.{Limits}
use Rattle.coap_exchange.specs.declared.answerer.Ended.{Ended}
use Rattle.coap_exchange.specs.AnswererSteps.{reset_by, failed_by, unmatched_by}
use Rattle.coap_exchange.specs.AnswererTrace.{Sending}
use Rattle.coap_exchange.specs.SuccessCodes.{content}
use Rattle.coap_server.specs.Trace.{Own, Notifies, Call, Feeds, Ticks}
use Rattle.coap_server.specs.Handling.{heard, ticking}
use Rattle.coap_server.specs.Observers.{observes}
use Rattle.coap_server.specs.Plain.{by_plain}
use Rattle.coap_server.specs.Law.{own_of}
use Rattle.coap_server.specs.Follows.Serves.{Serving, forgets, serving}
use Rattle.coap_server.specs.Follows.Tells.{registering}

-- the separate response or notification that a call says to have ended, by a Reset or since it was given up
abbrev pub ends_in : Own → Call → Option Ended
ends_in s (Feeds now from bytes word up came h below) = reset_by from up s.exchanges.separate
ends_in s (Ticks now word below room d passed h id answer) = failed_by below s.exchanges.separate
ends_in s _ = None

-- the notification that a call sends: to which observer, and what that is told
pub record Notice : Type 0 where
  pub observer : Observer
  pub reply : Reply

abbrev pub notice : Call → Option Notice
notice (Ticks now word below room d passed (Notifies o reply) id answer) = Some (record { observer = o; reply = reply })
notice _ = None

-- whether it goes in a NON
abbrev pub plain_in : Own → Call → Bool
plain_in s (Ticks now word below room d passed (Notifies o reply) id answer) =
    by_plain (heard s now (ticking s now below room d)) o
plain_in s _ = false

-- the Reset that a call brings, of what isn't outstanding
abbrev pub rejects_in : Call → Option Sending
rejects_in (Feeds now from bytes word up came h below) = unmatched_by from up
rejects_in _ = None

abbrev pub not_found : ℕ
not_found = codes.NOT_FOUND.0

module _ (limits : Limits) (szx : ℕ) where
  -- a GET with Observe 0 of this endpoint and token was served with a 2.05, and this call made the registration
  pub record MadeBy (to : Endpoint) (token : List ℕ) (path : List (List ℕ)) (past : List Call) (c : Call) : Type 0 where
    pub request : Serving
    pub here : serving (own_of limits szx past) c ≡ Some request
    pub from : request.asked.from ≡ to
    pub token_is : request.asked.token ≡ token
    pub path_is : request.question.path ≡ path
    pub observe : observes 0 request.question ≡ true
    pub code : request.reply.code ≡ content
    pub registers : registering (own_of limits szx past) c ≡ Some (record { to = to; token = token })

  -- .. with the block size of the server, or a smaller one that Block2 says (RFC 7959, section 2.6)
  pub record MadeWith (to : Endpoint) (token : List ℕ) (path : List (List ℕ)) (size : ℕ) (past : List Call)
      (c : Call) : Type 0 where
    pub made : MadeBy to token path past c
    pub size_is : size ≡ szx_by (block_of made.request.question.options) made.request.question.szx

  abbrev pub WasMade : List Call → Observer → Type 0
  WasMade t o = Sometime (MadeWith o.to o.token o.path o.szx) t

  -- the observers are registrations, and each was made so
  pub record AreObservers (t : List Call) : Type 0 where
    pub registrations : AreRegistrations (own_of limits szx t).observers
    pub made : Each (WasMade t) (own_of limits szx t).observers

  -- What is told to have ended by a Reset or because it was given up, where it carried Observe, is observed no more.
  abbrev pub EndsObservation : List Call → Type 0
  EndsObservation t =
      Always (λ past c. (x : Ended) → ends_in (own_of limits szx past) c ≡ Some x → x.observe ≡ true
      → registration x.to x.token (own_of limits szx (c ∷ past)).observers ≡ None) t

  -- A GET with Observe 1 that is served ends the observation of its endpoint and token, whatever it is answered
  -- (section 3.6).
  abbrev pub EndsOnRequest : List Call → Type 0
  EndsOnRequest t =
      Always (λ past c. (x : Serving) → serving (own_of limits szx past) c ≡ Some x → observes 1 x.question ≡ true
      → registration x.asked.from x.asked.token (own_of limits szx (c ∷ past)).observers ≡ None) t

  -- An observer is told a 4.04 where its path holds nothing, and what is no 2.05 is the last that it is told (section
  -- 4.2).
  pub record EndsWith (past : List Call) (c : Call) (x : Notice) : Type 0 where
    pub gone : (own_of limits szx past).store.holds x.observer.path ≡ None → x.reply.code ≡ not_found
    pub last : x.reply.code ≢ content → registration x.observer.to x.observer.token
        (own_of limits szx (c ∷ past)).observers ≡ None

  abbrev pub EndsOnNotice : List Call → Type 0
  EndsOnNotice t = Always (λ past c. (x : Notice) → notice c ≡ Some x → EndsWith past c x) t

  -- The observation of this endpoint and token ends in this call: by what is told to have ended, a Reset of its last
  -- NON, a GET with Observe 1, or a notification; or its endpoint is forgotten.
  pub data Ends (to : Endpoint) (token : List ℕ) (past : List Call) (c : Call) : Type 0 where
    is_told : (x : Ended) → ends_in (own_of limits szx past) c ≡ Some x → x.observe ≡ true → x.to ≡ to → x.token ≡ token
        → Ends to token past c
    is_rejected : (x : Sending) (o : Observer) → rejects_in c ≡ Some x
        → rejected (own_of limits szx (c ∷ past)).clock x.to x.id (own_of limits szx past).observers ≡ Some o → o.to
        ≡ to
        → o.token ≡ token → Ends to token past c
    cancels : (x : Serving) → serving (own_of limits szx past) c ≡ Some x → observes 1 x.question ≡ true
        → x.asked.from ≡ to → x.asked.token ≡ token → Ends to token past c
    is_gone : (x : Notice) → notice c ≡ Some x → x.reply.code ≢ content → x.observer.to ≡ to → x.observer.token ≡ token
        → Ends to token past c
    is_forgotten : forgets c ≡ Some to → Ends to token past c

  -- Nothing else ends it.
  abbrev pub EndsSo : List Call → Type 0
  EndsSo t =
      Always (λ past c.
      (to : Endpoint) (token : List ℕ) (o : Observer)
      → registration to token (own_of limits szx past).observers ≡ Some o
      → registration to token (own_of limits szx (c ∷ past)).observers ≡ None → Ends to token past c) t
