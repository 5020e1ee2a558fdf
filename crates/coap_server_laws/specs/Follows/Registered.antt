-- When a GET with Observe 0 registers, and what its registration is (RFC 7641, sections 3.1 and 4.1; that at most 64
-- observe is a profile).
use Rattle.std.specs.Prelude.{◌≡◌, ◌<◌, ℕ, true, Some, List, [], ◌∷◌, ◌++◌, length}
use Rattle.coap_types.specs.Past.{Always}
use Rattle.coap_observe.specs.Observers.{begun, removed}
use Rattle.coap_observe.specs.declared.observers.TheConstants.{MAX_OBSERVERS as max_observers}
use Rattle.coap_resource.specs.RequestOptions.{block_of, szx_by}
use Rattle.coap_resource.specs.Limits.{Limits}
use Rattle.coap_exchange.specs.SuccessCodes.{content}
use Rattle.coap_server.specs.Trace.{Call}
use Rattle.coap_server.specs.Observers.{observes, sequence}
use Rattle.coap_server.specs.Law.{own_of}
use Rattle.coap_server.specs.Follows.Serves.{Serving, serving}
use Rattle.coap_server.specs.Follows.Tells.{registering}

module _ (limits : Limits) (szx : ℕ) where
  -- a GET with Observe 0 is answered 2.05 with the start of the body, and fewer than 64 others observe
  pub record CanObserve (past : List Call) (x : Serving) : Type 0 where
    pub observe : observes 0 x.question ≡ true
    pub code : x.reply.code ≡ content
    pub offset : x.reply.offset ≡ 0
    pub place : length (removed x.asked.from x.asked.token (own_of limits szx past).observers) < max_observers

  -- The registration of its endpoint and token is made at this moment, the last in the list, in place of an earlier
  -- one; nothing is due to it, the others stay as they were, in order, and the response says Observe, with the number
  -- of the version that its path holds: the version modulo 2^24 (RFC 7641, section 4.4).
  pub record IsRegistered (past : List Call) (c : Call) (x : Serving) : Type 0 where
    pub registers : registering (own_of limits szx past) c
        ≡ Some (record { to = x.asked.from; token = x.asked.token })
    pub last :
        (own_of limits szx (c ∷ past)).observers
        ≡ removed x.asked.from x.asked.token (own_of limits szx past).observers
        ++ begun (own_of limits szx (c ∷ past)).clock x.asked.from x.asked.token x.question.path
        (szx_by (block_of x.question.options) x.question.szx) ∷ []
    pub says : x.sequence ≡ sequence ((own_of limits szx past).store.holds x.question.path)

  abbrev pub AllRegister : List Call → Type 0
  AllRegister t =
      Always (λ past c. (x : Serving) → serving (own_of limits szx past) c ≡ Some x → CanObserve past x
      → IsRegistered past c x) t
