-- What a server sends a client understands: each critical option is one that a response may carry (RFC 7252, section
-- 5.4.1); and what it holds is no longer than the limit of its store.
use Rattle.std.specs.Prelude.{◌≡◌, ◌≤◌, ℕ, false, Some, List, length}
use Rattle.coap_types.specs.Past.{Always}
use Rattle.coap_types.specs.Recognised.{lacks_critical}
use Rattle.coap_types.specs.declared.body_limit.TheConstants.{MAX_BODY_LIMIT as max_limit}
use Rattle.coap_types.specs.declared.direction.Direction.TheVariants.{Response}
use Rattle.coap_types.specs.declared.szx.TheConstants.{MAX_SZX as max_szx}
use Rattle.coap_resource.specs.Content.{Held}
use Rattle.coap_resource.specs.Limits.{Limits}
use Rattle.coap_exchange.specs.declared.answerer.Asked.{Asked}
use Rattle.coap_exchange.specs.AnswererTrace as E
use Rattle.coap_server.specs.Trace.{Call}
use Rattle.coap_server.specs.Notifying.{notification}
use Rattle.coap_server.specs.Law.{own_of}
use Rattle.coap_server_laws.specs.Follows.GoesOut.{Sends}
use Rattle.coap_server.specs.Follows.Observes.{Notice, notice}

module _ (limits : Limits) (szx : ℕ) where
  -- no path holds a longer body
  abbrev pub BodiesShort : List Call → Type 0
  BodiesShort t = (path : List (List ℕ)) (held : Held) → (own_of limits szx t).store.holds path ≡ Some held
      → length held.body ≤ limits.body

  -- each response that a call sends, and each notification
  pub record IsRecognised (past : List Call) (c : Call) : Type 0 where
    pub responses : (a : Asked) (r : E.Response) → Sends limits szx past c a r
        → lacks_critical Response r.options ≡ false
    pub notices : (x : Notice) → notice c ≡ Some x
        → lacks_critical Response (notification (own_of limits szx past).store x.observer x.reply).options ≡ false

  -- .. of a server with a block size and a limit that can be chosen
  abbrev pub AllRecognised : List Call → Type 0
  AllRecognised t = szx ≤ max_szx → limits.body ≤ max_limit → Always IsRecognised t
