-- The tokens of the requests that a server serves and lets wait, and of its observers, are those of messages (RFC 7252,
-- section 3): they have at most 8 bytes.
use Rattle.std.specs.Prelude.{◌≡◌, ◌≤◌, ℕ, Some, List, length}
use Rattle.coap_types.specs.Past.{Always}
use Rattle.coap_block.specs.Whole.{Each}
use Rattle.coap_observe.specs.Observers.{Observer}
use Rattle.coap_resource.specs.Limits.{Limits}
use Rattle.coap_server.specs.Trace.{Waiting, Call}
use Rattle.coap_server.specs.Law.{own_of}
use Rattle.coap_server.specs.Follows.Serves.{Serving, serving}

pub record ShortTokens (limits : Limits) (szx : ℕ) (t : List Call) : Type 0 where
  pub served : Always (λ past c. (x : Serving) → serving (own_of limits szx past) c ≡ Some x
      → length x.asked.token ≤ 8) t
  pub waiting : Each (λ (w : Waiting). length w.asked.token ≤ 8) (own_of limits szx t).waiting
  pub observers : Each (λ (o : Observer). length o.token ≤ 8) (own_of limits szx t).observers
