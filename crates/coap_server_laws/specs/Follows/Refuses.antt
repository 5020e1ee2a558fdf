-- What becomes of a request that a server is to refuse: an error, and nothing else (RFC 7252, sections 5.4.1, 5.9.2 and
-- 5.9.3).
use Rattle.std.specs.Prelude.{◌≡◌, ◌⊎◌, ℕ, true, Some, None, List, [], ◌∷◌}
use Rattle.coap_types.specs.Past.{Always}
use Rattle.coap_codec.specs.Message.{Message}
use Rattle.coap_resource.specs.Limits.{Limits}
use Rattle.coap_exchange.specs.declared.answerer.Asked.{Asked}
use Rattle.coap_server.specs.Trace.{Call}
use Rattle.coap_server.specs.Law.{own_of}
use Rattle.coap_server.specs.Refusing.{is_error}
use Rattle.coap_server.specs.Responses.{bare}
use Rattle.coap_server.specs.Follows.Attended.{IsIgnored}
use Rattle.coap_server.specs.Follows.Serves.{serving, refuses}
use Rattle.coap_server_laws.specs.Follows.GoesOut.{Sends}

module _ (limits : Limits) (szx : ℕ) where
  -- nothing that was asked is done, now or later: the store, the uploads, who observes and what waits are as they were
  pub record DoesNothing (past : List Call) (c : Call) : Type 0 where
    pub unserved : serving (own_of limits szx past) c ≡ None
    pub store : (own_of limits szx (c ∷ past)).store ≡ (own_of limits szx past).store
    pub uploads : (own_of limits szx (c ∷ past)).uploads ≡ (own_of limits szx past).uploads
    pub observers : (own_of limits szx (c ∷ past)).observers ≡ (own_of limits szx past).observers
    pub waiting : (own_of limits szx (c ∷ past)).waiting ≡ (own_of limits szx past).waiting
    pub applied : (own_of limits szx (c ∷ past)).applied ≡ []

  -- an error is sent in this call, a code alone
  pub record AnswersError (past : List Call) (c : Call) (a : Asked) : Type 0 where
    pub code : ℕ
    pub error : is_error code ≡ true
    pub sends : Sends limits szx past c a (bare code)

  -- Nothing is done of a request that is refused, and it is answered with an error, save one that is ignored.
  abbrev pub AllRefused : List Call → Type 0
  AllRefused t =
      Always (λ past c. (p : Asked × Message) → refuses c ≡ Some p
      → DoesNothing past c × (AnswersError past c p.0 ⊎ IsIgnored p.1)) t
