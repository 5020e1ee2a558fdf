-- What a tick that does nothing leaves: who observes, what waits and what is outstanding, as it was (RFC 7252, section
-- 4.2; RFC 7641, section 4.5).
use Rattle.std.specs.Prelude.{◌≡◌, ◌⊎◌, ℕ, false, List, ◌∷◌}
use Rattle.coap_types.specs.Past.{Always}
use Rattle.coap_layer.specs.Words.{outstanding}
use Rattle.coap_layer.specs.declared.setup.Setup.{Setup}
use Rattle.coap_resource.specs.Limits.{Limits}
use Rattle.coap_server.specs.Trace.{Call}
use Rattle.coap_server.specs.Law.{own_of, layer_of}
use Rattle.coap_server.specs.Follows.Attended.{NoId}
use Rattle.coap_server_laws.specs.Follows.Begins.{NoneToNotify}
use Rattle.coap_server.specs.Follows.Rests.{IsTick}

module _ (limits : Limits) (szx : ℕ) (setup : Setup) where
  pub record LeavesAll (past : List Call) (c : Call) (now : ℕ) : Type 0 where
    pub observers : (own_of limits szx (c ∷ past)).observers ≡ (own_of limits szx past).observers
    pub waiting : (own_of limits szx (c ∷ past)).waiting ≡ (own_of limits szx past).waiting
    pub store : (own_of limits szx (c ∷ past)).store ≡ (own_of limits szx past).store
    pub cons : outstanding (layer_of limits szx setup (c ∷ past)) ≡ outstanding (layer_of limits szx setup past)
    -- nobody who could be notified then, unless no Message ID was free
    pub nobody : NoId limits szx setup past now ⊎ NoneToNotify limits szx setup (c ∷ past)

  abbrev pub AllLeave : List Call → Type 0
  AllLeave t = Always (λ past c. (now : ℕ) → IsTick now false c → LeavesAll past c now) t
