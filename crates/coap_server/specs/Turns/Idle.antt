-- When a tick of a server has nothing to send (RFC 7252, sections 4.2 and 5.2.2; RFC 7641, section 4.5).
use Rattle.std.specs.Prelude.{◌≡◌, ℕ, max, Bool, false, List, []}
use Rattle.std.specs.List.{list_any}
use Rattle.coap_layer.specs.Machine.State.{copies}
use Rattle.coap_observe.specs.Observers.{Observer}
use Rattle.coap_exchange.specs.AnswererLaw as X
use Rattle.coap_exchange.specs.Machine.WhatIsDue.{takes_con, takes_response}
use Rattle.coap_server.specs.Notifying.{marked}
use Rattle.coap_server.specs.Led.{State, exchanges_of}

-- one of those to which a notification is due can be notified
abbrev pub takes_notice : X.State → ℕ → List Observer → Bool
takes_notice x at os = list_any (λ o. takes_con x at o.to) (marked os)

-- the moment that counts for the exchanges
abbrev pub moment : State → ℕ → ℕ
moment s now = max s.own.exchanges.clock (max s.own.clock now)

-- no retransmission is due; no deferred request can be responded to; and nobody can be notified
pub record IsIdle (s : State) (now : ℕ) : Type 0 where
  pub no_copy : copies (moment s now) s.layer.open_cons ≡ []
  pub no_response : takes_response (exchanges_of s) (max s.own.clock now) ≡ false
  pub no_notice : takes_notice (exchanges_of s) (max s.own.clock now) s.own.observers ≡ false
