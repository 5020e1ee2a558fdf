-- What is done as time passes, behind what the exchanges do of it (RFC 7252, section 5.2.2; RFC 7641, section 4.5).
use Rattle.std.specs.Prelude.{◌≡◌, ℕ, Bool}
use Rattle.coap_exchange.specs.declared.answerer.Due.{Due}
use Rattle.coap_exchange.specs.AnswererLaw as X
use Rattle.coap_server.specs.Trace.{Handling}
use Rattle.coap_server.specs.Asks.{responding}
use Rattle.coap_server.specs.Handling.{HandlesDue, is_done}
use Rattle.coap_server.specs.Steps.{due_after}
use Rattle.coap_server.specs.Led.{State, exchanges_of}

-- what becomes of what is due, what is asked of the exchanges, whether something was done, and what is left
pub record IsTurned (s : State) (d : Due) (word : ℕ) (answer : Bool) (new : State) : Type 0 where
  pub passed : ℕ
  pub handling : Handling
  pub id : ℕ
  pub right : HandlesDue s.own d passed handling
  pub answer_is : answer ≡ is_done d handling
  pub asks : X.Exchanged (exchanges_of s) (responding s.own d passed handling word id) (exchanges_of new)
  pub left : new.own ≡ due_after s.own d handling id (responding s.own d passed handling word id)
