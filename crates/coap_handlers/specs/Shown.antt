-- What contracts see of a server whose answers the application computes.
use Rattle.std.specs.Prelude.{◌≡◌, ℕ, length, true, Option, Some, None}
use Rattle.coap_types.specs.declared.endpoint.Moment.{Moment}
use Rattle.coap_exchange.specs.declared.answerer.Asked.{Asked}
use Rattle.coap_exchange.specs.declared.answerer.Due.{Due}
use Rattle.coap_exchange.specs.declared.answerer.Due.TheVariants as due
use Rattle.coap_exchange.specs.AnswererLaw.{State}
use Rattle.coap_exchange.specs.AnswererSteps.{max_deferred}
use Rattle.coap_exchange.specs.Machine.AnswererShown as below
use Rattle.coap_exchange.specs.Machine.AnswererShown.{MayRespond}
use Rattle.coap_handlers.specs.declared.load.Load.{Load}
use Rattle.coap_handlers.specs.declared.responder.Ready.{Ready}

-- the state of its exchanges; the last request that was answered or deferred since the last feed; and the deferred one
-- that the last tick called ready, with the moment of that
pub record Shown : Type 0 where
  pub state : State
  pub given : Option Asked
  pub ready : Option Ready

-- What is kept beside the exchanges: the request that may be answered is the one that they wait with, what was called
-- ready may be responded to, so many are deferred, and so many messages are remembered at most.
pub record IsHeld (a : below.Shown) (asked : Option Asked) (told : Option Ready) (deferred places : ℕ) : Type 0 where
  pub pending : asked ≡ a.state.own.pending
  pub answerable : (x : Asked) → asked ≡ Some x → a.answerable ≡ true
  pub ready : (r : Ready) → told ≡ Some r → MayRespond a r.at.0 r.asked
  pub count : deferred ≡ length a.state.own.deferred
  pub most : places ≡ a.state.layer.most

-- this request was called ready at this moment
abbrev pub ready_at : Moment → Asked → Ready
ready_at at asked = record { at = at; asked = asked }

-- what a tick at this moment called ready
abbrev pub called_ready : Moment → Due → Option Ready
called_ready at (due.Ready asked) = Some (ready_at at asked)
called_ready at due.Idle = None
called_ready at due.Copied = None
called_ready at due.Expired = None

-- how many requests are deferred, of how many at most (RFC 7252, section 5.2.2), and how many messages are remembered
-- at most (section 4.5)
pub record IsLoad (s : Shown) (load : Load) : Type 0 where
  pub deferred : load.deferred ≡ length s.state.own.deferred
  pub most_deferred : load.most_deferred ≡ max_deferred
  pub most_remembered : load.most_remembered ≡ s.state.layer.most
