-- What each call of a server asks of its exchanges, the newest first (RFC 7252, section 5.2; RFC 7641, section 4.2).
use Rattle.std.specs.Prelude.{ℕ, Bool, true, false, Option, Some, List, [], ◌∷◌, ◌++◌}
use Rattle.coap_codec.specs.Message.{Message}
use Rattle.coap_layer.specs.Trace as L
use Rattle.coap_exchange.specs.declared.answerer.Asked.{Asked}
use Rattle.coap_exchange.specs.declared.answerer.Due.{Due}
use Rattle.coap_exchange.specs.declared.answerer.Due.TheVariants as due
use Rattle.coap_exchange.specs.AnswererTrace as E
use Rattle.coap_server.specs.Trace.{Own, Handling, Replies, Serves, Waits, Notifies, Call, Sets}
use Rattle.coap_server.specs.Trace.{Removes}
use Rattle.coap_server.specs.Trace.{Delays, Plains, Feeds, Refuses, Ticks, NextOut, Gets, TellsApplied, Forgets}
use Rattle.coap_server.specs.Refusing.{refusing}
use Rattle.coap_server.specs.Serving.{response_to}
use Rattle.coap_server.specs.Deferring.{deferral}
use Rattle.coap_observe.specs.Observers.{Observer}
use Rattle.coap_server.specs.Plain.{by_plain}
use Rattle.coap_server.specs.Notifying.{marked, readies, notification}
use Rattle.coap_server.specs.Handling.{incoming, ticking, heard}

-- the response to a request that arrived, and its deferral, where the exchanges have no place for it too
abbrev pub answering : Own → Option (Asked × Message) → Handling → L.Answer → List E.Call
answering s (Some p) (Replies response) below = E.Answers p.0 response below ∷ []
answering s (Some p) (Serves q reply left) below =
    E.Answers p.0 (response_to s.store s.observers p.0 q reply) below ∷ deferral s p.0 q
answering s (Some p) (Waits q delay) below = deferral s p.0 q
answering s _ h below = []

-- a notification, in a NON or in a CON
abbrev pub notifies_by : Bool → ℕ → Observer → E.Response → ℕ → ℕ → E.Call
notifies_by true at o r word id = E.NotifiesPlain at o.to o.token r id
notifies_by false at o r word id = E.Notifies at o.to o.token r word id

-- the response to the request that is ready; the notification, and before it which observers can be notified
abbrev pub responding : Own → Due → ℕ → Handling → ℕ → ℕ → List E.Call
responding s (due.Ready a) passed (Serves q reply left) word id =
    E.Responds s.clock a (response_to s.store s.observers a q reply) word id ∷ []
responding s due.Idle passed (Notifies o reply) word id =
    notifies_by (by_plain s o) s.clock o (notification s.store o reply) word id
    ∷ readies s.clock passed (marked s.observers)
responding s due.Idle passed _ word id = readies s.clock passed (marked s.observers)
responding s d passed h word id = []

abbrev pub lower : Own → Call → List E.Call
lower s (Sets now path format body answer left) = []
lower s (Removes now path answer left) = []
lower s (Delays path ms answer) = []
lower s (Plains path answer) = []
lower s (Feeds now from bytes word up came h below) =
    answering (heard s now (incoming s now from bytes up came)) came h below ++ incoming s now from bytes up came ∷ []
lower s (Refuses now from bytes word code up p response below) =
    refusing p.0 response below ++ incoming s now from bytes up (Some p) ∷ []
lower s (Ticks now word below room d passed h id answer) =
    responding (heard s now (ticking s now below room d)) d passed h word id ++ ticking s now below room d ∷ []
lower s (NextOut answer) = E.Take answer ∷ []
lower s (Gets path answer) = []
lower s (TellsApplied answer) = []
lower s (Forgets peer) = E.Forgets peer ∷ []
