-- What each call of a client asks of its exchanges, answers and leaves (RFC 7252, sections 4.7, 5.2 and 5.3).
use Rattle.std.specs.Prelude.{◌≡◌, ℕ, max, Bool, true, false, ◌||◌, not, Option, None, List, [], ◌∷◌, ◌++◌, drop}
use Rattle.std.specs.Prelude.{slice_get, Result, Ok, option_to_list}
use Rattle.std.specs.Option.{option_map}
use Rattle.coap_exchange.specs.declared.asker.AskRefusal.{AskRefusal}
use Rattle.coap_exchange.specs.declared.asker.Turn.{Turn}
use Rattle.coap_exchange.specs.declared.asker.Turn.TheVariants as turn
use Rattle.coap_exchange.specs.AskerTrace as E
use Rattle.coap_layer.specs.Trace as L
use Rattle.coap_client.specs.Trace.{Reported, Requested, Call, Calls, Observes, Cancels, Forgets}
use Rattle.coap_client.specs.Trace.{Feeds}
use Rattle.coap_client.specs.Trace.{Ticks, NextOut, NextReport, Asked}
use Rattle.coap_client.specs.Own.{Registering, Own, operation_number}
use Rattle.coap_client.specs.Queue.{call_answer, observe_answer, cancel_answer, may_forget, calling}
use Rattle.coap_client.specs.Queue.{numbered, cancelling}
use Rattle.coap_client.specs.Effects.{Deed, Asks, Effect}
use Rattle.coap_client.specs.Deeds.{at, forgotten, forgets, effect, close, deeds, done_for}

-- all calls

-- what is asked of the exchanges, the newest first
abbrev pub lower : Own → Call → List E.Call
lower s (Calls now r answer) = []
lower s (Observes now path answer) = []
lower s (Cancels now number answer) = []
lower s (Forgets number kept answer) = deeds (forgets answer number s) s 0 0 L.Nothing (Ok []) kept
lower s (Feeds now from bytes word up settled event sent token kept) =
    done_for (effect s (Feeds now from bytes word up settled event sent token kept))
    (max s.clock now) word sent token kept (E.Receive (max s.clock now) from bytes up settled event)
lower s (Ticks now word below t sent token kept answer) =
    done_for (effect s (Ticks now word below t sent token kept answer)) (max s.clock now) word sent token kept
    (E.Ticks (max s.clock now) below t)
lower s (NextOut answer) = E.Take answer ∷ []
lower s (NextReport answer) = []
lower s (Asked answer) = []

-- a tick did something
abbrev pub is_idle : Turn → Bool
is_idle turn.Idle = true
is_idle _ = false

abbrev pub asks : Deed → Bool
asks (Asks op) = true
asks _ = false

abbrev pub IsRight : Own → Call → Type 0
IsRight s (Calls now r answer) = answer ≡ call_answer s r
IsRight s (Observes now path answer) = answer ≡ observe_answer s path
IsRight s (Cancels now number answer) = answer ≡ cancel_answer s number
IsRight s (Forgets number kept answer) = answer ≡ may_forget s number
IsRight s (Feeds now from bytes word up settled event sent token kept) = Unit {0}
IsRight s (Ticks now word below t sent token kept answer) = answer
    ≡ (not (is_idle t) || asks (effect s (Ticks now word below t sent token kept answer)).deed)
IsRight s (NextOut answer) = Unit {0}
IsRight s (NextReport answer) = answer ≡ slice_get s.reports 0
IsRight s (Asked answer) = answer ≡ s.asked

-- what a call reports
abbrev pub reports : Own → Call → Option Reported
reports s (Feeds now from bytes word up settled event sent token kept) =
    (close (max s.clock now) (effect s (Feeds now from bytes word up settled event sent token kept)) token).report
reports s (Ticks now word below t sent token kept answer) =
    (close (max s.clock now) (effect s (Ticks now word below t sent token kept answer)) token).report
reports s c = None

abbrev pub reporting : Effect → Own
reporting e = let s = e.own in record s { reports = s.reports ++ option_to_list e.report }

-- the request that is sent by an input, if one is
abbrev pub requested : Deed → Result (List ℕ) AskRefusal → Option Requested
requested (Asks op) (Ok token) = option_map (λ (number : ℕ). record { number = number; token = token })
    (operation_number op)
requested _ token = None

abbrev pub asking : Option Requested → Own → Own
asking request s = record s { asked = request }

abbrev pub after : Own → Call → Own
after s (Calls now r answer) = numbered (λ number. calling s.sizes number r) answer (at now s)
after s (Observes now path answer) = numbered (λ number. Registering number path) answer (at now s)
after s (Cancels now number answer) = cancelling number answer (at now s)
after s (Forgets number kept answer) = forgotten answer number s
after s (Feeds now from bytes word up settled event sent token kept) =
    let e = effect s (Feeds now from bytes word up settled event sent token kept) in
    asking (requested e.deed token) (reporting (close (max s.clock now) e token))
after s (Ticks now word below t sent token kept answer) =
    let e = effect s (Ticks now word below t sent token kept answer) in
    asking (requested e.deed token) (reporting (close (max s.clock now) e token))
after s (NextOut answer) = s
after s (NextReport answer) = record s { reports = drop 1 s.reports }
after s (Asked answer) = s
