-- What each call of a server answers, and what it leaves (RFC 7252, sections 5.2 and 5.8; RFC 7641, section 4; RFC
-- 7959, section 2).
use Rattle.std.specs.Prelude.{◌≡◌, ℕ, max, Option, Some, None, List, [], ◌∷◌, length}
use Rattle.coap_codec.specs.Message.{Message}
use Rattle.coap_types.specs.declared.endpoint.Endpoint.{Endpoint}
use Rattle.coap_block.specs.AssemblyState.{AssemblyState, without_peer}
use Rattle.coap_observe.specs.Observers.{Observer, elsewhere}
use Rattle.coap_resource.specs.Content.{Content, put_refusal}
use Rattle.coap_resource.specs.Rate.{rate_refusal}
use Rattle.coap_exchange.specs.declared.answerer.Asked.{Asked}
use Rattle.coap_exchange.specs.declared.answerer.Due.{Due}
use Rattle.coap_exchange.specs.declared.answerer.Due.TheVariants as due
use Rattle.coap_exchange.specs.Above.{sum_of}
use Rattle.coap_exchange.specs.AnswererSteps.{asked_in}
use Rattle.coap_exchange.specs.AnswererSteps as P
use Rattle.coap_exchange.specs.AnswererTrace as E
use Rattle.coap_server.specs.Trace.{Waiting, Applied, Own, Handling, Serves, Notifies, Call, Sets}
use Rattle.coap_server.specs.Trace.{Removes, Delays, Plains, Feeds, Refuses, Ticks, NextOut, Gets, TellsApplied}
use Rattle.coap_server.specs.Trace.{Forgets}
use Rattle.coap_server.specs.Checks.{verdict_on}
use Rattle.coap_server.specs.Refusing.{IsRefused, refusing}
use Rattle.coap_server.specs.Uploads.{uploads_after}
use Rattle.coap_server.specs.Observers.{marked_if}
use Rattle.coap_server.specs.Serving.{observers_served, applied_by}
use Rattle.coap_server.specs.Deferring.{may_delay, delays_with, waiting_elsewhere, waiting_with, without_waiting}
use Rattle.coap_server.specs.Notifying.{notified}
use Rattle.coap_server.specs.Plain.{by_plain, may_be_plain, plains_with}
use Rattle.coap_server.specs.Local.{SetsBy, RemovesBy}
use Rattle.coap_server.specs.Handling.{incoming, ticking, heard, HandlesCame, HandlesDue, is_done}
use Rattle.coap_server.specs.Asks.{answering, responding}

-- each call has its row
abbrev pub IsRight : Own → Call → Type 0
IsRight s (Sets now path format body answer left) =
    SetsBy (put_refusal s.store (max s.clock now) path (length body)) s.store
    (max s.clock now) path format body answer left
IsRight s (Removes now path answer left) =
    RemovesBy (s.store.holds path) (rate_refusal s.store.tally (max s.clock now)) s.store
    (max s.clock now) path answer left
IsRight s (Delays path ms answer) = answer ≡ may_delay path s.delays
IsRight s (Plains path answer) = answer ≡ may_be_plain path s.plains
IsRight s (Feeds now from bytes word up came h below) =
    HandlesCame (heard s now (incoming s now from bytes up came)) came h
IsRight s (Refuses now from bytes word code up p response below) = IsRefused code p.1 response
IsRight s (Ticks now word below room d passed h id answer) =
    HandlesDue (heard s now (ticking s now below room d)) d passed h × (answer ≡ is_done d h)
IsRight s (NextOut answer) = Unit {0}
IsRight s (Gets path answer) = answer ≡ s.store.holds path
IsRight s (TellsApplied answer) = answer ≡ s.applied
IsRight s (Forgets peer) = Unit {0}

-- what is left of each part, by the request that is served, and whose it is

abbrev pub store_after : Handling → Content → Content
store_after (Serves q reply left) old = left
store_after _ old = old

abbrev pub observers_after : ℕ → Content → Option Asked → Handling → List Observer → List Observer
observers_after at old (Some a) (Serves q reply left) os = observers_served at old a q reply left os
observers_after at old a _ os = os

abbrev pub applied_after : Content → Option Asked → Handling → List Applied
applied_after old (Some a) (Serves q reply left) = applied_by old a q reply left
applied_after old a _ = []

abbrev pub handled : Own → Option Asked → Handling → Own
handled s a h = record s {
  store = store_after h s.store;
  observers = observers_after s.clock s.store a h s.observers;
  applied = applied_after s.store a h;
}

-- by the request that arrives, and by the one that is ready

abbrev pub uploads_came : ℕ → ℕ → Option (Asked × Message) → AssemblyState → AssemblyState
uploads_came szx at None uploads = uploads
uploads_came szx at (Some p) uploads = uploads_after at p.0 (verdict_on szx p.1) uploads

abbrev pub waiting_came : ℕ → Option (Asked × Message) → Handling → List Waiting → List Waiting
waiting_came at None h ws = ws
waiting_came at (Some p) h ws = waiting_with at p.0 h ws

abbrev pub ready_in : Due → Option Asked
ready_in (due.Ready a) = Some a
ready_in _ = None

abbrev pub waiting_due : ℕ → Option Asked → List Waiting → List Waiting
waiting_due at None ws = ws
waiting_due at (Some a) ws = without_waiting at a ws

-- by what is asked of the exchanges
abbrev pub exchanges_after : E.Own → List E.Call → E.Own
exchanges_after s calls = sum_of s P.after calls

abbrev pub came_after : Own → Option (Asked × Message) → Handling → List E.Call → Own
came_after s came h asks =
    record (handled s (asked_in came) h) {
      exchanges = exchanges_after s.exchanges asks;
      uploads = uploads_came s.szx s.clock came s.uploads;
      waiting = waiting_came s.clock came h s.waiting;
    }

-- .. and by the notification, with this Message ID
abbrev pub observers_due : Own → Due → Handling → ℕ → List Observer
observers_due s d (Notifies o reply) id = notified (by_plain s o) s.clock id (s.store.holds o.path) o s.observers
observers_due s d h id = observers_after s.clock s.store (ready_in d) h s.observers

abbrev pub due_after : Own → Due → Handling → ℕ → List E.Call → Own
due_after s d h id asks =
    record (handled s (ready_in d) h) {
      exchanges = exchanges_after s.exchanges asks;
      observers = observers_due s d h id;
      waiting = waiting_due s.clock (ready_in d) s.waiting;
    }

-- a request that is refused leaves the store, the uploads and the observers as they were
abbrev pub refused_after : Own → ℕ → E.Call → List E.Call → Own
refused_after s now first asks =
    record s {
      clock = max s.clock now;
      exchanges = exchanges_after (P.after s.exchanges first) asks;
      applied = [];
    }

-- a peer that never comes again leaves what is of others
abbrev pub forgotten_after : Own → Endpoint → List E.Call → Own
forgotten_after s peer asks =
    record s {
      exchanges = exchanges_after s.exchanges asks;
      uploads = without_peer peer s.uploads;
      observers = elsewhere peer s.observers;
      waiting = waiting_elsewhere peer s.waiting;
    }

abbrev pub after : Own → Call → Own
after s (Sets now path format body answer left) =
    record s {
      clock = max s.clock now;
      store = left;
      observers = marked_if (max s.clock now) path s.store left
          s.observers;
    }
after s (Removes now path answer left) =
    record s {
      clock = max s.clock now;
      store = left;
      observers = marked_if (max s.clock now) path s.store left
          s.observers;
    }
after s (Delays path ms answer) = record s { delays = delays_with path ms answer s.delays }
after s (Plains path answer) = record s { plains = plains_with path answer s.plains }
after s (Feeds now from bytes word up came h below) =
    came_after (heard s now (incoming s now from bytes up came)) came h
    (answering (heard s now (incoming s now from bytes up came)) came h below)
after s (Refuses now from bytes word code up p response below) =
    refused_after s now (incoming s now from bytes up (Some p)) (refusing p.0 response below)
after s (Ticks now word below room d passed h id answer) =
    due_after (heard s now (ticking s now below room d)) d h id
    (responding (heard s now (ticking s now below room d)) d passed h word id)
after s (NextOut answer) = record s { exchanges = exchanges_after s.exchanges (E.Take answer ∷ []) }
after s (Gets path answer) = s
after s (TellsApplied answer) = s
after s (Forgets peer) = forgotten_after s peer (E.Forgets peer ∷ [])
