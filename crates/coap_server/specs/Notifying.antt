-- Which observer is notified next, and of what (RFC 7641, sections 4.2, 4.4 and 4.5; RFC 7959, section 2.6).
use Rattle.std.specs.Prelude.{◌≡◌, ℕ, zero, suc, Bool, true, false, Option, Some, None, List, [], ◌∷◌, ◌++◌, filter}
use Rattle.coap_types.specs.declared.request.Method.TheVariants.{Get}
use Rattle.coap_observe.specs.Observers.{Observer, noted_to, removed, sent_to}
use Rattle.coap_resource.specs.Content.{Content, Held}
use Rattle.coap_resource.specs.Serves.{Question, Reply, got}
use Rattle.coap_exchange.specs.AnswererTrace as E
use Rattle.coap_server.specs.Trace.{Handling, Silent, Notifies}
use Rattle.coap_server.specs.Responses.{response_with}
use Rattle.coap_server.specs.Observers.{sequence}

-- those to which a notification is due, in order of registration
abbrev pub marked : List Observer → List Observer
marked os = filter (λ o. o.marked) os

-- The first of them to whose endpoint no CON is outstanding, behind so many to whose one is; and what is asked of the
-- exchanges about them, the newest first.
abbrev pub behind : ℕ → List Observer → Option Observer
behind passed [] = None
behind zero (o ∷ os) = Some o
behind (suc passed) (o ∷ os) = behind passed os

abbrev pub readies : ℕ → ℕ → List Observer → List E.Call
readies at passed [] = []
readies at zero (o ∷ os) = E.Ready at o.to true ∷ []
readies at (suc passed) (o ∷ os) = readies at passed os ++ E.Ready at o.to false ∷ []

-- It is told what a GET without options is answered now, with the block size of its registration.
abbrev pub asks_for : Observer → Question
asks_for o = record { method = Get; path = o.path; options = []; body = []; szx = o.szx }

abbrev pub told : Content → Observer → Reply
told store o = got (store.holds o.path) (asks_for o)

abbrev pub NotifiesNext : Option Observer → Content → Handling → Type 0
NotifiesNext None store h = h ≡ Silent
NotifiesNext (Some o) store h = h ≡ Notifies o (told store o)

-- with Observe; a 4.04 where the path holds nothing, and that ends the registration ..
abbrev pub notification : Content → Observer → Reply → E.Response
notification store o reply = response_with reply (sequence (store.holds o.path)) None

-- .. else nothing is due to it any more, and of what went in a NON the Message ID is kept
abbrev pub notified : Bool → ℕ → ℕ → Option Held → Observer → List Observer → List Observer
notified plain at id None o os = removed o.to o.token os
notified true at id (Some held) o os = sent_to at o.to o.token false (noted_to at o.to o.token id os)
notified false at id (Some held) o os = sent_to at o.to o.token true os
