-- What each call does to the exchange that runs, to the count of tokens and to the kept tokens.
use Rattle.std.proofs.Common.{◌≡◌, ℕ, max, Bool, false, Option, Some, None, List, Result, refl, ap, sym, subst}
use Rattle.std.proofs.Common.{◌∙◌, is_some}
use Rattle.std.specs.Option.{option_map}
use Rattle.coap_types.specs.declared.endpoint.Endpoint.{Endpoint}
use Rattle.coap_codec.specs.Message.{Message}
use Rattle.coap_layer.specs.Trace as L
use Rattle.coap_layer.specs.Words.{sent_by}
use Rattle.coap_exchange.specs.declared.asker.Event.{Event}
use Rattle.coap_exchange.specs.declared.asker.Event.TheVariants as event
use Rattle.coap_exchange.specs.declared.asker.Turn.{Turn}
use Rattle.coap_exchange.specs.declared.asker.Turn.TheVariants as turn
use Rattle.coap_exchange.specs.declared.asker.AskRefusal.{AskRefusal}
use Rattle.coap_exchange.specs.declared.matching.Opening.{Opening}
use Rattle.coap_exchange.specs.declared.matching.Opening.TheVariants.{Sends}
use Rattle.coap_exchange.specs.declared.matching.Verdict.{Verdict}
use Rattle.coap_exchange.specs.declared.matching.Verdict.TheVariants.{Ignore, Reject, Acknowledge, AnswerCon, Answer}
use Rattle.coap_exchange.specs.declared.matching.Verdict.TheVariants.{NoticeCon, Notice, Await, EndByReset}
use Rattle.coap_exchange.specs.declared.asker.Exchange.{Exchange}
use Rattle.coap_exchange.specs.AskerTrace.{Request, Own, Call, Ask, Receive, Ticks}
use Rattle.coap_exchange.specs.AskerSteps.{IsRight, after}
use Rattle.coap_exchange.specs.AskerRequests.{opening, opening_of, opened, sent_as, send_refusal, sent_answer}
use Rattle.coap_exchange.specs.AskerRequests.{ask_answer, request_token}
use Rattle.coap_exchange.specs.AskerArrivals.{told, verdict_on, running_after, turn_of, running_unless}
use Rattle.coap_exchange.specs.AskerFollows.{begun, answered, ends}
use Rattle.coap_exchange.specs.Tokens.{is_spent}
use Rattle.coap_exchange.proofs.Facts.Verdicts.{Fits, Answers, verdict_fits, TurnFits, turn_fits}
pub use Rattle.coap_exchange.specs.Machine.ExchangeMoves.{token_in, Moves, starts, stops, keeps, AskRow, refused, sent}

-- a request

module _ (s : Own) (r : Request) (below : L.Answer) (answer : Result (List ℕ) AskRefusal) where
  sends_row : opening_of s r ≡ Sends → (o : Option ℕ) → sent_by below ≡ o
      → answer ≡ ask_answer Sends below (request_token s r) → AskRow s r below answer
  sends_row is None e right = refused (send_refusal below)
      (right ∙ ap (λ o. sent_answer o (send_refusal below) (request_token s r)) e) (ap (λ w. sent_as w below) is ∙ e)
  sends_row is (Some id) e right = sent id (right ∙ ap (λ o. sent_answer o (send_refusal below) (request_token s r)) e)
      (ap (λ w. sent_as w below) is ∙ e) is e

  row_by : (o : Opening) → opening_of s r ≡ o → answer ≡ ask_answer (opening_of s r) below (request_token s r)
      → AskRow s r below answer
  row_by Sends is right = sends_row is (sent_by below) refl
      (right ∙ ap (λ w. ask_answer w below (request_token s r)) is)
  row_by _ is right = refused _ (right ∙ ap (λ w. ask_answer w below (request_token s r)) is)
      (ap (λ w. sent_as w below) is)

pub ask_row : (s : Own) (r : Request) (below : L.Answer) (answer : Result (List ℕ) AskRefusal)
    → answer ≡ ask_answer (opening_of s r) below (request_token s r) → AskRow s r below answer
ask_row s r below answer right = row_by s r below answer (opening_of s r) refl right

idle_if_sends : (running : Option Exchange) (spent cancel : Bool) → opening (is_some running) spent cancel ≡ Sends
    → running ≡ None
idle_if_sends None spent cancel h = refl
idle_if_sends (Some x) spent cancel h = absurd (cc h)

pub not_running : (s : Own) (r : Request) → opening_of s r ≡ Sends → s.running ≡ None
not_running s r h = idle_if_sends s.running (is_spent s.given) (is_some r.token) h

left_if_sends : (running spent : Bool) → opening running spent false ≡ Sends → spent ≡ false
left_if_sends false false h = refl
left_if_sends _ _ h = absurd (cc h)

pub not_spent : (s : Own) (r : Request) → r.token ≡ None → opening_of s r ≡ Sends → is_spent s.given ≡ false
not_spent s r none h = left_if_sends (is_some s.running) (is_spent s.given)
    (ap (λ t. opening (is_some s.running) (is_spent s.given) (is_some t)) (sym none) ∙ h)

-- what an ask leaves
pub opened_none : (s : Own) (r : Request) (below : L.Answer) → sent_as (opening_of s r) below ≡ None
    → opened s r (sent_as (opening_of s r) below) ≡ s
opened_none s r below h = ap (opened s r) h

pub opened_some : (s : Own) (r : Request) (below : L.Answer) (id : ℕ) → sent_as (opening_of s r) below ≡ Some id
    → opened s r (sent_as (opening_of s r) below) ≡ opened s r (Some id)
opened_some s r below id h = ap (opened s r) h

module _ (s : Own) where
  ask_moves : (now : ℕ) (r : Request) (word : ℕ) (below : L.Answer) (answer : Result (List ℕ) AskRefusal)
      → AskRow s r below answer
      → Moves s.running (opened s r (sent_as (opening_of s r) below)).running (Ask now r word below answer)
  ask_moves now r word below answer (refused e is none) =
      let c : Result (List ℕ) AskRefusal → Call = λ a. Ask now r word below a in
      keeps (ap (λ a. begun (c a)) is) (ap (λ a. ends (c a)) is) (ap (λ a. answered (c a)) is)
      (ap (λ (o : Own). token_in o.running) (opened_none s r below none))
  ask_moves now r word below answer (sent id is some opens by) =
      let c : Result (List ℕ) AskRefusal → Call = λ a. Ask now r word below a in
      starts (record { token = request_token s r; id = record { 0 = id }; acked = None; cancel = is_some r.token })
      (ap (λ a. begun (c a)) is) (ap (λ a. ends (c a)) is) (ap (λ a. answered (c a)) is) (not_running s r opens)
      (ap (λ (o : Own). o.running) (opened_some s r below id some))

  -- an arrival
  module _ (now : ℕ) (from : Endpoint) (bytes : List ℕ) (up : L.Answer) (settled : Bool) (answer : Option Event) where
    abbrev arrival : Option Event → Call
    arrival a = Receive now from bytes up settled a

    kept_on : (v : Verdict) → (answer ≡ None) → token_in (running_after (max s.clock now) v s.running)
        ≡ token_in s.running
        → Moves s.running (running_after (max s.clock now) v s.running) (arrival answer)
    kept_on v is same = keeps refl (ap (λ a. ends (arrival a)) is) (ap (λ a. answered (arrival a)) is) same

    noted : (v : Verdict) (m : Message) → (answer ≡ Some (event.Notice m))
        → token_in (running_after (max s.clock now) v s.running) ≡ token_in s.running
        → Moves s.running (running_after (max s.clock now) v s.running) (arrival answer)
    noted v m is same = keeps refl (ap (λ a. ends (arrival a)) is) (ap (λ a. answered (arrival a)) is) same

    answers : (v : Verdict) → (a : Answers s from up) → answer ≡ Some (event.Answer a.message)
        → running_after (max s.clock now) v s.running ≡ None
        → Moves s.running (running_after (max s.clock now) v s.running) (arrival answer)
    answers v a is none =
        stops a.exchange refl (ap (λ x. ends (arrival x)) is)
        (λ m h. let e : Some m ≡ Some a.message = sym h
        ∙ ap (λ x. answered (arrival x)) is in let k : m ≡ a.message = cc e in ap (λ (x : Message). x.token) k
        ∙ a.token) a.runs none

    acked_token : (running : Option Exchange) (at : ℕ)
        → token_in (option_map (λ (x : Exchange). record x { acked = Some (record { 0 = at }) }) running)
        ≡ token_in running
    acked_token None at = refl
    acked_token (Some x) at = refl

    receive_moves : (v : Verdict) → Fits s from up v → answer ≡ told v up
        → Moves s.running (running_after (max s.clock now) v s.running) (arrival answer)
    receive_moves Ignore f right = kept_on Ignore right refl
    receive_moves Reject f right = kept_on Reject right refl
    receive_moves Acknowledge f right = kept_on Acknowledge right refl
    receive_moves Await f right = kept_on Await right (acked_token s.running _)
    receive_moves NoticeCon f right = noted NoticeCon f.message (right ∙ ap (told NoticeCon) f.is) refl
    receive_moves Notice f right = noted Notice f.message (right ∙ ap (told Notice) f.is) refl
    receive_moves AnswerCon f right = answers AnswerCon f (right ∙ ap (told AnswerCon) f.is) refl
    receive_moves Answer f right = answers Answer f (right ∙ ap (told Answer) f.is) refl
    receive_moves EndByReset f right = stops f.2.exchange refl (ap (λ x. ends (arrival x)) right)
        (λ m h. let e : None ≡ Some m = sym (ap (λ x. answered (arrival x)) right) ∙ h in absurd (cc e)) f.2.runs refl

  tick_moves : (now : ℕ) (below : L.Answer) (t : Turn) → TurnFits s (max s.clock now) below t
      → Moves s.running (running_unless t s.running) (Ticks now below t)
  tick_moves now below turn.Idle f = keeps refl refl refl refl
  tick_moves now below turn.Copied f = keeps refl refl refl refl
  tick_moves now below (turn.End event.Timeout) f = stops f.3.exchange refl refl (λ m h. absurd (cc h)) f.3.runs refl
  tick_moves now below (turn.End event.NoResponse) f = stops f.0 refl refl (λ m h. absurd (cc h)) f.1 refl
  tick_moves now below _ f = absurd f

pub moves : (s : Own) (c : Call) → IsRight s c → Moves s.running (after s c).running c
moves s (Ask now r word below answer) right = ask_moves s now r word below answer (ask_row s r below answer right)
moves s (Receive now from bytes up settled answer) right =
    receive_moves s now from bytes up settled answer (verdict_on s from up) (verdict_fits s from up) right
moves s (Ticks now below answer) right =
    subst (λ a. Moves s.running (running_unless a s.running) (Ticks now below a)) (sym right)
    (tick_moves s now below (turn_of s (max s.clock now) below) (turn_fits s (max s.clock now) below))
moves s _ right = keeps refl refl refl refl
