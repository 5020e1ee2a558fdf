-- The calls of the client's side, as the code makes them of the layer's.
use Rattle.std.proofs.Common.{◌≡◌, ℕ, max, Bool, true, false, Option, Some, None, List, [], ◌∷◌, ◌++◌, refl, ap, subst}
use Rattle.std.proofs.Common.{◌∙◌, is_some, if◌then◌else◌}
use Rattle.coap_types.specs.declared.endpoint.Endpoint.{Endpoint}
use Rattle.coap_types.specs.declared.message.Kind.{Kind}
use Rattle.coap_types.specs.declared.message.Kind.TheVariants.{Con}
use Rattle.coap_codec.specs.Message.{Message}
use Rattle.coap_layer.specs.Machine.State as L
use Rattle.coap_layer.specs.Machine.Steps.{Steps}
use Rattle.coap_layer.specs.Trace as T
use Rattle.coap_layer.specs.Words.{handed_by, is_kept}
use Rattle.coap_exchange.specs.declared.asker.Event.{Event}
use Rattle.coap_exchange.specs.declared.asker.Exchange.{Exchange}
use Rattle.coap_exchange.specs.declared.asker.Turn.{Turn}
use Rattle.coap_exchange.specs.declared.held.Held.{Held}
use Rattle.coap_exchange.specs.declared.matching.Known.{Known}
use Rattle.coap_exchange.specs.declared.matching.Verdict.{Verdict}
use Rattle.coap_exchange.specs.declared.matching.Verdict.TheVariants.{Ignore, Reject, Acknowledge, AnswerCon}
use Rattle.coap_exchange.specs.declared.matching.Verdict.TheVariants.{NoticeCon, Await, EndByReset}
use Rattle.coap_exchange.specs.AskerArrivals.{known_of, is_of_request, verdict_on, id_in, reply_by, settles, replying}
use Rattle.coap_exchange.specs.AskerArrivals.{settling, acts, told, running_after, turn_of, running_unless}
use Rattle.coap_exchange.specs.AskerLaw.{State, Step}
use Rattle.coap_exchange.specs.AskerRequests.{asked}
use Rattle.coap_exchange.specs.Machine.AskerShown.{own_with, state_of}
use Rattle.coap_exchange.specs.AskerTrace.{Own, Receive, Ticks}
use Rattle.coap_exchange.specs.Matching.{judged, request_judged}
use Rattle.coap_exchange.proofs.Facts.Verdicts.{Judged, judged_by}
use Rattle.coap_exchange.proofs.Ending.RequestIsOutstanding.{replying_opens, settling_opens}
use Rattle.coap_layer.proofs.Facts.StepsOfLayer.{steps_join, steps_split}
use Rattle.coap_layer.proofs.Facts.CallsOfLayer.{step_clock}

-- what is answered was handed up

kept_where : (kind : Kind) (k : Known) (v : Verdict) → Judged kind k v → (id : ℕ) → is_some (reply_by v id) ≡ true
    → is_kept kind ≡ true
kept_where kind k Reject r id h = r
kept_where kind k Acknowledge r id h = ap is_kept r
kept_where kind k AnswerCon r id h = ap is_kept r.0
kept_where kind k NoticeCon r id h = ap is_kept r.0
kept_where kind k _ r id h = absurd (cc h)

request_replies : (kind : Kind) (id : ℕ) → is_some (reply_by (request_judged kind) id) ≡ true → is_kept kind ≡ true
request_replies Con id h = refl
request_replies _ id h = absurd (cc h)

either_quiet : (b : Bool) (v : Verdict) (id : ℕ) → reply_by v id ≡ None
    → is_some (reply_by (if b then v else Ignore) id) ≡ true → ⊥
either_quiet true v id e h = let k : is_some (reply_by v id) ≡ false = ap is_some e in cc (h, k)
either_quiet false v id e h = cc h

pub replied : (s : Own) (from : Endpoint) (up : T.Answer) → is_some (reply_by (verdict_on s from up) (id_in up)) ≡ true
    → (m : Message) × (handed_by up ≡ Some m) × (m.id ≡ id_in up)
replied s from (T.Becomes (T.Response m)) h =
    let k = known_of s from m in
    let kept : is_kept m.kind ≡ true = kept_where m.kind k (judged m.kind k) (judged_by m.kind k) m.id h in
    (m, rw kept refl, refl)
replied s from (T.Becomes (T.Request m k)) h = (m, refl, refl)
replied s from (T.Becomes (T.Acked id)) h = absurd (either_quiet (is_of_request s from id) Await 0 refl h)
replied s from (T.Becomes (T.Reset id)) h = absurd (either_quiet (is_of_request s from id) EndByReset 0 refl h)
replied s from _ h = absurd (cc h)

-- an arrival

module _ (l : L.State) (server : Endpoint) (word : ℕ) (held : Held) where
  abbrev s : Own
  s = own_with l.clock server word held

  abbrev left : Option Exchange → Held
  left running = record { given = held.given; running = running; kept = held.kept }

  own_same : (a b : ℕ) (x y : Option Exchange) → a ≡ b → x ≡ y
      → own_with a server word (left x) ≡ own_with b server word (left y)
  own_same a b x y e f = ap (λ c. own_with c server word (left x)) e ∙ ap (λ r. own_with b server word (left r)) f

  pub received : (mid h : L.State) (now : ℕ) (from : Endpoint) (bytes : List ℕ) (up : T.Answer) (settled : Bool)
      (v : Verdict) (id at : ℕ) (running : Option Exchange) (event : Option Event)
      → L.Step l now (T.Receive from bytes) up mid → v ≡ verdict_on s from up → id ≡ id_in up → at ≡ mid.clock
      → Steps mid (settling (settles v) server held.running settled ++ replying from id (reply_by v id)) h
      → running ≡ running_after at v held.running → event ≡ told v up
      → Step (state_of l server word held) (Receive now from bytes up settled event)
      (state_of h server word (left running))
  received mid h now from bytes up settled v id at running event arrival v_is id_is at_is steps running_is event_is =
      let w = verdict_on s from up in
      let all : Steps mid (acts s from up settled w) h =
      subst (λ n. Steps mid (settling (settles w) server held.running settled ++ replying from n (reply_by w n)) h)
      id_is
      (subst (λ x. Steps mid (settling (settles x) server held.running settled ++ replying from id (reply_by x id)) h)
      v_is steps) in
      let parts = steps_split mid h (settling (settles w) server held.running settled)
      (replying from (id_in up) (reply_by w (id_in up))) all in
      let first : mid.clock ≡ max l.clock now = step_clock l mid now (T.Receive from bytes) up arrival in
      let clock : h.clock ≡ max l.clock now =
      (settling_opens (settles w) server held.running settled parts.0 h parts.2).0
      ∙ ((replying_opens from (id_in up) (reply_by w (id_in up)) mid parts.0 parts.1).0 ∙ first) in
      record {
        right = event_is ∙ ap (λ x. told x up) v_is;
        own_is = own_same h.clock (max l.clock now) running (running_after (max l.clock now) w held.running) clock
            (running_is ∙ (ap (λ n. running_after n v held.running) (at_is ∙ first)
            ∙ ap (λ x. running_after (max l.clock now) x held.running) v_is));
        under = steps_join l mid h (acts s from up settled w) (asked now (T.Receive from bytes) up ∷ [])
            (l, refl, arrival) all;
      }

  pub received_old : (old : State) → state_of l server word held ≡ old
      → (mid h : L.State) (now : ℕ) (from : Endpoint) (bytes : List ℕ) (up : T.Answer) (settled : Bool) (v : Verdict)
      (id at : ℕ) (running : Option Exchange) (event : Option Event)
      → L.Step l now (T.Receive from bytes) up mid → v ≡ verdict_on s from up → id ≡ id_in up → at ≡ mid.clock
      → Steps mid (settling (settles v) server held.running settled ++ replying from id (reply_by v id)) h
      → running ≡ running_after at v held.running → event ≡ told v up
      → Step old (Receive now from bytes up settled event) (state_of h server word (left running))
  received_old old is mid h now from bytes up settled v id at running event a b c d e f g =
      subst (λ o. Step o (Receive now from bytes up settled event) (state_of h server word (left running))) is
      (received mid h now from bytes up settled v id at running event a b c d e f g)

  -- a tick
  pub ticked : (h : L.State) (now : ℕ) (below : T.Answer) (at : ℕ) (running : Option Exchange) (turn : Turn)
      → L.Step l now T.Ticks below h → at ≡ h.clock → turn ≡ turn_of s at below
      → running ≡ running_unless turn held.running
      → Step (state_of l server word held) (Ticks now below turn) (state_of h server word (left running))
  ticked h now below at running turn step at_is turn_is running_is =
      let clock : h.clock ≡ max l.clock now = step_clock l h now T.Ticks below step in
      record {
        right = turn_is ∙ ap (λ n. turn_of s n below) (at_is ∙ clock);
        own_is = own_same h.clock (max l.clock now) running (running_unless turn held.running) clock running_is;
        under = (l, refl, step);
      }

  pub ticked_old : (old : State) → state_of l server word held ≡ old
      → (h : L.State) (now : ℕ) (below : T.Answer) (at : ℕ) (running : Option Exchange) (turn : Turn)
      → L.Step l now T.Ticks below h → at ≡ h.clock
      → turn ≡ turn_of s at below → running ≡ running_unless turn held.running
      → Step old (Ticks now below turn) (state_of h server word (left running))
  ticked_old old is h now below at running turn a b c d =
      subst (λ o. Step o (Ticks now below turn) (state_of h server word (left running))) is
      (ticked h now below at running turn a b c d)
