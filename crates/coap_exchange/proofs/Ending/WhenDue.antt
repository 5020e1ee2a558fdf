-- The exchange that runs ends at the first tick at which it is due, over whole traces.
use Rattle.std.proofs.Common.{◌≡◌, ◌≢◌, inl, inr, ◌≤◌, ℕ, ◌*◌, ◌-◌, max, Bool, true, false, Option, Some, None, List}
use Rattle.std.proofs.Common.{[], ◌∷◌, Result, refl, ap, sym, subst, ◌∙◌, ◌&&◌, cond}
use Rattle.std.specs.Option.{option_map}
use Rattle.std.specs.Cmp.{unsigned_Decides}
use Rattle.coap_types.specs.declared.endpoint.Endpoint.{Endpoint}
use Rattle.coap_types.specs.declared.endpoint.Moment.{Moment}
use Rattle.coap_types.specs.declared.transmission.TheConstants.{EXCHANGE_LIFETIME_MS as exchange_lifetime}
use Rattle.coap_types.specs.declared.transmission.TheConstants.{FAILURE_TIMEOUTS as failure_timeouts}
use Rattle.coap_types.proofs.Facts.Endpoints.{same_endpoint_self}
use Rattle.coap_layer.specs.Machine.State as L
use Rattle.coap_layer.specs.Machine.State.{tick_of, is_failed, is_copy_due}
use Rattle.coap_layer.specs.Machine.Steps.{Steps}
use Rattle.coap_layer.specs.Trace as T
use Rattle.coap_layer.specs.Words.{Open}
use Rattle.std.proofs.lemmas.Bool.{le-leb}
use Rattle.coap_exchange.specs.declared.asker.Event.{Event}
use Rattle.coap_exchange.specs.declared.asker.Event.TheVariants as event
use Rattle.coap_exchange.specs.declared.asker.Turn.{Turn}
use Rattle.coap_exchange.specs.declared.asker.Turn.TheVariants as turn
use Rattle.coap_exchange.specs.declared.asker.AskRefusal.{AskRefusal}
use Rattle.coap_exchange.specs.declared.asker.Exchange.{Exchange}
use Rattle.coap_exchange.specs.declared.matching.Verdict.{Verdict}
use Rattle.coap_exchange.specs.declared.matching.Verdict.TheVariants.{Ignore, AnswerCon, Answer}
use Rattle.coap_exchange.specs.declared.matching.Verdict.TheVariants.{Await, EndByReset}
use Rattle.coap_exchange.specs.AskerTrace.{Request, Own, Call, Ask, Receive, Ticks}
use Rattle.coap_exchange.specs.AskerSteps.{IsRight, after, lower}
use Rattle.coap_exchange.specs.AskerRequests.{opening_of, opened, sent_as}
use Rattle.coap_exchange.specs.AskerArrivals.{has_id, is_of_request, verdict_on, turn_of, running_after, has_waited}
use Rattle.coap_exchange.specs.AskerArrivals.{acked_in}
use Rattle.coap_exchange.specs.AskerLaw.{own_of, lower_of, AskerLaw}
use Rattle.coap_exchange.specs.AskerDue.{last_acked, FailsWhenDue, EndWhenDue}
use Rattle.coap_exchange.specs.AskerFollows.{Begun, last_begun, moment}
use Rattle.coap_layer.proofs.Facts.StepsOfLayer.{steps_split}
use Rattle.coap_exchange.specs.Machine.Outstanding.{Lone, IsSent}
use Rattle.coap_exchange.proofs.Ending.NoEarlier.{fits}
use Rattle.coap_exchange.proofs.Facts.Moves as move
use Rattle.coap_exchange.proofs.Facts.Moves.{AskRow, ask_row, opened_none, opened_some}
use Rattle.coap_exchange.proofs.Facts.Verdicts.{Fits, verdict_fits}
use Rattle.coap_layer.specs.declared.setup.Setup.{Setup}

-- one tick

pub own_request : (s : Own) (x : Exchange) → s.running ≡ Some x → is_of_request s s.server x.id.0 ≡ true
own_request s x runs =
    let has : has_id s.running x.id.0 ≡ true = subst (λ r. has_id r x.id.0 ≡ true) (sym runs)
    ((unsigned_Decides x.id.0 x.id.0).1 refl) in
    ap (λ w. w && has_id s.running x.id.0) (same_endpoint_self s.server) ∙ has

fails : (s : Own) (x : Exchange) (at : ℕ) (c : Open) → s.running ≡ Some x → c.to ≡ s.server → c.id ≡ x.id.0
    → is_failed at c ≡ true → turn_of s at (tick_of at (c ∷ [])) ≡ turn.End event.Timeout
fails s x at c runs to_is id_is late =
    ap (λ b. turn_of s at (cond b (T.Expired c.to c.id) (cond (is_copy_due at c) (T.Copied c.to c.id) T.Idle))) late
    ∙ (ap (λ to. turn_of s at (T.Expired to c.id)) to_is
    ∙ (ap (λ id. turn_of s at (T.Expired s.server id)) id_is
    ∙ ap (λ b. cond b (turn.End event.Timeout) turn.Idle) (own_request s x runs)))

abbrev as_moment : ℕ → Moment
as_moment n = record { 0 = n }

gives_up : (s : Own) (x : Exchange) (at : ℕ) (acked : Moment) → s.running ≡ Some x → x.acked ≡ Some acked
    → exchange_lifetime ≤ at - acked.0 → turn_of s at (tick_of at []) ≡ turn.End event.NoResponse
gives_up s x at acked runs since late =
    ap (λ r. cond (has_waited at (acked_in r)) (turn.End event.NoResponse) turn.Idle) runs
    ∙ (ap (λ a. cond (has_waited at a) (turn.End event.NoResponse) turn.Idle) since
    ∙ ap (λ b. cond b (turn.End event.NoResponse) turn.Idle) (le-leb exchange_lifetime (at - acked.0) late))

module _ (s : Own) (b : Option Begun) (at : ℕ) (cs : List Open) (x : Exchange) (runs : s.running ≡ Some x)
    (lone : Lone s.server s.running b cs) where
  here : Lone s.server (Some x) b cs
  here = subst (λ r. Lone s.server r b cs) runs lone

  pub ends_heard : (acked : Moment) → x.acked ≡ Some acked → exchange_lifetime ≤ at - acked.0
      → turn_of s at (tick_of at cs) ≡ turn.End event.NoResponse
  ends_heard acked since late = elim here [
    | inl z ↦ absurd (cc (since, z.unheard))
    | inr z ↦ ap (λ ds. turn_of s at (tick_of at ds)) z.none ∙ gives_up s x at acked runs since late
  ]

  pub unheard_is_sent : x.acked ≡ None → IsSent s.server x b cs
  unheard_is_sent none = elim here [
    | inl z ↦ z
    | inr z ↦ absurd (cc (none, z.since))
  ]

  pub ends_unheard : (z : IsSent s.server x b cs) → z.begun.timeout * failure_timeouts ≤ at - z.begun.at
      → turn_of s at (tick_of at cs) ≡ turn.End event.Timeout
  ends_unheard z late =
      let timed : z.con.timeout * failure_timeouts ≤ at - z.begun.at =
      subst (λ w. w * failure_timeouts ≤ at - z.begun.at) (sym z.timeout) late in
      let due : z.con.timeout * failure_timeouts ≤ at - z.con.first =
      subst (λ w. z.con.timeout * failure_timeouts ≤ at - w) (sym z.first) timed in
      ap (λ ds. turn_of s at (tick_of at ds)) z.only
      ∙ fails s x at z.con runs z.to_is z.id_is (le-leb (z.con.timeout * failure_timeouts) (at - z.con.first) due)

module _ (server : Endpoint) (setup : Setup) where
  -- when the request was acknowledged
  abbrev Since : List Call → Own → Type 0
  Since t s = (x : Exchange) → s.running ≡ Some x → x.acked ≡ last_acked server setup t

  module _ (t : List Call) (known : Since t (own_of server setup t)) where
    abbrev s : Own
    s = own_of server setup t

    asked_since : (now w : ℕ) (r : Request) (below : T.Answer) (answer : Result (List ℕ) AskRefusal)
        → AskRow s r below answer → Since (Ask now r w below answer ∷ t) (opened s r (sent_as (opening_of s r) below))
    asked_since now w r below answer (move.refused e is none) x runs =
        known x (ap (λ (o : Own). o.running) (sym (opened_none s r below none)) ∙ runs)
        ∙ sym (ap (λ a. last_acked server setup (Ask now r w below a ∷ t)) is)
    asked_since now w r below answer (move.sent id is some opens by) x runs =
        let e : (opened s r (Some id)).running ≡ Some x =
        ap (λ (o : Own). o.running) (sym (opened_some s r below id some)) ∙ runs in
        ap acked_in (sym e) ∙ sym (ap (λ a. last_acked server setup (Ask now r w below a ∷ t)) is)

    module _ (now : ℕ) (from : Endpoint) (bytes : List ℕ) (settled : Bool) (answer : Option Event) where
      abbrev then_acked : T.Answer → Option Moment
      then_acked up = last_acked server setup (Receive now from bytes up settled answer ∷ t)

      other_acked : (id : ℕ) (b : Bool) → is_of_request s from id ≡ b
          → verdict_on s from (T.Becomes (T.Acked id)) ≢ Await
          → then_acked (T.Becomes (T.Acked id)) ≡ last_acked server setup t
      other_acked id true is not_await = absurd (not_await (ap (λ b. cond b Await Ignore) is))
      other_acked id false is not_await = ap (λ b. cond b (Some (as_moment (moment server setup t now)))
          (last_acked server setup t)) is

      still_acked : (up : T.Answer) → verdict_on s from up ≢ Await → then_acked up ≡ last_acked server setup t
      still_acked (T.Becomes (T.Acked id)) not_await = other_acked id (is_of_request s from id) refl not_await
      still_acked _ not_await = refl

      acked_now : (id : ℕ) (b : Bool) → is_of_request s from id ≡ b → verdict_on s from (T.Becomes (T.Acked id)) ≡ Await
          → then_acked (T.Becomes (T.Acked id)) ≡ Some (as_moment (moment server setup t now))
      acked_now id true is await = ap (λ b. cond b (Some (as_moment (moment server setup t now)))
          (last_acked server setup t)) is
      acked_now id false is await = let e : verdict_on s from (T.Becomes (T.Acked id))
          ≡ Ignore = ap (λ b. cond b Await Ignore) is in absurd (cc (e, await))

      heard_at : (running : Option Exchange) (at : ℕ) (x : Exchange)
          → option_map (λ (y : Exchange). record y { acked = Some (as_moment at) }) running ≡ Some x
          → x.acked ≡ Some (as_moment at)
      heard_at None at x h = absurd (cc h)
      heard_at (Some y) at x h = ap acked_in (sym h)

      as_before : (up : T.Answer) → verdict_on s from up ≢ Await → (x : Exchange) → s.running ≡ Some x
          → x.acked ≡ then_acked up
      as_before up not_await x runs = known x runs ∙ sym (still_acked up not_await)

      received_since : (up : T.Answer) (v : Verdict) → verdict_on s from up ≡ v → Fits s from up v → (x : Exchange)
          → running_after (moment server setup t now) v s.running ≡ Some x → x.acked ≡ then_acked up
      received_since up AnswerCon is f x runs = absurd (cc runs)
      received_since up Answer is f x runs = absurd (cc runs)
      received_since up EndByReset is f x runs = absurd (cc runs)
      received_since up Await is f x runs =
          let await : verdict_on s from (T.Becomes (T.Acked f.0))
          ≡ Await = subst (λ u. verdict_on s from u ≡ Await) f.1 is in
          heard_at s.running (moment server setup t now) x runs
          ∙ sym (ap then_acked f.1 ∙ acked_now f.0 (is_of_request s from f.0) refl await)
      received_since up _ is f x runs = as_before up (λ e. cc (is, e)) x runs

    ticked_since : (now : ℕ) (below : T.Answer) (answer : Turn)
        → Since (Ticks now below answer ∷ t) (after s (Ticks now below answer))
    ticked_since now below (turn.End e) x runs = absurd (cc runs)
    ticked_since now below _ x runs = known x runs

    since_next : (c : Call) → IsRight s c → Since (c ∷ t) (after s c)
    since_next (Ask now r w below answer) right = asked_since now w r below answer (ask_row s r below answer right)
    since_next (Receive now from bytes up settled answer) right =
        received_since now from bytes settled answer up (verdict_on s from up) refl (verdict_fits s from up)
    since_next (Ticks now below answer) right = ticked_since now below answer
    since_next _ right = known

  since : (t : List Call) → AskerLaw server setup t → Since t (own_of server setup t)
  since [] law = λ x runs. absurd (cc runs)
  since (c ∷ t) law = since_next t (since t law.1) c law.0

  -- the ends
  module _ (t : List Call) (now : ℕ) (below : T.Answer) (answer : Turn)
      (law : AskerLaw server setup (Ticks now below answer ∷ t)) (h : L.State)
      (steps : Steps (L.start setup) (lower_of server setup (Ticks now below answer ∷ t)) h) (x : Exchange) where
    abbrev own : Own
    own = own_of server setup t

    answer_is : answer ≡ turn_of own (moment server setup t now) (tick_of (moment server setup t now) steps.0.open_cons)
    answer_is =
        let old = fits server setup t law.1 steps.0 steps.1 in
        law.0 ∙ ap (turn_of own (moment server setup t now))
        (steps.2.right ∙ ap (λ z. tick_of (max z now) steps.0.open_cons) old.clock)

    fails_when_due : own.running ≡ Some x → x.acked ≡ None → FailsWhenDue server setup t now answer
    fails_when_due runs none =
        let old = fits server setup t law.1 steps.0 steps.1 in
        let z = unheard_is_sent own (last_begun server setup t)
        (moment server setup t now) steps.0.open_cons x runs old.lone none in
        record {
          begun = z.begun;
          last = z.last;
          ends = λ late. answer_is
              ∙ ends_unheard own (last_begun server setup t)
              (moment server setup t now) steps.0.open_cons x runs old.lone z late;
        }

    gives_up_when_due : (acked : Moment) → own.running ≡ Some x → x.acked ≡ Some acked
        → exchange_lifetime ≤ moment server setup t now - acked.0 → answer ≡ turn.End event.NoResponse
    gives_up_when_due acked runs heard late =
        let old = fits server setup t law.1 steps.0 steps.1 in
        answer_is ∙ ends_heard own (last_begun server setup t)
        (moment server setup t now) steps.0.open_cons x runs old.lone acked heard late

  pub when_due : (t : List Call) → AskerLaw server setup t → (h : L.State)
      → Steps (L.start setup) (lower_of server setup t) h → EndWhenDue server setup t
  when_due [] law h steps = tt
  when_due (c ∷ t) law h steps =
      let parts = steps_split (L.start setup) h (lower (own_of server setup t) c) (lower_of server setup t) steps in (
        record {
          unheard = λ now below answer x is runs none.
              fails_when_due t now below answer (subst (λ d. AskerLaw server setup (d ∷ t)) is law) h
              (subst (λ d. Steps (L.start setup) (lower_of server setup (d ∷ t)) h) is steps) x runs none;
          heard = λ now below answer x acked is runs heard late.
              gives_up_when_due t now below answer (subst (λ d. AskerLaw server setup (d ∷ t)) is law) h
              (subst (λ d. Steps (L.start setup) (lower_of server setup (d ∷ t)) h) is steps) x acked runs heard late;
          acked = since t law.1;
        },
        when_due t law.1 parts.0 parts.1,
      )
