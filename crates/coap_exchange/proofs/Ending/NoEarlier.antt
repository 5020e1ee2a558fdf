-- A Timeout and NoResponse come in time, over whole traces.
use Rattle.std.proofs.Common.{◌≡◌, ◌≤◌, ℕ, ◌*◌, ◌-◌, max, Bool, true, Option, Some, None, List, [], ◌∷◌, ◌++◌, Result}
use Rattle.std.proofs.Common.{refl, ap, sym, subst, ◌∙◌}
use Rattle.coap_types.specs.declared.endpoint.Endpoint.{Endpoint}
use Rattle.coap_types.specs.declared.endpoint.Moment.{Moment}
use Rattle.coap_types.specs.declared.transmission.TheConstants.{EXCHANGE_LIFETIME_MS as exchange_lifetime}
use Rattle.coap_types.specs.declared.transmission.TheConstants.{FAILURE_TIMEOUTS as failure_timeouts}
use Rattle.coap_layer.specs.Machine.State as L
use Rattle.coap_layer.specs.Machine.State.{out_of}
use Rattle.coap_layer.specs.Machine.Steps.{Steps}
use Rattle.coap_layer.specs.Trace as T
use Rattle.std.proofs.lemmas.Bool.{leb-true}
use Rattle.coap_exchange.specs.declared.asker.Event.TheVariants as event
use Rattle.coap_exchange.specs.declared.asker.Turn.{Turn}
use Rattle.coap_exchange.specs.declared.asker.Turn.TheVariants as turn
use Rattle.coap_exchange.specs.declared.asker.AskRefusal.{AskRefusal}
use Rattle.coap_exchange.specs.AskerTrace.{Request, Own, Call, Ask, Receive, Ticks, Keep, Release, Take}
use Rattle.coap_exchange.specs.AskerSteps.{after, lower}
use Rattle.coap_exchange.specs.AskerRequests.{asked, opening_of, sent_as, request_token, content_of}
use Rattle.coap_exchange.specs.AskerArrivals.{verdict_on, id_in, reply_by, settles, replying, settling, acts}
use Rattle.coap_exchange.specs.AskerArrivals.{running_after, running_unless, turn_of, has_waited}
use Rattle.coap_exchange.specs.AskerLaw.{own_of, lower_of, AskerLaw}
use Rattle.coap_exchange.specs.AskerFollows.{last_begun, TimesOut, GivesUp, EndInTime}
use Rattle.coap_layer.proofs.Facts.StepsOfLayer.{steps_split}
use Rattle.coap_layer.specs.Machine.Calls.{opens_then, entry_of}
use Rattle.coap_layer.proofs.Facts.CallsOfLayer.{step_clock, step_opens, left_same_nil}
use Rattle.coap_exchange.specs.Machine.Outstanding.{IsBeneath, Lone}
use Rattle.coap_exchange.proofs.Ending.LoneRequest.{failed}
use Rattle.coap_exchange.proofs.Ending.RequestIsOutstanding.{Opens, ask_opens, refused_lone, sent_lone, settled_opens}
use Rattle.coap_exchange.proofs.Ending.RequestIsOutstanding.{replying_opens, settling_opens, left_by_verdict}
use Rattle.coap_exchange.proofs.Ending.RequestIsOutstanding.{turned_lone}
use Rattle.coap_exchange.proofs.Facts.Verdicts.{verdict_fits, TurnFits, turn_fits}
use Rattle.coap_exchange.proofs.Facts.Moves as move
use Rattle.coap_exchange.proofs.Facts.Moves.{AskRow, ask_row}
use Rattle.coap_layer.specs.declared.setup.Setup.{Setup}

module _ (server : Endpoint) (setup : Setup) where
  module _ (t : List Call) (mid : L.State) (old : IsBeneath server setup t mid) (h : L.State) where
    abbrev s : Own
    s = own_of server setup t

    asked_fits : (now w : ℕ) (r : Request) (below : T.Answer) (answer : Result (List ℕ) AskRefusal)
        → AskRow s r below answer → Opens mid h now s.server (content_of (request_token s r) r) w
        (sent_as (opening_of s r) below)
        → IsBeneath server setup (Ask now r w below answer ∷ t) h
    asked_fits now w r below answer (move.refused e is none) o = record {
      clock = o.clock ∙ ap (λ z. max z now) old.clock;
      lone = subst (λ a. Lone (after s (Ask now r w below answer)).server (after s (Ask now r w below answer)).running
          (last_begun server setup (Ask now r w below a ∷ t)) h.open_cons) (sym is)
          (refused_lone s r now w below mid h (last_begun server setup t) none o old.lone);
    }
    asked_fits now w r below answer (move.sent id is some opens by) o = record {
      clock = o.clock ∙ ap (λ z. max z now) old.clock;
      lone = subst (λ a. Lone (after s (Ask now r w below answer)).server (after s (Ask now r w below answer)).running
          (last_begun server setup (Ask now r w below a ∷ t)) h.open_cons) (sym is)
          (sent_lone s r now w below mid h (last_begun server setup t) id some opens o old.clock old.lone);
    }

    received_fits : (now : ℕ) (from : Endpoint) (bytes : List ℕ) (up : T.Answer) (settled : Bool) (answer : _)
        → Steps mid (acts s from up settled (verdict_on s from up) ++ asked now (T.Receive from bytes) up ∷ []) h
        → IsBeneath server setup (Receive now from bytes up settled answer ∷ t) h
    received_fits now from bytes up settled answer steps =
        let v = verdict_on s from up in
        let first = steps_split mid h (acts s from up settled v) (asked now (T.Receive from bytes) up ∷ []) steps in
        let m1 : L.State = first.0 in
        let arrival : L.Step first.1.0 now (T.Receive from bytes) up m1 = first.1.2 in
        let second = steps_split m1 h (settling (settles v) s.server s.running settled)
        (replying from (id_in up) (reply_by v (id_in up))) first.2 in
        let m2 : L.State = second.0 in
        let replied = replying_opens from (id_in up) (reply_by v (id_in up)) m1 m2 second.1 in
        let ended = settling_opens (settles v) s.server s.running settled m2 h second.2 in
        let clock : m1.clock ≡ max s.clock now = step_clock first.1.0 m1 now (T.Receive from bytes) up arrival
        ∙ (ap (λ (z : L.State). max z.clock now) first.1.1 ∙ ap (λ z. max z now) old.clock) in
        let at : ℕ = max first.1.0.clock now in
        let out : List T.Packet = out_of first.1.0 at (T.Receive from bytes) in
        let opens : m1.open_cons ≡ opens_then at (T.Receive from bytes) up out mid.open_cons =
        step_opens first.1.0 m1 now (T.Receive from bytes) up arrival
        ∙ ap (λ (z : L.State). opens_then at (T.Receive from bytes) up out z.open_cons) first.1.1 in
        record {
          clock = ended.0 ∙ (replied.0 ∙ clock);
          lone = subst (λ cs. Lone s.server (running_after (max s.clock now) v s.running) (last_begun server setup t)
              cs)
              (sym (ended.1 ∙ ap (settled_opens (settles v) s.server s.running) (replied.1 ∙ opens)))
              (left_by_verdict s (last_begun server setup t)
              (max s.clock now) at from bytes out mid.open_cons old.lone up v refl (verdict_fits s from up));
        }

    ticked_fits : (now : ℕ) (below : T.Answer) (answer : Turn) → answer ≡ turn_of s (max s.clock now) below
        → L.Step mid now T.Ticks below h → IsBeneath server setup (Ticks now below answer ∷ t) h
    ticked_fits now below answer right step =
        let at : ℕ = max mid.clock now in
        let out : List T.Packet = out_of mid at T.Ticks in
        record {
          clock = step_clock mid h now T.Ticks below step ∙ ap (λ z. max z now) old.clock;
          lone = subst (λ a. Lone s.server (running_unless a s.running) (last_begun server setup t) h.open_cons)
              (sym right)
              (subst (Lone s.server (running_unless (turn_of s (max s.clock now) below) s.running)
              (last_begun server setup t)) (sym (step_opens mid h now T.Ticks below step))
              (turned_lone s (last_begun server setup t) (max s.clock now) at out mid.open_cons old.lone below));
        }

  pub fits : (t : List Call) → AskerLaw server setup t → (h : L.State)
      → Steps (L.start setup) (lower_of server setup t) h
      → IsBeneath server setup t h
  fits [] law h steps = record {
    clock = ap (λ (z : L.State). z.clock) steps;
    lone = ap (λ (z : L.State). z.open_cons) steps;
  }
  fits (Ask now r w below answer ∷ t) law h steps =
      let s : Own = own_of server setup t in
      asked_fits t steps.0 (fits t law.1 steps.0 steps.1) h now w r below answer (ask_row s r below answer law.0)
      (ask_opens (opening_of s r) steps.0 h now s.server (content_of (request_token s r) r) w below steps.2)
  fits (Receive now from bytes up settled answer ∷ t) law h steps =
      let s : Own = own_of server setup t in
      let parts = steps_split (L.start setup) h (lower s (Receive now from bytes up settled answer))
      (lower_of server setup t) steps in
      received_fits t parts.0 (fits t law.1 parts.0 parts.1) h now from bytes up settled answer parts.2
  fits (Ticks now below answer ∷ t) law h steps =
      ticked_fits t steps.0 (fits t law.1 steps.0 steps.1) h now below answer law.0 steps.2
  fits (Keep token answer ∷ t) law h steps = let old =
      fits t law.1 h steps in record { clock = old.clock; lone = old.lone }
  fits (Release token answer ∷ t) law h steps = let old =
      fits t law.1 h steps in record { clock = old.clock; lone = old.lone }
  fits (Take answer ∷ t) law h steps =
      let s : Own = own_of server setup t in
      let old = fits t law.1 steps.0 steps.1 in
      record {
        clock = step_clock steps.0 h 0 T.Take (T.Gives answer) steps.2 ∙ old.clock;
        lone = subst (Lone s.server s.running (last_begun server setup t))
            (sym (step_opens steps.0 h 0 T.Take (T.Gives answer) steps.2
            ∙ left_same_nil (entry_of steps.0.clock T.Take (T.Gives answer) (out_of steps.0 steps.0.clock T.Take))
            (λ c. refl) steps.0.open_cons)) old.lone;
      }

  -- the ends
  times_out : (t : List Call) (now : ℕ) (below : T.Answer)
      → AskerLaw server setup (Ticks now below (turn.End event.Timeout) ∷ t) → (h : L.State)
      → Steps (L.start setup) (lower_of server setup (Ticks now below (turn.End event.Timeout) ∷ t)) h
      → TimesOut server setup t now
  times_out t now below law h steps =
      let s : Own = own_of server setup t in
      let old = fits t law.1 steps.0 steps.1 in
      let f : TurnFits s (max s.clock now) below (turn.End event.Timeout) =
      subst (TurnFits s (max s.clock now) below) (sym law.0) (turn_fits s (max s.clock now) below) in
      let lone : Lone s.server (Some f.3.exchange) (last_begun server setup t) steps.0.open_cons =
      subst (λ r. Lone s.server r (last_begun server setup t) steps.0.open_cons) f.3.runs old.lone in
      let has = failed s.server f.3.exchange (last_begun server setup t) steps.0.open_cons
      (max steps.0.clock now) f.0 f.1 lone (sym f.2 ∙ steps.2.right) in
      record {
        begun = has.begun;
        last = has.last;
        late = subst (λ z. has.begun.timeout * failure_timeouts ≤ max z now - has.begun.at) old.clock has.late;
      }

  waited_at : (at : ℕ) (a : Option Moment) → has_waited at a ≡ true
      → (acked : Moment) × (a ≡ Some acked) × (exchange_lifetime ≤ at - acked.0)
  waited_at at None h = absurd (cc h)
  waited_at at (Some acked) h = (acked, refl, leb-true _ _ h)

  gives_up : (t : List Call) (now : ℕ) (below : T.Answer)
      → AskerLaw server setup (Ticks now below (turn.End event.NoResponse) ∷ t) → GivesUp server setup t now
  gives_up t now below law =
      let s : Own = own_of server setup t in
      let f : TurnFits s (max s.clock now) below (turn.End event.NoResponse) =
      subst (TurnFits s (max s.clock now) below) (sym law.0) (turn_fits s (max s.clock now) below) in
      let w = waited_at (max s.clock now) f.0.acked f.2 in
      record { exchange = f.0; runs = f.1; acked = w.0; since = w.1; late = w.2 }

  pub in_time : (t : List Call) → AskerLaw server setup t → (h : L.State)
      → Steps (L.start setup) (lower_of server setup t) h → EndInTime server setup t
  in_time [] law h steps = tt
  in_time (c ∷ t) law h steps =
      let parts = steps_split (L.start setup) h (lower (own_of server setup t) c) (lower_of server setup t) steps in (
        record {
          timeout = λ now below is. times_out t now below (subst (λ d. AskerLaw server setup (d ∷ t)) is law) h
              (subst (λ d. Steps (L.start setup) (lower_of server setup (d ∷ t)) h) is steps);
          no_response = λ now below is. gives_up t now below (subst (λ d. AskerLaw server setup (d ∷ t)) is law);
        },
        in_time t law.1 parts.0 parts.1,
      )
