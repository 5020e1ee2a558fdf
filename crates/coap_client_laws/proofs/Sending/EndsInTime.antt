-- A Timeout and NoResponse end an exchange that is open no earlier than they have to.
use Rattle.std.proofs.Common.{◌≡◌, ◌≤◌, ℕ, ◌+◌, ◌-◌, ◌*◌, max, Bool, Option, Some, None, List, [], ◌∷◌, ◌++◌, refl, ap}
use Rattle.std.proofs.Common.{sym}
use Rattle.std.proofs.Common.{subst, ◌∙◌, arith, Result}
use Rattle.std.proofs.lemmas.List.{append_assoc}
use Rattle.coap_types.specs.Past.{Always}
use Rattle.coap_types.proofs.Facts.Traces.{Always_back}
use Rattle.coap_types.specs.declared.endpoint.Endpoint.{Endpoint}
use Rattle.coap_types.specs.declared.transmission.TheConstants.{ACK_TIMEOUT_MS as ack_timeout}
use Rattle.coap_types.specs.declared.transmission.TheConstants.{EXCHANGE_LIFETIME_MS as exchange_lifetime}
use Rattle.coap_types.specs.declared.transmission.TheConstants.{FAILURE_TIMEOUTS as failure_timeouts}
use Rattle.coap_layer.specs.Trace as L
use Rattle.coap_layer.specs.declared.setup.Setup.{Setup}
use Rattle.coap_block.specs.Sizes.{Sizes}
use Rattle.coap_exchange.specs.declared.asker.AskRefusal.{AskRefusal}
use Rattle.coap_exchange.specs.declared.asker.Event.TheVariants as event_of
use Rattle.coap_exchange.specs.declared.asker.Turn.{Turn}
use Rattle.coap_exchange.specs.declared.asker.Turn.TheVariants as turn_is
use Rattle.coap_exchange.specs.AskerDue.{WhenDue, last_acked}
use Rattle.coap_exchange.specs.AskerTrace as E
use Rattle.coap_exchange.specs.AskerFollows as A
use Rattle.coap_exchange.proofs.Facts.ClientSide.{when_due}
use Rattle.coap_client.specs.Trace.{Call, Feeds, Ticks}
use Rattle.coap_client.specs.Effects.{Effect}
use Rattle.coap_client.specs.Events.{passes}
use Rattle.coap_client.specs.Deeds.{at, close, deeds}
use Rattle.coap_client.specs.Law.{ClientLaw, own_of, lower_of}
use Rattle.coap_client_laws.specs.Follows.Ends.{ends_as}
use Rattle.coap_client_laws.specs.Follows.Open.{IsOpenSince, RunsSince, EndsInTime, AllEndInTime}
use Rattle.coap_client_laws.proofs.Rest.Resting.{clocks}
use Rattle.coap_client_laws.proofs.Sending.OpenBeneath.{begun_by, acked_after}
use Rattle.coap_client_laws.proofs.Sending.OpenSince.{open_runs}
use Rattle.coap_client.proofs.Facts.Turning.Leading.{client_back}

-- at the input itself, behind which more was asked
pub at_input : {T : Type 0} (P : List T → T → Type 0) (later first : List T) (input : T) (rest : List T)
    → Always P ((later ++ (first ++ input ∷ [])) ++ rest) → Always P (input ∷ rest)
at_input P later first input rest h =
    Always_back P first (input ∷ rest) (Always_back P later (first ++ input ∷ rest)
    (subst (Always P) (append_assoc later (first ++ input ∷ []) rest
    ∙ ap (λ l. later ++ l) (append_assoc first (input ∷ []) rest)) h))

late_by : (at b timeout m : ℕ) → b ≡ at → ack_timeout ≤ timeout → timeout * failure_timeouts ≤ m - b
    → at + failure_timeouts * ack_timeout ≤ m
late_by at b timeout m is least late = omega (arith, is, least, late)

waited_by : (at b acked m : ℕ) → b ≡ at → b ≤ acked → exchange_lifetime ≤ m - acked → at + exchange_lifetime ≤ m
waited_by at b acked m is after late = omega (arith, is, after, late)

module _ (server : Endpoint) (sizes : Sizes) (setup : Setup) where
  -- a call that ends nothing
  plainly : (past : List Call) (c : Call) → ends_as c ≡ None → (at : ℕ) → EndsInTime sizes past c at
  plainly past c none at = record {
    timeout = λ h. let k = sym none ∙ h in absurd (cc k);
    no_response = λ h. let k = sym none ∙ h in absurd (cc k);
  }

  module _ (t : List Call) (now w : ℕ) (below : L.Answer) (sent : L.Answer) (token : Result (List ℕ) AskRefusal)
      (kept answer : Bool) where
    abbrev tick : Turn → Call
    tick turn = Ticks now w below turn sent token kept answer

    abbrev m : ℕ
    m = max (own_of sizes t).clock now

    abbrev input : Turn → E.Call
    input turn = E.Ticks m below turn

    here : (P : List E.Call → E.Call → Type 0) (turn : Turn) → Always P (lower_of sizes (tick turn ∷ t))
        → Always P (input turn ∷ lower_of sizes t)
    here P turn h =
        let e : Effect = passes (at now (own_of sizes t)) m turn in
        at_input P (deeds (close m e token).deed (close m e token).own m w sent token kept)
        (deeds e.deed e.own m w sent token kept) (input turn) (lower_of sizes t) h

    moment_is : A.moment server setup (lower_of sizes t) m ≡ m
    moment_is = let k = clocks server sizes setup t in omega (arith, k)

    timed_out : (begins : ℕ) → RunsSince server sizes setup begins t → A.TimesOut server setup (lower_of sizes t) m
        → begins + failure_timeouts * ack_timeout ≤ m
    timed_out begins r o =
        let same : Some o.begun ≡ Some r.begun = sym o.last ∙ r.last_begun in
        let begun_is : o.begun ≡ r.begun = cc same in
        let at_is : o.begun.at ≡ begins = ap (λ (b : A.Begun). b.at) begun_is ∙ r.moment in
        late_by begins o.begun.at o.begun.timeout m at_is (begun_by server setup (lower_of sizes t) o.begun o.last).1
        (subst (λ n. o.begun.timeout * failure_timeouts ≤ n - o.begun.at) moment_is o.late)

    gave_up : (begins : ℕ) → RunsSince server sizes setup begins t → A.GivesUp server setup (lower_of sizes t) m
        → WhenDue server setup (lower_of sizes t) (input (turn_is.End event_of.NoResponse))
        → begins + exchange_lifetime ≤ m
    gave_up begins r o due =
        let acked : last_acked server setup (lower_of sizes t) ≡ Some o.acked =
        sym (due.acked o.exchange o.runs) ∙ o.since in
        let later = acked_after server setup (lower_of sizes t) o.acked r.begun acked r.last_begun in
        waited_by begins r.begun.at o.acked.0 m r.moment later
        (subst (λ n. exchange_lifetime ≤ n - o.acked.0) moment_is o.late)

    ticked : (turn : Turn) → ClientLaw server sizes setup (tick turn ∷ t)
        → A.EndInTime server setup (lower_of sizes (tick turn ∷ t)) → (begins : ℕ) → IsOpenSince sizes begins t
        → EndsInTime sizes t (tick turn) begins
    ticked turn_is.Idle law in_time begins is = plainly t (tick turn_is.Idle) refl begins
    ticked turn_is.Copied law in_time begins is = plainly t (tick turn_is.Copied) refl begins
    ticked (turn_is.End (event_of.Answer x)) law in_time begins is =
        plainly t (tick (turn_is.End (event_of.Answer x))) refl begins
    ticked (turn_is.End (event_of.Notice x)) law in_time begins is =
        plainly t (tick (turn_is.End (event_of.Notice x))) refl begins
    ticked (turn_is.End event_of.Reset) law in_time begins is =
        plainly t (tick (turn_is.End event_of.Reset)) refl begins
    ticked (turn_is.End event_of.Timeout) law in_time begins is =
        let before = client_back server sizes setup (tick (turn_is.End event_of.Timeout) ∷ []) t law in
        let r = (open_runs server sizes setup t before).runs begins is in
        let k = here (A.InTime server setup) (turn_is.End event_of.Timeout) in_time in
        record { timeout = λ h. timed_out begins r (k.0.timeout m below refl); no_response = λ h. absurd (cc h) }
    ticked (turn_is.End event_of.NoResponse) law in_time begins is =
        let c : Call = tick (turn_is.End event_of.NoResponse) in
        let before = client_back server sizes setup (c ∷ []) t law in
        let r = (open_runs server sizes setup t before).runs begins is in
        let k = here (A.InTime server setup) (turn_is.End event_of.NoResponse) in_time in
        let due = here (WhenDue server setup) (turn_is.End event_of.NoResponse) (when_due server setup
        (lower_of sizes (c ∷ t)) law.exchanges.rows law.exchanges.left law.exchanges.layer) in
        record {
          timeout = λ h. absurd (cc h);
          no_response = λ h. gave_up begins r (k.0.no_response m below refl) due.0;
        }

  fed : (t : List Call) (now : ℕ) (from : Endpoint) (bytes : List ℕ) (w : ℕ) (up : L.Answer) (settled : Bool)
      (event : Option _) (sent : L.Answer) (token : Result (List ℕ) AskRefusal) (kept : Bool) (begins : ℕ)
      → EndsInTime sizes t (Feeds now from bytes w up settled event sent token kept) begins
  fed t now from bytes w up settled (Some event_of.Reset) sent token kept begins =
      record { timeout = λ h. absurd (cc h); no_response = λ h. absurd (cc h) }
  fed t now from bytes w up settled _ sent token kept begins = plainly t _ refl begins

  each : (t : List Call) (c : Call) → ClientLaw server sizes setup (c ∷ t)
      → A.EndInTime server setup (lower_of sizes (c ∷ t)) → (begins : ℕ) → IsOpenSince sizes begins t
      → EndsInTime sizes t c begins
  each t (Ticks now w below turn sent token kept answer) law in_time begins is =
      ticked t now w below sent token kept answer turn law in_time begins is
  each t (Feeds now from bytes w up settled event sent token kept) law in_time begins is =
      fed t now from bytes w up settled event sent token kept begins
  each t _ law in_time begins is = plainly t _ refl begins

  -- where its exchanges end in time
  pub all_end_in_time : (t : List Call) → ClientLaw server sizes setup t → A.EndInTime server setup (lower_of sizes t)
      → AllEndInTime sizes t
  all_end_in_time [] law in_time = tt
  all_end_in_time (c ∷ t) law in_time = (
    each t c law in_time,
    all_end_in_time t (client_back server sizes setup (c ∷ []) t law)
        (Always_back (A.InTime server setup) _ (lower_of sizes t) in_time),
  )
