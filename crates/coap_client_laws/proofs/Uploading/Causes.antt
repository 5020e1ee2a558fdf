-- What an upload hold comes from: another upload that ended without a final response, and its last datagram.
use Rattle.std.proofs.Common.{◌≡◌, ◌≤◌, ◌⊎◌, inl, inr, ℕ, ◌+◌, max, Bool, true, false, cond, not, ◌&&◌, Option, Some}
use Rattle.std.proofs.Common.{None, List, [], ◌∷◌, refl, ap, sym, subst, ◌∙◌, arith, Result, Ok, Err}
use Rattle.std.specs.Prelude.{◌==◌, nat_le, nat_lt}
use Rattle.std.proofs.lemmas.Bool.{leb-true}
use Rattle.coap_types.specs.Past.{Sometime}
use Rattle.coap_types.specs.declared.endpoint.Endpoint.{Endpoint}
use Rattle.coap_types.specs.declared.option_number.TheConstants.{BLOCK1 as block1}
use Rattle.coap_types.specs.declared.request.Method.{Method}
use Rattle.coap_types.specs.declared.request.Method.TheVariants.{Get, Post, Put, Delete}
use Rattle.coap_types.specs.declared.transmission.TheConstants.{MAX_LATENCY_MS as max_latency}
use Rattle.coap_codec.specs.Message.{Message}
use Rattle.coap_block.specs.Sizes.{Sizes}
use Rattle.coap_block.specs.UploadStep.{UploadState, upload_start, more_follows}
use Rattle.coap_layer.specs.Trace as L
use Rattle.coap_layer.specs.declared.setup.Setup.{Setup}
use Rattle.coap_exchange.specs.declared.asker.AskRefusal.{AskRefusal}
use Rattle.coap_exchange.specs.declared.asker.Event.{Event}
use Rattle.coap_exchange.specs.declared.asker.Event.TheVariants as event_of
use Rattle.coap_exchange.specs.declared.asker.Turn.{Turn}
use Rattle.coap_exchange.specs.declared.asker.Turn.TheVariants as turn_of
use Rattle.coap_exchange.specs.AskerLaw as X
use Rattle.coap_client.specs.Trace.{Request, Call, Calls, Observes, Cancels, Forgets, Feeds, Ticks, NextOut}
use Rattle.coap_client.specs.Trace.{NextReport, Asked}
use Rattle.coap_client.specs.Trace as R
use Rattle.coap_client.specs.Own.{Uploads, Operation, Calling, Registering, Fetching, Cancelling, Dropped, Own}
use Rattle.coap_client.specs.Observations.{to_fetch, dropped}
use Rattle.coap_client.specs.Requests.{is_longer}
use Rattle.coap_client.specs.Responses.{continue, block_at}
use Rattle.coap_client.specs.Reports.{lapse}
use Rattle.coap_client.specs.Reports as reports_of
use Rattle.coap_client.specs.Calls.{answer}
use Rattle.coap_client.specs.Calls as calls
use Rattle.coap_client.specs.Effects.{Deed, Rests, Asks, Effect, runs, ends, of, has_sent}
use Rattle.coap_client.specs.Events.{called, answered, failed, happened, is_held, passes, closed}
use Rattle.coap_client.specs.Deeds.{at, close}
use Rattle.coap_client.specs.Steps.{lower, reports}
use Rattle.coap_client.specs.Law.{ClientRows, own_of, lower_of}
use Rattle.coap_client.specs.Queue.{transfer_of}
use Rattle.coap_client.specs.Sendings.{sends, sent_by}
use Rattle.coap_client_laws.specs.Follows.Blocks.{Carried, carried}
use Rattle.coap_client_laws.specs.Follows.Holds.{moment, is_final, is_upload_of, sends_of, SendsOf, EndsUnanswered}
use Rattle.coap_client.proofs.Facts.Places.Once.{law_back, known}
use Rattle.coap_client.proofs.Facts.Places.PlaceLemmas.{number_self}
use Rattle.coap_client_laws.proofs.Turning.AllWaiting.{all_wait}
use Rattle.coap_client_laws.proofs.Turning.BlockByBlock.{AllOf, Starts, Follows, Runs, heard_in, happened_from}
use Rattle.coap_client_laws.proofs.Turning.BlockByBlock.{passes_from}
use Rattle.coap_client_laws.proofs.Turning.BlockByBlock.{happened_runs, passes_runs}
use Rattle.coap_client_laws.proofs.Uploading.Holds.{goes_fed, goes_ticked}
use Rattle.coap_client_laws.proofs.Uploading.HoldSteps.{Quiet, Sets, Step, failed_step, final_in, happened_step}
use Rattle.coap_client_laws.proofs.Uploading.HoldSteps.{idle_step}
use Rattle.coap_client_laws.proofs.Uploading.HoldSteps.{lapse_last}

-- A block behind the first is asked for where an upload runs, and hears a 2.31.

abbrev AsksLater : Bool → Own → Effect → Type 0
AsksLater final s e = (k : ℕ) (r : Request) (u : UploadState) → e.deed ≡ Asks (Calling k r (Uploads u))
    → nat_lt 0 u.num ≡ true → (is_upload_of k s.running ≡ true) × (final ≡ false)

-- what waits begins with its first block
abbrev AtFirst : List Call → Operation → Type 0
AtFirst t op = (y : Carried) → carried op ≡ Some y → nat_lt 0 y.upload.num ≡ false

starts_first : (n : ℕ) (u : UploadState) (y : Carried) → Some (record { number = n; upload = u }) ≡ Some y
    → nat_lt 0 u.num ≡ nat_lt 0 y.upload.num
starts_first n u y is = let same : ◌≡◌ {A = Carried} (record { number = n; upload = u }) y = cc is in
    ap (λ (z : Carried). nat_lt 0 z.upload.num) same

first_of : (sizes : Sizes) (n : ℕ) (r q : Request) (method : Method) (t : List Call)
    → AtFirst t (Calling n q (transfer_of sizes r method))
first_of sizes n r q Post t y is = sym (starts_first n (upload_start r.body sizes.szx) y is)
first_of sizes n r q Put t y is = sym (starts_first n (upload_start r.body sizes.szx) y is)
first_of sizes n r q _ t y is = absurd (cc is)

all_first : (sizes : Sizes) (t : List Call) → AllOf (AtFirst t) (own_of sizes t).queue
all_first sizes = all_wait sizes AtFirst (λ t c op h. h)
    (λ t now r n. first_of (own_of sizes t).sizes n r (record r { body = [] }) r.method (Calls now r (Ok n) ∷ t))
    (λ t now path n y is. absurd (cc is)) (λ t now n y is. absurd (cc is))

not_first : (t : List Call) (s : Own) (e : Effect) (k : ℕ) (r : Request) (u : UploadState)
    → AllOf (AtFirst t) s.queue → Starts s e (Calling k r (Uploads u)) → nat_lt 0 u.num ≡ true → ⊥
not_first t s e k r u all st later =
    let h : AllOf (AtFirst t) (Calling k r (Uploads u) ∷ st.rest) = subst (AllOf (AtFirst t)) st.first all in
    let first = h.0 (record { number = k; upload = u }) refl in
    cc (first, later)

-- an upload in one block asks for no other
one_block : (s : Own) (at k : ℕ) (r : Request) (u : UploadState) (m : Message) (op : Operation) → is_longer u ≡ false
    → (called k r (Uploads u) s (answer r (Uploads u) m)).deed ≡ Asks op → ⊥
one_block s at k r u m op short = by (m.code == continue) (is_longer u) short
    (more_follows u && calls.is_below_errors m.code)
  where
    by : (b l : Bool) → l ≡ false → (p : Bool) → (called k r (Uploads u) s
        (cond (b && l) (calls.continued u (block_at block1 m))
        (cond p (calls.Ends true R.BadBlock) (calls.Ends true (reports_of.done r.method m.code))))).deed ≡ Asks op → ⊥
    by b true e p h = cc e
    by true false e true h = cc h
    by true false e false h = cc h
    by false false e true h = cc h
    by false false e false h = cc h

module _ (t : List Call) (s : Own) (all : AllOf (AtFirst t) s.queue) where
  happened_asks : (at : ℕ) (told : Option Event) → AsksLater (final_in told) s (happened s at told)
  happened_asks at told k r u asks later =
      elim (happened_from s at told (Calling k r (Uploads u)) (record { number = k; upload = u }) asks refl) [
        | inl st ↦ absurd (not_first t s (happened s at told) k r u all st later)
        | inr f ↦ by told f asks
      ]
    where
      by : (told : Option Event) → Follows s (heard_in told) (Calling k r (Uploads u))
          → (happened s at told).deed ≡ Asks (Calling k r (Uploads u))
          → (is_upload_of k s.running ≡ true) × (final_in told ≡ false)
      by None f asks = absurd (cc asks)
      by (Some (event_of.Answer m)) f asks = (up (is_longer f.upload) refl, ap (λ b. not b) heard)
        where
          message_is : m ≡ f.message
          message_is = cc f.hears_it

          heard : (m.code == continue) ≡ true
          heard = ap (λ (z : Message). z.code == continue) message_is
              ∙ (ap (λ n. n == continue) f.code ∙ number_self continue)

          number_is : k ≡ f.number
          number_is = cc f.is

          up : (b : Bool) → is_longer f.upload ≡ b → is_upload_of k s.running ≡ true
          up true e = ap (is_upload_of k) f.runs_it ∙ (ap (λ i. (f.number == i) && is_longer f.upload) number_is
              ∙ (ap (λ x. x && is_longer f.upload) (number_self f.number) ∙ e))
          up false e = absurd (one_block s at f.number f.request f.upload m (Calling k r (Uploads u)) e
              (ap (λ o. (answered s at m o).deed) (sym f.runs_it) ∙ asks))
      by _ f asks = absurd (cc f.hears_it)

  passes_asks : (at : ℕ) (turn : Turn) → AsksLater false s (passes s at turn)
  passes_asks at turn k r u asks later =
      elim (passes_from s at turn (Calling k r (Uploads u)) (record { number = k; upload = u }) asks refl) [
        | inl st ↦ absurd (not_first t s (passes s at turn) k r u all st later)
        | inr f ↦ absurd (cc f.hears_it)
      ]

-- .. once the request is sent or refused

abbrev Caused : Bool → Own → Effect → Type 0
Caused final s e = (e.own.hold ≡ s.hold) ⊎ Sets final s e

module _ (final : Bool) (s : Own) (e : Effect) (hold : e.own.hold ≡ s.hold) (sent : e.own.sent ≡ s.sent) where
  refused_caused : (op : Operation) → e.deed ≡ Asks op → AsksLater final s e
      → Caused final s (failed has_sent R.NoIds e.own (Some op))
  refused_caused (Calling k r (Uploads u)) is asks = by (nat_lt 0 u.num) refl (is_longer u) refl
    where
      by : (a : Bool) → nat_lt 0 u.num ≡ a → (b : Bool) → is_longer u ≡ b → Caused final s
          (ends (of k R.NoIds) (cond (a && b) (record e.own { hold = Some e.own.sent }) e.own))
      by true f true g = inr (record {
        number = k;
        up = (asks k r u is f).0;
        report = R.NoIds;
        made = refl;
        last = refl;
        unanswered = (asks k r u is f).1;
        hold = ap (λ z. Some z) sent;
      })
      by true f false g = inl hold
      by false f b g = inl hold
  refused_caused _ is asks = inl hold

closed_caused : (final : Bool) (s : Own) (now : ℕ) (e : Effect) (token : Result (List ℕ) AskRefusal) → Step final s e
    → AsksLater final s e → (d : Deed) → e.deed ≡ d → Caused final s (closed now e d token)
closed_caused final s now e token st asks Rests is = elim st.cause [ inl x ↦ inl x | inr x ↦ inr x.0 ]
closed_caused final s now e (Ok key) st asks (Asks op) is = elim st.cause
    [ inl x ↦ inl x | inr x ↦ absurd (x.1 op is) ]
closed_caused final s now e (Err why) st asks (Asks op) is = elim st.cause
    [ inl x ↦ refused_caused final s e x st.sent op is asks | inr x ↦ absurd (x.1 op is) ]
closed_caused final s now e token st asks _ is = elim st.cause [
  | inl x ↦ inl x
  | inr x ↦ (let z = x.0 in inr (record {
    number = z.number;
    up = z.up;
    report = z.report;
    made
        = z.made;
    last = z.last;
    unanswered = z.unanswered;
    hold = z.hold;
  }))
]

-- an upload that runs behind an effect that asks for nothing ran before

dropped_back : (k j : ℕ) (running : Option Operation) → is_upload_of k (dropped j running) ≡ true
    → is_upload_of k running ≡ true
dropped_back k j (Some (Fetching n)) h = by (n == j) h
  where
    by : (b : Bool) → is_upload_of k (cond b (Some Dropped) (Some (Fetching n))) ≡ true
        → is_upload_of k (Some (Fetching n)) ≡ true
    by true h = absurd (cc h)
    by false h = h
dropped_back k j _ h = h

ran_back : (k : ℕ) (s : Own) (e : Effect) → Runs s e → Quiet e → is_upload_of k e.own.running ≡ true
    → is_upload_of k s.running ≡ true
ran_back k s e r quiet up = elim r.running [
  | inl none ↦ (let z : false ≡ true = sym (ap (is_upload_of k) none) ∙ up in absurd (cc z))
  | inr x ↦ elim x [
    | inl d ↦ dropped_back k d.0 s.running (sym (ap (is_upload_of k) d.1) ∙ up)
    | inr y ↦ elim y [
      | inl same ↦ sym (ap (is_upload_of k) same) ∙ up
      | inr asks ↦ absurd (quiet asks.0 asks.1)
    ]
  ]
]

refused_over : (k : ℕ) (o : Own) (op : Operation)
    → is_upload_of k (failed has_sent R.NoIds o (Some op)).own.running ≡ true → ⊥
refused_over k o (Calling n r t) h = cc h
refused_over k o _ h = cc h

module _ (server : Endpoint) (sizes : Sizes) (setup : Setup) where
  abbrev own : List Call → Own
  own t = own_of sizes t

  -- a datagram of it was sent, then or later
  abbrev LastOf : ℕ → ℕ → List Call → Type 0
  LastOf k z t = Sometime (λ earlier b. SendsOf sizes k earlier b × (z ≤ moment (own_of sizes earlier) b)) t

  record CauseOf (z : ℕ) (t : List Call) : Type 0 where
    other : ℕ
    ended : Sometime (EndsUnanswered sizes other) t
    sent : LastOf other z t

  record Causes (t : List Call) : Type 0 where
    running : (k : ℕ) → is_upload_of k (own t).running ≡ true → LastOf k (own t).sent t
    hold : (z : ℕ) → (own t).hold ≡ Some z → CauseOf z t

  -- a call that sends and reports nothing
  still : (t : List Call) (c : Call) → (own (c ∷ t)).sent ≡ (own t).sent → (own (c ∷ t)).hold ≡ (own t).hold
      → ((k : ℕ) → is_upload_of k (own (c ∷ t)).running ≡ true → is_upload_of k (own t).running ≡ true)
      → Causes t → Causes (c ∷ t)
  still t c sent hold back h = record {
    running = λ k up. subst (λ z. LastOf k z (c ∷ t)) (sym sent) (inr (h.running k (back k up)));
    hold = λ z is. (
        let q = h.hold z (sym hold ∙ is) in
        record { other = q.other; ended = inr q.ended; sent = inr q.sent });
  }

  -- an event, or a turn
  module _ (t : List Call) (c : Call) (now : ℕ) (h : Causes t) where
    abbrev m : ℕ
    m = max (own t).clock now

    abbrev s : Own
    s = at now (own t)

    -- what runs behind it
    abbrev RunsFrom : Own → Type 0
    RunsFrom o = (k : ℕ) → is_upload_of k o.running ≡ true → LastOf k o.sent (c ∷ t)

    runs_from : (e : Effect) → moment (own t) c ≡ m → e.own.sent ≡ s.sent → Runs s e
        → ((op : Operation) → e.deed ≡ Asks op → e.own.running ≡ Some op) → (token : Result (List ℕ) AskRefusal)
        → sends (own t) c ≡ sent_by e e.deed token → (d : Deed) → e.deed ≡ d → RunsFrom (closed m e d token).own
    runs_from e at_is same r asks (Ok key) sending (Asks op) is k up =
        inl (
          inl (ap (sends_of k) (sending ∙ ap (λ d. sent_by e d (Ok key)) is)
              ∙ (sym (ap (is_upload_of k) (asks op is)) ∙ up)),
          omega (arith, at_is),
        )
    runs_from e at_is same r asks (Err why) sending (Asks op) is k up = absurd (refused_over k e.own op up)
    runs_from e at_is same r asks token sending _ is k up = subst (λ z. LastOf k z (c ∷ t)) (sym same)
        (inr (h.running k (ran_back k s e r (λ op i. absurd (cc (is, i))) up)))

    moved_on : (done : Effect) (final : Bool) → (own (c ∷ t)).sent ≡ done.own.sent
        → (own (c ∷ t)).hold ≡ done.own.hold → (own (c ∷ t)).running ≡ done.own.running
        → reports (own t) c ≡ done.report → is_final c ≡ final → Caused final s done → RunsFrom done.own
        → Causes (c ∷ t)
    moved_on done final sent hold running report final_is caused from = record {
      running = λ k up. subst (λ z. LastOf k z (c ∷ t)) (sym sent)
          (from k (sym (ap (is_upload_of k) running) ∙ up));
      hold = λ z is. elim caused [
        | inl same ↦ (let q = h.hold z (sym same ∙ (sym hold ∙ is)) in record
            { other = q.other; ended = inr q.ended; sent = inr q.sent })
        | inr x ↦ (let set : Some (own t).sent ≡ Some z = sym x.hold ∙ (sym hold ∙ is) in
            let z_is : (own t).sent ≡ z = cc set in
            record {
              other = x.number;
              ended = inl (record {
                report = record { number = x.number; report = x.report };
                made = report ∙ x.made;
                is = refl;
                last = x.last;
                not_final = final_is ∙ x.unanswered;
              });
              sent = subst (λ y. LastOf x.number y (c ∷ t)) z_is (inr (h.running x.number x.up));
            })
      ];
    }

  final_of_event : (now : ℕ) (from : Endpoint) (bytes : List ℕ) (w : ℕ) (up : L.Answer) (settled : Bool)
      (event : Option Event) (sent : L.Answer) (token : Result (List ℕ) AskRefusal) (kept : Bool)
      → is_final (Feeds now from bytes w up settled event sent token kept) ≡ final_in event
  final_of_event now from bytes w up settled (Some (event_of.Answer a)) sent token kept = refl
  final_of_event now from bytes w up settled _ sent token kept = refl

  ticked : (t : List Call) (now w : ℕ) (below : L.Answer) (turn : Turn) (sent : L.Answer)
      (token : Result (List ℕ) AskRefusal) (kept answer : Bool) → Causes t
      → ((op : Operation) → (passes (at now (own t)) (max (own t).clock now) turn).deed ≡ Asks op
      → (passes (at now (own t)) (max (own t).clock now) turn).own.running ≡ Some op)
      → Causes (Ticks now w below turn sent token kept answer ∷ t)
  ticked t now w below turn_of.Copied sent token kept answer h asks =
      let c : Call = Ticks now w below turn_of.Copied sent token kept answer in
      let s : Own = at now (own t) in
      let m : ℕ = max (own t).clock now in
      let e : Effect = passes s m turn_of.Copied in
      moved_on t c now h (close m e token) false refl refl refl refl refl (inl refl)
      (λ k up. inl (inr (refl, up), omega arith))
  ticked t now w below turn_of.Idle sent token kept answer h asks =
      let c : Call = Ticks now w below turn_of.Idle sent token kept answer in
      let s : Own = at now (own t) in
      let m : ℕ = max (own t).clock now in
      let e : Effect = passes s m turn_of.Idle in
      let st : Step false s e = idle_step s m s.running (to_fetch s.observations) in
      moved_on t c now h (close m e token) false refl refl refl refl refl
      (closed_caused false s m e token st (passes_asks t s (all_first sizes t) m turn_of.Idle) e.deed refl)
      (runs_from t c now h e refl st.sent (passes_runs s m turn_of.Idle) asks token refl e.deed refl)
  ticked t now w below (turn_of.End ev) sent token kept answer h asks =
      let c : Call = Ticks now w below (turn_of.End ev) sent token kept answer in
      let s : Own = at now (own t) in
      let m : ℕ = max (own t).clock now in
      let e : Effect = passes s m (turn_of.End ev) in
      let st : Step false s e = failed_step s (lapse ev) (lapse_last ev) s.running refl in
      moved_on t c now h (close m e token) false refl refl refl refl refl
      (closed_caused false s m e token st (passes_asks t s (all_first sizes t) m (turn_of.End ev)) e.deed refl)
      (runs_from t c now h e refl st.sent (passes_runs s m (turn_of.End ev)) asks token refl e.deed refl)

  causes : (t : List Call) → ClientRows sizes t → X.AskerLaw server setup (lower_of sizes t) → Causes t
  causes [] rows law = record { running = λ k up. absurd (cc up); hold = λ z is. absurd (cc is) }
  causes (Calls now r (Ok n) ∷ t) rows law = still t (Calls now r (Ok n)) refl refl (λ k up. up) (causes t rows.1 law)
  causes (Calls now r (Err why) ∷ t) rows law = still t (Calls now r (Err why)) refl refl (λ k up. up)
      (causes t rows.1 law)
  causes (Observes now path (Ok n) ∷ t) rows law = still t (Observes now path (Ok n)) refl refl (λ k up. up)
      (causes t rows.1 law)
  causes (Observes now path (Err why) ∷ t) rows law = still t (Observes now path (Err why)) refl refl (λ k up. up)
      (causes t rows.1 law)
  causes (Cancels now n None ∷ t) rows law = still t (Cancels now n None) refl refl (λ k up. up) (causes t rows.1 law)
  causes (Cancels now n (Some why) ∷ t) rows law = still t (Cancels now n (Some why)) refl refl (λ k up. up)
      (causes t rows.1 law)
  causes (Forgets n kept true ∷ t) rows law =
      still t (Forgets n kept true) refl refl (λ k up. dropped_back k n (own t).running up)
      (causes t rows.1 (law_back server setup (lower (own t) (Forgets n kept true)) (lower_of sizes t) law))
  causes (Forgets n kept false ∷ t) rows law = still t (Forgets n kept false) refl refl (λ k up. up)
      (causes t rows.1 law)
  causes (NextOut answer ∷ t) rows law = still t (NextOut answer) refl refl (λ k up. up) (causes t rows.1 law.1)
  causes (NextReport answer ∷ t) rows law = still t (NextReport answer) refl refl (λ k up. up) (causes t rows.1 law)
  causes (Asked answer ∷ t) rows law = still t (Asked answer) refl refl (λ k up. up) (causes t rows.1 law)
  causes (Feeds now from bytes w up settled event sent token kept ∷ t) rows law =
      let c : Call = Feeds now from bytes w up settled event sent token kept in
      let below = law_back server setup (lower (own t) c) (lower_of sizes t) law in
      let k = known server sizes setup t rows.1 below in
      let m : ℕ = max (own t).clock now in
      let s : Own = at now (own t) in
      let e : Effect = happened s m event in
      let g = goes_fed server sizes setup t now from bytes w up settled event sent token kept k law in
      let h = causes t rows.1 below in
      let st : Step (final_in event) s e = happened_step s m event in
      moved_on t c now h (close m e token) (final_in event) refl refl refl refl
      (final_of_event now from bytes w up settled event sent token kept)
      (closed_caused (final_in event) s m e token st (happened_asks t s (all_first sizes t) m event) e.deed refl)
      (runs_from t c now h e refl st.sent (happened_runs s m event) (λ op i. (g.asks op i).1) token refl e.deed refl)
  causes (Ticks now w below turn sent token kept answer ∷ t) rows law =
      let c : Call = Ticks now w below turn sent token kept answer in
      let under = law_back server setup (lower (own t) c) (lower_of sizes t) law in
      let k = known server sizes setup t rows.1 under in
      let g = goes_ticked server sizes setup t now turn k in
      ticked t now w below turn sent token kept answer (causes t rows.1 under) (λ op i. (g.asks op i).1)

  -- a hold that stands at this moment has its cause
  pub record HeldFor (t : List Call) (moment_of : ℕ) : Type 0 where
    pub other : ℕ
    pub ended : Sometime (EndsUnanswered sizes other) t
    pub sent : Sometime (λ earlier b. SendsOf sizes other earlier b
        × (moment_of ≤ moment (own_of sizes earlier) b + max_latency)) t

  within : (k z now : ℕ) → now ≤ z + max_latency → (t : List Call) → LastOf k z t
      → Sometime (λ earlier b. SendsOf sizes k earlier b × (now ≤ moment (own_of sizes earlier) b + max_latency)) t
  within k z now le [] h = absurd h
  within k z now le (c ∷ t) (inl h) = let b = h.1 in inl (h.0, omega (arith, b, le))
  within k z now le (c ∷ t) (inr h) = inr (within k z now le t h)

  pub held_for : (t : List Call) → ClientRows sizes t → X.AskerLaw server setup (lower_of sizes t) → (now : ℕ)
      → is_held (own_of sizes t) now ≡ true → HeldFor t now
  held_for t rows law now held = by (own_of sizes t).hold refl held
    where
      by : (o : Option ℕ) → (own_of sizes t).hold ≡ o
          → elim o [ None ↦ false | Some last ↦ nat_le now (last + max_latency) ] ≡ true → HeldFor t now
      by None is h = absurd (cc h)
      by (Some z) is h = let q = (causes t rows law).hold z is in record {
        other = q.other;
        ended = q.ended;
        sent = within q.other z now (leb-true now (z + max_latency) h) t q.sent;
      }
