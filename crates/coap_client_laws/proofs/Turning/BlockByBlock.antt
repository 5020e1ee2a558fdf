-- What is sent block by block, and what is heard.
use Rattle.std.proofs.Common.{◌≡◌, ◌⊎◌, inl, inr, ℕ, Bool, true, false, cond, not, ◌&&◌, Option, Some, None, List, []}
use Rattle.std.proofs.Common.{◌∷◌, ◌++◌, refl, ap, sym, subst, ◌∙◌, Ok}
use Rattle.std.specs.Prelude.{◌==◌, filter}
use Rattle.coap_codec.specs.Message.{Message}
use Rattle.coap_types.specs.declared.block.Block.{Block}
use Rattle.coap_block.specs.declared.fetch_verdict.Verdict.{Verdict}
use Rattle.coap_block.specs.declared.fetch_verdict.Verdict.TheVariants as verdict
use Rattle.coap_block.specs.UploadStep.{UploadState, moved, more_follows, continues}
use Rattle.coap_layer.specs.Trace as L
use Rattle.coap_exchange.specs.declared.asker.Event.{Event}
use Rattle.coap_exchange.specs.declared.asker.Event.TheVariants as event_of
use Rattle.coap_exchange.specs.declared.asker.Turn.{Turn}
use Rattle.coap_exchange.specs.declared.asker.Turn.TheVariants as turn_of
use Rattle.coap_exchange.specs.declared.asker.Exchange.{Exchange}
use Rattle.coap_exchange.specs.AskerTrace as E
use Rattle.coap_exchange.specs.AskerRequests as Q
use Rattle.coap_exchange.specs.AskerArrivals as A
use Rattle.coap_exchange.proofs.Facts.Moves.{token_in, refused, sent as sent_it}
use Rattle.coap_exchange.proofs.Facts.Moves as move
use Rattle.coap_types.specs.declared.option_number.TheConstants.{BLOCK1 as block1}
use Rattle.coap_observe.specs.Newer.{is_newer}
use Rattle.coap_client.specs.Trace.{Request, Report, Reported, Call, Calls, Observes, Cancels, Forgets, Feeds, Ticks}
use Rattle.coap_client.specs.Trace.{NextOut, NextReport, Asked}
use Rattle.coap_client.specs.Trace as R
use Rattle.coap_client.specs.Own.{Transfer, Fetches, Uploads, Operation, Calling, Registering, Fetching, Cancelling}
use Rattle.coap_client.specs.Own.{Dropped, Notified, Observation, Own}
use Rattle.coap_client.specs.Observations.{observation_of, observation_with, rest_of, to_fetch, is_cancel_of, dropped}
use Rattle.coap_client.specs.Requests.{is_longer}
use Rattle.coap_client.specs.Responses.{content, continue, block_at, is_notification, sequence_in, part}
use Rattle.coap_client.specs.Responses as T
use Rattle.coap_client.specs.Reports.{lapse}
use Rattle.coap_client.specs.Reports as reports_of
use Rattle.coap_client.specs.Calls.{Next, answer}
use Rattle.coap_client.specs.Calls as calls
use Rattle.coap_client.specs.Effects.{Asks, Keeps, Effect, stays, runs, ends, of, is_upload}
use Rattle.coap_client.specs.Fetching.{fetch_by, fetch_answered}
use Rattle.coap_client.specs.Observing.{begun, first_value, is_over, registered, releases, renewed, passed, noticed_by}
use Rattle.coap_client.specs.Events.{called, answered, failed, happened, is_held, is_upload_op, starts, idle, passes}
use Rattle.coap_client.specs.Events.{closed}
use Rattle.coap_client.proofs.Facts.Places.PlaceLemmas.{same_number}
use Rattle.coap_client.specs.Places.{gone}
use Rattle.coap_client_laws.specs.Follows.Blocks.{Carried, carried}
use Rattle.coap_client.proofs.Facts.Turning.ExchangeCame.{Came}
use Rattle.coap_client.proofs.Facts.Turning.Moves.{releases_none}

-- from where the operation that is asked for comes: the first of the queue, or the next block of the transfer that runs

pub record Starts (s : Own) (e : Effect) (op : Operation) : Type 0 where
  pub rest : List Operation
  pub first : s.queue ≡ op ∷ rest
  pub none : s.running ≡ None

pub record Follows (s : Own) (heard : Option Message) (op : Operation) : Type 0 where
  pub number : ℕ
  pub request : Request
  pub upload : UploadState
  pub runs_it : s.running ≡ Some (Calling number request (Uploads upload))
  pub message : Message
  pub hears_it : heard ≡ Some message
  pub code : message.code ≡ continue
  pub block : Block
  pub says : block_at block1 message ≡ Some block
  pub may : continues upload block ≡ true
  pub is : op ≡ Calling number request (Uploads (moved upload block))

abbrev pub From : Own → Option Message → Effect → Type 0
From s heard e = (op : Operation) (y : Carried) → e.deed ≡ Asks op → carried op ≡ Some y
    → Starts s e op ⊎ Follows s heard op

quiet_from : (s : Own) (heard : Option Message) (e : Effect) → ((op : Operation) → e.deed ≡ Asks op → ⊥)
    → From s heard e
quiet_from s heard e q op y is c = absurd (q op is)

no_carry : (s : Own) (heard : Option Message) (e : Effect) (a : Operation) → carried a ≡ None → e.deed ≡ Asks a
    → From s heard e
no_carry s heard e a none deed op y is c =
    let same : a ≡ op = cc (deed, is) in
    let k : None ≡ Some y = sym none ∙ (ap carried same ∙ c) in absurd (cc k)

pub failed_quiet : (u : Transfer → Bool) (report : Report) (s : Own) (running : Option Operation) (op : Operation)
    → (failed u report s running).deed ≡ Asks op → ⊥
failed_quiet u report s (Some (Cancelling k)) op h = releases_none (observation_of k s.observations) op h
failed_quiet u report s _ op h = cc h

pub noticed_quiet : (s : Own) (m : ℕ) (a : Message) (o : Option Observation) (op : Operation)
    → (noticed_by o s m a).deed ≡ Asks op → ⊥
noticed_quiet s m a None op h = cc h
noticed_quiet s m a (Some o) op h = by (not (is_notification a)) (is_newer o.watch.mark (sequence_in a) m) h
  where
    by : (b c : Bool) → (cond b (is_over o.number (R.Ended a.code) s)
        (cond c (renewed o s m a) (stays (passed o s m a)))).deed ≡ Asks op → ⊥
    by true c h = releases_none (observation_of o.number s.observations) op h
    by false true h = cc h
    by false false h = cc h

pub keeps_or_ends : (b : Bool) (e : Own) (r o : Option Reported) (token : List ℕ) (s : Own) (op : Operation)
    → (cond b (record { own = e; report = r; deed = Keeps token }) (ends o s)).deed ≡ Asks op → ⊥
keeps_or_ends true e r o token s op h = cc h
keeps_or_ends false e r o token s op h = cc h

fetch_by_from : (s : Own) (heard : Option Message) (k : ℕ) (n : Notified) (m : Message) (v : Verdict)
    → From s heard (fetch_by k n s m v)
fetch_by_from s heard k n m (verdict.Ask num szx) = no_carry s heard _ (Fetching k) refl refl
fetch_by_from s heard k n m _ = quiet_from s heard _ (λ op h. cc h)

fetch_from : (s : Own) (heard : Option Message) (k : ℕ) (o : Option Notified) (m : Message)
    → From s heard (fetch_answered k o s m)
fetch_from s heard k None m = quiet_from s heard _ (λ op h. cc h)
fetch_from s heard k (Some n) m = fetch_by_from s heard k n m
    (cond (m.code == content) (part n.fetch m) (verdict.Refuse
    Rattle.coap_block.specs.declared.fetch_step.FetchRefusal.TheVariants.BadBlock))

-- of a call
module _ (s : Own) (k : ℕ) (r : Request) (m : Message) where
  fetched_from : (f : _) (v : Verdict) → From s (Some m) (called k r (Fetches f) s (calls.fetched f m v))
  fetched_from f verdict.Again = no_carry s (Some m) _ (Calling k r _) refl refl
  fetched_from f (verdict.Ask num szx) = no_carry s (Some m) _ (Calling k r _) refl refl
  fetched_from f _ = quiet_from s (Some m) _ (λ op h. cc h)

  got_from : (f : _) → From s (Some m) (called k r (Fetches f) s (answer r (Fetches f) m))
  got_from f = by (m.code == content) ((m.code == T.valid) && calls.has_tags r.etags)
    where
      by : (b c : Bool) → From s (Some m) (called k r (Fetches f) s
          (cond b (calls.fetched f m (part f m)) (cond c (calls.Ends true (R.Valid (T.tag_in m)))
          (calls.Ends true (R.Failed m.code)))))
      by true c = fetched_from f (part f m)
      by false true = quiet_from s (Some m) _ (λ op h. cc h)
      by false false = quiet_from s (Some m) _ (λ op h. cc h)

  module _ (u : UploadState) (is_running : s.running ≡ Some (Calling k r (Uploads u))) where
    continued_from : m.code ≡ continue → (o : Option Block) → block_at block1 m ≡ o
        → From s (Some m) (called k r (Uploads u) s (calls.continued u o))
    continued_from code None says = quiet_from s (Some m) _ (λ op h. cc h)
    continued_from code (Some b) says = by (continues u b) refl
      where
        by : (c : Bool) → continues u b ≡ c → From s (Some m)
            (called k r (Uploads u) s (cond c (calls.Asks (Uploads (moved u b))) (calls.Ends false R.BadBlock)))
        by true h op y is c =
            let same : Calling k r (Uploads (moved u b)) ≡ op = cc is in
            inr (record {
              number = k;
              request = r;
              upload = u;
              runs_it = is_running;
              message = m;
              hears_it = refl;
              code = code;
              block = b;
              says = says;
              may = h;
              is = sym same;
            })
        by false h op y is c = absurd (cc is)

    sent_from : From s (Some m) (called k r (Uploads u) s (answer r (Uploads u) m))
    sent_from = by (m.code == continue) refl (is_longer u) (more_follows u && calls.is_below_errors m.code)
      where
        by : (b : Bool) → (m.code == continue) ≡ b → (l p : Bool)
            → From s (Some m) (called k r (Uploads u) s
            (cond (b && l) (calls.continued u (block_at block1 m))
            (cond p (calls.Ends true R.BadBlock) (calls.Ends true (reports_of.done r.method m.code)))))
        by true h true p = continued_from (same_number m.code continue h) (block_at block1 m) refl
        by true h false true = quiet_from s (Some m) _ (λ op i. cc i)
        by true h false false = quiet_from s (Some m) _ (λ op i. cc i)
        by false h l true = quiet_from s (Some m) _ (λ op i. cc i)
        by false h l false = quiet_from s (Some m) _ (λ op i. cc i)

answered_from : (s : Own) (at : ℕ) (m : Message) (running : Option Operation) → s.running ≡ running
    → From s (Some m) (answered s at m running)
answered_from s at m (Some (Calling k r (Fetches f))) is = got_from s k r m f
answered_from s at m (Some (Calling k r (Uploads u))) is = sent_from s k r m u is
answered_from s at m (Some (Registering k path)) is =
    quiet_from s (Some m) (registered k path s at m)
    (keeps_or_ends (is_notification m) (record s
    { running = None; observations = s.observations ++ begun k path s.sizes at m ∷ [] }) (first_value k s.sizes m)
    (of k (R.Ended m.code)) m.token s)
answered_from s at m (Some (Fetching k)) is = fetch_from s (Some m) k (rest_of k s.observations) m
answered_from s at m (Some (Cancelling k)) is =
    quiet_from s (Some m) _ (releases_none (observation_of k s.observations))
answered_from s at m _ is = quiet_from s (Some m) _ (λ op h. cc h)

abbrev pub heard_in : Option Event → Option Message
heard_in (Some (event_of.Answer m)) = Some m
heard_in e = None

pub happened_from : (s : Own) (at : ℕ) (e : Option Event) → From s (heard_in e) (happened s at e)
happened_from s at None = quiet_from s None _ (λ op h. cc h)
happened_from s at (Some (event_of.Answer m)) = answered_from s at m s.running refl
happened_from s at (Some (event_of.Notice m)) =
    quiet_from s None _ (noticed_quiet s at m (observation_with m.token s.observations))
happened_from s at (Some event_of.Reset) = quiet_from s None _ (failed_quiet (λ t. true) R.Reset s s.running)
happened_from s at (Some event_of.Timeout) = quiet_from s None _ (failed_quiet (λ t. true) R.Timeout s s.running)
happened_from s at (Some event_of.NoResponse) = quiet_from s None _ (failed_quiet (λ t. true) R.NoResponse s s.running)

module _ (s : Own) (at : ℕ) where
  starts_from : s.running ≡ None → (queue : List Operation) → s.queue ≡ queue → From s None (starts s at queue)
  starts_from none [] is op y i c = absurd (cc i)
  starts_from none (first ∷ queue) is op y i c = by (is_upload_op first && is_held s at) op y i c
    where
      by : (b : Bool) → From s None (cond b (stays s) (runs first (record s { queue = queue })))
      by true op y i c = absurd (cc i)
      by false op y i c = let same : first ≡ op =
          cc i in inl (record { rest = queue; first = is ∙ ap (λ z. z ∷ queue) same; none = none })

  idle_from : (running : Option Operation) → s.running ≡ running → (number : Option ℕ)
      → From s None (idle s at running number)
  idle_from (Some x) is number = quiet_from s None (stays s) (λ op h. cc h)
  idle_from None is (Some k) = no_carry s None _ (Fetching k) refl refl
  idle_from None is None = starts_from is s.queue refl

  pub passes_from : (t : Turn) → From s None (passes s at t)
  passes_from turn_of.Idle = idle_from s.running refl (to_fetch s.observations)
  passes_from turn_of.Copied = quiet_from s None _ (λ op h. cc h)
  passes_from (turn_of.End e) = quiet_from s None _ (failed_quiet (λ t. true) (lapse e) s s.running)

-- what runs behind an effect, and what waits

abbrev pub AllOf : (Operation → Type 0) → List Operation → Type 0
AllOf P [] = Unit {0}
AllOf P (op ∷ ops) = P op × AllOf P ops

pub record Runs (s : Own) (e : Effect) : Type 1 where
  pub running : (e.own.running ≡ None) ⊎ (((k : ℕ) × (e.own.running ≡ dropped k s.running))
      ⊎ ((e.own.running ≡ s.running) ⊎ ((op : Operation) × (e.deed ≡ Asks op))))
  pub waits : (P : Operation → Type 0) → AllOf P s.queue → AllOf P e.own.queue

pub all_uncancelled : (k : ℕ) (P : Operation → Type 0) (ops : List Operation) → AllOf P ops
    → AllOf P (filter (λ op. not (is_cancel_of k op)) ops)
all_uncancelled k P [] h = tt
all_uncancelled k P (op ∷ ops) h = by (not (is_cancel_of k op)) (all_uncancelled k P ops h.1)
  where
    by : (b : Bool) → AllOf P (filter (λ o. not (is_cancel_of k o)) ops)
        → AllOf P (cond b (op ∷ filter (λ o. not (is_cancel_of k o)) ops) (filter (λ o. not (is_cancel_of k o)) ops))
    by true ih = (h.0, ih)
    by false ih = ih

over_runs : (s : Own) (k : ℕ) (report : Report) → Runs s (is_over k report s)
over_runs s k report = record { running = inr (inl (k, refl)); waits = λ P h. all_uncancelled k P s.queue h }

ends_runs : (s : Own) (e : Effect) → e.own.running ≡ None → e.own.queue ≡ s.queue → Runs s e
ends_runs s e none same = record { running = inl none; waits = λ P h. subst (AllOf P) (sym same) h }

same_runs : (s : Own) (e : Effect) → e.own.running ≡ s.running → e.own.queue ≡ s.queue → Runs s e
same_runs s e is same = record { running = inr (inr (inl is)); waits = λ P h. subst (AllOf P) (sym same) h }

asks_runs : (s : Own) (e : Effect) (op : Operation) → e.deed ≡ Asks op → e.own.queue ≡ s.queue → Runs s e
asks_runs s e op is same = record { running = inr (inr (inr (op, is))); waits = λ P h. subst (AllOf P) (sym same) h }

pub held_runs : (s : Own) (c : Bool) (report : Option Reported)
    → Runs s (ends report (cond c (record s { hold = Some s.sent }) s))
held_runs s true report = ends_runs s _ refl refl
held_runs s false report = ends_runs s _ refl refl

called_runs : (s : Own) (k : ℕ) (r : Request) (t : Transfer) (next : Next) → Runs s (called k r t s next)
called_runs s k r t (calls.Asks next) = asks_runs s _ (Calling k r next) refl refl
called_runs s k r t (calls.Ends final report) = held_runs s (not final && is_upload t) (of k report)

by_runs : (s : Own) (k : ℕ) (n : Notified) (m : Message) (v : Verdict) → Runs s (fetch_by k n s m v)
by_runs s k n m (verdict.Ask num szx) = asks_runs s _ (Fetching k) refl refl
by_runs s k n m _ = ends_runs s _ refl refl

fetch_runs : (s : Own) (k : ℕ) (o : Option Notified) (m : Message) → Runs s (fetch_answered k o s m)
fetch_runs s k None m = ends_runs s _ refl refl
fetch_runs s k (Some n) m = by_runs s k n m (cond (m.code == content) (part n.fetch m)
    (verdict.Refuse Rattle.coap_block.specs.declared.fetch_step.FetchRefusal.TheVariants.BadBlock))

registered_runs : (s : Own) (k : ℕ) (path : List (List ℕ)) (at : ℕ) (m : Message) → Runs s (registered k path s at m)
registered_runs s k path at m = by (is_notification m)
  where
    by : (b : Bool) → Runs s (cond b (record {
      own =
          record s { running = None; observations = s.observations ++ begun k path s.sizes at m ∷ [] };
      report = first_value k s.sizes m;
      deed = Keeps m.token;
    }) (ends (of k (R.Ended m.code)) s))
    by true = ends_runs s _ refl refl
    by false = ends_runs s _ refl refl

cancel_runs : (s : Own) (k : ℕ) (report : Report)
    → Runs s (Rattle.coap_client.specs.Events.cancel_over k report s)
cancel_runs s k report = record { running = inl refl; waits = λ P h. all_uncancelled k P s.queue h }

answered_runs : (s : Own) (at : ℕ) (m : Message) (running : Option Operation) → Runs s (answered s at m running)
answered_runs s at m None = same_runs s _ refl refl
answered_runs s at m (Some (Calling k r t)) = called_runs s k r t (answer r t m)
answered_runs s at m (Some (Registering k path)) = registered_runs s k path at m
answered_runs s at m (Some (Fetching k)) = fetch_runs s k (rest_of k s.observations) m
answered_runs s at m (Some (Cancelling k)) = cancel_runs s k R.Cancelled
answered_runs s at m (Some Dropped) = ends_runs s _ refl refl

pub failed_runs : (s : Own) (u : Transfer → Bool) (report : Report) (running : Option Operation)
    → Runs s (failed u report s running)
failed_runs s u report None = same_runs s _ refl refl
failed_runs s u report (Some (Calling k r t)) = held_runs s (u t && is_upload t) (of k report)
failed_runs s u report (Some (Cancelling k)) = cancel_runs s k report
failed_runs s u report _ = ends_runs s _ refl refl

noticed_runs : (s : Own) (at : ℕ) (m : Message) (o : Option Observation) → Runs s (noticed_by o s at m)
noticed_runs s at m None = same_runs s _ refl refl
noticed_runs s at m (Some o) = by (not (is_notification m)) (is_newer o.watch.mark (sequence_in m) at)
  where
    by : (b c : Bool) → Runs s (cond b (is_over o.number (R.Ended m.code) s)
        (cond c (renewed o s at m) (stays (passed o s at m))))
    by true c = over_runs s o.number (R.Ended m.code)
    by false true = record { running = inr (inl (o.number, refl)); waits = λ P h. h }
    by false false = same_runs s _ refl refl

pub happened_runs : (s : Own) (at : ℕ) (e : Option Event) → Runs s (happened s at e)
happened_runs s at None = same_runs s _ refl refl
happened_runs s at (Some (event_of.Answer m)) = answered_runs s at m s.running
happened_runs s at (Some (event_of.Notice m)) = noticed_runs s at m (observation_with m.token s.observations)
happened_runs s at (Some event_of.Reset) = failed_runs s (λ t. true) R.Reset s.running
happened_runs s at (Some event_of.Timeout) = failed_runs s (λ t. true) R.Timeout s.running
happened_runs s at (Some event_of.NoResponse) = failed_runs s (λ t. true) R.NoResponse s.running

starts_runs : (s : Own) (at : ℕ) (queue : List Operation) → s.queue ≡ queue → Runs s (starts s at queue)
starts_runs s at [] is = same_runs s _ refl refl
starts_runs s at (op ∷ queue) is = by (is_upload_op op && is_held s at)
  where
    by : (b : Bool) → Runs s (cond b (stays s) (runs op (record s { queue = queue })))
    by true = same_runs s _ refl refl
    by false = record {
      running = inr (inr (inr (op, refl)));
      waits = λ P h. (let k : AllOf P (op ∷ queue) = subst (AllOf P) is h in k.1);
    }

idle_runs : (s : Own) (at : ℕ) (running : Option Operation) (number : Option ℕ) → Runs s (idle s at running number)
idle_runs s at (Some op) number = same_runs s (stays s) refl refl
idle_runs s at None (Some k) = asks_runs s _ (Fetching k) refl refl
idle_runs s at None None = starts_runs s at s.queue refl

pub passes_runs : (s : Own) (at : ℕ) (t : Turn) → Runs s (passes s at t)
passes_runs s at turn_of.Idle = idle_runs s at s.running (to_fetch s.observations)
passes_runs s at turn_of.Copied = same_runs s _ refl refl
passes_runs s at (turn_of.End e) = failed_runs s (λ t. true) (lapse e) s.running

-- the token of the exchange stays while it runs
abbrev pub TokenStays : Option Exchange → Option Exchange → Type 0
TokenStays before now = (e : Exchange) → now ≡ Some e → (old : Exchange) × (before ≡ Some old) × (e.token ≡ old.token)

pub same_token_stays : (before now : Option Exchange) → token_in now ≡ token_in before → TokenStays before now
same_token_stays None now same e is = absurd (cc (same, ap token_in is))
same_token_stays (Some old) now same e is = let k : Some e.token ≡ Some old.token = sym (ap token_in is)
    ∙ same in (old, refl, cc k)

pub came_stays : (before now : Option Exchange) (e : Option Event) → Came before now e → TokenStays before now
came_stays before now None c x is = same_token_stays before now c x is
came_stays before now (Some (event_of.Answer m)) c x is = absurd (cc (is, c.3))
came_stays before now (Some (event_of.Notice m)) c x is = (x, sym c.1 ∙ is, refl)
came_stays before now (Some event_of.Reset) c x is = absurd (cc (is, c.2))
came_stays before now _ c x is = absurd c

pub turned_stays : (before : Option Exchange) (t : Turn) → TokenStays before (A.running_unless t before)
turned_stays before (turn_of.End e) x is = absurd (cc is)
turned_stays before _ x is = (x, is, refl)

-- the token of a request that was sent is that of the exchange
pub token_sent : (x : E.Own) (r : E.Request) (below : L.Answer) (token : List ℕ)
    → Ok token ≡ Q.ask_answer (Q.opening_of x r) below (Q.request_token x r)
    → (e : Exchange) → (Q.opened x r (Q.sent_as (Q.opening_of x r) below)).running ≡ Some e → e.token ≡ token
token_sent x r below token right e is = by (move.ask_row x r below (Ok token) right)
  where
    by : move.AskRow x r below (Ok token) → e.token ≡ token
    by (refused why no_answer gone) = absurd (cc no_answer)
    by (sent_it id answer_is some opens sent_id) =
        let k : Q.request_token x r ≡ token = cc answer_is in
        let same = ap token_in (sym is ∙ ap (λ (y : E.Own). y.running) (move.opened_some x r below id some)) in
        let t : Some e.token ≡ Some (Q.request_token x r) = same in
        let u : e.token ≡ Q.request_token x r = cc t in u ∙ k
