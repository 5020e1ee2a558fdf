-- A first block is sent by a tick alone, where no upload holds it back.
use Rattle.std.proofs.Common.{◌≡◌, ◌≤◌, ℕ, ◌+◌, Bool, true, false, cond, ◌&&◌, Option, Some, None, List, [], ◌∷◌, ◌++◌}
use Rattle.std.proofs.Common.{refl, ap, sym, subst, ◌∙◌, arith, Result, Ok, Err}
use Rattle.std.specs.Prelude.{◌==◌}
use Rattle.coap_codec.specs.Message.{Message}
use Rattle.coap_types.specs.declared.block.Block.{Block}
use Rattle.coap_block.specs.declared.fetch_verdict.Verdict.{Verdict}
use Rattle.coap_block.specs.declared.fetch_verdict.Verdict.TheVariants as verdict
use Rattle.coap_block.specs.UploadStep.{UploadState, moved, more_follows, continues}
use Rattle.coap_exchange.specs.declared.asker.AskRefusal.{AskRefusal}
use Rattle.coap_exchange.specs.declared.asker.Event.{Event}
use Rattle.coap_exchange.specs.declared.asker.Event.TheVariants as event_of
use Rattle.coap_exchange.specs.declared.asker.Turn.{Turn}
use Rattle.coap_exchange.specs.declared.asker.Turn.TheVariants as turn_of
use Rattle.coap_exchange.specs.AskerArrivals as A
use Rattle.coap_types.specs.declared.option_number.TheConstants.{BLOCK1 as block1}
use Rattle.coap_client.specs.Trace.{Request}
use Rattle.coap_client.specs.Trace as R
use Rattle.coap_client.specs.Own.{Transfer, Fetches, Uploads, Single, Operation, Calling, Registering, Fetching}
use Rattle.coap_client.specs.Own.{Cancelling, Dropped, Notified, Own}
use Rattle.coap_client.specs.Observations.{observation_of, observation_with, rest_of, to_fetch, dropped}
use Rattle.coap_client.specs.Requests.{is_longer, message_of}
use Rattle.coap_client.specs.Responses.{content, continue, block_at, is_notification, part}
use Rattle.coap_client.specs.Responses as T
use Rattle.coap_client.specs.Reports.{lapse}
use Rattle.coap_client.specs.Reports as reports_of
use Rattle.coap_client.specs.Calls.{Next, answer}
use Rattle.coap_client.specs.Calls as calls
use Rattle.coap_client.specs.Effects.{Deed, Rests, Asks, Keeps, Releases, Effect, stays, runs, of}
use Rattle.coap_client.specs.Fetching.{fetch_by, fetch_answered}
use Rattle.coap_client.specs.Observing.{begun, first_value, registered}
use Rattle.coap_client.specs.Events.{called, answered, happened, is_held, is_upload_op, starts, idle, passes, closed}
use Rattle.coap_client.specs.Deeds.{close}
use Rattle.coap_client.specs.Sendings.{Sending, sent_by}
use Rattle.coap_client_laws.specs.Follows.Blocks.{Carried, carried}
use Rattle.coap_client.specs.Places.{hit, in_running, places}
use Rattle.coap_client_laws.specs.Follows.Holds.{is_upload_of, sends_of}
use Rattle.coap_client_laws.proofs.Turning.BlockByBlock.{failed_quiet, keeps_or_ends, noticed_quiet}
use Rattle.coap_client.proofs.Facts.Places.PlaceLemmas.{same_number, hit_self}
use Rattle.coap_client_laws.proofs.Uploading.UploadSteps.{number_moved}
use Rattle.coap_client_laws.proofs.Uploading.Fate.{up_of}
use Rattle.coap_client.proofs.Facts.Turning.Moves.{releases_none}

-- what is sent on an answer is no first block

abbrev Later : Deed → Type 0
Later d = (op : Operation) (y : Carried) → d ≡ Asks op → carried op ≡ Some y → y.upload.num ≡ 0 → ⊥

abbrev LaterNext : Next → Type 0
LaterNext (calls.Asks (Uploads u)) = u.num ≡ 0 → ⊥
LaterNext _ = Unit {0}

later_if : (b : Bool) (x y : Next) → LaterNext x → LaterNext y → LaterNext (cond b x y)
later_if true x y h k = h
later_if false x y h k = k

fetched_later : (f : _) (m : Message) (v : Verdict) → LaterNext (calls.fetched f m v)
fetched_later f m (verdict.Refuse why) = tt
fetched_later f m _ = tt

continued_later : (u : UploadState) (o : Option Block) → LaterNext (calls.continued u o)
continued_later u None = tt
continued_later u (Some b) = by (continues u b) refl
  where
    by : (c : Bool) → continues u b ≡ c → LaterNext
        (cond c (calls.Asks (Uploads (moved u b))) (calls.Ends false R.BadBlock))
    by true h = number_moved u b h
    by false h = tt

answer_later : (r : Request) (t : Transfer) (m : Message) → LaterNext (answer r t m)
answer_later r (Fetches f) m =
    later_if (m.code == content) (calls.fetched f m (part f m))
    (cond ((m.code == T.valid) && calls.has_tags r.etags) (calls.Ends true (R.Valid (T.tag_in m)))
    (calls.Ends true (R.Failed m.code))) (fetched_later f m (part f m))
    (later_if ((m.code == T.valid) && calls.has_tags r.etags) (calls.Ends true (R.Valid (T.tag_in m)))
    (calls.Ends true (R.Failed m.code)) tt tt)
answer_later r (Uploads u) m =
    later_if ((m.code == continue) && is_longer u) (calls.continued u (block_at block1 m))
    (cond (more_follows u && calls.is_below_errors m.code) (calls.Ends true R.BadBlock)
    (calls.Ends true (reports_of.done r.method m.code))) (continued_later u (block_at block1 m))
    (later_if (more_follows u && calls.is_below_errors m.code) (calls.Ends true R.BadBlock)
    (calls.Ends true (reports_of.done r.method m.code)) tt tt)
answer_later r Single m = tt

called_later : (k : ℕ) (r : Request) (t : Transfer) (s : Own) (next : Next) → LaterNext next
    → Later (called k r t s next).deed
called_later k r t s (calls.Ends final report) h op y is c zero = cc is
called_later k r t s (calls.Asks (Fetches f)) h op y is c zero = let same : Calling k r (Fetches f)
    ≡ op = cc is in let e : None ≡ Some y = ap carried same ∙ c in cc e
called_later k r t s (calls.Asks Single) h op y is c zero = let same : Calling k r Single ≡ op = cc is in let e : None
    ≡ Some y = ap carried same ∙ c in cc e
called_later k r t s (calls.Asks (Uploads u)) h op y is c zero =
    let same : Calling k r (Uploads u) ≡ op = cc is in
    let e : ◌≡◌ {A = Option Carried} (Some (record { number = k; upload = u })) (Some y) = ap carried same ∙ c in
    let e2 : ◌≡◌ {A = Carried} (record { number = k; upload = u }) y = cc e in
    h (ap (λ (z : Carried). z.upload.num) e2 ∙ zero)

quiet_later : (d : Deed) → ((op : Operation) → d ≡ Asks op → ⊥) → Later d
quiet_later d q op y is c zero = q op is

by_later : (k : ℕ) (n : Notified) (s : Own) (m : Message) (v : Verdict) → Later (fetch_by k n s m v).deed
by_later k n s m (verdict.Ask num szx) op y is c zero = let same : Fetching k ≡ op = cc is in let e : None
    ≡ Some y = ap carried same ∙ c in cc e
by_later k n s m _ op y is c zero = cc is

fetch_later : (k : ℕ) (o : Option Notified) (s : Own) (m : Message) → Later (fetch_answered k o s m).deed
fetch_later k None s m op y is c zero = cc is
fetch_later k (Some n) s m op y is c zero = by_later k n s m _ op y is c zero

registered_quiet : (k : ℕ) (path : List (List ℕ)) (s : Own) (m : ℕ) (a : Message) (op : Operation)
    → (registered k path s m a).deed ≡ Asks op → ⊥
registered_quiet k path s m a op h =
    keeps_or_ends (is_notification a) (record s {
      running = None;
      observations = s.observations ++ begun k path s.sizes m a ∷ [];
    }) (first_value k s.sizes a)
    (of k (R.Ended a.code)) a.token s op h

registered_later : (k : ℕ) (path : List (List ℕ)) (s : Own) (m : ℕ) (a : Message) → Later (registered k path s m a).deed
registered_later k path s m a op y is c zero = registered_quiet k path s m a op is

answered_later : (s : Own) (m : ℕ) (a : Message) (running : Option Operation) → Later (answered s m a running).deed
answered_later s m a (Some (Calling k r t)) = called_later k r t s (answer r t a) (answer_later r t a)
answered_later s m a (Some (Registering k path)) = registered_later k path s m a
answered_later s m a (Some (Fetching k)) = fetch_later k (rest_of k s.observations) s a
answered_later s m a (Some (Cancelling k)) = quiet_later _ (releases_none (observation_of k s.observations))
answered_later s m a _ = quiet_later _ (λ op h. cc h)

pub happened_later : (s : Own) (m : ℕ) (e : Option Event) → Later (happened s m e).deed
happened_later s m None = quiet_later _ (λ op h. cc h)
happened_later s m (Some (event_of.Answer a)) = answered_later s m a s.running
happened_later s m (Some (event_of.Notice a)) =
    quiet_later _ (noticed_quiet s m a (observation_with a.token s.observations))
happened_later s m (Some event_of.Reset) = quiet_later _ (failed_quiet (λ t. true) R.Reset s s.running)
happened_later s m (Some event_of.Timeout) = quiet_later _ (failed_quiet (λ t. true) R.Timeout s s.running)
happened_later s m (Some event_of.NoResponse) = quiet_later _ (failed_quiet (λ t. true) R.NoResponse s s.running)

-- what a turn starts, nothing runs and it is not held back
abbrev IsFree : Own → ℕ → Deed → Type 0
IsFree s m d = (op : Operation) (y : Carried) → d ≡ Asks op → carried op ≡ Some y → is_longer y.upload ≡ true
    → (s.running ≡ None) × (is_held s m ≡ false)

upload_op : (op : Operation) (y : Carried) → carried op ≡ Some y → is_longer y.upload ≡ true → is_upload_op op ≡ true
upload_op (Calling k r (Uploads u)) y c h = let e : ◌≡◌ {A = Carried} (record { number = k; upload = u }) y =
    cc c in ap (λ (z : Carried). is_longer z.upload) e ∙ h
upload_op _ y c h = absurd (cc c)

module _ (s : Own) (m : ℕ) where
  starts_free : (queue : List Operation) → s.running ≡ None → IsFree s m (starts s m queue).deed
  starts_free [] none op y is c l = absurd (cc is)
  starts_free (first ∷ queue) none op y is c l = by (is_upload_op first) refl (is_held s m) refl is
    where
      by : (a : Bool) → is_upload_op first ≡ a → (b : Bool) → is_held s m ≡ b
          → (cond (a && b) (stays s) (runs first (record s { queue = queue }))).deed ≡ Asks op
          → (s.running ≡ None) × (is_held s m ≡ false)
      by true e true k i = absurd (cc i)
      by true e false k i = (none, k)
      by false e b k i =
          let same : first ≡ op = cc i in
          let up : is_upload_op first ≡ true = ap is_upload_op same ∙ upload_op op y c l in
          absurd (cc (e, up))

  idle_free : (running : Option Operation) → s.running ≡ running → (number : Option ℕ)
      → IsFree s m (idle s m running number).deed
  idle_free (Some x) r number op y is c l = absurd (cc is)
  idle_free None r (Some k) op y is c l = let same : Fetching k ≡ op = cc is in let e : None ≡ Some y = ap carried same
      ∙ c in absurd (cc e)
  idle_free None r None op y is c l = starts_free s.queue r op y is c l

  pub passes_free : (t : Turn) → IsFree s m (passes s m t).deed
  passes_free turn_of.Idle op y is c l = idle_free s.running refl (to_fetch s.observations) op y is c l
  passes_free turn_of.Copied op y is c l = absurd (cc is)
  passes_free (turn_of.End e) op y is c l = absurd (failed_quiet (λ t. true) (lapse e) s s.running op is)

-- a sending is that of the deed
pub record SentOf (e : Effect) (d : Deed) (token : Result (List ℕ) AskRefusal) (x : Sending) : Type 0 where
  pub asks : d ≡ Asks x.operation
  pub given : token ≡ Ok x.token
  pub request : x.request ≡ message_of e.own.observations x.operation

pub sent_of : (e : Effect) (d : Deed) (token : Result (List ℕ) AskRefusal) (x : Sending) → sent_by e d token ≡ Some x
    → SentOf e d token x
sent_of e (Asks op) (Ok token) x h =
    let same : ◌≡◌ {A = Sending} (record { operation = op; token = token; request = message_of e.own.observations op })
    x = cc h in
    record {
      asks = ap (λ (z : Sending). Asks z.operation) same;
      given = ap (λ (z : Sending). Ok z.token) same;
      request = sym (ap (λ (z : Sending). z.request) same)
          ∙ ap (λ (z : Sending). message_of e.own.observations z.operation) same;
    }
sent_of e _ _ x h = absurd (cc h)

-- where a transfer's block is sent, it runs from then on
pub sends_now : (m other : ℕ) (e : Effect) (token : Result (List ℕ) AskRefusal) (d : Deed)
    → ((op : Operation) → d ≡ Asks op → e.own.running ≡ Some op) → sends_of other (sent_by e d token) ≡ true
    → ((closed m e d token).own.sent ≡ m) × (is_upload_of other (closed m e d token).own.running ≡ true)
sends_now m other e (Ok token) (Asks op) f h = (refl, ap (is_upload_of other) (f op refl) ∙ h)
sends_now m other e (Err why) (Asks op) f h = absurd (cc h)
sends_now m other e token _ f h = absurd (cc h)

pub copies_now : (m other : ℕ) (s : Own) (t : Turn) (token : Result (List ℕ) AskRefusal) → t ≡ turn_of.Copied
    → is_upload_of other s.running ≡ true → ((close m (passes s m t) token).own.sent ≡ m)
    × (is_upload_of other (close m (passes s m t) token).own.running ≡ true)
copies_now m other s t token is up = subst (λ u. ((close m (passes s m u) token).own.sent ≡ m)
    × (is_upload_of other (close m (passes s m u) token).own.running ≡ true)) (sym is) (refl, up)

-- an upload that runs has its place
pub up_place : (other : ℕ) (s : Own) → is_upload_of other s.running ≡ true → 1 ≤ places other s
up_place other s h =
    let u = up_of other s.running h in
    let a : in_running other s.running ≡ hit u.number other = ap (in_running other) u.runs_it in
    let b : hit u.number other ≡ 1 = ap (λ i. hit i other) (same_number u.number other u.same) ∙ hit_self other in
    omega (arith, a, b)

pub dropped_up : (other k : ℕ) (running : Option Operation) → is_upload_of other running ≡ true
    → is_upload_of other (dropped k running) ≡ true
dropped_up other k running h = let u = up_of other running h in subst (λ r. is_upload_of other (dropped k r) ≡ true)
    (sym u.runs_it) (ap (is_upload_of other) (sym u.runs_it) ∙ h)
