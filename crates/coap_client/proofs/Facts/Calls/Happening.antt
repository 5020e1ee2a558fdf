-- What an effect makes of a client, by what was done for it.
use Rattle.std.proofs.Common.{◌≡◌, ℕ, max, Bool, true, false, not, ◌&&◌, cond, Option, Some, None, List, [], ◌∷◌, ◌++◌}
use Rattle.std.proofs.Common.{Result, Ok, Err, sym, ap, ◌∙◌, subst, refl}
use Rattle.std.specs.Prelude.{OnErr, OnOk, is_err}
use Rattle.std.proofs.lemmas.List.{append-nil}
use Rattle.coap_types.specs.declared.endpoint.Endpoint.{Endpoint}
use Rattle.coap_layer.specs.Trace as L
use Rattle.coap_exchange.specs.declared.asker.Event.{Event}
use Rattle.coap_exchange.proofs.Facts.ClientSide.{exchanged_join}
use Rattle.coap_exchange.specs.declared.asker.AskRefusal.{AskRefusal}
use Rattle.coap_exchange.specs.AskerTrace as E
use Rattle.coap_exchange.specs.AskerLaw as X
use Rattle.coap_exchange.specs.AskerLaw.{Exchanged}
use Rattle.coap_client.specs.Trace.{Request, Report, Reported, Requested, Feeds, Ended}
use Rattle.coap_client.specs.Own.{Transfer, Operation, Calling, Cancelling, Observation, Own, clocked}
use Rattle.coap_codec.specs.Message.{Message}
use Rattle.coap_client.specs.Observing.{begun, first_value, is_over, registered, releases}
use Rattle.coap_client.specs.Observations.{observation_of}
use Rattle.coap_client.specs.Responses.{is_notification, sequence_in}
use Rattle.coap_client.specs.Calls as calls
use Rattle.coap_client.specs.Effects.{Deed, Rests, Asks, Keeps, Releases, Effect, stays, ends, of, is_upload, held_by}
use Rattle.coap_client.specs.Events.{called, failed, happened}
use Rattle.coap_client.specs.Steps.{asking, reporting}
use Rattle.coap_client.specs.Deeds.{at, close, deeds}
use Rattle.coap_client.specs.Led.{State, Step}
use Rattle.coap_client.specs.declared.client.heard.Heard as H
use Rattle.coap_client.specs.declared.client.heard.Heard.TheVariants as heard
use Rattle.coap_client.specs.declared.client.report.Report as R
use Rattle.coap_client.specs.Object.CallShown.{CallState}
use Rattle.coap_client.specs.Object.Shown.{shown_report}
use Rattle.coap_client.specs.Object.AnswerSteps.{Hears}
use Rattle.coap_client.specs.Object.Sends.{Sends}
use Rattle.coap_client.specs.Object.Happens.{Comes, Happens, IsDone, failing, left}

-- an effect for which no request is sent

abbrev pub AsksNothing : Deed → Type 0
AsksNothing (Asks op) = ⊥
AsksNothing _ = Unit {0}

done_by : (x y : X.State) (o : Own) (r : Option Reported) (d : Deed) (m word : ℕ) (own : Own) → AsksNothing d
    → IsDone x d y → own ≡ reporting (record { own = o; report = r; deed = d })
    → Happens x (record { own = o; report = r; deed = d }) m word None (left own y)
done_by x y o r (Asks op) m word own n k is = absurd n
done_by x y o r _ m word own n k is = record {
  sent = L.Nothing;
  token = Ok [];
  kept = k.0;
  between = y;
  first = k.1 o m
      word L.Nothing (Ok []);
  last = refl;
  own_is = is;
  asked_is = refl;
}

pub deed_happens : (x y : X.State) (e : Effect) (m word : ℕ) (own : Own) → AsksNothing e.deed → IsDone x e.deed y
    → own ≡ reporting e → Happens x e m word None (left own y)
deed_happens x y e m word own n k is = done_by x y e.own e.report e.deed m word own n k is

rests_done : (x : X.State) (d : Deed) → d ≡ Rests → IsDone x d x
rests_done x d is = (
  false,
  λ s at word sent token. subst (λ e. Exchanged x (deeds e s at word sent token false) x)
      (sym is) refl,
)

pub rests_happens : (x : X.State) (e : Effect) (m word : ℕ) (own : Own) → e.deed ≡ Rests → own ≡ reporting e
    → Happens x e m word None (left own x)
rests_happens x e m word own is own_is = deed_happens x x e m word own (subst AsksNothing (sym is) tt)
    (rests_done x e.deed is) own_is

-- a call that is over

pub over_happens : (x : X.State) (number : ℕ) (r : Request) (t u : Transfer) (s own : Own) (next : calls.Next)
    (final : Bool) (report : Report) (m word : ℕ)
    → next ≡ calls.Ends final report → is_upload u ≡ is_upload t
    → own ≡ reporting (ends (of number report) (held_by (not final) u s))
    → Happens x (called number r t s next) m word None (left own x)
over_happens x number r t u s own next final report m word is same own_is =
    subst (λ n. Happens x (called number r t s n) m word None (left own x)) (sym is)
    (rests_happens x (ends (of number report) (held_by (not final) t s)) m word own refl
    (own_is ∙ ap (λ b. reporting (ends (of number report) (cond (not final && b) (record s { hold = Some s.sent }) s)))
    same))

-- a datagram

pub fed : (old new : State) (mid : X.State) (now : ℕ) (from : Endpoint) (bytes : List ℕ) (word : ℕ) (up : L.Answer)
    (settled : Bool) (event : Option Event)
    → X.Step old.layer (E.Receive (max old.own.clock now) from bytes up settled event) mid
    → Comes mid (happened (at now old.own) (max old.own.clock now) event) (max old.own.clock now) word new
    → (sent : L.Answer) × (token : Result (List ℕ) AskRefusal) × (kept : Bool)
    × Step old (Feeds now from bytes word up settled event sent token kept) new
fed old new mid now from bytes word up settled event step comes =
    let m : ℕ = max old.own.clock now in
    let e : Effect = happened (at now old.own) m event in
    let h = comes.happens in
    let c : Effect = close m e h.token in
    let input : E.Call = E.Receive m from bytes up settled event in
    let first : List E.Call = deeds e.deed e.own m word h.sent h.token h.kept in
    let last : List E.Call = deeds c.deed c.own m word h.sent h.token h.kept in (
      h.sent,
      h.token,
      h.kept,
      record {
        right = tt;
        own_is = comes.own_is ∙ (ap (λ o. asking comes.asked o) h.own_is ∙ ap (λ r. asking r (reporting c)) h.asked_is);
        under = exchanged_join old.layer h.between new.layer last (first ++ input ∷ [])
            (exchanged_join old.layer mid h.between first (input ∷ []) (old.layer, refl, step) h.first) h.last;
      },
    )

-- .. of an object, whose parts these are, at the moment that it hands down
pub fed_by : (s : Own) (x mid : X.State) (old new : State) (now m : ℕ) (from : Endpoint) (bytes : List ℕ) (word : ℕ)
    (up : L.Answer) (settled : Bool) (event : Option Event)
    → left s x ≡ old → m ≡ max s.clock now → X.Step x (E.Receive m from bytes up settled event) mid
    → Comes mid (happened (clocked m s) m event) m word new
    → (sent : L.Answer) × (token : Result (List ℕ) AskRefusal) × (kept : Bool)
    × Step old (Feeds now from bytes word up settled event sent token kept) new
fed_by s x mid old new now m from bytes word up settled event same is step h =
    subst (λ o. (sent : L.Answer) × (token : Result (List ℕ) AskRefusal) × (kept : Bool)
    × Step o (Feeds now from bytes word up settled event sent token kept) new) same
    (fed (left s x) new mid now from bytes word up settled event
    (subst (λ k. X.Step x (E.Receive k from bytes up settled event) mid) is step)
    (subst (λ k. Comes mid (happened (clocked k s) k event) k word new) is h))

pub on_ok : {X Y P Q : Type 0} (r : Result X Y) → (P → Q) → OnOk r P → OnOk r Q
on_ok (Ok x) f h = f h
on_ok (Err y) f h = tt

-- no event
pub nothing_comes : (s own : Own) (x : X.State) (m word : ℕ) (event : Option Event) → event ≡ None
    → own ≡ record (clocked m s) { asked = None } → Comes x (happened (clocked m s) m event) m word (left own x)
nothing_comes s own x m word event is own_is =
    subst (λ e. Comes x (happened (clocked m s) m e) m word (left own x)) (sym is)
    (record {
      asked = None;
      own = clocked m s;
      happens = rests_happens x (stays (clocked m s)) m word (clocked m s) refl
          (ap (λ rs. record (clocked m s) { reports = rs }) (sym (append-nil s.reports)));
      own_is = own_is;
    })

-- a request that was not sent
pub refused_sends : (old new : X.State) (now word : ℕ) (r : E.Request) (why : AskRefusal)
    (result : Result (List ℕ) AskRefusal) (sent : L.Answer) → X.Step old (E.Ask now r word sent result) new
    → result ≡ Err why → Sends old now r word None new
refused_sends old new now word r why result sent step is =
    record {
      sent = sent;
      token = Err why;
      step =
          (old, refl, subst (λ a. X.Step old (E.Ask now r word sent a) new) is step);
      given_is = refl;
    }

-- the answer to a registration

pub no_notification : (b : Bool) (n : ℕ) → None ≡ cond b (Some n) None → b ≡ false
no_notification true n h = absurd (cc h)
no_notification false n h = refl

pub a_notification : (b : Bool) (n k : ℕ) → Some k ≡ cond b (Some n) None → (b ≡ true) × (k ≡ n)
a_notification true n k h = (refl, ap (λ (o : Option ℕ). elim o [ None ↦ 0 | Some x ↦ x ]) h)
a_notification false n k h = absurd (cc h)

pub not_registered : (x : X.State) (number : ℕ) (path : List (List ℕ)) (s own : Own) (m word : ℕ) (a : Message)
    (told : Option ℕ) → told ≡ cond (is_notification a) (Some (sequence_in a)) None → told ≡ None
    → own ≡ reporting (ends (of number (Ended a.code)) s)
    → Happens x (registered number path s m a) m word None (left own x)
not_registered x number path s own m word a told is none own_is =
    let e : Effect = ends (of number (Ended a.code)) s in
    let no = no_notification (is_notification a) (sequence_in a) (sym none ∙ is) in
    subst (λ b. Happens x (cond b (record {
      own =
          record s { running = None; observations = s.observations ++ begun number path s.sizes m a ∷ [] };
      report =
          first_value number s.sizes a;
      deed = Keeps a.token;
    }) e) m word None (left own x)) (sym no)
    (rests_happens x e m word own refl own_is)

pub was_registered : (x y : X.State) (number : ℕ) (path : List (List ℕ)) (s own : Own) (m word : ℕ) (a : Message)
    (told : Option ℕ) (k : ℕ) (kept : Bool) → told ≡ cond (is_notification a) (Some (sequence_in a)) None
    → told ≡ Some k
    → X.Step x (E.Keep a.token kept) y
    → own ≡ reporting (record {
      own = record s
          { running = None; observations = s.observations ++ begun number path s.sizes m a ∷ [] };
      report =
          first_value number s.sizes a;
      deed = Keeps a.token;
    })
    → Happens x (registered number path s m a) m word None (left own y)
was_registered x y number path s own m word a told k kept is some step own_is =
    let e : Effect = record {
      own = record s {
        running = None;
        observations =
            s.observations ++ begun number path s.sizes m a ∷ [];
      };
      report = first_value number s.sizes a;
      deed =
          Keeps a.token;
    } in
    let yes = (a_notification (is_notification a) (sequence_in a) k (sym some ∙ is)).0 in
    subst (λ b. Happens x (cond b e (ends (of number (Ended a.code)) s)) m word None (left own y)) (sym yes)
    (deed_happens x y e m word own tt (kept, λ o at w sent token. (x, refl, step)) own_is)

-- what runs failed

pub releases_quiet : (o : Option Observation) → AsksNothing (releases o)
releases_quiet None = tt
releases_quiet (Some o) = tt

failed_quiet : (u : Transfer → Bool) (report : Report) (s : Own) (running : Option Operation)
    → AsksNothing (failed u report s running).deed
failed_quiet u report s (Some (Cancelling number)) = releases_quiet (observation_of number s.observations)
failed_quiet u report s _ = tt

pub failed_happens : (x y : X.State) (s own : Own) (report : Report) (m word : ℕ)
    → IsDone x (failing false report s).deed y → own ≡ reporting (failing false report s)
    → Happens x (failed (λ t. true) report s s.running) m word None (left own y)
failed_happens x y s own report m word is own_is =
    deed_happens x y (failing false report s) m word own (failed_quiet (λ t. true) report s s.running) is own_is

pub over_quiet : (number : ℕ) (report : Report) (s : Own) → AsksNothing (is_over number report s).deed
over_quiet number report s = releases_quiet (observation_of number s.observations)

pub registered_number : (told : Option ℕ) (a : Message) (k : ℕ)
    → told ≡ cond (is_notification a) (Some (sequence_in a)) None → told ≡ Some k → k ≡ sequence_in a
registered_number told a k is some = (a_notification (is_notification a) (sequence_in a) k (sym some ∙ is)).1

-- its parts, one behind the other
pub begun_own : (number : ℕ) (path : List (List ℕ)) (s first second own : Own) (m : ℕ) (a : Message)
    (report : Option Reported) → first ≡ s
    → second ≡ record first {
      running = None;
      observations =
          first.observations ++ begun number path first.sizes m a ∷ [];
    }
    → own ≡ reporting (record { own = second; report = report; deed = Rests }) → report ≡ first_value number s.sizes a
    → own ≡ reporting (record {
      own = record s
          { running = None; observations = s.observations ++ begun number path s.sizes m a ∷ [] };
      report =
          first_value number s.sizes a;
      deed = Keeps a.token;
    })
begun_own number path s first second own m a report same live own_is report_is =
    own_is
    ∙ (ap (λ (o : Own). reporting (record { own = o; report = report; deed = Rests })) live
    ∙ (ap (λ (o : Own). reporting (record {
      own =
          record o { running = None; observations = o.observations ++ begun number path o.sizes m a ∷ [] };
      report =
          report;
      deed = Rests;
    })) same
    ∙ ap (λ r. reporting (record {
      own = record s
          { running = None; observations = s.observations ++ begun number path s.sizes m a ∷ [] };
      report = r;
      deed =
          Rests;
    })) report_is))

pub on_err : {X Y P Q : Type 0} (r : Result X Y) → (P → Q) → OnErr r P → OnErr r Q
on_err (Ok x) f h = tt
on_err (Err y) f h = f h

abbrev pub same_call : ℕ → Request → Transfer → Own → Own
same_call number r t s = record s { running = Some (Calling number r t) }

pub event_happens : (x : X.State) (s : Own) (at word : ℕ) (e f : Event) (asked : Option Requested) (new : State) → e ≡ f
    → Happens x (happened s at (Some e)) at word asked new → Happens x (happened s at (Some f)) at word asked new
event_happens x s at word e f asked new is h = subst (λ k. Happens x (happened s at (Some k)) at word asked new) is h

-- what a call makes of an answer

module _ {A : Type 0} (old : CallState) (next : calls.Next) where
  pub over_hears : (h : H.Heard A) (new : CallState) (final : Bool) (report : R.Report A) → h ≡ heard.Over final report
      → Hears old next h new → (next ≡ calls.Ends final (shown_report report))
      × (is_upload new.transfer ≡ is_upload old.transfer)
  over_hears h new final report is k = subst (λ q. Hears old next q new) is k

  pub asks_hears : (h : H.Heard A) (new : CallState) → h ≡ heard.Asks → Hears old next h new
      → (new.request ≡ old.request) × (next ≡ calls.Asks new.transfer) × (new.before ≡ Some old.transfer)
  asks_hears h new is k = subst (λ q. Hears old next q new) is k

pub ok_of : {X Y P : Type 0} (r : Result X Y) → is_err r ≡ false → OnOk r P → P
ok_of (Ok x) h p = p
ok_of (Err y) h p = absurd (cc h)

pub err_of : {X Y P : Type 0} (r : Result X Y) → is_err r ≡ true → OnErr r P → P
err_of (Ok x) h p = absurd (cc h)
err_of (Err y) h p = p
