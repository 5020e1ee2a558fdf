-- What a client does depends on no report that waits to be taken.
use Rattle.std.proofs.Common.{◌≡◌, ℕ, not, ◌&&◌, ◌||◌, Bool, true, false, Option, Some, None, List, [], ◌∷◌, ◌++◌, refl}
use Rattle.std.proofs.Common.{ap}
use Rattle.std.proofs.Common.{sym, ◌∙◌, cond, max, Result, Ok, Err, option_to_list}
use Rattle.std.proofs.lemmas.List.{append-nil}
use Rattle.coap_codec.specs.Message.{Message}
use Rattle.coap_block.specs.declared.fetch_verdict.Verdict.{Verdict}
use Rattle.coap_block.specs.declared.fetch_verdict.Verdict.TheVariants as verdict
use Rattle.coap_exchange.specs.declared.asker.AskRefusal.{AskRefusal}
use Rattle.coap_exchange.specs.declared.asker.Event.{Event}
use Rattle.coap_exchange.specs.declared.asker.Event.TheVariants as event
use Rattle.coap_exchange.specs.declared.asker.Turn.{Turn}
use Rattle.coap_exchange.specs.declared.asker.Turn.TheVariants as turn
use Rattle.coap_exchange.specs.AskerTrace as E
use Rattle.coap_layer.specs.Trace as T
use Rattle.coap_observe.specs.Newer.{is_newer}
use Rattle.coap_client.specs.Trace.{Call, Calls, Cancels, Feeds, Forgets, NextOut, NextReport, Observes, Report}
use Rattle.coap_client.specs.Trace.{Reported}
use Rattle.coap_client.specs.Trace.{Request, Ticks, NoIds}
use Rattle.coap_client.specs.Trace as C
use Rattle.coap_client.specs.Own.{Calling, Cancelling, Dropped, Fetching, Notified, Observation, Operation, Own}
use Rattle.coap_client.specs.Own.{Registering, Transfer}
use Rattle.coap_client.specs.Observations.{rest_of, to_fetch, observation_with}
use Rattle.coap_client.specs.Calls.{Asks, Ends, Next, answer}
use Rattle.coap_client.specs.Effects.{Effect, ends, has_sent, held_by, is_upload, of, runs, stays}
use Rattle.coap_client.specs.Effects as deed
use Rattle.coap_client.specs.Observing.{begun, first_value, is_over, noticed_by, passed, registered, renewed}
use Rattle.coap_client.specs.Responses.{is_notification, sequence_in}
use Rattle.coap_client.specs.Fetching.{fetch_answered, fetch_by}
use Rattle.coap_client.specs.Reports.{lapse}
use Rattle.coap_client.specs.Events.{answered, called, closed, failed, happened, idle, is_held, is_upload_op}
use Rattle.coap_client.specs.Events.{passes, starts}
use Rattle.coap_client.specs.Deeds.{at, close, deeds, done_for, effect, forgets, forgotten}
use Rattle.coap_client.specs.declared.refusals.CallRefusal.{CallRefusal}
use Rattle.coap_client.specs.declared.refusals.CancelRefusal.{CancelRefusal}
use Rattle.coap_client.specs.Queue.{calling, cancelling, numbered}
use Rattle.coap_client.specs.Sendings.{sends, sent_by}
use Rattle.coap_client.specs.Steps.{IsRight, after, asking, asks, is_idle, lower, reporting, reports, requested}
use Rattle.coap_order.specs.Inputs.{is_client_input, stay_by}

-- the same, where these reports wait
abbrev pub told : List Reported → Own → Own
told r s = record s { reports = r }

abbrev pub tells : List Reported → Effect → Effect
tells r e = record e { own = told r e.own }

module _ (r : List Reported) where
  if_same : (c : Bool) (x y : Effect) → cond c (tells r x) (tells r y) ≡ tells r (cond c x y)
  if_same true x y = refl
  if_same false x y = refl

  two_same : (c d : Bool) (x y z : Effect)
      → cond c (tells r x) (cond d (tells r y) (tells r z)) ≡ tells r (cond c x (cond d y z))
  two_same true d x y z = refl
  two_same false true x y z = refl
  two_same false false x y z = refl

  held_same : (b : Bool) (t : Transfer) (s : Own) → held_by b t (told r s) ≡ told r (held_by b t s)
  held_same b t s = go (b && is_upload t)
    where
      go : (c : Bool) → cond c (record (told r s) { hold = Some s.sent }) (told r s)
          ≡ told r (cond c (record s { hold = Some s.sent }) s)
      go true = refl
      go false = refl

  called_same : (number : ℕ) (q : Request) (t : Transfer) (s : Own) (n : Next)
      → called number q t (told r s) n ≡ tells r (called number q t s n)
  called_same number q t s (Asks next) = refl
  called_same number q t s (Ends final report) = ap (ends (of number report)) (held_same (not final) t s)

  registered_same : (number : ℕ) (path : List (List ℕ)) (s : Own) (now : ℕ) (m : Message)
      → registered number path (told r s) now m ≡ tells r (registered number path s now m)
  registered_same number path s now m = if_same (is_notification m)
      (record {
        own = record s { running = None; observations = s.observations ++ begun number path s.sizes now m ∷ [] };
        report = first_value number s.sizes m;
        deed = deed.Keeps m.token;
      })
      (ends (of number (C.Ended m.code)) s)

  fetch_by_same : (number : ℕ) (n : Notified) (s : Own) (m : Message) (v : Verdict)
      → fetch_by number n (told r s) m v ≡ tells r (fetch_by number n s m v)
  fetch_by_same number n s m (verdict.Ask num szx) = refl
  fetch_by_same number n s m verdict.Done = refl
  fetch_by_same number n s m verdict.Again = refl
  fetch_by_same number n s m (verdict.Refuse why) = refl

  fetch_same : (number : ℕ) (o : Option Notified) (s : Own) (m : Message)
      → fetch_answered number o (told r s) m ≡ tells r (fetch_answered number o s m)
  fetch_same number None s m = refl
  fetch_same number (Some n) s m = fetch_by_same number n s m _

  noticed_same : (o : Option Observation) (s : Own) (now : ℕ) (m : Message)
      → noticed_by o (told r s) now m ≡ tells r (noticed_by o s now m)
  noticed_same None s now m = refl
  noticed_same (Some o) s now m = two_same (not (is_notification m)) (is_newer o.watch.mark (sequence_in m) now)
      (is_over o.number (C.Ended m.code) s) (renewed o s now m) (stays (passed o s now m))

  answered_same : (s : Own) (now : ℕ) (m : Message) (o : Option Operation)
      → answered (told r s) now m o ≡ tells r (answered s now m o)
  answered_same s now m None = refl
  answered_same s now m (Some (Calling number q t)) = called_same number q t s (answer q t m)
  answered_same s now m (Some (Registering number path)) = registered_same number path s now m
  answered_same s now m (Some (Fetching number)) = fetch_same number (rest_of number s.observations) s m
  answered_same s now m (Some (Cancelling number)) = refl
  answered_same s now m (Some Dropped) = refl

  failed_same : (unanswered : Transfer → Bool) (report : Report) (s : Own) (o : Option Operation)
      → failed unanswered report (told r s) o ≡ tells r (failed unanswered report s o)
  failed_same u report s None = refl
  failed_same u report s (Some (Calling number q t)) = ap (ends (of number report)) (held_same (u t) t s)
  failed_same u report s (Some (Registering number path)) = refl
  failed_same u report s (Some (Fetching number)) = refl
  failed_same u report s (Some (Cancelling number)) = refl
  failed_same u report s (Some Dropped) = refl

  happened_same : (s : Own) (now : ℕ) (e : Option Event) → happened (told r s) now e ≡ tells r (happened s now e)
  happened_same s now None = refl
  happened_same s now (Some (event.Answer m)) = answered_same s now m s.running
  happened_same s now (Some (event.Notice m)) = noticed_same (observation_with m.token s.observations) s now m
  happened_same s now (Some event.Reset) = failed_same (λ t. true) (lapse event.Reset) s s.running
  happened_same s now (Some event.Timeout) = failed_same (λ t. true) (lapse event.Timeout) s s.running
  happened_same s now (Some event.NoResponse) = failed_same (λ t. true) (lapse event.NoResponse) s s.running

  starts_same : (s : Own) (now : ℕ) (ops : List Operation) → starts (told r s) now ops ≡ tells r (starts s now ops)
  starts_same s now [] = refl
  starts_same s now (op ∷ ops) = go (is_upload_op op && is_held s now)
    where
      go : (c : Bool) → cond c (stays (told r s)) (runs op (record (told r s) { queue = ops }))
          ≡ tells r (cond c (stays s) (runs op (record s { queue = ops })))
      go true = refl
      go false = refl

  idle_same : (s : Own) (now : ℕ) (o : Option Operation) (n : Option ℕ)
      → idle (told r s) now o n ≡ tells r (idle s now o n)
  idle_same s now (Some op) n = refl
  idle_same s now None (Some number) = refl
  idle_same s now None None = starts_same s now s.queue

  passes_same : (s : Own) (now : ℕ) (t : Turn) → passes (told r s) now t ≡ tells r (passes s now t)
  passes_same s now turn.Idle = idle_same s now s.running (to_fetch s.observations)
  passes_same s now turn.Copied = refl
  passes_same s now (turn.End e) = failed_same (λ t. true) (lapse e) s s.running

  closed_same : (now : ℕ) (e : Effect) (d : deed.Deed) (token : Result (List ℕ) AskRefusal)
      → closed now (tells r e) d token ≡ tells r (closed now e d token)
  closed_same now e (deed.Asks op) (Ok token) = refl
  closed_same now e (deed.Asks op) (Err why) = failed_same has_sent NoIds e.own (Some op)
  closed_same now e deed.Rests token = refl
  closed_same now e (deed.Keeps t) token = refl
  closed_same now e (deed.Releases t) token = refl

  deeds_same : (d : deed.Deed) (s : Own) (now word : ℕ) (sent : T.Answer) (token : Result (List ℕ) AskRefusal)
      (kept : Bool) → deeds d (told r s) now word sent token kept ≡ deeds d s now word sent token kept
  deeds_same (deed.Asks op) s now word sent token kept = refl
  deeds_same deed.Rests s now word sent token kept = refl
  deeds_same (deed.Keeps t) s now word sent token kept = refl
  deeds_same (deed.Releases t) s now word sent token kept = refl

  done_same : (e : Effect) (now word : ℕ) (sent : T.Answer) (token : Result (List ℕ) AskRefusal) (kept : Bool)
      (input : E.Call) → done_for (tells r e) now word sent token kept input
      ≡ done_for e now word sent token kept input
  done_same e now word sent token kept input =
      let c : Effect = closed now e e.deed token in
      ap (λ (x : Effect). deeds x.deed x.own now word sent token kept
      ++ (deeds e.deed (told r e.own) now word sent token kept ++ input ∷ [])) (closed_same now e e.deed token)
      ∙ ap (λ (asks : List E.Call). asks ++ (deeds e.deed (told r e.own) now word sent token kept ++ input ∷ []))
      (deeds_same c.deed c.own now word sent token kept)
      ∙ ap (λ (asks : List E.Call). deeds c.deed c.own now word sent token kept ++ (asks ++ input ∷ []))
      (deeds_same e.deed e.own now word sent token kept)

  effect_same : (s : Own) (c : Call) → effect (told r s) c ≡ tells r (effect s c)
  effect_same s (Feeds now from bytes word up settled e sent token kept) = happened_same (at now s) (max s.clock now) e
  effect_same s (Ticks now word below t sent token kept answer) = passes_same (at now s) (max s.clock now) t
  effect_same s (Calls now q answer) = refl
  effect_same s (Observes now path answer) = refl
  effect_same s (Cancels now number answer) = refl
  effect_same s (Forgets number kept answer) = refl
  effect_same s (NextOut answer) = refl
  effect_same s (NextReport answer) = refl
  effect_same s (C.Asked answer) = refl

  pub lower_same : (s : Own) (c : Call) → lower (told r s) c ≡ lower s c
  lower_same s (Feeds now from bytes word up settled e sent token kept) =
      ap (λ (x : Effect). done_for x (max s.clock now) word sent token kept
      (E.Receive (max s.clock now) from bytes up settled e))
      (effect_same s (Feeds now from bytes word up settled e sent token kept))
      ∙ done_same (effect s (Feeds now from bytes word up settled e sent token kept)) (max s.clock now) word sent token
      kept (E.Receive (max s.clock now) from bytes up settled e)
  lower_same s (Ticks now word below t sent token kept answer) =
      ap (λ (x : Effect). done_for x (max s.clock now) word sent token kept (E.Ticks (max s.clock now) below t))
      (effect_same s (Ticks now word below t sent token kept answer))
      ∙ done_same (effect s (Ticks now word below t sent token kept answer)) (max s.clock now) word sent token kept
      (E.Ticks (max s.clock now) below t)
  lower_same s (Calls now q answer) = refl
  lower_same s (Observes now path answer) = refl
  lower_same s (Cancels now number answer) = refl
  lower_same s (Forgets number kept true) = deeds_same (forgets true number s) s 0 0 T.Nothing (Ok []) kept
  lower_same s (Forgets number kept false) = refl
  lower_same s (NextOut answer) = refl
  lower_same s (NextReport answer) = refl
  lower_same s (C.Asked answer) = refl

  closed_report : (now : ℕ) (e : Effect) (token : Result (List ℕ) AskRefusal)
      → (close now (tells r e) token).report ≡ (close now e token).report
  closed_report now e token = ap (λ (x : Effect). x.report) (closed_same now e e.deed token)

  pub reports_same : (s : Own) (c : Call) → reports (told r s) c ≡ reports s c
  reports_same s (Feeds now from bytes word up settled e sent token kept) =
      ap (λ (x : Effect). (close (max s.clock now) x token).report)
      (effect_same s (Feeds now from bytes word up settled e sent token kept))
      ∙ closed_report (max s.clock now) (effect s (Feeds now from bytes word up settled e sent token kept)) token
  reports_same s (Ticks now word below t sent token kept answer) =
      ap (λ (x : Effect). (close (max s.clock now) x token).report)
      (effect_same s (Ticks now word below t sent token kept answer))
      ∙ closed_report (max s.clock now) (effect s (Ticks now word below t sent token kept answer)) token
  reports_same s (Calls now q answer) = refl
  reports_same s (Observes now path answer) = refl
  reports_same s (Cancels now number answer) = refl
  reports_same s (Forgets number kept answer) = refl
  reports_same s (NextOut answer) = refl
  reports_same s (NextReport answer) = refl
  reports_same s (C.Asked answer) = refl

  sent_same : (e : Effect) (d : deed.Deed) (token : Result (List ℕ) AskRefusal)
      → sent_by (tells r e) d token ≡ sent_by e d token
  sent_same e (deed.Asks op) (Ok token) = refl
  sent_same e (deed.Asks op) (Err why) = refl
  sent_same e deed.Rests token = refl
  sent_same e (deed.Keeps t) token = refl
  sent_same e (deed.Releases t) token = refl

  pub sends_same : (s : Own) (c : Call) → sends (told r s) c ≡ sends s c
  sends_same s (Feeds now from bytes word up settled e sent token kept) =
      ap (λ (x : Effect). sent_by x x.deed token)
      (effect_same s (Feeds now from bytes word up settled e sent token kept))
      ∙ sent_same (effect s (Feeds now from bytes word up settled e sent token kept)) _ token
  sends_same s (Ticks now word below t sent token kept answer) =
      ap (λ (x : Effect). sent_by x x.deed token) (effect_same s (Ticks now word below t sent token kept answer))
      ∙ sent_same (effect s (Ticks now word below t sent token kept answer)) _ token
  sends_same s (Calls now q answer) = refl
  sends_same s (Observes now path answer) = refl
  sends_same s (Cancels now number answer) = refl
  sends_same s (Forgets number kept answer) = refl
  sends_same s (NextOut answer) = refl
  sends_same s (NextReport answer) = refl
  sends_same s (C.Asked answer) = refl

  pub right_same : (s : Own) (c : Call) → is_client_input c ≡ true → IsRight s c → IsRight (told r s) c
  right_same s (Feeds now from bytes word up settled e sent token kept) input h = h
  right_same s (Ticks now word below t sent token kept answer) input h =
      h ∙ ap (λ (x : Effect). not (is_idle t) || asks x.deed)
      (sym (effect_same s (Ticks now word below t sent token kept answer)))
  right_same s (Calls now q answer) input h = h
  right_same s (Observes now path answer) input h = h
  right_same s (Cancels now number answer) input h = h
  right_same s (Forgets number kept answer) input h = h
  right_same s (NextOut answer) input h = absurd (cc input)
  right_same s (NextReport answer) input h = absurd (cc input)
  right_same s (C.Asked answer) input h = absurd (cc input)

  effect_told : (now : ℕ) (e : Effect) (token : Result (List ℕ) AskRefusal)
      → asking (requested (tells r e).deed token) (reporting (close now (tells r e) token))
      ≡ told (r ++ option_to_list (close now e token).report)
      (asking (requested e.deed token) (reporting (close now e token)))
  effect_told now e token = ap (λ (x : Effect). asking (requested e.deed token) (reporting x))
      (closed_same now e e.deed token)

  numbered_told : (op : ℕ → Operation) (answer : Result ℕ CallRefusal) (s : Own)
      → numbered op answer (told r s) ≡ told r (numbered op answer s)
  numbered_told op (Ok number) s = refl
  numbered_told op (Err why) s = refl

  cancelling_told : (number : ℕ) (answer : Option CancelRefusal) (s : Own)
      → cancelling number answer (told r s) ≡ told r (cancelling number answer s)
  cancelling_told number None s = refl
  cancelling_told number (Some why) s = refl

  forgotten_told : (number : ℕ) (kept answer : Bool) (s : Own)
      → forgotten answer number (told r s) ≡ told (stay_by (Forgets number kept answer) r) (forgotten answer number s)
  forgotten_told number kept true s = refl
  forgotten_told number kept false s = refl

  pub after_told : (s : Own) (c : Call) → is_client_input c ≡ true
      → after (told r s) c ≡ told (stay_by c r ++ option_to_list (reports s c)) (after s c)
  after_told s (Feeds now from bytes word up settled e sent token kept) input =
      ap (λ (x : Effect). asking (requested x.deed token) (reporting (close (max s.clock now) x token)))
      (effect_same s (Feeds now from bytes word up settled e sent token kept))
      ∙ effect_told (max s.clock now) (effect s (Feeds now from bytes word up settled e sent token kept)) token
  after_told s (Ticks now word below t sent token kept answer) input =
      ap (λ (x : Effect). asking (requested x.deed token) (reporting (close (max s.clock now) x token)))
      (effect_same s (Ticks now word below t sent token kept answer))
      ∙ effect_told (max s.clock now) (effect s (Ticks now word below t sent token kept answer)) token
  after_told s (Calls now q answer) input = numbered_told (λ number. calling s.sizes number q) answer (at now s)
      ∙ ap (λ (x : List Reported). told x (after s (Calls now q answer))) (sym (append-nil r))
  after_told s (Observes now path answer) input = numbered_told (λ number. Registering number path) answer (at now s)
      ∙ ap (λ (x : List Reported). told x (after s (Observes now path answer))) (sym (append-nil r))
  after_told s (Cancels now number answer) input = cancelling_told number answer (at now s)
      ∙ ap (λ (x : List Reported). told x (after s (Cancels now number answer))) (sym (append-nil r))
  after_told s (Forgets number kept answer) input = forgotten_told number kept answer s
      ∙ ap (λ (x : List Reported). told x (after s (Forgets number kept answer)))
      (sym (append-nil (stay_by (Forgets number kept answer) r)))
  after_told s (NextOut answer) input = absurd (cc input)
  after_told s (NextReport answer) input = absurd (cc input)
  after_told s (C.Asked answer) input = absurd (cc input)

-- the reports that wait behind a call
pub reports_then : (s : Own) (c : Call) → is_client_input c ≡ true
    → (after s c).reports ≡ stay_by c s.reports ++ option_to_list (reports s c)
reports_then s c input = ap (λ (o : Own). o.reports) (after_told s.reports s c input)
