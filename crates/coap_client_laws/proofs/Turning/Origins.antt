-- Where the call that runs comes from, and what a report comes from.
use Rattle.std.proofs.Common.{◌≡◌, ℕ, max, Bool, true, false, cond, Option, Some, None, List, ◌∷◌, refl, ap, sym, ◌∙◌}
use Rattle.std.proofs.Common.{Result, Ok, Err}
use Rattle.std.specs.Prelude.{◌==◌}
use Rattle.coap_codec.specs.Message.{Message}
use Rattle.coap_block.specs.Sizes.{Sizes}
use Rattle.coap_exchange.specs.declared.asker.AskRefusal.{AskRefusal}
use Rattle.coap_exchange.specs.declared.asker.Event.{Event}
use Rattle.coap_client.specs.Trace.{Request, Report, NoIds, Requested, Call, Calls, Observes, Cancels, Forgets, Feeds}
use Rattle.coap_client.specs.Trace.{Ticks, NextOut, NextReport, Asked}
use Rattle.coap_client.specs.Own.{Transfer, Operation, Calling, Registering, Fetching, Cancelling, Dropped, Own}
use Rattle.coap_client.specs.Observations.{observation_of, dropped}
use Rattle.coap_client.specs.Reports.{lapse}
use Rattle.coap_client.specs.Calls.{answer}
use Rattle.coap_client.specs.Calls as calls
use Rattle.coap_client.specs.Effects.{Asks, Effect, has_sent}
use Rattle.coap_client.specs.Events.{failed, closed}
use Rattle.coap_client.specs.Deeds.{at}
use Rattle.coap_client.specs.Law.{own_of}
use Rattle.coap_client.specs.Sendings.{Sending, sends, sent_by, hears}
use Rattle.coap_client.specs.Turns.Moves as mv
use Rattle.coap_client.specs.Turns.Moves.{Move, left_by}
use Rattle.coap_client_laws.proofs.Queueing.Closing.{Closing, quiet, goes_out, is_refused, sending_of}
use Rattle.coap_client_laws.proofs.Turning.BlockByBlock.{heard_in}
use Rattle.coap_client.proofs.Facts.Turning.Moves.{releases_none}
use Rattle.coap_client_laws.proofs.Turning.Turns.{Turned, left_with, fed_turned, ticked_turned}

-- it ran before, and nothing is sent; it was the first of the queue; or it goes on
pub data Origin (sizes : Sizes) (t : List Call) (c : Call) (k : ℕ) (r : Request) (tr : Transfer) : Type 0 where
  kept : (own_of sizes t).running ≡ Some (Calling k r tr) → sends (own_of sizes t) c ≡ None → Origin sizes t c k r tr
  begins : (queue : List Operation) → (own_of sizes t).queue ≡ Calling k r tr ∷ queue → Origin sizes t c k r tr
  follows : (old : Transfer) (m : Message) (x : Sending) → (own_of sizes t).running ≡ Some (Calling k r old)
      → hears c ≡ Some m → answer r old m ≡ calls.Asks tr → sends (own_of sizes t) c ≡ Some x
      → x.operation ≡ Calling k r tr → Origin sizes t c k r tr

dropped_call : (j : ℕ) (running : Option Operation) (k : ℕ) (r : Request) (tr : Transfer)
    → dropped j running ≡ Some (Calling k r tr) → running ≡ Some (Calling k r tr)
dropped_call j (Some (Calling n q u)) k r tr is = is
dropped_call j (Some (Fetching n)) k r tr is = absurd (by (n == j) is)
  where
    by : (b : Bool) → cond b (Some Dropped) (Some (Fetching n)) ≡ Some (Calling k r tr) → ⊥
    by true e = cc e
    by false e = cc e
dropped_call j _ k r tr is = absurd (cc is)

failed_over : (u : Transfer → Bool) (report : Report) (s : Own) (running : Option Operation) (op : Operation)
    → s.running ≡ running → (failed u report s running).own.running ≡ Some op → ⊥
failed_over u report s None op is h = let k : None ≡ Some op = sym is ∙ h in cc k
failed_over u report s (Some (Calling k r t)) op is h = cc h
failed_over u report s _ op is h = cc h

failed_now : (u : Transfer → Bool) (report : Report) (o : Own) (op other : Operation)
    → (failed u report o (Some op)).own.running ≡ Some other → ⊥
failed_now u report o (Calling k r t) other h = cc h
failed_now u report o _ other h = cc h

module _ (sizes : Sizes) (t : List Call) (c : Call) (k : ℕ) (r : Request) (tr : Transfer) (now : ℕ)
    (told : Option Event)
    (token : Result (List ℕ) AskRefusal) (request : Option Requested) where
  abbrev s : Own
  s = at now (own_of sizes t)

  abbrev m : ℕ
  m = max (own_of sizes t).clock now

  abbrev Runs : Type 0
  Runs = (own_of sizes (c ∷ t)).running ≡ Some (Calling k r tr)

  -- nothing is asked for
  still : (e : Effect) → (e.own.running ≡ Some (Calling k r tr) → (own_of sizes t).running ≡ Some (Calling k r tr))
      → ((o : Operation) → e.deed ≡ Asks o → ⊥) → Closing m e token
      → own_of sizes (c ∷ t) ≡ left_with request (closed m e e.deed token)
      → sends (own_of sizes t) c ≡ sent_by e e.deed token → Runs → Origin sizes t c k r tr
  still e back none (quiet q nothing own_same report_same) own sending runs =
      kept (back (sym (ap (λ (o : Own). o.running) own_same) ∙ (sym (ap (λ (o : Own). o.running) own) ∙ runs)))
      (sending ∙ nothing)
  still e back none (goes_out o key asks given sends_it own_same report_same) own sending runs = absurd (none o asks)
  still e back none (is_refused o why asks given nothing all) own sending runs = absurd (none o asks)

  -- it is refused, so nothing runs
  refused : (o : Own) (op : Operation) → own_of sizes (c ∷ t) ≡ left_with request (failed has_sent NoIds o (Some op))
      → Runs → Origin sizes t c k r tr
  refused o op own runs = absurd (failed_now has_sent NoIds o op (Calling k r tr)
      (sym (ap (λ (z : Own). z.running) own) ∙ runs))

  origin_by : (mo : Move s m told) → Closing m (left_by s m told mo) token
      → own_of sizes (c ∷ t) ≡ left_with request (closed m (left_by s m told mo) (left_by s m told mo).deed token)
      → sends (own_of sizes t) c ≡ sent_by (left_by s m told mo) (left_by s m told mo).deed token
      → hears c ≡ heard_in told → Runs → Origin sizes t c k r tr
  origin_by (mv.rests un) cl own sending heard runs =
      still (left_by s m told (mv.rests un)) (λ z. z) (λ o i. cc i) cl own sending runs
  origin_by (mv.copies q) cl own sending heard runs =
      still (left_by s m told (mv.copies q)) (λ z. z) (λ o i. cc i) cl own sending runs
  origin_by (mv.starts_next op queue none rest first q) cl own sending heard runs = by token own
    where
      e : Effect
      e = left_by s m told (mv.starts_next op queue none rest first q)

      by : (z : Result (List ℕ) AskRefusal) → own_of sizes (c ∷ t) ≡ left_with request (closed m e (Asks op) z)
          → Origin sizes t c k r tr
      by (Ok key) own = let same : op ≡ Calling k r tr =
          (let z : Some op ≡ Some (Calling k r tr) = sym (ap (λ (o : Own). o.running) own) ∙ runs in cc z) in begins
          queue (first ∙ ap (λ o. o ∷ queue) same)
      by (Err why) own = refused e.own op own runs
  origin_by (mv.fetches j none rest q) cl own sending heard runs = by token own
    where
      e : Effect
      e = left_by s m told (mv.fetches j none rest q)

      by : (z : Result (List ℕ) AskRefusal) → own_of sizes (c ∷ t)
          ≡ left_with request (closed m e (Asks (Fetching j)) z)
          → Origin sizes t c k r tr
      by (Ok key) own = let z : Some (Fetching j) ≡ Some (Calling k r tr) = sym (ap (λ (o : Own). o.running) own)
          ∙ runs in absurd (cc z)
      by (Err why) own = refused e.own (Fetching j) own runs
  origin_by (mv.goes_on j q old next a hears_it is asks) cl own sending heard runs = by token own sending
    where
      e : Effect
      e = left_by s m told (mv.goes_on j q old next a hears_it is asks)

      by : (z : Result (List ℕ) AskRefusal) → own_of sizes (c ∷ t)
          ≡ left_with request (closed m e (Asks (Calling j q next)) z)
          → sends (own_of sizes t) c ≡ sent_by e (Asks (Calling j q next)) z → Origin sizes t c k r tr
      by (Ok key) own sending =
          let same : Calling j q next ≡ Calling k r tr =
          (let z : Some (Calling j q next) ≡ Some (Calling k r tr) = sym (ap (λ (o : Own). o.running) own)
          ∙ runs in cc z) in
          let n : j ≡ k = cc same in
          let request_is : q ≡ r = cc same in
          let next_is : next ≡ tr = cc same in
          follows old a (sending_of e (Calling j q next) key)
          (is ∙ (ap (λ i. Some (Calling i q old)) n ∙ ap (λ i. Some (Calling k i old)) request_is))
          (heard ∙ ap heard_in hears_it)
          (ap (λ i. answer i old a) (sym request_is) ∙ (asks ∙ ap (λ i. calls.Asks i) next_is)) sending same
      by (Err why) own sending = refused e.own (Calling j q next) own runs
  origin_by (mv.fetches_on j n a num size hears_it is rest code asks) cl own sending heard runs = by token own
    where
      e : Effect
      e = left_by s m told (mv.fetches_on j n a num size hears_it is rest code asks)

      by : (z : Result (List ℕ) AskRefusal) → own_of sizes (c ∷ t)
          ≡ left_with request (closed m e (Asks (Fetching j)) z)
          → Origin sizes t c k r tr
      by (Ok key) own = let z : Some (Fetching j) ≡ Some (Calling k r tr) = sym (ap (λ (o : Own). o.running) own)
          ∙ runs in absurd (cc z)
      by (Err why) own = refused e.own (Fetching j) own runs
  origin_by (mv.cancels j a hears_it is) cl own sending heard runs =
      still (left_by s m told (mv.cancels j a hears_it is)) (λ z. absurd (cc z)) (releases_none _) cl own sending runs
  origin_by (mv.fails e un) cl own sending heard runs =
      still (left_by s m told (mv.fails e un)) (λ z. absurd
      (failed_over (λ u. true) (lapse e) s s.running (Calling k r tr) refl z))
      (failed_quiet s.running) cl own sending runs
    where
      failed_quiet : (running : Option Operation) (op : Operation)
          → (failed (λ z. true) (lapse e) s running).deed ≡ Asks op → ⊥
      failed_quiet None op h = cc h
      failed_quiet (Some (Calling j q u)) op h = cc h
      failed_quiet (Some (Registering j path)) op h = cc h
      failed_quiet (Some (Fetching j)) op h = cc h
      failed_quiet (Some Dropped) op h = cc h
      failed_quiet (Some (Cancelling j)) op h = releases_none (observation_of j s.observations) op h
  origin_by (mv.is_ended o a notes found note) cl own sending heard runs =
      still (left_by s m told (mv.is_ended o a notes found note)) (dropped_call o.number s.running k r tr)
      (releases_none _) cl own sending runs
  origin_by (mv.renews o a notes found note newer) cl own sending heard runs =
      still (left_by s m told (mv.renews o a notes found note newer)) (dropped_call o.number s.running k r tr)
      (λ z i. cc i) cl own sending runs
  origin_by (mv.passes_by o a notes found note newer) cl own sending heard runs =
      still (left_by s m told (mv.passes_by o a notes found note newer)) (λ z. z) (λ z i. cc i) cl own sending runs
  origin_by _ cl own sending heard runs = let z : None ≡ Some (Calling k r tr) = sym (ap (λ (o : Own). o.running) own)
      ∙ runs in absurd (cc z)

origin_turned : (sizes : Sizes) (t : List Call) (c : Call) (k : ℕ) (r : Request) (tr : Transfer) → Turned sizes t c
    → (own_of sizes (c ∷ t)).running ≡ Some (Calling k r tr) → Origin sizes t c k r tr
origin_turned sizes t c k r tr z = origin_by sizes t c k r tr z.now z.told z.token z.request z.move z.closes z.own_is
    z.sends_is z.hears_is

pub origin : (sizes : Sizes) (t : List Call) (c : Call) (k : ℕ) (r : Request) (tr : Transfer)
    → (own_of sizes (c ∷ t)).running ≡ Some (Calling k r tr) → Origin sizes t c k r tr
origin sizes t (Calls now q (Ok n)) k r tr is = kept is refl
origin sizes t (Observes now path (Ok n)) k r tr is = kept is refl
origin sizes t (Cancels now n None) k r tr is = kept is refl
origin sizes t (Forgets n was true) k r tr is = kept (dropped_call n (own_of sizes t).running k r tr is) refl
origin sizes t (Feeds now from bytes w up settled event sent token was) k r tr is =
    origin_turned sizes t (Feeds now from bytes w up settled event sent token was) k r tr
    (fed_turned sizes t now from bytes w up settled event sent token was) is
origin sizes t (Ticks now w below turn sent token was answer) k r tr is =
    origin_turned sizes t (Ticks now w below turn sent token was answer) k r tr
    (ticked_turned sizes t now w below turn sent token was answer) is
origin sizes t _ k r tr is = kept is refl
