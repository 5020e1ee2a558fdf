-- Calls and registrations take their turns, in the order of their numbers.
use Rattle.std.proofs.Common.{◌≡◌, ◌≤◌, inl, inr, ℕ, ◌+◌, max, true, false, not, ◌&&◌, Option, Some, None, List, ◌∷◌}
use Rattle.std.proofs.Common.{◌++◌, [], refl, ap, sym, subst, ◌∙◌, Result, Ok, Err, arith}
use Rattle.std.specs.Prelude.{◌==◌, nat_lt, nat_le, length}
use Rattle.coap_types.specs.declared.option_number.TheConstants.{BLOCK2 as block2}
use Rattle.coap_block.specs.Sizes.{Sizes}
use Rattle.coap_exchange.specs.declared.asker.AskRefusal.{AskRefusal}
use Rattle.coap_exchange.specs.declared.asker.Event.{Event}
use Rattle.coap_client.specs.declared.limits.TheConstants.{MAX_OBSERVATIONS as max_observations}
use Rattle.coap_client.specs.declared.refusals.CallRefusal.TheVariants.{QueueFull, BodyTooLarge, BadPath, WatchesFull}
use Rattle.coap_client.specs.declared.refusals.CallRefusal.TheVariants.{CallsSpent}
use Rattle.coap_client.specs.Trace.{NoIds, Requested, Call, Calls, Observes, Cancels, Forgets, Feeds, Ticks, NextOut}
use Rattle.coap_client.specs.Trace.{NextReport, Asked}
use Rattle.coap_client.specs.Own.{Operation, Calling, Registering, Fetching, Cancelling, Dropped, Own}
use Rattle.coap_client.specs.Requests.{options_of, path_options}
use Rattle.coap_client.specs.Reports.{lapse}
use Rattle.coap_client.specs.Effects.{Asks, Effect, has_sent, of, is_upload}
use Rattle.coap_client.specs.Events.{failed, closed}
use Rattle.coap_client.specs.Queue.{max_numbers, are_long, block_option_number, is_full, observed, calling}
use Rattle.coap_client.specs.Deeds.{at}
use Rattle.coap_client.specs.Law.{ClientRows, own_of}
use Rattle.coap_client.specs.Sendings.{Sending, sends, sent_by}
use Rattle.coap_client.proofs.Facts.Places.NumberSteps.{given_is}
use Rattle.coap_client_laws.specs.Follows.Begins.{WasSent}
use Rattle.coap_client_laws.specs.Follows.Order.{turn_of}
use Rattle.coap_client.specs.Turns.Moves as mv
use Rattle.coap_client.specs.Turns.Moves.{Move, left_by}
use Rattle.coap_client_laws.proofs.Queueing.Closing.{Closing, quiet, goes_out, is_refused, sending_of}
use Rattle.coap_client.proofs.Facts.Turning.Moves.{releases_none}
use Rattle.coap_client_laws.proofs.Turning.Turns.{Turned, left_with, fed_turned, ticked_turned}
use Rattle.coap_client_laws.proofs.Queueing.RisingNumbers.{Rises, Still, rises_cancel, rises_more, rises_tail}
use Rattle.coap_client_laws.proofs.Queueing.RisingNumbers.{still_dropped, still_failed, still_held, still_none}
use Rattle.coap_client_laws.proofs.Queueing.RisingNumbers.{still_over}
use Rattle.coap_client_laws.proofs.Queueing.RisingNumbers.{still_same, still_then}

module _ (sizes : Sizes) where
  -- what was sent is below what waits
  pub record Turns (t : List Call) : Type 0 where
    pub low : ℕ
    pub waits : Rises low (own_of sizes t).queue (own_of sizes t).taken
    pub running : (op : Operation) (n : ℕ) → (own_of sizes t).running ≡ Some op → turn_of op ≡ Some n → low ≡ n + 1
    pub sent : (x : Sending) (n : ℕ) → WasSent sizes x t → turn_of x.operation ≡ Some n → n + 1 ≤ low

  -- .. and what is sent is not below that
  abbrev pub NotBelow : ℕ → List Call → Call → Type 0
  NotBelow low t c = (y : Sending) (j : ℕ) → sends (own_of sizes t) c ≡ Some y → turn_of y.operation ≡ Some j
      → low ≤ j + 1

  abbrev Goes : List Call → Call → ℕ → Type 0
  Goes t c low = Turns (c ∷ t) × NotBelow low t c

  still : (t : List Call) (c : Call) (h : Turns t) → sends (own_of sizes t) c ≡ None
      → Still (own_of sizes t) (own_of sizes (c ∷ t)) → Goes t c h.low
  still t c h none k = (
    record {
      low = h.low;
      waits = subst (λ n. Rises h.low (own_of sizes (c ∷ t)).queue n) (sym k.taken_is)
          (k.queue h.low (own_of sizes t).taken h.waits);
      running = λ op n is turn. h.running op n (k.running op n is turn) turn;
      sent = λ x n was turn. elim was [
        | inl now ↦
            (let e : None ≡ Some x = sym none ∙ now in absurd (cc e))
        | inr before ↦ h.sent x n before turn
      ];
    },
    λ y j is turn. (let e : None ≡ Some y = sym none ∙ is in absurd (cc e)),
  )

  -- a request goes out
  module _ (t : List Call) (c : Call) (h : Turns t) (op : Operation) (x : Sending)
      (is_sent : sends (own_of sizes t) c ≡ Some x) (op_is : x.operation ≡ op)
      (runs : (own_of sizes (c ∷ t)).running ≡ Some op)
      (taken_is : (own_of sizes (c ∷ t)).taken ≡ (own_of sizes t).taken) where
    number_is : (y : Sending) (j : ℕ) → sends (own_of sizes t) c ≡ Some y → turn_of y.operation ≡ Some j
        → turn_of op ≡ Some j
    number_is y j is turn = let e : x ≡ y = let k : Some x ≡ Some y = sym is_sent ∙ is in cc k in ap turn_of (sym op_is)
        ∙ (ap (λ (z : Sending). turn_of z.operation) e ∙ turn)

    runs_as : (o : Operation) (n : ℕ) → (own_of sizes (c ∷ t)).running ≡ Some o → turn_of o ≡ Some n
        → turn_of op ≡ Some n
    runs_as o n is turn = let e : op ≡ o = let k : Some op ≡ Some o = sym runs ∙ is in cc k in ap turn_of e ∙ turn

    out_with : (low : ℕ) → h.low ≤ low → ((j : ℕ) → turn_of op ≡ Some j → low ≡ j + 1)
        → Rises low (own_of sizes (c ∷ t)).queue (own_of sizes t).taken → Goes t c h.low
    out_with low le by waits = (
      record {
        low = low;
        waits = subst (λ n. Rises low (own_of sizes (c ∷ t)).queue n) (sym taken_is) waits;
        running = λ o n is turn. by n (runs_as o n is turn);
        sent = λ y n was turn. elim was [
          | inl now ↦ (let e = by n (number_is y n now turn) in omega (arith, e))
          | inr before ↦ (let e = h.sent y n before turn in omega (arith, e, le))
        ];
      },
      λ y j is turn. (let e = by j (number_is y j is turn) in omega (arith, e, le)),
    )

  first_out : (t : List Call) (c : Call) (h : Turns t) (op : Operation) (queue : List Operation) (x : Sending)
      → (own_of sizes t).queue ≡ op ∷ queue → sends (own_of sizes t) c ≡ Some x → x.operation ≡ op
      → (own_of sizes (c ∷ t)).running ≡ Some op
      → (own_of sizes (c ∷ t)).taken ≡ (own_of sizes t).taken → (own_of sizes (c ∷ t)).queue ≡ queue → Goes t c h.low
  first_out t c h op queue x first is_sent op_is runs taken_is queue_is =
      by op (subst (λ q. Rises h.low q (own_of sizes t).taken) first h.waits) op_is runs
    where
      by : (o : Operation) → Rises h.low (o ∷ queue) (own_of sizes t).taken → x.operation ≡ o
          → (own_of sizes (c ∷ t)).running ≡ Some o → Goes t c h.low
      by (Calling n r tr) w e run =
          out_with t c h (Calling n r tr) x is_sent e run taken_is (n + 1) (let a = w.0 in omega (arith, a))
          (λ j i. (let z : n ≡ j = cc i in omega (arith, z)))
          (subst (λ q. Rises (n + 1) q (own_of sizes t).taken) (sym queue_is) w.1)
      by (Registering n path) w e run =
          out_with t c h (Registering n path) x is_sent e run taken_is (n + 1) (let a = w.0 in omega (arith, a))
          (λ j i. (let z : n ≡ j = cc i in omega (arith, z)))
          (subst (λ q. Rises (n + 1) q (own_of sizes t).taken) (sym queue_is) w.1)
      by (Fetching n) w e run = out_with t c h (Fetching n) x is_sent e run taken_is h.low (omega arith)
          (λ j i. absurd (cc i)) (subst (λ q. Rises h.low q (own_of sizes t).taken) (sym queue_is) w)
      by (Cancelling n) w e run = out_with t c h (Cancelling n) x is_sent e run taken_is h.low (omega arith)
          (λ j i. absurd (cc i)) (subst (λ q. Rises h.low q (own_of sizes t).taken) (sym queue_is) w)
      by Dropped w e run = out_with t c h Dropped x is_sent e run taken_is h.low (omega arith) (λ j i. absurd (cc i))
          (subst (λ q. Rises h.low q (own_of sizes t).taken) (sym queue_is) w)

  module _ (t : List Call) (c : Call) (now : ℕ) (told : Option Event) (token : Result (List ℕ) AskRefusal)
      (request : Option Requested) (h : Turns t) where
    abbrev s : Own
    s = at now (own_of sizes t)

    abbrev m : ℕ
    m = max (own_of sizes t).clock now

    -- nothing is asked for
    rests_by : (e : Effect) → Still (own_of sizes t) e.own → ((o : Operation) → e.deed ≡ Asks o → ⊥) → Closing m e token
        → own_of sizes (c ∷ t) ≡ left_with request (closed m e e.deed token)
        → sends (own_of sizes t) c ≡ sent_by e e.deed token → Goes t c h.low
    rests_by e on quiet_so (quiet q none own_same report_same) own sending =
        still t c h (sending ∙ none) (still_then (own_of sizes t) e.own (own_of sizes (c ∷ t)) on
        (let same : (closed m e e.deed token).own ≡ e.own =
        own_same in still_same e.own (own_of sizes (c ∷ t))
        (ap (λ (o : Own). o.queue) own ∙ ap (λ (o : Own). o.queue) same)
        (ap (λ (o : Own). o.running) own ∙ ap (λ (o : Own). o.running) same)
        (ap (λ (o : Own). o.taken) own ∙ ap (λ (o : Own). o.taken) same)))
    rests_by e on quiet_so (goes_out o key asks given sends_it own_same report_same) own sending =
        absurd (quiet_so o asks)
    rests_by e on quiet_so (is_refused o why asks given none all) own sending = absurd (quiet_so o asks)

    -- what is asked for is refused
    refused_by : (e : Effect) (op : Operation) → Still (own_of sizes t) (record e.own { running = None })
        → e.own.running ≡ Some op → own_of sizes (c ∷ t) ≡ left_with request (failed has_sent NoIds e.own (Some op))
        → sends (own_of sizes t) c ≡ None → Goes t c h.low
    refused_by e op on runs own sending =
        let f = (failed has_sent NoIds e.own (Some op)).own in
        let k = still_failed e.own has_sent NoIds (Some op) runs in
        still t c h sending (record {
          queue = λ low taken z. subst (λ q. Rises low q taken) (sym (ap (λ (o : Own). o.queue) own))
              (k.queue low taken (on.queue low taken z));
          running = λ o n is turn. (let z : None ≡ Some o = sym (failed_none e.own op)
              ∙ (sym (ap (λ (y : Own). y.running) own) ∙ is) in absurd (cc z));
          taken_is = ap (λ (o : Own). o.taken) own ∙ (k.taken_is ∙ on.taken_is);
        })
      where
        failed_none : (o : Own) (op : Operation) → (failed has_sent NoIds o (Some op)).own.running ≡ None
        failed_none o (Calling k r u) = refl
        failed_none o _ = refl

    turn_by : (mo : Move s m told) → Closing m (left_by s m told mo) token
        → own_of sizes (c ∷ t) ≡ left_with request (closed m (left_by s m told mo) (left_by s m told mo).deed token)
        → sends (own_of sizes t) c ≡ sent_by (left_by s m told mo) (left_by s m told mo).deed token → Goes t c h.low
    turn_by (mv.rests un) cl own sending = rests_by (left_by s m told (mv.rests un))
        (still_same (own_of sizes t) s refl refl refl) (λ o i. cc i) cl own sending
    turn_by (mv.copies quiet_so) cl own sending =
        rests_by (left_by s m told (mv.copies quiet_so))
        (still_same (own_of sizes t) (record s { sent = m }) refl refl refl) (λ o i. cc i) cl own sending
    turn_by (mv.starts_next op queue none rest first quiet_so) cl own sending = by token own sending
      where
        e : Effect
        e = left_by s m told (mv.starts_next op queue none rest first quiet_so)

        by : (z : Result (List ℕ) AskRefusal) → own_of sizes (c ∷ t) ≡ left_with request (closed m e (Asks op) z)
            → sends (own_of sizes t) c ≡ sent_by e (Asks op) z → Goes t c h.low
        by (Ok key) own sending = first_out t c h op queue (sending_of e op key) first sending refl
            (ap (λ (o : Own). o.running) own) (ap (λ (o : Own). o.taken) own) (ap (λ (o : Own). o.queue) own)
        by (Err why) own sending = refused_by e op (record {
          queue = λ low taken z. rises_tail low op queue taken (subst (λ q. Rises low q taken) first z);
          running = λ o n is turn. absurd (cc is);
          taken_is = refl;
        }) refl own sending
    turn_by (mv.fetches k none rest quiet_so) cl own sending = by token own sending
      where
        e : Effect
        e = left_by s m told (mv.fetches k none rest quiet_so)

        by : (z : Result (List ℕ) AskRefusal) → own_of sizes (c ∷ t)
            ≡ left_with request (closed m e (Asks (Fetching k)) z)
            → sends (own_of sizes t) c ≡ sent_by e (Asks (Fetching k)) z → Goes t c h.low
        by (Ok key) own sending =
            out_with t c h (Fetching k) (sending_of e (Fetching k) key) sending refl (ap (λ (o : Own). o.running) own)
            (ap (λ (o : Own). o.taken) own) h.low (omega arith) (λ j i. absurd (cc i))
            (subst (λ q. Rises h.low q (own_of sizes t).taken) (sym (ap (λ (o : Own). o.queue) own)) h.waits)
        by (Err why) own sending = refused_by e (Fetching k)
            (still_none (own_of sizes t) _ refl refl refl) refl own sending
    turn_by (mv.goes_on k r tr next a hears runs asks) cl own sending = by token own sending
      where
        e : Effect
        e = left_by s m told (mv.goes_on k r tr next a hears runs asks)

        by : (z : Result (List ℕ) AskRefusal) → own_of sizes (c ∷ t)
            ≡ left_with request (closed m e (Asks (Calling k r next)) z)
            → sends (own_of sizes t) c ≡ sent_by e (Asks (Calling k r next)) z → Goes t c h.low
        by (Ok key) own sending =
            out_with t c h (Calling k r next) (sending_of e (Calling k r next) key) sending refl
            (ap (λ (o : Own). o.running) own) (ap (λ (o : Own). o.taken) own) h.low (omega arith)
            (λ j i. h.running (Calling k r tr) j runs i)
            (subst (λ q. Rises h.low q (own_of sizes t).taken) (sym (ap (λ (o : Own). o.queue) own)) h.waits)
        by (Err why) own sending = refused_by e (Calling k r next)
            (still_none (own_of sizes t) _ refl refl refl) refl own sending
    turn_by (mv.is_done k r tr final rep a hears runs ends_so) cl own sending =
        rests_by (left_by s m told (mv.is_done k r tr final rep a hears runs ends_so))
        (still_then (own_of sizes t) s _ (still_same (own_of sizes t) s refl refl refl)
        (still_held s (not final && is_upload tr) (of k rep))) (λ o i. cc i) cl own sending
    turn_by (mv.registers k path a hears runs note) cl own sending =
        rests_by (left_by s m told (mv.registers k path a hears runs note))
        (still_none (own_of sizes t) _ refl refl refl)
        (λ o i. cc i) cl own sending
    turn_by (mv.refuses k path a hears runs note) cl own sending =
        rests_by (left_by s m told (mv.refuses k path a hears runs note)) (still_none (own_of sizes t) _ refl refl refl)
        (λ o i. cc i) cl own sending
    turn_by (mv.fetches_on k n a num size hears runs rest code asks) cl own sending = by token own sending
      where
        e : Effect
        e = left_by s m told (mv.fetches_on k n a num size hears runs rest code asks)

        by : (z : Result (List ℕ) AskRefusal) → own_of sizes (c ∷ t)
            ≡ left_with request (closed m e (Asks (Fetching k)) z)
            → sends (own_of sizes t) c ≡ sent_by e (Asks (Fetching k)) z → Goes t c h.low
        by (Ok key) own sending =
            out_with t c h (Fetching k) (sending_of e (Fetching k) key) sending refl (ap (λ (o : Own). o.running) own)
            (ap (λ (o : Own). o.taken) own) h.low (omega arith) (λ j i. absurd (cc i))
            (subst (λ q. Rises h.low q (own_of sizes t).taken) (sym (ap (λ (o : Own). o.queue) own)) h.waits)
        by (Err why) own sending = refused_by e (Fetching k)
            (still_none (own_of sizes t) _ refl refl refl) refl own sending
    turn_by (mv.fetched k n a hears runs rest code done) cl own sending =
        rests_by (left_by s m told (mv.fetched k n a hears runs rest code done))
        (still_none (own_of sizes t) _ refl refl refl) (λ o i. cc i) cl own sending
    turn_by (mv.gives_up k a hears runs) cl own sending =
        rests_by (left_by s m told (mv.gives_up k a hears runs)) (still_none (own_of sizes t) _ refl refl refl)
        (λ o i. cc i) cl own sending
    turn_by (mv.fetched_none k a hears runs) cl own sending =
        rests_by (left_by s m told (mv.fetched_none k a hears runs)) (still_none (own_of sizes t) _ refl refl refl)
        (λ o i. cc i) cl own sending
    turn_by (mv.cancels k a hears runs) cl own sending =
        let z : Own = record s { running = None } in
        rests_by (left_by s m told (mv.cancels k a hears runs))
        (still_then (own_of sizes t) z _ (still_none (own_of sizes t) z refl refl refl) (still_over z k))
        (releases_none _) cl own sending
    turn_by (mv.is_dropped a hears runs) cl own sending =
        rests_by (left_by s m told (mv.is_dropped a hears runs)) (still_none (own_of sizes t) _ refl refl refl)
        (λ o i. cc i) cl own sending
    turn_by (mv.fails e un) cl own sending =
        rests_by (left_by s m told (mv.fails e un))
        (still_then (own_of sizes t) s _ (still_same (own_of sizes t) s refl refl refl)
        (still_failed s (λ z. true) (lapse e) s.running refl)) (failed_quiet s.running) cl own sending
      where
        failed_quiet : (running : Option Operation) (op : Operation)
            → (failed (λ z. true) (lapse e) s running).deed ≡ Asks op → ⊥
        failed_quiet None op h = cc h
        failed_quiet (Some (Calling k r t)) op h = cc h
        failed_quiet (Some (Registering k path)) op h = cc h
        failed_quiet (Some (Fetching k)) op h = cc h
        failed_quiet (Some Dropped) op h = cc h
        failed_quiet (Some (Cancelling k)) op h = releases_none _ op h
    turn_by (mv.is_ended o a notes found note) cl own sending =
        rests_by (left_by s m told (mv.is_ended o a notes found note))
        (still_then (own_of sizes t) s _ (still_same (own_of sizes t) s refl refl refl) (still_over s o.number))
        (releases_none _) cl own sending
    turn_by (mv.renews o a notes found note newer) cl own sending =
        rests_by (left_by s m told (mv.renews o a notes found note newer))
        (still_dropped (own_of sizes t) _ o.number refl refl refl) (λ z i. cc i) cl own sending
    turn_by (mv.passes_by o a notes found note newer) cl own sending =
        rests_by (left_by s m told (mv.passes_by o a notes found note newer))
        (still_same (own_of sizes t) _ refl refl refl) (λ z i. cc i) cl own sending

  turned : (t : List Call) (c : Call) (h : Turns t) → Turned sizes t c → Goes t c h.low
  turned t c h k = turn_by t c k.now k.told k.token k.request h k.move k.closes k.own_is k.sends_is

  queued : (t : List Call) (c : Call) (h : Turns t) (op : Operation) → sends (own_of sizes t) c ≡ None
      → turn_of op ≡ Some (own_of sizes t).taken → (own_of sizes (c ∷ t)).queue ≡ (own_of sizes t).queue ++ op ∷ []
      → (own_of sizes (c ∷ t)).running ≡ (own_of sizes t).running
      → (own_of sizes (c ∷ t)).taken ≡ (own_of sizes t).taken + 1 → Goes t c h.low
  queued t c h op none turn queue running taken = (
    record {
      low = h.low;
      waits = subst (λ n. Rises h.low (own_of sizes (c ∷ t)).queue n) (sym taken)
          (subst (λ q. Rises h.low q ((own_of sizes t).taken + 1)) (sym queue)
          (rises_more h.low (own_of sizes t).taken op turn (own_of sizes t).queue h.waits));
      running = λ o n is k. h.running o n (sym running ∙ is) k;
      sent = λ x n was k. elim was [
        | inl now ↦ (let e : None ≡ Some x = sym none ∙ now in absurd (cc e))
        | inr before ↦
            h.sent x n before k
      ];
    },
    λ y j is k. (let e : None ≡ Some y = sym none ∙ is in absurd (cc e)),
  )

  goes : (t : List Call) (c : Call) (h : Turns t) → ClientRows sizes (c ∷ t) → Goes t c h.low
  goes t (Calls now r (Err why)) h rows = still t (Calls now r (Err why)) h refl
      (still_same (own_of sizes t) _ refl refl refl)
  goes t (Calls now r (Ok n)) h rows =
      let s : Own = own_of sizes t in
      let is : n ≡ s.taken = given_is (is_full s) (nat_lt s.sizes.limit (length r.body))
      (are_long (block_option_number r.method) (options_of r))
      (s.taken == max_numbers) QueueFull BodyTooLarge BadPath CallsSpent n s.taken rows.0 in
      queued t (Calls now r (Ok n)) h (calling s.sizes n r) refl (ap (λ z. Some z) is) refl refl refl
  goes t (Observes now path (Err why)) h rows =
      still t (Observes now path (Err why)) h refl (still_same (own_of sizes t) _ refl refl refl)
  goes t (Observes now path (Ok n)) h rows =
      let s : Own = own_of sizes t in
      let is : n ≡ s.taken = given_is (is_full s) (are_long block2 (path_options path))
      (nat_le max_observations (observed s)) (s.taken == max_numbers) QueueFull BadPath WatchesFull CallsSpent n
      s.taken rows.0 in
      queued t (Observes now path (Ok n)) h (Registering n path) refl (ap (λ z. Some z) is) refl refl refl
  goes t (Cancels now k (Some why)) h rows = still t (Cancels now k (Some why)) h refl
      (still_same (own_of sizes t) _ refl refl refl)
  goes t (Cancels now k None) h rows = still t (Cancels now k None) h refl
      (record {
        queue = λ low taken z. rises_cancel low taken k (own_of sizes t).queue z;
        running = λ op n is turn. is;
        taken_is = refl;
      })
  goes t (Forgets k kept false) h rows = still t (Forgets k kept false) h refl
      (still_same (own_of sizes t) _ refl refl refl)
  goes t (Forgets k kept true) h rows = still t (Forgets k kept true) h refl
      (let z = still_over (own_of sizes t) k in record { queue = z.queue; running = z.running; taken_is = z.taken_is })
  goes t (NextOut answer) h rows = still t (NextOut answer) h refl (still_same (own_of sizes t) _ refl refl refl)
  goes t (NextReport answer) h rows = still t (NextReport answer) h refl (still_same (own_of sizes t) _ refl refl refl)
  goes t (Asked answer) h rows = still t (Asked answer) h refl (still_same (own_of sizes t) _ refl refl refl)
  goes t (Feeds now from bytes w up settled event sent token kept) h rows =
      turned t (Feeds now from bytes w up settled event sent token kept) h
      (fed_turned sizes t now from bytes w up settled event sent token kept)
  goes t (Ticks now w below turn sent token kept answer) h rows =
      turned t (Ticks now w below turn sent token kept answer) h
      (ticked_turned sizes t now w below turn sent token kept answer)

  pub turns : (t : List Call) → ClientRows sizes t → Turns t
  turns [] rows = record {
    low = 0;
    waits = omega arith;
    running = λ op n is turn. absurd (cc is);
    sent = λ x n was turn. absurd was;
  }
  turns (c ∷ t) rows = (goes t c (turns t rows.1) rows).0

  pub in_turn : (t : List Call) (c : Call) → ClientRows sizes (c ∷ t) → (x y : Sending) (i j : ℕ)
      → sends (own_of sizes t) c ≡ Some y → WasSent sizes x t → turn_of x.operation ≡ Some i
      → turn_of y.operation ≡ Some j
      → i ≤ j
  in_turn t c rows x y i j is was first second =
      let h = turns t rows.1 in
      let a = (goes t c h rows).1 y j is second in
      let b = h.sent x i was first in
      omega (arith, a, b)
