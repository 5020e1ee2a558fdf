-- What a datagram or a tick adds to what was sent so far.
use Rattle.std.proofs.Common.{◌≡◌, ◌⊎◌, inl, inr, ℕ, ◌+◌, max, Bool, true, false, cond, Option, Some, None, List, []}
use Rattle.std.proofs.Common.{◌∷◌, ◌++◌, refl, ap, sym, subst, ◌∙◌, arith, Result, Ok, Err, append-nil}
use Rattle.std.specs.Prelude.{◌==◌, nat_lt}
use Rattle.coap_types.specs.declared.endpoint.Endpoint.{Endpoint}
use Rattle.coap_codec.specs.Message.{Message}
use Rattle.coap_block.specs.Sizes.{Sizes}
use Rattle.coap_block.specs.Sent.{part_to_send}
use Rattle.coap_layer.specs.declared.setup.Setup.{Setup}
use Rattle.coap_exchange.specs.declared.asker.AskRefusal.{AskRefusal}
use Rattle.coap_exchange.specs.declared.asker.Exchange.{Exchange}
use Rattle.coap_client.specs.Trace.{Call}
use Rattle.coap_client.specs.Trace as R
use Rattle.coap_client.specs.Own.{Uploads, Operation, Calling, Registering, Fetching, Cancelling, Dropped, Own}
use Rattle.coap_client.specs.Requests.{message_of}
use Rattle.coap_client.specs.Effects.{Deed, Asks, Effect, has_sent}
use Rattle.coap_client.specs.Events.{failed, closed}
use Rattle.coap_client.specs.Deeds.{at}
use Rattle.coap_client.specs.Law.{own_of}
use Rattle.coap_client.specs.Sendings.{Sending, sends, sent_by, last_sent}
use Rattle.coap_client_laws.specs.Follows.Blocks.{Carried, carried, block_of, block_in_sending, blocks}
use Rattle.coap_client.specs.Places.{in_op, in_running, in_queue}
use Rattle.coap_client.proofs.Facts.Places.PlaceLemmas.{same_number, number_self, hit_self}
use Rattle.coap_client.proofs.Facts.Places.Once.{beneath, Known}
use Rattle.coap_client_laws.proofs.Turning.BlockByBlock.{From, AllOf, Runs, failed_runs, TokenStays}
use Rattle.coap_client_laws.proofs.Uploading.SentSoFar.{Goes, IfTracked, IsFresh, NoneWait, Sends, UpSent, all_zero}
use Rattle.coap_client_laws.proofs.Uploading.SentSoFar.{blocks_same, fresh_later, heard_by, map_all, one_if, piece}
use Rattle.coap_client_laws.proofs.Uploading.SentSoFar.{unsent}
use Rattle.coap_client_laws.proofs.Uploading.SentSoFar.{up_op, zero_all}

module _ (sizes : Sizes) (server : Endpoint) (setup : Setup) where
  module _ (t : List Call) (c : Call) (now : ℕ) (e : Effect) (token : Result (List ℕ) AskRefusal) (h : Sends sizes
      server setup t)
      (heard : Option Message) (hear : heard_by sizes server setup t c heard) where
    abbrev s : Own
    s = at now (own_of sizes t)

    abbrev m : ℕ
    m = max (own_of sizes t).clock now

    abbrev new : Own
    new = own_of sizes (c ∷ t)

    abbrev Next : Deed → Result (List ℕ) AskRefusal → Type 0
    Next d token = sends (own_of sizes t) c ≡ sent_by e d token → new.running ≡ (closed m e d token).own.running
        → new.queue ≡ (closed m e d token).own.queue → Sends sizes server setup (c ∷ t)

    module _ (taken_is : new.taken ≡ (own_of sizes t).taken) (runs : Runs s e) (from : From s heard e)
        (asks : (op : Operation) → e.deed ≡ Asks op → (e.report ≡ None) × (e.own.running ≡ Some op))
        (stays : ((op : Operation) → e.deed ≡ Asks op → ⊥)
        → TokenStays (beneath server sizes setup t).running (beneath server sizes setup (c ∷ t)).running)
        (now_known : Known server sizes setup (c ∷ t)) where
      fresh_now : AllOf (IsFresh (c ∷ t)) e.own.queue
      fresh_now = runs.waits (IsFresh (c ∷ t)) (map_all (IsFresh t) (IsFresh (c ∷ t)) (fresh_later t c)
          (own_of sizes t).queue h.fresh)

      zero_now : (k : ℕ) → in_queue k (own_of sizes t).queue ≡ 0 → in_queue k e.own.queue ≡ 0
      zero_now k zero = all_zero k e.own.queue (runs.waits (λ op. in_op k op ≡ 0)
          (zero_all k (own_of sizes t).queue zero))

      below_now : (k : ℕ) → nat_lt k (own_of sizes t).taken ≡ true → nat_lt k new.taken ≡ true
      below_now k b = ap (nat_lt k) taken_is ∙ b

      none_wait : (queue : List Operation) → new.queue ≡ queue
          → ((k : ℕ) → in_queue k e.own.queue ≡ 0 → in_queue k queue ≡ 0) → NoneWait sizes t new
      none_wait queue is f k = elim (h.waits k) [
        | inl n ↦ inl n
        | inr w ↦ inr
            (ap (in_queue k) is ∙ f k (zero_now k w.0), below_now k w.1)
      ]

      went : ((op : Operation) → e.deed ≡ Asks op → ⊥) → new.running ≡ e.own.running
          → Goes sizes server setup (own_of sizes t).running new.running
      went quiet is = elim runs.running [
        | inl none ↦ inl (is ∙ none)
        | inr b ↦ elim b [
          | inl d ↦ inr (inl (d.0, is ∙ d.1))
          | inr k ↦ elim k [ inl same ↦ inr (inr (is ∙ same)) | inr a ↦ absurd (quiet a.0 a.1) ]
        ]
      ]

      quietly : ((op : Operation) → e.deed ≡ Asks op → ⊥) → sends (own_of sizes t) c ≡ None
          → new.running ≡ e.own.running → new.queue ≡ e.own.queue → Sends sizes server setup (c ∷ t)
      quietly quiet none running queue =
          unsent sizes server setup t c none (went quiet running) (stays quiet) (subst (AllOf (IsFresh (c ∷ t)))
          (sym queue) fresh_now)
          (none_wait e.own.queue queue (λ k z. z)) h

      failed_none : (op : Operation) → (failed has_sent R.NoIds e.own (Some op)).own.running ≡ None
      failed_none (Calling k r u) = refl
      failed_none _ = refl

      refused : (op : Operation) → sends (own_of sizes t) c ≡ None → new.running ≡ None
          → new.queue ≡ (failed has_sent R.NoIds e.own (Some op)).own.queue → Sends sizes server setup (c ∷ t)
      refused op none running queue =
          let f = failed_runs e.own has_sent R.NoIds (Some op) in
          let q = (failed has_sent R.NoIds e.own (Some op)).own.queue in
          let waits = none_wait q queue (λ k z. all_zero k q
          (f.waits (λ o. in_op k o ≡ 0) (zero_all k e.own.queue z))) in
          record {
            fresh = subst (AllOf (IsFresh (c ∷ t))) (sym queue) (f.waits (IsFresh (c ∷ t)) fresh_now);
            waits = λ k. elim (waits k) [ inl n ↦ inl (blocks_same sizes t c none k ∙ n) | inr w ↦ inr w ];
            tracked = subst (λ o. IfTracked sizes (c ∷ t) o (beneath server sizes setup (c ∷ t)).running) (sym
                running) tt;
          }

      -- a request goes out
      module _ (op : Operation) (key : List ℕ) (is : e.deed ≡ Asks op)
          (sending : sends (own_of sizes t) c ≡ Some (record
          { operation = op; token = key; request = message_of e.own.observations op }))
          (key_is : (x : Exchange) → (beneath server sizes setup (c ∷ t)).running ≡ Some x → x.token ≡ key)
          (running : new.running ≡ Some op) (queue : new.queue ≡ e.own.queue) where
        abbrev z : Sending
        z = record { operation = op; token = key; request = message_of e.own.observations op }

        blocks_now : (k : ℕ) → blocks sizes k (c ∷ t) ≡ blocks sizes k t ++ block_in_sending k (Some z)
        blocks_now k = ap (λ o. blocks sizes k t ++ block_in_sending k o) sending

        up_now : (o : Operation) → op ≡ o → UpSent sizes (c ∷ t) o
        up_now (Calling k r (Uploads u)) same =
            let y : Carried = record { number = k; upload = u } in
            let carries : carried op ≡ Some y = ap carried same in
            let p = piece sizes server setup t c h heard hear z e.own.observations refl y carries e now (from op y
            is carries) in
            let block : block_in_sending k (Some z) ≡ part_to_send u ∷ [] = ap (block_of k) carries
            ∙ ap (λ b. cond b (part_to_send u ∷ []) []) (number_self k) in (
              blocks sizes k t,
              p.request,
              blocks_now k ∙ ap (λ ps. blocks sizes k t ++ ps) block,
              p.sent,
              inr p.taken,
              p.body,
            )
        up_now _ same = tt

        -- what goes out waits no more
        out_of_queue : (k : ℕ) → in_op k op ≡ 1 → (in_queue k new.queue ≡ 0) × (nat_lt k new.taken ≡ true)
        out_of_queue k place = by (nat_lt k new.taken) refl
          where
            by : (b : Bool) → nat_lt k new.taken ≡ b → (in_queue k new.queue ≡ 0) × (nat_lt k new.taken ≡ true)
            by true e = (
              let a = now_known.one k in let f = ap (in_running k) running in let g =
                  ap (λ b. one_if b) e in omega (arith, a, f, g, place),
              e,
            )
            by false e = (let a = now_known.one k in let f = ap (in_running k) running in let g =
                ap (λ b. one_if b) e in absurd (omega (arith, a, f, g, place)))

        place_of : (o : Operation) (y : Carried) → carried o ≡ Some y → in_op y.number o ≡ 1
        place_of o y carries =
            let a = (up_op sizes server setup o y carries).1 in ap (in_op y.number) a ∙ hit_self y.number

        waits_now : (o : Option Carried) → carried op ≡ o → NoneWait sizes (c ∷ t) new
        waits_now None none k = elim (none_wait e.own.queue queue (λ i x. x) k) [
          | inl n ↦ inl (blocks_now k ∙ (ap (λ p. blocks sizes k t ++ block_of k p) none
              ∙ (append-nil (blocks sizes k t) ∙ n)))
          | inr w ↦ inr w
        ]
        waits_now (Some y) carries k = by (y.number == k) refl
          where
            by : (b : Bool) → (y.number == k) ≡ b → (blocks sizes k (c ∷ t) ≡ [])
                ⊎ ((in_queue k new.queue ≡ 0) × (nat_lt k new.taken ≡ true))
            by true e = inr (out_of_queue k (subst (λ i. in_op i op ≡ 1) (same_number y.number k e)
                (place_of op y carries)))
            by false f = elim (none_wait e.own.queue queue (λ i x. x) k) [
              | inl n ↦ inl (blocks_now k ∙ (ap (λ p. blocks sizes k t ++ block_of k p) carries
                  ∙ (ap (λ b. blocks sizes k t ++ cond b (part_to_send y.upload ∷ []) []) f
                  ∙ (append-nil (blocks sizes k t) ∙ n))))
              | inr w ↦ inr w
            ]

        goes_out : Sends sizes server setup (c ∷ t)
        goes_out = record {
          fresh = subst (AllOf (IsFresh (c ∷ t))) (sym queue) fresh_now;
          waits = waits_now (carried op) refl;
          tracked = subst (λ o. IfTracked sizes (c ∷ t) o (beneath server sizes setup (c ∷ t)).running) (sym running)
              (record {
                sending = z;
                last = ap (λ o. elim o [ Some x ↦ Some x | None ↦ last_sent sizes t ]) sending;
                token = key_is;
                same = inr refl;
                up = up_now op refl;
              });
        }

      pub next : (d : Deed) (token : Result (List ℕ) AskRefusal) → e.deed ≡ d
          → ((op : Operation) (key : List ℕ) → d ≡ Asks op → token ≡ Ok key → (x : Exchange)
          → (beneath server sizes setup (c ∷ t)).running ≡ Some x → x.token ≡ key) → Next d token
      next (Asks op) (Err why) is key sending running queue = refused op sending (running ∙ failed_none op) queue
      next (Asks op) (Ok k) is key sending running queue =
          goes_out op k is sending (key op k refl refl) (running ∙ (asks op is).1) queue
      next _ token is key sending running queue = quietly (λ op i. cc (i, is)) sending running queue
