-- How many CONs have a step due: a tick that takes one leaves fewer, and no call adds one (RFC 7252, section 4.2).
use Rattle.std.proofs.Common.{◌≡◌, ◌≤◌, ◌<◌, ℕ, ◌+◌, ◌-◌, ◌*◌, ◌%◌, max, nat_le, nat_lt, Bool, true, false, ◌&&◌, ◌||◌}
use Rattle.std.proofs.Common.{Option, Some, None, List, [], ◌∷◌, ◌++◌, refl, ap, sym, subst, ◌∙◌, cond, arith}
use Rattle.std.proofs.Common.{option_to_list}
use Rattle.std.specs.List.{filter_map, cons_option, list_any}
use Rattle.std.proofs.lemmas.Bool.Decides.{nat_tests}
use Rattle.std.proofs.lemmas.List.{append-nil}
use Rattle.std.specs.Cmp.{unsigned_Decides}
use Rattle.coap_types.proofs.Facts.Endpoints.{same_endpoint_self}
use Rattle.coap_types.specs.declared.endpoint.Endpoint.{Endpoint}
use Rattle.coap_types.specs.declared.transmission.TheConstants.{ACK_TIMEOUT_MS as ack_timeout}
use Rattle.coap_types.specs.declared.transmission.TheConstants.{FAILURE_TIMEOUTS as failure_timeouts}
use Rattle.coap_types.specs.declared.transmission.TheConstants.{LAST_RETRANSMISSION_MS as last_retransmission}
use Rattle.coap_types.specs.declared.transmission.TheConstants.{MAX_RETRANSMIT as max_retransmit}
use Rattle.coap_types.specs.declared.transmission.TheConstants.{TIMEOUT_VALUES as timeout_values}
use Rattle.coap_types.specs.declared.message.Kind.TheVariants.{Con}
use Rattle.coap_codec.specs.Spelling.{message_bytes}
use Rattle.coap_layer.specs.BackOff.{factors}
use Rattle.coap_layer.specs.Machine.State as S
use Rattle.coap_layer.specs.Machine.State.{is_due, is_copy_due, is_failed, tick_of, out_of}
use Rattle.coap_layer.specs.Trace as L
use Rattle.coap_layer.specs.Trace.{with_head}
use Rattle.coap_layer.specs.Words.{Open, same, left_by, open_of, sent_by, begun_in}
use Rattle.coap_exchange.specs.StepsDue.{one_if, has_step, due_count}
use Rattle.coap_layer.specs.Machine.Calls.{entry_of}
use Rattle.coap_layer.proofs.Facts.CallsOfLayer.{step_opens, left_same, left_same_nil}

abbrev of_option : ℕ → Option Open → ℕ
of_option at None = 0
of_option at (Some c) = one_if (has_step at c)

count_option : (at : ℕ) (o : Option Open) (cs : List Open)
    → due_count at (cons_option o cs) ≡ of_option at o + due_count at cs
count_option at None cs = omega arith
count_option at (Some c) cs = refl

count_join : (at : ℕ) (cs ds : List Open) → due_count at (cs ++ ds) ≡ due_count at cs + due_count at ds
count_join at [] ds = omega arith
count_join at (c ∷ cs) ds = let k = count_join at cs ds in omega (arith, k)

-- what was sent at this moment is not due again
never_both : (a b : ℕ) → (nat_lt a b && nat_le b a) ≡ false
never_both a b = by (nat_lt a b) (nat_le b a) refl refl
  where
    by : (p q : Bool) → nat_lt a b ≡ p → nat_le b a ≡ q → (p && q) ≡ false
    by false q h k = refl
    by true false h k = refl
    by true true h k = absurd (grind (arith, nat_tests))

not_due : (at : ℕ) (c : Open) → c.last ≡ at → is_copy_due at c ≡ false
not_due at c sent = by (nat_le (at - c.first) last_retransmission) (none (factors max_retransmit))
  where
    each : (k : ℕ) → is_due at c k ≡ false
    each k = ap (λ n. nat_lt (n - c.first) (c.timeout * k) && nat_le (c.timeout * k) (at - c.first)) sent
        ∙ never_both (at - c.first) (c.timeout * k)

    none : (ks : List ℕ) → list_any (is_due at c) ks ≡ false
    none [] = refl
    none (k ∷ ks) = ap (λ b. b || list_any (is_due at c) ks) (each k) ∙ none ks

    by : (b : Bool) → list_any (is_due at c) (factors max_retransmit) ≡ false
        → (b && list_any (is_due at c) (factors max_retransmit)) ≡ false
    by true h = h
    by false h = refl

or_least : (a b : Bool) → one_if (a || false) ≤ one_if (a || b)
or_least true b = omega arith
or_least false true = omega arith
or_least false false = omega arith

sent_least : (at : ℕ) (c : Open) → one_if (has_step at (record c { last = at })) ≤ one_if (has_step at c)
sent_least at c = subst (λ b. one_if (is_failed at c || b) ≤ one_if (has_step at c))
    (sym (not_due at (record c { last = at }) refl)) (or_least (is_failed at c) (is_copy_due at c))

abbrev pub is_step : L.Answer → Bool
is_step (L.Copied to id) = true
is_step (L.Expired to id) = true
is_step _ = false

module _ (at : ℕ) (out : List L.Packet) where
  abbrev after_tick : L.Answer → Open → Option Open
  after_tick a = left_by (entry_of at L.Ticks a out)

  each_least : (a : L.Answer) (c : Open) → of_option at (after_tick a c) ≤ one_if (has_step at c)
  each_least (L.Expired to id) c = by (same to id c.to c.id)
    where
      by : (b : Bool) → of_option at (cond b None (Some c)) ≤ one_if (has_step at c)
      by true = omega arith
      by false = omega arith
  each_least (L.Copied to id) c = by (same to id c.to c.id)
    where
      by : (b : Bool) → of_option at (cond b (Some (record c { last = at })) (Some c)) ≤ one_if (has_step at c)
      by true = sent_least at c
      by false = omega arith
  each_least up c = omega arith

  all_least : (a : L.Answer) (cs : List Open) → due_count at (filter_map (after_tick a) cs) ≤ due_count at cs
  all_least a [] = omega arith
  all_least a (c ∷ cs) = let e = count_option at (after_tick a c) (filter_map (after_tick a) cs) in let k =
      each_least a c in let r = all_least a cs in omega (arith, e, k, r)

  same_self : (to : Endpoint) (id : ℕ) → same to id to id ≡ true
  same_self to id = let p = same_endpoint_self to in let q = (unsigned_Decides id id).1 refl in cc (p, q)

  -- what a tick takes is fewer
  fewer : (a : L.Answer) (cs : List Open) → tick_of at cs ≡ a → is_step a ≡ true
      → due_count at (filter_map (after_tick a) cs) < due_count at cs
  fewer a [] is step = absurd (let e : is_step L.Idle ≡ is_step a = ap is_step is in cc (e, step))
  fewer a (c ∷ cs) is step = by (is_failed at c) (is_copy_due at c) refl refl is (λ h. fewer a cs h step)
    where
      count : due_count at (filter_map (after_tick a) (c ∷ cs))
          ≡ of_option at (after_tick a c) + due_count at (filter_map (after_tick a) cs)
      count = count_option at (after_tick a c) (filter_map (after_tick a) cs)

      -- the first that has a step
      head : of_option at (after_tick a c) ≡ 0 → one_if (has_step at c) ≡ 1
          → due_count at (filter_map (after_tick a) (c ∷ cs)) < due_count at (c ∷ cs)
      head none one = let k = all_least a cs in let e = count in omega (arith, e, none, one, k)

      by : (f d : Bool) → is_failed at c ≡ f → is_copy_due at c ≡ d
          → cond f (L.Expired c.to c.id) (cond d (L.Copied c.to c.id) (tick_of at cs)) ≡ a
          → (tick_of at cs ≡ a → due_count at (filter_map (after_tick a) cs) < due_count at cs)
          → due_count at (filter_map (after_tick a) (c ∷ cs)) < due_count at (c ∷ cs)
      by true d failed due h f = head gone (ap (λ b. one_if (b || is_copy_due at c)) failed)
        where
          gone : of_option at (after_tick a c) ≡ 0
          gone = subst (λ x. of_option at (after_tick x c) ≡ 0) h
              (ap (λ b. of_option at (cond b None (Some c))) (same_self c.to c.id))
      by false true failed due h f = head sent (ap (λ b. one_if (b || is_copy_due at c)) failed
          ∙ ap (λ b. one_if b) due)
        where
          later : Open
          later = record c { last = at }

          none : one_if (has_step at (record c { last = at })) ≡ 0
          none = ap (λ b. one_if (b || is_copy_due at (record c { last = at }))) failed
              ∙ ap (λ b. one_if b) (not_due at (record c { last = at }) refl)

          sent : of_option at (after_tick a c) ≡ 0
          sent = subst (λ x. of_option at (after_tick x c) ≡ 0) h
              (ap (λ b. of_option at (cond b (Some (record c { last = at })) (Some c))) (same_self c.to c.id) ∙ none)
      by false false failed due h f = let k = f h in let e = each_least a c in let n = count in omega (arith, k, e, n)

-- steps of the layer

module _ (old new : S.State) (now : ℕ) where
  pub ticks_least : (a : L.Answer) → S.Step old now L.Ticks a new
      → due_count (max old.clock now) new.open_cons ≤ due_count (max old.clock now) old.open_cons
  ticks_least a step =
      let out = out_of old (max old.clock now) L.Ticks in
      subst (λ cs. due_count (max old.clock now) cs ≤ due_count (max old.clock now) old.open_cons)
      (sym (step_opens old new now L.Ticks a step ∙ append-nil _))
      (all_least (max old.clock now) out a old.open_cons)

  pub ticks_fewer : (a : L.Answer) → S.Step old now L.Ticks a new → is_step a ≡ true
      → due_count (max old.clock now) new.open_cons < due_count (max old.clock now) old.open_cons
  ticks_fewer a step taken =
      let out = out_of old (max old.clock now) L.Ticks in
      subst (λ cs. due_count (max old.clock now) cs < due_count (max old.clock now) old.open_cons)
      (sym (step_opens old new now L.Ticks a step ∙ append-nil _))
      (fewer (max old.clock now) out a old.open_cons (sym step.right) taken)

  -- a CON that begins has no step due yet
  begun_none : (at : ℕ) (to : Endpoint) (content : L.Content) (w : ℕ) (o : Option ℕ)
      → due_count at (option_to_list (open_of at to content w o)) ≡ 0
  begun_none at to content w None = refl
  begun_none at to content w (Some id) = by (nat_le ((ack_timeout + w % timeout_values) * failure_timeouts) (at - at))
      refl
    where
      by : (b : Bool) → nat_le ((ack_timeout + w % timeout_values) * failure_timeouts) (at - at) ≡ b
          → due_count at (option_to_list (open_of at to content w (Some id))) ≡ 0
      by true is = absurd (grind (arith, nat_tests))
      by false is =
          ap (λ b. one_if (b || is_copy_due at started) + 0) is ∙ ap (λ b. one_if b + 0) (not_due at started refl)
        where
          started : Open
          started = record {
            to = to;
            id = id;
            bytes = message_bytes (with_head Con id content);
            timeout = ack_timeout + w % timeout_values;
            first = at;
            last = at;
          }

  pub confirm_least : (to : Endpoint) (content : L.Content) (w : ℕ) (a : L.Answer)
      → S.Step old now (L.Confirm to content w) a new
      → due_count (max old.clock now) new.open_cons ≡ due_count (max old.clock now) old.open_cons
  confirm_least to content w a step =
      let at = max old.clock now in
      let out = out_of old at (L.Confirm to content w) in
      let begun = option_to_list (open_of at to content w (sent_by a)) in
      let same : new.open_cons ≡ old.open_cons ++ begun =
      step_opens old new now (L.Confirm to content w) a step
      ∙ ap (λ cs. cs ++ begun) (left_same (entry_of at (L.Confirm to content w) a out) (λ c. refl) old.open_cons) in
      let sum = count_join at old.open_cons begun in
      let none = begun_none at to content w (sent_by a) in
      ap (due_count at) same ∙ omega (arith, sum, none)

  pub room_same : (to : Endpoint) (a : L.Answer) → S.Step old now (L.Room to) a new → new.open_cons ≡ old.open_cons
  room_same to a step = step_opens old new now (L.Room to) a step
      ∙ left_same_nil (entry_of (max old.clock now) (L.Room to) a (out_of old (max old.clock now) (L.Room to)))
      (λ c. refl) old.open_cons

  -- a call that ends and begins no CON
  pub same_opens : (call : L.Call) (a : L.Answer) → S.Step old now call a new
      → ((e : List L.Packet) (c : Open) → left_by (entry_of (S.moment old now call) call a e) c ≡ Some c)
      → ((at : ℕ) → begun_in at call a ≡ None) → new.open_cons ≡ old.open_cons
  same_opens call a step keeps none =
      let at = S.moment old now call in
      let out = out_of old at call in
      step_opens old new now call a step
      ∙ (ap (λ o. filter_map (left_by (entry_of at call a out)) old.open_cons ++ option_to_list o) (none at)
      ∙ left_same_nil (entry_of at call a out) (keeps out) old.open_cons)
