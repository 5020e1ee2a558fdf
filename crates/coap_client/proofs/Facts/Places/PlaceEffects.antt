-- What each effect leaves of the numbers that a client keeps, and of the exchange beneath.
use Rattle.std.proofs.Common.{◌≡◌, ◌≤◌, ℕ, ◌+◌, Bool, true, false, cond, not, Option, Some, None, List, [], ◌∷◌, ◌++◌}
use Rattle.std.proofs.Common.{map, refl, ap, sym, subst, ◌∙◌, arith}
use Rattle.std.specs.Prelude.{filter, ◌==◌}
use Rattle.coap_codec.specs.Message.{Message}
use Rattle.coap_block.specs.declared.fetch_verdict.Verdict.{Verdict}
use Rattle.coap_block.specs.declared.fetch_verdict.Verdict.TheVariants as verdict
use Rattle.coap_block.specs.FetchStep.{FetchState}
use Rattle.coap_exchange.specs.declared.asker.Exchange.{Exchange}
use Rattle.coap_exchange.proofs.Facts.Moves.{token_in}
use Rattle.coap_client.specs.Trace.{is_value, Report, Reported}
use Rattle.coap_client.specs.Own.{Operation, Calling, Registering, Fetching, Cancelling, Dropped, Observation, Own}
use Rattle.coap_client.specs.Observations.{token_of, is_cancel_of, dropped}
use Rattle.coap_client.specs.Effects.{Deed, Rests, Asks, Keeps, Releases, Effect, stays, runs, ends, of}
use Rattle.coap_client.specs.Fetching.{value}
use Rattle.coap_client.specs.Places.{hit, in_op, in_running, in_observations, places, final_of}
use Rattle.coap_client.proofs.Facts.Places.PlaceLemmas.{same_number, number_self, hit_self, in_observations_append}
use Rattle.coap_client.proofs.Facts.Places.PlaceLemmas.{in_map}
use Rattle.coap_client.proofs.Facts.Places.PlaceLemmas.{without, in_without_other, token_of_map, token_of_without}

-- what waits and what runs is of a live observation, where it is of one

abbrev pub Waits : List Observation → Operation → Type 0
Waits os (Fetching number) = ⊥
Waits os (Cancelling number) = 1 ≤ in_observations number os
Waits os Dropped = ⊥
Waits os _ = Unit {0}

abbrev pub AllWait : List Observation → List Operation → Type 0
AllWait os [] = Unit {0}
AllWait os (op ∷ ops) = Waits os op × AllWait os ops

abbrev pub RunsOn : List Observation → Operation → Type 0
RunsOn os (Fetching number) = 1 ≤ in_observations number os
RunsOn os (Cancelling number) = 1 ≤ in_observations number os
RunsOn os _ = Unit {0}

abbrev pub IfRuns : List Observation → Option Operation → Type 0
IfRuns os None = Unit {0}
IfRuns os (Some op) = RunsOn os op

pub record Sound (s : Own) : Type 0 where
  pub at_most : (n : ℕ) → places n s ≤ 1
  pub waits : AllWait s.observations s.queue
  pub runs_on : IfRuns s.observations s.running

-- the exchange is that of the operation that runs; a cancel has the token of its observation

abbrev pub HasToken : List Observation → Operation → List ℕ → Type 0
HasToken os (Cancelling number) token = token_of number os ≡ Some token
HasToken os op token = Unit {0}

abbrev pub Linked : Option Operation → List Observation → Option Exchange → Type 0
Linked None os x = x ≡ None
Linked (Some op) os x = (e : Exchange) × (x ≡ Some e) × HasToken os op e.token

-- .. behind an effect: none runs where a request is to be sent
abbrev pub Leaves : Deed → Effect → Option Exchange → Type 0
Leaves (Asks op) e x = x ≡ None
Leaves _ e x = Linked e.own.running e.own.observations x

pub record Goes (s : Own) (x : Option Exchange) (e : Effect) : Type 0 where
  pub conserved : (n : ℕ) → places n e.own + final_of n e.report ≡ places n s
  pub waits : AllWait e.own.observations e.own.queue
  pub runs_on : IfRuns e.own.observations e.own.running
  pub taken_is : e.own.taken ≡ s.taken
  pub source : (r : Reported) → e.report ≡ Some r → 1 ≤ places r.number s
  pub asks : (op : Operation) → e.deed ≡ Asks op → (e.report ≡ None) × (e.own.running ≡ Some op)
  pub leaves : Leaves e.deed e x

-- lists

pub flip_other : (a b : ℕ) → (a == b) ≡ false → (b == a) ≡ false
flip_other a b h = by (b == a) refl
  where
    by : (c : Bool) → (b == a) ≡ c → c ≡ false
    by true e = let k : (a == b) ≡ true = ap (λ x. a == x) (same_number b a e) ∙ number_self a in absurd (cc (h, k))
    by false e = refl

pub wait_map : (f : Observation → Observation) → ((o : Observation) → (f o).number ≡ o.number)
    → (os : List Observation) (ops : List Operation) → AllWait os ops → AllWait (map f os) ops
wait_map f same os [] h = tt
wait_map f same os (Calling number r t ∷ ops) h = (tt, wait_map f same os ops h.1)
wait_map f same os (Registering number path ∷ ops) h = (tt, wait_map f same os ops h.1)
wait_map f same os (Fetching number ∷ ops) h = absurd h.0
wait_map f same os (Dropped ∷ ops) h = absurd h.0
wait_map f same os (Cancelling number ∷ ops) h =
    (let e = in_map number f same os in let k = h.0 in omega (arith, e, k), wait_map f same os ops h.1)

pub wait_append : (os more : List Observation) (ops : List Operation) → AllWait os ops → AllWait (os ++ more) ops
wait_append os more [] h = tt
wait_append os more (Calling number r t ∷ ops) h = (tt, wait_append os more ops h.1)
wait_append os more (Registering number path ∷ ops) h = (tt, wait_append os more ops h.1)
wait_append os more (Fetching number ∷ ops) h = absurd h.0
wait_append os more (Dropped ∷ ops) h = absurd h.0
wait_append os more (Cancelling number ∷ ops) h =
    (let e = in_observations_append number os more in let k = h.0 in omega (arith, e, k), wait_append os more ops h.1)

pub wait_without : (k : ℕ) (os : List Observation) (ops : List Operation) → AllWait os ops
    → AllWait (without k os) (filter (λ op. not (is_cancel_of k op)) ops)
wait_without k os [] h = tt
wait_without k os (Calling number r t ∷ ops) h = (tt, wait_without k os ops h.1)
wait_without k os (Registering number path ∷ ops) h = (tt, wait_without k os ops h.1)
wait_without k os (Fetching number ∷ ops) h = absurd h.0
wait_without k os (Dropped ∷ ops) h = absurd h.0
wait_without k os (Cancelling number ∷ ops) h = by (wait_without k os ops h.1) (number == k) refl
  where
    by : AllWait (without k os) (filter (λ op. not (is_cancel_of k op)) ops) → (b : Bool) → (number == k) ≡ b
        → AllWait (without k os) (cond (not b) (Cancelling number ∷ filter (λ op. not (is_cancel_of k op)) ops)
        (filter (λ op. not (is_cancel_of k op)) ops))
    by ih true e = ih
    by ih false e = (
      let z = in_without_other number k (flip_other number k e) os in let there =
          h.0 in omega (arith, z, there),
      ih,
    )

pub runs_map : (f : Observation → Observation) → ((o : Observation) → (f o).number ≡ o.number)
    → (os : List Observation) (running : Option Operation) → IfRuns os running → IfRuns (map f os) running
runs_map f same os (Some (Fetching number)) h = let e = in_map number f same os in omega (arith, e, h)
runs_map f same os (Some (Cancelling number)) h = let e = in_map number f same os in omega (arith, e, h)
runs_map f same os _ h = tt

pub runs_dropped : (k : ℕ) (os : List Observation) (running : Option Operation) → IfRuns os running
    → IfRuns os (dropped k running)
runs_dropped k os (Some (Cancelling number)) h = h
runs_dropped k os (Some (Fetching number)) h = by (number == k)
  where
    by : (b : Bool) → IfRuns os (cond b (Some Dropped) (Some (Fetching number)))
    by true = tt
    by false = h
runs_dropped k os _ h = tt

-- no cancel of this number runs
abbrev pub NoCancel : ℕ → Option Operation → Type 0
NoCancel k running = (j : ℕ) → running ≡ Some (Cancelling j) → (j == k) ≡ false

pub runs_without : (k : ℕ) (os : List Observation) (running : Option Operation) → NoCancel k running → IfRuns os running
    → IfRuns (without k os) (dropped k running)
runs_without k os (Some (Cancelling number)) apart h = let e =
    in_without_other number k (flip_other number k (apart number refl)) os in omega (arith, e, h)
runs_without k os (Some (Fetching number)) apart h = by (number == k) refl
  where
    by : (b : Bool) → (number == k) ≡ b → IfRuns (without k os) (cond b (Some Dropped) (Some (Fetching number)))
    by true e = tt
    by false e = let z = in_without_other number k (flip_other number k e) os in omega (arith, z, h)
runs_without k os _ apart h = tt

-- the exchange

token_map : (f : Observation → Observation) → ((o : Observation) → (f o).number ≡ o.number)
    → ((o : Observation) → (f o).token ≡ o.token) → (os : List Observation) (op : Operation) (token : List ℕ)
    → HasToken os op token → HasToken (map f os) op token
token_map f number same os (Cancelling k) token h = token_of_map k f number same os ∙ h
token_map f number same os _ token h = tt

pub linked_map : (f : Observation → Observation) → ((o : Observation) → (f o).number ≡ o.number)
    → ((o : Observation) → (f o).token ≡ o.token)
    → (os : List Observation) (running : Option Operation) (x : Option Exchange) → Linked running os x
    → Linked running (map f os) x
linked_map f number same os None x h = h
linked_map f number same os (Some op) x h = (h.0, h.1, token_map f number same os op h.0.token h.2)

pub linked_dropped : (k : ℕ) (os : List Observation) (running : Option Operation) (x : Option Exchange)
    → Linked running os x → Linked (dropped k running) os x
linked_dropped k os (Some (Fetching number)) x h = by (number == k)
  where
    by : (b : Bool) → Linked (cond b (Some Dropped) (Some (Fetching number))) os x
    by true = h
    by false = h
linked_dropped k os _ x h = h

pub linked_without : (k : ℕ) (os : List Observation) (running : Option Operation) (x : Option Exchange)
    → NoCancel k running → Linked running os x → Linked (dropped k running) (without k os) x
linked_without k os (Some (Cancelling number)) x apart h =
    (h.0, h.1, token_of_without number k (flip_other number k (apart number refl)) os ∙ h.2)
linked_without k os (Some (Fetching number)) x apart h = by (number == k)
  where
    by : (b : Bool) → Linked (cond b (Some Dropped) (Some (Fetching number))) (without k os) x
    by true = h
    by false = h
linked_without k os _ x apart h = h

pub linked_same : (os : List Observation) (running : Option Operation) (x y : Option Exchange) → token_in y ≡ token_in x
    → Linked running os x → Linked running os y
linked_same os None x None same h = refl
linked_same os None x (Some e) same h = absurd (cc (same, ap token_in h))
linked_same os (Some op) x None same h = absurd (cc (same, ap token_in h.1))
linked_same os (Some op) x (Some e) same h =
    let k : Some e.token ≡ Some h.0.token = same ∙ ap token_in h.1 in
    let t : e.token ≡ h.0.token = cc k in
    (e, refl, subst (HasToken os op) (sym t) h.2)

-- effects

pub stays_goes : (s : Own) (x : Option Exchange) → Sound s → Linked s.running s.observations x → Goes s x (stays s)
stays_goes s x sound l = record {
  conserved = λ n. omega arith;
  waits = sound.waits;
  runs_on = sound.runs_on;
  taken_is = refl;
  source = λ r h. absurd (cc h);
  asks = λ op h. absurd (cc h);
  leaves = l;
}

-- a value is no last report, and is of its number
pub value_quiet : (n k sequence : ℕ) (f : FetchState) (m : Message) (v : Verdict)
    → final_of n (value k sequence f m v) ≡ 0
value_quiet n k sequence f m verdict.Done = refl
value_quiet n k sequence f m _ = refl

pub value_of_number : (k sequence : ℕ) (f : FetchState) (m : Message) (v : Verdict) (r : Reported)
    → value k sequence f m v ≡ Some r → r.number ≡ k
value_of_number k sequence f m verdict.Done r h = number_in (value k sequence f m verdict.Done) refl r h
  where
    number_in : (o : Option Reported) → o ≡ value k sequence f m verdict.Done → (r : Reported) → o ≡ Some r
        → r.number ≡ k
    number_in None e r h = absurd (cc e)
    number_in (Some y) e r h = (let a : y ≡ r = cc h in sym (ap (λ (z : Reported). z.number) a)) ∙ number_of_value y e
      where
        number_of_value : (y : Reported) → Some y ≡ value k sequence f m verdict.Done → y.number ≡ k
        number_of_value y e = ap number_or e
          where
            number_or : Option Reported → ℕ
            number_or None = k
            number_or (Some z) = z.number
value_of_number k sequence f m _ r h = absurd (cc h)

pub of_number : (k : ℕ) (report : Report) (r : Reported) → of k report ≡ Some r → r.number ≡ k
of_number k report r h = let e : ◌≡◌ {A = Reported} (record { number = k; report = report }) r =
    cc h in sym (ap (λ (x : Reported). x.number) e)

pub final_hit : (n k : ℕ) (report : Report) → is_value report ≡ false → final_of n (of k report) ≡ hit k n
final_hit n k report h = ap (λ b. cond b 0 (hit k n)) h

-- what runs is over, with a last report of its number, or with none
module _ (s : Own) (x : Option Exchange) (sound : Sound s) (none : x ≡ None) (op : Operation)
    (is : s.running ≡ Some op) where
  pub ends_goes : (k : ℕ) (report : Report) → ((n : ℕ) → in_op n op ≡ hit k n) → is_value report ≡ false
      → Goes s x (ends (of k report) s)
  ends_goes k report place last = record {
    conserved = λ n. let a = final_hit n k report last in let b = place n in let c =
        ap (in_running n) is in omega (arith, a, b, c);
    waits = sound.waits;
    runs_on = tt;
    taken_is = refl;
    source = λ r h. let e = of_number k report r h in let b = place k in let c = ap (in_running k) is in let d =
        hit_self k in subst (λ n. 1 ≤ places n s) (sym e) (omega (arith, b, c, d));
    asks = λ o h. absurd (cc h);
    leaves = none;
  }

  pub ends_quietly : ((n : ℕ) → in_op n op ≡ 0) → Goes s x (ends None s)
  ends_quietly place = record {
    conserved = λ n. let b = place n in let c = ap (in_running n) is in omega (arith, b, c);
    waits = sound.waits;
    runs_on = tt;
    taken_is = refl;
    source = λ r h. absurd (cc h);
    asks = λ o h. absurd (cc h);
    leaves = none;
  }

-- an upload may hold back others
pub held_goes : (s : Own) (x : Option Exchange) (c : Bool) (v : Option ℕ) → Sound s → x ≡ None → (op : Operation)
    → s.running ≡ Some op → (k : ℕ) (report : Report) → ((n : ℕ) → in_op n op ≡ hit k n) → is_value report ≡ false
    → Goes s x (ends (of k report) (cond c (record s { hold = v }) s))
held_goes s x true v sound none op is k report place last =
    let g = ends_goes s x sound none op is k report place last in
    record {
      conserved = g.conserved;
      waits = g.waits;
      runs_on = g.runs_on;
      taken_is = g.taken_is;
      source = g.source;
      asks = g.asks;
      leaves = g.leaves;
    }
held_goes s x false v sound none op is k report place last = ends_goes s x sound none op is k report place last

-- the next request of what runs
pub again_goes : (s : Own) (x : Option Exchange) → Sound s → x ≡ None → (op next : Operation) → s.running ≡ Some op
    → ((n : ℕ) → in_op n next ≡ in_op n op) → RunsOn s.observations next → Goes s x (runs next s)
again_goes s x sound none op next is place live = record {
  conserved = λ n. let b = place n in let c = ap (in_running n) is in omega (arith, b, c);
  waits = sound.waits;
  runs_on = live;
  taken_is = refl;
  source = λ r h. absurd (cc h);
  asks = λ o h. (refl, (let e : next ≡ o = cc h in ap (λ y. Some y) e));
  leaves = none;
}
