-- The numbers that wait rise, and what an effect leaves of them.
use Rattle.std.proofs.Common.{◌≡◌, ◌≤◌, ℕ, ◌+◌, Bool, true, false, cond, not, ◌&&◌, Option, Some, None, List, ◌∷◌}
use Rattle.std.proofs.Common.{◌++◌, [], refl, ap, sym, subst, ◌∙◌, arith}
use Rattle.std.specs.Prelude.{◌==◌, filter}
use Rattle.coap_client.specs.Trace.{Report, Reported}
use Rattle.coap_client.specs.Own.{Transfer, Operation, Calling, Registering, Fetching, Cancelling, Dropped, Own}
use Rattle.coap_client.specs.Observations.{is_cancel_of, dropped, over}
use Rattle.coap_client.specs.Effects.{ends, of, is_upload}
use Rattle.coap_client.specs.Events.{failed}
use Rattle.coap_client_laws.specs.Follows.Order.{turn_of}

-- the numbers that wait rise, from this one on and below those to come
abbrev pub Rises : ℕ → List Operation → ℕ → Type 0
Rises low [] taken = low ≤ taken
Rises low (Calling n r t ∷ ops) taken = (low ≤ n) × Rises (n + 1) ops taken
Rises low (Registering n path ∷ ops) taken = (low ≤ n) × Rises (n + 1) ops taken
Rises low (Fetching n ∷ ops) taken = Rises low ops taken
Rises low (Cancelling n ∷ ops) taken = Rises low ops taken
Rises low (Dropped ∷ ops) taken = Rises low ops taken

rises_lower : (low less : ℕ) (ops : List Operation) (taken : ℕ) → less ≤ low → Rises low ops taken
    → Rises less ops taken
rises_lower low less [] taken le h = omega (arith, le, h)
rises_lower low less (Calling n r t ∷ ops) taken le h = (let a = h.0 in omega (arith, le, a), h.1)
rises_lower low less (Registering n path ∷ ops) taken le h = (let a = h.0 in omega (arith, le, a), h.1)
rises_lower low less (Fetching n ∷ ops) taken le h = rises_lower low less ops taken le h
rises_lower low less (Cancelling n ∷ ops) taken le h = rises_lower low less ops taken le h
rises_lower low less (Dropped ∷ ops) taken le h = rises_lower low less ops taken le h

pub rises_tail : (low : ℕ) (op : Operation) (ops : List Operation) (taken : ℕ) → Rises low (op ∷ ops) taken
    → Rises low ops taken
rises_tail low (Calling n r t) ops taken h = rises_lower (n + 1) low ops taken (let a = h.0 in omega (arith, a)) h.1
rises_tail low (Registering n path) ops taken h =
    rises_lower (n + 1) low ops taken (let a = h.0 in omega (arith, a)) h.1
rises_tail low _ ops taken h = h

abbrev IsNext : ℕ → Operation → Type 0
IsNext n op = turn_of op ≡ Some n

rises_one : (low n : ℕ) (op : Operation) → IsNext n op → low ≤ n → Rises low (op ∷ []) (n + 1)
rises_one low n (Calling k r t) is le = let e : k ≡ n = cc is in (omega (arith, e, le), omega (arith, e))
rises_one low n (Registering k path) is le = let e : k ≡ n = cc is in (omega (arith, e, le), omega (arith, e))
rises_one low n _ is le = absurd (cc is)

-- one more waits
pub rises_more : (low n : ℕ) (op : Operation) → IsNext n op → (ops : List Operation) → Rises low ops n
    → Rises low (ops ++ op ∷ []) (n + 1)
rises_more low n op is [] h = rises_one low n op is h
rises_more low n op is (Calling k r t ∷ ops) h = (h.0, rises_more (k + 1) n op is ops h.1)
rises_more low n op is (Registering k path ∷ ops) h = (h.0, rises_more (k + 1) n op is ops h.1)
rises_more low n op is (Fetching k ∷ ops) h = rises_more low n op is ops h
rises_more low n op is (Cancelling k ∷ ops) h = rises_more low n op is ops h
rises_more low n op is (Dropped ∷ ops) h = rises_more low n op is ops h

pub rises_cancel : (low taken k : ℕ) (ops : List Operation) → Rises low ops taken
    → Rises low (ops ++ Cancelling k ∷ []) taken
rises_cancel low taken k [] h = h
rises_cancel low taken k (Calling n r t ∷ ops) h = (h.0, rises_cancel (n + 1) taken k ops h.1)
rises_cancel low taken k (Registering n path ∷ ops) h = (h.0, rises_cancel (n + 1) taken k ops h.1)
rises_cancel low taken k (Fetching n ∷ ops) h = rises_cancel low taken k ops h
rises_cancel low taken k (Cancelling n ∷ ops) h = rises_cancel low taken k ops h
rises_cancel low taken k (Dropped ∷ ops) h = rises_cancel low taken k ops h

-- cancels leave
rises_without : (low taken k : ℕ) (ops : List Operation) → Rises low ops taken
    → Rises low (filter (λ op. not (is_cancel_of k op)) ops) taken
rises_without low taken k [] h = h
rises_without low taken k (Calling n r t ∷ ops) h = (h.0, rises_without (n + 1) taken k ops h.1)
rises_without low taken k (Registering n path ∷ ops) h = (h.0, rises_without (n + 1) taken k ops h.1)
rises_without low taken k (Fetching n ∷ ops) h = rises_without low taken k ops h
rises_without low taken k (Dropped ∷ ops) h = rises_without low taken k ops h
rises_without low taken k (Cancelling n ∷ ops) h = by (n == k) (rises_without low taken k ops h)
  where
    by : (b : Bool) → Rises low (filter (λ op. not (is_cancel_of k op)) ops) taken
        → Rises low (cond (not b) (Cancelling n ∷ filter (λ op. not (is_cancel_of k op)) ops)
        (filter (λ op. not (is_cancel_of k op)) ops)) taken
    by true ih = ih
    by false ih = ih

-- what takes no turn leaves the queue in its order, and starts nothing
pub record Still (s o : Own) : Type 0 where
  pub queue : (low taken : ℕ) → Rises low s.queue taken → Rises low o.queue taken
  pub running : (op : Operation) (n : ℕ) → o.running ≡ Some op → turn_of op ≡ Some n → s.running ≡ Some op
  pub taken_is : o.taken ≡ s.taken

pub still_same : (s o : Own) → o.queue ≡ s.queue → o.running ≡ s.running → o.taken ≡ s.taken → Still s o
still_same s o q r k = record {
  queue = λ low taken h. subst (λ z. Rises low z taken) (sym q) h;
  running = λ op n is turn. sym r ∙ is;
  taken_is = k;
}

pub still_none : (s o : Own) → o.queue ≡ s.queue → o.running ≡ None → o.taken ≡ s.taken → Still s o
still_none s o q r k = record {
  queue = λ low taken h. subst (λ z. Rises low z taken) (sym q) h;
  running = λ op n is turn. (let e : None ≡ Some op = sym r ∙ is in absurd (cc e));
  taken_is = k;
}

dropped_turn : (k : ℕ) (running : Option Operation) (op : Operation) (n : ℕ) → dropped k running ≡ Some op
    → turn_of op ≡ Some n → running ≡ Some op
dropped_turn k None op n is turn = absurd (cc is)
dropped_turn k (Some (Fetching j)) op n is turn = absurd (by (j == k) is)
  where
    by : (b : Bool) → cond b (Some Dropped) (Some (Fetching j)) ≡ Some op → ⊥
    by true e = let a : Dropped ≡ op = cc e in let b : None ≡ Some n = ap turn_of a ∙ turn in cc b
    by false e = let a : Fetching j ≡ op = cc e in let b : None ≡ Some n = ap turn_of a ∙ turn in cc b
dropped_turn k _ op n is turn = is

pub still_dropped : (s o : Own) (k : ℕ) → o.queue ≡ s.queue → o.running ≡ dropped k s.running → o.taken ≡ s.taken
    → Still s o
still_dropped s o k q r t = record {
  queue = λ low taken h. subst (λ z. Rises low z taken) (sym q) h;
  running = λ op n is turn. dropped_turn k s.running op n (sym r ∙ is) turn;
  taken_is = t;
}

pub still_over : (s : Own) (k : ℕ) → Still s (over k s)
still_over s k = record {
  queue = λ low taken h. rises_without low taken k s.queue h;
  running = λ op n is turn. dropped_turn k s.running op n is turn;
  taken_is = refl;
}

pub still_then : (a b c : Own) → Still a b → Still b c → Still a c
still_then a b c h k = record {
  queue = λ low taken z. k.queue low taken (h.queue low taken z);
  running = λ op n is turn. h.running op n (k.running op n is turn) turn;
  taken_is = k.taken_is ∙ h.taken_is;
}

pub still_held : (s : Own) (c : Bool) (report : Option Reported)
    → Still s (ends report (cond c (record s { hold = Some s.sent }) s)).own
still_held s true report = still_none s _ refl refl refl
still_held s false report = still_none s _ refl refl refl

pub still_failed : (s : Own) (u : Transfer → Bool) (report : Report) (running : Option Operation) → s.running ≡ running
    → Still s (failed u report s running).own
still_failed s u report None is = still_same s s refl refl refl
still_failed s u report (Some (Calling k r t)) is = still_held s (u t && is_upload t) (of k report)
still_failed s u report (Some (Cancelling k)) is =
    still_then s (record s { running = None }) _ (still_none s (record s { running = None }) refl refl refl)
    (still_over (record s { running = None }) k)
still_failed s u report _ is = still_none s _ refl refl refl
