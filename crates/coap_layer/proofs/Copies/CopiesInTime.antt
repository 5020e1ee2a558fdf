-- What is outstanding was begun; a copy goes out at most 47 s after that, with equal bytes.
use Rattle.coap_layer.specs.Trace.{Setup}
use Rattle.std.proofs.Common.{◌≡◌, ◌⊎◌, inl, inr, ⊎_elim, ℕ, ◌+◌, ◌%◌, ◌≤◌, Bool, true, false, Option, Some, None, List}
use Rattle.std.proofs.Common.{[], ◌∷◌, refl, ap, sym, ◌∙◌, subst, arith, cond, option_to_list}
use Rattle.std.specs.List.{filter_map, cons_option}
use Rattle.coap_types.specs.Past.{Ever}
use Rattle.coap_types.specs.declared.endpoint.Endpoint.{Endpoint}
use Rattle.coap_types.specs.declared.message.Kind.{Kind}
use Rattle.coap_types.specs.declared.message.Kind.TheVariants.{Con, Non, Ack, Rst}
use Rattle.coap_layer.specs.Trace.{Content, with_head, Call, Receive, Reply, Confirm, Plain, Settle, Ticks, Take, Room}
use Rattle.coap_layer.specs.Trace.{AsksFree, Pass, Answer, Copied, Entry}
use Rattle.coap_codec.specs.Spelling.{message_bytes}
use Rattle.coap_layer.specs.Arrivals.{Arrival, Unreadable, Faulted, Whole}
use Rattle.coap_layer.specs.Words.{Incoming, clock, Open, ends_in, copies_in, left_by, sent_by, open_of, begun_in}
use Rattle.coap_layer.specs.Words.{begun, outstanding, numbers}
use Rattle.coap_layer.specs.Rows.{Busy, Stands, LayerLaw, Row, Arrives, Sorts, HandedAs, rejects, drops, takes_ack}
use Rattle.coap_layer.specs.Rows.{takes_reset, passes_reset, takes_answer, replays, hands_over, SendsAs, RefusesIds}
use Rattle.coap_layer.specs.Rows.{copies, expires}
use Rattle.coap_layer.specs.Rows.{rests, HasStep, Fails, CopyDue, IsFirst, Copies}
use Rattle.coap_layer.specs.Sends.{IsIn, as_begun}
use Rattle.coap_layer.specs.Follows.{HandedUpOnce, CopyOf, CopiesInTime, IdsApart, OneOutstanding}
use Rattle.coap_types.proofs.Facts.Traces.{Ever_append}
use Rattle.coap_types.specs.declared.transmission.TheConstants.{LAST_RETRANSMISSION_MS as last_retransmission}
use Rattle.coap_types.specs.declared.transmission.TheConstants.{ACK_TIMEOUT_MS as ack_timeout}
use Rattle.coap_types.specs.declared.transmission.TheConstants.{TIMEOUT_VALUES as timeout_values}
use Rattle.coap_layer.proofs.Arrivals.HandedUpOnce.{up_new}
use Rattle.coap_layer.proofs.Machine.WhatIsIssued.{numbers_law}
use Rattle.coap_layer.proofs.Numbers.EqualIdsAreApart.{apart}

pub handed_up_once : (setup : Setup) (t : List Entry) → LayerLaw setup t → HandedUpOnce t
handed_up_once setup [] law = tt
handed_up_once setup (e ∷ past) law = ((λ m h. up_new setup past e m law.0 h), handed_up_once setup past law.1)

pub in_option : {A : Type 0} (x : A) (o : Option A) → IsIn x (option_to_list o) → o ≡ Some x
in_option x (Some y) (inl h) = ap Some h
in_option x (Some y) (inr h) = absurd h
in_option x None h = absurd h

pub option_in : {A : Type 0} (x : A) (o : Option A) → o ≡ Some x → IsIn x (option_to_list o)
option_in x (Some y) h = inl (cc h)
option_in x None h = absurd (cc h)

pub in_filter_map : {A B : Type 0} (f : A → Option B) (y : B) (xs : List A) → IsIn y (filter_map f xs)
    → (x : A) × IsIn x xs × (f x ≡ Some y)
in_filter_map f y [] h = absurd h
in_filter_map {A = A} {B = B} f y (x ∷ xs) h = go (f x) refl h (in_filter_map f y xs)
  where
    go : (o : Option B) → f x ≡ o → IsIn y (cons_option o (filter_map f xs))
        → (IsIn y (filter_map f xs) → (z : A) × IsIn z xs × (f z ≡ Some y)) → (z : A) × IsIn z (x ∷ xs) × (f z ≡ Some y)
    go (Some w) e (inl k) r = (x, inl refl, e ∙ ap Some k)
    go (Some w) e (inr k) r = let q = r k in (q.0, inr q.1, q.2)
    go None e k r = let q = r k in (q.0, inr q.1, q.2)

-- the CON that is begun
begun_as : (at : ℕ) (to : Endpoint) (content : Content) (wish : ℕ) (o : Option ℕ) (c : Open)
    → open_of at to content wish o ≡ Some c
    → (c.first ≡ at) × (c.last ≡ at) × (c.to ≡ to) × ((id : ℕ) × (o ≡ Some id))
begun_as at to content wish (Some id) c h =
    let new : Open = record {
      to = to;
      id = id;
      bytes = message_bytes (with_head Con id content);
      timeout = ack_timeout + wish % timeout_values;
      first = at;
      last = at;
    } in
    let e : new ≡ c = cc h in
    (sym (ap (λ (x : Open). x.first) e), sym (ap (λ (x : Open). x.last) e), sym (ap (λ (x : Open). x.to) e), (id, refl))
begun_as at to content wish None c h = absurd (cc h)

pub begun_fresh : (at : ℕ) (call : Call) (answer : Answer) (c : Open) → begun_in at call answer ≡ Some c
    → (c.first ≡ at) × (c.last ≡ at)
begun_fresh at (Confirm to content wish) answer c h = let r =
    begun_as at to content wish (sent_by answer) c h in (r.0, r.1)
begun_fresh at (Receive from bytes) answer c h = absurd (cc h)
begun_fresh at (Reply to id bytes) answer c h = absurd (cc h)
begun_fresh at (Plain to content) answer c h = absurd (cc h)
begun_fresh at (Settle to id) answer c h = absurd (cc h)
begun_fresh at Ticks answer c h = absurd (cc h)
begun_fresh at Take answer c h = absurd (cc h)
begun_fresh at (Room to) answer c h = absurd (cc h)
begun_fresh at AsksFree answer c h = absurd (cc h)
begun_fresh at Pass answer c h = absurd (cc h)

pub left_same : (e : Entry) (c d : Open) → left_by e c ≡ Some d → as_begun c ≡ as_begun d
left_same e c d h = go (ends_in e.call e.answer c.to c.id) (copies_in e.call e.answer c.to c.id) h
  where
    go : (x y : Bool) → cond x None (cond y (Some (record c { last = e.at })) (Some c)) ≡ Some d
        → as_begun c ≡ as_begun d
    go true y k = absurd (cc k)
    go false true k = let g : record c { last = e.at } ≡ d = cc k in ap as_begun g
    go false false k = let g : c ≡ d = cc k in ap as_begun g

-- what is outstanding was begun, with the same bytes
pub was_begun : (t : List Entry) (c : Open) → IsIn c (outstanding t) → Ever (λ b. begun b ≡ Some (as_begun c)) t
was_begun [] c h = absurd h
was_begun (e ∷ past) c h = ⊎_elim (old (was_begun past)) new
    (Ever_append (λ y. y ≡ c) (filter_map (left_by e) (outstanding past)) (option_to_list (begun e)) h)
  where
    new : IsIn c (option_to_list (begun e)) → Ever (λ b. begun b ≡ Some (as_begun c)) (e ∷ past)
    new k =
        let is : begun e ≡ Some c = in_option c (begun e) k in
        let f = begun_fresh e.at e.call e.answer c is in
        inl (is ∙ ap (λ (n : ℕ). Some (record c { last = n })) (f.1 ∙ sym f.0))

    old : ((d : Open) → IsIn d (outstanding past) → Ever (λ b. begun b ≡ Some (as_begun d)) past)
        → IsIn c (filter_map (left_by e) (outstanding past)) → Ever (λ b. begun b ≡ Some (as_begun c)) (e ∷ past)
    old f k = let q = in_filter_map (left_by e) c (outstanding past) k in
        inr (subst (λ (d : Open). Ever (λ b. begun b ≡ Some d) past) (left_same e q.0 c q.2) (f q.0 q.1))

pub begun_by : (setup : Setup) (t : List Entry) (c : Open) → LayerLaw setup t → Ever (λ b. begun b ≡ Some c) t
    → c.first ≤ clock t
begun_by setup [] c law h = absurd h
begun_by setup (e ∷ past) c law (inl h) = let f = begun_fresh e.at e.call e.answer c h in omega (arith, f.0)
begun_by setup (e ∷ past) c law (inr h) = let k = begun_by setup past c law.1 h in omega (arith, k, law.0.time)

pub in_first : (P : Open → Type 0) (c : Open) (cs : List Open) → IsFirst P c cs → IsIn c cs
in_first P c [] h = h
in_first P c (x ∷ cs) (inl h) = inl h.0
in_first P c (x ∷ cs) (inr h) = inr (in_first P c cs h.1)

not_copied : (e : Entry) (a : Answer) (to : Endpoint) (id : ℕ) → e.answer ≡ a → (a ≡ Copied to id → ⊥)
    → e.answer ≡ Copied to id → ⊥
not_copied e a to id is other h = other (sym is ∙ h)

copies_sorted : (setup : Setup) (past : List Entry) (e : Entry) (m : Incoming) (to : Endpoint) (id : ℕ)
    → Sorts setup past e m
    → e.answer ≡ Copied to id → ⊥
copies_sorted setup past e m to id (rejects r) h = not_copied e _ to id r.answer (λ z. cc z) h
copies_sorted setup past e m to id (drops r) h = not_copied e _ to id r.answer (λ z. cc z) h
copies_sorted setup past e m to id (takes_ack r) h = not_copied e _ to id r.answer (λ z. cc z) h
copies_sorted setup past e m to id (takes_reset r) h = not_copied e _ to id r.answer (λ z. cc z) h
copies_sorted setup past e m to id (passes_reset r) h = not_copied e _ to id r.answer (λ z. cc z) h
copies_sorted setup past e m to id (takes_answer r) h = not_copied e _ to id r.answer (λ z. cc z) h
copies_sorted setup past e m to id (replays r) h = not_copied e _ to id r.answer (λ z. cc z) h
copies_sorted setup past e m to id (hands_over r) h = go r.answer
  where
    go : HandedAs setup past e m → ⊥
    go (inl a) = not_copied e _ to id a.2 (λ z. cc z) h
    go (inr (inl a)) = not_copied e _ to id a.3 (λ z. cc z) h
    go (inr (inr a)) = not_copied e _ to id a.1 (λ z. cc z) h

copies_arrived : (setup : Setup) (past : List Entry) (e : Entry) (from : Endpoint) (what : Arrival) (to : Endpoint)
    (id : ℕ)
    → Arrives setup past e from what → e.answer ≡ Copied to id → ⊥
copies_arrived setup past e from Unreadable to id r h = not_copied e _ to id r.0 (λ z. cc z) h
copies_arrived setup past e from (Faulted Con n) to id r h = not_copied e _ to id r.0 (λ z. cc z) h
copies_arrived setup past e from (Faulted Non n) to id r h = not_copied e _ to id r.0 (λ z. cc z) h
copies_arrived setup past e from (Faulted Ack n) to id r h = not_copied e _ to id r.0 (λ z. cc z) h
copies_arrived setup past e from (Faulted Rst n) to id r h = not_copied e _ to id r.0 (λ z. cc z) h
copies_arrived setup past e from (Whole m) to id r h = copies_sorted setup past e _ to id r h

copies_sent : (kind : Kind) (setup : Setup) (past : List Entry) (e : Entry) (place : Endpoint) (content : Content)
    (to : Endpoint) (id : ℕ) → RefusesIds setup past e ⊎ SendsAs kind setup past e place content → e.answer
    ≡ Copied to id
    → ⊥
copies_sent kind setup past e place content to id (inl r) h = not_copied e _ to id r.answer (λ z. cc z) h
copies_sent kind setup past e place content to id (inr r) h = not_copied e _ to id r.answer (λ z. cc z) h

pub copies_row : (setup : Setup) (past : List Entry) (e : Entry) (call : Call) (to : Endpoint) (id : ℕ)
    → Row setup past e call → e.answer ≡ Copied to id → Copies past e
copies_row setup past e (Receive from bytes) to id row h =
    absurd (copies_arrived setup past e from row.0 to id row.2 h)
copies_row setup past e (Reply place n bytes) to id row h = absurd (not_copied e _ to id row.1 (λ z. cc z) h)
copies_row setup past e (Confirm place content wish) to id row h =
    absurd (⊎_elim (λ r. not_copied e _ to id r.answer (λ z. cc z) h)
    (λ r. copies_sent Con setup past e place content to id r.1 h) row.1)
copies_row setup past e (Plain place content) to id row h =
    absurd (copies_sent Non setup past e place content to id row.1 h)
copies_row setup past e (Settle place n) to id row h =
    absurd (⊎_elim (λ k. not_copied e _ to id k.1 (λ z. cc z) h) (λ k. not_copied e _ to id k.1 (λ z. cc z) h) row.0.0)
copies_row setup past e Ticks to id (copies r) h = r
copies_row setup past e Ticks to id (expires r) h = absurd (not_copied e _ to id r.answer (λ z. cc z) h)
copies_row setup past e Ticks to id (rests r) h = absurd (not_copied e _ to id r.answer (λ z. cc z) h)
copies_row setup past e Take to id row h = absurd (not_copied e _ to id row.0 (λ z. cc z) h)
copies_row setup past e (Room place) to id row h =
    absurd (⊎_elim (λ k. not_copied e _ to id k.2 (λ z. cc z) h) (λ k. not_copied e _ to id k.1 (λ z. cc z) h) row.0)
copies_row setup past e AsksFree to id row h =
    absurd (⊎_elim (λ k. not_copied e _ to id k.1 (λ z. cc z) h) (λ k. not_copied e _ to id k.1 (λ z. cc z) h) row.0)
copies_row setup past e Pass to id row h = absurd (not_copied e _ to id row.0 (λ z. cc z) h)

early : (now : ℕ) (con : Open) (cs : List Open) → IsFirst (HasStep now) con cs → (Fails now con → ⊥)
    → now ≤ con.first + last_retransmission
early now con [] k a = absurd k
early now con (c ∷ cs) (inl k) a = ⊎_elim (λ f. absurd (a (subst (Fails now) k.0 f)))
    (λ (d : CopyDue now c). subst (λ (x : Open). now ≤ x.first + last_retransmission) k.0
    (let w = d.early in omega (arith, w))) k.1
early now con (c ∷ cs) (inr k) a = early now con cs k.1 a

copy_of : (setup : Setup) (past : List Entry) (e : Entry) (to : Endpoint) (id : ℕ) → LayerLaw setup past
    → Stands setup past e
    → e.answer ≡ Copied to id → CopyOf past e to id
copy_of setup past e to id law here h =
    let r : Copies past e = copies_row setup past e e.call to id here.row h in
    let there : Ever (λ b. begun b ≡ Some (as_begun r.con)) past =
    was_begun past r.con (in_first (HasStep e.at) r.con (outstanding past) r.first) in
    let same : Copied r.con.to r.con.id ≡ Copied to id = sym r.answer ∙ h in
    record {
      con = as_begun r.con;
      begun_before = there;
      to_is = cc same;
      id_is = cc same;
      from = let k = begun_by setup past (as_begun r.con) law there in omega (arith, k, here.time);
      till = early e.at r.con (outstanding past) r.first r.alive;
      out = r.out;
    }

pub copies_in_time : (setup : Setup) (t : List Entry) → LayerLaw setup t → CopiesInTime t
copies_in_time setup [] law = tt
copies_in_time setup (e ∷ past) law = (
  (λ to id h. copy_of setup past e to id law.1 law.0 h),
  copies_in_time setup past law.1,
)

pub ids_apart : (setup : Setup) (t : List Entry) → LayerLaw setup t → IdsApart t
ids_apart setup t law = apart setup.word (numbers t) (numbers_law setup t law)

-- a CON is begun only where none to there is outstanding
free_row : (setup : Setup) (past : List Entry) (e : Entry) (call : Call) (c : Open) → Row setup past e call
    → begun_in e.at call e.answer ≡ Some c → Busy past c.to → ⊥
free_row setup past e (Confirm to content wish) c row h busy =
    let b = begun_as e.at to content wish (sent_by e.answer) c h in
    ⊎_elim (λ r. let none : sent_by e.answer ≡ None = ap sent_by r.answer in let some = b.3.1 in cc (none, some))
    (λ r. r.0 (subst (Busy past) b.2 busy)) row.1
free_row setup past e (Receive from bytes) c row h busy = absurd (cc h)
free_row setup past e (Reply to id bytes) c row h busy = absurd (cc h)
free_row setup past e (Plain to content) c row h busy = absurd (cc h)
free_row setup past e (Settle to id) c row h busy = absurd (cc h)
free_row setup past e Ticks c row h busy = absurd (cc h)
free_row setup past e Take c row h busy = absurd (cc h)
free_row setup past e (Room to) c row h busy = absurd (cc h)
free_row setup past e AsksFree c row h busy = absurd (cc h)
free_row setup past e Pass c row h busy = absurd (cc h)

pub one_outstanding : (setup : Setup) (t : List Entry) → LayerLaw setup t → OneOutstanding t
one_outstanding setup [] law = tt
one_outstanding setup (e ∷ past) law = (
  (λ c h busy. free_row setup past e e.call c law.0.row h busy),
  one_outstanding setup past law.1,
)
