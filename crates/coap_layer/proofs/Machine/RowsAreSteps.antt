-- The rows and the steps of the state say the same.
use Rattle.coap_layer.specs.Trace.{Setup, Content, with_head, Call, Receive, Reply, Confirm, Plain, Settle, Ticks, Take}
use Rattle.coap_layer.specs.Trace.{Room, AsksFree, Pass, Answer, Is, Sent, Busied, Entry}
use Rattle.std.proofs.Common.{◌≡◌, ◌⊎◌, inl, inr, ⊎_elim, ℕ, ◌≤◌, Bool, true, false, List, [], ◌∷◌, ap, sym, ◌∙◌, subst}
use Rattle.std.proofs.Common.{◌&&◌, not, cond}
use Rattle.coap_types.specs.declared.endpoint.Endpoint.{Endpoint}
use Rattle.coap_types.specs.declared.message.Kind.{Kind}
use Rattle.coap_types.specs.declared.message.Kind.TheVariants.{Con, Non}
use Rattle.coap_layer.specs.Arrivals.{arrival_at}
use Rattle.coap_codec.specs.Spelling.{message_bytes}
use Rattle.coap_layer.specs.Ids as ids
use Rattle.coap_layer.specs.Words.{clock, numbers, outstanding}
use Rattle.coap_layer.specs.Machine.State.{State, May, history, answer_of, out_of, sending, sent_out, next_id, tick_of}
use Rattle.coap_layer.specs.Rows.{Busy, MayGive, Withholds, SendsAs, RefusesIds, Confirms, Turns, copies, expires}
use Rattle.coap_layer.specs.Rows.{rests, Row, Stands, LayerLaw}
use Rattle.coap_layer.proofs.Machine.WhatIsIssued.{Chooses, one_of, next_is}
use Rattle.coap_layer.proofs.Facts.Arrivals.{shows_at}
use Rattle.coap_layer.proofs.Machine.TicksAreRows.{TickIs, tick_is, one_tick}
use Rattle.coap_layer.proofs.Machine.WhatIsDecided.{Decides, is_true, is_false, outstanding_is, busy_is, free_here}
use Rattle.coap_layer.proofs.Machine.WhatIsDecided.{is_true_by, is_false_by}
use Rattle.coap_layer.proofs.Machine.ArrivalsAreSteps.{arrives_so, shown}

module _ (setup : Setup) (t : List Entry) where
  abbrev h : State
  h = history setup t

  abbrev I : ℕ → Type 0
  I now = MayGive setup t now

  abbrev J : ℕ → Type 0
  J now = Withholds setup t now

  -- every call
  settled : (b : Bool) (P : Type 0) (answer : Answer) → Decides b P
      → ((P × (answer ≡ Is true)) ⊎ ((P → ⊥) × (answer ≡ Is false))) → answer ≡ Is b
  settled b P answer d (inl w) = w.1 ∙ ap Is (sym (is_true b P d w.0))
  settled b P answer d (inr w) = w.1 ∙ ap Is (sym (is_false b P d w.0))

  settles_so : (b : Bool) (P : Type 0) (answer : Answer) → Decides b P → answer ≡ Is b
      → (P × (answer ≡ Is true)) ⊎ ((P → ⊥) × (answer ≡ Is false))
  settles_so true P answer d h = inl (d, h)
  settles_so false P answer d h = inr (d, h)

  ticked : (e : Entry) → Turns t e → TickIs e.at e.answer e.out (outstanding t)
  ticked e (copies r) = inr (inl (r.con, r.first, r.alive, r.answer, r.out))
  ticked e (expires r) = inl (r.con, r.first, r.fails, r.answer, r.out)
  ticked e (rests r) = inr (inr (r.none, r.answer, r.out))

  turned : (e : Entry) → TickIs e.at e.answer e.out (outstanding t) → Turns t e
  turned e (inl r) = expires (record { con = r.0; first = r.1; fails = r.2; answer = r.3; out = r.4 })
  turned e (inr (inl r)) = copies (record { con = r.0; first = r.1; alive = r.2; answer = r.3; out = r.4 })
  turned e (inr (inr r)) = rests (record { none = r.0; answer = r.1; out = r.2 })

  -- sendings, by whether a Message ID is free
  abbrev SentBy : Kind → Entry → Endpoint → Content → Bool → Type 0
  SentBy kind e to content b = (e.answer ≡ sending b (next_id setup t))
      × (e.out ≡ sent_out b kind (next_id setup t) to content)

  sends_by : (kind : Kind) (e : Entry) (to : Endpoint) (content : Content) (b : Bool) → Chooses b (I e.at) (J e.at)
      → RefusesIds setup t e ⊎ SendsAs kind setup t e to content → SentBy kind e to content b
  sends_by kind e to content true d (inl r) = absurd (one_of setup.word (numbers t) e.at d r.held)
  sends_by kind e to content false d (inl r) = (r.answer, r.out)
  sends_by kind e to content true d (inr r) =
      let is : r.id ≡ next_id setup t = r.gives.next ∙ sym (next_is setup t) in (
        r.answer ∙ ap Sent is,
        r.out ∙ ap (λ (n : ℕ). record
            { to = to; bytes = message_bytes (with_head kind n content) } ∷ []) is,
      )
  sends_by kind e to content false d (inr r) = absurd (one_of setup.word (numbers t) e.at (gives_may e r.id r.gives) d)
    where
      gives_may : (e : Entry) (id : ℕ) → ids.Gives setup.word (numbers t) e.at id → I e.at
      gives_may e id g = g.may

  sends_so : (kind : Kind) (e : Entry) (to : Endpoint) (content : Content) (b : Bool) → Chooses b (I e.at) (J e.at)
      → e.answer ≡ sending b (next_id setup t) → e.out ≡ sent_out b kind (next_id setup t) to content
      → RefusesIds setup t e ⊎ SendsAs kind setup t e to content
  sends_so kind e to content true d a o = inr (record
      { id = next_id setup t; gives = record { next = next_is setup t; may = d }; answer = a; out = o })
  sends_so kind e to content false d a o = inl (record { held = d; answer = a; out = o })

  confirmed : (e : Entry) (to : Endpoint) (content : Content) (busy free : Bool) → Decides busy (Busy t to)
      → Chooses free (I e.at) (J e.at) → Confirms setup t e to content
      → (e.answer ≡ cond busy Busied (sending free (next_id setup t)))
      × (e.out ≡ cond busy [] (sent_out free Con (next_id setup t) to content))
  confirmed e to content true free d c (inl r) = (r.answer, r.out)
  confirmed e to content false free d c (inl r) = absurd (d r.busy)
  confirmed e to content true free d c (inr r) = absurd (r.0 d)
  confirmed e to content false free d c (inr r) = sends_by Con e to content free c r.1

  confirms_so : (e : Entry) (to : Endpoint) (content : Content) (busy free : Bool) → Decides busy (Busy t to)
      → Chooses free (I e.at) (J e.at)
      → e.answer ≡ cond busy Busied (sending free (next_id setup t))
      → e.out ≡ cond busy [] (sent_out free Con (next_id setup t) to content) → Confirms setup t e to content
  confirms_so e to content true free d c a o = inl (record { busy = d; answer = a; out = o })
  confirms_so e to content false free d c a o = inr (d, sends_so Con e to content free c a o)

  roomed : (e : Entry) (to : Endpoint) (busy free : Bool) → Decides busy (Busy t to) → Chooses free (I e.at) (J e.at)
      → (((Busy t to → ⊥) × I e.at × (e.answer ≡ Is true)) ⊎ ((Busy t to ⊎ J e.at) × (e.answer ≡ Is false)))
      → e.answer ≡ Is (not busy && free)
  roomed e to true free d c (inl r) = absurd (r.0 d)
  roomed e to false true d c (inl r) = r.2
  roomed e to false false d c (inl r) = absurd (one_of setup.word (numbers t) e.at r.1 c)
  roomed e to true free d c (inr r) = r.1
  roomed e to false true d c (inr r) = absurd (⊎_elim d (λ j. one_of setup.word (numbers t) e.at c j) r.0)
  roomed e to false false d c (inr r) = r.1

  rooms_so : (e : Entry) (to : Endpoint) (busy free : Bool) → Decides busy (Busy t to) → Chooses free (I e.at) (J e.at)
      → e.answer ≡ Is (not busy && free)
      → ((Busy t to → ⊥) × I e.at × (e.answer ≡ Is true)) ⊎ ((Busy t to ⊎ J e.at) × (e.answer ≡ Is false))
  rooms_so e to true free d c a = inr (inl d, a)
  rooms_so e to false true d c a = inl (d, c, a)
  rooms_so e to false false d c a = inr (inr c, a)

  freed : (e : Entry) (free : Bool) → Chooses free (I e.at) (J e.at)
      → ((I e.at × (e.answer ≡ Is true)) ⊎ (J e.at × (e.answer ≡ Is false))) → e.answer ≡ Is free
  freed e free c (inl r) = r.1 ∙ ap Is (sym (is_true_by setup t e.at free c r.0))
  freed e free c (inr r) = r.1 ∙ ap Is (sym (is_false_by setup t e.at free c r.0))

  frees_so : (e : Entry) (free : Bool) → Chooses free (I e.at) (J e.at) → e.answer ≡ Is free
      → (I e.at × (e.answer ≡ Is true)) ⊎ (J e.at × (e.answer ≡ Is false))
  frees_so e true c a = inl (c, a)
  frees_so e false c a = inr (c, a)

  -- the rows give what the state gives
  pub right_of : (e : Entry) (call : Call) → LayerLaw setup t → clock t ≤ e.at → Row setup t e call
      → (e.answer ≡ answer_of h e.at call) × (e.out ≡ out_of h e.at call)
  right_of e (Receive from bytes) law le row = shown setup t e from bytes row.0 law le row.1 row.2
  right_of e (Reply to id bytes) law le row = (row.1, row.2)
  right_of e (Confirm to content wish) law le row =
      confirmed e to content _ _ (busy_is setup t to) (free_here setup t law e.at) row.1
  right_of e (Plain to content) law le row =
      sends_by Non e to content _ (free_here setup t law e.at) row.1
  right_of e (Settle to id) law le row = (settled _ _ e.answer (outstanding_is setup t to id) row.0.0, row.0.1)
  right_of e Ticks law le row = one_tick e.at e.answer _ e.out _ (outstanding t) (ticked e row)
      (tick_is e.at (outstanding t))
  right_of e Take law le row = (row.0, row.1)
  right_of e (Room to) law le row =
      (roomed e to _ _ (busy_is setup t to) (free_here setup t law e.at) row.0, row.1)
  right_of e AsksFree law le row = (freed e _ (free_here setup t law e.at) row.0, row.1)
  right_of e Pass law le row = row

  -- the moment of a call that is handed none is the last
  abbrev pub IsMoment : ℕ → Call → Type 0
  IsMoment at (Reply to id bytes) = at ≡ clock t
  IsMoment at (Settle to id) = at ≡ clock t
  IsMoment at Take = at ≡ clock t
  IsMoment at _ = Unit {0}

  -- and back
  pub row_of : (e : Entry) (call : Call) → LayerLaw setup t → clock t ≤ e.at → IsMoment e.at call → May h call
      → e.answer ≡ answer_of h e.at call → e.out ≡ out_of h e.at call → Row setup t e call
  row_of e (Receive from bytes) law le at may a o =
      (arrival_at bytes, shows_at bytes, arrives_so setup t e from (arrival_at bytes) law le a o)
  row_of e (Reply to id bytes) law le at may a o = (may, a, o, at)
  row_of e (Confirm to content wish) law le at may a o =
      (may, confirms_so e to content _ _ (busy_is setup t to) (free_here setup t law e.at) a o)
  row_of e (Plain to content) law le at may a o =
      (may, sends_so Non e to content _ (free_here setup t law e.at) a o)
  row_of e (Settle to id) law le at may a o = ((settles_so _ _ e.answer (outstanding_is setup t to id) a, o), at)
  row_of e Ticks law le at may a o = turned e (subst (λ x. TickIs e.at x e.out (outstanding t)) (sym a)
      (subst (λ x. TickIs e.at (tick_of e.at h.open_cons) x (outstanding t)) (sym o) (tick_is e.at (outstanding t))))
  row_of e Take law le at may a o = (a, o, at)
  row_of e (Room to) law le at may a o =
      (rooms_so e to _ _ (busy_is setup t to) (free_here setup t law e.at) a, o)
  row_of e AsksFree law le at may a o = (frees_so e _ (free_here setup t law e.at) a, o)
  row_of e Pass law le at may a o = (a, o)

-- one answer and one sending for each call
pub exact : (setup : Setup) (past : List Entry) (e f : Entry) → LayerLaw setup past → Stands setup past e
    → Stands setup past f
    → e.call ≡ f.call → e.at ≡ f.at → (e.answer ≡ f.answer) × (e.out ≡ f.out)
exact setup past e f law one two call at =
    let a = right_of setup past e e.call law one.time one.row in
    let b = right_of setup past f f.call law two.time two.row in (
      a.0 ∙ (ap (λ x. answer_of (history setup past) x e.call) at
          ∙ (ap (answer_of (history setup past) f.at) call ∙ sym b.0)),
      a.1 ∙ (ap (λ x. out_of (history setup past) x e.call) at
          ∙ (ap (out_of (history setup past) f.at) call ∙ sym b.1)),
    )
