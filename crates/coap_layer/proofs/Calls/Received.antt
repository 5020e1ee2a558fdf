-- An arrival, taken in by the parts of a layer, is a step.
use Rattle.std.proofs.Common.{◌≡◌, ℕ, max, Bool, true, false, Option, Some, None, List, [], ◌++◌, filter, map, refl, ap}
use Rattle.std.proofs.Common.{sym, ◌∙◌, subst, arith, cond, ◌&&◌, if◌then◌else◌}
use Rattle.std.proofs.lemmas.List.{append-nil}
use Rattle.std.specs.List.{filter_map}
use Rattle.coap_types.specs.declared.endpoint.Endpoint.{Endpoint}
use Rattle.coap_codec.specs.Message.{Message}
use Rattle.coap_layer.specs.declared.arriving.Arriving.{Arriving}
use Rattle.coap_layer.specs.Arrivals.{arrival_at}
use Rattle.coap_layer.specs.Machine.Arriving.{IsArriving, awaits_by, hands, keeps, newly_by, open_by, sent_by}
use Rattle.coap_layer.specs.Machine.Arriving.{without_open}
use Rattle.coap_layer.specs.Machine.State.{State, Arrived, Step, after, answer_to, forgotten, is_live, made, out_to}
use Rattle.coap_layer.specs.Machine.State.{stores}
use Rattle.coap_layer.specs.Trace.{Answer, Becomes, Entry, Packet, Receive}
use Rattle.coap_layer.specs.Machine.Ups.{IsQuiet}
use Rattle.coap_layer.specs.Words.{Awaited, Open, awaited_of, from_there, handed_by, left_by, same}
use Rattle.coap_layer.proofs.Calls.JudgedByTable.{kept_hands}
use Rattle.coap_layer.proofs.Machine.Forgetting.{live_before, same_made, step_by}
use Rattle.coap_layer.proofs.ListLemmas.{filter_implied, filter_map_all, filter_map_same, filter_more, map_same}
use Rattle.coap_layer.proofs.ListLemmas.{not_true}

-- what the entry leaves of the outstanding CONs
left_so : (e : Entry) (from : Endpoint) (bytes : List ℕ) (a : Arriving) (b : Bool)
    → ((c : Open) → left_by e c ≡ (if b && same from a.id.0 c.to c.id then None else Some c)) → (cs : List Open)
    → filter_map (left_by e) cs ≡ cond b (without_open from a.id.0 cs) cs
left_so e from bytes a true h cs = filter_map_same (left_by e) _ h cs
left_so e from bytes a false h cs = filter_map_same (left_by e) (λ (c : Open). Some c) h cs ∙ filter_map_all cs

module _ (h : State) (now : ℕ) (from : Endpoint) (bytes : List ℕ) (a : Arriving) where
  abbrev entry : Entry
  entry = made h now (Receive from bytes)

  -- what the entry leaves
  abbrev left : ℕ → Option Awaited → List Arrived → List Open → List Packet → State
  left at w es cs q = record {
    most = h.most;
    clock = at;
    awaits = w;
    upcoming = h.upcoming;
    last_used = h.last_used;
    arrived = es;
    open_cons = cs;
    queue = q;
  }

  after_is : IsArriving h (max h.clock now) from (arrival_at bytes) a
      → after h entry ≡ left (max h.clock now) (awaits_by from a) (h.arrived ++ newly_by (max h.clock now) from a)
      (open_by from a h.open_cons) (h.queue ++ sent_by (max h.clock now) from h.arrived a)
  after_is arrives =
      let stored : map (stores entry) h.arrived ≡ h.arrived = map_same (stores entry) (λ x. refl) h.arrived in
      let opened : filter_map (left_by entry) h.open_cons ++ [] ≡ open_by from a h.open_cons =
      append-nil _ ∙ left_so entry from bytes a _
      (λ c. ap (λ b. if b then None else Some c) (arrives.ended bytes c.to c.id)) h.open_cons in
      let awaits = arrives.awaits bytes h.awaits in
      let taken = arrives.taken bytes in
      let out = arrives.out in
      cc (stored, opened, awaits, taken, out)

  step_now : (s : State) (answer : Answer) (es : List Arrived) (cs : List Open) (d q : List Packet) (w : Option Awaited)
      → forgotten h ≡ s → IsArriving h (max h.clock now) from (arrival_at bytes) a
      → answer ≡ Becomes (answer_to h (max h.clock now) from (arrival_at bytes))
      → filter (is_live (max h.clock now)) es ≡ filter (is_live (max h.clock now))
      (filter (is_live h.clock) h.arrived ++ newly_by (max h.clock now) from a)
      → cs ≡ open_by from a h.open_cons → d ≡ sent_by (max h.clock now) from h.arrived a → q ≡ h.queue ++ d
      → w ≡ awaits_by from a
      → Step s now (Receive from bytes) answer (forgotten (left (max h.clock now) w es cs q))
  step_now s answer es cs d q w is arrives told arrived opened sent queued awaits =
      let at : ℕ = max h.clock now in
      let live : filter (is_live at) (filter (is_live h.clock) h.arrived) ≡ filter (is_live at) h.arrived =
      filter_implied (is_live h.clock) (is_live at) (λ x k. live_before h.clock at x (omega arith) k) h.arrived in
      let more : filter (is_live at) es ≡ filter (is_live at) (h.arrived ++ newly_by at from a) =
      arrived ∙ (filter_more (is_live at) (filter (is_live h.clock) h.arrived) (newly_by at from a)
      ∙ (ap (λ x. x ++ filter (is_live at) (newly_by at from a)) live
      ∙ sym (filter_more (is_live at) h.arrived (newly_by at from a)))) in
      let made_so : forgotten (left at w es cs q)
      ≡ forgotten (left at (awaits_by from a) (h.arrived ++ newly_by at from a) (open_by from a h.open_cons)
      (h.queue ++ sent_by at from h.arrived a)) =
      cc (more, opened, sent, queued, awaits) in
      step_by h s now (Receive from bytes) answer _ is tt told (made_so ∙ ap forgotten (sym (after_is arrives)))

  pub received : (at : ℕ) → at ≡ max h.clock now
      → (s : State) (answer : Answer) (es : List Arrived) (cs : List Open) (d q : List Packet) (w : Option Awaited)
      → forgotten h ≡ s → IsArriving h at from (arrival_at bytes) a
      → answer ≡ Becomes (answer_to h at from (arrival_at bytes))
      → filter (is_live at) es ≡ filter (is_live at) (filter (is_live h.clock) h.arrived ++ newly_by at from a)
      → cs ≡ open_by from a h.open_cons → d ≡ sent_by at from h.arrived a → q ≡ h.queue ++ d → w ≡ awaits_by from a
      → Step s now (Receive from bytes) answer (forgotten
      (record {
        most = h.most;
        clock = at;
        awaits = w;
        upcoming = h.upcoming;
        last_used = h.last_used;
        arrived = es;
        open_cons = cs;
        queue = q;
      }))
  received at moment =
      subst (λ (x : ℕ). (s : State) (answer : Answer) (es : List Arrived) (cs : List Open) (d q : List Packet)
      (w : Option Awaited)
      → forgotten h ≡ s → IsArriving h x from (arrival_at bytes) a
      → answer ≡ Becomes (answer_to h x from (arrival_at bytes))
      → filter (is_live x) es ≡ filter (is_live x) (filter (is_live h.clock) h.arrived ++ newly_by x from a)
      → cs ≡ open_by from a h.open_cons → d ≡ sent_by x from h.arrived a → q ≡ h.queue ++ d → w ≡ awaits_by from a
      → Step s now (Receive from bytes) answer (forgotten (left x w es cs q)))
      (sym moment) step_now

  -- what is handed up may be replied to
  pub awaited_so : (at : ℕ) (old : Option Awaited) (answer : Answer) (m : Message)
      → IsArriving h at from (arrival_at bytes) a → answer ≡ Becomes (answer_to h at from (arrival_at bytes))
      → handed_by answer ≡ Some m
      → (awaits_by from a ≡ Some (record { from = from; id = m.id })) × (hands a.verdict a.kind ≡ true)
  awaited_so at old answer m arrives told up =
      let e : awaited_of (from_there from (handed_by answer))
      ≡ Some (record { from = from; id = m.id }) = ap (λ o. awaited_of (from_there from o)) up in
      let f = arrives.awaits bytes old in
      let there : awaits_by from a ≡ Some (record { from = from; id = m.id }) = sym f
      ∙ (ap (λ x. awaited_of (from_there from (handed_by x))) (sym told) ∙ e) in
      (there, go (hands a.verdict a.kind) there)
    where
      go : (b : Bool) → cond {A = Option Awaited} b (Some (record { from = from; id = a.id.0 })) None
          ≡ Some (record { from = from; id = m.id }) → b ≡ true
      go true k = refl
      go false k = absurd (cc k)

  not_handed : (at : ℕ) → IsArriving h at from (arrival_at bytes) a
      → from_there from (handed_by (Becomes (answer_to h at from (arrival_at bytes)))) ≡ None
      → hands a.verdict a.kind ≡ false
  not_handed at arrives up =
      let none : awaits_by from a ≡ None = sym (arrives.awaits bytes None) ∙ ap awaited_of up in
      go (hands a.verdict a.kind) none
    where
      go : (b : Bool) → cond {A = Option Awaited} b (Some (record { from = from; id = a.id.0 })) None ≡ None → b ≡ false
      go true k = absurd (cc k)
      go false k = refl

  -- where the entry is quiet, it brings nothing
  pub quiet_so : (at : ℕ) (s : State) → at ≡ max h.clock now → forgotten h ≡ s
      → IsArriving h at from (arrival_at bytes) a → IsQuiet (made s now (Receive from bytes))
      → (hands a.verdict a.kind ≡ false) × (keeps a.verdict a.kind ≡ false) × (sent_by at from h.arrived a ≡ [])
  quiet_so at s moment is arrives quiet =
      let here : IsQuiet entry = subst IsQuiet (ap (λ x. made x now (Receive from bytes)) (sym is)
      ∙ same_made h now (Receive from bytes)) quiet in
      let up : from_there from (handed_by (Becomes (answer_to h at from (arrival_at bytes))))
      ≡ None = ap (λ x. from_there from (handed_by (Becomes (answer_to h x from (arrival_at bytes))))) moment
      ∙ here.0 in
      let down = not_handed at arrives up in
      let out : out_to h at from (arrival_at bytes) ≡ [] = ap (λ x. out_to h x from (arrival_at bytes)) moment
      ∙ here.1 in
      (down, not_true _ (λ k. let f = kept_hands a.verdict a.kind k in cc (f, down)), sym arrives.out ∙ out)
