-- What is no longer live decides nothing; and one call more.
use Rattle.coap_layer.specs.Trace.{Setup}
use Rattle.std.proofs.Common.{◌≡◌, ℕ, ◌+◌, ◌≤◌, nat_le, Bool, true, false, Option, List, [], ◌∷◌, ◌++◌, length, filter}
use Rattle.std.proofs.Common.{map, drop, refl, ap, sym, ◌∙◌, subst, arith, cond, option_to_list}
use Rattle.std.specs.List.{filter_map}
use Rattle.coap_types.specs.declared.endpoint.Endpoint.{Endpoint}
use Rattle.coap_types.specs.Roles.{role_of}
use Rattle.coap_layer.specs.Trace.{Packet, Call, Receive, Reply, Confirm, Plain, Settle, Ticks, Take, Room, AsksFree}
use Rattle.coap_layer.specs.Trace.{Pass, Disposition, Dropped, Replayed, Rejected, Request, Response, Acked, Reset}
use Rattle.coap_layer.specs.Trace.{Unmatched}
use Rattle.coap_layer.specs.Trace.{Answer, Becomes, Entry}
use Rattle.coap_layer.specs.Machine.Table.{up_of}
use Rattle.coap_layer.specs.Arrivals.{Arrival, Unreadable, Faulted, Whole, arrival_at}
use Rattle.coap_layer.specs.Words.{Incoming, awaits_in, issued, clock, is_con, left_by, begun, taken, takes_in}
use Rattle.coap_layer.specs.Machine.State.{State, May, history, Arrived, is_live, is_of, is_remembered, is_full}
use Rattle.coap_layer.specs.Machine.State.{is_free, is_outstanding, reply_of, replay, to_packets, sorted_by, answer_to}
use Rattle.coap_layer.specs.Machine.State.{answer_of, out_to, out_of, stores, newly, next_after, uses_after, after}
use Rattle.coap_layer.specs.Machine.State.{forgotten, moment, made, Step}
use Rattle.coap_layer.specs.Rows.{Stands, LayerLaw}
use Rattle.coap_layer.specs.Machine.LayerLed.{LayerLed}
use Rattle.coap_types.specs.declared.transmission.TheConstants.{EXCHANGE_LIFETIME_MS as exchange_lifetime}
use Rattle.coap_layer.proofs.ListLemmas.{le_true, true_le, and_left, filter_implied, any_implied, filter_more}
use Rattle.coap_layer.proofs.ListLemmas.{filter_changed}
use Rattle.coap_layer.proofs.Machine.WhatIsRemembered.{same_live}
use Rattle.coap_layer.proofs.Machine.RowsAreSteps.{IsMoment, row_of}

pub live_before : (now later : ℕ) (a : Arrived) → now ≤ later → is_live later a ≡ true → is_live now a ≡ true
live_before now later a le h = true_le now (a.at + exchange_lifetime)
    (let k = le_true later (a.at + exchange_lifetime) h in omega (arith, k, le))

pub of_live : (now : ℕ) (from : Endpoint) (id : ℕ) (a : Arrived) → is_of now from id a ≡ true → is_live now a ≡ true
of_live now from id a h = and_left (is_live now a) _ h

reply_step : (now : ℕ) (from : Endpoint) (id : ℕ) (a : Arrived) (es : List Arrived) (r : Option (List ℕ)) (b c : Bool)
    → (c ≡ true → b ≡ true) → is_of now from id a ≡ c
    → reply_of now from id es ≡ r → reply_of now from id (cond b (a ∷ es) es) ≡ cond c a.reply r
reply_step now from id a es r true c i h e = cc
reply_step now from id a es r false true i h e = absurd (cc (i refl))
reply_step now from id a es r false false i h e = e

reply_live : (now later : ℕ) (from : Endpoint) (id : ℕ) (es : List Arrived) → now ≤ later
    → reply_of later from id (filter (is_live now) es) ≡ reply_of later from id es
reply_live now later from id [] le = refl
reply_live now later from id (a ∷ es) le =
    reply_step later from id a (filter (is_live now) es) (reply_of later from id es) (is_live now a)
    (is_of later from id a)
    (λ h. live_before now later a le (of_live later from id a h)) refl (reply_live now later from id es le)

module _ (h : State) (at : ℕ) (le : h.clock ≤ at) where
  live_then : filter (is_live at) (filter (is_live h.clock) h.arrived) ≡ filter (is_live at) h.arrived
  live_then = filter_implied (is_live h.clock) (is_live at) (λ a k. live_before h.clock at a le k) h.arrived

  same_sorted : (m : Incoming) → sorted_by (forgotten h) at m ≡ sorted_by h at m
  same_sorted m =
      let known : is_remembered at m.from m.message.id (filter (is_live h.clock) h.arrived)
      ≡ is_remembered at m.from m.message.id h.arrived
      = any_implied (is_live h.clock) (is_of at m.from m.message.id)
      (λ a k. live_before h.clock at a le (of_live at m.from m.message.id a k)) h.arrived in
      let full : is_full h.most at (filter (is_live h.clock) h.arrived)
      ≡ is_full h.most at h.arrived = ap (λ es. nat_le h.most (length es)) live_then in
      let free : Bool = is_free at h.upcoming h.last_used in
      ap (λ r. up_of m.message.kind (role_of m.message.code) m.message
      (is_outstanding m.from m.message.id h.open_cons) r (is_full h.most at (filter (is_live h.clock) h.arrived)) free)
      known
      ∙ ap (λ f. up_of m.message.kind (role_of m.message.code) m.message
      (is_outstanding m.from m.message.id h.open_cons) (is_remembered at m.from m.message.id h.arrived) f free) full

  same_answer_to : (from : Endpoint) (what : Arrival) → answer_to (forgotten h) at from what ≡ answer_to h at from what
  same_answer_to from Unreadable = refl
  same_answer_to from (Faulted kind id) = refl
  same_answer_to from (Whole m) = same_sorted (record { from = from; message = m })

  pub same_answer : (call : Call) → answer_of (forgotten h) at call ≡ answer_of h at call
  same_answer (Receive from bytes) = ap Becomes (same_answer_to from (arrival_at bytes))
  same_answer (Reply to id bytes) = refl
  same_answer (Confirm to content wish) = refl
  same_answer (Plain to content) = refl
  same_answer (Settle to id) = refl
  same_answer Ticks = refl
  same_answer Take = refl
  same_answer (Room to) = refl
  same_answer AsksFree = refl
  same_answer Pass = refl

  same_replay : (m : Incoming) (u : Disposition) → replay (forgotten h) at m u ≡ replay h at m u
  same_replay m Replayed = ap (λ r. cond (is_con m.message.kind) (to_packets m.from r) [])
      (reply_live h.clock at m.from m.message.id h.arrived le)
  same_replay m Dropped = refl
  same_replay m Rejected = refl
  same_replay m (Request x b) = refl
  same_replay m (Response x) = refl
  same_replay m (Acked id) = refl
  same_replay m (Reset id) = refl
  same_replay m (Unmatched id) = refl

  same_out_to : (from : Endpoint) (what : Arrival) → out_to (forgotten h) at from what ≡ out_to h at from what
  same_out_to from Unreadable = refl
  same_out_to from (Faulted kind id) = refl
  same_out_to from (Whole m) =
      same_replay (record { from = from; message = m })
      (sorted_by (forgotten h) at (record { from = from; message = m }))
      ∙ ap (replay h at (record { from = from; message = m })) (same_sorted (record { from = from; message = m }))

  pub same_out : (call : Call) → out_of (forgotten h) at call ≡ out_of h at call
  same_out (Receive from bytes) = same_out_to from (arrival_at bytes)
  same_out (Reply to id bytes) = refl
  same_out (Confirm to content wish) = refl
  same_out (Plain to content) = refl
  same_out (Settle to id) = refl
  same_out Ticks = refl
  same_out Take = refl
  same_out (Room to) = refl
  same_out AsksFree = refl
  same_out Pass = refl

-- what is forgotten before or after the entry
pub same_after : (h : State) (e : Entry) → h.clock ≤ e.at → forgotten (after (forgotten h) e) ≡ forgotten (after h e)
same_after h e le =
    let new : List Arrived = newly e.at (taken e) in
    let old : List Arrived = filter (is_live h.clock) h.arrived in
    let arrived : filter (is_live e.at) (map (stores e) old ++ new)
    ≡ filter (is_live e.at) (map (stores e) h.arrived ++ new)
    = filter_more (is_live e.at) (map (stores e) old) new
    ∙ (ap (λ es. es ++ filter (is_live e.at) new)
    (filter_changed (is_live e.at) (stores e) (λ a. same_live e a e.at) old
    ∙ (ap (map (stores e)) (live_then h e.at le)
    ∙ sym (filter_changed (is_live e.at) (stores e) (λ a. same_live e a e.at) h.arrived)))
    ∙ sym (filter_more (is_live e.at) (map (stores e) h.arrived) new)) in
    ap (λ (es : List Arrived). record {
      most = h.most;
      clock = e.at;
      awaits = awaits_in e.call e.answer h.awaits;
      upcoming = next_after (issued e) h.upcoming;
      last_used = uses_after (issued e) h.last_used;
      arrived = es;
      open_cons = filter_map (left_by e) h.open_cons ++ option_to_list (begun e);
      queue = drop (takes_in e.call) h.queue ++ e.out;
    }) arrived

after_clock : (h : State) (now : ℕ) (call : Call) → h.clock ≤ moment (forgotten h) now call
after_clock h now (Receive from bytes) = omega arith
after_clock h now (Reply to id bytes) = omega arith
after_clock h now (Confirm to content wish) = omega arith
after_clock h now (Plain to content) = omega arith
after_clock h now (Settle to id) = omega arith
after_clock h now Ticks = omega arith
after_clock h now Take = omega arith
after_clock h now (Room to) = omega arith
after_clock h now AsksFree = omega arith
after_clock h now Pass = omega arith

is_moment : (setup : Setup) (t : List Entry) (now : ℕ) (call : Call)
    → IsMoment setup t (moment (forgotten (history setup t)) now call) call
is_moment setup t now (Receive from bytes) = tt
is_moment setup t now (Reply to id bytes) = refl
is_moment setup t now (Confirm to content wish) = tt
is_moment setup t now (Plain to content) = tt
is_moment setup t now (Settle to id) = refl
is_moment setup t now Ticks = tt
is_moment setup t now Take = refl
is_moment setup t now (Room to) = tt
is_moment setup t now AsksFree = tt
is_moment setup t now Pass = tt

may_then : (h : State) (call : Call) → May (forgotten h) call → May h call
may_then h (Receive from bytes) k = k
may_then h (Reply to id bytes) k = k
may_then h (Confirm to content wish) k = k
may_then h (Plain to content) k = k
may_then h (Settle to id) k = tt
may_then h Ticks k = tt
may_then h Take k = tt
may_then h (Room to) k = tt
may_then h AsksFree k = tt
may_then h Pass k = tt

pub stands : (setup : Setup) (t : List Entry) (now : ℕ) (call : Call) → LayerLaw setup t → May (history setup t) call
    → Stands setup t (made (forgotten (history setup t)) now call)
stands setup t now call law may =
    let e : Entry = made (forgotten (history setup t)) now call in
    let le : (history setup t).clock ≤ e.at = after_clock (history setup t) now call in
    let time : clock t ≤ e.at = le in
    record {
      time = time;
      row = row_of setup t e call law time (is_moment setup t now call) may (same_answer (history setup t) e.at le call)
          (same_out (history setup t) e.at le call);
    }

-- one call more
pub led_step : (setup : Setup) (t : List Entry) (old new : State) (now : ℕ) (call : Call) (answer : Answer)
    → LayerLed setup t old → Step old now call answer new → LayerLed setup (made old now call ∷ t) new
led_step setup t old new now call answer led step =
    subst (λ s. LayerLed setup (made s now call ∷ t) new) (sym led.kept) (record {
      law = (
        stands setup t now call led.law (may_then (history setup t) call
            (subst (λ s. May s call) led.kept step.may)),
        led.law,
      );
      kept = step.new_is ∙ (ap (λ s. forgotten (after s (made s now call))) led.kept
          ∙ same_after (history setup t) (made (forgotten (history setup t)) now call)
          (after_clock (history setup t) now call));
    })

pub same_made : (h : State) (now : ℕ) (call : Call) → made (forgotten h) now call ≡ made h now call
same_made h now call =
    let at : ℕ = moment (forgotten h) now call in
    let le : h.clock ≤ at = after_clock h now call in
    let there : moment (forgotten h) now call ≡ moment h now call = same_moment call in
    ap (λ (x : Answer). record { at = at; call = call; answer = x; out = out_of (forgotten h) at call })
    (same_answer h at le call)
    ∙ (ap (λ (x : List Packet). record { at = at; call = call; answer = answer_of h at call; out = x })
    (same_out h at le call)
    ∙ ap (λ (x : ℕ). record { at = x; call = call; answer = answer_of h x call; out = out_of h x call }) there)
  where
    same_moment : (c : Call) → moment (forgotten h) now c ≡ moment h now c
    same_moment (Receive from bytes) = refl
    same_moment (Reply to id bytes) = refl
    same_moment (Confirm to content wish) = refl
    same_moment (Plain to content) = refl
    same_moment (Settle to id) = refl
    same_moment Ticks = refl
    same_moment Take = refl
    same_moment (Room to) = refl
    same_moment AsksFree = refl
    same_moment Pass = refl

-- the fields of an object are a state too, with what is forgotten still there
pub step_by : (h s : State) (now : ℕ) (call : Call) (answer : Answer) (new : State) → forgotten h ≡ s
    → May (forgotten h) call → answer ≡ (made h now call).answer → new ≡ forgotten (after h (made h now call))
    → Step s now call answer new
step_by h s now call answer new is may right e =
    subst (λ x. Step x now call answer new) is (record {
      may = may;
      right = right ∙ ap (λ (x : Entry). x.answer) (sym (same_made h now call));
      new_is = e
          ∙ (ap (λ (x : Entry). forgotten (after h x)) (sym (same_made h now call))
          ∙ sym (same_after h (made (forgotten h) now call) (after_clock h now call)));
    })
