-- The calls of a layer, taken by its parts, are steps.
use Rattle.std.proofs.Common.{◌≡◌, ℕ, ◌+◌, ◌/◌, ◌%◌, ◌≤◌, Bool, Option, Some, None, List, [], ◌∷◌, ◌++◌, filter, map}
use Rattle.std.proofs.Common.{drop, slice_set, slice_get, length, ◌<◌, IsSome, option_to_list, refl, ap, sym, ◌∙◌}
use Rattle.std.proofs.Common.{arith}
use Rattle.std.proofs.lemmas.List.{append-nil}
use Rattle.std.specs.List.{filter_map}
use Rattle.coap_types.specs.declared.endpoint.Endpoint.{Endpoint}
use Rattle.coap_types.specs.declared.message.Kind.TheVariants.{Con}
use Rattle.coap_codec.specs.Spelling.{message_bytes}
use Rattle.coap_layer.specs.declared.retransmission.Due.{Due}
use Rattle.coap_layer.specs.declared.retransmission.Due.TheVariants as due
use Rattle.coap_layer.specs.Machine.Arriving.{without_open}
use Rattle.coap_layer.specs.Machine.Entries.{storing}
use Rattle.coap_layer.specs.Machine.Sendings.{answer_for}
use Rattle.coap_layer.specs.Machine.State.{State, Arrived, May, Step, after, answer_of, forgotten, is_live, made}
use Rattle.coap_layer.specs.Machine.State.{moment, out_of, stores}
use Rattle.coap_layer.specs.Trace.{Answer, Call, Confirm, Content, Entry, Gives, Is, Nothing, Packet, Plain, Reply}
use Rattle.coap_layer.specs.Trace.{Sent, Settle, Take, Ticks, with_head}
use Rattle.coap_layer.specs.Words.{Awaited, Open, awaits_in, begun, issued, left_by, taken, takes_in}
use Rattle.coap_types.specs.declared.transmission.TheConstants.{ACK_TIMEOUT_MS as ack_timeout}
use Rattle.coap_types.specs.declared.transmission.TheConstants.{TIMEOUT_VALUES as timeout_values}
use Rattle.coap_layer.specs.declared.message_id.TheConstants.{GROUP_SIZE as group_size}
use Rattle.coap_types.specs.declared.message.TheConstants.{MESSAGE_IDS as message_ids}
use Rattle.coap_layer.proofs.Machine.Forgetting.{live_before, step_by}
use Rattle.coap_layer.proofs.ListLemmas.{filter_implied, filter_map_all, filter_map_same, map_same}

-- an entry leaves these parts of a state as they were
module _ (h : State) (e : Entry) where
  pub same_arrived : ((a : Arrived) → stores e a ≡ a) → map (stores e) h.arrived ++ [] ≡ h.arrived
  same_arrived same = append-nil _ ∙ map_same (stores e) same h.arrived

  pub same_open : ((c : Open) → left_by e c ≡ Some c) → filter_map (left_by e) h.open_cons ++ [] ≡ h.open_cons
  same_open same = append-nil _ ∙ (filter_map_same (left_by e) (λ (c : Open). Some c) same h.open_cons
      ∙ filter_map_all h.open_cons)

-- the step of a call, by its entry and what that leaves
pub step_of : (h s new : State) (now at : ℕ) (call : Call) (answer : Answer) (out : List Packet) → forgotten h ≡ s
    → May (forgotten h) call → moment h now call ≡ at
    → answer ≡ answer_of h at call → out_of h at call ≡ out
    → forgotten new ≡ forgotten (after h (record { at = at; call = call; answer = answer; out = out }))
    → Step s now call answer (forgotten new)
step_of h s new now at call answer out is may when told sent left =
    let a : answer_of h (moment h now call) call ≡ answer = ap (λ x. answer_of h x call) when ∙ sym told in
    let o : out_of h (moment h now call) call ≡ out = ap (λ x. out_of h x call) when ∙ sent in
    let e : made h now call ≡ record { at = at; call = call; answer = answer; out = out } = cc (when, a, o) in
    step_by h s now call answer (forgotten new) is may (sym a) (left ∙ ap (λ x. forgotten (after h x)) (sym e))

abbrev pub moved : State → ℕ → Option Awaited → List Arrived → List Open → List Packet → State
moved h at w es cs q = record {
  most = h.most;
  clock = at;
  awaits = w;
  upcoming = h.upcoming;
  last_used = h.last_used;
  arrived = es;
  open_cons = cs;
  queue = q;
}

-- a call that does nothing but move the clock
pub still : (h : State) (at : ℕ) (call : Call) (answer : Answer) (w : Option Awaited)
    → let e : Entry = record { at = at; call = call; answer = answer; out = [] } in
    ((a : Arrived) → stores e a ≡ a) → ((c : Open) → left_by e c ≡ Some c) → taken e ≡ None → begun e ≡ None
    → issued e ≡ [] → takes_in call ≡ 0 → awaits_in call answer h.awaits ≡ w
    → after h e ≡ moved h at w h.arrived h.open_cons h.queue
still h at call answer w s l t b g n a =
    let e : Entry = record { at = at; call = call; answer = answer; out = [] } in
    let arrived = same_arrived h e s in
    let opened = same_open h e l in
    let queue = append-nil h.queue in
    cc (arrived, opened, queue, t, b, g, n, a)

-- a CON, and a NON, that is sent
module _ (h : State) (at : ℕ) (to : Endpoint) (content : Content) (id : ℕ) where
  abbrev sent : State → List Open → Packet → State
  sent h cs p = record {
    most = h.most;
    clock = at;
    awaits = None;
    upcoming = (id + 1) % message_ids;
    last_used = slice_set h.last_used (id / group_size) (Some at);
    arrived = h.arrived;
    open_cons = cs;
    queue = h.queue ++ p ∷ [];
  }

  pub con_sent : (word : ℕ) (p : Packet) → after h
      (record { at = at; call = Confirm to content word; answer = Sent id; out = p ∷ [] })
      ≡ sent h (h.open_cons ++ record {
        to = to;
        id = id;
        bytes = message_bytes (with_head Con id content);
        timeout = ack_timeout + word % timeout_values;
        first = at;
        last = at;
      } ∷ []) p
  con_sent word p =
      let e : Entry = record { at = at; call = Confirm to content word; answer = Sent id; out = p ∷ [] } in
      let arrived = same_arrived h e (λ a. refl) in
      let opened : filter_map (left_by e) h.open_cons
      ≡ h.open_cons = filter_map_same (left_by e) (λ (c : Open). Some c) (λ c. refl) h.open_cons
      ∙ filter_map_all h.open_cons in
      cc (arrived, opened)

  pub non_sent : (p : Packet) → after h (record { at = at; call = Plain to content; answer = Sent id; out = p ∷ [] })
      ≡ sent h h.open_cons p
  non_sent p =
      let e : Entry = record { at = at; call = Plain to content; answer = Sent id; out = p ∷ [] } in
      let arrived = same_arrived h e (λ a. refl) in
      let opened = same_open h e (λ c. refl) in
      cc (arrived, opened)

-- an end
pub settled_so : (h : State) (to : Endpoint) (id : ℕ) (b : Bool)
    → after h (record { at = h.clock; call = Settle to id; answer = Is b; out = [] })
    ≡ moved h h.clock h.awaits h.arrived (without_open to id h.open_cons) h.queue
settled_so h to id b =
    let e : Entry = record { at = h.clock; call = Settle to id; answer = Is b; out = [] } in
    let arrived = same_arrived h e (λ a. refl) in
    let opened : filter_map (left_by e) h.open_cons ++ [] ≡ without_open to id h.open_cons = append-nil _ in
    let queue = append-nil h.queue in
    cc (arrived, opened, queue)

-- a datagram that is taken
pub taken_so : (h : State) (p : Option Packet)
    → after h (record { at = h.clock; call = Take; answer = Gives p; out = [] })
    ≡ moved h h.clock h.awaits h.arrived h.open_cons (drop 1 h.queue)
taken_so h p =
    let e : Entry = record { at = h.clock; call = Take; answer = Gives p; out = [] } in
    let arrived = same_arrived h e (λ a. refl) in
    let opened = same_open h e (λ c. refl) in
    let queue : drop 1 h.queue ++ [] ≡ drop 1 h.queue = append-nil (drop 1 h.queue) in
    cc (arrived, opened, queue)

-- a reply
pub replied_so : (h : State) (to : Endpoint) (id : ℕ) (bytes : List ℕ) (p : Packet)
    → let e : Entry = record { at = h.clock; call = Reply to id bytes; answer = Nothing; out = p ∷ [] } in
    after h e ≡ moved h h.clock None (map (stores e) h.arrived) h.open_cons (h.queue ++ p ∷ [])
replied_so h to id bytes p =
    let e : Entry = record { at = h.clock; call = Reply to id bytes; answer = Nothing; out = p ∷ [] } in
    let arrived : map (stores e) h.arrived ++ [] ≡ map (stores e) h.arrived = append-nil _ in
    let opened = same_open h e (λ c. refl) in
    cc (arrived, opened)

-- a tick
pub ticked_so : (h : State) (at : ℕ) (answer : Answer) (out : List Packet)
    → issued (record { at = at; call = Ticks; answer = answer; out = out }) ≡ []
    → let e : Entry = record { at = at; call = Ticks; answer = answer; out = out } in
    after h e ≡ moved h at None h.arrived (filter_map (left_by e) h.open_cons) (h.queue ++ out)
ticked_so h at answer out none =
    let e : Entry = record { at = at; call = Ticks; answer = answer; out = out } in
    let arrived = same_arrived h e (λ a. refl) in
    let opened : filter_map (left_by e) h.open_cons ++ [] ≡ filter_map (left_by e) h.open_cons = append-nil _ in
    cc (arrived, opened, none)

pub tick_gives_none : (at : ℕ) (due : Due) (out : List Packet)
    → issued (record { at = at; call = Ticks; answer = answer_for due; out = out }) ≡ []
tick_gives_none at due.Nothing out = refl
tick_gives_none at (due.Copy to id) out = refl
tick_gives_none at (due.Failure to id) out = refl

-- the datagram that is taken is the first
pub first_is : (r : Option Packet) (xs ys : List Packet) → xs ≡ option_to_list r ++ ys → (0 < length xs → IsSome r)
    → r ≡ slice_get xs 0
first_is None [] ys e h = refl
first_is None (x ∷ xs) ys e h = absurd (cc (h (omega arith)))
first_is (Some p) [] ys e h = absurd (cc e)
first_is (Some p) (x ∷ xs) ys e h = cc e

-- what a tick leaves, by the parts
pub ticked_left : (h : State) (at : ℕ) (d : Due) (out : List Packet) (es : List Arrived) (cs : List Open)
    (q : List Packet) → h.clock ≤ at
    → es ≡ filter (is_live h.clock) h.arrived → cs
    ≡ filter_map (left_by (record { at = at; call = Ticks; answer = answer_for d; out = out })) h.open_cons
    → q ≡ h.queue ++ out
    → forgotten (moved h at None es cs q) ≡ forgotten
    (after h (record { at = at; call = Ticks; answer = answer_for d; out = out }))
ticked_left h at d out es cs q le arrived opened queued =
    let live : filter (is_live at) es ≡ filter (is_live at) h.arrived =
    ap (filter (is_live at)) arrived ∙ filter_implied (is_live h.clock) (is_live at)
    (λ x k. live_before h.clock at x le k) h.arrived in
    let so : forgotten (moved h at None es cs q)
    ≡ forgotten (moved h at None h.arrived (filter_map
    (left_by (record { at = at; call = Ticks; answer = answer_for d; out = out })) h.open_cons) (h.queue ++ out)) =
    cc (live, opened, queued) in
    so ∙ ap forgotten (sym (ticked_so h at (answer_for d) out (tick_gives_none at d out)))

-- what a reply leaves, by the parts
pub replied_left : (h : State) (to : Endpoint) (id : ℕ) (bytes : List ℕ) (es : List Arrived) (q : List Packet)
    → filter (is_live h.clock) es ≡ filter (is_live h.clock) (map (storing to id bytes) h.arrived)
    → q ≡ h.queue ++ record { to = to; bytes = bytes } ∷ []
    → forgotten (moved h h.clock None es h.open_cons q)
    ≡ forgotten (after h (record {
      at = h.clock;
      call = Reply to id bytes;
      answer = Nothing;
      out = record { to = to; bytes = bytes } ∷ [];
    }))
replied_left h to id bytes es q stored queued =
    let so : forgotten (moved h h.clock None es h.open_cons q)
    ≡ forgotten (moved h h.clock None (map (storing to id bytes) h.arrived) h.open_cons
    (h.queue ++ record { to = to; bytes = bytes } ∷ [])) = cc (stored, queued) in
    so ∙ ap forgotten (sym (replied_so h to id bytes (record { to = to; bytes = bytes })))
