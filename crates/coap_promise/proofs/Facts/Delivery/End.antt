-- An end of a run: its calls, what each asks of its message layer, when it counts, and its hops among those of the two
-- layers. What is taken in a turn was sent in that turn: each turn before took all that waited.
use Rattle.std.proofs.Common.{◌≡◌, ◌⊎◌, inl, inr, ◌≤◌, ℕ, zero, suc, Option, Some, None, List, [], ◌∷◌, ◌++◌, drop, map}
use Rattle.std.proofs.Common.{slice_get, refl, ap, sym, subst, ◌∙◌, arith, append_assoc}
use Rattle.std.proofs.lemmas.List.{append-nil}
use Rattle.coap_types.specs.Past.{Ever, all_of}
use Rattle.coap_types.proofs.Facts.Traces.{Ever_append, Ever_back, Ever_by_law}
use Rattle.coap_types.specs.declared.endpoint.Endpoint.{Endpoint}
use Rattle.coap_layer.specs.Channel.{Hop}
use Rattle.coap_layer.specs.Machine.State.{State, start, made}
use Rattle.coap_layer.specs.Machine.Steps.{Asked, Steps, left_after, entries}
use Rattle.coap_layer.specs.Rows.{LayerLaw, Row}
use Rattle.coap_layer.specs.Sends.{IsIn}
use Rattle.coap_layer.specs.Trace as L
use Rattle.coap_layer.specs.Trace.{Packet}
use Rattle.coap_layer.specs.Words.{waiting, takes_in}
use Rattle.coap_layer.specs.declared.setup.Setup.{Setup}
use Rattle.coap_layer.proofs.Facts.Calls.{steps_left, led_steps}
use Rattle.coap_layer.proofs.Facts.Laws.{taken_since}
use Rattle.coap_layer.proofs.Facts.StepsOfLayer.{steps_split}
use Rattle.coap_exchange.proofs.Facts.Adds.{entries_append}
use Rattle.coap_record.specs.Events.{Config}
use Rattle.coap_promise.specs.Hops.{hops_at, hops_in, SendsAt}
use Rattle.coap_record.specs.Record.{Entry, Given, given_as, given_by}
use Rattle.coap_promise.proofs.Facts.Delivery.EntriesInTime.{Every, every_join, every_map, Timely}

-- it sends nothing, or has this moment, and it isn't later
pub record InTime (t : ℕ) (e : L.Entry) : Type 0 where
  pub till : e.at ≤ t
  pub from : (e.out ≡ []) ⊎ (t ≤ e.at)

pub in_time : (t : ℕ) (G : Endpoint → List ℕ → Type 0) (e : L.Entry) → Timely t G e → InTime t e
in_time t G e k = record { till = k.till; from = k.from }

-- the call takes this
pub record Took (answer : Option Packet) (adds : List L.Entry) : Type 0 where
  pub entry : L.Entry
  pub is : adds ≡ entry ∷ []
  pub call : entry.call ≡ L.Take
  pub answer_is : entry.answer ≡ L.Gives answer
  pub out : entry.out ≡ []

sends_at : (t : ℕ) (p : Packet) (e : L.Entry) → InTime t e → IsIn p e.out → SendsAt t p e
sends_at t p e time h = elim time.from [
  | inl none ↦ absurd (subst (IsIn p) none h)
  | inr from ↦ (let k = time.till in record { out = h; at = omega (arith, from, k) })
]

none_waits : (q : List Packet) → L.Gives None ≡ L.Gives (slice_get q 0) → q ≡ []
none_waits [] h = refl
none_waits (p ∷ q) h = absurd (cc h)

map_both : {A B : Type 0} (f : A → B) (xs ys : List A) → map f (xs ++ ys) ≡ map f xs ++ map f ys
map_both f [] ys = refl
map_both f (x ∷ xs) ys = ap (λ l. f x ∷ l) (map_both f xs ys)

behind : {A : Type 0} (P : A → Type 0) (s t : List A) → Every P (s ++ t) → Every P t
behind P [] t h = h
behind P (e ∷ s) t h = behind P s t h.1

-- calls behind those that only take
pub every_front : {X Y : Type 0} (P : X → Type 0) (f : Y → X) → ((y : Y) → P (f y)) → (ys : List Y) (xs : List X)
    → Every P xs → Every P (map f ys ++ xs)
every_front P f each [] xs h = h
every_front P f each (y ∷ ys) xs h = (each y, every_front P f each ys xs h)

-- what is given out is what a call takes
pub record Takes {X : Type 0} (out : Option Packet → X) (from : Endpoint) (t : ℕ) (g : Given)
    (cs : List X) : Type 0 where
  pub by : g.from ≡ from
  pub at : g.at ≡ t
  pub taken : Ever (λ c. c ≡ out (Some g.packet)) cs

as_taken : {X : Type 0} (out : Option Packet → X) (from : Endpoint) (t : ℕ) (g : Given) (o : Option Packet)
    → Ever (λ h. h ≡ g) (given_as t from o) → Takes out from t g (out o ∷ [])
as_taken out from t g None h = absurd h
as_taken out from t g (Some p) (inl h) = record {
  by = sym (ap (λ (x : Given). x.from) h);
  at = sym (ap (λ (x : Given). x.at) h);
  taken = inl (ap (λ (x : Given). out (Some x.packet)) h);
}
as_taken out from t g (Some p) (inr h) = absurd h

ever_one : {X : Type 0} (P : X → Type 0) (c : X) (cs : List X) → Ever P (c ∷ []) → Ever P (c ∷ cs)
ever_one P c cs (inl h) = inl h
ever_one P c cs (inr h) = absurd h

module _ (config : Config) where
  -- the hops that entries add
  abbrev pub front : List Entry → List Entry → List Hop
  front [] es = []
  front (e ∷ later) es = hops_at config (later ++ es) e ++ front later es

  pub front_is : (later es : List Entry) → hops_in config (later ++ es) ≡ front later es ++ hops_in config es
  front_is [] es = refl
  front_is (e ∷ later) es = ap (λ hs. hops_at config (later ++ es) e ++ hs) (front_is later es)
      ∙ sym (append_assoc (hops_at config (later ++ es) e) (front later es) (hops_in config es))

  pub record End (X : Type 0) : Type 1 where
    -- its calls, among those of both ends
    pub of : X → Entry
    pub trace : List Entry → List X
    pub trace_is : (cs : List X) (es : List Entry) → trace (map of cs ++ es) ≡ cs ++ trace es
    -- what they ask of its layer
    pub setup : Setup
    pub asks : List X → X → List Asked
    pub asked : List X → List Asked
    pub asked_next : (past : List X) (c : X) → asked (c ∷ past) ≡ asks past c ++ asked past
    -- .. and add to the hops
    pub mark : L.Entry → Hop
    pub hops : (es : List Entry) (c : X)
        → hops_at config es (of c)
        ≡ map mark (entries (left_after (start setup) (asked (trace es))) (asks (trace es) c))
    -- what is taken of the layer is given out
    pub place : Endpoint
    pub out : Option Packet → X
    pub takes : (past : List X) (answer : Option Packet)
        → asks past (out answer) ≡ record { now = 0; call = L.Take; answer = L.Gives answer } ∷ []
    pub gives : (t : ℕ) (answer : Option Packet) → given_by config.addresses t (of (out answer))
        ≡ given_as t place answer
    pub others_give : (t : ℕ) (c : X) → ((answer : Option Packet) × (c ≡ out answer))
        ⊎ (given_by config.addresses t (of c) ≡ [])
    -- no clock of it is past a moment; a call is handed it, and fed these bytes
    pub IsBy : ℕ → List X → Type 0
    pub IsAt : ℕ → X → Type 0
    pub Fed : X → Endpoint → List ℕ → Type 0
    pub next_by : (t : ℕ) (past : List X) (c : X) → IsBy t past → IsAt t c → IsBy t (c ∷ past)
    pub timely : (t : ℕ) (past : List X) (c : X) → IsBy t past → IsAt t c
        → Every (Timely t (Fed c)) (entries (left_after (start setup) (asked past)) (asks past c))

module _ {config : Config} {X : Type 0} (end : End config X) where
  -- the entries of its layer, and those that a call, and further calls, add
  abbrev pub layer : List X → List L.Entry
  layer past = entries (start end.setup) (end.asked past)

  abbrev pub adds : List X → X → List L.Entry
  adds past c = entries (left_after (start end.setup) (end.asked past)) (end.asks past c)

  abbrev pub added : List X → List X → List L.Entry
  added past [] = []
  added past (c ∷ later) = adds (later ++ past) c ++ added past later

  pub layer_next : (past : List X) (c : X) → layer (c ∷ past) ≡ adds past c ++ layer past
  layer_next past c = ap (entries (start end.setup)) (end.asked_next past c)
      ∙ entries_append (start end.setup) (end.asks past c) (end.asked past)

  pub all_added : (later past : List X) → layer (later ++ past) ≡ added past later ++ layer past
  all_added [] past = refl
  all_added (c ∷ later) past =
      layer_next (later ++ past) c ∙ ap (λ l. adds (later ++ past) c ++ l) (all_added later past)
      ∙ sym (append_assoc (adds (later ++ past) c) (added past later) (layer past))

  -- .. to the hops
  pub front_of : (cs : List X) (es : List Entry)
      → front config (map end.of cs) es ≡ map end.mark (added (end.trace es) cs)
  front_of [] es = refl
  front_of (c ∷ cs) es =
      ap (λ hs. hs ++ front config (map end.of cs) es) (end.hops (map end.of cs ++ es) c
      ∙ ap (λ past. map end.mark (adds past c)) (end.trace_is cs es))
      ∙ ap (λ hs. map end.mark (adds (cs ++ end.trace es) c) ++ hs) (front_of cs es)
      ∙ sym (map_both end.mark (adds (cs ++ end.trace es) c) (added (end.trace es) cs))

  pub hops_are : (cs : List X) (es : List Entry)
      → hops_in config (map end.of cs ++ es) ≡ map end.mark (added (end.trace es) cs) ++ hops_in config es
  hops_are cs es = front_is config (map end.of cs) es ∙ ap (λ hs. hs ++ hops_in config es) (front_of cs es)

  -- what is given out is what a call takes
  pub taken_out : (t : ℕ) (g : Given) (cs : List X) → Ever (λ h. h ≡ g)
      (all_of (given_by config.addresses t) (map end.of cs))
      → Takes end.out end.place t g cs
  taken_out t g [] h = absurd h
  taken_out t g (c ∷ cs) h = elim (Ever_append (λ x. x ≡ g) (given_by config.addresses t (end.of c))
      (all_of (given_by config.addresses t) (map end.of cs)) h) [
        | inl p ↦ (let k = one c p in record { by = k.by; at = k.at; taken = ever_one _ c cs k.taken })
        | inr q ↦ (let k = taken_out t g cs q in record { by = k.by; at = k.at; taken = inr k.taken })
      ]
    where
      one : (c : X) → Ever (λ h. h ≡ g) (given_by config.addresses t (end.of c)) → Takes end.out end.place t g (c ∷ [])
      one c p = elim (end.others_give t c) [
        | inl o ↦ subst (λ d. Takes end.out end.place t g (d ∷ [])) (sym o.1)
            (as_taken end.out end.place t g o.0 (subst (Ever (λ h. h ≡ g)) (end.gives t o.0)
            (subst (λ d. Ever (λ h. h ≡ g) (given_by config.addresses t (end.of d))) o.1 p)))
        | inr none ↦ absurd (subst (Ever (λ h. h ≡ g)) none p)
      ]

  -- the layer has answered so
  abbrev pub IsGood : List X → Type 0
  IsGood past = (h : State) × Steps (start end.setup) (end.asked past) h

  pub down : (past : List X) (c : X) → IsGood (c ∷ past) → IsGood past
  down past c good =
      let k = steps_split (start end.setup) good.0 (end.asks past c) (end.asked past)
      (subst (λ a. Steps (start end.setup) a good.0) (end.asked_next past c) good.1) in
      (k.0, k.1)

  pub law : (past : List X) → IsGood past → LayerLaw end.setup (layer past)
  law past good =
      subst (LayerLaw end.setup) (append-nil (layer past))
      (led_steps end.setup [] (start end.setup) good.0 (end.asked past) (record { law = tt; kept = refl }) good.1).law

  pub took : (answer : Option Packet) (past : List X) → IsGood (end.out answer ∷ past)
      → Took answer (adds past (end.out answer))
  took answer past good =
      let k = subst (λ a. Steps (start end.setup) a good.0) (end.asked_next past (end.out answer)
      ∙ ap (λ l. l ++ end.asked past) (end.takes past answer)) good.1 in
      record {
        entry = made (left_after (start end.setup) (end.asked past)) 0 L.Take;
        is = ap (entries (left_after (start end.setup) (end.asked past))) (end.takes past answer);
        call = refl;
        answer_is = ap (λ (s : State). L.Gives (slice_get s.queue 0))
            (sym (steps_left (start end.setup) (end.asked past) k.0 k.1)) ∙ sym k.2.right;
        out = refl;
      }

  -- after the last taking nothing waits
  pub nothing_waits : (past : List X) → IsGood (end.out None ∷ past) → waiting (layer (end.out None ∷ past)) ≡ []
  nothing_waits past good =
      let k = took None past good in
      let is : layer (end.out None ∷ past) ≡ k.entry ∷ layer past =
      layer_next past (end.out None) ∙ ap (λ l. l ++ layer past) k.is in
      let stands = subst (LayerLaw end.setup) is (law (end.out None ∷ past) good) in
      let row = subst (Row end.setup (layer past) k.entry) k.call stands.0.row in
      let none : waiting (layer past) ≡ [] = none_waits (waiting (layer past)) (sym k.answer_is ∙ row.0) in
      ap waiting is ∙ ap (λ q. drop (takes_in k.entry.call) q ++ k.entry.out) none
      ∙ ap (λ q. drop (takes_in k.entry.call) [] ++ q) k.out ∙ empty (takes_in k.entry.call)
    where
      empty : (n : ℕ) → drop {A = Packet} n [] ++ [] ≡ []
      empty zero = refl
      empty (suc n) = refl

  -- calls at one moment, by which its clocks are not past it
  module _ (t : ℕ) where
    pub all_by : (later past : List X) → end.IsBy t past → Every (end.IsAt t) later → end.IsBy t (later ++ past)
    all_by [] past by at = by
    all_by (c ∷ later) past by at = end.next_by t (later ++ past) c (all_by later past by at.1) at.0

    pub all_timely : (G : Endpoint → List ℕ → Type 0) (later past : List X) → end.IsBy t past
        → Every (end.IsAt t) later
        → ((from : Endpoint) (bytes : List ℕ) → Ever (λ c. end.Fed c from bytes) later → G from bytes)
        → Every (Timely t G) (added past later)
    all_timely G [] past by at f = tt
    all_timely G (c ∷ later) past by at f =
        every_join (Timely t G) (adds (later ++ past) c) (added past later)
        (every_map (Timely t (end.Fed c)) (Timely t G) (λ e k. record {
          till = k.till;
          from = k.from;
          since = k.since;
          fed = λ from bytes is.
              (let w = k.fed from bytes is in (f from bytes (inl w.0), w.1));
        }) (adds (later ++ past) c)
        (end.timely t (later ++ past) c (all_by later past by at.1) at.0))
        (all_timely G later past by at.1 (λ from bytes h. f from bytes (inr h)))

    pub sent_at_once : (p : Packet) (later past : List X) → IsGood (later ++ past) → waiting (layer past) ≡ []
        → Every (InTime t) (added past later)
        → Ever (λ c. c ≡ end.out (Some p)) later → Ever (SendsAt t p) (added past later)
    sent_at_once p [] past good none times h = absurd h
    sent_at_once p (c ∷ later) past good none times (inl h) =
        let k = took (Some p) (later ++ past) (subst (λ d. IsGood (d ∷ (later ++ past))) h good) in
        let is : layer (c ∷ (later ++ past)) ≡ k.entry ∷ (added past later ++ layer past) =
        layer_next (later ++ past) c ∙ ap (λ d. adds (later ++ past) d ++ layer (later ++ past)) h
        ∙ ap (λ l. l ++ layer (later ++ past)) k.is ∙ ap (λ l. k.entry ∷ l) (all_added later past) in
        let sent = taken_since end.setup (layer past) (added past later) k.entry p
        (subst (LayerLaw end.setup) is (law (c ∷ (later ++ past)) good)) none k.call k.answer_is in
        Ever_back (SendsAt t p) (adds (later ++ past) c) (added past later)
        (Ever_by_law (λ before e. InTime t e) (λ e. IsIn p e.out) (SendsAt t p) (λ before e l i. sends_at t p e l.0 i)
        (added past later) (behind (InTime t) (adds (later ++ past) c) (added past later) times) sent)
    sent_at_once p (c ∷ later) past good none times (inr h) =
        Ever_back (SendsAt t p) (adds (later ++ past) c) (added past later)
        (sent_at_once p later past (down (later ++ past) c good) none
        (behind (InTime t) (adds (later ++ past) c) (added past later) times) h)
