-- What a message layer sends in a turn its end gives out in that turn.
use Rattle.std.proofs.Common.{◌≡◌, ◌⊎◌, inl, inr, ⊎_elim, ◌≤◌, ℕ, Option, Some, List, [], ◌∷◌, ◌++◌, drop, map}
use Rattle.std.proofs.Common.{slice_get, refl, ap, sym, subst, ◌∙◌, arith, length}
use Rattle.std.proofs.lemmas.List.{length-append}
use Rattle.coap_types.specs.Past.{Ever, Sometime, all_of}
use Rattle.coap_types.proofs.Facts.Traces.{Ever_append, Ever_front, Ever_back}
use Rattle.coap_types.specs.declared.endpoint.Endpoint.{Endpoint}
use Rattle.coap_layer.specs.Channel.{Near, Far, OnNear, OnFar}
use Rattle.coap_layer.specs.Rows.{LayerLaw, Row}
use Rattle.coap_layer.specs.Sends.{IsIn}
use Rattle.coap_layer.specs.Trace as L
use Rattle.coap_layer.specs.Trace.{Packet}
use Rattle.coap_layer.specs.Words.{waiting, takes_in}
use Rattle.coap_client.specs.Trace as C
use Rattle.coap_server.specs.Trace as S
use Rattle.coap_record.specs.Events.{Config}
use Rattle.coap_promise.specs.Hops.{client_adds, server_adds}
use Rattle.coap_record.specs.Record.{Given, Entry, OfClient, OfServer, client_of, server_trace, given_by}
use Rattle.coap_promise.proofs.Facts.Delivery.AfterATurn.{Still}
use Rattle.coap_promise.proofs.Facts.Delivery.ClientTurns as client_turns
use Rattle.coap_promise.proofs.Facts.Delivery.EntriesInTime.{Every, Timely}
use Rattle.coap_promise.proofs.Facts.Delivery.GivenOutBefore.{of_map}
use Rattle.coap_promise.proofs.Facts.Delivery.HopsAreEntries.{client_layer, server_layer}
use Rattle.coap_promise.proofs.Facts.Delivery.OneEndATurn.{ClientTurn, ServerTurn}
use Rattle.coap_record.proofs.Facts.CallsOfEnds.{client_client}
use Rattle.coap_promise.proofs.Facts.Delivery.ServerTurns as server_turns
use Rattle.coap_promise.proofs.Facts.Delivery.BothEnds.{trace_is, client_side, server_side}
use Rattle.coap_promise.proofs.Facts.Delivery.End.{End, front, front_of, layer, layer_next, adds, added, all_timely}
use Rattle.coap_promise.proofs.Facts.Delivery.End.{IsGood}
use Rattle.coap_promise.proofs.Facts.Delivery.End.{down, law, took}
use Rattle.coap_smooth.proofs.Smoothly.Arriving.OthersTakeNone.{TakesNone, makes_out, makes_fed, makes_none, none_taken}
use Rattle.coap_smooth.proofs.Smoothly.Arriving.OthersTakeNone.{quiet_taken, client_makes, server_makes}

-- what is sent waits, while nothing is taken

stay : (p : Packet) (adds t : List L.Entry) → Every TakesNone adds → IsIn p (waiting t) → IsIn p (waiting (adds ++ t))
stay p [] t h k = k
stay p (e ∷ adds) t h k =
    let w = waiting (adds ++ t) in
    Ever_front (λ q. q ≡ p) (drop (takes_in e.call) w) e.out
    (subst (λ (n : ℕ). IsIn p (drop n w)) (sym h.0) (stay p adds t h.1 k))

sent_stay : (p : Packet) (adds t : List L.Entry) → Every TakesNone adds → Ever (λ e. IsIn p e.out) adds
    → IsIn p (waiting (adds ++ t))
sent_stay p [] t h k = absurd k
sent_stay p (e ∷ adds) t h (inl k) = Ever_back (λ q. q ≡ p) (drop (takes_in e.call) (waiting (adds ++ t))) e.out k
sent_stay p (e ∷ adds) t h (inr k) =
    let w = waiting (adds ++ t) in
    Ever_front (λ q. q ≡ p) (drop (takes_in e.call) w) e.out
    (subst (λ (n : ℕ). IsIn p (drop n w)) (sym h.0) (sent_stay p adds t h.1 k))

first_taken : (p : Packet) (q : List Packet) (answer : Option Packet) → L.Gives answer ≡ L.Gives (slice_get q 0)
    → IsIn p q → IsIn p (drop 1 q ++ []) ⊎ (answer ≡ Some p)
first_taken p [] answer is h = absurd h
first_taken p (x ∷ q) answer is (inl h) = inr (let k : answer ≡ Some x = cc is in k ∙ ap (λ (y : Packet). Some y) h)
first_taken p (x ∷ q) answer is (inr h) = inl (Ever_front (λ y. y ≡ p) q [] h)

-- calls of an end of which one alone takes
module _ {config : Config} {X : Type 0} (end : End config X)
    (others : (past : List X) (c : X)
    → ((answer : Option Packet) × (c ≡ end.out answer)) ⊎ Every TakesNone (adds end past c)) where
  -- one call
  module _ (p : Packet) (past : List X) (c : X) (good : IsGood end (c ∷ past)) where
    abbrev Leaves : Type 0
    Leaves = IsIn p (waiting (layer end (c ∷ past))) ⊎ (c ≡ end.out (Some p))

    taken : (answer : Option Packet) → c ≡ end.out answer
        → IsIn p (waiting (layer end past)) ⊎ Ever (λ e. IsIn p e.out) (adds end past c) → Leaves
    taken answer is h =
        let k = took end answer past (subst (λ d. IsGood end (d ∷ past)) is good) in
        let adds_are : adds end past c ≡ k.entry ∷ [] = ap (adds end past) is ∙ k.is in
        let all : layer end (c ∷ past) ≡ k.entry ∷ layer end past = layer_next end past c ∙ ap
        (λ l. l ++ layer end past) adds_are in
        let stands = subst (LayerLaw end.setup) all (law end (c ∷ past) good) in
        let row = subst (Row end.setup (layer end past) k.entry) k.call stands.0.row in
        let given : L.Gives answer ≡ L.Gives (slice_get (waiting (layer end past)) 0) = sym k.answer_is ∙ row.0 in
        let left : waiting (layer end (c ∷ past)) ≡ drop 1 (waiting (layer end past)) ++ [] =
        ap waiting all ∙ ap (λ d. drop (takes_in d) (waiting (layer end past)) ++ k.entry.out) k.call
        ∙ ap (λ o. drop 1 (waiting (layer end past)) ++ o) k.out in
        elim h [
          | inl w ↦ ⊎_elim (λ l. inl (subst (IsIn p) (sym left) l))
              (λ r. inr (is ∙ ap end.out r)) (first_taken p (waiting (layer end past)) answer given w)
          | inr e ↦ absurd (none k.entry k.out (subst (Ever (λ x. IsIn p x.out)) adds_are e))
        ]
      where
        none : (x : L.Entry) → x.out ≡ [] → Ever (λ y. IsIn p y.out) (x ∷ []) → ⊥
        none x empty (inl h) = subst (IsIn p) empty h
        none x empty (inr h) = h

    leaves : IsIn p (waiting (layer end past)) ⊎ Ever (λ e. IsIn p e.out) (adds end past c) → Leaves
    leaves h = elim (others past c) [
      | inl takes ↦ taken takes.0 takes.1 h
      | inr none ↦ inl (subst (λ l. IsIn p (waiting l)) (sym (layer_next end past c))
          (⊎_elim (stay p (adds end past c) (layer end past) none)
          (sent_stay p (adds end past c) (layer end past) none) h))
    ]

  -- what waited, or is sent, waits still, or was taken
  pub kept : (p : Packet) (later past : List X) → IsGood end (later ++ past)
      → IsIn p (waiting (layer end past)) ⊎ Ever (λ e. IsIn p e.out) (added end past later)
      → IsIn p (waiting (layer end (later ++ past))) ⊎ Ever (λ c. c ≡ end.out (Some p)) later
  kept p [] past good (inl h) = inl h
  kept p [] past good (inr h) = absurd h
  kept p (c ∷ later) past good h = elim (parted h) [
    | inl now ↦ ⊎_elim (λ l. inl l) (λ r. inr (inl r)) (leaves p (later ++ past) c good (inr now))
    | inr before ↦ elim (kept p later past (down end (later ++ past) c good) before) [
      | inl w ↦ ⊎_elim (λ l. inl l) (λ r. inr (inl r)) (leaves p (later ++ past) c good (inl w))
      | inr g ↦ inr (inr g)
    ]
  ]
    where
      parted : IsIn p (waiting (layer end past))
          ⊎ Ever (λ e. IsIn p e.out) (adds end (later ++ past) c ++ added end past later)
          → Ever (λ e. IsIn p e.out) (adds end (later ++ past) c)
          ⊎ (IsIn p (waiting (layer end past)) ⊎ Ever (λ e. IsIn p e.out) (added end past later))
      parted (inl w) = inr (inl w)
      parted (inr e) = ⊎_elim (λ l. inl l) (λ r. inr (inr r))
          (Ever_append (λ e. IsIn p e.out) (adds end (later ++ past) c) (added end past later) e)

-- what is sent, of entries of which each has its moment
sent_when : (t : ℕ) (G : Endpoint → List ℕ → Type 0) (p : Packet) (x : L.Entry) (xs : List L.Entry)
    → Every (Timely t G) xs → Ever (λ y. y ≡ x) xs → IsIn p x.out → (x.at ≡ t) × Ever (λ e. IsIn p e.out) xs
sent_when t G p x [] times h out = absurd h
sent_when t G p x (y ∷ xs) times (inl h) out =
    let k : IsIn p y.out = subst (λ (z : L.Entry). IsIn p z.out) (sym h) out in
    (sym (ap (λ (z : L.Entry). z.at) h) ∙ at times.0 k, inl k)
  where
    at : Timely t G y → IsIn p y.out → y.at ≡ t
    at w k = elim w.from [
      | inl none ↦ absurd (subst (IsIn p) none k)
      | inr from ↦ (let till = w.till in omega (arith, from, till))
    ]
sent_when t G p x (y ∷ xs) times (inr h) out = let k = sent_when t G p x xs times.1 h out in (k.0, inr k.1)

-- a datagram that is given out has a number, and none before it has that
pub record Numbered (g : Given) (rest gs : List Given) : Type 0 where
  pub number : ℕ
  pub behind : length rest ≤ number
  pub is : Sometime (λ before h. (h ≡ g) × (length before ≡ number)) (gs ++ rest)

pub numbered_in : (g : Given) (gs rest : List Given) → Ever (λ h. h ≡ g) gs → Numbered g rest gs
numbered_in g [] rest h = absurd h
numbered_in g (x ∷ gs) rest (inl h) =
    record { number = length (gs ++ rest); behind = omega (arith, length-append gs rest); is = inl (h, refl) }
numbered_in g (x ∷ gs) rest (inr h) = let k = numbered_in g gs rest h in
    record { number = k.number; behind = k.behind; is = inr k.is }

module _ (config : Config) where
  -- which calls take
  client_others : (past : List C.Call) (c : C.Call)
      → ((answer : Option Packet) × (c ≡ C.NextOut answer)) ⊎ Every TakesNone (client_adds config past c)
  client_others past c = elim (client_makes config past c) [
    | makes_out o ↦ inl o
    | makes_fed k ↦ inr (none_taken _ _ _ _ k)
    | makes_none k ↦ inr (quiet_taken _ _ k)
  ]

  server_others : (past : List S.Call) (c : S.Call)
      → ((answer : Option Packet) × (c ≡ S.NextOut answer)) ⊎ Every TakesNone (server_adds config past c)
  server_others past c = elim (server_makes config past c) [
    | makes_out o ↦ inl o
    | makes_fed k ↦ inr (none_taken _ _ _ _ k)
    | makes_none k ↦ inr (quiet_taken _ _ k)
  ]

  -- an end gives this out at this moment
  abbrev pub GivesOut : ℕ → Endpoint → Packet → List Entry → Type 0
  GivesOut t from p entries =
      Ever (λ g. g ≡ record { at = t; from = from; packet = p }) (all_of (given_by config.addresses t) entries)

  module _ {X : Type 0} (end : End config X)
      (others : (past : List X) (c : X)
      → ((answer : Option Packet) × (c ≡ end.out answer)) ⊎ Every TakesNone (adds end past c)) where
    -- what is taken is given out
    given_out : (t : ℕ) (p : Packet) (cs : List X) → Ever (λ c. c ≡ end.out (Some p)) cs
        → GivesOut t end.place p (map end.of cs)
    given_out t p [] h = absurd h
    given_out t p (c ∷ cs) (inl h) =
        Ever_front (λ g. g ≡ record { at = t; from = end.place; packet = p }) (given_by config.addresses t (end.of c))
        (all_of (given_by config.addresses t) (map end.of cs))
        (subst (Ever (λ g. g ≡ record { at = t; from = end.place; packet = p }))
        (sym (ap (λ d. given_by config.addresses t (end.of d)) h ∙ end.gives t (Some p))) (inl refl))
    given_out t p (c ∷ cs) (inr h) =
        Ever_back (λ g. g ≡ record { at = t; from = end.place; packet = p }) (given_by config.addresses t (end.of c))
        (all_of (given_by config.addresses t) (map end.of cs)) (given_out t p cs h)

    -- what is sent in a turn after which nothing waits
    sent : (t : ℕ) (es : List Entry) (cs : List X) → Every (end.IsAt t) cs → end.IsBy t (end.trace es)
        → IsGood end (cs ++ end.trace es) → waiting (layer end (cs ++ end.trace es)) ≡ []
        → (x : L.Entry) (p : Packet) → Ever (λ y. y ≡ x) (added end (end.trace es) cs) → IsIn p x.out
        → (x.at ≡ t) × GivesOut t end.place p (map end.of cs)
    sent t es cs at by good none x p there out =
        let G : Endpoint → List ℕ → Type 0 = λ from bytes. Ever (λ c. end.Fed c from bytes) cs in
        let times = all_timely end t G cs (end.trace es) by at (λ from bytes k. k) in
        let k = sent_when t G p x (added end (end.trace es) cs) times there out in (
          k.0,
          given_out t p cs (⊎_elim (λ w. absurd (subst (IsIn p) none w)) (λ g. g)
              (kept end others p cs (end.trace es) good (inr k.1))),
        )

  -- nothing of the other end is in a turn
  never_far : (x : L.Entry) (xs : List L.Entry) → Ever (OnFar (λ y. y ≡ x)) (map Near xs) → ⊥
  never_far x [] h = h
  never_far x (y ∷ xs) (inl h) = h
  never_far x (y ∷ xs) (inr h) = never_far x xs h

  never_near : (x : L.Entry) (xs : List L.Entry) → Ever (OnNear (λ y. y ≡ x)) (map Far xs) → ⊥
  never_near x [] h = h
  never_near x (y ∷ xs) (inl h) = h
  never_near x (y ∷ xs) (inr h) = never_near x xs h

  -- a turn, before and after which nothing waits
  pub record Turned (t : ℕ) (entries es : List Entry) : Type 0 where
    pub still : Still config t es
    pub good_client : client_turns.IsGood config (client_of (entries ++ es))
    pub good_server : server_turns.IsGood config (server_trace config (entries ++ es))
    pub none_client : waiting (client_layer config (client_of (entries ++ es))) ≡ []
    pub none_server : waiting (server_layer config (server_trace config (entries ++ es))) ≡ []

  pub near_given : (t : ℕ) (entries es : List Entry) → Turned t entries es
      → ClientTurn t entries ⊎ ServerTurn t entries → (x : L.Entry) (p : Packet)
      → Ever (OnNear (λ y. y ≡ x)) (front config entries es) → IsIn p x.out
      → (x.at ≡ t) × GivesOut t config.addresses.client p entries
  near_given t entries es turned (inl turn) x p h out =
      let cs : List C.Call = client_turns.turn_calls turn.on.outs turn.on.reports turn.calls in
      let is : entries ≡ map OfClient cs = turn.on.is in
      let calls : client_of (entries ++ es) ≡ cs ++ client_of es =
      ap (λ z. client_of (z ++ es)) is ∙ client_client cs es in
      let there = of_map Near (OnNear (λ y. y ≡ x)) (added (client_side config) (client_of es) cs)
      (subst (Ever (OnNear (λ y. y ≡ x)))
      (ap (λ z. front config z es) is ∙ front_of (client_side config) cs es) h) in
      let k = sent (client_side config) client_others t es cs
      (client_turns.all_at t turn.on.outs turn.on.reports turn.calls turn.at) turned.still.client
      (subst (client_turns.IsGood config) calls turned.good_client)
      (subst (λ z. waiting (client_layer config z) ≡ []) calls turned.none_client) x p there out in
      (k.0, subst (GivesOut t config.addresses.client p) (sym is) k.1)
  near_given t entries es turned (inr turn) x p h out =
      let cs : List S.Call = server_turns.turn_calls turn.on.outs turn.calls in
      absurd (never_near x (added (server_side config) (server_trace config es) cs)
      (subst (Ever (OnNear (λ y. y ≡ x)))
      (ap (λ z. front config z es) turn.on.is ∙ front_of (server_side config) cs es) h))

  pub far_given : (t : ℕ) (entries es : List Entry) → Turned t entries es
      → ClientTurn t entries ⊎ ServerTurn t entries → (x : L.Entry) (p : Packet)
      → Ever (OnFar (λ y. y ≡ x)) (front config entries es) → IsIn p x.out
      → (x.at ≡ t) × GivesOut t config.addresses.server p entries
  far_given t entries es turned (inr turn) x p h out =
      let cs : List S.Call = server_turns.turn_calls turn.on.outs turn.calls in
      let is : entries ≡ map OfServer cs = turn.on.is in
      let calls : server_trace config (entries ++ es) ≡ cs ++ server_trace config es =
      ap (λ z. server_trace config (z ++ es)) is ∙ trace_is config cs es in
      let there = of_map Far (OnFar (λ y. y ≡ x)) (added (server_side config) (server_trace config es) cs)
      (subst (Ever (OnFar (λ y. y ≡ x)))
      (ap (λ z. front config z es) is ∙ front_of (server_side config) cs es) h) in
      let k = sent (server_side config) server_others t es cs
      (server_turns.all_at t turn.on.outs turn.calls turn.at) turned.still.server
      (subst (server_turns.IsGood config) calls turned.good_server)
      (subst (λ z. waiting (server_layer config z) ≡ []) calls turned.none_server) x p there out in
      (k.0, subst (GivesOut t config.addresses.server p) (sym is) k.1)
  far_given t entries es turned (inl turn) x p h out =
      let cs : List C.Call = client_turns.turn_calls turn.on.outs turn.on.reports turn.calls in
      absurd (never_far x (added (client_side config) (client_of es) cs)
      (subst (Ever (OnFar (λ y. y ≡ x)))
      (ap (λ z. front config z es) turn.on.is ∙ front_of (client_side config) cs es) h))
