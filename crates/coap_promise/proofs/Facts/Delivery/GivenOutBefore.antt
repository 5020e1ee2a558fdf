-- What comes from an end's address in a legal run was given out by that end, at most 100,000 ms before.
use Rattle.std.proofs.Common.{◌≡◌, inl, inr, ◌≤◌, ◌<◌, ℕ, Bool, true, false, Option, Some, None, List, [], ◌∷◌, ◌++◌}
use Rattle.std.proofs.Common.{map, length, ap, sym, subst, ◌∙◌, arith}
use Rattle.coap_types.specs.Past.{Ever, Sometime, Always, all_of}
use Rattle.coap_types.specs.declared.endpoint.Endpoint.{Endpoint}
use Rattle.coap_layer.specs.Trace.{Packet}
use Rattle.coap_record.specs.Record.{Given, given_as, IsOne, AreTicks, Entry, OfClient, OfServer, Turn, given_by}
use Rattle.coap_record.specs.Record.{given_in, IsNumber, OnClient, OnServer, ClientTick, ServerTick, Makes}
use Rattle.coap_types.proofs.Facts.Traces.{Ever_map, Ever_append, Ever_of_Sometime}
use Rattle.coap_record.specs.Events.{What, Cancels, Forgets, Sets, Removes}
use Rattle.coap_record.specs.Events.{TickClient, TickServer, Deliver, StrangerToClient, StrangerToServer}
use Rattle.coap_record.specs.Legal.{NotBefore, MayCome, AllLegal}
use Rattle.coap_promise.specs.Delivery.{GaveOut, FedToServer, FedToClient, AllFair, arrives}
use Rattle.coap_client.specs.Trace as C
use Rattle.coap_server.specs.Trace as S
use Rattle.coap_record.specs.declared.addresses.Addresses.{Addresses}

pub as_at : (at : ℕ) (from : Endpoint) (o : Option Packet) (g : Given) → Ever (λ h. h ≡ g) (given_as at from o)
    → g.at ≡ at
as_at at from None g h = absurd h
as_at at from (Some p) g (inl h) = sym (ap (λ (x : Given). x.at) h)
as_at at from (Some p) g (inr h) = absurd h

-- a number is of one datagram

pub below_length : {A : Type 0} (n : ℕ) (x : A) (t : List A) → Sometime (λ before s. (s ≡ x) × (length before ≡ n)) t
    → n < length t
below_length n x [] h = absurd h
below_length n x (y ∷ t) (inl h) = omega (arith, h.1)
below_length n x (y ∷ t) (inr h) = omega (arith, below_length n x t h)

pub number_unique : {A : Type 0} (n : ℕ) (x y : A) (t : List A) → Sometime (λ before s. (s ≡ x) × (length before ≡ n)) t
    → Sometime (λ before s. (s ≡ y) × (length before ≡ n)) t → x ≡ y
number_unique n x y [] h k = absurd h
number_unique n x y (z ∷ t) (inl h) (inl k) = sym h.0 ∙ k.0
number_unique n x y (z ∷ t) (inl h) (inr k) = absurd (omega (arith, h.1, below_length n y t k))
number_unique n x y (z ∷ t) (inr h) (inl k) = absurd (omega (arith, k.1, below_length n x t h))
number_unique n x y (z ∷ t) (inr h) (inr k) = number_unique n x y t h k

-- what a turn feeds is its call

pub of_map : {A B : Type 0} (f : A → B) (P : B → Type 0) (xs : List A) → Ever P (map f xs) → Ever (λ x. P (f x)) xs
of_map f P [] h = h
of_map f P (x ∷ xs) (inl h) = inl h
of_map f P (x ∷ xs) (inr h) = inr (of_map f P xs h)

pub none_in : {A : Type 0} (P : A → Type 0) (xs : List A) → ((x : A) → P x → ⊥) → Ever P xs → ⊥
none_in P (x ∷ xs) f (inl h) = f x h
none_in P (x ∷ xs) f (inr h) = none_in P xs f h
none_in P [] f h = h

pub one_call : {X : Type 0} (Is P : X → Type 0) (refused : Bool) (calls : List X) → IsOne Is refused calls
    → Ever P calls → (c : X) × Is c × P c
one_call Is P true calls one h = absurd (subst (Ever P) one h)
one_call Is P false calls one h = elim (subst (Ever P) one.2 h) [ inl p ↦ (one.0, one.1, p) | inr q ↦ absurd q ]

some_of : {X : Type 0} (T P : X → Type 0) (calls : List X) → Always (λ past c. T c) calls → Ever P calls
    → (c : X) × T c × P c
some_of T P [] all h = absurd h
some_of T P (c ∷ calls) all (inl h) = (c, all.0, h)
some_of T P (c ∷ calls) all (inr h) = some_of T P calls all.1 h

pub tick_of : {X : Type 0} (IsTick : Bool → X → Type 0) (P : X → Type 0) (refused : Bool) (calls : List X)
    → AreTicks IsTick refused calls → Ever P calls → (c : X) × (b : Bool) × IsTick b c × P c
tick_of IsTick P true calls ticks h = let k = some_of (IsTick true) P calls ticks h in (k.0, true, k.1, k.2)
tick_of IsTick P false [] ticks h = absurd ticks
tick_of IsTick P false (c ∷ earlier) ticks (inl h) = (c, false, ticks.0, h)
tick_of IsTick P false (c ∷ earlier) ticks (inr h) = let k =
    some_of (IsTick true) P earlier ticks.1 h in (k.0, true, k.1, k.2)

pub packet_is : (p : Packet) (to : Endpoint) (bytes : List ℕ) → p.to ≡ to → p.bytes ≡ bytes
    → p ≡ record { to = to; bytes = bytes }
packet_is p to bytes h k = ap {B = Packet} (λ t. record { to = t; bytes = p.bytes }) h
    ∙ ap {B = Packet} (λ b. record { to = to; bytes = b }) k

-- moments of what was given out

by_at : (addresses : Addresses) (at : ℕ) (e : Entry) (g : Given) → Ever (λ h. h ≡ g) (given_by addresses at e) → g.at
    ≡ at
by_at addresses at (OfClient (C.NextOut o)) g h = as_at at addresses.client o g h
by_at addresses at (OfServer (S.NextOut o)) g h = as_at at addresses.server o g h
by_at addresses at _ g h = absurd h

in_at : (addresses : Addresses) (at : ℕ) (es : List Entry) (g : Given)
    → Ever (λ h. h ≡ g) (all_of (given_by addresses at) es) → g.at ≡ at
in_at addresses at [] g h = absurd h
in_at addresses at (e ∷ es) g h = elim (Ever_append (λ x. x ≡ g) (given_by addresses at e)
    (all_of (given_by addresses at) es) h)
    [ inl p ↦ by_at addresses at e g p | inr q ↦ in_at addresses at es g q ]

pub not_later : (addresses : Addresses) (past : List Turn) (at : ℕ) (g : Given) → AllLegal addresses past
    → NotBefore past at
    → Ever (λ h. h ≡ g) (all_of (given_in addresses) past) → g.at ≤ at
not_later addresses [] at g legal n h = absurd h
not_later addresses (t ∷ past) at g legal n h = elim (Ever_append (λ x. x ≡ g) (given_in addresses t)
    (all_of (given_in addresses) past) h) [
      | inl p ↦ (let e = in_at addresses t.event.at t.entries g p in omega (arith, e, n))
      | inr q ↦ (let k = not_later addresses past t.event.at g legal.1 legal.0.later q in omega (arith, k, n))
    ]

-- what a turn feeds is its call

-- the calls of a turn, with what is taken after them
abbrev outs_then : List Packet → List S.Call → List S.Call
outs_then outs calls = map (λ p. S.NextOut (Some p)) outs ++ calls

abbrev server_calls : List Packet → List S.Call → List S.Call
server_calls outs calls = S.NextOut None ∷ outs_then outs calls

abbrev outs_of : List Packet → List C.Call → List C.Call
outs_of outs calls = map (λ p. C.NextOut (Some p)) outs ++ calls

abbrev client_calls : List Packet → List C.Reported → List C.Call → List C.Call
client_calls outs reports calls = C.NextReport None ∷
    (map (λ r. C.NextReport (Some r)) reports ++ C.NextOut None ∷ outs_of outs calls)

pub server_call : (from : Endpoint) (bytes : List ℕ) (calls : List S.Call) (entries : List Entry)
    → OnServer calls entries
    → Ever (FedToServer from bytes) entries → Ever (λ c. FedToServer from bytes (OfServer c)) calls
server_call from bytes calls entries on h = first
    (of_map OfServer (FedToServer from bytes) (server_calls on.outs calls)
    (subst (Ever (FedToServer from bytes)) on.is h))
  where
    P : S.Call → Type 0
    P c = FedToServer from bytes (OfServer c)

    behind : Ever P (outs_then on.outs calls) → Ever P calls
    behind k = elim (Ever_append P (map (λ p. S.NextOut (Some p)) on.outs) calls k) [
      | inl r ↦ absurd (none_in (λ (p : Packet). P (S.NextOut (Some p))) on.outs (λ p w. cc w)
          (of_map (λ (p : Packet). S.NextOut (Some p)) P on.outs r))
      | inr w ↦ w
    ]

    first : Ever P (server_calls on.outs calls) → Ever P calls
    first (inl k) = absurd (cc k)
    first (inr k) = behind k

-- the datagram that arrives in a call is that of the call
pub arrives_so : {from : Endpoint} {bytes : List ℕ} {c d : S.Call} → c ≡ d → FedToServer from bytes (OfServer c)
    → arrives d ≡ Some (from, bytes)
arrives_so is h = sym (ap arrives is) ∙ h

abbrev Datagram : Type 0
Datagram = Endpoint × List ℕ

same_datagram : (a b : Datagram) → Some a ≡ Some b → a ≡ b
same_datagram a b h = cc h

pub same_source : (source from : Endpoint) (given bytes : List ℕ)
    → ◌≡◌ {A = Option Datagram} (Some (source, given)) (Some (from, bytes)) → source ≡ from
same_source source from given bytes h =
    ap (λ (d : Datagram). d.0) (same_datagram (source, given) (from, bytes) h)

pub same_bytes : (source from : Endpoint) (given bytes : List ℕ)
    → ◌≡◌ {A = Option Datagram} (Some (source, given)) (Some (from, bytes)) → given ≡ bytes
same_bytes source from given bytes h =
    ap (λ (d : Datagram). d.1) (same_datagram (source, given) (from, bytes) h)

pub client_call : (from : Endpoint) (bytes : List ℕ) (calls : List C.Call) (entries : List Entry)
    → OnClient calls entries
    → Ever (FedToClient from bytes) entries → Ever (λ c. FedToClient from bytes (OfClient c)) calls
client_call from bytes calls entries on h = first
    (of_map OfClient (FedToClient from bytes) (client_calls on.outs on.reports calls)
    (subst (Ever (FedToClient from bytes)) on.is h))
  where
    P : C.Call → Type 0
    P c = FedToClient from bytes (OfClient c)

    behind : Ever P (outs_of on.outs calls) → Ever P calls
    behind k = elim (Ever_append P (map (λ p. C.NextOut (Some p)) on.outs) calls k) [
      | inl r ↦ absurd (none_in (λ (p : Packet). P (C.NextOut (Some p))) on.outs (λ p w. cc (w.8))
          (of_map (λ (p : Packet). C.NextOut (Some p)) P on.outs r))
      | inr w ↦ w
    ]

    last : Ever P (C.NextOut None ∷ outs_of on.outs calls) → Ever P calls
    last (inl k) = absurd (cc (k.8))
    last (inr k) = behind k

    middle : Ever P (map (λ r. C.NextReport (Some r)) on.reports ++ C.NextOut None ∷ outs_of on.outs calls)
        → Ever P calls
    middle k = elim (Ever_append P (map (λ r. C.NextReport (Some r)) on.reports)
        (C.NextOut None ∷ outs_of on.outs calls) k) [
          | inl r ↦ absurd (none_in (λ (p : C.Reported). P (C.NextReport (Some p))) on.reports (λ p w. cc (w.8))
              (of_map (λ (p : C.Reported). C.NextReport (Some p)) P on.reports r))
          | inr w ↦ last w
        ]

    first : Ever P (client_calls on.outs on.reports calls) → Ever P calls
    first (inl k) = absurd (cc (k.8))
    first (inr k) = middle k

pub never_there : (from : Endpoint) (bytes : List ℕ) (calls : List C.Call) (entries : List Entry)
    → OnClient calls entries
    → Ever (FedToServer from bytes) entries → ⊥
never_there from bytes calls entries on h =
    none_in (λ (c : C.Call). ⊥) (client_calls on.outs on.reports calls) (λ c k. k)
    (of_map OfClient (FedToServer from bytes) (client_calls on.outs on.reports calls)
    (subst (Ever (FedToServer from bytes)) on.is h))

pub never_here : (from : Endpoint) (bytes : List ℕ) (calls : List S.Call) (entries : List Entry)
    → OnServer calls entries
    → Ever (FedToClient from bytes) entries → ⊥
never_here from bytes calls entries on h =
    none_in (λ (c : S.Call). ⊥) (server_calls on.outs calls) (λ c k. k)
    (of_map OfServer (FedToClient from bytes) (server_calls on.outs calls)
    (subst (Ever (FedToClient from bytes)) on.is h))

-- the datagram of a number
module _ (addresses : Addresses) (past : List Turn) (at : ℕ) (number : ℕ) (legal : AllLegal addresses past)
    (later : NotBefore past at)
    (may : MayCome addresses past at (Deliver number)) (g : Given) (is : IsNumber addresses number g past) where
  gave : (from to : Endpoint) (bytes : List ℕ) → g.from ≡ from → g.packet.to ≡ to → g.packet.bytes ≡ bytes
      → Ever (GaveOut from to bytes at) (all_of (given_in addresses) past)
  gave from to bytes f t b =
      let here : Ever (λ h. h ≡ g) (all_of (given_in addresses) past) =
      Ever_of_Sometime _ (λ h. h ≡ g) (λ before h k. inl k.0) (all_of (given_in addresses) past) is in
      let same : may.0 ≡ g = number_unique number may.0 g (all_of (given_in addresses) past) may.1 is in
      let y = may.3 in
      let e : may.0.at ≡ g.at = ap (λ (x : Given). x.at) same in
      let n = not_later addresses past at g legal later here in
      Ever_map (λ h. h ≡ g) (GaveOut from to bytes at)
      (λ h k. subst (GaveOut from to bytes at) (sym k)
      (record { packet = packet_is g.packet to bytes t b; by = f; early = n; young = omega (arith, y, e) }))
      (all_of (given_in addresses) past) here

module _ (addresses : Addresses) (past : List Turn) (at word : ℕ) (refused : Bool) (entries : List Entry)
    (legal : AllLegal addresses past)
    (later : NotBefore past at) (bytes : List ℕ) where
  to_server : (what : What) → Makes addresses past at word what refused entries → MayCome addresses past at what
      → Ever (FedToServer addresses.client bytes) entries
      → Ever (GaveOut addresses.client addresses.server bytes at) (all_of (given_in addresses) past)
  to_server (Sets path format body) m may h = let k =
      one_call _ _ refused m.0 m.1 (server_call addresses.client bytes m.0 entries m.2 h) in
      absurd (cc (arrives_so k.1.2 k.2))
  to_server (Removes path) m may h = let k =
      one_call _ _ false m.0 m.1.0 (server_call addresses.client bytes m.0 entries m.2 h) in
      absurd (cc (arrives_so k.1.2 k.2))
  to_server TickServer m may h = let k = tick_of (ServerTick at word) _ refused m.0 m.1
      (server_call addresses.client bytes m.0 entries m.2 h) in absurd (cc (arrives_so k.2.6 k.3))
  to_server (StrangerToServer from b) m may h =
      let k = one_call _ _ refused m.0 m.1 (server_call addresses.client bytes m.0 entries m.2 h) in
      let same : from ≡ addresses.client = same_source _ _ _ _ (arrives_so k.1.4 k.2) in
      absurd (may.0 same)
  to_server (Deliver number) m may h = elim m.2 [
    | inl d ↦ (let k = one_call _ _ refused d.1 d.2 (server_call addresses.client bytes d.1 entries d.3 h) in
        gave addresses past at number legal later may m.0 m.1 addresses.client addresses.server bytes
        (same_source _ _ _ _ (arrives_so k.1.4 k.2)) d.0
        (same_bytes _ _ _ _ (arrives_so k.1.4 k.2)))
    | inr d ↦ absurd (never_there addresses.client bytes d.1 entries d.3 h)
  ]
  to_server _ m may h = absurd (never_there addresses.client bytes m.0 entries m.2 h)

  to_client : (what : What) → Makes addresses past at word what refused entries → MayCome addresses past at what
      → Ever (FedToClient addresses.server bytes) entries
      → Ever (GaveOut addresses.server addresses.client bytes at) (all_of (given_in addresses) past)
  to_client (Cancels number) m may h = let k =
      one_call _ _ false m.0 m.1.0 (client_call addresses.server bytes m.0 entries m.2 h) in absurd (cc (k.1.1, k.2.8))
  to_client (Forgets number) m may h = let k =
      one_call _ _ false m.0 m.1.0 (client_call addresses.server bytes m.0 entries m.2 h) in absurd (cc (k.1.2, k.2.8))
  to_client TickClient m may h = let k = tick_of (ClientTick at word) _ refused m.0 m.1
      (client_call addresses.server bytes m.0 entries m.2 h) in absurd (cc (k.2.5, k.3.8))
  to_client (StrangerToClient from b) m may h =
      let k = one_call _ _ refused m.0 m.1 (client_call addresses.server bytes m.0 entries m.2 h) in
      let same : from ≡ addresses.server = cc (k.1.6, k.2.8) in
      absurd (may.1 same)
  to_client (Sets path format body) m may h = absurd (never_here addresses.server bytes m.0 entries m.2 h)
  to_client (Removes path) m may h = absurd (never_here addresses.server bytes m.0 entries m.2 h)
  to_client TickServer m may h = absurd (never_here addresses.server bytes m.0 entries m.2 h)
  to_client (StrangerToServer from b) m may h = absurd (never_here addresses.server bytes m.0 entries m.2 h)
  to_client (Deliver number) m may h = elim m.2 [
    | inl d ↦ absurd (never_here addresses.server bytes d.1 entries d.3 h)
    | inr d ↦ (let k = one_call _ _ refused d.1 d.2 (client_call addresses.server bytes d.1 entries d.3 h) in
        gave addresses past at number legal later may m.0 m.1 addresses.server addresses.client bytes
        (cc (k.1.6, k.2.8)) d.0
        (cc (k.1.6, k.2.8)))
  ]
  to_client _ m may h =
      let k = one_call _ _ refused m.0 m.1 (client_call addresses.server bytes m.0 entries m.2 h) in
      absurd (cc (k.1.1, k.2.8))

pub all_fair : (addresses : Addresses) (turns : List Turn) → Always
    (λ past t. Makes addresses past t.event.at t.event.word t.event.what t.refused
    t.entries) turns → AllLegal addresses turns → AllFair addresses turns
all_fair addresses [] made legal = tt
all_fair addresses (t ∷ past) made legal = (
  record {
    server = λ bytes h. to_server addresses past t.event.at t.event.word t.refused t.entries legal.1 legal.0.later bytes
        t.event.what made.0 legal.0.comes h;
    client = λ bytes h. to_client addresses past t.event.at t.event.word t.refused t.entries legal.1 legal.0.later bytes
        t.event.what made.0 legal.0.comes h;
  },
  all_fair addresses past made.1 legal.1,
)
