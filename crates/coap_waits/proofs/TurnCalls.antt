-- A turn of a client over a link is made of calls of these kinds alone: what is out is taken, datagrams are fed, and
-- time passes.
use Rattle.std.proofs.Common.{◌≡◌, ℕ, Bool, true, List, [], ◌∷◌, ◌++◌, Option, Some, None, Result, Ok, Err, refl, sym}
use Rattle.std.proofs.Common.{subst}
use Rattle.std.proofs.Common.{OnOk, inl, inr, false}
use Rattle.coap_types.specs.declared.endpoint.Endpoint.{Endpoint}
use Rattle.coap_layer.specs.Trace as layer
use Rattle.coap_client.specs.Led.{State, Step}
use Rattle.coap_client.specs.Trace.{Call, Feeds, NextOut, Ticks}
use Rattle.coap_links.specs.Carried.{Packet}
use Rattle.coap_links.specs.Pumping.{IsFedOrLost, SendsAll}
use Rattle.coap_links.specs.Turning.{Rests, Steps, Turns, further, next_word, none, pumped}
use Rattle.coap_links.specs.declared.driver.Pumped.{Pumped}
use Rattle.coap_links.specs.declared.tally.Tally.{Tally}
use Rattle.coap_waits.specs.Asks.{AsksNothing, Chain, Each, Turned, TurnsAt}
use Rattle.coap_waits.specs.Linked.{client_feeds, client_gives, client_ticks}

pub chain_join : (old mid new : State) (later earlier : List Call) → Chain old earlier mid → Chain mid later new
    → Chain old (later ++ earlier) new
chain_join old mid new [] earlier h k = subst (Chain old earlier) (sym k) h
chain_join old mid new (c ∷ later) earlier h k = (k.0, chain_join old mid k.0 later earlier h k.1, k.2)

pub each_join : (like : Call → Type 0) (later earlier : List Call) → Each like later → Each like earlier
    → Each like (later ++ earlier)
each_join like [] earlier a b = b
each_join like (c ∷ later) earlier a b = (a.0, each_join like later earlier a.1 b)

pub turned_on : (like : Call → Type 0) (old mid new : State) → Turned like old mid → Turned like mid new
    → Turned like old new
turned_on like old mid new a b =
    (b.0 ++ a.0, each_join like b.0 a.0 b.1 a.1, chain_join old mid new b.0 a.0 a.2 b.2)

pub turned_here : (like : Call → Type 0) (old new : State) → new ≡ old → Turned like old new
turned_here like old new is = ([], tt, is)

pub turned_by : (like : Call → Type 0) (old new : State) (c : Call) → like c → Step old c new → Turned like old new
turned_by like old new c is step = (c ∷ [], (is, tt), (old, refl, step))

-- of a turn at this moment
module _ {L : Type 0} (like : Call → Type 0) (now : ℕ) (waiting : State → List layer.Packet)
    (gives : State → layer.Packet → State → Type 0)
    (sends : L → Endpoint → List ℕ → L → Type 0) (receives : L → Option Packet → L → Type 0) (faults : L → ℕ)
    (quiet_feed : State → ℕ → Endpoint → List ℕ → Type 0)
    (feeds : State → ℕ → Endpoint → List ℕ → ℕ → State → Type 0)
    (quiet_tick : State → ℕ → Type 0) (ticks : State → ℕ → ℕ → Bool → State → Type 0)
    (given : (old : State) (p : layer.Packet) (new : State) → gives old p new → Turned like old new)
    (fed : (old : State) (from : Endpoint) (bytes : List ℕ) (word : ℕ) (new : State)
    → feeds old now from bytes word new → Turned like old new)
    (ticked : (old : State) (word : ℕ) (did : Bool) (new : State) → ticks old now word did new
    → Turned like old new)
  where
    sent_turned : (e : State) (l : L) (ps : List layer.Packet) (f : State) (m : L) → SendsAll gives sends e l ps f m
        → Turned like e f
    sent_turned e l [] f m h = turned_here like e f h.0
    sent_turned e l (p ∷ ps) f m h =
        turned_on like e h.0 f (given e p h.0 h.2) (sent_turned h.0 h.1 ps f m h.4)

    fed_turned : {X : Type 0} (e : State) (came : Option Packet) (word : ℕ) (f : State) (r : Result Pumped X)
        → IsFedOrLost quiet_feed feeds e now came word f r → Turned like e f
    fed_turned e None word f (Ok p) h = turned_here like e f h.0
    fed_turned e (Some q) word f (Ok p) h = fed e q.0 q.1 word f h.0
    fed_turned e None word f (Err x) h = absurd h
    fed_turned e (Some q) word f (Err x) h = turned_here like e f h.1

    stepped : (e : State) (t : Tally) {g : State} {v : Tally} → Steps ticks e now t g v → Turned like e g
    stepped e t none = turned_here like e e refl
    stepped e t (further g v f steps tick) =
        turned_on like e g f (stepped e t steps) (ticked g (next_word v) true f tick)

    rested : (e : State) (t : Tally) (f : State) (u : Tally) → Rests quiet_tick ticks e now t f u → Turned like e f
    rested e t f u h = elim h [
      | inl last ↦ ticked e (next_word t) false f last.0
      | inr lost ↦ turned_here like e f lost.1
    ]

    -- a whole turn
    pub turn_turned : (e : State) (l : L) (t : Tally) (f : State) (m : L) (u : Tally)
        → Turns waiting gives sends receives faults quiet_feed feeds quiet_tick ticks e l now t f m u → Turned like e f
    unfolding Turns
    turn_turned e l t f m u h =
        let g = h.0 in
        let pump = h.2 in
        let ticks_out = h.3 in
        let sent : Turned like e pump.0 = sent_turned e l (waiting e) pump.0 pump.1 pump.3 in
        let came : Turned like pump.0 g = fed_turned pump.0 pump.2 (next_word t) g h.1 pump.6 in
        let ticked : Turned like g ticks_out.0 = stepped g (pumped h.1 t) ticks_out.2 in
        turned_on like e g f (turned_on like e pump.0 g sent came)
        (turned_on like g ticks_out.0 f ticked (rested ticks_out.0 ticks_out.1 f u ticks_out.3))

-- ---- a turn of a client

pub client_turned : {L : Type 0} (like : Call → Type 0) (nothing : (c : Call) → AsksNothing c → like c)
    (waiting : State → List layer.Packet) (sends : L → Endpoint → List ℕ → L → Type 0)
    (receives : L → Option Packet → L → Type 0) (faults : L → ℕ) (quiet_feed : State → ℕ → Endpoint → List ℕ → Type 0)
    (quiet_tick : State → ℕ → Type 0) (e : State) (l : L) (now : ℕ) (t : Tally) (f : State) (m : L) (u : Tally)
    → Turns waiting client_gives sends receives faults quiet_feed client_feeds quiet_tick client_ticks e l now t f m u
    → Turned like e f
client_turned like nothing waiting sends receives faults quiet_feed quiet_tick e l now t f m u h =
    turn_turned like now waiting client_gives sends receives faults quiet_feed client_feeds quiet_tick client_ticks
    (λ old p new k. turned_by like old new (NextOut (Some p)) (nothing (NextOut (Some p)) tt) k)
    (λ old from bytes word new k. turned_by like old new (Feeds now from bytes word k.0 k.1 k.2 k.3 k.4 k.5)
    (nothing (Feeds now from bytes word k.0 k.1 k.2 k.3 k.4 k.5) tt) k.6)
    (λ old word did new k. turned_by like old new (Ticks now word k.0 k.1 k.2 k.3 k.4 did)
    (nothing (Ticks now word k.0 k.1 k.2 k.3 k.4 did) tt) k.5)
    e l t f m u h

-- .. and each of them is at the moment of the turn
pub client_turned_at : {L : Type 0} (waiting : State → List layer.Packet) (sends : L → Endpoint → List ℕ → L → Type 0)
    (receives : L → Option Packet → L → Type 0) (faults : L → ℕ) (quiet_feed : State → ℕ → Endpoint → List ℕ → Type 0)
    (quiet_tick : State → ℕ → Type 0) (e : State) (l : L) (now : ℕ) (t : Tally) (f : State) (m : L) (u : Tally)
    → Turns waiting client_gives sends receives faults quiet_feed client_feeds quiet_tick client_ticks e l now t f m u
    → Turned (TurnsAt now) e f
client_turned_at waiting sends receives faults quiet_feed quiet_tick e l now t f m u h =
    turn_turned (TurnsAt now) now waiting client_gives sends receives faults quiet_feed client_feeds quiet_tick
    client_ticks
    (λ old p new k. turned_by (TurnsAt now) old new (NextOut (Some p)) tt k)
    (λ old from bytes word new k. turned_by (TurnsAt now) old new (Feeds now from bytes word k.0 k.1 k.2 k.3 k.4 k.5)
    refl k.6)
    (λ old word did new k. turned_by (TurnsAt now) old new (Ticks now word k.0 k.1 k.2 k.3 k.4 did) refl k.5)
    e l t f m u h

-- what is out is sent
pub client_sent : {L : Type 0} (like : Call → Type 0) (taken : (p : layer.Packet) → like (NextOut (Some p)))
    (sends : L → Endpoint → List ℕ → L → Type 0) (e : State) (l : L) (ps : List layer.Packet) (f : State) (m : L)
    → SendsAll client_gives sends e l ps f m → Turned like e f
client_sent like taken sends e l [] f m h = turned_here like e f h.0
client_sent like taken sends e l (p ∷ ps) f m h =
    turned_on like e h.0 f (turned_by like e h.0 (NextOut (Some p)) (taken p) h.2)
    (client_sent like taken sends h.0 h.1 ps f m h.4)

-- what holds, whatever an answer is, holds where it is one
pub on_ok : {X E P : Type 0} (r : Result X E) → P → OnOk r P
on_ok (Ok x) h = h
on_ok (Err e) h = tt

-- what goes on was borne
pub was_borne : {E : Type 0} (r s : Result (Unit {0}) E) → r ≡ s → OnOk r (s ≡ Ok tt)
was_borne (Ok x) s is = sym is
was_borne (Err e) s is = tt
