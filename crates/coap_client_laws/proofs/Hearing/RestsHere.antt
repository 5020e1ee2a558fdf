-- A tick at which nothing of the message layer was due is one of that layer, at the moment of the call.
use Rattle.std.proofs.Common.{◌≡◌, ◌≤◌, inl, inr, ℕ, max, Bool, List, [], ◌∷◌, ◌++◌, refl, sym, subst, arith, Result}
use Rattle.coap_types.specs.Past.{Ever}
use Rattle.coap_types.proofs.Facts.Traces.{Ever_front, Ever_back}
use Rattle.coap_types.specs.declared.endpoint.Endpoint.{Endpoint}
use Rattle.coap_layer.specs.Machine.Steps as G
use Rattle.coap_layer.specs.Rested.{RestsFrom}
use Rattle.coap_layer.specs.Trace as L
use Rattle.coap_layer.specs.declared.setup.Setup.{Setup}
use Rattle.coap_block.specs.Sizes.{Sizes}
use Rattle.coap_exchange.specs.declared.asker.AskRefusal.{AskRefusal}
use Rattle.coap_exchange.specs.declared.asker.Turn.{Turn}
use Rattle.coap_exchange.specs.AskerTrace as E
use Rattle.coap_exchange.specs.AskerSteps as P
use Rattle.coap_exchange.specs.AskerLaw as W
use Rattle.coap_exchange.specs.Adds.{asked_by_client}
use Rattle.coap_exchange.proofs.Facts.ComesUp.{entry_of}
use Rattle.coap_client.specs.Trace.{Call, Ticks}
use Rattle.coap_client.specs.Deeds.{close, deeds, done_for, effect}
use Rattle.coap_client.specs.Effects.{Effect}
use Rattle.coap_client.specs.Steps.{lower}
use Rattle.coap_client.specs.Law.{ClientLaw, own_of, lower_of}
use Rattle.coap_client_laws.specs.Follows.Adds.{call_asks, call_adds}
use Rattle.coap_client_laws.proofs.Sending.ApartLists.{Every}
use Rattle.coap_client_laws.proofs.Sending.Begun.{steps_here}
use Rattle.coap_client_laws.proofs.Sending.Moments.{ticks_from}

abbrev IsIdle : L.Call → L.Answer → Type 0
IsIdle call answer = (call ≡ L.Ticks) × (answer ≡ L.Idle)

abbrev IsIdleTick : E.Call → Type 0
IsIdleTick (E.Ticks now L.Idle turn) = Unit {0}
IsIdleTick _ = ⊥

idle_in : (s : E.Own) (c : E.Call) → IsIdleTick c → Ever (λ (b : G.Asked). IsIdle b.call b.answer) (P.lower s c)
idle_in s (E.Ticks now L.Idle turn) h = inl (refl, refl)
idle_in s _ h = absurd h

asked_idle : (server : Endpoint) (setup : Setup) (past later : List E.Call) → Ever IsIdleTick later
    → Ever (λ (b : G.Asked). IsIdle b.call b.answer) (asked_by_client server setup past later)
asked_idle server setup past [] h = absurd h
asked_idle server setup past (c ∷ later) (inl h) = Ever_front (λ (b : G.Asked). IsIdle b.call b.answer)
    (P.lower (W.own_of server setup (later ++ past)) c) (asked_by_client server setup past later)
    (idle_in (W.own_of server setup (later ++ past)) c h)
asked_idle server setup past (c ∷ later) (inr h) = Ever_back (λ (b : G.Asked). IsIdle b.call b.answer)
    (P.lower (W.own_of server setup (later ++ past)) c) (asked_by_client server setup past later)
    (asked_idle server setup past later h)

from_there : (when : ℕ) (es : List L.Entry) → Every (λ (e : L.Entry). e.call ≡ L.Ticks → when ≤ e.at) es
    → Ever (λ (e : L.Entry). IsIdle e.call e.answer) es → Ever (RestsFrom when) es
from_there when [] from h = absurd h
from_there when (e ∷ es) from (inl h) = inl (record { call = h.0; answer = h.1; from = from.0 h.0 })
from_there when (e ∷ es) from (inr h) = inr (from_there when es from.1 h)

-- the input of a tick stands behind what was done for it
behind_deeds : (e : Effect) (at word : ℕ) (sent : L.Answer) (token : Result (List ℕ) AskRefusal) (kept : Bool)
    (t : Turn)
    → Ever IsIdleTick (done_for e at word sent token kept (E.Ticks at L.Idle t))
behind_deeds e at word sent token kept t =
    let c = close at e token in
    Ever_back IsIdleTick (deeds c.deed c.own at word sent token kept)
    (deeds e.deed e.own at word sent token kept ++ E.Ticks at L.Idle t ∷ [])
    (Ever_back IsIdleTick (deeds e.deed e.own at word sent token kept) (E.Ticks at L.Idle t ∷ []) (inl tt))

pub rests_here : (server : Endpoint) (sizes : Sizes) (setup : Setup) (past : List Call) (now word : ℕ) (t : Turn)
    (sent : L.Answer) (token : Result (List ℕ) AskRefusal) (kept answer : Bool)
    → ClientLaw server sizes setup (Ticks now word L.Idle t sent token kept answer ∷ past)
    → Ever (RestsFrom now) (call_adds server sizes setup past (Ticks now word L.Idle t sent token kept answer))
rests_here server sizes setup past now word t sent token kept answer law =
    let c : Call = Ticks now word L.Idle t sent token kept answer in
    let k = steps_here server sizes setup past c law in
    let there = asked_idle server setup (lower_of sizes past) (lower (own_of sizes past) c)
    (behind_deeds (effect (own_of sizes past) c) (max (own_of sizes past).clock now) word sent token kept t) in
    let idle = subst (Ever (λ (e : L.Entry). IsIdle e.call e.answer)) (sym k.3)
    (entry_of IsIdle k.0 k.1 (call_asks server sizes setup past c) k.2 there) in
    let m : ℕ = max (own_of sizes past).clock now in
    sooner m now (omega arith) (call_adds server sizes setup past c)
    (from_there m (call_adds server sizes setup past c) (ticks_from server sizes setup past c) idle)
  where
    sooner : (m n : ℕ) → n ≤ m → (es : List L.Entry) → Ever (RestsFrom m) es → Ever (RestsFrom n) es
    sooner m n le [] h = h
    sooner m n le (e ∷ es) (inl h) = inl
        (record { call = h.call; answer = h.answer; from = (let f = h.from in omega (arith, le, f)) })
    sooner m n le (e ∷ es) (inr h) = inr (sooner m n le es h)
