-- The calls of a legal run are in range.
use Rattle.std.proofs.Common.{◌≡◌, inl, inr, ℕ, Bool, false, Some, None, List, [], ◌∷◌, ◌++◌, map, ap, subst, Result}
use Rattle.std.proofs.Common.{Ok, Err}
use Rattle.coap_types.specs.Past.{Ever, Always}
use Rattle.coap_types.proofs.Facts.Traces.{Ever_append}
use Rattle.coap_layer.specs.Trace.{Packet}
use Rattle.coap_client.specs.declared.refusals.CallRefusal.{CallRefusal}
use Rattle.coap_client.specs.Trace as C
use Rattle.coap_client.specs.Trace.{Request}
use Rattle.coap_client.specs.Sendings.{Taken, takes, WasTaken}
use Rattle.coap_server.specs.Trace as S
use Rattle.coap_record.specs.Events.{What, Calls, Observes, Cancels, Forgets, TickClient, Deliver, StrangerToClient}
use Rattle.coap_record.specs.Legal.{IsRequest, InRange, AllLegal}
use Rattle.coap_promise.specs.Clocks.{Clocks, IsLegal}
use Rattle.coap_record.specs.Record.{Entry, OfClient, OfServer, Turn, OnClient, OnServer, Makes, ClientTick, client_of}
use Rattle.coap_record.specs.Record.{entries_of}
use Rattle.coap_promise.proofs.Facts.Delivery.GivenOutBefore.{of_map, none_in, one_call, tick_of}
use Rattle.coap_record.specs.declared.addresses.Addresses.{Addresses}

-- the client takes this operation here
abbrev Takes : Taken → Entry → Type 0
Takes op (OfClient c) = takes c ≡ Some op
Takes op (OfServer c) = ⊥

abbrev Takes_by : Taken → C.Call → Type 0
Takes_by op c = takes c ≡ Some op

in_entries : (op : Taken) (entries : List Entry) → WasTaken op (client_of entries) → Ever (Takes op) entries
in_entries op [] h = h
in_entries op (OfClient c ∷ past) (inl h) = inl h
in_entries op (OfClient c ∷ past) (inr h) = inr (in_entries op past h)
in_entries op (OfServer c ∷ past) h = inr (in_entries op past h)

abbrev then_outs : List Packet → List C.Call → List C.Call
then_outs outs calls = map (λ p. C.NextOut (Some p)) outs ++ calls

abbrev then_reports : List Packet → List C.Reported → List C.Call → List C.Call
then_reports outs reports calls = map (λ r. C.NextReport (Some r)) reports ++ C.NextOut None ∷ then_outs outs calls

in_calls : (op : Taken) (calls : List C.Call) (entries : List Entry) → OnClient calls entries → Ever (Takes op) entries
    → Ever (Takes_by op) calls
in_calls op calls entries on h = first (of_map OfClient (Takes op)
    (C.NextReport None ∷ then_reports on.outs on.reports calls) (subst (Ever (Takes op)) on.is h))
  where
    behind : Ever (Takes_by op) (then_outs on.outs calls) → Ever (Takes_by op) calls
    behind k = elim (Ever_append (Takes_by op) (map (λ p. C.NextOut (Some p)) on.outs) calls k) [
      | inl r ↦ absurd (none_in (λ (p : Packet). Takes_by op (C.NextOut (Some p))) on.outs (λ p w. cc w)
          (of_map (λ (p : Packet). C.NextOut (Some p)) (Takes_by op) on.outs r))
      | inr w ↦ w
    ]

    last : Ever (Takes_by op) (C.NextOut None ∷ then_outs on.outs calls) → Ever (Takes_by op) calls
    last (inl k) = absurd (cc k)
    last (inr k) = behind k

    middle : Ever (Takes_by op) (then_reports on.outs on.reports calls) → Ever (Takes_by op) calls
    middle k = elim (Ever_append (Takes_by op) (map (λ r. C.NextReport (Some r)) on.reports)
        (C.NextOut None ∷ then_outs on.outs calls) k) [
          | inl r ↦ absurd (none_in (λ (p : C.Reported). Takes_by op (C.NextReport (Some p))) on.reports (λ p w. cc w)
              (of_map (λ (p : C.Reported). C.NextReport (Some p)) (Takes_by op) on.reports r))
          | inr w ↦ last w
        ]

    first : Ever (Takes_by op) (C.NextReport None ∷ then_reports on.outs on.reports calls) → Ever (Takes_by op) calls
    first (inl k) = absurd (cc k)
    first (inr k) = middle k

never_there : (op : Taken) (calls : List S.Call) (entries : List Entry) → OnServer calls entries
    → Ever (Takes op) entries → ⊥
never_there op calls entries on h =
    none_in (λ (c : S.Call). ⊥) (S.NextOut None ∷ (map (λ p. S.NextOut (Some p)) on.outs ++ calls)) (λ c k. k)
    (of_map OfServer (Takes op) (S.NextOut None ∷ (map (λ p. S.NextOut (Some p)) on.outs ++ calls))
    (subst (Ever (Takes op)) on.is h))

taken_request : (now : ℕ) (r : Request) (answer : Result ℕ CallRefusal) (op : Taken)
    → takes (C.Calls now r answer) ≡ Some op → r ≡ op.request
taken_request now r (Ok n) op h = ap (λ (x : Taken). x.request)
    (let e : ◌≡◌ {A = Taken} (record { number = n; request = r }) op = cc h in e)
taken_request now r (Err why) op h = absurd (cc h)

module _ (addresses : Addresses) (past : List Turn) (at word : ℕ) (refused : Bool) (entries : List Entry) (op : Taken)
  where
    in_turn : (what : What) → Makes addresses past at word what refused entries → InRange what → Ever (Takes op) entries
        → IsRequest op.request
    in_turn (Calls r) m range h =
        let k = one_call _ _ refused m.0 m.1 (in_calls op m.0 entries m.2 h) in
        subst IsRequest (taken_request at r k.1.0 op (subst (Takes_by op) k.1.1 k.2)) range
    in_turn (Observes path) m range h = let k = one_call _ _ refused m.0 m.1 (in_calls op m.0 entries m.2 h) in absurd
        (cc (ap takes k.1.1, k.2))
    in_turn (Cancels number) m range h = let k =
        one_call _ _ false m.0 m.1.0 (in_calls op m.0 entries m.2 h) in absurd (cc (ap takes k.1.1, k.2))
    in_turn (Forgets number) m range h = let k =
        one_call _ _ false m.0 m.1.0 (in_calls op m.0 entries m.2 h) in absurd (cc (ap takes k.1.2, k.2))
    in_turn TickClient m range h = let k = tick_of (ClientTick at word) _ refused m.0 m.1
        (in_calls op m.0 entries m.2 h) in absurd (cc (ap takes k.2.5, k.3))
    in_turn (StrangerToClient from b) m range h = let k =
        one_call _ _ refused m.0 m.1 (in_calls op m.0 entries m.2 h) in absurd (cc (ap takes k.1.6, k.2))
    in_turn (Deliver number) m range h = elim m.2 [
      | inl d ↦ absurd (never_there op d.1 entries d.3 h)
      | inr d ↦ (let k = one_call _ _ refused d.1 d.2 (in_calls op d.1 entries d.3 h) in absurd
          (cc (ap takes k.1.6, k.2)))
    ]
    in_turn _ m range h = absurd (never_there op m.0 entries m.2 h)

-- each number is in range
abbrev pub AreInRange : List Turn → Type 0
AreInRange turns = Always (λ past (t : Turn). InRange t.event.what) turns

taken_in : (addresses : Addresses) (op : Taken) (turns : List Turn) → Always
    (λ past t. Makes addresses past t.event.at t.event.word t.event.what t.refused t.entries) turns → AreInRange turns
    → Ever (Takes op) (entries_of turns) → IsRequest op.request
taken_in addresses op [] made range h = absurd h
taken_in addresses op (t ∷ past) made range h = elim (Ever_append (Takes op) t.entries (entries_of past) h) [
  | inl k ↦ in_turn addresses past t.event.at t.event.word t.refused t.entries op t.event.what made.0 range.0 k
  | inr k ↦ taken_in addresses op past made.1 range.1 k
]

pub in_range_of : (addresses : Addresses) (op : Taken) (turns : List Turn)
    → Always (λ past t. Makes addresses past t.event.at t.event.word t.event.what t.refused t.entries) turns
    → AreInRange turns
    → WasTaken op (client_of (entries_of turns)) → IsRequest op.request
in_range_of addresses op turns made range h = taken_in addresses op turns made range
    (in_entries op (entries_of turns) h)

-- by one clock, and by two
pub ranges : (addresses : Addresses) (turns : List Turn) → AllLegal addresses turns → AreInRange turns
ranges addresses [] legal = tt
ranges addresses (t ∷ past) legal = (legal.0.range, ranges addresses past legal.1)

pub ranges_by : (addresses : Addresses) (c : Clocks) (turns : List Turn) → Always (IsLegal addresses c) turns
    → AreInRange turns
ranges_by addresses c [] legal = tt
ranges_by addresses c (t ∷ past) legal = (legal.0.range, ranges_by addresses c past legal.1)

pub in_range : (addresses : Addresses) (op : Taken) (turns : List Turn)
    → Always (λ past t. Makes addresses past t.event.at t.event.word t.event.what t.refused t.entries) turns
    → AllLegal addresses turns
    → WasTaken op (client_of (entries_of turns)) → IsRequest op.request
in_range addresses op turns made legal h = in_range_of addresses op turns made (ranges addresses turns legal) h
