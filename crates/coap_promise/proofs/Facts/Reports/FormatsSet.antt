-- The formats of the local changes of a legal run have 16 bits.
use Rattle.std.proofs.Common.{◌<◌, inl, inr, ℕ, Bool, true, false, Some, None, List, [], ◌∷◌, ◌++◌, map, sym, subst}
use Rattle.std.specs.Prelude.{IfSome}
use Rattle.coap_types.specs.Past.{Always}
use Rattle.coap_layer.specs.Trace.{Packet}
use Rattle.coap_client.specs.Trace as C
use Rattle.coap_server.specs.Trace as S
use Rattle.coap_record.specs.Events.{What, Sets, Removes, TickServer, Deliver, StrangerToServer}
use Rattle.coap_record.specs.Legal.{InRange, AllLegal}
use Rattle.coap_promise.proofs.Facts.Requests.CallsInRange.{AreInRange, ranges}
use Rattle.coap_record.specs.Record.{Entry, OfClient, OfServer, Turn, OnClient, OnServer, IsOne, AreTicks, Makes}
use Rattle.coap_record.specs.Record.{ServerTick, entries_of}
use Rattle.coap_record.specs.declared.addresses.Addresses.{Addresses}

abbrev pub FormatIn : S.Call → Type 0
FormatIn (S.Sets now path format body answer left) = IfSome format (λ f. f < 65536)
FormatIn c = Unit {0}

abbrev AllIn : List S.Call → Type 0
AllIn [] = Unit {0}
AllIn (c ∷ t) = FormatIn c × AllIn t

-- those of the server among these entries
abbrev pub FormatsIn : List Entry → Type 0
FormatsIn [] = Unit {0}
FormatsIn (OfClient c ∷ t) = FormatsIn t
FormatsIn (OfServer c ∷ t) = FormatIn c × FormatsIn t

of_client : (cs : List C.Call) → FormatsIn (map OfClient cs)
of_client [] = tt
of_client (c ∷ cs) = of_client cs

of_server : (cs : List S.Call) → AllIn cs → FormatsIn (map OfServer cs)
of_server [] h = tt
of_server (c ∷ cs) h = (h.0, of_server cs h.1)

outs_in : (ps : List Packet) (cs : List S.Call) → AllIn cs → AllIn (map (λ p. S.NextOut (Some p)) ps ++ cs)
outs_in [] cs h = h
outs_in (p ∷ ps) cs h = (tt, outs_in ps cs h)

on_client : (calls : List C.Call) (entries : List Entry) → OnClient calls entries → FormatsIn entries
on_client calls entries on =
    subst FormatsIn (sym on.is) (of_client (C.NextReport None ∷
    (map (λ r. C.NextReport (Some r)) on.reports
    ++ C.NextOut None ∷ (map (λ p. C.NextOut (Some p)) on.outs ++ calls))))

on_server : (calls : List S.Call) (entries : List Entry) → OnServer calls entries → AllIn calls → FormatsIn entries
on_server calls entries on h = subst FormatsIn (sym on.is)
    (of_server (S.NextOut None ∷ (map (λ p. S.NextOut (Some p)) on.outs ++ calls)) (tt, outs_in on.outs calls h))

-- the calls of an input, and of ticks
one_in : (Is : S.Call → Type 0) (refused : Bool) (calls : List S.Call) → ((c : S.Call) → Is c → FormatIn c)
    → IsOne Is refused calls → AllIn calls
one_in Is true calls f one = subst AllIn (sym one) tt
one_in Is false calls f one = subst AllIn (sym one.2) (f one.0 one.1, tt)

tick_in : (at word : ℕ) (b : Bool) (c : S.Call) → ServerTick at word b c → FormatIn c
tick_in at word b c h = subst FormatIn (sym h.6) tt

each_tick : (at word : ℕ) (b : Bool) (calls : List S.Call) → Always (λ past c. ServerTick at word b c) calls
    → AllIn calls
each_tick at word b [] h = tt
each_tick at word b (c ∷ calls) h = (tick_in at word b c h.0, each_tick at word b calls h.1)

ticks_in : (at word : ℕ) (refused : Bool) (calls : List S.Call) → AreTicks (ServerTick at word) refused calls
    → AllIn calls
ticks_in at word true calls h = each_tick at word true calls h
ticks_in at word false [] h = tt
ticks_in at word false (c ∷ calls) h = (tick_in at word false c h.0, each_tick at word true calls h.1)

module _ (addresses : Addresses) (past : List Turn) (at word : ℕ) (refused : Bool) (entries : List Entry) where
  in_turn : (what : What) → Makes addresses past at word what refused entries → InRange what → FormatsIn entries
  in_turn (Sets path format body) m range = on_server m.0 entries m.2
      (one_in _ refused m.0 (λ c h. subst FormatIn (sym h.2) range.1) m.1)
  in_turn (Removes path) m range = on_server m.0 entries m.2
      (one_in _ false m.0 (λ c h. subst FormatIn (sym h.2) tt) m.1.0)
  in_turn (StrangerToServer from bytes) m range =
      on_server m.0 entries m.2 (one_in _ refused m.0 (λ c h. subst FormatIn (sym h.4) tt) m.1)
  in_turn TickServer m range = on_server m.0 entries m.2 (ticks_in at word refused m.0 m.1)
  in_turn (Deliver number) m range = elim m.2 [
    | inl d ↦ on_server d.1 entries d.3 (one_in _ refused d.1 (λ c h. subst FormatIn (sym h.4) tt) d.2)
    | inr d ↦ on_client d.1 entries d.3
  ]
  in_turn _ m range = on_client m.0 entries m.2

behind : (t more : List Entry) → FormatsIn t → FormatsIn more → FormatsIn (t ++ more)
behind [] more h k = k
behind (OfClient c ∷ t) more h k = behind t more h k
behind (OfServer c ∷ t) more h k = (h.0, behind t more h.1 k)

pub formats_in_of : (addresses : Addresses) (turns : List Turn) → Always
    (λ past t. Makes addresses past t.event.at t.event.word t.event.what t.refused t.entries) turns → AreInRange turns
    → FormatsIn (entries_of turns)
formats_in_of addresses [] made range = tt
formats_in_of addresses (t ∷ past) made range =
    behind t.entries (entries_of past) (in_turn addresses past t.event.at t.event.word t.refused t.entries t.event.what
    made.0
    range.0) (formats_in_of addresses past made.1 range.1)

pub formats_in : (addresses : Addresses) (turns : List Turn) → Always
    (λ past t. Makes addresses past t.event.at t.event.word t.event.what t.refused t.entries) turns
    → AllLegal addresses turns
    → FormatsIn (entries_of turns)
formats_in addresses turns made legal = formats_in_of addresses turns made (ranges addresses turns legal)
