-- The server of a run is to refuse no request and to forget no peer: whatever comes is fed.
use Rattle.std.proofs.Common.{◌≡◌, inl, inr, Bool, true, false, Some, None, List, [], ◌∷◌, ◌++◌, map, ℕ, ap, refl, sym}
use Rattle.std.proofs.Common.{subst}
use Rattle.coap_types.specs.Past.{Always}
use Rattle.coap_layer.specs.Trace.{Packet}
use Rattle.coap_client.specs.Trace as C
use Rattle.coap_server.specs.Follows.Serves.{forgets, refuses}
use Rattle.coap_server.specs.Trace as S
use Rattle.coap_record.specs.Events.{What, Sets, Removes, TickServer, Deliver, StrangerToServer}
use Rattle.coap_record.specs.Record.{Entry, OfClient, OfServer, Turn, OnClient, OnServer, IsOne, AreTicks, Makes}
use Rattle.coap_record.specs.Record.{ServerTick, entries_of}
use Rattle.coap_record.specs.declared.addresses.Addresses.{Addresses}

-- this call refuses nothing, and forgets nobody
pub record IsTaken (c : S.Call) : Type 0 where
  pub unrefused : refuses c ≡ None
  pub unforgotten : forgets c ≡ None

is_taken : (c d : S.Call) → c ≡ d → refuses d ≡ None → forgets d ≡ None → IsTaken c
is_taken c d is taken keeps = subst IsTaken (sym is) (record { unrefused = taken; unforgotten = keeps })

abbrev AllTaken : List S.Call → Type 0
AllTaken [] = Unit {0}
AllTaken (c ∷ t) = IsTaken c × AllTaken t

-- none of the requests of these entries is refused, and no peer is forgotten
abbrev pub RefusesNone : List Entry → Type 0
RefusesNone [] = Unit {0}
RefusesNone (OfClient c ∷ t) = RefusesNone t
RefusesNone (OfServer c ∷ t) = IsTaken c × RefusesNone t

pub refuses_back : (e : Entry) (t : List Entry) → RefusesNone (e ∷ t) → RefusesNone t
refuses_back (OfClient c) t h = h
refuses_back (OfServer c) t h = h.1

of_client : (cs : List C.Call) → RefusesNone (map OfClient cs)
of_client [] = tt
of_client (c ∷ cs) = of_client cs

of_server : (cs : List S.Call) → AllTaken cs → RefusesNone (map OfServer cs)
of_server [] h = tt
of_server (c ∷ cs) h = (h.0, of_server cs h.1)

outs_taken : (ps : List Packet) (cs : List S.Call) → AllTaken cs → AllTaken (map (λ p. S.NextOut (Some p)) ps ++ cs)
outs_taken [] cs h = h
outs_taken (p ∷ ps) cs h = (record { unrefused = refl; unforgotten = refl }, outs_taken ps cs h)

on_client : (calls : List C.Call) (entries : List Entry) → OnClient calls entries → RefusesNone entries
on_client calls entries on =
    subst RefusesNone (sym on.is) (of_client (C.NextReport None ∷
    (map (λ r. C.NextReport (Some r)) on.reports
    ++ C.NextOut None ∷ (map (λ p. C.NextOut (Some p)) on.outs ++ calls))))

on_server : (calls : List S.Call) (entries : List Entry) → OnServer calls entries → AllTaken calls
    → RefusesNone entries
on_server calls entries on h = subst RefusesNone (sym on.is)
    (of_server (S.NextOut None ∷ (map (λ p. S.NextOut (Some p)) on.outs ++ calls))
    (record { unrefused = refl; unforgotten = refl }, outs_taken on.outs calls h))

-- the calls of an input, and of ticks
one_taken : (Is : S.Call → Type 0) (refused : Bool) (calls : List S.Call) → ((c : S.Call) → Is c → IsTaken c)
    → IsOne Is refused calls → AllTaken calls
one_taken Is true calls f one = subst AllTaken (sym one) tt
one_taken Is false calls f one = subst AllTaken (sym one.2) (f one.0 one.1, tt)

tick_taken : (at word : ℕ) (b : Bool) (c : S.Call) → ServerTick at word b c → IsTaken c
tick_taken at word b c h = is_taken c _ h.6 refl refl

each_tick : (at word : ℕ) (b : Bool) (calls : List S.Call) → Always (λ past c. ServerTick at word b c) calls
    → AllTaken calls
each_tick at word b [] h = tt
each_tick at word b (c ∷ calls) h = (tick_taken at word b c h.0, each_tick at word b calls h.1)

ticks_taken : (at word : ℕ) (refused : Bool) (calls : List S.Call) → AreTicks (ServerTick at word) refused calls
    → AllTaken calls
ticks_taken at word true calls h = each_tick at word true calls h
ticks_taken at word false [] h = tt
ticks_taken at word false (c ∷ calls) h = (tick_taken at word false c h.0, each_tick at word true calls h.1)

module _ (addresses : Addresses) (past : List Turn) (at word : ℕ) (refused : Bool) (entries : List Entry) where
  in_turn : (what : What) → Makes addresses past at word what refused entries → RefusesNone entries
  in_turn (Sets path format body) m = on_server m.0 entries m.2
      (one_taken _ refused m.0 (λ c h. is_taken c _ h.2 refl refl) m.1)
  in_turn (Removes path) m = on_server m.0 entries m.2
      (one_taken _ false m.0 (λ c h. is_taken c _ h.2 refl refl) m.1.0)
  in_turn (StrangerToServer from bytes) m =
      on_server m.0 entries m.2 (one_taken _ refused m.0 (λ c h. is_taken c _ h.4 refl refl) m.1)
  in_turn TickServer m = on_server m.0 entries m.2 (ticks_taken at word refused m.0 m.1)
  in_turn (Deliver number) m = elim m.2 [
    | inl d ↦ on_server d.1 entries d.3 (one_taken _ refused d.1 (λ c h. is_taken c _ h.4 refl refl) d.2)
    | inr d ↦ on_client d.1 entries d.3
  ]
  in_turn _ m = on_client m.0 entries m.2

behind : (t more : List Entry) → RefusesNone t → RefusesNone more → RefusesNone (t ++ more)
behind [] more h k = k
behind (OfClient c ∷ t) more h k = behind t more h k
behind (OfServer c ∷ t) more h k = (h.0, behind t more h.1 k)

pub none_refused : (addresses : Addresses) (turns : List Turn) → Always
    (λ past t. Makes addresses past t.event.at t.event.word t.event.what t.refused t.entries) turns
    → RefusesNone (entries_of turns)
none_refused addresses [] made = tt
none_refused addresses (t ∷ past) made =
    behind t.entries (entries_of past) (in_turn addresses past t.event.at t.event.word t.refused t.entries t.event.what
    made.0) (none_refused addresses past made.1)
