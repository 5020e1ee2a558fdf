-- The turns of the legal runs: their calls, and that their events make them.
use Rattle.std.proofs.Common.{◌≡◌, ◌<◌, ◌^◌, inl, inr, ℕ, true, false, Option, Some, None, List, [], ◌∷◌, ◌++◌, map, Ok}
use Rattle.std.proofs.Common.{refl, arith}
use Rattle.coap_types.specs.Past.{Always}
use Rattle.coap_layer.specs.Trace as L
use Rattle.coap_exchange.specs.declared.answerer.Due.TheVariants as due
use Rattle.coap_exchange.specs.declared.asker.Turn.TheVariants as turn
use Rattle.coap_client.specs.Trace as C
use Rattle.coap_server.specs.Trace as S
use Rattle.coap_record.specs.Events.{client_end, server_end, Event, Calls, Observes, Sets, TickClient, TickServer}
use Rattle.coap_record.specs.Events.{usual_addresses}
use Rattle.coap_record.specs.Legal.{NotBefore, IsLegal, InRange, MayCome}
use Rattle.coap_record.specs.LegalEvents as may
use Rattle.coap_record.specs.Events as events
use Rattle.coap_record.specs.Record.{Given, Entry, OfClient, OfServer, Turn, OnClient, OnServer, Makes, ClientTick}
use Rattle.coap_record.specs.Record.{ServerTick, Delivers}

infixr 5 ◌⨾◌
-- two facts
pub ◌⨾◌ : {A B : Type 0} → A → B → A × B
a ⨾ b = (a, b)

-- none meets want of memory
abbrev pub a_turn : Event → List Entry → Turn
a_turn e entries = record { event = e; refused = false; entries = entries }

abbrev pub to_server : List ℕ → L.Packet
to_server bytes = record { to = server_end; bytes = bytes }

-- the client's calls, the newest first: some, what they give out and what they report

abbrev pub client_turn : List C.Reported → List L.Packet → List C.Call → List C.Call
client_turn reports outs calls = C.NextReport None ∷
    (map (λ r. C.NextReport (Some r)) reports ++ C.NextOut None ∷ (map (λ p. C.NextOut (Some p)) outs ++ calls))

pub on_client : (reports : List C.Reported) (outs : List L.Packet) (calls : List C.Call)
    → OnClient calls (map OfClient (client_turn reports outs calls))
on_client reports outs calls = record { outs = outs; reports = reports; is = refl }

-- a tick that sends a request, and one that does nothing

abbrev pub asks : ℕ → ℕ → List ℕ → C.Call
asks at id key = C.Ticks at 0 L.Idle turn.Idle (L.Sent id) (Ok key) false true

abbrev pub rests : ℕ → C.Call
rests at = C.Ticks at 0 L.Idle turn.Idle L.Nothing (Ok []) false false

-- the server's calls

abbrev pub server_turn : List L.Packet → List S.Call → List S.Call
server_turn outs calls = S.NextOut None ∷ (map (λ p. S.NextOut (Some p)) outs ++ calls)

pub on_server : (outs : List L.Packet) (calls : List S.Call) → OnServer calls (map OfServer (server_turn outs calls))
on_server outs calls = record { outs = outs; is = refl }

abbrev pub to_client : List ℕ → L.Packet
to_client bytes = record { to = client_end; bytes = bytes }

-- .. and a tick that does nothing, where so many observers are passed over whose CON is outstanding
abbrev pub idles : ℕ → ℕ → ℕ → S.Call
idles at word passed = S.Ticks at word L.Idle false due.Idle passed S.Silent 0 false

abbrev pub idle : ℕ → S.Call
idle at = idles at 0 0

-- turns of ticks that do nothing

abbrev pub client_rests : ℕ → Turn
client_rests at = a_turn (may.event at TickClient) (map OfClient (client_turn [] [] (rests at ∷ [])))

abbrev pub server_idles : ℕ → Turn
server_idles at = a_turn (may.event at TickServer) (map OfServer (server_turn [] (idle at ∷ [])))

-- what the events make

abbrev pub AllMade : List Turn → Type 0
AllMade turns = Always (λ past t. Makes usual_addresses past t.event.at t.event.word t.event.what t.refused t.entries)
    turns

pub rested : (at : ℕ) → Makes usual_addresses [] at 0 TickClient false
    (map OfClient (client_turn [] [] (rests at ∷ [])))
rested at = (rests at ∷ [], ((_, _, _, _, _, refl), tt), on_client [] [] (rests at ∷ []))

pub idled : (at word passed : ℕ)
    → Makes usual_addresses [] at word TickServer false (map OfServer (server_turn [] (idles at word passed ∷ [])))
idled at word passed =
    (idles at word passed ∷ [], ((_, _, _, _, _, _, refl), tt), on_server [] (idles at word passed ∷ []))

-- a tick that does something, and one that does nothing

pub ticked : (at : ℕ) (reports : List C.Reported) (outs : List L.Packet) (c : C.Call) → ClientTick at 0 true c
    → Makes usual_addresses [] at 0 TickClient false (map OfClient (client_turn reports outs (rests at ∷ c ∷ [])))
ticked at reports outs c is =
    (rests at ∷ c ∷ [], ((_, _, _, _, _, refl), (is, tt)), on_client reports outs (rests at ∷ c ∷ []))

pub server_ticked : (at word : ℕ) (outs : List L.Packet) (c : S.Call) → ServerTick at word true c
    → Makes usual_addresses [] at word TickServer false (map OfServer (server_turn outs (idles at word 0 ∷ c ∷ [])))
server_ticked at word outs c is = (
  idles at word 0 ∷ c ∷ [],
  ((_, _, _, _, _, _, refl), (is, tt)),
  on_server outs (idles at word 0 ∷ c ∷ []),
)

-- a call, an observation and a change are taken

pub call_taken : (at : ℕ) (r : C.Request) (answer : _)
    → Makes usual_addresses [] at 0 (Calls r) false (map OfClient (client_turn [] [] (C.Calls at r answer ∷ [])))
call_taken at r answer = (C.Calls at r answer ∷ [], (_, (_, refl), refl), on_client [] [] (C.Calls at r answer ∷ []))

pub observation_taken : (at : ℕ) (path : List (List ℕ)) (answer : _)
    → Makes usual_addresses [] at 0 (Observes path) false (map OfClient
    (client_turn [] [] (C.Observes at path answer ∷ [])))
observation_taken at path answer =
    (C.Observes at path answer ∷ [], (_, (_, refl), refl), on_client [] [] (C.Observes at path answer ∷ []))

pub change_taken : (at : ℕ) (path : List (List ℕ)) (format : Option ℕ) (body : List ℕ) (c : S.Call)
    → ((answer : _) × (left : _) × (c ≡ S.Sets at path format body answer left))
    → Makes usual_addresses [] at 0 (Sets path format body) false (map OfServer (server_turn [] (c ∷ [])))
change_taken at path format body c is = (c ∷ [], (c, is, refl), on_server [] (c ∷ []))

-- a datagram is delivered

pub to_the_client : (at : ℕ) (g : Given) (reports : List C.Reported) (outs : List L.Packet)
    → g.packet.to ≡ client_end → (up : _) (settled : _) (event : _) (sent : _) (token : _) (kept : _)
    → Delivers usual_addresses g at 0 false (map OfClient (client_turn reports outs
    (C.Feeds at g.from g.packet.bytes 0 up settled event sent token kept ∷ [])))
to_the_client at g reports outs to up settled event sent token kept =
    let c = C.Feeds at g.from g.packet.bytes 0 up settled event sent token kept in
    inr (to, c ∷ [], (c, (_, _, _, _, _, _, refl), refl), on_client reports outs (c ∷ []))

pub to_the_server : (at : ℕ) (g : Given) (outs : List L.Packet)
    → g.packet.to ≡ server_end → (up : _) (came : _) (h : _) (below : _)
    → Delivers usual_addresses g at 0 false (map OfServer (server_turn outs
    (S.Feeds at g.from g.packet.bytes 0 up came h below ∷ [])))
to_the_server at g outs to up came h below =
    let c = S.Feeds at g.from g.packet.bytes 0 up came h below in
    inl (to, c ∷ [], (c, (_, _, _, _, refl), refl), on_server outs (c ∷ []))

-- what is legal: words are 0

pub legal_at : {past : List Turn} {es : List Entry} (at : ℕ) (what : events.What) → at < 2 ^ 64 → InRange what
    → NotBefore past at → MayCome usual_addresses past at what
    → IsLegal usual_addresses past (a_turn (may.event at what) es)
legal_at at what small range later comes = record
    { at = small; word = omega arith; range = range; later = later; comes = comes }
