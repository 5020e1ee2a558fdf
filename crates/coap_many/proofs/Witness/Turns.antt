-- The turns of the legal runs of several clients: their calls, and that their events make them.
use Rattle.std.proofs.Common.{◌≡◌, inl, inr, ℕ, eqb, Bool, true, false, if◌then◌else◌, Option, Some, None, List, []}
use Rattle.std.proofs.Common.{◌∷◌, length, map, refl}
use Rattle.std.proofs.lemmas.Bool.{eqb-true}
use Rattle.coap_types.specs.Past.{Sometime, all_of}
use Rattle.coap_types.specs.declared.endpoint.Endpoint.{Endpoint}
use Rattle.coap_layer.specs.Trace as L
use Rattle.coap_client.specs.Trace as C
use Rattle.coap_server.specs.Trace as S
use Rattle.coap_record.specs.Events.{server_end}
use Rattle.coap_record.specs.Record as W
use Rattle.coap_promise.proofs.Facts.Witness.TurnsMade.{client_turn, server_turn, on_client, on_server}
use Rattle.coap_many.specs.Clients.{Config, IsOfClient}
use Rattle.coap_many.specs.Entries.{Entry, Turn, IsNumber, as_of, given_in}
use Rattle.coap_many.specs.Events.{Deliver}
use Rattle.coap_many.specs.Record.{Makes}

-- the calls of an end, as entries

abbrev pub of_client : Endpoint → List C.Call → List Entry
of_client who calls = map (as_of who) (map W.OfClient calls)

abbrev pub of_server : List S.Call → List Entry
of_server calls = map (as_of server_end) (map W.OfServer calls)

abbrev pub to : Endpoint → List ℕ → L.Packet
to end bytes = record { to = end; bytes = bytes }

-- the datagram of this number
abbrev pub find : ℕ → List W.Given → Option W.Given
find number [] = None
find number (g ∷ gs) = if eqb (length gs) number then Some g else find number gs

found : (number : ℕ) (gs : List W.Given) (g : W.Given) → find number gs ≡ Some g
    → Sometime (λ before h. (h ≡ g) × (length before ≡ number)) gs
found number [] g e = absurd (cc e)
found number (x ∷ gs) g e = by (eqb (length gs) number) refl e (found number gs g)
  where
    by : (b : Bool) → eqb (length gs) number ≡ b → (if b then Some x else find number gs) ≡ Some g
        → (find number gs ≡ Some g → Sometime (λ before h. (h ≡ g) × (length before ≡ number)) gs)
        → Sometime (λ before h. (h ≡ g) × (length before ≡ number)) (x ∷ gs)
    by true h same rest = inl (cc same, eqb-true (length gs) number h)
    by false h same rest = inr (rest same)

-- a datagram is delivered
module _ (config : Config) (past : List Turn) (at number : ℕ) (g : W.Given)
    (is : find number (all_of (given_in config) past) ≡ Some g) where
  number_is : IsNumber config number g past
  number_is = found number (all_of (given_in config) past) g is

  pub to_the_server : g.packet.to ≡ config.server → (outs : List L.Packet) (up : _) (came : _) (h : _) (below : _)
      → Makes config past at 0 (Deliver number) false (map (as_of config.server)
      (map W.OfServer (server_turn outs (S.Feeds at g.from g.packet.bytes 0 up came h below ∷ []))))
  to_the_server same outs up came h below =
      let c = S.Feeds at g.from g.packet.bytes 0 up came h below in
      (g, number_is, inl (same, (_, (c ∷ [], (c, (_, _, _, _, refl), refl), on_server outs (c ∷ [])), refl)))

  pub to_a_client : IsOfClient config g.packet.to → (reports : List C.Reported) (outs : List L.Packet)
      (up : _) (settled : _) (event : _) (sent : _) (token : _) (kept : _)
      → Makes config past at 0 (Deliver number) false (of_client g.packet.to
      (client_turn reports outs (C.Feeds at g.from g.packet.bytes 0 up settled event sent token kept ∷ [])))
  to_a_client of reports outs up settled event sent token kept =
      let c = C.Feeds at g.from g.packet.bytes 0 up settled event sent token kept in (
        g,
        number_is,
        inr (of, (_, (c ∷ [], (c, (_, _, _, _, _, _, refl), refl), on_client reports outs (c ∷ [])), refl)),
      )
