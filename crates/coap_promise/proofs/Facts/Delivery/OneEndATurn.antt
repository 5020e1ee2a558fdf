-- Each turn is one end's: its calls have the moment of the turn.
use Rattle.std.proofs.Common.{◌⊎◌, inl, inr, ℕ, Bool, true, false, List, [], ◌∷◌, sym, subst, refl}
use Rattle.coap_types.specs.Past.{Always}
use Rattle.coap_record.specs.Record.{IsOne, AreTicks, Entry, Turn, OnClient}
use Rattle.coap_record.specs.Record.{OnServer, ClientTick, ServerTick, Makes}
use Rattle.coap_promise.proofs.Facts.Delivery.EntriesInTime.{Every}
use Rattle.coap_record.specs.Events.{What, Cancels, Forgets, Sets, Removes, TickClient, TickServer, Deliver}
use Rattle.coap_record.specs.Events.{StrangerToClient, StrangerToServer}
use Rattle.coap_client.specs.Trace as C
use Rattle.coap_server.specs.Trace as S
use Rattle.coap_promise.proofs.Facts.Delivery.ClientInTime as client
use Rattle.coap_promise.proofs.Facts.Delivery.ServerInTime as server
use Rattle.coap_record.specs.declared.addresses.Addresses.{Addresses}

pub each_one : {X : Type 0} (Is P : X → Type 0) → ((c : X) → Is c → P c) → (refused : Bool) (calls : List X)
    → IsOne Is refused calls → Every P calls
each_one Is P f true calls h = subst (Every P) (sym h) tt
each_one Is P f false calls h = subst (Every P) (sym h.2) (f h.0 h.1, tt)

each_true : {X : Type 0} (Is P : X → Type 0) → ((c : X) → Is c → P c) → (calls : List X) → Always (λ past c. Is c) calls
    → Every P calls
each_true Is P f [] h = tt
each_true Is P f (c ∷ calls) h = (f c h.0, each_true Is P f calls h.1)

pub each_tick : {X : Type 0} (Is : Bool → X → Type 0) (P : X → Type 0) → ((b : Bool) (c : X) → Is b c → P c)
    → (refused : Bool) (calls : List X) → AreTicks Is refused calls → Every P calls
each_tick Is P f true calls h = each_true (Is true) P (f true) calls h
each_tick Is P f false [] h = absurd h
each_tick Is P f false (c ∷ calls) h = (f false c h.0, each_true (Is true) P (f true) calls h.1)

pub record ClientTurn (t : ℕ) (entries : List Entry) : Type 0 where
  pub calls : List C.Call
  pub on : OnClient calls entries
  pub at : Every (client.IsAt t) calls

pub record ServerTurn (t : ℕ) (entries : List Entry) : Type 0 where
  pub calls : List S.Call
  pub on : OnServer calls entries
  pub at : Every (server.IsAt t) calls

module _ (t : ℕ) (refused : Bool) (entries : List Entry) where
  client_one : (Is : C.Call → Type 0) → ((c : C.Call) → Is c → client.IsAt t c) → (calls : List C.Call)
      → IsOne Is refused calls → OnClient calls entries → ClientTurn t entries
  client_one Is at calls one on =
      record { calls = calls; on = on; at = each_one Is (client.IsAt t) at refused calls one }

  server_one : (Is : S.Call → Type 0) → ((c : S.Call) → Is c → server.IsAt t c) → (calls : List S.Call)
      → IsOne Is refused calls → OnServer calls entries → ServerTurn t entries
  server_one Is at calls one on =
      record { calls = calls; on = on; at = each_one Is (server.IsAt t) at refused calls one }

module _ (addresses : Addresses) (past : List Turn) (t : ℕ) (word : ℕ) (refused : Bool) (entries : List Entry) where
  pub side : (what : What) → Makes addresses past t word what refused entries → ClientTurn t entries
      ⊎ ServerTurn t entries
  side (Cancels number) m =
      inl (client_one t false entries _ (λ c h. subst (client.IsAt t) (sym h.1) refl) m.0 m.1.0 m.2)
  side (Forgets number) m =
      inl (client_one t false entries _ (λ c h. subst (client.IsAt t) (sym h.2) tt) m.0 m.1.0 m.2)
  side TickClient m = inl (record {
    calls = m.0;
    on = m.2;
    at = each_tick (ClientTick t word) (client.IsAt t)
        (λ b c h. subst (client.IsAt t) (sym h.5) refl) refused m.0 m.1;
  })
  side (StrangerToClient from bytes) m =
      inl (client_one t refused entries _ (λ c h. subst (client.IsAt t) (sym h.6) refl) m.0 m.1 m.2)
  side (Sets path format body) m =
      inr (server_one t refused entries _ (λ c h. subst (server.IsAt t) (sym h.2) refl) m.0 m.1 m.2)
  side (Removes path) m =
      inr (server_one t false entries _ (λ c h. subst (server.IsAt t) (sym h.2) refl) m.0 m.1.0 m.2)
  side TickServer m = inr (record {
    calls = m.0;
    on = m.2;
    at = each_tick (ServerTick t word) (server.IsAt t)
        (λ b c h. subst (server.IsAt t) (sym h.6) refl) refused m.0 m.1;
  })
  side (StrangerToServer from bytes) m =
      inr (server_one t refused entries _ (λ c h. subst (server.IsAt t) (sym h.4) refl) m.0 m.1 m.2)
  side (Deliver number) m = elim m.2 [
    | inl d ↦ inr (server_one t refused entries _ (λ c h. subst (server.IsAt t) (sym h.4) refl) d.1 d.2 d.3)
    | inr d ↦ inl (client_one t refused entries _ (λ c h. subst (client.IsAt t) (sym h.6) refl) d.1 d.2 d.3)
  ]
  side _ m = inl (client_one t refused entries _ (λ c h. subst (client.IsAt t) (sym h.1) refl) m.0 m.1 m.2)
