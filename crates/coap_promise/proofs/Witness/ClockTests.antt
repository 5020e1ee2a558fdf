-- Tests by which the turns of a run are legal by two clocks: each is computed from the turns before; and a run.
use Rattle.std.proofs.Common.{◌≡◌, ◌≤◌, ◌+◌, ◌^◌, inl, inr, ⊎_elim, ℕ, nat_le, nat_lt, eqb, Bool, true, false}
use Rattle.std.proofs.Common.{◌&&◌, ◌||◌, List, [], ◌∷◌, length, map, refl}
use Rattle.std.proofs.lemmas.Bool.{and_parts, or_cases, eqb-true, ltb-true, leb-true}
use Rattle.coap_types.specs.Past.{Sometime, Always, all_of}
use Rattle.coap_types.specs.SameEndpoint.{same_endpoint}
use Rattle.coap_types.specs.declared.endpoint.Endpoint.{Endpoint}
use Rattle.coap_types.proofs.Facts.Endpoints.{same_endpoint_is}
use Rattle.coap_client.specs.Law.{ClientLaw}
use Rattle.coap_server.specs.Law.{ServerLaw}
use Rattle.coap_promise.specs.ClockRuns.{RunsBy}
use Rattle.coap_promise.specs.Clocks.{AreClocks, Clocks, IsLegal, MayCome, Shows}
use Rattle.coap_record.specs.Events.{client_end, server_end, usual_addresses, Config, Event, What, Calls, Observes}
use Rattle.coap_record.specs.Events.{Cancels}
use Rattle.coap_record.specs.Events.{Forgets, Sets, Removes, TickClient, TickServer, Deliver, StrangerToClient}
use Rattle.coap_record.specs.Events.{StrangerToServer}
use Rattle.coap_record.specs.Legal.{InRange, IsConfig, max_delivery}
use Rattle.coap_record.specs.Record.{Given, Turn, given_in, client_of, server_trace, entries_of}
use Rattle.coap_promise.proofs.Facts.Witness.TurnTests.{InRanges, made_at, ranges}
use Rattle.coap_promise.proofs.Facts.Witness.TurnsMade.{AllMade}

module _ (c : Clocks) where
  -- the clock of this end

  abbrev shows_to : ℕ → Endpoint → ℕ → Bool
  shows_to n end at =
      (same_endpoint end client_end && eqb (c.client n) at) || (same_endpoint end server_end && eqb (c.server n) at)

  shown : (n : ℕ) (end : Endpoint) (at : ℕ) → shows_to n end at ≡ true → Shows usual_addresses c n end at
  shown n end at e = ⊎_elim
      (λ h. let k = and_parts _ _ h in inl (same_endpoint_is end client_end k.0, eqb-true (c.client n) at k.1))
      (λ h. let k = and_parts _ _ h in inr (same_endpoint_is end server_end k.0, eqb-true (c.server n) at k.1))
      (or_cases _ _ e)

  -- it shows no more than this
  abbrev is_by : ℕ → Endpoint → ℕ → Bool
  is_by n end last =
      (same_endpoint end client_end && nat_le (c.client n) last) || (same_endpoint end server_end
      && nat_le (c.server n) last)

  by : (n : ℕ) (end : Endpoint) (last : ℕ) → is_by n end last ≡ true
      → (now : ℕ) × Shows usual_addresses c n end now × (now ≤ last)
  by n end last e = ⊎_elim
      (λ h. let k = and_parts _ _ h in
      (c.client n, inl (same_endpoint_is end client_end k.0, refl), leb-true (c.client n) last k.1))
      (λ h. let k = and_parts _ _ h in
      (c.server n, inr (same_endpoint_is end server_end k.0, refl), leb-true (c.server n) last k.1))
      (or_cases _ _ e)

  -- the datagram of this number comes, at the event of this number
  abbrev comes_of : (n number at : ℕ) → List Given → Bool
  comes_of n number at [] = false
  comes_of n number at (g ∷ gs) =
      (eqb (length gs) number && (shows_to n g.packet.to at && is_by n g.from (g.at + max_delivery)))
      || comes_of n number at gs

  coming : (n number at : ℕ) (gs : List Given) → comes_of n number at gs ≡ true
      → (g : Given) × Sometime (λ before h. (h ≡ g) ×
      (length before ≡ number)) gs × Shows usual_addresses c n g.packet.to at
      × ((now : ℕ) × Shows usual_addresses c n g.from now × (now ≤ g.at + max_delivery))
  coming n number at [] e = absurd (cc e)
  coming n number at (g ∷ gs) e = ⊎_elim
      (λ h. let i = and_parts _ _ h in let k = and_parts _ _ i.1 in (
        g,
        inl (refl, eqb-true (length gs) number i.0),
        shown n g.packet.to at k.0,
        by n g.from (g.at + max_delivery) k.1,
      ))
      (λ h. let k = coming n number at gs h in (k.0, inr k.1, k.2, k.3)) (or_cases _ _ e)

  abbrev comes : List Turn → ℕ → What → Bool
  comes past at (Deliver number) = comes_of (length past) number at (all_of (given_in usual_addresses) past)
  comes past at (StrangerToClient from bytes) = false
  comes past at (StrangerToServer from bytes) = false
  comes past at (Sets path format body) = eqb (c.server (length past)) at
  comes past at (Removes path) = eqb (c.server (length past)) at
  comes past at TickServer = eqb (c.server (length past)) at
  comes past at _ = eqb (c.client (length past)) at

  may_come : (past : List Turn) (at : ℕ) (what : What) → comes past at what ≡ true
      → MayCome usual_addresses c past at what
  may_come past at (Deliver number) e = coming (length past) number at (all_of (given_in usual_addresses) past) e
  may_come past at (StrangerToClient from bytes) e = absurd (cc e)
  may_come past at (StrangerToServer from bytes) e = absurd (cc e)
  may_come past at (Sets path format body) e = eqb-true (c.server (length past)) at e
  may_come past at (Removes path) e = eqb-true (c.server (length past)) at e
  may_come past at TickServer e = eqb-true (c.server (length past)) at e
  may_come past at (Calls r) e = eqb-true (c.client (length past)) at e
  may_come past at (Observes path) e = eqb-true (c.client (length past)) at e
  may_come past at (Cancels number) e = eqb-true (c.client (length past)) at e
  may_come past at (Forgets number) e = eqb-true (c.client (length past)) at e
  may_come past at TickClient e = eqb-true (c.client (length past)) at e

  abbrev is_legal : List Turn → Turn → Bool
  is_legal past t =
      nat_lt t.event.at (2 ^ 64) && (nat_lt t.event.word (2 ^ 64) && comes past t.event.at t.event.what)

  legal : (past : List Turn) (t : Turn) → InRange t.event.what → is_legal past t ≡ true
      → IsLegal usual_addresses c past t
  legal past t range e =
      let at = and_parts _ _ e in
      let word = and_parts _ _ at.1 in
      record {
        at = ltb-true t.event.at (2 ^ 64) at.0;
        word = ltb-true t.event.word (2 ^ 64) word.0;
        range = range;
        comes = may_come past t.event.at t.event.what word.1;
      }

  abbrev pub are_legal : List Turn → Bool
  are_legal [] = true
  are_legal (t ∷ past) = is_legal past t && are_legal past

  pub all_legal : (turns : List Turn) → InRanges turns → are_legal turns ≡ true
      → Always (IsLegal usual_addresses c) turns
  all_legal [] h e = tt
  all_legal (t ∷ past) h e =
      let r = ranges t.event.what (InRanges past) h in
      let k = and_parts _ _ e in
      (legal past t r.0 k.0, all_legal past r.1 k.1)

-- a run at the usual addresses
abbrev pub a_run : (c : Clocks) {events : List Event} {given : List Given} (config : Config) (turns : List Turn)
    → map (λ (t : Turn). t.event) turns ≡ events → config.addresses ≡ usual_addresses → AllMade turns
    → ClientLaw config.addresses.server config.client_sizes config.client_setup (client_of (entries_of turns))
    → ServerLaw config.limits config.server_szx config.server_setup (server_trace config (entries_of turns))
    → AreClocks c → IsConfig config → Always (IsLegal config.addresses c) turns
    → all_of (given_in config.addresses) turns ≡ given
    → RunsBy c config events given
a_run c config turns is usual made client server clocks range legal gives =
    record {
      turns = turns;
      made = record {
        events_are = is;
        made = made_at config.addresses turns usual made;
        client = client;
        server = server;
      };
      legal = record { clocks = clocks; range = range; events = legal };
      gives = gives;
    }
