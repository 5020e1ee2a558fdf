-- Tests by which the turns of a run are legal, and go smoothly: each is computed from the turns before; and a run.
use Rattle.std.proofs.Common.{◌≡◌, ◌⊎◌, ◌≤◌, ◌+◌, ◌^◌, inl, inr, ⊎_elim, ℕ, nat_le, nat_lt, eqb, Bool, true, false}
use Rattle.std.proofs.Common.{◌&&◌, ◌||◌, List, [], ◌∷◌, length, refl, map, subst, sym}
use Rattle.std.proofs.lemmas.Bool.{and_parts, or_cases, eqb-true, ltb-true, leb-true}
use Rattle.coap_types.specs.Past.{Sometime, Always, all_of}
use Rattle.coap_types.specs.SameEndpoint.{same_endpoint}
use Rattle.coap_types.proofs.Facts.Endpoints.{same_endpoint_is}
use Rattle.coap_record.specs.Events.{client_end, server_end, What, TickClient, TickServer, Deliver, StrangerToClient}
use Rattle.coap_record.specs.Events.{usual_addresses}
use Rattle.coap_record.specs.Events.{StrangerToServer, Config, Event}
use Rattle.coap_record.specs.Legal.{max_delivery, NotBefore, MayCome, InRange, IsLegal, AllLegal, IsConfig}
use Rattle.coap_record.specs.Record.{Given, Turn, Makes, given_in, client_of, server_trace, entries_of}
use Rattle.coap_record.specs.declared.addresses.Addresses.{Addresses}
use Rattle.coap_client.specs.Law.{ClientLaw}
use Rattle.coap_server.specs.Law.{ServerLaw}
use Rattle.coap_promise.specs.LegalRuns.{Runs}
use Rattle.coap_promise.proofs.Facts.Witness.TurnsMade.{AllMade}

-- legal turns

abbrev to_an_end : Given → Bool
to_an_end g = same_endpoint g.packet.to client_end || same_endpoint g.packet.to server_end

is_to : (g : Given) → to_an_end g ≡ true → (g.packet.to ≡ client_end) ⊎ (g.packet.to ≡ server_end)
is_to g e = ⊎_elim (λ c. inl (same_endpoint_is g.packet.to client_end c))
    (λ s. inr (same_endpoint_is g.packet.to server_end s)) (or_cases _ _ e)

-- the datagram of this number comes
abbrev comes_of : ℕ → ℕ → List Given → Bool
comes_of number at [] = false
comes_of number at (g ∷ gs) =
    (eqb (length gs) number && (to_an_end g && nat_le at (g.at + max_delivery))) || comes_of number at gs

coming : (number at : ℕ) (gs : List Given) → comes_of number at gs ≡ true
    → (g : Given) × Sometime (λ before h. (h ≡ g) × (length before ≡ number)) gs
    × ((g.packet.to ≡ client_end) ⊎ (g.packet.to ≡ server_end)) × (at ≤ g.at + max_delivery)
coming number at [] e = absurd (cc e)
coming number at (g ∷ gs) e = ⊎_elim
    (λ here. let n = and_parts _ _ here in let k = and_parts _ _ n.1 in
    (g, inl (refl, eqb-true (length gs) number n.0), is_to g k.0, leb-true at (g.at + max_delivery) k.1))
    (λ h. let k = coming number at gs h in (k.0, inr k.1, k.2, k.3)) (or_cases _ _ e)

abbrev comes : List Turn → ℕ → What → Bool
comes past at (Deliver number) = comes_of number at (all_of (given_in usual_addresses) past)
comes past at (StrangerToClient from bytes) = false
comes past at (StrangerToServer from bytes) = false
comes past at _ = true

may_come : (past : List Turn) (at : ℕ) (what : What) → comes past at what ≡ true → MayCome usual_addresses past at what
may_come past at (Deliver number) e = coming number at (all_of (given_in usual_addresses) past) e
may_come past at (StrangerToClient from bytes) e = absurd (cc e)
may_come past at (StrangerToServer from bytes) e = absurd (cc e)
may_come past at _ e = tt

abbrev is_later : List Turn → ℕ → Bool
is_later [] at = true
is_later (turn ∷ past) at = nat_le turn.event.at at

later : (past : List Turn) (at : ℕ) → is_later past at ≡ true → NotBefore past at
later [] at e = tt
later (turn ∷ past) at e = leb-true turn.event.at at e

abbrev is_legal : List Turn → Turn → Bool
is_legal past t = nat_lt t.event.at (2 ^ 64) && (nat_lt t.event.word (2 ^ 64)
    && (is_later past t.event.at && comes past t.event.at t.event.what))

legal : (past : List Turn) (t : Turn) → InRange t.event.what → is_legal past t ≡ true → IsLegal usual_addresses past t
legal past t range e =
    let at = and_parts _ _ e in
    let word = and_parts _ _ at.1 in
    let now = and_parts _ _ word.1 in
    record {
      at = ltb-true t.event.at (2 ^ 64) at.0;
      word = ltb-true t.event.word (2 ^ 64) word.0;
      range = range;
      later = later past t.event.at now.0;
      comes = may_come past t.event.at t.event.what now.1;
    }

-- what is left to be shown: that the numbers of a call, an observation and a change are in range
abbrev Ranges : What → Type 0 → Type 0
Ranges TickClient Rest = Rest
Ranges TickServer Rest = Rest
Ranges (Deliver number) Rest = Rest
Ranges what Rest = InRange what × Rest

pub ranges : (what : What) (Rest : Type 0) → Ranges what Rest → InRange what × Rest
ranges TickClient Rest h = (tt, h)
ranges TickServer Rest h = (tt, h)
ranges (Deliver number) Rest h = (tt, h)
ranges _ Rest h = h

abbrev pub InRanges : List Turn → Type 0
InRanges [] = Unit {0}
InRanges (t ∷ past) = Ranges t.event.what (InRanges past)

abbrev pub are_legal : List Turn → Bool
are_legal [] = true
are_legal (t ∷ past) = is_legal past t && are_legal past

pub all_legal : (turns : List Turn) → InRanges turns → are_legal turns ≡ true → AllLegal usual_addresses turns
all_legal [] h e = tt
all_legal (t ∷ past) h e =
    let r = ranges t.event.what (InRanges past) h in
    let k = and_parts _ _ e in
    (legal past t r.0 k.0, all_legal past r.1 k.1)

-- a run

pub made_at : (addresses : Addresses) (turns : List Turn) → addresses ≡ usual_addresses → AllMade turns
    → Always (λ past t. Makes addresses past t.event.at t.event.word t.event.what t.refused t.entries) turns
made_at addresses turns same made =
    subst (λ a. Always (λ past t. Makes a past t.event.at t.event.word t.event.what t.refused t.entries) turns)
    (sym same) made

pub legal_at : (addresses : Addresses) (turns : List Turn) → addresses ≡ usual_addresses
    → AllLegal usual_addresses turns
    → AllLegal addresses turns
legal_at addresses turns same legal = subst (λ a. AllLegal a turns) (sym same) legal

abbrev pub a_run : {config : Config} {events : List Event} {given : List Given} (turns : List Turn)
    → map (λ (t : Turn). t.event) turns ≡ events → config.addresses ≡ usual_addresses → AllMade turns
    → ClientLaw config.addresses.server config.client_sizes config.client_setup (client_of (entries_of turns))
    → ServerLaw config.limits config.server_szx config.server_setup (server_trace config (entries_of turns))
    → IsConfig config → InRanges turns → are_legal turns ≡ true → all_of (given_in config.addresses) turns ≡ given
    → Runs config events given
a_run {config} turns is usual made client server range ranges legal gives =
    record {
      turns = turns;
      made = record {
        events_are = is;
        made = made_at config.addresses turns usual made;
        client = client;
        server
            = server;
      };
      legal = record { range = range; events = legal_at config.addresses turns usual (all_legal turns ranges legal) };
      gives = gives;
    }
