-- Tests by which the turns of a run of several clients are legal: each is computed from the turns before.
use Rattle.std.proofs.Common.{◌≡◌, ◌≤◌, ◌+◌, ◌^◌, inl, inr, ⊎_elim, ℕ, nat_le, nat_lt, eqb, Bool, true, false, ◌&&◌}
use Rattle.std.proofs.Common.{◌||◌, List, [], ◌∷◌, length, refl}
use Rattle.std.proofs.lemmas.Bool.{and_parts, or_cases, eqb-true, ltb-true, leb-true}
use Rattle.coap_types.specs.Past.{Ever, Sometime, Always, all_of}
use Rattle.coap_types.specs.SameEndpoint.{same_endpoint}
use Rattle.coap_types.specs.declared.endpoint.Endpoint.{Endpoint}
use Rattle.coap_types.proofs.Facts.Endpoints.{same_endpoint_is}
use Rattle.coap_record.specs.Legal.{max_delivery}
use Rattle.coap_record.specs.Record.{Given}
use Rattle.coap_many.specs.Clients.{Client, Config}
use Rattle.coap_many.specs.Clocks.{Clocks, Shows}
use Rattle.coap_many.specs.Entries.{Turn, given_in}
use Rattle.coap_many.specs.Events.{What, Acts, Sets, Removes, TickServer, Deliver, StrangerToClient, StrangerToServer}
use Rattle.coap_many.specs.Legal.{IsLegal, InRange, MayCome}

-- this is the address of one of the clients
abbrev is_of : List Client → Endpoint → Bool
is_of [] who = false
is_of (k ∷ ks) who = same_endpoint k.at who || is_of ks who

of_client : (ks : List Client) (who : Endpoint) → is_of ks who ≡ true → Ever (λ (k : Client). k.at ≡ who) ks
of_client [] who e = absurd (cc e)
of_client (k ∷ ks) who e =
    ⊎_elim (λ h. inl (same_endpoint_is k.at who h)) (λ h. inr (of_client ks who h)) (or_cases _ _ e)

module _ (config : Config) (c : Clocks) where
  -- the clock of this end
  abbrev shows_to : ℕ → Endpoint → ℕ → Bool
  shows_to n end at = (same_endpoint end config.server && eqb (c.server n) at)
      || (is_of config.clients end && eqb (c.clients end n) at)

  shown : (n : ℕ) (end : Endpoint) (at : ℕ) → shows_to n end at ≡ true → Shows config c n end at
  shown n end at e = ⊎_elim
      (λ h. let k = and_parts _ _ h in inl (same_endpoint_is end config.server k.0, eqb-true (c.server n) at k.1))
      (λ h. let k = and_parts _ _ h in inr (of_client config.clients end k.0, eqb-true (c.clients end n) at k.1))
      (or_cases _ _ e)

  -- it shows no more than this
  abbrev is_by : ℕ → Endpoint → ℕ → Bool
  is_by n end last = (same_endpoint end config.server && nat_le (c.server n) last)
      || (is_of config.clients end && nat_le (c.clients end n) last)

  by : (n : ℕ) (end : Endpoint) (last : ℕ) → is_by n end last ≡ true
      → (now : ℕ) × Shows config c n end now × (now ≤ last)
  by n end last e = ⊎_elim
      (λ h. let k = and_parts _ _ h in
      (c.server n, inl (same_endpoint_is end config.server k.0, refl), leb-true (c.server n) last k.1))
      (λ h. let k = and_parts _ _ h in
      (c.clients end n, inr (of_client config.clients end k.0, refl), leb-true (c.clients end n) last k.1))
      (or_cases _ _ e)

  -- the datagram of this number comes, at the event of this number
  abbrev comes_of : (n number at : ℕ) → List Given → Bool
  comes_of n number at [] = false
  comes_of n number at (g ∷ gs) =
      (eqb (length gs) number && (shows_to n g.packet.to at && is_by n g.from (g.at + max_delivery)))
      || comes_of n number at gs

  coming : (n number at : ℕ) (gs : List Given) → comes_of n number at gs ≡ true
      → (g : Given) × Sometime (λ before h. (h ≡ g) × (length before ≡ number)) gs × Shows config c n g.packet.to at
      × ((now : ℕ) × Shows config c n g.from now × (now ≤ g.at + max_delivery))
  coming n number at [] e = absurd (cc e)
  coming n number at (g ∷ gs) e = ⊎_elim
      (λ h. let i = and_parts _ _ h in let k = and_parts _ _ i.1 in (
        g,
        inl (refl, eqb-true (length gs) number i.0),
        shown n g.packet.to at k.0,
        by n g.from (g.at + max_delivery) k.1,
      ))
      (λ h. let k = coming n number at gs h in (k.0, inr k.1, k.2, k.3)) (or_cases _ _ e)

  abbrev comes : List Turn → ℕ → What → Bool
  comes past at (Acts who act) = is_of config.clients who && eqb (c.clients who (length past)) at
  comes past at (Deliver number) = comes_of (length past) number at (all_of (given_in config) past)
  comes past at (StrangerToClient who from bytes) = false
  comes past at (StrangerToServer from bytes) = false
  comes past at _ = eqb (c.server (length past)) at

  may_come : (past : List Turn) (at : ℕ) (what : What) → comes past at what ≡ true → MayCome config c past at what
  may_come past at (Acts who act) e =
      let k = and_parts _ _ e in (of_client config.clients who k.0, eqb-true (c.clients who (length past)) at k.1)
  may_come past at (Deliver number) e = coming (length past) number at (all_of (given_in config) past) e
  may_come past at (StrangerToClient who from bytes) e = absurd (cc e)
  may_come past at (StrangerToServer from bytes) e = absurd (cc e)
  may_come past at (Sets path format body) e = eqb-true (c.server (length past)) at e
  may_come past at (Removes path) e = eqb-true (c.server (length past)) at e
  may_come past at TickServer e = eqb-true (c.server (length past)) at e

  abbrev is_legal : List Turn → Turn → Bool
  is_legal past t =
      nat_lt t.event.at (2 ^ 64) && (nat_lt t.event.word (2 ^ 64) && comes past t.event.at t.event.what)

  legal : (past : List Turn) (t : Turn) → InRange t.event.what → is_legal past t ≡ true → IsLegal config c past t
  legal past t range e =
      let at = and_parts _ _ e in
      let word = and_parts _ _ at.1 in
      record {
        at = ltb-true t.event.at (2 ^ 64) at.0;
        word = ltb-true t.event.word (2 ^ 64) word.0;
        range = range;
        comes = may_come past t.event.at t.event.what word.1;
      }

  abbrev pub are_legal : List Turn → Bool
  are_legal [] = true
  are_legal (t ∷ past) = is_legal past t && are_legal past

  pub all_legal : (turns : List Turn) → Always (λ past (t : Turn). InRange t.event.what) turns → are_legal turns ≡ true
      → Always (IsLegal config c) turns
  all_legal [] h e = tt
  all_legal (t ∷ past) h e = let k = and_parts _ _ e in (legal past t h.0 k.0, all_legal past h.1 k.1)
