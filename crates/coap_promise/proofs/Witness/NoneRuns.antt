-- Events of which no run is legal: a datagram that comes too late, one that was never given out, and a stranger with an
-- end's address.
use Rattle.std.proofs.Common.{◌≡◌, ◌<◌, ◌^◌, inl, ℕ, List, [], ◌∷◌, map, ap, subst, refl, arith}
use Rattle.coap_types.specs.Past.{Ever, all_of}
use Rattle.coap_types.proofs.Facts.Traces.{Ever_of_Sometime}
use Rattle.coap_record.specs.Events.{Event}
use Rattle.coap_record.specs.Legal.{NotBefore, MayCome, InRange, AllLegal}
use Rattle.coap_record.specs.LegalEvents.{NoneRuns, NotAfter, never_given, NoneFrom}
use Rattle.coap_record.specs.Record.{Given, Turn, given_in, IsNumber}
use Rattle.coap_promise.proofs.Facts.Delivery.GivenOutBefore.{not_later}
use Rattle.coap_record.specs.declared.addresses.Addresses.{Addresses}

abbrev pub events_of : List Turn → List Event
events_of turns = map (λ (t : Turn). t.event) turns

-- what the newest event asks of the turns before it
pub record Newest (addresses : Addresses) (e : Event) (es : List Event) : Type 0 where
  pub past : List Turn
  pub events_are : events_of past ≡ es
  pub legal : AllLegal addresses past
  pub at : e.at < 2 ^ 64
  pub word : e.word < 2 ^ 64
  pub range : InRange e.what
  pub later : NotBefore past e.at
  pub comes : MayCome addresses past e.at e.what

pub newest : (addresses : Addresses) (turns : List Turn) (e : Event) (es : List Event) → events_of turns ≡ e ∷ es
    → AllLegal addresses turns → Newest addresses e es
newest addresses [] e es h legal = absurd (cc h)
newest addresses (t ∷ past) e es h legal =
    let same : t.event ≡ e = cc h in
    record {
      past = past;
      events_are = cc h;
      legal = legal.1;
      at = subst (λ (x : Event). x.at < 2 ^ 64) same legal.0.at;
      word = subst (λ (x : Event). x.word < 2 ^ 64) same legal.0.word;
      range = subst (λ (x : Event). InRange x.what) same legal.0.range;
      later = subst (λ (x : Event). NotBefore past x.at) same legal.0.later;
      comes = subst (λ (x : Event). MayCome addresses past x.at x.what) same legal.0.comes;
    }

-- all that was given out before has a moment that is not after the newest event
till : (past : List Turn) (e : Event) (es : List Event) → events_of past ≡ e ∷ es → NotBefore past e.at
till [] e es h = tt
till (t ∷ past) e es h = let same : t.event ≡ e = cc h in let at = ap (λ (x : Event). x.at) same in omega (arith, at)

numbered : (addresses : Addresses) (past : List Turn) (n : ℕ) (g : Given) → IsNumber addresses n g past
    → Ever (λ h. h ≡ g) (all_of (given_in addresses) past)
numbered addresses past n g is = Ever_of_Sometime _ (λ h. h ≡ g) (λ before h k. inl k.0)
    (all_of (given_in addresses) past) is

pub not_after : NotAfter 100000
not_after at r late config turns made legal =
    let n = newest config.addresses turns _ _ made.events_are legal in
    let g = n.comes.0 in
    let early = not_later config.addresses n.past 0 g n.legal (till n.past _ _ n.events_are)
    (numbered config.addresses n.past 0 g n.comes.1) in
    let young = n.comes.3 in
    omega (arith, late, early, young)

nothing : (addresses : Addresses) (past : List Turn) (n : ℕ) (g : Given) → events_of past ≡ []
    → IsNumber addresses n g past → ⊥
nothing addresses [] n g h is = is
nothing addresses (t ∷ past) n g h is = absurd (cc h)

pub never : NoneRuns never_given
never config turns made legal =
    let n = newest config.addresses turns _ _ made.events_are legal in
    nothing config.addresses n.past 0 n.comes.0 n.events_are n.comes.1

pub not_of_client : NoneFrom (λ config. config.addresses.client)
not_of_client at bytes = (
  (λ config turns made legal. (newest config.addresses turns _ _ made.events_are legal).comes.0 refl),
  (λ config turns made legal. (newest config.addresses turns _ _ made.events_are legal).comes.0 refl),
)

pub not_of_server : NoneFrom (λ config. config.addresses.server)
not_of_server at bytes = (
  (λ config turns made legal. (newest config.addresses turns _ _ made.events_are legal).comes.1 refl),
  (λ config turns made legal. (newest config.addresses turns _ _ made.events_are legal).comes.1 refl),
)
