-- A notification that a client takes is heard at the moment that its mark has.
use Rattle.std.proofs.Common.{◌≡◌, ◌≤◌, inl, inr, ℕ, max, Some, List, [], ◌∷◌, refl, sym, subst, arith}
use Rattle.coap_types.specs.Past.{Ever}
use Rattle.coap_types.specs.declared.endpoint.Endpoint.{Endpoint}
use Rattle.coap_codec.specs.Message.{Message}
use Rattle.coap_layer.specs.Trace as L
use Rattle.coap_layer.specs.declared.setup.Setup.{Setup}
use Rattle.coap_block.specs.Sizes.{Sizes}
use Rattle.coap_exchange.specs.declared.asker.Event.TheVariants as event
use Rattle.coap_client.specs.Trace.{Call, Feeds}
use Rattle.coap_client.specs.Observations.{observation_with}
use Rattle.coap_client.specs.Law.{ClientLaw, own_of}
use Rattle.coap_client_laws.specs.Follows.Adds.{call_adds}
use Rattle.coap_client_laws.specs.Follows.Hears.{Hears}
use Rattle.coap_client_laws.specs.Follows.Holds.{moment}
use Rattle.coap_client_laws.specs.Follows.Newer.{Newly, notifies}
use Rattle.coap_client_laws.specs.Follows.Noted.{HeardAt, AreNotedAt}
use Rattle.coap_client_laws.proofs.Hearing.HandedUp.{are_handed_up}
use Rattle.coap_client_laws.proofs.Hearing.Noted.{are_noted}
use Rattle.coap_client_laws.proofs.Observing.Notified.{registers_as, renews_as}
use Rattle.coap_client_laws.proofs.Sending.ApartLists.{Every}
use Rattle.coap_client_laws.proofs.Sending.Moments.{adds_by, arrives_from}
use Rattle.coap_client.proofs.Facts.Turning.Leading.{client_back}

-- an arrival, in entries that are no later than this moment, where none that arrives is earlier
heard_there : (server : Endpoint) (m : Message) (at : ℕ) (es : List L.Entry) → Every (λ (e : L.Entry). e.at ≤ at) es
    → Every (λ (e : L.Entry). (from : Endpoint) (bytes : List ℕ) → e.call ≡ L.Receive from bytes → at ≤ e.at) es
    → Ever (Hears server m) es → Ever (HeardAt server m at) es
heard_there server m at [] till from h = absurd h
heard_there server m at (e ∷ es) till from (inr h) = inr (heard_there server m at es till.1 from.1 h)
heard_there server m at (e ∷ es) till from (inl h) =
    let a = till.0 in
    let b = from.0 server h.bytes h.call in
    inl (record { hears = h; at_is = omega (arith, a, b) })

module _ (server : Endpoint) (sizes : Sizes) (setup : Setup) where
  pub heard_then : (t : List Call) (c : Call) (m : Message) → Ever (Hears server m) (call_adds server sizes setup t c)
      → Ever (HeardAt server m (moment (own_of sizes t) c)) (call_adds server sizes setup t c)
  heard_then t c m = heard_there server m (moment (own_of sizes t) c) (call_adds server sizes setup t c)
      (adds_by server sizes setup t c) (arrives_from server sizes setup t c)

  abbrev IsHeard : List Call → Call → Newly → Type 0
  IsHeard t c n = Ever (HeardAt server n.message n.mark.at) (call_adds server sizes setup t c)

  noted_at : (t : List Call) (c : Call) → ClientLaw server sizes setup (c ∷ t) → (n : Newly)
      → notifies (own_of sizes t) c ≡ Some n → IsHeard t c n
  noted_at t (Feeds now from bytes w up settled (Some (event.Answer m)) sent token was) law n is =
      let c : Call = Feeds now from bytes w up settled (Some (event.Answer m)) sent token was in
      let r = registers_as (own_of sizes t).running (max (own_of sizes t).clock now) m n is in
      subst (IsHeard t c) (sym r.is)
      (heard_then t c m ((are_handed_up server sizes setup (c ∷ t) law).0 m refl))
  noted_at t (Feeds now from bytes w up settled (Some (event.Notice m)) sent token was) law n is =
      let c : Call = Feeds now from bytes w up settled (Some (event.Notice m)) sent token was in
      let o = observation_with m.token (own_of sizes t).observations in
      let r = renews_as o (max (own_of sizes t).clock now) m n is in
      subst (IsHeard t c) (sym r.is) (heard_then t c m ((are_noted server sizes setup (c ∷ t) law).0 m refl))
  noted_at t _ law n is = absurd (cc is)

pub are_noted_at : (server : Endpoint) (sizes : Sizes) (setup : Setup) (t : List Call) → ClientLaw server sizes setup t
    → AreNotedAt server sizes setup t
are_noted_at server sizes setup [] law = tt
are_noted_at server sizes setup (c ∷ t) law = (
  noted_at server sizes setup t c law,
  are_noted_at server sizes setup t (client_back server sizes setup (c ∷ []) t law),
)
