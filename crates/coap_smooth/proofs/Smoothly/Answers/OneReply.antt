-- A request that was answered in its acknowledgement got no Empty one.
use Rattle.std.proofs.Common.{◌≡◌, inl, inr, ℕ, Some, None, List, [], ◌∷◌, refl, ap, sym, subst, ◌∙◌}
use Rattle.coap_types.specs.Past.{Ever, Sometime, Always, Since}
use Rattle.coap_types.specs.Roles.{role_of}
use Rattle.coap_types.specs.declared.endpoint.Endpoint.{Endpoint}
use Rattle.coap_types.specs.declared.role.Role.TheVariants as role
use Rattle.coap_codec.specs.Message.{Message, Spells}
use Rattle.coap_codec.proofs.Facts.EveryDatagram.{one_message}
use Rattle.coap_types.specs.declared.message.Kind.TheVariants.{Con}
use Rattle.coap_layer.specs.Arrivals.{Arrival, Faulted, Whole, Shows}
use Rattle.coap_layer.specs.Channel.{Hop, Near, Far, near_of, far_of, OnFarThen, Takes, RepliesTo, AcksReplied}
use Rattle.coap_layer.specs.Rows.{LayerLaw, Stands, Row, Sorts, HandedAs, Arrives, rejects, drops, takes_ack}
use Rattle.coap_layer.specs.Rows.{takes_reset, passes_reset, takes_answer, replays, hands_over}
use Rattle.coap_layer.specs.Sends.{as_begun}
use Rattle.coap_layer.specs.Taking.{RepliedOnce}
use Rattle.coap_layer.specs.Trace as L
use Rattle.coap_layer.specs.Words.{Open, begun, handed}
use Rattle.coap_layer.specs.declared.setup.Setup.{Setup}
use Rattle.coap_smooth.proofs.Smoothly.Arriving.AckTaken.{TakesEmpty}
use Rattle.coap_record.specs.declared.addresses.Addresses.{Addresses}

-- what is taken as an Empty acknowledgement is one
record IsEmptyMessage (bytes : List ℕ) : Type 0 where
  message : Message
  spells : Spells bytes message
  class : role_of message.code ≡ role.Empty

module _ (setup : Setup) (past : List L.Entry) (e : L.Entry) (from : Endpoint) (bytes : List ℕ) (id : ℕ)
    (up : e.answer ≡ L.Becomes (L.Acked id)) where
  sorted : (n : Message) → Spells bytes n → Sorts setup past e (record { from = from; message = n })
      → IsEmptyMessage bytes
  sorted n s (takes_ack r) = record { message = n; spells = s; class = r.class }
  sorted n s (rejects r) = absurd (cc (r.answer, up))
  sorted n s (drops r) = absurd (cc (r.answer, up))
  sorted n s (takes_reset r) = absurd (cc (r.answer, up))
  sorted n s (passes_reset r) = absurd (cc (r.answer, up))
  sorted n s (takes_answer r) = absurd (cc (r.answer, up))
  sorted n s (replays r) = absurd (cc (r.answer, up))
  sorted n s (hands_over r) = go r.answer
    where
      go : HandedAs setup past e (record { from = from; message = n }) → IsEmptyMessage bytes
      go (inl a) = absurd (cc (a.2, up))
      go (inr (inl a)) = absurd (cc (a.3, up))
      go (inr (inr a)) = absurd (cc (a.1, up))

  arrived : (what : Arrival) → Shows bytes what → Arrives setup past e from what → IsEmptyMessage bytes
  arrived (Whole n) s r = sorted n s r
  arrived (Faulted Con i) s r = absurd (cc (r.0, up))
  arrived _ s r = absurd (cc (r.0, up))

is_empty : (setup : Setup) (past : List L.Entry) (e : L.Entry) (from : Endpoint) (bytes : List ℕ) (id : ℕ)
    → Stands setup past e → e.call ≡ L.Receive from bytes → e.answer ≡ L.Becomes (L.Acked id) → IsEmptyMessage bytes
is_empty setup past e from bytes id here call up =
    let row : Row setup past e (L.Receive from bytes) = subst (Row setup past e) call here.row in
    arrived setup past e from bytes id up row.0 row.1 row.2

-- it was given as the reply
record EmptyGiven (addresses : Addresses) (con : Open) (hs : List Hop) : Type 0 where
  bytes : List ℕ
  empty : IsEmptyMessage bytes
  given : Sometime (OnFarThen (RepliesTo addresses.client con bytes)) hs

later : (addresses : Addresses) (con : Open) (h : Hop) (hs : List Hop) → EmptyGiven addresses con hs
    → EmptyGiven addresses con (h ∷ hs)
later addresses con h hs k = record { bytes = k.bytes; empty = k.empty; given = inr k.given }

empty_given : (addresses : Addresses) (setup : Setup) (con : Open) (hs : List Hop) → con.to ≡ addresses.server
    → LayerLaw setup (near_of hs)
    → AcksReplied addresses.client addresses.server hs → Sometime (TakesEmpty con) (near_of hs)
    → EmptyGiven addresses con hs
empty_given addresses setup con [] to law acks h = absurd h
empty_given addresses setup con (Far e ∷ hs) to law acks h =
    later addresses con (Far e) hs (empty_given addresses setup con hs to law acks.1 h)
empty_given addresses setup con (Near e ∷ hs) to law acks (inr h) =
    later addresses con (Near e) hs (empty_given addresses setup con hs to law.1 acks.1 h)
empty_given addresses setup con (Near e ∷ hs) to law acks (inl k) =
    record {
      bytes = k.hears.bytes;
      empty = is_empty setup (near_of hs) e con.to k.hears.bytes con.id law.0 k.hears.call k.empty;
      given = inr (acks.0 e con refl to k.hears);
    }

-- the reply to a CON, whenever that went out last
takes_begun : (addresses : Addresses) (con : Open) (y : L.Entry) → Takes addresses.client con y
    → Takes addresses.client (as_begun con) y
takes_begun addresses con y k = record { call = k.call; up = k.up; from = k.from; till = k.till }

since_map : (P Q K : L.Entry → Type 0) → ((y : L.Entry) → P y → Q y) → (t : List L.Entry) → Since P K t → Since Q K t
since_map P Q K f [] h = h
since_map P Q K f (y ∷ t) (inl h) = inl (f y h)
since_map P Q K f (y ∷ t) (inr h) = inr (h.0, since_map P Q K f t h.1)

replies_begun : (addresses : Addresses) (con : Open) (bytes : List ℕ) (past : List L.Entry) (e : L.Entry)
    → RepliesTo addresses.client con bytes past e
    → RepliesTo addresses.client (as_begun con) bytes past e
replies_begun addresses con bytes past e k = record {
  call = k.call;
  to_it = since_map (λ y. Takes addresses.client con y × (y.at ≡ e.at))
      (λ y. Takes addresses.client (as_begun con) y × (y.at ≡ e.at)) (λ y. handed y ≡ None)
      (λ y z. (takes_begun addresses con y z.0, z.1)) past k.to_it;
}

then_map : (P Q : List L.Entry → L.Entry → Type 0) → ((p : List L.Entry) (e : L.Entry) → P p e → Q p e)
    → (hs : List Hop)
    → Sometime (OnFarThen P) hs → Sometime (OnFarThen Q) hs
then_map P Q f [] h = h
then_map P Q f (Near e ∷ hs) (inl h) = absurd h
then_map P Q f (Near e ∷ hs) (inr h) = inr (then_map P Q f hs h)
then_map P Q f (Far e ∷ hs) (inl h) = inl (f (far_of hs) e h)
then_map P Q f (Far e ∷ hs) (inr h) = inr (then_map P Q f hs h)

module _ (addresses : Addresses) (con : Open) (one two : List ℕ) (differ : one ≡ two → ⊥) where
  abbrev Gives : List ℕ → List Hop → Hop → Type 0
  Gives bytes past h = OnFarThen (RepliesTo addresses.client con bytes) past h

  same_hop : (past : List Hop) (h : Hop) → Gives one past h → Gives two past h → ⊥
  same_hop past (Near e) a b = a
  same_hop past (Far e) a b =
      let k : L.Reply addresses.client con.id one ≡ L.Reply addresses.client con.id two = sym a.call ∙ b.call in
      differ (cc k)

  never_both : (hs : List Hop) → Always (λ past h. Gives one past h → Sometime (Gives two) past → ⊥) hs
      → Always (λ past h. Gives two past h → Sometime (Gives one) past → ⊥) hs
      → Sometime (Gives one) hs → Sometime (Gives two) hs → ⊥
  never_both [] p q a b = a
  never_both (h ∷ hs) p q (inl a) (inl b) = same_hop hs h a b
  never_both (h ∷ hs) p q (inl a) (inr b) = p.0 a b
  never_both (h ∷ hs) p q (inr a) (inl b) = q.0 b a
  never_both (h ∷ hs) p q (inr a) (inr b) = never_both hs p.1 q.1 a b

pub one_reply : (addresses : Addresses) (setup : Setup) (request con : Open) (bytes : List ℕ) (m : Message)
    (hs : List Hop)
    → as_begun con ≡ request → request.to ≡ addresses.server → Ever (λ b. begun b ≡ Some request) (near_of hs)
    → LayerLaw setup (near_of hs) → AcksReplied addresses.client addresses.server hs → RepliedOnce addresses.client hs
    → Spells bytes m → role_of m.code ≡ role.Response
    → Sometime (OnFarThen (RepliesTo addresses.client request bytes)) hs → Sometime (TakesEmpty con) (near_of hs) → ⊥
one_reply addresses setup request con bytes m hs same to there law acks once spells class given taken =
    let k = empty_given addresses setup con hs (ap (λ (z : Open). z.to) same ∙ to) law acks taken in
    let begun_so = then_map (RepliesTo addresses.client con k.bytes) (RepliesTo addresses.client (as_begun con) k.bytes)
    (replies_begun addresses con k.bytes) hs k.given in
    let other = subst (λ z. Sometime (OnFarThen (RepliesTo addresses.client z k.bytes)) hs) same begun_so in
    never_both addresses request bytes k.bytes
    (λ is. (let alike : m ≡ k.empty.message = one_message k.bytes m k.empty.message
    (subst (λ b. Spells b m) is spells) k.empty.spells in
    let z = sym class ∙ ap (λ (y : Message). role_of y.code) alike ∙ k.empty.class in cc z))
    hs (once request there bytes k.bytes) (once request there k.bytes bytes) given other
