-- In a smooth run no Reset ends an observation that goes on: neither one of a Confirmable message, nor one of its last
-- Non-confirmable notification (RFC 7641, section 3.6).
use Rattle.std.proofs.Common.{◌≡◌, ◌==◌, true, cond, inl, inr, ℕ, Some, None, List, [], ◌∷◌, refl, ap, sym, subst, ◌∙◌}
use Rattle.std.specs.Cmp.{unsigned_Decides}
use Rattle.coap_types.specs.Past.{Sometime, Since}
use Rattle.coap_types.specs.declared.endpoint.Endpoint.{Endpoint}
use Rattle.coap_types.specs.declared.message.Kind.TheVariants.{Con, Rst}
use Rattle.coap_types.specs.Roles.{role_of}
use Rattle.coap_types.specs.SameEndpoint.{same_endpoint}
use Rattle.coap_types.specs.declared.role.Role.TheVariants as role
use Rattle.coap_types.proofs.Facts.Endpoints.{same_endpoint_is}
use Rattle.coap_types.proofs.Facts.Traces.{Ever_map}
use Rattle.coap_codec.specs.Message.{Message, Spells}
use Rattle.coap_layer.specs.Arrivals.{Arrival, Faulted, Whole, Shows}
use Rattle.coap_layer.specs.Channel.{Hop, IsLatest, Near, Far, OnFarThen, RepliesTo, Takes, far_of}
use Rattle.coap_layer.specs.Rows.{Arrives, HandedAs, LayerLaw, Outstanding, Row, Sorts, Stands, rejects, drops}
use Rattle.coap_layer.specs.Rows.{takes_ack, takes_reset, passes_reset, takes_answer, replays, hands_over}
use Rattle.coap_layer.specs.Sends.{IsIn, IsOpen, as_begun}
use Rattle.coap_layer.specs.Trace as L
use Rattle.coap_layer.specs.Words.{Incoming, Open, from_there, handed, handed_in, is_kept, is_to, outstanding}
use Rattle.coap_layer.specs.declared.setup.Setup.{Setup}
use Rattle.coap_layer.proofs.Facts.Sendings.{some_in}
use Rattle.coap_smooth.proofs.Smoothly.Arriving.HandedAs.{as_response}
use Rattle.coap_smooth.proofs.Watching.StillThere.Rejected.{IsMessage}
use Rattle.coap_smooth.proofs.Watching.StillThere.RepliesFed.{Gives}
use Rattle.std.proofs.lemmas.Bool.{and_parts as is_and}
use Rattle.coap_record.specs.declared.addresses.Addresses.{Addresses}

-- what is taken as a Reset of what is outstanding
pub record TakesReset (past : List L.Entry) (from : Endpoint) (bytes : List ℕ) (id : ℕ) : Type 0 where
  pub message : Message
  pub spells : Spells bytes message
  pub kind : message.kind ≡ Rst
  pub matches : Outstanding past from id

sorted : (setup : Setup) (past : List L.Entry) (e : L.Entry) (n : Incoming) (id : ℕ) → Sorts setup past e n
    → e.answer ≡ L.Becomes (L.Reset id) → (n.message.kind ≡ Rst) × Outstanding past n.from id
sorted setup past e n id (rejects r) h = let a = r.answer in absurd (cc (a, h))
sorted setup past e n id (drops r) h = let a = r.answer in absurd (cc (a, h))
sorted setup past e n id (takes_ack r) h = let a = r.answer in absurd (cc (a, h))
sorted setup past e n id (takes_reset r) h =
    let z : L.Becomes (L.Reset n.message.id) ≡ L.Becomes (L.Reset id) = sym r.answer ∙ h in
    let same : n.message.id ≡ id = cc z in
    (r.kind, subst (λ i. Outstanding past n.from i) same r.matches)
sorted setup past e n id (passes_reset r) h = let a = r.answer in absurd (cc (a, h))
sorted setup past e n id (takes_answer r) h = let a = r.answer in absurd (cc (a, h))
sorted setup past e n id (replays r) h = let a = r.answer in absurd (cc (a, h))
sorted setup past e n id (hands_over r) h = absurd (up r.answer)
  where
    up : HandedAs setup past e n → ⊥
    up (inl a) = let b = a.2 in cc (b, h)
    up (inr (inl a)) = let b = a.3 in cc (b, h)
    up (inr (inr a)) = let b = a.1 in cc (b, h)

pub takes_it : (setup : Setup) (past : List L.Entry) (e : L.Entry) (from : Endpoint) (bytes : List ℕ) (id : ℕ)
    → Stands setup past e → e.call ≡ L.Receive from bytes → e.answer ≡ L.Becomes (L.Reset id)
    → TakesReset past from bytes id
takes_it setup past e from bytes id stands call answer = by row.0 row.1 row.2
  where
    row : Row setup past e (L.Receive from bytes)
    row = subst (Row setup past e) call stands.row

    by : (what : Arrival) → Shows bytes what → Arrives setup past e from what → TakesReset past from bytes id
    by (Whole m) s r =
        let k = sorted setup past e (record { from = from; message = m }) id r answer in
        record { message = m; spells = s; kind = k.0; matches = k.1 }
    by (Faulted Con n) s r = let a = r.0 in absurd (cc (a, answer))
    by _ s r = let a = r.0 in absurd (cc (a, answer))

-- what is outstanding to there under this Message ID
pub record IsOut (from : Endpoint) (id : ℕ) (t : List L.Entry) : Type 0 where
  pub con : Open
  pub is_in : IsIn con (outstanding t)
  pub to_is : con.to ≡ from
  pub id_is : con.id ≡ id

pub out_of : (from : Endpoint) (id : ℕ) (t : List L.Entry) → Outstanding t from id → IsOut from id t
out_of from id t h =
    let k = some_in (λ c. is_to from id c ≡ true) (outstanding t) h in
    let both = is_and (same_endpoint k.0.to from) (k.0.id == id) k.2 in
    record {
      con = k.0;
      is_in = k.1;
      to_is = same_endpoint_is k.0.to from both.0;
      id_is = (unsigned_Decides k.0.id id).0 both.1;
    }

pub is_open : (t : List L.Entry) (con : Open) → IsIn con (outstanding t) → IsOpen t (as_begun con)
is_open t con h = Ever_map (λ y. y ≡ con) (λ y. as_begun y ≡ as_begun con) (λ y k. ap as_begun k) (outstanding t) h

-- the reply to a CON with this message, as a reply to the message that was handed up last
module _ (addresses : Addresses) (setup : Setup) (con : Open) (m : Message) (spells : Spells con.bytes m)
    (kind : m.kind ≡ Con)
    (class : role_of m.code ≡ role.Response) where
  abbrev up : Incoming
  up = record { from = addresses.server; message = m }

  up_as : (past : List L.Entry) (y : L.Entry) → Stands setup past y → Takes addresses.server con y → handed y ≡ Some up
  up_as past y here k =
      let answer = as_response setup past y addresses.server con.id con.bytes m here k.call spells kind k.up class in
      ap (λ d. handed_in d y.answer) k.call ∙ (ap (λ z. handed_in (L.Receive addresses.server con.bytes) z) answer
      ∙ ap (λ z. from_there addresses.server (cond (is_kept z) (Some m) None)) kind)

  latest : (t : List L.Entry) (at : ℕ) → LayerLaw setup t
      → Since (λ y. Takes addresses.server con y × (y.at ≡ at)) (λ y. handed y ≡ None) t → IsLatest t at up
  latest [] at law h = absurd h
  latest (y ∷ t) at law (inl h) = inl (up_as t y law.0 h.0, h.1)
  latest (y ∷ t) at law (inr h) = inr (h.0, latest t at law.1 h.1)

  pub gives_of : (bytes : List ℕ) (t : List L.Entry) → LayerLaw setup t
      → Sometime (RepliesTo addresses.server con bytes) t
      → Sometime (Gives addresses.server con.id bytes (IsMessage addresses m)) t
  gives_of bytes [] law h = absurd h
  gives_of bytes (e ∷ t) law (inr h) = inr (gives_of bytes t law.1 h)
  gives_of bytes (e ∷ t) law (inl h) =
      let row : Row setup t e (L.Reply addresses.server con.id bytes) = subst (Row setup t e) h.call law.0.row in
      let some = row.0 in
      inl (
        up,
        (refl, refl),
        record {
          call = h.call;
          awaited = λ none. cc (some, none);
          latest = latest t e.at law.1 h.to_it;
        },
      )

-- what is so at a far hop is so in the far layer
pub far_sometime : (P : List L.Entry → L.Entry → Type 0) (hs : List Hop) → Sometime (OnFarThen P) hs
    → Sometime P (far_of hs)
far_sometime P [] h = h
far_sometime P (Near e ∷ hs) (inl h) = absurd h
far_sometime P (Near e ∷ hs) (inr h) = far_sometime P hs h
far_sometime P (Far e ∷ hs) (inl h) = inl h
far_sometime P (Far e ∷ hs) (inr h) = inr (far_sometime P hs h)
