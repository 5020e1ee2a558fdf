-- What a client hears: the server's message layer sent it before.
use Rattle.std.proofs.Common.{◌≡◌, inl, inr, ℕ, List, [], ◌∷◌, subst}
use Rattle.coap_types.specs.Past.{Ever}
use Rattle.coap_types.specs.Roles.{role_of}
use Rattle.coap_types.specs.declared.endpoint.Endpoint.{Endpoint}
use Rattle.coap_types.specs.declared.role.Role.TheVariants as role
use Rattle.coap_codec.specs.Message.{Message, Spells}
use Rattle.coap_types.specs.declared.message.Kind.TheVariants.{Con}
use Rattle.coap_layer.specs.Arrivals.{Arrival, Faulted, Whole, Shows}
use Rattle.coap_layer.specs.Channel.{Hop, Near, Far, near_of, OnFar, GaveOut}
use Rattle.coap_layer.specs.Rows.{Stands, Row, Sorts, HandedAs, Arrives, rejects, drops, takes_ack, takes_reset}
use Rattle.coap_layer.specs.Rows.{passes_reset, takes_answer, replays, hands_over}
use Rattle.coap_layer.specs.Sends.{IsIn}
use Rattle.coap_layer.specs.Trace as T
use Rattle.coap_layer.specs.AtAnyTime.{FairLaw}
use Rattle.coap_layer.proofs.Facts.AtAnyTime.{earlier}
use Rattle.coap_layer.specs.declared.setup.Setup.{Setup}
use Rattle.coap_client_laws.specs.Follows.Hears.{Hears}

-- a response that is handed up is what the datagram spells
pub record Reads (bytes : List ℕ) (m : Message) : Type 0 where
  pub spells : Spells bytes m
  pub role : role_of m.code ≡ role.Response

module _ (setup : Setup) (past : List T.Entry) (e : T.Entry) (from : Endpoint) (bytes : List ℕ) (m : Message)
    (up : e.answer ≡ T.Becomes (T.Response m)) where
  reads_this : (n : Message) → Spells bytes n → role_of n.code ≡ role.Response → e.answer ≡ T.Becomes (T.Response n)
      → Reads bytes m
  reads_this n s k is = let same : n ≡ m = cc (is, up) in record {
    spells = subst (Spells bytes) same s;
    role = subst (λ (x : Message). role_of x.code ≡ role.Response) same k;
  }

  sorted : (n : Message) → Spells bytes n → Sorts setup past e (record { from = from; message = n }) → Reads bytes m
  sorted n s (rejects r) = absurd (cc (r.answer, up))
  sorted n s (drops r) = absurd (cc (r.answer, up))
  sorted n s (takes_ack r) = absurd (cc (r.answer, up))
  sorted n s (takes_reset r) = absurd (cc (r.answer, up))
  sorted n s (passes_reset r) = absurd (cc (r.answer, up))
  sorted n s (takes_answer r) = reads_this n s r.class r.answer
  sorted n s (replays r) = absurd (cc (r.answer, up))
  sorted n s (hands_over r) = go r.answer
    where
      go : HandedAs setup past e (record { from = from; message = n }) → Reads bytes m
      go (inl a) = absurd (cc (a.2, up))
      go (inr (inl a)) = absurd (cc (a.3, up))
      go (inr (inr a)) = reads_this n s a.0 a.1

  arrived : (what : Arrival) → Shows bytes what → Arrives setup past e from what → Reads bytes m
  arrived (Whole n) s r = sorted n s r
  arrived (Faulted Con i) s r = absurd (cc (r.0, up))
  arrived _ s r = absurd (cc (r.0, up))

pub reads : (setup : Setup) (past : List T.Entry) (e : T.Entry) (from : Endpoint) (bytes : List ℕ) (m : Message)
    → Stands setup past e → e.call ≡ T.Receive from bytes → e.answer ≡ T.Becomes (T.Response m) → Reads bytes m
reads setup past e from bytes m here call up =
    let row : Row setup past e (T.Receive from bytes) =
    subst (Row setup past e) call here.row in arrived setup past e from bytes m up row.0 row.1 row.2

-- the other layer sends these bytes there
abbrev pub SendsTo : Endpoint → List ℕ → T.Entry → Type 0
SendsTo to bytes e = IsIn (record { to = to; bytes = bytes }) e.out

pub record WasGiven (near : Endpoint) (m : Message) (hs : List Hop) : Type 0 where
  pub bytes : List ℕ
  pub reads : Reads bytes m
  pub sent : Ever (OnFar (SendsTo near bytes)) hs

gave_out : (near : Endpoint) (bytes : List ℕ) (at : ℕ) (h : Hop) → OnFar (GaveOut near bytes at) h
    → OnFar (SendsTo near bytes) h
gave_out near bytes at (Near e) k = absurd k
gave_out near bytes at (Far e) k = k.out

given_later : (near : Endpoint) (m : Message) (h : Hop) (hs : List Hop) → WasGiven near m hs → WasGiven near m (h ∷ hs)
given_later near m h hs k = record { bytes = k.bytes; reads = k.reads; sent = inr k.sent }

module _ (one other : Setup) (near far : Endpoint) (m : Message) where
  pub was_given : (hs : List Hop) → FairLaw one other near far hs → Ever (Hears far m) (near_of hs) → WasGiven near m hs
  was_given [] law h = absurd h
  was_given (Far e ∷ past) law h = given_later near m (Far e) past
      (was_given past (earlier one other near far past (Far e) law) h)
  was_given (Near e ∷ past) law (inr h) = given_later near m (Near e) past
      (was_given past (earlier one other near far past (Near e) law) h)
  was_given (Near e ∷ past) law (inl h) =
      record {
        bytes = h.bytes;
        reads = reads one (near_of past) e far h.bytes m law.near_law.0 h.call h.answer;
        sent = inr (law.fair.0 h.bytes h.call);
      }
