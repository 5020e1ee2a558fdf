-- In a smooth run the client rejects no notification of an observation that goes on, and not the answer to its
-- registration: each is heard or noted, and what is so is acknowledged (RFC 7252, section 4.2; RFC 7641, section 3.6).
use Rattle.std.proofs.Common.{◌≡◌, ◌⊎◌, ◌<◌, inl, inr, ℕ, Bool, true, false, cond, Some, None, List, []}
use Rattle.std.proofs.Common.{◌∷◌, ◌++◌, refl, ap, sym, subst, ◌∙◌, append_assoc, arith}
use Rattle.coap_types.specs.Past.{Ever}
use Rattle.coap_types.specs.Recognised.{lacks_critical}
use Rattle.coap_types.specs.Roles.{role_of}
use Rattle.coap_types.specs.declared.direction.Direction.TheVariants.{Response}
use Rattle.coap_types.specs.declared.endpoint.Endpoint.{Endpoint}
use Rattle.coap_types.specs.declared.message.Kind.TheVariants.{Con, Non, Ack, Rst}
use Rattle.coap_types.specs.declared.role.Role.TheVariants as role
use Rattle.coap_types.proofs.Facts.Traces.{Ever_map}
use Rattle.coap_codec.specs.Message.{Message, Spells}
use Rattle.coap_codec.proofs.Facts.EveryDatagram.{one_message}
use Rattle.coap_layer.specs.Arrivals.{Arrival, Faulted, Whole}
use Rattle.coap_layer.specs.EmptyMessages.{ack_bytes}
use Rattle.coap_layer.specs.Rows.{Arrives, HandedAs, LayerLaw, Row, Sorts, Stands, rejects, drops, takes_ack}
use Rattle.coap_layer.specs.Rows.{takes_reset}
use Rattle.coap_layer.specs.Rows.{passes_reset, takes_answer, replays, hands_over}
use Rattle.coap_layer.specs.Trace as L
use Rattle.coap_layer.specs.Words.{Incoming, handed_by, is_kept}
use Rattle.coap_layer.specs.declared.setup.Setup.{Setup}
use Rattle.coap_layer.proofs.Facts.Laws.{responses_spelled}
use Rattle.coap_block.specs.Sizes.{Sizes}
use Rattle.coap_exchange.proofs.Facts.AskerReplies.{empty_of, ack_spells}
use Rattle.coap_client_laws.specs.Follows.Acked.{AreAcked}
use Rattle.coap_client_laws.specs.Follows.Hears.{Hears}
use Rattle.coap_client_laws.specs.Follows.Notified.{WasRegistered}
use Rattle.coap_client_laws.specs.Follows.OfObservations.{Observed}
use Rattle.coap_client.specs.Law.{ClientLaw}
use Rattle.coap_client.specs.Trace as C
use Rattle.coap_client_laws.proofs.Facts.Laws as client_facts
use Rattle.coap_record.specs.Events.{Config}
use Rattle.coap_promise.specs.Hops.{client_adds}
use Rattle.coap_record.specs.Record.{Entry, OfClient, client_of}
use Rattle.coap_promise.proofs.Facts.Delivery.HopsAreEntries.{client_layer}
use Rattle.coap_promise.proofs.Facts.Reports.Answered.{came_answered}
use Rattle.coap_promise.proofs.Facts.Requests.OfACall.{Lawful}
use Rattle.coap_smooth.specs.NoticesCome.{IsFed, NoticesAreOfIt}
use Rattle.coap_smooth.proofs.Watching.StillThere.Premises.{AreServedFor, IsHeard}
use Rattle.coap_smooth.proofs.Watching.StillThere.Registered.{answered_registered}
use Rattle.coap_smooth.proofs.Watching.StillThere.RepliesFed.{RepliedAt}
use Rattle.coap_smooth.proofs.Watching.Values.SmoothBefore.{lawful_before}
use Rattle.coap_record.specs.declared.addresses.Addresses.{Addresses}
use Rattle.coap_promise.proofs.Facts.Requests.AtAnyTime.{at_any_time}

-- a response that is handed up is handed up as a response
module _ (setup : Setup) (past : List L.Entry) (e : L.Entry) (from : Endpoint) (bytes : List ℕ) (m : Message)
    (stands : Stands setup past e) (call : e.call ≡ L.Receive from bytes) (up : handed_by e.answer ≡ Some m)
    (class : role_of m.code ≡ role.Response) where
  not_up : (what : L.Disposition) → e.answer ≡ L.Becomes what → handed_by (L.Becomes what) ≡ None → ⊥
  not_up what is none = let z = sym up ∙ (ap handed_by is ∙ none) in cc z

  kept_same : (n : Message) (b : Bool) → cond b (Some n) None ≡ Some m → n ≡ m
  kept_same n true h = cc h
  kept_same n false h = absurd (cc h)

  whole : (n : Message) → Sorts setup past e (record { from = from; message = n }) → e.answer ≡ L.Becomes (L.Response m)
  whole n (rejects r) = absurd (not_up L.Rejected r.answer refl)
  whole n (drops r) = absurd (not_up L.Dropped r.answer refl)
  whole n (takes_ack r) = absurd (not_up (L.Acked n.id) r.answer refl)
  whole n (takes_reset r) = absurd (not_up (L.Reset n.id) r.answer refl)
  whole n (passes_reset r) = absurd (not_up (L.Unmatched n.id) r.answer refl)
  whole n (replays r) = absurd (not_up L.Replayed r.answer refl)
  whole n (takes_answer r) =
      let same : n ≡ m = kept_same n (is_kept n.kind) (sym (ap handed_by r.answer) ∙ up) in
      r.answer ∙ ap (λ z. L.Becomes (L.Response z)) same
  whole n (hands_over r) = go r.answer
    where
      go : HandedAs setup past e (record { from = from; message = n }) → e.answer ≡ L.Becomes (L.Response m)
      go (inl a) =
          let k : Some n ≡ Some m = sym (ap handed_by a.2) ∙ up in
          let same : n ≡ m = cc k in
          let z = sym a.0 ∙ (ap (λ (y : Message). role_of y.code) same ∙ class) in
          absurd (cc z)
      go (inr (inl a)) =
          let k : Some n ≡ Some m = sym (ap handed_by a.3) ∙ up in
          let same : n ≡ m = cc k in
          let z = sym a.0 ∙ (ap (λ (y : Message). role_of y.code) same ∙ class) in
          absurd (cc z)
      go (inr (inr a)) =
          let same : n ≡ m = kept_same n (is_kept n.kind) (sym (ap handed_by a.1) ∙ up) in
          a.1 ∙ ap (λ z. L.Becomes (L.Response z)) same

  arrived : (what : Arrival) → Arrives setup past e from what → e.answer ≡ L.Becomes (L.Response m)
  arrived (Faulted Con i) r = absurd (not_up L.Rejected r.0 refl)
  arrived (Whole n) r = whole n r
  arrived _ r = absurd (not_up L.Dropped r.0 refl)

  as_response : e.answer ≡ L.Becomes (L.Response m)
  as_response =
      let row : Row setup past e (L.Receive from bytes) = subst (Row setup past e) call stands.row in
      arrived row.0 row.2

-- it is this message of the server
abbrev pub IsMessage : Addresses → Message → Incoming → Type 0
IsMessage addresses m up = (up.from ≡ addresses.server) × (up.message ≡ m)

-- what is so of a response under the token of the registration
pub record IsOfToken (token : List ℕ) (m : Message) : Type 0 where
  pub kind : (m.kind ≡ Con) ⊎ (m.kind ≡ Non)
  pub class : role_of m.code ≡ role.Response
  pub same : m.token ≡ token
  pub understood : lacks_critical Response m.options ≡ false

abbrev pub AllAcked : Type 0
AllAcked = (server : Endpoint) (sizes : Sizes) (setup : Setup) (t : List C.Call) → ClientLaw server sizes setup t
    → AreAcked server sizes setup t

module _ (acked : AllAcked) (config : Config) (x : Observed) (all : List Entry) (law : Lawful config all)
    (served : AreServedFor config x all) (of_it : NoticesAreOfIt config x all) (is_heard : IsHeard config x all)
    (token : List ℕ) (registered : WasRegistered config.client_sizes x.number token (client_of all)) where
  -- so it has no Reset
  pub never_replied : (later es : List Entry) → all ≡ later ++ es → (m reset : Message) → IsOfToken token m → (id : ℕ)
      (bytes : List ℕ) → Spells bytes reset → reset.kind ≡ Rst
      → RepliedAt config config.addresses.server id bytes (IsMessage config.addresses m) es → ⊥
  never_replied later es is m reset of id bytes spells rst k = by done
    where
      d : C.Call
      d = k.call

      past : List C.Call
      past = client_of k.older

      split : all ≡ (later ++ k.newer) ++ OfClient d ∷ k.older
      split = is ∙ (ap (λ l. later ++ l) k.split ∙ sym (append_assoc later k.newer (OfClient d ∷ k.older)))

      law_here : Lawful config (OfClient d ∷ k.older)
      law_here = lawful_before config (later ++ k.newer) (OfClient d ∷ k.older) (subst (Lawful config) split law)

      from : k.up.from ≡ config.addresses.server
      from = k.known.0

      entry_call : k.fed.entry.call ≡ L.Receive config.addresses.server k.fed.bytes
      entry_call = k.fed.call_is ∙ ap (λ z. L.Receive z k.fed.bytes) from

      up : k.fed.answer ≡ L.Becomes (L.Response m)
      up = sym k.fed.answer_is
          ∙ as_response config.client_setup (client_layer config past) k.fed.entry config.addresses.server k.fed.bytes m
          k.fed.stands
          entry_call (ap handed_by k.fed.answer_is ∙ (k.fed.handed_up ∙ ap (λ z. Some z) k.known.1)) of.class

      fed : IsFed config.addresses m k.fed.now d
      fed = record {
        now = k.fed.now;
        bytes = k.fed.bytes;
        word = k.fed.word;
        settled = k.fed.settled;
        event = k.fed.event;
        sent = k.fed.sent;
        token = k.fed.token;
        kept = k.fed.kept;
        is = k.fed.is
            ∙ (ap (λ z. C.Feeds k.fed.now z k.fed.bytes k.fed.word k.fed.answer k.fed.settled k.fed.event k.fed.sent
            k.fed.token
            k.fed.kept) from
            ∙ ap (λ z. C.Feeds k.fed.now config.addresses.server k.fed.bytes k.fed.word z k.fed.settled k.fed.event
            k.fed.sent k.fed.token
            k.fed.kept) up);
        from = omega arith;
        till = omega arith;
      }

      heard : Ever (Hears config.addresses.server m) (client_adds config past d)
      heard = Ever_map (λ (z : L.Entry). z ≡ k.fed.entry) (Hears config.addresses.server m)
          (λ z same. record {
            bytes = k.fed.bytes;
            call = ap (λ (w : L.Entry). w.call) same ∙ entry_call;
            answer = ap (λ (w : L.Entry). w.answer) same ∙ (k.fed.answer_is ∙ up);
          }) (client_adds config past d) k.fed.there

      there : WasRegistered config.client_sizes x.number m.token past
      there = subst (λ t. WasRegistered config.client_sizes x.number t past) (sym of.same)
          (answered_registered config x all law served of_it token registered ((later ++ k.newer) ++ OfClient d ∷ [])
          k.older
          (split ∙ sym (append_assoc (later ++ k.newer) (OfClient d ∷ []) k.older)) m of.same
          (came_answered config k.older d (at_any_time law_here) m heard))

      done : (m.kind ≡ Con) × (bytes ≡ ack_bytes m.id)
      done = (acked config.addresses.server config.client_sizes config.client_setup (d ∷ past) law_here.client).0 m
          (is_heard (later ++ k.newer) k.older d m k.fed.now split fed of.kind there of.understood)
          config.addresses.server id bytes k.there

      small : m.id < 65536
      small =
          let t : LayerLaw config.client_setup (k.fed.entry ∷ client_layer config past) = (
            k.fed.stands,
            client_facts.layer config.addresses.server config.client_sizes config.client_setup past
                (client_facts.back config.addresses.server config.client_sizes config.client_setup (d ∷ []) past
                law_here.client),
          ) in
          ((responses_spelled config.client_setup (k.fed.entry ∷ client_layer config past) t).0 m
          (k.fed.answer_is ∙ up)).spells.id

      by : (m.kind ≡ Con) × (bytes ≡ ack_bytes m.id) → ⊥
      by h =
          let same : reset ≡ empty_of Ack m.id =
          one_message bytes reset (empty_of Ack m.id) spells
          (subst (λ b. Spells b (empty_of Ack m.id)) (sym h.1) (ack_spells m.id small)) in
          let kind = sym rst ∙ ap (λ (z : Message). z.kind) same in
          cc kind
