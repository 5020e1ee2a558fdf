-- A Confirmable or a Non-confirmable message with the code of a response is handed up as a response.
use Rattle.std.proofs.Common.{◌≡◌, inl, inr, ℕ, None, Some, List, refl, ap, sym, subst, ◌∙◌}
use Rattle.coap_types.specs.Roles.{role_of}
use Rattle.coap_types.specs.declared.endpoint.Endpoint.{Endpoint}
use Rattle.coap_types.specs.declared.message.Kind.TheVariants.{Con}
use Rattle.coap_types.specs.declared.role.Role.TheVariants as role
use Rattle.coap_codec.specs.Message.{Message, Spells}
use Rattle.coap_codec.proofs.Facts.EveryDatagram.{one_message}
use Rattle.coap_layer.specs.Arrivals.{Arrival, Faulted, Whole, Shows}
use Rattle.coap_layer.specs.Rows.{Stands, Row, Sorts, HandedAs, Arrives, rejects, drops, takes_ack, takes_reset}
use Rattle.coap_layer.specs.Rows.{passes_reset, takes_answer, replays, hands_over}
use Rattle.coap_layer.specs.Trace as L
use Rattle.coap_layer.specs.Words.{from_there, handed, handed_by, handed_in}
use Rattle.coap_layer.specs.declared.setup.Setup.{Setup}

module _ (setup : Setup) (past : List L.Entry) (e : L.Entry) (from : Endpoint) (bytes : List ℕ) (n : Message)
    (stands : Stands setup past e) (call : e.call ≡ L.Receive from bytes) (spells : Spells bytes n)
    (up : handed e ≡ Some (record { from = from; message = n })) (class : role_of n.code ≡ role.Response) where
  -- where nothing is handed up
  not_up : (what : L.Disposition) → e.answer ≡ L.Becomes what → handed_by (L.Becomes what) ≡ None → ⊥
  not_up what is none =
      let no : handed e ≡ None = ap (λ c. handed_in c e.answer) call ∙ ap (λ a. handed_in (L.Receive from bytes) a) is
      ∙ ap (from_there from) none in
      let k = sym no ∙ up in
      cc k

  whole : (m : Message) → m ≡ n → Sorts setup past e (record { from = from; message = m })
      → e.answer ≡ L.Becomes (L.Response n)
  whole m same (rejects r) = absurd (not_up L.Rejected r.answer refl)
  whole m same (drops r) = absurd (not_up L.Dropped r.answer refl)
  whole m same (takes_ack r) = absurd (not_up (L.Acked m.id) r.answer refl)
  whole m same (takes_reset r) = absurd (not_up (L.Reset m.id) r.answer refl)
  whole m same (passes_reset r) = absurd (not_up (L.Unmatched m.id) r.answer refl)
  whole m same (takes_answer r) = r.answer ∙ ap (λ x. L.Becomes (L.Response x)) same
  whole m same (replays r) = absurd (not_up L.Replayed r.answer refl)
  whole m same (hands_over r) = go r.answer
    where
      request : role_of m.code ≡ role.Request → ⊥
      request is = let k = sym is ∙ ap (λ (x : Message). role_of x.code) same ∙ class in cc k

      go : HandedAs setup past e (record { from = from; message = m }) → e.answer ≡ L.Becomes (L.Response n)
      go (inl a) = absurd (request a.0)
      go (inr (inl a)) = absurd (request a.0)
      go (inr (inr a)) = a.1 ∙ ap (λ x. L.Becomes (L.Response x)) same

  arrived : (what : Arrival) → Shows bytes what → Arrives setup past e from what
      → e.answer ≡ L.Becomes (L.Response n)
  arrived (Faulted Con i) s r = absurd (not_up L.Rejected r.0 refl)
  arrived (Whole m) s r = whole m (one_message bytes m n s spells) r
  arrived _ s r = absurd (not_up L.Dropped r.0 refl)

  pub up_as_response : e.answer ≡ L.Becomes (L.Response n)
  up_as_response =
      let row : Row setup past e (L.Receive from bytes) = subst (Row setup past e) call stands.row in
      arrived row.0 row.1 row.2
