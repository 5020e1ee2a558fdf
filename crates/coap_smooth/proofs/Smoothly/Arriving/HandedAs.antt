-- A Confirmable message that is handed up is handed up as what it carries: a request or a response.
use Rattle.std.proofs.Common.{◌≡◌, ◌⊎◌, inl, inr, ℕ, Bool, true, false, Option, Some, None, List, refl, ap, sym, subst}
use Rattle.std.proofs.Common.{◌∙◌}
use Rattle.coap_types.specs.Roles.{role_of}
use Rattle.coap_types.specs.declared.endpoint.Endpoint.{Endpoint}
use Rattle.coap_types.specs.declared.message.Kind.TheVariants.{Con}
use Rattle.coap_types.specs.declared.role.Role.TheVariants as role
use Rattle.coap_codec.specs.Message.{Message, Spells}
use Rattle.coap_codec.proofs.Facts.EveryDatagram.{one_message}
use Rattle.coap_layer.specs.Arrivals.{Arrival, Faulted, Whole, Shows}
use Rattle.coap_layer.specs.Rows.{Stands, Row, Sorts, HandedAs, Arrives, rejects, drops, takes_ack, takes_reset}
use Rattle.coap_layer.specs.Rows.{passes_reset, takes_answer, replays, hands_over}
use Rattle.coap_layer.specs.Trace as L
use Rattle.coap_layer.specs.Words.{Incoming, is_from, kept_by, from_there, taken, taken_in, hands_up}
use Rattle.coap_layer.specs.declared.setup.Setup.{Setup}

abbrev AsItIs : Message → L.Answer → Type 0
AsItIs n answer = ((role_of n.code ≡ role.Request) × (answer ≡ L.Becomes (L.Request n true)))
    ⊎ ((role_of n.code ≡ role.Response) × (answer ≡ L.Becomes (L.Response n)))

module _ (setup : Setup) (past : List L.Entry) (e : L.Entry) (from : Endpoint) (id : ℕ) (bytes : List ℕ) (n : Message)
    (stands : Stands setup past e) (call : e.call ≡ L.Receive from bytes) (spells : Spells bytes n) (con : n.kind ≡ Con)
    (up : hands_up from id e ≡ true) where
  -- where nothing is kept, nothing is handed up
  not_up : (what : L.Disposition) → e.answer ≡ L.Becomes what → kept_by (L.Becomes what) ≡ None → ⊥
  not_up what is none =
      let kept : taken e ≡ None = ap (λ c. taken_in c e.answer) call ∙ ap (λ a. taken_in (L.Receive from bytes) a) is
      ∙ ap (from_there from) none in
      let no : hands_up from id e ≡ false =
      ap (λ (o : Option Incoming). elim o as (λ w. Bool) [ Some m ↦ is_from from id m | None ↦ false ]) kept in
      let k : false ≡ true = sym no ∙ up in
      cc k

  whole : (m : Message) → m ≡ n → Sorts setup past e (record { from = from; message = m }) → AsItIs n e.answer
  whole m same (rejects r) = absurd (not_up L.Rejected r.answer refl)
  whole m same (drops r) = absurd (not_up L.Dropped r.answer refl)
  whole m same (takes_ack r) = absurd (not_up (L.Acked m.id) r.answer refl)
  whole m same (takes_reset r) = absurd (not_up (L.Reset m.id) r.answer refl)
  whole m same (passes_reset r) = absurd (not_up (L.Unmatched m.id) r.answer refl)
  whole m same (takes_answer r) = let k = sym con ∙ ap (λ (x : Message). x.kind) (sym same) ∙ r.kind in absurd (cc k)
  whole m same (replays r) = absurd (not_up L.Replayed r.answer refl)
  whole m same (hands_over r) = go r.answer
    where
      go : HandedAs setup past e (record { from = from; message = m }) → AsItIs n e.answer
      go (inl a) = inl (
        ap (λ (x : Message). role_of x.code) (sym same) ∙ a.0,
        a.2 ∙ ap (λ x. L.Becomes (L.Request x true)) same,
      )
      go (inr (inl a)) = let k = sym con ∙ ap (λ (x : Message). x.kind) (sym same) ∙ a.1 in absurd (cc k)
      go (inr (inr a)) = inr (
        ap (λ (x : Message). role_of x.code) (sym same) ∙ a.0,
        a.1 ∙ ap (λ x. L.Becomes (L.Response x)) same,
      )

  arrived : (what : Arrival) → Shows bytes what → Arrives setup past e from what → AsItIs n e.answer
  arrived (Faulted Con i) s r = absurd (not_up L.Rejected r.0 refl)
  arrived (Whole m) s r = whole m (one_message bytes m n s spells) r
  arrived _ s r = absurd (not_up L.Dropped r.0 refl)

  handed_as : AsItIs n e.answer
  handed_as =
      let row : Row setup past e (L.Receive from bytes) = subst (Row setup past e) call stands.row in
      arrived row.0 row.1 row.2

  -- .. so by its role
  pub as_request : role_of n.code ≡ role.Request → e.answer ≡ L.Becomes (L.Request n true)
  as_request is = by handed_as
    where
      by : AsItIs n e.answer → e.answer ≡ L.Becomes (L.Request n true)
      by (inl k) = k.1
      by (inr k) = let z = sym is ∙ k.0 in absurd (cc z)

  pub as_response : role_of n.code ≡ role.Response → e.answer ≡ L.Becomes (L.Response n)
  as_response is = by handed_as
    where
      by : AsItIs n e.answer → e.answer ≡ L.Becomes (L.Response n)
      by (inl k) = let z = sym is ∙ k.0 in absurd (cc z)
      by (inr k) = k.1
