-- An acknowledgement that arrives while its CON is outstanding is taken.
use Rattle.coap_layer.specs.Trace.{Setup}
use Rattle.std.proofs.Common.{◌≡◌, ◌⊎◌, inl, inr, ⊎_elim, List, [], ◌∷◌, ℕ, sym, ◌∙◌, subst}
use Rattle.coap_types.specs.Roles.{role_of}
use Rattle.coap_types.specs.declared.endpoint.Endpoint.{Endpoint}
use Rattle.coap_types.specs.declared.message.Kind.TheVariants.{Ack}
use Rattle.coap_types.specs.declared.role.Role.TheVariants as role
use Rattle.coap_codec.specs.Message.{Message, Spells}
use Rattle.coap_layer.specs.Arrivals.{Whole}
use Rattle.coap_layer.specs.Rows.{LayerLaw, Stands, Row, Arrives, Sorts, Ignores, Outstanding, ignores_non}
use Rattle.coap_layer.specs.Rows.{ignores_reset}
use Rattle.coap_layer.specs.Rows.{ignores_ack, ignores_unmatched, ignores_new, rejects, drops, takes_ack, takes_reset}
use Rattle.coap_layer.specs.Rows.{passes_reset, takes_answer, replays, hands_over}
use Rattle.coap_layer.specs.Taking.{AllTakeAcks}
use Rattle.coap_layer.specs.Trace.{Receive, Response, Acked, Becomes, Entry}
use Rattle.coap_layer.specs.Words.{Incoming}
use Rattle.coap_layer.proofs.Facts.Arrivals.{one_arrival}

-- what arrives whole is sorted
pub sorts_as : (setup : Setup) (past : List Entry) (e : Entry) (from : Endpoint) (bytes : List ℕ) (m : Message)
    → Stands setup past e → e.call ≡ Receive from bytes → Spells bytes m
    → Sorts setup past e (record { from = from; message = m })
sorts_as setup past e from bytes m here call spells =
    let row : Row setup past e (Receive from bytes) = subst (Row setup past e) call here.row in
    subst (Arrives setup past e from)
    (one_arrival bytes row.0 row.1 ∙ sym (one_arrival bytes (Whole m) spells)) row.2

module _ (setup : Setup) (past : List Entry) (e : Entry) (n : Incoming) (kind : n.message.kind ≡ Ack)
    (is : Outstanding past n.from n.message.id) where
  ignored : (role_of n.message.code ≡ role.Empty) ⊎ (role_of n.message.code ≡ role.Response) → Ignores setup past e n
      → ⊥
  ignored class (ignores_non k) = let a = k.kind in cc (kind, a)
  ignored class (ignores_reset k) = let a = k.kind in cc (kind, a)
  ignored class (ignores_ack k) = ⊎_elim (λ a. ⊎_elim (λ b. cc (a, b)) (λ b. cc (a, b)) k.class)
      (λ a. ⊎_elim (λ b. cc (a, b)) (λ b. cc (a, b)) k.class) class
  ignored class (ignores_unmatched k) = k.alone is
  ignored class (ignores_new k) = ⊎_elim (λ a. cc (kind, a)) (λ a. cc (kind, a)) k.kind

  empty_in : role_of n.message.code ≡ role.Empty → Sorts setup past e n → e.answer ≡ Becomes (Acked n.message.id)
  empty_in class (rejects r) = let a = r.kind in absurd (cc (kind, a))
  empty_in class (drops r) = absurd (ignored (inl class) r.why)
  empty_in class (takes_ack r) = r.answer
  empty_in class (takes_reset r) = let a = r.kind in absurd (cc (kind, a))
  empty_in class (passes_reset r) = let a = r.kind in absurd (cc (kind, a))
  empty_in class (takes_answer r) = let a = r.class in absurd (cc (class, a))
  empty_in class (replays r) = absurd (⊎_elim (λ a. cc (kind, a)) (λ a. cc (kind, a)) r.kind)
  empty_in class (hands_over r) = absurd (⊎_elim (λ a. cc (kind, a)) (λ a. cc (kind, a)) r.kind)

  carrying_in : role_of n.message.code ≡ role.Response → Sorts setup past e n → e.answer ≡ Becomes (Response n.message)
  carrying_in class (rejects r) = let a = r.kind in absurd (cc (kind, a))
  carrying_in class (drops r) = absurd (ignored (inr class) r.why)
  carrying_in class (takes_ack r) = let a = r.class in absurd (cc (class, a))
  carrying_in class (takes_reset r) = let a = r.kind in absurd (cc (kind, a))
  carrying_in class (passes_reset r) = let a = r.kind in absurd (cc (kind, a))
  carrying_in class (takes_answer r) = r.answer
  carrying_in class (replays r) = absurd (⊎_elim (λ a. cc (kind, a)) (λ a. cc (kind, a)) r.kind)
  carrying_in class (hands_over r) = absurd (⊎_elim (λ a. cc (kind, a)) (λ a. cc (kind, a)) r.kind)

pub all_take_acks : (setup : Setup) (t : List Entry) → LayerLaw setup t → AllTakeAcks t
all_take_acks setup [] law = tt
all_take_acks setup (e ∷ past) law = (
  record {
    empty = λ from bytes m call spells kind class is. empty_in setup past e (record { from = from; message = m }) kind
        is class (sorts_as setup past e from bytes m law.0 call spells);
    carrying = λ from bytes m call spells kind class is.
        carrying_in setup past e (record { from = from; message = m }) kind is class
        (sorts_as setup past e from bytes m law.0 call spells);
  },
  all_take_acks setup past law.1,
)
