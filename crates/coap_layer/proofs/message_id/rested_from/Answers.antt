use Rattle.std.proofs.Common.{◌≡◌, ℕ, ◌+◌, ◌-◌, nat_le, nat_lt, Bool, true, false, Some, arith, sym, refl}
use Rattle.coap_types.specs.declared.endpoint.Moment.{Moment}
use Rattle.coap_types.specs.declared.transmission.TheConstants.{ID_REUSE_AFTER_MS as id_reuse_after}
use Rattle.coap_types.specs.FirstMoment.{IsFirstMoment}
use Rattle.coap_layer.specs.Machine.State.{is_rested}
use Rattle.coap_types.proofs.Facts.FirstMoments.{same_first}
use Rattle.coap_layer.proofs.ListLemmas.{le_true, true_le, lt_true, true_lt, not_true}
use Rattle.coap_layer.proofs.message_id.rested_from.Goals as goal

later_is : (last now : ℕ) → nat_le (id_reuse_after + 1) (now - last) ≡ nat_lt (last + id_reuse_after) now
later_is last now = go (nat_le (id_reuse_after + 1) (now - last)) refl
  where
    go : (b : Bool) → nat_le (id_reuse_after + 1) (now - last) ≡ b → b ≡ nat_lt (last + id_reuse_after) now
    go true e = let le = le_true _ _ e in sym (true_lt (last + id_reuse_after) now (omega (arith, le)))
    go false e = sym (not_true _ (λ h.
        let less = lt_true (last + id_reuse_after) now h in
        let there : nat_le (id_reuse_after + 1) (now - last) ≡ true = true_le _ _ (omega (arith, less)) in
        cc (e, there)))

pub returns-in-Some : goal.returns-in-Some
returns-in-Some c =
    let last : Moment = c.in-Some.last in
    let first : IsFirstMoment (λ now. is_rested now (Some (Some last.0))) c.args.from.0 c.after.result =
    same_first (λ now. nat_le (id_reuse_after + 1) (now - last.0)) (λ now. is_rested now (Some (Some last.0)))
    c.args.from.0 c.after.result (λ now le. later_is last.0 now) c.after.ensures in
    rw c.in-Some.is first
