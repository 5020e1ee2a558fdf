-- Under a code that says no change nothing changes but the moment.
use Rattle.std.proofs.Common.{◌≡◌, ◌⊎◌, inl, inr, ℕ, Bool, true, false, is_some, refl, ap, cond}
use Rattle.coap_types.specs.declared.message.TheConstants.Code as codes
use Rattle.coap_resource.specs.Content.{later}
use Rattle.coap_resource.specs.ServedLaw.{is_change, SameLaw}
use Rattle.coap_resource.specs.Serves.{Reply, bare}
use Rattle.coap_resource.proofs.Facts.Outcomes.{Outcome, outcome, unmet, shown, refused, absent, gone, put, joined}
use Rattle.coap_resource.proofs.Facts.Outcomes.{removed}

put_changes : (there : Bool) → is_change (cond there codes.CHANGED.0 codes.CREATED.0) ≡ true
put_changes true = refl
put_changes false = refl

pub same_law : SameLaw
same_law old new now q reply h other = by (outcome old now q reply new h)
  where
    change : (code offset : ℕ) → reply ≡ bare code offset → is_change code ≡ true
        → (new ≡ old) ⊎ (new ≡ later old now)
    change code offset is one =
        let e : is_change reply.code ≡ is_change code = ap (λ (r : Reply). is_change r.code) is in
        absurd (cc (e, one, other))

    by : Outcome old now q reply new → (new ≡ old) ⊎ (new ≡ later old now)
    by (unmet is same) = inl same
    by (shown m is same) = inl same
    by (refused why is same) = inr same
    by (absent m is same) = inr same
    by (gone m there is same) = inr same
    by (put m free is c) = change _ 0 is (put_changes (is_some (old.holds q.path)))
    by (joined m held there free is c) = change codes.CHANGED.0 0 is refl
    by (removed m free is c) = change codes.DELETED.0 0 is refl
