-- A code that no change, no refusal and no failed precondition has is that of a GET (RFC 7252, section 5.8).
use Rattle.std.proofs.Common.{◌≡◌, ℕ, ◌==◌, Bool, true, false, is_some, ap, sym, ◌∙◌, cond}
use Rattle.std.proofs.lemmas.Bool.{eq-eqb}
use Rattle.coap_types.specs.declared.message.TheConstants.Code as codes
use Rattle.coap_resource.specs.Content.{Content}
use Rattle.coap_resource.specs.ServedLaw.{IsGot, IsOfGet}
use Rattle.coap_resource.specs.Serves.{Question, Reply, Serves, bare, refusal_code}
use Rattle.coap_resource.proofs.Facts.Outcomes.{Outcome, outcome, unmet, shown, refused, absent, gone, put, joined}
use Rattle.coap_resource.proofs.Facts.Outcomes.{removed}

pub other_code : (code : ℕ) (reply : Reply) (other offset : ℕ) → reply ≡ bare other offset → (other == code) ≡ false
    → reply.code ≡ code → ⊥
other_code code reply other offset is differs h =
    let e : (other == code) ≡ true = eq-eqb other code (sym (ap (λ (r : Reply). r.code) is) ∙ h) in
    cc (e, differs)

module _ (code : ℕ) (none : IsOfGet code) where
  changed : (there : Bool) → (cond there codes.CHANGED.0 codes.CREATED.0 == code) ≡ false
  changed true = none.changed
  changed false = none.created

  pub only_got : (old new : Content) (at : ℕ) (q : Question) (reply : Reply) → Serves old at q reply new
      → reply.code ≡ code → IsGot old q reply new
  only_got old new at q reply h k = by (outcome old at q reply new h)
    where
      other : (n offset : ℕ) → reply ≡ bare n offset → (n == code) ≡ false → IsGot old q reply new
      other n offset is differs = absurd (other_code code reply n offset is differs k)

      by : Outcome old at q reply new → IsGot old q reply new
      by (unmet is same) = other _ _ is none.failed
      by (shown m is same) = record { method = m; is = is; same = same }
      by (refused why is same) = other (refusal_code why) 0 is (none.refused why)
      by (absent m is same) = other codes.NOT_FOUND.0 0 is none.not_found
      by (gone m there is same) = other codes.DELETED.0 0 is none.deleted
      by (put m free is c) = other _ 0 is (changed (is_some (old.holds q.path)))
      by (joined m held there free is c) = other codes.CHANGED.0 0 is none.changed
      by (removed m free is c) = other codes.DELETED.0 0 is none.deleted
