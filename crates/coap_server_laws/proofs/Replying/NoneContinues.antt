-- No answer of the store is 2.31.
use Rattle.std.proofs.Common.{◌≡◌, ◌≢◌, ℕ, ◌==◌, Bool, true, false, ap, sym, ◌∙◌, refl, cond, is_some}
use Rattle.coap_types.specs.declared.message.TheConstants.Code as codes
use Rattle.coap_resource.specs.declared.refusal.StoreRefusal.{StoreRefusal}
use Rattle.coap_resource.specs.declared.refusal.StoreRefusal.TheVariants.{Memory, TooLarge, TooManyPaths, RateExceeded}
use Rattle.coap_resource.specs.declared.refusal.StoreRefusal.TheVariants.{VersionsSpent}
use Rattle.coap_resource.specs.Content.{Content}
use Rattle.coap_resource.specs.Serves.{Question, Reply, refusal_code}
use Rattle.coap_resource.specs.Serves as R
use Rattle.coap_resource.proofs.Facts.Outcomes.{Outcome, outcome, unmet, shown, refused, absent, gone, put, joined}
use Rattle.coap_resource.proofs.Facts.Outcomes.{removed, Got, got_by, not_there, unacceptable, known, beyond, shows}

abbrev continues : Reply → Bool
continues reply = reply.code == codes.CONTINUE.0

refusal_not : (why : StoreRefusal) → (refusal_code why == codes.CONTINUE.0) ≡ false
refusal_not Memory = refl
refusal_not TooLarge = refl
refusal_not TooManyPaths = refl
refusal_not RateExceeded = refl
refusal_not VersionsSpent = refl

put_not : (there : Bool) → (cond there codes.CHANGED.0 codes.CREATED.0 == codes.CONTINUE.0) ≡ false
put_not true = refl
put_not false = refl

module _ (old : Content) (at : ℕ) (q : Question) (reply : Reply) (left : Content) where
  got_not : Got (old.holds q.path) q reply → continues reply ≡ false
  got_not (not_there is) = ap continues is
  got_not (unacceptable is) = ap continues is
  got_not (known held there named is) = ap continues is
  got_not (beyond is) = ap continues is
  got_not (shows held there within is) = ap continues is

  none : Outcome old at q reply left → continues reply ≡ false
  none (unmet is same) = ap continues is
  none (shown m is same) = got_not (got_by (old.holds q.path) q reply is)
  none (refused why is same) = ap continues is ∙ refusal_not why
  none (absent m is same) = ap continues is
  none (gone m there is same) = ap continues is
  none (put m free is c) = ap continues is ∙ put_not (is_some (old.holds q.path))
  none (joined m held there free is c) = ap continues is
  none (removed m free is c) = ap continues is

  pub never_continues : R.Serves old at q reply left → reply.code ≢ codes.CONTINUE.0
  never_continues h e =
      let k = none (outcome old at q reply left h) in
      let z : true ≡ false = sym (ap (λ n. n == codes.CONTINUE.0) e) ∙ k in
      cc z
