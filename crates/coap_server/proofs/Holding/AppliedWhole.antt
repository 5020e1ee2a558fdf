-- What is applied is applied whole, and what changes anything is applied.
use Rattle.std.proofs.Common.{◌≡◌, ◌⊎◌, inl, inr, ℕ, Bool, true, false, Option, refl, ap, sym, subst, ◌∙◌, cond}
use Rattle.std.proofs.Common.{is_some}
use Rattle.coap_types.specs.declared.message.TheConstants.Code as codes
use Rattle.coap_types.specs.declared.request.Method.{Method}
use Rattle.coap_types.specs.declared.request.Method.TheVariants.{Post, Put, Delete}
use Rattle.coap_resource.specs.declared.refusal.StoreRefusal.{StoreRefusal}
use Rattle.coap_resource.specs.declared.refusal.StoreRefusal.TheVariants.{Memory, TooLarge, TooManyPaths, RateExceeded}
use Rattle.coap_resource.specs.declared.refusal.StoreRefusal.TheVariants.{VersionsSpent}
use Rattle.coap_resource.specs.Content.{Content, Held}
use Rattle.coap_resource.specs.RequestOptions.{precondition_fails}
use Rattle.coap_resource.specs.Serves.{Question, Reply, bare, refusal_code, ServesUnless}
use Rattle.coap_resource.specs.Serves as R
use Rattle.coap_resource.proofs.Facts.Outcomes.{Outcome, outcome, unmet, shown, refused, absent, gone, put, joined}
use Rattle.coap_resource.proofs.Facts.Outcomes.{removed, Got, got_by, not_there, unacceptable, known, beyond, shows}
use Rattle.coap_server.specs.Follows.Holds.{Does, IsApplied}
use Rattle.coap_server.specs.Follows.Serves.{Serving}
use Rattle.coap_server.specs.Serving.{is_applied}
use Rattle.coap_server.proofs.Facts.Observing.StoreChanges.{IsKept, kept_by, unchanged_by}

-- which codes say so

abbrev says : Reply → Bool
says reply = is_applied reply.code

refusal_not : (why : StoreRefusal) → is_applied (refusal_code why) ≡ false
refusal_not Memory = refl
refusal_not TooLarge = refl
refusal_not TooManyPaths = refl
refusal_not RateExceeded = refl
refusal_not VersionsSpent = refl

put_code : (there : Bool) → is_applied (cond there codes.CHANGED.0 codes.CREATED.0) ≡ true
put_code true = refl
put_code false = refl

-- no GET is applied
pub got_not : (o : Option Held) (q : Question) (reply : Reply) → Got o q reply → is_applied reply.code ≡ false
got_not o q reply (not_there is) = ap says is
got_not o q reply (unacceptable is) = ap says is
got_not o q reply (known held there named is) = ap says is
got_not o q reply (beyond is) = ap says is
got_not o q reply (shows held there within is) = ap says is

-- what is applied
pub applied_whole : (x : Serving) (at : ℕ) → R.Serves x.old at x.question x.reply x.left
    → is_applied x.reply.code ≡ true → IsApplied x
applied_whole x at h k = record {
  preconditions = met (precondition_fails (x.old.holds x.question.path) x.question.options) h;
  does = by (outcome x.old at x.question x.reply x.left h);
}
  where
    not_code : (code offset : ℕ) → x.reply ≡ bare code offset → is_applied code ≡ false → ⊥
    not_code code offset is none = let e : says x.reply ≡ is_applied code = ap says is in cc (e, none, k)

    met : (fails : Bool) → ServesUnless fails x.old at x.question x.reply x.left → fails ≡ false
    met true h = absurd (not_code codes.PRECONDITION_FAILED.0 _ h.0 refl)
    met false h = refl

    so : (m : Method) → x.question.method ≡ m → Does m x.question x.old x.left
        → Does x.question.method x.question x.old x.left
    so m is d = subst (λ m. Does m x.question x.old x.left) (sym is) d

    by : Outcome x.old at x.question x.reply x.left → Does x.question.method x.question x.old x.left
    by (unmet is same) = absurd (not_code codes.PRECONDITION_FAILED.0 _ is refl)
    by (shown m is same) = absurd (let e = got_not (x.old.holds x.question.path) x.question x.reply
        (got_by (x.old.holds x.question.path) x.question x.reply is) in cc (e, k))
    by (refused why is same) = absurd (not_code (refusal_code why) 0 is (refusal_not why))
    by (absent m is same) = absurd (not_code codes.NOT_FOUND.0 0 is refl)
    by (gone m there is same) = so Delete m (ap (λ (s : Content). s.holds x.question.path) same ∙ there)
    by (put m free is c) = so Put m c.there
    by (joined m held there free is c) = so Post m (held, there, c.there)
    by (removed m free is c) = so Delete m c.there

-- what is changed is applied

abbrev pub KeptOr : ℕ → Content → Content → Reply → Type 0
KeptOr at old left reply = IsKept at old left ⊎ (is_applied reply.code ≡ true)

pub kept_or_applied : (old : Content) (at : ℕ) (q : Question) (reply : Reply) (left : Content)
    → R.Serves old at q reply left → KeptOr at old left reply
kept_or_applied old at q reply left h = by (outcome old at q reply left h)
  where
    by : Outcome old at q reply left → KeptOr at old left reply
    by (unmet is same) = inl (kept_by at old left same)
    by (shown m is same) = inl (kept_by at old left same)
    by (refused why is same) = inl (unchanged_by old left at same)
    by (absent m is same) = inl (unchanged_by old left at same)
    by (gone m there is same) = inl (unchanged_by old left at same)
    by (put m free is c) = inr (ap says is ∙ put_code (is_some (old.holds q.path)))
    by (joined m held there free is c) = inr (ap says is)
    by (removed m free is c) = inr (ap says is)
