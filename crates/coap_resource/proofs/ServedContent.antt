-- A 2.05 of the store comes from a GET of what a path holds, which changes nothing (RFC 7252, section 5.8.1; RFC 7959,
-- section 2.4).
use Rattle.std.proofs.Common.{◌≡◌, ℕ, ◌==◌, false, refl, ap, sym, ◌∙◌}
use Rattle.coap_types.specs.declared.message.TheConstants.Code as codes
use Rattle.coap_types.specs.declared.request.Method.TheVariants.{Get}
use Rattle.coap_resource.specs.declared.refusal.StoreRefusal.{StoreRefusal}
use Rattle.coap_resource.specs.declared.refusal.StoreRefusal.TheVariants.{Memory, TooLarge, TooManyPaths, RateExceeded}
use Rattle.coap_resource.specs.declared.refusal.StoreRefusal.TheVariants.{VersionsSpent}
use Rattle.coap_resource.specs.Content.{Content}
use Rattle.coap_resource.specs.ServedLaw.{IsContent, IsOfGet, ContentLaw}
use Rattle.coap_resource.specs.Serves.{Question, Reply, bare, refusal_code}
use Rattle.coap_resource.proofs.Facts.Outcomes.{Got, got_by, not_there, unacceptable, known, beyond, shows}
use Rattle.coap_resource.proofs.OnlyGot.{only_got, other_code}

abbrev content : ℕ
content = codes.CONTENT.0

refusal_other : (why : StoreRefusal) → (refusal_code why == content) ≡ false
refusal_other Memory = refl
refusal_other TooLarge = refl
refusal_other TooManyPaths = refl
refusal_other RateExceeded = refl
refusal_other VersionsSpent = refl

of_get : IsOfGet content
of_get = record {
  refused = refusal_other;
  created = refl;
  changed = refl;
  deleted = refl;
  not_found = refl;
  failed = refl;
}

-- a GET
by_got : (old : Content) (q : Question) (reply : Reply) (new : Content) → q.method ≡ Get → new ≡ old
    → reply.code ≡ content → Got (old.holds q.path) q reply → IsContent old q reply new
by_got old q reply new get same k (not_there is) = absurd (other_code content reply codes.NOT_FOUND.0 _ is refl k)
by_got old q reply new get same k (unacceptable is) =
    absurd (other_code content reply codes.NOT_ACCEPTABLE.0 _ is refl k)
by_got old q reply new get same k (known held there named is) =
    absurd (other_code content (bare codes.VALID.0 0) codes.VALID.0 0 refl refl
    (sym (ap (λ (r : Reply). r.code) is) ∙ k))
by_got old q reply new get same k (beyond is) = absurd (other_code content reply codes.BAD_REQUEST.0 _ is refl k)
by_got old q reply new get same k (shows held there within is) =
    record { method = get; held = held; is_held = there; within = within; is = is; same = same }

pub content_law : ContentLaw
content_law old new at q reply h k =
    let g = only_got content of_get old new at q reply h k in
    by_got old q reply new g.method g.same k (got_by (old.holds q.path) q reply g.is)
