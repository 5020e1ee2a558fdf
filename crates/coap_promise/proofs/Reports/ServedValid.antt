-- A 2.03 of the store comes from a GET of what a path holds, one of whose ETags is that of the version, and changes
-- nothing (RFC 7252, section 5.10.6.2).
use Rattle.std.proofs.Common.{◌≡◌, ℕ, ◌==◌, nat_lt, nat_le, Bool, true, false, ◌&&◌, not, Option, Some, None, is_some}
use Rattle.std.proofs.Common.{length, refl, ap, ◌∙◌, cond}
use Rattle.coap_types.specs.declared.message.TheConstants.Code as codes
use Rattle.coap_types.specs.declared.request.Method.TheVariants.{Get}
use Rattle.coap_resource.specs.declared.refusal.StoreRefusal.{StoreRefusal}
use Rattle.coap_resource.specs.declared.refusal.StoreRefusal.TheVariants.{Memory}
use Rattle.coap_resource.specs.Content.{Content, Held}
use Rattle.coap_resource.specs.RequestOptions.{accepts, etag_names, block_of, offset_by, tag_of, szx_by}
use Rattle.coap_resource.specs.ServedLaw.{IsOfGet}
use Rattle.coap_resource.specs.Serves.{Question, Reply, Serves, bare, got, refusal_code, content_reply}
use Rattle.coap_resource.proofs.Facts.Served.{only_got, other_code}

abbrev valid : ℕ
valid = codes.VALID.0

refusal_other : (why : StoreRefusal) → (refusal_code why == valid) ≡ false
refusal_other Memory = refl
refusal_other _ = refl

of_get : IsOfGet valid
of_get = record {
  refused = refusal_other;
  created = refl;
  changed = refl;
  deleted = refl;
  not_found = refl;
  failed = refl;
}

pub record IsValid (old : Content) (q : Question) (reply : Reply) (new : Content) : Type 0 where
  pub method : q.method ≡ Get
  pub held : Held
  pub is_held : old.holds q.path ≡ Some held
  pub named : etag_names held.version q.options ≡ true
  pub is : reply ≡ record (bare codes.VALID.0 (offset_by (block_of q.options))) { tag = Some (tag_of held.version) }
  pub same : new ≡ old

-- a GET

is_named : (tag : _) (reply : Reply) (offset : ℕ) (part : Reply) (a e b : Bool) → (part.code == valid) ≡ false
    → reply ≡ cond a (bare codes.NOT_ACCEPTABLE.0 offset)
    (cond e (record (bare codes.VALID.0 offset) { tag = tag }) (cond b (bare codes.BAD_REQUEST.0 offset) part))
    → reply.code ≡ valid → (e ≡ true) × (reply ≡ record (bare codes.VALID.0 offset) { tag = tag })
is_named tag reply offset part true e b other h k =
    absurd (other_code valid reply codes.NOT_ACCEPTABLE.0 offset h refl k)
is_named tag reply offset part false true b other h k = (refl, h)
is_named tag reply offset part false false true other h k =
    absurd (other_code valid reply codes.BAD_REQUEST.0 offset h refl k)
is_named tag reply offset part false false false other h k =
    absurd (let e : (reply.code == valid) ≡ false = ap (λ (r : Reply). r.code == valid) h
    ∙ other in let f : (reply.code == valid) ≡ true = ap (λ c. c == valid) k in cc (e, f))

get_valid : (o : Option Held) (old : Content) (q : Question) (reply : Reply) (new : Content) → q.method ≡ Get
    → old.holds q.path ≡ o → reply ≡ got o q → new ≡ old → reply.code ≡ valid
    → IsValid old q reply new
get_valid None old q reply new get is h same k =
    absurd (other_code valid reply codes.NOT_FOUND.0 (offset_by (block_of q.options)) h refl k)
get_valid (Some held) old q reply new get is h same k =
    let block = block_of q.options in
    let t = is_named (Some (tag_of held.version)) reply (offset_by block)
    (content_reply held (is_some block) (offset_by block) (szx_by block q.szx))
    (not (accepts held.format q.options)) (etag_names held.version q.options)
    (nat_lt 0 (offset_by block) && nat_le (length held.body) (offset_by block)) refl h k in
    record { method = get; held = held; is_held = is; named = t.0; is = t.1; same = same }

pub valid_law : (old new : Content) (at : ℕ) (q : Question) (reply : Reply) → Serves old at q reply new
    → reply.code ≡ valid → IsValid old q reply new
valid_law old new at q reply h k =
    let g = only_got valid of_get old new at q reply h k in
    get_valid (old.holds q.path) old q reply new g.method refl g.is g.same k
