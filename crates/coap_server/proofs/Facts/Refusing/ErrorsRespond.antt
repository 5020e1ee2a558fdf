-- An error is a response, and no success (RFC 7252, section 5.9).
use Rattle.std.proofs.Common.{◌≡◌, ◌≤◌, ◌<◌, ◌⊎◌, inl, inr, ℕ, ◌/◌, ◌==◌, nat_le, ◌&&◌, ◌||◌, Bool, true, false, Option}
use Rattle.std.proofs.Common.{Some, refl, ap, sym, subst, ◌∙◌, cond, arith, ⊎_elim}
use Rattle.std.specs.Cmp.{unsigned_Decides}
use Rattle.coap_types.specs.OptionValues.{has}
use Rattle.coap_types.specs.Recognised.{lacks_critical}
use Rattle.coap_types.specs.Roles.{role_of}
use Rattle.coap_types.specs.declared.direction.Direction.TheVariants as direction
use Rattle.coap_types.specs.declared.message.Kind.{Kind}
use Rattle.coap_types.specs.declared.message.Kind.TheVariants.{Con}
use Rattle.coap_types.specs.declared.option_number.TheConstants.{PROXY_URI as proxy_uri, PROXY_SCHEME as proxy_scheme}
use Rattle.coap_types.specs.declared.role.Role.TheVariants as role
use Rattle.coap_codec.specs.Message.{Message}
use Rattle.coap_server.specs.Checks.{asks, bad_option, proxying_not_supported}
use Rattle.coap_server.specs.Refusing.{IsRefused, bad_response, is_error, refusal}

-- its class is 4 or 5
pub class_of : (code : ℕ) → is_error code ≡ true → (code / 32 ≡ 4) ⊎ (code / 32 ≡ 5)
class_of code is = by (code / 32 == 4) refl is
  where
    by : (b : Bool) → (code / 32 == 4) ≡ b → (b || (code / 32 == 5)) ≡ true → (code / 32 ≡ 4) ⊎ (code / 32 ≡ 5)
    by true e h = inl ((unsigned_Decides (code / 32) 4).0 e)
    by false e h = inr ((unsigned_Decides (code / 32) 5).0 h)

-- what an error says
pub record IsError (code : ℕ) : Type 0 where
  pub error : is_error code ≡ true
  pub responds : role_of code ≡ role.Response
  pub least : 128 ≤ code
  pub most : code < 192

not_zero : (code : ℕ) → 128 ≤ code → (code == 0) ≡ false
not_zero code least = by (code == 0) refl
  where
    by : (b : Bool) → (code == 0) ≡ b → (code == 0) ≡ false
    by true e = let z : code ≡ 0 = (unsigned_Decides code 0).0 e in absurd (omega (arith, z, least))
    by false e = e

role_at : (code n : ℕ) → code / 32 ≡ n → 128 ≤ code
    → role_of code
    ≡ cond (n == 0) role.Request (cond (nat_le 2 n && nat_le n 5) role.Response role.Reserved)
role_at code n is least =
    ap (λ b. cond b role.Empty (cond (code / 32 == 0) role.Request
    (cond (nat_le 2 (code / 32) && nat_le (code / 32) 5) role.Response role.Reserved))) (not_zero code least)
    ∙ ap (λ k. cond (k == 0) role.Request (cond (nat_le 2 k && nat_le k 5) role.Response role.Reserved)) is

pub says_error : (code : ℕ) → is_error code ≡ true → IsError code
says_error code is = ⊎_elim (λ e. at_four e) (λ e. at_five e) (class_of code is)
  where
    at_four : code / 32 ≡ 4 → IsError code
    at_four e =
        let least : 128 ≤ code = omega (arith, e) in
        record { error = is; responds = role_at code 4 e least; least = least; most = omega (arith, e) }

    at_five : code / 32 ≡ 5 → IsError code
    at_five e =
        let least : 128 ≤ code = omega (arith, e) in
        record { error = is; responds = role_at code 5 e least; least = least; most = omega (arith, e) }

-- so does the response to a request that is refused
pub refusal_says : (code : ℕ) (m : Message) → is_error code ≡ true → (n : ℕ) → refusal code m ≡ Some n → IsError n
refusal_says code m is n e = by (lacks_critical direction.Request m.options)
    (has proxy_uri (asks m) || has proxy_scheme (asks m)) e
  where
    said : (k : ℕ) → is_error k ≡ true → Some k ≡ Some n → IsError n
    said k error same = let s : k ≡ n = cc same in subst IsError s (says_error k error)

    bad : (k : Kind) → bad_response k ≡ Some n → IsError n
    bad Con same = said bad_option refl same
    bad _ same = absurd (cc same)

    by : (b c : Bool) → cond b (bad_response m.kind) (cond c (Some proxying_not_supported) (Some code)) ≡ Some n
        → IsError n
    by true c same = bad m.kind same
    by false true same = said proxying_not_supported refl same
    by false false same = said code is same

pub response_says : (code : ℕ) (m : Message) (response : Option ℕ) → IsRefused code m response → (n : ℕ)
    → response ≡ Some n → IsError n
response_says code m response row n e = refusal_says code m row.error n (sym row.is ∙ e)
