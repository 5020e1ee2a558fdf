-- A response with short values fits a message (RFC 7252, section 4.6).
use Rattle.std.proofs.Common.{◌≡◌, ◌<◌, ◌≤◌, ◌++◌, ◌&&◌, ℕ, zero, suc, ◌+◌, Bool, true, List, [], ◌∷◌, Option}
use Rattle.std.proofs.Common.{Some, None, IfSome, length, refl, ap, sym, subst, ◌∙◌, arith}
use Rattle.std.specs.Prelude.{nat_le}
use Rattle.std.specs.List.{list_all}
use Rattle.std.proofs.lemmas.Bool.{le-leb}
use Rattle.coap_types.specs.CoapOption.{CoapOption, option}
use Rattle.coap_types.specs.OptionValues.{option_with}
use Rattle.coap_types.specs.Roles.{role_of}
use Rattle.coap_types.specs.declared.role.Role.TheVariants as role
use Rattle.coap_codec.specs.BoundedSpelling.{is_numbered, most_bytes}
use Rattle.coap_codec.specs.Refused.{ascends, is_short}
use Rattle.coap_exchange.specs.ShortAnswers.{IsShortAnswer, IsNotificationWhenShort}
use Rattle.coap_exchange.specs.AnswererTrace.{Response}
use Rattle.coap_exchange.specs.Machine.AnswererShown.{IsAnswerWith}
use Rattle.coap_server.specs.Object.FullResponses.{response_as}

-- options behind a number, in order and short, of at most so many bytes
record AreShort (base most : ℕ) (os : List CoapOption) : Type 0 where
  order : ascends base os ≡ true
  numbers : list_all is_numbered os ≡ true
  short : list_all is_short os ≡ true
  few : most_bytes os ≤ most

no_option : (base : ℕ) → AreShort base 0 []
no_option base = record { order = refl; numbers = refl; short = refl; few = omega arith }

later_base : (base number k : ℕ) (rest : Bool) → base ≤ number → (nat_le number k && rest) ≡ true
    → (nat_le base k && rest) ≡ true
later_base base number k rest low h = search arith

behind : (base number : ℕ) (os : List CoapOption) → base ≤ number → ascends number os ≡ true → ascends base os ≡ true
behind base number [] low h = refl
behind base number (o ∷ os) low h = later_base base number o.number (ascends o.number os) low h

one_more : (base number most : ℕ) (value : List ℕ) (os : List CoapOption) → base ≤ number → number < 65536
    → length value ≤ 8 → AreShort number most os
    → AreShort base (13 + most) (option number value ∷ os)
one_more base number most value os low small few s =
    let a : nat_le base number ≡ true = le-leb base number low in
    let b : is_numbered (option number value) ≡ true = search arith in
    let c : is_short (option number value) ≡ true = search arith in
    record {
      order = rw a s.order;
      numbers = rw b s.numbers;
      short = rw c s.short;
      few = omega (arith, few, s.few);
    }

with_option : (base number most : ℕ) (value : Option (List ℕ)) (os : List CoapOption) → base ≤ number → number < 65536
    → IfSome value (λ v. length v ≤ 8) → AreShort number most os
    → AreShort base (13 + most) (option_with number value ++ os)
with_option base number most (Some value) os low small few s = one_more base number most value os low small few s
with_option base number most None os low small few s =
    record {
      order = behind base number os low s.order;
      numbers = s.numbers;
      short = s.short;
      few = omega (arith, s.few);
    }

last_option : (base number : ℕ) (value : Option (List ℕ)) → base ≤ number → number < 65536
    → IfSome value (λ v. length v ≤ 8) → AreShort base 13 (option_with number value)
last_option base number (Some value) low small few = one_more base number 0 value [] low small few (no_option number)
last_option base number None low small few = record { order = refl; numbers = refl; short = refl; few = omega arith }

-- ETag, Observe, Content-Format, Block2 and Block1, and at most 1,024 bytes
pub short_response : (code : ℕ) (tag sequence format part whole : Option (List ℕ)) (payload : List ℕ)
    → role_of code ≡ role.Response → 0 < code → code < 256
    → IfSome tag (λ v. length v ≤ 8) → IfSome sequence (λ v. length v ≤ 8) → IfSome format (λ v. length v ≤ 8)
    → IfSome part (λ v. length v ≤ 8) → IfSome whole (λ v. length v ≤ 8)
    → length payload ≤ 1024 → IsShortAnswer (response_as code tag sequence format part whole payload)
short_response code tag sequence format part whole payload is some byte t s f p w few =
    let five = last_option 23 27 whole (omega arith) (omega arith) w in
    let four = with_option 12 23 13 part _ (omega arith) (omega arith) p five in
    let three = with_option 6 12 26 format _ (omega arith) (omega arith) f four in
    let two = with_option 4 6 39 sequence _ (omega arith) (omega arith) s three in
    let one = with_option 0 4 52 tag _ (omega arith) (omega arith) t two in
    record {
      role = is;
      some = some;
      code = byte;
      order = one.order;
      numbers = one.numbers;
      short = one.short;
      fits = omega (arith, one.few, few);
    }

-- what has the values of a short response can be sent with any token
pub sendable_as : IsNotificationWhenShort → (r : Response) (options : List CoapOption) (payload : List ℕ)
    → IsShortAnswer r → options ≡ r.options → payload ≡ r.payload
    → (token : List ℕ) → length token ≤ 8 → IsAnswerWith token
    (record { code = r.code; options = options; payload = payload })
sendable_as law r options payload short e f token few =
    let is : r ≡ record { code = r.code; options = options; payload = payload } =
    ap (λ o. record { code = r.code; options = o; payload = r.payload }) (sym e)
    ∙ ap (λ p. record { code = r.code; options = options; payload = p }) (sym f) in
    subst (IsAnswerWith token) is (law token r few short)

pub at_most : (value : Option (List ℕ)) → IfSome value (λ v. length v ≤ 4) → IfSome value (λ v. length v ≤ 8)
at_most None few = tt
at_most (Some value) few = omega (arith, few)

pub above_none : (code : ℕ) → role_of code ≡ role.Response → 0 < code
above_none zero is = absurd (cc is)
above_none (suc code) is = omega arith
