-- An option behind others, and one that is spelled as the first of a message.
use Rattle.std.proofs.Common.{◌≡◌, ◌≤◌, ◌<◌, ℕ, ◌+◌, ◌-◌, ◌*◌, ◌^◌, List, [], ◌∷◌, ◌++◌, length, take, drop, sym, ap}
use Rattle.std.proofs.Common.{◌∙◌, subst, arith}
use Rattle.std.proofs.Common.{length-append}
use Rattle.std.proofs.lemmas.List.{append_assoc, append-nil, drop-take, length-take, length-take-le}
use Rattle.std.proofs.lemmas.Slice.{take-put_mid}
use borrow.Rule.Slice.PartMut.{put_mid}
use Rattle.coap_types.specs.CoapOption.{CoapOption, option}
use Rattle.coap_codec.specs.Extension.{Ext}
use Rattle.byteorder.specs.Endian.{big_bytes}
use Rattle.coap_codec.specs.Message.{Message, Spells, header, kind_number, marked}
use Rattle.coap_codec.specs.Options.{Options}
use Rattle.coap_options.specs.Written.{OneMore, last_number}

one_behind : (base : ℕ) (before : List CoapOption) (bytes more : List ℕ) (o : CoapOption) → Options base bytes before
    → Options (last_number base before) more (o ∷ []) → Options base (bytes ++ more) (before ++ o ∷ [])
one_behind base [] bytes more o none one = subst (λ b. Options base (b ++ more) (o ∷ [])) (sym none) one
one_behind base (p ∷ ps) bytes more o are one = (
  are.0,
  are.1 ++ more,
  ap (λ b. b ++ more) are.2 ∙ append_assoc are.0 are.1 more,
  are.3,
  one_behind p.number ps are.1 more o are.4 one,
)

pub one_more : OneMore
one_more before bytes more o are one = one_behind 0 before bytes more o are one

-- behind one of the number base, as behind none
pub shifted : (base number : ℕ) (value bytes : List ℕ) → base ≤ number
    → Options 0 bytes (option (number - base) value ∷ []) → number < 2 ^ 16
    → Options base bytes (option number value ∷ [])
shifted base number value bytes rises is small = (
  is.0,
  is.1,
  is.2,
  record {
    rises = rises;
    fits = small;
    delta = is.3.delta;
    more_delta = is.3.more_delta;
    len = is.3.len;
    more_len = is.3.more_len;
    number = subst (λ n. Ext n is.3.delta is.3.more_delta) (let e : (number - base) - 0
        ≡ number - base = omega arith in e)
        is.3.number;
    value = is.3.value;
    parts = is.3.parts;
  },
  is.4,
)

-- the message of one option, without token and payload, is that option behind its header
pub spelled : (base number : ℕ) (value new : List ℕ) (end : ℕ) (m : Message) → base ≤ number → number < 2 ^ 16
    → Spells (take end new) m → m.token ≡ [] → m.options ≡ option (number - base) value ∷ [] → m.payload ≡ [] → m.id ≡ 0
    → end ≤ length new
    → (4 ≤ end) × (end ≤ length new) × Options base (take (end - 4) (drop 4 new)) (option number value ∷ [])
spelled base number value new end m rises small is token options payload id fits =
    let there : take end new ≡ header m ++ ([] ++ (is.option_bytes ++ [])) =
    is.parts ∙ ap (λ t. header m ++ (t ++ (is.option_bytes ++ marked m.payload))) token
    ∙ ap (λ p. header m ++ ([] ++ (is.option_bytes ++ marked p))) payload in
    let four : take end new ≡ (64 + (kind_number m.kind * 16 + length m.token)) ∷ m.code ∷ 0 ∷ 0
    ∷ (is.option_bytes ++ []) =
    there ∙ ap (λ n. (64 + (kind_number m.kind * 16 + length m.token)) ∷ m.code
    ∷ (big_bytes 2 n ++ ([] ++ (is.option_bytes ++ [])))) id in
    let long : 4 ≤ end = (let len = ap length four in let most = length-take-le end new fits in omega arith) in
    let behind : drop 4 (take end new) ≡ is.option_bytes = ap (drop 4) four ∙ append-nil is.option_bytes in
    let at : drop 4 (take end new) ≡ take (end - 4) (drop 4 new) =
    subst (λ n. drop 4 (take n new) ≡ take (end - 4) (drop 4 new)) (let e : 4 + (end - 4) ≡ end = omega arith in e)
    (drop-take 4 (end - 4) new) in (
      long,
      fits,
      subst (λ b. Options base b (option number value ∷ [])) (sym behind ∙ at)
          (shifted base number value is.option_bytes rises
          (subst (λ o. Options 0 is.option_bytes o) options is.options) small),
    )

-- what is copied behind so many bytes
pub copied : (room part more : List ℕ) (len end : ℕ) → len ≤ length room → part ≡ more → end ≡ len + length more
    → take end (put_mid len (end - len) room part) ≡ take len room ++ more
copied room part more len end fits same at =
    take-put_mid len (end - len) room part end (at ∙ ap (λ b. len + length b) (sym same)) fits
    ∙ ap (λ b. take len room ++ b) same

-- .. has its place in the room
pub within : (room part more : List ℕ) (len end : ℕ) → len ≤ length room → part ≡ more → end ≡ len + length more
    → end ≤ length (put_mid len (end - len) room part)
within room part more len end fits same at =
    let all = ap length (copied room part more len end fits same at) in
    let both = length-append (take len room) more in
    let front = length-take-le len room fits in
    let taken = length-take end (put_mid len (end - len) room part) in omega (arith, all, both, front, taken)
