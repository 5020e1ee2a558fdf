-- A cursor goes on by the option that is in front of what lies ahead of it.
use Rattle.std.proofs.Common.{◌≡◌, ◌≢◌, ◌≤◌, ℕ, ◌+◌, ◌-◌, ◌*◌, List, [], ◌∷◌, ◌++◌, length, take, drop, sym, ap}
use Rattle.std.proofs.Common.{◌/◌, ◌%◌, Ok, Some, ◌∙◌, subst, refl, arith, length-append}
use Rattle.std.proofs.lemmas.List.{append_assoc, append-nil, drop-drop, drop-take, length-drop, length-take, take-take}
use Rattle.std.proofs.lemmas.List.{take_all}
use Rattle.std.proofs.Math.Seq.{take-append-add, take-append_seam, drop-append_seam}
use Rattle.coap_types.specs.CoapOption.{CoapOption, option, option_of}
use Rattle.coap_types.specs.declared.options.Opt.{Opt}
use Rattle.coap_codec.specs.Message.{Message, Spells, header, marked}
use Rattle.coap_codec.specs.Options.{IsOption, Options}
use Rattle.coap_options.specs.declared.cursor.Cursor.{Cursor}
use Rattle.coap_options.specs.Standing.{HasNone, IsBehind, IsFirst, IsNext, StandsAt, ahead}
use Rattle.coap_options.proofs.InFront.{IsFront, one_number, split_front, top}

-- a part of some bytes of a datagram
piece : (d : List ℕ) (at n : ℕ) (a v c : List ℕ) → take n (drop at d) ≡ a ++ (v ++ c)
    → take (length v) (drop (at + length a) d) ≡ v
piece d at n a v c is =
    let most = length-take n (drop at d) in
    let all = ap length is in
    let outer = length-append a (v ++ c) in
    let inner = length-append v c in
    let fits : length a + length v ≤ n = omega (arith, most, all, outer, inner) in
    ap (λ b. take (length v) b) (sym (drop-drop (length a) at d))
    ∙ sym (drop-take (length a) (length v) (drop at d))
    ∙ ap (λ b. drop (length a) b) (sym (take-take (length a + length v) n (drop at d) fits)
    ∙ ap (λ b. take (length a + length v) b) is ∙ take-append-add a (v ++ c) (length v)
    ∙ ap (λ b. a ++ b) (take-append_seam v c))
    ∙ drop-append_seam a v

-- what follows so many bytes of what lies ahead, counted from the end
pub rest_is : (d : List ℕ) (at end : ℕ) (first rest : List ℕ) → at ≤ end → end ≤ length d
    → take (end - at) (drop at d) ≡ first ++ rest
    → (end - length rest ≡ at + length first) × (rest ≡ take (end - (end - length rest)) (drop (end - length rest) d))
rest_is d at end first rest rises fits is =
    let most = length-take (end - at) (drop at d) in
    let left = length-drop at d in
    let all = ap length is in
    let both = length-append first rest in
    let here : end - length rest ≡ at + length first = omega (arith, most, left, all, both, rises, fits) in
    let count : end - (end - length rest) ≡ length rest = omega (arith, most, left, all, both, rises, fits) in (
      here,
      sym (piece d at (end - at) first rest [] (is ∙ ap (λ b. first ++ b) (sym (append-nil rest))))
          ∙ ap (λ n. take n (drop (at + length first) d)) (sym count)
          ∙ ap (λ n. take (end - (end - length rest)) (drop n d)) (sym here),
    )

-- the cursor behind the option, before the rest
abbrev pub behind : Cursor → CoapOption → List ℕ → Cursor
behind c o rest = record { at = c.end - length rest; end = c.end; number = o.number }

pub goes_on : (d : List ℕ) (c : Cursor) (o : CoapOption) (rest : List ℕ) → c.at ≤ c.end → c.end ≤ length d
    → IsFront c.number (ahead d c) o rest → IsNext d c (behind c o rest) o
goes_on d c o rest rises fits is = record {
  within = record { rises = rises; fits = fits };
  stays = record { rises = omega arith; fits = fits };
  end = refl;
  number = refl;
  first = is.0;
  option = is.1;
  parts = is.2 ∙ ap (λ b. is.0 ++ b) (rest_is d c.at c.end is.0 rest rises fits is.2).1;
}

pub value_lies : (d : List ℕ) (c : Cursor) (o : CoapOption) (rest : List ℕ) → c.at ≤ c.end → c.end ≤ length d
    → IsFront c.number (ahead d c) o rest → IsBehind d (behind c o rest) o.value
value_lies d c o rest rises fits is =
    let head : List ℕ = (is.1.delta * 16 + is.1.len) ∷ (is.1.more_delta ++ is.1.more_len) in
    let one : is.0 ≡ head ++ o.value = is.1.parts
    ∙ ap (λ b. (is.1.delta * 16 + is.1.len) ∷ b) (sym (append_assoc is.1.more_delta is.1.more_len o.value)) in
    let at = (rest_is d c.at c.end is.0 rest rises fits is.2).0 in
    let sum = ap length one ∙ length-append head o.value in
    let here : (c.end - length rest) - length o.value ≡ c.at + length head = omega (arith, at, sum) in (
      omega (arith, at, sum),
      ap (λ n. take (length o.value) (drop n d)) here
          ∙ piece d c.at (c.end - c.at) head o.value rest
          (is.2 ∙ ap (λ b. b ++ rest) one ∙ append_assoc head o.value rest),
    )

-- an option is no empty list of bytes
not_empty : (base : ℕ) (o : CoapOption) (first rest : List ℕ) → IsOption base o first → first ++ rest ≢ []
not_empty base o first rest is none = let whole = ap (λ b. b ++ rest) (sym is.parts) ∙ none in cc

-- before the end something lies ahead
something_ahead : (d : List ℕ) (c : Cursor) → c.at ≤ c.end → c.end ≤ length d → c.at ≢ c.end → ahead d c ≢ []
something_ahead d c rises fits not none =
    let most = length-take (c.end - c.at) (drop c.at d) in
    let left = length-drop c.at d in
    let all = ap length none in
    not (omega (arith, most, left, all, rises, fits))

-- lists of one length in front of others
parted : (x y r s : List ℕ) → length x ≡ length y → x ++ r ≡ y ++ s → (x ≡ y) × (r ≡ s)
parted x y r s long same = (
  sym (take-append_seam x r) ∙ ap (λ b. take (length x) b) same ∙ ap (λ n. take n (y ++ s)) long
      ∙ take-append_seam y s,
  sym (drop-append_seam x r) ∙ ap (λ b. drop (length x) b) same ∙ ap (λ n. drop n (y ++ s)) long
      ∙ drop-append_seam y s,
)

-- one option is in front of bytes
one_option : (base : ℕ) (bytes : List ℕ) (o p : CoapOption) (rest others : List ℕ) → IsFront base bytes o rest
    → IsFront base bytes p others → (o ≡ p) × (rest ≡ others)
one_option base [] o p rest others is also = absurd (not_empty base o is.0 rest is.1 (sym is.2))
one_option base (b ∷ bs) o p rest others is also =
    let long : 1 ≤ length (b ∷ bs) = omega arith in
    let it = split_front base (b ∷ bs) long o is.0 rest is.1 is.2 in
    let other = split_front base (b ∷ bs) long p also.0 others also.1 also.2 in
    let one = one_number (o.number - base) (p.number - base) (top (b ∷ bs) / 16) it.more_delta other.more_delta
    (it.more_len ++ (o.value ++ rest)) (other.more_len ++ (p.value ++ others)) it.number other.number
    (sym it.parts ∙ other.parts) in
    let two = one_number (length o.value) (length p.value) (top (b ∷ bs) % 16) it.more_len other.more_len
    (o.value ++ rest) (p.value ++ others) it.value other.value one.1 in
    let three = parted o.value p.value rest others two.0 two.1 in
    let number : o.number ≡ p.number = omega (arith, one.0, it.rises, other.rises) in
    (ap (λ n. option n o.value) number ∙ ap (λ v. option p.number v) three.0, three.1)

-- what is found is the first of the options before which the cursor stands
pub finds_first : (d : List ℕ) (c : Cursor) (found : Opt) (rest : List ℕ) → c.at ≤ c.end → c.end ≤ length d
    → IsFront c.number (ahead d c) (option_of found) rest → (os : List CoapOption) → StandsAt d c os
    → IsFirst d (Ok (Some found)) (behind c (option_of found) rest) os
finds_first d c found rest rises fits is [] stands =
    absurd (not_empty c.number (option_of found) is.0 rest is.1 (sym is.2 ∙ stands.options))
finds_first d c found rest rises fits is (o ∷ os) stands =
    let one = one_option c.number (ahead d c) (option_of found) o rest stands.options.1 is
    (stands.options.0, stands.options.3, stands.options.2) in
    let rest_so = (rest_is d c.at c.end is.0 rest rises fits is.2).1 in (
      found,
      refl,
      one.0,
      record {
        within = record { rises = omega arith; fits = fits };
        options = subst (λ b. Options found.number b os) (sym one.1 ∙ rest_so)
            (subst (λ n. Options n stands.options.1 os) (ap (λ (x : CoapOption). x.number) (sym one.0))
            stands.options.4);
      },
    )

-- a cursor before the end, with no option ahead, stands before none
pub stands_nowhere : (d : List ℕ) (c : Cursor) → c.at ≤ c.end → c.end ≤ length d → c.at ≢ c.end
    → HasNone c.number (ahead d c) → (os : List CoapOption) → StandsAt d c os → ⊥
stands_nowhere d c rises fits not none [] stands = something_ahead d c rises fits not stands.options
stands_nowhere d c rises fits not none (o ∷ os) stands =
    none o stands.options.0 stands.options.1 stands.options.3 stands.options.2

-- the cursor in front of the options of a message, and its end in front of what follows them
pub begins : (d : List ℕ) (m : Message) (token : List ℕ) (marks : ℕ) → Spells d m → token ≡ m.token
    → marks ≡ length (marked m.payload)
    → StandsAt d (record { at = 4 + length token; end = length d - marks; number = 0 }) m.options
    × (drop (length d - marks) d ≡ marked m.payload)
begins d m token marks is same count =
    let front : List ℕ = header m ++ m.token in
    let behind : List ℕ = is.option_bytes ++ marked m.payload in
    let whole : d ≡ front ++ behind = is.parts ∙ sym (append_assoc (header m) m.token behind) in
    let four : length (header m) ≡ 4 = refl in
    let all = ap length whole in
    let sum = length-append front behind in
    let head = length-append (header m) m.token in
    let tail = length-append is.option_bytes (marked m.payload) in
    let long = ap length same in
    let at : 4 + length token ≡ 0 + length front = omega (arith, four, head, long) in
    let end : length d - marks ≡ length (front ++ is.option_bytes) =
    (let both = length-append front is.option_bytes in omega (arith, all, sum, tail, count, both)) in
    let between : (length d - marks) - (4 + length token) ≡ length is.option_bytes =
    omega (arith, all, sum, tail, count, at) in
    let lies : take ((length d - marks) - (4 + length token)) (drop (4 + length token) d) ≡ is.option_bytes =
    ap (λ n. take n (drop (4 + length token) d)) between
    ∙ ap (λ n. take (length is.option_bytes) (drop n d)) at
    ∙ piece d 0 (length d) front is.option_bytes (marked m.payload) (take_all (length d) d (omega arith) ∙ whole) in (
      record {
        within = record {
          rises = omega (arith, all, sum, tail, count, at);
          fits = omega arith;
        };
        options = subst (λ b. Options 0 b m.options) (sym lies) is.options;
      },
      ap (λ n. drop n d) end
          ∙ ap (λ b. drop (length (front ++ is.option_bytes)) b)
          (whole ∙ sym (append_assoc front is.option_bytes (marked m.payload)))
          ∙ drop-append_seam (front ++ is.option_bytes) (marked m.payload),
    )
