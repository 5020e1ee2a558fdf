-- A message has one spelling.
use Rattle.std.proofs.Common.{◌≡◌, ℕ, ◌+◌, ◌-◌, ◌*◌, List, [], ◌∷◌, ◌++◌, length, refl, sym, ap, ◌∙◌, arith}
use Rattle.coap_types.specs.CoapOption.{CoapOption}
use Rattle.coap_codec.specs.Extension.{Ext}
use Rattle.coap_codec.specs.Options.{IsOption, Options}
use Rattle.coap_codec.specs.Message.{header, marked}
use Rattle.coap_codec.specs.Laws.{OneSpelling}

pub Ext-once : (n i j : ℕ) (x y : List ℕ) → Ext n i x → Ext n j y → (i ≡ j) × (x ≡ y)
Ext-once n i j [] [] p q = (omega arith, refl)
Ext-once n i j [] (b ∷ []) p q = absurd (omega arith)
Ext-once n i j [] (b ∷ c ∷ []) p q = absurd (omega arith)
Ext-once n i j [] (b ∷ c ∷ d ∷ y) p q = absurd q
Ext-once n i j (a ∷ []) [] p q = absurd (omega arith)
Ext-once n i j (a ∷ []) (b ∷ []) p q = let e : a ≡ b = omega arith in (omega arith, ap (λ (k : ℕ). k ∷ []) e)
Ext-once n i j (a ∷ []) (b ∷ c ∷ []) p q = absurd (omega arith)
Ext-once n i j (a ∷ []) (b ∷ c ∷ d ∷ y) p q = absurd q
Ext-once n i j (a ∷ b ∷ []) [] p q = absurd (omega arith)
Ext-once n i j (a ∷ b ∷ []) (c ∷ []) p q = absurd (omega arith)
Ext-once n i j (a ∷ b ∷ []) (c ∷ d ∷ []) p q =
    let e : a ≡ c = omega arith in
    let f : b ≡ d = omega arith in
    (omega arith, cc)
Ext-once n i j (a ∷ b ∷ []) (c ∷ d ∷ e ∷ y) p q = absurd q
Ext-once n i j (a ∷ b ∷ c ∷ x) y p q = absurd p

pub IsOption-once : (base : ℕ) (option : CoapOption) (x y : List ℕ) → IsOption base option x → IsOption base option y
    → x ≡ y
IsOption-once base option x y p q =
    let d = Ext-once (option.number - base) p.delta q.delta p.more_delta q.more_delta p.number q.number in
    let l = Ext-once (length option.value) p.len q.len p.more_len q.more_len p.value q.value in
    let same : (p.delta * 16 + p.len) ∷ (p.more_delta ++ (p.more_len ++ option.value))
    ≡ (q.delta * 16 + q.len) ∷ (q.more_delta ++ (q.more_len ++ option.value)) = rw (d.0, d.1, l.0, l.1) refl in
    p.parts ∙ same ∙ sym q.parts

Options-once : (options : List CoapOption) (base : ℕ) (x y : List ℕ) → Options base x options → Options base y options
    → x ≡ y
Options-once [] base x y p q = p ∙ sym q
Options-once (option ∷ options) base x y p q =
    let first = IsOption-once base option p.0 q.0 p.3 q.3 in
    let rest = Options-once options option.number p.1 q.1 p.4 q.4 in
    let same : p.0 ++ p.1 ≡ q.0 ++ q.1 = rw (first, rest) refl in
    p.2 ∙ same ∙ sym q.2

pub one_spelling : OneSpelling
one_spelling m a b s t =
    let front = Options-once m.options 0 s.option_bytes t.option_bytes s.options t.options in
    s.parts ∙ ap (λ (f : List ℕ). header m ++ (m.token ++ (f ++ marked m.payload))) front ∙ sym t.parts
