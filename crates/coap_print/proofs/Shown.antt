-- Texts that a terminal shows, and takes as no command.
use Rattle.std.proofs.Common.{◌≡◌, ◌++◌, ◌∷◌, [], ℕ, zero, suc, ◌/◌, ◌%◌, ◌<◌, List, Bool, true, false, ◌&&◌, ◌==◌}
use Rattle.std.proofs.Common.{arith, decimal, nat_le, nat_lt, if◌then◌else◌}
use Rattle.std.proofs.lemmas.Bool.{and_parts}
use Rattle.std.proofs.lemmas.List.Elements.{All-append, All-cons, All-nil}
use Rattle.std.specs.Fmt.{digit_glyph, digits, digits_onto}
use Rattle.std.specs.List.{list_all}
use Rattle.coap_print.specs.Printable.{ArePrintable, AreShown, IsShown}

pub none_shown : AreShown []
none_shown = All-nil IsShown

pub both_shown : (a b : List ℕ) → AreShown a → AreShown b → AreShown (a ++ b)
both_shown = All-append IsShown

pub printable_shown : (text : List ℕ) → ArePrintable text → AreShown text
printable_shown text are k d lt = let is = are k d lt in (omega (arith, is.0), is.1)

-- by a test, which computes
abbrev pub are_shown : List ℕ → Bool
are_shown text = list_all (λ b. nat_le 32 b && nat_lt b 127) text

pub tested_shown : (text : List ℕ) → are_shown text ≡ true → AreShown text
tested_shown [] is = none_shown
tested_shown (b ∷ bs) is =
    let parts = and_parts (nat_le 32 b && nat_lt b 127) (are_shown bs) is in
    let here = and_parts (nat_le 32 b) (nat_lt b 127) parts.0 in
    All-cons IsShown b bs (grind (arith, here.0), grind (arith, here.1)) (tested_shown bs parts.1)

pub either_shown : (b : Bool) (x y : List ℕ) → AreShown x → AreShown y → AreShown (if b then x else y)
either_shown true x y one other = one
either_shown false x y one other = other

glyph_shown : (d : ℕ) → d < 10 → IsShown (digit_glyph false d)
glyph_shown d lt = grind arith

digits_shown : (k n : ℕ) (behind : List ℕ) → AreShown behind → AreShown (digits_onto k 10 false n behind)
digits_shown zero n behind are = are
digits_shown (suc k) n behind are =
    let more : AreShown (digit_glyph false (n % 10) ∷ behind) =
    All-cons IsShown (digit_glyph false (n % 10)) behind (glyph_shown (n % 10) (omega arith)) are in
    either_shown (n / 10 == 0) (digit_glyph false (n % 10) ∷ behind)
    (digits_onto k 10 false (n / 10) (digit_glyph false (n % 10) ∷ behind)) more
    (digits_shown k (n / 10) (digit_glyph false (n % 10) ∷ behind) more)

pub decimal_shown : (n : ℕ) → AreShown (decimal n)
unfolding digits
decimal_shown n = digits_shown 64 n [] none_shown
