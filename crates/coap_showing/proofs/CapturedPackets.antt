-- The packets of a capture, one after the other.
use Rattle.std.proofs.Common.{◌≡◌, ◌∙◌, ◌<◌, ◌+◌, ℕ, List, ap, sym, subst, map, get_or, length, take}
use Rattle.std.proofs.Common.{All, Any, arith}
use Rattle.std.proofs.lemmas.List.{get_or-map, length-map}
use Rattle.std.proofs.lemmas.List.Elements.{All-push}
use Rattle.coap_common.proofs.Facts.{seen_more}

-- one packet more is such
pub all_more : {X Y : Type 0} (view : X → Y) (Is : Y → Type 0) (xs : List X) (i : ℕ) (x : X) → x ≡ get_or xs i x
    → i < length xs → All Is (map view (take i xs)) → Is (view x) → All Is (map view (take (i + 1) xs))
all_more view Is xs i x is lt so one =
    subst (All Is) (sym (seen_more view xs i x is lt)) (All-push Is (map view (take i xs)) (view x) so one)

-- one of them is
pub any_at : {X Y : Type 0} (view : X → Y) (Is : Y → Type 0) (xs : List X) (i : ℕ) (x : X) → x ≡ get_or xs i x
    → i < length xs → Is (view x) → Any Is (map view xs)
any_at view Is xs i x is lt one =
    let many : length (map view xs) ≡ length xs = length-map xs view in (
      i,
      view x,
      omega (arith, lt, many),
      get_or-map view xs i x (view x) lt ∙ ap view (sym is),
      one,
    )
