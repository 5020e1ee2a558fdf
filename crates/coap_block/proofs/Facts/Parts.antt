-- Parts with one more behind them.
use Rattle.std.proofs.Common.{◌≡◌, ◌≢◌, ◌∙◌, ℕ, false, ◌+◌, ◌++◌, List, [], ◌∷◌, length, ap, sym, arith, append-nil}
use Rattle.std.proofs.Common.{append_assoc, length-append}
use Rattle.coap_types.specs.Piece.{offset_of}
use Rattle.coap_block.specs.Whole.{Part, Each, joined, Chained, Ends}

pub chained_behind : (at : ℕ) (ps : List Part) (l : Part) → Chained at ps
    → offset_of l.num l.szx ≡ at + length (joined ps) → Chained at (ps ++ l ∷ [])
chained_behind at [] l c e = (omega (arith, e), tt)
chained_behind at (p ∷ ps) l c e = (
  c.0,
  chained_behind (at + length p.bytes) ps l c.1
      (omega (arith, e, length-append p.bytes (joined ps))),
)

pub each_behind : {X : Type 0} (P : X → Type 0) (xs : List X) (x : X) → Each P xs → P x → Each P (xs ++ x ∷ [])
each_behind P [] x e p = (p, tt)
each_behind P (y ∷ xs) x e p = (e.0, each_behind P xs x e.1 p)

pub ends_behind : (ps : List Part) (l : Part) → l.more ≡ false → Ends (ps ++ l ∷ [])
ends_behind [] l e = e
ends_behind (p ∷ []) l e = e
ends_behind (p ∷ q ∷ ps) l e = ends_behind (q ∷ ps) l e

pub joined_behind : (ps : List Part) (l : Part) → joined (ps ++ l ∷ []) ≡ joined ps ++ l.bytes
joined_behind [] l = append-nil l.bytes
joined_behind (p ∷ ps) l = ap (λ (x : List ℕ). p.bytes ++ x) (joined_behind ps l)
    ∙ sym (append_assoc p.bytes (joined ps) l.bytes)

pub some_there : (ps : List Part) (l : Part) → (ps ++ l ∷ []) ≢ []
some_there [] l h = absurd cc
some_there (p ∷ ps) l h = absurd cc
