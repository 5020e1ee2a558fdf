-- Parts with another entity-tag are in the same order.
use Rattle.std.proofs.Common.{◌≡◌, ℕ, ◌+◌, ◌++◌, List, [], ◌∷◌, length, Option, ap, refl}
use Rattle.coap_types.specs.declared.block.Block.{Block}
use Rattle.coap_block.specs.Gathered.{part}
use Rattle.coap_block.specs.Whole.{Part, Each, IsPieceOf, Chained, Ends, InOrder}

abbrev pub retagged : Option (List ℕ) → List Part → List Part
retagged tag [] = []
retagged tag (p ∷ ps) = record p { tag = tag } ∷ retagged tag ps

pub retagged_behind : (tag came : Option (List ℕ)) (ps : List Part) (b : Block) (bytes : List ℕ)
    → retagged tag (ps ++ part b came bytes ∷ []) ≡ retagged tag ps ++ part b tag bytes ∷ []
retagged_behind tag came [] b bytes = refl
retagged_behind tag came (p ∷ ps) b bytes =
    ap (λ (qs : List Part). record p { tag = tag } ∷ qs) (retagged_behind tag came ps b bytes)

pieces_so : (tag : Option (List ℕ)) (body : List ℕ) (ps : List Part) → Each (IsPieceOf body) (retagged tag ps)
    → Each (IsPieceOf body) ps
pieces_so tag body [] e = tt
pieces_so tag body (p ∷ ps) e = (e.0, pieces_so tag body ps e.1)

chained_so : (tag : Option (List ℕ)) (at : ℕ) (ps : List Part) → Chained at (retagged tag ps) → Chained at ps
chained_so tag at [] e = tt
chained_so tag at (p ∷ ps) e = (e.0, chained_so tag (at + length p.bytes) ps e.1)

ends_so : (tag : Option (List ℕ)) (ps : List Part) → Ends (retagged tag ps) → Ends ps
ends_so tag [] e = e
ends_so tag (p ∷ []) e = e
ends_so tag (p ∷ q ∷ ps) e = ends_so tag (q ∷ ps) e

pub in_order_so : (tag : Option (List ℕ)) (body : List ℕ) (ps : List Part) → InOrder (retagged tag ps) body
    → InOrder ps body
in_order_so tag body ps o = record {
  pieces = pieces_so tag body ps o.pieces;
  chained = chained_so tag 0 ps o.chained;
  ends = ends_so tag ps o.ends;
}
