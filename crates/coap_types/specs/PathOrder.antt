-- The laws of the equality, the order and the hash of paths (RFC 7252, section 5.10.1: by bytes).
use Rattle.std.specs.Prelude.{ℕ, List, Some, true, refl, ◌≡◌}
use Rattle.std.proofs.Common.{ap}
use Rattle.std.specs.Cmp.{IsEquivalence, IsTotalOrder, IsPartialOrder, partial_order_from_agreeing_total}
use Rattle.std.specs.Cmp.Lexicographic.{slice_cmp, lists_equiv, nat_list_eq_equiv, lists_total, nat_list_cmp_total}
use Rattle.std.specs.Cmp.Lexicographic.{lists_ties, texts_ties, pointwise_decides, bytes_decides}
use Rattle.std.specs.Hash as fed
use Rattle.std.specs.Ordering.{nat_cmp, eq_by_cmp}
use Rattle.coap_types.specs.Path.{same_path, path_order}

pub same_path_equiv : IsEquivalence same_path
same_path_equiv = lists_equiv nat_list_eq_equiv

pub path_order_total : IsTotalOrder path_order
path_order_total = lists_total nat_list_cmp_total

-- the order calls equal what is equal
pub path_order_ties : (p q : List (List ℕ)) → same_path p q ≡ eq_by_cmp path_order p q
path_order_ties = lists_ties (slice_cmp nat_cmp) texts_ties

pub path_partial_order : IsPartialOrder same_path (λ p q. Some (path_order p q))
path_partial_order = partial_order_from_agreeing_total path_order path_order_total (λ p q. refl) path_order_ties

-- equal paths are hashed alike
pub path_hash_respects_eq : (p q : List (List ℕ)) → same_path p q ≡ true
    → fed.slice (fed.slice fed.u8) p ≡ fed.slice (fed.slice fed.u8) q
path_hash_respects_eq p q same = ap (fed.slice (fed.slice fed.u8)) ((pointwise_decides bytes_decides p q).0 same)
