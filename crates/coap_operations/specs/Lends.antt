-- What the operations end as, where a `&mut` to one of the live observations is returned.
use Rattle.std.specs.Prelude.{ℕ, slice_set}
use Rattle.std.specs.Borrow.{Lends, Fml, RattleType, MutBor}
use Rattle.std.specs.declared.alloc.Allocator.{Ghosts}
use Rattle.coap_operations.specs.Listed.{Listed}
use Rattle.coap_operations.specs.contracts.operations.Operations.{the_row}

module _ (W O A : RattleType) (alloc : Ghosts A.Denot) (s : MutBor (Listed W.Denot O.Denot)) (place : ℕ) where
  -- once the borrow ends, the place has the last value written through r
  abbrev pub lends_live : MutBor O.Denot → Fml
  lends_live r = Lends (the_row W O A alloc) O s r (λ o. record s.now { live = slice_set s.now.live place o })
