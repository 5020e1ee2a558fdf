-- What a handle owns.
use mathlib.Core.Bool.{Bool, true, false}
use base.Fml.{Fml, feq, fsep}
use denote.RawPtr.{Ptr}
use denote.RattleType.{RattleType}
use Rattle.std.specs.Box.Ownership.{box_owns}
use Rattle.std.specs.declared.alloc.Global.{Global}
use Rattle.std.specs.declared.option.Option.{Option}
use Rattle.std.specs.declared.option.Option.TheVariants.{None, Some}
use Rattle.std.specs.contracts.impls.GlobalAllocator.TheImpl.{ghosts}

-- Its flag says whether it holds a value; that lies on the heap, and the handle alone owns it.
abbrev pub owned : (R : RattleType) → Global → Bool → Ptr → Option R.Denot → Fml
owned R alloc live at None = feq Bool live false
owned R alloc live at (Some value) = fsep (feq Bool live true) (box_owns (ghosts.dealloc_token alloc) R at value)
