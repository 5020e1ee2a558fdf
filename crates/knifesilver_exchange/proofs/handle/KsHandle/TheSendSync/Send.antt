-- A handle may go to another thread, since the end that it holds may, and what frees that needs no key.
use mathlib.Core.Bool.{Bool}
use mir.Raw.{raw}
use base.Fraction.{full_share}
use base.Shift.{Keyless}
use denote.Memory.{lone}
use denote.RawPtr.{Ptr, block_ptr, null_ptr}
use denote.Builtin.{RawPtr, bool}
use denote.Param.Send.{IsSend, owning_send, part_keyless, recorded_send, sendable}
use Rattle.std.specs.declared.alloc.Global.{Global}
use Rattle.std.specs.declared.option.Option.{Option}
use Rattle.std.specs.declared.option.Option.TheVariants.{None, Some}
use Rattle.std.proofs.alloc.Global.TheSendSync as heap
use Rattle.std.proofs.Crossing.{frees}
use Rattle.knifesilver_exchange.specs.Owned.{owned}
use Rattle.knifesilver_exchange.specs.contracts.held.Held as held
use Rattle.knifesilver_exchange.proofs.held.Held.TheSendSync as held_send
use Rattle.knifesilver_exchange.specs.contracts.handle.KsHandle.{the_row, the_type}

end_may : IsSend held.the_row
end_may = recorded_send held.the_field.row _ _ held.the_type.to_one held_send.the_field_send

pointer_may : IsSend RawPtr
pointer_may = search sendable

flag_may : IsSend bool
flag_may = search sendable

owned_may : (a : Global) (live : Bool) (p : Ptr) (x : Option held.the_row.Denot)
    → Keyless (owned held.the_row a live p x)
owned_may a live p None = tt
owned_may a live null_ptr (Some x) = (tt, (tt, frees.frees a (raw (lone held.the_row.mir)) null_ptr))
owned_may a live (block_ptr b o) (Some x) = (
  tt,
  (
    part_keyless held.the_row end_may full_share x b o,
    frees.frees a (raw (lone held.the_row.mir)) (block_ptr b o),
  ),
)

pub send : IsSend the_row
send = owning_send the_type (pointer_may, (flag_may, (heap.the_field_send, tt)))
    (λ d. owned_may d.alloc d.live d.at d.held) (λ k x w. tt)
