-- What a clause says where there is no value, in another form.
use Rattle.std.proofs.Common.{Option, Some, None}
use Rattle.std.specs.Prelude.{IfNone}

pub if_none_then : {A P Q : Type 0} (r : Option A) → IfNone r P → (P → Q) → IfNone r Q
if_none_then None h f = f h
if_none_then (Some x) h f = tt
