-- One of two, whichever it is.
use Rattle.std.proofs.Common.{◌⊎◌, inl, inr}

pub either : {A B C : Type 0} → (A → C) → (B → C) → A ⊎ B → C
either f g (inl a) = f a
either f g (inr b) = g b
