-- One silence after another is a silence.
use Rattle.std.proofs.Common.{◌++◌, List, [], ◌∷◌, Option, refl, subst, sym}
use Rattle.coap_links.specs.Carried.{Packet}
use Rattle.coap_kept.specs.Silence.{IsSilent, Receives}

module _ {L : Type 0} (receives : L → Option Packet → L → Type 0) where
  received_on : (old between new : L) (first more : List (Option Packet)) → Receives receives old first between
      → Receives receives between more new → Receives receives old (more ++ first) new
  received_on old between new first [] so is = subst (λ (l : L). Receives receives old first l) (sym is) so
  received_on old between new first (came ∷ before) so more =
      (more.0, received_on old between more.0 first before so more.1, more.2)

  pub still : (l : L) → IsSilent receives l l
  still l = ([], refl)

  pub received_one : (old new : L) (came : Option Packet) → receives old came new → IsSilent receives old new
  received_one old new came is = (came ∷ [], (old, refl, is))

  pub silent_on : (old between new : L) → IsSilent receives old between → IsSilent receives between new
      → IsSilent receives old new
  silent_on old between new first more = (more.0 ++ first.0, received_on old between new first.0 more.0 first.1 more.1)
