-- Words of a script.
use Rattle.std.proofs.Common.{subst, ℕ, List, ◌∷◌, ◌++◌, length, arith}
use Rattle.std.proofs.lemmas.List.{length-append}
use Rattle.std.proofs.Math.Seq.{get_or-append_seam}
use Rattle.coap_scripts.specs.ScriptWords.{IsCut, Lacks}

-- a text that is cut at a byte does not lack it
pub cut_has : (byte : ℕ) (text first rest : List ℕ) → IsCut byte text first rest → Lacks byte text → ⊥
cut_has byte text first rest cut lacks =
    let whole : Lacks byte (first ++ byte ∷ rest) = subst (Lacks byte) cut.0 lacks in
    let len = length-append first (byte ∷ rest) in
    whole (length first) byte (omega (arith, len)) (get_or-append_seam first byte rest byte)
