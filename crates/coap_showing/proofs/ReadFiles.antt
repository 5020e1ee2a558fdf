-- What is read of a file, by a reader that has read nothing of it yet.
use Rattle.std.proofs.Common.{◌≡◌, ◌∙◌, ◌==◌, ◌++◌, ℕ, List, [], Option, Some, None, Result, Ok, Err, IfOk, IfSome}
use Rattle.std.proofs.Common.{ap, refl, subst, if◌then◌else◌}
use Rattle.std.specs.Io.Buffered.{reader_buffer, reader_capacity, reader_inner, reader_remaining}
use Rattle.std.specs.Io.KnownBytes.{prepend_known}
use Rattle.std.specs.declared.io.buffered.BufReader.{BufReader}

behind_nothing : (known : Option (List ℕ)) → prepend_known [] known ≡ known
behind_nothing None = refl
behind_nothing (Some xs) = refl

-- all that the file has
pub unread : {F A : Type 0} (remaining : F → Option (List ℕ)) (r : BufReader F A) (file : F) → reader_inner r ≡ file
    → reader_buffer r ≡ [] → reader_capacity r ≡ 8192 → reader_remaining remaining r ≡ remaining file
unread remaining r file inner none room =
    ap (λ (n : ℕ). if n == 0 then None else prepend_known (reader_buffer r) (remaining (reader_inner r))) room
    ∙ ap (λ (b : List ℕ). prepend_known b (remaining (reader_inner r))) none
    ∙ behind_nothing (remaining (reader_inner r)) ∙ ap remaining inner

-- what is told of what a reader has, is told of what its file has
pub of_file : {X E : Type 0} (Is : List ℕ → X → Type 0) (left known : Option (List ℕ)) (r : Result X E) → left ≡ known
    → IfOk r (λ x. IfSome left (λ text. Is text x)) → IfOk r (λ x. IfSome known (λ text. Is text x))
of_file Is left known r is h = subst (λ (o : Option (List ℕ)). IfOk r (λ x. IfSome o (λ text. Is text x))) is h

-- .. of some file
pub of_some : {F X E : Type 0} (Is : F → X → Type 0) (file : F) (r : Result X E) → IfOk r (Is file)
    → IfOk r (λ x. (f : F) × Is f x)
of_some Is file (Ok x) h = (file, h)
of_some Is file (Err e) h = tt

-- what is told of the bytes that were read, is told of what the file had
pub of_read : {X E : Type 0} (Is : List ℕ → X → Type 0) (known : Option (List ℕ)) (old new bytes : List ℕ)
    (r : Result X E) → IfSome known (λ xs. new ≡ old ++ xs) → old ≡ [] → bytes ≡ new → IfOk r (Is bytes)
    → IfOk r (λ x. IfSome known (λ text. Is text x))
of_read Is None old new bytes (Ok x) is none same h = tt
of_read Is (Some xs) old new bytes (Ok x) is none same h =
    subst (λ (b : List ℕ). Is b x) (same ∙ is ∙ ap (λ (o : List ℕ). o ++ xs) none) h
of_read Is known old new bytes (Err e) is none same h = tt
