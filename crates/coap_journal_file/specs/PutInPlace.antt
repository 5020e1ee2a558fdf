-- A file takes the place of another.
use Rattle.std.specs.Prelude.{ℕ, List}

-- (`writes`, `cuts`, `syncs`, `renames` and `settles` are what a file is asked: to append bytes, to be of a length, to
-- be kept, to take a name for one that it has, and to have its name kept)
module _ {F : Type 0} (writes : F → List ℕ → F → Type 0) (cuts : F → ℕ → F → Type 0) (syncs : F → F → Type 0)
    (renames : F → List ℕ → List ℕ → F → Type 0) (settles : F → List ℕ → F → Type 0) where
  -- It is emptied, is appended these bytes, and is kept; only then it takes the name, and its name is kept.
  pub record IsPutInPlace (old : F) (beside name bytes : List ℕ) (new : F) : Type 0 where
    pub empty : F
    pub whole : F
    pub safe : F
    pub named : F
    pub cut : cuts old 0 empty
    pub written : writes empty bytes whole
    pub synced : syncs whole safe
    pub renamed : renames safe beside name named
    pub settled : settles named name new
