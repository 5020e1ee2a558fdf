-- The entity-tag that a part of a body is taken with (RFC 7959, section 2.4).
use Rattle.std.specs.Prelude.{ℕ, Bool, true, false, List, [], ◌∷◌, Option, Some, None, if◌then◌else◌}
use Rattle.std.specs.Str.{bytes_eq}
use Rattle.coap_parts.specs.declared.tags.Gathered.{Gathered}
use Rattle.coap_parts.specs.declared.tags.Gathered.TheVariants.{Nothing, Tagged, Untagged}

-- the one that stands for none
abbrev pub made_up : List ℕ
made_up = 0 ∷ []

-- one that differs from this
abbrev pub other_than : List ℕ → List ℕ
other_than tag = if bytes_eq tag made_up then 1 ∷ [] else made_up

-- Its own, and where it has none, and that is allowed, the made-up one; but where the parts so far have one and it has
-- none, or the other way round, one that differs from theirs.
abbrev pub handed : Bool → Gathered → Option (List ℕ) → Option (List ℕ)
handed untagged Untagged (Some tag) = Some (other_than made_up)
handed untagged Nothing (Some tag) = Some tag
handed untagged (Tagged theirs) (Some tag) = Some tag
handed false gathered None = None
handed true (Tagged theirs) None = Some (other_than theirs)
handed true Nothing None = Some made_up
handed true Untagged None = Some made_up

-- the parts have what the last one has
abbrev pub tagged_so : Option (List ℕ) → Gathered
tagged_so (Some tag) = Tagged tag
tagged_so None = Untagged

abbrev pub joins : Gathered → Bool
joins Untagged = true
joins Nothing = false
joins (Tagged tag) = false
