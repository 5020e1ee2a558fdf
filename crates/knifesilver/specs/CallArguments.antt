-- Which arguments make a request: a method, and entity-tags that are some.
use Rattle.std.specs.Prelude.{◌≡◌, ◌≢◌, ◌≤◌, ◌⊎◌, ℕ, ℤ, All, List, length, None}
use Rattle.coap_types.specs.MethodCode.{method_of}
use Rattle.knifesilver.specs.declared.answers.TheConstants.{BAD_ARGUMENT as bad_argument, NO_MEMORY as no_memory}
use Rattle.knifesilver.specs.declared.client.calls.KsRequest.{KsRequest}
use Rattle.knifesilver.specs.declared.client.calls.KsTag.{KsTag}
use Rattle.coap_paths.specs.PathTexts.{SpellsPath}

-- an entity-tag has 1 to 8 bytes (RFC 7252, section 5.10.6)
abbrev pub IsTag : KsTag → Type 0
IsTag tag = (1 ≤ tag.len) × (tag.len ≤ 8)

-- at most 4 entity-tags (profile)
pub record AreTags (tags : List KsTag) : Type 0 where
  pub few : length tags ≤ 4
  pub each : All IsTag tags

-- the code is that of a method (RFC 7252, section 12.1.1), and the entity-tags are some
pub record MakeRequest (what : KsRequest) (etags if_match : List KsTag) : Type 0 where
  pub method : method_of what.method ≢ None
  pub tags : AreTags etags
  pub conditions : AreTags if_match

-- when they are refused: only where they make no request, and always there, unless the path or memory is refused before
pub record RefusesArguments (text : List ℕ) (what : KsRequest) (etags if_match : List KsTag) (answer : ℤ) : Type 0 where
  pub only : answer ≡ bad_argument → MakeRequest what etags if_match → ⊥
  pub always : SpellsPath text → (MakeRequest what etags if_match → ⊥)
      → (answer ≡ bad_argument) ⊎ (answer ≡ no_memory)
