-- What is told of a link that a server has (RFC 6690, section 2).
use Rattle.std.specs.Prelude.{ℕ, List, [], ◌∷◌, codes, Option, Some, None}
use Rattle.std.specs.Option.{option_map}
use Rattle.json.specs.Json.{Json, null, string, array, Items, no_items, item}
use Rattle.coap_json.specs.Objects.{Field, content_field, object_of, told_object}
use Rattle.coap_json.specs.declared.links.Parameter.{Parameter}

-- the value of a parameter: what its bytes are, null where it has none (RFC 6690, section 2)
abbrev pub value_field : Option (List ℕ) → Field
value_field None = (codes "text", null)
value_field (Some bytes) = content_field bytes

abbrev pub parameter_object : Parameter → Json
parameter_object p =
    object_of ((codes "name", string p.name.now) ∷ value_field (option_map (λ v. v.now) p.value) ∷ [])

abbrev pub parameter_items : List Parameter → Items
parameter_items [] = no_items
parameter_items (p ∷ ps) = item (parameter_object p) (parameter_items ps)

-- a link: its target, and its parameters in their order; one may come more than once
abbrev pub link_fields : List ℕ → List Parameter → List Field
link_fields target parameters =
    (codes "target", string target) ∷ (codes "parameters", array (parameter_items parameters)) ∷ []

abbrev pub link_object : ℕ → List ℕ → List Parameter → Json
link_object ms target parameters = told_object ms (codes "link") (link_fields target parameters)
