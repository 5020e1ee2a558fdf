-- The preconditions of a call, in the words of its entity-tags.
use Rattle.std.proofs.Common.{◌≡◌, ◌≢◌, ◌⊎◌, inl, inr, ℕ, Bool, true, false, not, ◌||◌, ◌&&◌, Option, Some, None, List}
use Rattle.std.proofs.Common.{[]}
use Rattle.std.proofs.Common.{◌∷◌, ◌++◌, map, refl, sym, ◌∙◌}
use Rattle.std.specs.Cmp.Lexicographic.{bytes_decides}
use Rattle.coap_types.specs.CoapOption.{option}
use Rattle.coap_types.specs.OptionValues.{has}
use Rattle.coap_types.specs.Past.{Ever}
use Rattle.coap_types.specs.declared.option_number.TheConstants.{IF_MATCH as if_match, IF_NONE_MATCH as if_none_match}
use Rattle.coap_resource.specs.Content.{Held}
use Rattle.coap_resource.specs.RequestOptions.{precondition_fails, if_match_names, matches, tag_of}
use Rattle.coap_client.specs.Requests.{flag_option}
use Rattle.coap_client.specs.Trace.{Request}
use Rattle.coap_promise.specs.Applied.{conditions_of}
use Rattle.coap_seen.specs.Applied.{Meets}

abbrev IsOne : ℕ → List ℕ → Type 0
IsOne version t = (t ≡ []) ⊎ (t ≡ tag_of version)

one_of : (version : ℕ) (t : List ℕ) → matches version t ≡ true → IsOne version t
one_of version [] h = inl refl
one_of version (x ∷ t) h = inr ((bytes_decides (x ∷ t) (tag_of version)).0 h)

named : (version : ℕ) (ts : List (List ℕ)) (b : Bool)
    → if_match_names version (map (option if_match) ts ++ flag_option if_none_match b) ≡ true → Ever (IsOne version) ts
named version [] true h = absurd (cc h)
named version [] false h = absurd (cc h)
named version (t ∷ ts) b h = by (matches version t) refl h (named version ts b)
  where
    by : (m : Bool) → matches version t ≡ m
        → (m || if_match_names version (map (option if_match) ts ++ flag_option if_none_match b)) ≡ true
        → (if_match_names version (map (option if_match) ts ++ flag_option if_none_match b) ≡ true
        → Ever (IsOne version) ts) → Ever (IsOne version) (t ∷ ts)
    by true is h rest = inl (one_of version t is)
    by false is h rest = inr (rest h)

flagged : (ts : List (List ℕ)) → has if_none_match (map (option if_match) ts ++ flag_option if_none_match true) ≡ true
flagged [] = refl
flagged (t ∷ ts) = flagged ts

or_true : (a b : Bool) → b ≡ true → (a || b) ≡ true
or_true true b h = refl
or_true false b h = h

abbrev Matched : Option Held → List (List ℕ) → Type 0
Matched before ts = ts ≢ [] → (held : Held) × (before ≡ Some held) × Ever (IsOne held.version) ts

matched : (before : Option Held) (ts : List (List ℕ)) (b : Bool)
    → precondition_fails before (map (option if_match) ts ++ flag_option if_none_match b) ≡ false → Matched before ts
matched before [] b h some = absurd (some refl)
matched None (t ∷ ts) b h some = absurd (cc h)
matched (Some held) (t ∷ ts) b h some = (
  held,
  refl,
  by (if_match_names held.version (map (option if_match) (t ∷ ts)
      ++ flag_option if_none_match b)) refl h,
)
  where
    by : (m : Bool)
        → if_match_names held.version (map (option if_match) (t ∷ ts) ++ flag_option if_none_match b) ≡ m
        → (not m || has if_none_match (map (option if_match) (t ∷ ts) ++ flag_option if_none_match b)) ≡ false
        → Ever (IsOne held.version) (t ∷ ts)
    by true is h = named held.version (t ∷ ts) b is
    by false is h = absurd (cc h)

none_there : (before : Option Held) (ts : List (List ℕ)) (b : Bool)
    → precondition_fails before (map (option if_match) ts ++ flag_option if_none_match b) ≡ false → b ≡ true
    → before ≡ None
none_there None ts b h is = refl
none_there (Some held) ts false h is = absurd (cc is)
none_there (Some held) ts true h is =
    let os = map (option if_match) ts ++ flag_option if_none_match true in
    let e : true ≡ false = sym (or_true (has if_match os && not (if_match_names held.version os)) (has if_none_match os)
    (flagged ts)) ∙ h in
    absurd (cc e)

pub meets : (before : Option Held) (r : Request) → precondition_fails before (conditions_of r) ≡ false → Meets r before
meets before r h = record {
  if_match = matched before r.if_match r.if_none_match h;
  if_none_match = none_there before r.if_match r.if_none_match h;
}
