-- An ETag that a server finds in a request of a call is one of the call's.
use Rattle.std.proofs.Common.{◌≡◌, ◌⊎◌, inl, inr, ℕ, ◌==◌, Bool, true, false, ◌&&◌, ◌||◌, Option, Some, None, List, []}
use Rattle.std.proofs.Common.{◌∷◌, ◌++◌, map, refl, ap, sym, ◌∙◌, cond}
use Rattle.std.specs.Cmp.Lexicographic.{bytes_decides}
use Rattle.std.specs.List.{filter}
use Rattle.coap_types.specs.BlockValue.{block_value}
use Rattle.coap_types.specs.CoapOption.{CoapOption, option}
use Rattle.coap_types.specs.OptionValues.{uint_option}
use Rattle.coap_types.specs.Past.{Ever}
use Rattle.coap_types.specs.Recognised.{placed, is_recognised, recognised}
use Rattle.coap_types.specs.Uint.{uint}
use Rattle.coap_types.specs.declared.direction.Direction.TheVariants.{Request}
use Rattle.coap_types.specs.declared.option_number.TheConstants.{IF_MATCH as if_match, ETAG as etag}
use Rattle.coap_types.specs.declared.option_number.TheConstants.{IF_NONE_MATCH as if_none_match, URI_PATH as uri_path}
use Rattle.coap_types.specs.declared.option_number.TheConstants.{CONTENT_FORMAT as content_format, ACCEPT as accept}
use Rattle.coap_types.specs.declared.option_number.TheConstants.{BLOCK1 as block1}
use Rattle.coap_types.specs.declared.request.Method.{Method}
use Rattle.coap_types.specs.declared.request.Method.TheVariants.{Get, Delete}
use Rattle.coap_block.specs.declared.fetch_progress.Asked.{Asked}
use Rattle.coap_block.specs.UploadStep.{block_to_send}
use Rattle.coap_resource.specs.RequestOptions.{tag_of, is_tag_of, etag_names}
use Rattle.coap_client.specs.Own.{Transfer, Fetches, Uploads, Single}
use Rattle.coap_client.specs.Requests.{flag_option, path_options, before_path, after_path, options_of, block2_option}
use Rattle.coap_client.specs.Requests.{is_longer, block_option}
use Rattle.coap_client.specs.Trace as C

-- it is among those that were sent

abbrev kept : List CoapOption → List CoapOption → List CoapOption
kept before os = map (λ p. p.1) (filter (λ p. is_recognised Request p.0 p.1) (placed before os))

either : (a k n : Bool) → (a || k) ≡ true → (k ≡ true → n ≡ true) → (a || n) ≡ true
either true k n h f = refl
either false k n h f = f h

behind : (a n : Bool) → n ≡ true → (a || n) ≡ true
behind true n h = refl
behind false n h = h

names_kept : (v : ℕ) (before os : List CoapOption) → etag_names v (kept before os) ≡ true → etag_names v os ≡ true
names_kept v before [] h = h
names_kept v before (o ∷ os) h = by (is_recognised Request before o) h (names_kept v (before ++ o ∷ []) os)
  where
    by : (r : Bool) → etag_names v (map (λ p. p.1)
        (cond r ((before, o) ∷ filter (λ p. is_recognised Request p.0 p.1) (placed (before ++ o ∷ []) os))
        (filter (λ p. is_recognised Request p.0 p.1) (placed (before ++ o ∷ []) os)))) ≡ true
        → (etag_names v (kept (before ++ o ∷ []) os) ≡ true → etag_names v os ≡ true)
        → ((o.number == etag && is_tag_of v o.value) || etag_names v os) ≡ true
    by true k f = either (o.number == etag && is_tag_of v o.value) (etag_names v (kept (before ++ o ∷ []) os))
        (etag_names v os) k f
    by false k f = behind (o.number == etag && is_tag_of v o.value) (etag_names v os) (f k)

pub names_read : (v : ℕ) (os : List CoapOption) → etag_names v (recognised Request os) ≡ true → etag_names v os ≡ true
names_read v os h = names_kept v [] os h

-- and of those only the ones of the call name a version

none_join : (v : ℕ) (a b : List CoapOption) → etag_names v b ≡ false → etag_names v (a ++ b) ≡ etag_names v a
none_join v [] b none = none
none_join v (o ∷ a) b none = ap (λ n. (o.number == etag && is_tag_of v o.value) || n) (none_join v a b none)

none_run : (v n : ℕ) (vs : List (List ℕ)) → (n == etag) ≡ false → etag_names v (map (option n) vs) ≡ false
none_run v n [] other = refl
none_run v n (x ∷ vs) other = ap (λ b. (b && is_tag_of v x) || etag_names v (map (option n) vs)) other
    ∙ none_run v n vs other

none_uint : (v n : ℕ) (o : Option ℕ) → (n == etag) ≡ false → etag_names v (uint_option n o) ≡ false
none_uint v n None other = refl
none_uint v n (Some k) other = ap (λ b. (b && is_tag_of v (uint k)) || false) other

none_after : (v : ℕ) (m : Method) (r : C.Request) → etag_names v (after_path m r) ≡ false
none_after v Get r = none_uint v accept r.accept refl
none_after v Delete r = refl
none_after v _ r = none_uint v content_format r.format refl

none_block : (v : ℕ) (t : Transfer) → etag_names v (block_option t) ≡ false
none_block v (Fetches f) = by f.asked
  where
    by : (o : Option Asked) → etag_names v (block2_option o) ≡ false
    by None = refl
    by (Some asked) = refl
none_block v (Uploads u) = by (is_longer u)
  where
    by : (b : Bool) → etag_names v (cond b (option block1 (uint (block_value (block_to_send u))) ∷ []) []) ≡ false
    by true = refl
    by false = refl
none_block v Single = refl

none_flag : (v : ℕ) (b : Bool) → etag_names v (flag_option if_none_match b) ≡ false
none_flag v true = refl
none_flag v false = refl

none_conditions : (v : ℕ) (r : C.Request) → etag_names v
    (map (option if_match) r.if_match ++ flag_option if_none_match r.if_none_match) ≡ false
none_conditions v r = none_join v (map (option if_match) r.if_match) (flag_option if_none_match r.if_none_match)
    (none_flag v r.if_none_match) ∙ none_run v if_match r.if_match refl

before_alone : (v : ℕ) (r : C.Request) (t : Transfer)
    → etag_names v (options_of r ++ block_option t) ≡ etag_names v (before_path r.method r)
before_alone v r t =
    none_join v (options_of r) (block_option t) (none_block v t)
    ∙ none_join v (before_path r.method r) (path_options r.path ++ after_path r.method r)
    (none_join v (path_options r.path) (after_path r.method r) (none_after v r.method r)
    ∙ none_run v uri_path r.path refl)

same_tag : (v : ℕ) (t : List ℕ) → is_tag_of v t ≡ true → t ≡ tag_of v
same_tag v t h = (bytes_decides t (tag_of v)).0 h

one_of : (v : ℕ) (ts : List (List ℕ)) → etag_names v (map (option etag) ts) ≡ true → Ever (λ t. t ≡ tag_of v) ts
one_of v [] h = cc h
one_of v (t ∷ ts) h = by (is_tag_of v t) refl h (one_of v ts)
  where
    by : (b : Bool) → is_tag_of v t ≡ b → (b || etag_names v (map (option etag) ts)) ≡ true
        → (etag_names v (map (option etag) ts) ≡ true → Ever (λ t. t ≡ tag_of v) ts)
        → (t ≡ tag_of v) ⊎ Ever (λ t. t ≡ tag_of v) ts
    by true is h f = inl (same_tag v t is)
    by false is h f = inr (f h)

of_method : (v : ℕ) (m : Method) (r : C.Request) → etag_names v (before_path m r) ≡ true
    → Ever (λ t. t ≡ tag_of v) r.etags
of_method v Get r h = one_of v r.etags h
of_method v _ r h = absurd (let none = none_conditions v r in cc (h, none))

pub own_tag : (v : ℕ) (r : C.Request) (t : Transfer) → etag_names v (options_of r ++ block_option t) ≡ true
    → Ever (λ t. t ≡ tag_of v) r.etags
own_tag v r t h = of_method v r.method r (sym (before_alone v r t) ∙ h)
