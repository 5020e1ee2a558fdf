-- The preconditions that a server reads from a request are those of the call.
use Rattle.std.proofs.Common.{◌≡◌, ℕ, ◌==◌, Bool, true, false, ◌&&◌, ◌||◌, not, Option, Some, None, List, [], ◌∷◌, ◌++◌}
use Rattle.std.proofs.Common.{map, refl, ap, sym, ◌∙◌, cond, append_assoc}
use Rattle.std.specs.Prelude.{is_some}
use Rattle.coap_types.specs.CoapOption.{CoapOption, option}
use Rattle.coap_types.specs.OptionValues.{value_of, uint_option}
use Rattle.coap_types.specs.Uint.{uint}
use Rattle.coap_types.specs.BlockValue.{block_value}
use Rattle.coap_types.specs.declared.option_number.TheConstants.{IF_MATCH as if_match, IF_NONE_MATCH as if_none_match}
use Rattle.coap_types.specs.declared.option_number.TheConstants.{URI_PATH as uri_path, CONTENT_FORMAT as content_format}
use Rattle.coap_types.specs.declared.option_number.TheConstants.{BLOCK1 as block1}
use Rattle.coap_types.specs.declared.request.Method.{Method}
use Rattle.coap_block.specs.declared.fetch_progress.Asked.{Asked}
use Rattle.coap_block.specs.UploadStep.{block_to_send}
use Rattle.coap_resource.specs.Content.{Held}
use Rattle.coap_resource.specs.RequestOptions.{if_match_names, matches, precondition_fails}
use Rattle.coap_client.specs.Own.{Transfer, Fetches, Uploads, Single}
use Rattle.coap_client.specs.Requests.{flag_option, path_options, block2_option, is_longer, block_option}
use Rattle.coap_client.specs.Trace as C
use Rattle.coap_promise.specs.Applied.{conditions_of}
use Rattle.coap_promise.proofs.Facts.Requests.ReadBack.{in_order, format_sent}

-- options behind which there is none of a number

value_front : (k : ℕ) (xs rest : List CoapOption) → value_of k rest ≡ None → value_of k (xs ++ rest) ≡ value_of k xs
value_front k [] rest none = none
value_front k (x ∷ xs) rest none = ap (cond (x.number == k) (Some x.value)) (value_front k xs rest none)

names_front : (version : ℕ) (xs rest : List CoapOption) → if_match_names version rest ≡ false
    → if_match_names version (xs ++ rest) ≡ if_match_names version xs
names_front version [] rest none = none
names_front version (x ∷ xs) rest none = ap (λ b. (x.number == if_match && matches version x.value) || b)
    (names_front version xs rest none)

-- a run of options of another number

value_run : (k n : ℕ) (vs : List (List ℕ)) (rest : List CoapOption) → (n == k) ≡ false → value_of k rest ≡ None
    → value_of k (map (option n) vs ++ rest) ≡ None
value_run k n [] rest other none = none
value_run k n (v ∷ vs) rest other none = ap (λ b. cond b (Some v) (value_of k (map (option n) vs ++ rest))) other
    ∙ value_run k n vs rest other none

names_run : (version n : ℕ) (vs : List (List ℕ)) (rest : List CoapOption) → (n == if_match) ≡ false
    → if_match_names version rest ≡ false → if_match_names version (map (option n) vs ++ rest) ≡ false
names_run version n [] rest other none = none
names_run version n (v ∷ vs) rest other none =
    ap (λ b. (b && matches version v) || if_match_names version (map (option n) vs ++ rest)) other
    ∙ names_run version n vs rest other none

-- what stands behind the preconditions
abbrev behind : C.Request → Method → Transfer → List CoapOption
behind r m t = path_options r.path ++ (uint_option content_format (format_sent m r.format) ++ block_option t)

-- one option, or none, of another number
one_value : (k : ℕ) (os rest : List CoapOption) → value_of k os ≡ None → value_of k rest ≡ None
    → value_of k (os ++ rest) ≡ None
one_value k os rest none more = value_front k os rest more ∙ none

one_names : (version : ℕ) (os rest : List CoapOption) → if_match_names version os ≡ false
    → if_match_names version rest ≡ false → if_match_names version (os ++ rest) ≡ false
one_names version os rest none more = names_front version os rest more ∙ none

no_match_block : (t : Transfer) → value_of if_match (block_option t) ≡ None
no_match_block (Fetches f) = by f.asked
  where
    by : (o : Option Asked) → value_of if_match (block2_option o) ≡ None
    by None = refl
    by (Some asked) = refl
no_match_block (Uploads u) = by (is_longer u)
  where
    by : (b : Bool) → value_of if_match (cond b (option block1 (uint (block_value (block_to_send u))) ∷ []) []) ≡ None
    by true = refl
    by false = refl
no_match_block Single = refl

no_flag_block : (t : Transfer) → value_of if_none_match (block_option t) ≡ None
no_flag_block (Fetches f) = by f.asked
  where
    by : (o : Option Asked) → value_of if_none_match (block2_option o) ≡ None
    by None = refl
    by (Some asked) = refl
no_flag_block (Uploads u) = by (is_longer u)
  where
    by : (b : Bool) → value_of if_none_match (cond b (option block1 (uint (block_value (block_to_send u))) ∷ []) [])
        ≡ None
    by true = refl
    by false = refl
no_flag_block Single = refl

no_names_block : (version : ℕ) (t : Transfer) → if_match_names version (block_option t) ≡ false
no_names_block version (Fetches f) = by f.asked
  where
    by : (o : Option Asked) → if_match_names version (block2_option o) ≡ false
    by None = refl
    by (Some asked) = refl
no_names_block version (Uploads u) = by (is_longer u)
  where
    by : (b : Bool) → if_match_names version (cond b (option block1 (uint (block_value (block_to_send u))) ∷ []) [])
        ≡ false
    by true = refl
    by false = refl
no_names_block version Single = refl

format_value : (k : ℕ) (o : Option ℕ) → (content_format == k) ≡ false → value_of k (uint_option content_format o) ≡ None
format_value k None other = refl
format_value k (Some n) other = ap (λ b. cond b (Some (uint n)) None) other

format_names : (version : ℕ) (o : Option ℕ) → if_match_names version (uint_option content_format o) ≡ false
format_names version None = refl
format_names version (Some n) = refl

module _ (r : C.Request) (m : Method) (t : Transfer) where
  no_match : value_of if_match (behind r m t) ≡ None
  no_match =
      value_run if_match uri_path r.path (uint_option content_format (format_sent m r.format) ++ block_option t) refl
      (one_value if_match (uint_option content_format (format_sent m r.format)) (block_option t)
      (format_value if_match (format_sent m r.format) refl) (no_match_block t))

  no_flag : value_of if_none_match (behind r m t) ≡ None
  no_flag =
      value_run if_none_match uri_path r.path (uint_option content_format (format_sent m r.format) ++ block_option t)
      refl
      (one_value if_none_match (uint_option content_format (format_sent m r.format)) (block_option t)
      (format_value if_none_match (format_sent m r.format) refl) (no_flag_block t))

  no_names : (version : ℕ) → if_match_names version (behind r m t) ≡ false
  no_names version =
      names_run version uri_path r.path (uint_option content_format (format_sent m r.format) ++ block_option t) refl
      (one_names version (uint_option content_format (format_sent m r.format)) (block_option t)
      (format_names version (format_sent m r.format)) (no_names_block version t))

  split : in_order r m t ≡ conditions_of r ++ behind r m t
  split = sym (append_assoc (map (option if_match) r.if_match) (flag_option if_none_match r.if_none_match)
      (behind r m t))

  same_match : value_of if_match (in_order r m t) ≡ value_of if_match (conditions_of r)
  same_match = ap (value_of if_match) split ∙ value_front if_match (conditions_of r) (behind r m t) no_match

  same_flag : value_of if_none_match (in_order r m t) ≡ value_of if_none_match (conditions_of r)
  same_flag = ap (value_of if_none_match) split ∙ value_front if_none_match (conditions_of r) (behind r m t) no_flag

  same_names : (version : ℕ) → if_match_names version (in_order r m t) ≡ if_match_names version (conditions_of r)
  same_names version = ap (if_match_names version) split
      ∙ names_front version (conditions_of r) (behind r m t) (no_names version)

  pub conditions_back : (o : Option Held) → precondition_fails o (in_order r m t)
      ≡ precondition_fails o (conditions_of r)
  conditions_back None = ap is_some same_match
  conditions_back (Some held) =
      ap (λ v. (is_some v && not (if_match_names held.version (in_order r m t)))
      || is_some (value_of if_none_match (in_order r m t))) same_match
      ∙ (ap (λ n. (is_some (value_of if_match (conditions_of r)) && not n)
      || is_some (value_of if_none_match (in_order r m t))) (same_names held.version)
      ∙ ap (λ v. (is_some (value_of if_match (conditions_of r)) && not (if_match_names held.version (conditions_of r)))
      || is_some v) same_flag)
