-- What a server reads from a request of a call is what the call asks.
use Rattle.std.proofs.Common.{◌≡◌, ◌<◌, ℕ, ◌==◌, Bool, true, false, Option, Some, None, List, [], ◌∷◌, ◌++◌, map, refl}
use Rattle.std.proofs.Common.{ap, sym, subst, ◌∙◌, cond, arith, append_assoc}
use Rattle.std.specs.Prelude.{IfSome}
use Rattle.std.specs.List.{filter}
use Rattle.std.proofs.lemmas.Bool.{lt-ltb}
use Rattle.coap_types.specs.CoapOption.{CoapOption, option}
use Rattle.coap_types.specs.OptionValues.{value_of, uint_in, uint_option}
use Rattle.coap_types.specs.RequestPath.{path_of}
use Rattle.coap_types.specs.BlockValue.{block_value}
use Rattle.coap_types.specs.Recognised.{lacks_critical, recognised}
use Rattle.coap_types.specs.Uint.{uint}
use Rattle.coap_types.specs.declared.direction.Direction.TheVariants.{Request}
use Rattle.coap_types.specs.declared.option_number.TheConstants.{IF_MATCH as if_match, IF_NONE_MATCH as if_none_match}
use Rattle.coap_types.specs.declared.option_number.TheConstants.{URI_PATH as uri_path, CONTENT_FORMAT as content_format}
use Rattle.coap_types.specs.declared.option_number.TheConstants.{BLOCK1 as block1, BLOCK2 as block2}
use Rattle.coap_types.specs.declared.request.Method.{Method}
use Rattle.coap_types.specs.declared.request.Method.TheVariants.{Get, Post, Put, Delete}
use Rattle.coap_types.proofs.Facts.Uints.{uint_read}
use Rattle.coap_resource.specs.RequestOptions.{format_of, within_16}
use Rattle.coap_block.specs.declared.fetch_progress.Asked.{Asked}
use Rattle.coap_block.specs.UploadStep.{block_to_send}
use Rattle.coap_client.specs.Own.{Transfer, Fetches, Uploads, Single}
use Rattle.coap_client.specs.Requests.{flag_option, path_options, before_path, after_path, options_of, block2_option}
use Rattle.coap_client.specs.Requests.{is_longer, block_option}
use Rattle.coap_client.specs.Trace as C
use Rattle.coap_promise.proofs.Facts.Requests.AllRecognised.{KnownElective, NoFormat, run_known, one_known}
use Rattle.coap_promise.proofs.Facts.Requests.AllRecognised.{format_known}
use Rattle.coap_promise.proofs.Facts.Requests.AllRecognised.{critical_known}
use Rattle.coap_promise.proofs.Facts.Requests.OptionsKept.{all_recognised}

-- a request that changes something
abbrev pub Changes : Method → Type 0
Changes Get = ⊥
Changes _ = Unit {0}

-- the format that is sent
abbrev pub format_sent : Method → Option ℕ → Option ℕ
format_sent Post format = format
format_sent Put format = format
format_sent _ format = None

-- the options of such a request, in their order
abbrev pub options_in : C.Request → Transfer → List CoapOption
options_in r t = options_of r ++ block_option t

abbrev pub flags : Bool → List CoapOption → List CoapOption
flags flag rest = flag_option if_none_match flag ++ rest

abbrev pub in_order : C.Request → Method → Transfer → List CoapOption
in_order r m t = map (option if_match) r.if_match
    ++ flags r.if_none_match (path_options r.path
    ++ (uint_option content_format (format_sent m r.format) ++ block_option t))

ordered_with : (r : C.Request) (format : List CoapOption) (t : Transfer)
    → ((map (option if_match) r.if_match ++ flag_option if_none_match r.if_none_match)
    ++ (path_options r.path ++ format)) ++ block_option t
    ≡ map (option if_match) r.if_match ++ flags r.if_none_match (path_options r.path ++ (format ++ block_option t))
ordered_with r format t =
    append_assoc (map (option if_match) r.if_match ++ flag_option if_none_match r.if_none_match)
    (path_options r.path ++ format) (block_option t)
    ∙ (append_assoc (map (option if_match) r.if_match) (flag_option if_none_match r.if_none_match)
    ((path_options r.path ++ format) ++ block_option t)
    ∙ ap (λ l. map (option if_match) r.if_match ++ (flag_option if_none_match r.if_none_match ++ l))
    (append_assoc (path_options r.path) format (block_option t)))

ordered_by : (r : C.Request) (m : Method) (t : Transfer) → Changes m
    → (before_path m r ++ (path_options r.path ++ after_path m r)) ++ block_option t ≡ in_order r m t
ordered_by r Get t h = absurd h
ordered_by r Delete t h = ordered_with r [] t
ordered_by r _ t h = ordered_with r (uint_option content_format r.format) t

pub ordered : (r : C.Request) (t : Transfer) → Changes r.method → options_in r t ≡ in_order r r.method t
ordered r t h = ordered_by r r.method t h

-- a request that is sent is kept without its body
bare_before : (m : Method) (r : C.Request) → before_path m (record r { body = [] }) ≡ before_path m r
bare_before Get r = refl
bare_before _ r = refl

bare_after : (m : Method) (r : C.Request) → after_path m (record r { body = [] }) ≡ after_path m r
bare_after Get r = refl
bare_after _ r = refl

pub bare_options : (r : C.Request) (t : Transfer) → options_in (record r { body = [] }) t ≡ options_in r t
bare_options r t =
    ap (λ l. (l ++ (path_options r.path ++ after_path r.method (record r { body = [] }))) ++ block_option t)
    (bare_before r.method r)
    ∙ ap (λ l. (before_path r.method r ++ (path_options r.path ++ l)) ++ block_option t) (bare_after r.method r)

-- all are recognised, where no critical one isn't

flag_known : (flag : Bool) (rest : List CoapOption) (before : List CoapOption) → NoFormat before
    → ((b : List CoapOption) → NoFormat b → KnownElective b rest) → KnownElective before (flags flag rest)
flag_known true rest before none f = one_known (option if_none_match []) rest refl refl before none f
flag_known false rest before none f = f before none

block_known : (t : Transfer) (before : List CoapOption) → KnownElective before (block_option t)
block_known (Fetches f) before = by f.asked
  where
    by : (o : Option Asked) → KnownElective before (block2_option o)
    by None = tt
    by (Some asked) = critical_known (option block2
        (uint (block_value (record { num = asked.num; more = false; szx = asked.szx })))) before refl
block_known (Uploads u) before = by (is_longer u)
  where
    by : (b : Bool) → KnownElective before (cond b (option block1 (uint (block_value (block_to_send u))) ∷ []) [])
    by true = critical_known (option block1 (uint (block_value (block_to_send u)))) before refl
    by false = tt
block_known Single before = tt

small_sent : (m : Method) (format : Option ℕ) → IfSome format (λ f. f < 65536)
    → IfSome (format_sent m format) (λ f. f < 65536)
small_sent Post format h = h
small_sent Put format h = h
small_sent _ format h = tt

known_in : (r : C.Request) (m : Method) (t : Transfer) → IfSome r.format (λ f. f < 65536)
    → KnownElective [] (in_order r m t)
known_in r m t small =
    run_known if_match r.if_match (flags r.if_none_match
    (path_options r.path ++ (uint_option content_format (format_sent m r.format) ++ block_option t))) refl refl
    [] refl
    (λ b none. flag_known r.if_none_match (path_options r.path
    ++ (uint_option content_format (format_sent m r.format) ++ block_option t)) b none
    (λ c none. run_known uri_path r.path (uint_option content_format (format_sent m r.format) ++ block_option t) refl
    refl c none
    (λ d none. format_known (format_sent m r.format) (block_option t) (small_sent m r.format small) d none
    (block_known t))))

-- so what is read is what was sent
pub reads_all : (r : C.Request) (t : Transfer) → Changes r.method → IfSome r.format (λ f. f < 65536)
    → lacks_critical Request (options_in r t) ≡ false → recognised Request (options_in r t) ≡ in_order r r.method t
reads_all r t h small none = all_recognised Request (options_in r t) none
    (subst (KnownElective []) (sym (ordered r t h)) (known_in r r.method t small)) ∙ ordered r t h

-- the path

path_over : (n : ℕ) (vs : List (List ℕ)) (rest : List CoapOption) → (n == uri_path) ≡ false
    → path_of (map (option n) vs ++ rest) ≡ path_of rest
path_over n [] rest other = refl
path_over n (v ∷ vs) rest other = ap (λ b. map (λ (x : CoapOption). x.value)
    (cond b (option n v ∷ filter (λ x. x.number == uri_path) (map (option n) vs ++ rest))
    (filter (λ x. x.number == uri_path) (map (option n) vs ++ rest)))) other ∙ path_over n vs rest other

path_flag : (flag : Bool) (rest : List CoapOption) → path_of (flags flag rest) ≡ path_of rest
path_flag true rest = refl
path_flag false rest = refl

path_is : (path : List (List ℕ)) (more : List CoapOption) → path_of more ≡ []
    → path_of (path_options path ++ more) ≡ path
path_is [] more none = none
path_is (s ∷ path) more none = ap (λ l. s ∷ l) (path_is path more none)

no_path : (m : Method) (format : Option ℕ) (t : Transfer)
    → path_of (uint_option content_format (format_sent m format) ++ block_option t) ≡ []
no_path m format t = by (format_sent m format)
  where
    block : (t : Transfer) → path_of (block_option t) ≡ []
    block (Fetches f) = of f.asked
      where
        of : (o : Option Asked) → path_of (block2_option o) ≡ []
        of None = refl
        of (Some asked) = refl
    block (Uploads u) = of (is_longer u)
      where
        of : (b : Bool) → path_of (cond b (option block1 (uint (block_value (block_to_send u))) ∷ []) []) ≡ []
        of true = refl
        of false = refl
    block Single = refl

    by : (o : Option ℕ) → path_of (uint_option content_format o ++ block_option t) ≡ []
    by None = block t
    by (Some n) = block t

pub path_back : (r : C.Request) (m : Method) (t : Transfer) → path_of (in_order r m t) ≡ r.path
path_back r m t =
    path_over if_match r.if_match (flags r.if_none_match
    (path_options r.path ++ (uint_option content_format (format_sent m r.format) ++ block_option t))) refl
    ∙ (path_flag r.if_none_match (path_options r.path
    ++ (uint_option content_format (format_sent m r.format) ++ block_option t))
    ∙ path_is r.path (uint_option content_format (format_sent m r.format) ++ block_option t) (no_path m r.format t))

-- the first option of a number

pub value_over : (k n : ℕ) (vs : List (List ℕ)) (rest : List CoapOption) → (n == k) ≡ false
    → value_of k (map (option n) vs ++ rest) ≡ value_of k rest
value_over k n [] rest other = refl
value_over k n (v ∷ vs) rest other = ap (λ b. cond b (Some v) (value_of k (map (option n) vs ++ rest))) other
    ∙ value_over k n vs rest other

value_flag : (k : ℕ) (flag : Bool) (rest : List CoapOption) → (if_none_match == k) ≡ false
    → value_of k (flags flag rest) ≡ value_of k rest
value_flag k true rest other = ap (λ b. cond b (Some []) (value_of k rest)) other
value_flag k false rest other = refl

value_there : (k : ℕ) (r : C.Request) (m : Method) (t : Transfer) → (if_match == k) ≡ false
    → (if_none_match == k) ≡ false → (uri_path == k) ≡ false
    → value_of k (in_order r m t) ≡ value_of k (uint_option content_format (format_sent m r.format) ++ block_option t)
value_there k r m t a b c =
    value_over k if_match r.if_match (flags r.if_none_match
    (path_options r.path ++ (uint_option content_format (format_sent m r.format) ++ block_option t))) a
    ∙ (value_flag k r.if_none_match (path_options r.path
    ++ (uint_option content_format (format_sent m r.format) ++ block_option t)) b
    ∙ value_over k uri_path r.path (uint_option content_format (format_sent m r.format) ++ block_option t) c)

-- the format

small_format : (n : ℕ) → n < 65536 → within_16 (Some n) ≡ Some n
small_format n h = ap (λ b. cond b (Some n) None) (lt-ltb n 65536 h)

format_is : (o : Option ℕ) (t : Transfer) → IfSome o (λ f. f < 65536)
    → within_16 (uint_in (value_of content_format (uint_option content_format o ++ block_option t))) ≡ o
format_is None t small = by t
  where
    by : (t : Transfer) → within_16 (uint_in (value_of content_format (block_option t))) ≡ None
    by (Fetches f) = of f.asked
      where
        of : (o : Option Asked) → within_16 (uint_in (value_of content_format (block2_option o))) ≡ None
        of None = refl
        of (Some asked) = refl
    by (Uploads u) = of (is_longer u)
      where
        of : (b : Bool) → within_16 (uint_in (value_of content_format
            (cond b (option block1 (uint (block_value (block_to_send u))) ∷ []) []))) ≡ None
        of true = refl
        of false = refl
    by Single = refl
format_is (Some n) t small = ap within_16 (uint_read n (omega (arith, small))) ∙ small_format n small

pub format_back : (r : C.Request) (m : Method) (t : Transfer) → IfSome r.format (λ f. f < 65536)
    → format_of (in_order r m t) ≡ format_sent m r.format
format_back r m t small = ap (λ v. within_16 (uint_in v)) (value_there content_format r m t refl refl refl)
    ∙ format_is (format_sent m r.format) t (small_sent m r.format small)

-- the block of an upload

block_there : (o : Option ℕ) (t : Transfer) → value_of block1 (uint_option content_format o ++ block_option t)
    ≡ value_of block1 (block_option t)
block_there None t = refl
block_there (Some n) t = refl

pub block_back : (r : C.Request) (m : Method) (t : Transfer)
    → value_of block1 (in_order r m t) ≡ value_of block1 (block_option t)
block_back r m t = value_there block1 r m t refl refl refl ∙ block_there (format_sent m r.format) t
