-- The path that a server reads from a request is the one that the client asks for.
use Rattle.std.proofs.Common.{◌≡◌, ℕ, ◌%◌, ◌==◌, Bool, true, false, ◌&&◌, ◌||◌, not, Option, Some, None, List, [], ◌∷◌}
use Rattle.std.proofs.Common.{◌++◌, map, refl, ap, sym, subst, ◌∙◌, cond}
use Rattle.std.specs.List.{filter, list_any}
use Rattle.std.specs.Cmp.{unsigned_Decides}
use Rattle.std.proofs.lemmas.List.{append-nil}
use Rattle.coap_types.specs.CoapOption.{CoapOption, option}
use Rattle.coap_types.specs.OptionValues.{uint_option}
use Rattle.coap_types.specs.Recognised.{placed, is_recognised, is_critical, lacks_critical, recognised}
use Rattle.coap_types.specs.RequestPath.{path_of}
use Rattle.coap_types.specs.BlockValue.{block_value}
use Rattle.coap_types.specs.Uint.{uint}
use Rattle.coap_types.specs.declared.direction.Direction.TheVariants.{Request}
use Rattle.coap_types.specs.declared.option_number.TheConstants.{IF_MATCH as if_match, ETAG as etag}
use Rattle.coap_types.specs.declared.option_number.TheConstants.{IF_NONE_MATCH as if_none_match, URI_PATH as uri_path}
use Rattle.coap_types.specs.declared.option_number.TheConstants.{CONTENT_FORMAT as content_format, ACCEPT as accept}
use Rattle.coap_types.specs.declared.option_number.TheConstants.{BLOCK1 as block1, OBSERVE as observe}
use Rattle.coap_types.specs.declared.request.Method.{Method}
use Rattle.coap_types.specs.declared.request.Method.TheVariants.{Get, Delete}
use Rattle.coap_block.specs.declared.fetch_progress.Asked.{Asked}
use Rattle.coap_block.specs.UploadStep.{block_to_send}
use Rattle.coap_client.specs.Own.{Transfer, Fetches, Uploads, Single}
use Rattle.coap_client.specs.Requests.{flag_option, path_options, before_path, after_path, options_of, block2_option}
use Rattle.coap_client.specs.Requests.{is_longer, block_option}
use Rattle.coap_client.specs.Trace as C
use Rattle.coap_promise.proofs.Facts.Requests.OptionsKept.{rest_of}

abbrev kept : List CoapOption → List CoapOption → List CoapOption
kept before os = map (λ p. p.1) (filter (λ p. is_recognised Request p.0 p.1) (placed before os))

abbrev lacking : List CoapOption → List CoapOption → Bool
lacking before os = list_any (λ p. is_critical p.1 && not (is_recognised Request p.0 p.1)) (placed before os)

not_critical : (c k : Bool) → ((c && not false) || k) ≡ false → c ≡ false
not_critical true k h = absurd (cc h)
not_critical false k h = refl

-- an elective option is no Uri-Path
no_segment : (n : ℕ) → (n % 2 == 1) ≡ false → (n == uri_path) ≡ false
no_segment n even = by (n == uri_path) refl
  where
    by : (b : Bool) → (n == uri_path) ≡ b → b ≡ false
    by false is = refl
    by true is = let same : n ≡ 11 = (unsigned_Decides n 11).0 is in let k : true
        ≡ false = subst (λ i. (i % 2 == 1) ≡ false) same even in absurd (cc k)

path_behind : (o : CoapOption) (os more : List CoapOption) → path_of os ≡ path_of more
    → path_of (o ∷ os) ≡ path_of (o ∷ more)
path_behind o os more h = by (o.number == uri_path)
  where
    by : (b : Bool) → map (λ (x : CoapOption). x.value)
        (cond b (o ∷ filter (λ x. x.number == uri_path) os) (filter (λ x. x.number == uri_path) os))
        ≡ map (λ (x : CoapOption). x.value) (cond b (o ∷ filter (λ x. x.number == uri_path) more)
        (filter (λ x. x.number == uri_path) more))
    by true = ap (λ l. o.value ∷ l) h
    by false = h

path_past : (o : CoapOption) (os : List CoapOption) → (o.number == uri_path) ≡ false → path_of (o ∷ os) ≡ path_of os
path_past o os other = ap (λ b. map (λ (x : CoapOption). x.value)
    (cond b (o ∷ filter (λ x. x.number == uri_path) os) (filter (λ x. x.number == uri_path) os))) other

path_kept : (before os : List CoapOption) → lacking before os ≡ false → path_of (kept before os) ≡ path_of os
path_kept before [] none = refl
path_kept before (o ∷ os) none = by (is_recognised Request before o) none
    (path_kept (before ++ o ∷ []) os (rest_of (is_critical o) (is_recognised Request before o)
    (lacking (before ++ o ∷ []) os) none))
  where
    by : (r : Bool) → ((is_critical o && not r) || lacking (before ++ o ∷ []) os) ≡ false
        → path_of (kept (before ++ o ∷ []) os) ≡ path_of os
        → path_of (map (λ p. p.1) (cond r ((before, o) ∷ filter (λ p. is_recognised Request p.0 p.1)
        (placed (before ++ o ∷ []) os)) (filter (λ p. is_recognised Request p.0 p.1)
        (placed (before ++ o ∷ []) os)))) ≡ path_of (o ∷ os)
    by true none ih = path_behind o (kept (before ++ o ∷ []) os) os ih
    by false none ih = ih ∙ sym (path_past o os (no_segment o.number
        (not_critical (is_critical o) (lacking (before ++ o ∷ []) os) none)))

-- where no critical option is unknown, the path is read whole
pub path_read : (os : List CoapOption) → lacks_critical Request os ≡ false
    → path_of (recognised Request os) ≡ path_of os
path_read os none = path_kept [] os none

-- what is written

path_join : (a b : List CoapOption) → path_of (a ++ b) ≡ path_of a ++ path_of b
path_join [] b = refl
path_join (o ∷ a) b = by (o.number == uri_path) refl (path_join a b)
  where
    by : (s : Bool) → (o.number == uri_path) ≡ s → path_of (a ++ b) ≡ path_of a ++ path_of b
        → path_of (o ∷ (a ++ b)) ≡ path_of (o ∷ a) ++ path_of b
    by true is ih =
        ap (λ s. map (λ (x : CoapOption). x.value)
        (cond s (o ∷ filter (λ x. x.number == uri_path) (a ++ b)) (filter (λ x. x.number == uri_path) (a ++ b)))) is
        ∙ (ap (λ l. o.value ∷ l) ih
        ∙ ap (λ s. map (λ (x : CoapOption). x.value)
        (cond s (o ∷ filter (λ x. x.number == uri_path) a) (filter (λ x. x.number == uri_path) a)) ++ path_of b)
        (sym is))
    by false is ih = path_past o (a ++ b) is ∙ (ih ∙ ap (λ l. l ++ path_of b) (sym (path_past o a is)))

no_path_run : (n : ℕ) (vs : List (List ℕ)) → (n == uri_path) ≡ false → path_of (map (option n) vs) ≡ []
no_path_run n [] other = refl
no_path_run n (v ∷ vs) other = path_past (option n v) (map (option n) vs) other ∙ no_path_run n vs other

no_path_uint : (n : ℕ) (o : Option ℕ) → (n == uri_path) ≡ false → path_of (uint_option n o) ≡ []
no_path_uint n None other = refl
no_path_uint n (Some v) other = path_past (option n (uint v)) [] other

pub segments : (path : List (List ℕ)) → path_of (path_options path) ≡ path
segments [] = refl
segments (s ∷ path) = ap (λ l. s ∷ l) (segments path)

no_path_flag : (b : Bool) → path_of (flag_option if_none_match b) ≡ []
no_path_flag true = refl
no_path_flag false = refl

no_path_before : (m : Method) (r : C.Request) → path_of (before_path m r) ≡ []
no_path_before Get r = no_path_run etag r.etags refl
no_path_before _ r =
    path_join (map (option if_match) r.if_match) (flag_option if_none_match r.if_none_match) ∙ (ap
    (λ l. l ++ path_of (flag_option if_none_match r.if_none_match)) (no_path_run if_match r.if_match refl)
    ∙ no_path_flag r.if_none_match)

no_path_after : (m : Method) (r : C.Request) → path_of (after_path m r) ≡ []
no_path_after Get r = no_path_uint accept r.accept refl
no_path_after Delete r = refl
no_path_after _ r = no_path_uint content_format r.format refl

pub no_path_block2 : (o : Option Asked) → path_of (block2_option o) ≡ []
no_path_block2 None = refl
no_path_block2 (Some asked) = refl

no_path_block : (t : Transfer) → path_of (block_option t) ≡ []
no_path_block (Fetches f) = no_path_block2 f.asked
no_path_block (Uploads u) = by (is_longer u)
  where
    by : (b : Bool) → path_of (cond b (option block1 (uint (block_value (block_to_send u))) ∷ []) []) ≡ []
    by true = refl
    by false = refl
no_path_block Single = refl

between : (a p b c : List CoapOption) (path : List (List ℕ)) → path_of a ≡ [] → path_of p ≡ path → path_of b ≡ []
    → path_of c ≡ [] → path_of ((a ++ (p ++ b)) ++ c) ≡ path
between a p b c path ha hp hb hc =
    path_join (a ++ (p ++ b)) c
    ∙ (ap (λ l. path_of (a ++ (p ++ b)) ++ l) hc
    ∙ (append-nil (path_of (a ++ (p ++ b)))
    ∙ (path_join a (p ++ b)
    ∙ (ap (λ l. l ++ path_of (p ++ b)) ha
    ∙ (path_join p b
    ∙ (ap (λ l. path_of p ++ l) hb
    ∙ (append-nil (path_of p) ∙ hp)))))))

-- of a call
pub path_of_call : (r : C.Request) (t : Transfer) → path_of (options_of r ++ block_option t) ≡ r.path
path_of_call r t = between (before_path r.method r) (path_options r.path) (after_path r.method r)
    (block_option t) r.path (no_path_before r.method r) (segments r.path) (no_path_after r.method r) (no_path_block t)

-- of a registration and a cancel, and of a fetch
pub path_of_observe : (n : ℕ) (path : List (List ℕ)) → path_of (option observe (uint n) ∷ path_options path) ≡ path
path_of_observe n path = segments path

pub path_of_fetch : (path : List (List ℕ)) (o : Option Asked) → path_of (path_options path ++ block2_option o) ≡ path
path_of_fetch path o = path_join (path_options path) (block2_option o)
    ∙ (ap (λ l. path_of (path_options path) ++ l) (no_path_block2 o)
    ∙ (append-nil (path_of (path_options path)) ∙ segments path))
