-- What a server reads from the GET of a call without ETags and Accept: its path, and the block that it asks for. So it
-- has no fault, and the reply shows what the path holds.
use Rattle.std.proofs.Common.{◌≡◌, ◌<◌, ◌≤◌, ℕ, ◌+◌, ◌*◌, ◌==◌, nat_le, nat_lt, Bool, true, false, ◌&&◌, ◌||◌, not}
use Rattle.std.proofs.Common.{Option, Some, None, is_some, List, [], ◌∷◌, ◌++◌, length, map, refl, ap, sym, subst, ◌∙◌}
use Rattle.std.proofs.Common.{cond, arith}
use Rattle.std.specs.Prelude.{All}
use Rattle.std.proofs.lemmas.Bool.{le-leb}
use Rattle.std.proofs.lemmas.Bool.Decides.{nat_tests}
use Rattle.std.proofs.lemmas.List.{append-nil}
use Rattle.std.proofs.lemmas.List.Elements.{All-head, All-tail}
use Rattle.coap_types.specs.BlockValue.{block_value, more_bit}
use Rattle.coap_types.specs.CoapOption.{CoapOption, option}
use Rattle.coap_types.specs.MethodCode.{method_of}
use Rattle.coap_types.specs.OptionValues.{has, uint_at, uint_in, uint_option, value_of}
use Rattle.coap_types.specs.Path.{HoldsAtMost}
use Rattle.coap_types.specs.Piece.{offset_of}
use Rattle.coap_types.specs.Recognised.{has_number, is_recognised, lacks_critical, recognised}
use Rattle.coap_types.specs.RequestPath.{path_of}
use Rattle.coap_types.specs.Uint.{uint}
use Rattle.coap_types.specs.declared.block.Block.{Block}
use Rattle.coap_types.specs.declared.direction.Direction.TheVariants.{Request}
use Rattle.coap_types.specs.declared.message.TheConstants.Code as codes
use Rattle.coap_types.specs.declared.option_number.TheConstants.{ACCEPT as accept, BLOCK1 as block1, BLOCK2 as block2}
use Rattle.coap_types.specs.declared.option_number.TheConstants.{ETAG as etag, IF_MATCH as if_match, OBSERVE as observe}
use Rattle.coap_types.specs.declared.option_number.TheConstants.{IF_NONE_MATCH as if_none_match, PROXY_URI as proxy_uri}
use Rattle.coap_types.specs.declared.option_number.TheConstants.{PROXY_SCHEME as proxy_scheme, URI_PATH as uri_path}
use Rattle.coap_types.specs.declared.request.Method.{Method}
use Rattle.coap_types.specs.declared.request.Method.TheVariants.{Get}
use Rattle.coap_types.proofs.Facts.Blocks.{block_reads_back}
use Rattle.coap_types.proofs.Facts.Uints.{few_bytes, uint_read, uint_spells}
use Rattle.coap_codec.specs.Message.{Message}
use Rattle.coap_block.specs.declared.fetch_progress.Asked.{Asked}
use Rattle.coap_resource.specs.Content.{Content, Held}
use Rattle.coap_resource.specs.RequestOptions.{accepts_by, block_of, block_said, etag_names, offset_by}
use Rattle.coap_resource.specs.RequestOptions.{precondition_fails}
use Rattle.coap_resource.specs.RequestOptions.{if_match_names, szx_by, tag_of}
use Rattle.coap_resource.specs.Serves.{Question, Reply, Serves, ServesMethod, ServesUnless, bare, content_reply, got}
use Rattle.coap_resource.specs.Serves.{got_at}
use Rattle.coap_client_laws.specs.Follows.Unchanged.{block_asked, reply_to}
use Rattle.coap_client.specs.Requests.{after_path, before_path, block2_option, options_of, path_options}
use Rattle.coap_client.specs.Trace as C
use Rattle.coap_server.specs.Checks.{Asks, asks, is_reserved, question, verdict_on}
use Rattle.coap_server_laws.specs.Follows.Table.{HasNoFault}
use Rattle.coap_server.specs.Observers.{is_get, is_number, observes}
use Rattle.coap_server_laws.proofs.Facts.Laws as server_facts
use Rattle.coap_promise.proofs.Facts.Reports.PathRead.{path_of_fetch}
use Rattle.coap_promise.proofs.Facts.Requests.AllRecognised.{KnownElective, critical_known, has_more}
use Rattle.coap_promise.proofs.Facts.Requests.AllRecognised.{run_known, zero_least}
use Rattle.coap_promise.proofs.Facts.Requests.OptionsKept.{lacking, all_recognised}
use Rattle.coap_promise.proofs.Facts.Requests.ReadBack.{value_over}

-- the options of such a GET

plain_rest : (etags : List (List ℕ)) (path : List (List ℕ)) (wanted : Option ℕ) (more : List CoapOption) → etags ≡ []
    → wanted ≡ None
    → (map (option etag) etags ++ (path_options path ++ uint_option accept wanted)) ++ more ≡ path_options path ++ more
plain_rest etags path wanted more none any =
    ap (λ es. (map (option etag) es ++ (path_options path ++ uint_option accept wanted)) ++ more) none
    ∙ (ap (λ w. (path_options path ++ uint_option accept w) ++ more) any
    ∙ ap (λ l. l ++ more) (append-nil (path_options path)))

pub plain_options : (r : C.Request) (asked : Option Asked) → r.method ≡ Get → r.etags ≡ [] → r.accept ≡ None
    → options_of (record r { body = [] }) ++ block2_option asked ≡ path_options r.path ++ block2_option asked
plain_options r asked method none any =
    ap (λ m. (before_path m (record r { body = [] }) ++ (path_options r.path ++ after_path m (record r { body = [] })))
    ++ block2_option asked) method
    ∙ plain_rest r.etags r.path r.accept (block2_option asked) none any

-- the block that is asked for can be written
abbrev pub IsAskable : Option Asked → Type 0
IsAskable None = Unit {0}
IsAskable (Some a) = (a.num ≤ 1048575) × (a.szx ≤ 6)

abbrev block : Asked → Block
block a = record { num = a.num; more = false; szx = a.szx }

low_value : (num bit szx : ℕ) → num ≤ 1048575 → bit ≤ 8 → szx ≤ 6 → num * 16 + bit + szx < 16777216
low_value num bit szx n b s = omega (arith, n, b, s)

block_low : (a : Asked) → IsAskable (Some a) → block_value (block a) < 16777216
block_low a h = low_value a.num (more_bit false) a.szx h.0 (omega arith) h.1

-- each critical option is recognised

known : (a b : Bool) → a ≡ true → b ≡ true → (true && a && b) ≡ true
known true true h k = refl
known true false h k = absurd (cc k)
known false b h k = absurd (cc h)

known_once : (h a b : Bool) → h ≡ false → a ≡ true → b ≡ true → (not h && a && b) ≡ true
known_once false a b none h k = known a b h k
known_once true a b none h k = absurd (cc none)

segment_known : (s : List ℕ) → length s ≤ 255 → (before : List CoapOption)
    → is_recognised Request before (option uri_path s) ≡ true
segment_known s h before = known (nat_le 0 (length s)) (nat_le (length s) 255) (zero_least (length s))
    (le-leb (length s) 255 h)

block_known : (a : Asked) → IsAskable (Some a) → (before : List CoapOption) → has_number block2 before ≡ false
    → is_recognised Request before (option block2 (uint (block_value (block a)))) ≡ true
block_known a h before none =
    let n : ℕ = block_value (block a) in
    let low = block_low a h in
    known_once (has_number block2 before) (nat_le 0 (length (uint n))) (nat_le (length (uint n)) 3) none
    (zero_least (length (uint n)))
    (le-leb (length (uint n)) 3 (few_bytes (uint n) n 3 (uint_spells n (omega (arith, low))) low))

block_fits : (asked : Option Asked) → IsAskable asked → (before : List CoapOption) → has_number block2 before ≡ false
    → lacking Request before (block2_option asked) ≡ false
block_fits None h before none = refl
block_fits (Some a) h before none = ap (λ r. not r || false) (block_known a h before none)

all_fit : (path : List (List ℕ)) → All (λ s. length s ≤ 255) path → (asked : Option Asked) → IsAskable asked
    → (before : List CoapOption) → has_number block2 before ≡ false
    → lacking Request before (path_options path ++ block2_option asked) ≡ false
all_fit [] short asked h before none = block_fits asked h before none
all_fit (s ∷ path) short asked h before none =
    ap (λ r. not r || lacking Request (before ++ option uri_path s ∷ []) (path_options path ++ block2_option asked))
    (segment_known s (All-head (λ x. length x ≤ 255) s path short) before)
    ∙ all_fit path (All-tail (λ x. length x ≤ 255) s path short) asked h (before ++ option uri_path s ∷ [])
    (has_more block2 before (option uri_path s) none refl)

elective : (asked : Option Asked) (before : List CoapOption) → KnownElective before (block2_option asked)
elective None before = tt
elective (Some a) before = critical_known (option block2 (uint (block_value (block a)))) before refl

no_etag : (version : ℕ) (path : List (List ℕ)) (asked : Option Asked)
    → etag_names version (path_options path ++ block2_option asked) ≡ false
no_etag version [] None = refl
no_etag version [] (Some a) = refl
no_etag version (s ∷ path) asked = no_etag version path asked

none_behind : (k : ℕ) (asked : Option Asked) → (block2 == k) ≡ false → value_of k (block2_option asked) ≡ None
none_behind k None other = refl
none_behind k (Some a) other = ap (λ b. cond b (Some (uint (block_value (block a)))) None) other

said_is : (asked : Option Asked) → IsAskable asked
    → block_said (uint_in (value_of block2 (block2_option asked))) ≡ block_asked asked
said_is None h = refl
said_is (Some a) h =
    let low = block_low a h in
    ap block_said (uint_read (block_value (block a)) (omega (arith, low))) ∙ block_reads_back (block a) h.0 h.1

reserved_none : (asked : Option Asked) → IsAskable asked
    → is_reserved (uint_in (value_of block2 (block2_option asked))) ≡ false
reserved_none None h = refl
reserved_none (Some a) h =
    let low = block_low a h in
    ap is_reserved (uint_read (block_value (block a)) (omega (arith, low)))
    ∙ ap (λ o. not (is_some o)) (block_reads_back (block a) h.0 h.1)

-- where a GET asks to begin, something is left of what is held
abbrev pub IsBelow : Option Asked → Held → Type 0
IsBelow None held = Unit {0}
IsBelow (Some a) held = offset_of a.num a.szx < length held.body

within : (o len : ℕ) → o < len → (nat_lt 0 o && nat_le len o) ≡ false
within o len h = grind (arith, nat_tests, h)

starts_within : (asked : Option Asked) (held : Held) → IsBelow asked held
    → (nat_lt 0 (offset_by (block_asked asked)) && nat_le (length held.body) (offset_by (block_asked asked))) ≡ false
starts_within None held h = refl
starts_within (Some a) held h = within (offset_of a.num a.szx) (length held.body) h

-- a GET leaves the store as it was
pub get_stays : (b : Bool) (old : Content) (now : ℕ) (q : Question) (reply : Reply) (left : Content) → q.method ≡ Get
    → ServesUnless b old now q reply left → left ≡ old
get_stays true old now q reply left method h = h.1
get_stays false old now q reply left method h =
    (subst (λ (m : Method). ServesMethod m old now q reply left) method h).1

module _ (path : List (List ℕ)) (fits : HoldsAtMost 16 255 path) (asked : Option Asked) (good : IsAskable asked) where
  abbrev os : List CoapOption
  os = path_options path ++ block2_option asked

  lacks_none : lacks_critical Request os ≡ false
  lacks_none = all_fit path fits.short asked good [] refl

  pub reads_all : recognised Request os ≡ os
  reads_all = all_recognised Request os lacks_none (run_known uri_path path (block2_option asked) refl refl [] refl
      (λ b none. elective asked b))

  pub none_there : (k : ℕ) → (uri_path == k) ≡ false → (block2 == k) ≡ false → value_of k os ≡ None
  none_there k first second = value_over k uri_path path (block2_option asked) first ∙ none_behind k asked second

  block_there : value_of block2 os ≡ value_of block2 (block2_option asked)
  block_there = value_over block2 uri_path path (block2_option asked) refl

  pub path_is : path_of os ≡ path
  path_is = path_of_fetch path asked

  block_is : block_of os ≡ block_asked asked
  block_is = ap (λ v. block_said (uint_in v)) block_there ∙ said_is asked good

  -- it is asked of the store
  module _ (m : Message) (options : m.options ≡ os) where
    asks_all : asks m ≡ os
    asks_all = ap (recognised Request) options ∙ reads_all

    no_fault : HasNoFault m
    no_fault = record {
      critical = ap (lacks_critical Request) options ∙ lacks_none;
      uri = ap (has proxy_uri) asks_all ∙ ap is_some (none_there proxy_uri refl refl);
      scheme = ap (has proxy_scheme) asks_all ∙ ap is_some (none_there proxy_scheme refl refl);
      segments = subst (λ (p : List (List ℕ)). length p ≤ 16) (sym (ap path_of asks_all ∙ path_is)) fits.few;
      upload_size = ap (λ l. is_reserved (uint_at block1 l)) asks_all
          ∙ ap (λ v. is_reserved (uint_in v)) (none_there block1 refl refl);
      size = ap (λ l. is_reserved (uint_at block2 l)) asks_all
          ∙ (ap (λ v. is_reserved (uint_in v)) block_there ∙ reserved_none asked good);
    }

    pub asks_store : (szx : ℕ) → method_of m.code ≡ Some Get → verdict_on szx m ≡ Asks (question szx Get m)
    asks_store szx method = server_facts.questions.each szx m Get method no_fault
        (ap (λ l. uint_at block1 l) asks_all ∙ ap uint_in (none_there block1 refl refl))

  module _ (q : Question) (options : q.options ≡ os) where
    -- it is no registration
    pub observes_none : (n : ℕ) → observes n q ≡ true → ⊥
    observes_none n is = by (is_get q.method) is
      where
        none : is_number n (uint_at observe q.options) ≡ false
        none = ap (λ l. is_number n (uint_at observe l)) options
            ∙ ap (λ v. is_number n (uint_in v)) (none_there observe refl refl)

        by : (b : Bool) → (b && is_number n (uint_at observe q.options)) ≡ true → ⊥
        by true h = cc (h, none)
        by false h = cc h

    -- the reply is the part of what is held that it asks for
    module _ (held : Held) (below : IsBelow asked held) where
      got_part : got_at held q.options q.szx (block_of q.options) ≡ reply_to held q.szx asked
      got_part =
          ap (λ l. got_at held l q.szx (block_of l)) options
          ∙ (ap (λ v. cond (not (accepts_by v held.format)) (bare codes.NOT_ACCEPTABLE.0 (offset_by (block_of os)))
          (cond (etag_names held.version os)
          (record (bare codes.VALID.0 (offset_by (block_of os))) { tag = Some (tag_of held.version) })
          (cond (nat_lt 0 (offset_by (block_of os)) && nat_le (length held.body) (offset_by (block_of os)))
          (bare codes.BAD_REQUEST.0 (offset_by (block_of os)))
          (content_reply held (is_some (block_of os)) (offset_by (block_of os)) (szx_by (block_of os) q.szx)))))
          (none_there accept refl refl)
          ∙ (ap (λ b. cond b (record (bare codes.VALID.0 (offset_by (block_of os)))
          { tag = Some (tag_of held.version) })
          (cond (nat_lt 0 (offset_by (block_of os)) && nat_le (length held.body) (offset_by (block_of os)))
          (bare codes.BAD_REQUEST.0 (offset_by (block_of os)))
          (content_reply held (is_some (block_of os)) (offset_by (block_of os)) (szx_by (block_of os) q.szx))))
          (no_etag held.version path asked)
          ∙ (ap (λ o. cond (nat_lt 0 (offset_by o) && nat_le (length held.body) (offset_by o))
          (bare codes.BAD_REQUEST.0 (offset_by o))
          (content_reply held (is_some o) (offset_by o) (szx_by o q.szx))) block_is
          ∙ ap (λ b. cond b (bare codes.BAD_REQUEST.0 (offset_by (block_asked asked))) (reply_to held q.szx asked))
          (starts_within asked held below))))

      none_fails : (o : Option Held) → o ≡ Some held → precondition_fails o q.options ≡ false
      none_fails o is =
          ap (λ z. precondition_fails z q.options) is
          ∙ (ap (precondition_fails (Some held)) options
          ∙ (ap (λ v. (is_some v && not (if_match_names held.version os)) || has if_none_match os)
          (none_there if_match refl refl)
          ∙ ap is_some (none_there if_none_match refl refl)))

      pub replies_part : (old : Content) (now : ℕ) (reply : Reply) (left : Content) → q.method ≡ Get
          → old.holds q.path ≡ Some held → Serves old now q reply left → reply ≡ reply_to held q.szx asked
      replies_part old now reply left method is h =
          let by_method = subst (λ b. ServesUnless b old now q reply left) (none_fails (old.holds q.path) is) h in
          let by_get = subst (λ (m : Method). ServesMethod m old now q reply left) method by_method in
          by_get.0 ∙ (ap (λ o. got o q) is ∙ got_part)
