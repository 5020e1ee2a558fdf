-- The requests of what a client took have a spelling (RFC 7252, sections 3 and 3.1).
use Rattle.std.proofs.Common.{◌≡◌, ◌≤◌, ◌<◌, ℕ, suc, Bool, true, false, cond, nat_le, nat_lt, Option, Some, None, List}
use Rattle.std.proofs.Common.{[], ◌∷◌, ◌++◌, length, map, refl, ap, sym, subst, ◌∙◌, arith}
use Rattle.std.specs.Prelude.{◌==◌}
use Rattle.std.specs.List.{list_all}
use Rattle.std.proofs.lemmas.Bool.{le-leb, and_from, and_parts}
use Rattle.std.proofs.lemmas.List.{append_assoc, append-nil}
use Rattle.coap_types.specs.CoapOption.{CoapOption, option}
use Rattle.coap_types.specs.MethodCode.{method_code}
use Rattle.coap_types.specs.OptionValues.{uint_option}
use Rattle.coap_types.specs.Uint.{uint}
use Rattle.coap_types.specs.BlockValue.{block_value}
use Rattle.coap_types.specs.declared.request.Method.{Method}
use Rattle.coap_types.specs.declared.request.Method.TheVariants.{Get, Delete}
use Rattle.coap_types.specs.declared.option_number.TheConstants.{IF_MATCH as if_match, IF_NONE_MATCH as if_none_match}
use Rattle.coap_types.specs.declared.option_number.TheConstants.{OBSERVE as observe, BLOCK2 as block2, BLOCK1 as block1}
use Rattle.coap_codec.specs.BoundedSpelling.{is_numbered}
use Rattle.coap_codec.specs.Refused.{ascends, is_short}
use Rattle.coap_codec.specs.Spelling.{options_bytes}
use Rattle.coap_codec.proofs.Facts.Spelling.{options_spelled}
use Rattle.coap_block.specs.declared.fetch_progress.Asked.{Asked}
use Rattle.coap_block.specs.UploadStep.{UploadState, block_to_send}
use Rattle.coap_layer.specs.Rows.{IsSpelled}
use Rattle.coap_exchange.specs.AskerRequests.{content_of}
use Rattle.coap_client.specs.Trace.{Request}
use Rattle.coap_client.specs.Own.{Transfer, Fetches, Uploads, Single, Operation, Calling, Registering, Fetching}
use Rattle.coap_client.specs.Own.{Cancelling, Dropped, Observation}
use Rattle.coap_client.specs.Observations.{observation_of, observed_path, token_of, fetch_of}
use Rattle.coap_client.specs.Queue.{are_long, block_option_number}
use Rattle.coap_client.specs.Requests.{flag_option, path_options, before_path, after_path, options_of, block2_option}
use Rattle.coap_client.specs.Requests.{block1_option, block_option, is_longer, payload_of, message_of}
use Rattle.coap_client_laws.proofs.Sending.LiveTokens.{AllLive}
use Rattle.coap_client.proofs.Facts.Calls.AskableRequests.{uint_short}
use Rattle.coap_client_laws.proofs.Progress.Spelled.{short_front, code_of, not_more}

-- options from this number on, in order, with numbers of 16 bits
record Ordered (k : ℕ) (os : List CoapOption) : Type 0 where
  order : (base : ℕ) → base ≤ k → ascends base os ≡ true
  numbers : list_all is_numbered os ≡ true

ordered_nil : (k : ℕ) → Ordered k []
ordered_nil k = record { order = λ base h. refl; numbers = refl }

ordered_cons : (k n : ℕ) (v : List ℕ) (os : List CoapOption) → n < 65536 → k ≤ n → Ordered n os
    → Ordered k (option n v ∷ os)
ordered_cons k n v os small up g = record {
  order = λ base h. and_from (nat_le base n) (ascends n os) (le-leb base n (omega (arith, h, up)))
      (g.order n (omega arith));
  numbers = and_from (nat_lt n 65536) (list_all is_numbered os) (le-leb (suc n) 65536 (omega (arith, small))) g.numbers;
}

ordered_weaken : (j k : ℕ) (os : List CoapOption) → j ≤ k → Ordered k os → Ordered j os
ordered_weaken j k os h g = record { order = λ base b. g.order base (omega (arith, h, b)); numbers = g.numbers }

ordered_run : (k n : ℕ) (vs : List (List ℕ)) (os : List CoapOption) → n < 65536 → k ≤ n → Ordered n os
    → Ordered k (map (option n) vs ++ os)
ordered_run k n [] os small up g = ordered_weaken k n os up g
ordered_run k n (v ∷ vs) os small up g = ordered_cons k n v (map (option n) vs ++ os) small up
    (ordered_run n n vs os small (omega arith) g)

ordered_uint : (k n : ℕ) (o : Option ℕ) (os : List CoapOption) → n < 65536 → k ≤ n → Ordered n os
    → Ordered k (uint_option n o ++ os)
ordered_uint k n None os small up g = ordered_weaken k n os up g
ordered_uint k n (Some v) os small up g = ordered_cons k n (uint v) os small up g

ordered_flag : (k n : ℕ) (b : Bool) (os : List CoapOption) → n < 65536 → k ≤ n → Ordered n os
    → Ordered k (flag_option n b ++ os)
ordered_flag k n true os small up g = ordered_cons k n [] os small up g
ordered_flag k n false os small up g = ordered_weaken k n os up g

-- those of a call

ordered_after : (method : Method) (r : Request) (os : List CoapOption) → Ordered 17 os
    → Ordered 11 (after_path method r ++ os)
ordered_after Get r os g = ordered_uint 11 17 r.accept os (omega arith) (omega arith) g
ordered_after Delete r os g = ordered_weaken 11 17 os (omega arith) g
ordered_after _ r os g = ordered_uint 11 12 r.format os (omega arith) (omega arith)
    (ordered_weaken 12 17 os (omega arith) g)

ordered_conditions : (r : Request) (os : List CoapOption) → Ordered 5 os
    → Ordered 0 ((map (option if_match) r.if_match ++ flag_option if_none_match r.if_none_match) ++ os)
ordered_conditions r os g =
    subst (Ordered 0) (sym (append_assoc (map (option if_match) r.if_match)
    (flag_option if_none_match r.if_none_match) os))
    (ordered_run 0 1 r.if_match (flag_option if_none_match r.if_none_match ++ os) (omega arith) (omega arith)
    (ordered_flag 1 5 r.if_none_match os (omega arith) (omega arith) g))

ordered_before : (method : Method) (r : Request) (os : List CoapOption) → Ordered 5 os
    → Ordered 0 (before_path method r ++ os)
ordered_before Get r os g = ordered_run 0 4 r.etags os (omega arith) (omega arith)
    (ordered_weaken 4 5 os (omega arith) g)
ordered_before _ r os g = ordered_conditions r os g

ordered_call : (r : Request) (os : List CoapOption) → Ordered 17 os → Ordered 0 (options_of r ++ os)
ordered_call r os g =
    let after = after_path r.method r in
    let path = path_options r.path in
    let before = before_path r.method r in
    let behind : Ordered 5 (path ++ (after ++ os)) =
    ordered_run 5 11 r.path (after ++ os) (omega arith) (omega arith) (ordered_after r.method r os g) in
    subst (Ordered 0) (sym (append_assoc before (path ++ after) os
    ∙ ap (λ l. before ++ l) (append_assoc path after os)))
    (ordered_before r.method r (path ++ (after ++ os)) behind)

ordered_block2 : (k : ℕ) (o : Option Asked) → k ≤ 23 → Ordered k (block2_option o)
ordered_block2 k None up = ordered_nil k
ordered_block2 k (Some a) up = ordered_cons k 23 _ [] (omega arith) up (ordered_nil 23)

ordered_block1 : (u : UploadState) → Ordered 17 (block1_option u)
ordered_block1 u = by (is_longer u)
  where
    by : (b : Bool) → Ordered 17 (cond b (option block1 (uint (block_value (block_to_send u))) ∷ []) [])
    by true = ordered_cons 17 27 _ [] (omega arith) (omega arith) (ordered_nil 27)
    by false = ordered_nil 17

ordered_block : (t : Transfer) → Ordered 17 (block_option t)
ordered_block (Fetches f) = ordered_block2 17 f.asked (omega arith)
ordered_block (Uploads u) = ordered_block1 u
ordered_block Single = ordered_nil 17

ordered_path : (k : ℕ) (path : List (List ℕ)) (o : Option Asked) → k ≤ 11
    → Ordered k (path_options path ++ block2_option o)
ordered_path k path o up = ordered_run k 11 path (block2_option o) (omega arith) up (ordered_block2 11 o (omega arith))

-- options whose bytes are few are short, and so are numbers
abbrev AreShort : List CoapOption → Type 0
AreShort os = list_all is_short os ≡ true

short_join : (os more_options : List CoapOption) → AreShort os → AreShort more_options → AreShort (os ++ more_options)
short_join [] ms h k = k
short_join (o ∷ os) ms h k = let both = and_parts (is_short o) (list_all is_short os) h in and_from (is_short o)
    (list_all is_short (os ++ ms)) both.0 (short_join os ms both.1 k)

number_short : (n v : ℕ) → AreShort (option n (uint v) ∷ [])
number_short n v = and_from _ _ (le-leb (length (uint v)) 65804 (uint_short v)) refl

short_block2 : (o : Option Asked) → AreShort (block2_option o)
short_block2 None = refl
short_block2 (Some a) = number_short block2 (block_value (record { num = a.num; more = false; szx = a.szx }))

short_block1 : (u : UploadState) → AreShort (block1_option u)
short_block1 u = by (is_longer u)
  where
    by : (b : Bool) → AreShort (cond b (option block1 (uint (block_value (block_to_send u))) ∷ []) [])
    by true = number_short block1 (block_value (block_to_send u))
    by false = refl

short_block : (t : Transfer) → AreShort (block_option t)
short_block (Fetches f) = short_block2 f.asked
short_block (Uploads u) = short_block1 u
short_block Single = refl

short_unless_long : (n : ℕ) (os : List CoapOption) → are_long n os ≡ false → AreShort os
short_unless_long n os h = short_front os (option n (255 ∷ 255 ∷ 255 ∷ []) ∷ []) 0 (not_more _ h)

spelled : (m : Method) (asked : Option (List ℕ)) (os : List CoapOption) (payload token : List ℕ) → Ordered 0 os
    → AreShort os → length token ≤ 8
    → IsSpelled (content_of token (record { code = (method_code m).0; token = asked; options = os; payload = payload }))
spelled m asked os payload token ordered short few kind id small =
    let code = code_of m in
    record {
      code = code.0;
      id = small;
      token = few;
      option_bytes = options_bytes 0 os;
      options = options_spelled os 0 (ordered.order 0 (omega arith)) ordered.numbers short;
      parts = refl;
      empty = λ none. (let some = code.1 in absurd (omega (arith, none, some)));
    }

-- The longest options of a call, and those of an observation's path, are few; what is made of an observation has its
-- path.

abbrev pub IsShortPath : List (List ℕ) → Type 0
IsShortPath path = are_long block2 (path_options path) ≡ false

abbrev pub IsShortOp : Operation → Type 0
IsShortOp (Calling number r t) = are_long (block_option_number r.method) (options_of r) ≡ false
IsShortOp (Registering number path) = IsShortPath path
IsShortOp _ = Unit {0}

abbrev pub AreShortPaths : List Observation → Type 0
AreShortPaths os = AllLive (λ number path token. IsShortPath path) os

short_nothing : AreShort (path_options [])
short_nothing = refl

path_of : (k : ℕ) (os : List Observation) → AreShortPaths os → AreShort (path_options (observed_path k os))
path_of k [] h = short_nothing
path_of k (o ∷ os) h = by (o.number == k) (path_of k os h.1)
  where
    by : (b : Bool) → AreShort (path_options (observed_path k os))
        → AreShort (path_options (elim (cond b (Some o) (observation_of k os)) [ None ↦ [] | Some p ↦ p.path ]))
    by true ih = short_unless_long block2 (path_options o.path) h.0
    by false ih = ih

pub request_spelled : (os : List Observation) (op : Operation) (token : List ℕ) → IsShortOp op → AreShortPaths os
    → length token ≤ 8 → IsSpelled (content_of token (message_of os op))
request_spelled os (Calling k r t) token short paths few =
    spelled r.method None (options_of r ++ block_option t) (payload_of t) token
    (ordered_call r (block_option t) (ordered_block t))
    (short_join (options_of r) (block_option t) (short_unless_long (block_option_number r.method) (options_of r) short)
    (short_block t)) few
request_spelled os (Registering k path) token short paths few =
    spelled Get None (option observe (uint 0) ∷ path_options path) [] token
    (ordered_cons 0 6 (uint 0) (path_options path) (omega arith) (omega arith)
    (subst (Ordered 6) (append-nil (path_options path)) (ordered_path 6 path None (omega arith))))
    (short_join (option observe (uint 0) ∷ []) (path_options path) (number_short observe 0)
    (short_unless_long block2 (path_options path) short)) few
request_spelled os (Fetching k) token short paths few =
    spelled Get None (path_options (observed_path k os) ++ block2_option (fetch_of k os)) [] token
    (ordered_path 0 (observed_path k os) (fetch_of k os) (omega arith))
    (short_join (path_options (observed_path k os)) (block2_option (fetch_of k os)) (path_of k os paths)
    (short_block2 (fetch_of k os))) few
request_spelled os (Cancelling k) token short paths few =
    let path : List (List ℕ) = observed_path k os in
    spelled Get (token_of k os) (option observe (uint 1) ∷ path_options path) [] token
    (ordered_cons 0 6 (uint 1) (path_options path) (omega arith) (omega arith)
    (subst (Ordered 6) (append-nil (path_options path)) (ordered_path 6 path None (omega arith))))
    (short_join (option observe (uint 1) ∷ []) (path_options path) (number_short observe 1) (path_of k os paths)) few
request_spelled os Dropped token short paths few = spelled Get None [] [] token (ordered_nil 0) refl few
