-- The requests of a client fit a message (RFC 7252, section 4.6).
use Rattle.std.proofs.Common.{◌≡◌, ◌≤◌, ◌<◌, ◌⊎◌, inl, inr, ℕ, suc, ◌+◌, ◌-◌, Bool, true, false, cond, Option, Some}
use Rattle.std.proofs.Common.{None, List, [], ◌∷◌, ◌++◌, length, map, sym, ap, ◌∙◌, subst, refl, arith}
use Rattle.std.specs.Prelude.{◌^◌, ◌*◌, min, drop, ◌/◌, ◌%◌, ◌==◌, nat_lt, All, IfSome}
use Rattle.std.proofs.lemmas.List.{length-append, length-take, append-nil, append_assoc}
use Rattle.std.proofs.Math.Dec.{leb}
use Rattle.std.proofs.lemmas.Bool.Decides.{leb_tells}
use Rattle.std.proofs.lemmas.List.Elements.{All-head, All-nil, All-tail}
use Rattle.byteorder.specs.Endian.{big_bytes}
use Rattle.coap_types.specs.CoapOption.{CoapOption, option}
use Rattle.coap_types.specs.EntityTag.{IsTag}
use Rattle.coap_types.specs.MethodCode.{method_code}
use Rattle.coap_types.specs.OptionValues.{option_with, uint_option}
use Rattle.coap_types.specs.Piece.{Piece}
use Rattle.coap_types.specs.RequestRange.{IsInRange}
use Rattle.coap_types.specs.Uint.{uint}
use Rattle.coap_types.specs.declared.request.Method.{Method}
use Rattle.coap_types.specs.declared.request.Method.TheVariants.{Get, Post, Put, Delete}
use Rattle.coap_types.specs.declared.request.Request as Q
use Rattle.coap_types.specs.declared.option_number.TheConstants.{BLOCK2 as block2, OBSERVE as observe}
use Rattle.coap_codec.specs.Options.{Options}
use Rattle.coap_codec.proofs.Facts.Spelling.{options_spelled}
use Rattle.coap_codec.specs.Spelling.{more, option_bytes, options_bytes}
use Rattle.coap_exchange.specs.Machine.AskerShown.{IsAskable}
use Rattle.coap_exchange.proofs.Facts.Requests.{askable_when_short_exactly}
use Rattle.coap_client.specs.Trace.{Request}
use Rattle.coap_client.specs.Own.{Transfer, Fetches, Uploads, Single, Observation, Calling}
use Rattle.coap_client.specs.Queue.{block_option_number}
use Rattle.coap_client.specs.Requests.{after_path, before_path, block_option, flag_option, get, message_of, options_of}
use Rattle.coap_client.specs.Requests.{path_options, payload_of}
use Rattle.coap_client.specs.Object.CallShown.{FitsMethod, IsFew, IsGood, IsShortPath, block_of, is_long, shown_request}
use Rattle.coap_client.proofs.Calls.GoodOptions.{AreShort, good_nil, good_run, good_with, good_weaken, longer_with}
use Rattle.coap_client.proofs.Calls.GoodOptions.{longest_with}

differ : (b : Bool) → b ≡ true → b ≡ false → ⊥
differ true h k = cc k
differ false h k = cc h

pub not_lt : (a b : ℕ) → nat_lt a b ≡ false → b ≤ a
not_lt a b h = by (leb_tells (suc a) b)
  where
    by : ((leb (suc a) b ≡ true) × (suc a ≤ b)) ⊎ ((leb (suc a) b ≡ false) × (b < suc a)) → b ≤ a
    by (inl k) = absurd (differ (leb (suc a) b) k.0 h)
    by (inr k) = (let l = k.1 in omega (arith, l))

few_extended : (n : ℕ) → length (more n) ≤ 2
few_extended n = by (nat_lt n 13) (nat_lt n 269)
  where
    by : (b c : Bool) → length (cond b [] (cond c ((n - 13) ∷ []) (big_bytes 2 (n - 269)))) ≤ 2
    by true c = omega arith
    by false true = omega arith
    by false false = omega arith

-- one option more
tail_length : (base n : ℕ) (v : List ℕ) (os : List CoapOption) → length v ≤ 3
    → length (options_bytes base (os ++ option n v ∷ [])) ≤ length (options_bytes base os) + 8
unfolding options_bytes option_bytes
tail_length base n v [] few =
    let a = length-append (option_bytes base (option n v)) [] in
    let b = length-append (more (n - base)) (more (length v) ++ v) in
    let c = length-append (more (length v)) v in
    let d = few_extended (n - base) in
    let e = few_extended (length v) in
    omega (arith, a, b, c, d, e, few)
tail_length base n v (o ∷ os) few =
    let a = length-append (option_bytes base o) (options_bytes o.number (os ++ option n v ∷ [])) in
    let b = length-append (option_bytes base o) (options_bytes o.number os) in
    let h = tail_length o.number n v os few in
    omega (arith, a, b, h)

with_length : (base n : ℕ) (o : Option (List ℕ)) (os : List CoapOption) → IsFew o
    → length (options_bytes base (os ++ option_with n o)) ≤ length (options_bytes base os) + 8
with_length base n None os few = let e = ap (λ os. length (options_bytes base os)) (append-nil os) in omega (arith, e)
with_length base n (Some v) os few = tail_length base n v os few

-- .. in front
base_length : (base : ℕ) (os : List CoapOption) → length (options_bytes base os) ≤ length (options_bytes 0 os) + 2
unfolding options_bytes option_bytes
base_length base [] = omega arith
base_length base (o ∷ os) =
    let a = length-append (option_bytes base o) (options_bytes o.number os) in
    let b = length-append (option_bytes 0 o) (options_bytes o.number os) in
    let c = length-append (more (o.number - base)) (more (length o.value) ++ o.value) in
    let d = length-append (more (o.number - 0)) (more (length o.value) ++ o.value) in
    let e = few_extended (o.number - base) in
    omega (arith, a, b, c, d, e)

front_length : (base n : ℕ) (o : Option (List ℕ)) (os : List CoapOption) → IsFew o
    → length (options_bytes base (option_with n o ++ os)) ≤ length (options_bytes 0 os) + 10
unfolding options_bytes option_bytes
front_length base n None os few = let a = base_length base os in omega (arith, a)
front_length base n (Some v) os few =
    let a = length-append (option_bytes base (option n v)) (options_bytes n os) in
    let b = length-append (more (n - base)) (more (length v) ++ v) in
    let c = length-append (more (length v)) v in
    let d = few_extended (n - base) in
    let e = few_extended (length v) in
    let f = base_length n os in
    omega (arith, a, b, c, d, e, f, few)

-- the parts of a call's options

tags_short : (tags : List (List ℕ)) → All IsTag tags → AreShort tags
tags_short [] h = tt
tags_short (t ∷ ts) h = (let a = (All-head IsTag t ts h).few in omega (arith, a), tags_short ts (All-tail IsTag t ts h))

segments_short : (path : List (List ℕ)) → All (λ v. length v ≤ 255) path → AreShort path
segments_short [] h = tt
segments_short (s ∷ ss) h = (
  let a = All-head (λ (v : List ℕ). length v ≤ 255) s ss h in
      omega (arith, a),
  segments_short ss (All-tail (λ (v : List ℕ). length v ≤ 255) s ss h),
)

good_flag : (k n : ℕ) (b : Bool) (os : List CoapOption) → n < 65536 → k ≤ n → IsGood n os
    → IsGood k (flag_option n b ++ os)
good_flag k n true os small up g = good_with k n (Some []) os small (omega arith) up g
good_flag k n false os small up g = good_weaken k n os up g

-- at most three bytes, or four, are short
few_short : (o : Option (List ℕ)) → IsFew o → IfSome o (λ v. length v ≤ 65804)
few_short None few = tt
few_short (Some v) few = omega (arith, few)

pub uint_short : (v : ℕ) → length (uint v) ≤ 65804
uint_short v = by (v == 0) (nat_lt v 256) (nat_lt v 65536) (nat_lt v 16777216)
  where
    by : (a b c d : Bool)
        → length (cond a [] (cond b (v ∷ []) (cond c (v / 256 ∷ v % 256 ∷ [])
        (cond d (v / 65536 ∷ v / 256 % 256 ∷ v % 256 ∷ [])
        (v / 16777216 ∷ v / 65536 % 256 ∷ v / 256 % 256 ∷ v % 256 ∷ []))))) ≤ 65804
    by true b c d = omega arith
    by false true c d = omega arith
    by false false true d = omega arith
    by false false false true = omega arith
    by false false false false = omega arith

good_uint : (k n : ℕ) (o : Option ℕ) (os : List CoapOption) → n < 65536 → k ≤ n → IsGood n os
    → IsGood k (uint_option n o ++ os)
good_uint k n None os small up g = good_weaken k n os up g
good_uint k n (Some v) os small up g = good_with k n (Some (uint v)) os small (uint_short v) up g

good_after : (method : Method) (r : Request) (os : List CoapOption) → IsGood 17 os
    → IsGood 11 (after_path method r ++ os)
good_after Get r os g = good_uint 11 17 r.accept os (omega arith) (omega arith) g
good_after Delete r os g = good_weaken 11 17 os (omega arith) g
good_after _ r os g = good_uint 11 12 r.format os (omega arith) (omega arith) (good_weaken 12 17 os (omega arith) g)

good_conditions : (r : Request) (os : List CoapOption) → All IsTag r.if_match → IsGood 5 os
    → IsGood 0 ((map (option 1) r.if_match ++ flag_option 5 r.if_none_match) ++ os)
good_conditions r os tags g =
    subst (IsGood 0) (sym (append_assoc (map (option 1) r.if_match) (flag_option 5 r.if_none_match) os))
    (good_run 0 1 r.if_match (flag_option 5 r.if_none_match ++ os) (omega arith) (tags_short r.if_match tags)
    (omega arith) (good_flag 1 5 r.if_none_match os (omega arith) (omega arith) g))

good_before : (method : Method) (r : Request) (os : List CoapOption) → All IsTag r.etags → All IsTag r.if_match
    → IsGood 5 os → IsGood 0 (before_path method r ++ os)
good_before Get r os e i g = good_run 0 4 r.etags os (omega arith) (tags_short r.etags e) (omega arith)
    (good_weaken 4 5 os (omega arith) g)
good_before _ r os e i g = good_conditions r os i g

pub record Ranges (r : Request) : Type 0 where
  pub path : All (λ v. length v ≤ 255) r.path
  pub etags : All IsTag r.etags
  pub if_match : All IsTag r.if_match

pub ranges_of : {A : Type 0} (r : Q.Request A) → IsInRange r → Ranges (shown_request r)
ranges_of r h = record { path = h.path.bounds.short; etags = h.etags.each; if_match = h.if_match.each }

pub good_call : (r : Request) (os : List CoapOption) → Ranges r → IsGood 17 os → IsGood 0 (options_of r ++ os)
good_call r os h g =
    let after = after_path r.method r in
    let path = path_options r.path in
    let before = before_path r.method r in
    let behind : IsGood 5 (path ++ (after ++ os)) =
    good_run 5 11 r.path (after ++ os) (omega arith) (segments_short r.path h.path) (omega arith)
    (good_after r.method r os g) in
    subst (IsGood 0) (sym (append_assoc before (path ++ after) os ∙ ap (λ l. before ++ l) (append_assoc path after os)))
    (good_before r.method r (path ++ (after ++ os)) h.etags h.if_match behind)

pub good_get : (o b : Option (List ℕ)) (path : List (List ℕ)) → IsFew o → IsFew b → All (λ v. length v ≤ 255) path
    → IsGood 0 (option_with observe o ++ (path_options path ++ option_with block2 b))
good_get o b path few more_few short =
    good_with 0 6 o (path_options path ++ option_with block2 b) (omega arith) (few_short o few) (omega arith)
    (good_run 6 11 path (option_with block2 b) (omega arith) (segments_short path short) (omega arith)
    (subst (IsGood 11) (append-nil (option_with block2 b))
    (good_with 11 23 b [] (omega arith) (few_short b more_few) (omega arith) (good_nil 23))))

-- .. and what is asked

some_code : (m : Method) → 0 < (method_code m).0
some_code Get = omega arith
some_code _ = omega arith

small_code : (m : Method) → (method_code m).0 < 256
small_code Get = omega arith
small_code _ = omega arith

askable_by : (m : Method) (token : Option (List ℕ)) (os : List CoapOption) (p : List ℕ) → IsGood 0 os
    → 4 + (8 + (length (options_bytes 0 os) + (1 + length p))) ≤ 1152
    → IsAskable (record { code = (method_code m).0; token = token; options = os; payload = p })
askable_by m token os p g fits =
    askable_when_short_exactly (record { code = (method_code m).0; token = token; options = os; payload = p })
    (record {
      parts = record {
        some = some_code m;
        code = small_code m;
        order = g.order 0 (omega arith);
        numbers =
            g.numbers;
        short = g.short;
      };
      fits = fits;
    })

pub get_askable : (token o b : Option (List ℕ)) (path : List (List ℕ)) → IsFew o → IsShortPath path → IsFew b
    → IsAskable (get token (option_with observe o ++ (path_options path ++ option_with block2 b)))
get_askable token o b path few short more_few =
    let os = option_with observe o ++ (path_options path ++ option_with block2 b) in
    let a = not_lt 115 _ short.short in
    let c = longer_with 0 (path_options path) (option block2 (255 ∷ 255 ∷ 255 ∷ []) ∷ []) in
    let d = with_length 0 block2 b (path_options path) more_few in
    let e = front_length 0 observe o (path_options path ++ option_with block2 b) few in
    askable_by Get token os [] (good_get o b path few more_few short.bounds.short) (omega (arith, a, c, d, e))

upload_method : (m : Method) (t : Transfer) → FitsMethod m t
    → (payload_of t ≡ []) ⊎ (block_of t ≡ block_option_number m)
upload_method Get (Uploads u) h = absurd h
upload_method _ (Uploads u) h = inr refl
upload_method m _ h = inl refl

fits_with : (n : ℕ) (o : Option (List ℕ)) (os : List CoapOption) → IsFew o
    → length (options_bytes 0 (os ++ option_with n o))
    ≤ length (options_bytes 0 (os ++ option n (255 ∷ 255 ∷ 255 ∷ []) ∷ []))
fits_with n None os few = subst (λ l. length (options_bytes 0 l)
    ≤ length (options_bytes 0 (os ++ option n (255 ∷ 255 ∷ 255 ∷ []) ∷ []))) (sym (append-nil os))
    (longer_with 0 os (option n (255 ∷ 255 ∷ 255 ∷ []) ∷ []))
fits_with n (Some v) os few = longest_with 0 n v os few

block_up : (t : Transfer) → (17 ≤ block_of t) × (block_of t < 65536)
block_up (Fetches f) = (omega arith, omega arith)
block_up _ = (omega arith, omega arith)

pub call_askable : (os : List Observation) (number : ℕ) (r : Request) (t : Transfer) (n : ℕ) (o : Option (List ℕ))
    → Ranges r → is_long r ≡ false → FitsMethod r.method t
    → n ≡ block_of t → option_with n o ≡ block_option t → IsFew o → length (payload_of t) ≤ 1024
    → IsAskable (message_of os (Calling number r t))
call_askable os number r t n o ranges short fits n_is block few small =
    let up = block_up t in
    let tail : IsGood 17 (option_with n o) = subst (IsGood 17) (append-nil (option_with n o))
    (good_with 17 n o [] (subst (λ k. k < 65536) (sym n_is) up.1) (few_short o few)
    (subst (λ k. 17 ≤ k) (sym n_is) up.0) (good_nil n)) in
    let most = not_lt 115 _ short in
    subst (λ l. IsAskable (record {
      code = (method_code r.method).0;
      token = None;
      options =
          options_of r ++ l;
      payload = payload_of t;
    })) block
    (askable_by r.method None (options_of r ++ option_with n o) (payload_of t)
    (good_call r (option_with n o) ranges tail) (by most (upload_method r.method t fits)))
  where
    by : length (options_bytes 0 (options_of r
        ++ option (block_option_number r.method) (255 ∷ 255 ∷ 255 ∷ []) ∷ [])) ≤ 115
        → (payload_of t ≡ []) ⊎ (block_of t ≡ block_option_number r.method)
        → 4 + (8 + (length (options_bytes 0 (options_of r ++ option_with n o)) + (1 + length (payload_of t)))) ≤ 1152
    by most (inl none) =
        let a = longer_with 0 (options_of r) (option (block_option_number r.method) (255 ∷ 255 ∷ 255 ∷ []) ∷ []) in
        let b = with_length 0 n o (options_of r) few in
        let c = ap (λ (p : List ℕ). length p) none in
        omega (arith, most, a, b, c)
    by most (inr same) =
        let a = fits_with n o (options_of r) few in
        let b = ap (λ k. length (options_bytes 0 (options_of r ++ option k (255 ∷ 255 ∷ 255 ∷ []) ∷ [])))
        (n_is ∙ same) in
        omega (arith, most, a, b, small)

-- what can't be counted is too long
pub uncounted : (os : List CoapOption) → IsGood 0 os
    → ((bytes : List ℕ) → Options 0 bytes os → length bytes < 2 ^ 64 → ⊥)
    → true ≡ nat_lt 115 (length (options_bytes 0 os))
uncounted os g none = by (nat_lt 115 (length (options_bytes 0 os))) refl
  where
    by : (b : Bool) → nat_lt 115 (length (options_bytes 0 os)) ≡ b → true ≡ b
    by true h = refl
    by false h = absurd (none (options_bytes 0 os) (options_spelled os 0 (g.order 0 (omega arith)) g.numbers g.short)
        (let l = not_lt 115 (length (options_bytes 0 os)) h in omega (arith, l)))

-- a block to send has at most 1,024 bytes
pub piece_short : (body : List ℕ) (num szx : ℕ) (more : Bool) (part : List ℕ) → Piece body num more szx part
    → 2 ^ (szx + 4) ≤ 1024 → length part ≤ 1024
piece_short body num szx more part p h =
    let a = ap (λ (l : List ℕ). length l) p.bytes in
    let b = length-take (2 ^ (szx + 4)) (drop (num * 2 ^ (szx + 4)) body) in
    let c = min_le (2 ^ (szx + 4)) (length (drop (num * 2 ^ (szx + 4)) body)) in
    omega (arith, a, b, c, h)
  where
    min_le : (a b : ℕ) → min a b ≤ a
    min_le a b = omega arith

-- no segment
pub empty_short : IsShortPath []
unfolding options_bytes option_bytes
empty_short = record {
  bounds = record { few = omega arith; short = All-nil (λ (v : List ℕ). length v ≤ 255) };
  short =
      refl;
}

pub good_tail : (n : ℕ) (o : Option (List ℕ)) → 17 ≤ n → n < 65536 → IsFew o → IsGood 17 (option_with n o)
good_tail n o up small few = subst (IsGood 17) (append-nil (option_with n o))
    (good_with 17 n o [] small (few_short o few) up (good_nil n))
