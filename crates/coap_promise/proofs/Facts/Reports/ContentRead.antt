-- What a client reads from a 2.05 is what the server shows in it.
use Rattle.std.proofs.Common.{◌≡◌, ◌<◌, ◌≤◌, ℕ, ◌/◌, ◌+◌, ◌^◌, ◌==◌, nat_lt, Bool, true, false, ◌&&◌, ◌||◌, Option}
use Rattle.std.proofs.Common.{Some, None, is_some, List, length, refl, ap, sym, subst, ◌∙◌, cond, arith}
use Rattle.std.specs.Prelude.{IfSome}
use Rattle.std.specs.Option.{option_map}
use Rattle.std.proofs.Math.Nat.{div-le_of_le-mul}
use Rattle.std.proofs.lemmas.Bool.{le-leb}
use Rattle.std.proofs.lemmas.Nat.{pow_below}
use Rattle.coap_types.specs.BlockValue.{block_by, block_in, block_value}
use Rattle.coap_types.specs.OptionValues.{value_of}
use Rattle.coap_types.specs.Piece.{size_of, Piece}
use Rattle.coap_types.specs.Recognised.{lacks_critical, recognised}
use Rattle.coap_types.specs.Uint.{uint, number_of}
use Rattle.coap_types.specs.declared.block.Block.{Block}
use Rattle.coap_types.specs.declared.direction.Direction.TheVariants.{Response}
use Rattle.coap_types.specs.declared.message.TheConstants.Code as codes
use Rattle.coap_types.specs.declared.option_number.TheConstants.{ETAG as etag, OBSERVE as observe, BLOCK2 as block2}
use Rattle.coap_types.proofs.Facts.Blocks.{block_reads_back}
use Rattle.coap_types.proofs.Facts.Uints.{few_bytes, uint_spells}
use Rattle.coap_codec.specs.Message.{Message}
use Rattle.coap_observe.specs.Versions.{sequence_number}
use Rattle.coap_resource.specs.Content.{Held}
use Rattle.coap_resource.specs.RequestOptions.{tag_of, format_of}
use Rattle.coap_resource.specs.ResponseOptions.{block_number}
use Rattle.coap_resource.specs.ServedLaw.{IsPart}
use Rattle.coap_resource.specs.Serves.{bare, content_reply, block2_of}
use Rattle.coap_client.specs.Responses.{content, said, tag_in, format_in, is_notification, sequence_in, block_at}
use Rattle.coap_client_laws.specs.Follows.Unchanged.{SaysBlock, SaysReply}
use Rattle.coap_server.specs.Observers.{sequence_if}
use Rattle.coap_server.specs.Responses.{response_with}
use Rattle.coap_promise.proofs.Reports.ResponseRead.{written, all_read, sequence_read, format_read, block_read}
use Rattle.coap_promise.proofs.Reports.ResponseRead.{same_block}
use Rattle.coap_promise.proofs.Reports.MoreBit.{bit_small}

-- the payload is a part of the body: all of it without Block2, else the piece that Block2 says
pub record IsPartOf (body : List ℕ) (m : Message) : Type 0 where
  pub alone : value_of block2 (said m) ≡ None → m.payload ≡ body
  pub piece : (b : Block) → block_at block2 m ≡ Some b → Piece body b.num b.more b.szx m.payload

-- the message shows what is held
pub record IsShown (held : Held) (m : Message) : Type 0 where
  pub tag : tag_in m ≡ Some (tag_of held.version)
  pub format : format_in m ≡ held.format
  pub sequence : is_notification m ≡ true → sequence_in m ≡ sequence_number held.version
  pub part : IsPartOf held.body m

part_by : (m : Message) (body part : List ℕ) (o : Option Block) → IfSome o (λ b. b.szx ≤ 6)
    → value_of block2 (said m) ≡ option_map uint (block_number o) → m.payload ≡ part → IsPart o body part
    → IsPartOf body m
part_by m body part None low is payload h =
    record {
      alone = λ none. payload ∙ h;
      piece = λ b at. (let k : None ≡ Some b = sym (ap (λ v. elim v [ None ↦ None | Some value ↦ block_in value ]) is)
          ∙ at in absurd (cc k));
    }
part_by m body part (Some x) low is payload h =
    record {
      alone = λ none. absurd (cc (none, is));
      piece = λ b at. (
          let k : block_in (uint (block_value x)) ≡ Some b =
          sym (ap (λ v. elim v [ None ↦ None | Some value ↦ block_in value ]) is) ∙ at in
          let same : x ≡ b = same_block x b low k in
          subst (λ (z : Block). Piece body z.num z.more z.szx m.payload) same
          (subst (λ p. Piece body x.num x.more x.szx p) (sym payload) h));
    }

low_sequence : (v : ℕ) → sequence_number v < 16777216
low_sequence v = omega arith

low_if : (b : Bool) (held : Held) → IfSome (sequence_if b (Some held)) (λ n. n < 16777216)
low_if true held = low_sequence held.version
low_if false held = tt

low_block : (by : Bool) (offset szx len : ℕ) → szx ≤ 6 → IfSome (block2_of by offset szx len) (λ b. b.szx ≤ 6)
low_block by offset szx len small = go (by || nat_lt (size_of szx) len)
  where
    go : (c : Bool) → IfSome {T = Block} (cond c
        (Some (record { num = offset / size_of szx; more = nat_lt (offset + size_of szx) len; szx = szx })) None)
        (λ b. b.szx ≤ 6)
    go true = small
    go false = tt

-- the sequence number, where there is one
numbered : (m : Message) (b : Bool) (held : Held)
    → value_of observe (said m) ≡ option_map uint (sequence_if b (Some held)) → is_notification m ≡ true
    → sequence_in m ≡ sequence_number held.version
numbered m true held is h =
    let n : ℕ = sequence_number held.version in
    let low = low_sequence held.version in
    ap (λ v. elim v [ None ↦ 0 | Some value ↦ number_of value ]) is ∙ (uint_spells n (omega (arith, low))).spelt
numbered m false held is h = by (m.code == content) (ap (λ v. (m.code == content) && is_some v) (sym is) ∙ h)
  where
    by : (c : Bool) → (c && false) ≡ true → sequence_in m ≡ sequence_number held.version
    by true k = absurd (cc k)
    by false k = absurd (cc k)

-- a 2.05 of the store
pub content_read :
    (m : Message) (held : Held) (by : Bool) (offset szx : ℕ) (b : Bool) (more : Option ℕ)
    → m.options ≡ (response_with (content_reply held by offset szx) (sequence_if b (Some held)) more).options
    → m.payload ≡ (content_reply held by offset szx).part
    → IsPart (content_reply held by offset szx).block2 held.body (content_reply held by offset szx).part → szx ≤ 6
    → IfSome held.format (λ f. f < 65536) → lacks_critical Response m.options ≡ false → IsShown held m
content_read m held by offset szx b more options payload part small format none =
    let block : Option ℕ = block_number (content_reply held by offset szx).block2 in
    let tag : List ℕ = tag_of held.version in
    let all : said m ≡ written (Some tag) (sequence_if b (Some held)) held.format block more =
    ap (λ os. recognised Response os) options ∙ all_read tag (sequence_if b (Some held)) held.format block more refl
    (low_if b held) format (ap (lacks_critical Response) (sym options) ∙ none)
    in
    record {
      tag = ap (value_of etag) all;
      format = ap format_of all ∙ format_read tag (sequence_if b (Some held)) held.format block more format;
      sequence = numbered m b held (ap (value_of observe) all
          ∙ sequence_read tag (sequence_if b (Some held)) held.format block more);
      part =
          part_by m held.body (content_reply held by offset szx).part (content_reply held by offset szx).block2
          (low_block by offset szx (length held.body) small)
          (ap (value_of block2) all ∙ block_read tag (sequence_if b (Some held)) held.format block more) payload part;
    }

-- what it says is the reply: its Block2, where that can be written, its ETag, its format and its part

abbrev IsSmallBlock : Option Block → Type 0
IsSmallBlock o = IfSome o (λ b. (b.num ≤ 1048575) × (b.szx ≤ 6))

small_value : (num szx : ℕ) (more : Bool) → num ≤ 1048575 → szx ≤ 6
    → block_value (record { num = num; more = more; szx = szx }) < 16777216
small_value num szx more n s = let b = bit_small more in omega (arith, n, s, b)

pub block_back : (b : Block) → b.num ≤ 1048575 → b.szx ≤ 6 → block_in (uint (block_value b)) ≡ Some b
block_back b num szx =
    let n : ℕ = block_value b in
    let low = small_value b.num b.szx b.more num szx in
    let spelt = uint_spells n (omega (arith, low)) in
    ap (λ c. cond c (block_by (number_of (uint n))) None)
    (le-leb (length (uint n)) 3 (few_bytes (uint n) n 3 spelt low))
    ∙ (ap block_by spelt.spelt ∙ block_reads_back b num szx)

says_block : (m : Message) (o : Option Block) → IsSmallBlock o
    → value_of block2 (said m) ≡ option_map uint (block_number o) → SaysBlock o m
says_block m None small is = is
says_block m (Some x) small is = ap (λ v. elim v [ None ↦ None | Some value ↦ block_in value ]) is
    ∙ block_back x small.0 small.1

few_blocks : (offset size : ℕ) → offset ≤ 1048576 → 2 ≤ size → offset / size ≤ 1048575
few_blocks offset size h k = div-le_of_le-mul size (omega (arith, h, k))

pub size_least : (szx : ℕ) → 2 ≤ size_of szx
size_least szx = let h : 1 < 2 ^ (szx + 4) = pow_below 0 (szx + 4) (omega arith) in omega (arith, h)

small_block : (by : Bool) (offset szx len : ℕ) → szx ≤ 6 → offset ≤ 1048576 → IsSmallBlock (block2_of by offset szx len)
small_block by offset szx len small low = go (by || nat_lt (size_of szx) len)
  where
    go : (c : Bool) → IsSmallBlock (cond c
        (Some (record { num = offset / size_of szx; more = nat_lt (offset + size_of szx) len; szx = szx })) None)
    go true = (few_blocks offset (size_of szx) low (size_least szx), small)
    go false = tt

pub content_says :
    (m : Message) (held : Held) (by : Bool) (offset szx : ℕ) (b : Bool) (more : Option ℕ)
    → m.code ≡ content
    → m.options
    ≡ (response_with (content_reply held by offset szx) (sequence_if b (Some held)) more).options
    → m.payload ≡ (content_reply held by offset szx).part → szx ≤ 6 → offset ≤ 1048576
    → IfSome held.format (λ f. f < 65536) → lacks_critical Response m.options ≡ false
    → SaysReply (content_reply held by offset szx) m
content_says m held by offset szx b more code options payload small low format none =
    let block : Option ℕ = block_number (content_reply held by offset szx).block2 in
    let tag : List ℕ = tag_of held.version in
    let all : said m ≡ written (Some tag) (sequence_if b (Some held)) held.format block more =
    ap (λ os. recognised Response os) options ∙ all_read tag (sequence_if b (Some held)) held.format block more refl
    (low_if b held) format (ap (lacks_critical Response) (sym options) ∙ none)
    in
    record {
      code = code;
      block = says_block m (content_reply held by offset szx).block2 (small_block by offset szx (length held.body) small
          low)
          (ap (value_of block2) all ∙ block_read tag (sequence_if b (Some held)) held.format block more);
      tag = ap (value_of etag) all;
      format = ap format_of all ∙ format_read tag (sequence_if b (Some held)) held.format block more format;
      part = payload;
    }

-- a notification of what is held
pub record IsNoticeOf (held : Held) (m : Message) : Type 0 where
  pub notification : is_notification m ≡ true
  pub sequence : sequence_in m ≡ sequence_number held.version
  pub tag : tag_in m ≡ Some (tag_of held.version)

pub notice_read : (m : Message) (held : Held) (by : Bool) (offset szx : ℕ) → m.code ≡ content
    → m.options ≡ (response_with (content_reply held by offset szx) (sequence_if true (Some held)) None).options
    → IfSome held.format (λ f. f < 65536) → lacks_critical Response m.options ≡ false → IsNoticeOf held m
notice_read m held by offset szx code options format none =
    let block : Option ℕ = block_number (content_reply held by offset szx).block2 in
    let tag : List ℕ = tag_of held.version in
    let all : said m ≡ written (Some tag) (sequence_if true (Some held)) held.format block None =
    ap (recognised Response) options ∙ all_read tag (sequence_if true (Some held)) held.format block None refl
    (low_if true held) format (ap (lacks_critical Response) (sym options) ∙ none)
    in
    let observes : value_of observe (said m) ≡ Some (uint (sequence_number held.version)) =
    ap (value_of observe) all ∙ sequence_read tag (sequence_if true (Some held)) held.format block None in
    let note : is_notification m ≡ true =
    ap (λ c. (c == content) && is_some (value_of observe (said m))) code
    ∙ ap (λ v. (content == content) && is_some v) observes in
    record {
      notification = note;
      sequence = numbered m true held observes note;
      tag = ap (value_of etag) all;
    }

-- the tag of a 2.03
pub valid_read :
    (m : Message) (held : Held) (offset : ℕ) (b : Bool) (more : Option ℕ)
    → m.options ≡ (response_with (record (bare codes.VALID.0 offset) { tag = Some (tag_of held.version) })
    (sequence_if b (Some held)) more).options → lacks_critical Response m.options ≡ false
    → tag_in m ≡ Some (tag_of held.version)
valid_read m held offset b more options none =
    let tag : List ℕ = tag_of held.version in
    let all : said m ≡ written (Some tag) (sequence_if b (Some held)) None None more =
    ap (recognised Response) options ∙ all_read tag (sequence_if b (Some held)) None None more refl (low_if b held) tt
    (ap (lacks_critical Response) (sym options) ∙ none)
    in
    ap (value_of etag) all
