-- A value that an argument has is no value that is wrong in it.
use Rattle.std.proofs.Common.{◌≡◌, ◌∙◌, ◌⊎◌, ◌≤◌, ◌<◌, inl, inr, ap, sym, subst, ℕ, List, [], ◌∷◌, Option, Some, None}
use Rattle.std.proofs.Common.{unwrap_or, codes, Ok, length, slice_get, slice_index_or, suc, zero, arith}
use Rattle.clap.specs.Words.{Row, Text, first_of}
use Rattle.coap_types.specs.Path.{HoldsAtMost}
use Rattle.coap_types.specs.declared.path.PathRefusal.{PathRefusal}
use Rattle.coap_types.specs.declared.path.TheConstants.{MAX_SEGMENT_LEN as max_segment_len}
use Rattle.coap_types.specs.declared.path.TheConstants.{MAX_SEGMENTS as max_segments}
use Rattle.hex.specs.Hex.{decode_of}
use Rattle.coap_arguments.proofs.Facts.SaidTexts.{same_length}
use Rattle.coap_arguments.specs.Addresses.{HasAddress, HasHost, HasNoAddress}
use Rattle.coap_arguments.specs.Asking.{HasContent, HasNoContent, HasNoTags, HasOptionalNumber, HasTags, IsTagText}
use Rattle.coap_arguments.specs.Asking.{tags_argument_of}
use Rattle.coap_arguments.specs.Hosts.{IsAddressText, IsHostText}
use Rattle.coap_arguments.specs.Numbers.{SaysNumber, argument_of, least_of, most_of}
use Rattle.coap_arguments.specs.PathText.{IsPathText}
use Rattle.coap_arguments.specs.Serving.{HasNoSetting, HasServeOptions, IsDelay, IsHold, setting_argument_of}
use Rattle.coap_arguments.specs.Sizes.{HasNoSize, HasSize, sizes}
use Rattle.coap_arguments.specs.Texts.{AreTexts, SomeSaysNone, texts_of}
use Rattle.coap_arguments.specs.Values.{HasBytes, HasCount, HasLimit, HasNoBytes, HasNoNumber, HasNoPath, HasNoStore}
use Rattle.coap_arguments.specs.Values.{HasNoWord, HasNumber, HasPath, HasRemembered, HasStore, HasWord, IsChoice}
use Rattle.coap_arguments.specs.Values.{IsValue, store_name}
use Rattle.coap_arguments.specs.declared.hosts.Address.{Address}
use Rattle.coap_arguments.specs.declared.hosts.Host.{Host}
use Rattle.coap_arguments.specs.declared.orders.Content.{Content}
use Rattle.coap_arguments.specs.declared.orders.Content.TheVariants as contents
use Rattle.coap_arguments.specs.declared.orders.ServeOptions.{ServeOptions}
use Rattle.coap_arguments.specs.declared.orders.StoreKind.{StoreKind}
use Rattle.coap_arguments.specs.declared.orders.WordChoice.{WordChoice}
use Rattle.coap_arguments.specs.declared.refusals.AddressRefusal.TheVariants as address
use Rattle.coap_arguments.specs.declared.refusals.NumberRefusal.{NumberRefusal}
use Rattle.coap_arguments.specs.declared.refusals.NumberRefusal.TheVariants.{Count, Limit, Remember}
use Rattle.coap_arguments.specs.declared.refusals.SettingRefusal.{SettingRefusal}
use Rattle.coap_arguments.specs.declared.refusals.SettingRefusal.TheVariants as setting
use Rattle.coap_arguments.specs.declared.refusals.TagsRefusal.{TagsRefusal}

-- an argument has one value
pub value_one : (name : Text) (v : List Row) (a b : Text) → IsValue name v a → IsValue name v b → a ≡ b
value_one name v a b p q = ap (λ (o : Option Text). unwrap_or o a) (sym p ∙ q)

pub bytes_or_not : (v : List Row) (bytes : List ℕ) → HasBytes v bytes → HasNoBytes v → ⊥
bytes_or_not v bytes p q = q.2 bytes (subst (λ (t : Text). decode_of t ≡ Ok bytes)
    (value_one (codes "HEX") v p.0 q.0 p.1 q.1) p.2)

pub path_or_not : (v : List Row) (path : List (List ℕ)) (why : PathRefusal) → HasPath v path
    → HoldsAtMost max_segments max_segment_len path → HasNoPath v why → ⊥
path_or_not v path why p holds q =
    let same = value_one (codes "PATH") v p.0 q.0 p.1 q.1 in
    q.2 path (subst (λ (t : Text). IsPathText t path) same p.2) holds

-- ---- numbers

-- the argument has a number, or it has no value
abbrev pub MayHave : NumberRefusal → List Row → Type 0
MayHave why v = (first_of (argument_of why) v ≡ None) ⊎ ((n : ℕ) × HasNumber why v n)

pub of_count : (v : List Row) (n : ℕ) → HasCount v n → MayHave Count v
of_count v n (inl none) = inl none.0
of_count v n (inr has) = inr (n, has)

pub of_limit : (v : List Row) (n : ℕ) → HasLimit v n → MayHave Limit v
of_limit v n (inl none) = inl none.0
of_limit v n (inr has) = inr (n, has)

pub of_remembered : (v : List Row) (n : ℕ) → HasRemembered v n → MayHave Remember v
of_remembered v n (inl none) = inl none.0
of_remembered v n (inr has) = inr (n, has)

pub of_optional : (v : List Row) (why : NumberRefusal) (o : Option ℕ) → HasOptionalNumber why v o → MayHave why v
of_optional v why None h = inl h
of_optional v why (Some n) h = inr (n, h)

pub number_or_not : (v : List Row) (why : NumberRefusal) → MayHave why v → HasNoNumber why v → ⊥
number_or_not v why (inl none) q =
    let bad : ◌≡◌ {A = Option Text} None (Some q.0) = sym none ∙ q.1 in cc
number_or_not v why (inr has) q =
    let same = value_one (argument_of why) v has.1.0 q.0 has.1.1 q.1 in
    let least : least_of why ≤ has.0 = has.1.2.1 in
    let most : has.0 ≤ most_of why = has.1.2.2 in
    elim (q.2 has.0 (subst (λ (t : Text). SaysNumber why t has.0) same has.1.2.0)) [
      | inl under ↦ absurd (omega (arith, under, least))
      | inr over ↦ absurd (omega (arith, over, most))
    ]

-- ---- other options

pub word_or_not : (v : List Row) (usual choice : WordChoice) → HasWord usual v choice → HasNoWord v → ⊥
word_or_not v usual choice (inl none) q = absurd (cc (sym none.0 ∙ q.1))
word_or_not v usual choice (inr has) q =
    q.2 choice (subst (λ (t : Text). IsChoice t choice) (value_one (codes "word") v has.0 q.0 has.1 q.1) has.2)

pub host_or_not : (v : List Row) (host : Host) → HasHost v host → HasNoAddress address.Host v → ⊥
host_or_not v host (inl none) q = absurd (cc (sym none.0 ∙ q.1))
host_or_not v host (inr has) q =
    q.2 host (subst (λ (t : Text). IsHostText t host) (value_one (codes "host") v has.0 q.0 has.1 q.1) has.2)

pub address_or_not : (v : List Row) (own : Address) → HasAddress v own → HasNoAddress address.Address v → ⊥
address_or_not v own (inl none) q = absurd (cc (sym none.0 ∙ q.1))
address_or_not v own (inr has) q =
    q.2 own (subst (λ (t : Text). IsAddressText t own) (value_one (codes "address") v has.0 q.0 has.1 q.1) has.2)

pub size_or_not : (v : List Row) (szx : ℕ) → HasSize v szx → HasNoSize v → ⊥
size_or_not v szx (inl none) q = absurd (cc (sym none.0 ∙ q.1))
size_or_not v szx (inr has) q =
    q.2 szx (subst (λ (t : Text). slice_get sizes szx ≡ Some t) (value_one (codes "size") v has.0 q.0 has.1 q.1) has.2)

pub store_or_not : (v : List Row) (store : StoreKind) → HasStore v store → HasNoStore v → ⊥
store_or_not v store (inl none) q = absurd (cc (sym none.0 ∙ q.1))
store_or_not v store (inr is) q = q.2 store (value_one (codes "store") v q.0 (store_name store) q.1 is)

pub content_or_not : (word : Text) (v : List Row) (content : Content) → HasContent word v content
    → HasNoContent word v → ⊥
content_or_not word v (contents.Text text) has (inl none) = absurd (cc (sym none.0 ∙ has.0))
content_or_not word v (contents.Text text) has (inr both) = absurd (cc (sym has.1 ∙ both.3))
content_or_not word v (contents.File file) has (inl none) = absurd (cc (sym none.1 ∙ has.1))
content_or_not word v (contents.File file) has (inr both) = absurd (cc (sym has.0 ∙ both.2))

-- ---- options that are given again and again

-- each text says something
module _ {V : Type 0} (Says : Text → V → Type 0) where
  said_at : (texts : List Text) (values : List V) (k : ℕ) (x : Text) → AreTexts Says texts values → k < length texts
      → slice_index_or texts k x ≡ x → (value : V) × Says x value
  said_at [] values k x a lt is = absurd (omega (arith, lt))
  said_at (t ∷ ts) [] k x a lt is = absurd a
  said_at (t ∷ ts) (g ∷ gs) zero x a lt is = (g, subst (λ (y : Text). Says y g) is a.0)
  said_at (t ∷ ts) (g ∷ gs) (suc k) x a lt is = said_at ts gs k x a.1 (omega (arith, lt)) is

  all_say : (texts : List Text) (values : List V) → AreTexts Says texts values → SomeSaysNone Says texts → ⊥
  all_say texts values are none =
      let value = said_at texts values none.0 none.1 are none.2 none.3 in
      none.4 value.0 value.1

pub tags_or_not : (v : List Row) (why : TagsRefusal) (tags : List (List ℕ)) → HasTags why v tags → HasNoTags why v → ⊥
tags_or_not v why tags has (inl more) =
    let same = same_length IsTagText (texts_of (tags_argument_of why) v) tags has.0 in
    absurd (omega (arith, same, more, has.1))
tags_or_not v why tags has (inr none) = all_say IsTagText (texts_of (tags_argument_of why) v) tags has.0 none

pub setting_or_not : (usual : WordChoice) (v : List Row) (why : SettingRefusal) (options : ServeOptions)
    → HasServeOptions usual v options → HasNoSetting why v → ⊥
setting_or_not usual v setting.Hold options has none =
    all_say IsHold (texts_of (codes "hold") v) options.holds.items has.holds none
setting_or_not usual v setting.Delay options has (inl more) =
    let same = same_length IsDelay (texts_of (codes "delay") v) options.delays.items has.delays.0 in
    absurd (omega (arith, same, more, has.delays.1))
setting_or_not usual v setting.Delay options has (inr none) =
    all_say IsDelay (texts_of (codes "delay") v) options.delays.items has.delays.0 none

-- where there is no text, none is wrong
pub no_bad_tags : (v : List Row) (why : TagsRefusal) → texts_of (tags_argument_of why) v ≡ [] → HasNoTags why v → ⊥
no_bad_tags v why none (inl more) = absurd (omega (arith, ap length none, more))
no_bad_tags v why none (inr some) = absurd (omega (arith, ap length none, some.2))

pub no_bad_setting : (v : List Row) (why : SettingRefusal) → texts_of (setting_argument_of why) v ≡ []
    → HasNoSetting why v → ⊥
no_bad_setting v setting.Hold none wrong = absurd (omega (arith, ap length none, wrong.2))
no_bad_setting v setting.Delay none (inl more) = absurd (omega (arith, ap length none, more))
no_bad_setting v setting.Delay none (inr some) = absurd (omega (arith, ap length none, some.2))
