-- A message that has a spelling is spelled by its bytes, and by no others.
use Rattle.std.proofs.Common.{◌≡◌, ℕ, ◌^◌, inl, inr, true, List, [], ◌∷◌, ◌++◌, length, refl, ap, ◌∙◌, arith}
use Rattle.std.specs.List.{list_all}
use Rattle.std.proofs.lemmas.Bool.{cases_lt, lt-ltb}
use Rattle.std.proofs.lemmas.List.{length-append, nil_from_length}
use Rattle.coap_types.specs.CoapOption.{CoapOption}
use Rattle.coap_codec.specs.BoundedSpelling.{IsBare, is_numbered}
use Rattle.coap_codec.specs.Laws.{SpelledByItsBytes, SpelledByNoOthers, NoOtherIsSpelled}
use Rattle.coap_codec.specs.Message.{Message, Spells, header, marked}
use Rattle.coap_codec.specs.Options.{Options}
use Rattle.coap_codec.specs.Spelling.{option_bytes, options_bytes, message_bytes}
use Rattle.coap_codec.proofs.Spellings.OneSpelling.{IsOption-once}
use Rattle.coap_codec.proofs.Spellings.RefusedHasNone.{Ext-most, Options-ascends, Options-short, Options-long}
use Rattle.coap_codec.proofs.Spellings.RefusedHasNone.{marked-long}
use Rattle.coap_codec.proofs.Spellings.WhatIsWritten.{option_is, spelled_by}

pub options_only : (os : List CoapOption) (base : ℕ) (bytes : List ℕ) → Options base bytes os
    → bytes ≡ options_bytes base os
unfolding options_bytes
options_only [] base bytes is = is
options_only (o ∷ os) base bytes is =
    let short = Ext-most (length o.value) is.3.len is.3.more_len is.3.value in
    let first = IsOption-once base o is.0 (option_bytes base o) is.3 (option_is base o is.3.rises is.3.fits short) in
    let rest = options_only os o.number is.1 is.4 in
    let same : is.0 ++ is.1 ≡ option_bytes base o ++ options_bytes o.number os = rw (first, rest) refl in
    is.2 ∙ same

pub Options-numbered : (os : List CoapOption) (base : ℕ) (bytes : List ℕ) → Options base bytes os
    → list_all is_numbered os ≡ true
Options-numbered [] base bytes is = refl
Options-numbered (o ∷ os) base bytes is = rw (lt-ltb o.number (2 ^ 16) is.3.fits)
    (Options-numbered os o.number is.1 is.4)

pub spelled_by_no_others : SpelledByNoOthers
spelled_by_no_others bytes m s =
    s.parts ∙ ap (λ (f : List ℕ). header m ++ (m.token ++ (f ++ marked m.payload)))
    (options_only m.options 0 s.option_bytes s.options)

spelled_bare : (m : Message) → IsBare m → Spells (message_bytes m) m
unfolding options_bytes
spelled_bare m bare = record {
  code = rw bare.code (omega arith);
  id = bare.id;
  token = rw bare.token (omega arith);
  option_bytes = [];
  options = rw bare.options refl;
  parts = rw (bare.token, bare.options, bare.payload) refl;
  empty = λ z. rw (bare.token, bare.options, bare.payload) refl;
}

pub spelled_by_its_bytes : SpelledByItsBytes
spelled_by_its_bytes m (inl can) = spelled_by m can
spelled_by_its_bytes m (inr bare) = spelled_bare m bare

bare_when_empty : (bytes : List ℕ) (m : Message) → Spells bytes m → m.code ≡ 0 → IsBare m
bare_when_empty bytes m s z =
    let four = s.empty z in
    let parts = ap length s.parts in
    let whole = length-append m.token (s.option_bytes ++ marked m.payload) in
    let back = length-append s.option_bytes (marked m.payload) in
    let options = Options-long m.options 0 s.option_bytes s.options in
    let payload = marked-long m.payload in
    record {
      code = z;
      id = s.id;
      token = nil_from_length m.token (omega arith);
      options = nil_from_length m.options (omega arith);
      payload = nil_from_length m.payload (omega arith);
    }

pub no_other_is_spelled : NoOtherIsSpelled
no_other_is_spelled bytes m s =
    elim (cases_lt 0 m.code) [
      | inl some ↦ inl (record {
        some = some;
        code = s.code;
        id = s.id;
        token = s.token;
        order = Options-ascends m.options 0 s.option_bytes s.options;
        numbers = Options-numbered m.options 0 s.option_bytes s.options;
        short = Options-short m.options 0 s.option_bytes s.options;
      })
      | inr none ↦ inr (bare_when_empty bytes m s (omega arith))
    ]
