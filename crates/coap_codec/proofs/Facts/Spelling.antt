-- The spelling of a message and of its options: there is one, these bytes, and it is as long as its parts (RFC 7252,
-- sections 3 and 3.1).
use Rattle.std.proofs.Common.{◌≡◌, ℕ, ◌+◌, true, List, length}
use Rattle.std.specs.List.{list_all}
use Rattle.coap_types.specs.CoapOption.{CoapOption}
use Rattle.coap_codec.specs.BoundedSpelling.{BoundedSpelling, CanBeSpelled, is_numbered}
use Rattle.coap_codec.specs.IsSpelled.{is_spelled}
use Rattle.coap_codec.specs.Laws.{OneSpelling, SpelledByItsBytes, SpelledByNoOthers, NoOtherIsSpelled}
use Rattle.coap_codec.specs.Message.{Message, Spells, marked}
use Rattle.coap_codec.specs.OfBytes.{BytesSpellBytes, SpelledInBytes}
use Rattle.coap_codec.specs.Options.{Options}
use Rattle.coap_codec.specs.Refused.{ascends, is_short}
use Rattle.coap_codec.specs.Spelling.{options_bytes, message_bytes}
use Rattle.coap_codec.proofs.Spellings.OneSpelling as one
use Rattle.coap_codec.proofs.Spellings.WhatIsWritten as spell
use Rattle.coap_codec.proofs.Spellings.ItsOwnBytes as law
use Rattle.coap_codec.proofs.Spellings.BoundedLength as bounded
use Rattle.coap_codec.proofs.Spellings.InBytes as in_bytes
use Rattle.coap_codec.proofs.Spellings.IsSpelled as test

-- options

pub options_spelled : (os : List CoapOption) (base : ℕ) → ascends base os ≡ true → list_all is_numbered os ≡ true
    → list_all is_short os ≡ true → Options base (options_bytes base os) os
options_spelled = spell.options_spelled

pub options_only : (os : List CoapOption) (base : ℕ) (bytes : List ℕ) → Options base bytes os
    → bytes ≡ options_bytes base os
options_only = law.options_only

-- messages

pub message_length : (m : Message) → length (message_bytes m)
    ≡ 4 + (length m.token + (length (options_bytes 0 m.options) + length (marked m.payload)))
message_length = spell.message_length

pub one_spelling : OneSpelling
one_spelling = one.one_spelling

pub spelled_by : (m : Message) → CanBeSpelled m → Spells (message_bytes m) m
spelled_by = spell.spelled_by

pub spelled_by_its_bytes : SpelledByItsBytes
spelled_by_its_bytes = law.spelled_by_its_bytes

pub spelled_by_no_others : SpelledByNoOthers
spelled_by_no_others = law.spelled_by_no_others

pub no_other_is_spelled : NoOtherIsSpelled
no_other_is_spelled = law.no_other_is_spelled

pub bounded_spelling : BoundedSpelling
bounded_spelling = bounded.bounded_spelling

-- the test whether bytes spell a message

pub spelled_so : (bytes : List ℕ) (m : Message) → is_spelled bytes m ≡ true → Spells bytes m
spelled_so = test.spelled_so

pub spelled_it : (bytes : List ℕ) (m : Message) → Spells bytes m → is_spelled bytes m ≡ true
spelled_it = test.spelled_it

-- bytes

pub spelled_in_bytes : SpelledInBytes
spelled_in_bytes = in_bytes.spelled_in_bytes

pub bytes_spell_bytes : BytesSpellBytes
bytes_spell_bytes = in_bytes.bytes_spell_bytes
