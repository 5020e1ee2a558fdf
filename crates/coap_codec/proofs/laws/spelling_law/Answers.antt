use Rattle.coap_codec.proofs.Spellings.InBytes.{bytes_spell_bytes, spelled_in_bytes}
use Rattle.coap_codec.proofs.Spellings.IsSpelled.{spelled_it, spelled_so}
use Rattle.coap_codec.proofs.Spellings.ItsOwnBytes.{spelled_by_its_bytes, spelled_by_no_others, no_other_is_spelled}
use Rattle.coap_codec.proofs.laws.spelling_law.Goals as goal

pub returns-clause-spelled : goal.returns-clause-spelled
returns-clause-spelled c = spelled_by_its_bytes

pub returns-clause-only : goal.returns-clause-only
returns-clause-only c = spelled_by_no_others

pub returns-clause-others : goal.returns-clause-others
returns-clause-others c = no_other_is_spelled

pub returns-clause-in_bytes : goal.returns-clause-in_bytes
returns-clause-in_bytes c = spelled_in_bytes

pub returns-clause-of_bytes : goal.returns-clause-of_bytes
returns-clause-of_bytes c = bytes_spell_bytes

pub returns-clause-tested : goal.returns-clause-tested
returns-clause-tested c bytes m = (spelled_so bytes m, spelled_it bytes m)
