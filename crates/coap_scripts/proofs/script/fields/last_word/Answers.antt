use Rattle.std.proofs.Common.{refl}
use Rattle.coap_scripts.proofs.ScriptWords.{cut_has}
use Rattle.coap_scripts.proofs.script.fields.last_word.Goals as goal

pub returns-in-Some-clause-refused : goal.returns-in-Some-clause-refused
returns-in-Some-clause-refused c = (refl, λ is. cut_has 32 c.args.line.now _ _ c.in-Some.ensures.cut is)
