use Rattle.std.proofs.Common.{◌∙◌, sym}
use Rattle.coap_types.proofs.Values.UintsHaveOneSpelling.{fewest, one_spelling, uint_few, uint_read, uint_spells}
use Rattle.coap_types.proofs.uint.uint_laws.Goals as goal

pub returns-clause-spelling : goal.returns-clause-spelling
returns-clause-spelling c = uint_spells

pub returns-clause-few : goal.returns-clause-few
returns-clause-few c = uint_few

pub returns-clause-read_back : goal.returns-clause-read_back
returns-clause-read_back c = uint_read

pub returns-clause-fewest : goal.returns-clause-fewest
returns-clause-fewest c = λ xs ys number p bytes spelt. fewest xs ys p.no_zero bytes (spelt ∙ sym p.spelt)

pub returns-clause-one_spelling : goal.returns-clause-one_spelling
returns-clause-one_spelling c = one_spelling
