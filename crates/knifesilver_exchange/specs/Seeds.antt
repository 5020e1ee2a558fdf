-- The hash by which an end finds what it remembers, with the keys of its seed.
use Rattle.core.specs.declared.hash.sip.DefaultHasher.{DefaultHasher}
use Rattle.core.specs.Hash.DefaultHasher.{with_keys}
use Rattle.knifesilver_exchange.specs.declared.seed.SeededHash.{SeededHash}

abbrev pub first_state : SeededHash → DefaultHasher
first_state hash = with_keys hash.key0 hash.key1
