-- The terms of a client: with what it begins, and after how many seconds it gives up.
use Rattle.std.specs.Prelude.{ℕ}
use Rattle.coap_block.specs.Sizes.{Sizes}
use Rattle.coap_layer.specs.declared.setup.Setup.{Setup}
use Rattle.coap_arguments.specs.declared.orders.AskOptions.{AskOptions}
use Rattle.coap_waits.specs.declared.connection.Terms.{Terms}

-- a client: with blocks of this size
abbrev pub client_sizes : ℕ → ℕ → Sizes
client_sizes szx limit = record { szx = szx; limit = limit }

-- with what its message layer begins
abbrev pub setup_of : Terms → Setup
setup_of terms = record { word = terms.word; remembered = terms.remembered }

-- the size of its blocks and the longest body that it takes
abbrev pub sizes_of : Terms → Sizes
sizes_of terms = client_sizes terms.size terms.limit

-- the terms that the options say, with this word
abbrev pub asked_terms : ℕ → AskOptions → Terms
asked_terms word options =
    record {
      word = word;
      remembered = options.remembered;
      size = options.size;
      limit = options.limit;
      give_up = options.give_up;
      json = options.json;
    }
