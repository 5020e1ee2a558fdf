-- What is told of a server's tables.
use Rattle.coap_handlers.specs.Shown.{IsLoad, Shown}
use Rattle.knifesilver_exchange.specs.declared.answerer.load.KsLoad.{KsLoad}

-- how full they are
abbrev pub IsLoaded : KsLoad → Shown → Type 0
IsLoaded load s = IsLoad s (record {
  deferred = load.deferred;
  most_deferred = load.most_deferred;
  most_remembered = load.most_remembered;
})
