-- What C is told of a request, and tells (RFC 7252, section 5.2).
use Rattle.std.specs.Prelude.{◌≡◌, ◌<◌, ◌⊎◌, length}
use Rattle.coap_codec.specs.Message.{Message, kind_number}
use Rattle.coap_exchange.specs.declared.answerer.Asked.{Asked}
use Rattle.knifesilver_exchange.specs.declared.crossing.KsAsked.{KsAsked}
use Rattle.knifesilver_exchange.specs.declared.crossing.KsRequest.{KsRequest}
use Rattle.knifesilver_exchange.specs.ShortBytes.{AreIn}

-- where it came from, its type, its Message ID and its token
abbrev pub AreAsked : KsAsked → Asked → Type 0
AreAsked told a = (told.from ≡ record { ip = a.from.ip; port = a.from.port }) × (told.id ≡ a.id.0)
    × (told.kind ≡ kind_number a.kind) × AreIn a.token told.token told.token_len

-- .. its code, and how long its payload is
abbrev pub IsRequest : KsRequest → Asked → Message → Type 0
IsRequest told a m = AreAsked told.asked a × (told.code ≡ m.code) × (told.payload_len ≡ length m.payload)

-- no request has that type, or a token of so many bytes
abbrev pub IsNoRequest : KsAsked → Type 0
IsNoRequest told = (1 < told.kind) ⊎ (8 < told.token_len)
