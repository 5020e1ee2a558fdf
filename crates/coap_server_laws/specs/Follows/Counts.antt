-- How often a server is handed a request: at most as often as its message layer hands it up (RFC 7252, section 5.2).
use Rattle.std.specs.Prelude.{ℕ, ◌+◌, Option, None, List, [], ◌∷◌}
use Rattle.coap_layer.specs.Trace as L
use Rattle.coap_exchange.specs.declared.answerer.Asked.{Asked}
use Rattle.coap_exchange.specs.AnswererFollows.{hits, same_asked}
use Rattle.coap_exchange.specs.AnswererSteps.{asked_in, handed_up}

-- the request that a call of the layer hands up
abbrev pub asked_at : L.Call → L.Answer → Option Asked
asked_at (L.Receive from bytes) answer = asked_in (handed_up from answer)
asked_at _ answer = None

-- how often one is handed up by these entries
abbrev pub ups : Asked → List L.Entry → ℕ
ups a [] = 0
ups a (e ∷ past) = hits (same_asked a) (asked_at e.call e.answer) + ups a past
