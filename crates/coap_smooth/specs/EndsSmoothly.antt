-- Where each exchange of a smooth run is young, each ends by an answer: a failure and the end of a wait come too late,
-- and a request is not rejected (RFC 7252, sections 4.2 and 5.2.2).
use Rattle.std.specs.Prelude.{List}
use Rattle.coap_record.specs.Events.{Config}
use Rattle.coap_record.specs.Record.{Turn, entries_of}
use Rattle.coap_smooth.specs.SmoothAnswers.{AllAreSent, EndByAnswers}
use Rattle.coap_smooth.specs.Young.{AreYoung}

abbrev pub YoungEndByAnswers : Config → List Turn → Type 0
YoungEndByAnswers config turns = AreYoung config turns → EndByAnswers config (entries_of turns)

-- Where each exchange of a smooth run ends by an answer, each request is sent: few answers come, so a Message ID and a
-- token are free (RFC 7252, sections 4.4 and 5.3.1).
abbrev pub SentByAnswers : Config → List Turn → Type 0
SentByAnswers config turns = EndByAnswers config (entries_of turns) → AllAreSent config (entries_of turns)
