-- Datagrams on their way, in words.
use Rattle.std.specs.Prelude.{ℕ, List, [], ◌++◌, codes, decimal, Option, Some, None}
use Rattle.coap_types.specs.declared.endpoint.Endpoint.{Endpoint}
use Rattle.coap_print.specs.Datagrams.{datagram_text}
use Rattle.coap_print.specs.Places.{endpoint_text}
use Rattle.coap_scripts.specs.declared.chart.traffic.Arrival.{Arrival}
use Rattle.coap_scripts.specs.declared.chart.traffic.Arrival.TheVariants.{Again, InOrder, Late}
use Rattle.coap_scripts.specs.declared.chart.traffic_words.ArrivedWords.{ArrivedWords}
use Rattle.coap_scripts.specs.declared.chart.traffic_words.SentWords.{SentWords}
use Rattle.coap_scripts.specs.declared.chart.traffic_words.StrangerWords.{StrangerWords}

-- the first datagram of the same bytes, where that is another one
abbrev pub again_text : Option ℕ → List ℕ
again_text None = []
again_text (Some first) = codes " (" ++ (decimal first ++ codes " again)")

-- for whom, where that is no end
abbrev pub to_text : Option Endpoint → List ℕ
to_text None = []
to_text (Some to) = codes " to " ++ endpoint_text to

abbrev pub sent_text : SentWords → List ℕ
sent_text w =
    decimal w.number ++ (again_text w.first ++ (to_text w.to ++ (codes ": " ++ datagram_text w.bytes.now)))

-- how a datagram arrives
abbrev pub arrival_text : Arrival → List ℕ
arrival_text InOrder = []
arrival_text Late = codes " late,"
arrival_text Again = codes " again,"

abbrev pub arrived_text : ArrivedWords → List ℕ
arrived_text w = decimal w.number ++ (arrival_text w.arrival ++ (codes " after " ++ (decimal w.ms ++ codes " ms")))

-- from where, and what it says
abbrev pub stranger_text : StrangerWords → List ℕ
stranger_text w = codes "from " ++ (endpoint_text w.from ++ (codes ": " ++ datagram_text w.bytes.now))
