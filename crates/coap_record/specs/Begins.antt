-- The calls with which a server begins.
use Rattle.std.specs.Prelude.{ℕ, List, ◌++◌, map}
use Rattle.coap_server.specs.Trace as S
use Rattle.coap_server.specs.Trace.{Delay}
use Rattle.coap_record.specs.Record.{DelayOf, PlainOf, gives_it}

-- the calls that give a server these delays, and then make these paths plain

abbrev pub gives : List Delay → List S.Call
gives ds = map gives_it (map (λ d. DelayOf d) ds)

abbrev pub begins_with : List (List (List ℕ)) → List Delay → List S.Call
begins_with ps ds = map gives_it (map (λ p. PlainOf p) ps ++ map (λ d. DelayOf d) ds)
