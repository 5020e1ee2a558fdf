-- The calls of each end among those of both.
use Rattle.std.proofs.Common.{◌≡◌, List, [], ◌∷◌, ◌++◌, ap, map, refl}
use Rattle.coap_record.specs.Record.{Entry, OfClient, OfServer, client_of, server_of}
use Rattle.coap_client.specs.Trace as C
use Rattle.coap_server.specs.Trace as S

pub client_client : (cs : List C.Call) (es : List Entry) → client_of (map OfClient cs ++ es) ≡ cs ++ client_of es
client_client [] es = refl
client_client (c ∷ cs) es = ap (λ t. c ∷ t) (client_client cs es)

pub client_server : (cs : List S.Call) (es : List Entry) → client_of (map OfServer cs ++ es) ≡ client_of es
client_server [] es = refl
client_server (c ∷ cs) es = client_server cs es

pub server_server : (cs : List S.Call) (es : List Entry) → server_of (map OfServer cs ++ es) ≡ cs ++ server_of es
server_server [] es = refl
server_server (c ∷ cs) es = ap (λ t. c ∷ t) (server_server cs es)

pub server_client : (cs : List C.Call) (es : List Entry) → server_of (map OfClient cs ++ es) ≡ server_of es
server_client [] es = refl
server_client (c ∷ cs) es = server_client cs es
