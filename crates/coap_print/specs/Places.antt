-- An endpoint in words: the parts of its address, parted by dots, and behind a colon its port.
use Rattle.std.specs.Prelude.{ℕ, List, ◌++◌, codes, decimal, slice_index}
use Rattle.coap_types.specs.declared.endpoint.Endpoint.{Endpoint}

abbrev pub endpoint_text : Endpoint → List ℕ
endpoint_text e =
    decimal (slice_index e.ip 0) ++ (codes "." ++ (decimal (slice_index e.ip 1) ++ (codes "."
    ++ (decimal (slice_index e.ip 2) ++ (codes "." ++ (decimal (slice_index e.ip 3)
    ++ (codes ":" ++ decimal e.port)))))))
