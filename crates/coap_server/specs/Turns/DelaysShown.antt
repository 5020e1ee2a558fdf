-- The delays of paths, as contracts see them (a profile).
use Rattle.std.specs.Prelude.{ℕ, List, map, filter, not}
use Rattle.coap_types.specs.Path.{same_path}
use Rattle.coap_server.specs.Trace as T
use Rattle.coap_server.specs.declared.server.parts.Delay.{Delay}
use Rattle.coap_server.specs.Object.Shown.{delay_as}

abbrev pub delays_as : {A : Type 0} → List (Delay A) → List T.Delay
delays_as {A} ds = map (λ (d : Delay A). delay_as d) ds

-- those of the other paths
abbrev pub delays_of_others : {A : Type 0} → List (List ℕ) → List (Delay A) → List (Delay A)
delays_of_others {A} path ds = filter (λ (d : Delay A). not (same_path d.path path)) ds
