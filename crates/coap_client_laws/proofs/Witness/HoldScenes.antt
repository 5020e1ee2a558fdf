-- What an upload holds back, by computation.
use Rattle.std.proofs.Common.{refl}
use Rattle.coap_client_laws.specs.Examples.HoldScenes.{HoldScenes}

pub hold_scenes : HoldScenes
hold_scenes = record { held = refl; free = refl; not_held = refl }
