-- The scenes of an observation, of a cancel and of a GET, by computation.
use Rattle.std.proofs.Common.{refl}
use Rattle.coap_client_laws.specs.Examples.Scenes.{Scenes}

pub scenes : Scenes
scenes = record {
  waits = refl;
  kept = refl;
  fetches = refl;
  shows = refl;
  differs = refl;
  stays = refl;
  drops = refl;
  dropped = refl;
  anew = refl;
  asks = refl;
  over = refl;
  released = refl;
  ended = refl;
  gone = refl;
  forgets = refl;
  again = refl;
  changed = refl;
  whole = refl;
}
