use Rattle.coap_client_laws.proofs.Witness.Histories.{witness, uploads}
use Rattle.coap_client_laws.proofs.Witness.Scenes as client
use Rattle.coap_client_laws.proofs.Witness.HoldScenes.{hold_scenes}
use Rattle.coap_client_laws.proofs.laws.client_witness.Goals as goal

pub returns-clause-observes : goal.returns-clause-observes
returns-clause-observes c = witness

pub returns-clause-uploads : goal.returns-clause-uploads
returns-clause-uploads c = uploads

pub returns-clause-scenes : goal.returns-clause-scenes
returns-clause-scenes c = client.scenes

pub returns-clause-hold : goal.returns-clause-hold
returns-clause-hold c = hold_scenes
