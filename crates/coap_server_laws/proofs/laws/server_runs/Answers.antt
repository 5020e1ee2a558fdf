use Rattle.coap_server_laws.proofs.Witness.IsNotified.{lawful}
use Rattle.coap_server_laws.proofs.Witness.IsUploaded as upload
use Rattle.coap_server_laws.proofs.laws.server_runs.Goals as goal
use Rattle.coap_server_laws.proofs.Witness.IsTold.{told}

pub returns-clause-observation : goal.returns-clause-observation
returns-clause-observation c = lawful

pub returns-clause-upload : goal.returns-clause-upload
returns-clause-upload c = upload.lawful

pub returns-clause-told : goal.returns-clause-told
returns-clause-told c = told
