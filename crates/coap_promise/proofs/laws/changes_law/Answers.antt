use Rattle.coap_record.specs.Record.{entries_of}
use Rattle.coap_promise.proofs.Reports.BodiesShort.{bodies_short}
use Rattle.coap_promise.proofs.Requests.ChangesOwned as O
use Rattle.coap_promise.proofs.Facts.Requests.HoldsChanges.{changes_held}
use Rattle.coap_promise.proofs.Requests.LocalChanges.{local_right}
use Rattle.coap_promise.proofs.laws.changes_law.Goals as goal

pub returns : goal.returns
returns c = record {
  holds = λ config events turns record_of legal. changes_held config (entries_of turns) record_of.server;
  local = λ config events turns record_of legal. local_right config (entries_of turns) record_of.server.rows;
  short = λ config events turns record_of legal. bodies_short config (entries_of turns) record_of.server;
  owned = λ config events turns record_of legal. O.owned config (entries_of turns) record_of.server.rows;
}
