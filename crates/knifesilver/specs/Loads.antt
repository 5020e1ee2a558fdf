-- What is told of how much an end has.
use Rattle.std.specs.Prelude.{◌≡◌, ℕ}
use Rattle.coap_client.specs.declared.client.load.ClientLoad.{ClientLoad}
use Rattle.coap_client.specs.Led as client
use Rattle.coap_client.specs.Load.{IsClientLoad}
use Rattle.coap_server.specs.declared.server.load.Load.{Load}
use Rattle.coap_server.specs.Led as server
use Rattle.coap_server.specs.Load.{IsLoad}
use Rattle.knifesilver.specs.declared.load.KsEndLoad.{KsEndLoad}
use Rattle.knifesilver.specs.declared.load.TheConstants.{LOAD_LEN as load_len}

-- the numbers of a server; those that a client has alone are 0
abbrev pub server_told : Load → KsEndLoad
server_told load =
    record {
      size = load_len;
      ids_left = load.layer.ids_left;
      changes_left = load.changes_left;
      remembered = load.layer.remembered;
      remembered_most = load.layer.remembered_most;
      outstanding = load.layer.outstanding;
      queued = load.layer.queued;
      observers = load.observers;
      partial = load.partial;
      deferred = load.deferred;
      paths = load.paths;
      delays = load.delays;
      plains = load.plains;
      waiting = 0;
      observations = 0;
      reports = 0;
    }

-- .. of a client; those that a server has alone are 0
abbrev pub client_told : ClientLoad → KsEndLoad
client_told load =
    record {
      size = load_len;
      ids_left = load.layer.ids_left;
      changes_left = 0;
      remembered = load.layer.remembered;
      remembered_most = load.layer.remembered_most;
      outstanding = load.layer.outstanding;
      queued = load.layer.queued;
      observers = 0;
      partial = 0;
      deferred = 0;
      paths = 0;
      delays = 0;
      plains = 0;
      waiting = load.waiting;
      observations = load.observations;
      reports = load.reports;
    }

-- it is what a server in this state tells of itself at this moment
abbrev pub IsServerLoad : ℕ → KsEndLoad → server.State → Type 0
IsServerLoad now told s = (load : Load) × IsLoad now load s × (told ≡ server_told load)

-- .. a client
abbrev pub IsLoadOfClient : ℕ → KsEndLoad → client.State → Type 0
IsLoadOfClient now told s = (load : ClientLoad) × IsClientLoad now load s × (told ≡ client_told load)
