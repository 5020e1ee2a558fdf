use Rattle.coap_replay.specs.Replaying.{Gives, Takes}
use Rattle.coap_journaled.proofs.Keeping.{is_behind, is_next}
use Rattle.coap_journaled.proofs.ServerWords.{gives_is, takes_is}
use Rattle.coap_journaled.proofs.laws.journaled_server_law.Goals as goal

pub returns-clause-takes : goal.returns-clause-takes
returns-clause-takes g c old new input is = takes_is old new input is

pub returns-clause-gives : goal.returns-clause-gives
returns-clause-gives g c old new p is = gives_is old new p is

pub returns-clause-behind : goal.returns-clause-behind
returns-clause-behind g c start now t none zero runs =
    is_behind Takes Gives g.F.JournalFile.appends g.F.JournalFile.syncs start t now none zero runs

pub returns-clause-next : goal.returns-clause-next
returns-clause-next g c start now t none zero runs few =
    is_next Takes Gives g.F.JournalFile.appends g.F.JournalFile.syncs start t now none zero runs few
