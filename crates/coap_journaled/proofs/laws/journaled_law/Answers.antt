use Rattle.coap_journaled.specs.Runs.{end_gives, end_takes}
use Rattle.coap_journaled.proofs.Keeping.{is_behind, is_next}
use Rattle.coap_journaled.proofs.laws.journaled_law.Goals as goal

pub returns-clause-behind : goal.returns-clause-behind
returns-clause-behind g c start now t none zero runs =
    is_behind (end_takes g.E.End.feeds g.E.End.ticks) (end_gives g.E.End.waiting g.E.End.gives) g.F.JournalFile.appends
    g.F.JournalFile.syncs start t now none zero runs

pub returns-clause-next : goal.returns-clause-next
returns-clause-next g c start now t none zero runs few =
    is_next (end_takes g.E.End.feeds g.E.End.ticks) (end_gives g.E.End.waiting g.E.End.gives) g.F.JournalFile.appends
    g.F.JournalFile.syncs start t now none zero runs few
