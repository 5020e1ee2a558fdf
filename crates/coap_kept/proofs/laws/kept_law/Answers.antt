use Rattle.std.proofs.Common.{inl, inr}
use Rattle.coap_journal.specs.Input.{Feed, Tick}
use Rattle.coap_journaled.specs.Runs.{end_gives, end_takes}
use Rattle.coap_kept.proofs.GoingOn.{given_on, noted_on, rested_on}
use Rattle.coap_kept.proofs.laws.kept_law.Goals as goal

pub returns-clause-feeds : goal.returns-clause-feeds
returns-clause-feeds g c start old new t now word from bytes runs fed =
    noted_on g.F.JournalFile.appends g.F.JournalFile.syncs (end_takes g.E.End.feeds g.E.End.ticks)
    (end_gives g.E.End.waiting g.E.End.gives) start old fed.0 new t (Feed now from bytes word) runs fed.1.0 fed.1.1
    fed.2

pub returns-clause-ticks : goal.returns-clause-ticks
returns-clause-ticks g c start old new t now word did runs ticked = elim ticked.1 [
  | inl rests ↦ rested_on g.F.JournalFile.appends g.F.JournalFile.syncs (end_takes g.E.End.feeds g.E.End.ticks)
      (end_gives g.E.End.waiting g.E.End.gives) start old ticked.0 new t runs rests.2
      ticked.2
  | inr noted ↦ noted_on g.F.JournalFile.appends g.F.JournalFile.syncs (end_takes g.E.End.feeds g.E.End.ticks)
      (end_gives g.E.End.waiting g.E.End.gives) start old ticked.0 new t (Tick now word) runs noted.0 (did, noted.1)
      ticked.2
]

pub returns-clause-gives : goal.returns-clause-gives
returns-clause-gives g c start old new t p runs given =
    given_on g.F.JournalFile.appends g.F.JournalFile.syncs (end_takes g.E.End.feeds g.E.End.ticks)
    (end_gives g.E.End.waiting g.E.End.gives) start old new t p runs given.0 given.1
