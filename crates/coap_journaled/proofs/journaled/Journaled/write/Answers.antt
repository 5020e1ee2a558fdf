use Rattle.coap_journaled.proofs.Writing.{unsynced, unwritten, written}
use Rattle.coap_journaled.proofs.journaled.Journaled.write.Goals as goal

pub returns-in-Err : goal.returns-in-Err
returns-in-Err g c =
    unwritten g.E.End.state g.F.JournalFile.appends g.F.JournalFile.syncs _ c.args.framed.now c.append.new.self
    c.append.new.self c.args.self.now c.self.view_is c.in-Err.ensures c.requires.going c.requires.framed

pub returns-in-Err-sync : goal.returns-in-Err-sync
returns-in-Err-sync g c =
    unsynced g.E.End.state g.F.JournalFile.appends g.F.JournalFile.syncs _ c.args.framed.now c.append.new.self
    c.sync.new.self c.args.self.now c.self.view_is c.in-Ok.ensures c.in-Err-sync.ensures c.requires.going
    c.requires.framed

pub returns : goal.returns
returns g c =
    written g.E.End.state g.F.JournalFile.appends g.F.JournalFile.syncs _ c.args.framed.now c.append.new.self
    c.sync.new.self c.args.next c.clear.new.self.items c.args.self.now c.self.view_is c.clear.ensures.items
    c.in-Ok.ensures c.in-Ok-sync.ensures c.requires.going c.requires.some c.requires.counted c.requires.framed
    c.requires.next
