use Rattle.coap_journaled.proofs.journaled.JournaledEnd.tick.Goals as goal

pub returns-in_err-record-clause-quiet : goal.returns-in_err-record-clause-quiet
returns-in_err-record-clause-quiet g c rests = absurd (c.rests.ensures.busy c.if-rests.false rests)

pub returns-in_err-reserve-clause-quiet : goal.returns-in_err-reserve-clause-quiet
returns-in_err-reserve-clause-quiet g c rests = absurd (c.rests.ensures.busy c.if-rests.false rests)

pub returns-in_err-did-clause-quiet : goal.returns-in_err-did-clause-quiet
returns-in_err-did-clause-quiet g c rests = absurd (c.rests.ensures.busy c.if-rests.false rests)
