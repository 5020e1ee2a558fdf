use Rattle.std.proofs.Common.{arith}
use Rattle.coap_types.specs.CoapOption.{option_of}
use Rattle.coap_options.proofs.Onward.{finds_first, goes_on, stands_nowhere, value_lies}
use Rattle.coap_options.proofs.cursor.Cursor.next.Goals as goal

pub returns-in-Some-clause-told : goal.returns-in-Some-clause-told
returns-in-Some-clause-told c =
    goes_on c.args.datagram.now c.args.self.now (option_of c.in-Some.option) c.in-Some.rest.now
    (omega (arith, c.if-self.false)) (omega (arith, c.if-datagram-self.false)) c.in-Some.ensures.some

pub returns-in-Some-clause-value : goal.returns-in-Some-clause-value
returns-in-Some-clause-value c =
    value_lies c.args.datagram.now c.args.self.now (option_of c.in-Some.option) c.in-Some.rest.now
    (omega (arith, c.if-self.false)) (omega (arith, c.if-datagram-self.false)) c.in-Some.ensures.some

pub returns-in-Some-clause-order : goal.returns-in-Some-clause-order
returns-in-Some-clause-order c =
    finds_first c.args.datagram.now c.args.self.now c.in-Some.option c.in-Some.rest.now
    (omega (arith, c.if-self.false)) (omega (arith, c.if-datagram-self.false)) c.in-Some.ensures.some

pub returns-in-None-clause-order : goal.returns-in-None-clause-order
returns-in-None-clause-order c os stands =
    absurd (stands_nowhere c.args.datagram.now c.args.self.now (omega (arith, c.if-self.false))
    (omega (arith, c.if-datagram-self.false)) c.if-self-2.false c.in-None.ensures.none os stands)
