use Rattle.std.proofs.Common.{◌≡◌, [], length, subst}
use Rattle.coap_types.specs.declared.message.Kind.TheVariants.{Ack}
use Rattle.coap_codec.specs.Message.{Message}
use Rattle.coap_codec.specs.Refused.{HasNoSpelling}
use Rattle.knifesilver.specs.Refusing.{IsAsked, refusal_of}
use Rattle.knifesilver.proofs.refuse.ks_refuse.Goals as goal

pub returns-in-None-answer-clause-long : goal.returns-in-None-answer-clause-long
returns-in-None-answer-clause-long c small m spelled =
    let is : c.in-Ok.view ≡ m = (let a = c.decode.ensures.only m spelled in let b = c.in-Ok.is in cc) in
    let asked = c.in-Some.ensures.some in
    subst (λ (x : Message). IsAsked x × HasNoSpelling (refusal_of x c.args.code) (length c.args.room.now)) is (
      asked.0,
      subst (λ (y : Message). HasNoSpelling y (length c.args.room.now))
          (λ i. record { kind = Ack; code = c.args.code; id = asked.1 i; token = asked.2 i; options = []; payload = [] })
          c.in-None-answer.ensures.none,
    )

pub returns-in-Err-clause-nothing : goal.returns-in-Err-clause-nothing
returns-in-Err-clause-nothing c zero m spelled asked = c.in-Err.ensures.none m spelled
