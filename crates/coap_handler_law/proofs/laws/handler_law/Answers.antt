use Rattle.std.proofs.Common.{◌≡◌, List, ◌∷◌, refl, subst}
use Rattle.coap_types.specs.Past.{Ever}
use Rattle.coap_layer.specs.Channel.{Near}
use Rattle.coap_layer.specs.Paced.{RepliesTo}
use Rattle.coap_layer.specs.Trace.{Entry, Reply}
use Rattle.coap_handler_law.proofs.RepliesAreAnswers.{far_ever, given}
use Rattle.coap_exchange.proofs.Facts.ServerSide.{led_law, layer_stands}
use Rattle.coap_handler_law.proofs.AnswersKept.{answers_are_kept}
use Rattle.coap_handler_law.proofs.TheAnswerIsTold.{is_answer}
use Rattle.coap_handler_law.proofs.CopiesAnswered.{copies_get}
use Rattle.coap_handler_law.proofs.laws.handler_law.Goals as goal

pub returns-clause-kept : goal.returns-clause-kept
returns-clause-kept c = answers_are_kept

pub returns-clause-copies : goal.returns-clause-copies
returns-clause-copies c = λ setup t s led. copies_get setup _ (layer_stands setup t (led_law setup t s led))

pub returns-clause-replies : goal.returns-clause-replies
returns-clause-replies c = λ clocks one other near far t past x law is con to hears. (
  (c.paced_channel_law.ensures.taken clocks one other near far (Near x ∷ past) law).0 x con refl to hears,
  given near con.id hears.bytes other t (subst (λ (es : List Entry). Ever
      (λ (e : Entry). e.call ≡ Reply near con.id hears.bytes) es)
      is (far_ever (λ (e : Entry). e.call ≡ Reply near con.id hears.bytes) (RepliesTo clocks near con hears.bytes)
      (λ earlier e gives. gives.call) past
      ((c.paced_channel_law.ensures.replied clocks one other near far (Near x ∷ past) law).0 x con refl to hears))),
)

pub returns-clause-told : goal.returns-clause-told
returns-clause-told c = λ clocks one other near far t past x law stands is con to hears m spells response.
    let both = returns-clause-replies c clocks one other near far t past x law is con to hears in (
      both.0,
      is_answer other t near con.id hears.bytes m (c.answerer_law.ensures.back other t stands) both.1 spells
          response,
    )
