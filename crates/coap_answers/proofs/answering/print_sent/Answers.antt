use Rattle.std.proofs.Common.{◌≡◌, ◌∙◌, [], ◌∷◌, ◌++◌, ap, refl, subst, sym}
use Rattle.hex.specs.Hex.{encode_lower}
use Rattle.coap_resource.specs.Entries.{content_of}
use Rattle.coap_server.specs.Led.{State}
use Rattle.coap_server.specs.Object.Shown.{state_of}
use Rattle.coap_answers.specs.Answering.{GivesOut}
use Rattle.coap_common.proofs.Facts.{nothing_written}
use Rattle.coap_answers.proofs.SentTexts.{gives_more, heard_text, lines_on, none_no_more, silent_text}
use Rattle.coap_answers.proofs.answering.print_sent.Goals as goal

pub loop-datagram-init : goal.loop-datagram-init
loop-datagram-init g c = ([], refl, refl, nothing_written (g.W.Write.contents c.args.out.now))

pub loop-datagram-preserved : goal.loop-datagram-preserved
loop-datagram-preserved g c =
    let so_far = c.loop-datagram.invariant in (
      so_far.0 ++ c.in-Some.datagram ∷ [],
      gives_more _ so_far.0 _ c.in-Some.datagram _ so_far.1 c.in-Some.ensures.some c.in-Some.ensures.step,
      none_no_more so_far.0 c.in-Some.datagram,
      lines_on so_far.0 c.in-Some.datagram _ _ _ (g.W.Write.contents c.writeln.new.self)
          (c.in_ok-bytes.ensures ∙ ap encode_lower c.bytes.ensures)
          so_far.3 c.in_ok-writeln.ensures.bytes,
    )

pub returns-in_ok-writeln-2 : goal.returns-in_ok-writeln-2
returns-in_ok-writeln-2 g c =
    let so_far = c.loop-datagram.invariant in
    let none = c.in_default.ensures.none in
    let old = state_of content_of c.args.server.now in (
      so_far.0,
      subst (λ (s : State). GivesOut old so_far.0 s) (sym none.1) so_far.1,
      subst (λ (s : State). s.layer.queue ≡ []) (sym none.1) none.0,
      silent_text so_far.0 _ _ _ (sym so_far.2 ∙ c.if-is_silent.true) so_far.3 c.in_ok-writeln-2.ensures.bytes,
    )

pub returns-else-is_silent : goal.returns-else-is_silent
returns-else-is_silent g c =
    let so_far = c.loop-datagram.invariant in
    let none = c.in_default.ensures.none in
    let old = state_of content_of c.args.server.now in (
      so_far.0,
      subst (λ (s : State). GivesOut old so_far.0 s) (sym none.1) so_far.1,
      subst (λ (s : State). s.layer.queue ≡ []) (sym none.1) none.0,
      heard_text so_far.0 _ _ (sym so_far.2 ∙ c.if-is_silent.false) so_far.3,
    )
