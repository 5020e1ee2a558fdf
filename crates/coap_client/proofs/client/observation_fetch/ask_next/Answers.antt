use Rattle.std.proofs.Common.{ap, sym, subst, refl, ◌∙◌}
use Rattle.coap_types.specs.OptionValues.{option_with}
use Rattle.coap_client.specs.Own.{Fetching}
use Rattle.coap_client.specs.Object.Happens.{Apart}
use Rattle.coap_client.specs.Object.Held.{own_of}
use Rattle.coap_client.specs.Object.Shown.{shown_rest}
use Rattle.coap_client.proofs.Calls.HeldLemmas.{one_observation, resumed_apart}
use Rattle.coap_client.proofs.Calls.FetchingLemmas.{closed_as, fetch_request, sends_as}
use Rattle.coap_client.proofs.client.observation_fetch.ask_next.Goals as goal

pub resume-requires : goal.resume-requires
resume-requires g c = record {
  one = one_observation (own_of c.args.parts.now.held) c.args.number c.requires.apart;
  idle =
      c.requires.idle;
}

pub resume-requires-in-Err : goal.resume-requires-in-Err
resume-requires-in-Err g c = record {
  one = one_observation (own_of c.args.parts.now.held) c.args.number c.requires.apart;
  idle = c.requires.idle;
}

pub note_sending-requires-clause-apart : goal.note_sending-requires-clause-apart
note_sending-requires-clause-apart g c = subst Apart (sym c.resume.ensures.own)
    (resumed_apart (own_of c.args.parts.now.held) c.args.number _ c.requires.apart)

pub returns-in-Ok-clause-happens : goal.returns-in-Ok-clause-happens
returns-in-Ok-clause-happens g c =
    let s = own_of c.args.parts.now.held in
    let same = fetch_request c.args.number (shown_rest c.args.rest) s.observations _ _ c.requires.there
    c.segments_of-path.ensures.path (ap (option_with 23) c.bytes_in.ensures ∙ c.block2_of-block.ensures.option) in
    closed_as _ _ _ _ _ _ _ c.resume.ensures.own c.note_sending.ensures.closes
    (Fetching c.args.number) c.args.parts.now.asker.state c.args.now.word refl
    (sends_as _ _ _ _ _ _ _ same c.in-Ok.ensures.sends)
