use Rattle.std.proofs.Common.{◌≡◌, ◌≤◌, true, None, Some, ap, map, subst, sym, ◌∙◌}
use Rattle.std.specs.Prelude.{is_some}
use Rattle.std.specs.Option.{option_map}
use Rattle.coap_client.specs.Observations.{observation_of, rest_of, with_rest}
use Rattle.coap_client.specs.Effects.{Rests, of}
use Rattle.coap_client.specs.Fetching.{fetch_answered}
use Rattle.coap_client.specs.Own.{Fetching}
use Rattle.coap_client.specs.Places.{in_observations}
use Rattle.coap_client.specs.Steps.{reporting}
use Rattle.coap_client.specs.Object.Happens.{Apart, Happens, left, resting, running}
use Rattle.coap_client.specs.Object.Held.{own_of}
use Rattle.coap_client.specs.Object.Shown.{shown_asked, shown_observation, shown_report, shown_rest}
use Rattle.coap_client.proofs.Facts.Calls.Happening.{on_err}
use Rattle.coap_client.proofs.Calls.HeldLemmas.{fetched_own, idle_own, one_observation, rested_apart, set_one}
use Rattle.coap_client.proofs.Calls.HeldLemmas.{taken_own}
use Rattle.coap_client.proofs.Calls.FetchingLemmas.{asks_back, asks_next, asks_rest, fetch_held, if_ok, rest_there}
use Rattle.coap_client.proofs.Calls.FetchingLemmas.{same_rest, unfetched, useless_fetch, useless_rest, useless_value}
use Rattle.coap_client.proofs.Calls.FetchingLemmas.{whole_fetch, whole_rest, whole_value}
use Rattle.coap_client.proofs.client.observation_fetch.hear_rest.Goals as goal

pub returns-in_default-clause-happens : goal.returns-in_default-clause-happens
returns-in_default-clause-happens g c =
    let s = own_of c.args.parts.now.held in
    subst (λ o. Happens c.args.parts.now.asker.state
    (fetch_answered c.args.number (rest_of c.args.number s.observations) s c.args.m.now) c.args.now.at.0
    c.args.now.word
    None (left o c.args.parts.now.asker.state))
    (sym (idle_own c.args.parts.now.held c.take_rest.new.operations c.take_rest.ensures.same c.requires.idle))
    (unfetched c.args.parts.now.asker.state c.args.number s c.args.m.now c.args.now.at.0 c.args.now.word
    (map (shown_observation {A = g.row.A.Denot}) c.take_rest.new.operations.live) c.take_rest.ensures.left
    (sym c.take_rest.ensures.rest ∙ ap (option_map shown_rest) c.in_default.is)
    (one_observation s c.args.number c.requires.apart))

pub ask_next-requires-clause-there : goal.ask_next-requires-clause-there
ask_next-requires-clause-there g c =
    subst (λ os. is_some (observation_of c.args.number os) ≡ true) (sym c.take_rest.ensures.left)
    (rest_there c.args.number (shown_rest c.in-Some.rest) None (own_of c.args.parts.now.held).observations
    (sym c.take_rest.ensures.rest ∙ ap (option_map shown_rest) c.in-Some.is))

pub ask_next-requires-clause-apart : goal.ask_next-requires-clause-apart
ask_next-requires-clause-apart g c =
    let s = own_of c.args.parts.now.held in
    subst Apart (sym (taken_own c.args.parts.now.held c.take_rest.new.operations c.take_rest.ensures.same))
    (subst (λ os. Apart (record s { observations = os })) (sym c.take_rest.ensures.left)
    (rested_apart s c.args.number None c.requires.apart))

pub set_rest-requires : goal.set_rest-requires
set_rest-requires g c =
    let s = own_of c.args.parts.now.held in
    subst (λ os. in_observations c.args.number os ≤ 1) (sym c.take_rest.ensures.left)
    (set_one c.args.number c.args.number None s.observations (one_observation s c.args.number c.requires.apart))

pub returns-in-Ok-Asks-clause-happens : goal.returns-in-Ok-Asks-clause-happens
returns-in-Ok-Asks-clause-happens g c =
    let s = own_of c.args.parts.now.held in
    if_ok c.ask_next.result
    (λ asked h.
    asks_next c.args.parts.now.asker.state c.args.number (shown_rest c.in-Some.rest)
    (shown_rest c.take_if_content.new.rest) s _ c.args.m.now c.args.now.at.0 c.args.now.word (shown_asked asked) _
    (sym c.take_rest.ensures.rest ∙ ap (option_map shown_rest) c.in-Some.is)
    (asks_rest _ _ _ c.in-Ok-Asks.field-0-is c.in-Ok-Asks.ensures.rest)
    (taken_own c.args.parts.now.held c.take_rest.new.operations c.take_rest.ensures.same
    ∙ ap (λ os. record s { observations = os }) c.take_rest.ensures.left) h)
    c.ask_next.ensures.happens

pub returns-in-Ok-Whole-clause-happens : goal.returns-in-Ok-Whole-clause-happens
returns-in-Ok-Whole-clause-happens g c =
    let s = own_of c.args.parts.now.held in
    whole_fetch c.args.parts.now.asker.state c.args.number s c.args.m.now c.args.now.at.0 c.args.now.word
    (map (shown_observation {A = g.row.A.Denot}) c.take_rest.new.operations.live) c.take_rest.ensures.left
    (shown_rest c.in-Some.rest) _ _
    (sym c.take_rest.ensures.rest ∙ ap (option_map shown_rest) c.in-Some.is)
    (whole_rest _ _ _ _ c.in-Ok-Whole.field-0-is c.in-Ok-Whole.ensures.rest)
    (whole_value c.args.number _ _ _ c.in-Ok-Whole.field-0-is (c.in-Ok-Whole.ensures.value c.args.number))
    (c.give.ensures ∙ ap (λ o. reporting (record
    { own = o; report = of c.args.number (shown_report c.in-Ok-Whole.report); deed = Rests }))
    (idle_own c.args.parts.now.held c.take_rest.new.operations c.take_rest.ensures.same c.requires.idle))

pub returns-in-Ok-Useless-clause-happens : goal.returns-in-Ok-Useless-clause-happens
returns-in-Ok-Useless-clause-happens g c =
    let s = own_of c.args.parts.now.held in
    subst (λ o. Happens c.args.parts.now.asker.state
    (fetch_answered c.args.number (rest_of c.args.number s.observations) s c.args.m.now) c.args.now.at.0
    c.args.now.word
    None (left o c.args.parts.now.asker.state))
    (sym (idle_own c.args.parts.now.held c.take_rest.new.operations c.take_rest.ensures.same c.requires.idle))
    (useless_fetch c.args.parts.now.asker.state c.args.number s c.args.m.now c.args.now.at.0 c.args.now.word
    (map (shown_observation {A = g.row.A.Denot}) c.take_rest.new.operations.live) c.take_rest.ensures.left
    (shown_rest c.in-Some.rest)
    (sym c.take_rest.ensures.rest ∙ ap (option_map shown_rest) c.in-Some.is)
    (useless_rest _ _ _ c.in-Ok-Useless.field-0-is c.in-Ok-Useless.ensures.rest)
    (useless_value c.args.number _ _ c.in-Ok-Useless.field-0-is (c.in-Ok-Useless.ensures.value c.args.number)))

pub returns-in-Ok-Asks-clause-held : goal.returns-in-Ok-Asks-clause-held
returns-in-Ok-Asks-clause-held g c =
    let s = own_of c.args.parts.now.held in
    on_err c.ask_next.result
    (λ held.
    fetch_held c.args.parts.now.asker.state c.args.number s c.args.m.now c.args.now.at.0 c.args.now.word
    (map (shown_observation {A = g.row.A.Denot}) c.take_rest.new.operations.live) c.take_rest.ensures.left
    (shown_rest c.in-Some.rest) _ _
    (sym c.take_rest.ensures.rest ∙ ap (option_map shown_rest) c.in-Some.is)
    (one_observation s c.args.number c.requires.apart)
    (ap (λ q. with_rest c.args.number (Some (record { sequence = q; fetch = c.in-Some.rest.fetch.state }))
    (map (shown_observation {A = g.row.A.Denot}) c.take_rest.new.operations.live))
    c.take_if_content.ensures.sequence)
    (held c.in-Some.rest.fetch.state (asks_back _ _ _ c.in-Ok-Asks.field-0-is c.in-Ok-Asks.ensures.back)
    ∙ ap (λ o. running (Fetching c.args.number)
    (resting c.args.number (Some (record {
      sequence = c.take_if_content.new.rest.sequence;
      fetch =
          c.in-Some.rest.fetch.state;
    })) o)) (taken_own c.args.parts.now.held c.take_rest.new.operations
    c.take_rest.ensures.same)))
    c.ask_next.ensures.held

pub returns-in-Err-clause-held : goal.returns-in-Err-clause-held
returns-in-Err-clause-held g c =
    let s = own_of c.args.parts.now.held in
    fetch_held c.args.parts.now.asker.state c.args.number s c.args.m.now c.args.now.at.0 c.args.now.word
    (map (shown_observation {A = g.row.A.Denot}) c.take_rest.new.operations.live) c.take_rest.ensures.left
    (shown_rest c.in-Some.rest) _ _
    (sym c.take_rest.ensures.rest ∙ ap (option_map shown_rest) c.in-Some.is)
    (one_observation s c.args.number c.requires.apart)
    (c.set_rest.ensures.live ∙ ap (λ r. with_rest c.args.number r
    (map (shown_observation {A = g.row.A.Denot}) c.take_rest.new.operations.live))
    (same_rest _ _ _ _ c.take_if_content.ensures.sequence c.in-Err.ensures.err))
    (fetched_own c.args.parts.now.held c.take_rest.new.operations c.take_rest.ensures.same c.args.number _ _
    c.set_rest.ensures.same c.fetch.ensures)
