use Rattle.std.proofs.Common.{[], ◌∷◌, ◌++◌, ◌∙◌, sym, ap, refl, arith, List, ℕ}
use Rattle.coap_journal.specs.declared.beginning.Life.{Life}
use Rattle.coap_replay.specs.Replaying.{last_life}
use Rattle.coap_journal.proofs.Facts.{frames_behind, none_left, rest_is_less}
use Rattle.coap_journal.specs.Frames.{frames}
use Rattle.coap_replay.specs.Doing.{bodies}
use Rattle.coap_replay.proofs.Chains.{passed_up, stands_at}
use Rattle.coap_replay.proofs.Chains.{last_life_more, latest_more, record_framed, replays_more}
use Rattle.coap_replay.proofs.replay.replay_frames.Goals as goal

pub loop-body-init : goal.loop-body-init
loop-body-init g c = (
  [],
  [],
  record {
    bytes = refl;
    replays = (refl, refl);
    place = refl;
    life = refl;
    latest = refl;
    left = λ all. all;
  },
)

pub loop-body-smaller : goal.loop-body-smaller
loop-body-smaller g c =
    omega (
      arith,
      rest_is_less c.loop-body.at c.in-Some.body.now c.loop-body.rest.now c.in-Some.behind.now
          c.in-Some.ensures.some,
    )

pub loop-body-preserved : goal.loop-body-preserved
loop-body-preserved g c =
    let so_far = c.loop-body.invariant in
    let next = c.in_ok-further.ensures.done in (
      so_far.0 ++ next.0 ∷ [],
      so_far.1 ++ next.1,
      record {
        bytes = record_framed c.args.place c.loop-body.at c.args.bytes.now c.loop-body.rest.now c.in-Some.behind.now
            c.in-Some.body.now so_far.0 next.0 so_far.2.bytes so_far.2.place c.in-Some.ensures.some next.2;
        replays = replays_more _ so_far.0 so_far.1 _ next.0 next.1 _ so_far.2.replays next.3;
        place = omega (
          arith,
          so_far.2.place,
          rest_is_less c.loop-body.at c.in-Some.body.now c.loop-body.rest.now c.in-Some.behind.now
              c.in-Some.ensures.some,
        );
        life = next.4 ∙ ap (λ (l : Life). last_life l (next.0 ∷ [])) so_far.2.life
            ∙ sym (last_life_more c.args.life so_far.0 next.0);
        latest = next.5 _ ∙ sym (latest_more c.args.life.moment.0 so_far.0 next.0);
        left = λ all. frames_behind c.loop-body.at _ c.loop-body.rest.now c.in-Some.body.now c.in-Some.behind.now
            c.in-Some.ensures.short c.in-Some.ensures.some (omega (
              arith,
              rest_is_less c.loop-body.at c.in-Some.body.now c.loop-body.rest.now c.in-Some.behind.now
                  c.in-Some.ensures.some,
            )) (so_far.2.left all);
      },
    )

pub returns-in_err-further-clause-other : goal.returns-in_err-further-clause-other
returns-in_err-further-clause-other g c =
    let so_far = c.loop-body.invariant in
    passed_up c.from_residual.result c.in_err-further.field-0.0 _ c.from_residual.ensures.1 (λ is. record {
      records = so_far.0;
      out = so_far.1;
      between = _;
      replays = so_far.2.replays;
      at = c.loop-body.at;
      body = c.in-Some.body.now;
      rest = c.in-Some.behind.now;
      bytes_are = so_far.2.bytes ∙ ap (λ (xs : List ℕ). frames c.args.place (bodies so_far.0) ++ xs)
          c.in-Some.ensures.some;
      stands = stands_at c.args.place c.loop-body.at c.args.bytes.now c.loop-body.rest.now so_far.0 so_far.2.bytes
          so_far.2.place;
      refused = c.in_err-further.ensures.other is;
    })

pub returns-in_err-further-clause-unreadable : goal.returns-in_err-further-clause-unreadable
returns-in_err-further-clause-unreadable g c =
    let so_far = c.loop-body.invariant in
    passed_up c.from_residual.result c.in_err-further.field-0.0 _ c.from_residual.ensures.1 (λ is. record {
      records = so_far.0;
      out = so_far.1;
      between = _;
      replays = so_far.2.replays;
      at = c.loop-body.at;
      body = c.in-Some.body.now;
      rest = c.in-Some.behind.now;
      bytes_are = so_far.2.bytes ∙ ap (λ (xs : List ℕ). frames c.args.place (bodies so_far.0) ++ xs)
          c.in-Some.ensures.some;
      stands = stands_at c.args.place c.loop-body.at c.args.bytes.now c.loop-body.rest.now so_far.0 so_far.2.bytes
          so_far.2.place;
      refused = c.in_err-further.ensures.unread is;
    })

pub returns-clause-all : goal.returns-clause-all
returns-clause-all g c = λ all.
    none_left c.loop-body.at c.loop-body.rest.now c.in_default.ensures.none (c.loop-body.invariant.2.left all)
