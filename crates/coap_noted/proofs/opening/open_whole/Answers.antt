use Rattle.std.proofs.Common.{◌∙◌, ℕ, List, length, ap, inr, sym, subst, arith}
use Rattle.std.proofs.lemmas.List.{length-append}
use Rattle.coap_journal.specs.Frames.{BeginsFrame, IsDamage, frame}
use Rattle.coap_journal.specs.Records.{IsUnread}
use Rattle.coap_journal.specs.declared.beginning.BeginError.TheVariants.{Unreadable}
use Rattle.coap_journal.proofs.Facts.{frames_behind, length-frame}
use Rattle.coap_noted.proofs.WholeParts.{begins_none, behind_is, ends_within, first_unread, front_is, in_two}
use Rattle.coap_noted.proofs.WholeParts.{opened_parts, some_begins}
use Rattle.coap_noted.proofs.opening.open_whole.Goals as goal

pub returns-then-whole-eq0-clause-err : goal.returns-then-whole-eq0-clause-err
returns-then-whole-eq0-clause-err c = λ is.
    begins_none c.args.file.now c.args.whole.frames c.args.whole.end c.requires.whole.0 c.requires.whole.1
    c.if-whole-eq0.true is

pub returns-in_default-clause-err : goal.returns-in_default-clause-err
returns-in_default-clause-err c =
    let file = c.args.file.now in
    let front = c.split_at.result.0.now in
    let back = c.split_at.result.1.now in
    let whole = c.requires.whole.1 in
    let parts = in_two file front back c.args.whole.end c.split_at.ensures.front c.split_at.ensures.back in
    absurd (c.in_default.ensures.none
    (some_begins whole.bodies c.args.whole.frames whole.counted c.if-whole-eq0.false whole.short front
    (front_is file c.args.whole.frames c.args.whole.end c.requires.whole.0 front back whole parts
    c.split_at.ensures.front_len)))

pub returns-in-Err-Unreadable-clause-err : goal.returns-in-Err-Unreadable-clause-err
returns-in-Err-Unreadable-clause-err c =
    let file = c.args.file.now in
    let front = c.split_at.result.0.now in
    let back = c.split_at.result.1.now in
    let body = c.in-Some.body.now in
    inr (first_unread file front back body c.in-Some.further.now Unreadable
    (in_two file front back c.args.whole.end c.split_at.ensures.front c.split_at.ensures.back) c.in-Some.ensures.some
    c.in-Some.ensures.short (subst (IsUnread body) c.in-Err-Unreadable.field-0-is c.in-Err-Unreadable.ensures.err))

pub returns-in-Ok-clause-opened : goal.returns-in-Ok-clause-opened
returns-in-Ok-clause-opened c =
    let file = c.args.file.now in
    let end = c.args.whole.end in
    let front = c.split_at.result.0.now in
    let back = c.split_at.result.1.now in
    let whole = c.requires.whole.1 in
    let parts = in_two file front back end c.split_at.ensures.front c.split_at.ensures.back in
    let long_front = c.split_at.ensures.front_len in
    let rest = behind_is file c.args.whole.frames end c.requires.whole.0 front back whole parts long_front in
    let body = c.in-Some.body.now in
    let further = c.in-Some.further.now in
    let long = ap (length {A = ℕ}) c.in-Some.ensures.some in record {
      tail = back;
      parts = opened_parts file front back body further c.in-Ok.beginning c.in-Ok.first parts c.in-Some.ensures.some
          c.in-Ok.ensures.ok;
      whole = frames_behind 0 _ front body further c.in-Some.ensures.short c.in-Some.ensures.some (omega (
        arith,
        long,
        length-append (frame 0 body) further,
        length-frame 0 body,
      )) (
        whole.bodies,
        whole.short,
        front_is file c.args.whole.frames end c.requires.whole.0 front back whole parts
            long_front,
      );
      place_is = omega (arith, long, length-append (frame 0 body) further, long_front);
      end_is = omega (
        arith,
        ends_within file c.args.whole.frames end c.requires.whole.0 whole,
        ap (length {A = ℕ}) rest,
      );
      torn_is = c.requires.whole.2 ∙ ap (length {A = ℕ}) (sym rest);
      none = subst (λ (t : List ℕ). BeginsFrame end t → ⊥) (sym rest) whole.none;
      undamaged = subst (λ (t : List ℕ). IsDamage end t → ⊥) (sym rest) c.requires.whole.3;
    }
