use Rattle.std.proofs.Common.{refl, length, take, drop, ◌-◌, ◌+◌}
use Rattle.coap_options.proofs.OneBehind.{copied, within}
use Rattle.coap_options.proofs.writing.add_option.Goals as goal

pub returns-clause-added : goal.returns-clause-added
returns-clause-added c =
    let more = take (c.in-Some.stop - 4) (drop 4 c.spell.new.buffer) in
    let end = c.args.len + length more in
    let put = copied c.args.room.now c.copy_from_slice.new.self more c.args.len end c.requires
    c.copy_from_slice.ensures.after refl in (
      within c.args.room.now c.copy_from_slice.new.self more c.args.len end c.requires c.copy_from_slice.ensures.after
          refl,
      more,
      put,
      c.in-Some.ensures.some.2,
    )
