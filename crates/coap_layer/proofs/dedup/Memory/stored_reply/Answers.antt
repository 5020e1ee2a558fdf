use Rattle.std.proofs.Common.{ap, sym, ◌∙◌, ℕ, option_to_list}
use Rattle.std.specs.Option.{option_map}
use Rattle.std.specs.declared.vec.Vec.{Vec}
use Rattle.coap_layer.proofs.Calls.Remembered.{copied_items, reply_first, reply_second}
use Rattle.coap_layer.proofs.dedup.Memory.stored_reply.Goals as goal

pub returns-in-Some : goal.returns-in-Some
returns-in-Some g c =
    copied_items c.as_ref.result
    ∙ (ap (option_map (λ (v : Vec ℕ _). v.items)) c.as_ref.ensures.value
    ∙ (c.in-Some.ensures.reply ∙ sym (reply_first c.args.now.0 c.args.from c.args.id.0 c.args.self.now.settled
    (option_to_list c.args.self.now.newest) (sym c.in-Some.ensures.there))))

pub returns-in-Some-find_newest : goal.returns-in-Some-find_newest
returns-in-Some-find_newest g c =
    copied_items c.as_ref-in-Some-find_newest.result
    ∙ (ap (option_map (λ (v : Vec ℕ _). v.items)) c.as_ref-in-Some-find_newest.ensures.value
    ∙ (c.in-Some-find_newest.ensures.reply ∙ sym
    (reply_second c.args.now.0 c.args.from c.args.id.0 c.args.self.now.settled
    (option_to_list c.args.self.now.newest) (sym c.in-None.ensures.there))))

pub returns-in-None-find_newest : goal.returns-in-None-find_newest
returns-in-None-find_newest g c =
    c.in-None-find_newest.ensures.reply ∙ sym (reply_second c.args.now.0 c.args.from c.args.id.0 c.args.self.now.settled
    (option_to_list c.args.self.now.newest) (sym c.in-None.ensures.there))
