use Rattle.std.proofs.Common.{◌≡◌, ◌∙◌, Some, length, arith, sym, ap}
use Rattle.lru.specs.LruCache.{last_entry}
use Rattle.coap_names.proofs.Given.{replaced}
use Rattle.coap_names.proofs.names.Names.name_new.Goals as goal

pub returns-then-is_over-clause-step : goal.returns-then-is_over-clause-step
returns-then-is_over-clause-step g c =
    let over = c.is_over.ensures.over c.if-is_over.true in
    let most : c.self.inside.most ≡ c.args.self.now.setup.most = ap (λ s. s.setup.most) c.self.view_is in
    let idle : length c.self.inside.idle.entries ≡ length c.args.self.now.idle =
    ap (λ s. length s.idle) c.self.view_is in
    let held : length c.self.inside.held.entries ≡ length c.args.self.now.held =
    ap (λ s. length s.held) c.self.view_is in
    let last : last_entry c.args.self.now.idle ≡ Some over.0 =
    sym (ap (λ s. last_entry s.idle) c.self.view_is) ∙ over.1 in
    replaced g.K.PartialEq.eq c.args.self.now c.args.at.0 c.args.key c.replace_last.new.self
    (record { idle = c.requires.idle; held = c.requires.held }) (omega arith) over.0 last over.2 c.replace_last.result
    c.replace_last.ensures.gives c.replace_last.ensures.err
