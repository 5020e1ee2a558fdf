use Rattle.std.proofs.Common.{◌≡◌, ◌∙◌, ◌∷◌, ◌-◌, ◌+◌, Some, length, take, ap, refl, None, cond, rules}
use Rattle.std.specs.Map.{lookup}
use Rattle.lru.specs.LruCache.{last_entry}
use Rattle.coap_types.specs.SameEndpoint.{same_endpoint}
use Rattle.coap_names.specs.Tables.{idle_at}
use Rattle.coap_names.specs.declared.names.Idle.{Idle}
use Rattle.coap_names.specs.Numbered.{numbered}
use Rattle.coap_names.proofs.Lists.{last_behind}
use Rattle.coap_names.proofs.names.Names.replace_last.Goals as goal

pub returns-clause-gives : goal.returns-clause-gives
returns-clause-gives g c gone last =
    let v = c.self.view_is in
    let given = ap (λ s. s.given) v in
    let name : c.numbered-name.result ≡ numbered c.args.self.now.given = c.numbered-name.ensures ∙ ap numbered given in
    let first : g.row.K.Denot × Idle = (c.args.key, idle_at (numbered c.args.self.now.given) c.args.at.0) in
    let then_is : c.put_first.new.idle.entries ≡ first ∷ c.args.self.now.idle =
    c.in_ok-put_first.ensures.ok ∙ (λ j. (c.args.key, idle_at (name j) c.args.at.0) ∷ (v j).idle) in
    let behind = last_behind first gone c.args.self.now.idle last in
    record {
      within = c.requires.within;
      answer_is = search rules;
      setup = ap (λ s. s.setup) v;
      clock = refl;
      given = c.count.ensures ∙ ap (λ n. n + 1) given;
      idle = c.forget_last.ensures.idle ∙ (ap (λ es. take (length es - 1) es) then_is ∙ behind.1);
      held = ap (λ s. s.held) v;
      keyed = λ n. c.put_key.ensures n ∙ (λ j. cond (same_endpoint (name j) n) (Some c.args.key)
          ((c.forget_last.ensures.keys gone (ap last_entry then_is ∙ behind.0) n
          ∙ ap (λ es. cond (same_endpoint gone.1.name n) None (lookup (same_endpoint n) es))
          (c.in_ok-make_room.ensures.entries ∙ ap (λ s. s.keys) v)) j));
    }
