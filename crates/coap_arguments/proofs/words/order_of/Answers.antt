use Rattle.std.proofs.Common.{refl, inl, inr, ◌≡◌, ℕ, List, codes}
use Rattle.coap_arguments.proofs.ClapWords.{enters_met, ours, said_by, wrong_by, show_hex, answer_hex, answer_path}
use Rattle.coap_arguments.proofs.ClapWords.{answer_body, pair_body, pair_path, serve_port, server_port}
use Rattle.coap_arguments.proofs.ClapWords.{IsOurs, refused_by_clap, sim_file}
use Rattle.coap_arguments.specs.Asking.{IsAsk}
use Rattle.coap_arguments.proofs.words.order_of.Goals as goal

pub show_order-requires : goal.show_order-requires
show_order-requires c =
    let enters = enters_met _ c.in_ok-coap_command.ensures _ _ c.in_ok-matches.ensures.matches
    c.in_ok-matches.ensures.kinds _ _ _ c.in-show.is c.in-Some.ensures.name c.in-Some.ensures.rows in
    show_hex _ _ enters

pub returns-in-show : goal.returns-in-show
returns-in-show c =
    let enters = enters_met _ c.in_ok-coap_command.ensures _ _ c.in_ok-matches.ensures.matches
    c.in_ok-matches.ensures.kinds _ _ _ c.in-show.is c.in-Some.ensures.name c.in-Some.ensures.rows in
    record {
      ok = said_by _ _ _ c.show_order.result enters c.show_order.ensures;
      wrong = wrong_by _ _ _ c.show_order.result enters c.show_order.ensures;
    }

pub returns-in-dump : goal.returns-in-dump
returns-in-dump c =
    let enters = enters_met _ c.in_ok-coap_command.ensures _ _ c.in_ok-matches.ensures.matches
    c.in_ok-matches.ensures.kinds _ _ _ c.in-dump.is c.in-Some.ensures.name c.in-Some.ensures.rows in
    record {
      ok = said_by _ _ _ c.dump_order.result enters c.dump_order.ensures;
      wrong = wrong_by _ _ _ c.dump_order.result enters c.dump_order.ensures;
    }

pub answer_order-requires : goal.answer_order-requires
answer_order-requires c =
    let enters = enters_met _ c.in_ok-coap_command.ensures _ _ c.in_ok-matches.ensures.matches
    c.in_ok-matches.ensures.kinds _ _ _ c.in-answer.is c.in-Some.ensures.name c.in-Some.ensures.rows in
    record { path = answer_path _ _ enters; body = answer_body _ _ enters; hex = answer_hex _ _ enters }

pub returns-in-answer : goal.returns-in-answer
returns-in-answer c =
    let enters = enters_met _ c.in_ok-coap_command.ensures _ _ c.in_ok-matches.ensures.matches
    c.in_ok-matches.ensures.kinds _ _ _ c.in-answer.is c.in-Some.ensures.name c.in-Some.ensures.rows in
    record {
      ok = said_by _ _ _ c.answer_order.result enters c.answer_order.ensures;
      wrong = wrong_by _ _ _ c.answer_order.result enters c.answer_order.ensures;
    }

pub pair_order-requires : goal.pair_order-requires
pair_order-requires c =
    let enters = enters_met _ c.in_ok-coap_command.ensures _ _ c.in_ok-matches.ensures.matches
    c.in_ok-matches.ensures.kinds _ _ _ c.in-pair.is c.in-Some.ensures.name c.in-Some.ensures.rows in
    record { path = pair_path _ _ enters; body = pair_body _ _ enters }

pub returns-in-pair : goal.returns-in-pair
returns-in-pair c =
    let enters = enters_met _ c.in_ok-coap_command.ensures _ _ c.in_ok-matches.ensures.matches
    c.in_ok-matches.ensures.kinds _ _ _ c.in-pair.is c.in-Some.ensures.name c.in-Some.ensures.rows in
    record {
      ok = said_by _ _ _ c.pair_order.result enters c.pair_order.ensures;
      wrong = wrong_by _ _ _ c.pair_order.result enters c.pair_order.ensures;
    }

pub serve_order-requires : goal.serve_order-requires
serve_order-requires c =
    let enters = enters_met _ c.in_ok-coap_command.ensures _ _ c.in_ok-matches.ensures.matches
    c.in_ok-matches.ensures.kinds _ _ _ c.in-serve.is c.in-Some.ensures.name c.in-Some.ensures.rows in
    serve_port _ _ enters

pub returns-in-serve : goal.returns-in-serve
returns-in-serve c =
    let enters = enters_met _ c.in_ok-coap_command.ensures _ _ c.in_ok-matches.ensures.matches
    c.in_ok-matches.ensures.kinds _ _ _ c.in-serve.is c.in-Some.ensures.name c.in-Some.ensures.rows in
    record {
      ok = said_by _ _ _ c.serve_order.result enters c.serve_order.ensures;
      wrong = wrong_by _ _ _ c.serve_order.result enters c.serve_order.ensures;
    }

pub sim_order-requires : goal.sim_order-requires
sim_order-requires c =
    let enters = enters_met _ c.in_ok-coap_command.ensures _ _ c.in_ok-matches.ensures.matches
    c.in_ok-matches.ensures.kinds _ _ _ c.in-sim.is c.in-Some.ensures.name c.in-Some.ensures.rows in
    sim_file _ _ enters

pub returns-in-sim : goal.returns-in-sim
returns-in-sim c =
    let enters = enters_met _ c.in_ok-coap_command.ensures _ _ c.in_ok-matches.ensures.matches
    c.in_ok-matches.ensures.kinds _ _ _ c.in-sim.is c.in-Some.ensures.name c.in-Some.ensures.rows in
    record {
      ok = said_by _ _ _ c.sim_order.result enters c.sim_order.ensures;
      wrong = wrong_by _ _ _ c.sim_order.result enters c.sim_order.ensures;
    }

pub discover_order-requires : goal.discover_order-requires
discover_order-requires c =
    let enters = enters_met _ c.in_ok-coap_command.ensures _ _ c.in_ok-matches.ensures.matches
    c.in_ok-matches.ensures.kinds _ _ _ c.in-discover.is c.in-Some.ensures.name c.in-Some.ensures.rows in
    server_port _ _ _ (inr (inl refl)) enters

pub returns-in-discover : goal.returns-in-discover
returns-in-discover c =
    let enters = enters_met _ c.in_ok-coap_command.ensures _ _ c.in_ok-matches.ensures.matches
    c.in_ok-matches.ensures.kinds _ _ _ c.in-discover.is c.in-Some.ensures.name c.in-Some.ensures.rows in
    record {
      ok = said_by _ _ _ c.discover_order.result enters c.discover_order.ensures;
      wrong = wrong_by _ _ _ c.discover_order.result enters c.discover_order.ensures;
    }

pub ping_order-requires : goal.ping_order-requires
ping_order-requires c =
    let enters = enters_met _ c.in_ok-coap_command.ensures _ _ c.in_ok-matches.ensures.matches
    c.in_ok-matches.ensures.kinds _ _ _ c.in-ping.is c.in-Some.ensures.name c.in-Some.ensures.rows in
    server_port _ _ _ (inl refl) enters

pub returns-in-ping : goal.returns-in-ping
returns-in-ping c =
    let enters = enters_met _ c.in_ok-coap_command.ensures _ _ c.in_ok-matches.ensures.matches
    c.in_ok-matches.ensures.kinds _ _ _ c.in-ping.is c.in-Some.ensures.name c.in-Some.ensures.rows in
    record {
      ok = said_by _ _ _ c.ping_order.result enters c.ping_order.ensures;
      wrong = wrong_by _ _ _ c.ping_order.result enters c.ping_order.ensures;
    }

pub returns-in_err-matches-clause-wrong : goal.returns-in_err-matches-clause-wrong
returns-in_err-matches-clause-wrong c =
    refused_by_clap _ c.in_ok-coap_command.ensures _ _ _ c.requires c.from_residual-in_err-matches.ensures.1
    c.in_err-matches.ensures.kinds

is_ask : (name : List ℕ) → IsOurs name → (name ≡ codes "show" → ⊥) → (name ≡ codes "answer" → ⊥)
    → (name ≡ codes "pair" → ⊥) → (name ≡ codes "serve" → ⊥) → (name ≡ codes "sim" → ⊥) → (name ≡ codes "dump" → ⊥)
    → (name ≡ codes "discover" → ⊥) → (name ≡ codes "ping" → ⊥) → IsAsk name
is_ask name (inl is) a b c d e f g h = absurd (a is)
is_ask name (inr (inl is)) a b c d e f g h = absurd (b is)
is_ask name (inr (inr (inl is))) a b c d e f g h = absurd (c is)
is_ask name (inr (inr (inr (inl is)))) a b c d e f g h = absurd (d is)
is_ask name (inr (inr (inr (inr (inl is))))) a b c d e f g h = absurd (e is)
is_ask name (inr (inr (inr (inr (inr (inl is)))))) a b c d e f g h = absurd (f is)
is_ask name (inr (inr (inr (inr (inr (inr (inl is))))))) a b c d e f g h = absurd (h is)
is_ask name (inr (inr (inr (inr (inr (inr (inr (inl is)))))))) a b c d e f g h = absurd (g is)
is_ask name (inr (inr (inr (inr (inr (inr (inr (inr is)))))))) a b c d e f g h = is

pub ask_order-requires : goal.ask_order-requires
ask_order-requires c =
    let enters = enters_met _ c.in_ok-coap_command.ensures _ _ c.in_ok-matches.ensures.matches
    c.in_ok-matches.ensures.kinds _ _ _ refl c.in-Some.ensures.name c.in-Some.ensures.rows in
    let d = c.in_default-subcommand in
    let ask = is_ask _ (ours _ _ _ enters) d.not-show d.not-answer d.not-pair d.not-serve d.not-sim
    d.not-dump d.not-discover d.not-ping in
    record {
      name = ask;
      port = server_port _ _ _ (inr (inr ask)) enters;
    }

pub returns : goal.returns
returns c =
    let enters = enters_met _ c.in_ok-coap_command.ensures _ _ c.in_ok-matches.ensures.matches
    c.in_ok-matches.ensures.kinds _ _ _ refl c.in-Some.ensures.name c.in-Some.ensures.rows in
    record {
      ok = said_by _ _ _ c.ask_order.result enters c.ask_order.ensures;
      wrong = wrong_by _ _ _ c.ask_order.result enters c.ask_order.ensures;
    }
