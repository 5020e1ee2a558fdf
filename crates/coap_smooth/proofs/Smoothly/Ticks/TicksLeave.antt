-- The ticks of a turn end with one that leaves nothing that can be answered.
use Rattle.std.proofs.Common.{◌≡◌, inl, inr, ⊎_elim, ℕ, true, false, Some, None, List, [], ◌∷◌, ◌++◌, map, ap, sym}
use Rattle.std.proofs.Common.{subst}
use Rattle.std.proofs.Common.{◌∙◌, append_assoc}
use Rattle.coap_types.specs.Past.{Always}
use Rattle.coap_types.proofs.Facts.Traces.{Always_back}
use Rattle.coap_block.specs.Whole.{Each}
use Rattle.coap_server_laws.specs.Follows.Begins.{NoneLeft}
use Rattle.coap_server.specs.Follows.Rests.{IsTick}
use Rattle.coap_server.specs.Trace as S
use Rattle.coap_server_laws.proofs.Facts.Laws as server_facts
use Rattle.coap_record.specs.Events.{Config}
use Rattle.coap_record.specs.Record.{Entry, Turn, AreTicks, OnServer, ServerTick, Makes, begun_with, entries_of}
use Rattle.coap_record.specs.Record.{server_of}
use Rattle.coap_record.specs.Record.{server_trace}
use Rattle.coap_smooth.specs.TicksLeave.{IsNoFeed, LeavesNone, TicksLeaveNone}
use Rattle.coap_record.proofs.Facts.CallsOfEnds.{server_server}
use Rattle.coap_smooth.proofs.Smoothly.Ticks.NothingIsLeft.{AllMade, ForServer, server_behind}

each_is : (at word : ℕ) (calls : List S.Call) → Always (λ past b. ServerTick at word true b) calls
    → Each (IsTick at true) calls
each_is at word [] h = tt
each_is at word (c ∷ calls) h =
    ((word, h.0.0, h.0.1, h.0.2, h.0.3, h.0.4, h.0.5, h.0.6), each_is at word calls h.1)

outs_in : (outs : List _) (c : S.Call) → IsNoFeed c
    → Each IsNoFeed ((S.NextOut None ∷ map (λ p. S.NextOut (Some p)) outs) ++ c ∷ [])
outs_in outs c h = (tt, taken outs)
  where
    taken : (ps : List _) → Each IsNoFeed (map (λ p. S.NextOut (Some p)) ps ++ c ∷ [])
    taken [] = (h, tt)
    taken (p ∷ ps) = (tt, taken ps)

module _ (config : Config) (past : List Entry) (entries : List Entry) (at word : ℕ)
    (law : ForServer config (entries ++ past)) where
  abbrev t : List S.Call
  t = server_trace config past

  leaves : (calls : List S.Call) → AreTicks (ServerTick at word) false calls → OnServer calls entries
      → LeavesNone config at t (server_trace config (entries ++ past))
  leaves [] ticks on = absurd ticks
  leaves (c ∷ earlier) ticks on =
      let outs : List S.Call = S.NextOut None ∷ map (λ p. S.NextOut (Some p)) on.outs in
      let all : List S.Call = outs ++ (c ∷ earlier) in
      let made : server_of (entries ++ past) ≡ all ++ server_of past =
      ap (λ z. server_of (z ++ past)) on.is ∙ server_server all past in
      let is : server_trace config (entries ++ past) ≡ outs ++ (c ∷ (earlier ++ t)) =
      ap (λ l. l ++ begun_with config) made ∙ append_assoc all (server_of past) (begun_with config)
      ∙ append_assoc outs (c ∷ earlier) t in
      let left = (Always_back _ outs (c ∷ (earlier ++ t)) (subst
      (NoneLeft config.limits config.server_szx config.server_setup) is
      (server_facts.none_left config.limits config.server_szx config.server_setup
      (server_trace config (entries ++ past))
      law))).0 at
      (word, ticks.0.0, ticks.0.1, ticks.0.2, ticks.0.3, ticks.0.4, ticks.0.5, ticks.0.6) in
      record {
        later = outs ++ c ∷ [];
        ticks = earlier;
        is = is ∙ sym (append_assoc outs (c ∷ []) (earlier ++ t));
        each = each_is at word earlier ticks.1;
        none_in = outs_in on.outs c (subst IsNoFeed (sym ticks.0.6) tt);
        none = ⊎_elim (λ n. inl n) (λ k. inr k.0) left;
      }

pub ticks_leave : (config : Config) (turns : List Turn) → AllMade config.addresses turns
    → ForServer config (entries_of turns)
    → TicksLeaveNone config turns
ticks_leave config [] made law = tt
ticks_leave config (turn ∷ past) made law = (
  λ what whole. (let m = subst (λ w. Makes config.addresses past turn.event.at turn.event.word w turn.refused
      turn.entries) what made.0 in
      let ticks = subst (λ r. AreTicks (ServerTick turn.event.at turn.event.word) r m.0) whole m.1 in
      leaves config (entries_of past) turn.entries turn.event.at turn.event.word law m.0 ticks m.2),
  ticks_leave config past made.1 (server_behind config turn.entries (entries_of past) law),
)
