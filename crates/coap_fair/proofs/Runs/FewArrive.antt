-- Few messages come to the message layer of the server: those that its calls are handed.
use Rattle.std.proofs.Common.{◌≡◌, ◌⊎◌, inl, inr, ◌≤◌, ℕ, ◌+◌, Bool, true, false, cond, Option, Some, None, List, []}
use Rattle.std.proofs.Common.{◌∷◌, ◌++◌, refl, ap, sym, subst, ◌∙◌, arith, append_assoc, if◌then◌else◌}
use Rattle.coap_types.proofs.Facts.Traces.{Always_back}
use Rattle.coap_types.specs.declared.endpoint.Endpoint.{Endpoint}
use Rattle.coap_codec.specs.Message.{Message}
use Rattle.coap_layer.specs.Machine.State.{State, start, made, moment, answer_of}
use Rattle.coap_layer.specs.Machine.Steps.{Asked, Steps, left_after, entries}
use Rattle.coap_layer.specs.Channel.{far_of}
use Rattle.coap_layer.specs.Taking.{FewCome, is_then, came}
use Rattle.coap_layer.specs.Trace as L
use Rattle.coap_layer.specs.Words.{Incoming, handed, handed_in, handed_by, from_there}
use Rattle.coap_layer.proofs.Facts.Calls.{steps_left}
use Rattle.coap_layer.proofs.Facts.StepsOfLayer.{steps_split}
use Rattle.coap_exchange.specs.AskerRequests.{asked}
use Rattle.coap_exchange.proofs.Facts.Adds.{entries_append}
use Rattle.coap_client.specs.Trace as C
use Rattle.coap_server.specs.Trace as S
use Rattle.coap_record.specs.Events.{Config}
use Rattle.coap_promise.specs.Hops.{hops_of}
use Rattle.coap_record.specs.Record.{Entry, Turn, entries_of, server_of, server_trace, begun_with}
use Rattle.coap_smooth.specs.Smooth as W
use Rattle.coap_smooth.specs.Smooth.{came_at, to_client, to_server, count_came}
use Rattle.coap_promise.proofs.Facts.Delivery.ClientTurns as client_turns
use Rattle.coap_promise.proofs.Facts.Delivery.EntriesInTime.{Every, Timely}
use Rattle.coap_promise.proofs.Facts.Delivery.HopsAreEntries.{server_layer, far_is}
use Rattle.coap_promise.proofs.Facts.Delivery.OneEndATurn.{ClientTurn, ServerTurn}
use Rattle.coap_record.proofs.Facts.CallsOfEnds.{server_server}
use Rattle.coap_record.proofs.Facts.CallsOfEnds.{server_client}
use Rattle.coap_promise.proofs.Facts.Delivery.ServerInTime as server
use Rattle.coap_promise.proofs.Facts.Delivery.ServerTurns as server_turns
use Rattle.coap_promise.proofs.Facts.Delivery.BothEnds.{trace_is, server_side}
use Rattle.coap_promise.proofs.Facts.Delivery.End.{End, IsGood, down, layer, layer_next, adds, all_by}
use Rattle.coap_smooth.proofs.Smoothly.Arriving.OthersTakeNone.{IsSilent, quiet_entries, Behind, Makes, makes_out}
use Rattle.coap_smooth.proofs.Smoothly.Arriving.OthersTakeNone.{makes_fed}
use Rattle.coap_smooth.proofs.Smoothly.Arriving.OthersTakeNone.{makes_none, server_call}
use Rattle.coap_smooth.proofs.Smoothly.Arriving.OthersTakeNone.{server_up}
use Rattle.coap_smooth.proofs.Smoothly.Arriving.OthersTakeNone.{server_makes}
use Rattle.coap_fair.proofs.Runs.Stands.{Stands, before, turned, side_of}

abbrev one : Bool → ℕ
one b = cond b 1 0

counts_one : (b : Bool) (n : ℕ) → cond b (1 + n) n ≤ one b + n
counts_one true n = omega arith
counts_one false n = omega arith

one_counts : (b : Bool) (m n : ℕ) → m ≤ n → one b + m ≤ cond b (1 + n) n
one_counts true m n h = omega (arith, h)
one_counts false m n h = omega (arith, h)

module _ (since : ℕ) where
  none_count : (e : L.Entry) (t : List L.Entry) → handed e ≡ None → came since (e ∷ t) ≡ came since t
  none_count e t none = go (handed e) none
    where
      go : (o : Option Incoming) → o ≡ None
          → elim o [
            | Some m ↦ (if is_then since e.at then 1 + came since t else came since t)
            | None ↦ came since t
          ]
          ≡ came since t
      go None is = refl
      go (Some m) is = absurd (cc is)

  silent_count : (adds t : List L.Entry) → Every IsSilent adds → came since (adds ++ t) ≡ came since t
  silent_count [] t h = refl
  silent_count (e ∷ adds) t h = none_count e (adds ++ t) h.0.hands ∙ silent_count adds t h.1

  received_count : (e : L.Entry) (t : List L.Entry) (from : Endpoint) (bytes : List ℕ) (up : L.Answer) (now : ℕ)
      → e.call ≡ L.Receive from bytes → e.answer ≡ up → e.at ≡ now
      → came since (e ∷ t) ≤ one (W.is_then since (came_at now up)) + came since t
  received_count e t from bytes up now call answer at =
      go (handed_by up) (handed e)
      (ap (λ c. handed_in c e.answer) call ∙ ap (λ a. handed_in (L.Receive from bytes) a) answer)
    where
      go : (o : Option Message) (p : Option Incoming) → p ≡ from_there from o
          → elim p [
            | Some m ↦ (if is_then since e.at then 1 + came since t else came since t)
            | None ↦ came since t
          ]
          ≤ one (W.is_then since (elim o [ Some m ↦ Some now | None ↦ None ])) + came since t
      go None None is = omega arith
      go None (Some m) is = absurd (cc is)
      go (Some m) None is = absurd (cc is)
      go (Some m) (Some i) is =
          subst (λ (a : ℕ). cond (is_then since a) (1 + came since t) (came since t)
          ≤ one (is_then since now) + came since t) (sym at) (counts_one (is_then since now) (came since t))

-- the answer to what is asked first
pub last_answer : (first : State) (asks before_it : List Asked) (left : State) → Steps first (asks ++ before_it) left
    → (call : L.Call) (up : L.Answer) (k : Behind call up asks)
    → (made (left_after first before_it) k.now call).answer ≡ up
last_answer first asks before_it left steps call up k =
    let parts = steps_split first left asks before_it steps in
    let old : parts.0 ≡ left_after first before_it = steps_left first before_it parts.0 parts.1 in
    let here = steps_split parts.0 left k.front (asked k.now call up ∷ [])
    (subst (λ a. Steps parts.0 a left) k.is parts.2) in
    let s = here.1.0 in
    let same : s ≡ left_after first before_it = here.1.1 ∙ old in
    let step = here.1.2 in
    sym (step.right ∙ ap (λ (z : State). answer_of z (moment z k.now call) call) same)

-- what is asked behind that counts for nothing
module _ (old : State) (asks : List Asked) (call : L.Call) (up : L.Answer) (k : Behind call up asks) where
  abbrev pub newer : List L.Entry
  newer = entries (left_after old (asked k.now call up ∷ [])) k.front

  pub parts : entries old asks ≡ newer ++ made old k.now call ∷ []
  parts = ap (entries old) k.is ∙ entries_append old k.front (asked k.now call up ∷ [])

  front_count : (since : ℕ) (t : List L.Entry) → came since (entries old asks ++ t)
      ≡ came since (made old k.now call ∷ t)
  front_count since t =
      ap (λ l. came since (l ++ t)) parts ∙ ap (came since) (append_assoc newer (made old k.now call ∷ []) t)
      ∙ silent_count since newer (made old k.now call ∷ t)
      (quiet_entries (left_after old (asked k.now call up ∷ [])) k.front k.quiet)

  oldest : (P : L.Entry → Type 0) → Every P (entries old asks) → P (made old k.now call)
  oldest P h = (Always_back (λ past e. P e) newer (made old k.now call ∷ []) (subst (Every P) parts h)).0

-- the calls of an end, of which each makes at most one message come
module _ {config : Config} {X : Type 0} (end : End config X) (call : X → L.Call) (up : X → L.Answer)
    (to : X → Option ℕ)
    (makes : (past : List X) (c : X) → Makes ((answer : _) × (c ≡ end.out answer)) (call c) (up c) (end.asks past c))
    (since t : ℕ)
    (last : (c : X) (e : L.Entry) (rest : List L.Entry) → e.call ≡ call c → e.answer ≡ up c
    → ((from : Endpoint) (bytes : List ℕ) → e.call ≡ L.Receive from bytes → e.at ≡ t) → end.IsAt t c
    → came since (e ∷ rest) ≤ one (W.is_then since (to c)) + came since rest) where
  step : (past : List X) (c : X) → IsGood end (c ∷ past) → end.IsBy t past → end.IsAt t c
      → came since (layer end (c ∷ past)) ≤ one (W.is_then since (to c)) + came since (layer end past)
  step past c good by at =
      subst (λ l. came since l ≤ one (W.is_then since (to c)) + came since (layer end past))
      (sym (layer_next end past c)) (go (makes past c))
    where
      all : List L.Entry
      all = layer end past

      old : State
      old = left_after (start end.setup) (end.asked past)

      go : Makes ((answer : _) × (c ≡ end.out answer)) (call c) (up c) (end.asks past c)
          → came since (adds end past c ++ all) ≤ one (W.is_then since (to c)) + came since all
      go (makes_out o) =
          let k : came since (adds end past c ++ all) ≡ came since all =
          ap (λ d. came since (adds end past d ++ all)) o.1
          ∙ ap (λ a. came since (entries old a ++ all)) (end.takes past o.0) in
          omega (arith, k)
      go (makes_none q) = let k = silent_count since (adds end past c) all
          (quiet_entries old (end.asks past c) q) in omega (arith, k)
      go (makes_fed k) =
          let e : L.Entry = made old k.now (call c) in
          let same = front_count old (end.asks past c) (call c) (up c) k since all in
          let times = oldest old (end.asks past c) (call c) (up c) k (Timely t (end.Fed c))
          (end.timely t past c by at) in
          let answer = last_answer (start end.setup) (end.asks past c) (end.asked past) good.0
          (subst (λ a. Steps (start end.setup) a good.0) (end.asked_next past c) good.1) (call c) (up c) k in
          let less = last c e all refl answer
          (λ from bytes is. (let a = (times.fed from bytes is).1 in let b = times.till in omega (arith, a, b))) at in
          omega (arith, same, less)

  calls : (cs past known : List X) → IsGood end (cs ++ past) → end.IsBy t past → Every (end.IsAt t) cs
      → came since (layer end past) ≤ count_came to since known
      → came since (layer end (cs ++ past)) ≤ count_came to since (cs ++ known)
  calls [] past known good by at less = less
  calls (c ∷ cs) past known good by at less =
      let rest = calls cs past known (down end (cs ++ past) c good) by at.1 less in
      let here = step (cs ++ past) c good (all_by end t cs past by at.1) at.0 in
      let whole = one_counts (W.is_then since (to c)) _ _ rest in
      omega (arith, here, whole)

module _ (since t : ℕ) where
  server_last : (c : S.Call) (e : L.Entry) (rest : List L.Entry) → e.call ≡ server_call c → e.answer ≡ server_up c
      → ((from : Endpoint) (bytes : List ℕ) → e.call ≡ L.Receive from bytes → e.at ≡ t) → server.IsAt t c
      → came since (e ∷ rest) ≤ one (W.is_then since (to_server c)) + came since rest
  server_last (S.Feeds now from bytes word up came h below) e rest call answer at is =
      received_count since e rest from bytes up now call answer (at from bytes call ∙ sym is)
  server_last (S.Refuses now from bytes word code up p response below) e rest call answer at is =
      received_count since e rest from bytes up now call answer (at from bytes call ∙ sym is)
  server_last _ e rest call answer at is =
      let k = none_count since e rest (ap (λ d. handed_in d e.answer) call) in omega (arith, k)

module _ (config : Config) (since : ℕ) where
  abbrev ServerFew : List Entry → Type 0
  ServerFew es = came since (server_layer config (server_trace config es)) ≤ count_came to_server since (server_of es)

  server_turn : (t : ℕ) (entries es : List Entry) → ClientTurn t entries ⊎ ServerTurn t entries
      → server_turns.IsGood config (server_trace config (entries ++ es))
      → server.IsBy config t (server_trace config es) → ServerFew es → ServerFew (entries ++ es)
  server_turn t entries es (inl turn) good by less =
      let cs : List C.Call = client_turns.turn_calls turn.on.outs turn.on.reports turn.calls in
      let is : server_of (entries ++ es) ≡ server_of es = ap (λ z. server_of (z ++ es)) turn.on.is ∙ server_client cs es
      in
      subst (λ s. came since (server_layer config (s ++ begun_with config)) ≤ count_came to_server since s)
      (sym is) less
  server_turn t entries es (inr turn) good by less =
      let cs : List S.Call = server_turns.turn_calls turn.on.outs turn.calls in
      let is : server_trace config (entries ++ es) ≡ cs ++ server_trace config es =
      ap (λ z. server_trace config (z ++ es)) turn.on.is ∙ trace_is config cs es in
      let own : server_of (entries ++ es) ≡ cs ++ server_of es =
      ap (λ z. server_of (z ++ es)) turn.on.is ∙ server_server cs es in
      let k = calls (server_side config) server_call server_up to_server (server_makes config) since t
      (server_last since t) cs (server_trace config es) (server_of es)
      (subst (server_turns.IsGood config) is good) by (server_turns.all_at t turn.on.outs turn.calls turn.at) less in
      let a : came since (server_layer config (server_trace config (entries ++ es)))
      ≡ came since (server_layer config (cs ++ server_trace config es)) =
      ap (λ z. came since (server_layer config z)) is in
      let b : count_came to_server since (server_of (entries ++ es)) ≡ count_came to_server since (cs ++ server_of es) =
      ap (count_came to_server since) own in
      omega (arith, a, b, k)

  server_few : (turns : List Turn) → Stands config turns → ServerFew (entries_of turns)
  server_few [] s = let k : came since (server_layer config (server_trace config [])) ≡ 0 =
      ap (came since) (sym (far_is config [])) in omega (arith, k)
  server_few (turn ∷ past) s =
      let k = turned config turn past s in
      server_turn turn.event.at turn.entries (entries_of past) (side_of config turn past s) k.good_server k.still.server
      (server_few past (before config turn past s))

pub few_at_server : (config : Config) (turns : List Turn) → Stands config turns
    → W.FewCome config.server_setup to_server (server_of (entries_of turns))
    → FewCome config.server_setup.remembered (far_of (hops_of config turns))
few_at_server config turns s few since =
    let a = server_few config since turns s in
    let b = (few since).0 in
    let c = ap (came since) (far_is config (entries_of turns)) in
    omega (arith, a, b, c)
