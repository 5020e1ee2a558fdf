-- What is so in the view of one client, is so in the run.
use Rattle.std.proofs.Common.{◌≡◌, ◌⊎◌, inl, inr, ◌≤◌, ◌+◌, ℕ, Bool, true, false, Option, Some, None, List, [], ◌∷◌}
use Rattle.std.proofs.Common.{◌++◌}
use Rattle.std.proofs.Common.{refl, ap, subst, sym, ◌∙◌, length, map}
use Rattle.std.specs.Prelude.{if◌then◌else◌}
use Rattle.coap_types.specs.Past.{Sometime, Always}
use Rattle.coap_types.specs.declared.endpoint.Endpoint.{Endpoint}
use Rattle.coap_client.specs.Trace.{Report, Done}
use Rattle.coap_record.specs.Record.{Entry, OfClient, OfServer, server_of}
use Rattle.coap_seen.specs.Applied.{Seen, AppliesSince}
use Rattle.coap_seen.specs.Calls.{Tells}
use Rattle.coap_seen.specs.Held.{Has, IsOfPath, WasSo, max_age}
use Rattle.coap_seen.specs.Many.{Client, Ends, IsOf, world_of, TurnOf, IsTagged, is_for, view, server_calls, AreRuns}
use Rattle.coap_seen.specs.Many.{SoFor}
use Rattle.coap_seen.specs.Many.{OneHistory}
use Rattle.coap_seen.specs.Runs.{Turn, Clocks, calls_of}

module _ (me : Endpoint) where
  abbrev With : Bool → TurnOf → List TurnOf → List Turn
  With b t ts = if b then t.turn ∷ view me ts else view me ts

  pub up : (P : List Turn → Turn → Type 0) (ts : List TurnOf) → Sometime P (view me ts)
      → Sometime (λ before t. (is_for me t.who ≡ true) × P (view me before) t.turn) ts
  up P [] h = absurd h
  up P (t ∷ ts) h = by (is_for me t.who) refl h (up P ts)
    where
      by : (b : Bool) → is_for me t.who ≡ b → Sometime P (With b t ts) → (Sometime P (view me ts)
          → Sometime (λ before t. (is_for me t.who ≡ true) × P (view me before) t.turn) ts)
          → Sometime (λ before t. (is_for me t.who ≡ true) × P (view me before) t.turn) (t ∷ ts)
      by true is (inl h) rest = inl (is, h)
      by true is (inr h) rest = inr (rest h)
      by false is h rest = inr (rest h)

  pub each_up : (Q : List Turn → Turn → Type 0) (ts : List TurnOf) → Always Q (view me ts)
      → Always (λ past t. is_for me t.who ≡ true → Q (view me past) t.turn) ts
  each_up Q [] h = tt
  each_up Q (t ∷ ts) h = by (is_for me t.who) refl h (each_up Q ts)
    where
      by : (b : Bool) → is_for me t.who ≡ b → Always Q (With b t ts) → (Always Q (view me ts)
          → Always (λ past t. is_for me t.who ≡ true → Q (view me past) t.turn) ts)
          → Always (λ past t. is_for me t.who ≡ true → Q (view me past) t.turn) (t ∷ ts)
      by true is h rest = ((λ for. h.0), rest h.1)
      by false is h rest = ((λ for. absurd (cc (is, for))), rest h)

  servers : (l m : List Entry) → server_of (l ++ m) ≡ server_of l ++ server_of m
  servers [] m = refl
  servers (OfClient c ∷ l) m = servers l m
  servers (OfServer c ∷ l) m = ap (λ k. c ∷ k) (servers l m)

  -- the view has all calls of the server
  pub one_history : (ts : List TurnOf) → Always (λ past t. IsTagged t.who t.turn.calls) ts
      → server_of (calls_of (view me ts)) ≡ server_calls ts
  one_history [] h = refl
  one_history (t ∷ ts) h = by t.who refl (is_for me t.who) refl h.0 (one_history ts h.1)
    where
      with_it : server_of (calls_of (view me ts)) ≡ server_calls ts
          → server_of (t.turn.calls ++ calls_of (view me ts)) ≡ server_calls (t ∷ ts)
      with_it rest = servers t.turn.calls (calls_of (view me ts)) ∙ (ap (λ k. server_of t.turn.calls ++ k) rest
          ∙ sym (servers t.turn.calls (calls_of (map (λ (t : TurnOf). t.turn) ts))))

      by : (who : Option Endpoint) → t.who ≡ who → (b : Bool) → is_for me t.who ≡ b → IsTagged t.who t.turn.calls
          → server_of (calls_of (view me ts)) ≡ server_calls ts
          → server_of (calls_of (With b t ts)) ≡ server_calls (t ∷ ts)
      by who is true for tagged rest = with_it rest
      by None is false for tagged rest =
          let e : true ≡ false = sym (ap (is_for me) is) ∙ for in
          absurd (cc e)
      by (Some w) is false for tagged rest =
          let none : server_of t.turn.calls ≡ [] = subst (λ x. IsTagged x t.turn.calls) is tagged in
          rest ∙ (ap (λ k. k ++ server_calls ts) (sym none)
          ∙ sym (servers t.turn.calls (calls_of (map (λ (t : TurnOf). t.turn) ts))))

-- from calls to turns

split : (P : List Entry → Entry → Type 0) (l m : List Entry) → Sometime P (l ++ m)
    → Sometime (λ earlier e. P (earlier ++ m) e) l ⊎ Sometime P m
split P [] m h = inr h
split P (e ∷ l) m (inl h) = inl (inl h)
split P (e ∷ l) m (inr h) = elim (split P l m h) [ inl k ↦ inl (inr k) | inr k ↦ inr k ]

to_turns : (P : List Entry → Entry → Type 0) (ts : List Turn) → Sometime P (calls_of ts)
    → Sometime (λ before t. Has P before t) ts
to_turns P [] h = absurd h
to_turns P (t ∷ ts) h = elim (split P t.calls (calls_of ts) h) [
  | inl k ↦ inl k
  | inr k ↦ inr (to_turns P ts k)
]

module _ (H : Entry → Type 0) (P : List Entry → Entry → Type 0) where
  -- in a turn, or before it
  in_turn : (l base : List Entry) → Always (λ past e. H e → Sometime P past) (l ++ base) → Sometime (λ earlier e. H e) l
      → Sometime (λ earlier e. P (earlier ++ base) e) l ⊎ Sometime P base
  in_turn [] base all h = absurd h
  in_turn (e ∷ l) base all (inl h) = elim (split P l base (all.0 h)) [ inl k ↦ inl (inr k) | inr k ↦ inr k ]
  in_turn (e ∷ l) base all (inr h) = elim (in_turn l base all.1 h) [ inl k ↦ inl (inr k) | inr k ↦ inr k ]

  rest_of : (Q : List Entry → Entry → Type 0) (l base : List Entry) → Always Q (l ++ base) → Always Q base
  rest_of Q [] base h = h
  rest_of Q (e ∷ l) base h = rest_of Q l base h.1

  pub by_turns : (ts : List Turn) → Always (λ past e. H e → Sometime P past) (calls_of ts)
      → Always (λ past t. Has (λ before e. H e) past t → Sometime (λ before t. Has P before t) (t ∷ past)) ts
  by_turns [] all = tt
  by_turns (t ∷ ts) all = (
    (λ h. elim (in_turn t.calls (calls_of ts) all h) [
      | inl k ↦ inl k
      | inr k ↦ inr (to_turns P ts k)
    ]),
    by_turns ts (rest_of (λ past e. H e → Sometime P past) t.calls (calls_of ts) all),
  )

module _ (ends : Ends) (clocks : Client → Clocks) (turns : List TurnOf) (runs : AreRuns ends clocks turns)
    (seen : (k : Client) → IsOf ends k → Seen (world_of ends k) (clocks k) (view k.at turns)) where
  points : (k : Client) → IsOf ends k → (number : ℕ) (report : Report) → IsOfPath report
      → Always (λ past t. SoFor ends clocks k (λ before e. Tells number report e) past t
      → Sometime (SoFor ends clocks k (WasSo (world_of ends k) number report)) past) turns
  points k of number report is = go turns (each_up k.at
      (λ past turn. Has (λ before e. Tells number report e) past turn → Sometime (λ before other.
      Has (WasSo (world_of ends k) number report) before other
      × ((clocks k).client (length past) ≤ (clocks k).client (length before) + max_age)) past)
      turns ((seen k of).held number report is))
    where
      go : (ts : List TurnOf) → Always (λ past t. is_for k.at t.who ≡ true
          → Has (λ before e. Tells number report e) (view k.at past) t.turn → Sometime (λ before other.
          Has (WasSo (world_of ends k) number report) before other
          × ((clocks k).client (length (view k.at past)) ≤ (clocks k).client (length before) + max_age))
          (view k.at past)) ts
          → Always (λ past t. SoFor ends clocks k (λ before e. Tells number report e) past t
          → Sometime (SoFor ends clocks k (WasSo (world_of ends k) number report)) past) ts
      go [] h = tt
      go (t ∷ ts) h = (
        (λ so. weaken ts (up k.at (λ before other. Has (WasSo (world_of ends k) number report) before other
            × ((clocks k).client (length (view k.at ts)) ≤ (clocks k).client (length before) + max_age)) ts
            (h.0 so.0 so.1))),
        go ts h.1,
      )
        where
          weaken : (us : List TurnOf) → Sometime (λ before u. (is_for k.at u.who ≡ true)
              × (Has (WasSo (world_of ends k) number report) (view k.at before) u.turn
              × ((clocks k).client (length (view k.at ts)) ≤ (clocks k).client (length (view k.at before)) + max_age)))
              us → Sometime (SoFor ends clocks k (WasSo (world_of ends k) number report)) us
          weaken [] h = absurd h
          weaken (u ∷ us) (inl h) = inl (h.0, h.1.0)
          weaken (u ∷ us) (inr h) = inr (weaken us h)

  done : (k : Client) → IsOf ends k → (number code : ℕ)
      → Always (λ past t. SoFor ends clocks k (λ before e. Tells number (Done code) e) past t
      → Sometime (SoFor ends clocks k (AppliesSince (world_of ends k) number (calls_of (view k.at turns)))) (t ∷ past))
      turns
  done k of number code = go turns (each_up k.at
      (λ past turn. Has (λ before e. Tells number (Done code) e) past turn → Sometime (λ before other.
      Has (AppliesSince (world_of ends k) number (calls_of (view k.at turns))) before other) (turn ∷ past))
      turns (by_turns (Tells number (Done code)) (AppliesSince (world_of ends k) number (calls_of (view k.at turns)))
      (view k.at turns) ((seen k of).once_done number code)))
    where
      go : (ts : List TurnOf) → Always (λ past t. is_for k.at t.who ≡ true
          → Has (λ before e. Tells number (Done code) e) (view k.at past) t.turn → Sometime (λ before other.
          Has (AppliesSince (world_of ends k) number (calls_of (view k.at turns))) before other)
          (t.turn ∷ view k.at past)) ts
          → Always (λ past t. SoFor ends clocks k (λ before e. Tells number (Done code) e) past t
          → Sometime (SoFor ends clocks k (AppliesSince (world_of ends k) number (calls_of (view k.at turns))))
          (t ∷ past)) ts
      go [] h = tt
      go (t ∷ ts) h = (
        (λ so. elim (h.0 so.0 so.1) [
          | inl k ↦ inl (so.0, k)
          | inr j ↦ inr (up k.at (λ before other.
              Has (AppliesSince (world_of ends k) number (calls_of (view k.at turns))) before other) ts j)
        ]),
        go ts h.1,
      )

  pub history : OneHistory ends clocks turns
  history = record {
    each = seen;
    one = λ k of. one_history k.at turns runs.tagged;
    points = points;
    done = done;
  }
