-- A turn of a server over a link is such calls.
use Rattle.std.proofs.Common.{◌≡◌, inl, inr, ◌<◌, ℕ, ◌+◌, ◌^◌, true, false, Option, Some, None, List}
use Rattle.std.proofs.Common.{[], ◌∷◌, ◌++◌, refl, sym, subst, arith, Result, Ok, Err}
use Rattle.std.proofs.lemmas.Nat.{mod_below}
use Rattle.std.specs.declared.alloc.AllocError.{AllocError}
use Rattle.coap_types.specs.Past.{Always, Ever}
use Rattle.coap_types.specs.declared.endpoint.Endpoint.{Endpoint}
use Rattle.coap_layer.specs.Trace as L
use Rattle.coap_links.specs.Carried.{Packet}
use Rattle.coap_links.specs.Pumping.{IsFedOrLost, SendsAll}
use Rattle.coap_links.specs.Turning.{Rests, Steps, Turns, further, next_word, none, pumped}
use Rattle.coap_links.specs.declared.driver.Pumped.{Pumped}
use Rattle.coap_links.specs.declared.tally.Tally.{Tally}
use Rattle.coap_server.specs.Led.{State}
use Rattle.coap_server.specs.Trace as S
use Rattle.coap_programs.specs.Loop.{IsOfTurn, TurnCalls, feeds, gives, ticks, waiting}
use Rattle.coap_programs.specs.Programs.{Leads}

pub leads_join : (old mid new : State) (later earlier : List S.Call) → Leads old earlier mid → Leads mid later new
    → Leads old (later ++ earlier) new
leads_join old mid new [] earlier h k = subst (Leads old earlier) (sym k) h
leads_join old mid new (c ∷ later) earlier h k = (k.0, leads_join old mid k.0 later earlier h k.1, k.2)

both : {X : Type 0} (P : X → Type 0) (later earlier : List X) → Always (λ past c. P c) later
    → Always (λ past c. P c) earlier → Always (λ past c. P c) (later ++ earlier)
both P [] earlier h k = k
both P (c ∷ later) earlier h k = (h.0, both P later earlier h.1 k)

word_in : (t : Tally) → next_word t < 2 ^ 64
word_in t = mod_below (t.word + 1) (2 ^ 64) (omega arith)

module _ {Li : Type 0} (sends : Li → Endpoint → List ℕ → Li → Type 0) (receives : Li → Option Packet → Li → Type 0)
    (faults : Li → ℕ) (quiet_feed : State → ℕ → Endpoint → List ℕ → Type 0) (quiet_tick : State → ℕ → Type 0) where
  module _ (now : ℕ) (came : Option Packet) (sent : List L.Packet) where
    abbrev IsCall : S.Call → Type 0
    IsCall c = IsOfTurn now came sent c

    record Led (old new : State) : Type 0 where
      calls : List S.Call
      leads : Leads old calls new
      each : Always (λ past c. IsCall c) calls

    led_join : (old mid new : State) → Led old mid → Led mid new → Led old new
    led_join old mid new a b = record {
      calls = b.calls ++ a.calls;
      leads = leads_join old mid new b.calls a.calls a.leads b.leads;
      each = both IsCall b.calls a.calls b.each a.each;
    }

    sent_led : (e : State) (l : Li) (ps : List L.Packet) (f : State) (m : Li)
        → ((p : L.Packet) → Ever (λ q. q ≡ p) ps → Ever (λ q. q ≡ p) sent) → SendsAll gives sends e l ps f m → Led e f
    sent_led e l [] f m all h = record { calls = []; leads = h.0; each = tt }
    sent_led e l (p ∷ ps) f m all h = led_join e h.0 f
        (record { calls = S.NextOut (Some p) ∷ []; leads = (e, refl, h.2); each = (all p (inl refl), tt) })
        (sent_led h.0 h.1 ps f m (λ q k. all q (inr k)) h.4)

    ticked_led : (e : State) (t : Tally) (g : State) (v : Tally) → Steps ticks e now t g v → Led e g
    ticked_led e t g v none = record { calls = []; leads = refl; each = tt }
    ticked_led e t g v (further h u f steps tick) = led_join e h g (ticked_led e t h u steps)
        (record {
          calls = S.Ticks now (next_word u) tick.0 tick.1 tick.2 tick.3 tick.4 tick.5 true ∷ [];
          leads = (h, refl, tick.6);
          each = ((refl, word_in u), tt);
        })

    rests_led : (g : State) (v : Tally) (f : State) (u : Tally) → Rests quiet_tick ticks g now v f u → Led g f
    rests_led g v f u (inl h) = let tick = h.0 in record {
      calls = S.Ticks now (next_word v) tick.0 tick.1 tick.2 tick.3 tick.4 tick.5 false ∷ [];
      leads = (g, refl, tick.6);
      each = ((refl, word_in v), tt);
    }
    rests_led g v f u (inr h) = record { calls = []; leads = h.1; each = tt }

  fed_led : (e : State) (now : ℕ) (came : Option Packet) (sent : List L.Packet) (t : Tally) (f : State)
      (r : Result Pumped AllocError) → IsFedOrLost quiet_feed feeds e now came (next_word t) f r → Led now came sent e f
  fed_led e now None sent t f (Ok p) h = record { calls = []; leads = h.0; each = tt }
  fed_led e now (Some q) sent t f (Ok p) h = let k = h.0 in record {
    calls = S.Feeds now q.0 q.1 (next_word t) k.0 k.1 k.2 k.3 ∷ [];
    leads = (e, refl, k.4);
    each = ((refl, word_in t, refl), tt);
  }
  fed_led e now None sent t f (Err x) h = absurd h
  fed_led e now (Some q) sent t f (Err x) h = record { calls = []; leads = h.1; each = tt }

  pub turn_calls : (e : State) (l : Li) (now : ℕ) (t : Tally) (f : State) (m : Li) (u : Tally)
      → Turns waiting gives sends receives faults quiet_feed feeds quiet_tick ticks e l now t f m u
      → TurnCalls receives e now f m
  unfolding Turns
  turn_calls e l now t f m u turn =
      let g : State = turn.0 in
      let result : Result Pumped AllocError = turn.1 in
      let pump = turn.2 in
      let out = turn.3 in
      let came : Option Packet = pump.2 in
      let sent : List L.Packet = waiting e in
      let a : Led now came sent e pump.0 = sent_led now came sent e l sent pump.0 pump.1 (λ p k. k) pump.3 in
      let b : Led now came sent pump.0 g = fed_led pump.0 now came sent t g result pump.6 in
      let c : Led now came sent g out.0 = ticked_led now came sent g (pumped result t) out.0 out.1 out.2 in
      let d : Led now came sent out.0 f = rests_led now came sent out.0 out.1 f u out.3 in
      let all : Led now came sent e f = led_join now came sent e out.0 f
      (led_join now came sent e g out.0 (led_join now came sent e pump.0 g a b) c) d in
      record {
        calls = all.calls;
        leads = all.leads;
        came = came;
        between = pump.1;
        received = pump.5;
        each = all.each;
      }
