-- The paths of the operations and observations of a client stay short.
use Rattle.std.proofs.Common.{◌≡◌, ◌⊎◌, inl, inr, ℕ, Bool, true, false, not, ◌&&◌, cond, Option, Some, None, List, ◌∷◌}
use Rattle.std.proofs.Common.{Result, ap, sym, subst, ◌∙◌}
use Rattle.std.specs.Prelude.{◌==◌}
use Rattle.coap_exchange.specs.declared.asker.AskRefusal.{AskRefusal}
use Rattle.coap_exchange.specs.declared.asker.Event.{Event}
use Rattle.coap_client.specs.Trace.{Report, Reported, NoIds}
use Rattle.coap_client.specs.Own.{Transfer, Operation, Calling, Registering, Fetching, Cancelling, Dropped, Own}
use Rattle.coap_client.specs.Observations.{token_of, dropped, over}
use Rattle.coap_client.specs.Reports.{lapse}
use Rattle.coap_client.specs.Queue.{observed}
use Rattle.coap_client.specs.Effects.{Asks, Effect, ends, of, is_upload, has_sent}
use Rattle.coap_client.specs.Events.{failed, closed}
use Rattle.coap_client.specs.Turns.Moves as mv
use Rattle.coap_client.specs.Turns.Moves.{Move, left_by}
use Rattle.coap_client_laws.proofs.Queueing.Closing.{Closing, quiet, goes_out, is_refused}
use Rattle.coap_client_laws.proofs.Turning.BlockByBlock.{AllOf, all_uncancelled}
use Rattle.coap_client_laws.proofs.Queueing.OneByOne.{asks_runs}
use Rattle.coap_exchange.proofs.Facts.AskerGoing.{asks}
use Rattle.coap_client_laws.proofs.Sending.LiveTokens.{live_failed, live_moves, same_observations}
use Rattle.coap_client_laws.proofs.Progress.RequestsSpelled.{IsShortPath, IsShortOp, AreShortPaths}

-- What waits, what runs and what is observed has options that are few.

abbrev pub IfShort : Option Operation → Type 0
IfShort None = Unit {0}
IfShort (Some op) = IsShortOp op

abbrev pub Shorts : Own → Type 0
Shorts s = AllOf IsShortOp s.queue × IfShort s.running × AreShortPaths s.observations

short_dropped : (k : ℕ) (running : Option Operation) → IfShort running → IfShort (dropped k running)
short_dropped k (Some (Calling j r t)) h = h
short_dropped k (Some (Registering j path)) h = h
short_dropped k (Some (Fetching j)) h = by (j == k)
  where
    by : (b : Bool) → IfShort (cond b (Some Dropped) (Some (Fetching j)))
    by true = tt
    by false = tt
short_dropped k _ h = tt

-- the operations, and the paths of what is observed

abbrev ShortOps : Own → Type 0
ShortOps s = AllOf IsShortOp s.queue × IfShort s.running

abbrev pub ShortPath : ℕ → List (List ℕ) → List ℕ → Type 0
ShortPath number path token = IsShortPath path

ops_held : (s : Own) (c : Bool) (report : Option Reported) → ShortOps s
    → ShortOps (ends report (cond c (record s { hold = Some s.sent }) s)).own
ops_held s true report h = (h.0, tt)
ops_held s false report h = (h.0, tt)

pub ops_over : (k : ℕ) (s : Own) → ShortOps s → ShortOps (over k s)
ops_over k s h = (all_uncancelled k IsShortOp s.queue h.0, short_dropped k s.running h.1)

ops_failed : (s : Own) (u : Transfer → Bool) (report : Report) (running : Option Operation) → ShortOps s
    → ShortOps (failed u report s running).own
ops_failed s u report None h = h
ops_failed s u report (Some (Calling k r t)) h = ops_held s (u t && is_upload t) (of k report) h
ops_failed s u report (Some (Cancelling k)) h = ops_over k (record s { running = None }) (h.0, tt)
ops_failed s u report _ h = (h.0, tt)

module _ (s : Own) (now : ℕ) (told : Option Event) where
  ran : IfShort s.running → (op : Operation) → s.running ≡ Some op → IsShortOp op
  ran h op is = subst IfShort is h

  ops_moves : ShortOps s → (mo : Move s now told) → ShortOps (left_by s now told mo).own
  ops_moves h (mv.rests un) = h
  ops_moves h (mv.copies quiet_so) = h
  ops_moves h (mv.starts_next op queue none rest first quiet_so) = let k : AllOf IsShortOp (op ∷ queue) =
      subst (AllOf IsShortOp) first h.0 in (k.1, k.0)
  ops_moves h (mv.goes_on k r tr next a hears runs asks) = (h.0, ran h.1 (Calling k r tr) runs)
  ops_moves h (mv.is_done k r tr final rep a hears runs ends_so) = ops_held s (not final && is_upload tr) (of k rep) h
  ops_moves h (mv.cancels k a hears runs) = ops_over k (record s { running = None }) (h.0, tt)
  ops_moves h (mv.fails e un) = ops_failed s (λ t. true) (lapse e) s.running h
  ops_moves h (mv.is_ended o a notes found note) = ops_over o.number s h
  ops_moves h (mv.renews o a notes found note newer) = (h.0, short_dropped o.number s.running h.1)
  ops_moves h (mv.passes_by o a notes found note newer) = h
  ops_moves h _ = (h.0, tt)

  pub shorts_moves : Shorts s → (mo : Move s now told) → Shorts (left_by s now told mo).own
  shorts_moves h mo = let ops = ops_moves (h.0, h.1) mo
      in (
        ops.0,
        ops.1,
        live_moves ShortPath s now told h.2
            (λ k path a hears runs. ran h.1 (Registering k path) runs) mo,
      )

  -- What is asked for runs; the token of a cancel is that which its observation had before.
  pub record AsksSo (e : Effect) (op : Operation) : Type 0 where
    pub runs : e.own.running ≡ Some op
    pub token : (k : ℕ) → op ≡ Cancelling k → token_of k e.own.observations ≡ token_of k s.observations

  pub asks_so : (mo : Move s now told) (op : Operation) → (left_by s now told mo).deed ≡ Asks op
      → AsksSo (left_by s now told mo) op
  asks_so mo op h = record {
    runs = asks_runs s now told mo op h;
    token = λ k is. by k is (same_observations s now told mo op h);
  }
    where
      by : (k : ℕ) → op ≡ Cancelling k → ((left_by s now told mo).own.observations ≡ s.observations)
          ⊎ ((j : ℕ) × (op ≡ Fetching j)) → token_of k (left_by s now told mo).own.observations
          ≡ token_of k s.observations
      by k is (inl same) = ap (token_of k) same
      by k is (inr f) = absurd (let z : Cancelling k ≡ Fetching f.0 = sym is ∙ f.1 in cc z)

shorts_failed : (s : Own) (u : Transfer → Bool) (report : Report) (running : Option Operation) → Shorts s
    → Shorts (failed u report s running).own
shorts_failed s u report running h = let ops =
    ops_failed s u report running (h.0, h.1) in (ops.0, ops.1, live_failed ShortPath s u report running h.2)

pub shorts_closed : (now : ℕ) (e : Effect) (token : Result (List ℕ) AskRefusal) → Shorts e.own → Closing now e token
    → Shorts (closed now e e.deed token).own
shorts_closed now e token z (quiet q none own_same report_same) = subst Shorts (sym own_same) z
shorts_closed now e token z (goes_out op key asks given sends_it own_same report_same) = subst Shorts (sym own_same) z
shorts_closed now e token z (is_refused op why asks given none all) =
    subst (λ (c : Effect). Shorts c.own) (sym all) (shorts_failed e.own has_sent NoIds (Some op) z)
