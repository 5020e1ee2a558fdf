-- One life behind the other.
use Rattle.std.proofs.Common.{ℕ, Bool, Some, List, [], ◌∷◌, ◌++◌, sym, ap, ◌∙◌, subst, append_assoc}
use Rattle.coap_layer.specs.Trace.{Packet}
use Rattle.coap_server.specs.Led.{State}
use Rattle.coap_journal.specs.Records.{Record}
use Rattle.coap_replay.specs.Replaying.{Replays}
use Rattle.coap_replay.specs.Replaying as R
use Rattle.coap_journaled.specs.Journal.{Journal}
use Rattle.coap_journaled.specs.Runs.{Act, Does}
use Rattle.coap_record.specs.Record.{OfServer}
use Rattle.coap_server.specs.Trace.{NextOut}
use Rattle.coap_lives.specs.Life.{GoesFurther, Life, synced_by}
use Rattle.coap_lives.specs.Lives as V
use Rattle.coap_lives.specs.Lives.{Deed}

pub replays_then : (old between new : State) (records more : List Record) (out outs : List Packet)
    → Replays old records out between → Replays between more outs new → Replays old (records ++ more) (out ++ outs) new
replays_then old between new [] more out outs h k =
    subst (λ (s : State). Replays s more (out ++ outs) new) h.1
    (subst (λ (ps : List Packet). Replays between more (ps ++ outs) new) (sym h.0) k)
replays_then old between new (r ∷ records) more out outs h k = (
  h.0,
  h.1,
  h.2 ++ outs,
  h.3,
  ap (λ (ps : List Packet). ps ++ outs) h.4 ∙ append_assoc h.1 h.2 outs,
  replays_then h.0 between new records more h.2 outs h.5 k,
)

module _ {F : Type 0} (appends : F → List ℕ → Bool → F → Type 0) (syncs : F → Bool → F → Type 0) where
  pub each_goes : (old : List Deed) (start : Journal State F) (t : List Act) (ds : List Deed)
      (between : Journal State F)
      (acts : List Act) (new : Journal State F) → Life appends syncs old start t ds between
      → Does R.Takes R.Gives appends syncs between new acts → GoesFurther appends syncs old start t ds acts new
  each_goes old start t ds between acts new life (Does.noted input is one) = record {
    more = V.Makes (OfServer one.call) ∷ [];
    life = Life.takes t ds between new input one.call life is one.handed one.step;
  }
  each_goes old start t ds between acts new life (Does.given p is one) = record {
    more = V.Makes (OfServer (NextOut (Some p))) ∷ [];
    life = Life.gives t ds between new p life is one;
  }
  each_goes old start t ds between acts new life (Does.committed result acts' is) = record {
    more = synced_by acts;
    life = Life.commits t ds between new result acts life is;
  }
