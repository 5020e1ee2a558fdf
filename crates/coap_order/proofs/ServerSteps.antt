-- What a server does depends on no datagram that waits.
use Rattle.std.proofs.Common.{◌≡◌, ℕ, Bool, true, false, Option, Some, None, List, [], ◌∷◌, ◌++◌, refl, ap, sym, ◌∙◌}
use Rattle.std.proofs.Common.{subst, drop, slice_get, suc, zero}
use Rattle.coap_codec.specs.Message.{Message}
use Rattle.coap_layer.specs.Trace.{Packet}
use Rattle.coap_layer.specs.Trace as T
use Rattle.coap_layer.specs.Machine.State as L
use Rattle.coap_layer.specs.Machine.Steps.{Asked as Below, Steps}
use Rattle.coap_layer.proofs.Facts.StepsOfLayer.{steps_split}
use Rattle.coap_layer.specs.declared.setup.Setup.{Setup}
use Rattle.coap_resource.specs.Limits.{Limits}
use Rattle.coap_observe.specs.Observers.{Observer}
use Rattle.coap_exchange.specs.Above.{sum_of}
use Rattle.coap_exchange.proofs.Facts.Above.{asked_append, rows_back, rows_front, sum_append}
use Rattle.coap_exchange.specs.declared.answerer.Asked.{Asked}
use Rattle.coap_exchange.specs.declared.answerer.Due.{Due}
use Rattle.coap_exchange.specs.declared.answerer.Due.TheVariants as due
use Rattle.coap_exchange.specs.AnswererLaw as X
use Rattle.coap_exchange.specs.AnswererSteps as P
use Rattle.coap_exchange.specs.AnswererTrace as E
use Rattle.coap_server.specs.Asks.{answering, lower, notifies_by, responding}
use Rattle.coap_server.specs.Deferring.{deferral_by}
use Rattle.coap_server.specs.Handling.{heard, incoming, ticking}
use Rattle.coap_server.specs.Law.{ServerLaw, lower_of, own_of}
use Rattle.coap_server.specs.Led.{Led, State, Step, exchanges_of}
use Rattle.coap_server.specs.Notifying.{marked, readies}
use Rattle.coap_server.specs.Refusing.{refusing}
use Rattle.coap_server.specs.Steps.{after}
use Rattle.coap_server.specs.Trace.{Call, Delays, Feeds, Forgets, Gets, Handling, NextOut, Notifies, Own, Plains}
use Rattle.coap_server.specs.Trace.{Refuses, Removes, Replies, Serves, Sets, Silent, TellsApplied, Ticks, Waits}
use Rattle.coap_server.proofs.Facts.Exact.Leads.{exchanges_kept}
use Rattle.coap_order.specs.Inputs.{is_server_input}
use Rattle.coap_order.specs.Queue.{with_queue}
use Rattle.coap_order.proofs.ServerChains.{NoTakes, chain_of, neat_chain, no_both, puts}
use Rattle.coap_order.proofs.Waiting.{IsNeat, taken, takes}

-- no input takes a datagram

no_deferral : (delay : Option ℕ) (place : Bool) (at : ℕ) (a : Asked) → NoTakes (deferral_by delay place at a)
no_deferral None place at a = tt
no_deferral (Some delay) place at a = (refl, tt)

no_answers : (s : Own) (came : Option (Asked × Message)) (h : Handling) (below : T.Answer)
    → NoTakes (answering s came h below)
no_answers s None Silent below = tt
no_answers s None (Replies r) below = tt
no_answers s None (Serves q reply left) below = tt
no_answers s None (Waits q delay) below = tt
no_answers s None (Notifies o reply) below = tt
no_answers s (Some p) Silent below = tt
no_answers s (Some p) (Replies r) below = (refl, tt)
no_answers s (Some p) (Serves q reply left) below = (refl, no_deferral _ _ _ _)
no_answers s (Some p) (Waits q delay) below = no_deferral _ _ _ _
no_answers s (Some p) (Notifies o reply) below = tt

no_readies : (at passed : ℕ) (os : List Observer) → NoTakes (readies at passed os)
no_readies at passed [] = tt
no_readies at zero (o ∷ os) = (refl, tt)
no_readies at (suc passed) (o ∷ os) = no_both (readies at passed os) _ (no_readies at passed os) (refl, tt)

no_notice : (plain : Bool) (at : ℕ) (o : Observer) (r : E.Response) (word id : ℕ) (calls : List E.Call) → NoTakes calls
    → NoTakes (notifies_by plain at o r word id ∷ calls)
no_notice true at o r word id calls h = (refl, h)
no_notice false at o r word id calls h = (refl, h)

no_responds : (s : Own) (d : Due) (passed : ℕ) (h : Handling) (word id : ℕ) → NoTakes (responding s d passed h word id)
no_responds s (due.Ready a) passed (Serves q reply left) word id = (refl, tt)
no_responds s (due.Ready a) passed Silent word id = tt
no_responds s (due.Ready a) passed (Replies r) word id = tt
no_responds s (due.Ready a) passed (Waits q delay) word id = tt
no_responds s (due.Ready a) passed (Notifies o reply) word id = tt
no_responds s due.Idle passed (Notifies o reply) word id = no_notice _ _ o _ word id _
    (no_readies s.clock passed (marked s.observers))
no_responds s due.Idle passed Silent word id = no_readies s.clock passed (marked s.observers)
no_responds s due.Idle passed (Replies r) word id = no_readies s.clock passed (marked s.observers)
no_responds s due.Idle passed (Serves q reply left) word id = no_readies s.clock passed (marked s.observers)
no_responds s due.Idle passed (Waits q delay) word id = no_readies s.clock passed (marked s.observers)
no_responds s due.Copied passed h word id = tt
no_responds s due.Expired passed h word id = tt

no_refusal : (a : Asked) (response : Option ℕ) (below : T.Answer) → NoTakes (refusing a response below)
no_refusal a None below = tt
no_refusal a (Some code) below = (refl, tt)

pub no_take : (s : Own) (c : Call) → is_server_input c ≡ true → NoTakes (lower s c)
no_take s (Sets now path format body answer left) e = tt
no_take s (Removes now path answer left) e = tt
no_take s (Delays path ms answer) e = tt
no_take s (Plains path answer) e = tt
no_take s (Feeds now from bytes word up came h below) e =
    no_both (answering (heard s now (incoming s now from bytes up came)) came h below) _
    (no_answers (heard s now (incoming s now from bytes up came)) came h below) (refl, tt)
no_take s (Refuses now from bytes word code up p response below) e =
    no_both (refusing p.0 response below) _ (no_refusal p.0 response below) (refl, tt)
no_take s (Ticks now word below room d passed h id answer) e =
    no_both (responding (heard s now (ticking s now below room d)) d passed h word id) _
    (no_responds (heard s now (ticking s now below room d)) d passed h word id) (refl, tt)
no_take s (NextOut answer) e = absurd (cc e)
no_take s (Gets path answer) e = absurd (cc e)
no_take s (TellsApplied answer) e = absurd (cc e)
no_take s (Forgets peer) e = (refl, tt)

-- the same server, with these datagrams waiting
abbrev pub waits : List Packet → State → State
waits q s = record s { layer = with_queue q s.layer }

-- an input: it does the same whatever waits, and puts what it makes behind that
pub record Puts (old : State) (c : Call) (new : State) (o : List Packet) : Type 0 where
  pub behind : new.layer.queue ≡ old.layer.queue ++ o
  pub any : (q : List Packet) → Step (waits q old) c (waits (q ++ o) new)

pub input_puts : (old new : State) (c : Call) → is_server_input c ≡ true → Step old c new
    → (o : List Packet) × Puts old c new o
input_puts old new c input h =
    let k = puts (exchanges_of old) (exchanges_of new) (lower old.own c) (no_take old.own c input) h.under in (
      k.0,
      record {
        behind = k.1.behind;
        any = λ q. record { right = h.right; own_is = h.own_is; under = k.1.any q };
      },
    )

pub neat_step : (old new : State) (c : Call) → IsNeat old.layer → Step old c new → IsNeat new.layer
neat_step old new c neat h = neat_chain (exchanges_of old) (exchanges_of new) (lower old.own c) neat h.under

-- a taking, and that it can be done

pub given : (old new : State) (p : Option Packet) → IsNeat old.layer → Step old (NextOut p) new
    → (p ≡ slice_get old.layer.queue 0) × (new ≡ waits (drop 1 old.layer.queue) old)
given old new p neat h =
    let between : X.State = h.under.0 in
    let same : between ≡ exchanges_of old = h.under.1 in
    let steps = h.under.2.under in
    let k = taken old.layer new.layer p neat
    (subst (λ (l : L.State). L.Step l 0 T.Take (T.Gives p) new.layer)
    (steps.1 ∙ ap (λ (x : X.State). x.layer) same) steps.2) in (
      k.0,
      ap (λ (o : Own). record { own = o; layer = new.layer }) h.own_is
          ∙ ap (λ (l : L.State). record { own = old.own; layer = l }) k.1,
    )

pub gives : (s : State) (p : Packet) (q : List Packet) → IsNeat s.layer
    → Step (waits (p ∷ q) s) (NextOut (Some p)) (waits q s)
gives s p q neat = record {
  right = tt;
  own_is = refl;
  under = (
    exchanges_of (waits (p ∷ q) s),
    refl,
    record {
      right = tt;
      own_is = refl;
      under = (with_queue (p ∷ q) s.layer, refl, takes (with_queue (p ∷ q) s.layer) (ap (with_queue (p ∷ q)) neat));
    },
  );
}

pub gives_none : (s : State) → IsNeat s.layer → Step (waits [] s) (NextOut None) (waits [] s)
gives_none s neat = record {
  right = tt;
  own_is = refl;
  under = (
    exchanges_of (waits [] s),
    refl,
    record {
      right = tt;
      own_is = refl;
      under = (with_queue [] s.layer, refl, takes (with_queue [] s.layer) (ap (with_queue []) neat));
    },
  );
}

-- what only looks leaves the server as it is

pub looks_gets : (old new : State) (path : List (List ℕ)) (answer : Option _) → Step old (Gets path answer) new
    → new ≡ old
looks_gets old new path answer h = ap (λ (o : Own). record { own = o; layer = new.layer }) h.own_is
    ∙ ap (λ (x : X.State). record { own = old.own; layer = x.layer }) h.under

pub looks_applied : (old new : State) (answer : List _) → Step old (TellsApplied answer) new → new ≡ old
looks_applied old new answer h = ap (λ (o : Own). record { own = o; layer = new.layer }) h.own_is
    ∙ ap (λ (x : X.State). record { own = old.own; layer = x.layer }) h.under

-- the call before: where it led from, and that it was a step
module _ (limits : Limits) (szx : ℕ) (setup : Setup) where
  pub record Before (c : Call) (t : List Call) : Type 0 where
    pub old : State
    pub new : State
    pub led : Led limits szx setup t old
    pub step : Step old c new

  pub before : (c : Call) (t : List Call) → ServerLaw limits szx setup (c ∷ t) → Before c t
  before c t law =
      let own : Own = own_of limits szx t in
      let later : List E.Call = lower own c in
      let first : List E.Call = lower_of limits szx t in
      let k = steps_split (L.start setup) law.exchanges.left _ (X.lower_of first)
      (subst (λ (asks : List Below). Steps (L.start setup) asks law.exchanges.left)
      (asked_append E.start P.after P.lower later first) law.exchanges.layer) in
      let kept : own.exchanges ≡ X.own_of first = exchanges_kept limits szx t in
      let then : (after own c).exchanges ≡ sum_of (X.own_of first) P.after later =
      exchanges_kept limits szx (c ∷ t) ∙ sum_append E.start P.after later first in
      record {
        old = record { own = own; layer = k.0 };
        new = record { own = after own c; layer = law.exchanges.left };
        led = record {
          rows = law.rows.1;
          own_is = refl;
          exchanges = record {
            rows = rows_back E.start P.after P.IsRight later first law.exchanges.rows;
            own_is = kept;
            layer = k.1;
          };
        };
        step = record {
          right = law.rows.0;
          own_is = refl;
          under = subst (λ (o : E.Own). X.Exchanged (record { own = o; layer = k.0 }) later
              (record { own = (after own c).exchanges; layer = law.exchanges.left })) (sym kept)
              (subst (λ (o : E.Own). X.Exchanged (record { own = X.own_of first; layer = k.0 }) later
              (record { own = o; layer = law.exchanges.left })) (sym then)
              (chain_of (X.own_of first) k.0 law.exchanges.left later
              (rows_front E.start P.after P.IsRight later first law.exchanges.rows) k.2));
        };
      }
