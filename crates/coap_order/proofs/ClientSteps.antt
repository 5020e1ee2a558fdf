-- What a client does depends on no datagram and no report that waits.
use Rattle.std.proofs.Common.{◌≡◌, ℕ, Bool, true, false, Option, Some, None, List, [], ◌∷◌, ◌++◌, refl, ap, sym, ◌∙◌}
use Rattle.std.proofs.Common.{subst, drop, slice_get, option_to_list, Result, Ok}
use Rattle.coap_types.specs.declared.endpoint.Endpoint.{Endpoint}
use Rattle.coap_layer.specs.Trace.{Packet}
use Rattle.coap_layer.specs.Trace as T
use Rattle.coap_layer.specs.Machine.State as L
use Rattle.coap_layer.specs.declared.setup.Setup.{Setup}
use Rattle.coap_block.specs.Sizes.{Sizes}
use Rattle.coap_exchange.specs.AskerLaw as X
use Rattle.coap_exchange.specs.AskerTrace as E
use Rattle.coap_exchange.specs.declared.asker.AskRefusal.{AskRefusal}
use Rattle.coap_client.specs.Deeds.{close, deeds, done_for, effect, forgets}
use Rattle.coap_client.specs.Effects.{Asks, Deed, Effect, Keeps, Releases, Rests}
use Rattle.coap_exchange.proofs.Facts.ClientSide.{exchanged_split}
use Rattle.coap_client.specs.Law.{ClientLaw, lower_of, own_of}
use Rattle.coap_client.specs.Led.{Led, State, Step}
use Rattle.coap_client.specs.Own.{Own}
use Rattle.coap_client.specs.Steps.{after, lower, reports}
use Rattle.coap_client.specs.Trace as C
use Rattle.coap_client.specs.Trace.{Call, Calls, Cancels, Feeds, Forgets, NextOut, NextReport, Observes, Reported}
use Rattle.coap_client.specs.Trace.{Ticks}
use Rattle.coap_order.specs.Inputs.{is_client_input, stay_by}
use Rattle.coap_order.specs.Queue.{with_queue}
use Rattle.coap_order.proofs.ClientChains as chains
use Rattle.coap_order.proofs.ClientChains.{NoTakes, chain_of, neat_chain, no_both, puts}
use Rattle.coap_order.proofs.ClientReports.{after_told, lower_same, reports_then, right_same, told}
use Rattle.coap_order.proofs.Waiting.{IsNeat, taken, takes}

-- no input takes a datagram

no_deeds : (d : Deed) (s : Own) (now word : ℕ) (sent : T.Answer) (token : Result (List ℕ) AskRefusal) (kept : Bool)
    → NoTakes (deeds d s now word sent token kept)
no_deeds Rests s now word sent token kept = tt
no_deeds (Asks op) s now word sent token kept = (refl, tt)
no_deeds (Keeps t) s now word sent token kept = (refl, tt)
no_deeds (Releases t) s now word sent token kept = (refl, tt)

no_done : (e : Effect) (now word : ℕ) (sent : T.Answer) (token : Result (List ℕ) AskRefusal) (kept : Bool)
    (input : E.Call) → chains.is_take input ≡ false → NoTakes (done_for e now word sent token kept input)
no_done e now word sent token kept input none =
    let c : Effect = close now e token in
    no_both (deeds c.deed c.own now word sent token kept) _ (no_deeds c.deed c.own now word sent token kept)
    (no_both (deeds e.deed e.own now word sent token kept) _ (no_deeds e.deed e.own now word sent token kept)
    (none, tt))

pub no_take : (s : Own) (c : Call) → is_client_input c ≡ true → NoTakes (lower s c)
no_take s (Calls now r answer) e = tt
no_take s (Observes now path answer) e = tt
no_take s (Cancels now number answer) e = tt
no_take s (Forgets number kept answer) e = no_deeds (forgets answer number s) s 0 0 T.Nothing (Ok []) kept
no_take s (Feeds now from bytes word up settled event sent token kept) e =
    no_done (effect s (Feeds now from bytes word up settled event sent token kept)) _ word sent token kept _ refl
no_take s (Ticks now word below t sent token kept answer) e =
    no_done (effect s (Ticks now word below t sent token kept answer)) _ word sent token kept _ refl
no_take s (NextOut answer) e = absurd (cc e)
no_take s (NextReport answer) e = absurd (cc e)
no_take s (C.Asked answer) e = absurd (cc e)

-- the same client, with these reports and these datagrams waiting
abbrev pub waits : List Reported → List Packet → State → State
waits r q s = record { own = told r s.own; layer = chains.waits q s.layer }

-- an input: it does the same whatever waits, and puts what it makes behind that
pub record Puts (old : State) (c : Call) (new : State) (o : List Packet) : Type 0 where
  pub behind : new.layer.layer.queue ≡ old.layer.layer.queue ++ o
  pub told_is : new.own.reports ≡ stay_by c old.own.reports ++ option_to_list (reports old.own c)
  pub any : (r : List Reported) (q : List Packet)
      → Step (waits r q old) c (waits (stay_by c r ++ option_to_list (reports old.own c)) (q ++ o) new)

pub input_puts : (old new : State) (c : Call) → is_client_input c ≡ true → Step old c new
    → (o : List Packet) × Puts old c new o
input_puts old new c input h =
    let k = puts old.layer new.layer (lower old.own c) (no_take old.own c input) h.under in (
      k.0,
      record {
        behind = k.1.behind;
        told_is = ap (λ (o : Own). o.reports) h.own_is ∙ reports_then old.own c input;
        any = λ r q. record {
          right = right_same r old.own c input h.right;
          own_is = ap (told (stay_by c r ++ option_to_list (reports old.own c))) h.own_is
              ∙ sym (after_told r old.own c input);
          under = subst (λ (asks : List E.Call). X.Exchanged (chains.waits q old.layer) asks
              (chains.waits (q ++ k.0) new.layer)) (sym (lower_same r old.own c)) (k.1.any q);
        };
      },
    )

pub neat_step : (old new : State) (c : Call) → IsNeat old.layer.layer → Step old c new → IsNeat new.layer.layer
neat_step old new c neat h = neat_chain old.layer new.layer (lower old.own c) neat h.under

-- a taking of a datagram, and that it can be done

pub given : (old new : State) (p : Option Packet) → IsNeat old.layer.layer → Step old (NextOut p) new
    → (p ≡ slice_get old.layer.layer.queue 0)
    × (new ≡ waits old.own.reports (drop 1 old.layer.layer.queue) old)
given old new p neat h =
    let between : X.State = h.under.0 in
    let same : between ≡ old.layer = h.under.1 in
    let steps = h.under.2.under in
    let k = taken old.layer.layer new.layer.layer p neat
    (subst (λ (l : L.State). L.Step l 0 T.Take (T.Gives p) new.layer.layer)
    (steps.1 ∙ ap (λ (x : X.State). x.layer) same) steps.2) in
    let kept : new.layer.own ≡ old.layer.own = h.under.2.own_is ∙ ap (λ (x : X.State). x.own) same in (
      k.0,
      ap (λ (o : Own). record { own = o; layer = new.layer }) h.own_is
          ∙ ap (λ (o : E.Own). record { own = old.own; layer = record { own = o; layer = new.layer.layer } }) kept
          ∙ ap (λ (l : L.State). record { own = old.own; layer = record { own = old.layer.own; layer = l } }) k.1,
    )

pub gives : (s : State) (r : List Reported) (p : Packet) (q : List Packet) → IsNeat s.layer.layer
    → Step (waits r (p ∷ q) s) (NextOut (Some p)) (waits r q s)
gives s r p q neat = record {
  right = tt;
  own_is = refl;
  under = (
    chains.waits (p ∷ q) s.layer,
    refl,
    record {
      right = tt;
      own_is = refl;
      under = (
        with_queue (p ∷ q) s.layer.layer,
        refl,
        takes (with_queue (p ∷ q) s.layer.layer) (ap (with_queue (p ∷ q)) neat),
      );
    },
  );
}

pub gives_none : (s : State) (r : List Reported) → IsNeat s.layer.layer
    → Step (waits r [] s) (NextOut None) (waits r [] s)
gives_none s r neat = record {
  right = tt;
  own_is = refl;
  under = (
    chains.waits [] s.layer,
    refl,
    record {
      right = tt;
      own_is = refl;
      under = (with_queue [] s.layer.layer, refl, takes (with_queue [] s.layer.layer) (ap (with_queue []) neat));
    },
  );
}

-- .. of a report

pub reported : (old new : State) (p : Option Reported) → Step old (NextReport p) new
    → (p ≡ slice_get old.own.reports 0) × (new ≡ record old { own = told (drop 1 old.own.reports) old.own })
reported old new p h = (
  h.right,
  ap (λ (o : Own). record { own = o; layer = new.layer }) h.own_is
      ∙ ap (λ (x : X.State). record { own = told (drop 1 old.own.reports) old.own; layer = x }) h.under,
)

pub reports_one : (s : State) (x : Reported) (r : List Reported) (q : List Packet)
    → Step (waits (x ∷ r) q s) (NextReport (Some x)) (waits r q s)
reports_one s x r q = record { right = refl; own_is = refl; under = refl }

pub reports_none : (s : State) (q : List Packet) → Step (waits [] q s) (NextReport None) (waits [] q s)
reports_none s q = record { right = refl; own_is = refl; under = refl }

-- what only looks leaves the client as it is
pub looks : (old new : State) (answer : Option C.Requested) → Step old (C.Asked answer) new → new ≡ old
looks old new answer h = ap (λ (o : Own). record { own = o; layer = new.layer }) h.own_is
    ∙ ap (λ (x : X.State). record { own = old.own; layer = x }) h.under

-- the call before: where it led from, and that it was a step
module _ (server : Endpoint) (sizes : Sizes) (setup : Setup) where
  pub record Before (c : Call) (t : List Call) : Type 0 where
    pub old : State
    pub new : State
    pub led : Led server sizes setup t old
    pub step : Step old c new

  pub before : (c : Call) (t : List Call) → ClientLaw server sizes setup (c ∷ t) → Before c t
  before c t law =
      let own : Own = own_of sizes t in
      let later : List E.Call = lower own c in
      let first : List E.Call = lower_of sizes t in
      let new : X.State = record { own = X.own_of server setup (later ++ first); layer = law.exchanges.left } in
      let k = exchanged_split (X.fresh_state server setup) new later first
      (chain_of (E.start server setup.word) (L.start setup) law.exchanges.left (later ++ first) law.exchanges.rows
      law.exchanges.layer) in
      record {
        old = record { own = own; layer = k.0 };
        new = record { own = after own c; layer = new };
        led = record { rows = law.rows.1; own_is = refl; layer = k.1 };
        step = record { right = law.rows.0; own_is = refl; under = k.2 };
      }
