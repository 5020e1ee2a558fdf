-- A client sends nothing to a peer of which it has nothing, until a datagram of that peer arrives, and forgets one from
-- which nothing comes.
use Rattle.std.proofs.Common.{◌≡◌, ℕ, Bool, false, Some, List, [], ◌∷◌, ◌++◌}
use Rattle.std.proofs.Common.{sym, subst}
use Rattle.std.proofs.lemmas.Bool.{or_parts}
use Rattle.std.specs.List.{list_any}
use Rattle.coap_types.specs.SameEndpoint.{same_endpoint}
use Rattle.coap_types.specs.declared.endpoint.Endpoint.{Endpoint}
use Rattle.coap_layer.specs.Machine.State as S
use Rattle.coap_layer.specs.Machine.Steps as G
use Rattle.coap_layer.specs.Machine.Steps.{Steps, left_after}
use Rattle.coap_layer.specs.Trace as L
use Rattle.coap_layer.specs.Words.{Open}
use Rattle.coap_layer.specs.declared.setup.Setup.{Setup}
use Rattle.coap_layer.proofs.Facts.Calls.{steps_left}
use Rattle.coap_layer.proofs.Facts.StepsOfLayer.{steps_split}
use Rattle.coap_block.specs.Sizes.{Sizes}
use Rattle.coap_block.specs.Whole.{Each}
use Rattle.coap_exchange.proofs.Facts.ClientSide.{server_is}
use Rattle.coap_client.specs.Law.{ClientLaw, lower_of, own_of}
use Rattle.coap_client.specs.Trace.{Call, NextOut}
use Rattle.coap_client_laws.specs.Follows.Adds.{all_asked, call_asks}
use Rattle.coap_client_laws.proofs.Facts.Laws.{asked_next, back}
use Rattle.coap_server_laws.proofs.Facts.Silence.{Apart, AreBehind, AreLive, AreOld, Else, Elsewhere, HeardElse}
use Rattle.coap_server_laws.proofs.Facts.Silence.{given_apart, none_left, old_then, steps_apart, steps_behind}
use Rattle.coap_server_laws.proofs.Facts.Silence.{steps_live, steps_old}
use Rattle.coap_opaque.specs.Silent.{ForgetsTheSilent, GivesElse, HearsElse, StaysSilent}
use Rattle.coap_opaque.proofs.Silence.ClientAsks.{Holds, call_holds}

none_is : {X : Type 0} (p : X → Bool) (xs : List X) → list_any p xs ≡ false → Each (λ x. p x ≡ false) xs
none_is p [] h = tt
none_is p (x ∷ xs) h =
    let parts = or_parts (p x) (list_any p xs) h in (parts.0, none_is p xs parts.1)

module _ (server : Endpoint) (sizes : Sizes) (setup : Setup) where
  abbrev layer : List Call → S.State
  layer t = left_after (S.start setup) (all_asked server sizes setup t)

  one_back : (c : Call) (t : List Call) → ClientLaw server sizes setup (c ∷ t) → ClientLaw server sizes setup t
  one_back c t law = back server sizes setup (c ∷ []) t law

  -- what one call leaves as it was
  module _ (peer : Endpoint) (K : L.Call → Type 0) (B : S.State → Type 0) (holds : Holds peer K server)
      (stays : (old new : S.State) (calls : List G.Asked) → Steps old calls new
      → Each (λ (a : G.Asked). K a.call) calls → B old → B new) where
    call_stays : (t : List Call) (c : Call) → ClientLaw server sizes setup (c ∷ t) → HearsElse peer c → B (layer t)
        → B (layer (c ∷ t))
    call_stays t c law e b =
        let begin : S.State = S.start setup in
        let left : S.State = law.exchanges.left in
        let asks : List G.Asked = call_asks server sizes setup t c in
        let before : List G.Asked = all_asked server sizes setup t in
        let steps = subst (λ (z : List G.Asked). Steps begin z left) (asked_next server sizes setup t c)
        law.exchanges.layer in
        let parts = steps_split begin left asks before steps in
        let mid : B parts.0 = subst B (sym (steps_left begin before parts.0 parts.1)) b in
        let on : B left = stays parts.0 left asks parts.2
        (call_holds peer K server setup holds (lower_of sizes t) (own_of sizes t) c e) mid in
        subst B (steps_left begin (all_asked server sizes setup (c ∷ t)) left law.exchanges.layer) on

    all_stay : (calls t : List Call) → ClientLaw server sizes setup (calls ++ t) → Each (HearsElse peer) calls
        → B (layer t) → B (layer (calls ++ t))
    all_stay [] t law e b = b
    all_stay (c ∷ calls) t law e b =
        call_stays (calls ++ t) c law e.0 (all_stay calls t (one_back c (calls ++ t) law) e.1 b)

  -- nothing goes to the peer
  module _ (peer : Endpoint) (other : Else peer server) where
    elsewhere : Holds peer (Elsewhere peer) server
    elsewhere = record {
      receive = λ from bytes e. e;
      reply = λ to id bytes e. e;
      settle = λ id. tt;
      confirm = λ content word. other;
      pass = tt;
      free = tt;
      ticks = tt;
      take = tt;
    }

    gives_here : (t : List Call) (c : Call) → ClientLaw server sizes setup (c ∷ t) → Apart peer (layer t)
        → GivesElse peer c
    gives_here t (NextOut (Some p)) law known =
        let h = law.exchanges.layer in
        given_apart peer h.0 law.exchanges.left 0 p h.2
        (subst (Apart peer) (sym (steps_left (S.start setup) (all_asked server sizes setup t) h.0 h.1)) known)
    gives_here t _ law known = tt

    all_silent : (calls t : List Call) → ClientLaw server sizes setup (calls ++ t) → Each (HearsElse peer) calls
        → Apart peer (layer t) → Each (GivesElse peer) calls
    all_silent [] t law e known = tt
    all_silent (c ∷ calls) t law e known =
        let past = one_back c (calls ++ t) law in (
          gives_here (calls ++ t) c law
              (all_stay peer (Elsewhere peer) (Apart peer) elsewhere (steps_apart peer) calls t past e.1 known),
          all_silent calls t past e.1 known,
        )

  pub stays_silent : (t : List Call) → StaysSilent server sizes setup t
  stays_silent t peer h calls e law =
      let parts = or_parts _ _ h in
      let beneath = or_parts _ _ parts.0 in
      let other : Else peer server = subst (Else peer) (server_is server setup (lower_of sizes t)) parts.1 in
      let apart : Apart peer (layer t) = record {
        cons = none_is (λ (c : Open). same_endpoint c.to peer) (layer t).open_cons beneath.0;
        queue = none_is (λ (p : L.Packet). same_endpoint p.to peer) (layer t).queue (or_parts _ _ beneath.1).0;
      } in
      all_silent peer other calls t law e apart

  -- nothing of it is remembered
  module _ (peer : Endpoint) (since : ℕ) where
    unheard : Holds peer (HeardElse peer since) server
    unheard = record {
      receive = λ from bytes e. e;
      reply = λ to id bytes e. tt;
      settle = λ id. tt;
      confirm = λ content word. tt;
      pass = tt;
      free = tt;
      ticks = tt;
      take = tt;
    }

  pub forgets_the_silent : (t : List Call) → ForgetsTheSilent server sizes setup t
  forgets_the_silent t peer calls e law late =
      let begin : S.State = S.start setup in
      let past = back server sizes setup calls t law in
      let asks : List G.Asked = all_asked server sizes setup t in
      let last : S.State = layer t in
      let behind : AreBehind last = subst AreBehind (steps_left begin asks past.exchanges.left past.exchanges.layer)
      (steps_behind begin past.exchanges.left asks past.exchanges.layer tt) in
      let old = all_stay peer (HeardElse peer last.clock) (AreOld peer last.clock) (unheard peer last.clock)
      (steps_old peer last.clock) calls t law e (old_then peer last.clock last.arrived behind) in
      let now : S.State = layer (calls ++ t) in
      let all : List G.Asked = all_asked server sizes setup (calls ++ t) in
      let live : AreLive peer last.clock now = subst (AreLive peer last.clock)
      (steps_left begin all law.exchanges.left law.exchanges.layer)
      (steps_live peer last.clock begin law.exchanges.left all law.exchanges.layer tt) in
      none_left peer last.clock now.clock now.arrived late old live
