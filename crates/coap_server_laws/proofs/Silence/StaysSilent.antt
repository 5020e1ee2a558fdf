-- A server sends nothing to a peer of which it has nothing, until a datagram of that peer arrives.
use Rattle.std.proofs.Common.{◌≡◌, ℕ, Bool, true, false, ◌||◌, Some, List, [], ◌∷◌, ◌++◌, refl}
use Rattle.std.proofs.Common.{sym}
use Rattle.std.proofs.Common.{subst}
use Rattle.std.specs.List.{list_any}
use Rattle.coap_types.specs.SameEndpoint.{same_endpoint}
use Rattle.coap_types.specs.declared.endpoint.Endpoint.{Endpoint}
use Rattle.coap_layer.specs.Machine.State as S
use Rattle.coap_layer.specs.Machine.Steps as G
use Rattle.coap_layer.specs.Machine.Steps.{Steps, left_after}
use Rattle.coap_layer.proofs.Facts.Calls.{steps_left}
use Rattle.coap_layer.proofs.Facts.StepsOfLayer.{steps_split}
use Rattle.coap_layer.specs.Trace as L
use Rattle.coap_layer.specs.Words.{Open}
use Rattle.coap_layer.specs.declared.setup.Setup.{Setup}
use Rattle.coap_block.specs.Whole.{Each}
use Rattle.coap_observe.specs.Observers.{Observer}
use Rattle.coap_resource.specs.Limits.{Limits}
use Rattle.coap_server.specs.Trace.{Waiting, Call, NextOut}
use Rattle.coap_server.specs.Asks.{lower}
use Rattle.coap_server.specs.Law.{ServerLaw, lower_of, own_of}
use Rattle.coap_server.specs.Led.{state_left}
use Rattle.coap_server.specs.Peers.{knows}
use Rattle.coap_server.proofs.Facts.Serving.Brought.{server_back}
use Rattle.coap_server_laws.specs.Follows.Adds.{all_asked, call_asks}
use Rattle.coap_server_laws.specs.Follows.Silent.{GivesElse, HearsElse, StaysSilent}
use Rattle.coap_server_laws.proofs.Telling.LayerCalls.{asked_next}
use Rattle.coap_server_laws.proofs.Silence.LayerApart.{Apart, given_apart, steps_apart}
use Rattle.coap_server_laws.proofs.Silence.ExchangesApart.{asks_apart}
use Rattle.coap_server_laws.proofs.Silence.ServerApart.{OwnApart, call_apart}

or_left : (b c : Bool) → (b || c) ≡ false → b ≡ false
or_left false c h = refl
or_left true c h = h

or_right : (b c : Bool) → (b || c) ≡ false → c ≡ false
or_right false c h = h
or_right true c h = absurd (cc h)

none_is : {X : Type 0} (p : X → Bool) (xs : List X) → list_any p xs ≡ false → Each (λ x. p x ≡ false) xs
none_is p [] h = tt
none_is p (x ∷ xs) h = (or_left (p x) (list_any p xs) h, none_is p xs (or_right (p x) (list_any p xs) h))

module _ (peer : Endpoint) (limits : Limits) (szx : ℕ) (setup : Setup) where
  abbrev layer : List Call → S.State
  layer t = left_after (S.start setup) (all_asked limits szx t)

  pub record Known (t : List Call) : Type 0 where
    pub own : OwnApart peer (own_of limits szx t)
    pub layer_is : Apart peer (layer t)

  call_known : (t : List Call) (c : Call) → ServerLaw limits szx setup (c ∷ t) → HearsElse peer c → Known t
      → Known (c ∷ t)
  call_known t c law e known =
      let k = call_apart peer limits szx setup t c law e known.own in
      let begin : S.State = S.start setup in
      let left : S.State = law.exchanges.left in
      let asks : List G.Asked = call_asks limits szx t c in
      let before : List G.Asked = all_asked limits szx t in
      let steps = subst (λ (z : List G.Asked). Steps begin z left) (asked_next limits szx setup t c)
      law.exchanges.layer in
      let parts = steps_split begin left asks before steps in
      let same = steps_left begin before parts.0 parts.1 in
      let mid : Apart peer parts.0 = subst (Apart peer) (sym same) known.layer_is in
      let on : Apart peer left = steps_apart peer parts.0 left asks parts.2
      (asks_apart peer (lower_of limits szx t) (lower (own_of limits szx t) c) k.1) mid in
      record {
        own = k.0;
        layer_is = subst (Apart peer)
            (steps_left begin (all_asked limits szx (c ∷ t)) left law.exchanges.layer) on;
      }

  gives_here : (t : List Call) (c : Call) → ServerLaw limits szx setup (c ∷ t) → Known t → GivesElse peer c
  gives_here t (NextOut (Some p)) law known =
      let h = law.exchanges.layer in
      given_apart peer h.0 law.exchanges.left 0 p h.2
      (subst (Apart peer) (sym (steps_left (S.start setup) (all_asked limits szx t) h.0 h.1)) known.layer_is)
  gives_here t _ law known = tt

  all_silent : (calls t : List Call) → ServerLaw limits szx setup (calls ++ t) → Each (HearsElse peer) calls → Known t
      → Known (calls ++ t) × Each (GivesElse peer) calls
  all_silent [] t law e known = (known, tt)
  all_silent (c ∷ calls) t law e known =
      let r = all_silent calls t (server_back limits szx setup c (calls ++ t) law) e.1 known in (
        call_known (calls ++ t) c law e.0 r.0,
        (gives_here (calls ++ t) c law r.0, r.1),
      )

  begins : (t : List Call) (now : ℕ) → knows (state_left limits szx setup t) now peer ≡ false → Known t
  begins t now h =
      let beneath = or_left _ _ h in
      let layer_none = or_left _ _ beneath in
      let own_none = or_right _ _ h in
      record {
        own = record {
          observers = none_is (λ (o : Observer). same_endpoint o.to peer) (own_of limits szx t).observers
              (or_left _ _ own_none);
          waiting = none_is (λ (w : Waiting). same_endpoint w.asked.from peer) (own_of limits szx t).waiting
              (or_right _ _ (or_right _ _ own_none));
        };
        layer_is = record {
          cons = none_is (λ (c : Open). same_endpoint c.to peer) (layer t).open_cons (or_left _ _ layer_none);
          queue = none_is (λ (p : L.Packet). same_endpoint p.to peer) (layer t).queue
              (or_left _ _ (or_right _ _ layer_none));
        };
      }

pub stays_silent : (limits : Limits) (szx : ℕ) (setup : Setup) (t : List Call) → StaysSilent limits szx setup t
stays_silent limits szx setup t peer now h calls e law =
    (all_silent peer limits szx setup calls t law e (begins peer limits szx setup t now h)).1
