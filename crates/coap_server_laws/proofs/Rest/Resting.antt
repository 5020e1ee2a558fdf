-- A server comes to rest.
use Rattle.std.proofs.Common.{◌≡◌, ◌<◌, ℕ, Bool, true, false, Option, Some, None, List, ◌∷◌, length, refl, arith}
use Rattle.coap_layer.specs.Machine.State as S
use Rattle.coap_layer.specs.Trace as L
use Rattle.coap_layer.specs.declared.setup.Setup.{Setup}
use Rattle.coap_resource.specs.Limits.{Limits}
use Rattle.coap_exchange.specs.declared.answerer.Due.{Due}
use Rattle.coap_exchange.specs.AnswererLaw as W
use Rattle.coap_server.specs.Trace.{Handling, Call, Ticks, NextOut}
use Rattle.coap_server.specs.Law.{ServerLaw, lower_of}
use Rattle.coap_server.specs.Follows.Rests.{IsTickWith, ComesToRest}
use Rattle.coap_exchange.proofs.Facts.Ending.{Next, Rests, rests, Takes, Drains, drains}
use Rattle.coap_exchange.proofs.Facts.LastStep.{take_less}
use Rattle.coap_server_laws.proofs.Progress.GoesOn.{goes_on}
use Rattle.coap_server.proofs.Facts.Rest.Ending.{size, less}
use Rattle.coap_server.proofs.Facts.Rest.LayerAsked.{behind_calls}

module _ (limits : Limits) (szx : ℕ) (setup : Setup) where
  abbrev Law : List Call → Type 0
  Law t = ServerLaw limits szx setup t

  next_tick : (now w : ℕ) (t : List Call) → Law t → Next Law (size limits szx setup now) (IsTickWith now w) t
  next_tick now w t law =
      let k = (goes_on limits szx setup t law).ticks now w in
      by k.0 k.1 k.2 k.3 k.4 k.5 k.6 k.7
    where
      by : (below : L.Answer) (room : Bool) (d : Due) (passed : ℕ) (h : Handling) (id : ℕ) (answer : Bool)
          → ServerLaw limits szx setup (Ticks now w below room d passed h id answer ∷ t)
          → Next Law (size limits szx setup now) (IsTickWith now w) t
      by below room d passed h id answer more = record {
        answer = answer;
        call = Ticks now w below room d passed h id answer;
        is = (below, room, d, passed, h, id, refl);
        law = more;
        fewer = λ is. fewer answer is more;
      }
        where
          fewer : (b : Bool) → b ≡ true → ServerLaw limits szx setup (Ticks now w below room d passed h id b ∷ t)
              → size limits szx setup now (Ticks now w below room d passed h id b ∷ t) < size limits szx setup now t
          fewer true is law = less limits szx setup now w t below room d passed h id law
          fewer false is law = absurd (cc is)

  -- what it has out
  out_count : List Call → ℕ
  out_count t = length (behind_calls setup (lower_of limits szx t)).queue

  out_less : (t : List Call) (p : L.Packet) → ServerLaw limits szx setup (NextOut (Some p) ∷ t)
      → out_count (NextOut (Some p) ∷ t) < out_count t
  unfolding out_count
  out_less t p law = take_less (S.start setup) law.exchanges.left p
      (W.lower_of (lower_of limits szx t)) law.exchanges.layer

  next_out : (t : List Call) → Law t → Takes Law out_count NextOut t
  next_out t law =
      let k = (goes_on limits szx setup t law).next_out in
      by k.0 k.1
    where
      by : (o : Option L.Packet) → ServerLaw limits szx setup (NextOut o ∷ t) → Takes Law out_count NextOut t
      by None more = record { answer = None; law = more; less = tt }
      by (Some p) more = record { answer = Some p; law = more; less = out_less t p more }

  ticks_rest : (now w : ℕ) (t : List Call) → Law t → Rests Law (size limits szx setup now) (IsTickWith now w) t
  ticks_rest now w t law = rests Law (size limits szx setup now) (IsTickWith now w) (next_tick now w)
      (size limits szx setup now t) t law (omega arith)

  outs_end : (t : List Call) → Law t → Drains Law out_count NextOut t
  outs_end t law = drains Law out_count NextOut next_out (out_count t) t law (omega arith)

  pub comes_to_rest : (t : List Call) → ServerLaw limits szx setup t → ComesToRest limits szx setup t
  comes_to_rest t law = record {
    ticks = λ now w. (let k = ticks_rest now w t law in (k.calls, k.are, k.law));
    outs = let k = outs_end t law in (k.taken, k.law);
  }
