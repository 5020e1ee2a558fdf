-- A client comes to rest.
use Rattle.std.proofs.Common.{◌≡◌, ◌<◌, ℕ, Bool, true, false, Option, Some, None, List, ◌∷◌, Result, refl, arith}
use Rattle.coap_types.specs.declared.endpoint.Endpoint.{Endpoint}
use Rattle.coap_layer.specs.Trace as L
use Rattle.coap_layer.specs.declared.setup.Setup.{Setup}
use Rattle.coap_block.specs.Sizes.{Sizes}
use Rattle.coap_exchange.specs.declared.asker.AskRefusal.{AskRefusal}
use Rattle.coap_exchange.specs.declared.asker.Turn.{Turn}
use Rattle.coap_client.specs.Trace.{Reported, Call, Ticks, NextOut, NextReport}
use Rattle.coap_client.specs.Law.{ClientLaw}
use Rattle.coap_exchange.proofs.Facts.Ending.{Next, Rests, rests, Takes, Drains, drains}
use Rattle.coap_client_laws.specs.Follows.Rests.{IsTickWith, ComesToRest}
use Rattle.coap_client_laws.proofs.Rest.Ending.{size, less, out_count, out_less, report_count, report_less}
use Rattle.coap_client_laws.proofs.Progress.GoesOn.{goes_on}

module _ (server : Endpoint) (sizes : Sizes) (setup : Setup) where
  abbrev Law : List Call → Type 0
  Law t = ClientLaw server sizes setup t

  next_tick : (now w : ℕ) (t : List Call) → Law t → Next Law (size server sizes setup now) (IsTickWith now w) t
  next_tick now w t law =
      let k = (goes_on server sizes setup t law).ticks now w in
      by k.0 k.1 k.2 k.3 k.4 k.5 k.6
    where
      by : (below : L.Answer) (d : Turn) (sent : L.Answer) (token : Result (List ℕ) AskRefusal) (kept answer : Bool)
          → Law (Ticks now w below d sent token kept answer ∷ t)
          → Next Law (size server sizes setup now) (IsTickWith now w) t
      by below d sent token kept answer more = record {
        answer = answer;
        call = Ticks now w below d sent token kept answer;
        is = (below, d, sent, token, kept, refl);
        law = more;
        fewer = λ is. fewer answer is more;
      }
        where
          fewer : (b : Bool) → b ≡ true → Law (Ticks now w below d sent token kept b ∷ t)
              → size server sizes setup now (Ticks now w below d sent token kept b ∷ t) < size server sizes setup now t
          fewer true is law = less server sizes setup now w t below sent token kept d law
          fewer false is law = absurd (cc is)

  next_out : (t : List Call) → Law t → Takes Law (out_count server sizes setup) NextOut t
  next_out t law =
      let k = (goes_on server sizes setup t law).next_out in
      by k.0 k.1
    where
      by : (o : Option L.Packet) → Law (NextOut o ∷ t) → Takes Law (out_count server sizes setup) NextOut t
      by None more = record { answer = None; law = more; less = tt }
      by (Some p) more = record { answer = Some p; law = more; less = out_less server sizes setup t p more }

  next_report : (t : List Call) → Law t → Takes Law (report_count server sizes setup) NextReport t
  next_report t law =
      let k = (goes_on server sizes setup t law).next_report in
      by k.0 k.1
    where
      by : (o : Option Reported) → Law (NextReport o ∷ t) → Takes Law (report_count server sizes setup) NextReport t
      by None more = record { answer = None; law = more; less = tt }
      by (Some r) more = record { answer = Some r; law = more; less = report_less server sizes setup t r more }

  ticks_rest : (now w : ℕ) (t : List Call) → Law t → Rests Law (size server sizes setup now) (IsTickWith now w) t
  ticks_rest now w t law = rests Law (size server sizes setup now) (IsTickWith now w) (next_tick now w)
      (size server sizes setup now t) t law (omega arith)

  outs_end : (t : List Call) → Law t → Drains Law (out_count server sizes setup) NextOut t
  outs_end t law = drains Law (out_count server sizes setup) NextOut next_out (out_count server sizes setup t) t law
      (omega arith)

  reports_end : (t : List Call) → Law t → Drains Law (report_count server sizes setup) NextReport t
  reports_end t law = drains Law (report_count server sizes setup) NextReport next_report
      (report_count server sizes setup t) t law (omega arith)

  pub comes_to_rest : (t : List Call) → ClientLaw server sizes setup t → ComesToRest server sizes setup t
  comes_to_rest t law = record {
    ticks = λ now w. (let k = ticks_rest now w t law in (k.calls, k.are, k.law));
    outs = let k = outs_end t law in (k.taken, k.law);
    reports = let k = reports_end t law in (k.taken, k.law);
  }
