-- What stands in the law of a client goes on.
use Rattle.std.proofs.Common.{◌≡◌, ℕ, max, Bool, true, false, Option, Some, None, List, [], ◌∷◌, ◌++◌}
use Rattle.std.proofs.Common.{slice_get, Result, refl, ap, sym, ◌∙◌}
use Rattle.coap_types.specs.declared.endpoint.Endpoint.{Endpoint}
use Rattle.coap_layer.specs.Rows.{IsSpelled}
use Rattle.coap_layer.specs.Machine.State as S
use Rattle.coap_layer.specs.Machine.Steps.{Asked, Steps}
use Rattle.coap_layer.specs.Trace as L
use Rattle.coap_layer.specs.Words.{awaited_of, from_there}
use Rattle.coap_exchange.specs.declared.asker.AskRefusal.{AskRefusal}
use Rattle.coap_exchange.specs.declared.asker.Event.{Event}
use Rattle.coap_exchange.specs.declared.asker.Exchange.{Exchange}
use Rattle.coap_exchange.specs.declared.asker.Turn.{Turn}
use Rattle.coap_exchange.specs.declared.matching.Opening.{Opening}
use Rattle.coap_exchange.specs.declared.matching.Opening.TheVariants.{Running, Spent, Sends}
use Rattle.coap_exchange.specs.AskerTrace as A
use Rattle.coap_exchange.specs.AskerRequests as Q
use Rattle.coap_exchange.specs.AskerRequests.{asked, content_of}
use Rattle.coap_exchange.specs.AskerArrivals as R
use Rattle.coap_exchange.specs.AskerLaw as E
use Rattle.coap_exchange.specs.AskerLaw.{ExchangeLaw}
use Rattle.coap_layer.proofs.Facts.StepsOfLayer.{steps_join}
use Rattle.coap_layer.specs.declared.setup.Setup.{Setup}
use Rattle.coap_exchange.proofs.Facts.AskerReplies.{what_replies}

-- one call of the layer
unfoldable pub left_by : S.State → ℕ → L.Call → S.State
left_by s now call = S.forgotten (S.after s (S.made s now call))

abbrev pub answer_by : S.State → ℕ → L.Call → L.Answer
answer_by s now call = S.answer_of s (S.moment s now call) call

pub one_step : (s : S.State) (now : ℕ) (call : L.Call) → S.May s call
    → S.Step s now call (answer_by s now call) (left_by s now call)
unfolding left_by
one_step s now call may = record { may = may; right = refl; new_is = refl }

-- the calls of the exchanges
module _ (server : Endpoint) (setup : Setup) (calls : List A.Call) (law : ExchangeLaw server setup calls) where
  abbrev own : A.Own
  own = E.own_of server setup calls

  -- one call of the layer for one of the exchanges
  single : (now : ℕ) (call : L.Call) → S.May law.left call
      → Steps (S.start setup) (asked now call (answer_by law.left now call) ∷ E.lower_of server setup calls)
      (left_by law.left now call)
  single now call may = (law.left, law.layer, one_step law.left now call may)

  pub takes : (answer : Option L.Packet) × ExchangeLaw server setup (A.Take answer ∷ calls)
  takes = (
    slice_get law.left.queue 0,
    record {
      rows = (tt, law.rows);
      left = left_by law.left 0 L.Take;
      layer = single 0 L.Take tt;
    },
  )

  pub ticks : (at : ℕ) → (below : L.Answer) × (d : Turn) × ExchangeLaw server setup (A.Ticks at below d ∷ calls)
  ticks at = (
    answer_by law.left at L.Ticks,
    R.turn_of own (max own.clock at) (answer_by law.left at L.Ticks),
    record { rows = (refl, law.rows); left = left_by law.left at L.Ticks; layer = single at L.Ticks tt },
  )

  pub asks : (at w : ℕ) (r : A.Request) → IsSpelled (content_of (Q.request_token own r) r)
      → (sent : L.Answer) × (token : Result (List ℕ) AskRefusal)
      × ExchangeLaw server setup (A.Ask at r w sent token ∷ calls)
  asks at w r spelled =
      let call : L.Call = Q.beneath (Q.opening_of own r) own.server (content_of (Q.request_token own r) r) w in
      let sent : L.Answer = answer_by law.left at call in (
        sent,
        Q.ask_answer (Q.opening_of own r) sent (Q.request_token own r),
        record {
          rows = (refl, law.rows);
          left = left_by law.left at call;
          layer = single at call (may (Q.opening_of own r));
        },
      )
    where
      may : (o : Opening) → S.May law.left (Q.beneath o own.server (content_of (Q.request_token own r) r) w)
      may Running = tt
      may Spent = tt
      may Sends = spelled

  module _ (at : ℕ) (from : Endpoint) (bytes : List ℕ) where
    abbrev up : L.Answer
    up = answer_by law.left at (L.Receive from bytes)

    abbrev first : S.State
    first = left_by law.left at (L.Receive from bytes)

    -- the reply, where there is one
    replies : (o : Option (List ℕ)) → R.reply_by (R.verdict_on own from up) (R.id_in up) ≡ o
        → (new : S.State) × Steps first (R.replying from (R.id_in up) o) new
    unfolding left_by
    replies None is = (first, refl)
    replies (Some b) is =
        let k = what_replies own from up b is in
        let may : S.May first (L.Reply from (R.id_in up) b) = ap (λ o. awaited_of (from_there from o)) k.up_is
        ∙ ap (λ i. Some (record { from = from; id = i })) (sym k.id_is) in (
          left_by first 0 (L.Reply from (R.id_in up) b),
          (first, refl, one_step first 0 (L.Reply from (R.id_in up) b) may),
        )

    settles : (v : Bool) (running : Option Exchange) (s : S.State)
        → (settled : Bool) × (new : S.State) × Steps s (R.settling v own.server running settled) new
    settles true (Some x) s = (
      S.is_outstanding own.server x.id.0 s.open_cons,
      left_by s 0 (L.Settle own.server x.id.0),
      (s, refl, one_step s 0 (L.Settle own.server x.id.0) tt),
    )
    settles true None s = (false, s, refl)
    settles false running s = (false, s, refl)

    pub receives : (up : L.Answer) × (settled : Bool) × (event : Option Event)
        × ExchangeLaw server setup (A.Receive at from bytes up settled event ∷ calls)
    receives =
        let v = R.verdict_on own from up in
        let r = replies (R.reply_by v (R.id_in up)) refl in
        let s = settles (R.settles v) own.running r.0 in
        let acts = steps_join first r.0 s.1 (R.settling (R.settles v) own.server own.running s.0)
        (R.replying from (R.id_in up) (R.reply_by v (R.id_in up))) r.1 s.2 in
        let receive : List Asked = asked at (L.Receive from bytes) up ∷ [] in
        let calls_under : List Asked = R.acts own from up s.0 v in
        let inner = steps_join law.left first s.1 calls_under receive
        (law.left, refl, one_step law.left at (L.Receive from bytes) tt) acts in (
          up,
          s.0,
          R.told v up,
          record {
            rows = (refl, law.rows);
            left = s.1;
            layer = steps_join (S.start setup) law.left s.1 (calls_under ++ receive)
                (E.lower_of server setup calls) law.layer inner;
          },
        )
