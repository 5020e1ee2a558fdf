-- What a call of a client makes of it: a datagram or time moves it, and then the request that is asked for is sent or
-- refused.
use Rattle.std.proofs.Common.{◌≡◌, ℕ, max, Bool, Option, Some, None, List, ◌∷◌, refl, ap, sym, ◌∙◌, Result, Ok, Err}
use Rattle.coap_block.specs.Sizes.{Sizes}
use Rattle.coap_exchange.specs.declared.asker.AskRefusal.{AskRefusal}
use Rattle.coap_exchange.specs.declared.asker.Event.{Event}
use Rattle.coap_exchange.specs.declared.asker.Event.TheVariants as event_of
use Rattle.coap_exchange.specs.declared.asker.Turn.{Turn}
use Rattle.coap_layer.specs.Trace as L
use Rattle.coap_types.specs.declared.endpoint.Endpoint.{Endpoint}
use Rattle.coap_client.specs.Trace.{Requested, Call, Feeds, Ticks}
use Rattle.coap_client.specs.Own.{Own}
use Rattle.coap_client.specs.Effects.{Deed, Rests, Asks, Keeps, Releases, Effect}
use Rattle.coap_client.specs.Events.{happened, passes, closed}
use Rattle.coap_client.specs.Deeds.{at}
use Rattle.coap_client.specs.Steps.{reports, reporting, requested, asking}
use Rattle.coap_client.specs.Law.{own_of}
use Rattle.coap_client.specs.Sendings.{sends, sent_by, hears}
use Rattle.coap_client_laws.proofs.Turning.BlockByBlock.{heard_in}
use Rattle.coap_client_laws.specs.Follows.Newer.{taken_by, notifies}
use Rattle.coap_client_laws.proofs.Queueing.Closing.{Closing, quiet, goes_out, is_refused}
use Rattle.coap_client.specs.Turns.Moves.{Move, left_by}
use Rattle.coap_client.proofs.Facts.Turning.Moves.{happened_moves, passes_moves}

module _ (now : ℕ) (e : Effect) where
  closing_by : (d : Deed) → e.deed ≡ d → (token : Result (List ℕ) AskRefusal) → Closing now e token
  closing_by Rests is token =
      quiet (λ op h. (let k : Rests ≡ Asks op = sym is ∙ h in cc k)) (ap (λ d. sent_by e d token) is)
      (ap (λ d. (closed now e d token).own) is) (ap (λ d. (closed now e d token).report) is)
  closing_by (Keeps t) is token =
      quiet (λ op h. (let k : Keeps t ≡ Asks op = sym is ∙ h in cc k)) (ap (λ d. sent_by e d token) is)
      (ap (λ d. (closed now e d token).own) is) (ap (λ d. (closed now e d token).report) is)
  closing_by (Releases t) is token =
      quiet (λ op h. (let k : Releases t ≡ Asks op = sym is ∙ h in cc k)) (ap (λ d. sent_by e d token) is)
      (ap (λ d. (closed now e d token).own) is) (ap (λ d. (closed now e d token).report) is)
  closing_by (Asks op) is (Ok key) = goes_out op key is refl (ap (λ d. sent_by e d (Ok key)) is)
      (ap (λ d. (closed now e d (Ok key)).own) is) (ap (λ d. (closed now e d (Ok key)).report) is)
  closing_by (Asks op) is (Err why) = is_refused op why is refl (ap (λ d. sent_by e d (Err why)) is)
      (ap (λ d. closed now e d (Err why)) is)

  pub closing : (token : Result (List ℕ) AskRefusal) → Closing now e token
  closing token = closing_by e.deed refl token

abbrev pub left_with : Option Requested → Effect → Own
left_with request e = asking request (reporting e)

-- the call is a datagram or a tick
pub record Turned (sizes : Sizes) (t : List Call) (c : Call) : Type 0 where
  pub now : ℕ
  pub told : Option Event
  pub token : Result (List ℕ) AskRefusal
  pub request : Option Requested
  pub move : Move (at now (own_of sizes t)) (max (own_of sizes t).clock now) told
  pub closes : Closing (max (own_of sizes t).clock now)
      (left_by (at now (own_of sizes t)) (max (own_of sizes t).clock now) told move) token
  pub own_is : own_of sizes (c ∷ t) ≡ left_with request
      (closed (max (own_of sizes t).clock now) (left_by (at now (own_of sizes t))
      (max (own_of sizes t).clock now) told move)
      (left_by (at now (own_of sizes t)) (max (own_of sizes t).clock now) told move).deed token)
  pub sends_is : sends (own_of sizes t) c ≡ sent_by
      (left_by (at now (own_of sizes t)) (max (own_of sizes t).clock now) told move)
      (left_by (at now (own_of sizes t)) (max (own_of sizes t).clock now) told move).deed token
  pub reports_is : reports (own_of sizes t) c ≡ (closed (max (own_of sizes t).clock now)
      (left_by (at now (own_of sizes t)) (max (own_of sizes t).clock now) told move)
      (left_by (at now (own_of sizes t)) (max (own_of sizes t).clock now) told move).deed token).report
  pub hears_is : hears c ≡ heard_in told
  pub notifies_is : notifies (own_of sizes t) c ≡ taken_by (own_of sizes t) (max (own_of sizes t).clock now) told

module _ (sizes : Sizes) (t : List Call) (c : Call) (now : ℕ) (told : Option Event) (token : Result (List ℕ) AskRefusal)
    (request : Option Requested) (e : Effect) (move : Move (at now (own_of sizes t))
    (max (own_of sizes t).clock now) told)
  where
    abbrev m : ℕ
    m = max (own_of sizes t).clock now

    abbrev left : Effect
    left = left_by (at now (own_of sizes t)) m told move

    turned_by : e ≡ left → own_of sizes (c ∷ t) ≡ left_with request (closed m e e.deed token)
        → sends (own_of sizes t) c ≡ sent_by e e.deed token → reports (own_of sizes t) c
        ≡ (closed m e e.deed token).report
        → hears c ≡ heard_in told → notifies (own_of sizes t) c ≡ taken_by (own_of sizes t) m told → Turned sizes t c
    turned_by is own sending report heard noted = record {
      now = now;
      told = told;
      token = token;
      request = request;
      move = move;
      closes = closing m left token;
      own_is = own ∙ ap (λ (z : Effect). left_with request (closed m z z.deed token)) is;
      sends_is = sending ∙ ap (λ (z : Effect). sent_by z z.deed token) is;
      reports_is = report ∙ ap (λ (z : Effect). (closed m z z.deed token).report) is;
      hears_is = heard;
      notifies_is = noted;
    }

hears_same : (now : ℕ) (from : Endpoint) (bytes : List ℕ) (w : ℕ) (up : L.Answer) (settled : Bool)
    (event : Option Event) (sent : L.Answer) (token : Result (List ℕ) AskRefusal) (kept : Bool)
    → hears (Feeds now from bytes w up settled event sent token kept) ≡ heard_in event
hears_same now from bytes w up settled (Some (event_of.Answer m)) sent token kept = refl
hears_same now from bytes w up settled _ sent token kept = refl

pub fed_turned : (sizes : Sizes) (t : List Call) (now : ℕ) (from : Endpoint) (bytes : List ℕ) (w : ℕ) (up : L.Answer)
    (settled : Bool) (event : Option Event) (sent : L.Answer) (token : Result (List ℕ) AskRefusal) (kept : Bool)
    → Turned sizes t (Feeds now from bytes w up settled event sent token kept)
fed_turned sizes t now from bytes w up settled event sent token kept =
    let s : Own = own_of sizes t in
    let k = happened_moves (at now s) (max s.clock now) event in
    turned_by sizes t (Feeds now from bytes w up settled event sent token kept) now event token
    (requested (happened (at now s) (max s.clock now) event).deed token)
    (happened (at now s) (max s.clock now) event) k.0 k.1 refl refl refl
    (hears_same now from bytes w up settled event sent token kept) refl

pub ticked_turned : (sizes : Sizes) (t : List Call) (now w : ℕ) (below : L.Answer) (turn : Turn) (sent : L.Answer)
    (token : Result (List ℕ) AskRefusal) (kept answer : Bool)
    → Turned sizes t (Ticks now w below turn sent token kept answer)
ticked_turned sizes t now w below turn sent token kept answer =
    let s : Own = own_of sizes t in
    let k = passes_moves (at now s) (max s.clock now) turn in
    turned_by sizes t (Ticks now w below turn sent token kept answer) now None token
    (requested (passes (at now s) (max s.clock now) turn).deed token)
    (passes (at now s) (max s.clock now) turn) k.0 k.1 refl refl refl refl refl
