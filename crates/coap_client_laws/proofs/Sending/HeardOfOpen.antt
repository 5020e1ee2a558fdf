-- What a client hears answers the exchange that is open, and it hears whatever does.
use Rattle.std.proofs.Common.{◌≡◌, ℕ, max, Bool, Option, Some, List, [], ◌∷◌, ◌++◌, refl, ap, sym, subst, ◌∙◌, Result}
use Rattle.coap_types.proofs.Facts.Traces.{Always_back}
use Rattle.coap_types.specs.declared.endpoint.Endpoint.{Endpoint}
use Rattle.coap_codec.specs.Message.{Message}
use Rattle.coap_layer.specs.Trace as L
use Rattle.coap_layer.specs.declared.setup.Setup.{Setup}
use Rattle.coap_block.specs.Sizes.{Sizes}
use Rattle.coap_exchange.specs.declared.asker.AskRefusal.{AskRefusal}
use Rattle.coap_exchange.specs.declared.asker.Event.{Event}
use Rattle.coap_exchange.specs.declared.asker.Event.TheVariants as event_of
use Rattle.coap_exchange.specs.declared.asker.Exchange.{Exchange}
use Rattle.coap_exchange.specs.AskerTrace as E
use Rattle.coap_exchange.specs.AskerSteps as P
use Rattle.coap_exchange.specs.AskerLaw as X
use Rattle.coap_exchange.specs.AskerResponses.{AreToldAs, IsSound, TellsKind}
use Rattle.coap_client.specs.Trace.{Call, Feeds}
use Rattle.coap_client.specs.Effects.{Effect}
use Rattle.coap_client.specs.Events.{happened}
use Rattle.coap_client.specs.Deeds.{at, close, deeds}
use Rattle.coap_client.specs.Law.{ClientLaw, own_of, lower_of}
use Rattle.coap_client_laws.specs.Follows.Open.{IsOfOpen, HearsOfOpen, ComesAsAnswer, AnswersAreHeard}
use Rattle.coap_client.specs.Sendings.{hears}
use Rattle.coap_client.proofs.Facts.Places.Once.{law_front, done_right, beneath}
use Rattle.coap_client_laws.proofs.Sending.EndsInTime.{at_input}
use Rattle.coap_client_laws.proofs.Sending.OpenSince.{open_runs}
use Rattle.coap_client.proofs.Facts.Turning.ExchangeCame.{came}
use Rattle.coap_client.proofs.Facts.Turning.Leading.{client_back}

module _ (server : Endpoint) (sizes : Sizes) (setup : Setup) where
  of_open : (t : List Call) → ClientLaw server sizes setup t → (m : Message) (x : Exchange)
      → (beneath server sizes setup t).running ≡ Some x → m.token ≡ x.token → IsOfOpen server sizes setup t m
  of_open t law m x runs token =
      let k = (open_runs server sizes setup t law).is_open x runs in
      let both : Some x ≡ Some k.2.exchange = sym runs ∙ k.2.runs in
      let same : x ≡ k.2.exchange = cc both in
      record {
        since = k.0;
        is_open = k.1;
        runs = k.2;
        token = token ∙ ap (λ (y : Exchange). y.token) same;
      }

  module _ (t : List Call) (now : ℕ) (from : Endpoint) (bytes : List ℕ) (w : ℕ) (up : L.Answer) (settled : Bool)
      (sent : L.Answer) (token : Result (List ℕ) AskRefusal) (kept : Bool) where
    abbrev feed : Option Event → Call
    feed event = Feeds now from bytes w up settled event sent token kept

    abbrev moment : ℕ
    moment = max (own_of sizes t).clock now

    abbrev input : Option Event → E.Call
    input event = E.Receive moment from bytes up settled event

    abbrev later : Option Event → List E.Call
    later event = let e : Effect = happened (at now (own_of sizes t)) moment event in
        deeds (close moment e token).deed (close moment e token).own moment w sent token kept

    abbrev first : Option Event → List E.Call
    first event = let e : Effect = happened (at now (own_of sizes t)) moment event in
        deeds e.deed e.own moment w sent token kept

    right : (event : Option Event) → ClientLaw server sizes setup (feed event ∷ t)
        → P.IsRight (beneath server sizes setup t) (input event)
    right event law =
        (done_right (beneath server sizes setup t) (later event) (first event) (input event)
        (law_front server setup (later event ++ (first event ++ input event ∷ [])) (lower_of sizes t)
        law.exchanges.rows)).0

    fed : (event : Option Event) → ClientLaw server sizes setup (feed event ∷ t) → (m : Message)
        → hears (feed event) ≡ Some m → IsOfOpen server sizes setup t m
    fed (Some (event_of.Answer a)) law m h =
        let same : a ≡ m = cc h in
        let k = came (beneath server sizes setup t) from moment up (Some (event_of.Answer a))
        (right (Some (event_of.Answer a)) law) in
        of_open t (client_back server sizes setup (feed (Some (event_of.Answer a)) ∷ []) t law) m k.0 k.1
        (ap (λ (z : Message). z.token) (sym same) ∙ k.2)
    fed _ law m h = absurd (cc h)

    told_here : (event : Option Event) → AreToldAs server setup (lower_of sizes (feed event ∷ t))
        → TellsKind server setup (lower_of sizes t) (input event)
    told_here event told =
        (at_input (TellsKind server setup) (later event) (first event) (input event) (lower_of sizes t) told).0

  each : (t : List Call) (c : Call) → ClientLaw server sizes setup (c ∷ t) → (m : Message) → hears c ≡ Some m
      → IsOfOpen server sizes setup t m
  each t (Feeds now from bytes w up settled event sent token kept) law m h =
      fed t now from bytes w up settled sent token kept event law m h
  each t _ law m h = absurd (cc h)

  pub hears_of_open : (t : List Call) → ClientLaw server sizes setup t → HearsOfOpen server sizes setup t
  hears_of_open [] law = tt
  hears_of_open (c ∷ t) law = (each t c law, hears_of_open t (client_back server sizes setup (c ∷ []) t law))

  -- where its exchanges tell so
  here : (t : List Call) (c : Call) → AreToldAs server setup (lower_of sizes (c ∷ t)) → (now : ℕ) (from : Endpoint)
      (bytes : List ℕ) (w : ℕ) (m : Message) (settled : Bool) (event : Option Event) (sent : L.Answer)
      (token : Result (List ℕ) AskRefusal) (kept : Bool) (x : Exchange)
      → c ≡ Feeds now from bytes w (L.Becomes (L.Response m)) settled event sent token kept
      → IsSound server setup from m → (X.own_of server setup (lower_of sizes t)).running ≡ Some x → m.token ≡ x.token
      → ComesAsAnswer server sizes setup x m → hears c ≡ Some m
  here t c told now from bytes w m settled event sent token kept x is sound runs same comes =
      let told_so = subst (λ (d : Call). AreToldAs server setup (lower_of sizes (d ∷ t))) is told in
      let k = told_here t now from bytes w (L.Becomes (L.Response m)) settled sent token kept event told_so in
      let answer : event ≡ Some (event_of.Answer m) =
      k.answer (max (own_of sizes t).clock now) from bytes settled event m x refl sound runs same comes in
      ap hears is
      ∙ ap (λ e. hears (Feeds now from bytes w (L.Becomes (L.Response m)) settled e sent token kept)) answer

  pub answers_are_heard : (t : List Call) → AreToldAs server setup (lower_of sizes t)
      → AnswersAreHeard server sizes setup t
  answers_are_heard [] told = tt
  answers_are_heard (c ∷ t) told = (
    here t c told,
    answers_are_heard t (Always_back (TellsKind server setup) _ (lower_of sizes t) told),
  )
