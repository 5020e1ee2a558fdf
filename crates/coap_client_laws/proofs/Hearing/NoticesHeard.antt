-- A response with the token of a live observation is noted.
use Rattle.std.proofs.Common.{◌≡◌, ◌⊎◌, ℕ, max, Bool, true, false, Option, Some, None, List, [], ◌∷◌, refl, ap}
use Rattle.std.proofs.Common.{sym, subst, ◌∙◌, Result}
use Rattle.coap_types.specs.declared.endpoint.Endpoint.{Endpoint}
use Rattle.coap_types.specs.declared.message.Kind.TheVariants.{Con, Non}
use Rattle.coap_types.proofs.Facts.Traces.{Always_back}
use Rattle.coap_codec.specs.Message.{Message}
use Rattle.coap_layer.specs.Trace as L
use Rattle.coap_layer.specs.declared.setup.Setup.{Setup}
use Rattle.coap_block.specs.Sizes.{Sizes}
use Rattle.coap_exchange.specs.declared.asker.AskRefusal.{AskRefusal}
use Rattle.coap_exchange.specs.declared.asker.Event.{Event}
use Rattle.coap_exchange.specs.declared.asker.Event.TheVariants as event_of
use Rattle.coap_exchange.specs.declared.asker.Exchange.{Exchange}
use Rattle.coap_exchange.specs.AskerArrivals.{has_token}
use Rattle.coap_exchange.specs.AskerResponses.{AreToldAs, IsSound, TellsKind}
use Rattle.coap_exchange.specs.AskerTrace as E
use Rattle.coap_exchange.specs.Tokens.{same_token}
use Rattle.coap_exchange.proofs.Facts.SameToken.{same_token_is}
use Rattle.coap_client.specs.Trace.{Call, Feeds}
use Rattle.coap_client.specs.Own.{Cancelling}
use Rattle.coap_client.specs.Effects.{Effect}
use Rattle.coap_client.specs.Events.{happened}
use Rattle.coap_client.specs.Deeds.{at, close, deeds}
use Rattle.coap_client.specs.Law.{ClientLaw, own_of, lower_of}
use Rattle.coap_client_laws.specs.Follows.Live.{IsLive}
use Rattle.coap_client_laws.specs.Follows.Noticed.{NoticesAreHeard}
use Rattle.coap_client_laws.specs.Follows.Notified.{notes}
use Rattle.coap_client_laws.proofs.Observing.ObservationSources.{In}
use Rattle.coap_client_laws.proofs.Observing.StaysLive.{found_in}
use Rattle.coap_client_laws.proofs.Observing.TokensKept.{only_cancel, tokens_are_kept}
use Rattle.coap_client.proofs.Facts.Places.Once.{beneath}
use Rattle.coap_client_laws.proofs.Sending.EndsInTime.{at_input}
use Rattle.coap_client_laws.proofs.Sending.OpenSince.{open_runs}
use Rattle.coap_client.proofs.Facts.Turning.Leading.{client_back}

module _ (server : Endpoint) (sizes : Sizes) (setup : Setup) where
  -- it is not that of the exchange that runs
  aside : (t : List Call) → ClientLaw server sizes setup t → (number : ℕ) (path : List (List ℕ)) (token : List ℕ)
      → IsLive sizes number path token t → ((own_of sizes t).running ≡ Some (Cancelling number) → ⊥)
      → has_token (beneath server sizes setup t).running token ≡ false
  aside t law number path token l apart = by (beneath server sizes setup t).running refl
    where
      f : In l.observation (own_of sizes t).observations × (l.observation.number ≡ number)
      f = found_in number (own_of sizes t).observations l.observation l.found

      by : (o : Option Exchange) → (beneath server sizes setup t).running ≡ o → has_token o token ≡ false
      by None is = refl
      by (Some x) is = test (same_token token x.token) refl
        where
          test : (b : Bool) → same_token token x.token ≡ b → b ≡ false
          test false e = refl
          test true e =
              let k = (open_runs server sizes setup t law).is_open x is in
              let both : Some k.2.exchange ≡ Some x = sym k.2.runs ∙ is in
              let one : k.2.exchange ≡ x = cc both in
              let same : k.2.exchange.token ≡ l.observation.token = ap (λ (y : Exchange). y.token) one
              ∙ (sym (same_token_is token x.token e) ∙ sym l.token_is) in
              let runs = only_cancel server sizes setup t law k.0 k.2 l.observation f.0 same in
              absurd (apart (runs ∙ ap (λ i. Some (Cancelling i)) f.1))

  -- what its exchanges tell of an arrival
  module _ (t : List Call) (now : ℕ) (from : Endpoint) (bytes : List ℕ) (w : ℕ) (up : L.Answer) (settled : Bool)
      (sent : L.Answer) (token : Result (List ℕ) AskRefusal) (kept : Bool) (event : Option Event) where
    abbrev moment : ℕ
    moment = max (own_of sizes t).clock now

    abbrev effect : Effect
    effect = happened (at now (own_of sizes t)) moment event

    abbrev later : List E.Call
    later = deeds (close moment effect token).deed (close moment effect token).own moment w sent token kept

    abbrev first : List E.Call
    first = deeds effect.deed effect.own moment w sent token kept

    told_here : AreToldAs server setup (lower_of sizes (Feeds now from bytes w up settled event sent token kept ∷ t))
        → TellsKind server setup (lower_of sizes t) (E.Receive moment from bytes up settled event)
    told_here told = (at_input (TellsKind server setup) later first (E.Receive moment from bytes up settled event)
        (lower_of sizes t) told).0

  here : (t : List Call) (c : Call) → ClientLaw server sizes setup t → AreToldAs server setup (lower_of sizes (c ∷ t))
      → (now : ℕ) (from : Endpoint) (bytes : List ℕ) (w : ℕ) (m : Message) (settled : Bool) (event : Option Event)
      (sent : L.Answer) (token : Result (List ℕ) AskRefusal) (kept : Bool) (number : ℕ) (path : List (List ℕ))
      → c ≡ Feeds now from bytes w (L.Becomes (L.Response m)) settled event sent token kept
      → IsSound server setup from m → IsLive sizes number path m.token t
      → ((own_of sizes t).running ≡ Some (Cancelling number) → ⊥) → (m.kind ≡ Con) ⊎ (m.kind ≡ Non)
      → notes c ≡ Some m
  here t c law told now from bytes w m settled event sent token kept number path is sound live apart kind =
      let told_so = subst (λ (d : Call). AreToldAs server setup (lower_of sizes (d ∷ t))) is told in
      let k = told_here t now from bytes w (L.Becomes (L.Response m)) settled sent token kept event told_so in
      let notice : event ≡ Some (event_of.Notice m) =
      k.notice (max (own_of sizes t).clock now) from bytes settled event m refl sound
      (aside t law number path m.token live apart)
      (tokens_are_kept server sizes setup t law number path m.token live) kind in
      ap notes is
      ∙ ap (λ e. notes (Feeds now from bytes w (L.Becomes (L.Response m)) settled e sent token kept)) notice

  pub notices_are_heard : (t : List Call) → ClientLaw server sizes setup t → AreToldAs server setup (lower_of sizes t)
      → NoticesAreHeard server sizes setup t
  notices_are_heard [] law told = tt
  notices_are_heard (c ∷ t) law told =
      let past = client_back server sizes setup (c ∷ []) t law in
      (here t c past told, notices_are_heard t past (Always_back (TellsKind server setup) _ (lower_of sizes t) told))
