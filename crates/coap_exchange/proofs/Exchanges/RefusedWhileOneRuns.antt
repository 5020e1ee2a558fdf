-- A request is refused as Running exactly where an exchange runs: the layer's own refusal never comes.
use Rattle.std.proofs.Common.{◌≡◌, ℕ, max, Bool, true, false, Option, Some, None, List, [], ◌∷◌, Result, Err, refl, ap}
use Rattle.std.proofs.Common.{sym, subst, ◌∙◌, is_some, cond}
use Rattle.coap_types.specs.declared.endpoint.Endpoint.{Endpoint}
use Rattle.coap_layer.specs.Machine.State as L
use Rattle.coap_layer.specs.Machine.State.{is_busy, is_free, sending}
use Rattle.coap_layer.specs.Machine.Steps.{Steps}
use Rattle.coap_layer.specs.Trace as T
use Rattle.coap_layer.specs.Words.{sent_by, Open as OpenCon}
use Rattle.coap_exchange.specs.declared.asker.AskRefusal.{AskRefusal}
use Rattle.coap_exchange.specs.declared.asker.AskRefusal.TheVariants as refusal
use Rattle.coap_exchange.specs.declared.asker.Exchange.{Exchange}
use Rattle.coap_exchange.specs.declared.matching.Opening.{Opening}
use Rattle.coap_exchange.specs.declared.matching.Opening.TheVariants.{Running, Spent, Sends}
use Rattle.coap_exchange.specs.AskerTrace.{Request, Own, Call, Ask}
use Rattle.coap_exchange.specs.AskerSteps.{lower}
use Rattle.coap_exchange.specs.AskerRequests.{beneath, opening, opening_of, is_busied, is_yes, send_refusal}
use Rattle.coap_exchange.specs.AskerRequests.{sent_answer, ask_answer, request_token, content_of}
use Rattle.coap_exchange.specs.AskerLaw.{own_of, lower_of, AskerLaw}
use Rattle.coap_exchange.specs.AskerFollows.{Open, last_begun}
use Rattle.coap_exchange.specs.AskerTells.{AreRefused}
use Rattle.coap_exchange.specs.Tokens.{is_spent}
use Rattle.coap_exchange.proofs.Exchanges.OneAtATime.{known}
use Rattle.coap_exchange.proofs.Ending.NoEarlier.{fits}
use Rattle.coap_layer.proofs.Facts.StepsOfLayer.{steps_split}
use Rattle.coap_exchange.specs.Machine.Outstanding.{Lone}
use Rattle.coap_exchange.proofs.Facts.Moves.{token_in, not_running}
use Rattle.coap_layer.specs.declared.setup.Setup.{Setup}

-- the layer beneath is not busy where nothing is outstanding
not_busied : (cs : List OpenCon) (server : Endpoint) (free : Bool) (id : ℕ) → cs ≡ []
    → is_busied (cond (is_busy server cs) T.Busied (sending free id)) ≡ false
not_busied cs server true id none = ap (λ ds. is_busied (cond (is_busy server ds) T.Busied (sending true id))) none
not_busied cs server false id none = ap (λ ds. is_busied (cond (is_busy server ds) T.Busied (sending false id))) none

opens_running : (running spent cancel : Bool) → opening running spent cancel ≡ Running → running ≡ true
opens_running true spent cancel h = refl
opens_running false true true h = absurd (cc h)
opens_running false true false h = absurd (cc h)
opens_running false false cancel h = absurd (cc h)

spent_is_other : (yes : Bool) → cond yes refusal.TokensSpent refusal.NoIds ≡ refusal.Running → ⊥
spent_is_other true h = cc h
spent_is_other false h = cc h

unsent_is_other : (below : T.Answer) (token : List ℕ) (o : Option ℕ) → is_busied below ≡ false
    → sent_answer o (send_refusal below) token ≡ Err refusal.Running → ⊥
unsent_is_other below token (Some id) quiet h = cc h
unsent_is_other below token None quiet h =
    let why : send_refusal below ≡ refusal.Running = cc h in
    let no_ids : send_refusal below ≡ refusal.NoIds = ap (λ b. cond b refusal.Running refusal.NoIds) quiet in
    cc (why, no_ids)

module _ (s : Own) (r : Request) (below : T.Answer) where
  running_by : (o : Opening) → opening_of s r ≡ o → (o ≡ Sends → is_busied below ≡ false)
      → ask_answer o below (request_token s r) ≡ Err refusal.Running → is_some s.running ≡ true
  running_by Running is quiet h = opens_running (is_some s.running) (is_spent s.given) (is_some r.token) is
  running_by Spent is quiet h = absurd (spent_is_other (is_yes below) (cc h))
  running_by Sends is quiet h = absurd (unsent_is_other below (request_token s r) (sent_by below) (quiet refl) h)

  refused_where : is_some s.running ≡ true → ask_answer (opening_of s r) below (request_token s r) ≡ Err refusal.Running
  refused_where h = ap (λ b. ask_answer (opening b (is_spent s.given) (is_some r.token)) below (request_token s r)) h

some_running : (running : Option Exchange) → is_some running ≡ true → (token : List ℕ) × (token_in running ≡ Some token)
some_running None h = absurd (cc h)
some_running (Some x) h = (x.token, refl)

token_running : (running : Option Exchange) (token : List ℕ) → token_in running ≡ Some token → is_some running ≡ true
token_running None token h = absurd (cc h)
token_running (Some x) token h = refl

module _ (server : Endpoint) (setup : Setup) where
  module _ (t : List Call) (now w : ℕ) (r : Request) (below : T.Answer) (answer : Result (List ℕ) AskRefusal)
      (law : AskerLaw server setup (Ask now r w below answer ∷ t)) (h : L.State)
      (steps : Steps (L.start setup) (lower_of server setup (Ask now r w below answer ∷ t)) h) where
    abbrev s : Own
    s = own_of server setup t

    quiet_if_sends : opening_of s r ≡ Sends → is_busied below ≡ false
    quiet_if_sends opens =
        let mid : L.State = steps.0 in
        let old = fits server setup t law.1 mid steps.1 in
        let none : mid.open_cons ≡ [] = subst (λ running. Lone s.server running
        (last_begun server setup t) mid.open_cons) (not_running s r opens) old.lone in
        let step : L.Step mid now (T.Confirm s.server (content_of (request_token s r) r) w) below h =
        subst (λ o. L.Step mid now (beneath o s.server (content_of (request_token s r) r) w) below h) opens steps.2
        in
        ap is_busied step.right ∙ not_busied mid.open_cons s.server
        (is_free (max mid.clock now) mid.upcoming mid.last_used) mid.upcoming none

    runs_if_told : answer ≡ Err refusal.Running → (token : List ℕ) × Open token t
    runs_if_told is =
        let running = running_by s r below (opening_of s r) refl quiet_if_sends (sym law.0 ∙ is) in
        let token = some_running s.running running in
        (token.0, (known server setup t law.1).1.runs.opens token.0 token.1)

    told_if_runs : (token : List ℕ) → Open token t → answer ≡ Err refusal.Running
    told_if_runs token open_now = law.0 ∙ refused_where s r below
        (token_running s.running token ((known server setup t law.1).1.runs.runs_it token open_now))

  pub refused : (t : List Call) → AskerLaw server setup t → (h : L.State)
      → Steps (L.start setup) (lower_of server setup t) h → AreRefused t
  refused [] law h steps = tt
  refused (c ∷ t) law h steps =
      let parts = steps_split (L.start setup) h (lower (own_of server setup t) c) (lower_of server setup t) steps in (
        record {
          runs = λ now w r below is.
              runs_if_told t now w r below (Err refusal.Running) (subst (λ d. AskerLaw server setup (d ∷ t)) is law) h
              (subst (λ d. Steps (L.start setup) (lower_of server setup (d ∷ t)) h) is steps) refl;
          told = λ now w r below answer token is open_now.
              told_if_runs t now w r below answer (subst (λ d. AskerLaw server setup (d ∷ t)) is law) h
              (subst (λ d. Steps (L.start setup) (lower_of server setup (d ∷ t)) h) is steps) token open_now;
        },
        refused t law.1 parts.0 parts.1,
      )
