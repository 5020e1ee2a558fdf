-- What a pair comes to, from the calls of its client to its status.
use Rattle.std.proofs.Common.{◌≡◌, ◌++◌, ◌∷◌, [], ℕ, List, Option, Result, Ok, Err, IfOk, inl, inr, refl, subst}
use Rattle.coap_types.specs.declared.endpoint.Endpoint.{Endpoint}
use Rattle.coap_types.specs.declared.request.Method.TheVariants.{Get, Put}
use Rattle.coap_types.specs.declared.szx.TheConstants.{MAX_SZX as max_szx}
use Rattle.coap_layer.specs.declared.setup.Setup.{Setup}
use Rattle.coap_block.specs.Sizes.{Sizes}
use Rattle.coap_client.specs.Led.{Led, State, Step}
use Rattle.coap_client.specs.Object.Shown.{number_of, shown_report}
use Rattle.coap_client.specs.Trace.{Call, Calls, Request}
use Rattle.coap_client.specs.declared.client.report.CallId.{CallId}
use Rattle.coap_client.specs.declared.client.report.Report as R
use Rattle.coap_client.specs.declared.refusals.CallRefusal.{CallRefusal}
use Rattle.coap_client.proofs.Facts.EachCall.{led_client}
use Rattle.std.specs.declared.alloc.Global.{Global}
use Rattle.coap_waits.specs.Asks.{AsksNothing, Turned, changed_status, takes_report}
use Rattle.coap_waits.specs.Terms.{client_sizes}
use Rattle.coap_commands.specs.Pairs.{CameBack, IsHanded, IsPairedBy, Pairs, WritesBoth, got, not_got, not_put}
use Rattle.coap_commands.specs.Pairs.{paired_setup}
use Rattle.coap_commands.specs.Printed.{WritesPut}
use Rattle.coap_scripts.specs.Script.{plain_request}
use Rattle.coap_answers.specs.Statuses.{IsCarriedOut}
use Rattle.coap_waits.specs.declared.calling.Outcome.{Outcome}
use Rattle.coap_waits.specs.declared.calling.Outcome.TheVariants.{Refused, Reported}
use Rattle.coap_status.specs.declared.status.Status.{Status}
use Rattle.coap_status.specs.declared.status.Status.TheVariants as status
use Rattle.coap_status.specs.declared.status.Stop.{Stop}
use Rattle.coap_waits.proofs.Facts.{led_on}

-- what is said of each server, sizes and setup of a client: these calls led to it before, and those, the request among
-- them, lead to it now
abbrev pub Handed : State → Request → State → Outcome → Type 0
Handed old request new outcome = (server : Endpoint) (sizes : Sizes) (w : Setup) (t : List Call)
    → Led server sizes w t old
    → (after : List Call) × IsHanded t request outcome after × Led server sizes w after new

-- a request that was taken, and of which this was reported
pub taken_handed : (now : ℕ) (request : Request) (answer : Result CallId CallRefusal) (id : CallId)
    (old mid new : State)
    (report : R.Report Global) → answer ≡ Ok id
    → ((server : Endpoint) (sizes : Sizes) (w : Setup) (t : List Call) → Led server sizes w t old
    → Led server sizes w (Calls now request (number_of answer) ∷ t) mid)
    → (turned : State) × Turned AsksNothing mid turned × Step turned (takes_report id.0 (shown_report report)) new
    → Handed old request new (Reported report)
taken_handed now request answer id old mid new report is led h = λ server sizes w t before.
    let calls : List Call = h.1.0 in
    let first : Led server sizes w (Calls now request (Ok id.0) ∷ t) mid =
    subst (λ (a : Result CallId CallRefusal). Led server sizes w (Calls now request (number_of a) ∷ t) mid) is
    (led server sizes w t before) in (
      takes_report id.0 (shown_report report) ∷ calls ++ Calls now request (Ok id.0) ∷ t,
      (now, id.0, calls, h.1.1, refl),
      led_client server sizes w (calls ++ Calls now request (Ok id.0) ∷ t) (takes_report id.0 (shown_report report)) h.0
          new
          (led_on server sizes w (Calls now request (Ok id.0) ∷ t) calls mid h.0 first h.1.2) h.2,
    )

-- a request that was refused
pub refused_handed : (now : ℕ) (request : Request) (answer : Result CallId CallRefusal) (why : CallRefusal)
    (old new : State)
    → answer ≡ Err why
    → ((server : Endpoint) (sizes : Sizes) (w : Setup) (t : List Call) → Led server sizes w t old
    → Led server sizes w (Calls now request (number_of answer) ∷ t) new)
    → Handed old request new (Refused why)
refused_handed now request answer why old new is led = λ server sizes w t before. (
  Calls now request (Err why) ∷ t,
  (now, refl),
  subst (λ (a : Result CallId CallRefusal). Led server sizes w (Calls now request (number_of a) ∷ t) new) is
      (led server sizes w t before),
)

-- ---- what the two requests come to

abbrev pub PairsFrom : (before after : Option (List ℕ)) → State → List (List ℕ) → List ℕ → Status → Type 0
PairsFrom before after old path body s = (server : Endpoint) (sizes : Sizes) (w : Setup) → Led server sizes w [] old
    → Pairs before after server sizes w path body s

pub failed_pair : (before after : Option (List ℕ)) (path : List (List ℕ)) (body : List ℕ) (asked : Request)
    (put : Outcome) (old mid : State)
    → asked ≡ plain_request Put path body → Handed old asked mid put → changed_status put ≡ status.Refused
    → WritesPut before after put → PairsFrom before after old path body status.Refused
failed_pair before after path body asked put old mid is handed failed written = λ server sizes w led.
    let h = subst (λ (r : Request). Handed old r mid put) is handed server sizes w [] led in
    not_put put h.0 mid h.1 failed h.2 written

pub differing_pair : (before after : Option (List ℕ)) (path : List (List ℕ)) (body : List ℕ) (asked again : Request)
    (put second : Outcome)
    (old mid new : State) → asked ≡ plain_request Put path body → again ≡ plain_request Get path []
    → Handed old asked mid put → changed_status put ≡ status.Done → Handed mid again new second
    → (CameBack body second → ⊥) → WritesBoth before after put second
    → PairsFrom before after old path body status.Refused
differing_pair before after path body asked again put second old mid new is so handed done further other written =
    λ server sizes w led.
    let h = subst (λ (r : Request). Handed old r mid put) is handed server sizes w [] led in
    let k = subst (λ (r : Request). Handed mid r new second) so further server sizes w h.0 h.2 in
    not_got put second h.0 k.0 new h.1 done k.1 other k.2 written

pub equal_pair : (before after : Option (List ℕ)) (path : List (List ℕ)) (body : List ℕ) (asked again : Request)
    (put second : Outcome)
    (old mid new : State) → asked ≡ plain_request Put path body → again ≡ plain_request Get path []
    → Handed old asked mid put → changed_status put ≡ status.Done → Handed mid again new second
    → CameBack body second → WritesBoth before after put second → PairsFrom before after old path body status.Done
equal_pair before after path body asked again put second old mid new is so handed done further same written =
    λ server sizes w led.
    let h = subst (λ (r : Request). Handed old r mid put) is handed server sizes w [] led in
    let k = subst (λ (r : Request). Handed mid r new second) so further server sizes w h.0 h.2 in
    got put second h.0 k.0 new h.1 done k.1 same k.2 written

-- it is carried out
pub paired_carried : {before after : Option (List ℕ)} {server : Endpoint} {sizes : Sizes} {w : Setup} {path : List
    (List ℕ)} {body : List ℕ} {s : Status}
    → Pairs before after server sizes w path body s → IsCarriedOut s
paired_carried (not_put put calls s handed failed led written) = inr refl
paired_carried (not_got put second puts calls s handed done further other led written) = inr refl
paired_carried (got put second puts calls s handed done further same led written) = inl refl

carried : (Is : Status → Type 0) (ended : Result Status Stop) → ((s : Status) → Is s → IsCarriedOut s) → IfOk ended Is
    → IfOk ended IsCarriedOut
carried Is (Ok s) is h = is s h
carried Is (Err stop) is h = tt

-- ---- by a client that began so

pub pair_began : (before after : Option (List ℕ)) (own server : Endpoint) (szx limit word remembered : ℕ)
    (path : List (List ℕ)) (body : List ℕ)
    (client : State) (ended : Result Status Stop) → server ≡ own → szx ≡ max_szx
    → Led server (client_sizes szx limit) (paired_setup word remembered) [] client
    → IfOk ended (PairsFrom before after client path body)
    → IfOk ended (Pairs before after own (client_sizes max_szx limit) (paired_setup word remembered) path body)
pair_began before after own server szx limit word remembered path body client (Ok s) there largest led pairs =
    subst (λ (e : Endpoint). Pairs before after e (client_sizes max_szx limit)
    (paired_setup word remembered) path body s)
    there
    (subst (λ (n : ℕ). Pairs before after server (client_sizes n limit) (paired_setup word remembered) path body s)
    largest
    (pairs server (client_sizes szx limit) (paired_setup word remembered) led))
pair_began before after own server szx limit word remembered path body client (Err stop) there largest led pairs = tt

pub pair_ends : (before after : Option (List ℕ)) (own server : Endpoint) (szx limit word remembered : ℕ)
    (path : List (List ℕ)) (body : List ℕ)
    (client : State) (ended : Result Status Stop) → server ≡ own → szx ≡ max_szx
    → Led server (client_sizes szx limit) (paired_setup word remembered) [] client
    → IfOk ended (PairsFrom before after client path body)
    → IfOk ended IsCarriedOut
pair_ends before after own server szx limit word remembered path body client ended there largest led pairs =
    carried (Pairs before after own (client_sizes max_szx limit) (paired_setup word remembered) path body) ended
    (λ s h. paired_carried h)
    (pair_began before after own server szx limit word remembered path body client ended there largest led pairs)

-- of the words
pub paired_by : (IsChosen : ℕ → Type 0) (before after : Option (List ℕ)) (server : Endpoint)
    (word limit remembered : ℕ) (path : List (List ℕ)) (body text : List ℕ) (ended : Result Status Stop)
    → server.ip ≡ 127 ∷ 0 ∷ 0 ∷ 1 ∷ [] → IsChosen word → body ≡ text
    → IfOk ended (Pairs before after server (client_sizes max_szx limit) (paired_setup word remembered) path body)
    → IfOk ended (IsPairedBy IsChosen before after path text limit remembered)
paired_by IsChosen before after server word limit remembered path body text (Ok s) at chosen same pairs = (
  server,
  at,
  word,
  chosen,
  subst (λ (b : List ℕ). Pairs before after server (client_sizes max_szx limit) (paired_setup word remembered) path b s)
      same pairs,
)
paired_by IsChosen before after server word limit remembered path body text (Err stop) at chosen same pairs = tt
