-- What the answer to a fetch makes of a client, by what its part is to the fetch.
use Rattle.std.proofs.Common.{◌≡◌, ◌≤◌, ℕ, ◌+◌, Bool, true, false, cond, Option, Some, None, List, [], ◌∷◌, ◌++◌}
use Rattle.std.proofs.Common.{Result, Ok, Err, ap, sym, ◌∙◌, subst, refl, arith}
use Rattle.std.specs.Prelude.{IfOk, is_some, ◌==◌}
use Rattle.std.specs.Option.{option_map}
use Rattle.std.proofs.lemmas.List.{append-nil}
use Rattle.coap_types.specs.CoapOption.{option}
use Rattle.coap_types.specs.OptionValues.{option_with}
use Rattle.coap_codec.specs.Message.{Message}
use Rattle.coap_block.specs.declared.fetch_verdict.Verdict.{Verdict}
use Rattle.coap_block.specs.declared.fetch_verdict.Verdict.TheVariants as verdict
use Rattle.coap_block.specs.FetchStep.{FetchState}
use Rattle.coap_exchange.specs.AskerTrace as E
use Rattle.coap_exchange.specs.AskerLaw as X
use Rattle.coap_client.specs.Trace.{Reported, Requested}
use Rattle.coap_client.specs.Own.{Fetching, Notified, Observation, Own}
use Rattle.coap_client.specs.Observations.{observation_of, observed_path, rest_of, token_of, with_rest}
use Rattle.coap_client.specs.Requests.{block2_option, get, message_of, path_options}
use Rattle.coap_client.specs.Places.{in_observations}
use Rattle.coap_client.specs.Effects.{Rests, runs, ends, of}
use Rattle.coap_client.specs.Fetching.{fetch_answered, fetch_by, fetch_over, rest, value}
use Rattle.coap_client.specs.Steps.{reporting}
use Rattle.coap_client.specs.Led.{State}
use Rattle.coap_client.specs.Object.Sends.{Sends}
use Rattle.coap_block.specs.FetchState.{FetchValue}
use Rattle.coap_client.specs.declared.client.heard.Part as P
use Rattle.coap_client.specs.declared.client.heard.Part.TheVariants as part_of
use Rattle.coap_client.specs.declared.client.report.Report as R
use Rattle.coap_client.specs.Object.Shown.{shown_report}
use Rattle.coap_client.specs.Object.AnswerSteps.{CanTakeBack, rest_by, value_by, verdict_on}
use Rattle.coap_client.specs.Object.Happens.{Closes, Happens, left, resting}
use Rattle.coap_client.proofs.Calls.HeldLemmas.{fetch_message, rest_in, none_set, set_found, set_twice}
use Rattle.coap_client.proofs.Facts.Calls.Happening.{rests_happens}

pub fetch_request : (number : ℕ) (n : Notified) (os : List Observation) (p : List (List ℕ)) (b : Option (List ℕ))
    → is_some (observation_of number os) ≡ true → p ≡ observed_path number os
    → option_with 23 b ≡ block2_option n.fetch.asked
    → get None (path_options p ++ option_with 23 b) ≡ message_of (with_rest number (Some n) os) (Fetching number)
fetch_request number n os p b there path block =
    ap (λ q. get None (path_options q ++ option_with 23 b)) path
    ∙ (ap (λ l. get None (path_options (observed_path number os) ++ l)) block ∙ fetch_message number n os there)

pub cancel_request : (number : ℕ) (os : List Observation) (tk : Option (List ℕ)) (v : List ℕ) (p : List (List ℕ))
    → tk ≡ token_of number os → v ≡ 1 ∷ [] → p ≡ observed_path number os
    → get tk (option 6 v ∷ (path_options p ++ []))
    ≡ get (token_of number os) (option 6 (1 ∷ []) ∷ path_options (observed_path number os))
cancel_request number os tk v p token value path =
    ap (λ t. get t (option 6 v ∷ (path_options p ++ []))) token
    ∙ (ap (λ w. get (token_of number os) (option 6 w ∷ (path_options p ++ []))) value
    ∙ (ap (λ l. get (token_of number os) (option 6 (1 ∷ []) ∷ l)) (append-nil (path_options p))
    ∙ ap (λ q. get (token_of number os) (option 6 (1 ∷ []) ∷ path_options q)) path))

pub closed_as : (s t : Own) (at : ℕ) (given : Option (List ℕ)) (x : X.State) (asked : Option Requested) (new : State)
    → s ≡ t → Closes s at given x asked new → Closes t at given x asked new
closed_as s t at given x asked new is h = subst (λ o. Closes o at given x asked new) is h

pub sends_as : (old : X.State) (now : ℕ) (r q : E.Request) (word : ℕ) (given : Option (List ℕ)) (new : X.State) → r ≡ q
    → Sends old now r word given new → Sends old now q word given new
sends_as old now r q word given new is h = subst (λ a. Sends old now a word given new) is h

-- nothing was to be fetched
pub rest_same : (number : ℕ) (os : List Observation) → rest_of number os ≡ None → in_observations number os ≤ 1
    → with_rest number None os ≡ os
rest_same number [] h one = refl
rest_same number (o ∷ os) h one = by (rest_same number os) (o.number == number) h one
  where
    by : (rest_of number os ≡ None → in_observations number os ≤ 1 → with_rest number None os ≡ os) → (b : Bool)
        → rest_in (cond b (Some o) (observation_of number os)) ≡ None → cond b 1 0 + in_observations number os ≤ 1
        → cond b (record o { rest = None }) o ∷ with_rest number None os ≡ o ∷ os
    by ih true k one = ap (λ r. record o { rest = r } ∷ with_rest number None os) (sym k)
        ∙ ap (λ l. o ∷ l) (none_set number None os (omega (arith, one)))
    by ih false k one = ap (λ l. o ∷ l) (ih k (omega (arith, one)))

some_there : (o : Option Observation) (n : Notified) → rest_in o ≡ Some n → is_some o ≡ true
some_there None n h = absurd (cc h)
some_there (Some p) n h = refl

mapped_there : (f : Observation → Observation) (o : Option Observation) → is_some o ≡ true
    → is_some (option_map f o) ≡ true
mapped_there f None h = h
mapped_there f (Some p) h = refl

pub rest_there : (number : ℕ) (n : Notified) (r : Option Notified) (os : List Observation) → rest_of number os ≡ Some n
    → is_some (observation_of number (with_rest number r os)) ≡ true
rest_there number n r os h = ap (λ o. is_some o) (set_found number r os)
    ∙ mapped_there (λ (o : Observation). record o { rest = r }) (observation_of number os)
    (some_there (observation_of number os) n h)

-- by the part

fetch_asks : (number : ℕ) (n new : Notified) (s : Own) (m : Message) (v : Verdict)
    → Some new ≡ rest n.sequence n.fetch m v → fetch_by number n s m v
    ≡ runs (Fetching number) (resting number (Some new) s)
fetch_asks number n new s m (verdict.Ask num szx) h = ap (λ r. runs (Fetching number) (resting number r s)) (sym h)
fetch_asks number n new s m _ h = absurd (cc h)

fetch_ends : (number : ℕ) (n : Notified) (s : Own) (m : Message) (v : Verdict) → None ≡ rest n.sequence n.fetch m v
    → fetch_by number n s m v ≡ fetch_over number (value number n.sequence n.fetch m v) s
fetch_ends number n s m (verdict.Ask num szx) h = absurd (cc h)
fetch_ends number n s m _ h = refl

-- it asks for the next block
pub asks_next : (x : X.State) (number : ℕ) (n new : Notified) (s t : Own) (m : Message) (at word : ℕ)
    (asked : Option Requested) (left_so : State) → rest_of number s.observations ≡ Some n
    → Some new ≡ rest n.sequence n.fetch m (verdict_on n.fetch m)
    → t ≡ record s { observations = with_rest number None s.observations }
    → Happens x (runs (Fetching number) (resting number (Some new) t)) at word asked left_so
    → Happens x (fetch_answered number (rest_of number s.observations) s m) at word asked left_so
asks_next x number n new s t m at word asked left_so there is t_is h =
    subst (λ r. Happens x (fetch_answered number r s m) at word asked left_so) (sym there)
    (subst (λ e. Happens x e at word asked left_so) (sym (fetch_asks number n new s m (verdict_on n.fetch m) is))
    (subst (λ os. Happens x (runs (Fetching number) (record s { observations = os })) at word asked left_so)
    (set_twice number (Some new) None s.observations)
    (subst (λ (o : Own). Happens x (runs (Fetching number) (resting number (Some new) o)) at word asked left_so) t_is
    h)))

-- it is over
pub ends_fetch : (x : X.State) (number : ℕ) (n : Notified) (s own : Own) (m : Message) (at word : ℕ)
    (report : Option Reported) → rest_of number s.observations ≡ Some n
    → None ≡ rest n.sequence n.fetch m (verdict_on n.fetch m)
    → report ≡ value number n.sequence n.fetch m (verdict_on n.fetch m)
    → own ≡ reporting (record {
      own = record s
          { running = None; observations = with_rest number None s.observations };
      report = report;
      deed = Rests;
    })
    → Happens x (fetch_answered number (rest_of number s.observations) s m) at word None (left own x)
ends_fetch x number n s own m at word report there is report_is own_is =
    subst (λ r. Happens x (fetch_answered number r s m) at word None (left own x)) (sym there)
    (subst (λ e. Happens x e at word None (left own x)) (sym (fetch_ends number n s m (verdict_on n.fetch m) is))
    (rests_happens x (fetch_over number (value number n.sequence n.fetch m (verdict_on n.fetch m)) s) at word own refl
    (own_is ∙ ap (λ r. reporting (record {
      own =
          record s { running = None; observations = with_rest number None s.observations };
      report = r;
      deed = Rests;
    }))
    report_is)))

-- nothing was to be fetched
pub no_fetch : (x : X.State) (number : ℕ) (s own : Own) (m : Message) (at word : ℕ)
    → rest_of number s.observations ≡ None → own ≡ reporting (ends None s)
    → Happens x (fetch_answered number (rest_of number s.observations) s m) at word None (left own x)
no_fetch x number s own m at word none own_is =
    subst (λ r. Happens x (fetch_answered number r s m) at word None (left own x)) (sym none)
    (rests_happens x (ends None s) at word own refl own_is)

pub if_ok : {X Y : Type 0} {P Q : X → Type 0} (r : Result X Y) → ((v : X) → P v → Q v) → IfOk r P → IfOk r Q
if_ok (Ok v) f h = f v h
if_ok (Err y) f h = tt

-- what was taken out is put back
rest_back : (number : ℕ) (n : Notified) (os : List Observation) → rest_of number os ≡ Some n
    → in_observations number os ≤ 1 → with_rest number (Some n) os ≡ os
rest_back number n [] h one = refl
rest_back number n (o ∷ os) h one = by (rest_back number n os) (o.number == number) h one
  where
    by : (rest_of number os ≡ Some n → in_observations number os ≤ 1 → with_rest number (Some n) os ≡ os) → (b : Bool)
        → rest_in (cond b (Some o) (observation_of number os)) ≡ Some n → cond b 1 0 + in_observations number os ≤ 1
        → cond b (record o { rest = Some n }) o ∷ with_rest number (Some n) os ≡ o ∷ os
    by ih true k one = ap (λ r. record o { rest = r } ∷ with_rest number (Some n) os) (sym k)
        ∙ ap (λ l. o ∷ l) (none_set number (Some n) os (omega (arith, one)))
    by ih false k one = ap (λ l. o ∷ l) (ih k (omega (arith, one)))

pub put_back : (number : ℕ) (n : Notified) (os : List Observation) → rest_of number os ≡ Some n
    → in_observations number os ≤ 1 → with_rest number (Some n) (with_rest number None os) ≡ os
put_back number n os there one = set_twice number (Some n) None os ∙ rest_back number n os there one

module _ (x : X.State) (number : ℕ) (s : Own) (m : Message) (at word : ℕ) (os : List Observation)
    (taken : os ≡ with_rest number None s.observations) where
  pub unfetched : rest_of number s.observations ≡ None → in_observations number s.observations ≤ 1
      → Happens x (fetch_answered number (rest_of number s.observations) s m) at word None
      (left (record s { running = None; observations = os }) x)
  unfetched none one =
      no_fetch x number s (record s { running = None; observations = os }) m at word none
      (ap (λ l. record s { running = None; observations = l }) (taken ∙ rest_same number s.observations none one)
      ∙ ap (λ rs. record s { running = None; reports = rs }) (sym (append-nil s.reports)))

  -- its part is of no use
  pub useless_fetch : (n : Notified) → rest_of number s.observations ≡ Some n
      → None ≡ rest n.sequence n.fetch m (verdict_on n.fetch m)
      → None ≡ value number n.sequence n.fetch m (verdict_on n.fetch m)
      → Happens x (fetch_answered number (rest_of number s.observations) s m) at word None
      (left (record s { running = None; observations = os }) x)
  useless_fetch n there none useless =
      ends_fetch x number n s (record s { running = None; observations = os }) m at word None there none useless
      (ap (λ l. record s { running = None; observations = l }) taken
      ∙ ap (λ rs. record s { running = None; observations = with_rest number None s.observations; reports = rs })
      (sym (append-nil s.reports)))

  -- its part is the last
  pub whole_fetch : (n : Notified) (own : Own) (report : Option Reported) → rest_of number s.observations ≡ Some n
      → None ≡ rest n.sequence n.fetch m (verdict_on n.fetch m)
      → report ≡ value number n.sequence n.fetch m (verdict_on n.fetch m)
      → own ≡ reporting (record { own = record s { running = None; observations = os }; report = report; deed = Rests })
      → Happens x (fetch_answered number (rest_of number s.observations) s m) at word None (left own x)
  whole_fetch n own report there none whole own_is =
      ends_fetch x number n s own m at word report there none whole
      (own_is ∙ ap (λ l. reporting (record
      { own = record s { running = None; observations = l }; report = report; deed = Rests })) taken)

  -- it is as before
  pub fetch_held : (n : Notified) (own : Own) (later : List Observation) → rest_of number s.observations ≡ Some n
      → in_observations number s.observations ≤ 1 → later ≡ with_rest number (Some n) os
      → own ≡ record s { running = Some (Fetching number); observations = later }
      → own ≡ record s { running = Some (Fetching number) }
  fetch_held n own later there one set own_is =
      own_is ∙ ap (λ l. record s { running = Some (Fetching number); observations = l })
      (set ∙ (ap (with_rest number (Some n)) taken ∙ put_back number n s.observations there one))

abbrev pub noted : ℕ → FetchState → Option Notified
noted q f = Some (record { sequence = q; fetch = f })

pub same_rest : (q k : ℕ) (f g : FetchState) → q ≡ k → f ≡ g → noted q f ≡ noted k g
same_rest q k f g a b = ap (λ n. noted n f) a ∙ ap (λ h. noted k h) b

-- by the part that was taken

module _ {A : Type 0} where
  pub asks_rest : (p : P.Part A) (new : Notified) (r : Option Notified) → p ≡ part_of.Asks → rest_by p new ≡ r
      → Some new ≡ r
  asks_rest p new r is h = subst (λ q. rest_by q new ≡ r) is h

  pub whole_rest : (p : P.Part A) (report : R.Report A) (new : Notified) (r : Option Notified)
      → p ≡ part_of.Whole report → rest_by p new ≡ r → None ≡ r
  whole_rest p report new r is h = subst (λ q. rest_by q new ≡ r) is h

  pub useless_rest : (p : P.Part A) (new : Notified) (r : Option Notified) → p ≡ part_of.Useless
      → rest_by p new ≡ r → None ≡ r
  useless_rest p new r is h = subst (λ q. rest_by q new ≡ r) is h

  pub whole_value : (number : ℕ) (p : P.Part A) (report : R.Report A) (v : Option Reported) → p ≡ part_of.Whole report
      → value_by number p ≡ v → of number (shown_report report) ≡ v
  whole_value number p report v is h = subst (λ q. value_by number q ≡ v) is h

  pub useless_value : (number : ℕ) (p : P.Part A) (v : Option Reported) → p ≡ part_of.Useless
      → value_by number p ≡ v → None ≡ v
  useless_value number p v is h = subst (λ q. value_by number q ≡ v) is h

  pub asks_back : (p : P.Part A) (old : FetchState) (new : FetchValue) → p ≡ part_of.Asks → CanTakeBack p old new
      → new.before ≡ Some old
  asks_back p old new is h = subst (λ q. CanTakeBack q old new) is h
