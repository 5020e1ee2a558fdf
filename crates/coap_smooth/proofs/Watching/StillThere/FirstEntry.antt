-- The entry of its message layer with which a call of a server begins: of a Reset that arrives, and of a failure.
use Rattle.std.proofs.Common.{◌≡◌, ℕ, List, [], ◌∷◌, ◌++◌, refl, ap, sym, subst, ◌∙◌, append_assoc}
use Rattle.coap_types.proofs.Facts.Traces.{Always_back}
use Rattle.coap_types.specs.declared.endpoint.Endpoint.{Endpoint}
use Rattle.coap_layer.specs.Machine.State.{State, start, made, moment, answer_of}
use Rattle.coap_layer.specs.Machine.Steps.{Steps, entries, left_after}
use Rattle.coap_layer.specs.Rows.{LayerLaw, Stands}
use Rattle.coap_layer.specs.Trace as L
use Rattle.coap_layer.proofs.Facts.Calls.{steps_left}
use Rattle.coap_layer.proofs.Facts.StepsOfLayer.{steps_split}
use Rattle.coap_layer.specs.declared.setup.Setup.{Setup}
use Rattle.coap_exchange.specs.AnswererLaw as answerer
use Rattle.coap_exchange.specs.AnswererLaw.{below_of, ResponseLaw}
use Rattle.coap_exchange.specs.AnswererSteps as P
use Rattle.coap_exchange.specs.AnswererTrace as R
use Rattle.coap_exchange.specs.AskerRequests.{asked}
use Rattle.coap_exchange.proofs.Facts.Above.{law_back}
use Rattle.coap_exchange.proofs.Facts.Adds.{entries_append}
use Rattle.coap_server.specs.Asks as asks_of
use Rattle.coap_server.specs.Law.{ServerLaw, own_of, lower_of}
use Rattle.coap_server.specs.Trace as S
use Rattle.coap_server_laws.proofs.Facts.Laws as server_facts
use Rattle.coap_record.specs.Events.{Config}
use Rattle.coap_promise.specs.Hops.{server_adds}
use Rattle.coap_promise.proofs.Facts.Delivery.HopsAreEntries.{server_layer, server_next}
use Rattle.coap_promise.proofs.Facts.Requests.CameFrom.{same_front}

-- the calls of the exchanges before some calls stand in their law
response_back : (setup : Setup) (calls t : List R.Call) → ResponseLaw setup (calls ++ t) → ResponseLaw setup t
response_back setup calls t law =
    law_back P.IsRight P.after P.lower Steps R.start (start setup)
    (λ old new later earlier h. steps_split old new later earlier h) calls t law

-- a call of the exchanges that asks one thing of the layer adds one entry, with that answer
pub record IsOne (setup : Setup) (b : R.Call) (t : List R.Call) (call : L.Call) (answer : L.Answer) : Type 0 where
  pub entry : L.Entry
  pub makes : below_of setup (b ∷ t) ≡ entry ∷ below_of setup t
  pub call_is : entry.call ≡ call
  pub answer_is : entry.answer ≡ answer

pub one_of : (setup : Setup) (now : ℕ) (b : R.Call) (t : List R.Call) (call : L.Call) (answer : L.Answer)
    → P.lower (answerer.own_of t) b ≡ asked now call answer ∷ [] → ResponseLaw setup (b ∷ t)
    → IsOne setup b t call answer
one_of setup now b t call answer is law =
    let before = left_after (start setup) (answerer.lower_of t) in
    let s : Steps (start setup) (asked now call answer ∷ answerer.lower_of t) law.left =
    subst (λ a. Steps (start setup) (a ++ answerer.lower_of t) law.left) is law.layer in
    let old : s.0 ≡ before = steps_left (start setup) (answerer.lower_of t) s.0 s.1 in
    record {
      entry = made before now call;
      makes = ap (λ a. entries (start setup) (a ++ answerer.lower_of t)) is;
      call_is = refl;
      answer_is = sym (s.2.right ∙ ap (λ (z : State). answer_of z (moment z now call) call) old);
    }

pub fronts : (setup : Setup) (xs ys : List R.Call)
    → (front : List L.Entry) × (below_of setup (xs ++ ys) ≡ front ++ below_of setup ys)
fronts setup [] ys = ([], refl)
fronts setup (b ∷ xs) ys =
    let k = fronts setup xs ys in
    let adds = entries (left_after (start setup) (answerer.lower_of (xs ++ ys)))
    (P.lower (answerer.own_of (xs ++ ys)) b)
    in (
      adds ++ k.0,
      entries_append (start setup) (P.lower (answerer.own_of (xs ++ ys)) b) (answerer.lower_of (xs ++ ys))
          ∙ (ap (λ l. adds ++ l) k.1 ∙ sym (append_assoc adds k.0 (below_of setup ys))),
    )

module _ (config : Config) where
  -- the oldest entry that a call adds
  pub record BeginsWith (t : List S.Call) (c : S.Call) (call : L.Call) (answer : L.Answer) : Type 0 where
    pub entry : L.Entry
    pub newer : List L.Entry
    pub adds : server_adds config t c ≡ newer ++ entry ∷ []
    pub call_is : entry.call ≡ call
    pub answer_is : entry.answer ≡ answer
    pub law : LayerLaw config.server_setup (entry ∷ server_layer config t)

  begins_with : (t : List S.Call) (c : S.Call) → ServerLaw config.limits config.server_szx config.server_setup (c ∷ t)
      → (first : List R.Call) (b : R.Call) (now : ℕ) (call : L.Call) (answer : L.Answer)
      → asks_of.lower (own_of config.limits config.server_szx t) c ≡ first ++ b ∷ []
      → P.lower (answerer.own_of (lower_of config.limits config.server_szx t)) b ≡ asked now call answer ∷ []
      → BeginsWith t c call answer
  begins_with t c law first b now call answer is one =
      let setup : Setup = config.server_setup in
      let past : List R.Call = lower_of config.limits config.server_szx t in
      let all : lower_of config.limits config.server_szx (c ∷ t) ≡ first ++ (b ∷ past) =
      ap (λ l. l ++ past) is ∙ append_assoc first (b ∷ []) past in
      let k = one_of setup now b past call answer one
      (response_back setup first (b ∷ past) (subst (ResponseLaw setup) all law.exchanges)) in
      let f = fronts setup first (b ∷ past) in
      let whole : server_layer config (c ∷ t) ≡ (f.0 ++ k.entry ∷ []) ++ server_layer config t =
      ap (λ l. below_of setup l) all ∙ (f.1 ∙ (ap (λ l. f.0 ++ l) k.makes
      ∙ sym (append_assoc f.0 (k.entry ∷ []) (server_layer config t)))) in
      record {
        entry = k.entry;
        newer = f.0;
        adds = same_front (server_adds config t c) (f.0 ++ k.entry ∷ []) (server_layer config t)
            (sym (server_next config t c) ∙ whole);
        call_is = k.call_is;
        answer_is = k.answer_is;
        law = Always_back (Stands setup) f.0 (k.entry ∷ server_layer config t)
            (subst (LayerLaw setup) (whole ∙ append_assoc f.0 (k.entry ∷ []) (server_layer config t))
            (server_facts.layer config.limits config.server_szx setup (c ∷ t) law));
      }

  pub reset_begins : (t : List S.Call) (now : ℕ) (from : Endpoint) (bytes : List ℕ) (w id : ℕ) (came : _)
      (h : S.Handling)
      (below : L.Answer)
      → ServerLaw config.limits config.server_szx config.server_setup
      (S.Feeds now from bytes w (L.Becomes (L.Reset id)) came h below ∷ t)
      → BeginsWith t (S.Feeds now from bytes w (L.Becomes (L.Reset id)) came h below) (L.Receive from bytes)
      (L.Becomes (L.Reset id))
  reset_begins t now from bytes w id came h below law =
      begins_with t (S.Feeds now from bytes w (L.Becomes (L.Reset id)) came h below) law _ _ _ (L.Receive from bytes)
      (L.Becomes (L.Reset id)) refl refl

  pub unmatched_begins : (t : List S.Call) (now : ℕ) (from : Endpoint) (bytes : List ℕ) (w id : ℕ) (came : _)
      (h : S.Handling)
      (below : L.Answer)
      → ServerLaw config.limits config.server_szx config.server_setup
      (S.Feeds now from bytes w (L.Becomes (L.Unmatched id)) came h below ∷ t)
      → BeginsWith t (S.Feeds now from bytes w (L.Becomes (L.Unmatched id)) came h below) (L.Receive from bytes)
      (L.Becomes (L.Unmatched id))
  unmatched_begins t now from bytes w id came h below law =
      begins_with t (S.Feeds now from bytes w (L.Becomes (L.Unmatched id)) came h below) law _ _ _
      (L.Receive from bytes)
      (L.Becomes (L.Unmatched id)) refl refl

  pub failure_begins : (t : List S.Call) (now w : ℕ) (to : Endpoint) (id : ℕ) (room : _) (d : _) (passed : ℕ)
      (h : S.Handling)
      (number : ℕ) (answer : _)
      → ServerLaw config.limits config.server_szx config.server_setup
      (S.Ticks now w (L.Expired to id) room d passed h number answer ∷ t)
      → BeginsWith t (S.Ticks now w (L.Expired to id) room d passed h number answer) L.Ticks (L.Expired to id)
  failure_begins t now w to id room d passed h number answer law =
      begins_with t (S.Ticks now w (L.Expired to id) room d passed h number answer) law _ _ _ L.Ticks (L.Expired to id)
      refl refl
