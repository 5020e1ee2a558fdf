-- What is done with a request, from the checks to its answer (RFC 7252, section 5.2; RFC 7959, section 2.5).
use Rattle.std.proofs.Common.{◌≡◌, ℕ, Bool, true, false, Option, Some, None, List, [], ◌∷◌, ◌++◌, refl, ap, sym}
use Rattle.std.proofs.Common.{subst, ◌∙◌}
use Rattle.coap_codec.specs.Message.{Message}
use Rattle.coap_layer.specs.Trace as L
use Rattle.coap_types.specs.BlockValue.{block_value}
use Rattle.coap_types.specs.CoapOption.{CoapOption}
use Rattle.coap_types.specs.OptionValues.{uint_option}
use Rattle.coap_types.specs.declared.block.Block.{Block}
use Rattle.coap_types.specs.declared.option_number.TheConstants.{BLOCK1 as block1}
use Rattle.coap_types.specs.declared.request.Method.{Method}
use Rattle.coap_types.specs.declared.message.Code.{Code}
use Rattle.coap_block.specs.declared.assembly_step.Took.{Took}
use Rattle.coap_block.specs.declared.assembly_step.Took.TheVariants as taken
use Rattle.coap_block.specs.declared.assembly_step.AssemblyRefusal.{AssemblyRefusal}
use Rattle.coap_block.specs.declared.block_verdict.BlockVerdict.{BlockVerdict}
use Rattle.coap_block.specs.declared.block_verdict.BlockVerdict.TheVariants.{Refuse, Join, Done}
use Rattle.coap_block.specs.AssemblyAnswer.{refusal_code, took, TakesBlock}
use Rattle.coap_block.specs.AssemblyState.{AssemblyState}
use Rattle.coap_block.specs.AssemblyStep.{after_block, with_block}
use Rattle.coap_resource.specs.Serves.{Question}
use Rattle.coap_exchange.specs.declared.answerer.Asked.{Asked}
use Rattle.coap_exchange.specs.AnswererLaw as X
use Rattle.coap_exchange.specs.AnswererSteps.{may_defer}
use Rattle.coap_exchange.specs.AnswererTrace as E
use Rattle.coap_exchange.proofs.Facts.ServerSide.{exchanged_own}
use Rattle.coap_server.specs.Trace.{Own, Handling, Silent, Replies, Serves, Waits}
use Rattle.coap_server.specs.Asks.{answering}
use Rattle.coap_server.specs.Checks.{Verdict, Ignored, Asks, Uploads, asks, verdict_on}
use Rattle.coap_server.specs.Responses.{bare}
use Rattle.coap_server.specs.Serving.{IsServed}
use Rattle.coap_server.specs.Uploads.{continue, key_of, ruling_of, uploads_after, continuing}
use Rattle.coap_server.specs.Deferring.{WaitsBy, delay_for, deferral_by, waiting_with}
use Rattle.coap_server.specs.Handling.{Handles, HandlesBlock}
use Rattle.coap_server.specs.Steps.{handled, exchanges_after}
use Rattle.coap_server.specs.Led.{State, exchanges_of}
use Rattle.coap_server.specs.Object.Checked.{asked_as}
use Rattle.coap_server.specs.Object.Handled.{ServesNow, IsHandled, IsAsked, IsWhole, IsUploaded}

-- a request whose body is whole

module _ (s : State) (a : Asked) (q : Question) where
  abbrev delayed : Option ℕ
  delayed = delay_for a.kind q.path s.own.delays

  abbrev place : Bool
  place = may_defer s.own.exchanges.deferred

  -- it is served: its path has no delay, or there is no place
  served : (mid new : State) (calls : List E.Call)
      → ((h : Handling) → IsServed s.own.store s.own.clock q h → WaitsBy delayed place s.own.store s.own.clock q h)
      → deferral_by delayed place s.own.clock a ≡ calls → X.Exchanged (exchanges_of s) calls (exchanges_of mid)
      → ServesNow s.own (exchanges_of mid) a q new → IsWhole s a q new
  served mid new calls row asked before h =
      record {
        handling = Serves q h.reply h.left;
        below = h.below;
        right = row (Serves q h.reply h.left) (record { reply = h.reply; left = h.left; serves = h.serves; is = refl });
        asks = λ m. (
          exchanges_of mid,
          subst (λ cs. X.Exchanged (exchanges_of s) cs (exchanges_of mid))
              (sym asked) before,
          h.step,
        );
        left = h.own_is;
      }

  pub at_once : (new : State) → delayed ≡ None → ServesNow s.own (exchanges_of s) a q new → IsWhole s a q new
  at_once new none h =
      served s new [] (λ x y. subst (λ d. WaitsBy d place s.own.store s.own.clock q x) (sym none) y)
      (ap (λ d. deferral_by d place s.own.clock a) none) refl h

  pub behind : (mid new : State) (delay : ℕ) → delayed ≡ Some delay
      → X.Step (exchanges_of s) (E.Defers s.own.clock a delay false) (exchanges_of mid)
      → mid.own ≡ record s.own { exchanges = mid.own.exchanges } → ServesNow mid.own (exchanges_of mid) a q new
      → IsWhole s a q new
  behind mid new delay some step kept h =
      let full : place ≡ false = sym step.right.2 in
      let now : ServesNow s.own (exchanges_of mid) a q new =
      let h' = subst (λ (o : Own). ServesNow o (exchanges_of mid) a q new) kept h in
      record {
        reply = h'.reply;
        left = h'.left;
        below = h'.below;
        serves = h'.serves;
        step = h'.step;
        own_is = h'.own_is;
      } in
      served mid new (E.Defers s.own.clock a delay false ∷ [])
      (λ x y. subst (λ d. WaitsBy d place s.own.store s.own.clock q x) (sym some)
      (subst (λ p. WaitsBy (Some delay) p s.own.store s.own.clock q x) (sym full) y))
      (ap (λ d. deferral_by d place s.own.clock a) some ∙ ap (λ p. deferral_by (Some delay) p s.own.clock a) full)
      (exchanges_of s, refl, step) now

  -- it waits
  pub waits : (new : State) (delay : ℕ) → delayed ≡ Some delay
      → X.Step (exchanges_of s) (E.Defers s.own.clock a delay true) (exchanges_of new)
      → new.own ≡ record s.own {
        exchanges = new.own.exchanges;
        waiting = s.own.waiting ++ record { asked = a; at = s.own.clock; delay = delay; question = q } ∷ [];
        applied = [];
      } → IsWhole s a q new
  waits new delay some step kept =
      let free : place ≡ true = sym step.right.2 in
      let asked : deferral_by delayed place s.own.clock a ≡ E.Defers s.own.clock a delay true ∷ [] =
      ap (λ d. deferral_by d place s.own.clock a) some ∙ ap (λ p. deferral_by (Some delay) p s.own.clock a) free in
      record {
        handling = Waits q delay;
        below = L.Nothing;
        right = subst (λ d. WaitsBy d place s.own.store s.own.clock q (Waits q delay)) (sym some)
            (subst (λ p. WaitsBy (Some delay) p s.own.store s.own.clock q (Waits q delay)) (sym free) refl);
        asks = λ m. subst (λ cs. X.Exchanged (exchanges_of s) cs (exchanges_of new)) (sym asked)
            (exchanges_of s, refl, step);
        left = kept;
      }

-- a request that is answered without the store

pub answered : (P : Handling → Type 0) (s new : State) (a : Asked) (uploads : AssemblyState) (r : E.Response)
    (below : L.Answer) → P (Replies r) → X.Step (exchanges_of s) (E.Answers a r below) (exchanges_of new)
    → new.own ≡ record s.own { exchanges = new.own.exchanges; uploads = uploads; applied = [] }
    → IsAsked P s a uploads new
answered P s new a uploads r below right step kept =
    record { handling = Replies r; below = below; right = right; asks = λ m. (exchanges_of s, refl, step); left = kept }

-- .. and one that has no response
pub ignored : (s new : State) (a : Asked) → exchanges_of new ≡ exchanges_of s → new.own ≡ record s.own { applied = [] }
    → IsAsked (Handles s.own a Ignored) s a s.own.uploads new
ignored s new a same kept =
    record {
      handling = Silent;
      below = L.Nothing;
      right = refl;
      asks = λ m. same;
      left = kept ∙ ap (λ (x : X.State). record s.own { exchanges = x.own; applied = [] }) (sym same);
    }

-- a block

pub is_refused : {A : Type 0} (answer : Took A) (whole : List ℕ) (num : ℕ) (v : BlockVerdict) (why : AssemblyRefusal)
    → answer ≡ taken.Refused why → answer ≡ took whole num v → v ≡ Refuse why
is_refused answer whole num (Refuse w) why e h = cc (e, h)
is_refused answer whole num (Join szx) why e h = absurd (cc (e, h))
is_refused answer whole num Done why e h = absurd (cc (e, h))

pub is_joined : {A : Type 0} (answer : Took A) (whole : List ℕ) (num : ℕ) (v : BlockVerdict) (b : Block)
    → answer ≡ taken.More b → answer ≡ took whole num v
    → (szx : ℕ) × (v ≡ Join szx) × (b ≡ record { num = num; more = true; szx = szx })
is_joined answer whole num (Refuse w) b e h = absurd (cc (e, h))
is_joined answer whole num (Join szx) b e h = (szx, refl, cc (e, h))
is_joined answer whole num Done b e h = absurd (cc (e, h))

pub is_whole : {A : Type 0} (answer : Took A) (whole : List ℕ) (num : ℕ) (v : BlockVerdict) (body : List ℕ)
    → answer ≡ taken.Whole body → answer ≡ took whole num v → (v ≡ Done) × (body ≡ whole)
is_whole answer whole num (Refuse w) body e h = absurd (cc (e, h))
is_whole answer whole num (Join szx) body e h = absurd (cc (e, h))
is_whole answer whole num Done body e h = (refl, cc (e, h))

module _ {A : Type 0} (s new : State) (a : Asked) (q : Question) (b : Block) (answer : Took A) (uploads : AssemblyState)
    (taken_is : TakesBlock s.own.uploads s.own.clock (key_of a q) b q.body answer uploads) where
  abbrev ruling : BlockVerdict
  ruling = ruling_of s.own.uploads s.own.clock a q b

  abbrev joined : List ℕ
  joined = with_block s.own.uploads s.own.clock (key_of a q) b q.body

  left_with : new.own ≡ record s.own { exchanges = new.own.exchanges; uploads = uploads; applied = [] }
      → new.own ≡ record s.own {
        exchanges = new.own.exchanges;
        uploads = after_block s.own.uploads s.own.clock (key_of a q) b q.body;
        applied = [];
      }
  left_with kept = kept ∙ ap (λ (u : AssemblyState). record s.own
      { exchanges = new.own.exchanges; uploads = u; applied = [] }) taken_is.new_is

  pub refused : (why : AssemblyRefusal) (code : Code) (below : L.Answer) → answer ≡ taken.Refused why
      → code ≡ refusal_code why → X.Step (exchanges_of s) (E.Answers a (bare code.0) below) (exchanges_of new)
      → new.own ≡ record s.own { exchanges = new.own.exchanges; uploads = uploads; applied = [] }
      → IsUploaded s a q b new
  refused why code below e f step kept =
      let v = is_refused answer joined b.num ruling why e taken_is.answer_is in
      let row : HandlesBlock ruling s.own a q b (Replies (bare code.0)) =
      subst (λ v. HandlesBlock v s.own a q b (Replies (bare code.0))) (sym v)
      (ap (λ (c : Code). Replies (bare c.0)) f) in
      answered (HandlesBlock ruling s.own a q b) s new a (after_block s.own.uploads s.own.clock (key_of a q) b q.body)
      (bare code.0) below row step (left_with kept)

  pub continued : (next : Block) (below : L.Answer) → answer ≡ taken.More next
      → X.Step (exchanges_of s) (E.Answers a (record
      { code = continue; options = uint_option block1 (Some (block_value next)); payload = [] }) below)
      (exchanges_of new)
      → new.own ≡ record s.own { exchanges = new.own.exchanges; uploads = uploads; applied = [] }
      → IsUploaded s a q b new
  continued next below e step kept =
      let v = is_joined answer joined b.num ruling next e taken_is.answer_is in
      let r : E.Response = record {
        code = continue;
        options = uint_option block1 (Some (block_value next));
        payload = [];
      } in
      let same : r ≡ continuing v.0 b = ap (λ (n : Block). record
      { code = continue; options = uint_option block1 (Some (block_value n)); payload = [] }) v.2 in
      let row : HandlesBlock ruling s.own a q b (Replies r) =
      subst (λ v. HandlesBlock v s.own a q b (Replies r)) (sym v.1) (ap Replies same) in
      answered (HandlesBlock ruling s.own a q b) s new a
      (after_block s.own.uploads s.own.clock (key_of a q) b q.body) r below row step (left_with kept)

  -- the last block: what is asked with the whole body
  pub completed : (body got : List ℕ) → answer ≡ taken.Whole body → got ≡ body
      → IsWhole (record { own = record s.own { uploads = uploads }; layer = s.layer }) a (record q { body = got }) new
      → IsUploaded s a q b new
  completed body got e same h =
      let v = is_whole answer joined b.num ruling body e taken_is.answer_is in
      let h' = subst (λ x. IsWhole (record { own = record s.own { uploads = uploads }; layer = s.layer }) a
      (record q { body = x }) new) (same ∙ v.1) h in
      let k = subst (λ (u : AssemblyState). IsWhole (record { own = record s.own { uploads = u }; layer = s.layer }) a
      (record q { body = joined }) new) taken_is.new_is h' in
      record {
        handling = k.handling;
        below = k.below;
        right = subst (λ v. HandlesBlock v s.own a q b k.handling) (sym v.0) k.right;
        asks = λ m. k.asks m;
        left = k.left;
      }

-- by the checks

pub handled_by : (s new : State) (a : Asked) (m : Message) (v : Verdict) → verdict_on s.own.szx m ≡ v
    → IsAsked (Handles s.own a v) s a (uploads_after s.own.clock a v s.own.uploads) new → IsHandled s a m new
handled_by s new a m v e h =
    let calls : List E.Call = answering s.own (Some (a, m)) h.handling h.below in
    let under : new.own.exchanges ≡ exchanges_after s.own.exchanges calls =
    exchanged_own (exchanges_of s) (exchanges_of new) calls (h.asks m) in
    record {
      handling = h.handling;
      below = h.below;
      right = subst (λ v. Handles s.own a v h.handling) (sym e) h.right;
      asks = h.asks m;
      left =
          h.left
          ∙ ap
          (λ (x : E.Own). record (handled s.own (Some a) h.handling) {
            exchanges = x;
            uploads = uploads_after s.own.clock a v s.own.uploads;
            waiting = waiting_with s.own.clock a h.handling s.own.waiting;
          })
          under
          ∙ ap
          (λ (v : Verdict). record (handled s.own (Some a) h.handling) {
            exchanges = exchanges_after s.own.exchanges calls;
            uploads = uploads_after s.own.clock a v s.own.uploads;
            waiting = waiting_with s.own.clock a h.handling s.own.waiting;
          })
          (sym e);
    }

module _ (s new : State) (a : Asked) (m : Message) (method : Method) (path : List (List ℕ)) where
  abbrev question : List CoapOption → List ℕ → Question
  question options body = record { method = method; path = path; options = options; body = body; szx = s.own.szx }

  pub asks_whole : (options : List CoapOption) (body : List ℕ) → options ≡ asks m → body ≡ m.payload
      → verdict_on s.own.szx m ≡ Asks (asked_as s.own.szx m method path)
      → IsWhole s a (record { method = method; path = path; options = options; body = body; szx = s.own.szx }) new
      → IsHandled s a m new
  asks_whole options body o p v h =
      handled_by s new a m (Asks (asked_as s.own.szx m method path)) v
      (subst (λ x. IsWhole s a (question (asks m) x) new) p (subst (λ x. IsWhole s a (question x body) new) o h))

  pub asks_block : (options : List CoapOption) (body : List ℕ) (b : Block) → options ≡ asks m → body ≡ m.payload
      → verdict_on s.own.szx m ≡ Uploads (asked_as s.own.szx m method path) b
      → IsUploaded s a (record { method = method; path = path; options = options; body = body; szx = s.own.szx }) b new
      → IsHandled s a m new
  asks_block options body b o p v h =
      handled_by s new a m (Uploads (asked_as s.own.szx m method path) b) v
      (subst (λ x. IsUploaded s a (question (asks m) x) b new) p
      (subst (λ x. IsUploaded s a (question x body) b new) o h))
