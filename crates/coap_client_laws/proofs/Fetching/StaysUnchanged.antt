-- A GET whose answers are replies of one representation comes to that.
use Rattle.std.proofs.Common.{◌≡◌, ◌≤◌, ◌<◌, ◌⊎◌, inl, inr, ⊎_elim, ℕ, Bool, true, cond, ◌&&◌, Option, Some, None, List}
use Rattle.std.proofs.Common.{[], ◌∷◌, ◌++◌, length, ap, sym, subst, ◌∙◌, arith}
use Rattle.std.specs.Prelude.{◌==◌}
use Rattle.coap_types.specs.BlockValue.{block_in}
use Rattle.coap_types.specs.OptionValues.{value_of}
use Rattle.coap_types.specs.Past.{Always}
use Rattle.coap_types.specs.Piece.{offset_of}
use Rattle.coap_types.specs.declared.block.Block.{Block}
use Rattle.coap_types.specs.declared.endpoint.Endpoint.{Endpoint}
use Rattle.coap_types.specs.declared.option_number.TheConstants.{BLOCK2 as block2}
use Rattle.coap_types.specs.declared.request.Method.{Method}
use Rattle.coap_types.specs.declared.request.Method.TheVariants.{Get}
use Rattle.coap_layer.specs.declared.setup.Setup.{Setup}
use Rattle.coap_codec.specs.Message.{Message}
use Rattle.coap_block.specs.FetchStep.{FetchState}
use Rattle.coap_block.specs.FetchStep as F
use Rattle.coap_block.specs.Sizes.{Sizes}
use Rattle.coap_block.specs.declared.fetch_progress.Asked.{Asked}
use Rattle.coap_block.specs.declared.fetch_step.FetchRefusal.TheVariants as refusal
use Rattle.coap_block.specs.declared.fetch_verdict.Verdict.TheVariants as verdict
use Rattle.coap_resource.specs.Content.{Held}
use Rattle.coap_resource.specs.RequestOptions.{tag_of}
use Rattle.coap_resource.specs.Serves.{Reply}
use Rattle.coap_client.specs.Trace.{Request, Report, Body, Valid, Failed, Call}
use Rattle.coap_client.specs.Own.{Fetches, Calling}
use Rattle.coap_client.specs.Responses.{said, content, valid, tag_in, format_in, part, part_by}
use Rattle.coap_client.specs.Calls.{answer, has_tags}
use Rattle.coap_client.specs.Calls as calls
use Rattle.coap_client.specs.Effects.{of}
use Rattle.coap_client.specs.Steps.{reports}
use Rattle.coap_client.specs.Law.{ClientLaw, own_of}
use Rattle.coap_client_laws.specs.Follows.OfAnswers.{is_by_answer}
use Rattle.coap_client_laws.specs.Follows.OfCalls.{CarriesBody}
use Rattle.coap_client_laws.specs.Follows.Unchanged.{reply_to, FetchesOf, SaysBlock, SaysReply}
use Rattle.coap_client_laws.specs.Follows.Unchanged.{HearsReplies, IsUnchanged, AreUnchanged}
use Rattle.coap_client.specs.Sendings.{hears}
use Rattle.coap_client_laws.proofs.Fetching.FetchUnchanged.{fetches_unchanged}
use Rattle.coap_client.proofs.Facts.Places.PlaceLemmas.{number_self}
use Rattle.coap_client_laws.proofs.Reporting.AnswerReports.{gives_of}
use Rattle.coap_client_laws.proofs.Reporting.Bodies.{IsNew, all_new}
use Rattle.coap_client_laws.proofs.Reporting.FetchedParts.{fetch_next}
use Rattle.coap_client_laws.proofs.Reporting.Codes.{runs_as}
use Rattle.coap_client_laws.proofs.Turning.BlockByBlock.{AllOf}
use Rattle.coap_client.proofs.Facts.Turning.Leading.{client_back}
use Rattle.coap_client_laws.proofs.Turning.Origins.{Origin, kept, begins, follows, origin}

-- what the message means to the fetch
part_by_block : (f : FetchState) (m : Message) (block : Option Block) → SaysBlock block m
    → part f m ≡ F.verdict f block (tag_in m) (length m.payload)
part_by_block f m None h = ap (part_by f (tag_in m) (length m.payload)) h
part_by_block f m (Some t) h = by (value_of block2 (said m)) h
  where
    by : (o : Option (List ℕ)) → ◌≡◌ {A = Option Block} (elim o [ None ↦ None | Some value ↦ block_in value ])
        (Some t)
        → part_by f (tag_in m) (length m.payload) o
        ≡ F.verdict f (Some t) (tag_in m) (length m.payload)
    by None h = absurd (cc h)
    by (Some value) h = ap (λ (b : Option Block). elim b [
      | None ↦ verdict.Refuse refusal.BadBlock
      | Some x ↦ F.verdict f (Some x) (tag_in m) (length m.payload)
    ]) h

said_part : (f : FetchState) (m : Message) (r : Reply) → SaysReply r m
    → part f m ≡ F.verdict f r.block2 r.tag (length r.part)
said_part f m r h = part_by_block f m r.block2 h.block
    ∙ (ap (λ t. F.verdict f r.block2 t (length m.payload)) h.tag
    ∙ ap (λ (p : List ℕ). F.verdict f r.block2 r.tag (length p)) h.part)

-- what the call makes of it

is_content : (r : Request) (f : FetchState) (m : Message) → m.code ≡ content
    → answer r (Fetches f) m ≡ calls.fetched f m (part f m)
is_content r f m code =
    ap (λ (b : Bool). cond b (calls.fetched f m (part f m))
    (cond ((m.code == valid) && has_tags r.etags) (calls.Ends true (Valid (tag_in m)))
    (calls.Ends true (Failed m.code)))) (ap (λ n. n == content) code ∙ number_self content)

abbrev Comes : Held → ℕ → calls.Next → Type 0
Comes held szx n =
    (n ≡ calls.Ends true (Body (Some (tag_of held.version)) held.format held.body))
    ⊎ ((g : FetchState) × (n ≡ calls.Asks (Fetches g)) × FetchesOf held szx g)

comes : (held : Held) (szx : ℕ) (r : Request) (f : FetchState) (m : Message) → length held.body ≤ f.limit
    → FetchesOf held szx f → SaysReply (reply_to held szx f.asked) m → Comes held szx (answer r (Fetches f) m)
comes held szx r f m small fetches says =
    let reply : Reply = reply_to held szx f.asked in
    let is = is_content r f m says.code in
    let means = said_part f m reply says in
    ⊎_elim (λ done. inl (is ∙ (ap (calls.fetched f m) (means ∙ done.0)
    ∙ (ap (λ t. calls.Ends true (Body t (format_in m) (f.gathered ++ m.payload))) says.tag
    ∙ (ap (λ t. calls.Ends true (Body reply.tag t (f.gathered ++ m.payload))) says.format
    ∙ ap (λ b. calls.Ends true (Body reply.tag reply.format b))
    (ap (λ p. f.gathered ++ p) says.part ∙ done.1))))))
    (λ more. inr (
      F.after f reply.tag reply.part (verdict.Ask more.0 more.1),
      is ∙ (ap (calls.fetched f m) (means ∙ more.2)
          ∙ (ap (λ t. calls.Asks (Fetches (F.after f t m.payload (verdict.Ask more.0 more.1)))) says.tag
          ∙ ap (λ p. calls.Asks (Fetches (F.after f reply.tag p (verdict.Ask more.0 more.1)))) says.part)),
      more.3,
    )) (fetches_unchanged held szx f small fetches)

fetch_sizes : (sizes : Sizes) (method : Method) (body : List ℕ) (f : FetchState)
    → CarriesBody sizes method body (Fetches f) → F.sizes_of f ≡ sizes
fetch_sizes sizes Get body f h = h
fetch_sizes sizes _ body f h = absurd h

abbrev fetch_in : calls.Next → Option FetchState
fetch_in (calls.Asks (Fetches f)) = Some f
fetch_in n = None

abbrev report_in : calls.Next → Option Report
report_in (calls.Ends final report) = Some report
report_in n = None

module _ (server : Endpoint) (sizes : Sizes) (setup : Setup) (held : Held) (szx k : ℕ)
    (small : length held.body ≤ sizes.limit)
  where
    within : (t : List Call) → ClientLaw server sizes setup t → (r : Request) (f : FetchState)
        → (own_of sizes t).running ≡ Some (Calling k r (Fetches f)) → length held.body ≤ f.limit
    within t law r f runs =
        let x = runs_as sizes server setup t law k r (Fetches f) runs in
        let same : f.limit ≡ sizes.limit =
        ap (λ (z : Sizes). z.limit) (fetch_sizes sizes r.method x.body f x.carries) in
        omega (arith, same, small)

    abbrev Here : List Call → Type 0
    Here t = (r : Request) (f : FetchState) → (own_of sizes t).running ≡ Some (Calling k r (Fetches f))
        → FetchesOf held szx f

    goes_here : (t : List Call) (c : Call) → ClientLaw server sizes setup t
        → ((r : Request) (f : FetchState) (m : Message) → (own_of sizes t).running ≡ Some (Calling k r (Fetches f))
        → hears c ≡ Some m → SaysReply (reply_to held szx f.asked) m) → Here t → (r : Request) (f : FetchState)
        → Origin sizes t c k r (Fetches f) → FetchesOf held szx f
    goes_here t c law says ih r f (kept runs none) = ih r f runs
    goes_here t c law says ih r f (begins queue is) =
        let h : AllOf IsNew (Calling k r (Fetches f) ∷ queue) = subst (AllOf IsNew) is (all_new sizes t) in
        let g = h.0 in
        inl (ap (λ (x : FetchState). x.asked) g.1, ap (λ (x : FetchState). x.gathered) g.1)
    goes_here t c law says ih r f (follows old m x runs heard asks sends_it op_is) =
        let n = fetch_next r old m f asks in
        let runs_so : (own_of sizes t).running ≡ Some (Calling k r (Fetches n.before)) =
        runs ∙ ap (λ z. Some (Calling k r z)) n.old_is in
        let asks_so : answer r (Fetches n.before) m ≡ calls.Asks (Fetches f) =
        ap (λ z. answer r z m) (sym n.old_is) ∙ asks in
        ⊎_elim (λ ends. let e = sym ends ∙ asks_so in absurd (cc e))
        (λ more. let e : Some more.0 ≡ Some f = ap fetch_in (sym more.1 ∙ asks_so) in
        let same : more.0 ≡ f = cc e in subst (FetchesOf held szx) same more.2)
        (comes held szx r n.before m (within t law r n.before runs_so) (ih r n.before runs_so)
        (says r n.before m runs_so heard))

    fetches : (t : List Call) → ClientLaw server sizes setup t → HearsReplies sizes held szx k t → Here t
    fetches [] law hears_all r f runs = absurd (cc runs)
    fetches (c ∷ t) law hears_all r f runs =
        let before = client_back server sizes setup (c ∷ []) t law in
        goes_here t c before hears_all.0 (fetches t before hears_all.1) r f (origin sizes t c k r (Fetches f) runs)

    whole_here : (t : List Call) (c : Call) → ClientLaw server sizes setup t
        → ((r : Request) (f : FetchState) (m : Message) → (own_of sizes t).running ≡ Some (Calling k r (Fetches f))
        → hears c ≡ Some m → SaysReply (reply_to held szx f.asked) m) → Here t → (r : Request) (f : FetchState)
        (report : Report) → (own_of sizes t).running ≡ Some (Calling k r (Fetches f))
        → reports (own_of sizes t) c ≡ of k report → is_by_answer report ≡ true
        → report ≡ Body (Some (tag_of held.version)) held.format held.body
    whole_here t c law says ih r f report runs made is =
        let g = gives_of sizes t c k report is made in
        let both : Some (Calling k g.request g.transfer) ≡ Some (Calling k r (Fetches f)) = sym g.runs ∙ runs in
        let request_is : g.request ≡ r = cc both in
        let transfer_is : g.transfer ≡ Fetches f = cc both in
        let ends_so : answer r (Fetches f) g.message ≡ calls.Ends g.final report =
        ap (λ q. answer q (Fetches f) g.message) (sym request_is)
        ∙ (ap (λ z. answer g.request z g.message) (sym transfer_is) ∙ g.ends_so) in
        ⊎_elim (λ ends. let e : Some (Body (Some (tag_of held.version)) held.format held.body) ≡ Some report =
        ap report_in (sym ends ∙ ends_so) in let same : Body (Some (tag_of held.version)) held.format held.body
        ≡ report = cc e in sym same)
        (λ more. let e = sym more.1 ∙ ends_so in absurd (cc e))
        (comes held szx r f g.message (within t law r f runs) (ih r f runs) (says r f g.message runs g.heard_it))

    whole : (t : List Call) → ClientLaw server sizes setup t → HearsReplies sizes held szx k t
        → Always (λ past c. (r : Request) (f : FetchState) (report : Report)
        → (own_of sizes past).running ≡ Some (Calling k r (Fetches f)) → reports (own_of sizes past) c ≡ of k report
        → is_by_answer report ≡ true → report ≡ Body (Some (tag_of held.version)) held.format held.body) t
    whole [] law hears_all = tt
    whole (c ∷ t) law hears_all =
        let before = client_back server sizes setup (c ∷ []) t law in
        (whole_here t c before hears_all.0 (fetches t before hears_all.1), whole t before hears_all.1)

    below_of : (f : FetchState) (a : Asked) → FetchesOf held szx f → f.asked ≡ Some a
        → offset_of a.num a.szx < length held.body
    below_of f a (inl h) is = let e : None ≡ Some a = sym h.0 ∙ is in absurd (cc e)
    below_of f a (inr h) is =
        let e : Some h.0 ≡ Some a = sym h.1.asked ∙ is in
        let same : h.0 ≡ a = cc e in
        let place = h.1.place in
        let left = h.1.left in
        subst (λ (x : Asked). offset_of x.num x.szx < length held.body) same (omega (arith, place, left))

    unchanged : (t : List Call) → ClientLaw server sizes setup t → HearsReplies sizes held szx k t
        → IsUnchanged sizes held szx k t
    unchanged t law hears_all = record {
      fetches = fetches t law hears_all;
      below = λ r f a runs is. below_of f a (fetches t law hears_all r f runs) is;
      whole = whole t law hears_all;
    }

pub are_unchanged : (server : Endpoint) (sizes : Sizes) (setup : Setup) (t : List Call) → ClientLaw server sizes setup t
    → AreUnchanged sizes t
are_unchanged server sizes setup t law held szx number small hears_all =
    unchanged server sizes setup held szx number small t law hears_all
