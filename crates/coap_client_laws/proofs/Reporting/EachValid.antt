-- A 2.03 to a GET that carries ETags is reported as Valid.
use Rattle.std.proofs.Common.{◌≡◌, ◌≢◌, ℕ, true, cond, ◌&&◌, List, [], ◌∷◌, refl, ap, subst, ◌∙◌}
use Rattle.std.specs.Prelude.{◌==◌}
use Rattle.coap_types.specs.declared.endpoint.Endpoint.{Endpoint}
use Rattle.coap_types.specs.declared.request.Method.{Method}
use Rattle.coap_types.specs.declared.request.Method.TheVariants.{Get}
use Rattle.coap_layer.specs.declared.setup.Setup.{Setup}
use Rattle.coap_codec.specs.Message.{Message}
use Rattle.coap_block.specs.Sizes.{Sizes}
use Rattle.coap_client.specs.Trace.{Request, Valid, Failed, Call}
use Rattle.coap_client.specs.Own.{Transfer, Fetches, Uploads, Single}
use Rattle.coap_client.specs.Calls.{has_tags, answer}
use Rattle.coap_client.specs.Calls as calls
use Rattle.coap_client.specs.Effects.{of}
use Rattle.coap_client.specs.Responses.{valid, content, tag_in, part}
use Rattle.coap_client.specs.Steps.{reports}
use Rattle.coap_client.specs.Law.{ClientLaw, own_of}
use Rattle.coap_client_laws.specs.Follows.Bodies.{HeardFor}
use Rattle.coap_client_laws.specs.Follows.OfCalls.{CarriesBody}
use Rattle.coap_client_laws.specs.Follows.Valid.{EachIsValid}
use Rattle.coap_client.specs.Sendings.{Taken, WasTaken}
use Rattle.coap_client_laws.proofs.Hearing.HeardRuns.{runs_call}
use Rattle.coap_client_laws.proofs.Reporting.Codes.{reports_answer}
use Rattle.coap_client.proofs.Facts.Turning.Leading.{client_back}

some_tags : (tags : List (List ℕ)) → tags ≢ [] → has_tags tags ≡ true
some_tags [] h = absurd (h refl)
some_tags (x ∷ tags) h = refl

-- what a GET makes of it
got_valid : (r : Request) (f : _) (m : Message) → r.etags ≢ [] → m.code ≡ valid
    → calls.got r f m ≡ calls.Ends true (Valid (tag_in m))
got_valid r f m tags code =
    ap (λ n. cond (n == content) (calls.fetched f m (part f m))
    (cond ((n == valid) && has_tags r.etags) (calls.Ends true (Valid (tag_in m))) (calls.Ends true (Failed n)))) code
    ∙ ap (λ b. cond b (calls.Ends true (Valid (tag_in m))) (calls.Ends true (Failed valid))) (some_tags r.etags tags)

answer_valid : (sizes : Sizes) (r : Request) (body : List ℕ) (tr : Transfer) (m : Message)
    → CarriesBody sizes Get body tr → r.etags ≢ [] → m.code ≡ valid → answer r tr m ≡ calls.Ends true (Valid (tag_in m))
answer_valid sizes r body (Fetches f) m carries tags code = got_valid r f m tags code
answer_valid sizes r body _ m carries tags code = absurd carries

valid_here : (server : Endpoint) (sizes : Sizes) (setup : Setup) (t : List Call) (c : Call)
    → ClientLaw server sizes setup (c ∷ t)
    → (x : Taken) (m : Message) → WasTaken x t → x.request.method ≡ Get → x.request.etags ≢ []
    → HeardFor sizes x.number m t c → m.code ≡ valid → reports (own_of sizes t) c ≡ of x.number (Valid (tag_in m))
valid_here server sizes setup t c law x m was method tags h code =
    let k = runs_call sizes server setup t c law x was m h in
    let r : Request = record x.request { body = [] } in
    reports_answer sizes (own_of sizes t) c x.number r k.transfer m true (Valid (tag_in m)) k.runs h.heard
    (answer_valid sizes r x.request.body k.transfer m
    (subst (λ (w : Method). CarriesBody sizes w x.request.body k.transfer) method k.carries) tags code)

pub each_is_valid : (server : Endpoint) (sizes : Sizes) (setup : Setup) (t : List Call) → ClientLaw server sizes setup t
    → EachIsValid sizes t
each_is_valid server sizes setup [] law = tt
each_is_valid server sizes setup (c ∷ t) law = (
  valid_here server sizes setup t c law,
  each_is_valid server sizes setup t (client_back server sizes setup (c ∷ []) t law),
)
