-- The block that a server reads is the one that the client sent.
use Rattle.std.proofs.Common.{◌≡◌, ◌≤◌, ◌<◌, ℕ, nat_lt, ◌||◌, Bool, true, false, Option, Some, None, List, [], ◌∷◌}
use Rattle.std.proofs.Common.{length, refl, ap, sym, subst, ◌∙◌, cond, arith}
use Rattle.std.specs.Prelude.{IfSome}
use Rattle.coap_types.specs.BlockValue.{block_by, block_value}
use Rattle.coap_types.specs.CoapOption.{option}
use Rattle.coap_types.specs.MethodCode.{method_of}
use Rattle.coap_types.specs.OptionValues.{uint_at, uint_in, value_of, has}
use Rattle.coap_types.specs.Piece.{part_of}
use Rattle.coap_types.specs.Recognised.{lacks_critical}
use Rattle.coap_types.specs.RequestPath.{path_of}
use Rattle.coap_types.specs.Uint.{uint}
use Rattle.coap_types.specs.declared.block.Block.{Block}
use Rattle.coap_types.specs.declared.direction.Direction.TheVariants.{Request}
use Rattle.coap_types.specs.declared.message.Kind.{Kind}
use Rattle.coap_types.specs.declared.message.Kind.TheVariants.{Con}
use Rattle.coap_types.specs.declared.path.TheConstants.{MAX_SEGMENTS as max_segments}
use Rattle.coap_types.specs.declared.option_number.TheConstants.{BLOCK1 as block1, BLOCK2 as block2}
use Rattle.coap_types.specs.declared.option_number.TheConstants.{PROXY_URI as proxy_uri, PROXY_SCHEME as proxy_scheme}
use Rattle.coap_types.specs.declared.request.Method.{Method}
use Rattle.coap_types.specs.declared.request.Method.TheVariants.{Get, Post, Put, Delete}
use Rattle.coap_types.proofs.Facts.Blocks.{block_reads_back}
use Rattle.coap_types.proofs.Facts.Uints.{uint_read}
use Rattle.coap_block.specs.Sizes.{Sizes}
use Rattle.coap_codec.specs.Message.{Message}
use Rattle.coap_block.specs.UploadStep.{UploadState, block_to_send, more_follows}
use Rattle.coap_resource.specs.RequestOptions.{block_said}
use Rattle.coap_resource.specs.Serves.{Question}
use Rattle.coap_client_laws.specs.Follows.Blocks.{carried}
use Rattle.coap_client_laws.specs.Follows.OfCalls.{CarriesBody, IsOfCall}
use Rattle.coap_client.specs.Own.{Transfer, Fetches, Uploads, Single, Calling}
use Rattle.coap_client.specs.Requests.{is_longer, block_option, payload_of}
use Rattle.coap_client.specs.Trace as C
use Rattle.coap_client.specs.Sendings.{WasTaken, Sending}
use Rattle.coap_server_laws.specs.Follows.Reads.{ReadsOf}
use Rattle.coap_server_laws.specs.Follows.Table.{HasNoFault, NoFaultIn}
use Rattle.coap_server.specs.Checks.{Verdict, Refused, Uploads as UploadsBlock, asks, verdict_on, bad_by}
use Rattle.coap_server.specs.Checks.{proxying_not_supported, bad_request, asked_by, uploading, question, is_reserved}
use Rattle.coap_server_laws.proofs.Facts.Laws as server_facts
use Rattle.coap_promise.specs.CameFrom.{request_of}
use Rattle.coap_promise.proofs.Facts.Requests.LastRequests.{method_is, no_fetch, sends_body, small_value, code_is}
use Rattle.coap_promise.proofs.Facts.Requests.LastRequests.{options_read}
use Rattle.coap_promise.proofs.Facts.Requests.ReadBack.{Changes, path_back, block_back}

-- what uploads a block changes something
uploading_changes : (method : Method) (p q : Question) (o : Option Block) (b : Block) → p.method ≡ method
    → uploading method p o ≡ UploadsBlock q b → Changes q.method
uploading_changes Put p q (Some z) b is h = let same : p
    ≡ q = cc h in subst Changes (sym is ∙ ap (λ (k : Question). k.method) same) tt
uploading_changes Post p q (Some z) b is h = let same : p
    ≡ q = cc h in subst Changes (sym is ∙ ap (λ (k : Question). k.method) same) tt
uploading_changes Get p q (Some z) b is h = absurd (cc h)
uploading_changes Delete p q (Some z) b is h = absurd (cc h)
uploading_changes Put p q None b is h = absurd (cc h)
uploading_changes Post p q None b is h = absurd (cc h)
uploading_changes Get p q None b is h = absurd (cc h)
uploading_changes Delete p q None b is h = absurd (cc h)

cond_refused : (c d : Bool) (n k : ℕ) (v : Verdict) (q : Question) (b : Block)
    → cond c (Refused n) (cond d (Refused k) v) ≡ UploadsBlock q b → v ≡ UploadsBlock q b
cond_refused true d n k v q b h = absurd (cc h)
cond_refused false true n k v q b h = absurd (cc h)
cond_refused false false n k v q b h = h

asked_changes : (szx : ℕ) (o : Option Method) (m : Message) (q : Question) (b : Block)
    → asked_by szx o m ≡ UploadsBlock q b → Changes q.method
asked_changes szx None m q b h = absurd (cc h)
asked_changes szx (Some method) m q b h =
    let said : Option Block = block_said (uint_at block1 (asks m)) in
    uploading_changes method (question szx method m) q said b refl
    (cond_refused (nat_lt max_segments (length (path_of (asks m))))
    (is_reserved (uint_at block1 (asks m)) || is_reserved (uint_at block2 (asks m))) bad_request bad_request
    (uploading method (question szx method m) said) q b h)

bad_none : (kind : Kind) (q : Question) (b : Block) → bad_by kind ≡ UploadsBlock q b → ⊥
bad_none Con q b h = cc h
bad_none _ q b h = cc h

pub uploads_change : (szx : ℕ) (m : Message) (q : Question) (b : Block) → verdict_on szx m ≡ UploadsBlock q b
    → Changes q.method
uploads_change szx m q b h = by (lacks_critical Request m.options)
    (has proxy_uri (asks m) || has proxy_scheme (asks m)) h
  where
    by : (c d : Bool) → cond c (bad_by m.kind) (cond d (Refused proxying_not_supported)
        (asked_by szx (method_of m.code) m)) ≡ UploadsBlock q b → Changes q.method
    by true d k = absurd (bad_none m.kind q b k)
    by false true k = absurd (cc k)
    by false false k = asked_changes szx (method_of m.code) m q b k

-- what is sent, and what is read of it
pub record ReadsBlock (x : Sending) (number : ℕ) (q : Question) (b : Block) (t : List C.Call) : Type 0 where
  pub request : C.Request
  pub taken : WasTaken (record { number = number; request = request }) t
  pub upload : UploadState
  pub carries : carried x.operation ≡ Some (record { number = number; upload = upload })
  pub longer : is_longer upload ≡ true
  pub body : upload.body ≡ request.body
  pub block : b ≡ block_to_send upload
  pub path : q.path ≡ request.path
  pub method : q.method ≡ request.method
  pub payload : q.body ≡ part_of upload.body upload.num upload.szx

module _ (sizes : Sizes) (szx id k : ℕ) (small : sizes.szx ≤ 6) (x : Sending) (t : List C.Call)
    (g : IsOfCall sizes k x t)
    (range : IfSome g.request.format (λ f. f < 65536)) (q : Question) (b : Block)
    (is : verdict_on szx (request_of id x) ≡ UploadsBlock q b) where
  abbrev m : Message
  m = request_of id x

  faultless : HasNoFault m
  faultless = subst (NoFaultIn m) is (server_facts.questions.faultless szx m)

  read : ReadsOf szx m (UploadsBlock q b)
  read = subst (ReadsOf szx m) is (server_facts.reads szx m)

  method_same : q.method ≡ g.request.method
  method_same = let methods : Some q.method ≡ Some g.request.method = sym read.0.method
      ∙ (ap method_of (code_is sizes szx id k small x t g range) ∙ method_is g.request.method) in cc methods

  change : Changes g.request.method
  change = subst Changes method_same (uploads_change szx m q b is)

  said : uint_at block1 (asks m) ≡ uint_in (value_of block1 (block_option g.transfer))
  said = ap (uint_at block1) (options_read sizes szx id k small x t g range faultless change)
      ∙ ap uint_in (block_back g.request g.request.method g.transfer)

  path_same : q.path ≡ g.request.path
  path_same = ap (λ (z : Question). z.path) read.0.is
      ∙ (ap path_of (options_read sizes szx id k small x t g range faultless change)
      ∙ path_back g.request g.request.method g.transfer)

  none_said : (tr : Transfer) → g.transfer ≡ tr → uint_in (value_of block1 (block_option tr)) ≡ None → ⊥
  none_said tr e none = let both : Some read.1.0 ≡ None = sym read.1.1
      ∙ (said ∙ (ap (λ z. uint_in (value_of block1 (block_option z))) e ∙ none)) in cc both

  of_upload : (u : UploadState) → g.transfer ≡ Uploads u → ReadsBlock x k q b t
  of_upload u e = by (is_longer u) refl
    where
      by : (z : Bool) → is_longer u ≡ z → ReadsBlock x k q b t
      by false short = absurd (none_said (Uploads u) e
          (ap (λ z. uint_in (value_of block1 (cond z (option block1 (uint (block_value (block_to_send u))) ∷ []) [])))
          short))
      by true long =
          let h = sends_body sizes g.request.method g.request.body u change
          (subst (CarriesBody sizes g.request.method g.request.body) e g.carries) in
          let z = h.size in
          let size : u.szx ≤ 6 = omega (arith, z, small) in
          let n : ℕ = block_value (block_to_send u) in
          let here : uint_at block1 (asks m) ≡ Some n = said ∙ (ap (λ tr. uint_in (value_of block1 (block_option tr))) e
          ∙ (ap (λ c. uint_in (value_of block1 (cond c (option block1 (uint n) ∷ []) []))) long
          ∙ uint_read n (small_value u.num u.szx (more_follows u) h.num size)))
          in
          let value : Some read.1.0 ≡ Some n = sym read.1.1 ∙ here in
          let same : read.1.0 ≡ n = cc value in
          let blocks : Some b ≡ Some (block_to_send u) = sym read.1.2
          ∙ (ap block_by same ∙ block_reads_back (block_to_send u) h.num size) in
          record {
            request = g.request;
            taken = g.taken;
            upload = u;
            carries = ap carried g.operation ∙ ap (λ tr. carried (Calling k (record g.request { body = [] }) tr)) e;
            longer = long;
            body = h.body_is;
            block = cc blocks;
            path = path_same;
            method = method_same;
            payload = ap (λ (z : Question). z.body) read.0.is ∙ (ap (λ r. r.payload) g.message ∙ ap payload_of e);
          }

  by_transfer : (tr : Transfer) → g.transfer ≡ tr → ReadsBlock x k q b t
  by_transfer Single e = absurd (none_said Single e refl)
  by_transfer (Fetches f) e = absurd (no_fetch sizes g.request.method g.request.body f change
      (subst (CarriesBody sizes g.request.method g.request.body) e g.carries))
  by_transfer (Uploads u) e = of_upload u e

  pub reads_block : ReadsBlock x k q b t
  reads_block = by_transfer g.transfer refl
