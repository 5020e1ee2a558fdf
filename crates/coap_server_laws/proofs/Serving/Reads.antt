-- What a request asks, and which block it uploads, as its message says.
use Rattle.coap_types.specs.declared.path.TheConstants.{MAX_SEGMENTS as max_segments}
use Rattle.coap_types.specs.declared.option_number.TheConstants.{PROXY_URI as proxy_uri}
use Rattle.coap_types.specs.declared.option_number.TheConstants.{PROXY_SCHEME as proxy_scheme}
use Rattle.coap_types.specs.declared.option_number.TheConstants.{BLOCK2 as block2}
use Rattle.coap_types.specs.declared.option_number.TheConstants.{BLOCK1 as block1}
use Rattle.coap_types.specs.BlockValue.{block_by}
use Rattle.coap_resource.specs.RequestOptions.{block_said}
use Rattle.std.proofs.Common.{◌≡◌, ℕ, ◌||◌, not, is_some, nat_lt, Bool, true, false, Option, Some, None, length, refl}
use Rattle.std.proofs.Common.{cond, ap, sym, ◌∙◌}
use Rattle.coap_types.specs.declared.block.Block.{Block}
use Rattle.coap_types.specs.OptionValues.{uint_at}
use Rattle.coap_types.specs.Recognised.{lacks_critical}
use Rattle.coap_types.specs.declared.direction.Direction.TheVariants as direction
use Rattle.coap_types.specs.declared.message.Kind.{Kind}
use Rattle.coap_types.specs.declared.message.Kind.TheVariants.{Con, Non, Ack, Rst}
use Rattle.coap_types.specs.declared.request.Method.{Method}
use Rattle.coap_types.specs.declared.request.Method.TheVariants.{Get, Post, Put, Delete}
use Rattle.coap_codec.specs.Message.{Message}
use Rattle.coap_types.specs.OptionValues.{has}
use Rattle.coap_server.specs.Checks.{Refused, verdict_on, bad_by, asked_by, uploading, question, asks}
use Rattle.coap_server.specs.Checks.{is_reserved, bad_request, proxying_not_supported}
use Rattle.coap_types.specs.RequestPath.{path_of}
use Rattle.coap_types.specs.MethodCode.{method_of}
use Rattle.coap_server_laws.specs.Follows.Reads.{ReadsAs, ReadsOf, VerdictsRead}

module _ (szx : ℕ) (m : Message) where
  bad_reads : (k : Kind) → ReadsOf szx m (bad_by k)
  bad_reads Con = tt
  bad_reads Non = tt
  bad_reads Ack = tt
  bad_reads Rst = tt

  uploading_reads : (method : Method) (o : Option ℕ) → uint_at block1 (asks m) ≡ o → is_reserved o ≡ false
      → ReadsAs szx m (question szx method m) → ReadsOf szx m (uploading method (question szx method m) (block_said o))
  uploading_reads method None e u r = (r, e)
  uploading_reads method (Some n) e u r = by (block_by n) refl method r
    where
      by : (o : Option Block) → block_by n ≡ o → (k : Method) → ReadsAs szx m (question szx k m)
          → ReadsOf szx m (uploading k (question szx k m) o)
      by None h k r = let z : true ≡ false = sym (ap (λ (x : Option Block). not (is_some x)) h) ∙ u in cc z
      by (Some b) h Put r = (r, (n, e, h))
      by (Some b) h Post r = (r, (n, e, h))
      by (Some b) h Get r = tt
      by (Some b) h Delete r = tt

  asked_reads : (o : Option Method) → method_of m.code ≡ o → ReadsOf szx m (asked_by szx o m)
  asked_reads None e = tt
  asked_reads (Some method) e =
      by (nat_lt max_segments (length (path_of (asks m)))) (is_reserved (uint_at block1 (asks m))) refl
      (is_reserved (uint_at block2 (asks m)))
    where
      by : (b c : Bool) → is_reserved (uint_at block1 (asks m)) ≡ c → (d : Bool)
          → ReadsOf szx m (cond b (Refused bad_request)
          (cond (c || d) (Refused bad_request) (uploading method (question szx method m)
          (block_said (uint_at block1 (asks m))))))
      by true c k d = tt
      by false true k d = tt
      by false false k true = tt
      by false false k false = uploading_reads method (uint_at block1 (asks m)) refl k
          (record { method = e; is = refl })

  pub verdict_reads : ReadsOf szx m (verdict_on szx m)
  verdict_reads = by (lacks_critical direction.Request m.options) (has proxy_uri (asks m) || has proxy_scheme (asks m))
    where
      by : (b c : Bool) → ReadsOf szx m (cond b (bad_by m.kind)
          (cond c (Refused proxying_not_supported) (asked_by szx (method_of m.code) m)))
      by true c = bad_reads m.kind
      by false true = tt
      by false false = asked_reads (method_of m.code) refl

pub verdicts_read : VerdictsRead
verdicts_read szx m = verdict_reads szx m
