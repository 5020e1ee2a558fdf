-- A server that refuses a request without the store says 4.00 or a higher code, which is that of an error.
use Rattle.std.proofs.Common.{◌≡◌, ◌≤◌, ℕ, ◌||◌, nat_lt, Bool, true, false, Option, Some, None, length, refl, ap, sym}
use Rattle.std.proofs.Common.{◌∙◌, cond}
use Rattle.coap_types.specs.MethodCode.{method_of}
use Rattle.coap_types.specs.OptionValues.{has, uint_at}
use Rattle.coap_types.specs.Recognised.{lacks_critical}
use Rattle.coap_types.specs.RequestPath.{path_of}
use Rattle.coap_types.specs.declared.block.Block.{Block}
use Rattle.coap_types.specs.declared.direction.Direction.TheVariants as direction
use Rattle.coap_types.specs.declared.message.Kind.{Kind}
use Rattle.coap_types.specs.declared.message.Kind.TheVariants.{Con}
use Rattle.coap_types.specs.declared.option_number.TheConstants.{BLOCK1 as block1, BLOCK2 as block2}
use Rattle.coap_types.specs.declared.option_number.TheConstants.{PROXY_URI as proxy_uri, PROXY_SCHEME as proxy_scheme}
use Rattle.coap_types.specs.declared.path.TheConstants.{MAX_SEGMENTS as max_segments}
use Rattle.coap_types.specs.declared.request.Method.{Method}
use Rattle.coap_types.specs.declared.request.Method.TheVariants.{Put}
use Rattle.coap_codec.specs.Message.{Message}
use Rattle.coap_block.specs.AssemblyState.{AssemblyState}
use Rattle.coap_block.specs.declared.assembly_step.AssemblyRefusal.TheVariants.{BadRequest}
use Rattle.coap_block.specs.declared.block_verdict.BlockVerdict.{BlockVerdict}
use Rattle.coap_block.specs.declared.block_verdict.BlockVerdict.TheVariants.{Refuse}
use Rattle.coap_resource.specs.RequestOptions.{block_said}
use Rattle.coap_resource.specs.Serves.{Question}
use Rattle.coap_exchange.specs.declared.answerer.Asked.{Asked}
use Rattle.coap_server.specs.Trace.{Own, Call, Feeds, Refuses}
use Rattle.coap_server.specs.Checks.{Verdict, Ignored, Refused, Asks, Uploads, verdict_on, bad_by}
use Rattle.coap_server.specs.Checks.{asked_by, uploading, question, asks, is_reserved, bad_request}
use Rattle.coap_server.specs.Checks.{proxying_not_supported}
use Rattle.coap_server.specs.Uploads.{ruling_of}
use Rattle.coap_server.specs.Steps.{IsRight}
use Rattle.coap_server.proofs.Facts.Refusing.ErrorsRespond.{response_says}
use Rattle.coap_server_laws.specs.Follows.Gives.{refusal_by, refusal_of, refusal_in}
use Rattle.coap_exchange.proofs.Facts.Comparisons.{lt_not}

-- a code that is there is below 4.00
abbrev is_below : Option ℕ → Bool
is_below None = false
is_below (Some code) = nat_lt code bad_request

abbrev refuses_below : Verdict → Bool
refuses_below (Refused code) = nat_lt code bad_request
refuses_below _ = false

uploading_not : (m : Method) (q : Question) (o : Option Block) → refuses_below (uploading m q o) ≡ false
uploading_not m q None = refl
uploading_not Put q (Some b) = refl
uploading_not _ q (Some b) = refl

asked_not : (szx : ℕ) (o : Option Method) (m : Message) → refuses_below (asked_by szx o m) ≡ false
asked_not szx None m = refl
asked_not szx (Some method) m = by (nat_lt max_segments (length (path_of (asks m))))
    (is_reserved (uint_at block1 (asks m)) || is_reserved (uint_at block2 (asks m)))
  where
    last : Verdict
    last = uploading method (question szx method m) (block_said (uint_at block1 (asks m)))

    by : (b c : Bool) → refuses_below (cond b (Refused bad_request) (cond c (Refused bad_request) last)) ≡ false
    by true c = refl
    by false true = refl
    by false false = uploading_not method (question szx method m) (block_said (uint_at block1 (asks m)))

bad_not : (k : Kind) → refuses_below (bad_by k) ≡ false
bad_not Con = refl
bad_not _ = refl

verdict_not : (szx : ℕ) (m : Message) → refuses_below (verdict_on szx m) ≡ false
verdict_not szx m = by (lacks_critical direction.Request m.options)
    (has proxy_uri (asks m) || has proxy_scheme (asks m))
  where
    by : (b c : Bool) → refuses_below (cond b (bad_by m.kind)
        (cond c (Refused proxying_not_supported) (asked_by szx (method_of m.code) m))) ≡ false
    by true c = bad_not m.kind
    by false true = refl
    by false false = asked_not szx (method_of m.code) m

block_not : (v : BlockVerdict) → is_below (refusal_by v) ≡ false
block_not (Refuse BadRequest) = refl
block_not _ = refl

refusal_not : (uploads : AssemblyState) (at : ℕ) (a : Asked) (v : Verdict) → refuses_below v ≡ false
    → is_below (refusal_of uploads at a v) ≡ false
refusal_not uploads at a Ignored h = refl
refusal_not uploads at a (Refused code) h = h
refusal_not uploads at a (Asks q) h = refl
refusal_not uploads at a (Uploads q b) h = block_not (ruling_of uploads at a q b)

at_least : (o : Option ℕ) (code : ℕ) → is_below o ≡ false → o ≡ Some code → bad_request ≤ code
at_least o code not_so is = lt_not code bad_request (sym (ap is_below is) ∙ not_so)

-- where a message comes to such a refusal
pub refused_with : (szx : ℕ) (m : Message) (uploads : AssemblyState) (at : ℕ) (a : Asked) (code : ℕ)
    → refusal_of uploads at a (verdict_on szx m) ≡ Some code → bad_request ≤ code
refused_with szx m uploads at a code is = at_least (refusal_of uploads at a (verdict_on szx m)) code
    (refusal_not uploads at a (verdict_on szx m) (verdict_not szx m)) is

-- .. and where a call refuses
pub refusals_are_errors : (s : Own) (c : Call) → IsRight s c → (code : ℕ) → refusal_in s c ≡ Some code
    → bad_request ≤ code
refusals_are_errors s (Feeds now from bytes word up (Some p) h below) right code is =
    refused_with s.szx p.1 s.uploads _ p.0 code is
refusals_are_errors s (Refuses now from bytes word n up p response below) right code is =
    (response_says n p.1 response right code is).least
refusals_are_errors s _ right code is = absurd (cc is)
