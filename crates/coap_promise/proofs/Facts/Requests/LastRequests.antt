-- The request of a call that is applied is the last of that call.
use Rattle.std.proofs.Common.{◌≡◌, ◌≤◌, ◌<◌, inl, inr, ℕ, ◌+◌, ◌^◌, nat_lt, Bool, true, false, not, Some, None, List}
use Rattle.std.proofs.Common.{[], ◌∷◌, length, refl, ap, sym, subst, ◌∙◌, cond, arith}
use Rattle.std.specs.Prelude.{IfSome}
use Rattle.std.proofs.lemmas.Bool.Decides.{nat_tests}
use Rattle.coap_types.specs.BlockValue.{block_by, block_value}
use Rattle.coap_types.specs.CoapOption.{option}
use Rattle.coap_types.specs.MethodCode.{method_code, method_of}
use Rattle.coap_types.specs.OptionValues.{uint_at, uint_in, value_of}
use Rattle.coap_types.specs.Piece.{size_of, offset_of}
use Rattle.coap_types.specs.Recognised.{lacks_critical, recognised}
use Rattle.coap_types.specs.Uint.{uint}
use Rattle.coap_types.specs.declared.block.Block.{Block}
use Rattle.coap_types.specs.declared.direction.Direction.TheVariants.{Request}
use Rattle.coap_types.specs.declared.option_number.TheConstants.{BLOCK1 as block1}
use Rattle.coap_types.specs.declared.request.Method.{Method}
use Rattle.coap_types.specs.declared.request.Method.TheVariants.{Get, Delete}
use Rattle.coap_types.proofs.Facts.Blocks.{block_reads_back}
use Rattle.coap_types.proofs.Facts.Uints.{uint_read}
use Rattle.coap_block.specs.Sizes.{Sizes}
use Rattle.coap_codec.specs.Message.{Message}
use Rattle.coap_block.specs.UploadStep.{UploadState, block_to_send, more_follows}
use Rattle.coap_client_laws.specs.Follows.Begins.{WasSent}
use Rattle.coap_client_laws.specs.Follows.OfCalls.{CarriesBody, SendsBody, IsOfCall, AreOfCalls}
use Rattle.coap_client_laws.specs.Follows.Order.{call_of, is_last}
use Rattle.coap_client.specs.Own.{Transfer, Fetches, Uploads, Single, Calling}
use Rattle.coap_client.specs.Requests.{is_longer, block_option}
use Rattle.coap_client.specs.Trace as C
use Rattle.coap_client.specs.Sendings.{Sending}
use Rattle.coap_server_laws.specs.Follows.Reads.{ReadsOf}
use Rattle.coap_server_laws.specs.Follows.Table.{HasNoFault, NoFaultIn}
use Rattle.coap_server.specs.Checks.{Verdict, Asks, Uploads as UploadsBlock, asks, verdict_on}
use Rattle.coap_server_laws.proofs.Facts.Laws as server_facts
use Rattle.coap_promise.specs.CameFrom.{request_of}
use Rattle.coap_promise.proofs.Facts.Requests.ReadBack.{Changes, options_in, in_order, bare_options, reads_all}
use Rattle.coap_promise.proofs.Facts.Requests.ReadBack.{block_back}
use Rattle.coap_promise.proofs.Reports.MoreBit.{bit_small}

-- what was sent for a call, of the whole of its calls so far
pub of_call_at : (sizes : Sizes) (t : List C.Call) → AreOfCalls sizes t → (x : Sending) (k : ℕ) → WasSent sizes x t
    → call_of x.operation ≡ Some k → IsOfCall sizes k x t
of_call_at sizes [] law x k h of = absurd h
of_call_at sizes (c ∷ t) law x k (inl h) of =
    let g = law.0 x k h of in
    record {
      request = g.request;
      taken = inr g.taken;
      transfer = g.transfer;
      operation = g.operation;
      carries = g.carries;
      message = g.message;
    }
of_call_at sizes (c ∷ t) law x k (inr h) of =
    let g = of_call_at sizes t law.1 x k h of in
    record {
      request = g.request;
      taken = inr g.taken;
      transfer = g.transfer;
      operation = g.operation;
      carries = g.carries;
      message = g.message;
    }

pub method_is : (m : Method) → method_of (method_code m).0 ≡ Some m
method_is Get = refl
method_is _ = refl

-- asked of the store: as it came, or by the last block
abbrev pub Final : Verdict → Type 0
Final (Asks q) = Unit {0}
Final (UploadsBlock q b) = b.more ≡ false
Final _ = ⊥

pub no_fetch : (sizes : Sizes) (m : Method) (body : List ℕ) (f : _) → Changes m → CarriesBody sizes m body (Fetches f)
    → ⊥
no_fetch sizes Get body f change h = change
no_fetch sizes _ body f change h = h

pub sends_body : (sizes : Sizes) (m : Method) (body : List ℕ) (u : UploadState) → Changes m
    → CarriesBody sizes m body (Uploads u) → SendsBody sizes body u
sends_body sizes Get body u change h = absurd change
sends_body sizes Delete body u change h = absurd h
sends_body sizes _ body u change h = h

-- a body that fits a block is sent by one
no_more : (u : UploadState) → is_longer u ≡ false → more_follows u ≡ false
no_more u short = by (offset_of u.num u.szx) (size_of u.szx) (length u.body) short
  where
    by : (o s l : ℕ) → nat_lt s l ≡ false → nat_lt (o + s) l ≡ false
    by o s l h = grind (arith, nat_tests, h)

-- the number of a block is small
pub small_value : (num szx : ℕ) (more : Bool) → num ≤ 1048575 → szx ≤ 6
    → block_value (record { num = num; more = more; szx = szx }) < 2 ^ 32
small_value num szx more n s = let b = bit_small more in omega (arith, n, s, b)

-- the request of a call, as a server with blocks of this size reads it
module _ (sizes : Sizes) (szx id k : ℕ) (small : sizes.szx ≤ 6) (x : Sending) (t : List C.Call)
    (g : IsOfCall sizes k x t)
    (range : IfSome g.request.format (λ f. f < 65536)) where
  abbrev m : Message
  m = request_of id x

  pub code_is : m.code ≡ (method_code g.request.method).0
  code_is = ap (λ r. r.code) g.message

  options_are : m.options ≡ options_in g.request g.transfer
  options_are = ap (λ r. r.options) g.message ∙ bare_options g.request g.transfer

  -- all its options are read
  pub options_read : HasNoFault m → Changes g.request.method → asks m ≡ in_order g.request g.request.method g.transfer
  options_read good change =
      let none : lacks_critical Request (options_in g.request g.transfer)
      ≡ false = ap (lacks_critical Request) (sym options_are) ∙ good.critical in
      ap (recognised Request) options_are ∙ reads_all g.request g.transfer change range none

  good_of : (v : Verdict) → NoFaultIn m v → Final v → HasNoFault m
  good_of (Asks q) h final = h
  good_of (UploadsBlock q b) h final = h
  good_of _ h final = absurd final

  module _ (v : Verdict) (is : verdict_on szx m ≡ v) (final : Final v) where
    pub good : HasNoFault m
    good = good_of v (subst (NoFaultIn m) is (server_facts.questions.faultless szx m)) final

    pub reads : ReadsOf szx m v
    reads = subst (ReadsOf szx m) is (server_facts.reads szx m)

    -- the block that it says
    said : Changes g.request.method → uint_at block1 (asks m) ≡ uint_in (value_of block1 (block_option g.transfer))
    said change = ap (uint_at block1) (options_read good change)
        ∙ ap uint_in (block_back g.request g.request.method g.transfer)

    of_verdict : (u : UploadState) (n : ℕ) → n ≡ block_value (block_to_send u) → u.num ≤ 1048575 → u.szx ≤ 6
        → (w : Verdict) → ReadsOf szx m w → Final w → uint_at block1 (asks m) ≡ Some n → more_follows u ≡ false
    of_verdict u n value num size (Asks q) r f h = let e : None ≡ Some n = sym r.1 ∙ h in absurd (cc e)
    of_verdict u n value num size (UploadsBlock q b) r f h =
        let e : Some r.1.0 ≡ Some n = sym r.1.1 ∙ h in
        let same : r.1.0 ≡ n = cc e in
        let k : Some b ≡ Some (block_to_send u) = sym r.1.2
        ∙ (ap block_by (same ∙ value) ∙ block_reads_back (block_to_send u) num size) in
        let block_is : b ≡ block_to_send u = cc k in
        sym (ap (λ (z : Block). z.more) block_is) ∙ f
    of_verdict u n value num size _ r f h = absurd f

    last_by : Changes g.request.method → (tr : Transfer) → g.transfer ≡ tr → (r : C.Request)
        → is_last (Calling k r tr) ≡ true
    last_by change Single e r = refl
    last_by change (Fetches f) e r = absurd (no_fetch sizes g.request.method g.request.body f change
        (subst (CarriesBody sizes g.request.method g.request.body) e g.carries))
    last_by change (Uploads u) e r = by (is_longer u) refl
      where
        by : (b : Bool) → is_longer u ≡ b → not (more_follows u) ≡ true
        by false short = ap not (no_more u short)
        by true long =
            let h = sends_body sizes g.request.method g.request.body u change
            (subst (CarriesBody sizes g.request.method g.request.body) e g.carries) in
            let z = h.size in
            let size : u.szx ≤ 6 = omega (arith, z, small) in
            let n : ℕ = block_value (block_to_send u) in
            let here : uint_at block1 (asks m) ≡ Some n = said change
            ∙ (ap (λ tr. uint_in (value_of block1 (block_option tr))) e
            ∙ (ap (λ b. uint_in (value_of block1 (cond b (option block1 (uint n) ∷ []) []))) long
            ∙ uint_read n (small_value u.num u.szx (more_follows u) h.num size)))
            in
            ap not (of_verdict u n refl h.num size v reads final here)

    pub is_the_last : Changes g.request.method → is_last x.operation ≡ true
    is_the_last change = ap is_last g.operation ∙ last_by change g.transfer refl (record g.request { body = [] })
