-- Which response a request has, and what it changes (RFC 7252, section 5.8; RFC 7959, section 2.4).
use Rattle.std.specs.Prelude.{◌≡◌, ℕ, Bool, true, false, not, ◌&&◌, ◌||◌, ◌+◌, ◌/◌, ◌++◌, nat_lt, nat_le, List, []}
use Rattle.std.specs.Prelude.{length, take, drop, Option, Some, None, is_some, if◌then◌else◌}
use Rattle.coap_types.specs.CoapOption.{CoapOption, options_of}
use Rattle.coap_types.specs.Piece.{size_of}
use Rattle.coap_types.specs.declared.block.Block.{Block}
use Rattle.coap_types.specs.declared.message.TheConstants.Code as codes
use Rattle.coap_types.specs.declared.request.Method.{Method}
use Rattle.coap_types.specs.declared.request.Method.TheVariants.{Get, Post, Put, Delete}
use Rattle.coap_resource.specs.declared.asking.Asking.{Asking}
use Rattle.coap_resource.specs.declared.response.Response.{Response}
use Rattle.coap_resource.specs.declared.refusal.StoreRefusal.{StoreRefusal}
use Rattle.coap_resource.specs.declared.refusal.StoreRefusal.TheVariants.{TooLarge}
use Rattle.coap_resource.specs.Content.{Content, Held, Changes, append_refusal, put_refusal, later}
use Rattle.coap_resource.specs.Rate.{rate_refusal}
use Rattle.coap_resource.specs.RequestOptions.{tag_of, etag_names, precondition_fails, format_of, accepts, block_of}
use Rattle.coap_resource.specs.RequestOptions.{offset_by, szx_by}

-- a request, as far as the store answers it: the options are the recognised ones, the exponent is the server's
pub record Question : Type 0 where
  pub method : Method
  pub path : List (List ℕ)
  pub options : List CoapOption
  pub body : List ℕ
  pub szx : ℕ

abbrev pub question_of : {A : Type 0} → Asking A → Question
question_of a = record {
  method = a.method;
  path = a.path.now;
  options = options_of a.options.now;
  body = a.body.now;
  szx = a.szx;
}

-- a response: its options, its payload, and the offset that a GET asked for
pub record Reply : Type 0 where
  pub code : ℕ
  pub tag : Option (List ℕ)
  pub format : Option ℕ
  pub block2 : Option Block
  pub part : List ℕ
  pub offset : ℕ

abbrev pub reply_of : {A : Type 0} → Response A → Reply
reply_of r = record {
  code = r.code.0;
  tag = r.tag;
  format = r.format;
  block2 = r.block2;
  part = r.part;
  offset = r.offset;
}

-- a code with no option and no payload
abbrev pub bare : ℕ → ℕ → Reply
bare code offset = record { code = code; tag = None; format = None; block2 = None; part = []; offset = offset }

-- Block2 is there where it was asked for, or the body is longer than the block; NUM counts blocks of the size of the
-- response, and M says whether the body goes on.
abbrev pub block2_of : Bool → ℕ → ℕ → ℕ → Option Block
block2_of by_block offset szx len =
    if by_block || nat_lt (size_of szx) len then
    Some (record { num = offset / size_of szx; more = nat_lt (offset + size_of szx) len; szx = szx }) else None

-- 2.05: the part of the body from the offset on, at most a block of it
abbrev pub content_reply : Held → Bool → ℕ → ℕ → Reply
content_reply held by_block offset szx = record {
  code = codes.CONTENT.0;
  tag = Some (tag_of held.version);
  format = held.format;
  block2 = block2_of by_block offset szx (length held.body);
  part = take (size_of szx) (drop offset held.body);
  offset = offset;
}

-- a GET of what a path holds: not acceptable 4.06, known to the client 2.03, nothing there 4.00, else 2.05
abbrev pub got_at : Held → List CoapOption → ℕ → Option Block → Reply
got_at held options szx block =
    if not (accepts held.format options) then bare codes.NOT_ACCEPTABLE.0 (offset_by block)
    else if etag_names held.version options then
    record (bare codes.VALID.0 (offset_by block)) { tag = Some (tag_of held.version) }
    else if nat_lt 0 (offset_by block) && nat_le (length held.body) (offset_by block) then
    bare codes.BAD_REQUEST.0 (offset_by block)
    else content_reply held (is_some block) (offset_by block) (szx_by block szx)

abbrev pub got : Option Held → Question → Reply
got None q = bare codes.NOT_FOUND.0 (offset_by (block_of q.options))
got (Some held) q = got_at held q.options q.szx (block_of q.options)

-- 4.13 for a body that is too large, else 5.03
abbrev pub refusal_code : StoreRefusal → ℕ
refusal_code TooLarge = codes.REQUEST_ENTITY_TOO_LARGE.0
refusal_code why = codes.SERVICE_UNAVAILABLE.0

-- a PUT that is refused changes nothing; else the path holds body and format under the next version
abbrev pub PutBy : Option StoreRefusal → Content → ℕ → Question → Reply → Content → Type 0
PutBy (Some why) old now q reply new = (reply ≡ bare (refusal_code why) 0) × (new ≡ later old now)
PutBy None old now q reply new =
    (reply ≡ bare (if is_some (old.holds q.path) then codes.CHANGED.0 else codes.CREATED.0) 0)
    × Changes old now q.path (Some (record {
      version = old.tally.version + 1;
      format = format_of q.options;
      body = q.body;
    })) new

-- a POST to what a path holds: the body is joined to its end, and the format stays
abbrev pub JoinBy : Option StoreRefusal → Held → Content → ℕ → Question → Reply → Content → Type 0
JoinBy (Some why) held old now q reply new = (reply ≡ bare (refusal_code why) 0) × (new ≡ later old now)
JoinBy None held old now q reply new =
    (reply ≡ bare codes.CHANGED.0 0)
    × Changes old now q.path (Some (record {
      version = old.tally.version + 1;
      format = held.format;
      body = held.body ++ q.body;
    })) new

abbrev pub PostBy : Option Held → Content → ℕ → Question → Reply → Content → Type 0
PostBy None old now q reply new = (reply ≡ bare codes.NOT_FOUND.0 0) × (new ≡ later old now)
PostBy (Some held) old now q reply new = JoinBy (append_refusal old now held (length q.body)) held old now q reply new

-- a DELETE of what a path holds: the path holds nothing any more
abbrev pub RemoveBy : Option StoreRefusal → Content → ℕ → Question → Reply → Content → Type 0
RemoveBy (Some why) old now q reply new = (reply ≡ bare (refusal_code why) 0) × (new ≡ later old now)
RemoveBy None old now q reply new = (reply ≡ bare codes.DELETED.0 0) × Changes old now q.path None new

abbrev pub DeleteBy : Option Held → Content → ℕ → Question → Reply → Content → Type 0
DeleteBy None old now q reply new = (reply ≡ bare codes.DELETED.0 0) × (new ≡ later old now)
DeleteBy (Some held) old now q reply new = RemoveBy (rate_refusal old.tally now) old now q reply new

-- the table of the methods, with the path existing or not
abbrev pub ServesMethod : Method → Content → ℕ → Question → Reply → Content → Type 0
ServesMethod Get old now q reply new = (reply ≡ got (old.holds q.path) q) × (new ≡ old)
ServesMethod Post old now q reply new = PostBy (old.holds q.path) old now q reply new
ServesMethod Put old now q reply new = PutBy (put_refusal old now q.path (length q.body)) old now q reply new
ServesMethod Delete old now q reply new = DeleteBy (old.holds q.path) old now q reply new

-- where a GET asks for a block to begin, and 0 for the other methods
abbrev pub asked_offset : Method → List CoapOption → ℕ
asked_offset Get options = offset_by (block_of options)
asked_offset method options = 0

abbrev pub ServesUnless : Bool → Content → ℕ → Question → Reply → Content → Type 0
ServesUnless true old now q reply new = (reply ≡ bare codes.PRECONDITION_FAILED.0 (asked_offset q.method q.options))
    × (new ≡ old)
ServesUnless false old now q reply new = ServesMethod q.method old now q reply new

-- the preconditions first, 4.12 where they fail, and then the method
abbrev pub Serves : Content → ℕ → Question → Reply → Content → Type 0
Serves old now q reply new = ServesUnless (precondition_fails (old.holds q.path) q.options) old now q reply new
