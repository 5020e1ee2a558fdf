-- Where a 2.05 comes from and what its payload is, and which codes say a change (RFC 7252, section 5.9.1; RFC 7959,
-- section 2.4).
use Rattle.std.specs.Prelude.{◌≡◌, ◌⊎◌, ℕ, Bool, false, ◌&&◌, ◌||◌, ◌==◌, nat_lt, nat_le, List, length, Option, Some}
use Rattle.std.specs.Prelude.{None, is_some}
use Rattle.coap_types.specs.declared.block.Block.{Block}
use Rattle.coap_types.specs.declared.message.TheConstants.Code as codes
use Rattle.coap_types.specs.declared.request.Method.TheVariants.{Get}
use Rattle.coap_resource.specs.declared.refusal.StoreRefusal.{StoreRefusal}
use Rattle.coap_resource.specs.Content.{Content, Held, later}
use Rattle.coap_types.specs.Piece.{Piece}
use Rattle.coap_resource.specs.RequestOptions.{block_of, offset_by, szx_by}
use Rattle.coap_resource.specs.Serves.{Question, Reply, Serves, content_reply, got, refusal_code}

-- a code that no refusal of the store has, nor 2.01, 2.04, 2.02, 4.04 or 4.12: so no POST, PUT or DELETE is answered
-- with it, and no precondition that fails
pub record IsOfGet (code : ℕ) : Type 0 where
  pub refused : (why : StoreRefusal) → (refusal_code why == code) ≡ false
  pub created : (codes.CREATED.0 == code) ≡ false
  pub changed : (codes.CHANGED.0 == code) ≡ false
  pub deleted : (codes.DELETED.0 == code) ≡ false
  pub not_found : (codes.NOT_FOUND.0 == code) ≡ false
  pub failed : (codes.PRECONDITION_FAILED.0 == code) ≡ false

-- a GET, which is answered by what its path holds, and changes nothing
pub record IsGot (old : Content) (q : Question) (reply : Reply) (new : Content) : Type 0 where
  pub method : q.method ≡ Get
  pub is : reply ≡ got (old.holds q.path) q
  pub same : new ≡ old

-- a GET of what a path holds, of a block that begins within the body
pub record IsContent (old : Content) (q : Question) (reply : Reply) (new : Content) : Type 0 where
  pub method : q.method ≡ Get
  pub held : Held
  pub is_held : old.holds q.path ≡ Some held
  pub within : (nat_lt 0 (offset_by (block_of q.options)) && nat_le (length held.body) (offset_by (block_of q.options)))
      ≡ false
  pub is : reply ≡ content_reply held (is_some (block_of q.options)) (offset_by (block_of q.options))
      (szx_by (block_of q.options) q.szx)
  pub same : new ≡ old

-- each 2.05 comes from such a GET
abbrev pub ContentLaw : Type 0
ContentLaw = (old new : Content) (now : ℕ) (q : Question) (reply : Reply) → Serves old now q reply new
    → reply.code ≡ codes.CONTENT.0
    → IsContent old q reply new

-- without Block2 the payload is the whole body, else the piece of it that Block2 says
abbrev pub IsPart : Option Block → List ℕ → List ℕ → Type 0
IsPart None body part = part ≡ body
IsPart (Some block) body part = Piece body block.num block.more block.szx part

-- the payload of a 2.05 is a part of what the path holds
abbrev pub PartLaw : Type 0
PartLaw = (old new : Content) (now : ℕ) (q : Question) (reply : Reply) → Serves old now q reply new
    → reply.code ≡ codes.CONTENT.0
    → (held : Held) × (old.holds q.path ≡ Some held) × IsPart reply.block2 held.body reply.part

-- 2.01, 2.02 and 2.04
abbrev pub is_change : ℕ → Bool
is_change code = (code == codes.CREATED.0) || ((code == codes.DELETED.0) || (code == codes.CHANGED.0))

-- under any other code nothing changes but the moment
abbrev pub SameLaw : Type 0
SameLaw = (old new : Content) (now : ℕ) (q : Question) (reply : Reply) → Serves old now q reply new
    → is_change reply.code ≡ false
    → (new ≡ old) ⊎ (new ≡ later old now)
