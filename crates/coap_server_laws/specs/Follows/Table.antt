-- What a server asks of its store: each request of a known method that has no fault, and nothing else (RFC 7252,
-- sections 5.2, 5.4.1, 5.7.2 and 5.8; RFC 7959, section 2.2).
use Rattle.std.specs.Prelude.{◌≡◌, ◌⊎◌, ◌≤◌, ℕ, false, Some, None, List, length}
use Rattle.coap_types.specs.BlockValue.{block_by}
use Rattle.coap_types.specs.MethodCode.{method_of}
use Rattle.coap_types.specs.OptionValues.{has, uint_at}
use Rattle.coap_types.specs.Past.{Always}
use Rattle.coap_types.specs.Recognised.{lacks_critical}
use Rattle.coap_types.specs.RequestPath.{path_of}
use Rattle.coap_types.specs.declared.block.Block.{Block}
use Rattle.coap_types.specs.declared.direction.Direction.TheVariants.{Request}
use Rattle.coap_types.specs.declared.option_number.TheConstants.{BLOCK1 as block1, BLOCK2 as block2}
use Rattle.coap_types.specs.declared.option_number.TheConstants.{PROXY_URI as proxy_uri, PROXY_SCHEME as proxy_scheme}
use Rattle.coap_types.specs.declared.path.TheConstants.{MAX_SEGMENTS as max_segments}
use Rattle.coap_types.specs.declared.request.Method.{Method}
use Rattle.coap_types.specs.declared.request.Method.TheVariants.{Put, Post}
use Rattle.coap_codec.specs.Message.{Message}
use Rattle.coap_resource.specs.Serves.{Question}
use Rattle.coap_resource.specs.Limits.{Limits}
use Rattle.coap_exchange.specs.declared.answerer.Asked.{Asked}
use Rattle.coap_server.specs.Trace.{Call}
use Rattle.coap_server.specs.Checks.{Verdict, Asks, Uploads, asks, is_reserved, question, verdict_on}
use Rattle.coap_server.specs.Law.{own_of}
use Rattle.coap_server.specs.Follows.Attended.{came_in, HasToWait, MakesWait}
use Rattle.coap_server.specs.Follows.Brings.{Completes}
use Rattle.coap_server.specs.Follows.Serves.{Serving, serving}
use Rattle.coap_server.specs.Follows.Takes.{took, takes_block}

-- A request with no fault: each critical option is recognised, it is for no proxy, it has at most 16 segments (profile)
-- and no reserved size of blocks.
pub record HasNoFault (m : Message) : Type 0 where
  pub critical : lacks_critical Request m.options ≡ false
  pub uri : has proxy_uri (asks m) ≡ false
  pub scheme : has proxy_scheme (asks m) ≡ false
  pub segments : length (path_of (asks m)) ≤ max_segments
  pub upload_size : is_reserved (uint_at block1 (asks m)) ≡ false
  pub size : is_reserved (uint_at block2 (asks m)) ≡ false

-- what is asked has no fault
abbrev pub NoFaultIn : Message → Verdict → Type 0
NoFaultIn m (Asks q) = HasNoFault m
NoFaultIn m (Uploads q b) = HasNoFault m
NoFaultIn m _ = Unit {0}

pub record VerdictsAsk : Type 0 where
  pub faultless : (szx : ℕ) (m : Message) → NoFaultIn m (verdict_on szx m)
  -- .. and each method without a fault and without Block1 is asked
  pub each : (szx : ℕ) (m : Message) (method : Method) → method_of m.code ≡ Some method → HasNoFault m
      → uint_at block1 (asks m) ≡ None → verdict_on szx m ≡ Asks (question szx method m)
  -- .. as with Block1 each PUT and POST
  pub puts : (szx : ℕ) (m : Message) (n : ℕ) (b : Block) → method_of m.code ≡ Some Put → HasNoFault m
      → uint_at block1 (asks m) ≡ Some n → block_by n ≡ Some b → verdict_on szx m ≡ Uploads (question szx Put m) b
  pub posts : (szx : ℕ) (m : Message) (n : ℕ) (b : Block) → method_of m.code ≡ Some Post → HasNoFault m
      → uint_at block1 (asks m) ≡ Some n → block_by n ≡ Some b → verdict_on szx m ≡ Uploads (question szx Post m) b

module _ (limits : Limits) (szx : ℕ) where
  abbrev pub ServedHere : List Call → Call → Asked → Question → Type 0
  ServedHere past c a q = (x : Serving) × (serving (own_of limits szx past) c ≡ Some x) × (x.asked ≡ a)
      × (x.question ≡ q)

  -- It is served in that call, unless it has to wait: then it waits.
  abbrev pub IsAttended : List Call → Call → Asked → Question → Type 0
  IsAttended past c a q = (ServedHere past c a q × ((delay : ℕ) → HasToWait limits szx past a q delay → ⊥))
      ⊎ MakesWait limits szx past c a q

  -- What asks whole is served in that call, or waits.
  abbrev pub MethodsHere : List Call → Call → Type 0
  MethodsHere past c = (p : Asked × Message) (q : Question) → came_in c ≡ Some p → verdict_on szx p.1 ≡ Asks q
      → IsAttended past c p.0 q

  abbrev pub AllMethods : List Call → Type 0
  AllMethods t = Always MethodsHere t

  -- The last block of an upload, where it is taken, makes the body whole; what asks with that is served in that call,
  -- or waits.
  abbrev pub UploadsHere : List Call → Call → Type 0
  UploadsHere past c =
      (p : Asked × Message) (q : Question) (b : Block) → came_in c ≡ Some p → verdict_on szx p.1 ≡ Uploads q b
      → takes_block (own_of limits szx past) c ≡ Some (took p.0 q b) → b.more ≡ false
      → (whole : Question) × Completes limits szx past c p.0 q b whole × IsAttended past c p.0 whole

  abbrev pub AllUploads : List Call → Type 0
  AllUploads t = Always UploadsHere t
