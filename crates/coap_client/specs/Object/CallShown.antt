-- What contracts see of a client's calls, and which requests fit a message (RFC 7252, sections 4.6 and 5.1).
use Rattle.std.specs.Prelude.{◌≡◌, ◌≤◌, ℕ, Bool, true, false, Option, None, List, length, IfSome}
use Rattle.std.specs.List.{list_all}
use Rattle.std.specs.Option.{option_map}
use Rattle.coap_types.specs.CoapOption.{CoapOption}
use Rattle.coap_types.specs.Path.{HoldsAtMost}
use Rattle.coap_types.specs.Uint.{uint}
use Rattle.coap_types.specs.declared.path.TheConstants.{MAX_SEGMENT_LEN as max_segment_len}
use Rattle.coap_types.specs.declared.path.TheConstants.{MAX_SEGMENTS as max_segments}
use Rattle.coap_codec.specs.BoundedSpelling.{is_numbered}
use Rattle.coap_codec.specs.Refused.{ascends, is_short}
use Rattle.coap_types.specs.declared.request.Method.{Method}
use Rattle.coap_types.specs.declared.request.Method.TheVariants.{Get, Post, Put, Delete}
use Rattle.coap_types.specs.declared.request.Request as Q
use Rattle.coap_types.specs.declared.option_number.TheConstants.{BLOCK2 as block2, BLOCK1 as block1}
use Rattle.coap_client.specs.Trace.{Request}
use Rattle.coap_client.specs.Own.{Transfer, Fetches, Uploads, Single}
use Rattle.coap_client.specs.Queue.{are_long, block_option_number}
use Rattle.coap_client.specs.Requests.{options_of, path_options}
use Rattle.coap_client.specs.declared.client.transfer.Transfer as T
use Rattle.coap_client.specs.declared.client.transfer.Transfer.TheVariants as transfer

module _ {A : Type 0} where
  abbrev pub shown_request : Q.Request A → Request
  shown_request r =
      record {
        method = r.method;
        path = r.path;
        format = r.format;
        body = r.body;
        etags = r.etags;
        if_match = r.if_match;
        if_none_match = r.if_none_match;
        accept = r.accept;
      }

  abbrev pub shown_transfer : T.Transfer A → Transfer
  shown_transfer (transfer.Fetches f) = Fetches f.state
  shown_transfer (transfer.Uploads u) = Uploads u.state
  shown_transfer transfer.Single = Single

  -- how far it was before the last answer
  abbrev pub shown_before : T.Transfer A → Option Transfer
  shown_before (transfer.Fetches f) = option_map Fetches f.before
  shown_before (transfer.Uploads u) = option_map Uploads u.before
  shown_before transfer.Single = None

-- a call that was taken: its request, how far it is, and what `undo` would leave
pub record CallState : Type 0 where
  pub request : Request
  pub transfer : Transfer
  pub before : Option Transfer

-- the value of the option behind the path: the format that is wanted of a GET, that of the body of a POST or a PUT
abbrev pub told_number : Method → Request → Option ℕ
told_number Get r = r.accept
told_number Post r = r.format
told_number Put r = r.format
told_number Delete r = None

abbrev pub told : Request → Option (List ℕ)
told r = option_map uint (told_number r.method r)

-- the options of its longest message fit a message with the largest block (RFC 7252, section 4.6)

abbrev pub is_long : Request → Bool
is_long r = are_long (block_option_number r.method) (options_of r)

abbrev pub is_long_path : List (List ℕ) → Bool
is_long_path path = are_long block2 (path_options path)

-- a GET uploads nothing
abbrev pub FitsMethod : Method → Transfer → Type 0
FitsMethod Get (Uploads u) = ⊥
FitsMethod method t = Unit {0}

-- options that may stand behind one of a number up to that: they ascend, and each can be written
pub record IsGood (most : ℕ) (options : List CoapOption) : Type 0 where
  pub order : (base : ℕ) → base ≤ most → ascends base options ≡ true
  pub numbers : list_all is_numbered options ≡ true
  pub short : list_all is_short options ≡ true

-- the value of an Observe or a Block option, if it is there
abbrev pub IsFew : Option (List ℕ) → Type 0
IsFew value = IfSome value (λ v. length v ≤ 3)

-- a path whose options fit each message of an observation
pub record IsShortPath (path : List (List ℕ)) : Type 0 where
  pub bounds : HoldsAtMost max_segments max_segment_len path
  pub short : is_long_path path ≡ false

-- the number of the Block option of a transfer
abbrev pub block_of : Transfer → ℕ
block_of (Fetches f) = block2
block_of t = block1
