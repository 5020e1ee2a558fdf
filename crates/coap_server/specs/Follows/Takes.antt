-- Which blocks of uploads a server takes (RFC 7959, section 2.5).
use Rattle.std.specs.Prelude.{ℕ, ◌==◌, Option, Some, None, List, [], ◌∷◌, ◌++◌, if◌then◌else◌}
use Rattle.coap_types.specs.declared.block.Block.{Block}
use Rattle.coap_block.specs.declared.block_verdict.BlockVerdict.{BlockVerdict}
use Rattle.coap_block.specs.declared.block_verdict.BlockVerdict.TheVariants.{Refuse, Join, Done}
use Rattle.coap_block.specs.AssemblyState.{Key, AssemblyState, same_key}
use Rattle.coap_block.specs.Gathered.{part}
use Rattle.coap_block.specs.Whole.{Part}
use Rattle.coap_resource.specs.Serves.{Question}
use Rattle.coap_resource.specs.Limits.{Limits}
use Rattle.coap_exchange.specs.declared.answerer.Asked.{Asked}
use Rattle.coap_server.specs.Trace.{Own, Call, Feeds}
use Rattle.coap_server.specs.Checks.{Verdict, Uploads, verdict_on}
use Rattle.coap_server.specs.Uploads.{key_of, ruling_of}
use Rattle.coap_server.specs.Handling.{incoming, heard}
use Rattle.coap_server.specs.Law.{own_of}

-- a block that is taken: in which request it came, of which upload it is, and its bytes
pub record Took : Type 0 where
  pub asked : Asked
  pub key : Key
  pub part : Part

abbrev pub took : Asked → Question → Block → Took
took a q b = record { asked = a; key = key_of a q; part = part b None q.body }

abbrev pub took_by : BlockVerdict → Took → Option Took
took_by (Refuse why) x = None
took_by (Join szx) x = Some x
took_by Done x = Some x

abbrev pub taken_by : AssemblyState → ℕ → Asked → Verdict → Option Took
taken_by uploads at a (Uploads q b) = took_by (ruling_of uploads at a q b) (took a q b)
taken_by uploads at a _ = None

abbrev pub takes_block : Own → Call → Option Took
takes_block s (Feeds now from bytes word up (Some p) h below) =
    taken_by s.uploads (heard s now (incoming s now from bytes up (Some p))).clock p.0 (verdict_on s.szx p.1)
takes_block s _ = None

-- block 0 begins anew, another comes behind those before it
abbrev pub behind : List Took → Took → List Took
behind xs x = if x.part.num == 0 then x ∷ [] else xs ++ x ∷ []

abbrev pub since_with : Key → Option Took → List Took → List Took
since_with key None xs = xs
since_with key (Some x) xs = if same_key x.key key then behind xs x else xs

module _ (limits : Limits) (szx : ℕ) where
  -- the blocks of an upload that were taken since its last block 0, that one first
  abbrev pub blocks_since : Key → List Call → List Took
  blocks_since key [] = []
  blocks_since key (c ∷ past) = since_with key (takes_block (own_of limits szx past) c) (blocks_since key past)
