-- What a server does with a block of an upload (RFC 7959, sections 2.3, 2.5 and 2.9).
use Rattle.std.specs.Prelude.{ℕ, true, false, Option, Some, [], length}
use Rattle.std.specs.Option.{option_map}
use Rattle.coap_types.specs.declared.block.Block.{Block}
use Rattle.coap_block.specs.declared.block_verdict.BlockVerdict.{BlockVerdict}
use Rattle.coap_block.specs.AssemblyState.{Key, AssemblyState}
use Rattle.coap_block.specs.AssemblyStep.{verdict_at, with_block, after_block}
use Rattle.coap_types.specs.BlockValue.{block_value}
use Rattle.coap_resource.specs.Serves.{Question}
use Rattle.coap_exchange.specs.declared.answerer.Asked.{Asked}
use Rattle.coap_exchange.specs.AnswererTrace as E
use Rattle.coap_types.specs.declared.option_number.TheConstants.{BLOCK1 as block1}
use Rattle.coap_types.specs.OptionValues.{uint_at, uint_option}
use Rattle.coap_resource.specs.RequestOptions.{block_said}
use Rattle.coap_types.specs.OptionValues.{uint_option}
pub use Rattle.coap_exchange.specs.SuccessCodes.{continue}
use Rattle.coap_server.specs.Checks.{Verdict, Uploads}

-- an upload is that of an endpoint, to a path, by a method
abbrev pub key_of : Asked → Question → Key
key_of a q = record { from = a.from; path = q.path; method = q.method }

-- whether the block is taken, and what is asked with the whole body
abbrev pub ruling_of : AssemblyState → ℕ → Asked → Question → Block → BlockVerdict
ruling_of uploads at a q b = verdict_at uploads at (key_of a q) b (length q.body)

abbrev pub whole : AssemblyState → ℕ → Asked → Question → Block → Question
whole uploads at a q b = record q { body = with_block uploads at (key_of a q) b q.body }

-- 2.31 asks for the next block: with the number of this one, M 1, and the size from now on
abbrev pub continuing : ℕ → Block → E.Response
continuing szx b = record {
  code = continue;
  options =
      uint_option block1 (Some (block_value (record { num = b.num; more = true; szx = szx })));
  payload = [];
}

-- The response to a request whose last block was taken says Block1 of that block, with M 0.
abbrev pub last_block : Question → Option ℕ
last_block q = option_map (λ (b : Block). block_value (record b { more = false }))
    (block_said (uint_at block1 q.options))

-- what a request leaves of the partial bodies
abbrev pub uploads_after : ℕ → Asked → Verdict → AssemblyState → AssemblyState
uploads_after at a (Uploads q b) uploads = after_block uploads at (key_of a q) b q.body
uploads_after at a _ uploads = uploads
