-- What a server does with a block of an upload (RFC 7959, sections 2.5 and 2.9).
use Rattle.std.specs.Prelude.{ℕ, Bool, true, false, not, ◌&&◌, ◌||◌, ◌==◌, nat_lt, nat_le, ◌+◌, max, min, List, length}
use Rattle.std.specs.Prelude.{Option, Some, None, if◌then◌else◌}
use Rattle.coap_types.specs.declared.block.Block.{Block}
use Rattle.coap_block.specs.declared.assembly_step.AssemblyRefusal.TheVariants.{BadRequest, EntityIncomplete}
use Rattle.coap_block.specs.declared.assembly_step.AssemblyRefusal.TheVariants.{EntityTooLarge, Unavailable}
use Rattle.coap_block.specs.declared.block_verdict.BlockVerdict.{BlockVerdict}
use Rattle.coap_block.specs.declared.block_verdict.BlockVerdict.TheVariants.{Refuse, Join, Done}
use Rattle.coap_block.specs.declared.assembly_judging.TheConstants.{MAX_PARTIALS as max_partials}
use Rattle.coap_types.specs.Piece.{size_of, offset_of}
use Rattle.coap_block.specs.Sizes.{Sizes}
use Rattle.coap_block.specs.AssemblyState.{Key, PartialBody, AssemblyState, forgotten, without_key, put, with_payload}
use Rattle.coap_block.specs.AssemblyState.{body_with, reached}

-- a block with more behind it has its full size, the last one is no longer
abbrev pub fills : Bool → ℕ → ℕ → Bool
fills true szx len = len == size_of szx
fills false szx len = nat_le len (size_of szx)

-- a partial body ends there
abbrev pub ends_at : Option ℕ → ℕ → Bool
ends_at None offset = false
ends_at (Some len) offset = len == offset

-- block 0 needs no partial body, another block begins where it ends
abbrev pub goes_on : Option ℕ → ℕ → ℕ → Bool
goes_on reached num szx = (num == 0) || ends_at reached (offset_of num szx)

-- the size that is answered: at block 0 the smaller of both, then that of the block
abbrev pub answered_szx : ℕ → Block → ℕ
answered_szx szx b = if b.num == 0 then min b.szx szx else b.szx

-- The tests in their order, at a server with these sizes, where the key has a partial body of
-- so many bytes or none, so many other keys have one, and the payload has so many bytes.
abbrev pub ruling : Sizes → Option ℕ → ℕ → Block → ℕ → BlockVerdict
ruling sizes reached others b len =
    if not (fills b.more b.szx len) then Refuse BadRequest
    else if not (goes_on reached b.num b.szx) then Refuse EntityIncomplete
    else if nat_lt sizes.limit (offset_of b.num b.szx + len) then Refuse EntityTooLarge
    else if b.more && (b.num == 0) && nat_le max_partials others then Refuse Unavailable
    else if b.more then Join (answered_szx sizes.szx b)
    else Done

-- a moment before the last one counts as the last one
abbrev pub moment_at : AssemblyState → ℕ → ℕ
moment_at s now = max s.clock now

-- the partial bodies that are there at that moment
abbrev pub there_at : AssemblyState → ℕ → List PartialBody
there_at s now = forgotten (moment_at s now) s.partials

abbrev pub verdict_at : AssemblyState → ℕ → Key → Block → ℕ → BlockVerdict
verdict_at s now key b len =
    ruling (record { szx = s.szx; limit = s.limit }) (reached key (there_at s now))
    (length (without_key key (there_at s now))) b len

-- the bytes that are joined with the block
abbrev pub with_block : AssemblyState → ℕ → Key → Block → List ℕ → List ℕ
with_block s now key b payload = with_payload key b.num payload (there_at s now)

-- the partial bodies behind a block: too long a body is dropped, a whole one is taken away
abbrev pub partials_by : BlockVerdict → PartialBody → List PartialBody → List PartialBody
partials_by (Refuse BadRequest) new ps = ps
partials_by (Refuse EntityIncomplete) new ps = ps
partials_by (Refuse EntityTooLarge) new ps = without_key new.key ps
partials_by (Refuse Unavailable) new ps = ps
partials_by (Join szx) new ps = put new ps
partials_by Done new ps = without_key new.key ps

abbrev pub after_block : AssemblyState → ℕ → Key → Block → List ℕ → AssemblyState
after_block s now key b payload =
    record s {
      clock = moment_at s now;
      partials = partials_by (verdict_at s now key b (length payload))
          (body_with key b.num payload (moment_at s now) (there_at s now)) (there_at s now);
    }
