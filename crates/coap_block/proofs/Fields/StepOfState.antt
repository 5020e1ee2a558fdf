-- A step over the fields of an assembly is one of its state.
use Rattle.std.proofs.Common.{◌≡◌, ◌∙◌, ℕ, ◌++◌, max, List, length, ap, sym, subst, ◌≤◌, ◌+◌, arith}
use Rattle.coap_types.specs.declared.block.Block.{Block}
use Rattle.coap_block.specs.Sizes.{Sizes}
use Rattle.coap_block.specs.declared.block_verdict.BlockVerdict.{BlockVerdict}
use Rattle.coap_block.specs.declared.assembly_step.Took.{Took}
use Rattle.coap_block.specs.AssemblyState.{Key, PartialBody, AssemblyState, forgotten, without_key, joined_before}
use Rattle.coap_block.specs.AssemblyState.{reached}
use Rattle.coap_block.specs.AssemblyStep.{ruling, verdict_at, there_at, partials_by, after_block}
use Rattle.coap_block.specs.AssemblyAnswer.{TakesBlock, took}
use Rattle.coap_block.specs.AssemblyTrace.{Arrived, AssemblyTrace, Led}
use Rattle.coap_block.specs.AssemblyKept.{begun, state_of, AreFew}
use Rattle.coap_block.specs.declared.assembly_judging.TheConstants.{MAX_PARTIALS as max_partials}
use Rattle.coap_block.proofs.Joining.BlocksOfHistory.{few_after}
use Rattle.coap_block.proofs.Fields.PartialsSeen.{forgotten_twice}

there_is : (sizes : Sizes) (clock now : ℕ) (ps : List PartialBody)
    → there_at (state_of sizes clock ps) now ≡ forgotten (max clock now) ps
there_is sizes clock now ps = forgotten_twice clock (max clock now) (omega arith) ps

pub verdict_is : (sizes : Sizes) (clock now t : ℕ) (ps : List PartialBody) (key : Key) (b : Block) (len : ℕ)
    (v : BlockVerdict)
    → t ≡ max clock now
    → v ≡ ruling sizes (reached key (forgotten t ps)) (length (without_key key (forgotten t ps))) b len
    → v ≡ verdict_at (state_of sizes clock ps) now key b len
verdict_is sizes clock now t ps key b len v at is =
    let there : forgotten t ps ≡ there_at (state_of sizes clock ps) now = ap (λ (m : ℕ). forgotten m ps) at
    ∙ sym (there_is sizes clock now ps) in
    is ∙ ap (λ (l : List PartialBody). ruling sizes (reached key l) (length (without_key key l)) b len) there

pub takes_block : {A : Type 0} (sizes : Sizes) (clock now t : ℕ) (old new : List PartialBody) (key : Key) (b : Block)
    (payload : List ℕ) (v : BlockVerdict) (answer : Took A)
    → t ≡ max clock now → v ≡ ruling sizes (reached key (forgotten t old)) (length (without_key key (forgotten t old)))
    b
    (length payload)
    → answer ≡ took (joined_before key b.num (forgotten t old) ++ payload) b.num v
    → forgotten t new ≡ partials_by v (begun key (joined_before key b.num (forgotten t old) ++ payload) t)
    (forgotten t old)
    → TakesBlock (state_of sizes clock old) now key b payload answer (state_of sizes t new)
takes_block {A} sizes clock now t old new key b payload v answer at is answers left =
    let there : forgotten t old ≡ there_at (state_of sizes clock old) now = ap (λ (m : ℕ). forgotten m old) at
    ∙ sym (there_is sizes clock now old) in
    let same = verdict_is sizes clock now t old key b (length payload) v at is in
    record {
      answer_is = answers
          ∙ ap (λ (l : List PartialBody). took {A = A} (joined_before key b.num l ++ payload) b.num v) there
          ∙ ap (λ (w : BlockVerdict). took {A = A} (joined_before key b.num (there_at (state_of sizes clock old) now)
          ++ payload) b.num w) same;
      new_is =
          let ps : forgotten t new ≡ (after_block (state_of sizes clock old) now key b payload).partials =
          left ∙ ap (λ (l : List PartialBody). partials_by v (begun key (joined_before key b.num l ++ payload) t) l)
          there
          ∙ ap (λ (w : BlockVerdict). partials_by w (begun key
          (joined_before key b.num (there_at (state_of sizes clock old) now) ++ payload) t)
          (there_at (state_of sizes clock old) now)) same
          ∙ ap (λ (m : ℕ). partials_by (verdict_at (state_of sizes clock old) now key b (length payload))
          (begun key (joined_before key b.num (there_at (state_of sizes clock old) now) ++ payload) m)
          (there_at (state_of sizes clock old) now)) at in
          λ i. record { szx = sizes.szx; limit = sizes.limit; clock = at i; partials = ps i };
    }

-- and one of its history
pub led_by : {A : Type 0} {s new : AssemblyState} {now : ℕ} {key : Key} {b : Block} {payload : List ℕ} {answer : Took A}
    (t : AssemblyTrace)
    → TakesBlock s now key b payload answer new → Led t s → Led (Arrived t now key b payload) new
led_by {A} {s} {new} {now} {key} {b} {payload} t step led = step.new_is
    ∙ ap (λ (x : AssemblyState). after_block x now key b payload) led

-- there are few after it
pub few_taken : {A : Type 0} (sizes : Sizes) (clock now t : ℕ) (old new : List PartialBody) (key : Key) (b : Block)
    (payload : List ℕ) (answer : Took A)
    → TakesBlock (state_of sizes clock old) now key b payload answer (state_of sizes t new) → AreFew clock old
    → length new ≤ max_partials + 1 → AreFew t new
few_taken sizes clock now t old new key b payload answer step few all = record {
  there = subst (λ (s : AssemblyState). length s.partials ≤ max_partials) (sym step.new_is)
      (few_after (state_of sizes clock old) now key b payload few.there);
  all = all;
}

pub few_before : (clock : ℕ) (old restored : List PartialBody) → forgotten clock restored ≡ forgotten clock old
    → AreFew clock old
    → length restored ≤ max_partials + 1 → AreFew clock restored
few_before clock old restored same few all = record {
  there = subst (λ (ps : List PartialBody). length ps ≤ max_partials) (sym same) few.there;
  all = all;
}
