use Rattle.std.proofs.Common.{◌==◌, arith, ⊎_elim}
use Rattle.std.proofs.lemmas.Bool.{cases_lt}
use Rattle.std.proofs.lemmas.Simd.{run_in_chunk_fails}
use Rattle.crn_token.proofs.blocks_without.Goals as goal

pub returns-then-count-lt-BLOCK-clause-none : goal.returns-then-count-lt-BLOCK-clause-none
returns-then-count-lt-BLOCK-clause-none c = λ k below.
    ⊎_elim
    (λ early. c.whole.invariant.none k early)
    (λ late. run_in_chunk_fails (λ b. b == c.args.mark) c.args.bytes.now c.whole.at 16 c.before_in_block-count.result 0 (omega arith) c.before_in_block-count.ensures k late below)
    (cases_lt k c.whole.at)

pub whole-preserved : goal.whole-preserved
whole-preserved c = record {
  none = λ k below.
      ⊎_elim
      (λ early. c.whole.invariant.none k early)
      (λ late. run_in_chunk_fails (λ b. b == c.args.mark) c.args.bytes.now c.whole.at 16 c.before_in_block-count.result 0 (omega arith) c.before_in_block-count.ensures k late (omega arith))
      (cases_lt k c.whole.at);
  bound = omega arith;
}
