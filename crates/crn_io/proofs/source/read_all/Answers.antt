use Rattle.std.proofs.Common.{arith, ℕ, ◌≡◌, ◌≤◌, ◌+◌}
use Rattle.std.proofs.lemmas.Grind.{common_steps}
use Rattle.crn_io.proofs.Steps.{taken_next}
use Rattle.crn_io.proofs.source.read_all.Goals as goal

pub returns-in-Ok-clause-too_long : goal.returns-in-Ok-clause-too_long
returns-in-Ok-clause-too_long g c _ =
    taken_next (λ (n : ℕ). n ≡ c.args.limit + 1) _ _ _ _ _ c.in-Ok.count c.turns.invariant.taken c.in-Ok.ensures.bytes.0 c.in-Ok.ensures.bound.1 (grind (arith, common_steps, c.turns.bytes.ok.0, c.in-Ok.ensures.bound, c.read.auto.buf, c.min-room.ensures))

pub returns-in_err-extend_from_slice-in-Ok-2-clause-memory :
    goal.returns-in_err-extend_from_slice-in-Ok-2-clause-memory
returns-in_err-extend_from_slice-in-Ok-2-clause-memory g c _ =
    taken_next (λ (n : ℕ). n ≤ c.args.limit) _ _ _ _ _ c.in-Ok.count c.turns.invariant.taken c.in-Ok.ensures.bytes.0 c.in-Ok.ensures.bound.1 (grind (arith, common_steps, c.turns.bytes.ok.0, c.in-Ok.ensures.bound, c.read.auto.buf, c.min-room.ensures))
