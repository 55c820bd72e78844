use Rattle.std.proofs.Common.{◌≡◌, ℕ, ◌<◌, ◌≤◌, List, pos, get_or, length, sym, subst, arith}
use Rattle.std.proofs.lemmas.List.{get_or_default}
use Rattle.crn_net.specs.Network as Plain
use Rattle.crn_net.specs.Views.{parts_of}
use Rattle.crn_net.specs.declared.Part.{Part}
use Rattle.crn_segments.proofs.Refusals.{part_in_range}
use Rattle.crn_segments.proofs.check_flow.Goals as goal

-- a part that the loop reads is of a species of the network
in_range : (n i : ℕ) (takes items : List Part) → items ≡ takes → Plain.AreParts 0 n (parts_of takes) → i < length items →
    (0 < (get_or items i (record { species = 0; count = pos 0 })).species) × ((get_or items i (record { species = 0; count = pos 0 })).species ≤ n)
in_range n i takes items e h l =
    let none : Part = record { species = 0; count = pos 0 } in
    part_in_range 0 n items i (get_or items i none) (subst (λ ps. Plain.AreParts 0 n (parts_of ps)) (sym e) h) l (get_or_default items i none (get_or items i none) l)

pub amount-requires-clause-low : goal.amount-requires-clause-low
amount-requires-clause-low c =
    let r = in_range c.args.network.now.species c.loop-part.part-index c.reaction.result.now.takes.items c.deref-part-items.result.now c.deref-part-items.ensures.value c.reaction.ensures.valid.takes c.loop-part-test.true in
    omega (arith, r.0)

pub amount-requires-clause-high : goal.amount-requires-clause-high
amount-requires-clause-high c =
    let r = in_range c.args.network.now.species c.loop-part.part-index c.reaction.result.now.takes.items c.deref-part-items.result.now c.deref-part-items.ensures.value c.reaction.ensures.valid.takes c.loop-part-test.true in
    omega (arith, r.1, c.requires.long)
