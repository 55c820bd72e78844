use Rattle.std.proofs.Common.{length, drop}
use Rattle.std.specs.List.{zip}
use Rattle.std.specs.Vec.Iter.{into_iter_items}
use Rattle.crn_gates.specs.Terms.{nonzero}
use Rattle.crn_direct.proofs.Loops.{AreLeft}
use Rattle.crn_direct.proofs.compile.terms_on.Given as goal

-- the terms so far are those of the first columns
abbrev pub invariant-loop-column : goal.invariant-loop-column
invariant-loop-column l =
    AreLeft l.form l.column l.terms.items (zip (nonzero l.form) (into_iter_items l.initial.copies)) (into_iter_items l.copies) (drop (length (nonzero l.form)) (into_iter_items l.initial.copies))
