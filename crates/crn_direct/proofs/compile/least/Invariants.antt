use Rattle.std.specs.Vec.Iter.{into_iter_items}
use Rattle.crn_direct.proofs.Compiling.{GoesOn}
use Rattle.crn_direct.proofs.compile.least.Given as goal

-- the forms that are left, on what stands, come to what all of them come to
abbrev pub invariant-loop-form : goal.invariant-loop-form
invariant-loop-form l =
    GoesOn l.initial.builder l.initial.least l.forms (into_iter_items l.initial.copies) l.form-index l.builder l.least (into_iter_items l.copies)
