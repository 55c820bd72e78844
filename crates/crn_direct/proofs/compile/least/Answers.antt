use Rattle.std.proofs.Common.{arith, rules}
use Rattle.std.specs.Vec.Iter.{into_iter_items}
use Rattle.crn_direct.proofs.Compiling.{enough_for, both_free, more_species, goes_next, goes_first, end_network, end_rail}
use Rattle.crn_direct.proofs.compile.least.Goals as goal

pub loop-form-init : goal.loop-form-init
loop-form-init c = goes_first c.args.builder c.args.rail c.args.forms.now (into_iter_items c.args.copies.now) c.requires.sound c.requires.free c.requires.enough

pub leaf-requires-clause-enough : goal.leaf-requires-clause-enough
leaf-requires-clause-enough c =
    enough_for c.args.builder c.args.rail c.args.forms.now (into_iter_items c.args.copies.now) c.loop-form.form-index c.loop-form.builder c.loop-form.least (into_iter_items c.loop-form.copies) c.loop-form.invariant
    c.form-item.result (omega arith) c.form-item.is (search rules)

pub min_one-requires : goal.min_one-requires
min_one-requires c =
    both_free c.args.builder c.args.rail c.args.forms.now (into_iter_items c.args.copies.now) c.loop-form.form-index c.loop-form.builder c.loop-form.least (into_iter_items c.loop-form.copies) c.loop-form.invariant
    c.form-item.result (omega arith) c.form-item.is (search rules) c.in_ok-with_form.with_form c.in_ok-with_form.rail c.in_ok-with_form.ensures.network c.in_ok-with_form.ensures.rail

pub loop-form-preserved : goal.loop-form-preserved
loop-form-preserved c =
    goes_next c.args.builder c.args.rail c.args.forms.now (into_iter_items c.args.copies.now) c.loop-form.form-index c.loop-form.builder c.loop-form.least (into_iter_items c.loop-form.copies) c.loop-form.invariant
    c.form-item.result (omega arith) c.form-item.is (search rules) c.in_ok-with_form.with_form c.in_ok-with_form.rail c.in_ok-with_form.ensures.network c.in_ok-with_form.ensures.rail
    c.in_ok-with_minimum.with_minimum c.in_ok-with_minimum.lesser c.in_ok-with_minimum.ensures.network c.in_ok-with_minimum.ensures.rail (into_iter_items c.leaf.new.copies) c.in_ok-with_form.ensures.rest

pub returns-clause-network : goal.returns-clause-network
returns-clause-network c =
    end_network c.args.builder c.args.rail c.args.forms.now (into_iter_items c.args.copies.now) c.loop-form.form-index c.loop-form.builder c.loop-form.least (into_iter_items c.loop-form.copies) c.loop-form.invariant (omega arith)

pub returns-clause-rail : goal.returns-clause-rail
returns-clause-rail c =
    end_rail c.args.builder c.args.rail c.args.forms.now (into_iter_items c.args.copies.now) c.loop-form.form-index c.loop-form.builder c.loop-form.least (into_iter_items c.loop-form.copies) c.loop-form.invariant (omega arith)

pub returns-in_err-with_form-clause-too_large : goal.returns-in_err-with_form-clause-too_large
returns-in_err-with_form-clause-too_large c =
    let more =
    more_species c.args.builder c.args.rail c.args.forms.now (into_iter_items c.args.copies.now) c.loop-form.form-index c.loop-form.builder c.loop-form.least (into_iter_items c.loop-form.copies) c.loop-form.invariant
    c.form-item.result (omega arith) c.form-item.is (search rules) in
    search rules

pub returns-in_err-with_minimum-clause-too_large : goal.returns-in_err-with_minimum-clause-too_large
returns-in_err-with_minimum-clause-too_large c =
    let more =
    more_species c.args.builder c.args.rail c.args.forms.now (into_iter_items c.args.copies.now) c.loop-form.form-index c.loop-form.builder c.loop-form.least (into_iter_items c.loop-form.copies) c.loop-form.invariant
    c.form-item.result (omega arith) c.form-item.is (search rules) in
    search rules
