use Rattle.std.proofs.Common.{List, map, take, sym, ◌∙◌, arith}
use Rattle.std.proofs.lemmas.List.{map-id}
use Rattle.crn_fraction.specs.Rational.{ℚ}
use Rattle.crn_function_text.proofs.Slots.{replaced, all_replaced}
use Rattle.crn_function_text.proofs.columns.narrow_forms.Goals as goal

pub loop-form-preserved : goal.loop-form-preserved
loop-form-preserved c =
    replaced (λ (f : List ℚ). f) (take c.args.variables) c.loop-form.forms c.loop-form.form-index c.narrow.result c.form-item.result (omega arith) c.narrow.ensures ∙ c.loop-form.invariant

pub returns : goal.returns
returns c =
    sym (map-id c.loop-form.forms) ∙ all_replaced (λ (f : List ℚ). f) (take c.args.variables) c.loop-form.forms c.loop-form.form-index (map (take c.args.variables) c.args.forms.now) (omega arith) c.loop-form.invariant
