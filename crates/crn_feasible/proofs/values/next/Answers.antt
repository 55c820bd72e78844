use Rattle.std.proofs.Common.{sym, ap, ap₂, ◌∙◌, ◌≡◌, [], ◌∷◌, ◌++◌, true, false}
use Rattle.crn_fraction.specs.Rational.{ℚ}
use Rattle.crn_feasible.specs.Elimination.{between, fits_ℚ}
use Rattle.crn_feasible.specs.Steps.{list_of}
use Rattle.crn_feasible.specs.Chosen.{bounds}
use Rattle.crn_feasible.proofs.Nexts.{finished}
use Rattle.crn_feasible.proofs.Sides.{pushed}
use Rattle.crn_feasible.proofs.values.next.Goals as goal

pub returns-clause-chosen : goal.returns-clause-chosen
returns-clause-chosen c =
    let v = c.args.v in
    let xs = c.args.values.exact.items in
    let rows = list_of c.args.rows.now in
    let lows = bounds true v xs rows in
    let highs = bounds false v xs rows in
    let lows_are = c.deref.ensures.value ∙ c.in_ok-lows.ensures.0 in
    let highs_are = c.deref-2.ensures.value ∙ c.in_ok-highs.ensures.0 in
    let value : c.in-Some.value ≡ between lows highs = c.in-Some.ensures.0 ∙ ap₂ between lows_are highs_are in
    let fits : fits_ℚ (between lows highs) ≡ true = ap fits_ℚ (sym value ∙ c.in-Some.ensures.0) ∙ c.in-Some.ensures.1 in
    let added : c.push.new.self.items ≡ xs ++ c.in-Some.value ∷ [] = pushed c.push.result _ xs c.in-Some.value c.is_err.result c.push.ensures.items c.is_err.ensures.value c.if-is_err.false in
    finished c.over_common.result lows highs xs (between lows highs) c.push.new.self.items (added ∙ ap (λ (x : ℚ). xs ++ x ∷ []) value)
    c.in_ok-lows.ensures.1 c.in_ok-highs.ensures.1 fits c.over_common.ensures
