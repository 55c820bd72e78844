use Rattle.std.proofs.Common.{arith, sym, ap, ◌∙◌, ◌≡◌, ◌<◌, subst, get_or, length, refl}
use Rattle.std.proofs.lemmas.List.{get_or_read, get_or_default}
use Rattle.std.proofs.lemmas.Bool.{false≢true}
use Rattle.crn_linear.specs.Rows.{Row, MeetsWhole}
use Rattle.crn_farkas.specs.Systems.{IsWholePoint, no_row}
use Rattle.crn_farkas.proofs.Motzkin.{point_whole}
use Rattle.crn_farkas.proofs.holds.Goals.{After-loop-row}
use Rattle.crn_farkas.proofs.holds.Goals as goal

pub returns-then-not-meets-clause-rational : goal.returns-then-not-meets-clause-rational
returns-then-not-meets-clause-rational c = (
  λ e. absurd (false≢true e),
  λ h.
      let rows = c.args.system.now.system.rows in
      let i = c.loop-row.row-index in
      let within : i < length rows = omega (arith, c.loop-row-test.true, ap (length {A = Row}) c.rows-row-items.ensures.value) in
      let there : c.row-item.result ≡ get_or rows i no_row =
      get_or_read _ i c.row-item.result c.loop-row-test.true c.row-item.is no_row ∙ ap (λ xs. get_or xs i no_row) c.rows-row-items.ensures.value in
      let met : MeetsWhole (get_or rows i no_row) c.args.point.now = (point_whole c.args.system.now.system c.args.point.now).0 h i no_row within in
      sym c.if-not-meets.true ∙ c.meets.ensures.1 (subst (λ (r : Row). MeetsWhole r c.args.point.now) (sym there) met),
)

all_met : (c : After-loop-row) → IsWholePoint c.args.system.now.system c.args.point.now
all_met c k d l =
    let rows = c.args.system.now.system.rows in
    let within : k < length c.rows-row-items.result.now = omega (arith, l, ap (length {A = Row}) c.rows-row-items.ensures.value) in
    subst (λ (r : Row). MeetsWhole r c.args.point.now)
    (ap (λ xs. get_or xs k no_row) c.rows-row-items.ensures.value ∙ get_or_default rows k no_row d l)
    (c.loop-row.invariant k (omega (arith, within)))

pub returns-clause-exact : goal.returns-clause-exact
returns-clause-exact c = (λ t. all_met (goal.at.returns-clause-exact c).After-loop-row, λ h. refl)

pub returns-clause-rational : goal.returns-clause-rational
returns-clause-rational c = (λ t. (point_whole c.args.system.now.system c.args.point.now).1 (all_met (goal.at.returns-clause-rational c).After-loop-row), λ h. refl)
