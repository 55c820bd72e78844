use Rattle.std.proofs.Common.{◌≡◌, ◌+◌, ◌≤◌, cond, ap, ◌∙◌, arith}
use Rattle.crn_formula.specs.Formulas.{node_count, depth_of}
use Rattle.crn_form_text.specs.Grammar.{narrow}
use Rattle.crn_form_text.proofs.BuildLaws.{built_is, is_built, formula_is, fitted_is}
use Rattle.crn_form_text.proofs.formula.text_of.Goals as goal
use Rattle.crn_form_text.proofs.formula.text_of.Goals.{then-walk, else-walk}

pub unwrap-requires : goal.unwrap-requires
unwrap-requires c =
    let (e, walk) = c.requires.walk in
    let few : node_count e ≤ 2048 = omega (arith, walk.nodes, c.if-walk-gt-MOST_NODES.false) in
    is_built c.in_ok-formula.formula _ (built_is c.in_ok-formula.formula c.if-walk.columns _ e c.in_ok-formula.ensures (c.as_slice.ensures.value ∙ walk.items few))

pub returns : goal.returns
returns c = λ e walk.
    let few : node_count e ≤ 2048 = omega (arith, walk.nodes, c.if-walk-gt-MOST_NODES.false) in
    let low : depth_of e ≤ 64 = omega (arith, walk.depth, c.if-walk-gt-MOST_DEPTH.false) in
    let built = built_is c.in_ok-formula.formula c.if-walk.columns _ e c.in_ok-formula.ensures (c.as_slice.ensures.value ∙ walk.items few) in
    let columns : c.if-walk.columns ≡ cond c.args.walk.affine (c.args.variables + 1) c.args.variables = elim c.if-walk.branch [ then-walk w ↦ rw w.if-walk.true w.columns-is | else-walk w ↦ rw w.if-walk.false w.columns-is ] in
    (few, low, formula_is c.in_ok-formula.formula c.unwrap.result _ c.unwrap.ensures built ∙ ap (λ n. narrow n e) columns ∙ fitted_is c.args.variables e c.args.walk.affine walk.affine walk.wide)
