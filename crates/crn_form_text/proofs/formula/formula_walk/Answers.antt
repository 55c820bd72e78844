use Rattle.std.proofs.Common.{◌≡◌, ℕ, ◌≤◌, List, Option, Some, None, IfSome, sym, map}
use Rattle.std.specs.Prelude.{IfNone}
use Rattle.std.specs.Option.{option_map}
use Rattle.std.proofs.lemmas.Result.{IfOk-weaker}
use Rattle.crn_token.specs.Plain.{Plain}
use Rattle.crn_formula.specs.Formulas.{Formula}
use Rattle.crn_form_text.specs.declared.formula.Walk.{Walk}
use Rattle.crn_form_text.specs.Grammar.{SpellsFormula}
use Rattle.crn_form_text.specs.Reading.{walks, mark_of, whole_of}
use Rattle.crn_form_text.specs.Shown.{walk_of}
use Rattle.crn_form_text.specs.Built.{IsWalkOf}
use Rattle.crn_form_text.proofs.BuildLaws.{walk_is, walk_is_not}
use Rattle.crn_form_text.proofs.formula.formula_walk.Goals as goal

found_is : (k : ℕ) (ts : List Plain) (found : Option Walk) → k ≤ 8 → option_map walk_of found ≡ whole_of (walks k) (map mark_of ts) → IfSome found (λ walk. (e : Formula) × SpellsFormula k e ts × IsWalkOf k e (walk_of walk))
found_is k ts None few is = tt
found_is k ts (Some walk) few is = walk_is k ts (walk_of walk) few (sym is)

none_is : (k : ℕ) (ts : List Plain) (found : Option Walk) → k ≤ 8 → option_map walk_of found ≡ whole_of (walks k) (map mark_of ts) → IfNone found ((e : Formula) → SpellsFormula k e ts → ⊥)
none_is k ts None few is = walk_is_not k ts few is
none_is k ts (Some walk) few is = tt

pub returns-clause-found : goal.returns-clause-found
returns-clause-found c = IfOk-weaker c.walk_over.result _ _ (λ found is. found_is c.args.variables _ found c.requires is) c.walk_over.ensures

pub returns-clause-none : goal.returns-clause-none
returns-clause-none c = IfOk-weaker c.walk_over.result _ _ (λ found is. none_is c.args.variables _ found c.requires is) c.walk_over.ensures
