-- How a formula is built from its nodes, each after its operands, and what is answered to its text.
use Rattle.std.specs.Prelude.{◌≡◌, ℕ, ◌+◌, ◌<◌, ◌≤◌, if◌then◌else◌, List, [], ◌∷◌, ◌++◌, take, Option, Some, None}
use Rattle.crn_grammar.specs.Table.{Table}
use Rattle.crn_formula.specs.Formulas.{Formula, Lin, Add, Sub, Scale, Min, Max, node_count, depth_of, formula_has_constant}
use Rattle.crn_formula.specs.Views.{plain_of}
use Rattle.crn_form_text.specs.declared.mark.Operator.{Operator}
use Rattle.crn_form_text.specs.declared.mark.Operator.TheVariants as operator
use Rattle.crn_form_text.specs.declared.formula.Item.{Item}
use Rattle.crn_form_text.specs.declared.formula.Item.TheVariants as item
use Rattle.crn_form_text.specs.declared.formula.FormulaText.{FormulaText}
use Rattle.crn_form_text.specs.declared.formula.FormulaText.TheVariants as text
use Rattle.crn_form_text.specs.Grammar.{narrow}
use Rattle.crn_form_text.specs.Reading.{Walk}

-- an operator on two formulas
abbrev pub applied : Operator → Formula → Formula → Formula
applied operator.Add a b = Add a b
applied operator.Sub a b = Sub a b
applied operator.Min a b = Min a b
applied operator.Max a b = Max a b

-- the nodes of a formula, each after its operands
abbrev pub postfix : Formula → List Item
postfix (Lin form) = item.Leaf form ∷ []
postfix (Add a b) = postfix a ++ postfix b ++ item.Apply operator.Add ∷ []
postfix (Sub a b) = postfix a ++ postfix b ++ item.Apply operator.Sub ∷ []
postfix (Scale q a) = postfix a ++ item.Scale q ∷ []
postfix (Min a b) = postfix a ++ postfix b ++ item.Apply operator.Min ∷ []
postfix (Max a b) = postfix a ++ postfix b ++ item.Apply operator.Max ∷ []

-- the formulas that are built after a node more, the last first
abbrev pub build_next : ℕ → List Formula → Item → Option (List Formula)
build_next columns built (item.Leaf form) = Some (Lin (take columns form) ∷ built)
build_next columns (a ∷ built) (item.Scale q) = Some (Scale q a ∷ built)
build_next columns (b ∷ a ∷ built) (item.Apply o) = Some (applied o a b ∷ built)
build_next columns _ i = None

abbrev pub only : List Formula → Option Formula
only (e ∷ []) = Some e
only _ = None

abbrev pub builds : ℕ → Table (List Formula) Item Formula (Unit {0})
builds columns = record { start = []; next = build_next columns; whole = only; limit = λ built. None }

-- A formula over k variables whose forms have k + 1 columns, with as many columns as it needs: the last one, of the constants, stands
-- exactly where some constant is not 0.
abbrev pub fitted : ℕ → Formula → Formula
fitted k e = if formula_has_constant k e then e else narrow k e

-- the walk has counted this formula, and keeps its nodes where there are not too many
pub record IsWalkOf (k : ℕ) (e : Formula) (w : Walk) : Type 0 where
  pub wide : narrow (k + 1) e ≡ e
  pub nodes : w.nodes ≡ node_count e
  pub depth : w.depth ≡ depth_of e
  pub affine : w.affine ≡ formula_has_constant k e
  pub items : node_count e ≤ 2048 → w.items ≡ postfix e

-- what is answered where the tokens spell this formula
abbrev pub IsReadAs : ℕ → Formula → FormulaText → Type 0
IsReadAs k e (text.Within formula) = (node_count e ≤ 2048) × (depth_of e ≤ 64) × (plain_of formula ≡ fitted k e)
IsReadAs k e (text.TooManyNodes nodes) = (2048 < node_count e) × (nodes ≡ node_count e)
IsReadAs k e (text.TooDeep depth) = (node_count e ≤ 2048) × (64 < depth_of e) × (depth ≡ depth_of e)
