-- What is answered to a `value` line.
use Rattle.std.proofs.Common.{◌≡◌, ℕ, ◌<◌, ◌≤◌, List, Option, Some, None, refl, sym, ◌∙◌, ap, arith}
use Rattle.std.specs.Option.{option_map}
use Rattle.crn_token.specs.declared.Counted.{Counted}
use Rattle.crn_token.specs.declared.Counted.TheVariants as counted
use Rattle.crn_token.specs.Plain.{Plain}
use Rattle.crn_grammar.specs.Table.{Answer, Read, Malformed, Limited}
use Rattle.crn_grammar.specs.Limits.{above}
use Rattle.crn_grammar.specs.Reading.{judged}
use Rattle.crn_grammar.proofs.LimitLaws.{not_above, is_above}
use Rattle.crn_formula.specs.Formulas as formulas
use Rattle.crn_formula.specs.Formulas.{node_count, depth_of}
use Rattle.crn_form_text.specs.Grammar.{SpellsFormula}
use Rattle.crn_form_text.specs.Built.{fitted}
use Rattle.crn_function_text.specs.Spelled.{formula_of}
use Rattle.crn_function_text.specs.Grammar.{Place, Valued, limit}
use Rattle.crn_form_text.proofs.ParsedLaws.{formula_from_is, is_formula_from}
use Rattle.crn_function_text.proofs.Narrowing.{fitted_nodes, fitted_depth}

-- the answer to a value line of these tokens
abbrev valued : ℕ → ℕ → List Plain → Answer Place (Counted × ℕ)
valued number k ts = judged limit number (option_map (λ e. Valued k (fitted k e)) (formula_of k ts))

judged_at : (number k : ℕ) (ts : List Plain) (d : formulas.Formula) → formula_of k ts ≡ Some d → valued number k ts ≡ judged limit number (Some (Valued k (fitted k d)))
judged_at number k ts d is = ap (λ o. judged limit number (option_map (λ e. Valued k (fitted k e)) o)) is

pub value_none : (number k : ℕ) (ts : List Plain) → ((e : formulas.Formula) → ¬ SpellsFormula k e ts) → valued number k ts ≡ Malformed number
value_none number k ts none = go (formula_of k ts) refl
  where
    go : (o : Option formulas.Formula) → formula_of k ts ≡ o → valued number k ts ≡ Malformed number
    go None is = ap (λ o. judged limit number (option_map (λ e. Valued k (fitted k e)) o)) is
    go (Some d) is = absurd (none d (formula_from_is k d ts is))

pub value_within : (number k : ℕ) (ts : List Plain) (e f : formulas.Formula) → SpellsFormula k e ts → node_count e ≤ 2048 → depth_of e ≤ 64 → f ≡ fitted k e → valued number k ts ≡ Read (Valued k f)
value_within number k ts e f spelled nodes depth is =
    let few : above 2048 counted.Nodes (node_count (fitted k e)) ≡ None = not_above 2048 counted.Nodes (node_count (fitted k e)) (omega (arith, nodes, fitted_nodes k e)) in
    let low : above 64 counted.Depth (depth_of (fitted k e)) ≡ None = not_above 64 counted.Depth (depth_of (fitted k e)) (omega (arith, depth, fitted_depth k e)) in
    judged_at number k ts e (is_formula_from k e ts spelled) ∙ rw (few, low) (ap (λ a. Read (Valued k a)) (sym is))

pub value_nodes : (number k : ℕ) (ts : List Plain) (e : formulas.Formula) → SpellsFormula k e ts → 2048 < node_count e → valued number k ts ≡ Limited (counted.Nodes, node_count e)
value_nodes number k ts e spelled many =
    let passed : above 2048 counted.Nodes (node_count (fitted k e)) ≡ Some (counted.Nodes, node_count (fitted k e)) = is_above 2048 counted.Nodes (node_count (fitted k e)) (omega (arith, many, fitted_nodes k e)) in
    judged_at number k ts e (is_formula_from k e ts spelled) ∙ rw passed (ap (λ n. Limited (counted.Nodes, n)) (fitted_nodes k e))

pub value_depth : (number k : ℕ) (ts : List Plain) (e : formulas.Formula) → SpellsFormula k e ts → node_count e ≤ 2048 → 64 < depth_of e → valued number k ts ≡ Limited (counted.Depth, depth_of e)
value_depth number k ts e spelled nodes deep =
    let few : above 2048 counted.Nodes (node_count (fitted k e)) ≡ None = not_above 2048 counted.Nodes (node_count (fitted k e)) (omega (arith, nodes, fitted_nodes k e)) in
    let passed : above 64 counted.Depth (depth_of (fitted k e)) ≡ Some (counted.Depth, depth_of (fitted k e)) = is_above 64 counted.Depth (depth_of (fitted k e)) (omega (arith, deep, fitted_depth k e)) in
    judged_at number k ts e (is_formula_from k e ts spelled) ∙ rw (few, passed) (ap (λ n. Limited (counted.Depth, n)) (fitted_depth k e))
