-- What holds of the drawn forms and amounts, and so of the job.
use Rattle.std.proofs.Common.{◌≡◌, ℕ, zero, suc, ◌+◌, ◌*◌, ◌%◌, ◌<◌, ◌≤◌, ◌^◌, false, cond, ◌||◌, not, List, [], ◌∷◌, ◌++◌, length, refl, sym, ap, ap₂, ◌∙◌, subst, arith, length-append, replicate}
use Rattle.std.specs.Prelude.{All}
use Rattle.std.proofs.Math.Seq.{take-append_seam, drop-append_seam}
use Rattle.std.proofs.lemmas.List.{length-set, get_or_past}
use Rattle.std.proofs.lemmas.List.Elements.{All-nil, All-push, All-head, All-take, All-drop}
use Rattle.crn_fraction.proofs.Products.{whole_nonneg, is_zero_ℚ-zero}
use Rattle.crn_fraction.specs.Rational.{ℚ, 0ℚ, is_zero_ℚ}
use Rattle.crn_formula.specs.Formulas.{Formula, Lin, Add, Sub, Scale, Min, Max, node_count, depth_of, IsOver, formula_has_constant}
use Rattle.crn_formula.specs.Functions.{Kind, ByFormula, IsFitting}
use Rattle.crn_job.specs.Grammar.{PlainJob}
use Rattle.crn_net.specs.declared.Flow.{Flow}
use Rattle.crn_net.specs.Network.{AreNotNegative}
use Rattle.crn_net.proofs.Start.{AreNotNegative-append}
use Rattle.crn_linear.specs.Forms.{entry_of}
use Rattle.crn_bulk.specs.Generator.{next, coefficient, leaf, leaves, pair, amounts, tree, bulk_formula, bulk_amounts, bulk_job}
use Rattle.crn_bulk.specs.Leaves.{leaves_of}
use Rattle.crn_bulk.proofs.TreeLaws.{IsTreeOver, tree-over}

-- ---- leaves

pub leaves_long : (n z : ℕ) → length (leaves n z).made ≡ n
leaves_long zero z = refl
leaves_long (suc n) z =
    let before = leaves_long n z in
    let together = length-append (leaves n z).made ((leaf (leaves n z).number).made ∷ []) in
    omega arith

abbrev IsOfFour : List ℚ → Type 0
IsOfFour form = length form ≡ 4

leaves_of_four : (n z : ℕ) → All IsOfFour (leaves n z).made
leaves_of_four zero z = All-nil IsOfFour
leaves_of_four (suc n) z =
    let y : ℕ = (leaves n z).number in
    All-push IsOfFour (leaves n z).made (leaf y).made (leaves_of_four n z) (length-set (replicate 4 0ℚ) (next y % 4) (coefficient (next (next y))))

-- ---- formulas whose leaves have four columns

all_left : {X : Type 0} (P : X → Type 0) (xs ys : List X) → All P (xs ++ ys) → All P xs
all_left P xs ys all = subst (All P) (take-append_seam xs ys) (All-take P (length xs) (xs ++ ys) all)

all_right : {X : Type 0} (P : X → Type 0) (xs ys : List X) → All P (xs ++ ys) → All P ys
all_right P xs ys all = subst (All P) (drop-append_seam xs ys) (All-drop P (length xs) (xs ++ ys) all)

-- the leaves of both operands
both_of_four : (a b : Formula) → (All IsOfFour (leaves_of a) → IsOver 4 a) → (All IsOfFour (leaves_of b) → IsOver 4 b) → All IsOfFour (leaves_of a ++ leaves_of b) → IsOver 4 a × IsOver 4 b
both_of_four a b first second all = (first (all_left IsOfFour (leaves_of a) (leaves_of b) all), second (all_right IsOfFour (leaves_of a) (leaves_of b) all))

over_four : (e : Formula) → All IsOfFour (leaves_of e) → IsOver 4 e
over_four (Lin form) all = All-head IsOfFour form [] all
over_four (Add a b) all = both_of_four a b (over_four a) (over_four b) all
over_four (Sub a b) all = both_of_four a b (over_four a) (over_four b) all
over_four (Scale q a) all = over_four a all
over_four (Min a b) all = both_of_four a b (over_four a) (over_four b) all
over_four (Max a b) all = both_of_four a b (over_four a) (over_four b) all

-- a form of four columns has no constant past them
no_constant : (form : List ℚ) → length form ≡ 4 → not (is_zero_ℚ (entry_of form 4)) ≡ false
no_constant form long =
    let past : entry_of form 4 ≡ 0ℚ = get_or_past form 4 0ℚ (omega arith) in
    ap (λ q. not (is_zero_ℚ q)) past ∙ ap not (is_zero_ℚ-zero 0ℚ refl)

no_constants : (e : Formula) → IsOver 4 e → formula_has_constant 4 e ≡ false
no_constants (Lin form) long = no_constant form long
no_constants (Add a b) are = ap₂ (λ p q. p || q) (no_constants a are.0) (no_constants b are.1)
no_constants (Sub a b) are = ap₂ (λ p q. p || q) (no_constants a are.0) (no_constants b are.1)
no_constants (Scale q a) are = no_constants a are
no_constants (Min a b) are = ap₂ (λ p q. p || q) (no_constants a are.0) (no_constants b are.1)
no_constants (Max a b) are = ap₂ (λ p q. p || q) (no_constants a are.0) (no_constants b are.1)

-- ---- the function

-- the tree over a thousand forms of four columns keeps the rule of functions
pub tree_fits : (forms : List (List ℚ)) (z : ℕ) → 1 ≤ length forms → length forms ≤ 1000 → All IsOfFour forms → IsFitting 4 (ByFormula (tree forms z).made)
tree_fits forms z some few all =
    let e : Formula = (tree forms z).made in
    let is : IsTreeOver forms e = tree-over forms z some in
    let over : IsOver 4 e = over_four e (subst (All IsOfFour) (sym is.leaves) all) in
    let linear : formula_has_constant 4 e ≡ false = no_constants e over in
    let nodes : node_count e + 1 ≡ 2 * length forms = is.nodes in
    let depth : depth_of e ≤ 10 + 1 = is.depth 10 (omega arith) in
    record {
      some = omega arith;
      few = omega arith;
      forms = subst (λ affine. IsOver (cond affine (4 + 1) 4) e) (sym linear) over;
      limits = record { nodes = omega arith; depth = omega arith };
    }

pub bulk_fits : (n : ℕ) → 1 ≤ n → n ≤ 1000 → IsFitting 4 (ByFormula (bulk_formula n).made)
unfolding bulk_formula
bulk_fits n some few = let long = leaves_long n n in tree_fits (leaves n n).made (leaves n n).number (omega arith) (omega arith) (leaves_of_four n n)

pub bulk_tree : (n : ℕ) → 1 ≤ n → IsTreeOver (leaves n n).made (bulk_formula n).made
unfolding bulk_formula
bulk_tree n some = let long = leaves_long n n in tree-over (leaves n n).made (leaves n n).number (omega arith)

-- ---- amounts

pub amounts_long : (n z : ℕ) → length (amounts n z).made ≡ 2 * n
amounts_long zero z = refl
amounts_long (suc n) z =
    let before = amounts_long n z in
    let together = length-append (amounts n z).made (pair (amounts n z).number).made in
    omega arith

pub amounts_not_negative : (n z : ℕ) → AreNotNegative (amounts n z).made
amounts_not_negative zero z = tt
amounts_not_negative (suc n) z = AreNotNegative-append (amounts n z).made (pair (amounts n z).number).made (amounts_not_negative n z) (whole_nonneg _, (whole_nonneg _, tt))

-- ---- the parts of the job, one after another

pub formula_is : (n z : ℕ) (forms : List (List ℚ)) → forms ≡ (leaves n n).made → z ≡ (leaves n n).number → tree forms z ≡ bulk_formula n
unfolding bulk_formula
formula_is n z forms made number = ap₂ tree made number

pub amounts_are : (n z : ℕ) → z ≡ (bulk_formula n).number → amounts 4 z ≡ bulk_amounts n
unfolding bulk_amounts
amounts_are n z number = ap (amounts 4) number

abbrev pub job : ℕ → Kind → List ℚ → List (List Flow) → PlainJob
job k kind xs us = record { function = record { variables = k; kind = kind }; amounts = xs; segments = us }

pub job_is : (n k : ℕ) (kind : Kind) (xs : List ℚ) (us : List (List Flow)) → k ≡ 4 → kind ≡ ByFormula (bulk_formula n).made → xs ≡ (bulk_amounts n).made → us ≡ []
    → job k kind xs us ≡ bulk_job n
job_is n k kind xs us variables is given none = cc

-- ---- numbers

pub next_small : (z : ℕ) → next z < 65537
next_small z = omega arith

-- ---- the formula of n leaves, and its amounts

pub formula_leaves : (n : ℕ) → 1 ≤ n → leaves_of (bulk_formula n).made ≡ (leaves n n).made
formula_leaves n some = (bulk_tree n some).leaves

pub formula_nodes : (n : ℕ) → 1 ≤ n → node_count (bulk_formula n).made + 1 ≡ 2 * n
formula_nodes n some = let is = bulk_tree n some in let long = leaves_long n n in omega (arith, is.nodes)

pub formula_depth : (n levels : ℕ) → 1 ≤ n → n ≤ 2 ^ levels → depth_of (bulk_formula n).made ≤ levels + 1
formula_depth n levels some few = let is = bulk_tree n some in let long = leaves_long n n in is.depth levels (omega arith)

pub bulk_amounts_long : (n : ℕ) → length (bulk_amounts n).made ≡ 8
unfolding bulk_amounts
bulk_amounts_long n = amounts_long 4 (bulk_formula n).number

pub bulk_amounts_not_negative : (n : ℕ) → AreNotNegative (bulk_amounts n).made
unfolding bulk_amounts
bulk_amounts_not_negative n = amounts_not_negative 4 (bulk_formula n).number
