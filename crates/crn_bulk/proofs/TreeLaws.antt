-- What holds of the tree over leaves: how it splits, its leaves, its nodes and its depth.
use Rattle.std.proofs.Common.{◌≡◌, ℕ, zero, suc, ◌+◌, ◌-◌, ◌*◌, ◌%◌, ◌≤◌, ◌^◌, max, List, [], ◌∷◌, ◌++◌, length, take, refl, sym, ap, ◌∙◌, subst, arith, length-append, length-drop}
use Rattle.std.proofs.lemmas.List.{take-append-drop, length-take-le, take_all}
use Rattle.std.proofs.Math.Nat.{pow-succ'}
use Rattle.crn_fraction.specs.Rational.{ℚ}
use Rattle.crn_formula.specs.Formulas.{Formula, Lin, node_count, depth_of}
use Rattle.crn_bulk.specs.Generator.{Drawn, drawn, next, operator, middle, left_of, right_of, over, tree_within, tree}
use Rattle.crn_bulk.specs.Leaves.{leaves_of, AreHalves}

-- ---- halves

pub left_long : (forms : List (List ℚ)) → 1 ≤ length forms → length (left_of forms) ≡ middle forms + 1
left_long forms some = length-take-le (middle forms + 1) forms (omega arith)

pub right_long : (forms : List (List ℚ)) → length (right_of forms) ≡ length forms - (middle forms + 1)
right_long forms = length-drop (middle forms + 1) forms

pub halves_are : (forms : List (List ℚ)) → 2 ≤ length forms → AreHalves (left_of forms) (right_of forms)
halves_are forms two =
    let left : length (left_of forms) ≡ middle forms + 1 = left_long forms (omega arith) in
    let right : length (right_of forms) ≡ length forms - (middle forms + 1) = right_long forms in
    record { some = omega arith; more = omega arith; few = omega arith }

-- ---- the number of levels

-- what is left of more levels than are needed has no effect
pub levels_enough : (n m : ℕ) (forms : List (List ℚ)) (z : ℕ) → length forms ≤ n + 1 → length forms ≤ m + 1 → tree_within n forms z ≡ tree_within m forms z
levels_enough n m [] z low high = refl
levels_enough n m (form ∷ []) z low high = refl
levels_enough zero m (form ∷ more ∷ forms) z low high = absurd (omega arith)
levels_enough (suc n) zero (form ∷ more ∷ forms) z low high = absurd (omega arith)
levels_enough (suc n) (suc m) (form ∷ more ∷ forms) z low high =
    let all : List (List ℚ) = form ∷ more ∷ forms in
    let halves : AreHalves (left_of all) (right_of all) = halves_are all (omega arith) in
    let long : length (left_of all) + length (right_of all) ≡ length all = halves_long all in
    let left : tree_within n (left_of all) z ≡ tree_within m (left_of all) z = levels_enough n m (left_of all) z (omega arith) (omega arith) in
    let right : (y : ℕ) → tree_within n (right_of all) y ≡ tree_within m (right_of all) y = λ y. levels_enough n m (right_of all) y (omega arith) (omega arith) in
    ap (λ a. over a (tree_within n (right_of all) a.number)) left ∙ ap (over (tree_within m (left_of all) z)) (right (tree_within m (left_of all) z).number)
  where
    halves_long : (all : List (List ℚ)) → length (left_of all) + length (right_of all) ≡ length all
    halves_long all = sym (length-append (left_of all) (right_of all)) ∙ ap length (take-append-drop (middle all + 1) all)

-- one leaf
pub tree-one : (form : List ℚ) (z : ℕ) → tree (form ∷ []) z ≡ record { made = Lin form; number = z }
tree-one form z = refl

-- an operator over the trees of the halves
pub tree-halves : (forms : List (List ℚ)) (z : ℕ) → 2 ≤ length forms → tree forms z ≡ over (tree (left_of forms) z) (tree (right_of forms) (tree (left_of forms) z).number)
tree-halves [] z two = absurd (omega arith)
tree-halves (form ∷ []) z two = absurd (omega arith)
tree-halves (form ∷ more ∷ forms) z two =
    let all : List (List ℚ) = form ∷ more ∷ forms in
    let n : ℕ = suc (length forms) in
    let halves : AreHalves (left_of all) (right_of all) = halves_are all two in
    let left : length (left_of all) ≡ middle all + 1 = left_long all (omega arith) in
    let right : length (right_of all) ≡ length all - (middle all + 1) = right_long all in
    let left_is : tree_within n (left_of all) z ≡ tree (left_of all) z = levels_enough n (length (left_of all)) (left_of all) z (omega arith) (omega arith) in
    let right_is : (y : ℕ) → tree_within n (right_of all) y ≡ tree (right_of all) y = λ y. levels_enough n (length (right_of all)) (right_of all) y (omega arith) (omega arith) in
    ap (λ a. over a (tree_within n (right_of all) a.number)) left_is ∙ ap (over (tree (left_of all) z)) (right_is (tree (left_of all) z).number)

-- the leaves after the middle one, as a slice up to the end
abbrev pub right_slice : List (List ℚ) → List (List ℚ)
right_slice forms = take (length forms - (middle forms + 1)) (right_of forms)

right_slice_is : (forms : List (List ℚ)) → right_slice forms ≡ right_of forms
right_slice_is forms = let long = right_long forms in take_all (length forms - (middle forms + 1)) (right_of forms) (omega arith)

-- the tree by its parts: two trees one after another, and an operator drawn after them
pub tree_joins : (forms : List (List ℚ)) (z : ℕ) (a b e : Formula) (y x w : ℕ) → 2 ≤ length forms
    → a ≡ (tree (left_of forms) z).made → y ≡ (tree (left_of forms) z).number → b ≡ (tree (right_slice forms) y).made → x ≡ (tree (right_slice forms) y).number
    → w ≡ next x → e ≡ operator (w % 4) a b → drawn e w ≡ tree forms z
tree_joins forms z a b e y x w two a_is y_is b_is x_is w_is e_is = let split = tree-halves forms z two in let slice = right_slice_is forms in cc

-- ---- what holds of every tree

-- what holds of one leaf, and of an operator over two halves, holds of the tree
pub tree_has : (P : List (List ℚ) → Formula → Type 0)
    → ((form : List ℚ) → P (form ∷ []) (Lin form))
    → ((left right : List (List ℚ)) (k : ℕ) (a b : Formula) → AreHalves left right → P left a → P right b → P (left ++ right) (operator k a b))
    → (n : ℕ) (forms : List (List ℚ)) (z : ℕ) → 1 ≤ length forms → length forms ≤ n + 1 → P forms (tree_within n forms z).made
tree_has P one two n [] z some few = absurd (omega arith)
tree_has P one two n (form ∷ []) z some few = one form
tree_has P one two zero (form ∷ more ∷ forms) z some few = absurd (omega arith)
tree_has P one two (suc n) (form ∷ more ∷ forms) z some few =
    let all : List (List ℚ) = form ∷ more ∷ forms in
    let halves : AreHalves (left_of all) (right_of all) = halves_are all (omega arith) in
    let left : length (left_of all) ≡ middle all + 1 = left_long all (omega arith) in
    let right : length (right_of all) ≡ length all - (middle all + 1) = right_long all in
    let a : Drawn Formula = tree_within n (left_of all) z in
    let b : Drawn Formula = tree_within n (right_of all) a.number in
    subst (λ forms. P forms (over a b).made) (take-append-drop (middle all + 1) all)
    (two (left_of all) (right_of all) (next b.number % 4) a.made b.made halves
    (tree_has P one two n (left_of all) z (omega arith) (omega arith)) (tree_has P one two n (right_of all) a.number (omega arith) (omega arith)))

-- ---- leaves, nodes and depth

leaves_of-operator : (k : ℕ) (a b : Formula) → leaves_of (operator k a b) ≡ leaves_of a ++ leaves_of b
leaves_of-operator zero a b = refl
leaves_of-operator (suc zero) a b = refl
leaves_of-operator (suc (suc zero)) a b = refl
leaves_of-operator (suc (suc (suc k))) a b = refl

node_count-operator : (k : ℕ) (a b : Formula) → node_count (operator k a b) ≡ 1 + (node_count a + node_count b)
node_count-operator zero a b = refl
node_count-operator (suc zero) a b = refl
node_count-operator (suc (suc zero)) a b = refl
node_count-operator (suc (suc (suc k))) a b = refl

depth_of-operator : (k : ℕ) (a b : Formula) → depth_of (operator k a b) ≡ 1 + max (depth_of a) (depth_of b)
depth_of-operator zero a b = refl
depth_of-operator (suc zero) a b = refl
depth_of-operator (suc (suc zero)) a b = refl
depth_of-operator (suc (suc (suc k))) a b = refl

-- it has these leaves, an operator less than that, and is so deep
pub record IsTreeOver (forms : List (List ℚ)) (e : Formula) : Type 0 where
  pub leaves : leaves_of e ≡ forms
  pub nodes : node_count e + 1 ≡ 2 * length forms
  pub depth : (levels : ℕ) → length forms ≤ 2 ^ levels → depth_of e ≤ levels + 1

over_halves : (left right : List (List ℚ)) (k : ℕ) (a b : Formula) → AreHalves left right → IsTreeOver left a → IsTreeOver right b → IsTreeOver (left ++ right) (operator k a b)
over_halves left right k a b halves first second = record {
  leaves = leaves_of-operator k a b ∙ ap (λ xs. xs ++ leaves_of b) first.leaves ∙ ap (λ ys. left ++ ys) second.leaves;
  nodes = let counted = node_count-operator k a b in let together = length-append left right in omega (arith, first.nodes, second.nodes, halves.some);
  depth = depth;
}
  where
    depth : (levels : ℕ) → length (left ++ right) ≤ 2 ^ levels → depth_of (operator k a b) ≤ levels + 1
    depth zero long = absurd (let together = length-append left right in omega (arith, halves.some, halves.more))
    depth (suc n) long =
        let together = length-append left right in
        let deeper = depth_of-operator k a b in
        let twice : 2 ^ suc n ≡ 2 * 2 ^ n = pow-succ' 2 n in
        let low : depth_of a ≤ n + 1 = first.depth n (omega (arith, halves.some, halves.more, halves.few)) in
        let high : depth_of b ≤ n + 1 = second.depth n (omega (arith, halves.some, halves.more, halves.few)) in
        omega arith

pub tree-over : (forms : List (List ℚ)) (z : ℕ) → 1 ≤ length forms → IsTreeOver forms (tree forms z).made
tree-over forms z some = tree_has IsTreeOver (λ form. record { leaves = refl; nodes = refl; depth = λ n h. omega arith }) over_halves (length forms) forms z some (omega arith)
