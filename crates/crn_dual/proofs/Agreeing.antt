-- Nodes on copies that stand one after another are the nodes of the layout.
use Rattle.std.proofs.Common.{◌≡◌, ℕ, zero, suc, Bool, true, false, if◌then◌else◌, cond, ◌+◌, List, [], ◌∷◌, ◌++◌, length, drop, not, refl, sym, ◌∙◌, ap, ap₂, arith, append_assoc, length-append}
use Rattle.std.specs.List.{zip, range_with_len}
use Rattle.std.proofs.Math.Seq.{drop-append_seam}
use Rattle.crn_fraction.specs.Rational.{ℚ, is_zero_ℚ}
use Rattle.crn_net.specs.Network.{Reaction}
use Rattle.crn_gates.specs.declared.Use.{Use}
use Rattle.crn_gates.specs.declared.Use.TheVariants.{Variable, Context}
use Rattle.crn_gates.specs.declared.Copied.{Copied}
use Rattle.crn_gates.specs.declared.Copied.TheVariants.{Both, Single}
use Rattle.crn_gates.specs.Gates.{Built, Operand, OfPair, OfRail, factor_of, width_of, slot_species, stamped, leaf_table, add_table, sub_table, min_table, max_table, scale_table}
use Rattle.crn_gates.specs.Terms.{Term, terms_from, terms_of, nonzero}
use Rattle.crn_gates.specs.Pairs.{rails_of_terms, rails_of_uses, operands_of, pair_after, copies_after}
use Rattle.crn_formula.specs.Formulas.{Formula, Lin, Add, Sub, Scale, Min, Max}
use Rattle.crn_dual.specs.Layout.{use_of, operand_for, uses_of_terms, uses_of, rails_of, copy_count, Laid, leaf, gate_of_one, gate_of_two, nodes}
use Rattle.crn_dual.specs.Layout as layout
use Rattle.crn_dual.specs.OnCopies.{use_count, Made, pair_on_one, pair_on_two, choice_on_two, nodes_on}
use Rattle.crn_dual.proofs.Leaves.{by_column}
use Rattle.crn_dual.proofs.Laying.{length-rails}

-- ---- copies

-- of two lists of uses
copies_after-append : (k n : ℕ) (us vs : List Use) → copies_after n (us ++ vs) ≡ copies_after n us ++ copies_after (n + length (rails_of_uses k us)) vs
copies_after-append k n [] vs = ap (λ i. copies_after i vs) (none n)
  where
    none : (n : ℕ) → n ≡ n + 0
    none n = omega arith
copies_after-append k n (Variable v ∷ us) vs =
    ap (λ cs. Both (pair_after n) ∷ cs) (copies_after-append k (suc (suc n)) us vs ∙ ap (λ i. copies_after (suc (suc n)) us ++ copies_after i vs) (move n (length (rails_of_uses k us))))
  where
    move : (n i : ℕ) → suc (suc n) + i ≡ n + suc (suc i)
    move n i = omega arith
copies_after-append k n (Context ∷ us) vs =
    ap (λ cs. Single (suc n) ∷ cs) (copies_after-append k (suc n) us vs ∙ ap (λ i. copies_after (suc n) us ++ copies_after i vs) (move n (length (rails_of_uses k us))))
  where
    move : (n i : ℕ) → suc n + i ≡ n + suc i
    move n i = omega arith

-- one a use
pub length-copies_after : (n : ℕ) (us : List Use) → length (copies_after n us) ≡ length us
length-copies_after n [] = refl
length-copies_after n (Variable v ∷ us) = ap suc (length-copies_after (suc (suc n)) us)
length-copies_after n (Context ∷ us) = ap suc (length-copies_after (suc n) us)

-- ---- a leaf

-- each nonzero coefficient has a use
nonzero-uses : (k v : ℕ) (form : List ℚ) → length (nonzero form) ≡ length (uses_of_terms k (terms_from v form))
nonzero-uses k v [] = refl
nonzero-uses k v (q ∷ form) = step (nonzero-uses k (suc v) form) (is_zero_ℚ q)
  where
    step : length (nonzero form) ≡ length (uses_of_terms k (terms_from (suc v) form)) → (z : Bool) → length (cond (not z) (q ∷ nonzero form) (nonzero form)) ≡ length (uses_of_terms k (if z then terms_from (suc v) form else record { variable = v; factor = factor_of q } ∷ terms_from (suc v) form))
    step h true = h
    step h false = ap suc h

-- the coefficients on the copies of their terms are the operands of the leaf
abbrev AreTerms : ℕ → List ℚ → List Term → Type 0
AreTerms k qs ts = (n : ℕ) (rest : List Copied) →
    (rails_of_terms (zip qs (copies_after n (uses_of_terms k ts) ++ rest)) ≡ range_with_len (suc n) (width_of (layout.operands_of k ts)))
    × (operands_of (zip qs (copies_after n (uses_of_terms k ts) ++ rest)) ≡ layout.operands_of k ts)

terms_agree : (k v : ℕ) (form : List ℚ) → AreTerms k (nonzero form) (terms_from v form)
terms_agree k v [] = λ n rest. (refl, refl)
terms_agree k v (q ∷ form) = step (terms_agree k (suc v) form) (is_zero_ℚ q)
  where
    more : (n w : ℕ) → range_with_len (suc (suc (suc n))) w ≡ range_with_len (suc n + 1 + 1) w
    more n w = ap (λ i. range_with_len i w) (omega arith)

    next : (n w : ℕ) → range_with_len (suc (suc n)) w ≡ range_with_len (suc n + 1) w
    next n w = ap (λ i. range_with_len i w) (omega arith)

    second : (n : ℕ) → suc (suc n) ≡ suc n + 1
    second n = omega arith

    step : AreTerms k (nonzero form) (terms_from (suc v) form) → (z : Bool) → AreTerms k (cond (not z) (q ∷ nonzero form) (nonzero form)) (if z then terms_from (suc v) form else record { variable = v; factor = factor_of q } ∷ terms_from (suc v) form)
    step h true = h
    step h false = λ n rest.
        by_column k (record { variable = v; factor = factor_of q })
        (λ u. (rails_of_terms (zip (q ∷ nonzero form) (copies_after n (u ∷ uses_of_terms k (terms_from (suc v) form)) ++ rest)) ≡ range_with_len (suc n) (width_of (operand_for u (factor_of q) ∷ layout.operands_of k (terms_from (suc v) form))))
        × (operands_of (zip (q ∷ nonzero form) (copies_after n (u ∷ uses_of_terms k (terms_from (suc v) form)) ++ rest)) ≡ operand_for u (factor_of q) ∷ layout.operands_of k (terms_from (suc v) form)))
        (λ l. let (rails, ops) = h (suc (suc n)) rest in
        (ap₂ (λ s rs. suc n ∷ s ∷ rs) (second n) (rails ∙ more n (width_of (layout.operands_of k (terms_from (suc v) form)))), ap (λ os. OfPair (factor_of q) ∷ os) ops))
        (λ l. let (rails, ops) = h (suc n) rest in
        (ap (λ rs. suc n ∷ rs) (rails ∙ next n (width_of (layout.operands_of k (terms_from (suc v) form)))), ap (λ os. OfRail (factor_of q) ∷ os) ops))

-- ---- the nodes

-- how many uses a formula has
pub use_count-uses : (k : ℕ) (e : Formula) → use_count e ≡ length (uses_of k e)
use_count-uses k (Lin form) = nonzero-uses k 0 form
use_count-uses k (Scale q e) = use_count-uses k e
use_count-uses k (Add e f) = ap₂ (λ x y. x + y) (use_count-uses k e) (use_count-uses k f) ∙ sym (length-append (uses_of k e) (uses_of k f))
use_count-uses k (Sub e f) = ap₂ (λ x y. x + y) (use_count-uses k e) (use_count-uses k f) ∙ sym (length-append (uses_of k e) (uses_of k f))
use_count-uses k (Min e f) = ap₂ (λ x y. x + y) (use_count-uses k e) (use_count-uses k f) ∙ sym (length-append (uses_of k e) (uses_of k f))
use_count-uses k (Max e f) = ap₂ (λ x y. x + y) (use_count-uses k e) (use_count-uses k f) ∙ sym (length-append (uses_of k e) (uses_of k f))

-- the copies of two formulas are those of the first, and those of the second after them
both_copies : (k : ℕ) (e f : Formula) (n : ℕ) (rest : List Copied) →
    copies_after n (uses_of k e ++ uses_of k f) ++ rest ≡ copies_after n (uses_of k e) ++ (copies_after (n + copy_count k e) (uses_of k f) ++ rest)
both_copies k e f n rest =
    ap (λ cs. cs ++ rest) (copies_after-append k n (uses_of k e) (uses_of k f)
    ∙ ap (λ i. copies_after n (uses_of k e) ++ copies_after (n + i) (uses_of k f)) (length-rails k e))
    ∙ append_assoc (copies_after n (uses_of k e)) (copies_after (n + copy_count k e) (uses_of k f)) rest

later_copies : (k : ℕ) (e f : Formula) (n : ℕ) (rest : List Copied) →
    drop (use_count e) (copies_after n (uses_of k e ++ uses_of k f) ++ rest) ≡ copies_after (n + copy_count k e) (uses_of k f) ++ rest
later_copies k e f n rest =
    ap₂ (λ i cs. drop i cs) (use_count-uses k e ∙ sym (length-copies_after n (uses_of k e))) (both_copies k e f n rest)
    ∙ drop-append_seam (copies_after n (uses_of k e)) (copies_after (n + copy_count k e) (uses_of k f) ++ rest)

-- what was laid, as what was made
abbrev pub as_made : Laid → Made
as_made l = record { built = l.built; pair = record { plus = l.plus; minus = l.minus } }

made_is : (b : Built) (p m p' m' : ℕ) → p ≡ p' → m ≡ m' → (let x : Made = record { built = b; pair = record { plus = p; minus = m } } in x) ≡ record { built = b; pair = record { plus = p'; minus = m' } }
made_is b p m p' m' e f = ap₂ (λ (x y : ℕ). let z : Made = record { built = b; pair = record { plus = x; minus = y } } in z) e f

one_agrees : (t : List Reaction) (l : Laid) → pair_on_one t (as_made l) ≡ as_made (gate_of_one l 2 t 2 3)
one_agrees t l = made_is _ _ _ _ _ (omega arith) (omega arith)

two_agree : (t : List Reaction) (l r : Laid) → pair_on_two t (as_made l) (as_made r) ≡ as_made (gate_of_two l r 2 t 4 5)
two_agree t l r = made_is _ _ _ _ _ (omega arith) (omega arith)

choice_agrees : (t : List Reaction) (l r : Laid) → choice_on_two t (as_made l) (as_made r) ≡ as_made (gate_of_two l r 4 t 6 7)
choice_agrees t l r = made_is _ _ _ _ _ (omega arith) (omega arith)

-- the slots past the copies
slot_range : (w a n i : ℕ) → slot_species (range_with_len a w) n (w + i) ≡ suc (n + i)
slot_range zero a n i = ap (λ j. suc (n + j)) (omega arith)
slot_range (suc w) a n i = ap (slot_species (range_with_len a (suc w)) n) (move w i) ∙ slot_range w (a + 1) n i
  where
    move : (w i : ℕ) → suc w + i ≡ suc (w + i)
    move w i = omega arith

leaf_agrees : (ts : List Operand) (n : ℕ) (b : Built) →
    (let x : Made = record { built = stamped (range_with_len (suc n) (width_of ts)) 2 (leaf_table ts) b; pair = pair_after b.species } in x) ≡ as_made (leaf ts n b)
leaf_agrees ts n b = made_is _ _ _ _ _ (sym (ap (slot_species (range_with_len (suc n) (width_of ts)) b.species) first ∙ slot_range (width_of ts) (suc n) b.species 0 ∙ omega arith))
    (sym (ap (slot_species (range_with_len (suc n) (width_of ts)) b.species) second ∙ slot_range (width_of ts) (suc n) b.species 1 ∙ omega arith))
  where
    first : width_of ts ≡ width_of ts + 0
    first = omega arith

    second : suc (width_of ts) ≡ width_of ts + 1
    second = omega arith

-- two operands, one after the other
both_agree : (k : ℕ) (e f : Formula) (n : ℕ) (rest : List Copied) (b : Built) (op : Made → Made → Made) →
    nodes_on e (copies_after n (uses_of k e) ++ (copies_after (n + copy_count k e) (uses_of k f) ++ rest)) b ≡ as_made (nodes k e n b) →
    nodes_on f (copies_after (n + copy_count k e) (uses_of k f) ++ rest) (nodes k e n b).built ≡ as_made (nodes k f (n + copy_count k e) (nodes k e n b).built) →
    op (nodes_on e (copies_after n (uses_of k e ++ uses_of k f) ++ rest) b)
    (nodes_on f (drop (use_count e) (copies_after n (uses_of k e ++ uses_of k f) ++ rest)) (nodes_on e (copies_after n (uses_of k e ++ uses_of k f) ++ rest) b).built)
    ≡ op (as_made (nodes k e n b)) (as_made (nodes k f (n + copy_count k e) (nodes k e n b).built))
both_agree k e f n rest b op first second =
    let first' : nodes_on e (copies_after n (uses_of k e ++ uses_of k f) ++ rest) b ≡ as_made (nodes k e n b) = ap (λ cs. nodes_on e cs b) (both_copies k e f n rest) ∙ first in
    ap₂ (λ (x y : Made). op x y) first' (ap₂ (λ cs (x : Made). nodes_on f cs x.built) (later_copies k e f n rest) first' ∙ second)

-- the nodes on copies after species n are those of the layout
pub nodes_agree : (k : ℕ) (e : Formula) (n : ℕ) (rest : List Copied) (b : Built) → nodes_on e (copies_after n (uses_of k e) ++ rest) b ≡ as_made (nodes k e n b)
unfolding nodes nodes_on
nodes_agree k (Lin form) n rest b =
    let (rails, ops) = terms_agree k 0 form n rest in
    ap₂ (λ xs os. let x : Made = record { built = stamped xs 2 (leaf_table os) b; pair = pair_after b.species } in x) rails ops ∙ leaf_agrees (layout.operands_of k (terms_of form)) n b
nodes_agree k (Scale q e) n rest b = ap (pair_on_one (scale_table (factor_of q))) (nodes_agree k e n rest b) ∙ one_agrees (scale_table (factor_of q)) (nodes k e n b)
nodes_agree k (Add e f) n rest b = both_agree k e f n rest b (pair_on_two add_table) (nodes_agree k e n _ b) (nodes_agree k f (n + copy_count k e) rest (nodes k e n b).built) ∙ two_agree add_table (nodes k e n b) (nodes k f (n + copy_count k e) (nodes k e n b).built)
nodes_agree k (Sub e f) n rest b = both_agree k e f n rest b (pair_on_two sub_table) (nodes_agree k e n _ b) (nodes_agree k f (n + copy_count k e) rest (nodes k e n b).built) ∙ two_agree sub_table (nodes k e n b) (nodes k f (n + copy_count k e) (nodes k e n b).built)
nodes_agree k (Min e f) n rest b = both_agree k e f n rest b (choice_on_two min_table) (nodes_agree k e n _ b) (nodes_agree k f (n + copy_count k e) rest (nodes k e n b).built) ∙ choice_agrees min_table (nodes k e n b) (nodes k f (n + copy_count k e) (nodes k e n b).built)
nodes_agree k (Max e f) n rest b = both_agree k e f n rest b (choice_on_two max_table) (nodes_agree k e n _ b) (nodes_agree k f (n + copy_count k e) rest (nodes k e n b).built) ∙ choice_agrees max_table (nodes k e n b) (nodes k f (n + copy_count k e) (nodes k e n b).built)
