-- The layout of a formula is a network that feeds forward, and stably computes the formula's value.
use Rattle.std.proofs.Common.{◌≡◌, ◌≢◌, ℕ, zero, suc, ◌+◌, ◌<◌, ◌≤◌, nat_lt, Bool, true, false, cond, IsTrue, if◌then◌else◌, List, [], ◌∷◌, ◌++◌, length, get_or, replicate, refl, sym, ◌∙◌, ap, ap₂, subst, ◌⊎◌, inl, inr, ⊎_elim, arith, zero-add, length-append}
use Rattle.std.specs.Prelude.{pos, Some}
use Rattle.std.proofs.Math.ListN.{length-replicate}
use Rattle.std.proofs.lemmas.Bool.Decides.{nat_tests}
use Rattle.crn_fraction.proofs.Ring.{zero-+ℚ}
use Rattle.crn_fraction.specs.Rational.{ℚ, 0ℚ, ◌+ℚ◌, ◌-ℚ◌, whole}
use Rattle.crn_net.specs.Network.{Network, amount, start, input_species, given_to, or_context, differences, AreAmounts, AreEnds, IsApart, AreDifferent, IsContext, IsNetwork, IsFeedForward, StablyComputes}
use Rattle.crn_net.specs.declared.Rails.TheVariants.{Dual}
use Rattle.crn_net.specs.declared.Ends.{Ends}
use Rattle.crn_net.specs.declared.Ends.TheVariants.{Pair}
use Rattle.crn_net.specs.Reactions.{EachTaken}
use Rattle.crn_net.specs.Totals.{made_by}
use Rattle.crn_net.proofs.Computes.{computes_made}
use Rattle.crn_net.proofs.FeedForward.{feed_forward, are_reactions, untaken, not_taken}
use Rattle.crn_net.proofs.Start.{amount-start, amount-start-past, amount-context, pick_yes, pick_no, start_not_negative}
use Rattle.crn_net.proofs.FewReactions.{few_reactions}
use Rattle.crn_gates.proofs.Drafting.{length-inputs_after}
use Rattle.crn_gates.specs.FanOut.{fanned}
use Rattle.crn_gates.proofs.FanLaws.{fans_make, fans_feed, fans_given, fans_taken, fans_each}
use Rattle.crn_gates.specs.Pairs.{AreUses}
use Rattle.crn_gates.specs.Drafts.{inputs_after, width_before, context_of}
use Rattle.crn_gates.specs.Terms.{terms_of}
use Rattle.crn_gates.proofs.Terms.{terms_over}
use Rattle.crn_formula.specs.Formulas.{Formula, Lin, Add, Sub, Scale, Min, Max, formula_value, IsOver, formula_has_constant}
use Rattle.crn_formula.specs.Functions.{ByFormula, IsFitting, is_affine, kind_value, point_of}
use Rattle.crn_dual.specs.Columns.{IsOverVariables, column_count, has_context, point, value_over}
use Rattle.crn_dual.specs.Layout.{uses_of, rails_of, copy_count, laid_out, layout_with, layout}
use Rattle.crn_dual.proofs.Leaves.{HoldColumns, AreCopied, terms_are_uses, AreUses-append, uses_input_rails}
use Rattle.crn_dual.proofs.Laying.{Ready, Lays, lays, length-rails, nodes_grow}

-- a fan-out is ready for what takes its copies
fan_ready : (n : ℕ) (rs : List ℕ) → Ready (fanned n rs) n (n + length rs)
fan_ready n rs = record {
  feeds = fans_feed rs n 1 n (omega arith);
  gives = fans_given rs n (n + length rs) 1 n (omega arith);
  takes = fans_taken rs n (λ s. (s ≤ n + length rs) × ((s ≤ n) ⊎ (n + length rs < s))) 1 n (λ r l h. (omega arith, inl (omega arith)));
  room = omega arith;
  each = fans_each rs n (n + length rs) 1 n (omega arith) (omega arith) (omega arith);
}

-- ---- the inputs

-- plus and minus of k inputs, after n species
abbrev pairs_after : ℕ → ℕ → List Ends
pairs_after n zero = []
pairs_after n (suc k) = Pair (suc n) (suc (suc n)) ∷ pairs_after (suc (suc n)) k

-- these are the inputs
inputs_are : (v k : ℕ) → inputs_after Dual v k ≡ pairs_after (v + v) k
inputs_are v zero = refl
inputs_are v (suc k) = ap (λ es. Pair (suc (v + v)) (suc (suc (v + v))) ∷ es) (inputs_are (suc v) k ∙ ap (λ n. pairs_after n k) (twice v))
  where
    twice : (v : ℕ) → suc v + suc v ≡ suc (suc (v + v))
    twice v = omega arith

-- pairs are ends of a dual network
pairs_are : (n k top : ℕ) → n + (k + k) ≤ top → AreEnds Dual top (pairs_after n k)
pairs_are n zero top l = tt
pairs_are n (suc k) top l = ((omega arith, omega arith, omega arith, omega arith, omega arith), pairs_are (suc (suc n)) k top (omega arith))

-- a species below or above them
pairs_apart : (n k x : ℕ) → (x ≤ n) ⊎ (n + (k + k) < x) → IsApart x (input_species (pairs_after n k))
pairs_apart n zero x l = tt
pairs_apart n (suc k) x l = (other n k x l, (other' n k x l, pairs_apart (suc (suc n)) k x (next n k x l)))
  where
    other : (n k x : ℕ) → (x ≤ n) ⊎ (n + (suc k + suc k) < x) → x ≢ suc n
    other n k x l = grind arith

    other' : (n k x : ℕ) → (x ≤ n) ⊎ (n + (suc k + suc k) < x) → x ≢ suc (suc n)
    other' n k x l = grind arith

    next : (n k x : ℕ) → (x ≤ n) ⊎ (n + (suc k + suc k) < x) → (x ≤ suc (suc n)) ⊎ (suc (suc n) + (k + k) < x)
    next n k x l = grind arith

-- no two of their species are the same
pairs_different : (n k : ℕ) → AreDifferent (input_species (pairs_after n k))
pairs_different n zero = tt
pairs_different n (suc k) =
    ((omega arith, pairs_apart (suc (suc n)) k (suc n) (inl (omega arith))), (pairs_apart (suc (suc n)) k (suc (suc n)) (inl (omega arith)), pairs_different (suc (suc n)) k))

-- how many species they have
length-pairs : (n k : ℕ) → length (input_species (pairs_after n k)) ≡ k + k
length-pairs n zero = refl
length-pairs n (suc k) = ap (λ i. suc (suc i)) (length-pairs (suc (suc n)) k) ∙ twice k
  where
    twice : (k : ℕ) → suc (suc (k + k)) ≡ suc k + suc k
    twice k = omega arith

-- the amounts are given to them in turn
given_at : (n k : ℕ) (xs : List ℚ) (i : ℕ) → i < k + k → given_to (input_species (pairs_after n k)) xs (suc (n + i)) ≡ get_or xs i 0ℚ
given_at n zero xs i h = absurd (omega arith)
given_at n (suc k) [] i h = refl
given_at n (suc k) (x ∷ []) zero h = pick_yes (suc n) (suc (n + 0)) x _ (omega arith)
given_at n (suc k) (x ∷ []) (suc i) h = pick_no (suc n) (suc (n + suc i)) x _ (omega arith)
given_at n (suc k) (x ∷ y ∷ ys) zero h = pick_yes (suc n) (suc (n + 0)) x _ (omega arith)
given_at n (suc k) (x ∷ y ∷ ys) (suc zero) h = pick_no (suc n) (suc (n + 1)) x _ (omega arith) ∙ pick_yes (suc (suc n)) (suc (n + 1)) y _ (omega arith)
given_at n (suc k) (x ∷ y ∷ ys) (suc (suc i)) h =
    let move : suc (n + suc (suc i)) ≡ suc (suc (suc n) + i) = omega arith in
    pick_no (suc n) (suc (n + suc (suc i))) x _ (omega arith) ∙ pick_no (suc (suc n)) (suc (n + suc (suc i))) y _ (omega arith)
    ∙ ap (λ s. given_to (input_species (pairs_after (suc (suc n)) k)) ys s) move ∙ given_at (suc (suc n)) k ys i (omega arith)

-- and to nothing after them
given_past : (n k : ℕ) (xs : List ℚ) (s : ℕ) → n + (k + k) < s → given_to (input_species (pairs_after n k)) xs s ≡ 0ℚ
given_past n zero xs s h = refl
given_past n (suc k) [] s h = refl
given_past n (suc k) (x ∷ []) s h = pick_no (suc n) s x _ (omega arith)
given_past n (suc k) (x ∷ y ∷ ys) s h = pick_no (suc n) s x _ (omega arith) ∙ pick_no (suc (suc n)) s y _ (omega arith) ∙ given_past (suc (suc n)) k ys s (omega arith)

-- ---- the point

-- each number that amounts stand for is a plus amount less a minus amount
difference_at : (k v : ℕ) (xs : List ℚ) → length xs ≡ k + k → v < k → get_or xs (v + v) 0ℚ -ℚ get_or xs (suc (v + v)) 0ℚ ≡ get_or (differences xs) v 0ℚ
difference_at zero v xs e l = absurd (omega arith)
difference_at (suc k) v [] e l = absurd (omega arith)
difference_at (suc k) v (p ∷ []) e l = absurd (omega arith)
difference_at (suc k) zero (p ∷ m ∷ xs) e l = refl
difference_at (suc k) (suc v) (p ∷ m ∷ xs) e l =
    ap (λ i. get_or (p ∷ m ∷ xs) i 0ℚ -ℚ get_or (p ∷ m ∷ xs) (suc i) 0ℚ) (twice v) ∙ difference_at k v xs (omega arith) (omega arith)
  where
    twice : (v : ℕ) → suc v + suc v ≡ suc (suc (v + v))
    twice v = omega arith

length-differences : (k : ℕ) (xs : List ℚ) → length xs ≡ k + k → length (differences xs) ≡ k
length-differences zero [] e = refl
length-differences zero (p ∷ xs) e = absurd (omega arith)
length-differences (suc k) [] e = absurd (omega arith)
length-differences (suc k) (p ∷ []) e = absurd (omega arith)
length-differences (suc k) (p ∷ m ∷ xs) e = ap suc (length-differences k xs (omega arith))

-- an entry of a list that a number follows
get_or-before : (x : List ℚ) (y : ℚ) (i : ℕ) → i < length x → get_or (x ++ y ∷ []) i 0ℚ ≡ get_or x i 0ℚ
get_or-before [] y i l = absurd (omega arith)
get_or-before (t ∷ x) y zero l = refl
get_or-before (t ∷ x) y (suc i) l = get_or-before x y i (omega arith)

-- and that number
get_or-last : (x : List ℚ) (y : ℚ) (i : ℕ) → i ≡ length x → get_or (x ++ y ∷ []) i 0ℚ ≡ y
get_or-last [] y i e = ap (λ j. get_or (y ∷ []) j 0ℚ) e
get_or-last (t ∷ x) y zero e = absurd (omega arith)
get_or-last (t ∷ x) y (suc i) e = get_or-last x y i (omega arith)

-- how many columns there are over k variables
abbrev columns_over : ℕ → Bool → ℕ
columns_over k context = if context then k + 1 else k

-- the point has an entry for each of them
length-point : (k : ℕ) (context : Bool) (x : List ℚ) → length x ≡ k → length (point context x) ≡ columns_over k context
length-point k true x e = omega (arith, length-append x (whole (pos 1) ∷ []))
length-point k false x e = e

-- those of the variables are the amounts
point_at : (k : ℕ) (context : Bool) (x : List ℚ) (v : ℕ) → length x ≡ k → v < k → get_or x v 0ℚ ≡ get_or (point context x) v 0ℚ
point_at k true x v e l = sym (get_or-before x (whole (pos 1)) v (omega arith))
point_at k false x v e l = refl

-- ---- the copies

-- the uses of a formula are of variables and, where there are more columns, of the context
pub are_uses : (k n : ℕ) (context : Bool) (e : Formula) → IsOver n e → (k < n → IsTrue context) → AreUses k context (uses_of k e)
are_uses k n context (Lin form) o has = terms_are_uses k n context (terms_of form) (terms_over n 0 form (omega (arith, o))) has
are_uses k n context (Scale q e) o has = are_uses k n context e o has
are_uses k n context (Add e f) o has = AreUses-append k context (uses_of k e) (uses_of k f) (are_uses k n context e o.0 has) (are_uses k n context f o.1 has)
are_uses k n context (Sub e f) o has = AreUses-append k context (uses_of k e) (uses_of k f) (are_uses k n context e o.0 has) (are_uses k n context f o.1 has)
are_uses k n context (Min e f) o has = AreUses-append k context (uses_of k e) (uses_of k f) (are_uses k n context e o.0 has) (are_uses k n context f o.1 has)
are_uses k n context (Max e f) o has = AreUses-append k context (uses_of k e) (uses_of k f) (are_uses k n context e o.0 has) (are_uses k n context f o.1 has)

-- so where it has as many columns as it needs
pub layout_uses : (k : ℕ) (context : Bool) (e : Formula) → IsOver (columns_over k context) e → AreUses k context (uses_of k e)
layout_uses k true e over = are_uses k (k + 1) true e over (λ l. refl)
layout_uses k false e over = are_uses k k false e over (λ l. absurd (omega arith))

-- ---- the theorem, with or without a context

-- species before the copies: the pairs, and the context
pairs_before : (k : ℕ) (context : Bool) → k + k ≤ width_before Dual k context
pairs_before k true = omega arith
pairs_before k false = omega arith

columns_few : (k : ℕ) (context : Bool) → columns_over k context ≤ k + 1
columns_few k true = omega arith
columns_few k false = omega arith

-- what the context adds is among these species
context_past : (k : ℕ) (context : Bool) (s : ℕ) (x : ℚ) → width_before Dual k context < s → or_context (context_of Dual k context) s x ≡ x
context_past k true s x l = pick_no (suc (k + k)) s _ x (omega arith)
context_past k false s x l = refl

-- and no input
context_not : (k : ℕ) (context : Bool) (s : ℕ) (x : ℚ) → s ≤ k + k → or_context (context_of Dual k context) s x ≡ x
context_not k true s x l = pick_no (suc (k + k)) s _ x (omega arith)
context_not k false s x l = refl

-- the context is a species of no input
context_is : (k : ℕ) (context : Bool) (top : ℕ) → width_before Dual k context ≤ top → IsContext top (pairs_after 0 k) (context_of Dual k context)
context_is k true top l = (omega arith, l, pairs_apart 0 k (suc (k + k)) (inr (omega arith)))
context_is k false top l = tt

module _ (k : ℕ) (context : Bool) (e : Formula) (over : IsOver (columns_over k context) e) (xs : List ℚ) (long : length xs ≡ k + k) where
  -- the species before the copies are species of the network
  room : width_before Dual k context + length (rails_of k e) ≤ (layout_with k context e).species
  room = nodes_grow k e (width_before Dual k context) (fanned (width_before Dual k context) (rails_of k e))

  -- a start has nothing past the first species
  empty : (s : ℕ) → width_before Dual k context < s → amount (start (layout_with k context e) xs) s ≡ 0ℚ
  empty s h =
      let bound : k + k ≤ width_before Dual k context = pairs_before k context in
      ⊎_elim (λ (l : s ≤ (layout_with k context e).species). amount-start (layout_with k context e) xs s (omega arith) l ∙ context_past k context s _ h ∙ ap (λ es. given_to (input_species es) xs s) (inputs_are 0 k) ∙ given_past 0 k xs s (omega arith))
      (λ (l : (layout_with k context e).species < s). amount-start-past (layout_with k context e) xs s l)
      (grind arith)

  -- it has the amounts on the inputs
  input_at : (i : ℕ) → i < k + k → amount (start (layout_with k context e) xs) (suc i) ≡ get_or xs i 0ℚ
  input_at i l =
      let bound : k + k ≤ width_before Dual k context = pairs_before k context in
      amount-start (layout_with k context e) xs (suc i) (omega arith) (omega (arith, room))
      ∙ context_not k context (suc i) _ (omega arith)
      ∙ ap₂ (λ es s. given_to (input_species es) xs (suc s)) (inputs_are 0 k) (sym (zero-add i)) ∙ given_at 0 k xs i l

  -- and 1 on the context
  context_at : k < columns_over k context → amount (start (layout_with k context e) xs) (suc (k + k)) ≡ get_or (point context (differences xs)) k 0ℚ
  context_at l = of context l (λ is low high. amount-context (layout_with k context e) xs (suc (k + k)) is low (omega (arith, room, high)))
    where
      of : (c : Bool) → k < columns_over k c →
          (context_of Dual k c ≡ Some (suc (k + k)) → 1 ≤ suc (k + k) → suc (k + k) ≤ width_before Dual k c → amount (start (layout_with k context e) xs) (suc (k + k)) ≡ whole (pos 1)) →
          amount (start (layout_with k context e) xs) (suc (k + k)) ≡ get_or (point c (differences xs)) k 0ℚ
      of true l h = h refl (omega arith) (omega arith) ∙ sym (get_or-last (differences xs) (whole (pos 1)) k (sym (length-differences k xs long)))
      of false l h = absurd (omega arith)

  -- so the first species hold the columns of the forms
  columns_held : HoldColumns k (columns_over k context) (amount (start (layout_with k context e) xs)) (λ v. get_or (point context (differences xs)) v 0ℚ)
  columns_held = record {
    few = columns_few k context;
    variables = λ v l.
        ap₂ (λ x y. x -ℚ y) (input_at (v + v) (omega arith)) (input_at (suc (v + v)) (omega arith)) ∙ difference_at k v xs long (omega arith)
        ∙ point_at k context (differences xs) v (length-differences k xs long) l;
    constant = context_at;
  }

  -- the nodes are laid on the fan-out
  laid : Lays (fanned (width_before Dual k context) (rails_of k e)) (width_before Dual k context) (copy_count k e) (amount (start (layout_with k context e) xs))
      (AreCopied (rails_of k e) (width_before Dual k context) (made_by (fanned (width_before Dual k context) (rails_of k e)).reactions (amount (start (layout_with k context e) xs))) (amount (start (layout_with k context e) xs)))
      (formula_value e (point context (differences xs))) (laid_out k context e)
  laid =
      lays k (columns_over k context) e over (amount (start (layout_with k context e) xs)) (point context (differences xs)) (length-point k context (differences xs) (length-differences k xs long)) columns_held
      (width_before Dual k context) (width_before Dual k context + length (rails_of k e)) (fanned (width_before Dual k context) (rails_of k e)) (amount (start (layout_with k context e) xs))
      (fan_ready (width_before Dual k context) (rails_of k e)) (omega (arith, length-rails k e)) (λ s l. empty s (omega arith))

  -- the fan-out makes of each copy what there is of its rail
  copies_made : AreCopied (rails_of k e) (width_before Dual k context) (made_by (fanned (width_before Dual k context) (rails_of k e)).reactions (amount (start (layout_with k context e) xs))) (amount (start (layout_with k context e) xs))
  copies_made i l =
      let in_range : (1 ≤ get_or (rails_of k e) i 0) × (get_or (rails_of k e) i 0 ≤ width_before Dual k context) = uses_input_rails k context (uses_of k e) (layout_uses k context e over) i l in
      fans_make (rails_of k e) (width_before Dual k context) 1 (width_before Dual k context) _ i l in_range.0 (omega arith) in_range.1
      ∙ ap (λ x. x +ℚ amount (start (layout_with k context e) xs) (get_or (rails_of k e) i 0)) (empty (suc (width_before Dual k context + i)) (omega arith)) ∙ zero-+ℚ _

-- the layout is a network that feeds forward
layout_with_is : (k : ℕ) (context : Bool) (e : Formula) → IsOver (columns_over k context) e → IsNetwork (layout_with k context e) × IsFeedForward (layout_with k context e)
layout_with_is k context e over =
    let l = laid k context e over (replicate (k + k) 0ℚ) (length-replicate (k + k) 0ℚ) in
    let net : Network = layout_with k context e in
    let bound : k + k ≤ width_before Dual k context = pairs_before k context in (
      record {
        reactions = are_reactions net l.each;
        inputs = subst (AreEnds Dual net.species) (sym (inputs_are 0 k)) (pairs_are 0 k net.species (omega (arith, l.plus)));
        different = subst (λ es. AreDifferent (input_species es)) (sym (inputs_are 0 k)) (pairs_different 0 k);
        output = (omega (arith, l.plus), omega (arith, l.plus), omega (arith, l.minus), omega (arith, l.minus), l.apart);
        context = subst (λ es. IsContext net.species es (context_of Dual k context)) (sym (inputs_are 0 k)) (context_is k context net.species (omega (arith, l.plus)));
      },
      feed_forward net l.feeds,
    )

-- with no more reactions than species
layout_with_few : (k : ℕ) (context : Bool) (e : Formula) → IsOver (columns_over k context) e → length (layout_with k context e).reactions ≤ (layout_with k context e).species
layout_with_few k context e over =
    let l = laid k context e over (replicate (k + k) 0ℚ) (length-replicate (k + k) 0ℚ) in
    few_reactions (layout_with k context e).species (layout_with k context e).reactions l.feeds l.each

-- from every start
layout_with_computes : (k : ℕ) (context : Bool) (e : Formula) → IsOver (columns_over k context) e → (xs : List ℚ) → AreAmounts (layout_with k context e) xs →
    StablyComputes (layout_with k context e) xs (formula_value e (point context (differences xs)))
layout_with_computes k context e over xs amounts =
    let long : length xs ≡ k + k = amounts.long ∙ ap (λ es. length (input_species es)) (inputs_are 0 k) ∙ length-pairs 0 k in
    let l = laid k context e over xs long in
    let net : Network = layout_with k context e in
    let not_plus : EachTaken (λ s. s ≢ (laid_out k context e).plus) net.reactions =
    l.takes (λ s. s ≢ (laid_out k context e).plus) (fans_taken (rails_of k e) (width_before Dual k context) _ 1 (width_before Dual k context) (λ s _ h. omega (arith, l.plus)))
    (λ s _ h. omega (arith, l.plus, length-rails k e)) (λ s _ _ h _. h) in
    let not_minus : EachTaken (λ s. s ≢ (laid_out k context e).minus) net.reactions =
    l.takes (λ s. s ≢ (laid_out k context e).minus) (fans_taken (rails_of k e) (width_before Dual k context) _ 1 (width_before Dual k context) (λ s _ h. omega (arith, l.minus)))
    (λ s _ h. omega (arith, l.minus, length-rails k e)) (λ s _ _ _ h. h) in
    subst (StablyComputes net xs) (l.value (copies_made k context e over xs long))
    (computes_made net
    (layout_with_is k context e over).0
    (layout_with_is k context e over).1
    (untaken net _ (not_taken _ _ not_plus), untaken net _ (not_taken _ _ not_minus))
    xs (start_not_negative net xs amounts.not_negative))

-- ---- which formulas have a context

-- the first leaf has as many columns as each
column_count-over : (n : ℕ) (e : Formula) → IsOver n e → column_count e ≡ n
column_count-over n (Lin form) o = o
column_count-over n (Add a b) o = column_count-over n a o.0
column_count-over n (Sub a b) o = column_count-over n a o.0
column_count-over n (Scale q a) o = column_count-over n a o
column_count-over n (Min a b) o = column_count-over n a o.0
column_count-over n (Max a b) o = column_count-over n a o.0

-- a column more
pub has_context-more : (k : ℕ) (e : Formula) → IsOver (k + 1) e → has_context k e ≡ true
has_context-more k e o = more k (column_count e) (column_count-over (k + 1) e o)
  where
    more : (k n : ℕ) → n ≡ k + 1 → nat_lt k n ≡ true
    more k n h = grind (arith, nat_tests)

-- or not
pub has_context-none : (k : ℕ) (e : Formula) → IsOver k e → has_context k e ≡ false
has_context-none k e o = none k (column_count e) (column_count-over k e o)
  where
    none : (k n : ℕ) → n ≡ k → nat_lt k n ≡ false
    none k n h = grind (arith, nat_tests)

-- over k variables, each form has a column more exactly where there is a context
pub over_columns : (k : ℕ) (e : Formula) → IsOverVariables k e → IsOver (columns_over k (has_context k e)) e
over_columns k e (inl o) = subst (λ c. IsOver (columns_over k c) e) (sym (has_context-none k e o)) o
over_columns k e (inr o) = subst (λ c. IsOver (columns_over k c) e) (sym (has_context-more k e o)) o

-- ---- the theorems

-- the layout is a network
pub layout_is_network : (k : ℕ) (e : Formula) → IsOverVariables k e → IsNetwork (layout k e)
layout_is_network k e o = (layout_with_is k (has_context k e) e (over_columns k e o)).0

-- it feeds forward
pub layout_feeds_forward : (k : ℕ) (e : Formula) → IsOverVariables k e → IsFeedForward (layout k e)
layout_feeds_forward k e o = (layout_with_is k (has_context k e) e (over_columns k e o)).1

-- it has no more reactions than species
pub layout_few_reactions : (k : ℕ) (e : Formula) → IsOverVariables k e → length (layout k e).reactions ≤ (layout k e).species
layout_few_reactions k e o = layout_with_few k (has_context k e) e (over_columns k e o)

-- and an input for each variable
pub layout_inputs : (k : ℕ) (e : Formula) → length (layout k e).inputs ≡ k
layout_inputs k e = length-inputs_after Dual 0 k

-- the amounts of a start encode a number for each variable
pub length-encoded : (k : ℕ) (e : Formula) (xs : List ℚ) → AreAmounts (layout k e) xs → length (differences xs) ≡ k
length-encoded k e xs amounts = length-differences k xs (amounts.long ∙ ap (λ es. length (input_species es)) (inputs_are 0 k) ∙ length-pairs 0 k)

-- it stably computes the formula's value
pub layout_computes : (k : ℕ) (e : Formula) → IsOverVariables k e → (xs : List ℚ) → AreAmounts (layout k e) xs → StablyComputes (layout k e) xs (value_over k e (differences xs))
layout_computes k e o xs amounts = layout_with_computes k (has_context k e) e (over_columns k e o) xs amounts

-- ---- the formulas of functions

-- a function's forms have a column more where it is affine
function_over : (k : ℕ) (e : Formula) (affine : Bool) → IsOver (cond affine (k + 1) k) e → IsOverVariables k e
function_over k e true o = inr o
function_over k e false o = inl o

function_context : (k : ℕ) (e : Formula) (affine : Bool) → IsOver (cond affine (k + 1) k) e → has_context k e ≡ affine
function_context k e true o = has_context-more k e o
function_context k e false o = has_context-none k e o

-- so a function's formula has a layout
pub fitting_over : (k : ℕ) (e : Formula) → IsFitting k (ByFormula e) → IsOverVariables k e
fitting_over k e fits = function_over k e (formula_has_constant k e) fits.forms

-- with a context where the function is affine
pub fitting_context : (k : ℕ) (e : Formula) → IsFitting k (ByFormula e) → has_context k e ≡ is_affine k (ByFormula e)
fitting_context k e fits = function_context k e (formula_has_constant k e) fits.forms

-- of the function's value
pub fitting_value : (k : ℕ) (e : Formula) (x : List ℚ) → IsFitting k (ByFormula e) → kind_value (ByFormula e) (point_of k (ByFormula e) x) ≡ Some (value_over k e x)
fitting_value k e x fits = ap (λ c. Some (formula_value e (point c x))) (sym (fitting_context k e fits))

-- a layout has two species for each variable
pub length-inputs : (k : ℕ) (e : Formula) → length (input_species (layout k e).inputs) ≡ k + k
length-inputs k e = ap (λ es. length (input_species es)) (inputs_are 0 k) ∙ length-pairs 0 k
