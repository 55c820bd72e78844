-- What a stamped table makes, and that it feeds forward.
use Rattle.std.proofs.lemmas.Int.{ints, clamps}
use Rattle.std.proofs.Common.{◌≡◌, ◌≢◌, ℕ, zero, suc, ◌+◌, ◌≤◌, ◌==◌, if◌then◌else◌, List, [], ◌∷◌, ◌++◌, refl, sym, ◌∙◌, ap, ap₂, ⊎_elim, arith, zero-add, add-zero, add_assoc}
use mathlib.Core.Path.{fun_ext}
use Rattle.std.proofs.lemmas.Bool.Decides.{nat_tests}
use Rattle.std.specs.Prelude.{pos}
use Rattle.crn_fraction.proofs.Order.{linear}
use Rattle.crn_fraction.proofs.Products.{/ℚ-one, sub_ℚ-/ℚ}
use Rattle.crn_fraction.proofs.Ratios.{by_common_4}
use Rattle.crn_fraction.proofs.Ring.{+ℚ-zero, one-*ℚ, zero-*ℚ, +ℚ--ℚ-+ℚ, *ℚ--ℚ, sub_ℚ_flip, zero-+ℚ, ring_ℚ, q-writes}
use Rattle.crn_fraction.specs.Rational.{ℚ, 0ℚ, ◌+ℚ◌, ◌-ℚ◌, ◌*ℚ◌, whole, ◌/ℚ◌, min_ℚ, max_ℚ}
use Rattle.crn_gates.specs.Gates.{slot_species, renamed_parts, renamed, part, reaction, min_table, add_table, sub_table, max_table, Factor, Zero, Up, Down, transfer, transfer_single, times}
use Rattle.crn_net.specs.Network.{Part, Reaction, count_of, greatest, IsApart, AreDifferent}
use Rattle.crn_net.specs.Reactions.{taken_all, given_all, Each, EachTaken, IsLeftAlone, FeedsForward, AreAtMost}
use Rattle.crn_net.specs.Totals.{made_by}
use Rattle.crn_net.proofs.Shape.{if_same, if_other}

-- different numbers have different images
abbrev pub IsInjective : (ℕ → ℕ) → Type 0
IsInjective f = (i j : ℕ) → f i ≡ f j → i ≡ j

-- the test of equality is the same at the images
same_test : (f : ℕ → ℕ) → IsInjective f → (i j : ℕ) → (f i == f j) ≡ (i == j)
same_test f inj i j =
    ⊎_elim (λ (e : i ≡ j). let k : f i ≡ f j = ap f e in yes_yes i j (f i) (f j) e k)
    (λ (h : i ≢ j). no_no i j (f i) (f j) h (λ e. h (inj i j e))) (grind arith)
  where
    yes_yes : (i j x y : ℕ) → i ≡ j → x ≡ y → (x == y) ≡ (i == j)
    yes_yes i j x y h k = grind (arith, nat_tests)

    no_no : (i j x y : ℕ) → i ≢ j → x ≢ y → (x == y) ≡ (i == j)
    no_no i j x y h k = grind (arith, nat_tests)

-- renaming keeps the counts of a side
pub count_of-renamed : (f : ℕ → ℕ) → IsInjective f → (ps : List Part) (i : ℕ) → count_of (renamed_parts f ps) (f i) ≡ count_of ps i
count_of-renamed f inj [] i = refl
count_of-renamed f inj (p ∷ ps) i = ap₂ (λ b n. (if b then p.count else 0) + n) (same_test f inj p.species i) (count_of-renamed f inj ps i)

-- and the least quotient of amount and count
pub greatest-renamed : (f : ℕ → ℕ) (ps : List Part) (m : ℕ → ℚ) → greatest (renamed_parts f ps) m ≡ greatest ps (λ i. m (f i))
greatest-renamed f [] m = refl
greatest-renamed f (p ∷ []) m = refl
greatest-renamed f (p ∷ q ∷ ps) m = ap (min_ℚ (((m (f p.species)) /ℚ whole (pos p.count)))) (greatest-renamed f (q ∷ ps) m)

-- a stamped table makes what the table makes of its slots
pub made_by-renamed : (f : ℕ → ℕ) → IsInjective f → (rs : List Reaction) (m : ℕ → ℚ) → (λ i. made_by (renamed f rs) m (f i)) ≡ made_by rs (λ i. m (f i))
made_by-renamed f inj [] m = refl
made_by-renamed f inj (r ∷ rs) m =
    made_by-renamed f inj rs _
    ∙ ap (made_by rs) (fun_ext (λ i. ap₂ (λ n u. m (f i) +ℚ whole (pos n) *ℚ u) (count_of-renamed f inj r.gives i) (greatest-renamed f r.takes m)))

-- what a table makes computes by these, where its new slots hold 0
pub ruleset made_rules = (zero-*ℚ, one-*ℚ, /ℚ-one, +ℚ-zero, zero-+ℚ)

-- the law of the minimum, by plus and minus
least_of_sums : (a b c g : ℚ) → min_ℚ (a +ℚ g) (c +ℚ b) -ℚ (g +ℚ b) ≡ min_ℚ (a -ℚ b) (c -ℚ g)
least_of_sums = by_common_4 (λ a b c g. min_ℚ (a +ℚ g) (c +ℚ b) -ℚ (g +ℚ b) ≡ min_ℚ (a -ℚ b) (c -ℚ g)) (λ d p x y z v. simp linear (omega (arith, ints, clamps)))

-- the law of the maximum
most_of_sums : (a b c g : ℚ) → (c +ℚ a) -ℚ min_ℚ (b +ℚ c) (g +ℚ a) ≡ max_ℚ (a -ℚ b) (c -ℚ g)
most_of_sums = by_common_4 (λ a b c g. (c +ℚ a) -ℚ min_ℚ (b +ℚ c) (g +ℚ a) ≡ max_ℚ (a -ℚ b) (c -ℚ g)) (λ d p x y z v. simp linear (omega (arith, ints, clamps)))

-- the law of the difference
difference_of_sums : (a b c g : ℚ) → (a +ℚ g) -ℚ (b +ℚ c) ≡ (a -ℚ b) -ℚ (c -ℚ g)
difference_of_sums a b c g = ring_ℚ (a ∷ b ∷ c ∷ g ∷ []) (search q-writes depth 20) (search q-writes depth 20) refl

-- min, at its slots
pub min_makes : (m : ℕ → ℚ) → m 4 ≡ 0ℚ → m 5 ≡ 0ℚ → m 6 ≡ 0ℚ → m 7 ≡ 0ℚ →
    (made_by min_table m 6 ≡ min_ℚ (m 0 +ℚ m 3) (m 2 +ℚ m 1)) × (made_by min_table m 7 ≡ m 3 +ℚ m 1)
min_makes m p q y z = (simp (made_rules, p, q, y), simp (made_rules, p, q, z))

-- the value that the table of the minimum makes
pub min_law : (m : ℕ → ℚ) → m 4 ≡ 0ℚ → m 5 ≡ 0ℚ → m 6 ≡ 0ℚ → m 7 ≡ 0ℚ →
    made_by min_table m 6 -ℚ made_by min_table m 7 ≡ min_ℚ (m 0 -ℚ m 1) (m 2 -ℚ m 3)
min_law m p q y z =
    let (plus, minus) = min_makes m p q y z in
    ap₂ (λ x w. x -ℚ w) plus minus ∙ least_of_sums _ _ _ _

-- add, at its slots
pub add_makes : (m : ℕ → ℚ) → m 4 ≡ 0ℚ → m 5 ≡ 0ℚ → (made_by add_table m 4 ≡ m 0 +ℚ m 2) × (made_by add_table m 5 ≡ m 1 +ℚ m 3)
add_makes m p q = (simp (made_rules, p), simp (made_rules, q))

-- ---- slots

-- a species apart from the operands is no slot's
pub slot_apart : (xs : List ℕ) (n x i : ℕ) → IsApart x xs → x ≤ n → x ≢ slot_species xs n i
slot_apart [] n x i h k = λ e. absurd (omega arith)
slot_apart (y ∷ ys) n x zero h k = h.0
slot_apart (y ∷ ys) n x (suc i) h k = slot_apart ys n x i h.1 k

-- different slots have different species
pub slots_injective : (xs : List ℕ) (n : ℕ) → AreDifferent xs → AreAtMost n xs → IsInjective (slot_species xs n)
slots_injective [] n h k i j e = omega arith
slots_injective (x ∷ xs) n h k zero zero e = refl
slots_injective (x ∷ xs) n h k zero (suc j) e = absurd (slot_apart xs n x j h.0 k.0 e)
slots_injective (x ∷ xs) n h k (suc i) zero e = absurd (slot_apart xs n x i h.0 k.0 (sym e))
slots_injective (x ∷ xs) n h k (suc i) (suc j) e = ap suc (slots_injective xs n h.1 k.1 i j e)

-- renaming keeps how often a species is taken
pub taken_all-renamed : (f : ℕ → ℕ) → IsInjective f → (rs : List Reaction) (i : ℕ) → taken_all (renamed f rs) (f i) ≡ taken_all rs i
taken_all-renamed f inj [] i = refl
taken_all-renamed f inj (r ∷ rs) i = ap₂ (λ x y. x + y) (count_of-renamed f inj r.takes i) (taken_all-renamed f inj rs i)

-- and how often it is given
pub given_all-renamed : (f : ℕ → ℕ) → IsInjective f → (rs : List Reaction) (i : ℕ) → given_all (renamed f rs) (f i) ≡ given_all rs i
given_all-renamed f inj [] i = refl
given_all-renamed f inj (r ∷ rs) i = ap₂ (λ x y. x + y) (count_of-renamed f inj r.gives i) (given_all-renamed f inj rs i)

-- a fact of each slot gives one of each species
pub Each-map : (P Q : ℕ → Type 0) (f : ℕ → ℕ) → ((i : ℕ) → P i → Q (f i)) → (ps : List Part) → Each P ps → Each Q (renamed_parts f ps)
Each-map P Q f h [] k = tt
Each-map P Q f h (p ∷ ps) k = (h p.species k.0, Each-map P Q f h ps k.1)

-- two facts of each part give a third
pub Each-both : (P Q R : ℕ → Type 0) → ((i : ℕ) → P i → Q i → R i) → (ps : List Part) → Each P ps → Each Q ps → Each R ps
Each-both P Q R h [] k l = tt
Each-both P Q R h (p ∷ ps) k l = (h p.species k.0 l.0, Each-both P Q R h ps k.1 l.1)

-- a stamped table feeds forward as the table does
pub FeedsForward-renamed : (f : ℕ → ℕ) → IsInjective f → (rs : List Reaction) → FeedsForward rs → FeedsForward (renamed f rs)
FeedsForward-renamed f inj [] h = tt
FeedsForward-renamed f inj (r ∷ rs) h = (
  Each-map _ _ f (λ i e. count_of-renamed f inj r.gives i ∙ e) r.takes h.0,
  Each-map _ _ f (λ i e. (taken_all-renamed f inj rs i ∙ e.0, given_all-renamed f inj rs i ∙ e.1)) r.takes h.1,
  FeedsForward-renamed f inj rs h.2,
)

-- how often a species is taken by reactions one after another
pub taken_all-append : (rs qs : List Reaction) (s : ℕ) → taken_all (rs ++ qs) s ≡ taken_all rs s + taken_all qs s
taken_all-append [] qs s = sym (zero-add _)
taken_all-append (r ∷ rs) qs s = ap (λ x. count_of r.takes s + x) (taken_all-append rs qs s) ∙ sym (add_assoc _ _ _)

-- and how often it is given
pub given_all-append : (rs qs : List Reaction) (s : ℕ) → given_all (rs ++ qs) s ≡ given_all rs s + given_all qs s
given_all-append [] qs s = sym (zero-add _)
given_all-append (r ∷ rs) qs s = ap (λ x. count_of r.gives s + x) (given_all-append rs qs s) ∙ sym (add_assoc _ _ _)

-- more reactions that leave alone what the earlier ones take
pub FeedsForward-append : (rs qs : List Reaction) → FeedsForward rs → FeedsForward qs → EachTaken (IsLeftAlone qs) rs → FeedsForward (rs ++ qs)
FeedsForward-append [] qs h k l = k
FeedsForward-append (r ∷ rs) qs h k l = (
  h.0,
  Each-both (IsLeftAlone rs) (IsLeftAlone qs) (IsLeftAlone (rs ++ qs)) (λ s x y. (taken_all-append rs qs s ∙ ap₂ (λ u v. u + v) x.0 y.0, given_all-append rs qs s ∙ ap₂ (λ u v. u + v) x.1 y.1)) r.takes h.1 l.0,
  FeedsForward-append rs qs h.2 k l.1,
)

-- ---- sub, max and scale

-- the value that the table of the difference makes
pub sub_law : (m : ℕ → ℚ) → m 4 ≡ 0ℚ → m 5 ≡ 0ℚ → made_by sub_table m 4 -ℚ made_by sub_table m 5 ≡ (m 0 -ℚ m 1) -ℚ (m 2 -ℚ m 3)
sub_law m p q =
    let plus : made_by sub_table m 4 ≡ m 0 +ℚ m 3 = simp (made_rules, p) in
    let minus : made_by sub_table m 5 ≡ m 1 +ℚ m 2 = simp (made_rules, q) in
    ap₂ (λ x w. x -ℚ w) plus minus ∙ difference_of_sums _ _ _ _

-- the value that the table of the maximum makes
pub max_law : (m : ℕ → ℚ) → m 4 ≡ 0ℚ → m 5 ≡ 0ℚ → m 6 ≡ 0ℚ → m 7 ≡ 0ℚ →
    made_by max_table m 6 -ℚ made_by max_table m 7 ≡ max_ℚ (m 0 -ℚ m 1) (m 2 -ℚ m 3)
max_law m p q y z =
    let plus : made_by max_table m 6 ≡ m 2 +ℚ m 0 = simp (made_rules, p, q, y) in
    let minus : made_by max_table m 7 ≡ min_ℚ (m 1 +ℚ m 2) (m 3 +ℚ m 0) = simp (made_rules, p, q, z) in
    ap₂ (λ x w. x -ℚ w) plus minus ∙ most_of_sums _ _ _ _

-- one reaction from a into y
pub moved_there : (m : ℕ → ℚ) (p q a y : ℕ) → made_by (reaction (part q a ∷ []) (part p y ∷ []) ∷ []) m y ≡ m y +ℚ whole (pos p) *ℚ ((m a) /ℚ whole (pos q))
moved_there m p q a y = ap (λ k. m y +ℚ whole (pos k) *ℚ ((m a) /ℚ whole (pos q))) (ap (λ k. k + 0) (if_same y y p refl) ∙ add-zero p)

-- another species than y keeps what it has
pub moved_else : (m : ℕ → ℚ) (p q a y s : ℕ) → y ≢ s → made_by (reaction (part q a ∷ []) (part p y ∷ []) ∷ []) m s ≡ m s
moved_else m p q a y s h =
    ap (λ k. m s +ℚ whole (pos k) *ℚ ((m a) /ℚ whole (pos q))) (ap (λ k. k + 0) (if_other y s p h) ∙ add-zero 0) ∙ ap (λ x. m s +ℚ x) (zero-*ℚ _) ∙ +ℚ-zero _

-- what is neither y nor y' stays
pub transfer_else : (f : Factor) (a a' y y' : ℕ) (m : ℕ → ℚ) (s : ℕ) → y ≢ s → y' ≢ s → made_by (transfer f a a' y y') m s ≡ m s
transfer_else Zero a a' y y' m s h h' = refl
transfer_else (Up p q) a a' y y' m s h h' = moved_else (made_by (reaction (part q a ∷ []) (part p y ∷ []) ∷ []) m) p q a' y' s h' ∙ moved_else m p q a y s h
transfer_else (Down p q) a a' y y' m s h h' = moved_else (made_by (reaction (part q a ∷ []) (part p y' ∷ []) ∷ []) m) p q a' y s h ∙ moved_else m p q a y' s h'

-- a factor times a difference is the difference of its products
times_sub : (p q : ℕ) (x x' : ℚ) → whole (pos p) *ℚ (x /ℚ whole (pos q)) -ℚ whole (pos p) *ℚ (x' /ℚ whole (pos q)) ≡ whole (pos p) *ℚ ((x -ℚ x') /ℚ whole (pos q))
times_sub p q x x' = sym (*ℚ--ℚ _ _ _) ∙ ap (λ z. whole (pos p) *ℚ z) (sym (sub_ℚ-/ℚ x x' (whole (pos q))))

-- the value of y, y' grows by the factor of the value of a, a'
pub transfer_makes : (f : Factor) (a a' y y' : ℕ) (m : ℕ → ℚ) → y ≢ y' → y ≢ a' → y' ≢ a' →
    made_by (transfer f a a' y y') m y -ℚ made_by (transfer f a a' y y') m y' ≡ (m y -ℚ m y') +ℚ times f (m a -ℚ m a')
transfer_makes Zero a a' y y' m h k k' = sym (+ℚ-zero _)
transfer_makes (Up p q) a a' y y' m h k k' =
    let m' : ℕ → ℚ = made_by (reaction (part q a ∷ []) (part p y ∷ []) ∷ []) m in
    ap₂ (λ u v. u -ℚ v) (moved_else m' p q a' y' y (λ e. h (sym e)) ∙ moved_there m p q a y)
    (moved_there m' p q a' y' ∙ ap₂ (λ u v. u +ℚ whole (pos p) *ℚ (v /ℚ whole (pos q))) (moved_else m p q a y y' h) (moved_else m p q a y a' k))
    ∙ +ℚ--ℚ-+ℚ _ _ _ _ ∙ ap (λ x. (m y -ℚ m y') +ℚ x) (times_sub p q (m a) (m a'))
transfer_makes (Down p q) a a' y y' m h k k' =
    let m' : ℕ → ℚ = made_by (reaction (part q a ∷ []) (part p y' ∷ []) ∷ []) m in
    ap₂ (λ u v. u -ℚ v) (moved_there m' p q a' y ∙ ap₂ (λ u v. u +ℚ whole (pos p) *ℚ (v /ℚ whole (pos q))) (moved_else m p q a y' y (λ e. h (sym e))) (moved_else m p q a y' a' k'))
    (moved_else m' p q a' y y' h ∙ moved_there m p q a y')
    ∙ +ℚ--ℚ-+ℚ _ _ _ _ ∙ ap (λ x. (m y -ℚ m y') +ℚ x) (sub_ℚ_flip _ _ ∙ ap (λ x. 0ℚ -ℚ x) (times_sub p q (m a) (m a')))

-- ---- one rail into a pair

-- more on the plus side
more_plus : (a b t : ℚ) → (a +ℚ t) -ℚ b ≡ (a -ℚ b) +ℚ t
more_plus a b t = ring_ℚ (a ∷ b ∷ t ∷ []) (search q-writes depth 20) (search q-writes depth 20) refl

-- more on the minus side
more_minus : (a b t : ℚ) → a -ℚ (b +ℚ t) ≡ (a -ℚ b) +ℚ (0ℚ -ℚ t)
more_minus a b t = ring_ℚ (a ∷ b ∷ t ∷ []) (search q-writes depth 20) (search q-writes depth 20) refl

-- what is neither y nor y' stays
pub single_else : (f : Factor) (a y y' : ℕ) (m : ℕ → ℚ) (s : ℕ) → y ≢ s → y' ≢ s → made_by (transfer_single f a y y') m s ≡ m s
single_else Zero a y y' m s h h' = refl
single_else (Up p q) a y y' m s h h' = moved_else m p q a y s h
single_else (Down p q) a y y' m s h h' = moved_else m p q a y' s h'

-- the value of y, y' grows by the factor of what is there of a
pub single_makes : (f : Factor) (a y y' : ℕ) (m : ℕ → ℚ) → y ≢ y' → made_by (transfer_single f a y y') m y -ℚ made_by (transfer_single f a y y') m y' ≡ (m y -ℚ m y') +ℚ times f (m a)
single_makes Zero a y y' m h = sym (+ℚ-zero _)
single_makes (Up p q) a y y' m h = ap₂ (λ u v. u -ℚ v) (moved_there m p q a y) (moved_else m p q a y y' h) ∙ more_plus _ _ _
single_makes (Down p q) a y y' m h = ap₂ (λ u v. u -ℚ v) (moved_else m p q a y' y (λ e. h (sym e))) (moved_there m p q a y') ∙ more_minus _ _ _
