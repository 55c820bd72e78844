-- Rows with one column: at most four are kept, by sign and strength.
use Rattle.std.proofs.Common.{◌≡◌, ℕ, zero, suc, pred, ◌+◌, ◌<◌, ◌≤◌, Bool, true, false, cond, ◌&&◌, List, [], ◌∷◌, ◌++◌, length, get_or, refl, sym, ap, ap₂, ◌∙◌, arith}
use Rattle.std.proofs.lemmas.Bool.{and_parts, or_parts, both_ways}
use Rattle.std.specs.Prelude.{ℤ, pos, negsuc, neg_ℤ, int_lt, int_div, unsigned_abs, replicate}
use Rattle.std.specs.List.{fold, list_all, list_any, filter}
use Rattle.std.specs.Ordering.{int_eq}
use Rattle.std.specs.Cmp.Rules.{signed_items}
use Rattle.std.specs.Bool.{beq}
use Rattle.std.proofs.Math.Nat.{div_self, zero-mod, zero-div}
use Rattle.std.proofs.lemmas.Int.{ints}
use Rattle.crn_fraction.specs.Gcd.{gcd}
use Rattle.crn_feasible.specs.Elimination.{Kept, direction, same_direction, entry}
use Rattle.crn_linear.specs.Cleared.{common, over}
use Rattle.crn_fraction.proofs.Euclid.{gcd_step, gcd_end}
use Rattle.crn_feasible.proofs.Orders.{Each}
use Rattle.crn_feasible.proofs.Taking.{NonZero, Each-append, test_from_zeros}
use Rattle.crn_feasible.proofs.Points.{ZeroFrom, all_zero}

-- each row differs from those before it
abbrev pub Distinct : List Kept → Type 0
Distinct [] = Unit {0}
Distinct (k ∷ ks) = Each (λ q. same_direction q k ≡ false) ks × Distinct ks

pub Distinct-push : (rows : List Kept) (r : Kept) → list_any (same_direction r) rows ≡ false → Distinct rows → Distinct (rows ++ r ∷ [])
Distinct-push [] r h d = (tt, tt)
Distinct-push (k ∷ rows) r h d =
    let both = or_parts (same_direction r k) (list_any (same_direction r) rows) h in
    (Each-append (λ q. same_direction q k ≡ false) rows (r ∷ []) d.0 (both.0, tt), Distinct-push rows r both.1 d.1)

-- ---- the direction of a row with one column
gcd-zero : (n : ℕ) → gcd 0 n ≡ n
gcd-zero n = sym (gcd_step 0 n) ∙ ap (gcd n) (zero-mod n) ∙ gcd_end n

common_zeros : (g : ℕ) (r : List ℤ) → Each (λ x. x ≡ pos 0) r → fold (λ g x. gcd g (unsigned_abs x)) g r ≡ g
common_zeros g [] h = refl
common_zeros g (x ∷ r) h =
    ap (λ t. fold (λ g x. gcd g (unsigned_abs x)) t r) (ap (λ y. gcd g (unsigned_abs y)) h.0 ∙ gcd_end g) ∙ common_zeros g r h.1

over_zeros : (g : ℕ) (r : List ℤ) → Each (λ x. x ≡ pos 0) r → over g r ≡ replicate (length r) (pos 0)
over_zeros g [] h = refl
over_zeros g (x ∷ r) h = ap₂ (λ y ys. y ∷ ys) (ap (λ y. int_div y (pos g)) h.0 ∙ ap pos (zero-div g)) (over_zeros g r h.1)

unit_of : (x : ℤ) → (x ≡ pos 0 → ⊥) → int_div x (pos (unsigned_abs x)) ≡ cond (int_lt (pos 0) x) (pos 1) (negsuc 0)
unit_of (pos zero) h = absurd (h refl)
unit_of (pos (suc n)) h = ap pos (div_self (let p : 0 < suc n = omega arith in p)) ∙ (let e : true ≡ int_lt (pos 0) (pos (suc n)) = omega (arith, ints) in ap (λ b. cond b (pos 1) (negsuc 0)) e)
unit_of (negsuc n) h = ap (λ k. neg_ℤ (pos k)) (div_self (let p : 0 < suc n = omega arith in p)) ∙ (let e : false ≡ int_lt (pos 0) (negsuc n) = omega (arith, ints) in ap (λ b. cond b (pos 1) (negsuc 0)) e)

direction_one : (x : ℤ) (r : List ℤ) → (x ≡ pos 0 → ⊥) → Each (λ x. x ≡ pos 0) r → direction (x ∷ r) ≡ cond (int_lt (pos 0) x) (pos 1) (negsuc 0) ∷ replicate (length r) (pos 0)
unfolding direction
direction_one x r h z =
    let g : common (x ∷ r) ≡ unsigned_abs x = common_zeros (gcd 0 (unsigned_abs x)) r z ∙ gcd-zero (unsigned_abs x) in
    ap (λ t. over t (x ∷ r)) g ∙ ap₂ (λ y ys. y ∷ ys) (unit_of x h) (over_zeros (unsigned_abs x) r z)

direction_of_one : (r : List ℤ) → list_all (λ x. int_eq x (pos 0)) r ≡ false → ((i : ℕ) → 1 ≤ i → get_or r i (pos 0) ≡ pos 0)
    → direction r ≡ cond (int_lt (pos 0) (get_or r 0 (pos 0))) (pos 1) (negsuc 0) ∷ replicate (pred (length r)) (pos 0)
direction_of_one [] h z = absurd (both_ways true h refl)
direction_of_one (x ∷ r) h z =
    let rest : Each (λ x. x ≡ pos 0) r = all_zero r (λ i l. z (suc i) (omega arith)) in
    direction_one x r (λ e. both_ways _ h (test_from_zeros (x ∷ r) (e, rest))) rest

-- a row with one column, of length n
pub record IsSingle (n : ℕ) (k : Kept) : Type 0 where
  pub nonzero : NonZero k
  pub single : ZeroFrom 1 k
  pub long : length k.row.entries ≡ n

pub sign : Kept → Bool
sign k = int_lt (pos 0) (entry 0 k)

beq_same : (a b : Bool) → a ≡ b → beq a b ≡ true
beq_same true b h = ap (beq true) (sym h)
beq_same false b h = ap (beq false) (sym h)

same_class : (n : ℕ) (a b : Kept) → IsSingle n a → IsSingle n b → sign a ≡ sign b → a.row.strict ≡ b.row.strict → same_direction a b ≡ true
unfolding same_direction NonZero ZeroFrom sign
same_class n a b ha hb s t =
    let da = direction_of_one a.row.entries ha.nonzero ha.single in
    let db = direction_of_one b.row.entries hb.nonzero hb.single in
    let e : direction a.row.entries ≡ direction b.row.entries =
    da ∙ ap₂ (λ u m. cond u (pos 1) (negsuc 0) ∷ replicate (pred m) (pos 0)) s (ha.long ∙ sym hb.long) ∙ sym db in
    ap₂ (λ u v. u && v) ((signed_items (direction a.row.entries) (direction b.row.entries)).1 e) (beq_same a.row.strict b.row.strict t)

-- ---- at most one of each class
abbrev is_class : Bool → Bool → Kept → Bool
is_class s t k = beq s (sign k) && beq t k.row.strict

beq_back : (a b : Bool) → beq a b ≡ true → b ≡ a
beq_back true true h = refl
beq_back true false h = cc
beq_back false true h = cc
beq_back false false h = refl

class_is : (s t : Bool) (k : Kept) → is_class s t k ≡ true → (sign k ≡ s) × (k.row.strict ≡ t)
class_is s t k h =
    let both = and_parts (beq s (sign k)) (beq t k.row.strict) h in
    (beq_back s (sign k) both.0, beq_back t k.row.strict both.1)

none_left : (n : ℕ) (s t : Bool) (k : Kept) (ks : List Kept) → IsSingle n k → is_class s t k ≡ true → Each (IsSingle n) ks → Each (λ q. same_direction q k ≡ false) ks → length (filter (is_class s t) ks) ≡ 0
none_left n s t k [] hk c h d = refl
none_left n s t k (q ∷ ks) hk c h d = by_case (is_class s t q) (λ e. clash e) (none_left n s t k ks hk c h.1 d.1)
  where
    clash : is_class s t q ≡ true → ⊥
    clash e =
        let cq = class_is s t q e in
        let ck = class_is s t k c in
        both_ways (same_direction q k) d.0 (same_class n q k h.0 hk (cq.0 ∙ sym ck.0) (cq.1 ∙ sym ck.1))

    by_case : (b : Bool) → (b ≡ true → ⊥) → length (filter (is_class s t) ks) ≡ 0 → length (cond b (q ∷ filter (is_class s t) ks) (filter (is_class s t) ks)) ≡ 0
    by_case true f e = absurd (f refl)
    by_case false f e = e

one_each : (n : ℕ) (s t : Bool) (ks : List Kept) → Each (IsSingle n) ks → Distinct ks → length (filter (is_class s t) ks) ≤ 1
one_each n s t [] h d = omega arith
one_each n s t (k ∷ ks) h d = by_case (is_class s t k) (λ e. none_left n s t k ks h.0 e h.1 d.0) (one_each n s t ks h.1 d.1)
  where
    by_case : (b : Bool) → (b ≡ true → length (filter (is_class s t) ks) ≡ 0) → length (filter (is_class s t) ks) ≤ 1 → length (cond b (k ∷ filter (is_class s t) ks) (filter (is_class s t) ks)) ≤ 1
    by_case true f l = let z = f refl in omega (arith, z)
    by_case false f l = l

four_classes : (ks : List Kept) → length (filter (is_class true true) ks) + length (filter (is_class true false) ks) + length (filter (is_class false true) ks) + length (filter (is_class false false) ks) ≡ length ks
four_classes [] = refl
four_classes (k ∷ ks) =
    by_case (sign k) k.row.strict (filter (is_class true true) ks) (filter (is_class true false) ks) (filter (is_class false true) ks) (filter (is_class false false) ks) (length ks) (four_classes ks)
  where
    by_case : (s t : Bool) (a b c d : List Kept) (n : ℕ) → length a + length b + length c + length d ≡ n
        → length (cond (beq true s && beq true t) (k ∷ a) a) + length (cond (beq true s && beq false t) (k ∷ b) b) + length (cond (beq false s && beq true t) (k ∷ c) c) + length (cond (beq false s && beq false t) (k ∷ d) d) ≡ suc n
    by_case true true a b c d n h = omega (arith, h)
    by_case true false a b c d n h = omega (arith, h)
    by_case false true a b c d n h = omega (arith, h)
    by_case false false a b c d n h = omega (arith, h)

-- different rows with one column are at most four
pub at_most_four : (n : ℕ) (ks : List Kept) → Each (IsSingle n) ks → Distinct ks → length ks ≤ 4
at_most_four n ks h d =
    let a = one_each n true true ks h d in
    let b = one_each n true false ks h d in
    let c = one_each n false true ks h d in
    let e = one_each n false false ks h d in
    omega (arith, a, b, c, e, four_classes ks)
