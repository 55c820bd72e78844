-- What a leaf takes, term by term, and what its operands add up to.
use Rattle.std.proofs.Common.{◌≡◌, ℕ, zero, suc, Bool, ◌+◌, ◌<◌, ◌≤◌, if◌then◌else◌, true, false, IsTrue, List, [], ◌∷◌, ◌++◌, length, get_or, refl, sym, ◌∙◌, ap, ap₂, subst, ⊎_elim, arith, length-append}
use Rattle.std.proofs.lemmas.Bool.{false≢true, le-ltb, lt-ltb}
use Rattle.crn_fraction.specs.Rational.{ℚ, ◌+ℚ◌, ◌-ℚ◌, ◌*ℚ◌}
use Rattle.crn_linear.specs.Forms.{at}
use Rattle.crn_net.specs.declared.Rails.TheVariants.{Dual}
use Rattle.crn_gates.specs.declared.Use.{Use}
use Rattle.crn_gates.specs.declared.Use.TheVariants.{Variable, Context}
use Rattle.crn_gates.proofs.FanLaws.{InputRails, get_or-front, get_or-back}
use Rattle.crn_gates.proofs.Transfers.{terms_shift}
use Rattle.crn_gates.specs.Gates.{IsOperand, AreOperands, width_of, times, terms_at}
use Rattle.crn_gates.specs.Terms.{Term, AreTermsOver, form_value, value_of_terms}
use Rattle.crn_gates.specs.Pairs.{plus_of, minus_of, rails_of_uses, AreUses}
use Rattle.crn_gates.specs.Drafts.{width_before}
use Rattle.crn_dual.specs.Layout.{use_of, operand_for, uses_of_terms, operands_of}

-- ---- the two sorts of columns

-- what holds of a variable's use, and of the context's, holds of a term's
pub by_column : (k : ℕ) (t : Term) (P : Use → Type 0) → (t.variable < k → P (Variable (suc t.variable))) → (k ≤ t.variable → P Context) → P (use_of k t)
by_column k t P f g =
    ⊎_elim (λ (l : t.variable < k). subst (λ b. P (if b then Variable (suc t.variable) else Context)) (sym (lt-ltb t.variable k l)) (f l))
    (λ (l : k ≤ t.variable). subst (λ b. P (if b then Variable (suc t.variable) else Context)) (sym (le-ltb t.variable k l)) (g l)) (grind arith)

-- ---- along the terms

-- there are as many rails as the operands have
pub length-rails_of_terms : (k : ℕ) (ts : List Term) → length (rails_of_uses k (uses_of_terms k ts)) ≡ width_of (operands_of k ts)
length-rails_of_terms k [] = refl
length-rails_of_terms k (t ∷ ts) =
    by_column k t (λ u. length (rails_of_uses k (u ∷ uses_of_terms k ts)) ≡ width_of (operand_for u t.factor ∷ operands_of k ts))
    (λ l. ap (λ n. suc (suc n)) (length-rails_of_terms k ts)) (λ l. ap suc (length-rails_of_terms k ts))

-- the operands of terms
pub are_operands : (k n : ℕ) (ts : List Term) → AreTermsOver n ts → AreOperands (operands_of k ts)
are_operands k n [] o = tt
are_operands k n (t ∷ ts) o = (by_column k t (λ u. IsOperand (operand_for u t.factor)) (λ l. o.1) (λ l. o.1), are_operands k n ts o.2)

-- the uses of terms are of variables and, where there are more columns, of the context
pub terms_are_uses : (k n : ℕ) (context : Bool) (ts : List Term) → AreTermsOver n ts → (k < n → IsTrue context) → AreUses k context (uses_of_terms k ts)
terms_are_uses k n context [] o has = tt
terms_are_uses k n context (t ∷ ts) o has =
    by_column k t (λ u. AreUses k context (u ∷ uses_of_terms k ts)) (λ l. (omega arith, omega arith, terms_are_uses k n context ts o.2 has))
    (λ l. (has (omega (arith, o.0)), terms_are_uses k n context ts o.2 has))

-- uses one after another
pub AreUses-append : (k : ℕ) (context : Bool) (us vs : List Use) → AreUses k context us → AreUses k context vs → AreUses k context (us ++ vs)
AreUses-append k context [] vs h h' = h'
AreUses-append k context (Variable v ∷ us) vs h h' = (h.0, h.1, AreUses-append k context us vs h.2 h')
AreUses-append k context (Context ∷ us) vs h h' = (h.0, AreUses-append k context us vs h.1 h')

pub rails_of_uses-append : (k : ℕ) (us vs : List Use) → rails_of_uses k (us ++ vs) ≡ rails_of_uses k us ++ rails_of_uses k vs
rails_of_uses-append k [] vs = refl
rails_of_uses-append k (Variable v ∷ us) vs = ap (λ rs. plus_of v ∷ minus_of v ∷ rs) (rails_of_uses-append k us vs)
rails_of_uses-append k (Context ∷ us) vs = ap (λ rs. suc (k + k) ∷ rs) (rails_of_uses-append k us vs)

-- their rails are among the first species
pub uses_input_rails : (k : ℕ) (context : Bool) (us : List Use) → AreUses k context us → InputRails (width_before Dual k context) (rails_of_uses k us)
uses_input_rails k context [] h i l = absurd (omega arith)
uses_input_rails k context (Variable zero ∷ us) h i l = absurd (omega (arith, h.0))
uses_input_rails k true (Variable (suc v) ∷ us) h zero l = (omega arith, omega (arith, h.1))
uses_input_rails k false (Variable (suc v) ∷ us) h zero l = (omega arith, omega (arith, h.1))
uses_input_rails k true (Variable (suc v) ∷ us) h (suc zero) l = (omega arith, omega (arith, h.1))
uses_input_rails k false (Variable (suc v) ∷ us) h (suc zero) l = (omega arith, omega (arith, h.1))
uses_input_rails k context (Variable (suc v) ∷ us) h (suc (suc i)) l = uses_input_rails k context us h.2 i (omega arith)
uses_input_rails k true (Context ∷ us) h zero l = (omega arith, omega arith)
uses_input_rails k false (Context ∷ us) h zero l = absurd (false≢true h.0)
uses_input_rails k context (Context ∷ us) h (suc i) l = uses_input_rails k context us h.1 i (omega arith)

-- ---- values

-- the first species hold the columns: of each variable its pair, and of the constants the context
pub record HoldColumns (k n : ℕ) (m x : ℕ → ℚ) : Type 0 where
  pub few : n ≤ k + 1
  pub variables : (v : ℕ) → v < k → m (suc (v + v)) -ℚ m (suc (suc (v + v))) ≡ x v
  pub constant : k < n → m (suc (k + k)) ≡ x k

-- amounts that are those of the rails give the value of the terms
pub operands_value : (k n : ℕ) (ts : List Term) → AreTermsOver n ts → (m x : ℕ → ℚ) → HoldColumns k n m x → (c : ℕ → ℚ) →
    ((i : ℕ) → i < length (rails_of_uses k (uses_of_terms k ts)) → c i ≡ m (get_or (rails_of_uses k (uses_of_terms k ts)) i 0)) → terms_at 0 (operands_of k ts) c ≡ value_of_terms ts x
operands_value k n [] o m x held c h = refl
operands_value k n (t ∷ ts) o m x held c h =
    by_column k t
    (λ u. ((i : ℕ) → i < length (rails_of_uses k (u ∷ uses_of_terms k ts)) → c i ≡ m (get_or (rails_of_uses k (u ∷ uses_of_terms k ts)) i 0)) →
    terms_at 0 (operand_for u t.factor ∷ operands_of k ts) c ≡ value_of_terms (t ∷ ts) x)
    (λ l g. ap₂ (λ u v. u +ℚ v) (ap (times t.factor) (ap₂ (λ u v. u -ℚ v) (g 0 (omega arith)) (g 1 (omega arith)) ∙ held.variables t.variable l))
    (terms_shift (operands_of k ts) 1 c ∙ terms_shift (operands_of k ts) 0 (λ j. c (suc j)) ∙ operands_value k n ts o.2 m x held (λ j. c (suc (suc j))) (λ i b. g (suc (suc i)) (omega arith))))
    (λ l g. ap₂ (λ u v. u +ℚ v) (ap (times t.factor) (g 0 (omega arith) ∙ held.constant (omega (arith, o.0)) ∙ ap x (last t.variable l o.0)))
    (terms_shift (operands_of k ts) 0 c ∙ operands_value k n ts o.2 m x held (λ j. c (suc j)) (λ i b. g (suc i) (omega arith))))
    h
  where
    last : (v : ℕ) → k ≤ v → v < n → k ≡ v
    last v l b = omega (arith, held.few)

-- the two ways to say the value of a form
pub form_value-at : (form x : List ℚ) → form_value form x ≡ at form x
form_value-at [] x = refl
form_value-at (q ∷ form) [] = refl
form_value-at (q ∷ form) (t ∷ x) = ap (λ v. q *ℚ t +ℚ v) (form_value-at form x)

-- ---- copies in a network

-- the species after n hold what the rails do
abbrev pub AreCopied : List ℕ → ℕ → (ℕ → ℚ) → (ℕ → ℚ) → Type 0
AreCopied rs n m rails = (i : ℕ) → i < length rs → m (suc (n + i)) ≡ rails (get_or rs i 0)

-- of two lists one after the other, the first
pub copied_front : (rs qs : List ℕ) (n : ℕ) (m rails : ℕ → ℚ) → AreCopied (rs ++ qs) n m rails → AreCopied rs n m rails
copied_front rs qs n m rails h i l = h i (omega (arith, length-append rs qs)) ∙ ap rails (get_or-front rs qs i l)

-- and the second
pub copied_back : (rs qs : List ℕ) (w n : ℕ) (m rails : ℕ → ℚ) → length rs ≡ w → AreCopied (rs ++ qs) n m rails → AreCopied qs (n + w) m rails
copied_back rs qs w n m rails e h i l =
    let move : suc (n + w + i) ≡ suc (n + (length rs + i)) = omega arith in
    ap m move ∙ h (length rs + i) (omega (arith, length-append rs qs)) ∙ ap rails (get_or-back rs qs i)
