-- Each point has amounts that encode it.
use Rattle.std.proofs.Common.{subst, ◌≡◌, ℕ, ◌*◌, List, [], ◌∷◌, length, refl, sym, ap, ap₂, ◌∙◌, arith}
use Rattle.crn_fraction.specs.Rational.{ℚ, 0ℚ, ◌-ℚ◌, max_ℚ}
use Rattle.crn_fraction.proofs.Linear.{max_ℚ-above_left, max_ℚ-above_right, difference_nonneg}
use Rattle.crn_fraction.proofs.Ring.{ring_ℚ, q-writes}
use Rattle.crn_formula.specs.Functions.{Kind, ByFormula, ByPieces, ByLeast}
use Rattle.crn_compile.specs.Networks as networks
use Rattle.crn_net.specs.Network.{Network, AreAmounts, AreNotNegative, differences, encoded}
use Rattle.crn_net.specs.declared.Rails.{Rails}
use Rattle.crn_net.specs.declared.Rails.TheVariants.{Dual, Direct}
use Rattle.crn_job.specs.Grammar.{amounts_of, rails_of}
use Rattle.crn_program.specs.Correct.{IsInput}
use Rattle.crn_program.proofs.Computing.{input_count}

-- a number as plus less minus: itself or 0, and what is left
pairs : List ℚ → List ℚ
pairs [] = []
pairs (q ∷ x) = max_ℚ q 0ℚ ∷ (max_ℚ q 0ℚ -ℚ q) ∷ pairs x

left_over : (p q : ℚ) → p -ℚ (p -ℚ q) ≡ q
left_over p q = ring_ℚ (p ∷ q ∷ []) (search q-writes depth 20) (search q-writes depth 20) refl

differences_are : (x : List ℚ) → differences (pairs x) ≡ x
unfolding pairs
differences_are [] = refl
differences_are (q ∷ x) = ap₂ (λ d y. d ∷ y) (left_over (max_ℚ q 0ℚ) q) (differences_are x)

not_negative : (x : List ℚ) → AreNotNegative (pairs x)
unfolding pairs
not_negative [] = tt
not_negative (q ∷ x) = (max_ℚ-above_right q 0ℚ, ((difference_nonneg q (max_ℚ q 0ℚ)).0 (max_ℚ-above_left q 0ℚ), not_negative x))

length-pairs : (x : List ℚ) → length (pairs x) ≡ length x * 2
unfolding pairs
length-pairs [] = refl
length-pairs (q ∷ x) = let rest = length-pairs x in omega (arith, rest)

rails_are : (k : ℕ) (kind : Kind) (net : Network) → networks.IsNetworkOf k kind net → net.rails ≡ rails_of kind
rails_are k (ByFormula e) net is = ap (λ (n : Network). n.rails) is
rails_are k (ByPieces pieces) net is = ap (λ (n : Network). n.rails) is.is_layout
rails_are k (ByLeast forms) net is = ap (λ (n : Network). n.rails) is

-- of these rails, by so many amounts
abbrev Encodes : Rails → ℕ → List ℚ → Type 0
Encodes rails k x = (xs : List ℚ) × (length xs ≡ k * amounts_of rails) × AreNotNegative xs × (encoded rails xs ≡ x)

encodes : (rails : Rails) (k : ℕ) (x : List ℚ) → IsInput rails k x → Encodes rails k x
encodes Dual k x long = (pairs x, length-pairs x ∙ ap (λ n. n * 2) long, not_negative x, differences_are x)
encodes Direct k x (long, low) = let once : k ≡ k * 1 = omega arith in (x, long ∙ once, low, refl)

pub starts_encode : (k : ℕ) (kind : Kind) (net : Network) → networks.IsNetworkOf k kind net → (x : List ℚ) → IsInput (rails_of kind) k x → (xs : List ℚ) × AreAmounts net xs × (encoded net.rails xs ≡ x)
starts_encode k kind net is x input =
    let (xs, long, low, encoding) = encodes net.rails k x (subst (λ r. IsInput r k x) (sym (rails_are k kind net is)) input) in
    (xs, record { long = long ∙ ap (λ r. k * amounts_of r) (rails_are k kind net is) ∙ sym (input_count k kind net is); not_negative = low }, encoding)
