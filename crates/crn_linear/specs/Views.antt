-- How forms, rows and points are kept: nine places, with 0 past the last column.
use Rattle.std.specs.Prelude.{◌≡◌, ℕ, ◌-◌, ◌≤◌, ℤ, pos, List, ◌++◌, length, take, drop, replicate}
use Rattle.std.specs.Coded.{Coded, coded_list}
use Rattle.std.proofs.Common.{sym, ap, ◌∙◌, arith}
use Rattle.std.proofs.lemmas.List.{take-append-drop, length-take-le}
use Rattle.crn_fraction.specs.Rational.{ℚ}
use Rattle.crn_fraction.specs.Frac.{coded_ℚ}
use Rattle.crn_linear.specs.Rows.{AreSmall}

-- a form is stored as the list of its coefficients
abbrev pub coded_form : Coded (List ℚ)
coded_form = coded_list coded_ℚ

-- 1 to 9 columns
pub record HasColumns {X : Type 0} (xs : List X) : Type 0 where
  pub some : 1 ≤ length xs
  pub few : length xs ≤ 9

-- nine places, and the same in each past the first `len`
pub record IsPadded {X : Type 0} (zero_of : X) (len : ℕ) (places : List X) : Type 0 where
  pub some : 1 ≤ len
  pub few : len ≤ 9
  pub nine : length places ≡ 9
  pub rest : drop len places ≡ replicate (9 - len) zero_of

-- a list with more of the same, up to nine places
abbrev pub padded : {X : Type 0} → X → List X → List X
padded zero_of xs = xs ++ replicate (9 - length xs) zero_of

-- nine places of small numbers, with 0 past the first `len`
pub record IsSmallPadded (len : ℕ) (places : List ℤ) : Type 0 where
  pub padded : IsPadded (pos 0) len places
  pub small : AreSmall (take len places)

-- the list that is seen gives the places back
pub padded_back : {X : Type 0} (zero_of : X) (len : ℕ) (places : List X) → IsPadded zero_of len places
    → (take len places ++ replicate (9 - length (take len places)) zero_of ≡ places) × (length (take len places) ≡ len)
padded_back zero_of len places kept =
    let long : length (take len places) ≡ len = length-take-le len places (omega (arith, kept.few, kept.nine)) in
    let rest : replicate (9 - length (take len places)) zero_of ≡ drop len places = ap (λ n. replicate (9 - n) zero_of) long ∙ sym kept.rest in
    (ap (λ xs. take len places ++ xs) rest ∙ take-append-drop len places, long)

-- and so of small numbers
pub small_padded_back : (len : ℕ) (places : List ℤ) → IsSmallPadded len places
    → (take len places ++ replicate (9 - length (take len places)) (pos 0) ≡ places) × (length (take len places) ≡ len)
small_padded_back len places kept = padded_back (pos 0) len places kept.padded
