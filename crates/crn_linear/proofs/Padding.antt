-- Nine places that are filled one after another.
use Rattle.std.proofs.Common.{◌≡◌, ℕ, zero, suc, ◌+◌, ◌-◌, ◌<◌, ◌≤◌, List, [], ◌∷◌, ◌++◌, length, get_or, take, drop, set, sym, ap, ap₂, ◌∙◌, subst, arith, add-one, append_assoc}
use Rattle.std.specs.Prelude.{replicate, ℤ, pos}
use Rattle.std.proofs.lemmas.List.{length-take-le, set-append_right, length-append, length-replicate, take_all}
use Rattle.std.proofs.Math.Seq.{take-suc, take-append_seam, drop-append_seam}
use Rattle.crn_linear.specs.Rows.{AreSmall}
use Rattle.crn_linear.specs.Views.{HasColumns, IsPadded, IsSmallPadded, padded}

module _ {X : Type 0} (z : X) where
  first_of_rest : (n : ℕ) (x : X) → 0 < n → set (replicate n z) 0 x ≡ x ∷ replicate (n - 1) z
  first_of_rest zero x p = absurd (omega arith)
  first_of_rest (suc n) x p = ap (λ m. x ∷ replicate m z) (omega arith)

  -- one more place is filled
  pub padding_step : (xs places : List X) (i : ℕ) (x : X) → i < length xs → length xs ≤ 9 → x ≡ get_or xs i z
      → places ≡ take i xs ++ replicate (9 - i) z → set places i x ≡ take (i + 1) xs ++ replicate (9 - (i + 1)) z
  padding_step xs places i x h k e f =
      let long : length (take i xs) ≡ i = length-take-le i xs (omega arith) in
      let at_rest : set (take i xs ++ replicate (9 - i) z) i x ≡ take i xs ++ set (replicate (9 - i) z) (i - i) x =
      set-append_right (take i xs) (replicate (9 - i) z) i i x long (omega arith) in
      let none : i - i ≡ 0 = omega arith in
      let filled : set (replicate (9 - i) z) 0 x ≡ x ∷ replicate ((9 - i) - 1) z = first_of_rest (9 - i) x (omega arith) in
      let fewer : (9 - i) - 1 ≡ 9 - (i + 1) = omega arith in
      let taken : take (i + 1) xs ≡ take i xs ++ x ∷ [] = rw (add-one, e) (take-suc xs i z h) in
      ap (λ ys. set ys i x) f ∙ at_rest ∙ ap (λ n. take i xs ++ set (replicate (9 - i) z) n x) none
      ∙ ap (λ ys. take i xs ++ ys) (filled ∙ ap (λ n. x ∷ replicate n z) fewer)
      ∙ sym (append_assoc (take i xs) (x ∷ []) (replicate (9 - (i + 1)) z))
      ∙ ap (λ ys. ys ++ replicate (9 - (i + 1)) z) (sym taken)

  -- all are filled
  pub padding_end : (xs places : List X) (i : ℕ) → i ≡ length xs → places ≡ take i xs ++ replicate (9 - i) z → places ≡ padded z xs
  padding_end xs places i h f =
      f ∙ ap₂ (λ ys n. ys ++ replicate (9 - n) z) (take_all i xs (omega (arith, h))) h

  -- nine places of a list are padded, and the list is what is seen of them
  pub IsPadded-padded : (xs places : List X) → HasColumns xs → places ≡ padded z xs → IsPadded z (length xs) places
  IsPadded-padded xs places c e = record {
    some = c.some;
    few = c.few;
    nine = ap length e ∙ length-append xs (replicate (9 - length xs) z) ∙ ap (λ n. length xs + n) (length-replicate (9 - length xs) z) ∙ (let f = c.few in omega arith);
    rest = ap (drop (length xs)) e ∙ drop-append_seam xs (replicate (9 - length xs) z);
  }

  -- and what is seen of them is the list
  pub seen : (xs places : List X) → places ≡ padded z xs → take (length xs) places ≡ xs
  seen xs places e = ap (take (length xs)) e ∙ take-append_seam xs (replicate (9 - length xs) z)

  -- what is seen has the columns that were kept
  pub seen_long : (len : ℕ) (places xs : List X) → IsPadded z len places → take len places ≡ xs → length xs ≡ len
  seen_long len places xs kept e = ap length (sym e) ∙ length-take-le len places (omega (arith, kept.few, kept.nine))

-- small numbers
pub IsSmallPadded-padded : (xs places : List ℤ) → HasColumns xs → AreSmall xs → places ≡ padded (pos 0) xs → IsSmallPadded (length xs) places
IsSmallPadded-padded xs places c s e = record {
  padded = IsPadded-padded (pos 0) xs places c e;
  small = subst AreSmall (sym (seen (pos 0) xs places e)) s;
}
