-- No number of a text is above the greatest.
use Rattle.std.proofs.Common.{◌≡◌, ℕ, zero, suc, ◌+◌, ◌-◌, ◌==◌, Bool, true, false, cond, ◌||◌, not, pos, List, [], ◌∷◌, ◌++◌, length, take, drop, Option, Some, None, refl, arith}
use Rattle.std.specs.Prelude.{nat_le, slice_index}
use Rattle.std.specs.Str.Parse.{digits_value}
use Rattle.std.specs.Char.{is_ascii_digit, is_ascii_alphabetic}
use Rattle.std.proofs.lemmas.Bool.{leb-true, and_parts}
use Rattle.crn_token.specs.declared.Sign.{Sign}
use Rattle.crn_token.specs.Piece.{is_blank, is_run, is_number, sign_of, longest}
use Rattle.crn_token.specs.Lines.{joined, physical_lines, without_comment}
use Rattle.crn_token.specs.Plain.{Plain, PlainLine, PlainNumber, plain_sign, plain_of, plain_from, said, kept_line, plain_lines_from, plain_lines}
use Rattle.crn_token.specs.Small.{AreSmall, AreSmallLines}

-- of two lists of tokens, and of a part of one
pub small_append : (xs ys : List Plain) → AreSmall xs → AreSmall ys → AreSmall (xs ++ ys)
small_append [] ys first second = second
small_append (x ∷ xs) ys first second = (first.0, small_append xs ys first.1 second)

pub small_front : (xs ys : List Plain) → AreSmall (xs ++ ys) → AreSmall xs
small_front [] ys all = tt
small_front (x ∷ xs) ys all = (all.0, small_front xs ys all.1)

pub small_back : (xs ys : List Plain) → AreSmall (xs ++ ys) → AreSmall ys
small_back [] ys all = all
small_back (x ∷ xs) ys all = small_back xs ys all.1

pub small_take : (n : ℕ) (xs : List Plain) → AreSmall xs → AreSmall (take n xs)
small_take zero xs all = tt
small_take (suc n) [] all = tt
small_take (suc n) (x ∷ xs) all = (all.0, small_take n xs all.1)

pub small_drop : (n : ℕ) (xs : List Plain) → AreSmall xs → AreSmall (drop n xs)
small_drop zero xs all = all
small_drop (suc n) [] all = tt
small_drop (suc n) (x ∷ xs) all = small_drop n xs all.1

-- ---- a line

abbrev AreSmallIf : Option (List Plain) → Type 0
AreSmallIf None = Unit {0}
AreSmallIf (Some tokens) = AreSmall tokens

either : (b : Bool) (x y : Option (List Plain)) → AreSmallIf x → AreSmallIf y → AreSmallIf (cond b x y)
either true x y first second = first
either false x y first second = second

digits_small : (p : List ℕ) (b : Bool) → is_number p ≡ b → AreSmallIf (cond b (Some (PlainNumber (pos (digits_value 10 p)) ∷ [])) None)
digits_small p false is = tt
digits_small p true is =
    let low = leb-true (digits_value 10 p) 9223372036854775807 (and_parts (length p == 1 || not (slice_index p 0 == 48)) (nat_le (digits_value 10 p) 9223372036854775807) is).1 in
    (omega (arith, low), tt)

sign_small : (o : Option Sign) → AreSmallIf (plain_sign o)
sign_small None = tt
sign_small (Some sign) = (tt, tt)

piece_small : (p : List ℕ) → AreSmallIf (plain_of p)
unfolding plain_of
piece_small p =
    either (is_blank p) _ _ tt
    (either (is_run is_ascii_alphabetic p) _ _ (tt, tt) (either (is_run is_ascii_digit p) _ _ (digits_small p (is_number p) refl) (sign_small (sign_of p))))

joined_small : (a b : Option (List Plain)) → AreSmallIf a → AreSmallIf b → AreSmallIf (joined a b)
joined_small None b first second = tt
joined_small (Some xs) None first second = tt
joined_small (Some xs) (Some ys) first second = small_append xs ys first second

pieces_small : (covered : ℕ) (bs : List ℕ) → AreSmallIf (plain_from covered bs)
pieces_small covered [] = tt
pieces_small covered (b ∷ bs) =
    either (covered == 0) _ _ (joined_small _ _ (piece_small (take (longest (b ∷ bs)) (b ∷ bs))) (pieces_small (longest (b ∷ bs) - 1) bs)) (pieces_small (covered - 1) bs)

-- ---- the lines

lines_append : (xs ys : List PlainLine) → AreSmallLines xs → AreSmallLines ys → AreSmallLines (xs ++ ys)
lines_append [] ys first second = second
lines_append (x ∷ xs) ys first second = (first.0, lines_append xs ys first.1 second)

kept_small : (number : ℕ) (o : Option (List Plain)) → AreSmallIf o → AreSmallLines (kept_line number o)
kept_small number None small = (tt, tt)
kept_small number (Some []) small = tt
kept_small number (Some (token ∷ tokens)) small = (small, tt)

lines_small_from : (number : ℕ) (lines : List (List ℕ)) → AreSmallLines (plain_lines_from number lines)
lines_small_from number [] = tt
lines_small_from number (line ∷ lines) = lines_append _ _ (kept_small number (said line) (pieces_small 0 (without_comment line))) (lines_small_from (number + 1) lines)

pub lines_small : (bytes : List ℕ) → AreSmallLines (plain_lines bytes)
lines_small bytes = lines_small_from 1 (physical_lines bytes)
