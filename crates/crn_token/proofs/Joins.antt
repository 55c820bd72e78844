-- What is printed and what is said of items and of lines that stand one after another.
use Rattle.std.proofs.Common.{◌≡◌, List, [], ◌∷◌, ◌++◌, sym, ap, ◌∙◌, refl, append_assoc}
use Rattle.crn_token.specs.Printed.{Item, Shown, Blank, token_bytes, spelled, shown, printed}

pub spelled-append : (xs ys : List Item) → spelled (xs ++ ys) ≡ spelled xs ++ spelled ys
spelled-append [] ys = refl
spelled-append (Blank ∷ xs) ys = ap (λ l. 32 ∷ l) (spelled-append xs ys)
spelled-append (Shown token ∷ xs) ys = ap (λ l. token_bytes token ++ l) (spelled-append xs ys) ∙ sym (append_assoc (token_bytes token) (spelled xs) (spelled ys))

pub printed-append : (xs ys : List (List Item)) → printed (xs ++ ys) ≡ printed xs ++ printed ys
printed-append [] ys = refl
printed-append (x ∷ xs) ys = ap (λ l. spelled x ++ (10 ∷ l)) (printed-append xs ys) ∙ sym (append_assoc (spelled x) (10 ∷ printed xs) (printed ys))

pub shown-append : (xs ys : List Item) → shown (xs ++ ys) ≡ shown xs ++ shown ys
shown-append [] ys = refl
shown-append (Blank ∷ xs) ys = shown-append xs ys
shown-append (Shown token ∷ xs) ys = ap (λ l. token ∷ l) (shown-append xs ys)
