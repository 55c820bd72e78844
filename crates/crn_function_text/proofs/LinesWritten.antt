-- Lines that are written in a loop.
use Rattle.std.proofs.Common.{◌≡◌, ℕ, ◌+◌, ◌<◌, List, [], ◌∷◌, ◌++◌, length, take, map, get_or, sym, ap, ◌∙◌, append_assoc, append-nil, subst, pos, arith}
use Rattle.std.proofs.lemmas.List.{take_more, map-append}
use Rattle.std.proofs.lemmas.Grind.{flat_map-append}
use Rattle.std.proofs.lemmas.Fmt.{decimal_digit}
use Rattle.std.proofs.lemmas.List.Elements.{All-push}
use Rattle.std.specs.Prelude.{codes, All}
use Rattle.std.specs.List.{flat_map}
use Rattle.crn_token.specs.declared.Sign.TheVariants.{AtLeast}
use Rattle.crn_token.specs.Plain.{PlainNumber, PlainSign}
use Rattle.crn_token.specs.Printed.{Item, Shown, Blank, spelled, printed}
use Rattle.crn_token.proofs.Joins.{spelled-append, printed-append}
use Rattle.crn_fraction.specs.Rational.{ℚ}
use Rattle.crn_form_text.specs.Printing.{form_items}
use Rattle.crn_function_text.specs.Printing.{when_line}

-- the lines of the first so many, and the line of the next
pub line_step : {X : Type 0} (f : X → List Item) (old before after : List ℕ) (xs : List X) (i : ℕ) (x : X) → i < length xs → x ≡ get_or xs i x
    → before ≡ old ++ printed (map f (take i xs)) → after ≡ before ++ printed (f x ∷ []) → after ≡ old ++ printed (map f (take (i + 1) xs))
line_step f old before after xs i x within is so_far more =
    let longer : take (i + 1) xs ≡ take i xs ++ x ∷ [] = take_more xs i x within ∙ ap (λ y. take i xs ++ y ∷ []) (sym is) in
    let next : printed (map f (take (i + 1) xs)) ≡ printed (map f (take i xs)) ++ printed (f x ∷ []) =
    ap (λ l. printed (map f l)) longer ∙ ap printed (map-append f (take i xs) (x ∷ [])) ∙ printed-append (map f (take i xs)) (f x ∷ []) in
    more ∙ ap (λ l. l ++ printed (f x ∷ [])) so_far ∙ append_assoc old (printed (map f (take i xs))) (printed (f x ∷ [])) ∙ ap (λ l. old ++ l) (sym next)

-- and so where each has several lines
pub lines_step : {X Y : Type 0} (view : X → Y) (f : Y → List (List Item)) (old before after : List ℕ) (xs : List X) (i : ℕ) (x : X) → i < length xs → x ≡ get_or xs i x
    → before ≡ old ++ printed (flat_map f (map view (take i xs))) → after ≡ before ++ printed (f (view x)) → after ≡ old ++ printed (flat_map f (map view (take (i + 1) xs)))
lines_step view f old before after xs i x within is so_far more =
    let y = view x in
    let longer : take (i + 1) xs ≡ take i xs ++ x ∷ [] = take_more xs i x within ∙ ap (λ z. take i xs ++ z ∷ []) (sym is) in
    let done = map view (take i xs) in
    let next : printed (flat_map f (map view (take (i + 1) xs))) ≡ printed (flat_map f done) ++ printed (f y) =
    ap (λ l. printed (flat_map f (map view l))) longer ∙ ap (λ l. printed (flat_map f l)) (map-append view (take i xs) (x ∷ []))
    ∙ ap printed (flat_map-append f done (y ∷ []) ∙ ap (λ l. flat_map f done ++ l) (append-nil (f y))) ∙ printed-append (flat_map f done) (f y) in
    more ∙ ap (λ l. l ++ printed (f y)) so_far ∙ append_assoc old (printed (flat_map f done)) (printed (f y)) ∙ ap (λ l. old ++ l) (sym next)

-- what holds of the first so many, and of the next
pub all_step : {X : Type 0} (P : X → Type 0) (xs : List X) (i : ℕ) (x : X) → i < length xs → x ≡ get_or xs i x → All P (take i xs) → P x → All P (take (i + 1) xs)
all_step P xs i x within is all here = subst (All P) (sym (take_more xs i x within ∙ ap (λ y. take i xs ++ y ∷ []) (sym is))) (All-push P (take i xs) x all here)

-- a condition
pub when_spelled : (k : ℕ) (form : List ℚ) → printed (when_line k form ∷ []) ≡ codes "when " ++ (spelled (form_items k form) ++ codes " >= 0\n")
when_spelled k form =
    let tail : List Item = Blank ∷ Shown (PlainSign AtLeast) ∷ Blank ∷ Shown (PlainNumber (pos 0)) ∷ [] in
    let ends : spelled tail ≡ codes " >= 0" = ap (λ l. codes " >= " ++ (l ++ [])) (decimal_digit 0 (omega arith)) in
    ap (λ l. codes "when " ++ l)
    (ap (λ l. l ++ 10 ∷ []) (spelled-append (form_items k form) tail ∙ ap (λ l. spelled (form_items k form) ++ l) ends) ∙ append_assoc (spelled (form_items k form)) (codes " >= 0") (10 ∷ []))

-- two groups of lines, written one after the other
pub groups_written : (none a b : List ℕ) (xs ys : List (List Item)) → none ≡ [] → a ≡ none ++ printed xs → b ≡ a ++ printed ys → b ≡ printed (xs ++ ys)
groups_written none a b xs ys empty one two = two ∙ ap (λ l. l ++ printed ys) (one ∙ ap (λ l. l ++ printed xs) empty) ∙ sym (printed-append xs ys)
