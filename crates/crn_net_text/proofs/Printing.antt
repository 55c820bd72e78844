-- What is written of parts and of lines, one after another.
use Rattle.std.proofs.Common.{◌≡◌, ℕ, ℤ, pos, negsuc, zero, suc, ◌<ℤ◌, ◌+◌, ◌<◌, List, [], ◌∷◌, ◌++◌, length, take, map, get_or, sym, ap, ◌∙◌, refl, subst, append_assoc, arith}
use Rattle.std.proofs.lemmas.List.{take_more, map-append, length-map, length-take-le}
use Rattle.std.specs.Prelude.{codes, All}
use Rattle.std.proofs.lemmas.Int.{ints}
use Rattle.std.proofs.lemmas.List.Elements.{All-push}
use Rattle.std.proofs.lemmas.Fmt.{decimal_digit}
use Rattle.crn_net.specs.Network.{Part, Reaction, AreParts, numbered}
use Rattle.crn_net.specs.declared.Part as coded
use Rattle.crn_net.specs.Views.{natural, part_of, parts_of}
use Rattle.crn_token.specs.Printed.{Item, spelled, printed}
use Rattle.crn_token.proofs.Joins.{spelled-append, printed-append}
use Rattle.crn_net_text.specs.NetworkText.{IsSmall, part_items, next_items, side_items, gives_items}

-- a count that is not 0 as a natural number is positive
positive : (z : ℤ) → 0 < natural z → pos 0 <ℤ z
positive (pos n) some = omega (arith, ints, some)
positive (negsuc n) some = absurd (omega (arith, some))

-- the parts, and one more
side_more : (p : Part) (ps : List Part) (q : Part) → spelled (side_items ((p ∷ ps) ++ q ∷ [])) ≡ spelled (side_items (p ∷ ps)) ++ (codes " + " ++ spelled (part_items q))
side_more p [] q = spelled-append (part_items p) _
side_more p (r ∷ ps) q =
    spelled-append (part_items p) _
    ∙ ap (λ l. spelled (part_items p) ++ (codes " + " ++ l)) (side_more r ps q)
    ∙ sym (append_assoc (spelled (part_items p)) (codes " + " ++ spelled (side_items (r ∷ ps))) (codes " + " ++ spelled (part_items q)))
    ∙ ap (λ l. l ++ (codes " + " ++ spelled (part_items q))) (sym (spelled-append (part_items p) _))

pub side_next : (ps : List Part) (q : Part) → spelled (side_items (ps ++ q ∷ [])) ≡ spelled (side_items ps) ++ spelled (next_items (length ps) q)
side_next [] q = refl
side_next (p ∷ ps) q = side_more p ps q

-- the parts so far, and the next
pub side_step : (old before after : List ℕ) (ps : List coded.Part) (i : ℕ) (d : coded.Part) → i < length ps
    → before ≡ old ++ spelled (side_items (parts_of (take i ps))) → after ≡ before ++ spelled (next_items i (part_of (get_or ps i d)))
    → after ≡ old ++ spelled (side_items (parts_of (take (i + 1) ps)))
side_step old before after ps i d within so_far more =
    let p = part_of (get_or ps i d) in
    let count : length (parts_of (take i ps)) ≡ i = length-map (take i ps) part_of ∙ length-take-le i ps (omega (arith, within)) in
    let longer : parts_of (take (i + 1) ps) ≡ parts_of (take i ps) ++ p ∷ [] = ap parts_of (take_more ps i d within) ∙ map-append part_of (take i ps) (get_or ps i d ∷ []) in
    let next : spelled (side_items (parts_of (take (i + 1) ps))) ≡ spelled (side_items (parts_of (take i ps))) ++ spelled (next_items i p) =
    ap (λ l. spelled (side_items l)) longer ∙ side_next (parts_of (take i ps)) p ∙ ap (λ k. spelled (side_items (parts_of (take i ps))) ++ spelled (next_items k p)) count in
    more ∙ ap (λ l. l ++ spelled (next_items i p)) so_far ∙ append_assoc old _ _ ∙ ap (λ l. old ++ l) (sym next)

-- what holds of the first so many, and of the next
pub all_step : {X : Type 0} (P : X → Type 0) (xs : List X) (i : ℕ) (d : X) → i < length xs → All P (take i xs) → P (get_or xs i d) → All P (take (i + 1) xs)
all_step P xs i d within all here = subst (All P) (sym (take_more xs i d within)) (All-push P (take i xs) (get_or xs i d) all here)

pub small_step : (ps : List coded.Part) (i : ℕ) (d : coded.Part) → i < length ps → All IsSmall (parts_of (take i ps)) → IsSmall (part_of (get_or ps i d)) → All IsSmall (parts_of (take (i + 1) ps))
small_step ps i d within all here =
    subst (All IsSmall) (sym (ap parts_of (take_more ps i d within) ∙ map-append part_of (take i ps) (get_or ps i d ∷ []))) (All-push IsSmall (parts_of (take i ps)) (part_of (get_or ps i d)) all here)

-- a front, the lines of the first so many, and the next
pub lines_step : {X : Type 0} (f : X → List Item) (old front before after : List ℕ) (xs : List X) (i : ℕ) (d : X) → i < length xs
    → before ≡ old ++ (front ++ printed (map f (take i xs))) → after ≡ before ++ printed (f (get_or xs i d) ∷ [])
    → after ≡ old ++ (front ++ printed (map f (take (i + 1) xs)))
lines_step f old front before after xs i d within so_far more =
    let x = get_or xs i d in
    let longer : map f (take (i + 1) xs) ≡ map f (take i xs) ++ f x ∷ [] = ap (map f) (take_more xs i d within) ∙ map-append f (take i xs) (x ∷ []) in
    let next : printed (map f (take (i + 1) xs)) ≡ printed (map f (take i xs)) ++ printed (f x ∷ []) = ap printed longer ∙ printed-append (map f (take i xs)) (f x ∷ []) in
    more ∙ ap (λ l. l ++ printed (f x ∷ [])) so_far ∙ append_assoc old _ _ ∙ ap (λ l. old ++ l) (append_assoc front _ _ ∙ ap (λ l. front ++ l) (sym next))

-- counts of a well formed side are positive
pub counts : (low n : ℕ) (ps : List coded.Part) → AreParts low n (parts_of ps) → (k : ℕ) (d : coded.Part) → k < length ps → pos 0 <ℤ (get_or ps k d).count
counts low n [] ok k d within = absurd (omega arith)
counts low n (p ∷ ps) ok zero d within = positive p.count ok.2
counts low n (p ∷ ps) ok (suc k) d within = counts p.species n ps ok.3 k d (omega arith)

-- three groups of lines, one after another
pub groups_written : (old a b c : List ℕ) (xs ys zs : List (List Item)) → a ≡ old ++ printed xs → b ≡ a ++ printed ys → c ≡ b ++ printed zs → c ≡ old ++ printed (xs ++ (ys ++ zs))
groups_written old a b c xs ys zs one two three =
    three ∙ ap (λ l. l ++ printed zs) (two ∙ ap (λ l. l ++ printed ys) one ∙ append_assoc old (printed xs) (printed ys)) ∙ append_assoc old (printed xs ++ printed ys) (printed zs)
    ∙ ap (λ l. old ++ l) (append_assoc (printed xs) (printed ys) (printed zs) ∙ ap (λ l. printed xs ++ l) (sym (printed-append ys zs)) ∙ sym (printed-append xs (ys ++ zs)))

-- a reaction of a list, numbered from 1
pub numbered_next : (rs : List Reaction) (i : ℕ) → numbered rs (i + 1) ≡ get_or rs i (record { takes = []; gives = [] })
numbered_next rs i = let next : i + 1 ≡ suc i = omega arith in rw next refl

-- what gives nothing is written `0`
pub none_given : (ps : List coded.Part) → length ps < 1 → codes "0" ≡ spelled (gives_items (parts_of ps))
none_given [] none = sym (ap (λ l. l ++ []) (decimal_digit 0 (omega arith)))
none_given (p ∷ ps) none = absurd (omega (arith, none))
