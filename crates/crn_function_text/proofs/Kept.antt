-- What holds at each place within the limits.
use Rattle.std.proofs.Common.{◌≡◌, ℕ, suc, ◌+◌, ◌-◌, ◌≤◌, Bool, true, false, cond, List, [], ◌∷◌, ◌++◌, length, take, drop, Option, Some, None, refl, subst, arith, length-append}
use Rattle.std.proofs.lemmas.List.Elements.{All-nil, All-push}
use Rattle.std.proofs.Math.Seq.{get_or-append_seam}
use Rattle.std.proofs.lemmas.List.{get_or_append_left}
use Rattle.std.proofs.lemmas.List.Sums.{sum_by_push}
use Rattle.std.specs.Prelude.{All, pos}
use Rattle.std.specs.List.{sum_by}
use Rattle.std.specs.Option.{option_map}
use Rattle.crn_fraction.specs.Rational.{ℚ, 0ℚ, ◌≤ℚ◌}
use Rattle.crn_token.specs.declared.Counted.TheVariants as counted
use Rattle.crn_token.specs.Plain.{Plain, PlainLine, PlainWord, PlainNumber}
use Rattle.crn_grammar.specs.Table.{Read, IsText, PassesNone}
use Rattle.crn_grammar.proofs.TableLaws.{kept_to_the_end}
use Rattle.crn_grammar.specs.Limits.{above}
use Rattle.crn_grammar.specs.Reading.{judged}
use Rattle.crn_grammar.proofs.LimitLaws.{not_passed, neither}
use Rattle.crn_grammar.proofs.Turns.{judged_read}
use Rattle.crn_formula.specs.Formulas.{node_count, depth_of}
use Rattle.crn_formula.specs.Pieces.{Piece}
use Rattle.crn_formula.specs.Functions.{IsPieceOver, IsFitting, condition_count}
use Rattle.crn_form_text.specs.Built.{fitted}
use Rattle.crn_function_text.specs.declared.words.Word.{Word}
use Rattle.crn_function_text.specs.declared.words.Word.TheVariants as word
use Rattle.crn_function_text.specs.declared.words.Given.{Given}
use Rattle.crn_function_text.specs.declared.words.Given.TheVariants as given
use Rattle.crn_token.specs.Words.{rest_of, says}
use Rattle.crn_function_text.specs.Words.{first_word, given_of}
use Rattle.crn_function_text.specs.Spelled.{form_of, plain_form_of, formula_of}
use Rattle.crn_function_text.specs.Grammar.{PlainFunction, function_table, whole, Place, Start, Header, Sized, Valued, InPieces, InForms, header, size, is_at_least_zero, condition_of, new_piece, with_condition, follow, limit}
use Rattle.crn_function_text.specs.Reading.{IsKept}
use Rattle.crn_form_text.proofs.ParsedLaws.{formula_from_is}
use Rattle.crn_function_text.proofs.Spelled.{spelled_over, form_long, plain_form_long, plain_form_nonnegative}
use Rattle.crn_function_text.proofs.Narrowing.{formula_fits, kept_fits, forms_fit, fitted_nodes, fitted_depth}

-- ---- the place after a line, if it passes no limit
abbrev KeptNext : Option Place → Type 0
KeptNext None = Unit {0}
KeptNext (Some t) = limit t ≡ None → IsKept t

kept_map : {X : Type 0} (f : X → Place) (o : Option X) → ((x : X) → o ≡ Some x → limit (f x) ≡ None → IsKept (f x)) → KeptNext (option_map f o)
kept_map f None kept = tt
kept_map f (Some x) kept = kept x refl

kept_header : (rest : List Plain) → KeptNext (header rest)
kept_header (PlainWord letters ∷ []) = kept_map (λ g. Header g) (given_of letters) (λ g is low. tt)
kept_header _ = tt

kept_size : (g : Given) (rest : List Plain) → KeptNext (size g rest)
kept_size g (PlainNumber (pos (suc k)) ∷ []) = λ low. (omega arith, not_passed 8 counted.Variables (suc k) low)
kept_size g _ = tt

kept_value : (k : ℕ) (rest : List Plain) → 1 ≤ k → k ≤ 8 → KeptNext (option_map (λ e. Valued k (fitted k e)) (formula_of k rest))
kept_value k rest some few =
    kept_map (λ e. Valued k (fitted k e)) (formula_of k rest) (λ e is low.
    let (nodes, depth) = neither (above 2048 counted.Nodes (node_count (fitted k e))) (above 64 counted.Depth (depth_of (fitted k e))) low in
    formula_fits k e some few (spelled_over k e rest (formula_from_is k e rest is))
    (omega (arith, not_passed 2048 counted.Nodes (node_count (fitted k e)) nodes, fitted_nodes k e))
    (omega (arith, not_passed 64 counted.Depth (depth_of (fitted k e)) depth, fitted_depth k e)))

-- ---- pieces
-- a piece without conditions
new_over : (n : ℕ) (f : List ℚ) → length f ≡ n → IsPieceOver n (new_piece f)
new_over n f long = record { form = long; conditions = All-nil (λ c. length c ≡ n) }

kept_first : (k : ℕ) (rest : List Plain) → 1 ≤ k → k ≤ 8 → KeptNext (option_map (λ f. InPieces k [] (new_piece f)) (form_of k rest))
kept_first k rest some few =
    kept_map (λ f. InPieces k [] (new_piece f)) (form_of k rest) (λ f is low. (
      some,
      few,
      record {
        over = All-push (IsPieceOver (k + 1)) [] (new_piece f) (All-nil (IsPieceOver (k + 1))) (new_over (k + 1) f (form_long k f rest is));
        few = record {
          some = omega arith;
          few = omega arith;
          each = All-push (λ p. condition_count p ≤ 16) [] (new_piece f) (All-nil (λ p. condition_count p ≤ 16)) (omega arith);
          together = omega arith;
        };
      },
    ))

kept_piece : (k : ℕ) (done : List Piece) (last : Piece) (rest : List Plain) → IsKept (InPieces k done last) → KeptNext (option_map (λ f. InPieces k (done ++ last ∷ []) (new_piece f)) (form_of k rest))
kept_piece k done last rest (some, few, kept) =
    kept_map (λ f. InPieces k (done ++ last ∷ []) (new_piece f)) (form_of k rest) (λ f is low.
    let count = not_passed 32 counted.Pieces (length (done ++ last ∷ []) + 1) (neither (above 32 counted.Pieces (length (done ++ last ∷ []) + 1)) _ low).0 in (
      some,
      few,
      record {
        over = All-push (IsPieceOver (k + 1)) (done ++ last ∷ []) (new_piece f) kept.over (new_over (k + 1) f (form_long k f rest is));
        few = record {
          some = omega (arith, length-append (done ++ last ∷ []) (new_piece f ∷ []));
          few = omega (arith, count, length-append (done ++ last ∷ []) (new_piece f ∷ []));
          each = All-push (λ p. condition_count p ≤ 16) (done ++ last ∷ []) (new_piece f) kept.few.each (omega arith);
          together = omega (arith, kept.few.together, sum_by_push condition_count (done ++ last ∷ []) (new_piece f));
        };
      },
    ))

-- what holds of each holds of those before the last, and of it
pub all_before : {X : Type 0} (P : X → Type 0) (xs : List X) (y : X) → All P (xs ++ y ∷ []) → All P xs
all_before P xs y all i d within = subst P (get_or_append_left xs (y ∷ []) d i within) (all i d (omega (arith, length-append xs (y ∷ []))))

pub all_last : {X : Type 0} (P : X → Type 0) (xs : List X) (y : X) → All P (xs ++ y ∷ []) → P y
all_last P xs y all = subst P (get_or-append_seam xs y [] y) (all (length xs) y (omega (arith, length-append xs (y ∷ []))))

-- one condition more
more_over : (n : ℕ) (p : Piece) (c : List ℚ) → length c ≡ n → IsPieceOver n p → IsPieceOver n (with_condition p c)
more_over n p c long over = record { form = over.form; conditions = All-push (λ d. length d ≡ n) p.conditions c over.conditions long }

kept_with : (k : ℕ) (done : List Piece) (last : Piece) (c : List ℚ) → IsKept (InPieces k done last) → length c ≡ k + 1 → limit (InPieces k done (with_condition last c)) ≡ None → IsKept (InPieces k done (with_condition last c))
kept_with k done last c (some, few, kept) long low =
    let (pieces, more) = neither (above 32 counted.Pieces (length done + 1)) _ low in
    let (each, together) = neither (above 16 counted.Conditions (length (last.conditions ++ c ∷ []))) _ more in
    let count = not_passed 16 counted.Conditions (length (last.conditions ++ c ∷ [])) each in
    let all = not_passed 100 counted.AllConditions (sum_by condition_count done + length (last.conditions ++ c ∷ [])) together in (
      some,
      few,
      record {
        over = All-push (IsPieceOver (k + 1)) done (with_condition last c) (all_before (IsPieceOver (k + 1)) done last kept.over) (more_over (k + 1) last c long (all_last (IsPieceOver (k + 1)) done last kept.over));
        few = record {
          some = omega (arith, length-append done (with_condition last c ∷ []));
          few = omega (arith, kept.few.few, length-append done (with_condition last c ∷ []), length-append done (last ∷ []));
          each = All-push (λ p. condition_count p ≤ 16) done (with_condition last c) (all_before (λ p. condition_count p ≤ 16) done last kept.few.each) count;
          together = omega (arith, all, sum_by_push condition_count done (with_condition last c));
        };
      },
    )

kept_when : (k : ℕ) (done : List Piece) (last : Piece) (rest : List Plain) → IsKept (InPieces k done last) → KeptNext (option_map (λ c. InPieces k done (with_condition last c)) (condition_of k rest))
kept_when k done last rest kept =
    kept_map (λ c. InPieces k done (with_condition last c)) (condition_of k rest) (λ c is low. kept_with k done last c kept (long (is_at_least_zero (drop (length rest - 2) rest)) c is) low)
  where
    long : (b : Bool) (c : List ℚ) → cond b (form_of k (take (length rest - 2) rest)) None ≡ Some c → length c ≡ k + 1
    long true c is = form_long k c (take (length rest - 2) rest) is
    long false c is = let wrong : ◌≡◌ {A = Option (List ℚ)} None (Some c) = is in cc

kept_form : (k : ℕ) (forms : List (List ℚ)) (rest : List Plain) → 1 ≤ k → k ≤ 8 → All (λ f. length f ≡ k) forms → All (All (λ c. 0ℚ ≤ℚ c)) forms
    → KeptNext (option_map (λ f. InForms k (forms ++ f ∷ [])) (plain_form_of k rest))
kept_form k forms rest some few over nonnegative =
    kept_map (λ f. InForms k (forms ++ f ∷ [])) (plain_form_of k rest) (λ f is low. (
      some,
      few,
      record {
        over = All-push (λ g. length g ≡ k) forms f over (plain_form_long k f rest is);
        few = record {
          some = omega (arith, length-append forms (f ∷ []));
          few = not_passed 32 counted.Forms (length (forms ++ f ∷ [])) low;
          nonnegative = All-push (All (λ c. 0ℚ ≤ℚ c)) forms f nonnegative (plain_form_nonnegative k f rest is);
        };
      },
    ))

-- ---- the table
kept_follow : (s : Place) (w : Word) (rest : List Plain) → IsKept s → KeptNext (follow s w rest)
kept_follow Start word.Function rest kept = kept_header rest
kept_follow (Header g) word.Variables rest kept = kept_size g rest
kept_follow (Sized given.Formula k) word.Value rest kept = kept_value k rest kept.0 kept.1
kept_follow (Sized given.Pieces k) word.Piece rest kept = kept_first k rest kept.0 kept.1
kept_follow (Sized given.Direct k) word.Form rest kept = kept_form k [] rest kept.0 kept.1 (All-nil (λ f. length f ≡ k)) (All-nil (All (λ c. 0ℚ ≤ℚ c)))
kept_follow (InPieces k done last) word.Piece rest kept = kept_piece k done last rest kept
kept_follow (InPieces k done last) word.When rest kept = kept_when k done last rest kept
kept_follow (InForms k forms) word.Form rest kept = kept_form k forms rest kept.0 kept.1 kept.2.over kept.2.few.nonnegative
kept_follow _ _ rest kept = tt

-- a line that leads on keeps what holds
pub kept_judged : (number : ℕ) (s t : Place) (w : Word) (rest : List Plain) → IsKept s → judged limit number (follow s w rest) ≡ Read t → IsKept t
kept_judged number s t w rest kept is =
    let (there, low) = judged_read limit number (follow s w rest) t is in
    let next : KeptNext (Some t) = subst KeptNext there (kept_follow s w rest kept) in
    next low

-- ---- a function that a text within the limits gives keeps the rule of functions

pub kept_next : (s : Place) (line : PlainLine) (t : Place) → IsKept s → function_table.next s line ≡ Some t → limit t ≡ None → IsKept t
kept_next s line t kept is low = subst KeptNext is (kept_follow s (first_word (says line)) (rest_of (says line)) kept) low

pub some_function : (f g : PlainFunction) → Some f ≡ Some g → f ≡ g
some_function f g same = cc same

pub whole_fits : (s : Place) (f : PlainFunction) → IsKept s → whole s ≡ Some f → IsFitting f.variables f.kind
whole_fits (Valued k e) f kept is = subst (λ g. IsFitting g.variables g.kind) (some_function _ f is) kept
whole_fits (InPieces k done last) f kept is = subst (λ g. IsFitting g.variables g.kind) (some_function _ f is) (kept_fits k (done ++ last ∷ []) kept.0 kept.1 kept.2)
whole_fits (InForms k forms) f kept is = subst (λ g. IsFitting g.variables g.kind) (some_function _ f is) (forms_fit k forms kept.0 kept.1 kept.2)
whole_fits Start f kept is = let wrong : ◌≡◌ {A = Option PlainFunction} None (Some f) = is in cc
whole_fits (Header g) f kept is = let wrong : ◌≡◌ {A = Option PlainFunction} None (Some f) = is in cc
whole_fits (Sized g k) f kept is = let wrong : ◌≡◌ {A = Option PlainFunction} None (Some f) = is in cc

pub text_fits : (lines : List PlainLine) (f : PlainFunction) → IsText function_table lines f → PassesNone function_table lines → IsFitting f.variables f.kind
text_fits lines f text low = let (s, kept, is) = kept_to_the_end function_table IsKept tt kept_next lines f text low in whole_fits s f kept is
