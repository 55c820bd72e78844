-- What is taken from tokens by cases is what they spell, over any number of variables.
use Rattle.std.proofs.Common.{◌≡◌, inl, inr, ℕ, zero, suc, ◌+◌, ◌<◌, ◌≤◌, ◌==◌, ◌&&◌, not, Bool, true, false, cond, pos, List, [], ◌∷◌, ◌++◌, length, take, drop, replicate, Option, Some, None, refl, sym, ap, ap₂, ◌∙◌, subst, arith, append_assoc, append-nil, length-append, lt-ltb, ne_eqb, get_or}
use Rattle.std.specs.Prelude.{codes}
use Rattle.std.specs.Option.{option_map, option_and_then, option_map_or}
use Rattle.std.specs.Str.{bytes_eq}
use Rattle.std.proofs.lemmas.Bool.{and_parts, ltb-true, eqb-false}
use Rattle.std.proofs.lemmas.List.{ext_get_or}
use Rattle.std.proofs.lemmas.List.FromFn.{get_or-map-range_with_len, length-map-range_with_len}
use Rattle.std.proofs.lemmas.Option.{none-some, same_Some}
use Rattle.std.proofs.lemmas.Slice.Eq.{bytes_eq-Decides}
use Rattle.crn_token.specs.declared.Sign.TheVariants.{LeftParen, RightParen, Comma, Plus, Minus, Slash}
use Rattle.crn_token.specs.Plain.{Plain, PlainWord, PlainNumber, PlainSign}
use Rattle.crn_token.proofs.Options.{then_found, map_found, if_found}
use Rattle.crn_fraction.specs.Rational.{ℚ, 0ℚ}
use Rattle.crn_formula.specs.Formulas.{Formula, Lin, Add, Sub, Scale, Min, Max}
use Rattle.crn_form_text.specs.declared.mark.Operator.{Operator}
use Rattle.crn_form_text.specs.declared.mark.Operator.TheVariants as operator
use Rattle.crn_form_text.specs.declared.mark.Mark.{Mark}
use Rattle.crn_form_text.specs.declared.mark.Mark.TheVariants as mark
use Rattle.crn_form_text.specs.Grammar.{Numeral, Whole, Over, numeral_tokens, fraction, SpellsSigned, Term, Variable, Multiple, Constant, name_tokens, term_tokens, Signed, minus_before, sign_before, more_tokens, form_tokens, column_of, IsTermOver, AreTermsOver, IsFree, StandOnce, entry_in, AreTermsOf, SpellsForm, IsPlainTerm, ArePlain, SpellsPlain, call, pair, SpellsFormula}
use Rattle.crn_form_text.specs.Reading.{word_mark, denominator_at}
use Rattle.crn_form_text.specs.Built.{applied}
use Rattle.crn_form_text.specs.Parsed.{column_at, numeral_after, numeral_at, term_after, term_at, with_sign, and_more, more_at, terms_at, is_over, are_over, is_free, stand_once, form_of_terms, form_with_terms, form_at, after_comma, after_right, factor_at, two_at, scaled_at, call_at, formula_at, nothing_left, form_from, has_variable, are_plain, is_zero, plain_with_terms, plain_form_from, formula_from}
use Rattle.crn_form_text.proofs.Marks.{word_of, IsMarked, marked}
use Rattle.crn_form_text.proofs.Numbers.{denominator_is}

-- ---- what is taken is spelled: terms

column_is : (ts : List Plain) (c : ℕ) → column_at ts ≡ Some c → ts ≡ name_tokens c ++ drop 2 ts
column_is (PlainWord w ∷ PlainNumber (pos (suc x)) ∷ ts) c is =
    let (same, found) = if_found (bytes_eq w (codes "x")) (Some x) c is in
    ap₂ (λ l n. PlainWord l ∷ PlainNumber (pos (suc n)) ∷ ts) ((bytes_eq-Decides w (codes "x")).0 same) (same_Some x c found)
column_is ts c is = absurd (none-some c is)

numeral_is : (ts : List Plain) (n : Numeral) (r : List Plain) → numeral_at ts ≡ Some (n, r) → ts ≡ numeral_tokens n ++ r
numeral_is (PlainNumber (pos x) ∷ us) n r is = go (denominator_at us) refl (same_Some (numeral_after x us) (n, r) is)
  where
    go : (o : Option ℕ) → denominator_at us ≡ o → option_map_or {U = Numeral × List Plain} (λ e. (Over x e, drop 2 us)) o (Whole x, us) ≡ (n, r) → PlainNumber (pos x) ∷ us ≡ numeral_tokens n ++ r
    go None none same = ap (λ (p : Numeral × List Plain). numeral_tokens p.0 ++ p.1) same
    go (Some e) some same =
        let (vs, is) = denominator_is us e some in
        ap (λ l. PlainNumber (pos x) ∷ l) (is ∙ ap (λ l. PlainSign Slash ∷ PlainNumber (pos (suc e)) ∷ l) (sym (ap (drop 2) is)))
        ∙ ap (λ (p : Numeral × List Plain). numeral_tokens p.0 ++ p.1) same
numeral_is ts n r is = absurd (none-some (n, r) is)

term_is : (ts : List Plain) (t : Term) (r : List Plain) → term_at ts ≡ Some (t, r) → ts ≡ term_tokens t ++ r
term_is ts t r is = go (column_at ts) refl is
  where
    after : (n : Numeral) (us : List Plain) (o : Option ℕ) → column_at us ≡ o → option_map_or {U = Term × List Plain} (λ c. (Multiple n c, drop 2 us)) o (Constant n, us) ≡ (t, r) → numeral_tokens n ++ us ≡ term_tokens t ++ r
    after n us None none same = ap (λ (p : Term × List Plain). term_tokens p.0 ++ p.1) same
    after n us (Some c) some same =
        ap (λ l. numeral_tokens n ++ l) (column_is us c some) ∙ sym (append_assoc (numeral_tokens n) (name_tokens c) (drop 2 us)) ∙ ap (λ (p : Term × List Plain). term_tokens p.0 ++ p.1) same

    go : (o : Option ℕ) → column_at ts ≡ o → option_map_or {U = Option (Term × List Plain)} (λ c. Some (Variable c, drop 2 ts)) o (option_map (λ p. term_after p.0 p.1) (numeral_at ts)) ≡ Some (t, r) → ts ≡ term_tokens t ++ r
    go (Some c) some same = column_is ts c some ∙ ap (λ (p : Term × List Plain). term_tokens p.0 ++ p.1) (same_Some (Variable c, drop 2 ts) (t, r) same)
    go None none same =
        let (p, found, is) = map_found {A = Numeral × List Plain} {B = Term × List Plain} (λ p. term_after p.0 p.1) (numeral_at ts) (t, r) same in
        numeral_is ts p.0 p.1 found ∙ after p.0 p.1 (column_at p.1) refl is

-- a term, and more after it
record TermTaken (negative : Bool) (ts : List Plain) (terms : List Signed) (r : List Plain) : Type 0 where
  term : Term
  others : List Signed
  terms_are : terms ≡ with_sign negative term ∷ others
  tokens_are : ts ≡ (term_tokens term ++ more_tokens others) ++ r

term_taken : (more : List Plain → Option (List Signed × List Plain)) (negative : Bool) (ts : List Plain) (terms : List Signed) (r : List Plain)
    → ((us : List Plain) (m : List Signed) (q : List Plain) → more us ≡ Some (m, q) → us ≡ more_tokens m ++ q) → and_more more negative (term_at ts) ≡ Some (terms, r) → TermTaken negative ts terms r
term_taken more negative ts terms r each is =
    let (t, first, rest) = then_found {A = Term × List Plain} {B = List Signed × List Plain} (λ t. option_map (λ m. (with_sign negative t.0 ∷ m.0, m.1)) (more t.1)) (term_at ts) (terms, r) is in
    let (m, others, same) = map_found {A = List Signed × List Plain} {B = List Signed × List Plain} (λ m. (with_sign negative t.0 ∷ m.0, m.1)) (more t.1) (terms, r) rest in
    record {
      term = t.0;
      others = m.0;
      terms_are = sym (ap (λ (p : List Signed × List Plain). p.0) same);
      tokens_are =
          term_is ts t.0 t.1 first ∙ ap (λ l. term_tokens t.0 ++ l) (each t.1 m.0 m.1 others ∙ ap (λ q. more_tokens m.0 ++ q) (ap (λ (p : List Signed × List Plain). p.1) same))
          ∙ sym (append_assoc (term_tokens t.0) (more_tokens m.0) r);
    }

more_is : (n : ℕ) (ts : List Plain) (terms : List Signed) (r : List Plain) → more_at n ts ≡ Some (terms, r) → ts ≡ more_tokens terms ++ r
more_is (suc n) (PlainSign Plus ∷ ts) terms r is =
    let t = term_taken (more_at n) false ts terms r (more_is n) is in
    ap (λ l. PlainSign Plus ∷ l) t.tokens_are ∙ ap (λ l. more_tokens l ++ r) (sym t.terms_are)
more_is (suc n) (PlainSign Minus ∷ ts) terms r is =
    let t = term_taken (more_at n) true ts terms r (more_is n) is in
    ap (λ l. PlainSign Minus ∷ l) t.tokens_are ∙ ap (λ l. more_tokens l ++ r) (sym t.terms_are)
more_is n ts terms r is = ap (λ (p : List Signed × List Plain). more_tokens p.0 ++ p.1) (same_Some ([], ts) (terms, r) is)

all_more : (us : List Plain) (m : List Signed) (q : List Plain) → more_at (length us) us ≡ Some (m, q) → us ≡ more_tokens m ++ q
all_more us m q is = more_is (length us) us m q is

terms_are : (ts : List Plain) (terms : List Signed) (r : List Plain) → terms_at ts ≡ Some (terms, r) → (0 < length terms) × (ts ≡ form_tokens terms ++ r)
terms_are (PlainSign Minus ∷ ts) terms r is =
    let t = term_taken (λ left. more_at (length left) left) true ts terms r all_more is in
    (omega (arith, ap length t.terms_are), ap (λ l. PlainSign Minus ∷ l) t.tokens_are ∙ ap (λ l. form_tokens l ++ r) (sym t.terms_are))
terms_are ts terms r is =
    let t = term_taken (λ left. more_at (length left) left) false ts terms r all_more is in
    (omega (arith, ap length t.terms_are), t.tokens_are ∙ ap (λ l. form_tokens l ++ r) (sym t.terms_are))

-- ---- forms

term_over : (k : ℕ) (t : Term) → is_over k t ≡ true → IsTermOver k t
term_over k (Variable column) is = ltb-true column k is
term_over k (Multiple n column) is = ltb-true column k is
term_over k (Constant n) is = tt

over_term : (k : ℕ) (t : Term) → IsTermOver k t → is_over k t ≡ true
over_term k (Variable column) is = lt-ltb column k is
over_term k (Multiple n column) is = lt-ltb column k is
over_term k (Constant n) is = refl

terms_over : (k : ℕ) (terms : List Signed) → are_over k terms ≡ true → AreTermsOver k terms
terms_over k [] is = tt
terms_over k (t ∷ terms) is = let (first, rest) = and_parts (is_over k t.term) (are_over k terms) is in (term_over k t.term first, terms_over k terms rest)

over_terms : (k : ℕ) (terms : List Signed) → AreTermsOver k terms → are_over k terms ≡ true
over_terms k [] are = refl
over_terms k (t ∷ terms) (first, rest) = ap₂ (λ a b. a && b) (over_term k t.term first) (over_terms k terms rest)

unequal : (b : Bool) → not b ≡ true → b ≡ false
unequal false is = refl
unequal true is = let wrong : false ≡ true = is in cc

column_free : (k column : ℕ) (terms : List Signed) → is_free k column terms ≡ true → IsFree k column terms
column_free k column [] is = tt
column_free k column (t ∷ terms) is =
    let (first, rest) = and_parts (not (column_of k t.term == column)) (is_free k column terms) is in
    (eqb-false (column_of k t.term) column (unequal (column_of k t.term == column) first), column_free k column terms rest)

free_column : (k column : ℕ) (terms : List Signed) → IsFree k column terms → is_free k column terms ≡ true
free_column k column [] free = refl
free_column k column (t ∷ terms) (first, rest) = ap₂ (λ a b. not a && b) (ne_eqb (column_of k t.term) column first) (free_column k column terms rest)

terms_once : (k : ℕ) (terms : List Signed) → stand_once k terms ≡ true → StandOnce k terms
terms_once k [] is = tt
terms_once k (t ∷ terms) is =
    let (first, rest) = and_parts (is_free k (column_of k t.term) terms) (stand_once k terms) is in (column_free k (column_of k t.term) terms first, terms_once k terms rest)

once_terms : (k : ℕ) (terms : List Signed) → StandOnce k terms → stand_once k terms ≡ true
once_terms k [] once = refl
once_terms k (t ∷ terms) (first, rest) = ap₂ (λ a b. a && b) (free_column k (column_of k t.term) terms first) (once_terms k terms rest)

entry_at : (k column : ℕ) (terms : List Signed) → column ≤ k → get_or (form_of_terms k terms) column 0ℚ ≡ entry_in k terms column
entry_at k column terms within = get_or-map-range_with_len (entry_in k terms) 0 (k + 1) column column 0ℚ (omega (arith, within)) (omega arith)

-- the terms of a form
terms_of : (k : ℕ) (terms : List Signed) → 0 < length terms → are_over k terms ≡ true → stand_once k terms ≡ true → AreTermsOf k (form_of_terms k terms) terms
terms_of k terms some over once = record {
  some = some;
  over = terms_over k terms over;
  once = terms_once k terms once;
  long = length-map-range_with_len (entry_in k terms) 0 (k + 1);
  entries = λ column within. entry_at k column terms within;
}

of_terms : (k : ℕ) (f : List ℚ) (terms : List Signed) → AreTermsOf k f terms → form_of_terms k terms ≡ f
of_terms k f terms are =
    ext_get_or 0ℚ (form_of_terms k terms) f (length-map-range_with_len (entry_in k terms) 0 (k + 1) ∙ sym are.long)
    (λ i within. let low : i ≤ k = omega (arith, length-map-range_with_len (entry_in k terms) 0 (k + 1)) in entry_at k i terms low ∙ sym (are.entries i low))

form_is : (k : ℕ) (ts : List Plain) (f : List ℚ) (r : List Plain) → form_at k ts ≡ Some (f, r) → (x : List Plain) × SpellsForm k f x × (ts ≡ x ++ r)
form_is k ts f r is =
    let (p, found, rest) = then_found {A = List Signed × List Plain} {B = List ℚ × List Plain} (form_with_terms k) (terms_at ts) (f, r) is in
    let (test, same) = if_found (are_over k p.0 && stand_once k p.0) (Some (form_of_terms k p.0, p.1)) (f, r) rest in
    let (over, once) = and_parts (are_over k p.0) (stand_once k p.0) test in
    let (some, tokens) = terms_are ts p.0 p.1 found in
    subst (λ (q : List ℚ × List Plain). (x : List Plain) × SpellsForm k q.0 x × (ts ≡ x ++ q.1)) (same_Some (form_of_terms k p.0, p.1) (f, r) same) (
      form_tokens p.0,
      (
        p.0,
        terms_of k p.0 some over once,
        refl,
      ),
      tokens,
    )

-- ---- formulas

comma_is : {T : Type 0} (p : T × List Plain) (q : T × List Plain) → after_comma p ≡ Some q → (p.0 ≡ q.0) × (p.1 ≡ PlainSign Comma ∷ q.1)
comma_is {T} (a, PlainSign Comma ∷ ts) q is = let same = same_Some (a, ts) q is in (ap (λ (r : T × List Plain). r.0) same, ap (λ (r : T × List Plain). PlainSign Comma ∷ r.1) same)
comma_is {T} p q is = absurd (none-some q is)

right_is : {T : Type 0} (p : T × List Plain) (q : T × List Plain) → after_right p ≡ Some q → (p.0 ≡ q.0) × (p.1 ≡ PlainSign RightParen ∷ q.1)
right_is {T} (a, PlainSign RightParen ∷ ts) q is = let same = same_Some (a, ts) q is in (ap (λ (r : T × List Plain). r.0) same, ap (λ (r : T × List Plain). PlainSign RightParen ∷ r.1) same)
right_is {T} p q is = absurd (none-some q is)

factor_is : (ts : List Plain) (q : ℚ) (r : List Plain) → factor_at ts ≡ Some (q, r) → (x : List Plain) × SpellsSigned q x × (ts ≡ x ++ r)
factor_is (PlainSign Minus ∷ ts) q r is =
    let (n, found, same) = map_found {A = Numeral × List Plain} {B = ℚ × List Plain} (λ n. (fraction true n.0, n.1)) (numeral_at ts) (q, r) is in (
      PlainSign Minus ∷ numeral_tokens n.0,
      (true, n.0, refl, sym (ap (λ (p : ℚ × List Plain). p.0) same)),
      ap (λ l. PlainSign Minus ∷ l) (numeral_is ts n.0 n.1 found ∙ ap (λ l. numeral_tokens n.0 ++ l) (ap (λ (p : ℚ × List Plain). p.1) same)),
    )
factor_is ts q r is =
    let (n, found, same) = map_found {A = Numeral × List Plain} {B = ℚ × List Plain} (λ n. (fraction false n.0, n.1)) (numeral_at ts) (q, r) is in (
      numeral_tokens n.0,
      (false, n.0, refl, sym (ap (λ (p : ℚ × List Plain). p.0) same)),
      numeral_is ts n.0 n.1 found ∙ ap (λ l. numeral_tokens n.0 ++ l) (ap (λ (p : ℚ × List Plain). p.1) same),
    )

-- operands, and what follows them
operands : (x y r : List Plain) → (pair x y ++ PlainSign RightParen ∷ []) ++ r ≡ x ++ (PlainSign Comma ∷ (y ++ (PlainSign RightParen ∷ r)))
operands x y r =
    append_assoc (pair x y) (PlainSign RightParen ∷ []) r
    ∙ append_assoc (x ++ PlainSign Comma ∷ []) y (PlainSign RightParen ∷ r)
    ∙ append_assoc x (PlainSign Comma ∷ []) (y ++ (PlainSign RightParen ∷ r))

spells_applied : (k : ℕ) (o : Operator) (a b : Formula) (x y : List Plain) → SpellsFormula k a x → SpellsFormula k b y → SpellsFormula k (applied o a b) (call (word_of o) (pair x y))
spells_applied k operator.Add a b x y sa sb = (x, y, sa, sb, refl)
spells_applied k operator.Sub a b x y sa sb = (x, y, sa, sb, refl)
spells_applied k operator.Min a b x y sa sb = (x, y, sa, sb, refl)
spells_applied k operator.Max a b x y sa sb = (x, y, sa, sb, refl)

-- the tokens begin with a formula's
abbrev Begun : ℕ → List Plain → Formula × List Plain → Type 0
Begun k ts p = (x : List Plain) × SpellsFormula k p.0 x × (ts ≡ x ++ p.1)

two_are : (k : ℕ) (formula : List Plain → Option (Formula × List Plain)) → ((us : List Plain) (p : Formula × List Plain) → formula us ≡ Some p → Begun k us p) → (o : Operator) (w : List ℕ) → PlainWord w ≡ PlainWord (word_of o)
    → (ts : List Plain) (p : Formula × List Plain) → two_at formula o ts ≡ Some p → Begun k (PlainWord w ∷ PlainSign LeftParen ∷ ts) p
two_are k formula each o w w_is ts p is =
    let (a, first, rest) =
    then_found {A = Formula × List Plain} {B = Formula × List Plain} (λ a. option_map (λ b. (applied o a.0 b.0, b.1)) (option_and_then after_right (formula a.1))) (option_and_then after_comma (formula ts)) p is in
    let (b, second, same) = map_found {A = Formula × List Plain} {B = Formula × List Plain} (λ b. (applied o a.0 b.0, b.1)) (option_and_then after_right (formula a.1)) p rest in
    let (c, c_found, c_comma) = then_found after_comma (formula ts) a first in
    let (d, d_found, d_right) = then_found after_right (formula a.1) b second in
    let (a_is, after_a) = comma_is c a c_comma in
    let (b_is, after_b) = right_is d b d_right in
    let (x, sa, ts_is) = each ts c c_found in
    let (y, sb, more_is) = each a.1 d d_found in
    subst (Begun k (PlainWord w ∷ PlainSign LeftParen ∷ ts)) same (
      call (word_of o) (pair x y),
      spells_applied k o a.0 b.0 x y (subst (λ e. SpellsFormula k e x) a_is sa) (subst (λ e. SpellsFormula k e y) b_is sb),
      ap₂ (λ t l. t ∷ PlainSign LeftParen ∷ l) w_is (ts_is ∙ ap (λ l. x ++ l) (after_a ∙ ap (λ l. PlainSign Comma ∷ l) (more_is ∙ ap (λ l. y ++ l) after_b)) ∙ sym (operands x y b.1)),
    )

scaled_is : (k : ℕ) (formula : List Plain → Option (Formula × List Plain)) → ((us : List Plain) (p : Formula × List Plain) → formula us ≡ Some p → Begun k us p) → (w : List ℕ) → PlainWord w ≡ PlainWord (codes "scale")
    → (ts : List Plain) (p : Formula × List Plain) → scaled_at formula ts ≡ Some p → Begun k (PlainWord w ∷ PlainSign LeftParen ∷ ts) p
scaled_is k formula each w w_is ts p is =
    let (q, first, rest) =
    then_found {A = ℚ × List Plain} {B = Formula × List Plain} (λ q. option_map (λ a. (Scale q.0 a.0, a.1)) (option_and_then after_right (formula q.1))) (option_and_then after_comma (factor_at ts)) p is in
    let (a, second, same) = map_found {A = Formula × List Plain} {B = Formula × List Plain} (λ a. (Scale q.0 a.0, a.1)) (option_and_then after_right (formula q.1)) p rest in
    let (c, c_found, c_comma) = then_found after_comma (factor_at ts) q first in
    let (d, d_found, d_right) = then_found after_right (formula q.1) a second in
    let (q_is, after_q) = comma_is c q c_comma in
    let (a_is, after_a) = right_is d a d_right in
    let (x, sq, ts_is) = factor_is ts c.0 c.1 c_found in
    let (y, sa, more_is) = each q.1 d d_found in
    subst (Begun k (PlainWord w ∷ PlainSign LeftParen ∷ ts)) same (
      call (codes "scale") (pair x y),
      (x, y, subst (λ e. SpellsSigned e x) q_is sq, subst (λ e. SpellsFormula k e y) a_is sa, refl),
      ap₂ (λ t l. t ∷ PlainSign LeftParen ∷ l) w_is (ts_is ∙ ap (λ l. x ++ l) (after_q ∙ ap (λ l. PlainSign Comma ∷ l) (more_is ∙ ap (λ l. y ++ l) after_a)) ∙ sym (operands x y a.1)),
    )

call_is : (k : ℕ) (formula : List Plain → Option (Formula × List Plain)) → ((us : List Plain) (p : Formula × List Plain) → formula us ≡ Some p → Begun k us p) → (w : List ℕ) (m : Mark) → IsMarked m (PlainWord w)
    → (ts : List Plain) (p : Formula × List Plain) → call_at formula m ts ≡ Some p → Begun k (PlainWord w ∷ PlainSign LeftParen ∷ ts) p
call_is k formula each w (mark.Word o) w_is ts p is = two_are k formula each o w w_is ts p is
call_is k formula each w mark.Scale w_is ts p is = scaled_is k formula each w w_is ts p is
call_is k formula each w _ w_is ts p is = absurd (none-some p is)

formula_is : (k n : ℕ) (ts : List Plain) (p : Formula × List Plain) → formula_at k n ts ≡ Some p → Begun k ts p
formula_is k zero ts p is = absurd (none-some p is)
formula_is k (suc n) (PlainWord w ∷ PlainSign LeftParen ∷ ts) p is = call_is k (formula_at k n) (formula_is k n) w (word_mark w) (marked (PlainWord w)) ts p is
formula_is k (suc n) ts p is =
    let (f, found, same) = map_found {A = List ℚ × List Plain} {B = Formula × List Plain} (λ f. (Lin f.0, f.1)) (form_at k ts) p is in
    let (x, spells, ts_is) = form_is k ts f.0 f.1 found in
    subst (Begun k ts) same (x, spells, ts_is)

-- ---- what is spelled is taken: where a form ends

-- nothing, `,` or `)`
abbrev Stops : List Plain → Type 0
Stops [] = Unit {0}
Stops (PlainSign Comma ∷ ts) = Unit {0}
Stops (PlainSign RightParen ∷ ts) = Unit {0}
Stops _ = ⊥

stops_column : (y : List Plain) → Stops y → column_at y ≡ None
stops_column [] stops = refl
stops_column (PlainSign Comma ∷ ts) stops = refl
stops_column (PlainSign RightParen ∷ ts) stops = refl
stops_column y stops = absurd stops

stops_denominator : (y : List Plain) → Stops y → denominator_at y ≡ None
stops_denominator [] stops = refl
stops_denominator (PlainSign Comma ∷ ts) stops = refl
stops_denominator (PlainSign RightParen ∷ ts) stops = refl
stops_denominator y stops = absurd stops

stops_more : (n : ℕ) (y : List Plain) → Stops y → more_at n y ≡ Some ([], y)
stops_more zero [] stops = refl
stops_more (suc n) [] stops = refl
stops_more zero (PlainSign Comma ∷ ts) stops = refl
stops_more (suc n) (PlainSign Comma ∷ ts) stops = refl
stops_more zero (PlainSign RightParen ∷ ts) stops = refl
stops_more (suc n) (PlainSign RightParen ∷ ts) stops = refl
stops_more n y stops = absurd stops

more_column : (terms : List Signed) (y : List Plain) → Stops y → column_at (more_tokens terms ++ y) ≡ None
more_column [] y stops = stops_column y stops
more_column (t ∷ terms) y stops = go t.negative
  where
    go : (b : Bool) → column_at (((sign_before b ++ term_tokens t.term) ++ more_tokens terms) ++ y) ≡ None
    go true = refl
    go false = refl

more_denominator : (terms : List Signed) (y : List Plain) → Stops y → denominator_at (more_tokens terms ++ y) ≡ None
more_denominator [] y stops = stops_denominator y stops
more_denominator (t ∷ terms) y stops = go t.negative
  where
    go : (b : Bool) → denominator_at (((sign_before b ++ term_tokens t.term) ++ more_tokens terms) ++ y) ≡ None
    go true = refl
    go false = refl

-- ---- terms and forms

term_here : (t : Term) (y : List Plain) → column_at y ≡ None → denominator_at y ≡ None → term_at (term_tokens t ++ y) ≡ Some (t, y)
term_here (Variable c) y none quiet = refl
term_here (Multiple (Whole n) c) y none quiet = refl
term_here (Multiple (Over n e) c) y none quiet = refl
term_here (Constant (Whole n)) y none quiet = rw (quiet, none) refl
term_here (Constant (Over n e)) y none quiet = rw none refl

more_here : (terms : List Signed) (y : List Plain) (n : ℕ) → length terms ≤ n → Stops y → more_at n (more_tokens terms ++ y) ≡ Some (terms, y)
more_here [] y n few stops = stops_more n y stops
more_here (t ∷ terms) y zero few stops = absurd (omega (arith, few))
more_here (t ∷ terms) y (suc n) few stops = go (more_here terms y n (omega (arith, few)) stops) t.negative t.term
  where
    next : more_at n (more_tokens terms ++ y) ≡ Some (terms, y) → (b : Bool) (u : Term) → and_more (more_at n) b (term_at ((term_tokens u ++ more_tokens terms) ++ y)) ≡ Some (with_sign b u ∷ terms, y)
    next again b u =
        ap (λ l. and_more (more_at n) b (term_at l)) (append_assoc (term_tokens u) (more_tokens terms) y)
        ∙ ap (and_more (more_at n) b) (term_here u (more_tokens terms ++ y) (more_column terms y stops) (more_denominator terms y stops))
        ∙ ap (option_map {T = List Signed × List Plain} {U = List Signed × List Plain} (λ m. (with_sign b u ∷ m.0, m.1))) again

    go : more_at n (more_tokens terms ++ y) ≡ Some (terms, y) → (b : Bool) (u : Term) → more_at (suc n) (((sign_before b ++ term_tokens u) ++ more_tokens terms) ++ y) ≡ Some (with_sign b u ∷ terms, y)
    go again true u = next again true u
    go again false u = next again false u

more_long : (terms : List Signed) → length terms ≤ length (more_tokens terms)
more_long [] = omega arith
more_long (t ∷ terms) = go (more_long terms) t.negative
  where
    go : length terms ≤ length (more_tokens terms) → (b : Bool) → suc (length terms) ≤ length ((sign_before b ++ term_tokens t.term) ++ more_tokens terms)
    go rest true = omega (arith, rest, length-append (term_tokens t.term) (more_tokens terms))
    go rest false = omega (arith, rest, length-append (term_tokens t.term) (more_tokens terms))

-- a term begins with no `-`
no_minus : (t : Term) (ys : List Plain) → terms_at (term_tokens t ++ ys) ≡ and_more (λ left. more_at (length left) left) false (term_at (term_tokens t ++ ys))
no_minus (Variable c) ys = refl
no_minus (Multiple (Whole n) c) ys = refl
no_minus (Multiple (Over n e) c) ys = refl
no_minus (Constant (Whole n)) ys = refl
no_minus (Constant (Over n e)) ys = refl

terms_here : (terms : List Signed) (y : List Plain) → 0 < length terms → Stops y → terms_at (form_tokens terms ++ y) ≡ Some (terms, y)
terms_here [] y some stops = absurd (omega (arith, some))
terms_here (t ∷ terms) y some stops = go t.negative t.term
  where
    next : (b : Bool) (u : Term) → and_more (λ left. more_at (length left) left) b (term_at (term_tokens u ++ (more_tokens terms ++ y))) ≡ Some (with_sign b u ∷ terms, y)
    next b u =
        ap (and_more (λ left. more_at (length left) left) b) (term_here u (more_tokens terms ++ y) (more_column terms y stops) (more_denominator terms y stops))
        ∙ ap (option_map {T = List Signed × List Plain} {U = List Signed × List Plain} (λ m. (with_sign b u ∷ m.0, m.1)))
        (more_here terms y (length (more_tokens terms ++ y)) (omega (arith, more_long terms, length-append (more_tokens terms) y)) stops)

    go : (b : Bool) (u : Term) → terms_at (((minus_before b ++ term_tokens u) ++ more_tokens terms) ++ y) ≡ Some (with_sign b u ∷ terms, y)
    go true u = ap (λ l. terms_at (PlainSign Minus ∷ l)) (append_assoc (term_tokens u) (more_tokens terms) y) ∙ next true u
    go false u = ap terms_at (append_assoc (term_tokens u) (more_tokens terms) y) ∙ no_minus u (more_tokens terms ++ y) ∙ next false u

form_here : (k : ℕ) (f : List ℚ) (x y : List Plain) → SpellsForm k f x → Stops y → form_at k (x ++ y) ≡ Some (f, y)
form_here k f x y (terms, are, is) stops =
    ap (λ l. form_at k (l ++ y)) is
    ∙ ap (option_and_then {T = List Signed × List Plain} {U = List ℚ × List Plain} (form_with_terms k)) (terms_here terms y are.some stops)
    ∙ ap₂ (λ a b. cond (a && b) (Some (form_of_terms k terms, y)) None) (over_terms k terms are.over) (once_terms k terms are.once)
    ∙ ap (λ g. Some (g, y)) (of_terms k f terms are)

-- ---- formulas

-- a form begins with no word and `(`
no_call : (k n : ℕ) (t : Signed) (terms : List Signed) (y : List Plain)
    → formula_at k (suc n) (form_tokens (t ∷ terms) ++ y) ≡ option_map {T = List ℚ × List Plain} {U = Formula × List Plain} (λ f. (Lin f.0, f.1)) (form_at k (form_tokens (t ∷ terms) ++ y))
no_call k n t terms y = go t.negative t.term
  where
    go : (b : Bool) (u : Term) → formula_at k (suc n) (((minus_before b ++ term_tokens u) ++ more_tokens terms) ++ y)
        ≡ option_map {T = List ℚ × List Plain} {U = Formula × List Plain} (λ f. (Lin f.0, f.1)) (form_at k (((minus_before b ++ term_tokens u) ++ more_tokens terms) ++ y))
    go true u = refl
    go false (Variable c) = refl
    go false (Multiple (Whole m) c) = refl
    go false (Multiple (Over m e) c) = refl
    go false (Constant (Whole m)) = refl
    go false (Constant (Over m e)) = refl

lin_here : (k n : ℕ) (f : List ℚ) (x y : List Plain) → SpellsForm k f x → Stops y → formula_at k (suc n) (x ++ y) ≡ Some (Lin f, y)
lin_here k n f x y ([], are, is) stops = absurd (omega (arith, are.some))
lin_here k n f x y (t ∷ terms, are, is) stops =
    ap (λ l. formula_at k (suc n) (l ++ y)) is ∙ no_call k n t terms y
    ∙ ap (λ l. option_map {T = List ℚ × List Plain} {U = Formula × List Plain} (λ g. (Lin g.0, g.1)) (form_at k (l ++ y))) (sym is)
    ∙ ap (option_map {T = List ℚ × List Plain} {U = Formula × List Plain} (λ g. (Lin g.0, g.1))) (form_here k f x y (t ∷ terms, are, is) stops)

form_some : (terms : List Signed) → 0 < length terms → 0 < length (form_tokens terms)
form_some [] some = absurd (omega (arith, some))
form_some (t ∷ terms) some = go t.negative t.term
  where
    go : (b : Bool) (u : Term) → 0 < length ((minus_before b ++ term_tokens u) ++ more_tokens terms)
    go true u = omega arith
    go false (Variable c) = omega arith
    go false (Multiple (Whole m) c) = omega arith
    go false (Multiple (Over m e) c) = omega arith
    go false (Constant (Whole m)) = omega arith
    go false (Constant (Over m e)) = omega arith

word_mark_of : (o : Operator) → word_mark (word_of o) ≡ mark.Word o
word_mark_of operator.Add = refl
word_mark_of operator.Sub = refl
word_mark_of operator.Min = refl
word_mark_of operator.Max = refl

factor_here : (q : ℚ) (x y : List Plain) → SpellsSigned q x → factor_at (x ++ (PlainSign Comma ∷ y)) ≡ Some (q, PlainSign Comma ∷ y)
factor_here q x y (negative, n, is, value) = ap (λ l. factor_at (l ++ (PlainSign Comma ∷ y))) is ∙ go negative n ∙ ap (λ p. Some (p, PlainSign Comma ∷ y)) (sym value)
  where
    go : (b : Bool) (m : Numeral) → factor_at ((minus_before b ++ numeral_tokens m) ++ (PlainSign Comma ∷ y)) ≡ Some (fraction b m, PlainSign Comma ∷ y)
    go true (Whole m) = refl
    go true (Over m e) = refl
    go false (Whole m) = refl
    go false (Over m e) = refl

-- a call's tokens, and those of its operands
call_long : (w : List ℕ) (x y : List Plain) → length (call w (pair x y)) ≡ 4 + (length x + length y)
call_long w x y =
    let all = length-append (pair x y) (PlainSign RightParen ∷ []) in
    let both = length-append (x ++ PlainSign Comma ∷ []) y in
    let first = length-append x (PlainSign Comma ∷ []) in
    omega (arith, all, both, first)

module _ (k n : ℕ) (a : Formula) (x : List Plain) (each : (y : List Plain) → Stops y → formula_at k n (x ++ y) ≡ Some (a, y)) where
  before_comma : (y : List Plain) → option_and_then after_comma (formula_at k n (x ++ (PlainSign Comma ∷ y))) ≡ Some (a, y)
  before_comma y = ap (option_and_then after_comma) (each (PlainSign Comma ∷ y) tt)

  before_right : (y : List Plain) → option_and_then after_right (formula_at k n (x ++ (PlainSign RightParen ∷ y))) ≡ Some (a, y)
  before_right y = ap (option_and_then after_right) (each (PlainSign RightParen ∷ y) tt)

two_here : (k n : ℕ) (o : Operator) (a b : Formula) (x y r : List Plain) → ((z : List Plain) → Stops z → formula_at k n (x ++ z) ≡ Some (a, z)) → ((z : List Plain) → Stops z → formula_at k n (y ++ z) ≡ Some (b, z))
    → formula_at k (suc n) (call (word_of o) (pair x y) ++ r) ≡ Some (applied o a b, r)
two_here k n o a b x y r first second =
    ap (λ m. call_at (formula_at k n) m ((pair x y ++ PlainSign RightParen ∷ []) ++ r)) (word_mark_of o)
    ∙ ap (two_at (formula_at k n) o) (operands x y r)
    ∙ ap (option_and_then {T = Formula × List Plain} {U = Formula × List Plain} (λ p. option_map (λ q. (applied o p.0 q.0, q.1)) (option_and_then after_right (formula_at k n p.1)))) (before_comma k n a x first (y ++ (PlainSign RightParen ∷ r)))
    ∙ ap (option_map {T = Formula × List Plain} {U = Formula × List Plain} (λ q. (applied o a q.0, q.1))) (before_right k n b y second r)

scaled_here : (k n : ℕ) (q : ℚ) (a : Formula) (x y r : List Plain) → SpellsSigned q x → ((z : List Plain) → Stops z → formula_at k n (y ++ z) ≡ Some (a, z))
    → formula_at k (suc n) (call (codes "scale") (pair x y) ++ r) ≡ Some (Scale q a, r)
scaled_here k n q a x y r factor second =
    ap (scaled_at (formula_at k n)) (operands x y r)
    ∙ ap (λ o. option_and_then {T = ℚ × List Plain} {U = Formula × List Plain} (λ p. option_map (λ b. (Scale p.0 b.0, b.1)) (option_and_then after_right (formula_at k n p.1))) (option_and_then after_comma o)) (factor_here q x (y ++ (PlainSign RightParen ∷ r)) factor)
    ∙ ap (option_map {T = Formula × List Plain} {U = Formula × List Plain} (λ b. (Scale q b.0, b.1))) (before_right k n a y second r)

formula_here : (k n : ℕ) (e : Formula) (x : List Plain) → SpellsFormula k e x → length x ≤ n → (r : List Plain) → Stops r → formula_at k n (x ++ r) ≡ Some (e, r)
formula_here k zero (Lin f) x (terms, are, is) few r stops = absurd (omega (arith, few, ap length is, form_some terms are.some))
formula_here k zero (Add a b) x (xa, xb, sa, sb, is) few r stops = absurd (omega (arith, few, ap length is, call_long (codes "add") xa xb))
formula_here k zero (Sub a b) x (xa, xb, sa, sb, is) few r stops = absurd (omega (arith, few, ap length is, call_long (codes "sub") xa xb))
formula_here k zero (Scale q a) x (xq, xa, sq, sa, is) few r stops = absurd (omega (arith, few, ap length is, call_long (codes "scale") xq xa))
formula_here k zero (Min a b) x (xa, xb, sa, sb, is) few r stops = absurd (omega (arith, few, ap length is, call_long (codes "min") xa xb))
formula_here k zero (Max a b) x (xa, xb, sa, sb, is) few r stops = absurd (omega (arith, few, ap length is, call_long (codes "max") xa xb))
formula_here k (suc n) (Lin f) x spells few r stops = lin_here k n f x r spells stops
formula_here k (suc n) (Add a b) x (xa, xb, sa, sb, is) few r stops =
    let long = call_long (codes "add") xa xb in
    ap (λ l. formula_at k (suc n) (l ++ r)) is
    ∙ two_here k n operator.Add a b xa xb r (formula_here k n a xa sa (omega (arith, few, ap length is, long))) (formula_here k n b xb sb (omega (arith, few, ap length is, long)))
formula_here k (suc n) (Sub a b) x (xa, xb, sa, sb, is) few r stops =
    let long = call_long (codes "sub") xa xb in
    ap (λ l. formula_at k (suc n) (l ++ r)) is
    ∙ two_here k n operator.Sub a b xa xb r (formula_here k n a xa sa (omega (arith, few, ap length is, long))) (formula_here k n b xb sb (omega (arith, few, ap length is, long)))
formula_here k (suc n) (Scale q a) x (xq, xa, sq, sa, is) few r stops =
    let long = call_long (codes "scale") xq xa in
    ap (λ l. formula_at k (suc n) (l ++ r)) is ∙ scaled_here k n q a xq xa r sq (formula_here k n a xa sa (omega (arith, few, ap length is, long)))
formula_here k (suc n) (Min a b) x (xa, xb, sa, sb, is) few r stops =
    let long = call_long (codes "min") xa xb in
    ap (λ l. formula_at k (suc n) (l ++ r)) is
    ∙ two_here k n operator.Min a b xa xb r (formula_here k n a xa sa (omega (arith, few, ap length is, long))) (formula_here k n b xb sb (omega (arith, few, ap length is, long)))
formula_here k (suc n) (Max a b) x (xa, xb, sa, sb, is) few r stops =
    let long = call_long (codes "max") xa xb in
    ap (λ l. formula_at k (suc n) (l ++ r)) is
    ∙ two_here k n operator.Max a b xa xb r (formula_here k n a xa sa (omega (arith, few, ap length is, long))) (formula_here k n b xb sb (omega (arith, few, ap length is, long)))

-- ---- all of some tokens

left_is : {T : Type 0} (p : T × List Plain) (a : T) → nothing_left p ≡ Some a → (p.0 ≡ a) × (p.1 ≡ [])
left_is (b, []) a is = (same_Some b a is, refl)
left_is (b, t ∷ ts) a is = absurd (none-some a is)

pub form_from_is : (k : ℕ) (f : List ℚ) (ts : List Plain) → form_from k ts ≡ Some f → SpellsForm k f ts
unfolding form_from
form_from_is k f ts is =
    let (p, found, all) = then_found {A = List ℚ × List Plain} nothing_left (form_at k ts) f is in
    let (same, none) = left_is p f all in
    let (x, spells, ts_is) = form_is k ts p.0 p.1 found in
    subst (SpellsForm k f) (sym (ts_is ∙ ap (λ l. x ++ l) none ∙ append-nil x)) (subst (λ g. SpellsForm k g x) same spells)

pub is_form_from : (k : ℕ) (f : List ℚ) (ts : List Plain) → SpellsForm k f ts → form_from k ts ≡ Some f
unfolding form_from
is_form_from k f ts spells = ap (λ l. option_and_then nothing_left (form_at k l)) (sym (append-nil ts)) ∙ ap (option_and_then nothing_left) (form_here k f ts [] spells tt)

-- ---- forms without negative coefficients

plain_terms : (terms : List Signed) → are_plain terms ≡ true → ArePlain terms
plain_terms [] is = tt
plain_terms (t ∷ terms) is =
    let (first, rest) = and_parts (not t.negative && has_variable t.term) (are_plain terms) is in
    let (sign, variable) = and_parts (not t.negative) (has_variable t.term) first in
    (unequal t.negative sign, plain t.term variable, plain_terms terms rest)
  where
    plain : (u : Term) → has_variable u ≡ true → IsPlainTerm u
    plain (Variable column) is = tt
    plain (Multiple n column) is = tt
    plain (Constant n) is = let wrong : false ≡ true = is in cc

terms_plain : (terms : List Signed) → ArePlain terms → are_plain terms ≡ true
terms_plain [] are = refl
terms_plain (t ∷ terms) (sign, variable, rest) = ap₂ (λ a b. a && b) (ap₂ (λ a b. not a && b) sign (has t.term variable)) (terms_plain terms rest)
  where
    has : (u : Term) → IsPlainTerm u → has_variable u ≡ true
    has (Variable column) is = refl
    has (Multiple n column) is = refl
    has (Constant n) is = absurd is

zero_is : (ts : List Plain) → is_zero ts ≡ true → ts ≡ PlainNumber (pos 0) ∷ []
zero_is (PlainNumber (pos zero) ∷ []) is = refl
zero_is ts is = let wrong : false ≡ true = is in cc

-- terms that all have a variable are not the number 0 alone
no_zero : (terms : List Signed) → 0 < length terms → ArePlain terms → is_zero (form_tokens terms) ≡ false
no_zero [] some are = absurd (omega (arith, some))
no_zero (t ∷ terms) some (sign, variable, rest) = ap (λ b. is_zero ((minus_before b ++ term_tokens t.term) ++ more_tokens terms)) sign ∙ go t.term variable
  where
    go : (u : Term) → IsPlainTerm u → is_zero (term_tokens u ++ more_tokens terms) ≡ false
    go (Variable column) is = refl
    go (Multiple (Whole zero) column) is = refl
    go (Multiple (Whole (suc n)) column) is = refl
    go (Multiple (Over zero e) column) is = refl
    go (Multiple (Over (suc n) e) column) is = refl
    go (Constant n) is = absurd is

pub plain_form_from_is : (k : ℕ) (f : List ℚ) (ts : List Plain) → plain_form_from k ts ≡ Some f → SpellsPlain k f ts
unfolding plain_form_from
plain_form_from_is k f ts is = go (is_zero ts) refl is
  where
    go : (b : Bool) → is_zero ts ≡ b → cond b (Some (replicate k 0ℚ)) (option_and_then (plain_with_terms k) (option_and_then nothing_left (terms_at ts))) ≡ Some f → SpellsPlain k f ts
    go true alone found = inl (zero_is ts alone, sym (same_Some (replicate k 0ℚ) f found))
    go false other found =
        let (terms, all, rest) = then_found (plain_with_terms k) (option_and_then nothing_left (terms_at ts)) f found in
        let (p, taken_p, left) = then_found {A = List Signed × List Plain} nothing_left (terms_at ts) terms all in
        let (same, none) = left_is p terms left in
        let (some, tokens) = terms_are ts p.0 p.1 taken_p in
        let (test, form) = if_found (are_plain terms && (are_over k terms && stand_once k terms)) (Some (take k (form_of_terms k terms))) f rest in
        let (plain, others) = and_parts (are_plain terms) (are_over k terms && stand_once k terms) test in
        let (over, once) = and_parts (are_over k terms) (stand_once k terms) others in
        inr (
          form_of_terms k terms,
          terms,
          terms_of k terms (subst (λ l. 0 < length l) same some) over once,
          plain_terms terms plain,
          tokens ∙ ap (λ l. form_tokens p.0 ++ l) none ∙ append-nil (form_tokens p.0) ∙ ap form_tokens same,
          sym (same_Some (take k (form_of_terms k terms)) f form),
        )

pub is_plain_form_from : (k : ℕ) (f : List ℚ) (ts : List Plain) → SpellsPlain k f ts → plain_form_from k ts ≡ Some f
unfolding plain_form_from
is_plain_form_from k f ts (inl (alone, form)) = ap (λ l. cond (is_zero l) (Some (replicate k 0ℚ)) (option_and_then (plain_with_terms k) (option_and_then nothing_left (terms_at l)))) alone ∙ ap Some (sym form)
is_plain_form_from k f ts (inr (affine, terms, are, plain, is, form)) =
    let all : option_and_then nothing_left (terms_at (form_tokens terms)) ≡ Some terms =
    ap (λ l. option_and_then nothing_left (terms_at l)) (sym (append-nil (form_tokens terms))) ∙ ap (option_and_then {T = List Signed × List Plain} nothing_left) (terms_here terms [] are.some tt) in
    ap (λ l. cond (is_zero l) (Some (replicate k 0ℚ)) (option_and_then (plain_with_terms k) (option_and_then nothing_left (terms_at l)))) is
    ∙ ap₂ (λ b o. cond b (Some (replicate k 0ℚ)) (option_and_then (plain_with_terms k) o)) (no_zero terms are.some plain) all
    ∙ ap₂ (λ a b. cond (a && b) (Some (take k (form_of_terms k terms))) None) (terms_plain terms plain) (ap₂ (λ a b. a && b) (over_terms k terms are.over) (once_terms k terms are.once))
    ∙ ap Some (ap (take k) (of_terms k affine terms are) ∙ sym form)

-- ---- formulas

pub formula_from_is : (k : ℕ) (e : Formula) (ts : List Plain) → formula_from k ts ≡ Some e → SpellsFormula k e ts
unfolding formula_from
formula_from_is k e ts is =
    let (p, found, all) = then_found {A = Formula × List Plain} nothing_left (formula_at k (length ts) ts) e is in
    let (same, none) = left_is p e all in
    let (x, spells, ts_is) = formula_is k (length ts) ts p found in
    subst (SpellsFormula k e) (sym (ts_is ∙ ap (λ l. x ++ l) none ∙ append-nil x)) (subst (λ g. SpellsFormula k g x) same spells)

pub is_formula_from : (k : ℕ) (e : Formula) (ts : List Plain) → SpellsFormula k e ts → formula_from k ts ≡ Some e
unfolding formula_from
is_formula_from k e ts spells =
    ap (λ l. option_and_then nothing_left (formula_at k (length ts) l)) (sym (append-nil ts)) ∙ ap (option_and_then nothing_left) (formula_here k (length ts) e ts spells (omega arith) [] tt)

-- tokens spell one formula at most
pub one_formula_from : (k : ℕ) (e f : Formula) (ts : List Plain) → SpellsFormula k e ts → SpellsFormula k f ts → e ≡ f
one_formula_from k e f ts a b = same_Some e f (sym (is_formula_from k e ts a) ∙ is_formula_from k f ts b)

pub one_form_from : (k : ℕ) (f g : List ℚ) (ts : List Plain) → SpellsForm k f ts → SpellsForm k g ts → f ≡ g
one_form_from k f g ts a b = same_Some f g (sym (is_form_from k f ts a) ∙ is_form_from k g ts b)

pub one_plain_form_from : (k : ℕ) (f g : List ℚ) (ts : List Plain) → SpellsPlain k f ts → SpellsPlain k g ts → f ≡ g
one_plain_form_from k f g ts a b = same_Some f g (sym (is_plain_form_from k f ts a) ∙ is_plain_form_from k g ts b)
