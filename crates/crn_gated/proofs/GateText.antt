-- What the tokens of a form with a gate spell.
use Rattle.std.proofs.Common.{◌≡◌, ℕ, suc, ◌+◌, ◌-◌, ◌<◌, ◌≤◌, Bool, true, false, cond, ◌&&◌, ◌==◌, pos, List, [], ◌∷◌, ◌++◌, length, map, take, drop, Option, Some, None, refl, sym, ◌∙◌, ap, ap₂, subst, arith, eqb-true, ⊎_elim, lt-ltb, length-append}
use Rattle.std.proofs.lemmas.Bool.{ltb-true, leb-true, le-leb, and_parts}
use Rattle.std.proofs.lemmas.List.{take-append-drop, drop-map}
use Rattle.std.proofs.lemmas.List.Elements.{All-nil, All-cons, All-head}
use Rattle.std.proofs.lemmas.Option.{none-some, same_Some}
use Rattle.std.proofs.lemmas.Slice.Eq.{bytes_eq-Decides}
use Rattle.std.specs.Prelude.{codes, nat_lt, nat_le}
use Rattle.std.specs.Option.{option_map, option_and_then}
use Rattle.crn_fraction.specs.Rational.{ℚ}
use Rattle.crn_token.specs.declared.Token.{Token}
use Rattle.crn_token.specs.Plain.{Plain, PlainWord, PlainNumber, PlainSign}
use Rattle.crn_token.specs.Words.{rest_of, begins, number_at}
use Rattle.crn_token.proofs.Options.{then_found, map_found, if_found}
use Rattle.std.proofs.Math.Seq.{take-append_seam, take-append-add, drop-append_seam}
use Rattle.crn_form_text.specs.Grammar.{Numeral, Whole, Over, numeral_tokens, minus_before, Term, Variable, Multiple, Constant, name_tokens, term_tokens, Signed, sign_before, more_tokens, form_tokens, SpellsPlain}
use Rattle.crn_form_text.specs.Reading.{plain_form_at, placed_at}
use Rattle.crn_form_text.proofs.PlainSpells.{IsFound, plain_found}
use Rattle.crn_form_text.proofs.Meanings.{plain_long, plain_nonnegative}
use Rattle.crn_form_text.proofs.ParsedLaws.{one_plain_form_from}
use Rattle.crn_gated.specs.Forms.{GatedForm, IsGateOver, IsGatedForm}
use Rattle.crn_gated.specs.Grammar.{gate_tokens, SpellsGated, within, variable_at, named_gate, gate_of, gated, gated_form_of}

-- ---- what is read is spelled

-- the word that begins the tokens
word_first : (word : List ℕ) (ts : List Plain) → begins word ts ≡ true → ts ≡ PlainWord word ∷ rest_of ts
word_first word [] is = let wrong : false ≡ true = is in cc
word_first word (PlainWord letters ∷ ts) is = ap (λ l. PlainWord l ∷ ts) ((bytes_eq-Decides letters word).0 is)
word_first word (PlainNumber n ∷ ts) is = let wrong : false ≡ true = is in cc
word_first word (PlainSign sign ∷ ts) is = let wrong : false ≡ true = is in cc

-- the number that begins them
number_first : (ts : List Plain) (v : ℕ) → number_at ts ≡ Some v → ts ≡ PlainNumber (pos v) ∷ rest_of ts
number_first (PlainNumber (pos n) ∷ ts) v is = ap (λ m. PlainNumber (pos m) ∷ ts) (same_Some n v is)
number_first _ v is = absurd (none-some v is)

within_is : (k n v : ℕ) → within k n ≡ Some v → (1 ≤ v) × (v ≤ k) × (n ≡ v)
within_is k n v is =
    let (test, same) = if_found (nat_lt 0 n && nat_le n k) (Some n) v is in
    let n_is : n ≡ v = same_Some n v same in
    let (above, below) = and_parts (nat_lt 0 n) (nat_le n k) test in
    (omega (arith, n_is, ltb-true 0 n above), omega (arith, n_is, leb-true n k below), n_is)

variable_is : (k v : ℕ) (ts : List Plain) → variable_at k ts ≡ Some v → (1 ≤ v) × (v ≤ k) × (ts ≡ PlainWord (codes "x") ∷ PlainNumber (pos v) ∷ rest_of (rest_of ts))
variable_is k v ts is =
    let (x, rest) = if_found (begins (codes "x") ts) (option_and_then (within k) (number_at (rest_of ts))) v is in
    let (n, number, here) = then_found (within k) (number_at (rest_of ts)) v rest in
    let (low, high, same) = within_is k n v here in
    (low, high, word_first (codes "x") ts x ∙ ap (λ us. PlainWord (codes "x") ∷ us) (number_first (rest_of ts) v (number ∙ ap (λ m. Some m) same)))

-- three tokens, of which two are taken, leave none after a third
nothing_left : (a b c : Plain) (us : List Plain) (ts : List Plain) → length ts ≡ 3 → ts ≡ a ∷ b ∷ c ∷ us → us ≡ []
nothing_left a b c [] ts three is = refl
nothing_left a b c (u ∷ us) ts three is = absurd (omega (arith, three, ap length is))

-- no gate, or one of k variables, whose tokens these are
abbrev Spelled : ℕ → Option ℕ → List Plain → Type 0
Spelled k gate ts = IsGateOver k gate × (ts ≡ gate_tokens gate)

named_spelled : (k v : ℕ) (ts : List Plain) → length ts ≡ 3 → begins (codes "if") ts ≡ true → variable_at k (rest_of ts) ≡ Some v → Spelled k (Some v) ts
named_spelled k v ts three begin is =
    let (low, high, rest) = variable_is k v (rest_of ts) is in
    let all = word_first (codes "if") ts begin ∙ ap (λ us. PlainWord (codes "if") ∷ us) rest in
    let none = nothing_left (PlainWord (codes "if")) (PlainWord (codes "x")) (PlainNumber (pos v)) (rest_of (rest_of (rest_of ts))) ts three all in (
      All-cons (λ n. (1 ≤ n) × (n ≤ k)) v [] (low, high) (All-nil (λ n. (1 ≤ n) × (n ≤ k))),
      all ∙ ap (λ us. PlainWord (codes "if") ∷ PlainWord (codes "x") ∷ PlainNumber (pos v) ∷ us) none,
    )

gate_named : (k : ℕ) (gate : Option ℕ) (ts : List Plain) → named_gate k ts ≡ Some gate → Spelled k gate ts
gate_named k gate ts is =
    let (test, rest) = if_found (length ts == 3 && begins (codes "if") ts) (option_map (λ v. Some v) (variable_at k (rest_of ts))) gate is in
    let (three, begin) = and_parts (length ts == 3) (begins (codes "if") ts) test in
    let (v, here, same) = map_found (λ v. Some v) (variable_at k (rest_of ts)) gate rest in
    subst (λ g. Spelled k g ts) same (named_spelled k v ts (eqb-true (length ts) 3 three) begin here)

empty : (ts : List Plain) → length ts ≡ 0 → ts ≡ []
empty [] none = refl
empty (t ∷ ts) none = absurd (omega arith)

gate_spelled : (k : ℕ) (gate : Option ℕ) (ts : List Plain) → gate_of k ts ≡ Some gate → Spelled k gate ts
gate_spelled k gate ts is = go (length ts == 0) refl is
  where
    go : (b : Bool) → length ts == 0 ≡ b → cond b (Some None) (named_gate k ts) ≡ Some gate → Spelled k gate ts
    go true none found = subst (λ g. Spelled k g ts) (same_Some None gate found) (All-nil (λ n. (1 ≤ n) × (n ≤ k)), empty ts (eqb-true (length ts) 0 none))
    go false some found = gate_named k gate ts found

pub gated_spelled : (k : ℕ) (f : GatedForm) (ts : List Plain) → k ≤ 8 → gated_form_of k ts ≡ Some f → SpellsGated k f ts
gated_spelled k f ts few is =
    let (p, found, rest) = then_found (λ p. option_map (gated p.0) (gate_of k (drop p.1 ts))) (plain_form_at k ts) f is in
    let (gate, here, same) = map_found (gated p.0) (gate_of k (drop p.1 ts)) f rest in
    let is_found : IsFound k ts (Some p) = subst (IsFound k ts) found (plain_found k ts few) in
    let (over, tokens) = gate_spelled k gate (drop p.1 ts) here in
    subst (λ h. SpellsGated k h ts) same (record {
      plain = take p.1 ts;
      spells = is_found.1;
      over = over;
      tokens_are = sym (take-append-drop p.1 ts) ∙ ap (λ us. take p.1 ts ++ us) tokens;
    })

-- what is spelled is a form by the rule
pub spelled_fits : (k : ℕ) (f : GatedForm) (ts : List Plain) → SpellsGated k f ts → IsGatedForm k f
spelled_fits k f ts spelled = record {
  long = plain_long k f.form spelled.plain spelled.spells;
  nonnegative = plain_nonnegative k f.form spelled.plain spelled.spells;
  gate = spelled.over;
}

-- ---- a reader of tokens

-- no form begins the tokens after the first
pub none_read : (k : ℕ) (pt : Token → Plain) (ts : List Token) → None ≡ option_map (placed_at 1) (plain_form_at k (drop 1 (map pt ts))) → None ≡ gated_form_of k (map pt (rest_of ts))
none_read k pt [] none = refl
none_read k pt (t ∷ ts) none = go (plain_form_at k (map pt ts)) refl none
  where
    go : (o : Option (List ℚ × ℕ)) → plain_form_at k (map pt ts) ≡ o → None ≡ option_map (placed_at 1) o → None ≡ option_and_then (λ p. option_map (gated p.0) (gate_of k (drop p.1 (map pt ts)))) (plain_form_at k (map pt ts))
    go None is same = sym (ap (option_and_then (λ p. option_map (gated p.0) (gate_of k (drop p.1 (map pt ts))))) is)
    go (Some p) is same = absurd (none-some _ same)

-- this one does, and this follows it
pub some_read : (k : ℕ) (pt : Token → Plain) (ts us : List Token) (form : List ℚ) (next : ℕ) → Some (form, next) ≡ option_map (placed_at 1) (plain_form_at k (drop 1 (map pt ts))) → us ≡ drop next ts
    → option_map (gated form) (gate_of k (map pt us)) ≡ gated_form_of k (map pt (rest_of ts))
some_read k pt [] us form next some rest = absurd (none-some (form, next) (sym some))
some_read k pt (t ∷ ts) us form next some rest =
    let (p, found, same) = map_found (placed_at 1) (plain_form_at k (map pt ts)) (form, next) (sym some) in
    let form_is : p.0 ≡ form = ap (λ q. q.0) same in
    let next_is : next ≡ 1 + p.1 = sym (ap (λ q. q.1) same) in
    let left : us ≡ drop p.1 ts = rest ∙ ap (λ n. drop n (t ∷ ts)) next_is ∙ ap (λ n. drop n (t ∷ ts)) (let e : 1 + p.1 ≡ suc p.1 = omega arith in e) in
    ap₂ (λ f vs. option_map (gated f) (gate_of k vs)) (sym form_is) (ap (map pt) left ∙ sym (drop-map pt p.1 ts))
    ∙ sym (ap (option_and_then (λ q. option_map (gated q.0) (gate_of k (drop q.1 (map pt ts))))) found)

-- ---- what is spelled is read

-- each word is `x`
abbrev OnlyX : List Plain → Type 0
OnlyX [] = Unit {0}
OnlyX (PlainWord letters ∷ ts) = (letters ≡ codes "x") × OnlyX ts
OnlyX (PlainNumber n ∷ ts) = OnlyX ts
OnlyX (PlainSign sign ∷ ts) = OnlyX ts

only_append : (xs ys : List Plain) → OnlyX xs → OnlyX ys → OnlyX (xs ++ ys)
only_append [] ys first second = second
only_append (PlainWord letters ∷ xs) ys first second = (first.0, only_append xs ys first.1 second)
only_append (PlainNumber n ∷ xs) ys first second = only_append xs ys first second
only_append (PlainSign sign ∷ xs) ys first second = only_append xs ys first second

only_back : (xs ys : List Plain) → OnlyX (xs ++ ys) → OnlyX ys
only_back [] ys all = all
only_back (PlainWord letters ∷ xs) ys all = only_back xs ys all.1
only_back (PlainNumber n ∷ xs) ys all = only_back xs ys all
only_back (PlainSign sign ∷ xs) ys all = only_back xs ys all

numeral_only : (n : Numeral) → OnlyX (numeral_tokens n)
numeral_only (Whole n) = tt
numeral_only (Over n e) = tt

term_only : (t : Term) → OnlyX (term_tokens t)
term_only (Variable column) = (refl, tt)
term_only (Multiple n column) = only_append (numeral_tokens n) (name_tokens column) (numeral_only n) (refl, tt)
term_only (Constant n) = numeral_only n

minus_only : (negative : Bool) → OnlyX (minus_before negative)
minus_only true = tt
minus_only false = tt

sign_only : (negative : Bool) → OnlyX (sign_before negative)
sign_only true = tt
sign_only false = tt

more_only : (terms : List Signed) → OnlyX (more_tokens terms)
more_only [] = tt
more_only (t ∷ terms) =
    only_append (sign_before t.negative ++ term_tokens t.term) (more_tokens terms) (only_append (sign_before t.negative) (term_tokens t.term) (sign_only t.negative) (term_only t.term)) (more_only terms)

form_only : (terms : List Signed) → OnlyX (form_tokens terms)
form_only [] = tt
form_only (t ∷ terms) =
    only_append (minus_before t.negative ++ term_tokens t.term) (more_tokens terms) (only_append (minus_before t.negative) (term_tokens t.term) (minus_only t.negative) (term_only t.term)) (more_only terms)

-- so the tokens of a form have no `if`
no_if : (k : ℕ) (form : List ℚ) (xs us : List Plain) → SpellsPlain k form (xs ++ PlainWord (codes "if") ∷ us) → ⊥
no_if k form xs us spells =
    ⊎_elim
    (λ zero. let all : OnlyX (xs ++ PlainWord (codes "if") ∷ us) = subst OnlyX (sym zero.0) tt in wrong all)
    (λ terms. let all : OnlyX (xs ++ PlainWord (codes "if") ∷ us) = subst OnlyX (sym terms.4) (form_only terms.1) in wrong all)
    spells
  where
    other : codes "if" ≡ codes "x" → ⊥
    other same = absurd (cc same)

    wrong : OnlyX (xs ++ PlainWord (codes "if") ∷ us) → ⊥
    wrong all = other (only_back xs (PlainWord (codes "if") ∷ us) all).0

-- the tokens of a gate are read as it
gate_read : (k : ℕ) (gate : Option ℕ) → IsGateOver k gate → gate_of k (gate_tokens gate) ≡ Some gate
gate_read k None over = refl
gate_read k (Some v) over = let (low, high) = All-head (λ n. (1 ≤ n) × (n ≤ k)) v [] over in rw (lt-ltb 0 v low, le-leb v k high) refl

-- more tokens than those of the form are no form
no_longer : (k n : ℕ) (form : List ℚ) (xs : List Plain) (gate : Option ℕ) → length xs < n → n ≤ length (xs ++ gate_tokens gate) → SpellsPlain k form (take n (xs ++ gate_tokens gate)) → ⊥
no_longer k n form xs None longer within spells = absurd (omega (arith, longer, within, length-append xs []))
no_longer k n form xs (Some v) longer within spells =
    let split : n ≡ length xs + suc (n - length xs - 1) = omega (arith, longer) in
    let here : take n (xs ++ gate_tokens (Some v)) ≡ xs ++ PlainWord (codes "if") ∷ take (n - length xs - 1) (PlainWord (codes "x") ∷ PlainNumber (pos v) ∷ []) =
    ap (λ m. take m (xs ++ gate_tokens (Some v))) split ∙ take-append-add xs (gate_tokens (Some v)) (suc (n - length xs - 1)) in
    no_if k form xs (take (n - length xs - 1) (PlainWord (codes "x") ∷ PlainNumber (pos v) ∷ [])) (subst (SpellsPlain k form) here spells)

pub spelled_gated : (k : ℕ) (f : GatedForm) (ts : List Plain) → k ≤ 8 → SpellsGated k f ts → gated_form_of k ts ≡ Some f
spelled_gated k f ts few spelled = subst (λ us. gated_form_of k us ≡ Some f) (sym spelled.tokens_are) (go (plain_form_at k all) refl (plain_found k all few))
  where
    xs : List Plain
    xs = spelled.plain

    all : List Plain
    all = xs ++ gate_tokens f.gate

    front : SpellsPlain k f.form (take (length xs) all)
    front = subst (SpellsPlain k f.form) (sym (take-append_seam xs (gate_tokens f.gate))) spelled.spells

    short : length xs ≤ length all
    short = omega (arith, length-append xs (gate_tokens f.gate))

    read : (h : List ℚ) (n : ℕ) → n ≡ length xs → SpellsPlain k h (take n all) → option_map (gated h) (gate_of k (drop n all)) ≡ Some f
    read h n same spells =
        let whole : take n all ≡ xs = ap (λ m. take m all) same ∙ take-append_seam xs (gate_tokens f.gate) in
        let left : drop n all ≡ gate_tokens f.gate = ap (λ m. drop m all) same ∙ drop-append_seam xs (gate_tokens f.gate) in
        let one : h ≡ f.form = one_plain_form_from k h f.form xs (subst (SpellsPlain k h) whole spells) spelled.spells in
        ap (λ us. option_map (gated h) (gate_of k us)) left ∙ ap (option_map (gated h)) (gate_read k f.gate spelled.over) ∙ ap (λ g. Some (gated g f.gate)) one

    go : (o : Option (List ℚ × ℕ)) → plain_form_at k all ≡ o → IsFound k all (plain_form_at k all) → gated_form_of k all ≡ Some f
    go None is found = absurd ((subst (IsFound k all) is found) (length xs) f.form short front)
    go (Some (h, n)) is found =
        let (within, spells, longest) = subst (IsFound k all) is found in
        ap (option_and_then (λ p. option_map (gated p.0) (gate_of k (drop p.1 all)))) is
        ∙ ⊎_elim
        (λ (low : n < length xs). absurd (longest (length xs) f.form low short front))
        (λ (high : length xs ≤ n). ⊎_elim
        (λ (more : length xs < n). absurd (no_longer k n h xs f.gate more within spells))
        (λ (same : n ≡ length xs). read h n same spells)
        (grind (arith, high)))
        (grind arith)

-- the variable by its number, where `x` comes first
pub variable_by : (k : ℕ) (ts us : List Plain) (o : Option ℕ) → begins (codes "x") ts ≡ true → us ≡ rest_of ts → o ≡ number_at us → option_and_then (within k) o ≡ variable_at k ts
variable_by k ts us o begin us_is o_is =
    ap (option_and_then (within k)) (o_is ∙ ap number_at us_is) ∙ sym (ap (λ b. cond b (option_and_then (within k) (number_at (rest_of ts))) None) begin)
