-- What begins the bytes, told by the first of them.
use Rattle.std.proofs.Common.{◌≡◌, ℕ, zero, suc, ◌+◌, ◌<◌, ◌≤◌, Bool, true, false, cond, eqb, ltb, ◌&&◌, ◌||◌, List, [], ◌∷◌, length, take, get_or, Some, None, is_some, refl, ◌∙◌, ⊎_elim, inl, inr, arith, one-add}
use Rattle.std.proofs.lemmas.Bool.{cases_Bool, and_parts, or_cases, eqb-true, ltb-true}
use Rattle.std.proofs.lemmas.List.{length-take-le}
use Rattle.std.proofs.lemmas.List.Sums.{prefix_len-le-length}
use Rattle.std.proofs.lemmas.Option.{none-some}
use Rattle.std.specs.List.{prefix_len}
use Rattle.std.specs.Char.{is_ascii_digit, is_ascii_alphabetic}
use Rattle.crn_token.specs.Blanks.{IsBlank}
use Rattle.crn_token.specs.declared.Token.{Token}
use Rattle.crn_token.specs.declared.Token.TheVariants.{Word}
use Rattle.crn_token.specs.Piece.{is_blank, sign_of, longest, token_of, digits_token, symbol_of}
use Rattle.crn_token.specs.Lines.{tokens_from}
use Rattle.crn_token.proofs.Longest.{list_all-take, no_blank_two, no_blank_letter, no_blank_digit, no_letter_digit, longest_short}
use Rattle.crn_token.proofs.BlankLaws.{parting, parting_alone}

-- the first byte is no letter, no digit and no blank
pub record IsOther (bs : List ℕ) : Type 0 where
  pub letter : is_ascii_alphabetic (get_or bs 0 0) ≡ false
  pub digit : is_ascii_digit (get_or bs 0 0) ≡ false
  pub blank : is_blank (get_or bs 0 0 ∷ []) ≡ false

blank_byte : (b : ℕ) → is_blank (b ∷ []) ≡ true → IsBlank b
blank_byte b blank =
    ⊎_elim
    (λ (space : (eqb b 32 && true) ≡ true). inl (eqb-true b 32 (and_parts (eqb b 32) true space).0))
    (λ (more : ((eqb b 9 && true) || (eqb b 13 && true)) ≡ true). ⊎_elim
    (λ (tab : (eqb b 9 && true) ≡ true). inr (inl (eqb-true b 9 (and_parts (eqb b 9) true tab).0)))
    (λ (return : (eqb b 13 && true) ≡ true). inr (inr (eqb-true b 13 (and_parts (eqb b 13) true return).0)))
    (or_cases (eqb b 9 && true) (eqb b 13 && true) more))
    (or_cases (eqb b 32 && true) ((eqb b 9 && true) || (eqb b 13 && true)) blank)

-- a blank is a piece alone
pub longest_blank : (bs : List ℕ) → 0 < length bs → is_blank (get_or bs 0 0 ∷ []) ≡ true → longest bs ≡ 1
longest_blank [] some blank = absurd (omega arith)
longest_blank (b ∷ cs) some blank = parting_alone b cs (parting b (blank_byte b blank))

pub token_blank : (line at : ℕ) (bs : List ℕ) → 0 < length bs → is_blank (get_or bs 0 0 ∷ []) ≡ true → token_of line at (take 1 bs) ≡ Some []
unfolding token_of
token_blank line at [] some blank = absurd (omega arith)
token_blank line at (b ∷ cs) some blank = rw blank refl

-- what begins with a byte that passes has a run
pub run_some : (test : ℕ → Bool) (bs : List ℕ) → 0 < length bs → test (get_or bs 0 0) ≡ true → 0 < prefix_len test bs
run_some test [] some passes = absurd (omega arith)
run_some test (b ∷ cs) some passes = rw passes (omega arith)

-- the letters that begin the bytes are a word
pub token_word : (line at : ℕ) (bs : List ℕ) → 0 < length bs → is_ascii_alphabetic (get_or bs 0 0) ≡ true
    → token_of line at (take (prefix_len is_ascii_alphabetic bs) bs) ≡ Some (Word (record { line = line; start = at; end = at + prefix_len is_ascii_alphabetic bs }) ∷ [])
unfolding token_of
token_word line at [] some letter = absurd (omega arith)
token_word line at (b ∷ cs) some letter =
    let n = prefix_len is_ascii_alphabetic cs in
    let long : length (take n cs) ≡ n = length-take-le n cs (prefix_len-le-length is_ascii_alphabetic cs) in
    rw (letter, one-add, no_blank_letter b (take n cs) letter, letter, list_all-take is_ascii_alphabetic cs, long) refl

-- the digits that begin the bytes are a number, where they are one
pub token_number : (line at : ℕ) (bs : List ℕ) → 0 < length bs → is_ascii_digit (get_or bs 0 0) ≡ true
    → token_of line at (take (prefix_len is_ascii_digit bs) bs) ≡ digits_token (record { line = line; start = at; end = at + prefix_len is_ascii_digit bs }) (take (prefix_len is_ascii_digit bs) bs)
unfolding token_of
token_number line at [] some digit = absurd (omega arith)
token_number line at (b ∷ cs) some digit =
    let n = prefix_len is_ascii_digit cs in
    let long : length (take n cs) ≡ n = length-take-le n cs (prefix_len-le-length is_ascii_digit cs) in
    rw (digit, one-add, no_blank_digit b (take n cs) digit, no_letter_digit b digit, digit, list_all-take is_ascii_digit cs, long) refl

-- how long the symbol is that begins the bytes, or 0 where none does
abbrev pub symbol_len : List ℕ → ℕ
symbol_len bs = cond (ltb 1 (length bs) && is_some (sign_of (take 2 bs))) 2 (cond (is_some (sign_of (take 1 bs))) 1 0)

-- a symbol lies within the bytes, and has at most two
pub symbol_fits : (bs : List ℕ) → 0 < length bs → (symbol_len bs ≤ length bs) × (symbol_len bs ≤ 2)
symbol_fits bs some =
    let pair = is_some (sign_of (take 2 bs)) in
    let one = is_some (sign_of (take 1 bs)) in
    ⊎_elim
    (λ (two : (ltb 1 (length bs) && pair) ≡ true). let long = ltb-true 1 (length bs) (and_parts (ltb 1 (length bs)) pair two).0 in rw two (omega arith, omega arith))
    (λ (not_two : (ltb 1 (length bs) && pair) ≡ false). ⊎_elim
    (λ (is : one ≡ true). rw (not_two, is) (omega arith, omega arith))
    (λ (not_one : one ≡ false). rw (not_two, not_one) (omega arith, omega arith))
    (cases_Bool one))
    (cases_Bool (ltb 1 (length bs) && pair))

-- where no letter, digit or blank begins the bytes, the longest piece is the symbol that does
pub longest_symbol : (bs : List ℕ) → 0 < length bs → IsOther bs → longest bs ≡ symbol_len bs
longest_symbol [] some other = absurd (omega arith)
longest_symbol (b ∷ cs) some other = longest_short (b ∷ cs) some other.letter other.digit ∙ rw other.blank refl

pub token_symbol : (line at n : ℕ) (bs : List ℕ) → n ≤ length bs → n ≤ 2 → IsOther bs → token_of line at (take n bs) ≡ symbol_of (record { line = line; start = at; end = at + n }) (sign_of (take n bs))
unfolding token_of
token_symbol line at zero bs within few other = refl
token_symbol line at (suc n) [] within few other = absurd (omega arith)
token_symbol line at (suc zero) (b ∷ cs) within few other = rw (other.blank, other.letter, other.digit) refl
token_symbol line at (suc (suc zero)) (b ∷ []) within few other = absurd (omega arith)
token_symbol line at (suc (suc zero)) (b ∷ c ∷ cs) within few other = rw (no_blank_two b c [], other.letter, other.digit) refl
token_symbol line at (suc (suc (suc n))) (b ∷ cs) within few other = absurd (omega arith)

-- what has a token has a byte
pub piece_some : (line at n : ℕ) (bs : List ℕ) (ts : List Token) → token_of line at (take n bs) ≡ Some ts → 0 < n
unfolding token_of
piece_some line at zero bs ts token = absurd (none-some ts token)
piece_some line at (suc n) bs ts token = omega arith

-- bytes that begin with no token are bad
pub front_bad : (line at : ℕ) (bs : List ℕ) → 0 < length bs → token_of line at (take (longest bs) bs) ≡ None → tokens_from line 0 at bs ≡ None
front_bad line at [] some bad = absurd (omega arith)
front_bad line at (b ∷ cs) some bad = rw bad refl
