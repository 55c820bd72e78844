-- What is printed as tokens reads as those tokens.
use Rattle.std.proofs.Common.{◌≡◌, ◌≢◌, ℕ, suc, ◌+◌, ◌<◌, ◌≤◌, ◌^◌, Bool, true, false, lt-ltb, ltb, List, [], ◌∷◌, ◌++◌, length, Some, is_some, sym, refl, ap, ap₂, ◌∙◌, inl, arith, ne_eqb, append-nil}
use Rattle.std.proofs.lemmas.Bool.{and_parts, false≢true}
use Rattle.std.proofs.lemmas.Bool.Decides.{nat_tests}
use Rattle.std.proofs.lemmas.Int.{ints}
use Rattle.std.proofs.lemmas.Fmt.{decimal_is_IsNumeral}
use Rattle.std.specs.Fmt.{decimal}
use Rattle.std.specs.Prelude.{ℤ, pos, unsigned_abs}
use Rattle.std.specs.List.{list_all}
use Rattle.std.specs.Char.{is_ascii_digit, is_ascii_alphabetic}
use Rattle.std.proofs.Math.Bool.{and-false, or-true}
use Rattle.crn_token.specs.declared.Sign.{Sign}
use Rattle.crn_token.specs.declared.Sign.TheVariants.{LeftParen, RightParen, Comma, Plus, Minus, Slash, Colon, Arrow, AtLeast}
use Rattle.crn_token.specs.Blanks.{HasNo}
use Rattle.crn_token.specs.Piece.{is_run, sign_of, longest}
use Rattle.crn_token.specs.Lines.{physical_lines, without_comment}
use Rattle.crn_token.specs.Plain.{Plain, PlainWord, PlainNumber, PlainSign, PlainLine, plain_of, plain_from, said, kept_line, plain_lines_from}
use Rattle.crn_token.specs.Printed.{Item, Shown, Blank, sign_bytes, token_bytes, spelled, shown, IsToken, keep_apart, ends_before, IsPrinted, AreLines, printed, lines_read}
use Rattle.crn_token.proofs.Longest.{longest_short, no_letter_digit, no_digit_letter, no_blank_letter}
use Rattle.crn_token.proofs.Printed.{Stops, longest-word, longest-digits}
use Rattle.crn_token.proofs.RoundTrip.{plain-piece, plain_digits, number_decimal, run_decimal}
use Rattle.crn_token.proofs.BlankLaws.{parting, parting_alone, plain_parting, before-append, lines-feed}

-- a number from 0 on is what its size is
size_of : (n : ℤ) → IsToken (PlainNumber n) → pos (unsigned_abs n) ≡ n
size_of n fits = omega (arith, ints)

small_of : (n : ℤ) → IsToken (PlainNumber n) → unsigned_abs n ≤ 9223372036854775807
small_of n fits = omega (arith, ints)

-- what begins with a byte of one kind stops each kind that has no such byte
stops_run : (kind test : ℕ → Bool) (bs rest : List ℕ) → is_run kind bs ≡ true → ((b : ℕ) → kind b ≡ true → test b ≡ false) → Stops test (bs ++ rest)
stops_run kind test [] rest run other = absurd (false≢true run)
stops_run kind test (b ∷ bs) rest run other = other b (and_parts (kind b) (list_all kind bs) run).0

stops_number : (test : ℕ → Bool) (n : ℤ) (rest : List ℕ) → IsToken (PlainNumber n) → ((b : ℕ) → is_ascii_digit b ≡ true → test b ≡ false) → Stops test (decimal (unsigned_abs n) ++ rest)
stops_number test n rest fits other = stops_run is_ascii_digit test (decimal (unsigned_abs n)) rest (run_decimal (unsigned_abs n) (omega (arith, small_of n fits))) other

-- no symbol begins with a letter or a digit
letter_sign : (sign : Sign) (rest : List ℕ) → Stops is_ascii_alphabetic (sign_bytes sign ++ rest)
letter_sign LeftParen rest = refl
letter_sign RightParen rest = refl
letter_sign Comma rest = refl
letter_sign Plus rest = refl
letter_sign Minus rest = refl
letter_sign Slash rest = refl
letter_sign Colon rest = refl
letter_sign Arrow rest = refl
letter_sign AtLeast rest = refl

digit_sign : (sign : Sign) (rest : List ℕ) → Stops is_ascii_digit (sign_bytes sign ++ rest)
digit_sign LeftParen rest = refl
digit_sign RightParen rest = refl
digit_sign Comma rest = refl
digit_sign Plus rest = refl
digit_sign Minus rest = refl
digit_sign Slash rest = refl
digit_sign Colon rest = refl
digit_sign Arrow rest = refl
digit_sign AtLeast rest = refl

-- no letter goes on what stands before the items
after_word : (letters : List ℕ) (items : List Item) → IsPrinted items → ends_before (PlainWord letters) items ≡ true → Stops is_ascii_alphabetic (spelled items)
after_word letters [] fine ends = tt
after_word letters (Blank ∷ items) fine ends = refl
after_word letters (Shown (PlainWord w) ∷ items) fine ends = absurd (false≢true ends)
after_word letters (Shown (PlainNumber n) ∷ items) fine ends = stops_number is_ascii_alphabetic n (spelled items) fine.0 no_letter_digit
after_word letters (Shown (PlainSign sign) ∷ items) fine ends = letter_sign sign (spelled items)

-- no digit goes on what stands before the items
after_number : (n : ℤ) (items : List Item) → IsPrinted items → ends_before (PlainNumber n) items ≡ true → Stops is_ascii_digit (spelled items)
after_number n [] fine ends = tt
after_number n (Blank ∷ items) fine ends = refl
after_number n (Shown (PlainWord w) ∷ items) fine ends = stops_run is_ascii_alphabetic is_ascii_digit w (spelled items) fine.0 no_digit_letter
after_number n (Shown (PlainNumber m) ∷ items) fine ends = absurd (false≢true ends)
after_number n (Shown (PlainSign sign) ∷ items) fine ends = digit_sign sign (spelled items)

-- `-` and this byte are a symbol
abbrev makes_arrow : ℕ → Bool
makes_arrow c = is_some (sign_of (45 ∷ c ∷ []))

no_arrow_letter : (b : ℕ) → is_ascii_alphabetic b ≡ true → makes_arrow b ≡ false
no_arrow_letter b letter = rw (ne_eqb b 62 (grind (arith, nat_tests, letter))) refl

no_arrow_digit : (b : ℕ) → is_ascii_digit b ≡ true → makes_arrow b ≡ false
no_arrow_digit b digit = rw (ne_eqb b 62 (grind (arith, nat_tests, digit))) refl

arrow_sign : (sign : Sign) (rest : List ℕ) → keep_apart (PlainSign Minus) (PlainSign sign) ≡ true → Stops makes_arrow (sign_bytes sign ++ rest)
arrow_sign LeftParen rest apart = refl
arrow_sign RightParen rest apart = refl
arrow_sign Comma rest apart = refl
arrow_sign Plus rest apart = refl
arrow_sign Minus rest apart = refl
arrow_sign Slash rest apart = refl
arrow_sign Colon rest apart = refl
arrow_sign Arrow rest apart = refl
arrow_sign AtLeast rest apart = absurd (false≢true apart)

-- no `-` becomes another symbol by what follows it
after_minus : (items : List Item) → IsPrinted items → ends_before (PlainSign Minus) items ≡ true → Stops makes_arrow (spelled items)
after_minus [] fine ends = tt
after_minus (Blank ∷ items) fine ends = refl
after_minus (Shown (PlainWord w) ∷ items) fine ends = stops_run is_ascii_alphabetic makes_arrow w (spelled items) fine.0 no_arrow_letter
after_minus (Shown (PlainNumber n) ∷ items) fine ends = stops_number makes_arrow n (spelled items) fine.0 no_arrow_digit
after_minus (Shown (PlainSign sign) ∷ items) fine ends = arrow_sign sign (spelled items) ends

-- a symbol of one byte, where the next byte makes no longer one
one_byte : (b : ℕ) (rest : List ℕ) → is_ascii_alphabetic b ≡ false → is_ascii_digit b ≡ false → is_some (sign_of (b ∷ [])) ≡ true → Stops (λ c. is_some (sign_of (b ∷ c ∷ []))) rest → longest (b ∷ rest) ≡ 1
one_byte b [] letter digit sign stops = longest_short (b ∷ []) (omega arith) letter digit ∙ rw (sign, or-true) refl
one_byte b (c ∷ cs) letter digit sign stops = longest_short (b ∷ c ∷ cs) (omega arith) letter digit ∙ rw (stops, and-false (ltb 1 (length (b ∷ c ∷ cs))), sign, or-true) refl

-- a symbol of two bytes
two_bytes : (b c : ℕ) (rest : List ℕ) → is_ascii_alphabetic b ≡ false → is_ascii_digit b ≡ false → is_some (sign_of (b ∷ c ∷ [])) ≡ true → longest (b ∷ c ∷ rest) ≡ 2
two_bytes b c rest letter digit sign = longest_short (b ∷ c ∷ rest) (omega arith) letter digit ∙ rw (sign, lt-ltb 1 (suc (suc (length rest))) (omega arith)) refl

-- no byte goes on a symbol that begins no other
stops_never : (test : ℕ → Bool) (rest : List ℕ) → ((c : ℕ) → test c ≡ false) → Stops test rest
stops_never test [] never = tt
stops_never test (c ∷ cs) never = never c

longest_sign : (sign : Sign) (items : List Item) → IsPrinted items → ends_before (PlainSign sign) items ≡ true → longest (sign_bytes sign ++ spelled items) ≡ length (sign_bytes sign)
longest_sign LeftParen items fine ends = one_byte 40 (spelled items) refl refl refl (stops_never _ (spelled items) (λ c. refl))
longest_sign RightParen items fine ends = one_byte 41 (spelled items) refl refl refl (stops_never _ (spelled items) (λ c. refl))
longest_sign Comma items fine ends = one_byte 44 (spelled items) refl refl refl (stops_never _ (spelled items) (λ c. refl))
longest_sign Plus items fine ends = one_byte 43 (spelled items) refl refl refl (stops_never _ (spelled items) (λ c. refl))
longest_sign Minus items fine ends = one_byte 45 (spelled items) refl refl refl (after_minus items fine ends)
longest_sign Slash items fine ends = one_byte 47 (spelled items) refl refl refl (stops_never _ (spelled items) (λ c. refl))
longest_sign Colon items fine ends = one_byte 58 (spelled items) refl refl refl (stops_never _ (spelled items) (λ c. refl))
longest_sign Arrow items fine ends = two_bytes 45 62 (spelled items) refl refl refl
longest_sign AtLeast items fine ends = two_bytes 62 61 (spelled items) refl refl refl

-- a token that was printed is the longest piece there
longest_token : (token : Plain) (items : List Item) → IsToken token → ends_before token items ≡ true → IsPrinted items → longest (token_bytes token ++ spelled items) ≡ length (token_bytes token)
longest_token (PlainWord letters) items is ends fine = longest-word letters (spelled items) is (after_word letters items fine ends)
longest_token (PlainNumber n) items is ends fine =
    longest-digits (decimal (unsigned_abs n)) (spelled items) (run_decimal (unsigned_abs n) (omega (arith, small_of n is))) (after_number n items fine ends)
longest_token (PlainSign sign) items is ends fine = longest_sign sign items fine ends

some_run : (kind : ℕ → Bool) (bs : List ℕ) → is_run kind bs ≡ true → 0 < length bs
some_run kind [] run = absurd (false≢true run)
some_run kind (b ∷ bs) run = omega arith

some_sign : (sign : Sign) → 0 < length (sign_bytes sign)
some_sign LeftParen = omega arith
some_sign RightParen = omega arith
some_sign Comma = omega arith
some_sign Plus = omega arith
some_sign Minus = omega arith
some_sign Slash = omega arith
some_sign Colon = omega arith
some_sign Arrow = omega arith
some_sign AtLeast = omega arith

some_token : (token : Plain) → IsToken token → 0 < length (token_bytes token)
some_token (PlainWord letters) is = some_run is_ascii_alphabetic letters is
some_token (PlainNumber n) is = some_run is_ascii_digit (decimal (unsigned_abs n)) (run_decimal (unsigned_abs n) (omega (arith, small_of n is)))
some_token (PlainSign sign) is = some_sign sign

word_says : (letters : List ℕ) → is_run is_ascii_alphabetic letters ≡ true → plain_of letters ≡ Some (PlainWord letters ∷ [])
unfolding plain_of
word_says [] run = absurd (false≢true run)
word_says (b ∷ bs) run = rw (no_blank_letter b bs (and_parts (is_ascii_alphabetic b) (list_all is_ascii_alphabetic bs) run).0, run) refl

sign_says : (sign : Sign) → plain_of (sign_bytes sign) ≡ Some (PlainSign sign ∷ [])
unfolding plain_of
sign_says LeftParen = refl
sign_says RightParen = refl
sign_says Comma = refl
sign_says Plus = refl
sign_says Minus = refl
sign_says Slash = refl
sign_says Colon = refl
sign_says Arrow = refl
sign_says AtLeast = refl

-- a token that was printed reads as itself
token_says : (token : Plain) → IsToken token → plain_of (token_bytes token) ≡ Some (token ∷ [])
token_says (PlainWord letters) is = word_says letters is
token_says (PlainNumber n) is =
    let small : unsigned_abs n < 2 ^ 64 = omega (arith, small_of n is) in
    plain_digits (decimal (unsigned_abs n)) (run_decimal (unsigned_abs n) small) (number_decimal (unsigned_abs n) (small_of n is))
    ∙ ap (λ (m : ℤ). Some (PlainNumber m ∷ [])) (ap pos (decimal_is_IsNumeral (unsigned_abs n) small).1 ∙ size_of n is)
token_says (PlainSign sign) is = sign_says sign

-- a line that was printed as tokens reads as those tokens
pub line_reads : (items : List Item) → IsPrinted items → plain_from 0 (spelled items) ≡ Some (shown items)
line_reads [] fine = refl
line_reads (Blank ∷ items) fine =
    let space = parting 32 (inl refl) in
    plain-piece (32 ∷ []) (spelled items) (omega arith) (parting_alone 32 (spelled items) space)
    ∙ rw (plain_parting 32 space, line_reads items fine) refl
line_reads (Shown token ∷ items) fine =
    plain-piece (token_bytes token) (spelled items) (some_token token fine.0) (longest_token token items fine.0 fine.1 fine.2)
    ∙ rw (token_says token fine.0, line_reads items fine.2) refl

has_no_append : (mark : ℕ) (bs cs : List ℕ) → HasNo mark bs → HasNo mark cs → HasNo mark (bs ++ cs)
has_no_append mark [] cs first second = second
has_no_append mark (b ∷ bs) cs first second = (first.0, has_no_append mark bs cs first.1 second)

has_no_all : (kind : ℕ → Bool) (mark : ℕ) (bs : List ℕ) → ((b : ℕ) → kind b ≡ true → b ≢ mark) → list_all kind bs ≡ true → HasNo mark bs
has_no_all kind mark [] other all = tt
has_no_all kind mark (b ∷ bs) other all = (other b (and_parts (kind b) (list_all kind bs) all).0, has_no_all kind mark bs other (and_parts (kind b) (list_all kind bs) all).1)

has_no_run : (kind : ℕ → Bool) (mark : ℕ) (bs : List ℕ) → ((b : ℕ) → kind b ≡ true → b ≢ mark) → is_run kind bs ≡ true → HasNo mark bs
has_no_run kind mark [] other run = tt
has_no_run kind mark (b ∷ bs) other run = has_no_all kind mark (b ∷ bs) other run

letter_above : (b : ℕ) → is_ascii_alphabetic b ≡ true → 40 ≤ b
letter_above b letter = grind (arith, nat_tests, letter)

digit_above : (b : ℕ) → is_ascii_digit b ≡ true → 40 ≤ b
digit_above b digit = grind (arith, nat_tests, digit)

-- no byte of a token is below 40
has_no_sign : (mark : ℕ) → mark < 40 → (sign : Sign) → HasNo mark (sign_bytes sign)
has_no_sign mark low LeftParen = (λ e. absurd (omega arith), tt)
has_no_sign mark low RightParen = (λ e. absurd (omega arith), tt)
has_no_sign mark low Comma = (λ e. absurd (omega arith), tt)
has_no_sign mark low Plus = (λ e. absurd (omega arith), tt)
has_no_sign mark low Minus = (λ e. absurd (omega arith), tt)
has_no_sign mark low Slash = (λ e. absurd (omega arith), tt)
has_no_sign mark low Colon = (λ e. absurd (omega arith), tt)
has_no_sign mark low Arrow = (λ e. absurd (omega arith), (λ e. absurd (omega arith), tt))
has_no_sign mark low AtLeast = (λ e. absurd (omega arith), (λ e. absurd (omega arith), tt))

has_no_token : (mark : ℕ) → mark < 40 → (token : Plain) → IsToken token → HasNo mark (token_bytes token)
has_no_token mark low (PlainWord letters) is = has_no_run is_ascii_alphabetic mark letters (λ b letter e. absurd (omega (arith, letter_above b letter))) is
has_no_token mark low (PlainNumber n) is =
    has_no_run is_ascii_digit mark (decimal (unsigned_abs n)) (λ b digit e. absurd (omega (arith, digit_above b digit))) (run_decimal (unsigned_abs n) (omega (arith, small_of n is)))
has_no_token mark low (PlainSign sign) is = has_no_sign mark low sign

has_no_spelled : (mark : ℕ) → mark < 40 → 32 ≢ mark → (items : List Item) → IsPrinted items → HasNo mark (spelled items)
has_no_spelled mark low other [] fine = tt
has_no_spelled mark low other (Blank ∷ items) fine = (other, has_no_spelled mark low other items fine)
has_no_spelled mark low other (Shown token ∷ items) fine =
    has_no_append mark (token_bytes token) (spelled items) (has_no_token mark low token fine.0) (has_no_spelled mark low other items fine.2)

-- a printed line has no comment
line_says : (items : List Item) → IsPrinted items → said (spelled items) ≡ Some (shown items)
line_says items fine =
    let front : without_comment (spelled items) ≡ spelled items = ap without_comment (sym (append-nil (spelled items))) ∙ before-append 35 (spelled items) [] (has_no_spelled 35 (omega arith) (λ e. absurd (omega arith)) items fine) ∙ append-nil (spelled items) in
    ap (plain_from 0) front ∙ line_reads items fine

kept_some : (number : ℕ) (tokens : List Plain) → 0 < length tokens → kept_line number (Some tokens) ≡ record { number = number; bad = false; tokens = tokens } ∷ []
kept_some number [] some = absurd (omega arith)
kept_some number (t ∷ ts) some = refl

-- the physical lines of a printed text
pub lines_printed : (items : List Item) (lines : List (List Item)) → IsPrinted items → physical_lines (printed (items ∷ lines)) ≡ spelled items ∷ physical_lines (printed lines)
lines_printed items lines fine = lines-feed (spelled items) (printed lines) (has_no_spelled 10 (omega arith) (λ e. absurd (omega arith)) items fine)

lines_count : (lines : List (List Item)) → AreLines lines → length (physical_lines (printed lines)) ≡ length lines
lines_count [] fine = refl
lines_count (items ∷ lines) fine = ap length (lines_printed items lines fine.0) ∙ ap suc (lines_count lines fine.2)

lines_read_from : (number : ℕ) (lines : List (List Item)) → AreLines lines → plain_lines_from number (physical_lines (printed lines)) ≡ lines_read number lines
lines_read_from number [] fine = refl
lines_read_from number (items ∷ lines) fine =
    ap (plain_lines_from number) (lines_printed items lines fine.0)
    ∙ ap₂ (λ (a b : List PlainLine). a ++ b) (ap (kept_line number) (line_says items fine.0) ∙ kept_some number (shown items) fine.1) (lines_read_from (number + 1) lines fine.2)

-- a text that was printed reads as its lines
pub text_reads : (lines : List (List Item)) → AreLines lines → (length (physical_lines (printed lines)) ≡ length lines) × (plain_lines_from 1 (physical_lines (printed lines)) ≡ lines_read 1 lines)
text_reads lines fine = (lines_count lines fine, lines_read_from 1 lines fine)

-- a number that is at most the greatest is a token
pub IsToken-number : (n : ℕ) → n ≤ 9223372036854775807 → IsToken (PlainNumber (pos n))
IsToken-number n small = (omega (arith, ints), omega (arith, ints))

-- printed lines one after another
pub AreLines-append : (xs ys : List (List Item)) → AreLines xs → AreLines ys → AreLines (xs ++ ys)
AreLines-append [] ys first second = second
AreLines-append (x ∷ xs) ys (is, some, more) second = (is, some, AreLines-append xs ys more second)
