-- Blanks only part tokens, comments say nothing, and lines end at line feeds.
use Rattle.std.proofs.Common.{◌≡◌, ◌≢◌, ℕ, suc, ◌+◌, ◌-◌, ◌<◌, ◌≤◌, Bool, true, false, cond, ltb, lt-ltb, ◌==◌, ◌&&◌, List, [], ◌∷◌, ◌++◌, length, take, Option, Some, None, is_some, sym, refl, ap, ap₂, ◌∙◌, subst, ⊎_elim, arith, ne_eqb, one-add, append_assoc, append-nil, add-zero}
use Rattle.std.proofs.lemmas.Bool.{cases_Bool}
use Rattle.std.proofs.lemmas.List.{take-append-le}
use Rattle.std.specs.List.{before_first, prefix_len}
use Rattle.std.specs.Char.{is_ascii_digit, is_ascii_alphabetic}
use Rattle.std.proofs.Math.Bool.{and-false}
use Rattle.crn_token.specs.Blanks.{IsBlank, HasNo}
use Rattle.crn_token.specs.Piece.{is_blank, sign_of, longest}
use Rattle.crn_token.specs.Lines.{joined, physical_lines, onto_line, without_comment}
use Rattle.crn_token.specs.Plain.{Plain, plain_of, plain_from, said, kept_line, plain_lines_from}
use Rattle.crn_token.proofs.Cut.{longest-le}
use Rattle.crn_token.proofs.Longest.{longest_letters, longest_digits, longest_short}

-- a byte that is a piece alone, and neither goes on a piece nor is gone on
pub record IsParting (b : ℕ) : Type 0 where
  pub letter : is_ascii_alphabetic b ≡ false
  pub digit : is_ascii_digit b ≡ false
  pub blank : is_blank (b ∷ []) ≡ true
  pub first : (c : ℕ) → is_some (sign_of (b ∷ c ∷ [])) ≡ false
  pub second : (x : ℕ) → is_some (sign_of (x ∷ b ∷ [])) ≡ false

pub parting : (b : ℕ) → IsBlank b → IsParting b
parting b blank = ⊎_elim (λ e. subst IsParting (sym e) space) (λ more. ⊎_elim (λ e. subst IsParting (sym e) tab) (λ e. subst IsParting (sym e) return) more) blank
  where
    space : IsParting 32
    space = record { letter = refl; digit = refl; blank = refl; first = λ c. refl; second = λ x. simp and-false }

    tab : IsParting 9
    tab = record { letter = refl; digit = refl; blank = refl; first = λ c. refl; second = λ x. simp and-false }

    return : IsParting 13
    return = record { letter = refl; digit = refl; blank = refl; first = λ c. refl; second = λ x. simp and-false }

prefix_len-stop : (test : ℕ → Bool) (xs cs : List ℕ) (b : ℕ) → test b ≡ false → prefix_len test (xs ++ b ∷ cs) ≡ prefix_len test xs
prefix_len-stop test [] cs b stop = rw stop refl
prefix_len-stop test (x ∷ xs) cs b stop =
    ⊎_elim
    (λ t. rw t (ap (λ n. 1 + n) (prefix_len-stop test xs cs b stop)))
    (λ f. rw f refl)
    (cases_Bool (test x))

-- no piece reaches over the byte
short_same : (x : ℕ) (xs cs : List ℕ) (b : ℕ) (rest : ℕ) → IsParting b
    → cond (ltb 1 (length (x ∷ xs ++ b ∷ cs)) && is_some (sign_of (take 2 (x ∷ xs ++ b ∷ cs)))) 2 rest ≡ cond (ltb 1 (length (x ∷ xs)) && is_some (sign_of (take 2 (x ∷ xs)))) 2 rest
short_same x [] cs b rest p = rw (p.second x, and-false) refl
short_same x (y ∷ ys) cs b rest p = rw (lt-ltb 1 (suc (suc (length (ys ++ b ∷ cs)))) (omega arith), lt-ltb 1 (suc (suc (length ys))) (omega arith)) refl

longest-parting : (x : ℕ) (xs cs : List ℕ) (b : ℕ) → IsParting b → longest (x ∷ xs ++ b ∷ cs) ≡ longest (x ∷ xs)
longest-parting x xs cs b p =
    ⊎_elim
    (λ letter. longest_letters (x ∷ xs ++ b ∷ cs) (omega arith) letter ∙ prefix_len-stop is_ascii_alphabetic (x ∷ xs) cs b p.letter ∙ sym (longest_letters (x ∷ xs) (omega arith) letter))
    (λ no_letter. ⊎_elim
    (λ digit. longest_digits (x ∷ xs ++ b ∷ cs) (omega arith) digit ∙ prefix_len-stop is_ascii_digit (x ∷ xs) cs b p.digit ∙ sym (longest_digits (x ∷ xs) (omega arith) digit))
    (λ no_digit. longest_short (x ∷ xs ++ b ∷ cs) (omega arith) no_letter no_digit ∙ short_same x xs cs b _ p ∙ sym (longest_short (x ∷ xs) (omega arith) no_letter no_digit))
    (cases_Bool (is_ascii_digit x)))
    (cases_Bool (is_ascii_alphabetic x))

-- the byte is a piece alone
pub parting_alone : (b : ℕ) (cs : List ℕ) → IsParting b → longest (b ∷ cs) ≡ 1
parting_alone b [] p = longest_short (b ∷ []) (omega arith) p.letter p.digit ∙ rw p.blank refl
parting_alone b (c ∷ cs) p = longest_short (b ∷ c ∷ cs) (omega arith) p.letter p.digit ∙ rw (p.first c, and-false (ltb 1 (length (b ∷ c ∷ cs))), p.blank) refl

pub plain_parting : (b : ℕ) → IsParting b → plain_of (b ∷ []) ≡ Some []
unfolding plain_of
plain_parting b p = rw p.blank refl

pub joined_assoc : (a b c : Option (List Plain)) → joined a (joined b c) ≡ joined (joined a b) c
joined_assoc None b c = refl
joined_assoc (Some xs) None c = refl
joined_assoc (Some xs) (Some ys) None = refl
joined_assoc (Some xs) (Some ys) (Some zs) = ap Some (sym (append_assoc xs ys zs))

plain-parting : (bs cs : List ℕ) (b covered : ℕ) → IsParting b → covered ≤ length bs → plain_from covered (bs ++ b ∷ cs) ≡ joined (plain_from covered bs) (plain_from 0 cs)
plain-parting [] cs b covered p short =
    let none : covered ≡ 0 = omega arith in
    rw (none, parting_alone b cs p, plain_parting b p) refl
plain-parting (x ∷ xs) cs b covered p short =
    let long : longest (x ∷ xs ++ b ∷ cs) ≡ longest (x ∷ xs) = longest-parting x xs cs b p in
    let front : take (longest (x ∷ xs ++ b ∷ cs)) (x ∷ xs ++ b ∷ cs) ≡ take (longest (x ∷ xs)) (x ∷ xs) =
    ap (λ n. take n (x ∷ xs ++ b ∷ cs)) long ∙ take-append-le (longest (x ∷ xs)) (x ∷ xs) (b ∷ cs) (longest-le (x ∷ xs)) in
    ⊎_elim
    (λ t. rw t (ap₂ joined (ap plain_of front) (ap (λ n. plain_from (n - 1) (xs ++ b ∷ cs)) long ∙ plain-parting xs cs b (longest (x ∷ xs) - 1) p (omega (arith, longest-le (x ∷ xs))))
    ∙ joined_assoc (plain_of (take (longest (x ∷ xs)) (x ∷ xs))) (plain_from (longest (x ∷ xs) - 1) xs) (plain_from 0 cs)))
    (λ f. rw f (plain-parting xs cs b (covered - 1) p (omega arith)))
    (cases_Bool (covered == 0))

-- a blank parts two pieces of a line
pub plain-blank : (ws cs : List ℕ) (b : ℕ) → IsBlank b → plain_from 0 (ws ++ b ∷ cs) ≡ joined (plain_from 0 ws) (plain_from 0 cs)
plain-blank ws cs b blank = plain-parting ws cs b 0 (parting b blank) (omega arith)

-- what stands before the first mark where the mark comes later
pub before-append : (mark : ℕ) (ws cs : List ℕ) → HasNo mark ws → before_first (λ b. b == mark) (ws ++ cs) ≡ ws ++ before_first (λ b. b == mark) cs
before-append mark [] cs none = refl
before-append mark (a ∷ ws) cs none = rw (ne_eqb a mark none.0, one-add) (ap (λ l. a ∷ l) (before-append mark ws cs none.1))

no_comment : (b : ℕ) → IsBlank b → b ≢ 35
no_comment b blank = ⊎_elim (λ e. λ is. absurd (omega arith)) (λ more. ⊎_elim (λ e. λ is. absurd (omega arith)) (λ e. λ is. absurd (omega arith)) more) blank

pub said-blank : (ws cs : List ℕ) (b : ℕ) → IsBlank b → HasNo 35 ws → said (ws ++ b ∷ cs) ≡ joined (said ws) (said cs)
said-blank ws cs b blank none =
    let line : without_comment (ws ++ b ∷ cs) ≡ ws ++ b ∷ without_comment cs =
    before-append 35 ws (b ∷ cs) none ∙ ap (λ l. ws ++ l) (before-append 35 (b ∷ []) cs (no_comment b blank, tt)) in
    let front : without_comment ws ≡ ws = ap without_comment (sym (append-nil ws)) ∙ before-append 35 ws [] none ∙ append-nil ws in
    ap (plain_from 0) line ∙ plain-blank ws (without_comment cs) b blank ∙ ap (λ l. joined (plain_from 0 l) (said cs)) (sym front)

before_next : (mark a : ℕ) (bs : List ℕ) → (a == mark) ≡ false → before_first (λ b. b == mark) (a ∷ bs) ≡ a ∷ before_first (λ b. b == mark) bs
before_next mark a bs other = rw (other, one-add) refl

-- a comment says nothing
pub comment_cut : (ws cs : List ℕ) → without_comment (ws ++ 35 ∷ cs) ≡ without_comment ws
comment_cut [] cs = refl
comment_cut (a ∷ ws) cs =
    ⊎_elim
    (λ t. rw t refl)
    (λ f. before_next 35 a (ws ++ 35 ∷ cs) f ∙ ap (λ l. a ∷ l) (comment_cut ws cs) ∙ sym (before_next 35 a ws f))
    (cases_Bool (a == 35))

-- a line ends at its line feed
pub lines-feed : (line rest : List ℕ) → HasNo 10 line → physical_lines (line ++ 10 ∷ rest) ≡ line ∷ physical_lines rest
lines-feed [] rest none = refl
lines-feed (b ∷ bs) rest none = rw (ne_eqb b 10 none.0) (ap (onto_line b) (lines-feed bs rest none.1))

-- a last line needs none
lines_last : (b : ℕ) (bs : List ℕ) → HasNo 10 (b ∷ bs) → physical_lines (b ∷ bs) ≡ (b ∷ bs) ∷ []
lines_last b [] none = rw (ne_eqb b 10 none.0) refl
lines_last b (c ∷ cs) none = rw (ne_eqb b 10 none.0) (ap (onto_line b) (lines_last c cs none.1))

pub lines-last : (line : List ℕ) → 0 < length line → HasNo 10 line → physical_lines line ≡ line ∷ []
lines-last [] some none = absurd (omega arith)
lines-last (b ∷ bs) some none = lines_last b bs none

-- a line feed after the last line changes nothing
pub feed_more : (bs : List ℕ) (b : ℕ) → b ≢ 10 → physical_lines (bs ++ b ∷ 10 ∷ []) ≡ physical_lines (bs ++ b ∷ [])
feed_more [] b other = rw (ne_eqb b 10 other) refl
feed_more (x ∷ xs) b other = ap (λ (ls : List (List ℕ)). cond (x == 10) ([] ∷ ls) (onto_line x ls)) (feed_more xs b other)

-- each line says what it says alone
pub lines_alone : (number : ℕ) (lines more : List (List ℕ)) → plain_lines_from number (lines ++ more) ≡ plain_lines_from number lines ++ plain_lines_from (number + length lines) more
lines_alone number [] more = rw add-zero refl
lines_alone number (line ∷ lines) more =
    let moved : number + 1 + length lines ≡ number + suc (length lines) = omega arith in
    ap (λ l. kept_line number (said line) ++ l) (lines_alone (number + 1) lines more ∙ ap (λ n. plain_lines_from (number + 1) lines ++ plain_lines_from n more) moved)
    ∙ sym (append_assoc (kept_line number (said line)) (plain_lines_from (number + 1) lines) (plain_lines_from (number + suc (length lines)) more))
