-- What a walk over the lines of a text leaves.
use Rattle.std.proofs.Common.{◌≡◌, ℕ, ◌+◌, ◌<◌, ◌≤◌, List, [], ◌++◌, length, drop, sym, refl, ap, ◌∙◌, arith, drop-drop, length-drop}
use Rattle.std.proofs.lemmas.List.{length-map}
use Rattle.std.specs.Prelude.{◌==◌, Bool, true, false}
use Rattle.std.specs.List.{before_first}
use Rattle.crn_token.specs.declared.Line.{Line}
use Rattle.crn_token.specs.declared.Lines.{Lines}
use Rattle.crn_token.specs.Lines.{AreLinesOf, TokenLine, view, physical_lines, token_line, token_lines_from, tokens_from, without_comment}
use Rattle.crn_token.specs.Plain.{PlainLine, plain_line, plain_lines, plain_lines_from}
use Rattle.crn_token.specs.Source.{IsRest, read_if}
use Rattle.crn_token.proofs.Cut.{lines_step, lines_count}
use Rattle.crn_token.proofs.LineLaws.{past_lines}
use Rattle.crn_token.proofs.TextLaws.{are_lines_say, lines_are_said}

-- a text has as many lines that say something as token lines
pub plain_count : (bytes : List ℕ) (lines : Lines) → AreLinesOf bytes lines → length (plain_lines bytes) ≡ length lines.lines.items
plain_count bytes lines are = ap length (sym (are_lines_say bytes lines are)) ∙ length-map lines.lines.items (plain_line bytes)

-- past the end nothing is left, however far
pub still_past : (bytes : List ℕ) (lines : Lines) (i : ℕ) → AreLinesOf bytes lines → length lines.lines.items ≤ i → drop i (plain_lines bytes) ≡ drop 1 (drop i (plain_lines bytes))
still_past bytes lines i are past = let none = past_lines bytes lines i are past in none ∙ sym (ap (drop 1) none)

-- a line further
pub rest_after : (text rest line after : List ℕ) (at count : ℕ) → IsRest text rest at count → 0 < length rest → line ≡ before_first (λ b. b == 10) rest → after ≡ drop (length line + 1) rest → length line ≤ length rest
    → IsRest text after (at + (length line + 1)) (count + 1)
rest_after text rest line after at count is some line_is after_is bound =
    let size : length rest + at ≡ length text = omega (arith, ap length is.here, length-drop at text) in
    record {
      here = sym (drop-drop (length line + 1) at text) ∙ ap (drop (length line + 1)) is.here ∙ sym after_is;
      small = is.small;
      within = omega (arith, size, bound);
      few = omega (arith, is.few);
      counted = omega (arith, is.counted, lines_count rest line after some line_is after_is);
    }

-- what was read of a line, and the lines after it
pub line_read : (count at next to : ℕ) (rest line after : List ℕ) (kept is_kept : Bool) (read : TokenLine) (whole : List TokenLine) → 0 < length rest → line ≡ before_first (λ b. b == 10) rest → after ≡ drop (length line + 1) rest
    → next ≡ count + 1 → to ≡ at + (length line + 1) → kept ≡ is_kept → read_if kept read ≡ token_line next (tokens_from next 0 at (without_comment line)) → token_lines_from (count + 1) at (physical_lines rest) ≡ whole
    → read_if is_kept read ++ token_lines_from (next + 1) to (physical_lines after) ≡ whole
line_read count at next to rest line after kept is_kept read whole some line_is after_is next_is to_is kept_is new before =
    let here : read_if is_kept read ≡ token_line (count + 1) (tokens_from (count + 1) 0 at (without_comment line)) = rw (← kept_is, ← next_is) new in
    rw (next_is, to_is) (lines_step count at rest line after [] (read_if is_kept read) whole some line_is after_is here before)

-- what was read says what stood there
pub says_read : (text rest after : List ℕ) (count at next to : ℕ) (kept : Bool) (line : Line) → IsRest text rest at count → IsRest text after to next
    → read_if kept (view line) ++ token_lines_from (next + 1) to (physical_lines after) ≡ token_lines_from (count + 1) at (physical_lines rest)
    → read_if kept (plain_line text line) ++ plain_lines_from (next + 1) (physical_lines after) ≡ plain_lines_from (count + 1) (physical_lines rest)
says_read text rest after count at next to kept line before then same =
    lines_are_said text rest after (count + 1) at (next + 1) to kept line before.here then.here same

-- where a line was read, what follows it is left
pub left_after : (kept : Bool) (line : PlainLine) (rest : List ℕ) (next : ℕ) → (kept ≡ false → rest ≡ []) → plain_lines_from next (physical_lines rest) ≡ drop 1 (read_if kept line ++ plain_lines_from next (physical_lines rest))
left_after true line rest next ends = refl
left_after false line rest next ends = rw (ends refl) refl
