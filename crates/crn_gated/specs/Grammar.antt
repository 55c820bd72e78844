-- The grammar of gated function text: which line may follow which, apart from how a text is read.
use Rattle.std.specs.Prelude.{ℕ, suc, ◌≡◌, nat_lt, nat_le, ◌&&◌, ◌==◌, Bool, pos, List, [], ◌∷◌, ◌++◌, length, drop, Option, Some, None, if◌then◌else◌, codes}
use Rattle.std.specs.Str.{bytes_eq}
use Rattle.std.specs.Option.{option_map, option_and_then}
use Rattle.crn_fraction.specs.Rational.{ℚ}
use Rattle.crn_token.specs.declared.Counted.{Counted}
use Rattle.crn_token.specs.declared.Counted.TheVariants as counted
use Rattle.crn_token.specs.Plain.{Plain, PlainLine, PlainWord, PlainNumber, plain_lines, line_number, end_of}
use Rattle.crn_token.specs.Words.{rest_of, says, begins, number_at}
use Rattle.crn_grammar.specs.Table.{Table, Answer, answer}
use Rattle.crn_grammar.specs.Part.{PartAnswer, part_answer}
use Rattle.crn_grammar.specs.Limits.{above}
use Rattle.crn_form_text.specs.Grammar.{SpellsPlain}
use Rattle.crn_form_text.specs.Reading.{plain_form_at}
use Rattle.crn_gated.specs.Forms.{GatedForm, IsGateOver}

-- forms with gates over so many variables
pub record PlainGated : Type 0 where
  pub variables : ℕ
  pub forms : List GatedForm

-- where a text stands: at its start, or after a line of each kind, with what was read
pub data Place : Type 0 where
  Start : Place
  Header : Place
  Sized : ℕ → Place
  InForms : ℕ → List GatedForm → Place

-- ---- what the tokens of a form with a gate spell

-- `if` and the variable, or nothing
abbrev pub gate_tokens : Option ℕ → List Plain
gate_tokens None = []
gate_tokens (Some v) = PlainWord (codes "if") ∷ PlainWord (codes "x") ∷ PlainNumber (pos v) ∷ []

-- the tokens are a text of a form without negative coefficients, and then of its gate
pub record SpellsGated (k : ℕ) (f : GatedForm) (tokens : List Plain) : Type 0 where
  pub plain : List Plain
  pub spells : SpellsPlain k f.form plain
  pub over : IsGateOver k f.gate
  pub tokens_are : tokens ≡ plain ++ gate_tokens f.gate

-- ---- what stands after the first word of a line

-- the number of a variable, if it is one of k
abbrev pub within : ℕ → ℕ → Option ℕ
within k v = if nat_lt 0 v && nat_le v k then Some v else None

-- the variable `xI` that begins the tokens
abbrev pub variable_at : ℕ → List Plain → Option ℕ
variable_at k tokens = if begins (codes "x") tokens then option_and_then (within k) (number_at (rest_of tokens)) else None

-- the gate `if xI` that is all the tokens
abbrev pub named_gate : ℕ → List Plain → Option (Option ℕ)
named_gate k tokens = if length tokens == 3 && begins (codes "if") tokens then option_map (λ v. Some v) (variable_at k (rest_of tokens)) else None

-- the gate, or none where there are no tokens
abbrev pub gate_of : ℕ → List Plain → Option (Option ℕ)
gate_of k tokens = if length tokens == 0 then Some None else named_gate k tokens

abbrev pub gated : List ℚ → Option ℕ → GatedForm
gated form gate = record { form = form; gate = gate }

-- the longest form without negative coefficients that begins the tokens, and its gate by all the others
abbrev pub gated_form_of : ℕ → List Plain → Option GatedForm
gated_form_of k tokens = option_and_then (λ p. option_map (gated p.0) (gate_of k (drop p.1 tokens))) (plain_form_at k tokens)

-- `gated`
abbrev pub header : List Plain → Option Place
header (PlainWord letters ∷ []) = if bytes_eq letters (codes "gated") then Some Header else None
header _ = None

-- a number of at least 1
abbrev pub size : List Plain → Option Place
size (PlainNumber (pos (suc k)) ∷ []) = Some (Sized (suc k))
size _ = None

-- ---- the table of what may follow

-- the word that a line begins with
abbrev pub word_after : Place → List ℕ
word_after Start = codes "function"
word_after Header = codes "variables"
word_after (Sized k) = codes "form"
word_after (InForms k forms) = codes "form"

-- what it says after that word
abbrev pub follow : Place → List Plain → Option Place
follow Start rest = header rest
follow Header rest = size rest
follow (Sized k) rest = option_map (λ f. InForms k (f ∷ [])) (gated_form_of k rest)
follow (InForms k forms) rest = option_map (λ f. InForms k (forms ++ f ∷ [])) (gated_form_of k rest)

-- the line begins with that word
abbrev pub goes_on : Place → PlainLine → Bool
goes_on place line = begins (word_after place) (says line)

abbrev pub next : Place → PlainLine → Option Place
next place line = if goes_on place line then follow place (rest_of (says line)) else None

-- the function, if the text may end here
abbrev pub whole : Place → Option PlainGated
whole Start = None
whole Header = None
whole (Sized k) = None
whole (InForms k forms) = Some (record { variables = k; forms = forms })

-- ---- limits, which do not belong to the grammar

abbrev pub most_variables : ℕ
most_variables = 8

abbrev pub most_forms : ℕ
most_forms = 32

-- the limit that the last line passed
abbrev pub limit : Place → Option (Counted × ℕ)
limit Start = None
limit Header = None
limit (Sized k) = above most_variables counted.Variables k
limit (InForms k forms) = above most_forms counted.Forms (length forms)

-- the grammar
abbrev pub gated_table : Table Place PlainLine PlainGated (Counted × ℕ)
gated_table = record { start = Start; next = next; whole = whole; limit = limit }

-- ---- texts

-- the answer to lines of a text, and to a text
abbrev pub lines_answer : List ℕ → List PlainLine → Answer PlainGated (Counted × ℕ)
lines_answer bytes lines = answer gated_table line_number (end_of bytes) Start lines

abbrev pub gated_answer : List ℕ → Answer PlainGated (Counted × ℕ)
gated_answer bytes = lines_answer bytes (plain_lines bytes)

-- the answer to the function part that lines of a text begin with, and to the one that begins a text
abbrev pub part_of_lines : List ℕ → List PlainLine → PartAnswer PlainLine PlainGated (Counted × ℕ)
part_of_lines bytes lines = part_answer gated_table goes_on line_number (end_of bytes) Start lines

abbrev pub gated_part : List ℕ → PartAnswer PlainLine PlainGated (Counted × ℕ)
gated_part bytes = part_of_lines bytes (plain_lines bytes)
