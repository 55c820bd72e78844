-- The text of two functions, one after the other.
use Rattle.std.specs.Prelude.{ℕ, List}
use Rattle.crn_token.specs.declared.Counted.{Counted}
use Rattle.crn_token.specs.Plain.{PlainLine, plain_lines, line_number, end_of}
use Rattle.crn_grammar.specs.Table.{Table, Answer, answer}
use Rattle.crn_grammar.specs.Part.{Either}
use Rattle.crn_grammar.specs.Followed.{Following, followed_table}
use Rattle.crn_formula.specs.Views.{Function}
use Rattle.crn_function_text.specs.Grammar.{PlainFunction, Place, function_table, goes_on}
use Rattle.crn_function_text.specs.Reading.{function_of}

pub record TwoFunctions : Type 0 where
  pub first : PlainFunction
  pub second : PlainFunction

abbrev pub two : PlainFunction → PlainFunction → TwoFunctions
two first second = record { first = first; second = second }

-- the grammar: a function part, and then another one
abbrev pub two_table : Table (Either Place (Following PlainFunction Place)) PlainLine TwoFunctions (Counted × ℕ)
two_table = followed_table function_table goes_on (λ first. function_table) two

-- the answer to a text
abbrev pub two_answer : List ℕ → Answer TwoFunctions (Counted × ℕ)
two_answer bytes = answer two_table line_number (end_of bytes) two_table.start (plain_lines bytes)

-- two functions of the code
abbrev pub two_of : Function × Function → TwoFunctions
two_of (first, second) = two (function_of first) (function_of second)
