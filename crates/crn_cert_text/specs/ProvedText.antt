-- The grammar of texts of a function and a proof, and how they are printed.
use Rattle.std.specs.Prelude.{ℕ, ◌+◌, List, ◌++◌, length}
use Rattle.std.specs.List.{range_with_len}
use Rattle.crn_token.specs.declared.Counted.{Counted}
use Rattle.crn_token.specs.Plain.{PlainLine, plain_lines, line_number, end_of}
use Rattle.crn_grammar.specs.Table.{Table, Answer, answer}
use Rattle.crn_grammar.specs.Part.{Either}
use Rattle.crn_grammar.specs.Followed.{Following, followed_table}
use Rattle.crn_function_text.specs.Grammar.{PlainFunction, Place, function_table, goes_on}
use Rattle.crn_function_text.specs.Printing.{function_lines, function_text}
use Rattle.crn_function_text.specs.Reading.{function_of}
use Rattle.crn_cert_text.specs.Proofs.{Line}
use Rattle.crn_cert_text.specs.Text.{PlainProof, proof_of, proof_table, proof_text}
use Rattle.crn_cert_text.specs.declared.proved.Proved.{Proved}

-- a function and a proof
pub record PlainProved : Type 0 where
  pub function : PlainFunction
  pub proof : PlainProof

abbrev pub proved_with : PlainFunction → PlainProof → PlainProved
proved_with f p = record { function = f; proof = p }

-- the same of the code
abbrev pub proved_of : Proved → PlainProved
proved_of p = record { function = function_of p.function; proof = proof_of p.proof }

-- a function part, and then proof lines
abbrev pub proved_table : Table (Either Place (Following PlainFunction PlainProof)) PlainLine PlainProved (Counted × ℕ)
proved_table = followed_table function_table goes_on (λ f. proof_table) proved_with

-- the answer to a text
abbrev pub proved_answer : List ℕ → Answer PlainProved (Counted × ℕ)
proved_answer bytes = answer proved_table line_number (end_of bytes) proved_table.start (plain_lines bytes)

-- the printed text
abbrev pub proved_text : PlainFunction → List Line → List ℕ
proved_text f lines = function_text f ++ proof_text lines

-- what it reads as: the numbers of the proof lines follow those of the function's lines
abbrev pub printed_proof : PlainFunction → List Line → PlainProved
printed_proof f lines = record { function = f; proof = record { lines = lines; numbers = range_with_len (length (function_lines f) + 1) (length lines) } }
