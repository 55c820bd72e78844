-- Proofs that are made line by line.
use Rattle.std.specs.Prelude.{◌≡◌, ◌⊎◌, ℕ, List, ◌++◌}
use Rattle.crn_linear.specs.Rows.{Row}
use Rattle.crn_farkas.specs.Systems.{System, IsPointOf, HasPoint, IsCertificate}
use Rattle.crn_feasible.specs.declared.Verdict.{Verdict}
use Rattle.crn_feasible.specs.declared.Verdict.TheVariants.{Found, Refuted}
use Rattle.crn_formula.specs.Pieces.{Domain}
use Rattle.crn_pieces.specs.Systems.{cover_system}
use Rattle.crn_pieces.specs.Choices.{IsFull}
use Rattle.crn_cert_text.specs.Proofs.{Line, Question, AnswerPairs, Parts, lines_of, IsTree}

-- what is answered to a question: a point of the system, or a certificate that it has none
abbrev pub IsVerdict : System → Verdict → Type 0
IsVerdict s (Found p) = IsPointOf s p
IsVerdict s (Refuted c) = IsCertificate s c

-- the system is the first of two, or the second where the first has no point
abbrev pub IsOfTwo : (one two : System) → System → Type 0
IsOfTwo one two s = (s ≡ one) ⊎ ((¬ HasPoint one) × (s ≡ two))

-- no full list of choices has a cover system with a point
abbrev pub NoneFull : Domain → List (List Row) → Type 0
NoneFull domain conditions = (full : List ℕ) → IsFull conditions full → ¬ HasPoint (cover_system domain conditions full)

-- the new lines are the old ones and others that answer these questions
pub record Answered (questions : List Question) (old new : List Line) : Type 0 where
  pub lines : List Line
  pub added : new ≡ old ++ lines
  pub answered : AnswerPairs questions lines

-- the new lines are the old ones and those of a tree of these choices
pub record Grows (domain : Domain) (conditions : List (List Row)) (choices : List ℕ) (old new : List Line) : Type 0 where
  pub tree : Parts
  pub grown : new ≡ old ++ lines_of tree
  pub is_tree : IsTree domain conditions choices 0 tree

-- whatever the parts from number k on are, with their lines behind these it is so
abbrev pub Goes : Domain → List (List Row) → (choices : List ℕ) → (old now : List Line) → (k : ℕ) → Type 0
Goes domain conditions choices old now k = (rest : Parts) → IsTree domain conditions choices k rest → Grows domain conditions choices old (now ++ lines_of rest)
