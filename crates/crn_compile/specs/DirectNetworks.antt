-- The direct network of a function by pieces.
use Rattle.std.specs.Prelude.{◌≡◌, ℕ, List}
use Rattle.crn_fraction.specs.Rational.{ℚ}
use Rattle.crn_net.specs.Network.{Network}
use Rattle.crn_formula.specs.Pieces.{Piece}
use Rattle.crn_formula.specs.Domains.{orthant}
use Rattle.crn_formula.specs.Functions.{Kind}
use Rattle.crn_pieces.specs.Answers.{AreChecked}
use Rattle.crn_pieces.specs.Views.{pieces_of_kind}
use Rattle.crn_superadd.specs.Answers.{AreUsedForms}
use Rattle.crn_direct.specs.Layout.{direct_layout}

-- The pieces cover the orthant and agree on it, the function is superadditive and nowhere negative there, and net is the direct layout of its used forms.
pub record IsDirectNetworkOfPieces (k : ℕ) (pieces : List Piece) (net : Network) : Type 0 where
  pub checked : AreChecked (orthant k) pieces
  pub forms : List (List ℚ)
  pub used : AreUsedForms (orthant k) pieces forms
  pub is_layout : net ≡ direct_layout k forms

-- net is the direct network of a function of k variables that is given by pieces
abbrev pub IsDirectNetworkOf : ℕ → Kind → Network → Type 0
IsDirectNetworkOf k kind net = IsDirectNetworkOfPieces k (pieces_of_kind kind) net
