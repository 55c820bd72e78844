-- Pieces that were checked are refused for a limit of solving alone.
use Rattle.std.proofs.Common.{List, length, refl, arith}
use Rattle.std.specs.Prelude.{◌≢◌}
use Rattle.crn_formula.specs.Pieces.{Piece, Domain}
use Rattle.crn_pieces.specs.Pairs.{pairs_of}
use Rattle.crn_pieces.specs.Answers.{DoConditionsClear, DoesDifferenceClear, AreChecked, IsRefused}
use Rattle.crn_pieces.specs.declared.PiecesError.{PiecesError}
use Rattle.crn_pieces.specs.declared.PiecesError.TheVariants.{TooManyForms, BigCondition, BigDifference, Disagree, NotCovered, TooBig, TooManyRows, Memory}
use Rattle.crn_pieces.proofs.ClearSteps.{not_all}
use Rattle.crn_pieces.proofs.OneRefusal.{disagreement_excludes, gap_excludes}
use Rattle.crn_cert_text.specs.Answers.{IsSolvingLimit}

pub checked_refused : (D : Domain) (P : List Piece) (e : PiecesError) → AreChecked D P → e ≢ Memory → IsRefused D P e → IsSolvingLimit e
checked_refused D P (TooManyForms count) c u h = let few = c.prepared.few in omega (arith, h.0, h.1, few)
checked_refused D P (BigCondition i k) c u h = not_all DoConditionsClear P h.1.piece h.1.in_pieces.first c.prepared.conditions
checked_refused D P (BigDifference i j) c u h = not_all (DoesDifferenceClear P) (pairs_of (length P)) (i, j) h.2 c.prepared.differences
checked_refused D P (Disagree i j p) c u h = disagreement_excludes D P i j p h.1 c.agree
checked_refused D P (NotCovered p) c u h = gap_excludes D P p h.1 c.covers
checked_refused D P (TooBig kept) c u h = tt
checked_refused D P (TooManyRows kept) c u h = tt
checked_refused D P Memory c u h = absurd (u refl)
