use Rattle.std.proofs.Common.{sym, ◌∙◌}
use Rattle.crn_simplex.proofs.Answering.{finds_point, finds_none, has_none, own_point, own_none}
use Rattle.crn_simplex.proofs.point_of.Goals.{in-Found, in-Refuted}
use Rattle.crn_simplex.proofs.point_of.Goals as goal

pub returns-clause-found : goal.returns-clause-found
returns-clause-found c =
    elim c.match-verdict.branch [
      | in-Found w ↦ finds_point _ _ _ _ w.in-Found.is w.result-is c.requires.right c.requires.long
      | in-Refuted w ↦ finds_none _ _ (has_none _ _ _ w.in-Refuted.is c.requires.rectangular c.requires.right) w.result-is
    ]

pub returns-clause-excludes : goal.returns-clause-excludes
returns-clause-excludes c =
    elim c.match-verdict.branch [
      | in-Found w ↦ λ none. let some = sym none ∙ w.result-is in cc
      | in-Refuted w ↦ λ _. has_none _ _ _ w.in-Refuted.is c.requires.rectangular c.requires.right
    ]

pub returns-clause-own : goal.returns-clause-own
returns-clause-own c =
    elim c.match-verdict.branch [
      | in-Found w ↦ own_point _ _ _ _ w.in-Found.is w.result-is c.requires.answer
      | in-Refuted w ↦ own_none _ _ _ _ w.in-Refuted.is w.result-is c.requires.answer
    ]
