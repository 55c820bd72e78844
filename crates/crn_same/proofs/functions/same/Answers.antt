use Rattle.crn_formula.specs.Views.{plain_of, kind_of}
use Rattle.crn_same.proofs.Comparing.{over_kept, same_kept, shown_kept, true_kept, refused_kept}
use Rattle.crn_same.proofs.functions.same.Goals as goal

pub same_on-requires : goal.same_on-requires
same_on-requires c = record {
  columns = over_kept c.args.first.variables c.args.second.variables c.requires.variables (kind_of c.args.first.kind) (kind_of c.args.second.kind) c.common_domain-domain.ensures.first c.common_domain-domain.ensures.second
      c.in_ok-a.a c.in_ok-b.b c.in_ok-a.ensures.formula c.in_ok-b.ensures.formula (plain_of c.formula.result.now) (plain_of c.formula-2.result.now) c.formula.ensures c.formula-2.ensures
      c.common_domain-domain.result c.common_domain-domain.ensures.domain;
}

pub returns-clause-same : goal.returns-clause-same
returns-clause-same c =
    same_kept c.args.first.variables c.args.second.variables c.requires.variables (kind_of c.args.first.kind) (kind_of c.args.second.kind) c.common_domain-domain.ensures.first c.common_domain-domain.ensures.second
    c.in_ok-a.a c.in_ok-b.b c.in_ok-a.ensures.formula c.in_ok-b.ensures.formula (plain_of c.formula.result.now) (plain_of c.formula-2.result.now) c.formula.ensures c.formula-2.ensures
    c.common_domain-domain.result c.common_domain-domain.ensures.domain
    c.same_on.result c.same_on.ensures.equal

pub returns-clause-shown : goal.returns-clause-shown
returns-clause-shown c =
    shown_kept c.args.first.variables c.args.second.variables c.requires.variables (kind_of c.args.first.kind) (kind_of c.args.second.kind) c.common_domain-domain.ensures.first c.common_domain-domain.ensures.second
    c.in_ok-a.a c.in_ok-b.b c.in_ok-a.ensures.formula c.in_ok-b.ensures.formula (plain_of c.formula.result.now) (plain_of c.formula-2.result.now) c.formula.ensures c.formula-2.ensures
    c.common_domain-domain.result c.common_domain-domain.ensures.domain
    c.same_on.result c.same_on.ensures.none

pub returns-clause-point : goal.returns-clause-point
returns-clause-point c =
    true_kept c.args.first.variables c.args.second.variables c.requires.variables (kind_of c.args.first.kind) (kind_of c.args.second.kind) c.common_domain-domain.ensures.first c.common_domain-domain.ensures.second
    c.in_ok-a.a c.in_ok-b.b c.in_ok-a.ensures.formula c.in_ok-b.ensures.formula (plain_of c.formula.result.now) (plain_of c.formula-2.result.now) c.formula.ensures c.formula-2.ensures
    c.common_domain-domain.result c.common_domain-domain.ensures.domain
    c.same_on.result c.same_on.ensures.point

pub returns-clause-refusal : goal.returns-clause-refusal
returns-clause-refusal c =
    refused_kept c.args.first.variables c.args.second.variables c.requires.variables (kind_of c.args.first.kind) (kind_of c.args.second.kind) c.common_domain-domain.ensures.first c.common_domain-domain.ensures.second
    c.in_ok-a.a c.in_ok-b.b c.in_ok-a.ensures.formula c.in_ok-b.ensures.formula (plain_of c.formula.result.now) (plain_of c.formula-2.result.now) c.formula.ensures c.formula-2.ensures
    c.common_domain-domain.result c.common_domain-domain.ensures.domain
    c.same_on.result c.same_on.ensures.refused
