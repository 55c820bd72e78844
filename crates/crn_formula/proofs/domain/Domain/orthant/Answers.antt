use Rattle.std.proofs.Common.{◌≡◌, ◌∙◌, subst, take, arith}
use Rattle.std.specs.Prelude.{pos}
use Rattle.std.proofs.lemmas.List.{take-replicate}
use Rattle.crn_formula.specs.Domains.{orthant_rows}
use Rattle.crn_formula.proofs.Units.{kept_orthant}
use Rattle.crn_formula.proofs.domain.Domain.orthant.Goals as goal

pub invariant_of-result : goal.invariant_of-result
invariant_of-result c =
    let end : c.loop-i.i ≡ c.args.columns = omega (arith, c.loop-i-test.false, c.loop-i.auto.i-end) in
    kept_orthant c.args.columns c.loop-i.rows c.of.result c.requires.some c.requires.few c.loop-i.invariant.eight
    (subst (λ n. take n c.loop-i.rows ≡ orthant_rows c.args.columns n) end c.loop-i.invariant.rows)
    (c.of.ensures ∙ take-replicate c.args.columns 9 (pos 1) (omega (arith, c.requires.few)))

pub returns : goal.returns
returns c =
    let end : c.loop-i.i ≡ c.args.columns = omega (arith, c.loop-i-test.false, c.loop-i.auto.i-end) in
    λ i. record {
      rows = subst (λ n. take n c.loop-i.rows ≡ orthant_rows c.args.columns n) end c.loop-i.invariant.rows i;
      inside = (c.of.ensures ∙ take-replicate c.args.columns 9 (pos 1) (omega (arith, c.requires.few))) i;
    }
