use Rattle.std.proofs.Common.{◌∙◌, []}
use Rattle.std.specs.Prelude.{pos}
use Rattle.std.proofs.lemmas.List.{take-replicate}
use Rattle.crn_formula.proofs.domain.Domain.whole.Goals as goal

pub returns : goal.returns
returns c = λ i. record { rows = []; inside = (c.of.ensures ∙ take-replicate c.args.columns 9 (pos 0) c.requires.few) i }
