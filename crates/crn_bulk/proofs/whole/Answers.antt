use Rattle.std.proofs.Common.{◌∙◌, ap, is_ok}
use Rattle.std.proofs.lemmas.Result.{Ok-from_Ok_iff, OkIff-at_ok}
use Rattle.crn_fraction.proofs.Fitting.{IsFrac-cast_one, over_cast_one}
use Rattle.crn_bulk.proofs.whole.Goals as goal

pub unwrap-requires : goal.unwrap-requires
unwrap-requires c = ap is_ok (Ok-from_Ok_iff c.of.result _ _ c.of.ensures (IsFrac-cast_one c.args.count c.requires))

pub returns : goal.returns
returns c = (OkIff-at_ok c.of.result _ _ _ c.of.ensures c.unwrap.ensures).1 ∙ over_cast_one c.args.count c.requires
