use Rattle.crn_direct.proofs.LayoutLaws.{layout_computes}
use Rattle.crn_direct.proofs.laws.layouts_compute.Goals as goal

pub returns : goal.returns
returns c = layout_computes
