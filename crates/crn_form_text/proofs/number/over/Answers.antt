use Rattle.std.proofs.Common.{refl, ap, arith, is_ok}
use Rattle.std.proofs.lemmas.Int.{ints}
use Rattle.std.proofs.lemmas.Result.{Ok-from_Ok_iff}
use Rattle.crn_fraction.proofs.Fitting.{IsFrac-cast_over}
use Rattle.crn_form_text.proofs.number.over.Goals as goal

pub unwrap-requires : goal.unwrap-requires
unwrap-requires c =
    let fits = IsFrac-cast_over _ _ c.args.numerator c.args.number refl refl c.requires.small (omega (arith, ints)) c.requires.positive in
    ap is_ok (Ok-from_Ok_iff c.of.result _ _ c.of.ensures fits)
