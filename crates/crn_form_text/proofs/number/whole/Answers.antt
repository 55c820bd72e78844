use Rattle.std.proofs.Common.{refl, ap, ◌∙◌, arith, is_ok}
use Rattle.std.proofs.lemmas.Int.{ints}
use Rattle.std.proofs.lemmas.Result.{Ok-from_Ok_iff, OkIff-at_ok}
use Rattle.std.specs.Prelude.{unsigned_abs}
use Rattle.crn_fraction.specs.Rational.{whole}
use Rattle.crn_fraction.proofs.Fitting.{IsFrac-cast_one, over_cast_one}
use Rattle.crn_fraction.proofs.Values.{cast_low}
use Rattle.crn_form_text.specs.Grammar.{signed}
use Rattle.crn_form_text.proofs.number.whole.Goals as goal

pub unwrap-requires : goal.unwrap-requires
unwrap-requires c = ap is_ok (Ok-from_Ok_iff c.of.result _ _ c.of.ensures (IsFrac-cast_one c.signed.result c.signed.ensures.small))

pub returns : goal.returns
returns c =
    (OkIff-at_ok c.of.result _ _ _ c.of.ensures c.unwrap.ensures).1
    ∙ over_cast_one c.signed.result c.signed.ensures.small
    ∙ ap whole (c.signed.ensures.value ∙ ap (λ n. signed c.args.negative (unsigned_abs n)) (cast_low c.args.number c.args.number refl (omega (arith, ints))))
