use Rattle.std.proofs.Common.{refl, sym, ◌∙◌, w64}
use Rattle.std.proofs.lemmas.Int.{to_z-of_z}
use Rattle.crn_fraction.proofs.Values.{cast_low}
use Rattle.crn_form_text.proofs.Fractions.{over_found, whole_found}
use Rattle.crn_form_text.proofs.number.fraction_after.Goals as goal

pub returns-in-Some : goal.returns-in-Some
returns-in-Some c =
    over_found _ c.args.number c.in-Some.below _ _ _ c.requires (to_z-of_z w64 c.args.number c.ranges.number) (cast_low c.in-Some.below c.in-Some.below refl c.in-Some.ensures.fits) (sym c.in-Some.is ∙ c.denominator_at.ensures.value) c.over.ensures

pub returns-in-None : goal.returns-in-None
returns-in-None c =
    whole_found _ c.args.number _ _ (to_z-of_z w64 c.args.number c.ranges.number) (sym c.in-None.is ∙ c.denominator_at.ensures.value) c.whole.ensures
