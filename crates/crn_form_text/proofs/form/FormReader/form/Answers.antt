use Rattle.std.proofs.Common.{map, ◌∙◌, sym, arith}
use Rattle.std.specs.Prelude.{None, unwrap_or}
use Rattle.std.proofs.lemmas.List.{length-map}
use Rattle.std.proofs.Math.ListN.{get_or-map}
use Rattle.crn_fraction.specs.Rational.{0ℚ}
use Rattle.crn_form_text.proofs.Places.{fill_next}
use Rattle.crn_form_text.proofs.form.FormReader.form.Goals as goal

pub loop-i-preserved : goal.loop-i-preserved
loop-i-preserved c =
    let entries = c.args.self.now.entries in
    fill_next 9 (map (λ e. unwrap_or e 0ℚ) entries) c.loop-i.coeffs c.loop-i.i c.entry.result 0ℚ (omega (arith, c.entry.ensures.nine, length-map entries (λ e. unwrap_or e 0ℚ))) (omega arith) c.loop-i.invariant
    (c.entry.ensures.value ∙ sym (get_or-map (λ e. unwrap_or e 0ℚ) entries c.loop-i.i None))
