use Rattle.std.proofs.Common.{arith, sym, ap, ap₂, ◌∙◌, ◌≡◌, ◌<◌, ◌-◌, length, get_or, take, drop, true}
use Rattle.std.proofs.lemmas.List.{take_all, length-drop}
use Rattle.std.proofs.lemmas.List.Sums.{fold_more}
use Rattle.crn_fraction.specs.Rational.{max_ℚ}
use Rattle.crn_feasible.specs.Elimination.{fits_ℚ}
use Rattle.crn_feasible.proofs.Picked.{fits-max, fits_at, fits_rest}
use Rattle.crn_feasible.proofs.values.greatest.Goals as goal

pub loop-bound-preserved : goal.loop-bound-preserved
loop-bound-preserved c =
    let bounds = c.args.bounds.now in
    let i = c.loop-bound.bound-index in
    let item = c.bound-item.result in
    let all : take (length bounds - 1) (drop 1 bounds) ≡ drop 1 bounds = take_all (length bounds - 1) (drop 1 bounds) (omega (arith, length-drop 1 bounds)) in
    let within : i < length (drop 1 bounds) = omega (arith, c.loop-bound-test.true, ap length all) in
    let item_fits : fits_ℚ item ≡ true =
    ap fits_ℚ (c.bound-item.is ∙ ap (λ qs. get_or qs i item) all) ∙ fits_at (drop 1 bounds) i item (fits_rest bounds c.requires.fit) within in
    record {
      value = c.greater-best.ensures ∙ ap₂ max_ℚ c.loop-bound.invariant.value c.bound-item.is
          ∙ sym (fold_more max_ℚ _ (take (length bounds - 1) (drop 1 bounds)) i item c.loop-bound-test.true);
      fits = ap fits_ℚ c.greater-best.ensures ∙ fits-max c.loop-bound.best item c.loop-bound.invariant.fits item_fits;
    }
