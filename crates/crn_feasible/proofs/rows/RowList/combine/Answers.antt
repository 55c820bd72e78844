use Rattle.std.proofs.Common.{map, ◌≡◌, ◌++◌, ◌∙◌, ap, sym, subst, true, false, Bool, List, ℕ, Result, Ok, Err, to_z, of_z}
use Rattle.std.specs.Prelude.{ℤ, OnOk}
use Rattle.std.specs.Int.{w64}
use Rattle.std.specs.Result.{is_err}
use Rattle.std.specs.List.{list_all}
use Rattle.std.proofs.lemmas.Int.{to_z-of_z}
use Rattle.std.proofs.lemmas.Result.{err_from_is_err_and}
use Rattle.crn_feasible.specs.Elimination.{Kept, reduced, fits}
use Rattle.crn_feasible.specs.Sparse.{Mixes, divided}
use Rattle.crn_feasible.specs.Steps.{kept, kept_of, mixed_rows, IsMade}
use Rattle.crn_feasible.proofs.Combining.{IsCombination, combination, entries_pass, multipliers_pass, row_made, missed}
use Rattle.crn_feasible.proofs.Exits.{ends_combines}
use Rattle.crn_feasible.proofs.rows.RowList.combine.Goals.{After-common_with-common}
use Rattle.crn_feasible.proofs.rows.RowList.combine.Goals as goal

went_well : {X E P : Type 0} (r : Result X E) (b : Bool) → b ≡ is_err r → b ≡ false → OnOk r P → P
went_well (Ok x) b e f h = h
went_well (Err x) b e f h = let wrong : true ≡ false = sym e ∙ f in cc

same_list : (g : ℕ) (xs ys : List (ℕ × ℤ)) → xs ≡ ys → map (divided g) xs ≡ map (divided g) ys
same_list g xs ys e = ap (map (divided g)) e

abbrev row : After-common_with-common → ℤ → ℤ → Kept
row c s t = mixed_rows s (kept_of c.args.self.now.columns c.args.self.now.sources c.args.p.now) t (kept_of c.args.self.now.columns c.args.self.now.sources c.args.n.now)

abbrev a : After-common_with-common → ℤ
a c = to_z w64 (of_z w64 c.args.a)

abbrev b : After-common_with-common → ℤ
b c = to_z w64 (of_z w64 c.args.b)

mixes : (c : After-common_with-common) → Mixes (a c) c.args.p.now.multipliers.items (b c) c.args.n.now.multipliers.items c.deref-3.result.now
mixes c =
    let p = c.args.p.now.multipliers.items in
    let n = c.args.n.now.multipliers.items in
    let out = c.mix_multipliers.new.out.items in
    subst (λ ms. Mixes (a c) p (b c) n ms) (sym c.deref-3.ensures.value)
    (subst (λ ps. Mixes (a c) ps (b c) n out) c.deref.ensures.value
    (subst (λ ns. Mixes (a c) c.deref.result.now (b c) ns out) c.deref-2.ensures.value
    (went_well c.mix_multipliers.result c.is_err.result c.is_err.ensures.value c.if-is_err.false c.mix_multipliers.ensures.mixes)))

is : (c : After-common_with-common) → IsCombination (row c (a c) (b c)) c.args.self.now.columns c.args.self.now.sources c.deref-3.result.now
is c = combination c.args.self.now.columns c.args.self.now.sources (a c) c.args.p.now (b c) c.args.n.now c.deref-3.result.now c.requires.few c.requires.first c.requires.second (mixes c)

pub returns-in_default : goal.returns-in_default
returns-in_default c =
    let s = (goal.at.returns-in_default c).After-common_with-common in
    let w = is s in
    let Shown : ℤ → ℤ → Type 0 = λ x y. list_all fits ((reduced (row s x y)).row.entries ++ (reduced (row s x y)).multipliers) ≡ false in
    subst (λ x. Shown x c.args.b) (to_z-of_z w64 c.args.a c.ranges.a) (subst (λ y. Shown (a s) y) (to_z-of_z w64 c.args.b c.ranges.b)
    (entries_pass (row s (a s) (b s)) c.args.self.now.columns c.args.self.now.sources c.deref-3.result.now c.common_with-common.result w.ascend w.long w.multipliers
    c.common_of.result c.common_of.ensures.value c.common_with-common.ensures.value c.in_default.ensures))

pub returns : goal.returns
returns c =
    let s = (goal.at.returns c).After-common_with-common in
    let w = is s in
    let columns = c.args.self.now.columns in
    let sources = c.args.self.now.sources in
    let out = c.divide_multipliers.new.out.items in
    let made = c.in-Some.ensures in
    let divided = c.in_ok-divide_multipliers.ensures in
    let Shown : ℤ → ℤ → Type 0 = λ x y. (kept columns sources c.in-Some.entries out (row s x y).row.strict ≡ reduced (row s x y)) × IsMade columns sources c.in-Some.entries out in
    subst (λ x. Shown x c.args.b) (to_z-of_z w64 c.args.a c.ranges.a) (subst (λ y. Shown (a s) y) (to_z-of_z w64 c.args.b c.ranges.b)
    (row_made (row s (a s) (b s)) columns sources c.deref-3.result.now c.common_with-common.result w.ascend w.long w.multipliers
    c.common_of.result c.common_of.ensures.value c.common_with-common.ensures.value c.in-Some.entries out made.0 made.1 (divided.0 ∙ same_list c.common_with-common.result _ _ (c.deref-4.ensures.value ∙ sym c.deref-3.ensures.value)) divided.1 c.requires.few))

pub returns-in_err-divide_multipliers : goal.returns-in_err-divide_multipliers
returns-in_err-divide_multipliers c =
    let s = (goal.at.returns-in_err-divide_multipliers c).After-common_with-common in
    let w = is s in
    let columns = c.args.self.now.columns in
    let sources = c.args.self.now.sources in
    let out = c.divide_multipliers.new.out.items in
    let g = c.common_with-common.result in
    let e = c.in_err-divide_multipliers.field-0.0 in
    let Shown : ℤ → ℤ → Type 0 = λ x y. list_all fits ((reduced (row s x y)).row.entries ++ (reduced (row s x y)).multipliers) ≡ false in
    ends_combines c.from_residual.result e columns sources (row s c.args.a c.args.b) out (err_from_is_err_and c.from_residual.result c.from_residual.ensures.1)
    (missed e _ columns sources (row s c.args.a c.args.b) out c.in_err-divide_multipliers.ensures
    (λ h. subst (λ x. Shown x c.args.b) (to_z-of_z w64 c.args.a c.ranges.a) (subst (λ y. Shown (a s) y) (to_z-of_z w64 c.args.b c.ranges.b)
    (multipliers_pass (row s (a s) (b s)) columns sources c.deref-3.result.now g w.ascend w.long w.multipliers c.common_of.result c.common_of.ensures.value c.common_with-common.ensures.value
    (ap (list_all (λ m. fits m.1)) (sym (same_list g _ _ (c.deref-4.ensures.value ∙ sym c.deref-3.ensures.value))) ∙ h)))))
