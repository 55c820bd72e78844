use Rattle.std.proofs.Common.{arith, true, false, Bool, cond, sym, ap, ap₂, ◌∙◌, ◌≡◌, ◌+◌, ◌<◌, List, [], ◌∷◌, ◌++◌, length, get_or, take, map, subst, to_z, of_z}
use Rattle.std.specs.Prelude.{ℤ, pos}
use Rattle.std.specs.List.{list_all}
use Rattle.std.specs.Int.{w64}
use Rattle.std.proofs.lemmas.List.{append-nil}
use Rattle.crn_fraction.specs.Rational.{ℚ, whole, neg_ℚ, ◌/ℚ◌}
use Rattle.crn_linear.specs.Rows.{value}
use Rattle.crn_feasible.specs.declared.rows.KeptRow.{KeptRow}
use Rattle.crn_feasible.specs.Elimination.{Kept, entry, bound, fits_ℚ}
use Rattle.crn_feasible.specs.Steps.{kept_of, IsKeptRow}
use Rattle.crn_feasible.specs.Chosen.{is_on, bounds}
use Rattle.crn_feasible.proofs.Turns.{entry_there, kept_at, small_at, itself}
use Rattle.crn_feasible.proofs.Sides.{bound_part, bounds_more, bound_missed, fits_push, bound_of, pushed}
use Rattle.crn_feasible.proofs.values.bounds.Goals.{After-row-item, then-is_on+in-Some+else-is_err, else-is_on}
use Rattle.crn_feasible.proofs.values.bounds.Goals as goal

there : (c : After-row-item) → c.row-item.result ≡ get_or c.args.rows.now.rows.items c.loop-row.row-index c.row-item.result
there c = c.row-item.is ∙ ap (λ (rs : List KeptRow). get_or rs c.loop-row.row-index c.row-item.result) c.deref-row-items.ensures.value

within : (c : After-row-item) → c.loop-row.row-index < length c.args.rows.now.rows.items
within c = omega (arith, c.loop-row-test.true, ap (length {A = KeptRow}) c.deref-row-items.ensures.value)

row_kept : (c : After-row-item) → IsKeptRow c.args.rows.now.columns c.args.rows.now.sources c.row-item.result
row_kept c = kept_at c.args.rows.now.columns c.args.rows.now.sources c.args.rows.now.rows.items c.loop-row.row-index c.row-item.result c.requires.list.rows (within c) (there c)

abbrev kept : After-row-item → Kept
kept c = kept_of c.args.rows.now.columns c.args.rows.now.sources c.row-item.result

-- the entry, as the code reads it
abbrev place : After-row-item → ℤ
place c = to_z w64 (of_z w64 (get_or c.row-item.result.entries c.args.v (pos 0)))

entry_is : (c : After-row-item) → place c ≡ entry c.args.v (kept c)
entry_is c =
    itself (get_or c.row-item.result.entries c.args.v (pos 0)) (entry c.args.v (kept c))
    (small_at c.args.rows.now.columns c.args.rows.now.sources c.args.v c.row-item.result (row_kept c) c.requires.column c.requires.list.few)
    (entry_there c.args.rows.now.columns c.args.rows.now.sources c.args.v c.row-item.result c.requires.column)

part_is : (c : After-row-item) (on : Bool) → on ≡ is_on c.args.positive (place c) → (b : Bool) → on ≡ b
    → bound_part c.args.positive c.args.v c.args.values.now.exact.items (kept c) ≡ cond b (bound c.args.v c.args.values.now.exact.items (kept c) ∷ []) []
part_is c on is b e =
    let test : is_on c.args.positive (entry c.args.v (kept c)) ≡ b = ap (is_on c.args.positive) (sym (entry_is c)) ∙ sym is ∙ e in
    ap (λ t. cond t (bound c.args.v c.args.values.now.exact.items (kept c) ∷ []) []) test

bound_is : (c : After-row-item) → neg_ℚ (value (take c.args.v c.row-item.result.entries) c.args.values.now.exact.items) /ℚ whole (place c) ≡ bound c.args.v c.args.values.now.exact.items (kept c)
bound_is c = bound_of c.args.rows.now.columns c.args.rows.now.sources c.args.v c.args.values.now.exact.items c.row-item.result (place c) c.requires.column c.requires.long (entry_is c)

pub returns-in_default : goal.returns-in_default
returns-in_default c =
    let s = (goal.at.returns-in_default c).After-row-item in
    let v = c.args.v in
    let columns = c.args.rows.now.columns in
    let sources = c.args.rows.now.sources in
    let qs = c.args.values.now.exact.items in
    bound_missed c.args.positive columns sources v qs c.args.rows.now.rows.items c.loop-row.row-index c.row-item.result (within s) (there s) (bound v qs (kept s))
    (part_is s c.is_on.result c.is_on.ensures true c.if-is_on.true) (ap fits_ℚ (sym (bound_is s)) ∙ c.in_default.ensures)

pub loop-row-preserved : goal.loop-row-preserved
loop-row-preserved c =
    let s = (goal.at.loop-row-preserved c).After-row-item in
    let v = c.args.v in
    let columns = c.args.rows.now.columns in
    let sources = c.args.rows.now.sources in
    let qs = c.args.values.now.exact.items in
    let items = c.args.rows.now.rows.items in
    let i = c.loop-row.row-index in
    let so_far = bounds c.args.positive v qs (map (kept_of columns sources) (take i items)) in
    let more = bounds_more c.args.positive columns sources v qs items i c.row-item.result (within s) (there s) in
    let Kept : List ℚ → Type 0 = λ all. record { value : all ≡ bounds c.args.positive v qs (map (kept_of columns sources) (take (i + 1) items)); fit : list_all fits_ℚ all ≡ true } in
    elim c.if-is_on.branch [
      | then-is_on+in-Some+else-is_err w ↦
          let b = w.in-Some.bound in
          let added : c.if-is_on.all.items ≡ c.loop-row.all.items ++ b ∷ [] =
          ap (λ a. a.items) w.all-is ∙ pushed w.push.result _ c.loop-row.all.items b w.is_err.result w.push.ensures.items w.is_err.ensures.value w.if-is_err.false in
          let is : b ≡ bound v qs (kept s) = w.in-Some.ensures.0 ∙ bound_is s in
          subst Kept (sym added)
          (record {
            value = ap₂ (λ bs q. bs ++ q ∷ []) c.loop-row.invariant.value is ∙ sym (more ∙ ap (λ p. so_far ++ p) (part_is s c.is_on.result c.is_on.ensures true w.if-is_on.true));
            fit = fits_push c.loop-row.all.items b c.loop-row.invariant.fit (ap fits_ℚ w.in-Some.ensures.0 ∙ w.in-Some.ensures.1);
          })
      | else-is_on w ↦
          subst Kept (sym (ap (λ a. a.items) w.all-is))
          (record {
            value = c.loop-row.invariant.value ∙ sym (more ∙ ap (λ p. so_far ++ p) (part_is s c.is_on.result c.is_on.ensures false w.if-is_on.false) ∙ append-nil so_far);
            fit = c.loop-row.invariant.fit;
          })
    ]
