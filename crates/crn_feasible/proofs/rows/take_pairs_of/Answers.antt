use Rattle.std.proofs.Common.{◌≡◌, ◌∙◌, ◌∷◌, [], Bor, get_or, refl, sym, ap, subst, to_z, of_z}
use Rattle.std.specs.Prelude.{ℤ, pos, ◌-ℤ◌}
use Rattle.std.specs.Int.{w64}
use Rattle.std.proofs.lemmas.Result.{err_from_is_err_and}
use Rattle.std.proofs.lemmas.List.Concat.{flat_map_single}
use Rattle.crn_linear.specs.Rows.{IsSmall}
use Rattle.crn_feasible.specs.declared.rows.KeptRow.{KeptRow}
use Rattle.crn_feasible.specs.Elimination.{Kept, entry, combined, take_row, take_rows}
use Rattle.crn_feasible.specs.Steps.{Ends, kept_of, list_of, mixed_rows, IsKeptRow, IsShort, AreShort}
use Rattle.crn_feasible.proofs.Dropping.{short_at, short_itself, short_negated}
use Rattle.crn_feasible.proofs.Exits.{ends_takes}
use Rattle.crn_feasible.proofs.Turns.{step, stop, done, ends_same, entry_there, small_at, pair_taken, negated, itself}
use Rattle.crn_feasible.proofs.rows.take_pairs_of.Goals.{After-row-item}
use Rattle.crn_feasible.proofs.rows.take_pairs_of.Goals as goal

abbrev first : After-row-item → Kept
first c = kept_of c.args.rest.now.columns c.args.rest.now.sources c.args.p.now

abbrev second : After-row-item → Kept
second c = kept_of c.args.rest.now.columns c.args.rest.now.sources c.row-item.result.now

-- the combination with another row
abbrev with_first : After-row-item → Bor KeptRow → Kept
with_first c r = combined c.args.v (first c) (kept_of c.args.rest.now.columns c.args.rest.now.sources r.now)

-- the factors, as the code computes them
abbrev lead : After-row-item → ℤ
lead c = to_z w64 (of_z w64 (get_or c.args.p.now.entries c.args.v (pos 0)))

abbrev below : After-row-item → ℤ
below c = to_z w64 (of_z w64 (pos 0 -ℤ to_z w64 (of_z w64 (get_or c.row-item.result.now.entries c.args.v (pos 0)))))

small : (c : After-row-item) (r : KeptRow) → IsKeptRow c.args.rest.now.columns c.args.rest.now.sources r → IsSmall (get_or r.entries c.args.v (pos 0))
small c r kept = small_at c.args.rest.now.columns c.args.rest.now.sources c.args.v r kept c.requires.column c.requires.list.few

there : (c : After-row-item) (r : KeptRow) → get_or r.entries c.args.v (pos 0) ≡ entry c.args.v (kept_of c.args.rest.now.columns c.args.rest.now.sources r)
there c r = entry_there c.args.rest.now.columns c.args.rest.now.sources c.args.v r c.requires.column

row_kept : (c : After-row-item) → IsKeptRow c.args.rest.now.columns c.args.rest.now.sources c.row-item.result.now
row_kept c = subst (λ r. IsKeptRow c.args.rest.now.columns c.args.rest.now.sources r.now) (sym c.row-item.is) (c.requires.rows c.loop-row.row-index c.row-item.result c.loop-row-test.true)

-- the combination of this turn
pair_is : (c : After-row-item)
    → take_row (list_of c.loop-row.rest) (mixed_rows (below c) (kept_of c.loop-row.rest.columns c.loop-row.rest.sources c.args.p.now) (lead c) (kept_of c.loop-row.rest.columns c.loop-row.rest.sources c.row-item.result.now))
    ≡ take_rows (list_of c.loop-row.rest) (combined c.args.v (first c) (second c) ∷ [])
pair_is c =
    pair_taken (list_of c.loop-row.rest) c.args.rest.now.columns c.args.rest.now.sources c.loop-row.rest.columns c.loop-row.rest.sources c.args.v c.args.p.now c.row-item.result.now (below c) (lead c)
    c.loop-row.invariant.shape.columns_same c.loop-row.invariant.shape.sources_same
    (negated (get_or c.row-item.result.now.entries c.args.v (pos 0)) (entry c.args.v (second c)) (small c c.row-item.result.now (row_kept c)) (there c c.row-item.result.now))
    (itself (get_or c.args.p.now.entries c.args.v (pos 0)) (entry c.args.v (first c)) (small c c.args.p.now c.requires.row) (there c c.args.p.now))

pub loop-row-preserved : goal.loop-row-preserved
loop-row-preserved c =
    let s = (goal.at.loop-row-preserved c).After-row-item in
    let shape = c.loop-row.invariant.shape in
    record {
      taken = step (list_of c.args.rest.now) (λ r. with_first s r ∷ []) c.args.negatives.now c.loop-row.row-index c.row-item.result (list_of c.loop-row.rest) (list_of c.take_mixed.new.self) (combined c.args.v (first s) (second s) ∷ [])
          c.loop-row-test.true c.row-item.is refl c.loop-row.invariant.taken (sym (pair_is s) ∙ c.in_ok-take_mixed.ensures.taken);
      list = c.in_ok-take_mixed.ensures.list.0;
      shape = record {
        columns_same = c.in_ok-take_mixed.ensures.list.1.columns_same ∙ shape.columns_same;
        sources_same = c.in_ok-take_mixed.ensures.list.1.sources_same ∙ shape.sources_same;
      };
    }

pub returns-in_err-take_mixed-clause-taken : goal.returns-in_err-take_mixed-clause-taken
returns-in_err-take_mixed-clause-taken c =
    let s = (goal.at.returns-in_err-take_mixed-clause-taken c).After-row-item in
    let e = c.in_err-take_mixed.field-0.0 in
    ends_takes c.from_residual.result e _ c.take_mixed.new.self (err_from_is_err_and c.from_residual.result c.from_residual.ensures.1)
    (subst (λ ks. Ends (take_rows (list_of c.args.rest.now) ks) e) (flat_map_single (with_first s) c.args.negatives.now)
    (stop (list_of c.args.rest.now) (λ r. with_first s r ∷ []) c.args.negatives.now c.loop-row.row-index c.row-item.result (list_of c.loop-row.rest)
    (combined c.args.v (first s) (second s) ∷ []) e c.loop-row-test.true c.row-item.is refl c.loop-row.invariant.taken (ends_same _ _ e (pair_is s) c.in_err-take_mixed.ensures.taken)))

pub returns-clause-taken : goal.returns-clause-taken
returns-clause-taken c =
    let columns = c.args.rest.now.columns in
    let sources = c.args.rest.now.sources in
    let one : Bor KeptRow → Kept = λ r. combined c.args.v (kept_of columns sources c.args.p.now) (kept_of columns sources r.now) in
    ap (take_rows (list_of c.args.rest.now)) (sym (flat_map_single one c.args.negatives.now))
    ∙ done (list_of c.args.rest.now) (λ r. one r ∷ []) c.args.negatives.now c.loop-row.row-index (list_of c.loop-row.rest) c.loop-row-test.false c.loop-row.invariant.taken

pub take_mixed-requires-clause-short : goal.take_mixed-requires-clause-short
take_mixed-requires-clause-short c = λ t.
    let s = (goal.at.take_mixed-requires-clause-short c).After-row-item in
    let columns = c.args.rest.now.columns in
    let sources = c.args.rest.now.sources in
    let other = c.row-item.result.now in
    let one : IsShort columns c.args.p.now = c.requires.short_row t in
    let two : IsShort columns other = subst (λ r. IsShort columns r.now) (sym c.row-item.is) (c.requires.short_rows t c.loop-row.row-index c.row-item.result c.loop-row-test.true) in
    subst (λ k. AreShort k (below s) c.args.p.now (lead s) other) (sym c.loop-row.invariant.shape.columns_same) (record {
      first_times = short_negated (get_or other.entries c.args.v (pos 0)) (short_at columns sources c.args.v other (row_kept s) two c.requires.column c.requires.list.few);
      first = one;
      second_times = short_itself (get_or c.args.p.now.entries c.args.v (pos 0)) (short_at columns sources c.args.v c.args.p.now c.requires.row one c.requires.column c.requires.list.few);
      second = two;
    })
