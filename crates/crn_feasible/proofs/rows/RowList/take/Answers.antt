use Rattle.std.proofs.Common.{arith, refl, Ok, ℕ, Bool, true, false, not, List, [], ◌∷◌, ◌++◌, length, map, sym, ap, ap₂, ◌∙◌, ◌≡◌, ◌≤◌, subst}
use Rattle.std.specs.Prelude.{if◌then◌else◌}
use Rattle.std.specs.List.{All, list_all, list_any}
use Rattle.std.proofs.lemmas.List.Elements.{All-push}
use Rattle.std.proofs.lemmas.Grind.{common_steps}
use Rattle.crn_feasible.specs.contracts.rows.DirectionPartialEq.TheImpl.{eq-value}
use Rattle.crn_feasible.specs.Elimination.{fits, is_zero, same_direction, Kept}
use Rattle.crn_feasible.specs.declared.rows.KeptRow.{KeptRow}
use Rattle.crn_feasible.specs.Sparse.{spread}
use Rattle.crn_feasible.specs.Steps.{kept, kept_of, list_of, row_direction, IsMade, IsKeptRow}
use Rattle.crn_feasible.proofs.Combining.{made_fits}
use Rattle.crn_feasible.proofs.Lists.{ends_refuted, drops_zero, drops_same, ends_full, appends, ends_by, length-list, list_push, directions_push, at_least_full, below_full}
use Rattle.crn_feasible.proofs.Seen.{seen_any}
use Rattle.crn_feasible.proofs.rows.RowList.take.Goals.{After-is_zero, In-Ok}
use Rattle.crn_feasible.proofs.rows.RowList.take.Goals as goal

abbrev row : After-is_zero → Kept
row c = kept c.args.self.now.columns c.args.self.now.sources c.args.entries c.args.multipliers.now c.args.strict

fit_all : (c : After-is_zero) → list_all fits ((row c).row.entries ++ (row c).multipliers) ≡ true
fit_all c = made_fits c.args.self.now.columns c.args.self.now.sources c.args.entries c.args.multipliers.now c.requires.made

zero_is : (c : After-is_zero) → is_zero (row c) ≡ c.is_zero.result
zero_is c = sym c.is_zero.ensures

not_back : (a b : Bool) → a ≡ not b → b ≡ not a
not_back a true h = ap not (sym h)
not_back a false h = ap not (sym h)

all_long : (columns sources : ℕ) (rows : List KeptRow) → columns ≤ 9 → All (IsKeptRow columns sources) rows → All (λ r. columns ≤ length r.entries) rows
all_long columns sources rows few h = λ k d l. let nine = (h k d l).nine in omega (arith, nine)

seen_is : (c : In-Ok) → list_any (same_direction (kept c.args.self.now.columns c.args.self.now.sources c.args.entries c.args.multipliers.now c.args.strict)) (list_of c.args.self.now) ≡ not c.in-Ok.added
seen_is c =
    let columns = c.args.self.now.columns in
    let sources = c.args.self.now.sources in
    sym (seen_any columns sources c.args.entries c.args.multipliers.now c.args.strict (omega (arith, c.requires.made.nine, c.requires.list.few)) c.args.self.now.rows.items
    (all_long columns sources c.args.self.now.rows.items c.requires.list.few c.requires.list.rows))
    ∙ ap₂ (λ d ks. list_any (eq-value.it d) ks) (sym c.direction_of.ensures) (sym c.requires.list.seen)
    ∙ not_back c.in-Ok.added (list_any (eq-value.it c.direction_of.result) c.args.self.now.seen.keys) c.in-Ok.ensures.added

pub returns-then-strict-clause-taken : goal.returns-then-strict-clause-taken
returns-then-strict-clause-taken c =
    let s = (goal.at.returns-then-strict-clause-taken c).After-is_zero in
    ends_by c.refuted.result (spread 0 c.args.self.now.sources c.args.multipliers.now) _ c.refuted.ensures
    (ends_refuted _ (row s) (fit_all s) (zero_is s ∙ c.if-is_zero.true) c.if-strict.true)

pub returns-then-is_zero-clause-taken : goal.returns-then-is_zero-clause-taken
returns-then-is_zero-clause-taken c =
    let s = (goal.at.returns-then-is_zero-clause-taken c).After-is_zero in
    drops_zero _ (row s) (fit_all s) (zero_is s ∙ c.if-is_zero.true) c.if-strict.false

pub returns-then-not-added-clause-taken : goal.returns-then-not-added-clause-taken
returns-then-not-added-clause-taken c =
    let s = (goal.at.returns-then-not-added-clause-taken c).After-is_zero in
    let t = (goal.at.returns-then-not-added-clause-taken c).In-Ok in
    drops_same _ (row s) (fit_all s) (zero_is s ∙ c.if-is_zero.false) (seen_is t ∙ ap not c.if-not-added.true)

pub returns-then-len-ge-MAX_ROWS-clause-taken : goal.returns-then-len-ge-MAX_ROWS-clause-taken
returns-then-len-ge-MAX_ROWS-clause-taken c =
    let s = (goal.at.returns-then-len-ge-MAX_ROWS-clause-taken c).After-is_zero in
    let t = (goal.at.returns-then-len-ge-MAX_ROWS-clause-taken c).In-Ok in
    ends_full _ (row s) (fit_all s) (zero_is s ∙ c.if-is_zero.false) (seen_is t ∙ ap not c.if-not-added.false)
    (at_least_full c.len.result _ (length-list c.args.self.now.columns c.args.self.now.sources c.args.self.now.rows.items ∙ sym c.args.self.now.rows.ok.0 ∙ sym c.len.ensures) c.if-len-ge-MAX_ROWS.true)

pub returns-clause-taken : goal.returns-clause-taken
returns-clause-taken c =
    let s = (goal.at.returns-clause-taken c).After-is_zero in
    let t = (goal.at.returns-clause-taken c).In-Ok in
    let columns = c.args.self.now.columns in
    let sources = c.args.self.now.sources in
    let new : KeptRow = record { entries = c.args.entries; multipliers = c.in-Ok-from_slice.multipliers; strict = c.args.strict } in
    let items : c.push.new.self.items ≡ c.args.self.now.rows.items ++ new ∷ [] = grind (arith, common_steps) in
    let multipliers : c.in-Ok-from_slice.multipliers.items ≡ c.args.multipliers.now = c.in-Ok-from_slice.ensures.items in
    appends _ (row s) (fit_all s) (zero_is s ∙ c.if-is_zero.false) (seen_is t ∙ ap not c.if-not-added.false)
    (below_full c.len.result _ (length-list columns sources c.args.self.now.rows.items ∙ sym c.args.self.now.rows.ok.0 ∙ sym c.len.ensures) c.if-len-ge-MAX_ROWS.false)
    ∙ ap (λ ms. Ok (list_of c.args.self.now ++ kept columns sources c.args.entries ms c.args.strict ∷ [])) (sym multipliers)
    ∙ ap Ok (list_push columns sources c.args.self.now.rows.items new ∙ ap (map (kept_of columns sources)) (sym items))

pub returns-clause-list : goal.returns-clause-list
returns-clause-list c =
    let t = (goal.at.returns-clause-list c).In-Ok in
    let columns = c.args.self.now.columns in
    let sources = c.args.self.now.sources in
    let new : KeptRow = record { entries = c.args.entries; multipliers = c.in-Ok-from_slice.multipliers; strict = c.args.strict } in
    let items : c.push.new.self.items ≡ c.args.self.now.rows.items ++ new ∷ [] = grind (arith, common_steps) in
    let multipliers : c.in-Ok-from_slice.multipliers.items ≡ c.args.multipliers.now = c.in-Ok-from_slice.ensures.items in
    let fresh : list_any (eq-value.it c.direction_of.result) c.args.self.now.seen.keys ≡ false =
    not_back c.in-Ok.added (list_any (eq-value.it c.direction_of.result) c.args.self.now.seen.keys) c.in-Ok.ensures.added ∙ ap not c.if-not-added.false in
    let keys : c.insert_full.new.self.keys ≡ c.args.self.now.seen.keys ++ c.direction_of.result ∷ [] =
    c.in-Ok.ensures.keys ∙ ap (λ (b : Bool). if b then c.args.self.now.seen.keys else (c.args.self.now.seen.keys ++ c.direction_of.result ∷ [])) fresh in
    let kept_row : IsKeptRow columns sources new = subst (IsMade columns sources c.args.entries) (sym multipliers) c.requires.made in (
      record {
        few = c.requires.list.few;
        rows = subst (λ (rs : List KeptRow). All (IsKeptRow columns sources) rs) (sym items)
            (All-push (IsKeptRow columns sources) c.args.self.now.rows.items new c.requires.list.rows kept_row);
        seen = keys
            ∙ ap₂ (λ ks d. ks ++ d ∷ []) c.requires.list.seen c.direction_of.ensures
            ∙ directions_push columns c.args.self.now.rows.items new ∙ ap (map (row_direction columns)) (sym items);
      },
      record { columns_same = refl; sources_same = refl },
    )
