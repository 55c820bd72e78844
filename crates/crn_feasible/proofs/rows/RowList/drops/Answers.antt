use Rattle.std.proofs.Common.{arith, rules, ℕ, true, false, not, cond, [], Bool, List, length, take, sym, ap, ap₂, ◌∙◌, ◌≡◌, ◌≤◌, subst, to_z, of_z}
use Rattle.std.specs.Prelude.{pos}
use Rattle.std.specs.Int.{w64}
use Rattle.std.specs.List.{All, list_any}
use Rattle.std.proofs.lemmas.Int.{to_z-of_z}
use Rattle.crn_linear.specs.Rows.{AreSmall}
use Rattle.crn_linear.specs.Views.{padded}
use Rattle.crn_farkas.specs.Mixtures.{mixed}
use Rattle.crn_feasible.specs.contracts.rows.DirectionPartialEq.TheImpl.{eq-value}
use Rattle.crn_feasible.specs.declared.rows.KeptRow.{KeptRow}
use Rattle.crn_feasible.specs.Elimination.{same_direction}
use Rattle.crn_feasible.specs.Steps.{kept, list_of, IsKeptRow}
use Rattle.crn_feasible.proofs.Dropping.{sums_seen, drops_zeros, drops_seen}
use Rattle.crn_feasible.proofs.Seen.{seen_any}
use Rattle.crn_feasible.proofs.rows.RowList.drops.Goals.{After-is_zero, then-p, else-p}
use Rattle.crn_feasible.proofs.rows.RowList.drops.Goals as goal

sums_are : (c : After-is_zero) → c.short_sums-sums.result ≡ padded (pos 0) (mixed c.args.a (take c.args.self.now.columns c.args.p.now.entries) c.args.b (take c.args.self.now.columns c.args.n.now.entries))
sums_are c =
    c.short_sums-sums.ensures.sums
    ∙ ap₂ (λ x y. padded (pos 0) (mixed x (take c.args.self.now.columns c.args.p.now.entries) y (take c.args.self.now.columns c.args.n.now.entries)))
    (to_z-of_z w64 c.args.a c.ranges.a) (to_z-of_z w64 c.args.b c.ranges.b)

strict_is : (c : After-is_zero) → c.if-p.strict ≡ cond c.args.p.now.strict true c.args.n.now.strict
strict_is c =
    elim c.if-p.branch [
      | then-p w ↦ w.strict-is ∙ w.if-p.true ∙ ap (λ s. cond s true c.args.n.now.strict) (sym w.if-p.true)
      | else-p w ↦ w.strict-is ∙ ap (λ s. cond s true c.args.n.now.strict) (sym w.if-p.false)
    ]

all_long : (columns sources : ℕ) (rows : List KeptRow) → columns ≤ 9 → All (IsKeptRow columns sources) rows → All (λ r. columns ≤ length r.entries) rows
all_long columns sources rows few h = λ k d l. let nine = (h k d l).nine in omega (arith, nine)

is_weak : (b : Bool) → not b ≡ true → b ≡ false
is_weak true h = cc
is_weak false h = cc

pub returns-then-is_zero : goal.returns-then-is_zero
returns-then-is_zero c = λ t.
    let s = (goal.at.returns-then-is_zero c).After-is_zero in
    drops_zeros c.args.self.now.columns c.args.self.now.sources c.args.a c.args.p.now c.args.b c.args.n.now (list_of c.args.self.now) c.requires.list.few c.requires.first c.requires.second
    c.requires.short c.short_sums-sums.result (sums_are s) c.if-p.strict (strict_is s) c.is_zero.result c.is_zero.ensures c.if-is_zero.true (is_weak c.if-p.strict t)

pub direction_of-requires-clause-small : goal.direction_of-requires-clause-small
direction_of-requires-clause-small c =
    let s = (goal.at.direction_of-requires-clause-small c).After-is_zero in
    let columns = c.args.self.now.columns in
    let p = take columns c.args.p.now.entries in
    let n = take columns c.args.n.now.entries in
    let small : AreSmall (mixed c.args.a p c.args.b n) =
    subst (λ x. AreSmall (mixed x p c.args.b n)) (to_z-of_z w64 c.args.a c.ranges.a) (subst (λ y. AreSmall (mixed (to_z w64 (of_z w64 c.args.a)) p y n)) (to_z-of_z w64 c.args.b c.ranges.b) c.short_sums-sums.ensures.small) in
    subst AreSmall
    (sym (sums_seen columns c.args.self.now.sources c.args.a c.args.p.now c.args.b c.args.n.now (list_of c.args.self.now) c.requires.list.few c.requires.first c.requires.second
    c.requires.short c.short_sums-sums.result (sums_are s) c.if-p.strict (strict_is s))) small

pub returns : goal.returns
returns c = λ t.
    let s = (goal.at.returns c).After-is_zero in
    let columns = c.args.self.now.columns in
    let sources = c.args.self.now.sources in
    let sums = c.short_sums-sums.result in
    let nine : length sums ≡ 9 = search rules in
    let seen : list_any (same_direction (kept columns sources sums [] c.if-p.strict)) (list_of c.args.self.now) ≡ true =
    sym (seen_any columns sources sums [] c.if-p.strict (omega (arith, nine, c.requires.list.few)) c.args.self.now.rows.items
    (all_long columns sources c.args.self.now.rows.items c.requires.list.few c.requires.list.rows))
    ∙ ap₂ (λ d ks. list_any (eq-value.it d) ks) (sym c.direction_of.ensures) (sym c.requires.list.seen)
    ∙ sym c.contains.ensures ∙ t in
    drops_seen columns sources c.args.a c.args.p.now c.args.b c.args.n.now (list_of c.args.self.now) c.requires.list.few c.requires.first c.requires.second
    c.requires.short sums (sums_are s) c.if-p.strict (strict_is s) c.is_zero.result c.is_zero.ensures c.if-is_zero.false seen
