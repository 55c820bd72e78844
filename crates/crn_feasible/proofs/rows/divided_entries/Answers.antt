use Rattle.std.proofs.Common.{arith, rules, refl, ◌≡◌, ◌∙◌, List, length, sym, ap, ap₂, subst, to_z, of_z, SFits, get_or, false}
use Rattle.std.specs.Prelude.{ℤ, pos, ◌+ℤ◌, ◌*ℤ◌, int_div}
use Rattle.std.specs.List.{list_all}
use Rattle.std.specs.Int.{w64, w128}
use Rattle.std.proofs.lemmas.Int.{to_z-of_z}
use Rattle.std.proofs.lemmas.List.{take_all}
use Rattle.std.proofs.lemmas.List.Elements.{All-more}
use Rattle.crn_linear.proofs.Padding.{padding_step, padding_end}
use Rattle.crn_linear.specs.Rows.{IsSmall, AreSmall}
use Rattle.crn_linear.specs.Views.{padded}
use Rattle.crn_farkas.specs.Mixtures.{mixed}
use Rattle.crn_farkas.proofs.Mixing.{get_or-mixed}
use Rattle.crn_feasible.specs.Elimination.{fits}
use Rattle.crn_linear.specs.Cleared.{over}
use Rattle.crn_feasible.proofs.Certificates.{length-mixed}
use Rattle.crn_linear.proofs.Commons.{length-over}
use Rattle.crn_linear.proofs.Commons.{get_or-over}
use Rattle.crn_feasible.proofs.Quotients.{refused_at}
use Rattle.crn_feasible.proofs.Turns.{itself}
use Rattle.crn_feasible.proofs.rows.divided_entries.Goals.{After-over_divisor}
use Rattle.crn_feasible.proofs.rows.divided_entries.Goals as goal

abbrev a : After-over_divisor → ℤ
a c = to_z w64 (of_z w64 c.args.a)

abbrev b : After-over_divisor → ℤ
b c = to_z w64 (of_z w64 c.args.b)

abbrev entries : After-over_divisor → List ℤ
entries c = over c.args.divisor (mixed (a c) c.args.p.now (b c) c.args.n.now)

-- the number at place i, as the code computes it
number_is : (c : After-over_divisor) → c.mix-number.result ≡ a c *ℤ get_or c.args.p.now c.loop-i.i (pos 0) +ℤ b c *ℤ get_or c.args.n.now c.loop-i.i (pos 0)
number_is c =
    let fp : SFits w64 (get_or c.args.p.now c.loop-i.i (pos 0)) = search rules in
    let fn : SFits w64 (get_or c.args.n.now c.loop-i.i (pos 0)) = search rules in
    c.mix-number.ensures.value ∙ ap₂ (λ s t. a c *ℤ s +ℤ b c *ℤ t) (to_z-of_z w64 _ fp) (to_z-of_z w64 _ fn)

number_back : (c : After-over_divisor) → to_z w128 (of_z w128 c.mix-number.result) ≡ c.mix-number.result
number_back c = let fits : SFits w128 c.mix-number.result = search rules in to_z-of_z w128 _ fits

long : (c : After-over_divisor) → length (entries c) ≡ length c.args.p.now
long c = length-over c.args.divisor (mixed (a c) c.args.p.now (b c) c.args.n.now) ∙ length-mixed (a c) c.args.p.now (b c) c.args.n.now (length c.args.p.now) refl (sym c.requires.same)

pub returns-in_default : goal.returns-in_default
returns-in_default c =
    let s = (goal.at.returns-in_default c).After-over_divisor in
    let no : fits (int_div c.mix-number.result (pos c.args.divisor)) ≡ false = ap (λ t. fits (int_div t (pos c.args.divisor))) (sym (number_back s)) ∙ c.in_default.ensures in
    ap₂ (λ s t. list_all fits (over c.args.divisor (mixed s c.args.p.now t c.args.n.now))) (sym (to_z-of_z w64 c.args.a c.ranges.a)) (sym (to_z-of_z w64 c.args.b c.ranges.b))
    ∙ refused_at (a s) (b s) c.args.p.now c.args.n.now c.args.divisor c.loop-i.i c.mix-number.result c.requires.same c.loop-i-test.true (number_is s) no

pub loop-i-preserved : goal.loop-i-preserved
loop-i-preserved c =
    let s = (goal.at.loop-i-preserved c).After-over_divisor in
    let i = c.loop-i.i in
    let xs = entries s in
    let part = c.in-Some.part in
    let l = long s in
    let is : part ≡ get_or xs i (pos 0) =
    c.in-Some.ensures.0 ∙ ap (λ t. int_div t (pos c.args.divisor)) (number_back s ∙ number_is s ∙ sym (get_or-mixed (a s) c.args.p.now (b s) c.args.n.now i))
    ∙ sym (get_or-over c.args.divisor (mixed (a s) c.args.p.now (b s) c.args.n.now) i) in
    record {
      places = padding_step (pos 0) xs c.loop-i.places i _ (omega (arith, l, c.loop-i-test.true)) (omega (arith, l, c.requires.few)) (itself part part c.in-Some.ensures.1 refl ∙ is) c.loop-i.invariant.places;
      small = All-more IsSmall xs i (pos 0) (omega (arith, l, c.loop-i-test.true)) c.loop-i.invariant.small (subst IsSmall is c.in-Some.ensures.1);
    }

pub returns : goal.returns
returns c =
    let p = c.args.p.now in
    let n = c.args.n.now in
    let d = c.args.divisor in
    let i = c.loop-i.i in
    let s : ℤ = to_z w64 (of_z w64 c.args.a) in
    let t : ℤ = to_z w64 (of_z w64 c.args.b) in
    let xs : List ℤ = over d (mixed s p t n) in
    let long : length xs ≡ length p = length-over d (mixed s p t n) ∙ length-mixed s p t n (length p) refl (sym c.requires.same) in
    let Shown : ℤ → ℤ → Type 0 = λ a b. (c.loop-i.places ≡ padded (pos 0) (over d (mixed a p b n))) × AreSmall (over d (mixed a p b n)) in
    subst (λ a. Shown a c.args.b) (to_z-of_z w64 c.args.a c.ranges.a) (subst (λ b. Shown s b) (to_z-of_z w64 c.args.b c.ranges.b) (
      padding_end (pos 0) xs c.loop-i.places i (omega (arith, long, c.loop-i-test.false, c.loop-i.auto.i-end)) c.loop-i.invariant.places,
      subst AreSmall (take_all i xs (omega (arith, long, c.loop-i-test.false))) c.loop-i.invariant.small,
    ))
