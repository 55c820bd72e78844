use Rattle.std.proofs.Common.{arith, sym, ap₂, ◌∙◌, ◌≡◌, ℕ, List, length, subst, get_or}
use Rattle.std.specs.Prelude.{All}
use Rattle.crn_fraction.specs.Rational.{ℚ}
use Rattle.crn_linear.specs.Forms.{wholes}
use Rattle.crn_cells.specs.Cells.{Ascend}
use Rattle.crn_maxmin.specs.Marked.{numbered_forms}
use Rattle.crn_superadd.specs.Superadditive.{least_times}
use Rattle.crn_superadd.specs.Views.{cells_of}
use Rattle.crn_pieces.specs.Views.{pieces_in}
use Rattle.crn_superadd.specs.Answers.{cell_at}
use Rattle.crn_maxmin.proofs.Prepared.{long_pieces}
use Rattle.crn_superadd.proofs.Answering.{few_marked, forms_long, refuted, marked_there, order_there, columns_there}
use Rattle.crn_superadd.proofs.refutation.Goals as goal

pub least_times-times-requires-clause-long : goal.least_times-times-requires-clause-long
least_times-times-requires-clause-long c =
    let D = c.args.checked.now.domain in
    let P = pieces_in c.args.checked.now in
    let r = c.forms.ensures.checked in
    let few = few_marked c.args.cells.now c.requires.few_cells in
    let n = columns_there D P c.args.cells.now c.requires.points c.args.low c.index-cells-low.result c.requires.places.low_within in
    let all = forms_long D P (cells_of c.args.cells.now) r.is_domain (long_pieces D P r.long) r.covers r.agree c.requires.cells few in
    subst (λ (m : ℕ). All (λ f. length f ≡ m) c.forms.result.now) n (subst (All (λ (f : List ℚ). length f ≡ length D.inside)) (sym c.forms.ensures.value) all)

pub least_times-times-requires-clause-ascend : goal.least_times-times-requires-clause-ascend
least_times-times-requires-clause-ascend c =
    let D = c.args.checked.now.domain in
    let P = pieces_in c.args.checked.now in
    let r = c.forms.ensures.checked in
    let cells = c.args.cells.now in
    let l = c.requires.places.low_within in
    let p = (get_or cells c.args.low c.index-cells-low.result).cell.point in
    let m = marked_there D P cells c.requires.points c.args.low c.index-cells-low.result l in
    let order : c.as_slice.result.now ≡ (cell_at (cells_of cells) c.args.low).order =
    c.as_slice.ensures.value ∙ order_there D P cells c.requires.points c.args.low c.index-cells-low-2.result l in
    subst (λ (f : List (List ℚ)). Ascend f (wholes p) c.as_slice.result.now) (sym c.forms.ensures.value) (subst (λ (o : List ℕ). Ascend (numbered_forms P) (wholes p) o) (sym order) m.met.ascend)

pub returns-clause-refused : goal.returns-clause-refused
returns-clause-refused c =
    let D = c.args.checked.now.domain in
    let P = pieces_in c.args.checked.now in
    let r = c.forms.ensures.checked in
    let cells = c.args.cells.now in
    let few = few_marked cells c.requires.few_cells in
    let low = c.requires.places.low_within in
    let high = c.requires.places.high_within in
    let p = (get_or cells c.args.low c.index-cells-low.result).cell.point in
    let q = (get_or cells c.args.high c.index-cells-high.result).cell.point in
    let order : c.as_slice.result.now ≡ (cell_at (cells_of cells) c.args.low).order =
    c.as_slice.ensures.value ∙ order_there D P cells c.requires.points c.args.low c.index-cells-low-2.result low in
    refuted D P (cells_of cells) r.is_domain (long_pieces D P r.long) r.covers r.agree c.requires.cells few c.args.low c.args.high c.requires.places p q
    (marked_there D P cells c.requires.points c.args.low c.index-cells-low.result low) (marked_there D P cells c.requires.points c.args.high c.index-cells-high.result high)
    c.least_times-times.result
    (c.least_times-times.ensures.value ∙ ap₂ (λ f o. least_times f o p q) c.forms.ensures.value order)

pub returns-clause-multiple : goal.returns-clause-multiple
returns-clause-multiple c =
    let D = c.args.checked.now.domain in
    let P = pieces_in c.args.checked.now in
    let n = columns_there D P c.args.cells.now c.requires.points c.args.high c.index-cells-high.result c.requires.places.high_within in
    omega (arith, n, c.requires.few, c.least_times-times.ensures.small)
