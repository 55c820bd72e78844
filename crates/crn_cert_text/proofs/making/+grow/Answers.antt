use Rattle.std.proofs.Common.{◌≡◌, ℕ, suc, ◌+◌, ◌<◌, ◌++◌, ◌∷◌, [], List, length, get_or, take, sym, ap, ◌∙◌, ⊎_elim, subst, arith}
use Rattle.std.specs.Prelude.{ℤ, ◌≢◌}
use Rattle.std.proofs.lemmas.Bool.{cases_eq}
use Rattle.std.proofs.lemmas.List.{length-map, length_push}
use Rattle.std.proofs.lemmas.Result.{err_from_is_err_and}
use Rattle.crn_linear.specs.Rows.{Row}
use Rattle.crn_farkas.specs.Systems.{IsCertificate, IsPointOf, HasPoint}
use Rattle.crn_feasible.specs.declared.Verdict.{Verdict}
use Rattle.crn_feasible.specs.declared.Verdict.TheVariants.{Found, Refuted}
use Rattle.crn_formula.specs.Pieces.{Domain, columns_of}
use Rattle.crn_pieces.specs.Systems.{cover_rows, cover_system, system_over}
use Rattle.crn_pieces.specs.Choices.{AreChoices, IsFull}
use Rattle.crn_pieces.specs.Views.{lists_of}
use Rattle.crn_pieces.proofs.Walk.{AreChoices-next, walk_found}
use Rattle.crn_pieces.proofs.SearchSteps.{pushed_rows, turned_rows, here, below_here, few_asked, long_asked, next_asked, popped}
use Rattle.crn_cert_text.specs.declared.ProofLine.{ProofLine}
use Rattle.crn_cert_text.specs.declared.ProofLine.TheVariants.{Close, Split}
use Rattle.crn_cert_text.specs.Proofs.{IsProofOf}
use Rattle.crn_cert_text.specs.Making.{IsVerdict, Grows, Goes}
use Rattle.crn_cert_text.specs.Views.{line_of, lines_of_proof}
use Rattle.crn_cert_text.proofs.Growing.{pushed_line, goes_closed, goes_opened, goes_end}
use Rattle.crn_cert_text.proofs.making.+grow.Goals as goal
use Rattle.crn_cert_text.proofs.making.+grow.Goals.{After-as_slice, in-Found+in_ok-push-in-Found+in_ok-grow-in-Found, in-Refuted+in_ok-multipliers-in-Refuted+in_ok-push-in-Refuted}

-- a verdict on the rows that are asked
module _ (D : Domain) (C : List (List Row)) (ks : List ℕ) {rows : List Row} (e : rows ≡ cover_rows C ks) {v : Verdict} where
  found_of : {p : List ℤ} → v ≡ Found p → IsVerdict (system_over D rows) v → IsPointOf (cover_system D C ks) p
  found_of {p} f h = subst (λ (l : List Row). IsPointOf (system_over D l) p) e (subst (IsVerdict (system_over D rows)) f h)

  certificate_of : {d : List ℤ} → v ≡ Refuted d → IsVerdict (system_over D rows) v → IsCertificate (cover_system D C ks) d
  certificate_of {d} f h = subst (λ (l : List Row). IsCertificate (system_over D l) d) e (subst (IsVerdict (system_over D rows)) f h)

-- where no full list has a point there is a further piece
further : (D : Domain) (C : List (List Row)) (ks : List ℕ) (k : ℕ) (p : List ℤ) → AreChoices C ks → length ks < length C → k < length (get_or C (length ks) []) → IsPointOf (cover_system D C (ks ++ k ∷ [])) p
    → ((full : List ℕ) → IsFull C full → ¬ HasPoint (cover_system D C full)) → suc (length ks) < length C
further D C ks k p a l b h none =
    ⊎_elim (λ (e : suc (length ks) ≡ length C). let f = walk_found D C ks k p a b e h in absurd (none f.0 f.1 (p, f.2))) (λ (n : suc (length ks) ≢ length C). omega arith) (cases_eq (suc (length ks)) (length C))

below : (t : ℕ) (c : After-as_slice t) → c.loop-k.k < length (get_or (lists_of c.args.conditions.now) (length c.args.choices.now.items) [])
below t c =
    below_here c.args.domain.now c.args.conditions.now c.args.choices.now.items c.loop-k.k c.len-depth.result c.index-conditions-depth.result (omega (arith, c.len-depth.ensures, c.requires.deeper)) (omega (arith, c.len-depth.ensures))
    c.index-conditions-depth.is (omega (arith, c.loop-k-test.true, c.len-k-end.ensures))

-- the rows that are asked are those of the choices with this one
current : (t : ℕ) (c : After-as_slice t) → c.as_slice.result.now ≡ cover_rows (lists_of c.args.conditions.now) (c.args.choices.now.items ++ c.loop-k.k ∷ [])
current t c =
    c.as_slice.ensures.value
    ∙ pushed_rows c.args.domain.now c.args.conditions.now c.args.choices.now.items c.loop-k.k c.len-depth.result c.index-conditions-depth-in-loop-k.result
    (omega (arith, c.len-depth.ensures, c.requires.deeper)) (omega (arith, c.len-depth.ensures)) c.index-conditions-depth-in-loop-k.is c.index.result.now c.opposite.result (below t c) c.index.ensures c.opposite.ensures
    c.loop-k.rows.items c.push-in-loop-k.new.self.items
    (c.loop-k.invariant.rows ∙ ap (λ l. cover_rows (lists_of c.args.conditions.now) l ++ take c.loop-k.k (get_or (lists_of c.args.conditions.now) (length l) [])) c.loop-k.invariant.choices)
    c.in_ok-push-2.ensures.items

deeper : (t : ℕ) (c : After-as_slice t) → length c.args.choices.now.items < length (lists_of c.args.conditions.now)
deeper t c = omega (arith, c.requires.deeper, length-map c.args.conditions.now (λ v. v.items))

made : (t : ℕ) (c : After-as_slice t) → Goes c.args.domain.now (lists_of c.args.conditions.now) c.args.choices.now.items (lines_of_proof c.args.lines.now.items) (lines_of_proof c.loop-k.lines.items) c.loop-k.k
made t c =
    subst (λ (l : List ℕ). Goes c.args.domain.now (lists_of c.args.conditions.now) l (lines_of_proof c.args.lines.now.items) (lines_of_proof c.loop-k.lines.items) c.loop-k.k) c.loop-k.invariant.choices c.loop-k.invariant.made

pub ask-requires-clause-lengths : goal.ask-requires-clause-lengths
ask-requires-clause-lengths t c =
    long_asked (columns_of c.args.domain.now) c.args.conditions.now (c.args.choices.now.items ++ c.loop-k.k ∷ []) c.as_slice.result.now c.requires.lengths (current t c)

pub ask-requires-clause-few : goal.ask-requires-clause-few
ask-requires-clause-few t c = few_asked c.args.conditions.now (c.args.choices.now.items ++ c.loop-k.k ∷ []) c.as_slice.result.now c.requires.few (current t c)

pub returns-in_err-ask-clause-grown : goal.returns-in_err-ask-clause-grown
returns-in_err-ask-clause-grown t c =
    let s = (goal.at.returns-in_err-ask-clause-grown t c).After-as_slice in
    let p = err_from_is_err_and c.from_residual-in_err-ask.result c.from_residual-in_err-ask.ensures.1 in
    let h = next_asked c.args.domain.now (lists_of c.args.conditions.now) c.args.choices.now.items c.loop-k.k c.as_slice.result.now (current t s) c.requires.chosen (deeper t s) (below t s) c.requires.point
    (λ full f _. c.requires.none full f) c.in_err-ask.field-0.0 c.in_err-ask.ensures in
    rw (p.1, p.2) h

pub grow-requires : goal.grow-requires
grow-requires t c =
    let s = (goal.at.grow-requires t c).After-as_slice in
    let C = lists_of c.args.conditions.now in
    let D = c.args.domain.now in
    let ks = c.args.choices.now.items in
    let now : c.push.new.self.items ≡ ks ++ c.loop-k.k ∷ [] = c.in_ok-push.ensures.items ∙ ap (λ l. l ++ c.loop-k.k ∷ []) c.loop-k.invariant.choices in
    let rows : c.push-in-loop-k.new.self.items ≡ cover_rows C c.push.new.self.items = sym c.as_slice.ensures.value ∙ current t s ∙ ap (cover_rows C) (sym now) in
    let long : length c.push.new.self.items ≡ length ks + 1 = ap (length {A = ℕ}) now ∙ length_push ks c.loop-k.k in
    let point = found_of D C (ks ++ c.loop-k.k ∷ []) (current t s) c.in-Found.is c.in_ok-ask.ensures in
    let more : suc (length ks) < length C = further D C ks c.loop-k.k c.in-Found.field-0 c.requires.chosen (deeper t s) (below t s) point c.requires.none in (
      omega (arith, c.decreases, long, c.requires.deeper),
      (
        rows,
        (
          subst (AreChoices C) (sym now) (AreChoices-next C ks c.loop-k.k c.requires.chosen (deeper t s) (below t s)),
          (
            omega (arith, long, more, length-map c.args.conditions.now (λ v. v.items)),
            (
              subst (λ (l : List ℕ). HasPoint (cover_system D C l)) (sym now) (c.in-Found.field-0, point),
              (c.requires.none, (c.requires.lengths, c.requires.few)),
            ),
          ),
        ),
      ),
    )

pub loop-k-preserved : goal.loop-k-preserved
loop-k-preserved t c =
    let s = (goal.at.loop-k-preserved t c).After-as_slice in
    let D = c.args.domain.now in
    let C = lists_of c.args.conditions.now in
    let ks = c.args.choices.now.items in
    let k = c.loop-k.k in
    let old = lines_of_proof c.args.lines.now.items in
    let lines = lines_of_proof c.loop-k.lines.items in
    let now : c.push.new.self.items ≡ ks ++ k ∷ [] = c.in_ok-push.ensures.items ∙ ap (λ l. l ++ k ∷ []) c.loop-k.invariant.choices in
    let rows_now : c.push-in-loop-k.new.self.items ≡ c.loop-k.rows.items ++ c.opposite.result ∷ [] = c.in_ok-push-2.ensures.items in
    let after : (c.match-branch-4.choices.items ≡ ks ++ k ∷ []) × (c.match-branch-4.rows.items ≡ c.loop-k.rows.items ++ c.opposite.result ∷ []) × Goes D C ks old (lines_of_proof c.match-branch-4.lines.items) (k + 1) =
    elim c.match-branch-4.branch [
      | in-Found+in_ok-push-in-Found+in_ok-grow-in-Found w ↦
          let point = found_of D C (ks ++ k ∷ []) (current t s) w.in-Found.is c.in_ok-ask.ensures in
          let more : suc (length ks) < length C = further D C ks k w.in-Found.field-0 c.requires.chosen (deeper t s) (below t s) point c.requires.none in
          let middle : lines_of_proof w.push-in-Found.new.self.items ≡ lines ++ line_of Split ∷ [] = pushed_line c.loop-k.lines.items w.push-in-Found.new.self.items Split w.in_ok-push-in-Found.ensures.items in
          let grown = subst (λ (l : List ℕ). Grows D C l (lines_of_proof w.push-in-Found.new.self.items) (lines_of_proof w.grow.new.lines.items)) now w.in_ok-grow-in-Found.ensures.grown in
          let goes = goes_opened D C ks old lines (lines_of_proof w.push-in-Found.new.self.items) (lines_of_proof w.grow.new.lines.items) k (made t s) (below t s) more middle grown in (
            ap (λ v. v.items) w.choices-is ∙ w.in_ok-grow-in-Found.ensures.choices ∙ now,
            ap (λ v. v.items) w.rows-is ∙ w.in_ok-grow-in-Found.ensures.rows ∙ rows_now,
            subst (λ (l : List ProofLine). Goes D C ks old (lines_of_proof l) (k + 1)) (sym (ap (λ v. v.items) w.lines-is)) goes,
          )
      | in-Refuted+in_ok-multipliers-in-Refuted+in_ok-push-in-Refuted w ↦
          let m = w.in_ok-multipliers-in-Refuted.multipliers in
          let e : m.items ≡ w.in-Refuted.certificate = w.in_ok-multipliers-in-Refuted.ensures.items ∙ w.multipliers.ensures.value in
          let certificate = certificate_of D C (ks ++ k ∷ []) (current t s) w.in-Refuted.is c.in_ok-ask.ensures in
          let proof : IsProofOf (cover_system D C (ks ++ k ∷ [])) m.items = subst (IsProofOf (cover_system D C (ks ++ k ∷ []))) (sym e) (record { small = w.multipliers.ensures.small; certificate = certificate }) in
          let pushed = pushed_line c.loop-k.lines.items w.push-in-Refuted.new.self.items (Close m) w.in_ok-push-in-Refuted.ensures.items in
          let goes = goes_closed D C ks old lines (lines_of_proof w.push-in-Refuted.new.self.items) k m.items (made t s) (below t s) proof pushed in (
            ap (λ v. v.items) w.choices-is ∙ now,
            ap (λ v. v.items) w.rows-is ∙ rows_now,
            subst (λ (l : List ProofLine). Goes D C ks old (lines_of_proof l) (k + 1)) (sym (ap (λ v. v.items) w.lines-is)) goes,
          )
    ] in
    let choices : c.pop.new.self.items ≡ ks = popped c.match-branch-4.choices.items c.pop.new.self.items c.pop.result ks k c.pop.ensures.items c.pop.ensures.variant (omega arith) after.0 in
    let kept : c.pop-in-loop-k.new.self.items ≡ c.loop-k.rows.items =
    popped c.match-branch-4.rows.items c.pop-in-loop-k.new.self.items c.pop-in-loop-k.result c.loop-k.rows.items c.opposite.result c.pop-in-loop-k.ensures.items c.pop-in-loop-k.ensures.variant (omega arith) after.1 in
    let turned : c.push-in-loop-k-2.new.self.items ≡ cover_rows C ks ++ take (k + 1) (get_or C (length ks) []) =
    turned_rows D c.args.conditions.now ks k c.len-depth.result c.index-conditions-depth-in-loop-k.result (omega (arith, c.len-depth.ensures, c.requires.deeper)) (omega (arith, c.len-depth.ensures))
    c.index-conditions-depth-in-loop-k.is c.index.result.now c.opposite.result (below t s) c.index.ensures c.opposite.ensures c.loop-k.rows.items c.push-in-loop-k-2.new.self.items
    (c.loop-k.invariant.rows ∙ ap (λ l. cover_rows C l ++ take k (get_or C (length l) [])) c.loop-k.invariant.choices)
    (c.in_ok-push-3.ensures.items ∙ ap (λ l. l ++ c.index.result.now ∷ []) kept) in
    record {
      choices = choices;
      rows = turned ∙ ap (λ l. cover_rows C l ++ take (k + 1) (get_or C (length l) [])) (sym choices);
      made = subst (λ (l : List ℕ). Goes D C l old (lines_of_proof c.match-branch-4.lines.items) (k + 1)) (sym choices) after.2;
    }

pub returns-clause-grown : goal.returns-clause-grown
returns-clause-grown t c =
    let n : c.loop-k.k ≡ length c.index-conditions-depth.result.items = omega (arith, c.loop-k-test.false, c.len-k-end.ensures, c.loop-k.auto.k-end) in
    let e = here c.args.domain.now c.args.conditions.now c.args.choices.now.items c.loop-k.k c.len-depth.result c.index-conditions-depth.result (omega (arith, c.len-depth.ensures, c.requires.deeper)) (omega (arith, c.len-depth.ensures))
    c.index-conditions-depth.is in
    let last : c.loop-k.k ≡ length (get_or (lists_of c.args.conditions.now) (length c.args.choices.now.items) []) = n ∙ ap (length {A = Row}) (sym e) in
    let goes = subst (λ (l : List ℕ). Goes c.args.domain.now (lists_of c.args.conditions.now) l (lines_of_proof c.args.lines.now.items) (lines_of_proof c.loop-k.lines.items) c.loop-k.k) c.loop-k.invariant.choices
    c.loop-k.invariant.made in
    goes_end c.args.domain.now (lists_of c.args.conditions.now) c.args.choices.now.items (lines_of_proof c.args.lines.now.items) (lines_of_proof c.loop-k.lines.items) c.loop-k.k goes last
