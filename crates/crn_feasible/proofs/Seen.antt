-- The directions that were seen are those of the rows in the list.
use Rattle.std.proofs.Common.{◌≡◌, ℕ, ◌-◌, ◌≤◌, Bool, ◌&&◌, ◌||◌, List, [], ◌∷◌, ◌++◌, length, take, map, refl, sym, ap, ap₂, ◌∙◌}
use Rattle.std.specs.Prelude.{ℤ, pos, replicate}
use Rattle.std.specs.List.{All, list_any}
use Rattle.std.specs.Ordering.{int_eq}
use Rattle.std.specs.Cmp.Lexicographic.{pointwise}
use Rattle.std.specs.Bool.{beq}
use Rattle.std.proofs.lemmas.List.{length-take-le}
use Rattle.std.proofs.lemmas.List.Elements.{All-head, All-tail}
use Rattle.crn_feasible.specs.contracts.rows.DirectionPartialEq.TheImpl.{eq-value}
use Rattle.crn_feasible.specs.declared.rows.Direction.{Direction}
use Rattle.crn_feasible.specs.declared.rows.KeptRow.{KeptRow}
use Rattle.crn_feasible.specs.Elimination.{direction, same_direction}
use Rattle.crn_feasible.specs.Steps.{kept, kept_of, direction_of, row_direction}
use Rattle.crn_feasible.proofs.Directions.{length-direction}
use Rattle.crn_feasible.proofs.Lists.{pointwise_padded}

same_keys : (a b : Direction) → eq-value.it a b ≡ (pointwise int_eq a.entries b.entries && beq a.strict b.strict)
same_keys a b = refl

length-part : (columns : ℕ) (entries : List ℤ) → columns ≤ length entries → length (direction (take columns entries)) ≡ columns
length-part columns entries h = length-direction (take columns entries) ∙ length-take-le columns entries h

module _ (columns sources : ℕ) (entries : List ℤ) (ms : List (ℕ × ℤ)) (strict : Bool) (h : columns ≤ length entries) where
  same_one : (b : KeptRow) → columns ≤ length b.entries
      → eq-value.it (direction_of (take columns entries) strict) (row_direction columns b) ≡ same_direction (kept columns sources entries ms strict) (kept_of columns sources b)
  unfolding same_direction
  same_one b k =
      let la = length-part columns entries h in
      let lb = length-part columns b.entries k in
      let da = direction (take columns entries) in
      let db = direction (take columns b.entries) in
      same_keys (direction_of (take columns entries) strict) (row_direction columns b)
      ∙ ap (λ t. t && beq strict b.strict)
      (ap₂ (λ m n. pointwise int_eq (da ++ replicate (9 - m) (pos 0)) (db ++ replicate (9 - n) (pos 0))) la lb
      ∙ pointwise_padded (9 - columns) da db (la ∙ sym lb))

  -- a direction was seen where a row of the list has it
  pub seen_any : (rows : List KeptRow) → All (λ r. columns ≤ length r.entries) rows
      → list_any (eq-value.it (direction_of (take columns entries) strict)) (map (row_direction columns) rows) ≡ list_any (same_direction (kept columns sources entries ms strict)) (map (kept_of columns sources) rows)
  seen_any [] all = refl
  seen_any (r ∷ rows) all =
      ap₂ (λ s t. s || t) (same_one r (All-head (λ (b : KeptRow). columns ≤ length b.entries) r rows all))
      (seen_any rows (All-tail (λ (b : KeptRow). columns ≤ length b.entries) r rows all))
