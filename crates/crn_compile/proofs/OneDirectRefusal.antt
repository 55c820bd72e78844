-- Two refusals of a direct network are the same but for points, unless one is a solving limit, and no other stands beside a direct network. Where the function is as it
-- should be, nothing is told but limits.
use Rattle.std.proofs.Common.{◌≡◌, inl, inr, ⊎_elim, ℕ, ◌<◌, ◌≤◌, List, sym, ap, ◌∙◌, subst, arith}
use Rattle.std.specs.Prelude.{◌≢◌, ℤ}
use Rattle.std.proofs.lemmas.Bool.{cases_lt}
use Rattle.crn_net.specs.Network.{Network}
use Rattle.crn_linear.specs.Forms.{wholes}
use Rattle.crn_formula.specs.Pieces.{Piece, Covers, Agree, columns_of}
use Rattle.crn_formula.specs.Domains.{unit, orthant}
use Rattle.crn_formula.specs.Functions.{Kind}
use Rattle.crn_pieces.specs.Views.{pieces_of_kind}
use Rattle.crn_pieces.proofs.OneRefusal.{disagreement_excludes, gap_excludes}
use Rattle.crn_superadd.specs.Superadditive.{IsSuperadditive, IsNonnegative, IsNegativeAt, IsFirstNegative}
use Rattle.crn_superadd.specs.Answers.{IsNegative}
use Rattle.crn_superadd.proofs.Orthant.{columns_of_orthant, unit_in_orthant}
use Rattle.crn_superadd.proofs.OneAnswer.{not_refuted, not_negative, negative_is_not_refuted, not_too_many}
use Rattle.crn_compile.specs.Alike as compile
use Rattle.crn_compile.specs.DirectNetworks.{IsDirectNetworkOfPieces, IsDirectNetworkOf}
use Rattle.crn_compile.specs.DirectRefusals.{IsRefusedDirectByPieces, IsRefusedDirect, IsLimit}
use Rattle.crn_compile.specs.DirectAlike.{IsSolvingLimit, AreAlike}
use Rattle.crn_compile.specs.declared.CompileError.{CompileError}
use Rattle.crn_compile.specs.declared.CompileError.TheVariants.{TooManyForms, BigCondition, BigDifference, Disagree, NotCovered, TooBig, TooManyRows, TooManyCells, TooManyNodes, Memory}
use Rattle.crn_compile.specs.declared.direct.DirectError.{DirectError}
use Rattle.crn_compile.specs.declared.direct.DirectError.TheVariants.{Compile, NotSuperadditive, Negative}
use Rattle.crn_compile.proofs.OneRefusal.{alike_by_pieces, only_solving}

-- the first unit point at which the function is negative is one
one_first : (k : ℕ) (ps : List Piece) (i j : ℕ) → IsFirstNegative k ps i → IsFirstNegative k ps j → i ≡ j
one_first k ps i j f g =
    ⊎_elim (λ (l : i < j). absurd (g.first i l f.negative))
    (λ (l : j ≤ i). ⊎_elim (λ (m : j < i). absurd (f.first j m g.negative)) (λ (m : i ≤ j). omega (arith, l, m)) (cases_lt j i))
    (cases_lt i j)

module _ (k : ℕ) (ps : List Piece) where
  one_point : (p q : List ℤ) → IsNegative (orthant k) ps p → IsNegative (orthant k) ps q → p ≡ q
  one_point p q first second =
      first.is ∙ ap (unit (columns_of (orthant k))) (one_first (columns_of (orthant k)) ps first.index second.index first.first second.first) ∙ sym second.is

  not_memory : (e : CompileError) → Compile e ≢ Compile Memory → e ≢ Memory
  not_memory e other is = other (ap Compile is)

  -- ---- beside what is known of cells

  beside_refuted : (e : CompileError) (p : List ℤ) (t : ℕ) (q : List ℤ) → e ≢ Memory → IsRefusedDirectByPieces k ps (Compile e) → IsRefusedDirectByPieces k ps (NotSuperadditive p t q) → compile.IsSolvingLimit e
  beside_refuted e p t q other first second =
      only_solving (orthant k) ps second.0 (not_too_many (orthant k) ps second.1.cells second.1.all second.1.few_cells) e other first.1 first.0

  beside_negative : (e : CompileError) (p : List ℤ) → e ≢ Memory → IsRefusedDirectByPieces k ps (Compile e) → IsRefusedDirectByPieces k ps (Negative p) → compile.IsSolvingLimit e
  beside_negative e p other first second =
      only_solving (orthant k) ps second.0 (not_too_many (orthant k) ps second.1.cells second.1.all second.1.few_cells) e other first.1 first.0

  -- ---- two refusals

  alike_by : (a b : DirectError) → a ≢ Compile Memory → b ≢ Compile Memory → IsRefusedDirectByPieces k ps a → IsRefusedDirectByPieces k ps b → AreAlike a b
  alike_by (Compile e) (Compile f) u v first second =
      ⊎_elim (λ (s : e ≡ f). inl (ap Compile s)) (λ rest. inr rest) (alike_by_pieces (orthant k) ps e f (not_memory e u) (not_memory f v) first.0 second.0)
  alike_by (Compile e) (NotSuperadditive p t q) u v first second = inr (inr (inl (beside_refuted e p t q (not_memory e u) first second, tt)))
  alike_by (Compile e) (Negative p) u v first second = inr (inr (inl (beside_negative e p (not_memory e u) first second, tt)))
  alike_by (NotSuperadditive p t q) (Compile e) u v first second = inr (inr (inr (beside_refuted e p t q (not_memory e v) second first, tt)))
  alike_by (NotSuperadditive p t q) (NotSuperadditive r w s) u v first second = inr (inl tt)
  alike_by (NotSuperadditive p t q) (Negative r) u v first second = absurd (negative_is_not_refuted (orthant k) ps r second.1 p t q first.1)
  alike_by (Negative p) (Compile e) u v first second = inr (inr (inr (beside_negative e p (not_memory e v) second first, tt)))
  alike_by (Negative r) (NotSuperadditive p t q) u v first second = absurd (negative_is_not_refuted (orthant k) ps r first.1 p t q second.1)
  alike_by (Negative p) (Negative q) u v first second = inl (ap Negative (one_point p q first.1 second.1))

  -- ---- beside a network

  limit_by : (net : Network) (e : DirectError) → e ≢ Compile Memory → IsDirectNetworkOfPieces k ps net → IsRefusedDirectByPieces k ps e → IsSolvingLimit e
  limit_by net (Compile e) other is refused =
      only_solving (orthant k) ps is.checked (not_too_many (orthant k) ps is.used.cells is.used.all is.used.few_cells) e (not_memory e other) refused.1 refused.0
  limit_by net (NotSuperadditive p t q) other is refused = absurd (not_refuted (orthant k) ps is.forms is.used p t q refused.1)
  limit_by net (Negative p) other is refused = absurd (not_negative k ps is.forms is.used p refused.1)

  -- ---- a function that is as it should be

  only_limits : Covers (orthant k) ps → Agree (orthant k) ps → IsSuperadditive (orthant k) ps → IsNonnegative (orthant k) ps → (e : DirectError) → IsRefusedDirectByPieces k ps e → IsLimit e
  only_limits covers agree super nonnegative (Compile (Disagree i j p)) r = disagreement_excludes (orthant k) ps i j p r.0.1 agree
  only_limits covers agree super nonnegative (Compile (NotCovered p)) r = gap_excludes (orthant k) ps p r.0.1 covers
  only_limits covers agree super nonnegative (Compile (TooManyForms count)) r = tt
  only_limits covers agree super nonnegative (Compile (BigCondition i c)) r = tt
  only_limits covers agree super nonnegative (Compile (BigDifference i j)) r = tt
  only_limits covers agree super nonnegative (Compile (TooBig kept)) r = tt
  only_limits covers agree super nonnegative (Compile (TooManyRows kept)) r = tt
  only_limits covers agree super nonnegative (Compile (TooManyCells count)) r = tt
  only_limits covers agree super nonnegative (Compile (TooManyNodes count)) r = tt
  only_limits covers agree super nonnegative (Compile Memory) r = tt
  only_limits covers agree super nonnegative (NotSuperadditive p t q) r = r.1.refuted super
  only_limits covers agree super nonnegative (Negative p) r =
      let n = r.1 in
      let at : IsNegativeAt ps (wholes (unit k n.index)) = subst (λ m. IsNegativeAt ps (wholes (unit m n.index))) (columns_of_orthant k) n.first.negative in
      nonnegative (wholes (unit k n.index)) (unit_in_orthant k n.index) at

pub direct_alike : (k : ℕ) (kind : Kind) (first second : DirectError) → first ≢ Compile Memory → second ≢ Compile Memory → IsRefusedDirect k kind first → IsRefusedDirect k kind second → AreAlike first second
direct_alike k kind first second u v is also = alike_by k (pieces_of_kind kind) first second u v is also

pub direct_limit_beside : (k : ℕ) (kind : Kind) (net : Network) (error : DirectError) → error ≢ Compile Memory → IsDirectNetworkOf k kind net → IsRefusedDirect k kind error → IsSolvingLimit error
direct_limit_beside k kind net error other is refused = limit_by k (pieces_of_kind kind) net error other is refused

pub direct_only_limits : (k : ℕ) (kind : Kind) → Covers (orthant k) (pieces_of_kind kind) → Agree (orthant k) (pieces_of_kind kind) → IsSuperadditive (orthant k) (pieces_of_kind kind)
    → IsNonnegative (orthant k) (pieces_of_kind kind) → (error : DirectError) → IsRefusedDirect k kind error → IsLimit error
direct_only_limits k kind covers agree super nonnegative error refused = only_limits k (pieces_of_kind kind) covers agree super nonnegative error refused
