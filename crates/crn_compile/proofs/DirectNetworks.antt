-- The direct networks of functions by pieces.
use Rattle.std.proofs.Common.{◌≡◌, ℕ, ◌<◌, ◌≤◌, ◌^◌, false, cond, List, [], ◌∷◌, ◌++◌, length, map, refl, sym, ap, ◌∙◌, subst, arith}
use Rattle.std.specs.Prelude.{pos, Option, All, IsSomeAnd}
use Rattle.std.proofs.lemmas.List.Elements.{All-nil, All-cons, All-head}
use Rattle.crn_fraction.specs.Rational.{ℚ, whole, 0ℚ, ◌≤ℚ◌}
use Rattle.crn_linear.specs.Fracs.{AreFracs, AreFormFracs}
use Rattle.crn_net.specs.Network.{Network, IsFeedForward, AreAmounts, AreNotNegative, StablyComputes}
use Rattle.crn_net.specs.Limits.{IsValid}
use Rattle.crn_net.specs.Reactions.{EachCountOn}
use Rattle.crn_formula.specs.Numbers.{HasKindFracs, HasPieceFracs}
use Rattle.crn_formula.specs.Pieces.{Piece, IsIn, pieces_value}
use Rattle.crn_formula.specs.Functions.{Kind, ByFormula, ByPieces, ByLeast, IsGivenByPieces, is_affine}
use Rattle.crn_formula.specs.Domains.{orthant}
use Rattle.crn_formula.proofs.Points.{in_orthant}
use Rattle.crn_direct.specs.Layout.{column_count, direct_layout}
use Rattle.crn_direct.proofs.LayoutLaws as direct
use Rattle.crn_direct.proofs.Sizes as direct_sizes
use Rattle.crn_direct.proofs.Counts.{direct_counts}
use Rattle.crn_cells.specs.Cells.{numbered}
use Rattle.crn_maxmin.specs.Marked.{numbered_forms}
use Rattle.crn_maxmin.proofs.Prepared.{long_pieces}
use Rattle.crn_maxmin.proofs.Unique.{one_marking}
use Rattle.crn_pieces.specs.Views.{pieces_of_kind}
use Rattle.crn_superadd.specs.Superadditive.{used, used_forms}
use Rattle.crn_superadd.specs.Answers.{AreUsedForms}
use Rattle.crn_superadd.proofs.Orthant.{columns_of_orthant}
use Rattle.crn_compile.specs.Networks.{ComputesFunction}
use Rattle.crn_compile.specs.DirectNetworks.{IsDirectNetworkOf}
use Rattle.crn_compile.proofs.NetworkLaws.{valid_of}
use Rattle.crn_compile.proofs.PieceNetworks.{form_fracs}

-- ---- used forms

module _ (k : ℕ) (pieces : List Piece) (forms : List (List ℚ)) (used : AreUsedForms (orthant k) pieces forms) where
  -- they have a column for each variable
  pub over_variables : All (λ f. length f ≡ k) forms
  over_variables = subst (λ n. All (λ f. length f ≡ n) forms) (columns_of_orthant k) used.long

  -- and so many columns are counted
  pub columns_are : column_count forms ≡ k
  columns_are = count forms used.few.some over_variables
    where
      count : (fs : List (List ℚ)) → 1 ≤ length fs → All (λ f. length f ≡ k) fs → column_count fs ≡ k
      count [] some long = absurd (omega (arith, some))
      count (f ∷ fs) some long = All-head (λ f. length f ≡ k) f fs long

  -- the value of the pieces at amounts is the least of theirs
  not_negative : (xs : List ℚ) → AreNotNegative xs → All (λ t. 0ℚ ≤ℚ t) xs
  not_negative [] h = All-nil (λ t. 0ℚ ≤ℚ t)
  not_negative (x ∷ xs) h = All-cons (λ t. 0ℚ ≤ℚ t) x xs h.0 (not_negative xs h.1)

  pieces_computed : (xs : List ℚ) → AreAmounts (direct_layout k forms) xs → IsSomeAnd (pieces_value pieces xs) (λ v. StablyComputes (direct_layout k forms) xs v)
  pieces_computed xs amounts =
      let here : IsIn (orthant k) xs = (in_orthant k xs).1 (amounts.long ∙ direct.length-inputs k forms, not_negative xs amounts.not_negative) in
      subst (λ (o : Option ℚ). IsSomeAnd o (λ v. StablyComputes (direct_layout k forms) xs v)) (sym (used.least xs here))
      (direct.layout_computes k forms used.few.some over_variables used.few.nonnegative xs amounts)

  -- so the layout computes the function, which is not affine
  pub layout_computes : (kind : Kind) → IsGivenByPieces kind → is_affine k kind ≡ false → pieces ≡ pieces_of_kind kind → ComputesFunction (direct_layout k forms) k kind
  layout_computes (ByFormula e) given linear same xs amounts = absurd given
  layout_computes (ByLeast gs) given linear same xs amounts = absurd given
  layout_computes (ByPieces ps) given linear same xs amounts =
      subst (λ b. IsSomeAnd (pieces_value ps (cond b (xs ++ whole (pos 1) ∷ []) xs)) (λ v. StablyComputes (direct_layout k forms) xs v)) (sym linear)
      (subst (λ qs. IsSomeAnd (pieces_value qs xs) (λ v. StablyComputes (direct_layout k forms) xs v)) same (pieces_computed xs amounts))

-- ---- the network of a kind

module _ (k : ℕ) (kind : Kind) (net : Network) (is : IsDirectNetworkOf k kind net) where
  -- it computes the function
  pub computes : IsGivenByPieces kind → is_affine k kind ≡ false → ComputesFunction net k kind
  computes given linear = subst (λ n. ComputesFunction n k kind) (sym is.is_layout) (layout_computes k (pieces_of_kind kind) is.forms is.used kind given linear refl)

  -- it feeds forward
  pub feeds_forward : IsFeedForward net
  feeds_forward = subst IsFeedForward (sym is.is_layout) (direct.layout_feeds_forward k is.forms is.used.few.some (over_variables k (pieces_of_kind kind) is.forms is.used) is.used.few.nonnegative)

  -- it can be made
  pub is_valid : 1 ≤ k → k ≤ 8 → IsValid net
  is_valid some few =
      let long = over_variables k (pieces_of_kind kind) is.forms is.used in
      let forms = is.used.few in
      subst IsValid (sym is.is_layout)
      (valid_of k (direct_layout k is.forms) some few (direct.layout_is_network k is.forms forms.some long forms.nonnegative)
      (direct.layout_few_reactions k is.forms forms.some long forms.nonnegative) (omega (arith, direct_sizes.few_species k is.forms few long, forms.few)) (direct.layout_inputs k is.forms))

  -- no count in it is above the greatest number of the function
  pub small_counts : (P : ℕ → Type 0) → ((n : ℕ) → n < 2 ^ 63 → P n) → HasKindFracs kind → EachCountOn P net.reactions
  small_counts P small fracs =
      subst (λ n. EachCountOn P n.reactions) (sym is.is_layout)
      (direct_counts P small k is.forms (subst AreFormFracs (sym is.used.used) (of_numbers (used is.used.cells (length (numbered_forms (pieces_of_kind kind)))))))
    where
      each : (i : ℕ) → AreFracs (numbered (numbered_forms (pieces_of_kind kind)) i)
      each = form_fracs (pieces_of_kind kind) (piece_fracs kind fracs)
        where
          piece_fracs : (kind : Kind) → HasKindFracs kind → All HasPieceFracs (pieces_of_kind kind)
          piece_fracs (ByFormula e) h = All-nil HasPieceFracs
          piece_fracs (ByPieces ps) h = h
          piece_fracs (ByLeast gs) h = All-nil HasPieceFracs

      of_numbers : (is : List ℕ) → AreFormFracs (map (numbered (numbered_forms (pieces_of_kind kind))) is)
      of_numbers [] = tt
      of_numbers (i ∷ rest) = (each i, of_numbers rest)

-- it is one
pub one_direct_network : (k : ℕ) (kind : Kind) (m n : Network) → IsDirectNetworkOf k kind m → IsDirectNetworkOf k kind n → m ≡ n
one_direct_network k kind m n first second =
    let pieces = pieces_of_kind kind in
    let checked = first.checked in
    let cells : first.used.cells ≡ second.used.cells =
    one_marking (orthant k) pieces checked.is_domain (long_pieces (orthant k) pieces checked.long) checked.covers checked.agree first.used.cells second.used.cells first.used.all second.used.all in
    let forms : first.forms ≡ second.forms = first.used.used ∙ ap (used_forms (numbered_forms pieces)) cells ∙ sym second.used.used in
    first.is_layout ∙ ap (direct_layout k) forms ∙ sym second.is_layout
