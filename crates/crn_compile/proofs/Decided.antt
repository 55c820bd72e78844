-- Every function within its limits has a network, or there is a cause why it has none.
use Rattle.std.proofs.Common.{◌⊎◌, inl, inr, ℕ, ◌≤◌, List, length, refl, sym, subst}
use Rattle.std.specs.Prelude.{◌≢◌, All}
use Rattle.crn_farkas.specs.Systems.{System}
use Rattle.crn_net.specs.Network.{Network}
use Rattle.crn_formula.specs.Pieces.{Piece, Domain, IsDomain, columns_of}
use Rattle.crn_formula.specs.Domains.{domain_for}
use Rattle.crn_formula.specs.Functions.{Kind, ByFormula, ByPieces, ByLeast, IsPieceOver, IsFitting}
use Rattle.crn_formula.proofs.OwnDomains.{own_domain_is, own_columns}
use Rattle.crn_pieces.specs.Answers as pieces
use Rattle.crn_pieces.specs.declared.PiecesError.{PiecesError}
use Rattle.crn_pieces.specs.declared.PiecesError.TheVariants as unchecked
use Rattle.crn_pieces.proofs.Decided as checking
use Rattle.crn_maxmin.specs.Answers as maxmin
use Rattle.crn_maxmin.specs.declared.MaxminError.{MaxminError}
use Rattle.crn_maxmin.specs.declared.MaxminError.TheVariants as unformed
use Rattle.crn_maxmin.proofs.Decided as forming
use Rattle.crn_dual.specs.Layout.{layout}
use Rattle.crn_direct.specs.Layout.{direct_layout}
use Rattle.crn_compile.specs.Networks.{IsNetworkOf, IsNetworkOfPieces}
use Rattle.crn_compile.specs.Refusals.{IsRefused, IsRefusedByPieces}
use Rattle.crn_compile.specs.declared.CompileError.{CompileError}
use Rattle.crn_compile.specs.declared.CompileError.TheVariants.{TooManyForms, BigCondition, BigDifference, Disagree, NotCovered, TooBig, TooManyRows, TooManyCells, TooManyNodes, Memory}

module _ (k : ℕ) (D : Domain) (P : List Piece) where
  -- pieces have a network, or there is a cause why they have none
  abbrev ArePiecesDecided : Type 0
  ArePiecesDecided = ((net : Network) × IsNetworkOfPieces k D P net) ⊎ ((e : CompileError) × (e ≢ Memory) × IsRefusedByPieces D P e)

  asked : (s : System) → pieces.IsAsked D P s → maxmin.IsAsked D P s
  asked s (inl pair) = inl pair
  asked s (inr cover) = inr (inl cover)

  pieces_refused : (e : PiecesError) → e ≢ unchecked.Memory → pieces.IsRefused D P e → ArePiecesDecided
  pieces_refused (unchecked.TooManyForms count) cause h = inr (TooManyForms count, (λ e. cc e), h)
  pieces_refused (unchecked.BigCondition i c) cause h = inr (BigCondition i c, (λ e. cc e), h)
  pieces_refused (unchecked.BigDifference i j) cause h = inr (BigDifference i j, (λ e. cc e), h)
  pieces_refused (unchecked.Disagree i j p) cause h = inr (Disagree i j p, (λ e. cc e), h)
  pieces_refused (unchecked.NotCovered p) cause h = inr (NotCovered p, (λ e. cc e), h)
  pieces_refused (unchecked.TooBig kept) cause h = inr (TooBig kept, (λ e. cc e), (h.0, asked kept.system h.1, h.2))
  pieces_refused (unchecked.TooManyRows kept) cause h = inr (TooManyRows kept, (λ e. cc e), (h.0, asked kept.system h.1, h.2))
  pieces_refused unchecked.Memory cause h = absurd (cause refl)

  formula_refused : pieces.AreChecked D P → (e : MaxminError) → e ≢ unformed.Memory → maxmin.IsRefused D P e → ArePiecesDecided
  formula_refused checked (unformed.TooBig kept) cause h = inr (TooBig kept, (λ e. cc e), (checked.prepared, h.0, h.1))
  formula_refused checked (unformed.TooManyRows kept) cause h = inr (TooManyRows kept, (λ e. cc e), (checked.prepared, h.0, h.1))
  formula_refused checked (unformed.TooManyCells count) cause h = inr (TooManyCells count, (λ e. cc e), (checked, h))
  formula_refused checked (unformed.TooManyNodes count) cause h = inr (TooManyNodes count, (λ e. cc e), (checked, h))
  formula_refused checked unformed.Memory cause h = absurd (cause refl)

  pieces_decided : IsDomain D → All (IsPieceOver (columns_of D)) P → 1 ≤ length P → ArePiecesDecided
  pieces_decided is_domain over some = go (checking.decided D is_domain P over some)
    where
      formed : pieces.AreChecked D P → forming.HasFormula D P ⊎ forming.IsRefusedForCause D P → ArePiecesDecided
      formed checked (inl (f, is, few)) = inl (layout k f, record { checked = checked; formula = f; is_formula = is; few_nodes = few; is_layout = refl })
      formed checked (inr (e, cause, h)) = formula_refused checked e cause h

      go : pieces.AreChecked D P ⊎ checking.IsRefusedForCause D P → ArePiecesDecided
      go (inl checked) = formed checked (forming.decided D P checked)
      go (inr (e, cause, h)) = pieces_refused e cause h

-- a function within its limits has a network, or there is a cause why it has none
pub decided : (k : ℕ) (kind : Kind) → IsFitting k kind → ((net : Network) × IsNetworkOf k kind net) ⊎ ((e : CompileError) × (e ≢ Memory) × IsRefused k kind e)
decided k (ByFormula e) fit = inl (layout k e, refl)
decided k (ByPieces P) fit =
    pieces_decided k (domain_for k (ByPieces P)) P (own_domain_is k (ByPieces P)) (subst (λ n. All (IsPieceOver n) P) (sym (own_columns k (ByPieces P))) fit.forms) fit.limits.some
decided k (ByLeast forms) fit = inl (direct_layout k forms, refl)
