-- A function by pieces without constants has a direct network, or there is a cause why it has none.
use Rattle.std.proofs.Common.{◌≡◌, ◌⊎◌, inl, inr, ℕ, ◌+◌, ◌≤◌, false, cond, List, length, refl, sym, subst}
use Rattle.std.specs.Prelude.{◌≢◌, All}
use Rattle.crn_net.specs.Network.{Network}
use Rattle.crn_formula.specs.Pieces.{Piece}
use Rattle.crn_formula.specs.Domains.{orthant}
use Rattle.crn_formula.specs.Functions.{Kind, ByFormula, ByPieces, ByLeast, IsPieceOver, IsFitting, IsGivenByPieces, is_affine}
use Rattle.crn_pieces.specs.Answers as pieces
use Rattle.crn_pieces.specs.declared.PiecesError.{PiecesError}
use Rattle.crn_pieces.specs.declared.PiecesError.TheVariants as unchecked
use Rattle.crn_pieces.proofs.Decided as checking
use Rattle.crn_farkas.specs.Systems.{System}
use Rattle.crn_maxmin.specs.Answers as maxmin
use Rattle.crn_direct.specs.Layout.{direct_layout}
use Rattle.crn_superadd.specs.Answers as super
use Rattle.crn_superadd.specs.declared.SuperError.{SuperError}
use Rattle.crn_superadd.specs.declared.SuperError.TheVariants as unused
use Rattle.crn_superadd.proofs.Orthant.{columns_of_orthant, orthant_is_domain}
use Rattle.crn_superadd.proofs.Decided as using
use Rattle.crn_compile.specs.DirectNetworks.{IsDirectNetworkOfPieces, IsDirectNetworkOf}
use Rattle.crn_compile.specs.DirectRefusals.{IsRefusedDirectByPieces, IsRefusedDirect}
use Rattle.crn_compile.specs.declared.CompileError.{CompileError}
use Rattle.crn_compile.specs.declared.CompileError.TheVariants.{TooManyForms, BigCondition, BigDifference, Disagree, NotCovered, TooBig, TooManyRows, TooManyCells, Memory}
use Rattle.crn_compile.specs.declared.direct.DirectError.{DirectError}
use Rattle.crn_compile.specs.declared.direct.DirectError.TheVariants.{Compile, NotSuperadditive, Negative}

module _ (k : ℕ) (P : List Piece) where
  -- there is a direct network, or a cause why there is none
  abbrev IsDecided : Type 0
  IsDecided = ((net : Network) × IsDirectNetworkOfPieces k P net) ⊎ ((e : DirectError) × (e ≢ Compile Memory) × IsRefusedDirectByPieces k P e)

  -- it is told as `compile` would tell it
  told : (e : CompileError) → e ≢ Memory → IsRefusedDirectByPieces k P (Compile e) → IsDecided
  told e cause h = inr (Compile e, (λ is. cause (cc is)), h)

  asked : (s : System) → pieces.IsAsked (orthant k) P s → maxmin.IsAsked (orthant k) P s
  asked s (inl pair) = inl pair
  asked s (inr cover) = inr (inl cover)

  pieces_refused : (e : PiecesError) → e ≢ unchecked.Memory → pieces.IsRefused (orthant k) P e → IsDecided
  pieces_refused (unchecked.TooManyForms count) cause h = told (TooManyForms count) (λ e. cc e) (h, tt)
  pieces_refused (unchecked.BigCondition i c) cause h = told (BigCondition i c) (λ e. cc e) (h, tt)
  pieces_refused (unchecked.BigDifference i j) cause h = told (BigDifference i j) (λ e. cc e) (h, tt)
  pieces_refused (unchecked.Disagree i j p) cause h = told (Disagree i j p) (λ e. cc e) (h, tt)
  pieces_refused (unchecked.NotCovered p) cause h = told (NotCovered p) (λ e. cc e) (h, tt)
  pieces_refused (unchecked.TooBig kept) cause h = told (TooBig kept) (λ e. cc e) ((h.0, asked kept.system h.1, h.2), tt)
  pieces_refused (unchecked.TooManyRows kept) cause h = told (TooManyRows kept) (λ e. cc e) ((h.0, asked kept.system h.1, h.2), tt)
  pieces_refused unchecked.Memory cause h = absurd (cause refl)

  forms_refused : pieces.AreChecked (orthant k) P → (e : SuperError) → e ≢ unused.Memory → super.IsRefused (orthant k) P e → IsDecided
  forms_refused checked (unused.TooBig kept) cause h = told (TooBig kept) (λ e. cc e) ((checked.prepared, inr (inr (checked.covers, checked.agree, h.0)), h.1), tt)
  forms_refused checked (unused.TooManyRows kept) cause h = told (TooManyRows kept) (λ e. cc e) ((checked.prepared, inr (inr (checked.covers, checked.agree, h.0)), h.1), tt)
  forms_refused checked (unused.TooManyCells count) cause h = told (TooManyCells count) (λ e. cc e) ((checked, h), tt)
  forms_refused checked (unused.NotSuperadditive p t q) cause h = inr (NotSuperadditive p t q, (λ e. cc e), (checked, h))
  forms_refused checked (unused.Negative p) cause h = inr (Negative p, (λ e. cc e), (checked, h))
  forms_refused checked unused.Memory cause h = absurd (cause refl)

  pieces_decided : 1 ≤ k → k ≤ 8 → All (IsPieceOver k) P → 1 ≤ length P → IsDecided
  pieces_decided low high over some =
      go (checking.decided (orthant k) (orthant_is_domain k low high) P (subst (λ n. All (IsPieceOver n) P) (sym (columns_of_orthant k)) over) some)
    where
      found : pieces.AreChecked (orthant k) P → using.HasUsedForms (orthant k) P ⊎ using.IsRefusedForCause (orthant k) P → IsDecided
      found checked (inl (forms, used)) = inl (direct_layout k forms, record { checked = checked; forms = forms; used = used; is_layout = refl })
      found checked (inr (e, cause, h)) = forms_refused checked e cause h

      go : pieces.AreChecked (orthant k) P ⊎ checking.IsRefusedForCause (orthant k) P → IsDecided
      go (inl checked) = found checked (using.decided k P checked)
      go (inr (e, cause, h)) = pieces_refused e cause h

-- every function by pieces within its limits that is not affine has a direct network, or there is a cause why it has none
pub direct_decided : (k : ℕ) (kind : Kind) → IsFitting k kind → IsGivenByPieces kind → is_affine k kind ≡ false
    → ((net : Network) × IsDirectNetworkOf k kind net) ⊎ ((e : DirectError) × (e ≢ Compile Memory) × IsRefusedDirect k kind e)
direct_decided k (ByFormula e) fit given linear = absurd given
direct_decided k (ByLeast forms) fit given linear = absurd given
direct_decided k (ByPieces P) fit given linear = pieces_decided k P fit.some fit.few (subst (λ b. All (IsPieceOver (cond b (k + 1) k)) P) linear fit.forms) fit.limits.some
