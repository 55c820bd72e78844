-- The walks over tokens, with places for 8 variables, answer what is spelled by cases.
use Rattle.std.proofs.Common.{◌≡◌, ℕ, ◌≤◌, List, map, Option, Some, None, refl, sym, ◌∙◌, subst}
use Rattle.std.proofs.lemmas.Option.{none-some}
use Rattle.crn_token.specs.Plain.{Plain}
use Rattle.crn_fraction.specs.Rational.{ℚ}
use Rattle.crn_formula.specs.Formulas.{Formula}
use Rattle.crn_form_text.specs.Grammar.{SpellsFormula}
use Rattle.crn_form_text.specs.Reading.{Walk, walks, whole_of, mark_of, form_of}
use Rattle.crn_form_text.specs.Built.{IsWalkOf}
use Rattle.crn_form_text.specs.Parsed.{form_from, formula_from}
use Rattle.crn_form_text.proofs.BuildLaws.{walk_is}
use Rattle.crn_form_text.proofs.FormSpells.{form_spelled, spelled_form}
use Rattle.crn_form_text.proofs.ParsedLaws.{form_from_is, is_form_from, formula_from_is, is_formula_from, one_formula_from}
use Rattle.crn_form_text.proofs.WalkRuns.{walk_spelled}

pub walked_form : (k : ℕ) (ts : List Plain) → k ≤ 8 → form_of k ts ≡ form_from k ts
walked_form k ts few = go (form_of k ts) refl (form_from k ts) refl
  where
    go : (o : Option (List ℚ)) → form_of k ts ≡ o → (p : Option (List ℚ)) → form_from k ts ≡ p → o ≡ p
    go None walked None cases = refl
    go (Some f) walked p cases = sym (is_form_from k f ts (form_spelled k f ts few walked)) ∙ cases
    go None walked (Some f) cases = sym walked ∙ spelled_form k f ts few (form_from_is k f ts cases)

-- a formula that is spelled is walked over, to its counts and its nodes
abbrev IsWalked : ℕ → Formula → List Plain → Type 0
IsWalked k e ts = (w : Walk) × (whole_of (walks k) (map mark_of ts) ≡ Some w) × IsWalkOf k e w

walk_named : (k : ℕ) (e : Formula) (ts : List Plain) → k ≤ 8 → SpellsFormula k e ts → (w : Walk) → whole_of (walks k) (map mark_of ts) ≡ Some w → IsWalked k e ts
walk_named k e ts few spelled w ends =
    let (f, other, walked) = walk_is k ts w few ends in (w, ends, subst (λ g. IsWalkOf k g w) (one_formula_from k f e ts other spelled) walked)

pub walked_formula : (k : ℕ) (e : Formula) (ts : List Plain) → k ≤ 8 → formula_from k ts ≡ Some e → IsWalked k e ts
walked_formula k e ts few is =
    let spelled = formula_from_is k e ts is in
    walk_named k e ts few spelled _ (walk_spelled k e ts few spelled)

-- and where none is spelled the walk comes to no end
pub no_walk : (k : ℕ) (ts : List Plain) → k ≤ 8 → formula_from k ts ≡ None → whole_of (walks k) (map mark_of ts) ≡ None
no_walk k ts few none = go (whole_of (walks k) (map mark_of ts)) refl
  where
    go : (o : Option Walk) → whole_of (walks k) (map mark_of ts) ≡ o → o ≡ None
    go None ends = refl
    go (Some w) ends = let (e, spelled, walked) = walk_is k ts w few ends in absurd (none-some e (sym none ∙ is_formula_from k e ts spelled))
