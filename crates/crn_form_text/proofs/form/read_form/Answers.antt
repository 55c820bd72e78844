use Rattle.std.proofs.Common.{◌≡◌, ℕ, ◌≤◌, List, Option, Some, None, IfSome, sym, ◌∙◌}
use Rattle.std.specs.Prelude.{IfNone}
use Rattle.std.proofs.lemmas.Option.{none-some}
use Rattle.crn_token.specs.Plain.{Plain}
use Rattle.crn_fraction.specs.Rational.{ℚ}
use Rattle.crn_form_text.specs.Grammar.{SpellsForm}
use Rattle.crn_form_text.specs.Reading.{form_of}
use Rattle.crn_form_text.proofs.FormSpells.{form_spelled, spelled_form}
use Rattle.crn_form_text.proofs.ParsedWalks.{walked_form}
use Rattle.crn_form_text.proofs.form.read_form.Goals as goal

spelled_is : (k : ℕ) (tokens : List Plain) (found : Option (List ℚ)) → k ≤ 8 → found ≡ form_of k tokens → IfSome found (λ form. SpellsForm k form tokens)
spelled_is k tokens None few is = tt
spelled_is k tokens (Some form) few is = form_spelled k form tokens few (sym is)

none_is : (k : ℕ) (tokens : List Plain) (found : Option (List ℚ)) → k ≤ 8 → found ≡ form_of k tokens → IfNone found ((form : List ℚ) → SpellsForm k form tokens → ⊥)
none_is k tokens None few is = λ form spells. none-some form (is ∙ spelled_form k form tokens few spells)
none_is k tokens (Some form) few is = tt

pub returns-clause-value : goal.returns-clause-value
returns-clause-value c = c.form_in.ensures ∙ walked_form c.args.variables _ c.requires

pub returns-clause-spelled : goal.returns-clause-spelled
returns-clause-spelled c = spelled_is c.args.variables _ _ c.requires c.form_in.ensures

pub returns-clause-none : goal.returns-clause-none
returns-clause-none c = none_is c.args.variables _ _ c.requires c.form_in.ensures
