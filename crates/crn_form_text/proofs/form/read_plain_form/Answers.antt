use Rattle.std.proofs.Common.{◌≡◌, ℕ, ◌≤◌, List, Option, IfSome, length, map, drop, None, Some, sym, ap, ◌∙◌, subst, arith}
use Rattle.std.specs.Prelude.{IfNone}
use Rattle.std.specs.Option.{option_map}
use Rattle.std.proofs.lemmas.List.{drop-map, length-map}
use Rattle.crn_token.specs.declared.Token.{Token}
use Rattle.crn_token.specs.Plain.{Plain, plain_token}
use Rattle.crn_fraction.specs.Rational.{ℚ}
use Rattle.crn_form_text.specs.Grammar.{IsLongestPlain, BeginsNoPlain}
use Rattle.crn_form_text.specs.Reading.{plain_form_at, placed_at}
use Rattle.crn_form_text.proofs.PlainSpells.{longest_at, none_at}
use Rattle.crn_form_text.proofs.form.read_plain_form.Goals as goal

-- the answer to the tokens from a place on
answer_is : (k from : ℕ) (bytes : List ℕ) (items slice back : List Token) (r : Option (List ℚ × ℕ)) → slice ≡ items → back ≡ drop from slice → r ≡ plain_form_at k (map (plain_token bytes) back)
    → plain_form_at k (drop from (map (plain_token bytes) items)) ≡ r
answer_is k from bytes items slice back r e f g =
    ap (plain_form_at k) (drop-map (plain_token bytes) from items) ∙ ap (λ l. plain_form_at k (map (plain_token bytes) l)) (sym (f ∙ ap (drop from) e)) ∙ sym g

found_is : (k from : ℕ) (ts : List Plain) (r : Option (List ℚ × ℕ)) → k ≤ 8 → from ≤ length ts → plain_form_at k (drop from ts) ≡ r → IfSome (option_map (placed_at from) r) (λ p. IsLongestPlain k ts from p.0 p.1)
found_is k from ts None few place e = tt
found_is k from ts (Some p) few place e = longest_at k ts from p.0 p.1 few place e

none_is : (k from : ℕ) (ts : List Plain) (r : Option (List ℚ × ℕ)) → k ≤ 8 → plain_form_at k (drop from ts) ≡ r → IfNone (option_map (placed_at from) r) (BeginsNoPlain k ts from)
none_is k from ts None few e = none_at k ts from few e
none_is k from ts (Some p) few e = tt

pub returns-clause-found : goal.returns-clause-found
returns-clause-found c =
    let items = c.args.line.now.tokens.items in
    let f = plain_token c.args.bytes.now in
    let place : c.args.from ≤ length (map f items) = omega (arith, length-map items f, c.requires.place, c.as_slice.ensures.len, ap length c.as_slice.ensures.value) in
    subst (λ r. IfSome r (λ p. IsLongestPlain c.args.variables (map f items) c.args.from p.0 p.1)) (sym c.placed.ensures)
    (found_is c.args.variables c.args.from (map f items) c.plain_form_at.result c.requires.few place
    (answer_is c.args.variables c.args.from c.args.bytes.now items _ _ _ c.as_slice.ensures.value c.split_at.ensures.back c.plain_form_at.ensures.value))

pub returns-clause-none : goal.returns-clause-none
returns-clause-none c =
    let items = c.args.line.now.tokens.items in
    let f = plain_token c.args.bytes.now in
    subst (λ r. IfNone r (BeginsNoPlain c.args.variables (map f items) c.args.from)) (sym c.placed.ensures)
    (none_is c.args.variables c.args.from (map f items) c.plain_form_at.result c.requires.few
    (answer_is c.args.variables c.args.from c.args.bytes.now items _ _ _ c.as_slice.ensures.value c.split_at.ensures.back c.plain_form_at.ensures.value))

pub returns-clause-value : goal.returns-clause-value
returns-clause-value c =
    let items = c.args.line.now.tokens.items in
    c.placed.ensures
    ∙ ap (option_map (placed_at c.args.from)) (sym (answer_is c.args.variables c.args.from c.args.bytes.now items _ _ _ c.as_slice.ensures.value c.split_at.ensures.back c.plain_form_at.ensures.value))
