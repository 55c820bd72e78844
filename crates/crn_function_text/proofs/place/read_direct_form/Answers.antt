use Rattle.std.proofs.Common.{◌≡◌, ◌<◌, ℕ, List, [], ◌∷◌, length, map, None, sym, ◌∙◌, arith, eqb-true, refl}
use Rattle.std.proofs.lemmas.Bool.{eqb-false}
use Rattle.std.specs.Vec.{vec_len}
use Rattle.std.proofs.lemmas.List.{length-map}
use Rattle.crn_token.specs.declared.Token.{Token}
use Rattle.crn_token.specs.Plain.{Plain, plain_token}
use Rattle.crn_token.specs.Words.{rest_of}
use Rattle.crn_token.proofs.LineLaws.{rest_map}
use Rattle.crn_form_text.specs.Parsed.{plain_form_from}
use Rattle.crn_function_text.specs.Spelled.{plain_form_of}
use Rattle.crn_function_text.proofs.Spelled.{longest_all, longest_less, longest_none}
use Rattle.crn_function_text.proofs.place.read_direct_form.Goals.{in_default-via-in-Some+else-next-len, in_default-via-in_default}
use Rattle.crn_function_text.proofs.place.read_direct_form.Goals as goal

-- no tokens are no form
of_nothing : (k : ℕ) (f : Token → Plain) (ts : List Token) → length ts ≡ 0 → None ≡ plain_form_of k (map f (rest_of ts))
unfolding plain_form_from
of_nothing k f [] none = refl
of_nothing k f (t ∷ ts) none = absurd (omega arith)

pub returns-then-is_empty : goal.returns-then-is_empty
returns-then-is_empty c =
    of_nothing c.args.variables (plain_token c.args.bytes.now) c.args.line.now.tokens.items (let empty = eqb-true _ 0 (sym c.is_empty.ensures ∙ c.if-is_empty.true) in omega (arith, c.args.line.now.tokens.ok.0))

pub returns-in-Some : goal.returns-in-Some
returns-in-Some c =
    let pt = plain_token c.args.bytes.now in
    longest_all c.args.variables (map pt c.args.line.now.tokens.items) _ _ _ (let some = eqb-false _ 0 (sym c.is_empty.ensures ∙ c.if-is_empty.false) in omega (arith, some, c.args.line.now.tokens.ok.0, length-map c.args.line.now.tokens.items pt))
    (sym (rest_map pt c.args.line.now.tokens.items)) c.in-Some.ensures.found (c.if-next-len.true ∙ c.len.ensures ∙ (let long : vec_len c.args.line.now.tokens ≡ length (map pt c.args.line.now.tokens.items) = omega (arith, c.args.line.now.tokens.ok.0, length-map c.args.line.now.tokens.items pt) in long))

pub returns-in_default : goal.returns-in_default
returns-in_default c =
    let pt = plain_token c.args.bytes.now in
    let some : 0 < length (map pt c.args.line.now.tokens.items) = let some = eqb-false _ 0 (sym c.is_empty.ensures ∙ c.if-is_empty.false) in omega (arith, some, c.args.line.now.tokens.ok.0, length-map c.args.line.now.tokens.items pt) in
    let rest = sym (rest_map pt c.args.line.now.tokens.items) in
    elim c.in_default.branch [
      | in_default-via-in-Some+else-next-len w ↦ longest_less c.args.variables (map pt c.args.line.now.tokens.items) _ _ _ some rest w.in-Some.ensures.found (λ same. w.if-next-len.false (same ∙ sym (w.len.ensures ∙ (let long : vec_len c.args.line.now.tokens ≡ length (map pt c.args.line.now.tokens.items) = omega (arith, c.args.line.now.tokens.ok.0, length-map c.args.line.now.tokens.items pt) in long))))
      | in_default-via-in_default w ↦ longest_none c.args.variables (map pt c.args.line.now.tokens.items) _ some rest w.in_default.ensures.none
    ]
