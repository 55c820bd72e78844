-- A formula is built from its nodes.
use Rattle.std.proofs.Common.{◌≡◌, ℕ, ◌+◌, ◌<◌, ◌≤◌, max, Bool, true, false, cond, ◌||◌, List, [], ◌∷◌, ◌++◌, length, map, Option, Some, None, refl, sym, ap, ap₂, ◌∙◌, subst, arith, append_assoc, append-nil, length-append, take_all, lt-ltb}
use Rattle.std.specs.Option.{option_and_then, option_map, IsSome}
use Rattle.crn_grammar.specs.Table.{after}
use Rattle.crn_grammar.proofs.TableLaws.{after_then}
use Rattle.crn_token.specs.Plain.{Plain}
use Rattle.std.proofs.lemmas.Option.{none-some, same_Some}
use Rattle.crn_formula.specs.declared.formula.Formula as code
use Rattle.crn_formula.specs.Views.{plain_of}
use Rattle.crn_formula.specs.Formulas.{Formula, Lin, Add, Sub, Scale, Min, Max, node_count, depth_of, formula_has_constant}
use Rattle.crn_form_text.specs.declared.mark.Operator.{Operator}
use Rattle.crn_form_text.specs.declared.mark.Operator.TheVariants as operator
use Rattle.crn_form_text.specs.declared.formula.Item.{Item}
use Rattle.crn_form_text.specs.declared.formula.Item.TheVariants as item
use Rattle.crn_form_text.specs.Grammar.{SpellsFormula, narrow}
use Rattle.crn_form_text.specs.Reading.{keep, Walk, walks, mark_of, whole_of}
use Rattle.crn_form_text.specs.Built.{applied, postfix, builds, only, fitted, IsWalkOf}
use Rattle.crn_form_text.proofs.WalkRuns.{kept, walk_spelled}
use Rattle.crn_form_text.proofs.WalkWritten.{walk_written}

module _ (n : ℕ) where
  Built : List Formula → List Item → List Formula → Type 0
  Built s xs t = after (builds n) s xs ≡ Some t

  then : (s t u : List Formula) (xs ys : List Item) → after (builds n) s xs ≡ Some t → after (builds n) t ys ≡ Some u → after (builds n) s (xs ++ ys) ≡ Some u
  then s t u xs ys first more = after_then (builds n) s t xs ys first ∙ more

  binary_built : (o : Operator) (a b : Formula) (s : List Formula) → ((t : List Formula) → after (builds n) t (postfix a) ≡ Some (narrow n a ∷ t)) → ((t : List Formula) → after (builds n) t (postfix b) ≡ Some (narrow n b ∷ t))
      → after (builds n) s (postfix a ++ postfix b ++ item.Apply o ∷ []) ≡ Some (applied o (narrow n a) (narrow n b) ∷ s)
  binary_built o a b s built_a built_b =
      then s (narrow n b ∷ narrow n a ∷ s) _ (postfix a ++ postfix b) (item.Apply o ∷ []) (then s (narrow n a ∷ s) _ (postfix a) (postfix b) (built_a s) (built_b (narrow n a ∷ s))) refl

  pub built_run : (e : Formula) (s : List Formula) → after (builds n) s (postfix e) ≡ Some (narrow n e ∷ s)
  built_run (Lin form) s = refl
  built_run (Add a b) s = binary_built operator.Add a b s (built_run a) (built_run b)
  built_run (Sub a b) s = binary_built operator.Sub a b s (built_run a) (built_run b)
  built_run (Scale q a) s = then s (narrow n a ∷ s) _ (postfix a) (item.Scale q ∷ []) (built_run a s) refl
  built_run (Min a b) s = binary_built operator.Min a b s (built_run a) (built_run b)
  built_run (Max a b) s = binary_built operator.Max a b s (built_run a) (built_run b)

  -- the nodes of a formula give it back, with so many columns
  pub built_whole : (e : Formula) → whole_of (builds n) (postfix e) ≡ Some (narrow n e)
  built_whole e = ap (option_and_then only) (built_run e [])

-- as many nodes as are counted
pub length-postfix : (e : Formula) → length (postfix e) ≡ node_count e
length-postfix (Lin form) = refl
length-postfix (Add a b) = omega (arith, length-append (postfix a ++ postfix b) (item.Apply operator.Add ∷ []), length-append (postfix a) (postfix b), length-postfix a, length-postfix b)
length-postfix (Sub a b) = omega (arith, length-append (postfix a ++ postfix b) (item.Apply operator.Sub ∷ []), length-append (postfix a) (postfix b), length-postfix a, length-postfix b)
length-postfix (Scale q a) = omega (arith, length-append (postfix a) (item.Scale q ∷ []), length-postfix a)
length-postfix (Min a b) = omega (arith, length-append (postfix a ++ postfix b) (item.Apply operator.Min ∷ []), length-append (postfix a) (postfix b), length-postfix a, length-postfix b)
length-postfix (Max a b) = omega (arith, length-append (postfix a ++ postfix b) (item.Apply operator.Max ∷ []), length-append (postfix a) (postfix b), length-postfix a, length-postfix b)

-- few nodes are all kept
pub kept_all : (items xs : List Item) → length items + length xs ≤ 2048 → kept items xs ≡ items ++ xs
kept_all items [] few = sym (append-nil items)
kept_all items (x ∷ xs) few =
    let room : length items < 2048 = omega arith in
    let one : keep items x ≡ items ++ x ∷ [] = rw (lt-ltb (length items) 2048 room) refl in
    ap (λ l. kept l xs) one ∙ kept_all (items ++ x ∷ []) xs (omega (arith, length-append items (x ∷ []))) ∙ append_assoc items (x ∷ []) xs

-- the forms of a formula that is spelled have a column more than there are variables
pub narrow_all : (k : ℕ) (e : Formula) (ts : List Plain) → SpellsFormula k e ts → narrow (k + 1) e ≡ e
narrow_all k (Lin form) ts (terms, are, is) = ap Lin (take_all (k + 1) form (omega (arith, are.long)))
narrow_all k (Add a b) ts (x, y, sa, sb, is) = ap₂ Add (narrow_all k a x sa) (narrow_all k b y sb)
narrow_all k (Sub a b) ts (x, y, sa, sb, is) = ap₂ Sub (narrow_all k a x sa) (narrow_all k b y sb)
narrow_all k (Scale q a) ts (n, x, sn, sa, is) = ap (Scale q) (narrow_all k a x sa)
narrow_all k (Min a b) ts (x, y, sa, sb, is) = ap₂ Min (narrow_all k a x sa) (narrow_all k b y sb)
narrow_all k (Max a b) ts (x, y, sa, sb, is) = ap₂ Max (narrow_all k a x sa) (narrow_all k b y sb)

or_false : (a : Bool) → a || false ≡ a
or_false true = refl
or_false false = refl

-- what was walked whole is a formula with its counts
pub walk_is : (k : ℕ) (ts : List Plain) (v : Walk) → k ≤ 8 → whole_of (walks k) (map mark_of ts) ≡ Some v → (e : Formula) × SpellsFormula k e ts × IsWalkOf k e v
walk_is k ts v few ends =
    let (e, spells) = walk_written k ts v few ends in
    let same = same_Some _ v (sym (walk_spelled k e ts few spells) ∙ ends) in
    let deep : max 0 (0 + depth_of e) ≡ depth_of e = omega arith in (
      e,
      spells,
      subst (IsWalkOf k e) same (
          record {
            wide = narrow_all k e ts spells;
            nodes = omega arith;
            depth = deep;
            affine = or_false (formula_has_constant k e);
            items = λ small. kept_all [] (postfix e) (omega (arith, length-postfix e));
          }),
    )

-- where none is, no formula is spelled
pub walk_is_not : (k : ℕ) (ts : List Plain) → k ≤ 8 → None ≡ whole_of (walks k) (map mark_of ts) → (e : Formula) → SpellsFormula k e ts → ⊥
walk_is_not k ts few none e spells = none-some _ (none ∙ walk_spelled k e ts few spells)

-- the number of columns fits the formula
pub fitted_is : (k : ℕ) (e : Formula) (affine : Bool) → affine ≡ formula_has_constant k e → narrow (k + 1) e ≡ e → narrow (cond affine (k + 1) k) e ≡ fitted k e
fitted_is k e true is wide = wide ∙ ap (λ b. cond b e (narrow k e)) is
fitted_is k e false is wide = ap (λ b. cond b e (narrow k e)) is

-- ---- what is built in the code
pub built_is : (found : Option code.Formula) (n : ℕ) (items : List Item) (e : Formula) → option_map plain_of found ≡ whole_of (builds n) items → items ≡ postfix e → option_map plain_of found ≡ Some (narrow n e)
built_is found n items e is same = is ∙ ap (whole_of (builds n)) same ∙ built_whole n e

pub is_built : (found : Option code.Formula) (e : Formula) → option_map plain_of found ≡ Some e → IsSome found
is_built None e is = absurd (none-some e is)
is_built (Some f) e is = refl

pub formula_is : (found : Option code.Formula) (f : code.Formula) (e : Formula) → found ≡ Some f → option_map plain_of found ≡ Some e → plain_of f ≡ e
formula_is found f e here is = same_Some _ _ (sym (ap (option_map plain_of) here) ∙ is)
