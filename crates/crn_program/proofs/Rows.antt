-- The table of words: words are in one row at most, and it is decided whether they are in one.
use Rattle.std.proofs.Common.{◌≡◌, ℕ, zero, suc, ◌^◌, ◌<◌, ◌≤◌, Bool, true, false, List, [], ◌∷◌, length, get_or, refl, sym, ap, ◌∙◌, subst, ◌⊎◌, ⊎_elim, inl, inr, arith}
use Rattle.std.specs.Prelude.{if◌then◌else◌, codes}
use Rattle.std.specs.Str.{bytes_eq}
use Rattle.std.specs.Fmt.{decimal}
use Rattle.std.proofs.lemmas.Slice.Eq.{bytes_eq-Decides}
use Rattle.std.proofs.lemmas.Bool.Decides.{not_from_Decides}
use Rattle.std.proofs.lemmas.Fmt.{decimal_injective}
use Rattle.crn_program.specs.Words.{name_of, IsRow, IsNoRow}
use Rattle.crn_program.specs.declared.words.TextCommand.{TextCommand}
use Rattle.crn_program.specs.declared.words.TextCommand.TheVariants.{Compile, Complete, Run, Prove, Check, Same, Direct, CompileGated, CompleteGated}
use Rattle.crn_program.specs.declared.words.Command.{Command}
use Rattle.crn_program.specs.declared.words.Command.TheVariants.{OfText, Bulk}

-- ---- the commands that read a text, numbered

abbrev commands : List TextCommand
commands = Compile ∷ Complete ∷ Run ∷ Prove ∷ Check ∷ Same ∷ Direct ∷ CompileGated ∷ CompleteGated ∷ []

number : TextCommand → ℕ
number Compile = 0
number Complete = 1
number Run = 2
number Prove = 3
number Check = 4
number Same = 5
number Direct = 6
number CompileGated = 7
number CompleteGated = 8

at_number : (command : TextCommand) → get_or commands (number command) Compile ≡ command
unfolding number
at_number Compile = refl
at_number Complete = refl
at_number Run = refl
at_number Prove = refl
at_number Check = refl
at_number Same = refl
at_number Direct = refl
at_number CompileGated = refl
at_number CompleteGated = refl

few : (command : TextCommand) → number command < length commands
unfolding number
few Compile = omega arith
few Complete = omega arith
few Run = omega arith
few Prove = omega arith
few Check = omega arith
few Same = omega arith
few Direct = omega arith
few CompileGated = omega arith
few CompleteGated = omega arith

-- the number of the first of these that has this name
number_named : List ℕ → List TextCommand → ℕ
number_named word [] = 0
number_named word (command ∷ others) = if bytes_eq word (name_of command) then 0 else suc (number_named word others)

named : (command : TextCommand) → number_named (name_of command) commands ≡ number command
unfolding number number_named
named Compile = refl
named Complete = refl
named Run = refl
named Prove = refl
named Check = refl
named Same = refl
named Direct = refl
named CompileGated = refl
named CompleteGated = refl

same_name : (command other : TextCommand) → name_of command ≡ name_of other → command ≡ other
same_name command other same =
    let numbers : number command ≡ number other = sym (named command) ∙ ap (λ word. number_named word commands) same ∙ named other in
    sym (at_number command) ∙ ap (λ n. get_or commands n Compile) numbers ∙ at_number other

-- ---- one row

one_word : (w v : List ℕ) → w ∷ [] ≡ v ∷ [] → w ≡ v
one_word w v same = cc same

second_word : (u v w x : List ℕ) → u ∷ w ∷ [] ≡ v ∷ x ∷ [] → w ≡ x
second_word u v w x same = cc same

two_words : (u v w : List ℕ) → u ∷ w ∷ [] ≡ v ∷ [] → ⊥
two_words u v w same = cc same

pub one_row : (words : List (List ℕ)) (command other : Command) → IsRow command words → IsRow other words → command ≡ other
one_row words (OfText c) (OfText d) first second = ap OfText (same_name c d (one_word _ _ (sym first ∙ second)))
one_row words (OfText c) (Bulk n) first second = absurd (two_words _ _ _ (sym second.0 ∙ first))
one_row words (Bulk m) (OfText d) first second = absurd (two_words _ _ _ (sym first.0 ∙ second))
one_row words (Bulk m) (Bulk n) first second =
    ap Bulk (decimal_injective m n (small m first.2) (small n second.2) (second_word _ _ _ _ (sym first.0 ∙ second.0)))
  where
    small : (n : ℕ) → n ≤ 1000 → n < 2 ^ 64
    small n few = omega (arith, few)

-- ---- a row or none

same_or_not : (v w : List ℕ) → (v ≡ w) ⊎ (v ≡ w → ⊥)
same_or_not v w = go (bytes_eq v w) refl
  where
    go : (b : Bool) → bytes_eq v w ≡ b → (v ≡ w) ⊎ (v ≡ w → ⊥)
    go true is = inl ((bytes_eq-Decides v w).0 is)
    go false is = inr (not_from_Decides (bytes_eq v w) (bytes_eq-Decides v w) is)

-- a word is a number from 1 to m, or is none
size_or_not : (w : List ℕ) (m : ℕ) → ((n : ℕ) × (w ≡ decimal n) × (1 ≤ n) × (n ≤ m)) ⊎ ((n : ℕ) → w ≡ decimal n → 1 ≤ n → n ≤ m → ⊥)
size_or_not w zero = inr (λ n is some few. absurd (omega (arith, some, few)))
size_or_not w (suc m) = go (same_or_not w (decimal (suc m))) (size_or_not w m)
  where
    go : (w ≡ decimal (suc m)) ⊎ (w ≡ decimal (suc m) → ⊥) → ((n : ℕ) × (w ≡ decimal n) × (1 ≤ n) × (n ≤ m)) ⊎ ((n : ℕ) → w ≡ decimal n → 1 ≤ n → n ≤ m → ⊥)
        → ((n : ℕ) × (w ≡ decimal n) × (1 ≤ n) × (n ≤ suc m)) ⊎ ((n : ℕ) → w ≡ decimal n → 1 ≤ n → n ≤ suc m → ⊥)
    go (inl is) lower = inl (suc m, is, omega arith, omega arith)
    go (inr other) (inl (n, is, some, few)) = inl (n, is, some, omega (arith, few))
    go (inr other) (inr none) = inr (λ n is some few. ⊎_elim (λ (last : n ≡ suc m). other (is ∙ ap decimal last)) (λ (low : n ≤ m). none n is some low) (grind (arith, few)))

-- one of the first n commands has this name, or none of them has
name_or_not : (w : List ℕ) (n : ℕ)
    → ((command : TextCommand) × (w ≡ name_of command)) ⊎ ((i : ℕ) → i < n → w ≡ name_of (get_or commands i Compile) → ⊥)
name_or_not w zero = inr (λ i low is. omega (arith, low))
name_or_not w (suc n) = go (same_or_not w (name_of (get_or commands n Compile))) (name_or_not w n)
  where
    go : (w ≡ name_of (get_or commands n Compile)) ⊎ (w ≡ name_of (get_or commands n Compile) → ⊥)
        → ((command : TextCommand) × (w ≡ name_of command)) ⊎ ((i : ℕ) → i < n → w ≡ name_of (get_or commands i Compile) → ⊥)
        → ((command : TextCommand) × (w ≡ name_of command)) ⊎ ((i : ℕ) → i < suc n → w ≡ name_of (get_or commands i Compile) → ⊥)
    go (inl is) lower = inl (get_or commands n Compile, is)
    go (inr other) (inl found) = inl found
    go (inr other) (inr none) = inr (λ i low is.
        ⊎_elim (λ (last : i ≡ n). other (subst (λ j. w ≡ name_of (get_or commands j Compile)) last is)) (λ (less : i < n). none i less is) (grind (arith, low)))

abbrev pub RowOrNot : List (List ℕ) → Type 0
RowOrNot words = ((command : Command) × IsRow command words) ⊎ IsNoRow words

row_of_one : (w : List ℕ) → RowOrNot (w ∷ [])
row_of_one w = go (name_or_not w (length commands))
  where
    go : ((command : TextCommand) × (w ≡ name_of command)) ⊎ ((i : ℕ) → i < length commands → w ≡ name_of (get_or commands i Compile) → ⊥) → RowOrNot (w ∷ [])
    go (inl (command, is)) = inl (OfText command, ap (λ v. v ∷ []) is)
    go (inr other) = inr none
      where
        none : IsNoRow (w ∷ [])
        none (OfText command) row = other (number command) (few command) (one_word _ _ row ∙ ap name_of (sym (at_number command)))
        none (Bulk n) row = absurd (two_words _ _ _ (sym row.0))

row_of_two : (v w : List ℕ) → RowOrNot (v ∷ w ∷ [])
row_of_two v w = go (same_or_not v (codes "bulk")) (size_or_not w 1000)
  where
    firsts : (x y : List ℕ) → v ∷ w ∷ [] ≡ x ∷ y ∷ [] → (v ≡ x) × (w ≡ y)
    firsts x y is = (cc is, cc is)

    go : (v ≡ codes "bulk") ⊎ (v ≡ codes "bulk" → ⊥) → ((n : ℕ) × (w ≡ decimal n) × (1 ≤ n) × (n ≤ 1000)) ⊎ ((n : ℕ) → w ≡ decimal n → 1 ≤ n → n ≤ 1000 → ⊥) → RowOrNot (v ∷ w ∷ [])
    go (inl word) (inl (n, is, some, few)) = inl (Bulk n, (ap (λ x. x ∷ w ∷ []) word ∙ ap (λ y. codes "bulk" ∷ y ∷ []) is, some, few))
    go (inl word) (inr other) = inr none
      where
        none : IsNoRow (v ∷ w ∷ [])
        none (OfText command) row = two_words _ _ _ row
        none (Bulk n) row = other n (firsts _ _ row.0).1 row.1 row.2
    go (inr other) size = inr none
      where
        none : IsNoRow (v ∷ w ∷ [])
        none (OfText command) row = two_words _ _ _ row
        none (Bulk n) row = other (firsts _ _ row.0).0

pub row_or_not : (words : List (List ℕ)) → RowOrNot words
row_or_not [] = inr none
  where
    none : IsNoRow []
    none (OfText command) row = absurd (cc row)
    none (Bulk n) row = absurd (cc row.0)
row_or_not (w ∷ []) = row_of_one w
row_or_not (v ∷ w ∷ []) = row_of_two v w
row_or_not (u ∷ v ∷ w ∷ words) = inr none
  where
    none : IsNoRow (u ∷ v ∷ w ∷ words)
    none (OfText command) row = absurd (cc row)
    none (Bulk n) row = absurd (cc row.0)
