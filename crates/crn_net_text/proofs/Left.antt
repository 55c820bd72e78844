-- Species that no input names.
use Rattle.std.proofs.Common.{◌≡◌, ℕ, zero, suc, ◌+◌, ◌<◌, ◌≤◌, Bool, true, false, ◌||◌, List, refl, sym, ap, ap₂, ◌∙◌, subst, ⊎_elim, arith}
use Rattle.std.proofs.lemmas.Bool.{cases_lt}
use Rattle.std.specs.Prelude.{not}
use Rattle.std.proofs.Math.Bool.{or-true}
use Rattle.crn_net.specs.declared.Ends.{Ends}
use Rattle.crn_net_text.specs.Grammar.{is_named, some_left}

pub left_here : (inputs : List Ends) (n k : ℕ) → 1 ≤ k → k ≤ n → is_named inputs k ≡ false → some_left n inputs ≡ true
left_here inputs zero k low high free = absurd (omega arith)
left_here inputs (suc n) k low high free =
    ⊎_elim
    (λ less. ap (λ b. not (is_named inputs (suc n)) || b) (left_here inputs n k low (omega arith) free) ∙ or-true (not (is_named inputs (suc n))))
    (λ more. let same : k ≡ suc n = omega arith in ap (λ b. not b || some_left n inputs) (subst (λ m. is_named inputs m ≡ false) same free))
    (cases_lt k (suc n))

pub none_left : (inputs : List Ends) (n : ℕ) → ((k : ℕ) → 1 ≤ k → k ≤ n → is_named inputs k ≡ true) → some_left n inputs ≡ false
none_left inputs zero all = refl
none_left inputs (suc n) all = ap₂ (λ b c. not b || c) (all (suc n) (omega arith) (omega arith)) (none_left inputs n (λ k low high. all k low (omega arith)))

pub named_next : (inputs : List Ends) (n : ℕ) → ((k : ℕ) → 1 ≤ k → k < n → is_named inputs k ≡ true) → is_named inputs n ≡ true → (k : ℕ) → 1 ≤ k → k < n + 1 → is_named inputs k ≡ true
named_next inputs n all here k low high =
    ⊎_elim (λ less. all k low less) (λ more. let same : n ≡ k = omega arith in subst (λ m. is_named inputs m ≡ true) same here) (cases_lt k n)

-- a species that is left
pub left : (inputs : List Ends) (n : ℕ) → some_left n inputs ≡ true → (k : ℕ) × (1 ≤ k) × (k ≤ n) × (is_named inputs k ≡ false)
left inputs zero some = let wrong : false ≡ true = some in cc
left inputs (suc n) some = go (λ less. left inputs n less) (is_named inputs (suc n)) refl
  where
    go : (some_left n inputs ≡ true → (k : ℕ) × (1 ≤ k) × (k ≤ n) × (is_named inputs k ≡ false)) → (b : Bool) → is_named inputs (suc n) ≡ b → (k : ℕ) × (1 ≤ k) × (k ≤ suc n) × (is_named inputs k ≡ false)
    go again false free = (suc n, omega arith, omega arith, free)
    go again true named =
        let less : some_left n inputs ≡ true = ap (λ b. not b || some_left n inputs) (sym named) ∙ some in
        let (k, low, high, free) = again less in
        (k, low, omega (arith, high), free)
