-- When a limit is passed.
use Rattle.std.proofs.Common.{◌≡◌, ℕ, ◌<◌, ◌≤◌, Bool, true, false, cond, Option, Some, None, refl, sym, ◌∙◌, ap}
use Rattle.std.proofs.lemmas.Bool.{lt-ltb, le-ltb, ltb-false}
use Rattle.std.specs.Prelude.{nat_lt}
use Rattle.crn_token.specs.declared.Counted.{Counted}
use Rattle.crn_grammar.specs.Limits.{above, or_else}

pub not_passed : (greatest : ℕ) (what : Counted) (count : ℕ) → above greatest what count ≡ None → count ≤ greatest
not_passed greatest what count none = go (nat_lt greatest count) refl
  where
    go : (b : Bool) → nat_lt greatest count ≡ b → count ≤ greatest
    go true is = let wrong : ◌≡◌ {A = Option (Counted × ℕ)} (Some (what, count)) None = sym (ap (λ b. cond b (Some (what, count)) None) is) ∙ none in cc
    go false is = ltb-false greatest count is

pub not_above : (greatest : ℕ) (what : Counted) (count : ℕ) → count ≤ greatest → above greatest what count ≡ None
not_above greatest what count few = ap (λ b. cond b (Some (what, count)) None) (le-ltb greatest count few)

pub is_above : (greatest : ℕ) (what : Counted) (count : ℕ) → greatest < count → above greatest what count ≡ Some (what, count)
is_above greatest what count many = ap (λ b. cond b (Some (what, count)) None) (lt-ltb greatest count many)

pub neither : {W : Type 0} (a b : Option W) → or_else a b ≡ None → (a ≡ None) × (b ≡ None)
neither None b none = (refl, none)
neither (Some what) b none = cc
