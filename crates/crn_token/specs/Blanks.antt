-- The bytes that only part tokens, and those that stand in none.
use Rattle.std.specs.Prelude.{ℕ, ◌≡◌, ◌≢◌, ◌⊎◌, List, [], ◌∷◌}

-- space, tab or carriage return
abbrev pub IsBlank : ℕ → Type 0
IsBlank b = (b ≡ 32) ⊎ ((b ≡ 9) ⊎ (b ≡ 13))

-- the byte is none of these
abbrev pub HasNo : ℕ → List ℕ → Type 0
HasNo mark [] = Unit {0}
HasNo mark (b ∷ bs) = (b ≢ mark) × HasNo mark bs
