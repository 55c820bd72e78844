-- Why parts are refused: the first cause in order. The causes exclude each other, so each fault of the parts comes exactly where it holds. Memory is wanted for
-- valid parts alone.
use Rattle.std.specs.Prelude.{◌≡◌, ℕ, ◌≤◌, ◌<◌, List, length, take}
use Rattle.crn_net.specs.Limits.{IsValid}
use Rattle.crn_net.specs.Network.{Network, Rails, Ends, Reaction, IsEnds, AreEnds, IsContext, IsReaction, AreDifferent, input_species, numbered}
use Rattle.crn_net.specs.declared.NetworkError.{NetworkError}
use Rattle.crn_net.specs.declared.NetworkError.TheVariants.{Species, Reactions, Inputs, Input, Output, Context, Reaction as BadReaction, Memory}

-- of 1 to n, P holds below i, and not at i
pub record IsFirst (P : ℕ → Type 0) (n i : ℕ) : Type 0 where
  pub low : 1 ≤ i
  pub high : i ≤ n
  pub earlier : (j : ℕ) → 1 ≤ j → j < i → P j
  pub here : P i → ⊥

abbrev pub HasSpecies : Network → Type 0
HasSpecies net = (1 ≤ net.species) × (net.species ≤ 65536)

abbrev pub HasReactions : Network → Type 0
HasReactions net = length net.reactions ≤ 65536

abbrev pub HasInputs : Network → Type 0
HasInputs net = (1 ≤ length net.inputs) × (length net.inputs ≤ 8)

-- inputs of the right sort and in range, that name no species twice
abbrev pub AreInputs : Rails → ℕ → List Ends → Type 0
AreInputs rails n es = AreEnds rails n es × AreDifferent (input_species es)

-- the first i inputs
abbrev pub AreInputsTo : Rails → ℕ → List Ends → ℕ → Type 0
AreInputsTo rails n es i = AreInputs rails n (take i es)

abbrev pub HasGoodInputs : Network → Type 0
HasGoodInputs net = AreInputs net.rails net.species net.inputs

abbrev pub HasOutput : Network → Type 0
HasOutput net = IsEnds net.rails net.species net.output

abbrev pub HasContext : Network → Type 0
HasContext net = IsContext net.species net.inputs net.context

-- reaction r of the list is well formed
abbrev pub IsReactionAt : ℕ → List Reaction → ℕ → Type 0
IsReactionAt n rs r = IsReaction n (numbered rs r)

-- each reaction of the list is
abbrev pub AreReactionsAt : ℕ → List Reaction → Type 0
AreReactionsAt n rs = (r : ℕ) → 1 ≤ r → r ≤ length rs → IsReactionAt n rs r

-- the parts of this network are refused for this
abbrev pub IsCause : Network → NetworkError → Type 0
IsCause net (Species k) = (k ≡ net.species) × (HasSpecies net → ⊥)
IsCause net (Reactions k) = HasSpecies net × (k ≡ length net.reactions) × (HasReactions net → ⊥)
IsCause net (Inputs k) = HasSpecies net × HasReactions net × (k ≡ length net.inputs) × (HasInputs net → ⊥)
IsCause net (Input i) = HasSpecies net × HasReactions net × HasInputs net × IsFirst (AreInputsTo net.rails net.species net.inputs) (length net.inputs) i
IsCause net Output = HasSpecies net × HasReactions net × HasInputs net × HasGoodInputs net × (HasOutput net → ⊥)
IsCause net Context = HasSpecies net × HasReactions net × HasInputs net × HasGoodInputs net × HasOutput net × (HasContext net → ⊥)
IsCause net (BadReaction r) =
    HasSpecies net × HasReactions net × HasInputs net × HasGoodInputs net × HasOutput net × HasContext net
    × IsFirst (IsReactionAt net.species net.reactions) (length net.reactions) r
IsCause net Memory = IsValid net
