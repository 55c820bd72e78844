-- The first number of a completion that does not fit.
use Rattle.std.specs.Prelude.{◌≡◌, ℕ, zero, suc, ◌||◌, Bool, false, if◌then◌else◌, List, [], ◌∷◌, length, Option, Some, None, is_some, pos}
use Rattle.std.specs.Option.{option_or, option_map}
use Rattle.crn_fraction.specs.Rational.{ℚ, ◌/ℚ◌, whole, is_zero_ℚ}
use Rattle.crn_net.specs.Network.{Network, Part, amount, numbered, after_all, alone, greatest_flux, completion_to}
use Rattle.crn_segments.specs.Signs.{is_frac}
use Rattle.crn_segments.specs.Step.{sum_of}
use Rattle.crn_segments.specs.declared.StepError.{StepError}
use Rattle.crn_segments.specs.declared.StepError.TheVariants.{TooBig}
use Rattle.crn_completer.specs.declared.CompletionTooBig.{CompletionTooBig}

-- one of the parts has the amount 0
abbrev pub lacks : (ℕ → ℚ) → List Part → Bool
lacks m [] = false
lacks m (p ∷ ps) = is_zero_ℚ (m p.species) || lacks m ps

-- the first species of the parts whose quotient of amount and count does not fit
abbrev pub unfit_quotient : (ℕ → ℚ) → List Part → Option ℕ
unfit_quotient m [] = None
unfit_quotient m (p ∷ ps) = if is_frac (m p.species /ℚ whole (pos p.count)) then unfit_quotient m ps else Some p.species

-- the first of `left` species from s without a sum m
abbrev pub unfit_sum : (ℕ → Option ℚ) → ℕ → ℕ → Option ℕ
unfit_sum m s zero = None
unfit_sum m s (suc left) = if is_some (m s) then unfit_sum m (suc s) left else Some s

-- the species at which the turn of reaction r does not fit: of a quotient, or of a product or a partial sum
abbrev pub turn_refusal : Network → ℕ → List ℚ → Option ℕ
turn_refusal net r c =
    if lacks (amount c) (numbered net.reactions r).takes then None
    else option_or (unfit_quotient (amount c) (numbered net.reactions r).takes) (unfit_sum (sum_of net c (alone r (greatest_flux net r (amount c)))) 1 net.species)

-- of the turns of the first r reactions, the first that does not fit
unfoldable pub completion_refusal_to : Network → ℕ → List ℚ → Option CompletionTooBig
completion_refusal_to net zero c = None
completion_refusal_to net (suc r) c =
    option_or (completion_refusal_to net r c)
    (option_map (λ s. record { reaction = suc r; species = s }) (turn_refusal net (suc r) (after_all net c (completion_to net r c))))

abbrev pub completion_refusal : Network → List ℚ → Option CompletionTooBig
completion_refusal net c = completion_refusal_to net (length net.reactions) c

abbrev pub IsTooBig : StepError → Type 0
IsTooBig e = (s : ℕ) × (e ≡ TooBig s)
