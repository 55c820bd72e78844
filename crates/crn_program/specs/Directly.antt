-- What comes of a function by pieces of which a direct network is asked.
use Rattle.std.specs.Prelude.{ℕ, ◌≡◌, ◌≢◌, false}
use Rattle.crn_grammar.specs.Table.{Read}
use Rattle.crn_formula.specs.Functions.{IsGivenByPieces, is_affine}
use Rattle.crn_compile.specs.DirectNetworks.{IsDirectNetworkOf}
use Rattle.crn_compile.specs.DirectRefusals.{IsRefusedDirect}
use Rattle.crn_compile.specs.Networks.{ComputesFunction}
use Rattle.crn_compile.specs.declared.CompileError.TheVariants.{Memory}
use Rattle.crn_compile.specs.declared.direct.DirectError.{DirectError}
use Rattle.crn_compile.specs.declared.direct.DirectError.TheVariants.{Compile}
use Rattle.crn_function_text.specs.Grammar.{PlainFunction}
use Rattle.crn_net.specs.Network.{Network}
use Rattle.crn_net_text.specs.NetworkText.{network_text}
use Rattle.crn_program.specs.Finding.{Outcome, OtherKind, NotDirect, Compiled}
use Rattle.crn_program.specs.Texts.{IsNetworkAnswer}

-- given by pieces without a constant
pub record IsLinearPieces (f : PlainFunction) : Type 0 where
  pub pieces : IsGivenByPieces f.kind
  pub linear : is_affine f.variables f.kind ≡ false

-- The direct network of the function. From every start it stably computes the value at the amounts, and its text is read as this network.
pub record IsCompiledDirectly (f : PlainFunction) (net : Network) : Type 0 where
  pub linear : IsLinearPieces f
  pub network : IsDirectNetworkOf f.variables f.kind net
  pub computes : ComputesFunction net f.variables f.kind
  pub reads_back : IsNetworkAnswer (network_text net) (Read net)

-- the function, of k variables, has no direct network for this cause, which is not want of memory
pub record IsNotDirect (f : PlainFunction) (k : ℕ) (e : DirectError) : Type 0 where
  pub linear : IsLinearPieces f
  pub variables : k ≡ f.variables
  pub is_cause : e ≢ Compile Memory
  pub refused : IsRefusedDirect f.variables f.kind e

-- `direct`
abbrev pub IsOutcomeOfDirect : PlainFunction → Outcome → Type 0
IsOutcomeOfDirect f OtherKind = ¬ IsLinearPieces f
IsOutcomeOfDirect f (NotDirect k e) = IsNotDirect f k e
IsOutcomeOfDirect f (Compiled net) = IsCompiledDirectly f net
IsOutcomeOfDirect f _ = ⊥
