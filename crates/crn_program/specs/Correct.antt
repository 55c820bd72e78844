-- The theorem on one page: what each command that runs does, from the bytes that come to the bytes that are written. A function has a value at a point. A
-- network has states, and runs: segments that are legal in turn. A start encodes a point by amounts of the inputs.
use Rattle.std.specs.Prelude.{ℕ, ◌≡◌, ◌≤◌, false, List, length, codes, ◌++◌}
use Rattle.std.specs.Fmt.{decimal}
use Rattle.crn_fraction.specs.Rational.{ℚ, ◌+ℚ◌}
use Rattle.crn_fraction.specs.Text.{fraction_text}
use Rattle.crn_grammar.specs.Table.{Read}
use Rattle.crn_formula.specs.Pieces.{Piece, Covers, Agree}
use Rattle.crn_formula.specs.Domains.{domain_for, orthant}
use Rattle.crn_formula.specs.Functions.{ByPieces, is_affine}
use Rattle.crn_superadd.specs.Superadditive.{IsSuperadditive, IsNonnegative}
use Rattle.crn_function_text.specs.Grammar.{PlainFunction}
use Rattle.crn_function_text.specs.Two.{TwoFunctions}
use Rattle.crn_cert_text.specs.Proofs.{Line, IsProof}
use Rattle.crn_cert_text.specs.ProvedText.{PlainProved, proved_text, printed_proof}
use Rattle.crn_net.specs.Network.{Network, AreAmounts, AreNotNegative, Run, IsSettled, StablyComputes, start, encoded, completion, completed, output}
use Rattle.crn_net.specs.Totals.{total}
use Rattle.crn_net.specs.declared.Flow.{Flow}
use Rattle.crn_net.specs.declared.Rails.{Rails}
use Rattle.crn_net.specs.declared.Rails.TheVariants.{Dual, Direct}
use Rattle.crn_net_text.specs.NetworkText.{network_text}
use Rattle.crn_job.specs.Grammar.{PlainJob, rails_of}
use Rattle.crn_job.specs.RunGrammar.{PlainRunJob}
use Rattle.crn_gated.specs.Completion.{gated_completion, gated_completed}
use Rattle.crn_gated.specs.Computes.{StablyComputesGated}
use Rattle.crn_gated.specs.Forms.{gated_value}
use Rattle.crn_gated.specs.Grammar.{PlainGated}
use Rattle.crn_gated.specs.JobGrammar.{PlainGatedJob}
use Rattle.crn_gated.specs.Layout.{gated_layout}
use Rattle.crn_bulk.specs.Generator.{bulk_job, bulk_number}
use Rattle.crn_program.specs.Texts.{IsFunctionAnswer, IsNetworkAnswer, IsJobAnswer, IsRunAnswer, IsProvedAnswer, IsTwoAnswer, IsGatedAnswer, IsGatedJobAnswer}
use Rattle.crn_program.specs.Bulk.{halves}
use Rattle.crn_program.specs.Report.{EndsWith, line, completion_report, run_report, bulk_report}
use Rattle.crn_program.specs.Value.{IsValue, IsNetworkOf}

-- ---- words

-- a point of k numbers, none negative where there is one species an input, as for the least of forms
abbrev pub IsInput : Rails → ℕ → List ℚ → Type 0
IsInput Dual k x = length x ≡ k
IsInput Direct k x = (length x ≡ k) × AreNotNegative x

-- the last line of the text is `value v`
abbrev pub EndsWithValue : ℚ → List ℕ → Type 0
EndsWithValue v text = EndsWith (line (codes "value " ++ fraction_text v)) text

-- The segments are a run from the start to c, and the completion is a run from c. At its end the output is v, whatever runs follow. However much the segments
-- made of each reaction happen, together with the completion it is as much as in the completion from the start.
pub record CompletesTo (net : Network) (amounts : List ℚ) (segments : List (List Flow)) (c : List ℚ) (v : ℚ) : Type 0 where
  pub leads : Run net (start net amounts) segments c
  pub completes : Run net c (completion net c) (completed net c)
  pub output_is : output net (completed net c) ≡ v
  pub settled : IsSettled net (completed net c) v
  pub fluxes : (r : ℕ) → 1 ≤ r → r ≤ length net.reactions → total segments r +ℚ total (completion net c) r ≡ total (completion net (start net amounts)) r

-- The same of a network with gates and of its gated completion, but for the fluxes, of which nothing is said.
pub record CompletesGatedTo (net : Network) (amounts : List ℚ) (segments : List (List Flow)) (c : List ℚ) (v : ℚ) : Type 0 where
  pub leads : Run net (start net amounts) segments c
  pub completes : Run net c (gated_completion net c) (gated_completed net c)
  pub output_is : output net (gated_completed net c) ≡ v
  pub settled : IsSettled net (gated_completed net c) v

-- ---- the commands

-- `compile`: the bytes are the text of a function, and a network is written that stably computes its value at each point, from every start that encodes it.
-- What is written reads back as this network. Pieces cover their domain and agree on it.
pub record Compiles (bytes text : List ℕ) : Type 0 where
  pub function : PlainFunction
  pub net : Network
  pub read : IsFunctionAnswer bytes (Read function)
  pub network : IsNetworkOf function net
  pub starts : (x : List ℚ) → IsInput (rails_of function.kind) function.variables x → (amounts : List ℚ) × AreAmounts net amounts × (encoded net.rails amounts ≡ x)
  pub computes : (amounts : List ℚ) → AreAmounts net amounts → (v : ℚ) × IsValue function (encoded net.rails amounts) v × StablyComputes net amounts v
  pub pieces : (ps : List Piece) → function.kind ≡ ByPieces ps → Covers (domain_for function.variables (ByPieces ps)) ps × Agree (domain_for function.variables (ByPieces ps)) ps
  pub written : text ≡ network_text net
  pub reads_back : IsNetworkAnswer text (Read net)

-- `complete`: the bytes are the text of a job, and the network that `compile` writes of its function is completed after its segments. The value of the function
-- at the point that the amounts encode is written last.
pub record Completes (bytes text : List ℕ) : Type 0 where
  pub job : PlainJob
  pub net : Network
  pub state : List ℚ
  pub value : ℚ
  pub read : IsJobAnswer bytes (Read job)
  pub network : IsNetworkOf job.function net
  pub amounts : AreAmounts net job.amounts
  pub value_is : IsValue job.function (encoded net.rails job.amounts) value
  pub completes : CompletesTo net job.amounts job.segments state value
  pub written : text ≡ completion_report net state (completion net state) (completed net state)
  pub ends : EndsWithValue value text

-- `run`: the bytes are a network's text, a state of it and segments that are a run from there. The output where they lead is written last.
pub record Runs (bytes text : List ℕ) : Type 0 where
  pub job : PlainRunJob
  pub state : List ℚ
  pub read : IsRunAnswer bytes (Read job)
  pub leads : Run job.network job.state job.segments state
  pub written : text ≡ run_report job.network state
  pub ends : EndsWithValue (output job.network state) text

-- `prove`: the bytes are the text of a function by pieces that cover its domain and agree on it. What is written is the text of this function and of a proof of that, and
-- reads back as both.
pub record Proves (bytes text : List ℕ) : Type 0 where
  pub function : PlainFunction
  pub pieces : List Piece
  pub lines : List Line
  pub read : IsFunctionAnswer bytes (Read function)
  pub given : function.kind ≡ ByPieces pieces
  pub covers : Covers (domain_for function.variables (ByPieces pieces)) pieces
  pub agree : Agree (domain_for function.variables (ByPieces pieces)) pieces
  pub proof : IsProof (domain_for function.variables (ByPieces pieces)) pieces lines
  pub written : text ≡ proved_text function lines
  pub reads_back : IsProvedAnswer text (Read (printed_proof function lines))

-- `check`: the bytes are the text of a function by pieces and of a proof that they cover its domain and agree on it, and so they do. The number of its lines is written.
pub record Checks (bytes text : List ℕ) : Type 0 where
  pub proved : PlainProved
  pub pieces : List Piece
  pub read : IsProvedAnswer bytes (Read proved)
  pub given : proved.function.kind ≡ ByPieces pieces
  pub proof : IsProof (domain_for proved.function.variables (ByPieces pieces)) pieces proved.proof.lines
  pub covers : Covers (domain_for proved.function.variables (ByPieces pieces)) pieces
  pub agree : Agree (domain_for proved.function.variables (ByPieces pieces)) pieces
  pub written : text ≡ line (codes "checked lines " ++ decimal (length proved.proof.lines))

-- `same`: the bytes are the text of two functions of one number of variables, and at every point both have the same value.
pub record Compares (bytes text : List ℕ) : Type 0 where
  pub both : TwoFunctions
  pub read : IsTwoAnswer bytes (Read both)
  pub variables : both.first.variables ≡ both.second.variables
  pub same : (x : List ℚ) → length x ≡ both.first.variables → (v : ℚ) × IsValue both.first x v × IsValue both.second x v
  pub written : text ≡ line (codes "same")

-- `direct`: the bytes are the text of a function by pieces without constants. On the points without a negative number the pieces cover and agree, and the function is
-- superadditive and nowhere negative. A network of single rails is written that stably computes its value at the amounts, from every start. What is written reads back as
-- this network.
pub record CompilesDirectly (bytes text : List ℕ) : Type 0 where
  pub function : PlainFunction
  pub pieces : List Piece
  pub net : Network
  pub read : IsFunctionAnswer bytes (Read function)
  pub given : function.kind ≡ ByPieces pieces
  pub linear : is_affine function.variables function.kind ≡ false
  pub covers : Covers (orthant function.variables) pieces
  pub agree : Agree (orthant function.variables) pieces
  pub superadditive : IsSuperadditive (orthant function.variables) pieces
  pub nonnegative : IsNonnegative (orthant function.variables) pieces
  pub direct : net.rails ≡ Direct
  pub starts : (x : List ℚ) → length x ≡ function.variables → AreNotNegative x → AreAmounts net x
  pub computes : (x : List ℚ) → AreAmounts net x → (v : ℚ) × IsValue function x v × StablyComputes net x v
  pub written : text ≡ network_text net
  pub reads_back : IsNetworkAnswer text (Read net)

-- `compile-gated`: the bytes are the text of a gated function, the least of forms of which some count as 0 while a variable is 0. A network is written:
-- from every start, whatever run comes first, the gated completion after it is a run to the value there, which no further run changes. What is written reads back
-- as this network.
pub record CompilesGated (bytes text : List ℕ) : Type 0 where
  pub function : PlainGated
  pub net : Network
  pub read : IsGatedAnswer bytes (Read function)
  pub network : net ≡ gated_layout function.variables function.forms
  pub starts : (x : List ℚ) → length x ≡ function.variables → AreNotNegative x → AreAmounts net x
  pub computes : (x : List ℚ) → AreAmounts net x → StablyComputesGated net x (gated_value function.forms x)
  pub written : text ≡ network_text net
  pub reads_back : IsNetworkAnswer text (Read net)

-- `complete-gated`: the bytes are the text of a job of such a function, and the network that `compile-gated` writes of it is completed after its segments. The
-- value of the function at the amounts is written last.
pub record CompletesGated (bytes text : List ℕ) : Type 0 where
  pub job : PlainGatedJob
  pub net : Network
  pub state : List ℚ
  pub value : ℚ
  pub read : IsGatedJobAnswer bytes (Read job)
  pub network : net ≡ gated_layout job.function.variables job.function.forms
  pub amounts : AreAmounts net job.amounts
  pub value_is : value ≡ gated_value job.function.forms job.amounts
  pub completes : CompletesGatedTo net job.amounts job.segments state value
  pub written : text ≡ completion_report net state (gated_completion net state) (gated_completed net state)
  pub ends : EndsWithValue value text

-- `bulk n`: the same as `complete` of a formula, amounts and segments that are drawn; no text is read.
pub record RunsBulk (n : ℕ) (text : List ℕ) : Type 0 where
  pub net : Network
  pub segments : List (List Flow)
  pub state : List ℚ
  pub value : ℚ
  pub network : IsNetworkOf (bulk_job n).function net
  pub value_is : IsValue (bulk_job n).function (encoded net.rails (bulk_job n).amounts) value
  pub drawn : segments ≡ halves net (bulk_number n) (start net (bulk_job n).amounts)
  pub completes : CompletesTo net (bulk_job n).amounts segments state value
  pub written : text ≡ bulk_report n net (length segments) (completion net state) (completed net state)
  pub ends : EndsWithValue value text
