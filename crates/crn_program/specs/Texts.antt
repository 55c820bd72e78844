-- The right answer to the bytes, by the grammar of each text.
use Rattle.std.specs.Prelude.{ℕ, List}
use Rattle.crn_token.specs.declared.Counted.{Counted}
use Rattle.crn_token.specs.Plain.{plain_lines, line_number, end_of}
use Rattle.crn_grammar.specs.Table.{Answer, IsAnswer}
use Rattle.crn_function_text.specs.Grammar.{PlainFunction, function_table}
use Rattle.crn_function_text.specs.Two.{TwoFunctions, two_table}
use Rattle.crn_cert_text.specs.ProvedText.{PlainProved, proved_table}
use Rattle.crn_net.specs.Network.{Network}
use Rattle.crn_net_text.specs.Grammar.{network_table}
use Rattle.crn_job.specs.Grammar.{PlainJob, job_table}
use Rattle.crn_job.specs.RunGrammar.{PlainRunJob, run_table}
use Rattle.crn_gated.specs.Grammar.{PlainGated, gated_table}
use Rattle.crn_gated.specs.JobGrammar.{PlainGatedJob, gated_job_table}

abbrev pub IsFunctionAnswer : List ℕ → Answer PlainFunction (Counted × ℕ) → Type 0
IsFunctionAnswer bytes a = IsAnswer function_table line_number (end_of bytes) (plain_lines bytes) a

abbrev pub IsJobAnswer : List ℕ → Answer PlainJob (Counted × ℕ) → Type 0
IsJobAnswer bytes a = IsAnswer job_table line_number (end_of bytes) (plain_lines bytes) a

abbrev pub IsRunAnswer : List ℕ → Answer PlainRunJob (Counted × ℕ) → Type 0
IsRunAnswer bytes a = IsAnswer run_table line_number (end_of bytes) (plain_lines bytes) a

abbrev pub IsProvedAnswer : List ℕ → Answer PlainProved (Counted × ℕ) → Type 0
IsProvedAnswer bytes a = IsAnswer proved_table line_number (end_of bytes) (plain_lines bytes) a

abbrev pub IsTwoAnswer : List ℕ → Answer TwoFunctions (Counted × ℕ) → Type 0
IsTwoAnswer bytes a = IsAnswer two_table line_number (end_of bytes) (plain_lines bytes) a

abbrev pub IsGatedAnswer : List ℕ → Answer PlainGated (Counted × ℕ) → Type 0
IsGatedAnswer bytes a = IsAnswer gated_table line_number (end_of bytes) (plain_lines bytes) a

abbrev pub IsGatedJobAnswer : List ℕ → Answer PlainGatedJob (Counted × ℕ) → Type 0
IsGatedJobAnswer bytes a = IsAnswer gated_job_table line_number (end_of bytes) (plain_lines bytes) a

abbrev pub IsNetworkAnswer : List ℕ → Answer Network (Counted × ℕ) → Type 0
IsNetworkAnswer bytes a = IsAnswer network_table line_number (end_of bytes) (plain_lines bytes) a
