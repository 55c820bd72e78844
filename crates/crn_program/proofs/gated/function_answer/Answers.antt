use Rattle.std.proofs.Common.{subst, refl}
use Rattle.crn_grammar.specs.Table.{Read}
use Rattle.crn_program.specs.Texts.{IsNetworkAnswer}
use Rattle.crn_program.specs.Finding.{Compiled}
use Rattle.crn_program.proofs.gated.function_answer.Goals as goal

pub returns : goal.returns
returns c =
    let text = c.in_ok-text.ensures.text in
    record {
      what = Compiled c.in_ok-network.network;
      found = record {
        network = c.in_ok-network.ensures.layout;
        computes = c.in_ok-network.ensures.computes;
        reads_back = subst (λ t. IsNetworkAnswer t (Read c.in_ok-network.network)) text (c.in_ok-text.ensures.spells, c.in_ok-text.ensures.limits);
      };
      status_is = refl;
      text_is = text;
    }
