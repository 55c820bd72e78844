use Rattle.std.proofs.Common.{subst, sym}
use Rattle.crn_net.proofs.Causes.{valid_has_none}
use Rattle.crn_net.proofs.TakersTable.{all_entries, each_reaction, table_of_takers}
use Rattle.crn_net.specs.Takers.{AreEntries, IsTable, entries_from, numbers_of}
use Rattle.crn_net.specs.Views.{network_of, reactions_of}
use Rattle.crn_net.proofs.Network.make.Goals as goal

pub of-requires-clause-entries : goal.of-requires-clause-entries
of-requires-clause-entries c =
    subst (λ v. AreEntries c.args.parts.species (entries_from 1 (reactions_of v))) (sym c.deref.ensures.value)
    (all_entries c.args.parts.species 1 (reactions_of c.args.parts.reactions.items) (each_reaction (network_of c.args.parts) c.in_ok-check.ensures.network.reactions))

pub invariant_of-result : goal.invariant_of-result
invariant_of-result c = record {
  valid = c.in_ok-check.ensures;
  table = table_of_takers (network_of c.args.parts) c.in_ok-takers.takers.starts.items c.in_ok-takers.takers.numbers.items (each_reaction (network_of c.args.parts) c.in_ok-check.ensures.network.reactions)
      (subst (λ v. IsTable c.args.parts.species (λ s. numbers_of s (entries_from 1 (reactions_of v))) c.in_ok-takers.takers.starts.items c.in_ok-takers.takers.numbers.items) c.deref.ensures.value
      c.in_ok-takers.ensures);
}

pub returns-in_err-check-clause-valid : goal.returns-in_err-check-clause-valid
returns-in_err-check-clause-valid c =
    λ v. absurd (valid_has_none (network_of c.args.parts) c.in_err-check.field-0.0 c.in_err-check.ensures.1 c.in_err-check.ensures.0 v)
