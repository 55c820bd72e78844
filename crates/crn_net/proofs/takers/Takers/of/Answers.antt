use Rattle.std.proofs.Common.{length, get_or, subst, sym, ◌∙◌, ap, arith}
use Rattle.crn_net.specs.Takers.{numbers_of, entries_from, IsTable}
use Rattle.crn_net.specs.Views.{reactions_of}
use Rattle.crn_net.proofs.TakersTable.{counts_fit, starts_read, table_is}
use Rattle.crn_net.proofs.takers.Takers.of.Goals as goal

pub add_up-requires : goal.add_up-requires
add_up-requires c =
    counts_fit c.args.species c.deref_mut.result.now c.deref_mut.result.now c.in_ok-entries.entries.items (ap length c.deref_mut.ensures.value ∙ c.in_ok-starts.ensures.long)
    (λ s h. ap (λ v. get_or v s 0) c.deref_mut.ensures.value ∙ c.in_ok-starts.ensures.counts s h ∙ ap (λ v. length (numbers_of s v)) c.deref.ensures.value) (omega arith)

pub numbers-requires-clause-starts : goal.numbers-requires-clause-starts
numbers-requires-clause-starts c =
    starts_read c.args.species c.in_ok-starts.starts.len c.in_ok-starts.starts.items c.deref_mut.result.now c.add_up.new.counts c.deref-2.result.now c.deref-3.result.now c.deref.result.now
    c.in_ok-starts.ensures.long c.in_ok-starts.ensures.counts (c.deref.ensures.value ∙ sym c.deref-3.ensures.value) c.deref_mut.ensures.value c.deref_mut.ensures.len c.add_up.auto.counts
    c.add_up.ensures c.deref-2.ensures.value

pub returns : goal.returns
returns c =
    subst (λ v. IsTable c.args.species (λ s. numbers_of s (entries_from 1 (reactions_of c.args.reactions.now))) v c.in_ok-numbers.numbers.items) c.deref-2.ensures.value
    (subst (λ es. IsTable c.args.species (λ s. numbers_of s es) c.deref-2.result.now c.in_ok-numbers.numbers.items) (c.deref-3.ensures.value ∙ c.in_ok-entries.ensures)
    (table_is c.args.species c.deref-2.result.now c.in_ok-numbers.numbers.items c.deref-3.result.now
    (omega (arith, c.deref_mut.ensures.len, ap length c.deref_mut.ensures.value, c.in_ok-starts.ensures.long, c.deref-2.ensures.len))
    (starts_read c.args.species c.in_ok-starts.starts.len c.in_ok-starts.starts.items c.deref_mut.result.now c.add_up.new.counts c.deref-2.result.now c.deref-3.result.now c.deref.result.now
    c.in_ok-starts.ensures.long c.in_ok-starts.ensures.counts (c.deref.ensures.value ∙ sym c.deref-3.ensures.value) c.deref_mut.ensures.value c.deref_mut.ensures.len c.add_up.auto.counts
    c.add_up.ensures c.deref-2.ensures.value)
    c.in_ok-numbers.ensures.long c.in_ok-numbers.ensures.numbers))
