use Rattle.std.proofs.Common.{◌≤◌, nat_lt, ◌++◌, ap, subst, sym, ◌∙◌, arith, rules}
use Rattle.std.specs.Vec.Iter.{into_iter_items}
use Rattle.crn_net.specs.Network.{Network}
use Rattle.crn_gates.specs.Building.{AllFree}
use Rattle.crn_gates.specs.Pairs.{rails_of_copies}
use Rattle.crn_formula.specs.Views.{plain_of}
use Rattle.crn_dual.specs.Layout.{uses_of}
use Rattle.crn_dual.proofs.Compiling.{uses_fit, copies_fit, copies_suffice, species_are, root_free, network_is, computes_as_layout}
use Rattle.crn_dual.proofs.compile.compile_formula.Goals as goal

pub fan_out-requires-clause-uses : goal.fan_out-requires-clause-uses
fan_out-requires-clause-uses c =
    uses_fit c.args.variables (plain_of c.args.formula.now) c.requires.columns _ c.in_ok-builder.builder c.deref.result.now (ap (nat_lt c.args.variables) c.column_count.ensures) c.in_ok-builder.ensures.begun
    (c.deref.ensures.value ∙ c.in_ok-push_uses.ensures ∙ ap (λ us. us ++ uses_of c.args.variables (plain_of c.args.formula.now)) c.new-uses.ensures.items)

pub returns-in_err-builder-2-clause-too_large : goal.returns-in_err-builder-2-clause-too_large
returns-in_err-builder-2-clause-too_large c =
    let fit = copies_fit c.args.variables (plain_of c.args.formula.now) c.requires.columns _ c.in_ok-builder.builder c.deref.result.now (ap (nat_lt c.args.variables) c.column_count.ensures) c.in_ok-builder.ensures.begun
    (c.deref.ensures.value ∙ c.in_ok-push_uses.ensures ∙ ap (λ us. us ++ uses_of c.args.variables (plain_of c.args.formula.now)) c.new-uses.ensures.items) in
    search rules

pub lay-requires-clause-enough : goal.lay-requires-clause-enough
lay-requires-clause-enough c =
    copies_suffice c.args.variables (plain_of c.args.formula.now) c.requires.columns _ c.in_ok-builder.builder c.deref.result.now (ap (nat_lt c.args.variables) c.column_count.ensures) c.in_ok-builder.ensures.begun
    (c.deref.ensures.value ∙ c.in_ok-push_uses.ensures ∙ ap (λ us. us ++ uses_of c.args.variables (plain_of c.args.formula.now)) c.new-uses.ensures.items)
    c.in_ok-builder-2.builder (into_iter_items c.into_iter-copies.result) c.in_ok-builder-2.ensures.network (c.into_iter-copies.ensures.rest ∙ c.in_ok-builder-2.ensures.copies)

pub returns-in_err-builder-3-clause-too_large : goal.returns-in_err-builder-3-clause-too_large
returns-in_err-builder-3-clause-too_large c =
    let same = species_are c.args.variables (plain_of c.args.formula.now) c.requires.columns _ c.in_ok-builder.builder c.deref.result.now (ap (nat_lt c.args.variables) c.column_count.ensures) c.in_ok-builder.ensures.begun
    (c.deref.ensures.value ∙ c.in_ok-push_uses.ensures ∙ ap (λ us. us ++ uses_of c.args.variables (plain_of c.args.formula.now)) c.new-uses.ensures.items)
    c.in_ok-builder-2.builder (into_iter_items c.into_iter-copies.result) c.in_ok-builder-2.ensures.network (c.into_iter-copies.ensures.rest ∙ c.in_ok-builder-2.ensures.copies) in
    search rules

pub close-requires-clause-free : goal.close-requires-clause-free
close-requires-clause-free c =
    root_free c.args.variables (plain_of c.args.formula.now) c.requires.columns _ c.in_ok-builder.builder c.deref.result.now (ap (nat_lt c.args.variables) c.column_count.ensures) c.in_ok-builder.ensures.begun
    (c.deref.ensures.value ∙ c.in_ok-push_uses.ensures ∙ ap (λ us. us ++ uses_of c.args.variables (plain_of c.args.formula.now)) c.new-uses.ensures.items)
    c.in_ok-builder-2.builder (into_iter_items c.into_iter-copies.result) c.in_ok-builder-2.ensures.network (c.into_iter-copies.ensures.rest ∙ c.in_ok-builder-2.ensures.copies)
    c.in_ok-builder-3.builder c.in_ok-builder-3.root c.in_ok-builder-3.ensures.network c.in_ok-builder-3.ensures.pair
    (subst (λ cs. AllFree c.in_ok-builder-2.builder.built (rails_of_copies cs)) (sym c.into_iter-copies.ensures.rest) c.in_ok-builder-2.ensures.rails.made)

pub returns-clause-layout : goal.returns-clause-layout
returns-clause-layout c =
    c.in_ok-network.ensures.network
    ∙ network_is c.args.variables (plain_of c.args.formula.now) c.requires.columns _ c.in_ok-builder.builder c.deref.result.now (ap (nat_lt c.args.variables) c.column_count.ensures) c.in_ok-builder.ensures.begun
    (c.deref.ensures.value ∙ c.in_ok-push_uses.ensures ∙ ap (λ us. us ++ uses_of c.args.variables (plain_of c.args.formula.now)) c.new-uses.ensures.items)
    c.in_ok-builder-2.builder (into_iter_items c.into_iter-copies.result) c.in_ok-builder-2.ensures.network (c.into_iter-copies.ensures.rest ∙ c.in_ok-builder-2.ensures.copies)
    c.in_ok-builder-3.builder c.in_ok-builder-3.root c.in_ok-builder-3.ensures.network c.in_ok-builder-3.ensures.pair

pub returns-clause-computes : goal.returns-clause-computes
returns-clause-computes c = computes_as_layout c.args.variables (plain_of c.args.formula.now) c.requires.columns c.in_ok-network.network (returns-clause-layout c)

pub returns-clause-refused : goal.returns-clause-refused
returns-clause-refused c = λ h.
    let same = ap (λ (n : Network). n.species) (returns-clause-layout c) in
    let few : c.in_ok-network.network.species ≤ 65536 = c.in_ok-network.ensures.valid.limits.few_species in
    absurd (omega arith)
