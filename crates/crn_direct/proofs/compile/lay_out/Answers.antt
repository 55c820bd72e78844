use Rattle.std.proofs.Common.{◌∙◌, sym, subst, rules}
use Rattle.std.specs.Vec.Iter.{into_iter_items}
use Rattle.crn_gates.specs.Building.{AllFree}
use Rattle.crn_direct.proofs.Compiling.{uses_fit, copies_fit, first_enough, first_fits, left_free, left_enough, rest_nonnegative, all_is, network_is}
use Rattle.crn_direct.proofs.compile.lay_out.Goals as goal

pub fan_out_one-requires-clause-uses : goal.fan_out_one-requires-clause-uses
fan_out_one-requires-clause-uses c =
    uses_fit c.args.forms.now c.requires.forms c.requires.columns c.in_ok-builder.builder c.len-variables.result c.deref.result.now c.index-forms-0.result (search rules) (search rules) c.in_ok-builder.ensures.begun (c.deref.ensures.value ∙ c.in_ok-uses.ensures)

pub returns-in_err-builder-2-clause-too_large : goal.returns-in_err-builder-2-clause-too_large
returns-in_err-builder-2-clause-too_large c =
    let fit = copies_fit c.args.forms.now c.requires.forms c.requires.columns c.in_ok-builder.builder c.len-variables.result c.deref.result.now c.index-forms-0.result (search rules) (search rules) c.in_ok-builder.ensures.begun (c.deref.ensures.value ∙ c.in_ok-uses.ensures) in
    search rules

pub leaf-requires-clause-enough : goal.leaf-requires-clause-enough
leaf-requires-clause-enough c =
    first_enough c.args.forms.now c.requires.forms c.requires.columns c.in_ok-builder.builder c.len-variables.result c.deref.result.now c.index-forms-0-2.result (search rules) (search rules) c.in_ok-builder.ensures.begun (c.deref.ensures.value ∙ c.in_ok-uses.ensures)
    c.in_ok-builder-2.builder (into_iter_items c.into_iter-copies.result) c.in_ok-builder-2.ensures.network (c.into_iter-copies.ensures.rest ∙ c.in_ok-builder-2.ensures.copies)

pub returns-in_err-builder-3-clause-too_large : goal.returns-in_err-builder-3-clause-too_large
returns-in_err-builder-3-clause-too_large c =
    let fit = first_fits c.args.forms.now c.requires.forms c.requires.columns c.in_ok-builder.builder c.len-variables.result c.deref.result.now c.index-forms-0-2.result (search rules) (search rules) c.in_ok-builder.ensures.begun (c.deref.ensures.value ∙ c.in_ok-uses.ensures)
    c.in_ok-builder-2.builder (into_iter_items c.into_iter-copies.result) c.in_ok-builder-2.ensures.network (c.into_iter-copies.ensures.rest ∙ c.in_ok-builder-2.ensures.copies) in
    search rules

pub least-requires-clause-free : goal.least-requires-clause-free
least-requires-clause-free c =
    left_free c.args.forms.now c.requires.forms c.requires.columns c.in_ok-builder.builder c.len-variables.result c.deref.result.now c.index-forms-0-2.result (search rules) (search rules) c.in_ok-builder.ensures.begun (c.deref.ensures.value ∙ c.in_ok-uses.ensures)
    c.in_ok-builder-2.builder (into_iter_items c.into_iter-copies.result) c.in_ok-builder-2.ensures.network (c.into_iter-copies.ensures.rest ∙ c.in_ok-builder-2.ensures.copies)
    c.in_ok-builder-3.builder c.in_ok-builder-3.first (into_iter_items c.leaf.new.copies) c.in_ok-builder-3.ensures.network c.in_ok-builder-3.ensures.rail c.in_ok-builder-3.ensures.rest
    (subst (AllFree c.in_ok-builder-2.builder.built) (sym c.into_iter-copies.ensures.rest) c.in_ok-builder-2.ensures.rails.made)

pub least-requires-clause-enough : goal.least-requires-clause-enough
least-requires-clause-enough c =
    left_enough c.args.forms.now c.requires.forms c.requires.columns c.in_ok-builder.builder c.len-variables.result c.deref.result.now c.index-forms-0-2.result (search rules) (search rules) c.in_ok-builder.ensures.begun (c.deref.ensures.value ∙ c.in_ok-uses.ensures)
    c.in_ok-builder-2.builder (into_iter_items c.into_iter-copies.result) c.in_ok-builder-2.ensures.network (c.into_iter-copies.ensures.rest ∙ c.in_ok-builder-2.ensures.copies)
    c.in_ok-builder-3.builder c.in_ok-builder-3.first (into_iter_items c.leaf.new.copies) c.in_ok-builder-3.ensures.network c.in_ok-builder-3.ensures.rail c.in_ok-builder-3.ensures.rest

pub least-requires-clause-nonnegative : goal.least-requires-clause-nonnegative
least-requires-clause-nonnegative c =
    rest_nonnegative c.args.forms.now c.requires.forms c.requires.columns c.in_ok-builder.builder c.len-variables.result c.deref.result.now c.index-forms-0-2.result (search rules) (search rules) c.in_ok-builder.ensures.begun (c.deref.ensures.value ∙ c.in_ok-uses.ensures)
    c.in_ok-builder-2.builder (into_iter_items c.into_iter-copies.result) c.in_ok-builder-2.ensures.network (c.into_iter-copies.ensures.rest ∙ c.in_ok-builder-2.ensures.copies)
    c.in_ok-builder-3.builder c.in_ok-builder-3.first (into_iter_items c.leaf.new.copies) c.in_ok-builder-3.ensures.network c.in_ok-builder-3.ensures.rail c.in_ok-builder-3.ensures.rest

pub returns-in_err-builder-4-clause-too_large : goal.returns-in_err-builder-4-clause-too_large
returns-in_err-builder-4-clause-too_large c =
    let same = all_is c.args.forms.now c.requires.forms c.requires.columns c.in_ok-builder.builder c.len-variables.result c.deref.result.now c.index-forms-0-2.result (search rules) (search rules) c.in_ok-builder.ensures.begun (c.deref.ensures.value ∙ c.in_ok-uses.ensures)
    c.in_ok-builder-2.builder (into_iter_items c.into_iter-copies.result) c.in_ok-builder-2.ensures.network (c.into_iter-copies.ensures.rest ∙ c.in_ok-builder-2.ensures.copies)
    c.in_ok-builder-3.builder c.in_ok-builder-3.first (into_iter_items c.leaf.new.copies) c.in_ok-builder-3.ensures.network c.in_ok-builder-3.ensures.rail c.in_ok-builder-3.ensures.rest in
    search rules

pub returns-clause-layout : goal.returns-clause-layout
returns-clause-layout c =
    c.in_ok-network.ensures.network
    ∙ network_is c.args.forms.now c.requires.forms c.requires.columns c.in_ok-builder.builder c.len-variables.result c.deref.result.now c.index-forms-0-2.result (search rules) (search rules) c.in_ok-builder.ensures.begun (c.deref.ensures.value ∙ c.in_ok-uses.ensures)
    c.in_ok-builder-2.builder (into_iter_items c.into_iter-copies.result) c.in_ok-builder-2.ensures.network (c.into_iter-copies.ensures.rest ∙ c.in_ok-builder-2.ensures.copies)
    c.in_ok-builder-3.builder c.in_ok-builder-3.first (into_iter_items c.leaf.new.copies) c.in_ok-builder-3.ensures.network c.in_ok-builder-3.ensures.rail c.in_ok-builder-3.ensures.rest
    c.in_ok-builder-4.builder c.in_ok-builder-4.least c.in_ok-builder-4.ensures.network c.in_ok-builder-4.ensures.rail
