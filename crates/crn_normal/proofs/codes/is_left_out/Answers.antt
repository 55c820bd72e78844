use Rattle.std.proofs.Common.{List, ℕ, sym, ap, ◌∙◌}
use Rattle.std.specs.List.{list_all}
use Rattle.crn_normal.specs.Residues.{are_apart}
use Rattle.crn_normal.proofs.Residues.{none_within, none_wider}
use Rattle.crn_normal.proofs.codes.is_left_out.Goals as goal

pub returns-then-all_are_apart-clause-out : goal.returns-then-all_are_apart-clause-out
returns-then-all_are_apart-clause-out c =
    sym (none_within c.args.sets.now.items c.args.set.now
    (ap (list_all (λ S. are_apart S c.args.set.now)) (sym c.deref.ensures.value) ∙ sym c.all_are_apart.ensures ∙ c.if-all_are_apart.true))

pub returns-then-all_are_apart-clause-rest : goal.returns-then-all_are_apart-clause-rest
returns-then-all_are_apart-clause-rest c = λ e.
    sym (none_wider c.args.sets.now.items c.args.set.now
    (ap (list_all (λ S. are_apart S c.args.set.now)) (sym c.deref.ensures.value) ∙ sym c.all_are_apart.ensures ∙ c.if-all_are_apart.true))
