use Rattle.std.proofs.Common.{ap, refl, subst}
use Rattle.crn_feasible.specs.Elimination.{kept_with}
use Rattle.crn_feasible.specs.Steps.{Takes, list_of}
use Rattle.crn_feasible.proofs.Own.{own_kept, own_made}
use Rattle.crn_feasible.proofs.rows.RowList.take_own.Goals as goal

pub take-requires-clause-made : goal.take-requires-clause-made
take-requires-clause-made c =
    own_made c.args.self.now.columns c.args.self.now.sources c.args.index c.args.row.now c.entries_of.result _ c.requires.columns c.requires.index c.entries_of.ensures.entries refl
    c.entries_of.ensures.columns c.entries_of.ensures.small

pub returns-clause-taken : goal.returns-clause-taken
returns-clause-taken c =
    let columns = c.args.self.now.columns in
    let sources = c.args.self.now.sources in
    subst (λ t. Takes c.take.result t c.take.new.self)
    (ap (kept_with (list_of c.args.self.now))
    (own_kept columns sources c.args.index c.args.row.now c.entries_of.result _ c.requires.columns c.requires.index c.entries_of.ensures.entries refl c.is_strict.result c.is_strict.ensures))
    c.take.ensures.taken
