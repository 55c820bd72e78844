use Rattle.std.proofs.Common.{Err, ap}
use Rattle.crn_direct.proofs.Compiling.{only_memory, computes_as_layout}
use Rattle.crn_direct.proofs.compile.compile_direct.Goals as goal

pub want_of_memory-requires : goal.want_of_memory-requires
want_of_memory-requires c = only_memory c.args.forms.now c.in-Err.error c.requires.forms c.requires.few c.requires.columns (λ e. c.in-Err.ensures.too_large (ap Err e))

pub returns-in-Ok-clause-computes : goal.returns-in-Ok-clause-computes
returns-in-Ok-clause-computes c = computes_as_layout c.args.forms.now c.in-Ok.network c.requires.forms c.requires.columns c.in-Ok.ensures.layout
