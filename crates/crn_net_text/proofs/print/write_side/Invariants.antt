use Rattle.std.proofs.Common.{◌≡◌, ◌++◌, take, string_bytes}
use Rattle.std.specs.Prelude.{All}
use Rattle.crn_net.specs.Views.{parts_of}
use Rattle.crn_token.specs.Printed.{spelled}
use Rattle.crn_net_text.specs.NetworkText.{side_items, IsSmall}
use Rattle.crn_net_text.proofs.print.write_side.Given as goal

-- the parts so far, of small counts
abbrev pub invariant-loop-index : goal.invariant-loop-index
invariant-loop-index l = (string_bytes l.out ≡ string_bytes l.fn.out ++ spelled (side_items (parts_of (take l.index l.parts)))) × All IsSmall (parts_of (take l.index l.parts))
