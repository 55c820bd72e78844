use Rattle.std.proofs.Common.{◌≡◌, ◌++◌, take, map, string_bytes, length, [], ◌∷◌}
use Rattle.std.specs.Prelude.{codes, All}
use Rattle.crn_token.specs.Printed.{printed}
use Rattle.crn_net_text.specs.NetworkText.{count_line, reaction_items, IsSmallReaction}
use Rattle.crn_net_text.proofs.print.write_reactions.Given as goal

-- how many reactions there are, and the lines of those so far, of small counts
abbrev pub invariant-loop-index : goal.invariant-loop-index
invariant-loop-index l =
    (string_bytes l.out ≡ string_bytes l.fn.out ++ (printed (count_line (codes "reactions") (length l.network.reactions) ∷ []) ++ printed (map reaction_items (take l.index l.network.reactions))))
    × All IsSmallReaction (take l.index l.network.reactions)
