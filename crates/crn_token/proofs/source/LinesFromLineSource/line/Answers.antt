use Rattle.std.proofs.Common.{◌<◌, ◌≤◌, ◌∷◌, length, arith, ◌∙◌, sym, ap, drop-drop}
use Rattle.crn_token.specs.Plain.{plain_line, plain_lines}
use Rattle.crn_token.proofs.LineLaws.{line_at, past_lines}
use Rattle.crn_token.proofs.source.LinesFromLineSource.line.Goals as goal

pub returns-then-self-len : goal.returns-then-self-len
returns-then-self-len c =
    let s = c.self.inside in
    let within : s.index < length s.lines.now.lines.items = omega arith in
    let lines = plain_lines s.bytes.now in
    rw (← c.self.view_is) (line_at s.bytes.now s.lines.now s.index c.index.result.now c.self.invariant.0 within c.index.ensures
    ∙ ap (λ l. plain_line s.bytes.now c.index.result.now ∷ l) (sym (drop-drop 1 s.index lines)))

pub returns-else-self-len : goal.returns-else-self-len
returns-else-self-len c =
    let s = c.self.inside in
    let past : length s.lines.now.lines.items ≤ s.index = omega arith in
    rw (← c.self.view_is) (past_lines s.bytes.now s.lines.now s.index c.self.invariant.0 past)
