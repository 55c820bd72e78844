use Rattle.std.proofs.Common.{◌≡◌, ◌+◌, ◌<◌, ◌≤◌, ◌++◌, ◌∷◌, [], List, length, sym, ◌∙◌, ap, arith, length-append}
use Rattle.std.specs.Option.{option_map, option_map_or}
use Rattle.crn_token.specs.declared.Counted.TheVariants as counted
use Rattle.crn_grammar.specs.Table.{Read, Limited}
use Rattle.crn_net.specs.declared.Flow.{Flow}
use Rattle.crn_job.specs.Grammar.{segments_limit, most_segments}
use Rattle.crn_grammar.specs.Reading.{judged}
use Rattle.crn_job.proofs.Flows.{few_segments, many_segments}
use Rattle.crn_job.proofs.tail.push_segment.Goals as goal

pub returns-then-count-gt-MOST_SEGMENTS : goal.returns-then-count-gt-MOST_SEGMENTS
returns-then-count-gt-MOST_SEGMENTS c = λ bytes.
    let more : List (List Flow) = c.args.segments.now.items ++ c.in-Some.segment ∷ [] in
    let one = length-append c.args.segments.now.items (c.in-Some.segment ∷ []) in
    let many : most_segments < length more = omega (arith, one, c.args.segments.now.ok.0) in
    let count : length more ≡ c.len-count.result + 1 = omega (arith, one, c.args.segments.now.ok.0) in
    ap (λ o. judged segments_limit c.args.line (option_map (λ (u : List Flow). c.args.segments.now.items ++ u ∷ []) o)) (sym (sym c.in-Some.is ∙ c.in_ok-segment.ensures bytes))
    ∙ ap (λ l. option_map_or (λ what. Limited what) l (Read more)) (many_segments more many)
    ∙ ap (λ n. Limited (counted.Segments, n)) count

pub returns-in_ok-push-in-Some : goal.returns-in_ok-push-in-Some
returns-in_ok-push-in-Some c = λ bytes.
    let more : List (List Flow) = c.args.segments.now.items ++ c.in-Some.segment ∷ [] in
    let few : length more ≤ most_segments = omega (arith, length-append c.args.segments.now.items (c.in-Some.segment ∷ []), c.args.segments.now.ok.0) in
    ap (λ o. judged segments_limit c.args.line (option_map (λ (u : List Flow). c.args.segments.now.items ++ u ∷ []) o)) (sym (sym c.in-Some.is ∙ c.in_ok-segment.ensures bytes))
    ∙ ap (λ l. option_map_or (λ what. Limited what) l (Read more)) (few_segments more few)
    ∙ ap (λ (us : List (List Flow)). Read us) (sym c.in_ok-push-in-Some.ensures.items)

pub returns-in-None : goal.returns-in-None
returns-in-None c = λ bytes.
    ap (λ o. judged segments_limit c.args.line (option_map (λ (u : List Flow). c.args.segments.now.items ++ u ∷ []) o)) (sym (sym c.in-None.is ∙ c.in_ok-segment.ensures bytes))
