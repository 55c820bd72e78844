-- The answer to a run job by the answers to its parts, and that each place of a run job can end.
use Rattle.std.proofs.Common.{◌≡◌, ℕ, zero, suc, true, List, [], drop, length, Option, Some, None, refl, sym, ◌∙◌, ap, subst}
use Rattle.std.proofs.Math.Seq.{drop-append_seam}
use Rattle.crn_token.specs.Plain.{PlainLine, plain_lines, line_number, end_of}
use Rattle.crn_grammar.specs.declared.error.TextError.{TextError}
use Rattle.crn_grammar.specs.Table.{CanEnd}
use Rattle.crn_grammar.specs.Part.{Ends, IsPart}
use Rattle.crn_grammar.specs.Reading.{Refuses, RefusesPart}
use Rattle.crn_net.specs.Network.{Network}
use Rattle.crn_net_text.specs.Grammar.{Place, Start, Titled, Naming, Placed, Closed, Listing, next, network_table, goes_on, part_of_lines}
use Rattle.crn_net_text.proofs.Kept.{network_can_end}
use Rattle.crn_grammar.specs.Followed.{answer_map}
use Rattle.crn_job.specs.Reading.{BeginsWithNetwork}
use Rattle.crn_job.specs.RunGrammar.{RunTail, RunValue, run_start, run_tail_table, run_tail, run_tail_answer, run_with, run_table, run_answer, state_given}
use Rattle.crn_grammar.proofs.FollowedLaws.{followed_on, followed_is, followed_refused, followed_can_end, Stops}

-- ---- the answer
-- the answer to a run job, by that to its network part
run_is : (bytes : List ℕ) (lines : List PlainLine) → lines ≡ plain_lines bytes → run_answer bytes ≡ followed_on network_table goes_on run_tail run_with line_number (end_of bytes) (part_of_lines bytes lines)
run_is bytes lines is =
    followed_is network_table goes_on run_tail run_with line_number (end_of bytes) Start (plain_lines bytes)
    ∙ ap (λ ls. followed_on network_table goes_on run_tail run_with line_number (end_of bytes) (part_of_lines bytes ls)) (sym is)

pub run_read : (bytes : List ℕ) (lines left : List PlainLine) (net : Network) → lines ≡ plain_lines bytes → part_of_lines bytes lines ≡ Ends net left → run_answer bytes ≡ answer_map (run_with net) (run_tail_answer net.species bytes left)
run_read bytes lines left net whole is = run_is bytes lines whole ∙ ap (followed_on network_table goes_on run_tail run_with line_number (end_of bytes)) is

pub run_refused : (bytes : List ℕ) (lines : List PlainLine) (e : TextError) → lines ≡ plain_lines bytes → RefusesPart e (part_of_lines bytes lines) → Refuses e (run_answer bytes)
run_refused bytes lines e whole is =
    subst (Refuses e) (sym (run_is bytes lines whole)) (followed_refused network_table goes_on run_tail run_with line_number (end_of bytes) e (part_of_lines bytes lines) is)

-- a text whose lines are a network part and then others begins with the network
pub begins_with : (bytes : List ℕ) (lines left : List PlainLine) (net : Network) → lines ≡ plain_lines bytes → part_of_lines bytes lines ≡ Ends net left → IsPart network_table goes_on lines net left → BeginsWithNetwork bytes net
begins_with bytes lines left net whole is part =
    let left_is : left ≡ drop (length part.part) (plain_lines bytes) = sym (drop-append_seam part.part left) ∙ ap (drop (length part.part)) (sym part.lines_are ∙ whole) in
    (length part.part, ap (part_of_lines bytes) (sym whole) ∙ is ∙ ap (Ends net) left_is)

-- ---- each place can end
-- lines of the network part are lines of the run job
goes_where_allowed : (s : Place) (line : PlainLine) (t : Place) → next s line ≡ Some t → goes_on s line ≡ true
goes_where_allowed Start line t is = refl
goes_where_allowed (Titled rails two) line t is = refl
goes_where_allowed (Naming rails two n inputs) line t is = refl
goes_where_allowed (Placed rails n inputs k) line t is = refl
goes_where_allowed (Closed net) line t is = refl
goes_where_allowed (Listing zero net) line t is = let wrong : ◌≡◌ {A = Option Place} None (Some t) = is in cc
goes_where_allowed (Listing (suc m) net) line t is = refl

-- a run job may end wherever its network part is whole, and after each line then
abbrev value_of : RunTail → RunValue
value_of t = record { state = state_given t.species t.amounts; segments = t.segments }

stops : (n : ℕ) (t : RunTail) → Stops (run_tail_table n) t
stops n t = ([], t, value_of t, refl, refl)

pub run_places_can_end : CanEnd run_table
run_places_can_end =
    followed_can_end network_table goes_on run_tail run_with network_can_end goes_where_allowed (λ net lines t there. stops net.species t)
    (λ s net is. ([], run_start net.species, value_of (run_start net.species), refl, refl, tt))
