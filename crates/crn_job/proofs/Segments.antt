-- The test of a segment, and the flows that are one.
use Rattle.std.proofs.Common.{◌≡◌, ℕ, true, false, cond, ◌&&◌, List, [], ◌∷◌, ◌++◌, length, Some, None, refl, ap₂, subst, arith, lt-ltb, ltb-true}
use Rattle.std.proofs.lemmas.Bool.{and_parts}
use Rattle.std.specs.Prelude.{nat_lt}
use Rattle.std.proofs.lemmas.Option.{same_Some}
use Rattle.crn_net.specs.declared.Flow.{Flow}
use Rattle.crn_segments.specs.Flows.{AreAscending, IsSegment}
use Rattle.crn_segments.specs.Signs.{is_positive_ℚ}
use Rattle.crn_segments.proofs.SignLaws.{positive_is, is_positive}
use Rattle.crn_segments.specs.Steps.{AreSegments}
use Rattle.crn_segments.proofs.Runs.{segments_append}
use Rattle.crn_token.specs.Plain.{Plain}
use Rattle.crn_token.proofs.Options.{then_found, map_found, if_found}
use Rattle.crn_job.specs.Grammar.{ascend, is_segment, flows_of, segment_of, segments_with}

ascending : (low : ℕ) (fs : List Flow) → ascend low fs ≡ true → AreAscending low fs
ascending low [] is = tt
ascending low (f ∷ fs) is =
    let rest = (and_parts (nat_lt low f.reaction) (is_positive_ℚ f.flux && ascend f.reaction fs) is).1 in (
      ltb-true low f.reaction (and_parts (nat_lt low f.reaction) (is_positive_ℚ f.flux && ascend f.reaction fs) is).0,
      is_positive f.flux (and_parts (is_positive_ℚ f.flux) (ascend f.reaction fs) rest).0,
      ascending f.reaction fs (and_parts (is_positive_ℚ f.flux) (ascend f.reaction fs) rest).1,
    )

ascends : (low : ℕ) (fs : List Flow) → AreAscending low fs → ascend low fs ≡ true
ascends low [] are = refl
ascends low (f ∷ fs) are = ap₂ (λ a b. a && b) (lt-ltb low f.reaction are.0) (ap₂ (λ a b. a && b) (positive_is f.flux are.1) (ascends f.reaction fs are.2))

pub segment_is : (fs : List Flow) → is_segment fs ≡ true → IsSegment fs
segment_is [] is = let wrong : false ≡ true = is in cc
segment_is (f ∷ fs) is = record { some = omega arith; ascending = ascending 0 (f ∷ fs) is }

pub is_segment_of : (fs : List Flow) → IsSegment fs → is_segment fs ≡ true
is_segment_of [] is = absurd (omega (arith, is.some))
is_segment_of (f ∷ fs) is = ascends 0 (f ∷ fs) is.ascending

-- ---- the segments of segment lines

pub segment_found_is : (ts : List Plain) (u : List Flow) → segment_of ts ≡ Some u → IsSegment u
segment_found_is ts u is =
    let (fs, here, rest) = then_found (λ fs. cond (is_segment fs) (Some fs) None) (flows_of (length ts) ts) u is in
    let (test, same) = if_found (is_segment fs) (Some fs) u rest in
    subst IsSegment (same_Some fs u same) (segment_is fs test)

pub segments_are : (us vs : List (List Flow)) (ts : List Plain) → AreSegments us → segments_with us ts ≡ Some vs → AreSegments vs
segments_are us vs ts all is =
    let (u, here, same) = map_found (λ u. us ++ u ∷ []) (segment_of ts) vs is in
    subst AreSegments same (segments_append us (u ∷ []) all (segment_found_is ts u here, tt))
