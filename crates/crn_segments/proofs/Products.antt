-- What a flow changes of a species.
use Rattle.std.proofs.Common.{◌≡◌, ℕ, zero, suc, ◌+◌, ◌<◌, ◌≤◌, ◌||◌, nat_lt, Bool, List, [], ◌∷◌, length, get_or, drop, sym, ◌∙◌, ap, subst, arith}
use Rattle.std.proofs.lemmas.List.{drop_more}
use Rattle.std.proofs.lemmas.Int.{ints}
use Rattle.std.specs.Prelude.{ℤ, pos, ◌+ℤ◌, ◌-ℤ◌}
use Rattle.crn_fraction.proofs.Ring.{*ℚ_comm, whole-+ℤ, +ℚ--ℚ}
use Rattle.crn_fraction.specs.Rational.{ℚ, whole, ◌+ℚ◌, ◌-ℚ◌, ◌*ℚ◌}
use Rattle.crn_net.specs.Network.{Network, Reaction, AreFlows, count_of, numbered, taken, given}
use Rattle.crn_net.specs.Totals.{change}
use Rattle.crn_net.specs.declared.Flow.{Flow}
use Rattle.crn_segments.specs.Fits.{is_on_side}

pub dropped : (u : List Flow) (i : ℕ) (f : Flow) → i < length u → f ≡ get_or u i f → drop i u ≡ f ∷ drop (i + 1) u
dropped u i f l h = drop_more u i f l ∙ ap (λ x. x ∷ drop (i + 1) u) (sym h)

pub flow_exists : (n : ℕ) (u : List Flow) (i : ℕ) (f : Flow) → AreFlows n u → i < length u → f ≡ get_or u i f → (1 ≤ f.reaction) × (f.reaction ≤ n)
flow_exists n [] i f h l e = absurd (omega arith)
flow_exists n (g ∷ u) zero f h l e = (subst (λ x. 1 ≤ x.reaction) (sym e) h.0, subst (λ x. x.reaction ≤ n) (sym e) h.1)
flow_exists n (g ∷ u) (suc i) f h l e = flow_exists n u i f h.3 (omega arith) e

whole--ℤ : (a b : ℤ) → whole (a -ℤ b) ≡ whole a -ℚ whole b
whole--ℤ a b =
    let back : (a -ℤ b) +ℤ b ≡ a = omega (arith, ints) in
    let e : whole (a -ℤ b) +ℚ whole b ≡ whole a = sym (whole-+ℤ (a -ℤ b) b) ∙ ap whole back in
    sym (+ℚ--ℚ (whole (a -ℤ b)) (whole b)) ∙ ap (λ x. x -ℚ whole b) e

-- the product that the code makes is that of the flow
pub product_is : (net : Network) (r : Reaction) (s n : ℕ) (u : ℚ) (k : ℤ) → r ≡ numbered net.reactions n → k ≡ pos (count_of r.gives s) -ℤ pos (count_of r.takes s) →
    u *ℚ whole k ≡ change net s n *ℚ u
unfolding taken given
product_is net r s n u k e h =
    *ℚ_comm u (whole k) ∙ ap (λ x. x *ℚ u) (ap whole h ∙ whole--ℤ _ _ ∙ ap (λ x. whole (pos (count_of x.gives s)) -ℚ whole (pos (count_of x.takes s))) e)

-- whether species s is on a side of the reaction
abbrev pub is_in : Reaction → ℕ → Bool
is_in r s = nat_lt 0 (count_of r.takes s) || nat_lt 0 (count_of r.gives s)

pub same_side : (net : Network) (r : Reaction) (s n : ℕ) → r ≡ numbered net.reactions n → is_in r s ≡ is_on_side net n s
unfolding is_on_side taken given
same_side net r s n e = ap (λ x. is_in x s) e
