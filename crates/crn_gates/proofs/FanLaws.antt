-- What fanning out makes.
use Rattle.std.proofs.Common.{◌≡◌, ◌≢◌, ℕ, zero, suc, ◌+◌, ◌<◌, ◌≤◌, ◌==◌, if◌then◌else◌, List, [], ◌∷◌, ◌++◌, length, get_or, refl, sym, ◌∙◌, ap, ap₂, subst, ◌⊎◌, inl, inr, ⊎_elim, eq-or-lt_of_le, arith, zero-add}
use Rattle.std.specs.Prelude.{pos}
use Rattle.std.proofs.lemmas.Bool.{cases_eq, eq-eqb, ne_eqb}
use Rattle.crn_fraction.proofs.Products.{/ℚ-one}
use Rattle.crn_fraction.proofs.Ring.{one-*ℚ, +ℚ-zero, zero-*ℚ}
use Rattle.crn_fraction.specs.Rational.{ℚ, ◌+ℚ◌, ◌*ℚ◌, whole}
use Rattle.crn_gates.proofs.GateLaws.{FeedsForward-append, taken_all-append, given_all-append}
use Rattle.crn_gates.proofs.Lists.{EachGiven-append, EachReaction-append}
use Rattle.crn_gates.proofs.Stamping.{EachTaken-append}
use Rattle.crn_gates.specs.Building.{IsSound, IsFree}
use Rattle.crn_gates.specs.FanOut.{copies_of, fan, fans, fanned}
use Rattle.crn_gates.specs.Gates.{one}
use Rattle.crn_net.proofs.Made.{made_by-append}
use Rattle.crn_net.specs.Network.{Part, count_of, AreParts}
use Rattle.crn_net.specs.Reactions.{Each, EachTaken, EachGiven, IsLeftAlone, FeedsForward, EachReaction}
use Rattle.crn_net.specs.Totals.{made_by}
use Rattle.crn_net.proofs.Shape.{if_same, if_other}

-- 1 where the numbers are the same
abbrev hit : ℕ → ℕ → ℕ
hit a b = if a == b then 1 else 0

-- the two cases of a copy
copies_step : (rail r : ℕ) (rs : List ℕ) (n : ℕ) →
    ((r ≡ rail) × (copies_of rail (r ∷ rs) n ≡ one (suc n) ∷ copies_of rail rs (suc n)))
    ⊎ ((r ≢ rail) × (copies_of rail (r ∷ rs) n ≡ copies_of rail rs (suc n)))
copies_step rail r rs n =
    ⊎_elim (λ (e : r ≡ rail). inl (e, ap (λ b. if b then one (suc n) ∷ copies_of rail rs (suc n) else copies_of rail rs (suc n)) (eq-eqb r rail e)))
    (λ (h : r ≢ rail). inr (h, ap (λ b. if b then one (suc n) ∷ copies_of rail rs (suc n) else copies_of rail rs (suc n)) (ne_eqb r rail h)))
    (cases_eq r rail)

-- copies stand in order after n
pub copies_are_parts : (rail : ℕ) (rs : List ℕ) (n low top : ℕ) → low ≤ n → n + length rs ≤ top → AreParts low top (copies_of rail rs n)
copies_are_parts rail [] n low top l h = tt
copies_are_parts rail (r ∷ rs) n low top l h =
    ⊎_elim (λ (c : (r ≡ rail) × (copies_of rail (r ∷ rs) n ≡ one (suc n) ∷ copies_of rail rs (suc n))).
    subst (AreParts low top) (sym c.1) (omega arith, omega arith, omega arith, copies_are_parts rail rs (suc n) (suc n) top (omega arith) (omega arith)))
    (λ (c : (r ≢ rail) × (copies_of rail (r ∷ rs) n ≡ copies_of rail rs (suc n))).
    subst (AreParts low top) (sym c.1) (copies_are_parts rail rs (suc n) low top (omega arith) (omega arith)))
    (copies_step rail r rs n)

-- copies of a rail stand above n
pub copies_low : (rail : ℕ) (rs : List ℕ) (n s : ℕ) → s ≤ n → count_of (copies_of rail rs n) s ≡ 0
copies_low rail [] n s l = refl
copies_low rail (r ∷ rs) n s l =
    let rest : count_of (copies_of rail rs (suc n)) s ≡ 0 = copies_low rail rs (suc n) s (omega arith) in
    ⊎_elim (λ (c : (r ≡ rail) × (copies_of rail (r ∷ rs) n ≡ one (suc n) ∷ copies_of rail rs (suc n))).
    ap (λ ps. count_of ps s) c.1 ∙ ap₂ (λ x y. x + y) (if_other (suc n) s 1 (omega arith)) rest)
    (λ (c : (r ≢ rail) × (copies_of rail (r ∷ rs) n ≡ copies_of rail rs (suc n))). ap (λ ps. count_of ps s) c.1 ∙ rest)
    (copies_step rail r rs n)

-- copy i is of the rail that stands at i
pub copies_at : (rail : ℕ) (rs : List ℕ) (n i : ℕ) → i < length rs → count_of (copies_of rail rs n) (suc (n + i)) ≡ hit (get_or rs i 0) rail
copies_at rail [] n i l = absurd (omega arith)
copies_at rail (r ∷ rs) n zero l =
    let rest : count_of (copies_of rail rs (suc n)) (suc (n + 0)) ≡ 0 = copies_low rail rs (suc n) (suc (n + 0)) (omega arith) in
    ⊎_elim (λ (c : (r ≡ rail) × (copies_of rail (r ∷ rs) n ≡ one (suc n) ∷ copies_of rail rs (suc n))).
    ap (λ ps. count_of ps (suc (n + 0))) c.1 ∙ ap₂ (λ x y. x + y) (if_same (suc n) (suc (n + 0)) 1 (omega arith)) rest ∙ sym (if_same r rail 1 c.0))
    (λ (c : (r ≢ rail) × (copies_of rail (r ∷ rs) n ≡ copies_of rail rs (suc n))). ap (λ ps. count_of ps (suc (n + 0))) c.1 ∙ rest ∙ sym (if_other r rail 1 c.0))
    (copies_step rail r rs n)
copies_at rail (r ∷ rs) n (suc i) l =
    let move : suc (n + suc i) ≡ suc (suc n + i) = omega arith in
    let rest : count_of (copies_of rail rs (suc n)) (suc (n + suc i)) ≡ hit (get_or rs i 0) rail =
    ap (λ s. count_of (copies_of rail rs (suc n)) s) move ∙ copies_at rail rs (suc n) i (omega arith) in
    ⊎_elim (λ (c : (r ≡ rail) × (copies_of rail (r ∷ rs) n ≡ one (suc n) ∷ copies_of rail rs (suc n))).
    ap (λ ps. count_of ps (suc (n + suc i))) c.1 ∙ ap₂ (λ x y. x + y) (if_other (suc n) (suc (n + suc i)) 1 (omega arith)) rest ∙ zero-add _)
    (λ (c : (r ≢ rail) × (copies_of rail (r ∷ rs) n ≡ copies_of rail rs (suc n))). ap (λ ps. count_of ps (suc (n + suc i))) c.1 ∙ rest)
    (copies_step rail r rs n)

-- one rail
fan_makes : (rail : ℕ) (gs : List Part) (m : ℕ → ℚ) (s : ℕ) → made_by (fan rail gs) m s ≡ m s +ℚ whole (pos (count_of gs s)) *ℚ m rail
fan_makes rail [] m s = sym (ap (λ x. m s +ℚ x) (zero-*ℚ _) ∙ +ℚ-zero _)
fan_makes rail (c ∷ cs) m s = ap (λ x. m s +ℚ whole (pos (count_of (c ∷ cs) s)) *ℚ x) (/ℚ-one (m rail))

-- a species that is no copy of the rail keeps what it has
fan_left : (rail : ℕ) (gs : List Part) (m : ℕ → ℚ) (s : ℕ) → count_of gs s ≡ 0 → made_by (fan rail gs) m s ≡ m s
fan_left rail gs m s e = fan_makes rail gs m s ∙ ap (λ k. m s +ℚ whole (pos k) *ℚ m rail) e ∙ ap (λ x. m s +ℚ x) (zero-*ℚ _) ∙ +ℚ-zero _

module _ (rs : List ℕ) (n : ℕ) where
  -- a species up to n keeps what it has
  pub fans_low : (rail j : ℕ) (m : ℕ → ℚ) (s : ℕ) → s ≤ n → made_by (fans rail j rs n) m s ≡ m s
  fans_low rail zero m s l = refl
  fans_low rail (suc j) m s l =
      ap (λ f. f s) (made_by-append (fan rail (copies_of rail rs n)) _ m) ∙ fans_low (suc rail) j _ s l ∙ fan_left rail _ m s (copies_low rail rs n s l)

  -- a copy of a rail that is not among these
  fans_other : (rail j : ℕ) (m : ℕ → ℚ) (i : ℕ) → i < length rs → get_or rs i 0 < rail → made_by (fans rail j rs n) m (suc (n + i)) ≡ m (suc (n + i))
  fans_other rail zero m i l h = refl
  fans_other rail (suc j) m i l h =
      ap (λ f. f (suc (n + i))) (made_by-append (fan rail (copies_of rail rs n)) _ m) ∙ fans_other (suc rail) j _ i l (omega arith)
      ∙ fan_left rail _ m (suc (n + i)) (copies_at rail rs n i l ∙ if_other (get_or rs i 0) rail 1 (omega arith))

  -- a copy gets what its rail has
  pub fans_make : (rail j : ℕ) (m : ℕ → ℚ) (i : ℕ) → i < length rs → rail ≤ get_or rs i 0 → get_or rs i 0 < rail + j → get_or rs i 0 ≤ n →
      made_by (fans rail j rs n) m (suc (n + i)) ≡ m (suc (n + i)) +ℚ m (get_or rs i 0)
  fans_make rail zero m i l low high inside = absurd (omega arith)
  fans_make rail (suc j) m i l low high inside =
      let r : ℕ = get_or rs i 0 in
      let gs : List Part = copies_of rail rs n in
      ap (λ f. f (suc (n + i))) (made_by-append (fan rail gs) _ m)
      ∙ ⊎_elim (λ (e : rail ≡ r).
      fans_other (suc rail) j _ i l (omega arith)
      ∙ fan_makes rail gs m (suc (n + i)) ∙ ap (λ k. m (suc (n + i)) +ℚ whole (pos k) *ℚ m rail) (copies_at rail rs n i l ∙ if_same r rail 1 (sym e))
      ∙ ap (λ x. m (suc (n + i)) +ℚ x) (one-*ℚ _ ∙ ap m e))
      (λ (k : rail < r).
      fans_make (suc rail) j (made_by (fan rail gs) m) i l (omega arith) (omega arith) inside
      ∙ ap₂ (λ x y. x +ℚ y) (fan_left rail gs m (suc (n + i)) (copies_at rail rs n i l ∙ if_other r rail 1 (omega arith))) (fan_left rail gs m r (copies_low rail rs n r inside)))
      (eq-or-lt_of_le low)

-- ---- fanning out feeds forward

-- parts up to top are up to top, one by one
parts_each : (low top : ℕ) (ps : List Part) → AreParts low top ps → Each (λ s. s ≤ top) ps
parts_each low top [] h = tt
parts_each low top (p ∷ ps) h = (h.1, parts_each p.species top ps h.3)

-- one rail gives its copies
fan_given : (P : ℕ → Type 0) (rail : ℕ) (gs : List Part) → Each P gs → EachGiven P (fan rail gs)
fan_given P rail [] h = tt
fan_given P rail (c ∷ cs) h = (h, tt)

-- one rail is taken
fan_taken : (P : ℕ → Type 0) (rail : ℕ) (gs : List Part) → P rail → EachTaken P (fan rail gs)
fan_taken P rail [] h = tt
fan_taken P rail (c ∷ cs) h = ((h, tt), tt)

-- its reaction is well formed
fan_each : (top rail : ℕ) (gs : List Part) → 1 ≤ rail → rail ≤ top → AreParts 0 top gs → EachReaction top (fan rail gs)
fan_each top rail [] low high h = tt
fan_each top rail (c ∷ cs) low high h = (record { some_reactant = omega arith; takes = (omega arith, high, omega arith, tt); gives = h }, tt)

-- and feeds forward
fan_feeds : (rail : ℕ) (gs : List Part) → count_of gs rail ≡ 0 → FeedsForward (fan rail gs)
fan_feeds rail [] h = tt
fan_feeds rail (c ∷ cs) h = ((h, tt), ((refl, refl), tt), tt)

-- it leaves alone what is neither the rail nor a copy of it
fan_alone : (rail : ℕ) (gs : List Part) (s : ℕ) → s ≢ rail → count_of gs s ≡ 0 → IsLeftAlone (fan rail gs) s
fan_alone rail [] s h e = (refl, refl)
fan_alone rail (c ∷ cs) s h e = (ap (λ k. k + 0 + 0) (if_other rail s 1 (λ x. h (sym x))), ap (λ k. k + 0) e)

module _ (rs : List ℕ) (n : ℕ) where
  -- a smaller rail is left alone by the later ones
  fans_alone : (rail j s : ℕ) → s < rail → s ≤ n → IsLeftAlone (fans rail j rs n) s
  fans_alone rail zero s l h = (refl, refl)
  fans_alone rail (suc j) s l h =
      let this : IsLeftAlone (fan rail (copies_of rail rs n)) s = fan_alone rail _ s (omega arith) (copies_low rail rs n s h) in
      let rest : IsLeftAlone (fans (suc rail) j rs n) s = fans_alone (suc rail) j s (omega arith) h in
      (taken_all-append (fan rail (copies_of rail rs n)) _ s ∙ ap₂ (λ x y. x + y) this.0 rest.0, given_all-append (fan rail (copies_of rail rs n)) _ s ∙ ap₂ (λ x y. x + y) this.1 rest.1)

  -- fanning out feeds forward
  pub fans_feed : (rail j : ℕ) → rail + j ≤ suc n → FeedsForward (fans rail j rs n)
  fans_feed rail zero l = tt
  fans_feed rail (suc j) l =
      FeedsForward-append (fan rail (copies_of rail rs n)) _ (fan_feeds rail _ (copies_low rail rs n rail (omega arith))) (fans_feed (suc rail) j (omega arith))
      (fan_taken (IsLeftAlone (fans (suc rail) j rs n)) rail _ (fans_alone (suc rail) j rail (omega arith) (omega arith)))

  -- it gives species up to the last copy
  pub fans_given : (top rail j : ℕ) → n + length rs ≤ top → EachGiven (λ s. s ≤ top) (fans rail j rs n)
  fans_given top rail zero l = tt
  fans_given top rail (suc j) l =
      EachGiven-append (λ s. s ≤ top) (fan rail (copies_of rail rs n)) _ (fan_given (λ s. s ≤ top) rail _ (parts_each 0 top _ (copies_are_parts rail rs n 0 top (omega arith) l))) (fans_given top (suc rail) j l)

  -- it takes the rails alone
  pub fans_taken : (P : ℕ → Type 0) (rail j : ℕ) → ((r : ℕ) → rail ≤ r → r < rail + j → P r) → EachTaken P (fans rail j rs n)
  fans_taken P rail zero h = tt
  fans_taken P rail (suc j) h =
      EachTaken-append P (fan rail (copies_of rail rs n)) _ (fan_taken P rail _ (h rail (omega arith) (omega arith))) (fans_taken P (suc rail) j (λ r l k. h r (omega arith) (omega arith)))

  -- its reactions are well formed
  pub fans_each : (top rail j : ℕ) → 1 ≤ rail → rail + j ≤ suc top → n + length rs ≤ top → EachReaction top (fans rail j rs n)
  fans_each top rail zero low high l = tt
  fans_each top rail (suc j) low high l =
      EachReaction-append top (fan rail (copies_of rail rs n)) _ (fan_each top rail _ low (omega arith) (copies_are_parts rail rs n 0 top (omega arith) l)) (fans_each top (suc rail) j (omega arith) (omega arith) l)

-- a fan-out is a sound network
pub fanned_sound : (n : ℕ) (rs : List ℕ) → IsSound (fanned n rs)
fanned_sound n rs = record {
  feeds = fans_feed rs n 1 n (omega arith);
  takes = fans_taken rs n (λ s. s ≤ n + length rs) 1 n (λ r l h. omega arith);
  gives = fans_given rs n (n + length rs) 1 n (omega arith);
  each = fans_each rs n (n + length rs) 1 n (omega arith) (omega arith) (omega arith);
}

-- the copies are free
pub copies_free : (n : ℕ) (rs : List ℕ) (i : ℕ) → i < length rs → IsFree (fanned n rs) (suc (n + i))
copies_free n rs i l = record { low = omega arith; high = omega arith; untaken = fans_taken rs n (λ s. s ≢ suc (n + i)) 1 n (λ r l h. omega arith) }

-- ---- the rails of copies

-- an element of the first of two lists
pub get_or-front : (xs ys : List ℕ) (i : ℕ) → i < length xs → get_or (xs ++ ys) i 0 ≡ get_or xs i 0
get_or-front [] ys i h = absurd (omega arith)
get_or-front (x ∷ xs) ys zero h = refl
get_or-front (x ∷ xs) ys (suc i) h = get_or-front xs ys i (omega arith)

-- an element of the second
pub get_or-back : (xs ys : List ℕ) (i : ℕ) → get_or (xs ++ ys) (length xs + i) 0 ≡ get_or ys i 0
get_or-back [] ys i = ap (λ k. get_or ys k 0) (zero-add i)
get_or-back (x ∷ xs) ys i = ap (λ k. get_or (x ∷ (xs ++ ys)) k 0) (next (length xs) i) ∙ get_or-back xs ys i
  where
    next : (n i : ℕ) → suc n + i ≡ suc (n + i)
    next n i = omega arith

-- each rail is one of the first k
abbrev pub InputRails : ℕ → List ℕ → Type 0
InputRails k rs = (i : ℕ) → i < length rs → (1 ≤ get_or rs i 0) × (get_or rs i 0 ≤ k)

-- two lists of such rails, one after the other
pub both_inputs : (k : ℕ) (xs ys : List ℕ) → InputRails k xs → InputRails k ys → InputRails k (xs ++ ys)
both_inputs k [] ys h h' i l = h' i l
both_inputs k (x ∷ xs) ys h h' zero l = h 0 (omega arith)
both_inputs k (x ∷ xs) ys h h' (suc i) l = both_inputs k xs ys (λ j b. h (suc j) (omega arith)) h' i (omega arith)
