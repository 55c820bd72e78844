-- How the table of takers is made: counts, their sums, and the entries of each species in their place.
use Rattle.std.proofs.Common.{◌≡◌, ◌≢◌, ℕ, zero, suc, ◌+◌, ◌-◌, ◌<◌, ◌≤◌, ◌^◌, ◌==◌, if◌then◌else◌, Bool, true, false, List, [], ◌∷◌, ◌++◌, length, get_or, set, take, drop, refl, sym, ◌∙◌, ap, ap₂, subst, ◌⊎◌, ⊎_elim, arith, add-one, length-append, append-nil, length-drop}
use Rattle.std.proofs.lemmas.Bool.Decides.{nat_tests}
use Rattle.std.proofs.lemmas.Grind.{get_or_default_zero, get_or-set_at}
use Rattle.std.proofs.Math.ListN.{get_or-append}
use Rattle.std.proofs.Math.Seq.{get_or-append_seam, take-suc}
use Rattle.std.proofs.lemmas.List.{get_or-set_same, get_or-set_other, length-set, take-append-drop, ext_get_or, get_or-take, get_or-drop, length-take, take_all}
use Rattle.std.specs.Prelude.{filter, nat_lt}
use Rattle.std.specs.List.{range_with_len}
use Rattle.std.proofs.lemmas.Bool.{cases_eq, eq-eqb, ne_eqb}
use Rattle.crn_net.proofs.Shape.{count_of_other}
use Rattle.crn_net.specs.Network.{Network, Reaction, Part, IsReaction, AreReactions, AreParts, count_of, taken}
use Rattle.crn_net.specs.Reactions.{EachReaction}
use Rattle.crn_net.specs.Takers.{takers_of, entries_of, entries_from, numbers_of, sum_upto, start_of, AreEntries, IsTable}
use Rattle.crn_net.specs.declared.takers.Entry.{Entry}

-- ---- the entries of a species

-- an entry of the species
hit : (s : ℕ) (e : Entry) (es : List Entry) → e.species ≡ s → numbers_of s (e ∷ es) ≡ e.reaction ∷ numbers_of s es
hit s e es h = ap (λ b. if b then e.reaction ∷ numbers_of s es else numbers_of s es) (eq-eqb e.species s h)

-- one of another
miss : (s : ℕ) (e : Entry) (es : List Entry) → e.species ≢ s → numbers_of s (e ∷ es) ≡ numbers_of s es
miss s e es h = ap (λ b. if b then e.reaction ∷ numbers_of s es else numbers_of s es) (ne_eqb e.species s h)

-- the entries from i on are the next one and those after it
next_entry : (es : List Entry) (i : ℕ) (d : Entry) → i < length es → drop i es ≡ get_or es i d ∷ drop (suc i) es
next_entry [] i d l = absurd (omega arith)
next_entry (e ∷ es) zero d l = refl
next_entry (e ∷ es) (suc i) d l = next_entry es i d (omega arith)

module _ (es : List Entry) (i : ℕ) (d : Entry) (l : i < length es) where
  next : drop i es ≡ get_or es i d ∷ drop (i + 1) es
  next = rw add-one (next_entry es i d l)

  -- its species has one more
  pub count_hit : (s : ℕ) → (get_or es i d).species ≡ s → length (numbers_of s (drop i es)) ≡ suc (length (numbers_of s (drop (i + 1) es)))
  count_hit s h = ap (λ v. length (numbers_of s v)) next ∙ ap length (hit s (get_or es i d) (drop (i + 1) es) h)

  -- the others have as many
  pub count_miss : (s : ℕ) → (get_or es i d).species ≢ s → length (numbers_of s (drop i es)) ≡ length (numbers_of s (drop (i + 1) es))
  count_miss s h = ap (λ v. length (numbers_of s v)) next ∙ ap length (miss s (get_or es i d) (drop (i + 1) es) h)

  -- and it is of a species that is there
  pub entry_range : (n : ℕ) → AreEntries n (drop i es) → (1 ≤ (get_or es i d).species) × ((get_or es i d).species ≤ n) × AreEntries n (drop (i + 1) es)
  entry_range n h = subst (AreEntries n) next h

-- a species has no more entries than there are
pub numbers_few : (s : ℕ) (es : List Entry) → length (numbers_of s es) ≤ length es
numbers_few s [] = omega arith
numbers_few s (e ∷ es) =
    ⊎_elim (λ (h : e.species ≡ s). omega (arith, ap length (hit s e es h), numbers_few s es)) (λ (h : e.species ≢ s). omega (arith, ap length (miss s e es h), numbers_few s es)) (cases_eq e.species s)

-- ---- sums

pub sum_step : (f : ℕ → ℕ) (s : ℕ) → 1 ≤ s → sum_upto f s ≡ sum_upto f (s - 1) + f s
sum_step f zero h = absurd (omega arith)
sum_step f (suc n) h = let e : n ≡ suc n - 1 = omega arith in ap (λ k. sum_upto f k + f (suc n)) e

pub sum_same : (f g : ℕ → ℕ) (n : ℕ) → ((k : ℕ) → k ≤ n → f k ≡ g k) → sum_upto f n ≡ sum_upto g n
sum_same f g zero h = h 0 (omega arith)
sum_same f g (suc n) h = ap₂ (λ x y. x + y) (sum_same f g n (λ k l. h k (omega arith))) (h (suc n) (omega arith))

-- a longer sum is as large
sum_longer : (f : ℕ → ℕ) (n k : ℕ) → sum_upto f n ≤ sum_upto f (n + k)
sum_longer f n zero = let e : sum_upto f n ≡ sum_upto f (n + 0) = (let i : n ≡ n + 0 = omega arith in ap (sum_upto f) i) in omega arith
sum_longer f n (suc k) =
    let e : sum_upto f (n + suc k) ≡ sum_upto f (n + k) + f (suc (n + k)) = (let i : n + suc k ≡ suc (n + k) = omega arith in ap (sum_upto f) i) in
    omega (arith, sum_longer f n k)

pub sum_grows : (f : ℕ → ℕ) (a b : ℕ) → a ≤ b → sum_upto f a ≤ sum_upto f b
sum_grows f a b h = let e : a + (b - a) ≡ b = omega arith in subst (λ k. sum_upto f a ≤ sum_upto f k) e (sum_longer f a (b - a))

-- an entry adds at most one to the sum of the counts
sum_over : (e : Entry) (es : List Entry) (n : ℕ) → n < e.species → start_of (e ∷ es) n ≡ start_of es n
sum_over e es n h = sum_same _ _ n (λ k l. let other : e.species ≢ k = omega arith in ap length (miss k e es other))

sum_hit : (e : Entry) (es : List Entry) (n : ℕ) → start_of (e ∷ es) n ≤ suc (start_of es n)
sum_hit e es zero =
    ⊎_elim (λ (h : e.species ≡ 0). omega (arith, ap length (hit 0 e es h))) (λ (h : e.species ≢ 0). omega (arith, ap length (miss 0 e es h))) (cases_eq e.species 0)
sum_hit e es (suc n) =
    ⊎_elim (λ (h : e.species ≡ suc n). let before : start_of (e ∷ es) n ≡ start_of es n = sum_over e es n (omega arith) in omega (arith, ap length (hit (suc n) e es h)))
    (λ (h : e.species ≢ suc n). omega (arith, sum_hit e es n, ap length (miss (suc n) e es h))) (cases_eq e.species (suc n))

start_none : (n : ℕ) → start_of [] n ≡ 0
start_none zero = refl
start_none (suc n) = let e : start_of [] n ≡ 0 = start_none n in omega arith

-- the entries of some species are no more than all
pub starts_few : (es : List Entry) (n : ℕ) → start_of es n ≤ length es
starts_few [] n = let e : start_of [] n ≡ 0 = start_none n in omega arith
starts_few (e ∷ es) n = omega (arith, sum_hit e es n, starts_few es n)

-- species 0 has none
pub none_of_zero : (n : ℕ) (es : List Entry) → AreEntries n es → numbers_of 0 es ≡ []
none_of_zero n [] h = refl
none_of_zero n (e ∷ es) h = let other : e.species ≢ 0 = omega (arith, h.0) in miss 0 e es other ∙ none_of_zero n es h.2

-- ---- the loops of counts and sums

module _ (n : ℕ) (cs : List ℕ) (es : List Entry) (i : ℕ) (d : Entry) (x : ℕ) (l : i < length es) (long : length cs ≡ n + 1) (range : AreEntries n (drop i es))
    (counted : (s : ℕ) → s ≤ n → get_or cs s 0 + length (numbers_of s (drop i es)) ≡ length (numbers_of s es)) (is : x ≡ get_or cs (get_or es i d).species x) where
  here : (1 ≤ (get_or es i d).species) × ((get_or es i d).species ≤ n) × AreEntries n (drop (i + 1) es)
  here = entry_range es i d l n range

  found : x ≡ get_or cs (get_or es i d).species 0
  found = is ∙ get_or_default_zero cs (get_or es i d).species x (omega (arith, here.1))

  -- a count is less than all
  pub count_fits : x + 1 ≤ length es
  count_fits =
      omega (arith, counted (get_or es i d).species here.1, count_hit es i d l (get_or es i d).species refl, numbers_few (get_or es i d).species es, found)

  -- one more entry is counted
  pub counted_more : (length (set cs (get_or es i d).species (x + 1)) ≡ n + 1) × AreEntries n (drop (i + 1) es)
      × ((s : ℕ) → s ≤ n → get_or (set cs (get_or es i d).species (x + 1)) s 0 + length (numbers_of s (drop (i + 1) es)) ≡ length (numbers_of s es))
  counted_more = (
    length-set cs (get_or es i d).species (x + 1) ∙ long,
    here.2,
    λ s h.
        ⊎_elim (λ (e : (get_or es i d).species ≡ s).
        let w : get_or (set cs (get_or es i d).species (x + 1)) s 0 ≡ x + 1 = subst (λ k. get_or (set cs (get_or es i d).species (x + 1)) k 0 ≡ x + 1) e (get_or-set_same cs (get_or es i d).species (x + 1) 0 (omega (arith, here.1))) in
        let g : get_or cs (get_or es i d).species 0 ≡ get_or cs s 0 = ap (λ k. get_or cs k 0) e in
        omega (arith, counted s h, count_hit es i d l s e, found))
        (λ (o : (get_or es i d).species ≢ s).
        let w : get_or (set cs (get_or es i d).species (x + 1)) s 0 ≡ get_or cs s 0 = get_or-set_other cs (get_or es i d).species s (x + 1) 0 (λ e. o (sym e)) in
        omega (arith, counted s h, count_miss es i d l s o)) (cases_eq (get_or es i d).species s),
  )

-- one more count is added
module _ (cs old : List ℕ) (i : ℕ) (low : 1 ≤ i) (l : i < length cs) (long : length cs ≡ length old) (summed : (s : ℕ) → s < i → get_or cs s 0 ≡ sum_upto (λ k. get_or old k 0) s)
    (rest : (s : ℕ) → i ≤ s → get_or cs s 0 ≡ get_or old s 0) where
  pub summed_more : (length (set cs i (get_or cs i 0 + get_or cs (i - 1) 0)) ≡ length old)
      × ((s : ℕ) → s < i + 1 → get_or (set cs i (get_or cs i 0 + get_or cs (i - 1) 0)) s 0 ≡ sum_upto (λ k. get_or old k 0) s)
      × ((s : ℕ) → i + 1 ≤ s → get_or (set cs i (get_or cs i 0 + get_or cs (i - 1) 0)) s 0 ≡ get_or old s 0)
  summed_more = (
    length-set cs i _ ∙ long,
    λ s h. ⊎_elim (λ (e : i ≡ s).
        let w : get_or (set cs i (get_or cs i 0 + get_or cs (i - 1) 0)) s 0 ≡ get_or cs i 0 + get_or cs (i - 1) 0 =
        subst (λ k. get_or (set cs i (get_or cs i 0 + get_or cs (i - 1) 0)) k 0 ≡ get_or cs i 0 + get_or cs (i - 1) 0) e (get_or-set_same cs i _ 0 l) in
        let t : sum_upto (λ k. get_or old k 0) i ≡ sum_upto (λ k. get_or old k 0) s = ap (sum_upto (λ k. get_or old k 0)) e in
        omega (arith, summed (i - 1) (omega arith), rest i (omega arith), sum_step (λ k. get_or old k 0) i low))
        (λ (o : i ≢ s). get_or-set_other cs i s _ 0 (λ e. o (sym e)) ∙ summed s (omega arith)) (cases_eq i s),
    λ s h. get_or-set_other cs i s _ 0 (omega arith) ∙ rest s (omega arith),
  )

-- ---- the entries in their places

numbers_of-append : (s : ℕ) (es fs : List Entry) → numbers_of s (es ++ fs) ≡ numbers_of s es ++ numbers_of s fs
numbers_of-append s [] fs = refl
numbers_of-append s (e ∷ es) fs =
    ⊎_elim (λ (h : e.species ≡ s). hit s e (es ++ fs) h ∙ ap (λ v. e.reaction ∷ v) (numbers_of-append s es fs) ∙ ap (λ v. v ++ numbers_of s fs) (sym (hit s e es h)))
    (λ (h : e.species ≢ s). miss s e (es ++ fs) h ∙ numbers_of-append s es fs ∙ ap (λ v. v ++ numbers_of s fs) (sym (miss s e es h))) (cases_eq e.species s)

-- the places that are begun, and what stands in them: of each species, what is done of its entries
pub record Filled (n : ℕ) (starts : List ℕ) (done : List Entry) (next numbers : List ℕ) : Type 0 where
  pub long : length next ≡ n + 1
  pub room : (s : ℕ) → s ≤ n → get_or starts s 0 ≤ length numbers
  pub places : (s : ℕ) → s < n → get_or next s 0 ≡ get_or starts s 0 + length (numbers_of (suc s) done)
  pub written : (s j : ℕ) → s < n → j < length (numbers_of (suc s) done) → get_or numbers (get_or starts s 0 + j) 0 ≡ get_or (numbers_of (suc s) done) j 0

module _ (n : ℕ) (starts : List ℕ) (es : List Entry) (start : (s : ℕ) → s ≤ n → get_or starts s 0 ≡ start_of es s) where
  -- the next start comes after the entries of a species
  start_next : (s : ℕ) → s < n → get_or starts (suc s) 0 ≡ get_or starts s 0 + length (numbers_of (suc s) es)
  start_next s h = omega (arith, start s (omega arith), start (suc s) (omega arith))

  starts_grow : (a b : ℕ) → a ≤ b → b ≤ n → get_or starts a 0 ≤ get_or starts b 0
  starts_grow a b h k = omega (arith, sum_grows (λ s. length (numbers_of s es)) a b h, start a (omega arith), start b k)

  module _ (i : ℕ) (d : Entry) (l : i < length es) (range : AreEntries n (drop i es)) (next numbers : List ℕ) (filled : Filled n starts (take i es) next numbers) where
    inside : (1 ≤ (get_or es i d).species) × ((get_or es i d).species ≤ n) × AreEntries n (drop (i + 1) es)
    inside = entry_range es i d l n range

    -- what is done once the entry is
    done_hit : (s : ℕ) → (get_or es i d).species ≡ s → numbers_of s (take (i + 1) es) ≡ numbers_of s (take i es) ++ (get_or es i d).reaction ∷ []
    done_hit s h = ap (numbers_of s) taken ∙ numbers_of-append s (take i es) (get_or es i d ∷ []) ∙ ap (λ v. numbers_of s (take i es) ++ v) (hit s (get_or es i d) [] h)
      where
        taken : take (i + 1) es ≡ take i es ++ get_or es i d ∷ []
        taken = rw add-one (take-suc es i d l)

    done_miss : (s : ℕ) → (get_or es i d).species ≢ s → numbers_of s (take (i + 1) es) ≡ numbers_of s (take i es)
    done_miss s h = ap (numbers_of s) taken ∙ numbers_of-append s (take i es) (get_or es i d ∷ []) ∙ ap (λ v. numbers_of s (take i es) ++ v) (miss s (get_or es i d) [] h) ∙ append-nil _
      where
        taken : take (i + 1) es ≡ take i es ++ get_or es i d ∷ []
        taken = rw add-one (take-suc es i d l)

    -- no species has more done than there is
    done_few : (s : ℕ) → length (numbers_of s (take i es)) + length (numbers_of s (drop i es)) ≡ length (numbers_of s es)
    done_few s =
        sym (length-append (numbers_of s (take i es)) (numbers_of s (drop i es))) ∙ ap length (sym (numbers_of-append s (take i es) (drop i es)))
        ∙ ap (λ v. length (numbers_of s v)) (take-append-drop i es)

    -- the species of the entry, from its place
    species_is : suc ((get_or es i d).species - 1) ≡ (get_or es i d).species
    species_is = let low : 1 ≤ (get_or es i d).species = inside.0 in omega arith

    here_hit : length (numbers_of (suc ((get_or es i d).species - 1)) (drop i es)) ≡ suc (length (numbers_of (suc ((get_or es i d).species - 1)) (drop (i + 1) es)))
    here_hit = count_hit es i d l (suc ((get_or es i d).species - 1)) (sym species_is)

    -- the place is there
    pub place_low : (get_or es i d).species - 1 < n
    place_low = omega (arith, inside.0, inside.1)

    pub place_fits : get_or next ((get_or es i d).species - 1) 0 < length numbers
    place_fits =
        omega (
          arith,
          filled.places ((get_or es i d).species - 1) place_low,
          start_next ((get_or es i d).species - 1) place_low,
          filled.room (suc ((get_or es i d).species - 1)) place_low,
          done_few (suc ((get_or es i d).species - 1)),
          here_hit,
        )

    -- the entry goes into it
    pub filled_more : Filled n starts (take (i + 1) es) (set next ((get_or es i d).species - 1) (get_or next ((get_or es i d).species - 1) 0 + 1))
        (set numbers (get_or next ((get_or es i d).species - 1) 0) (get_or es i d).reaction)
    filled_more = record {
      long = length-set next _ _ ∙ filled.long;
      room = λ s h. omega (arith, filled.room s h, length-set numbers (get_or next ((get_or es i d).species - 1) 0) (get_or es i d).reaction);
      places = λ s h. ⊎_elim (λ (same : (get_or es i d).species - 1 ≡ s). places_same s h same) (λ (other : (get_or es i d).species - 1 ≢ s). places_other s h other) (cases_eq ((get_or es i d).species - 1) s);
      written = λ s j h k. ⊎_elim (λ (same : (get_or es i d).species - 1 ≡ s). written_same s j h k same) (λ (other : (get_or es i d).species - 1 ≢ s). written_other s j h k other) (cases_eq ((get_or es i d).species - 1) s);
    }
      where
        places_same : (s : ℕ) → s < n → (get_or es i d).species - 1 ≡ s → get_or (set next ((get_or es i d).species - 1) (get_or next ((get_or es i d).species - 1) 0 + 1)) s 0 ≡ get_or starts s 0 + length (numbers_of (suc s) (take (i + 1) es))
        places_same s h same =
            let at : (get_or es i d).species ≡ suc s = omega (arith, inside.0) in
            let w : get_or (set next ((get_or es i d).species - 1) (get_or next ((get_or es i d).species - 1) 0 + 1)) s 0 ≡ get_or next ((get_or es i d).species - 1) 0 + 1 =
            get_or-set_at next ((get_or es i d).species - 1) s _ 0 (sym same) (omega (arith, filled.long, place_low)) in
            let same_next : get_or next ((get_or es i d).species - 1) 0 ≡ get_or next s 0 = ap (λ k. get_or next k 0) same in
            omega (arith, filled.places s h, ap length (done_hit (suc s) at), length-append (numbers_of (suc s) (take i es)) ((get_or es i d).reaction ∷ []))

        places_other : (s : ℕ) → s < n → (get_or es i d).species - 1 ≢ s → get_or (set next ((get_or es i d).species - 1) (get_or next ((get_or es i d).species - 1) 0 + 1)) s 0 ≡ get_or starts s 0 + length (numbers_of (suc s) (take (i + 1) es))
        places_other s h other =
            let away : (get_or es i d).species ≢ suc s = omega (arith, inside.0) in
            get_or-set_other next _ s _ 0 (λ k. other (sym k)) ∙ filled.places s h ∙ ap (λ v. get_or starts s 0 + length v) (sym (done_miss (suc s) away))

        written_same : (s j : ℕ) → s < n → j < length (numbers_of (suc s) (take (i + 1) es)) → (get_or es i d).species - 1 ≡ s →
            get_or (set numbers (get_or next ((get_or es i d).species - 1) 0) (get_or es i d).reaction) (get_or starts s 0 + j) 0 ≡ get_or (numbers_of (suc s) (take (i + 1) es)) j 0
        written_same s j h k same =
            let at : (get_or es i d).species ≡ suc s = omega (arith, inside.0) in
            let same_next : get_or next ((get_or es i d).species - 1) 0 ≡ get_or next s 0 = ap (λ k. get_or next k 0) same in
            ⊎_elim (λ (last : length (numbers_of (suc s) (take i es)) ≡ j).
            get_or-set_at numbers (get_or next ((get_or es i d).species - 1) 0) (get_or starts s 0 + j) _ 0 (omega (arith, filled.places s h)) place_fits
            ∙ sym (ap (λ v. get_or v j 0) (done_hit (suc s) at) ∙ ap (λ m. get_or (numbers_of (suc s) (take i es) ++ (get_or es i d).reaction ∷ []) m 0) (sym last) ∙ get_or-append_seam (numbers_of (suc s) (take i es)) (get_or es i d).reaction [] 0))
            (λ (before : length (numbers_of (suc s) (take i es)) ≢ j).
            let earlier : j < length (numbers_of (suc s) (take i es)) = omega (arith, ap length (done_hit (suc s) at), length-append (numbers_of (suc s) (take i es)) ((get_or es i d).reaction ∷ [])) in
            get_or-set_other numbers _ (get_or starts s 0 + j) _ 0 (omega (arith, filled.places s h)) ∙ filled.written s j h earlier
            ∙ sym (ap (λ v. get_or v j 0) (done_hit (suc s) at) ∙ get_or-append (numbers_of (suc s) (take i es)) _ 0 j earlier))
            (cases_eq (length (numbers_of (suc s) (take i es))) j)

        written_other : (s j : ℕ) → s < n → j < length (numbers_of (suc s) (take (i + 1) es)) → (get_or es i d).species - 1 ≢ s →
            get_or (set numbers (get_or next ((get_or es i d).species - 1) 0) (get_or es i d).reaction) (get_or starts s 0 + j) 0 ≡ get_or (numbers_of (suc s) (take (i + 1) es)) j 0
        written_other s j h k other =
            let away : (get_or es i d).species ≢ suc s = omega (arith, inside.0) in
            let same : numbers_of (suc s) (take (i + 1) es) ≡ numbers_of (suc s) (take i es) = done_miss (suc s) away in
            let earlier : j < length (numbers_of (suc s) (take i es)) = omega (arith, ap length same) in
            let apart : get_or starts s 0 + j ≢ get_or next ((get_or es i d).species - 1) 0 =
            ⊎_elim (λ (less : s < (get_or es i d).species - 1).
            omega (arith, filled.places ((get_or es i d).species - 1) place_low, start_next s h, done_few (suc s), starts_grow (suc s) ((get_or es i d).species - 1) (omega arith) (omega (arith, place_low))))
            (λ (more : (get_or es i d).species - 1 < s).
            omega (arith, filled.places ((get_or es i d).species - 1) place_low, start_next ((get_or es i d).species - 1) place_low, done_few (suc ((get_or es i d).species - 1)), here_hit, starts_grow (suc ((get_or es i d).species - 1)) s (omega arith) (omega arith)))
            (less_or_more s ((get_or es i d).species - 1) (λ e. other (sym e))) in
            get_or-set_other numbers _ (get_or starts s 0 + j) _ 0 apart ∙ filled.written s j h earlier ∙ sym (ap (λ v. get_or v j 0) same)
          where
            less_or_more : (a b : ℕ) → a ≢ b → (a < b) ⊎ (b < a)
            less_or_more a b h = grind arith

    -- as the code reads its place
    read : (x : ℕ) → x ≡ get_or next ((get_or es i d).species - 1) x → get_or next ((get_or es i d).species - 1) 0 ≡ x
    read x h = sym (h ∙ get_or_default_zero next ((get_or es i d).species - 1) x (omega (arith, filled.long, place_low)))

    pub read_fits : (x : ℕ) → x ≡ get_or next ((get_or es i d).species - 1) x → x < length numbers
    read_fits x h = omega (arith, read x h, place_fits)

    pub filled_read : (x y : ℕ) → x ≡ get_or next ((get_or es i d).species - 1) x → y ≡ get_or next ((get_or es i d).species - 1) y →
        AreEntries n (drop (i + 1) es) × Filled n starts (take (i + 1) es) (set next ((get_or es i d).species - 1) (x + 1)) (set numbers y (get_or es i d).reaction)
    filled_read x y h k = (
      inside.2,
      subst (λ v. Filled n starts (take (i + 1) es) (set next ((get_or es i d).species - 1) (v + 1)) (set numbers y (get_or es i d).reaction)) (read x h)
          (subst (λ v. Filled n starts (take (i + 1) es) (set next ((get_or es i d).species - 1) (get_or next ((get_or es i d).species - 1) 0 + 1)) (set numbers v (get_or es i d).reaction)) (read y k) filled_more),
    )

-- nothing is done at first
pub filled_first : (starts : List ℕ) (es : List Entry) (next numbers : List ℕ) → 0 < length starts → ((s : ℕ) → s < length starts → get_or starts s 0 ≡ start_of es s) → next ≡ starts →
    length numbers ≡ get_or starts (length starts - 1) 0 → Filled (length starts - 1) starts [] next numbers
filled_first starts es next numbers some start same long = record {
  long = omega (arith, ap length same);
  room = λ s h. omega (arith, starts_grow (length starts - 1) starts es (λ k l. start k (omega arith)) s (length starts - 1) h (omega arith), long);
  places = λ s h. let e : get_or next s 0 ≡ get_or starts s 0 = ap (λ v. get_or v s 0) same in omega arith;
  written = λ s j h k. absurd (omega arith);
}

-- ---- the table

-- counts below a start are no more than all entries
pub sums_fit : (cs : List ℕ) (es : List Entry) (n s : ℕ) → ((k : ℕ) → k ≤ n → get_or cs k 0 ≡ length (numbers_of k es)) → s ≤ n → sum_upto (λ k. get_or cs k 0) s ≤ length es
sums_fit cs es n s h l =
    let e : sum_upto (λ k. get_or cs k 0) s ≡ start_of es s = sum_same (λ k. get_or cs k 0) (λ k. length (numbers_of k es)) s (λ k j. h k (omega arith)) in
    omega (arith, starts_few es s)

-- sums of the counts are the starts
pub sums_are : (cs : List ℕ) (es : List Entry) (n s : ℕ) → ((k : ℕ) → k ≤ n → get_or cs k 0 ≡ length (numbers_of k es)) → s ≤ n → sum_upto (λ k. get_or cs k 0) s ≡ start_of es s
sums_are cs es n s h l = sum_same (λ k. get_or cs k 0) (λ k. length (numbers_of k es)) s (λ k j. h k (omega arith))

-- starts and numbers that are filled in are a table
pub table_is : (n : ℕ) (starts numbers : List ℕ) (es : List Entry) → length starts ≡ n + 1 → ((s : ℕ) → s < length starts → get_or starts s 0 ≡ start_of es s) →
    ((s : ℕ) → s < length starts → get_or starts s 0 ≤ length numbers) →
    ((s j : ℕ) → suc s < length starts → j < length (numbers_of (suc s) es) → get_or numbers (get_or starts s 0 + j) 0 ≡ get_or (numbers_of (suc s) es) j 0) →
    IsTable n (λ s. numbers_of s es) starts numbers
table_is n starts numbers es long start room written = record {
  long = long;
  ordered = λ i l. let r : i + 1 ≡ suc i = omega arith in subst (λ k. get_or starts i 0 ≤ get_or starts k 0) (sym r) (omega (arith, next i l));
  ends = λ i l. room i (omega arith);
  exact = λ i l. let r : i + 1 ≡ suc i = omega arith in
      subst (λ k. take (get_or starts k 0 - get_or starts i 0) (drop (get_or starts i 0) numbers) ≡ numbers_of k es) (sym r) (part i l);
}
  where
    next : (s : ℕ) → s < n → get_or starts (suc s) 0 ≡ get_or starts s 0 + length (numbers_of (suc s) es)
    next s h = start_next n starts es (λ k l. start k (omega arith)) s h

    part : (i : ℕ) → i < n → take (get_or starts (suc i) 0 - get_or starts i 0) (drop (get_or starts i 0) numbers) ≡ numbers_of (suc i) es
    part i l =
        let width : get_or starts (suc i) 0 - get_or starts i 0 ≡ length (numbers_of (suc i) es) = omega (arith, next i l) in
        let same : length (take (get_or starts (suc i) 0 - get_or starts i 0) (drop (get_or starts i 0) numbers)) ≡ length (numbers_of (suc i) es) =
        simp (length-take, length-drop) (omega (arith, next i l, room (suc i) (omega arith))) in
        ext_get_or 0 _ _ same
        (λ j k. get_or-take _ (drop (get_or starts i 0) numbers) j 0 (omega arith) ∙ get_or-drop (get_or starts i 0) numbers j 0 ∙ written i j (omega arith) (omega arith))

-- ---- the entries of reactions

-- entries of a reaction have its species
entries_are : (n r low : ℕ) (ps : List Part) (es : List Entry) → AreParts low n ps → AreEntries n es → AreEntries n (entries_of r ps ++ es)
entries_are n r low [] es h k = k
entries_are n r low (p ∷ ps) es h k = (omega (arith, h.0), h.1, entries_are n r p.species ps es h.3 k)

-- so do those of all
pub all_entries : (n r : ℕ) (rs : List Reaction) → EachReaction n rs → AreEntries n (entries_from r rs)
all_entries n r [] h = tt
all_entries n r (q ∷ qs) h = entries_are n r 0 q.takes _ h.0.takes (all_entries n (suc r) qs h.1)

-- parts above a species have no entry of it
none_above : (n r low s : ℕ) (ps : List Part) → AreParts low n ps → s ≤ low → numbers_of s (entries_of r ps) ≡ []
none_above n r low s [] h l = refl
none_above n r low s (p ∷ ps) h l =
    let other : p.species ≢ s = omega (arith, h.0) in
    miss s (record { species = p.species; reaction = r }) (entries_of r ps) other ∙ none_above n r p.species s ps h.3 (omega (arith, h.0))

-- a reaction has one entry of each species that it takes
one_entry : (n r low s : ℕ) (ps : List Part) → AreParts low n ps → numbers_of s (entries_of r ps) ≡ (if nat_lt 0 (count_of ps s) then r ∷ [] else [])
one_entry n r low s [] h = refl
one_entry n r low s (p ∷ ps) h =
    ⊎_elim (λ (e : p.species ≡ s).
    hit s (record { species = p.species; reaction = r }) (entries_of r ps) e ∙ ap (λ v. r ∷ v) (none_above n r p.species s ps h.3 (omega arith))
    ∙ sym (ap (λ b. if b then r ∷ [] else []) (positive (count_of (p ∷ ps) s) (counted p.species s p.count (count_of ps s) e h.2))))
    (λ (o : p.species ≢ s).
    miss s (record { species = p.species; reaction = r }) (entries_of r ps) o ∙ one_entry n r p.species s ps h.3
    ∙ sym (ap (λ k. if nat_lt 0 k then r ∷ [] else []) (count_of_other p ps s o))) (cases_eq p.species s)
  where
    counted : (a b k m : ℕ) → a ≡ b → 0 < k → 0 < (if a == b then k else 0) + m
    counted a b k m e l = grind (arith, nat_tests)

    positive : (k : ℕ) → 0 < k → nat_lt 0 k ≡ true
    positive k l = grind (arith, nat_tests)

-- the takers along a list of reactions, numbered from r, by a test of the numbers
takers_along : (n r s : ℕ) (rs : List Reaction) (test : ℕ → Bool) → EachReaction n rs → ((i : ℕ) → i < length rs → test (r + i) ≡ nat_lt 0 (count_of (get_or rs i (record { takes = []; gives = [] })).takes s)) →
    numbers_of s (entries_from r rs) ≡ filter test (range_with_len r (length rs))
takers_along n r s [] test h k = refl
takers_along n r s (q ∷ qs) test h k =
    let this : test r ≡ nat_lt 0 (count_of q.takes s) = (let e : r ≡ r + 0 = omega arith in ap test e ∙ k 0 (omega arith)) in
    let f : r + 1 ≡ suc r = omega arith in
    let rest : numbers_of s (entries_from (suc r) qs) ≡ filter test (range_with_len (suc r) (length qs)) =
    takers_along n (suc r) s qs test h.1 (λ i l. let e : suc r + i ≡ r + suc i = omega arith in ap test e ∙ k (suc i) (omega arith)) in
    numbers_of-append s (entries_of r q.takes) (entries_from (suc r) qs) ∙ ap₂ (λ u v. u ++ v) (one_entry n r 0 s q.takes h.0.takes) rest
    ∙ choice (nat_lt 0 (count_of q.takes s)) r _ ∙ ap (λ b. if b then r ∷ filter test (range_with_len (suc r) (length qs)) else filter test (range_with_len (suc r) (length qs))) (sym this)
    ∙ ap (λ m. if test r then r ∷ filter test (range_with_len m (length qs)) else filter test (range_with_len m (length qs))) (sym f)
  where
    choice : (b : Bool) (r : ℕ) (xs : List ℕ) → (if b then r ∷ [] else []) ++ xs ≡ (if b then r ∷ xs else xs)
    choice true r xs = refl
    choice false r xs = refl

-- the entries of a network's reactions are its takers
pub takers_are : (net : Network) (s : ℕ) → EachReaction net.species net.reactions → numbers_of s (entries_from 1 net.reactions) ≡ takers_of net s
unfolding taken
takers_are net s h = takers_along net.species 1 s net.reactions (λ r. nat_lt 0 (taken net r s)) h (λ i l. let e : 1 + i ≡ suc i = omega arith in ap (λ r. nat_lt 0 (taken net r s)) e)

-- so a table of the entries is one of the takers
pub table_of_takers : (net : Network) (starts numbers : List ℕ) → EachReaction net.species net.reactions → IsTable net.species (λ s. numbers_of s (entries_from 1 net.reactions)) starts numbers →
    IsTable net.species (takers_of net) starts numbers
table_of_takers net starts numbers h t = record { long = t.long; ordered = t.ordered; ends = t.ends; exact = λ i l. t.exact i l ∙ takers_are net (i + 1) h }

-- ---- what a call wrote, read back

pub written_back : (new old : List ℕ) (n : ℕ) → length new ≡ length old → length old ≡ n → take n (new ++ drop (length new) old) ≡ new
written_back new old n e f =
    ap (λ v. take n (new ++ v)) (nothing (length new) old (omega arith)) ∙ ap (take n) (append-nil new) ∙ take_all n new (omega arith)
  where
    nothing : (m : ℕ) (xs : List ℕ) → length xs ≤ m → drop m xs ≡ []
    nothing zero [] l = refl
    nothing zero (x ∷ xs) l = absurd (omega arith)
    nothing (suc m) [] l = refl
    nothing (suc m) (x ∷ xs) l = nothing m xs (omega arith)

module _ (n : ℕ) (cs new : List ℕ) (es : List Entry) (long : length cs ≡ n + 1) (counted : (s : ℕ) → s ≤ n → get_or cs s 0 ≡ length (numbers_of s es)) where
  pub counts_fit : length es < 2 ^ 64 → (s : ℕ) → s < length cs → sum_upto (λ k. get_or cs k 0) s < 2 ^ 64
  counts_fit h s l = omega (arith, sums_fit cs es n s counted (omega arith))

  pub counts_start : length new ≡ length cs → ((s : ℕ) → s < length cs → get_or new s 0 ≡ sum_upto (λ k. get_or cs k 0) s) → (s : ℕ) → s < length new → get_or new s 0 ≡ start_of es s
  counts_start same summed s l = summed s (omega arith) ∙ sums_are cs es n s counted (omega arith)

-- the starts that were added up, read back
pub starts_read : (n m : ℕ) (cs lent new back : List ℕ) (es seen : List Entry) → length cs ≡ n + 1 → ((s : ℕ) → s ≤ n → get_or cs s 0 ≡ length (numbers_of s seen)) → seen ≡ es → lent ≡ cs →
    length lent ≡ m → length new ≡ length lent → ((s : ℕ) → s < length lent → get_or new s 0 ≡ sum_upto (λ k. get_or lent k 0) s) → back ≡ take m (new ++ drop (length new) cs) →
    (s : ℕ) → s < length back → get_or back s 0 ≡ start_of es s
starts_read n m cs lent new back es seen long counted same lent_is m_is kept summed is =
    let whole : back ≡ new = is ∙ written_back new cs m (kept ∙ ap length lent_is) (sym (ap length lent_is) ∙ m_is) in
    subst (λ v. (s : ℕ) → s < length v → get_or v s 0 ≡ start_of es s) (sym whole)
    (counts_start n lent new es (ap length lent_is ∙ long) (λ s h. ap (λ v. get_or v s 0) lent_is ∙ counted s h ∙ ap (λ v. length (numbers_of s v)) same) kept summed)

-- ---- the reactions of a valid network

each_from : (n : ℕ) (rs : List Reaction) → ((i : ℕ) → i < length rs → IsReaction n (get_or rs i (record { takes = []; gives = [] }))) → EachReaction n rs
each_from n [] h = tt
each_from n (r ∷ rs) h = (h 0 (omega arith), each_from n rs (λ i l. h (suc i) (omega arith)))

pub each_reaction : (net : Network) → AreReactions net → EachReaction net.species net.reactions
each_reaction net h = each_from net.species net.reactions (λ i l. h (suc i) (omega arith) (omega arith))
