-- Column by column: the terms of a leaf on its copies, and its uses.
use Rattle.std.proofs.Common.{◌≡◌, ◌≢◌, ℕ, zero, suc, Bool, true, false, cond, if◌then◌else◌, not, ◌+◌, ◌<◌, ◌≤◌, List, [], ◌∷◌, ◌++◌, length, take, drop, get_or, refl, sym, ◌∙◌, ap, ap₂, subst, arith, append-nil, append_assoc, length-append, length-drop}
use Rattle.std.specs.List.{zip}
use Rattle.std.proofs.lemmas.List.{take-append-drop}
use Rattle.std.proofs.lemmas.List.Elements.{filter-append, filter_more}
use Rattle.crn_fraction.proofs.Products.{is_zero_ℚ-other, is_zero_ℚ-zero, nonzero_of_is_zero_ℚ}
use Rattle.crn_fraction.specs.Rational.{ℚ, 0ℚ, is_zero_ℚ}
use Rattle.crn_gates.specs.declared.Copied.{Copied}
use Rattle.crn_gates.specs.declared.Use.{Use}
use Rattle.crn_gates.specs.Gates.{factor_of}
use Rattle.crn_gates.specs.Terms.{terms_from, terms_of, nonzero}
use Rattle.crn_dual.specs.Layout.{use_of_column, uses_of_terms}

-- ---- the terms of a leaf

-- one more coefficient that is not 0
nonzero_more : (form : List ℚ) (i : ℕ) (q : ℚ) → i < length form → q ≡ get_or form i 0ℚ → q ≢ 0ℚ → nonzero (take (i + 1) form) ≡ nonzero (take i form) ++ q ∷ []
nonzero_more form i q l e h =
    filter_more (λ x. not (is_zero_ℚ x)) form i 0ℚ l
    ∙ ap (λ x. nonzero (take i form) ++ cond (not (is_zero_ℚ x)) (x ∷ []) []) (sym e)
    ∙ ap (λ b. nonzero (take i form) ++ cond (not b) (q ∷ []) []) (is_zero_ℚ-other q h)

-- one more that is 0
nonzero_same : (form : List ℚ) (i : ℕ) (q : ℚ) → i < length form → q ≡ get_or form i 0ℚ → q ≡ 0ℚ → nonzero (take (i + 1) form) ≡ nonzero (take i form)
nonzero_same form i q l e h =
    filter_more (λ x. not (is_zero_ℚ x)) form i 0ℚ l
    ∙ ap (λ x. nonzero (take i form) ++ cond (not (is_zero_ℚ x)) (x ∷ []) []) (sym e)
    ∙ ap (λ b. nonzero (take i form) ++ cond (not b) (q ∷ []) []) (is_zero_ℚ-zero q h)
    ∙ append-nil (nonzero (take i form))

-- the next copy goes with the next coefficient
zip_more : (qs : List ℚ) (cs now : List Copied) (q : ℚ) (c : Copied) → drop (length qs) cs ≡ c ∷ now → (zip (qs ++ q ∷ []) cs ≡ zip qs cs ++ (q, c) ∷ []) × (drop (length (qs ++ q ∷ [])) cs ≡ now)
zip_more [] [] now q c e = absurd (cc)
zip_more [] (d ∷ cs) now q c e = (ap₂ (λ x (ys : List (ℚ × Copied)). (q, x) ∷ ys) (cc) refl, cc)
zip_more (p ∷ qs) [] now q c e = absurd (cc)
zip_more (p ∷ qs) (d ∷ cs) now q c e = let h = zip_more qs cs now q c e in (ap (λ ts. (p, d) ∷ ts) h.0, h.1)

-- the invariant after a coefficient that is not 0
pub terms_step : (form : List ℚ) (i : ℕ) (q : ℚ) (cs now now' : List Copied) (ts ts' : List (ℚ × Copied)) (c : Copied) → i < length form → q ≡ get_or form i 0ℚ → q ≢ 0ℚ →
    ts ≡ zip (nonzero (take i form)) cs → now ≡ drop (length (nonzero (take i form))) cs → now ≡ c ∷ now' → ts' ≡ ts ++ (q, c) ∷ [] →
    (ts' ≡ zip (nonzero (take (i + 1) form)) cs) × (now' ≡ drop (length (nonzero (take (i + 1) form))) cs)
terms_step form i q cs now now' ts ts' c l e h terms copies next pushed =
    let (zipped, dropped) = zip_more (nonzero (take i form)) cs now' q c (sym copies ∙ next) in (
      pushed ∙ ap (λ xs. xs ++ (q, c) ∷ []) terms ∙ sym zipped ∙ ap (λ qs. zip qs cs) (sym (nonzero_more form i q l e h)),
      sym dropped ∙ ap (λ qs. drop (length qs) cs) (sym (nonzero_more form i q l e h)),
    )

-- and after one that is 0
pub terms_stay : (form : List ℚ) (i : ℕ) (q : ℚ) (cs now : List Copied) (ts : List (ℚ × Copied)) → i < length form → q ≡ get_or form i 0ℚ → q ≡ 0ℚ →
    ts ≡ zip (nonzero (take i form)) cs → now ≡ drop (length (nonzero (take i form))) cs →
    (ts ≡ zip (nonzero (take (i + 1) form)) cs) × (now ≡ drop (length (nonzero (take (i + 1) form))) cs)
terms_stay form i q cs now ts l e h terms copies =
    (terms ∙ ap (λ qs. zip qs cs) (sym (nonzero_same form i q l e h)), copies ∙ ap (λ qs. drop (length qs) cs) (sym (nonzero_same form i q l e h)))

-- there is a copy for each coefficient that is not 0
pub copy_left : (form : List ℚ) (i : ℕ) (q : ℚ) (cs now : List Copied) → i < length form → q ≡ get_or form i 0ℚ → q ≢ 0ℚ → length (nonzero form) ≤ length cs → now ≡ drop (length (nonzero (take i form))) cs → length now ≡ 0 → ⊥
copy_left form i q cs now l e h enough left none =
    let front : length (nonzero (take i form)) + 1 ≡ length (nonzero (take (i + 1) form)) = sym (ap length (nonzero_more form i q l e h) ∙ length-append (nonzero (take i form)) (q ∷ [])) in
    let all : nonzero form ≡ nonzero (take (i + 1) form) ++ nonzero (drop (i + 1) form) =
    ap nonzero (sym (take-append-drop (i + 1) form)) ∙ filter-append (λ x. not (is_zero_ℚ x)) (take (i + 1) form) (drop (i + 1) form) in
    omega (arith, ap length all, length-append (nonzero (take (i + 1) form)) (nonzero (drop (i + 1) form)), none, ap length left, length-drop (length (nonzero (take i form))) cs)

-- ---- the uses of a leaf

-- one column more
uses_more : (k v : ℕ) (form : List ℚ) (i : ℕ) → i < length form →
    uses_of_terms k (terms_from v (take (suc i) form)) ≡ uses_of_terms k (terms_from v (take i form)) ++ (if is_zero_ℚ (get_or form i 0ℚ) then [] else use_of_column k (v + i) ∷ [])
uses_more k v [] i l = absurd (omega arith)
uses_more k v (q ∷ form) zero l = first (is_zero_ℚ q)
  where
    here : (v : ℕ) → v ≡ v + 0
    here v = omega arith

    first : (z : Bool) → uses_of_terms k (if z then [] else record { variable = v; factor = factor_of q } ∷ []) ≡ [] ++ (if z then [] else use_of_column k (v + 0) ∷ [])
    first true = refl
    first false = ap (λ j. use_of_column k j ∷ []) (here v)
uses_more k v (q ∷ form) (suc i) l = later (uses_more k (suc v) form i (omega arith) ∙ ap (λ j. uses_of_terms k (terms_from (suc v) (take i form)) ++ (if is_zero_ℚ (get_or form i 0ℚ) then [] else use_of_column k j ∷ [])) (move v i)) (is_zero_ℚ q)
  where
    move : (v i : ℕ) → suc v + i ≡ v + suc i
    move v i = omega arith

    last : List Use
    last = if is_zero_ℚ (get_or form i 0ℚ) then [] else use_of_column k (v + suc i) ∷ []

    later : uses_of_terms k (terms_from (suc v) (take (suc i) form)) ≡ uses_of_terms k (terms_from (suc v) (take i form)) ++ (if is_zero_ℚ (get_or form i 0ℚ) then [] else use_of_column k (v + suc i) ∷ []) → (z : Bool) →
        uses_of_terms k (if z then terms_from (suc v) (take (suc i) form) else record { variable = v; factor = factor_of q } ∷ terms_from (suc v) (take (suc i) form))
        ≡ uses_of_terms k (if z then terms_from (suc v) (take i form) else record { variable = v; factor = factor_of q } ∷ terms_from (suc v) (take i form)) ++ (if is_zero_ℚ (get_or form i 0ℚ) then [] else use_of_column k (v + suc i) ∷ [])
    later h true = h
    later h false = ap (λ us. use_of_column k v ∷ us) h

-- the invariant after a coefficient that is not 0
pub uses_step : (k : ℕ) (form : List ℚ) (i : ℕ) (q : ℚ) (before now now' : List Use) (u : Use) → i < length form → q ≡ get_or form i 0ℚ → q ≢ 0ℚ → u ≡ use_of_column k i →
    now ≡ before ++ uses_of_terms k (terms_of (take i form)) → now' ≡ now ++ u ∷ [] → now' ≡ before ++ uses_of_terms k (terms_of (take (i + 1) form))
uses_step k form i q before now now' u l e h is so pushed =
    pushed ∙ ap₂ (λ xs (x : Use). xs ++ x ∷ []) so (is ∙ ap (use_of_column k) (from_zero i))
    ∙ append_assoc before (uses_of_terms k (terms_of (take i form))) (use_of_column k (0 + i) ∷ [])
    ∙ ap (λ us. before ++ us) (ap (λ b. uses_of_terms k (terms_of (take i form)) ++ (if b then [] else use_of_column k (0 + i) ∷ [])) (sym (is_zero_ℚ-other (get_or form i 0ℚ) (λ z. h (e ∙ z))))
    ∙ sym (uses_more k 0 form i l) ∙ ap (λ j. uses_of_terms k (terms_of (take j form))) (next i))
  where
    from_zero : (i : ℕ) → i ≡ 0 + i
    from_zero i = omega arith

    next : (i : ℕ) → suc i ≡ i + 1
    next i = omega arith

-- and after one that is 0
pub uses_stay : (k : ℕ) (form : List ℚ) (i : ℕ) (q : ℚ) (before now : List Use) → i < length form → q ≡ get_or form i 0ℚ → q ≡ 0ℚ →
    now ≡ before ++ uses_of_terms k (terms_of (take i form)) → now ≡ before ++ uses_of_terms k (terms_of (take (i + 1) form))
uses_stay k form i q before now l e h so =
    so ∙ ap (λ us. before ++ us) (sym (append-nil (uses_of_terms k (terms_of (take i form))))
    ∙ ap (λ b. uses_of_terms k (terms_of (take i form)) ++ (if b then [] else use_of_column k (0 + i) ∷ [])) (sym (is_zero_ℚ-zero (get_or form i 0ℚ) (sym e ∙ h)))
    ∙ sym (uses_more k 0 form i l) ∙ ap (λ j. uses_of_terms k (terms_of (take j form))) (next i))
  where
    next : (i : ℕ) → suc i ≡ i + 1
    next i = omega arith

-- ---- factors

-- a coefficient that the test lets through is not 0
pub factors_pass : (form : List ℚ) (cs : List Copied) (ts : List (ℚ × Copied)) → ts ≡ zip (nonzero form) cs → (k : ℕ) (d : ℚ × Copied) → k < length ts → (get_or ts k d).0 ≢ 0ℚ
factors_pass form cs ts is k d l = subst (λ (xs : List (ℚ × Copied)). (get_or xs k d).0 ≢ 0ℚ) (sym is) (passes form cs k d (omega (arith, ap length is)))
  where
    passes : (form : List ℚ) (cs : List Copied) (k : ℕ) (d : ℚ × Copied) → k < length (zip (nonzero form) cs) → (get_or (zip (nonzero form) cs) k d).0 ≢ 0ℚ
    passes [] cs k d l = absurd (omega arith)
    passes (q ∷ form) cs k d l = step (λ cs k d l. passes form cs k d l) (is_zero_ℚ q) (nonzero_of_is_zero_ℚ q) cs k d l
      where
        step : ((cs : List Copied) (k : ℕ) (d : ℚ × Copied) → k < length (zip (nonzero form) cs) → (get_or (zip (nonzero form) cs) k d).0 ≢ 0ℚ) → (z : Bool) → (z ≡ false → q ≢ 0ℚ) →
            (cs : List Copied) (k : ℕ) (d : ℚ × Copied) → k < length (zip (cond (not z) (q ∷ nonzero form) (nonzero form)) cs) → (get_or (zip (cond (not z) (q ∷ nonzero form) (nonzero form)) cs) k d).0 ≢ 0ℚ
        step h true other cs k d l = h cs k d l
        step h false other [] k d l = absurd (omega arith)
        step h false other (c ∷ cs) zero d l = other refl
        step h false other (c ∷ cs) (suc k) d l = h cs k d (omega arith)
