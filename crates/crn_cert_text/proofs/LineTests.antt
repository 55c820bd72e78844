-- What can be told of lines: whether one fits its place, and which is the first that does not.
use Rattle.std.proofs.Common.{◌≡◌, ◌⊎◌, inl, inr, ⊎_elim, ℕ, zero, suc, ◌<◌, ◌≤◌, ◌^◌, Bool, true, false, List, [], ◌∷◌, ◌++◌, length, get_or, refl, sym, ap, subst, arith}
use Rattle.std.specs.Prelude.{ℤ, pos, negsuc, ◌≤ℤ◌, ◌<ℤ◌, unsigned_abs, All, ◌≢◌, IsTrue}
use Rattle.std.proofs.lemmas.Int.{ints}
use Rattle.std.proofs.lemmas.Bool.{cases_eq, cases_lt}
use Rattle.std.proofs.lemmas.List.Elements.{All-nil, All-cons}
use Rattle.crn_fraction.specs.Rational.{ℚ}
use Rattle.crn_linear.specs.Rows.{Row, IsSmall, AreSmall, dot}
use Rattle.crn_linear.specs.Cleared.{cleared}
use Rattle.crn_farkas.specs.Systems.{System, no_row, column, HasStrict, IsCertificate}
use Rattle.crn_formula.specs.Pieces.{Piece, Domain}
use Rattle.crn_pieces.specs.Systems.{cover_system}
use Rattle.crn_pieces.specs.Pairs.{IsFirstWithout}
use Rattle.crn_pieces.specs.Answers.{Clears, DoConditionsClear, DoesDifferenceClear}
use Rattle.crn_pieces.proofs.ClearSteps.{not_all}
use Rattle.crn_cert_text.specs.Proofs.{Line, pair, close, split, IsProofOf, Question, AnswersPair, Place, asking, part, ended, Fits, after_line, FitInTurn, after_lines, Stops}
use Rattle.crn_cert_text.proofs.WalkLaws.{IsWholeFrom}

-- it is so, or it is not
abbrev pub Told : Type 0 → Type 0
Told A = A ⊎ (¬ A)

both : {A B : Type 0} → Told A → Told B → Told (A × B)
both (inl a) (inl b) = inl (a, b)
both (inl a) (inr n) = inr (λ h. n h.1)
both (inr n) told = inr (λ h. n h.0)

-- ---- lists
-- all have the property, or one is the first that has it not
pub first_or_all : {X : Type 0} (P : X → Type 0) → ((x : X) → Told (P x)) → (xs : List X) → All P xs ⊎ ((x : X) × IsFirstWithout P xs x)
first_or_all P test [] = inl (All-nil P)
first_or_all {X} P test (x ∷ xs) = go (test x) (first_or_all P test xs)
  where
    go : Told (P x) → All P xs ⊎ ((y : X) × IsFirstWithout P xs y) → All P (x ∷ xs) ⊎ ((y : X) × IsFirstWithout P (x ∷ xs) y)
    go (inl h) (inl all) = inl (All-cons P x xs h all)
    go (inl h) (inr (y, f)) = inr (
      y,
      record {
        before = x ∷ f.before;
        behind = f.behind;
        place = ap (λ l. x ∷ l) f.place;
        earlier = All-cons P x f.before h f.earlier;
        without = f.without;
      },
    )
    go (inr n) rest = inr (x, record { before = []; behind = xs; place = refl; earlier = All-nil P; without = n })

pub all_told : {X : Type 0} (P : X → Type 0) → ((x : X) → Told (P x)) → (xs : List X) → Told (All P xs)
all_told {X} P test xs = ⊎_elim (λ (all : All P xs). inl all) (λ (f : (x : X) × IsFirstWithout P xs x). inr (not_all P xs f.0 f.1)) (first_or_all P test xs)

-- for the numbers below a bound
below_told : (P : ℕ → Type 0) → ((i : ℕ) → Told (P i)) → (n : ℕ) → Told ((i : ℕ) → i < n → P i)
below_told P test zero = inl (λ i l. absurd (omega (arith, l)))
below_told P test (suc n) = go (test n) (below_told P test n)
  where
    last : P n → ((i : ℕ) → i < n → P i) → (i : ℕ) → i < suc n → P i
    last h all i l = ⊎_elim (λ (e : i ≡ n). subst P (sym e) h) (λ (d : i ≢ n). all i (omega (arith, l, d))) (cases_eq i n)

    go : Told (P n) → Told ((i : ℕ) → i < n → P i) → Told ((i : ℕ) → i < suc n → P i)
    go (inl h) (inl all) = inl (last h all)
    go (inl h) (inr n) = inr (λ all. n (λ i l. all i (omega (arith, l))))
    go (inr m) told = inr (λ all. m (all n (omega arith)))

some_told : (P : ℕ → Type 0) → ((i : ℕ) → Told (P i)) → (n : ℕ) → Told ((i : ℕ) × (i < n) × P i)
some_told P test zero = inr (λ h. omega (arith, h.1))
some_told P test (suc n) = go (test n) (some_told P test n)
  where
    go : Told (P n) → Told ((i : ℕ) × (i < n) × P i) → Told ((i : ℕ) × (i < suc n) × P i)
    go (inl h) told = inl (n, omega arith, h)
    go (inr m) (inl s) = inl (s.0, omega (arith, s.1), s.2)
    go (inr m) (inr none) = inr (λ h. ⊎_elim (λ (e : h.0 ≡ n). m (subst P e h.2)) (λ (d : h.0 ≢ n). none (h.0, omega (arith, h.1, d), h.2)) (cases_eq h.0 n))

-- ---- numbers
small_told : (z : ℤ) → Told (IsSmall z)
small_told z = ⊎_elim (λ (l : 2 ^ 59 < unsigned_abs z). inr (λ s. let h = s.size in absurd (omega (arith, l, h)))) (λ (l : unsigned_abs z ≤ 2 ^ 59). inl (record { size = l })) (cases_lt (2 ^ 59) (unsigned_abs z))

not_negative_told : (z : ℤ) → Told (pos 0 ≤ℤ z)
not_negative_told (pos n) = inl (omega (arith, ints))
not_negative_told (negsuc n) = inr (λ h. omega (arith, ints, h))

positive_told : (z : ℤ) → Told (pos 0 <ℤ z)
positive_told (pos zero) = inr (λ h. omega (arith, ints, h))
positive_told (pos (suc n)) = inl (omega (arith, ints))
positive_told (negsuc n) = inr (λ h. omega (arith, ints, h))

zero_told : (z : ℤ) → Told (z ≡ pos 0)
zero_told (pos zero) = inl refl
zero_told (pos (suc n)) = inr (λ e. cc e)
zero_told (negsuc n) = inr (λ e. cc e)

equal_told : (m n : ℕ) → Told (m ≡ n)
equal_told m n = ⊎_elim (λ (e : m ≡ n). inl e) (λ (d : m ≢ n). inr d) (cases_eq m n)

less_told : (m n : ℕ) → Told (m < n)
less_told m n = ⊎_elim (λ (l : m < n). inl l) (λ (g : n ≤ m). inr (λ l. omega (arith, l, g))) (cases_lt m n)

-- ---- rows that clear
pub clears_told : (form : List ℚ) → Told (Clears form)
clears_told form = all_told IsSmall small_told (cleared form)

pub conditions_told : (piece : Piece) → Told (DoConditionsClear piece)
conditions_told piece = all_told Clears clears_told piece.conditions

pub difference_told : (P : List Piece) (q : ℕ × ℕ) → Told (DoesDifferenceClear P q)
difference_told P q = all_told IsSmall small_told _

-- ---- certificates
strict_told : (b : Bool) → Told (IsTrue b)
strict_told true = inl refl
strict_told false = inr (λ h. cc h)

-- a strict row is one of the rows
strict_within : (rows : List Row) (i : ℕ) → IsTrue (get_or rows i no_row).strict → i < length rows
strict_within [] i h = cc h
strict_within (r ∷ rows) zero h = omega arith
strict_within (r ∷ rows) (suc i) h = let l = strict_within rows i h in omega (arith, l)

abbrev IsStrictAt : List Row → List ℤ → ℕ → Type 0
IsStrictAt rows c i = IsTrue (get_or rows i no_row).strict × (pos 0 <ℤ get_or c i (pos 0))

some_strict_told : (rows : List Row) (c : List ℤ) → Told (HasStrict rows c)
some_strict_told rows c = go (some_told (IsStrictAt rows c) (λ i. both (strict_told (get_or rows i no_row).strict) (positive_told (get_or c i (pos 0)))) (length rows))
  where
    go : Told ((i : ℕ) × (i < length rows) × IsStrictAt rows c i) → Told (HasStrict rows c)
    go (inl s) = inl (s.0, s.2.0, s.2.1)
    go (inr none) = inr (λ h. none (h.0, strict_within rows h.0 h.1, (h.1, h.2)))

certificate_told : (s : System) (c : List ℤ) → Told (IsCertificate s c)
certificate_told s c =
    go (both (equal_told (length c) (length s.rows)) (both (all_told (λ m. pos 0 ≤ℤ m) not_negative_told c)
    (both (below_told (λ v. dot c (column v s.rows) ≡ pos 0) (λ v. zero_told (dot c (column v s.rows))) s.columns) (some_strict_told s.rows c))))
  where
    go : Told ((length c ≡ length s.rows) × (All (λ m. pos 0 ≤ℤ m) c × (((v : ℕ) → v < s.columns → dot c (column v s.rows) ≡ pos 0) × HasStrict s.rows c))) → Told (IsCertificate s c)
    go (inl (one_each, (nonnegative, (zero_sum, some_strict)))) = inl (record { one_each = one_each; nonnegative = nonnegative; zero_sum = zero_sum; some_strict = some_strict })
    go (inr n) = inr (λ h. n (h.one_each, (h.nonnegative, (h.zero_sum, h.some_strict))))

proof_told : (s : System) (c : List ℤ) → Told (IsProofOf s c)
proof_told s c = go (both (all_told IsSmall small_told c) (certificate_told s c))
  where
    go : Told (AreSmall c × IsCertificate s c) → Told (IsProofOf s c)
    go (inl h) = inl (record { small = h.0; certificate = h.1 })
    go (inr n) = inr (λ h. n (h.small, h.certificate))

-- ---- lines
answers_told : (q : Question) (line : Line) → Told (AnswersPair q line)
answers_told q (pair a b c) = go (both (equal_told a q.above) (both (equal_told b q.below) (proof_told q.system c)))
  where
    go : Told ((a ≡ q.above) × ((b ≡ q.below) × IsProofOf q.system c)) → Told (AnswersPair q (pair a b c))
    go (inl (above, (below, proof))) = inl (above, below, proof)
    go (inr n) = inr (λ h. n (h.0, (h.1, h.2)))
answers_told q (close c) = inr (λ h. h)
answers_told q split = inr (λ h. h)

module _ (D : Domain) (C : List (List Row)) where
  fits_told : (place : Place) (line : Line) → Told (Fits D C place line)
  fits_told (asking q qs) line = answers_told q line
  fits_told (part ks) (pair a b c) = inr (λ h. h)
  fits_told (part ks) (close c) = proof_told (cover_system D C ks) c
  fits_told (part ks) split = less_told (length ks) (length C)
  fits_told ended line = inr (λ h. h)

  ended_told : (place : Place) → Told (place ≡ ended)
  ended_told (asking q qs) = inr (λ e. cc e)
  ended_told (part ks) = inr (λ e. cc e)
  ended_told ended = inl refl

  -- where lines stop to fit
  pub record Unfit (place : Place) (lines : List Line) : Type 0 where
    pub fitting : List Line
    pub behind : List Line
    pub all_lines : lines ≡ fitting ++ behind
    pub fit : FitInTurn D C place fitting
    pub stops : Stops D C (after_lines C place fitting) behind

  pub whole_or_unfit : (place : Place) (lines : List Line) → IsWholeFrom D C place lines ⊎ Unfit place lines
  whole_or_unfit place [] = ⊎_elim (λ (e : place ≡ ended). inl e) (λ (n : place ≢ ended). inr (record { fitting = []; behind = []; all_lines = refl; fit = tt; stops = n })) (ended_told place)
  whole_or_unfit place (line ∷ lines) = go (fits_told place line) (whole_or_unfit (after_line C place line) lines)
    where
      go : Told (Fits D C place line) → IsWholeFrom D C (after_line C place line) lines ⊎ Unfit (after_line C place line) lines → IsWholeFrom D C place (line ∷ lines) ⊎ Unfit place (line ∷ lines)
      go (inl h) (inl whole) = inl (h, whole)
      go (inl h) (inr u) = inr (record { fitting = line ∷ u.fitting; behind = u.behind; all_lines = ap (λ ls. line ∷ ls) u.all_lines; fit = (h, u.fit); stops = u.stops })
      go (inr n) rest = inr (record { fitting = []; behind = line ∷ lines; all_lines = refl; fit = tt; stops = n })

  -- they do so at one line
  pub one_stop : (place : Place) (a b c d : List Line) → a ++ b ≡ c ++ d → FitInTurn D C place a → Stops D C (after_lines C place a) b → FitInTurn D C place c → Stops D C (after_lines C place c) d → length a ≡ length c
  one_stop place [] b [] d e f s g t = refl
  one_stop place [] [] (z ∷ c) d e f s g t = let w : ◌≡◌ {A = List Line} [] (z ∷ c ++ d) = e in cc
  one_stop place [] (y ∷ b) (z ∷ c) d e f s g t = let w : z ≡ y = cc e in absurd (s (subst (Fits D C place) w g.0))
  one_stop place (x ∷ a) b [] [] e f s g t = let w : ◌≡◌ {A = List Line} (x ∷ a ++ b) [] = e in cc
  one_stop place (x ∷ a) b [] (w ∷ d) e f s g t = let v : x ≡ w = cc e in absurd (t (subst (Fits D C place) v f.0))
  one_stop place (x ∷ a) b (z ∷ c) d e f s g t =
      let v : z ≡ x = cc e in
      let r : a ++ b ≡ c ++ d = cc e in
      ap suc (one_stop (after_line C place x) a b c d r f.1 s (subst (λ (l : Line). FitInTurn D C (after_line C place l) c) v g.1) (subst (λ (l : Line). Stops D C (after_lines C (after_line C place l) c) d) v t))
