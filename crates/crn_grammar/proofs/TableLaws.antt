-- The answer line by line is the right one, for any table whose places can all still end.
use Rattle.std.proofs.Common.{◌≡◌, ℕ, ◌+◌, ◌≤◌, inl, inr, List, [], ◌∷◌, ◌++◌, length, take, Option, Some, None, sym, refl, ap, ◌∙◌, subst, ⊎_elim, arith, append_assoc, append-nil, length-append, take_all, take_at}
use Rattle.std.proofs.lemmas.Bool.{cases_lt}
use Rattle.std.proofs.lemmas.List.{take-append-le}
use Rattle.std.specs.Option.{option_and_then, option_map_or}
use Rattle.std.proofs.lemmas.Option.{same_Some}
use Rattle.crn_grammar.specs.Table.{Table, Answer, IsFirstWrong, IsTooShort, IsFirstPast, after, IsText, Begins, PassesNone, Read, Malformed, Limited, IsAnswer, CanEnd, answer}

module _ {S L F W : Type 0} (table : Table S L F W) where
  pub none_some : (a : S) → None ≡ Some a → ⊥
  none_some a e = cc

  after-append : (s : S) (xs ys : List L) → after table s (xs ++ ys) ≡ option_and_then (λ t. after table t ys) (after table s xs)
  after-append s [] ys = refl
  after-append s (x ∷ xs) ys = go (λ t. after-append t xs ys) (table.next s x) refl
    where
      go : ((t : S) → after table t (xs ++ ys) ≡ option_and_then (λ u. after table u ys) (after table t xs)) → (o : Option S) → table.next s x ≡ o → option_and_then (λ t. after table t (xs ++ ys)) (table.next s x) ≡ option_and_then (λ t. after table t ys) (option_and_then (λ t. after table t xs) (table.next s x))
      go again None e = rw e refl
      go again (Some t) e = rw e (again t)

  -- some lines, and then more
  pub after_then : (s t : S) (xs ys : List L) → after table s xs ≡ Some t → after table s (xs ++ ys) ≡ after table t ys
  after_then s t xs ys there = after-append s xs ys ∙ ap (option_and_then (λ u. after table u ys)) there

  -- one line more
  pub after_more : (lines : List L) (line : L) (s : S) → after table table.start lines ≡ Some s → after table table.start (lines ++ line ∷ []) ≡ table.next s line
  after_more lines line s here = after-append table.start lines (line ∷ []) ∙ rw here (last (table.next s line))
    where
      last : (o : Option S) → option_and_then (λ t. Some t) o ≡ o
      last None = refl
      last (Some t) = refl

  pub begins_here : CanEnd table → (lines : List L) (s : S) → after table table.start lines ≡ Some s → Begins table lines
  begins_here can_end lines s here =
      let end = can_end lines s here in
      (end.0, end.2, (end.1, after-append table.start lines end.0 ∙ rw here end.3, end.4))

  -- where a line is not allowed, no text begins so
  pub wrong_here : (lines : List L) (line : L) (s : S) → after table table.start lines ≡ Some s → table.next s line ≡ None → Begins table (lines ++ line ∷ []) → ⊥
  wrong_here lines line s here stuck (more, f, (t, there, whole)) =
      let none : after table table.start ((lines ++ line ∷ []) ++ more) ≡ None = after-append table.start (lines ++ line ∷ []) more ∙ rw (after_more lines line s here, stuck) refl in
      let wrong = sym none ∙ there in cc

  pub none_past : PassesNone table []
  none_past n s some within here = absurd (omega arith)

  pub none_past_more : (lines : List L) (line : L) (t : S) → PassesNone table lines → after table table.start (lines ++ line ∷ []) ≡ Some t → table.limit t ≡ None → PassesNone table (lines ++ line ∷ [])
  none_past_more lines line t before there low n s some within here =
      ⊎_elim
      (λ less. let less' : n ≤ length lines = omega arith in before n s some less' (sym (ap (after table table.start) (take-append-le n lines (line ∷ []) less')) ∙ here))
      (λ more. let all : take n (lines ++ line ∷ []) ≡ lines ++ line ∷ [] = take_all n (lines ++ line ∷ []) (omega (arith, length-append lines (line ∷ []))) in
      let same : t ≡ s = same_Some t s (sym there ∙ ap (after table table.start) (sym all) ∙ here) in
      ap table.limit (sym same) ∙ low)
      (cases_lt n (length lines + 1))

  -- the answer to the rest, from where these lines lead
  abbrev Again : (L → ℕ) → ℕ → List L → List L → List L → Type 0
  Again number end lines before rest = (t : S) → after table table.start before ≡ Some t → PassesNone table before → IsAnswer table number end lines (answer table number end t rest)

  -- The lines before were allowed and passed no limit
  answer_from : CanEnd table → (number : L → ℕ) (end : ℕ) (before rest : List L) (s : S) (lines : List L) → lines ≡ before ++ rest → after table table.start before ≡ Some s → PassesNone table before
      → IsAnswer table number end lines (answer table number end s rest)
  answer_from can_end number end before [] s lines parts here low = go (table.whole s) refl
    where
      all : lines ≡ before
      all = parts ∙ append-nil before

      go : (o : Option F) → table.whole s ≡ o → IsAnswer table number end lines (option_map_or (λ f. Read f) (table.whole s) (Malformed end))
      go None e = rw e (inr (
        record {
          begins = subst (Begins table) (sym all) (begins_here can_end before s here);
          none = λ f (t, there, whole). let same : s ≡ t = same_Some s t (sym here ∙ ap (after table table.start) (sym all) ∙ there) in let wrong = sym e ∙ ap table.whole same ∙ whole in cc;
          passes_none = subst (PassesNone table) (sym all) low;
        },
        refl,
      ))
      go (Some f) e = rw e ((s, ap (after table table.start) all ∙ here, e), subst (PassesNone table) (sym all) low)
  answer_from can_end number end before (line ∷ rest) s lines parts here low = go (λ t there past. answer_from can_end number end (before ++ line ∷ []) rest t lines longer there past) (table.next s line) refl
    where
      longer : lines ≡ (before ++ line ∷ []) ++ rest
      longer = parts ∙ sym (append_assoc before (line ∷ []) rest)

      low_at : Again number end lines (before ++ line ∷ []) rest → (t : S) → table.next s line ≡ Some t → (o : Option W) → table.limit t ≡ o → IsAnswer table number end lines (option_map_or (λ what. Limited what) (table.limit t) (answer table number end t rest))
      low_at again t e (Some what) past = rw past (
        before,
        line,
        rest,
        parts,
        record {
          begins = begins_here can_end (before ++ line ∷ []) t (after_more before line s here ∙ e);
          past = (t, after_more before line s here ∙ e, past);
          passes_none = low;
        },
      )
      low_at again t e None past =
          rw past (again t (after_more before line s here ∙ e)
          (none_past_more before line t low (after_more before line s here ∙ e) past))

      go : Again number end lines (before ++ line ∷ []) rest → (o : Option S) → table.next s line ≡ o → IsAnswer table number end lines (option_map_or (λ t. option_map_or (λ what. Limited what) (table.limit t) (answer table number end t rest)) (table.next s line) (Malformed (number line)))
      go again None e = rw e (inl (
        before,
        line,
        rest,
        parts,
        record {
          begins = begins_here can_end before s here;
          wrong = wrong_here before line s here e;
          passes_none = low;
        },
        refl,
      ))
      go again (Some t) e = rw e (low_at again t e (table.limit t) refl)

  -- the answer to a text is the right one
  pub answer_is : CanEnd table → (number : L → ℕ) (end : ℕ) (lines : List L) → IsAnswer table number end lines (answer table number end table.start lines)
  answer_is can_end number end lines = answer_from can_end number end [] lines table.start lines refl refl none_past

  -- allowed lines that pass no limit lead the answer on
  along : (number : L → ℕ) (end : ℕ) (before lines rest : List L) (s t : S) → PassesNone table (before ++ lines) → after table table.start before ≡ Some s → after table s lines ≡ Some t
      → answer table number end s (lines ++ rest) ≡ answer table number end t rest
  along number end before [] rest s t low here there = ap (λ (u : S). answer table number end u rest) (same_Some s t there)
  along number end before (line ∷ lines) rest s t low here there =
      go (table.next s line) refl (λ u here' there'. along number end (before ++ line ∷ []) lines rest u t (subst (PassesNone table) (sym (append_assoc before (line ∷ []) lines)) low) here' there')
    where
      front : take (length before + 1) (before ++ line ∷ lines) ≡ before ++ line ∷ []
      front = ap (take (length before + 1)) (sym (append_assoc before (line ∷ []) lines)) ∙ take_at (before ++ line ∷ []) lines (length before + 1) (length-append before (line ∷ []))

      go : (o : Option S) → table.next s line ≡ o → ((u : S) → after table table.start (before ++ line ∷ []) ≡ Some u → after table u lines ≡ Some t → answer table number end u (lines ++ rest) ≡ answer table number end t rest)
          → option_map_or (λ u. option_map_or (λ what. Limited what) (table.limit u) (answer table number end u (lines ++ rest))) (table.next s line) (Malformed (number line)) ≡ answer table number end t rest
      go None e again = let wrong = ap (option_and_then (λ u. after table u lines)) (sym e) ∙ there in absurd (none_some t wrong)
      go (Some u) e again =
          let here' : after table table.start (before ++ line ∷ []) ≡ Some u = after_more before line s here ∙ e in
          let quiet : table.limit u ≡ None = low (length before + 1) u (omega arith) (omega (arith, length-append before (line ∷ lines))) (ap (after table table.start) front ∙ here') in
          rw (e, quiet) (again u here' (ap (option_and_then (λ v. after table v lines)) (sym e) ∙ there))

  -- the answer where no line is left
  abbrev ending : ℕ → Option F → Answer F W
  ending end o = option_map_or (λ f. Read f) o (Malformed end)

  -- where the answer ends with the lines
  answer_at_end : (number : L → ℕ) (end : ℕ) (lines : List L) (t : S) → PassesNone table lines → after table table.start lines ≡ Some t → answer table number end table.start lines ≡ ending end (table.whole t)
  answer_at_end number end lines t low there = ap (answer table number end table.start) (sym (append-nil lines)) ∙ along number end [] lines [] table.start t low refl there

  -- a text that passes no limit is read, with its value
  pub read_is : (number : L → ℕ) (end : ℕ) (lines : List L) (f : F) → IsText table lines f → PassesNone table lines → answer table number end table.start lines ≡ Read f
  read_is number end lines f (t, there, whole) low = answer_at_end number end lines t low there ∙ rw whole refl

  -- what leads on has led somewhere before
  pub leads : (lines more : List L) (t : S) → after table table.start (lines ++ more) ≡ Some t → (s : S) × (after table table.start lines ≡ Some s) × (after table s more ≡ Some t)
  leads lines more t there = go (after table table.start lines) refl
    where
      go : (o : Option S) → after table table.start lines ≡ o → (s : S) × (after table table.start lines ≡ Some s) × (after table s more ≡ Some t)
      go None e = absurd (none_some t (sym (after-append table.start lines more ∙ ap (option_and_then (λ u. after table u more)) e) ∙ there))
      go (Some s) e = (s, e, sym (after-append table.start lines more ∙ ap (option_and_then (λ u. after table u more)) e) ∙ there)

  pub begun : (lines : List L) → Begins table lines → (s : S) × (after table table.start lines ≡ Some s)
  begun lines (more, f, (t, there, whole)) = let before = leads lines more t there in (before.0, before.1)

  -- the first line after which no text goes on is the malformed line
  wrong_is : CanEnd table → (number : L → ℕ) (end : ℕ) (before : List L) (line : L) (rest : List L) → IsFirstWrong table before line → answer table number end table.start (before ++ line ∷ rest) ≡ Malformed (number line)
  wrong_is can_end number end before line rest first =
      let here = begun before first.begins in
      along number end [] before (line ∷ rest) table.start here.0 first.passes_none refl here.1 ∙ stuck here.0 here.1 (table.next here.0 line) refl
    where
      stuck : (s : S) → after table table.start before ≡ Some s → (o : Option S) → table.next s line ≡ o
          → option_map_or (λ u. option_map_or (λ what. Limited what) (table.limit u) (answer table number end u rest)) (table.next s line) (Malformed (number line)) ≡ Malformed (number line)
      stuck s here None e = rw e refl
      stuck s here (Some u) e = absurd (first.wrong (begins_here can_end (before ++ line ∷ []) u (after_more before line s here ∙ e)))

  -- where lines that begin a text are none, the malformed line is past the last
  short_is : (number : L → ℕ) (end : ℕ) (lines : List L) → IsTooShort table lines → answer table number end table.start lines ≡ Malformed end
  short_is number end lines short =
      let here = begun lines short.begins in
      answer_at_end number end lines here.0 short.passes_none here.1 ∙ stops here.0 here.1 (table.whole here.0) refl
    where
      stops : (s : S) → after table table.start lines ≡ Some s → (o : Option F) → table.whole s ≡ o → ending end (table.whole s) ≡ Malformed end
      stops s here None e = rw e refl
      stops s here (Some f) e = absurd (short.none f (s, here, e))

  -- the first line that passes a limit is the line of the limit
  past_is : (number : L → ℕ) (end : ℕ) (before : List L) (line : L) (rest : List L) (what : W) → IsFirstPast table before line what → answer table number end table.start (before ++ line ∷ rest) ≡ Limited what
  past_is number end before line rest what first =
      let (s, there, past) = first.past in
      let here = leads before (line ∷ []) s there in
      along number end [] before (line ∷ rest) table.start here.0 first.passes_none refl here.1 ∙ goes here.0 s here.2 past (table.next here.0 line) refl
    where
      goes : (t s : S) → after table t (line ∷ []) ≡ Some s → table.limit s ≡ Some what → (o : Option S) → table.next t line ≡ o
          → option_map_or (λ u. option_map_or (λ what. Limited what) (table.limit u) (answer table number end u rest)) (table.next t line) (Malformed (number line)) ≡ Limited what
      goes t s there past None e = absurd (none_some s (ap (option_and_then (λ u. Some u)) (sym e) ∙ there))
      goes t s there past (Some u) e =
          let same : u ≡ s = same_Some u s (ap (option_and_then (λ v. Some v)) (sym e) ∙ there) in
          rw (e, ap table.limit same ∙ past) refl

  -- there is one right answer
  pub right_is : CanEnd table → (number : L → ℕ) (end : ℕ) (lines : List L) (a : Answer F W) → IsAnswer table number end lines a → answer table number end table.start lines ≡ a
  right_is can_end number end lines (Read f) (text, low) = read_is number end lines f text low
  right_is can_end number end lines (Malformed n) is =
      ⊎_elim
      (λ (before, line, rest, parts, first, n_is). ap (answer table number end table.start) parts ∙ wrong_is can_end number end before line rest first ∙ ap Malformed (sym n_is))
      (λ (short, n_is). short_is number end lines short ∙ ap Malformed (sym n_is))
      is
  right_is can_end number end lines (Limited what) (before, line, rest, parts, first) = ap (answer table number end table.start) parts ∙ past_is number end before line rest what first

  -- where what is kept at each place lets it end, each place that lines lead to can end
  keeps : (Fine : S → Type 0) → ((s : S) (line : L) (t : S) → Fine s → table.next s line ≡ Some t → Fine t) → (lines : List L) (s t : S) → Fine s → after table s lines ≡ Some t → Fine t
  keeps Fine kept [] s t fine there = subst Fine (same_Some s t there) fine
  keeps Fine kept (line ∷ lines) s t fine there = go (table.next s line) refl (λ u fine_u there_u. keeps Fine kept lines u t fine_u there_u)
    where
      go : (o : Option S) → table.next s line ≡ o → ((u : S) → Fine u → after table u lines ≡ Some t → Fine t) → Fine t
      go None e again = absurd (none_some t (ap (option_and_then (λ u. after table u lines)) (sym e) ∙ there))
      go (Some u) e again = again u (kept s line u fine e) (ap (option_and_then (λ v. after table v lines)) (sym e) ∙ there)

  pub can_end : (Fine : S → Type 0) → Fine table.start → ((s : S) (line : L) (t : S) → Fine s → table.next s line ≡ Some t → Fine t)
      → ((s : S) → Fine s → (more : List L) × (t : S) × (f : F) × (after table s more ≡ Some t) × (table.whole t ≡ Some f)) → CanEnd table
  can_end Fine first kept ends lines s there = ends s (keeps Fine kept lines table.start s first there)

  -- ---- what lines that pass no limit keep holds where a text ends

  -- the fact holds of each line
  abbrev pub EachLine : (L → Type 0) → List L → Type 0
  EachLine Good [] = Unit {0}
  EachLine Good (line ∷ lines) = Good line × EachLine Good lines

  -- an allowed line of these that passes no limit keeps it
  abbrev pub KeepsWhere : (L → Type 0) → (S → Type 0) → Type 0
  KeepsWhere Good Kept = (s : S) (line : L) (t : S) → Good line → Kept s → table.next s line ≡ Some t → table.limit t ≡ None → Kept t

  abbrev pub Keeps : (S → Type 0) → Type 0
  Keeps Kept = (s : S) (line : L) (t : S) → Kept s → table.next s line ≡ Some t → table.limit t ≡ None → Kept t

  kept_along : (Good : L → Type 0) (Kept : S → Type 0) → KeepsWhere Good Kept → (before lines : List L) (s t : S) → EachLine Good lines → PassesNone table (before ++ lines)
      → after table table.start before ≡ Some s → Kept s → after table s lines ≡ Some t → Kept t
  kept_along Good Kept keeps before [] s t each low here kept there = subst Kept (same_Some s t there) kept
  kept_along Good Kept keeps before (line ∷ lines) s t each low here kept there =
      go (table.next s line) refl there (λ u here' kept' there'. kept_along Good Kept keeps (before ++ line ∷ []) lines u t each.1 (subst (PassesNone table) (sym (append_assoc before (line ∷ []) lines)) low) here' kept' there')
    where
      front : take (length before + 1) (before ++ line ∷ lines) ≡ before ++ line ∷ []
      front = ap (take (length before + 1)) (sym (append_assoc before (line ∷ []) lines)) ∙ take_at (before ++ line ∷ []) lines (length before + 1) (length-append before (line ∷ []))

      go : (o : Option S) → table.next s line ≡ o → option_and_then (λ u. after table u lines) o ≡ Some t
          → ((u : S) → after table table.start (before ++ line ∷ []) ≡ Some u → Kept u → after table u lines ≡ Some t → Kept t) → Kept t
      go None e there again = absurd (none_some t there)
      go (Some u) e there again =
          let here' : after table table.start (before ++ line ∷ []) ≡ Some u = after_more before line s here ∙ e in
          let quiet : table.limit u ≡ None = low (length before + 1) u (omega arith) (omega (arith, length-append before (line ∷ lines))) (ap (after table table.start) front ∙ here') in
          again u here' (keeps s line u each.0 kept e quiet) there

  pub kept_where : (Good : L → Type 0) (Kept : S → Type 0) → Kept table.start → KeepsWhere Good Kept → (lines : List L) (f : F) → EachLine Good lines → IsText table lines f → PassesNone table lines
      → (s : S) × Kept s × (table.whole s ≡ Some f)
  kept_where Good Kept first keeps lines f each (s, there, whole) low = (s, kept_along Good Kept keeps [] lines table.start s each low refl first there, whole)

  -- the same for any lines
  any_lines : (lines : List L) → EachLine (λ line. Unit {0}) lines
  any_lines [] = tt
  any_lines (line ∷ lines) = (tt, any_lines lines)

  pub kept_to_the_end : (Kept : S → Type 0) → Kept table.start → Keeps Kept → (lines : List L) (f : F) → IsText table lines f → PassesNone table lines → (s : S) × Kept s × (table.whole s ≡ Some f)
  kept_to_the_end Kept first keeps lines f text low = kept_where (λ line. Unit {0}) Kept first (λ s line t good kept is quiet. keeps s line t kept is quiet) lines f (any_lines lines) text low
