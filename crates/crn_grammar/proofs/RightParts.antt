-- The answer to a part line by line is the right one, and there is one right answer.
use Rattle.std.proofs.Common.{◌≡◌, ℕ, ◌+◌, inl, inr, Bool, true, false, cond, List, [], ◌∷◌, ◌++◌, length, take, Option, Some, None, sym, refl, ap, ◌∙◌, subst, ⊎_elim, arith, append_assoc, append-nil, length-append, take_at}
use Rattle.std.proofs.lemmas.Bool.{cases_Bool, MatchBool-at_true, MatchBool-at_false}
use Rattle.std.specs.Bool.{MatchBool}
use Rattle.std.specs.Option.{option_and_then, option_map_or}
use Rattle.std.proofs.lemmas.Option.{same_Some}
use Rattle.crn_grammar.specs.Table.{Table, IsTooShort, IsFirstPast, after, IsText, Begins, PassesNone, CanEnd}
use Rattle.crn_grammar.specs.Part.{PartAnswer, Ends, Wrong, Past, part_end, part_answer, AllGoOn, Leaves, IsPart, IsFirstWrongInPart, IsPartAnswer}
use Rattle.crn_grammar.proofs.TableLaws.{none_some, after_more, begins_here, wrong_here, none_past, none_past_more, leads, begun}

-- ---- lines that go on
module _ {S L F W : Type 0} (table : Table S L F W) (goes_on : S → L → Bool) where
  -- one line more goes on
  all_more : (lines : List L) (line : L) (s t : S) → AllGoOn table goes_on s lines → after table s lines ≡ Some t → goes_on t line ≡ true → AllGoOn table goes_on s (lines ++ line ∷ [])
  all_more [] line s t goes there on = (subst (λ u. goes_on u line ≡ true) (sym (same_Some s t there)) on, λ u is. tt)
  all_more (x ∷ xs) line s t goes there on =
      (goes.0, λ u is. all_more xs line u t (goes.1 u is) (sym (ap (option_and_then (λ v. after table v xs)) is) ∙ there) on)

  -- what goes on with a line more went on before it
  all_fewer : (lines : List L) (line : L) (s : S) → AllGoOn table goes_on s (lines ++ line ∷ []) → AllGoOn table goes_on s lines
  all_fewer [] line s goes = tt
  all_fewer (x ∷ xs) line s goes = (goes.0, λ u is. all_fewer xs line u (goes.1 u is))

  all_last : (lines : List L) (line : L) (s t : S) → AllGoOn table goes_on s (lines ++ line ∷ []) → after table s lines ≡ Some t → goes_on t line ≡ true
  all_last [] line s t goes there = subst (λ u. goes_on u line ≡ true) (same_Some s t there) goes.0
  all_last (x ∷ xs) line s t goes there = go (table.next s x) refl there (λ u is here. all_last xs line u t (goes.1 u is) here)
    where
      go : (o : Option S) → table.next s x ≡ o → option_and_then (λ u. after table u xs) o ≡ Some t → ((u : S) → table.next s x ≡ Some u → after table u xs ≡ Some t → goes_on t line ≡ true) → goes_on t line ≡ true
      go None e here again = absurd (none_some table t here)
      go (Some u) e here again = again u e here

  no_text : (before : List L) (s : S) → after table table.start before ≡ Some s → table.whole s ≡ None → (f : F) → IsText table before f → ⊥
  no_text before s here none f (t, there, whole) =
      let same : s ≡ t = same_Some s t (sym here ∙ there) in
      let wrong = sym none ∙ ap table.whole same ∙ whole in
      cc

-- the lines before went on, were allowed and passed no limit
record Led {S L F W : Type 0} (table : Table S L F W) (goes_on : S → L → Bool) (before : List L) (s : S) : Type 0 where
  here : after table table.start before ≡ Some s
  goes : AllGoOn table goes_on table.start before
  low : PassesNone table before

module _ {S L F W : Type 0} (table : Table S L F W) (goes_on : S → L → Bool) (number : L → ℕ) (end : ℕ) where
  abbrev told : S → List L → PartAnswer L F W
  told s lines = part_answer table goes_on number end s lines

  abbrev onward : List L → ℕ → Option S → PartAnswer L F W
  onward rest n o = option_map_or (λ t. option_map_or (λ what. Past what) (table.limit t) (told t rest)) o (Wrong n)

  -- where the line goes on
  pub goes_is : (s : S) (line : L) (rest : List L) → goes_on s line ≡ true → told s (line ∷ rest) ≡ onward rest (number line) (table.next s line)
  goes_is s line rest on = ap (λ b. cond b (onward rest (number line) (table.next s line)) (part_end table (number line) s (line ∷ rest))) on

  -- where it does not
  pub stops_is : (s : S) (line : L) (rest : List L) → goes_on s line ≡ false → told s (line ∷ rest) ≡ part_end table (number line) s (line ∷ rest)
  stops_is s line rest off = ap (λ b. cond b (onward rest (number line) (table.next s line)) (part_end table (number line) s (line ∷ rest))) off

  abbrev limited : Option W → PartAnswer L F W → PartAnswer L F W
  limited o other = option_map_or (λ what. Past what) o other

  abbrev ending : List L → ℕ → Option F → PartAnswer L F W
  ending rest n o = option_map_or (λ f. Ends f rest) o (Wrong n)

  abbrev right : List L → PartAnswer L F W → Type 0
  right lines a = IsPartAnswer table goes_on number end lines a

  -- why a line has no part that ends before or after it, by whether it goes on
  abbrev fails : List L → L → Bool → Type 0
  fails before line on = MatchBool on (¬ Begins table (before ++ line ∷ [])) ((f : F) → ¬ IsText table before f)

  abbrev is_led : List L → S → Type 0
  is_led before s = Led table goes_on before s

  led_more : (before : List L) (line : L) (s t : S) → is_led before s → goes_on s line ≡ true → table.next s line ≡ Some t → table.limit t ≡ None → is_led (before ++ line ∷ []) t
  led_more before line s t led on e past =
      let there : after table table.start (before ++ line ∷ []) ≡ Some t = after_more table before line s led.here ∙ e in
      record {
        here = there;
        goes = all_more table goes_on before line table.start s led.goes led.here on;
        low = none_past_more table before line t led.low there past;
      }

  -- ---- the answer is right
  abbrev Again : List L → List L → List L → Type 0
  Again lines before rest = (t : S) → is_led before t → right lines (told t rest)

  -- the lines before led here
  answer_from : CanEnd table → (before rest : List L) (s : S) (lines : List L) → lines ≡ before ++ rest → is_led before s → right lines (told s rest)
  answer_from can_end before [] s lines parts led = go (table.whole s) refl
    where
      all : lines ≡ before
      all = parts ∙ append-nil before

      go : (o : Option F) → table.whole s ≡ o → right lines (option_map_or (λ f. Ends f []) (table.whole s) (Wrong end))
      go None e = rw e (inr (
        record {
          begins = subst (Begins table) (sym all) (begins_here table can_end before s led.here);
          none = λ f is. no_text table goes_on before s led.here e f (subst (λ ls. IsText table ls f) all is);
          passes_none = subst (PassesNone table) (sym all) led.low;
        },
        subst (AllGoOn table goes_on table.start) (sym all) led.goes,
        refl,
      ))
      go (Some f) e = rw e (record { part = before; lines_are = parts; text = (s, led.here, e); goes = led.goes; leaves = λ t is. tt; passes_none = led.low })
  answer_from can_end before (line ∷ rest) s lines parts led =
      go (λ t more. answer_from can_end (before ++ line ∷ []) rest t lines longer more)
    where
      longer : lines ≡ (before ++ line ∷ []) ++ rest
      longer = parts ∙ sym (append_assoc before (line ∷ []) rest)

      -- at the place to which they lead
      at_place : (P : S → Type 0) → P s → (t : S) → after table table.start before ≡ Some t → P t
      at_place P p t is = subst P (same_Some s t (sym led.here ∙ is)) p

      wrong_line : fails before line (goes_on s line) → right lines (Wrong (number line))
      wrong_line wrong = inl (
        before,
        line,
        rest,
        parts,
        record { begins = begins_here table can_end before s led.here; goes = led.goes; wrong = λ t is. at_place (λ u. fails before line (goes_on u line)) wrong t is; passes_none = led.low },
        refl,
      )

      low_at : Again lines (before ++ line ∷ []) rest → goes_on s line ≡ true → (t : S) → table.next s line ≡ Some t → (o : Option W) → table.limit t ≡ o → right lines (option_map_or (λ what. Past what) (table.limit t) (told t rest))
      low_at again on t e (Some what) past =
          let there : after table table.start (before ++ line ∷ []) ≡ Some t = after_more table before line s led.here ∙ e in
          rw past (
            before,
            line,
            rest,
            parts,
            record { begins = begins_here table can_end (before ++ line ∷ []) t there; past = (t, there, past); passes_none = led.low },
            all_more table goes_on before line table.start s led.goes led.here on,
          )
      low_at again on t e None past = rw past (again t (led_more before line s t led on e past))

      inside : Again lines (before ++ line ∷ []) rest → goes_on s line ≡ true → (o : Option S) → table.next s line ≡ o → right lines (onward rest (number line) (table.next s line))
      inside again on None e =
          let wrong : fails before line (goes_on s line) = subst (fails before line) (sym on) (wrong_here table before line s led.here e) in
          rw e (wrong_line wrong)
      inside again on (Some t) e = rw e (low_at again on t e (table.limit t) refl)

      outside : goes_on s line ≡ false → (o : Option F) → table.whole s ≡ o → right lines (part_end table (number line) s (line ∷ rest))
      outside off None e =
          let wrong : fails before line (goes_on s line) = subst (fails before line) (sym off) (no_text table goes_on before s led.here e) in
          rw e (wrong_line wrong)
      outside off (Some f) e =
          rw e (record { part = before; lines_are = parts; text = (s, led.here, e); goes = led.goes; leaves = λ t is. at_place (λ u. goes_on u line ≡ false) off t is; passes_none = led.low })

      go : Again lines (before ++ line ∷ []) rest → right lines (told s (line ∷ rest))
      go again =
          ⊎_elim
          (λ on. subst (right lines) (sym (goes_is s line rest on)) (inside again on (table.next s line) refl))
          (λ off. subst (right lines) (sym (stops_is s line rest off)) (outside off (table.whole s) refl))
          (cases_Bool (goes_on s line))

  pub part_answer_is : CanEnd table → (lines : List L) → right lines (told table.start lines)
  part_answer_is can_end lines = answer_from can_end [] lines table.start lines refl (record { here = refl; goes = tt; low = none_past table })

  -- ---- what the answer with a value says
  part_from : (before rest : List L) (s : S) (lines : List L) (f : F) (left : List L) → lines ≡ before ++ rest → is_led before s → told s rest ≡ Ends f left → IsPart table goes_on lines f left
  part_from before [] s lines f left parts led is = go (table.whole s) refl is
    where
      go : (o : Option F) → table.whole s ≡ o → ending [] end o ≡ Ends f left → IsPart table goes_on lines f left
      go None e is = let wrong : ◌≡◌ {A = PartAnswer L F W} (Wrong end) (Ends f left) = is in absurd (cc)
      go (Some g) e is =
          let value : g ≡ f = cc in
          let none : [] ≡ left = cc in
          subst (λ ls. IsPart table goes_on lines f ls) none
          (record { part = before; lines_are = parts; text = (s, led.here, e ∙ ap (λ h. Some h) value); goes = led.goes; leaves = λ t there. tt; passes_none = led.low })
  part_from before (line ∷ rest) s lines f left parts led is = go (λ t more there. part_from (before ++ line ∷ []) rest t lines f left longer more there)
    where
      longer : lines ≡ (before ++ line ∷ []) ++ rest
      longer = parts ∙ sym (append_assoc before (line ∷ []) rest)

      low_at : ((t : S) → is_led (before ++ line ∷ []) t → told t rest ≡ Ends f left → IsPart table goes_on lines f left) → goes_on s line ≡ true → (t : S) → table.next s line ≡ Some t → (o : Option W) → table.limit t ≡ o
          → limited o (told t rest) ≡ Ends f left → IsPart table goes_on lines f left
      low_at again on t e (Some what) past is = let wrong : ◌≡◌ {A = PartAnswer L F W} (Past what) (Ends f left) = is in absurd (cc)
      low_at again on t e None past is = again t (led_more before line s t led on e past) is

      inside : ((t : S) → is_led (before ++ line ∷ []) t → told t rest ≡ Ends f left → IsPart table goes_on lines f left) → goes_on s line ≡ true → (o : Option S) → table.next s line ≡ o
          → onward rest (number line) o ≡ Ends f left → IsPart table goes_on lines f left
      inside again on None e is = let wrong : ◌≡◌ {A = PartAnswer L F W} (Wrong (number line)) (Ends f left) = is in absurd (cc)
      inside again on (Some t) e is = low_at again on t e (table.limit t) refl is

      outside : goes_on s line ≡ false → (o : Option F) → table.whole s ≡ o → ending (line ∷ rest) (number line) o ≡ Ends f left → IsPart table goes_on lines f left
      outside off None e is = let wrong : ◌≡◌ {A = PartAnswer L F W} (Wrong (number line)) (Ends f left) = is in absurd (cc)
      outside off (Some g) e is =
          let value : g ≡ f = cc in
          let more : line ∷ rest ≡ left = cc in
          subst (λ ls. IsPart table goes_on lines f ls) more
          (record {
            part = before;
            lines_are = parts;
            text = (s, led.here, e ∙ ap (λ h. Some h) value);
            goes = led.goes;
            leaves = λ t there. subst (λ u. goes_on u line ≡ false) (same_Some s t (sym led.here ∙ there)) off;
            passes_none = led.low;
          })

      go : ((t : S) → is_led (before ++ line ∷ []) t → told t rest ≡ Ends f left → IsPart table goes_on lines f left) → IsPart table goes_on lines f left
      go again =
          ⊎_elim
          (λ on. inside again on (table.next s line) refl (sym (goes_is s line rest on) ∙ is))
          (λ off. outside off (table.whole s) refl (sym (stops_is s line rest off) ∙ is))
          (cases_Bool (goes_on s line))

  pub part_found : (lines : List L) (f : F) (rest : List L) → told table.start lines ≡ Ends f rest → IsPart table goes_on lines f rest
  part_found lines f rest is = part_from [] lines table.start lines f rest refl (record { here = refl; goes = tt; low = none_past table }) is

  -- ---- there is one right answer
  -- allowed lines that go on and pass no limit lead the answer on
  along : (before lines rest : List L) (s t : S) → PassesNone table (before ++ lines) → after table table.start before ≡ Some s → after table s lines ≡ Some t → AllGoOn table goes_on s lines
      → told s (lines ++ rest) ≡ told t rest
  along before [] rest s t low here there goes = ap (λ (u : S). told u rest) (same_Some s t there)
  along before (line ∷ lines) rest s t low here there goes =
      goes_is s line (lines ++ rest) goes.0
      ∙ go (table.next s line) refl (λ u e here' there'. along (before ++ line ∷ []) lines rest u t (subst (PassesNone table) (sym (append_assoc before (line ∷ []) lines)) low) here' there' (goes.1 u e))
    where
      front : take (length before + 1) (before ++ line ∷ lines) ≡ before ++ line ∷ []
      front = ap (take (length before + 1)) (sym (append_assoc before (line ∷ []) lines)) ∙ take_at (before ++ line ∷ []) lines (length before + 1) (length-append before (line ∷ []))

      go : (o : Option S) → table.next s line ≡ o → ((u : S) → table.next s line ≡ Some u → after table table.start (before ++ line ∷ []) ≡ Some u → after table u lines ≡ Some t → told u (lines ++ rest) ≡ told t rest)
          → onward (lines ++ rest) (number line) (table.next s line) ≡ told t rest
      go None e again = let wrong = ap (option_and_then (λ u. after table u lines)) (sym e) ∙ there in absurd (none_some table t wrong)
      go (Some u) e again =
          let here' : after table table.start (before ++ line ∷ []) ≡ Some u = after_more table before line s here ∙ e in
          let quiet : table.limit u ≡ None = low (length before + 1) u (omega arith) (omega (arith, length-append before (line ∷ lines))) (ap (after table table.start) front ∙ here') in
          rw (e, quiet) (again u e here' (ap (option_and_then (λ v. after table v lines)) (sym e) ∙ there))

  -- where a part is whole and the next line does not go on
  ends_here : (f : F) (t : S) (rest : List L) → table.whole t ≡ Some f → Leaves goes_on t rest → told t rest ≡ Ends f rest
  ends_here f t [] whole leaves = rw whole refl
  ends_here f t (line ∷ rest) whole leaves = stops_is t line rest leaves ∙ rw whole refl

  pub part_is : (lines : List L) (f : F) (rest : List L) → IsPart table goes_on lines f rest → told table.start lines ≡ Ends f rest
  part_is lines f rest is =
      let (t, there, whole) = is.text in
      ap (told table.start) is.lines_are ∙ along [] is.part rest table.start t is.passes_none refl there is.goes ∙ ends_here f t rest whole (is.leaves t there)

  wrong_is : CanEnd table → (before : List L) (line : L) (rest : List L) → IsFirstWrongInPart table goes_on before line → told table.start (before ++ line ∷ rest) ≡ Wrong (number line)
  wrong_is can_end before line rest first =
      let here = begun table before first.begins in
      along [] before (line ∷ rest) table.start here.0 first.passes_none refl here.1 first.goes ∙ stuck here.0 here.1
    where
      at_next : (s : S) → after table table.start before ≡ Some s → goes_on s line ≡ true → (o : Option S) → table.next s line ≡ o → onward rest (number line) (table.next s line) ≡ Wrong (number line)
      at_next s here on None e = rw e refl
      at_next s here on (Some u) e =
          absurd (MatchBool-at_true (¬ Begins table (before ++ line ∷ [])) ((f : F) → ¬ IsText table before f) on (first.wrong s here) (begins_here table can_end (before ++ line ∷ []) u (after_more table before line s here ∙ e)))

      at_end : (s : S) → after table table.start before ≡ Some s → goes_on s line ≡ false → (o : Option F) → table.whole s ≡ o → part_end table (number line) s (line ∷ rest) ≡ Wrong (number line)
      at_end s here off None e = rw e refl
      at_end s here off (Some f) e = absurd (MatchBool-at_false (¬ Begins table (before ++ line ∷ [])) ((f : F) → ¬ IsText table before f) off (first.wrong s here) f (s, here, e))

      stuck : (s : S) → after table table.start before ≡ Some s → told s (line ∷ rest) ≡ Wrong (number line)
      stuck s here =
          ⊎_elim
          (λ on. goes_is s line rest on ∙ at_next s here on (table.next s line) refl)
          (λ off. stops_is s line rest off ∙ at_end s here off (table.whole s) refl)
          (cases_Bool (goes_on s line))

  short_is : (lines : List L) → IsTooShort table lines → AllGoOn table goes_on table.start lines → told table.start lines ≡ Wrong end
  short_is lines short goes =
      let here = begun table lines short.begins in
      ap (told table.start) (sym (append-nil lines)) ∙ along [] lines [] table.start here.0 short.passes_none refl here.1 goes ∙ stops here.0 here.1 (table.whole here.0) refl
    where
      stops : (s : S) → after table table.start lines ≡ Some s → (o : Option F) → table.whole s ≡ o → part_end table end s [] ≡ Wrong end
      stops s here None e = rw e refl
      stops s here (Some f) e = absurd (short.none f (s, here, e))

  past_is : (before : List L) (line : L) (rest : List L) (what : W) → IsFirstPast table before line what → AllGoOn table goes_on table.start (before ++ line ∷ []) → told table.start (before ++ line ∷ rest) ≡ Past what
  past_is before line rest what first goes =
      let (s, there, past) = first.past in
      let here = leads table before (line ∷ []) s there in
      along [] before (line ∷ rest) table.start here.0 first.passes_none refl here.1 (all_fewer table goes_on before line table.start goes)
      ∙ goes_is here.0 line rest (all_last table goes_on before line table.start here.0 goes here.1)
      ∙ led_on here.0 s here.2 past (table.next here.0 line) refl
    where
      led_on : (t s : S) → after table t (line ∷ []) ≡ Some s → table.limit s ≡ Some what → (o : Option S) → table.next t line ≡ o → onward rest (number line) (table.next t line) ≡ Past what
      led_on t s there past None e = absurd (none_some table s (ap (option_and_then (λ u. Some u)) (sym e) ∙ there))
      led_on t s there past (Some u) e =
          let same : u ≡ s = same_Some u s (ap (option_and_then (λ v. Some v)) (sym e) ∙ there) in
          rw (e, ap table.limit same ∙ past) refl

  pub right_part_is : CanEnd table → (lines : List L) (a : PartAnswer L F W) → right lines a → told table.start lines ≡ a
  right_part_is can_end lines (Ends f rest) is = part_is lines f rest is
  right_part_is can_end lines (Wrong n) is =
      ⊎_elim
      (λ (before, line, rest, parts, first, n_is). ap (told table.start) parts ∙ wrong_is can_end before line rest first ∙ ap Wrong (sym n_is))
      (λ (short, goes, n_is). short_is lines short goes ∙ ap Wrong (sym n_is))
      is
  right_part_is can_end lines (Past what) (before, line, rest, parts, first, goes) = ap (told table.start) parts ∙ past_is before line rest what first goes
