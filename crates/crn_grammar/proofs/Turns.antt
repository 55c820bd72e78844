-- One line more of a text or of a part, as a reader goes along the lines, and its end.
use Rattle.std.proofs.Common.{◌≡◌, ℕ, ◌+◌, ◌≤◌, Bool, true, false, List, [], ◌∷◌, length, drop, Option, Some, None, Result, Ok, Err, refl, sym, ◌∙◌, ap, ap₂, subst, arith}
use Rattle.std.specs.Prelude.{IsErrAnd}
use Rattle.std.specs.Option.{option_map_or}
use Rattle.crn_token.specs.declared.Counted.{Counted}
use Rattle.crn_token.specs.declared.Line.{Line}
use Rattle.crn_token.specs.declared.Lines.{Lines}
use Rattle.crn_token.specs.Lines.{AreLinesOf}
use Rattle.crn_token.specs.Plain.{PlainLine, plain_line, plain_lines, line_number, end_of}
use Rattle.crn_token.proofs.LineLaws.{count_is, past_lines}
use Rattle.crn_grammar.specs.declared.error.TextError.{TextError}
use Rattle.crn_grammar.specs.declared.error.TextError.TheVariants as error
use Rattle.crn_grammar.specs.Table.{Table, Answer, Read, Malformed, Limited, answer}
use Rattle.crn_grammar.specs.Part.{PartAnswer, Ends, Wrong, Past, part_end, part_answer}
use Rattle.crn_grammar.specs.Reading.{judged, Refuses, Gives, IsRight, RefusesPart, GivesPart, IsRightPart, GivesUpTo, IsRightUpTo}
use Rattle.crn_grammar.proofs.RightParts.{goes_is, stops_is}

-- ---- the answer to one line more
module _ {S : Type 0} (limit : S → Option (Counted × ℕ)) (number : ℕ) where
  -- the line is allowed and passes no limit
  pub judged_read : (o : Option S) (t : S) → judged limit number o ≡ Read t → (o ≡ Some t) × (limit t ≡ None)
  judged_read None t is = let wrong : ◌≡◌ {A = Answer S (Counted × ℕ)} (Malformed number) (Read t) = is in cc
  judged_read (Some u) t is = go (limit u) refl
    where
      go : (l : Option (Counted × ℕ)) → limit u ≡ l → (Some u ≡ Some t) × (limit t ≡ None)
      go None low =
          let same : ◌≡◌ {A = Answer S (Counted × ℕ)} (Read u) (Read t) = sym (ap (λ l. option_map_or (λ what. Limited what) l (Read u)) low) ∙ is in
          let alike : u ≡ t = cc in
          (ap (λ v. Some v) alike, sym (ap limit alike) ∙ low)
      go (Some what) past = let wrong : ◌≡◌ {A = Answer S (Counted × ℕ)} (Limited what) (Read t) = sym (ap (λ l. option_map_or (λ w. Limited w) l (Read u)) past) ∙ is in absurd (cc)

  -- it is not allowed
  pub judged_wrong : (o : Option S) (n : ℕ) → judged limit number o ≡ Malformed n → (o ≡ None) × (number ≡ n)
  judged_wrong None n is = let same : ◌≡◌ {A = Answer S (Counted × ℕ)} (Malformed number) (Malformed n) = is in let alike : number ≡ n = cc in (refl, alike)
  judged_wrong (Some u) n is = go (limit u) refl
    where
      go : (l : Option (Counted × ℕ)) → limit u ≡ l → (Some u ≡ None) × (number ≡ n)
      go None low = let wrong : ◌≡◌ {A = Answer S (Counted × ℕ)} (Read u) (Malformed n) = sym (ap (λ l. option_map_or (λ what. Limited what) l (Read u)) low) ∙ is in absurd (cc)
      go (Some what) past = let wrong : ◌≡◌ {A = Answer S (Counted × ℕ)} (Limited what) (Malformed n) = sym (ap (λ l. option_map_or (λ w. Limited w) l (Read u)) past) ∙ is in absurd (cc)

  -- it passes a limit
  pub judged_past : (o : Option S) (what : Counted × ℕ) → judged limit number o ≡ Limited what → (t : S) × (o ≡ Some t) × (limit t ≡ Some what)
  judged_past None what is = let wrong : ◌≡◌ {A = Answer S (Counted × ℕ)} (Malformed number) (Limited what) = is in absurd (cc)
  judged_past (Some u) what is = go (limit u) refl
    where
      go : (l : Option (Counted × ℕ)) → limit u ≡ l → (t : S) × (Some u ≡ Some t) × (limit t ≡ Some what)
      go None low = let wrong : ◌≡◌ {A = Answer S (Counted × ℕ)} (Read u) (Limited what) = sym (ap (λ l. option_map_or (λ w. Limited w) l (Read u)) low) ∙ is in absurd (cc)
      go (Some other) past =
          let same : ◌≡◌ {A = Answer S (Counted × ℕ)} (Limited other) (Limited what) = sym (ap (λ l. option_map_or (λ w. Limited w) l (Read u)) past) ∙ is in
          let alike : other ≡ what = cc in
          (u, refl, past ∙ ap (λ w. Some w) alike)

-- what is refused with an error of a call is refused so
pub passed_on : {X Y : Type 0} (view : X → Y) (r : Result X TextError) (e : TextError) (a : Answer Y (Counted × ℕ)) → IsErrAnd r (λ f. f ≡ e) → Refuses e a → Gives view r a
passed_on view (Ok x) e a is refuses = absurd is
passed_on view (Err f) e a is refuses = subst (λ g. Refuses g a) (sym is) refuses

pub part_passed_on : {L X Y : Type 0} (view : X → Y) (lines : List L) (r : Result (X × ℕ) TextError) (e : TextError) (part : PartAnswer L Y (Counted × ℕ)) → IsErrAnd r (λ f. f ≡ e) → RefusesPart e part
    → GivesPart view lines r part
part_passed_on view lines (Ok x) e part is refuses = absurd is
part_passed_on view lines (Err f) e part is refuses = subst (λ g. RefusesPart g part) (sym is) refuses

pub up_to_passed_on : {L X Y : Type 0} (view : X → Y) (left : List L) (r : Result X TextError) (e : TextError) (part : PartAnswer L Y (Counted × ℕ)) → IsErrAnd r (λ f. f ≡ e) → RefusesPart e part
    → GivesUpTo view left r part
up_to_passed_on view left (Ok x) e part is refuses = absurd is
up_to_passed_on view left (Err f) e part is refuses = subst (λ g. RefusesPart g part) (sym is) refuses

-- ---- a call gives what is right where it gives the answer
pub right_given : {X Y : Type 0} (view : X → Y) (Right : Answer Y (Counted × ℕ) → Type 0) (r : Result X TextError) (a : Answer Y (Counted × ℕ)) → Gives view r a → Right a → IsRight view r Right
right_given view Right (Ok x) a gives is = subst Right gives is
right_given view Right (Err (error.Malformed n)) a gives is = subst Right gives is
right_given view Right (Err (error.Limit what count)) a gives is = subst Right gives is
right_given view Right (Err error.Memory) a gives is = tt

pub right_part_given : {L X Y : Type 0} (view : X → Y) (lines : List L) (Right : PartAnswer L Y (Counted × ℕ) → Type 0) (r : Result (X × ℕ) TextError) (a : PartAnswer L Y (Counted × ℕ))
    → GivesPart view lines r a → Right a → IsRightPart view lines r Right
right_part_given view lines Right (Ok (x, next)) a gives is = subst Right gives is
right_part_given view lines Right (Err (error.Malformed n)) a gives is = subst Right gives is
right_part_given view lines Right (Err (error.Limit what count)) a gives is = subst Right gives is
right_part_given view lines Right (Err error.Memory) a gives is = tt

pub right_up_to_given : {L X Y : Type 0} (view : X → Y) (left : List L) (Right : PartAnswer L Y (Counted × ℕ) → Type 0) (r : Result X TextError) (a : PartAnswer L Y (Counted × ℕ))
    → GivesUpTo view left r a → Right a → IsRightUpTo view left r Right
right_up_to_given view left Right (Ok x) a gives is = subst Right gives is
right_up_to_given view left Right (Err (error.Malformed n)) a gives is = subst Right gives is
right_up_to_given view left Right (Err (error.Limit what count)) a gives is = subst Right gives is
right_up_to_given view left Right (Err error.Memory) a gives is = tt

-- ---- lines of a text
module _ {S F : Type 0} (table : Table S PlainLine F (Counted × ℕ)) (bytes : List ℕ) where
  abbrev pub told : S → List PlainLine → Answer F (Counted × ℕ)
  told t lines = answer table line_number (end_of bytes) t lines

  -- the line leads on
  pub turn_read : (all : Answer F (Counted × ℕ)) (lines : List PlainLine) (line : Line) (rest : List PlainLine) (t u : S) (next : Option S) → lines ≡ plain_line bytes line ∷ rest
      → told t lines ≡ all → next ≡ table.next t (plain_line bytes line) → judged table.limit line.number next ≡ Read u
      → told u rest ≡ all
  turn_read all lines line rest t u next here before next_is is =
      let (some, low) = judged_read table.limit line.number next u is in
      let led : table.next t (plain_line bytes line) ≡ Some u = sym next_is ∙ some in
      let step : told t (plain_line bytes line ∷ rest) ≡ told u rest = rw (led, low) refl in
      sym step ∙ ap (told t) (sym here) ∙ before

  -- the line is refused
  step_refused : (line : PlainLine) (rest : List PlainLine) (t : S) (e : TextError) → Refuses e (judged table.limit line.number (table.next t line)) → Refuses e (told t (line ∷ rest))
  step_refused line rest t (error.Malformed n) is = let (none, same) = judged_wrong table.limit line.number (table.next t line) n is in rw none (ap Malformed same)
  step_refused line rest t (error.Limit what count) is =
      let (u, some, past) = judged_past table.limit line.number (table.next t line) (what, count) is in
      rw (some, past) refl
  step_refused line rest t error.Memory is = tt

  pub turn_refused : (all : Answer F (Counted × ℕ)) (lines : List PlainLine) (line : Line) (rest : List PlainLine) (t : S) (e : TextError) (next : Option S) → lines ≡ plain_line bytes line ∷ rest
      → told t lines ≡ all → next ≡ table.next t (plain_line bytes line) → Refuses e (judged table.limit line.number next)
      → Refuses e all
  turn_refused all lines line rest t e next here before next_is is =
      subst (Refuses e) (ap (told t) (sym here) ∙ before)
      (step_refused (plain_line bytes line) rest t e (subst (λ o. Refuses e (judged table.limit line.number o)) next_is is))

  -- no line is left
  pub turn_ends : (all : Answer F (Counted × ℕ)) (lines : List PlainLine) (count : ℕ) (t : S) → lines ≡ [] → count + 1 ≡ end_of bytes
      → told t lines ≡ all
      → option_map_or (λ v. Read v) (table.whole t) (Malformed (count + 1)) ≡ all
  turn_ends all lines count t none end_is before =
      ap (λ n. option_map_or (λ v. Read v) (table.whole t) (Malformed n)) end_is ∙ ap (told t) (sym none) ∙ before

-- ---- lines of a part
module _ {S F : Type 0} (table : Table S PlainLine F (Counted × ℕ)) (goes_on : S → PlainLine → Bool) (bytes : List ℕ) where
  abbrev pub part_told : S → List PlainLine → PartAnswer PlainLine F (Counted × ℕ)
  part_told s lines = part_answer table goes_on line_number (end_of bytes) s lines

  -- the line leads on
  pub part_read : (all : PartAnswer PlainLine F (Counted × ℕ)) (lines : List PlainLine) (line : Line) (rest : List PlainLine) (s t : S) (next : Option S) → lines ≡ plain_line bytes line ∷ rest
      → part_told s lines ≡ all → goes_on s (plain_line bytes line) ≡ true → next ≡ table.next s (plain_line bytes line) → judged table.limit line.number next ≡ Read t
      → part_told t rest ≡ all
  part_read all lines line rest s t next here before on next_is is =
      let (some, low) = judged_read table.limit line.number next t is in
      let led : table.next s (plain_line bytes line) ≡ Some t = sym next_is ∙ some in
      let step : part_told s (plain_line bytes line ∷ rest) ≡ part_told t rest = goes_is table goes_on line_number (end_of bytes) s (plain_line bytes line) rest on ∙ rw (led, low) refl in
      sym step ∙ ap (part_told s) (sym here) ∙ before

  -- the line is refused
  part_step_refused : (line : PlainLine) (rest : List PlainLine) (s : S) (e : TextError) → goes_on s line ≡ true → Refuses e (judged table.limit line.number (table.next s line)) → RefusesPart e (part_told s (line ∷ rest))
  part_step_refused line rest s (error.Malformed n) on is =
      let (none, same) = judged_wrong table.limit line.number (table.next s line) n is in
      goes_is table goes_on line_number (end_of bytes) s line rest on ∙ rw none (ap Wrong same)
  part_step_refused line rest s (error.Limit what count) on is =
      let (u, some, past) = judged_past table.limit line.number (table.next s line) (what, count) is in
      goes_is table goes_on line_number (end_of bytes) s line rest on ∙ rw (some, past) refl
  part_step_refused line rest s error.Memory on is = tt

  pub part_refused : (all : PartAnswer PlainLine F (Counted × ℕ)) (lines : List PlainLine) (line : Line) (rest : List PlainLine) (s : S) (e : TextError) (next : Option S) → lines ≡ plain_line bytes line ∷ rest
      → part_told s lines ≡ all → goes_on s (plain_line bytes line) ≡ true → next ≡ table.next s (plain_line bytes line) → Refuses e (judged table.limit line.number next)
      → RefusesPart e all
  part_refused all lines line rest s e next here before on next_is is =
      subst (RefusesPart e) (ap (part_told s) (sym here) ∙ before)
      (part_step_refused (plain_line bytes line) rest s e on (subst (λ o. Refuses e (judged table.limit line.number o)) next_is is))

  -- the part ends before the line
  pub part_stops : (all : PartAnswer PlainLine F (Counted × ℕ)) (lines : List PlainLine) (line : Line) (rest : List PlainLine) (s : S) → lines ≡ plain_line bytes line ∷ rest
      → part_told s lines ≡ all → goes_on s (plain_line bytes line) ≡ false
      → part_end table line.number s lines ≡ all
  part_stops all lines line rest s here before off =
      ap (part_end table line.number s) here ∙ sym (stops_is table goes_on line_number (end_of bytes) s (plain_line bytes line) rest off)
      ∙ ap (part_told s) (sym here) ∙ before

  -- no line is left
  pub part_stops_at_end : (all : PartAnswer PlainLine F (Counted × ℕ)) (lines : List PlainLine) (n : ℕ) (s : S) → lines ≡ [] → n ≡ end_of bytes → part_told s lines ≡ all
      → part_end table n s lines ≡ all
  part_stops_at_end all lines n s none n_is before = ap₂ (λ m rest. part_end table m s rest) n_is none ∙ ap (part_told s) (sym none) ∙ before

  pub part_ends : (all : PartAnswer PlainLine F (Counted × ℕ)) (lines : Lines) (i : ℕ) (s : S) → AreLinesOf bytes lines → length lines.lines.items ≤ i
      → part_told s (drop i (plain_lines bytes)) ≡ all
      → part_end table (lines.count + 1) s (drop (length lines.lines.items) (plain_lines bytes)) ≡ all
  part_ends all lines i s are past before =
      ap₂ (λ n rest. part_end table (n + 1) s rest) (count_is bytes lines are) (past_lines bytes lines (length lines.lines.items) are (omega arith))
      ∙ ap (part_told s) (sym (past_lines bytes lines i are past)) ∙ before

-- ---- the end of a part
module _ {L F : Type 0} (rest : List L) (n : ℕ) where
  abbrev pub ending : Option F → Answer F (Counted × ℕ)
  ending o = option_map_or (λ f. Read f) o (Malformed n)

  abbrev pub part_ending : Option F → PartAnswer L F (Counted × ℕ)
  part_ending o = option_map_or (λ f. Ends f rest) o (Wrong n)

  end_read : (o : Option F) (f : F) → ending o ≡ Read f → part_ending o ≡ Ends f rest
  end_read None f is = let wrong : ◌≡◌ {A = Answer F (Counted × ℕ)} (Malformed n) (Read f) = is in cc
  end_read (Some g) f is = let same : ◌≡◌ {A = Answer F (Counted × ℕ)} (Read g) (Read f) = is in let alike : g ≡ f = cc in ap (λ h. Ends h rest) alike

  end_wrong : (o : Option F) (m : ℕ) → ending o ≡ Malformed m → part_ending o ≡ Wrong m
  end_wrong None m is = let same : ◌≡◌ {A = Answer F (Counted × ℕ)} (Malformed n) (Malformed m) = is in let alike : n ≡ m = cc in ap Wrong alike
  end_wrong (Some g) m is = let wrong : ◌≡◌ {A = Answer F (Counted × ℕ)} (Read g) (Malformed m) = is in cc

  end_past : (o : Option F) (what : Counted × ℕ) → ending o ≡ Limited what → part_ending o ≡ Past what
  end_past None what is = let wrong : ◌≡◌ {A = Answer F (Counted × ℕ)} (Malformed n) (Limited what) = is in cc
  end_past (Some g) what is = let wrong : ◌≡◌ {A = Answer F (Counted × ℕ)} (Read g) (Limited what) = is in cc

module _ {L X F : Type 0} (view : X → F) (lines : List L) (index n : ℕ) (o : Option F) where
  pub end_gives : (x : X) → ending (drop index lines) n o ≡ Read (view x) → GivesPart view lines (Ok (x, index)) (part_ending (drop index lines) n o)
  end_gives x is = end_read (drop index lines) n o (view x) is

  pub end_refused : (e : TextError) → Refuses e (ending (drop index lines) n o) → GivesPart view lines (Err e) (part_ending (drop index lines) n o)
  end_refused (error.Malformed m) is = end_wrong (drop index lines) n o m is
  end_refused (error.Limit what count) is = end_past (drop index lines) n o (what, count) is
  end_refused error.Memory is = tt

-- where the call that ends a part gives its value
pub end_up_to : {L X F : Type 0} (view : X → F) (rest : List L) (n : ℕ) (o : Option F) (r : Result X TextError) → Gives view r (ending rest n o) → GivesUpTo view rest r (part_ending rest n o)
end_up_to view rest n o (Ok x) is = end_read rest n o (view x) is
end_up_to view rest n o (Err (error.Malformed m)) is = end_wrong rest n o m is
end_up_to view rest n o (Err (error.Limit what count)) is = end_past rest n o (what, count) is
end_up_to view rest n o (Err error.Memory) is = tt

-- ---- a text is a part with nothing after it
abbrev pub whole_answer : {L F W : Type 0} → (L → ℕ) → PartAnswer L F W → Answer F W
whole_answer number (Ends f []) = Read f
whole_answer number (Ends f (line ∷ lines)) = Malformed (number line)
whole_answer number (Wrong n) = Malformed n
whole_answer number (Past what) = Limited what

module _ {S L F W : Type 0} (table : Table S L F W) (goes_on : S → L → Bool) (number : L → ℕ) (end : ℕ) where
  abbrev text : S → List L → Answer F W
  text s lines = answer table number end s lines

  abbrev part : S → List L → PartAnswer L F W
  part s lines = part_answer table goes_on number end s lines

  abbrev text_end : ℕ → Option F → Answer F W
  text_end n o = option_map_or (λ f. Read f) o (Malformed n)

  abbrev part_stop : List L → ℕ → Option F → PartAnswer L F W
  part_stop lines n o = option_map_or (λ f. Ends f lines) o (Wrong n)

  abbrev text_limit : Option W → Answer F W → Answer F W
  text_limit o other = option_map_or (λ what. Limited what) o other

  abbrev part_limit : Option W → PartAnswer L F W → PartAnswer L F W
  part_limit o other = option_map_or (λ what. Past what) o other

  abbrev onward_text : List L → ℕ → Option S → Answer F W
  onward_text lines n o = option_map_or (λ t. option_map_or (λ what. Limited what) (table.limit t) (text t lines)) o (Malformed n)

  abbrev onward_part : List L → ℕ → Option S → PartAnswer L F W
  onward_part lines n o = option_map_or (λ t. option_map_or (λ what. Past what) (table.limit t) (part t lines)) o (Wrong n)

  -- where a line that does not go on is not allowed
  pub text_is_part : ((s : S) (line : L) → goes_on s line ≡ false → table.next s line ≡ None) → (s : S) (lines : List L) → text s lines ≡ whole_answer number (part s lines)
  text_is_part never s [] = at_end (table.whole s)
    where
      at_end : (o : Option F) → text_end end o ≡ whole_answer number (part_stop [] end o)
      at_end None = refl
      at_end (Some f) = refl
  text_is_part never s (line ∷ lines) = go (goes_on s line) refl (λ t. text_is_part never t lines)
    where
      past : (t : S) → text t lines ≡ whole_answer number (part t lines) → (o : Option W)
          → text_limit o (text t lines) ≡ whole_answer number (part_limit o (part t lines))
      past t again None = again
      past t again (Some what) = refl

      inside : ((t : S) → text t lines ≡ whole_answer number (part t lines)) → (o : Option S) → onward_text lines (number line) o ≡ whole_answer number (onward_part lines (number line) o)
      inside again None = refl
      inside again (Some t) = past t (again t) (table.limit t)

      outside : (o : Option F) → Malformed (number line) ≡ whole_answer number (part_stop (line ∷ lines) (number line) o)
      outside None = refl
      outside (Some f) = refl

      go : (b : Bool) → goes_on s line ≡ b → ((t : S) → text t lines ≡ whole_answer number (part t lines)) → onward_text lines (number line) (table.next s line) ≡ whole_answer number (part s (line ∷ lines))
      go true on again = inside again (table.next s line) ∙ ap (whole_answer number) (sym (goes_is table goes_on number end s line lines on))
      go false off again =
          ap (onward_text lines (number line)) (never s line off) ∙ outside (table.whole s)
          ∙ ap (whole_answer number) (sym (stops_is table goes_on number end s line lines off))

-- a refused part is a refused text
pub whole_refused : {L F : Type 0} (number : L → ℕ) (e : TextError) (part : PartAnswer L F (Counted × ℕ)) → RefusesPart e part → Refuses e (whole_answer number part)
whole_refused number (error.Malformed n) part is = ap (whole_answer number) is
whole_refused number (error.Limit what count) part is = ap (whole_answer number) is
whole_refused number error.Memory part is = tt
