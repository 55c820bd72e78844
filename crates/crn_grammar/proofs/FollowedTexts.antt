-- A text of a part and of what follows it is a part, and then a text of what follows it.
use Rattle.std.proofs.Common.{◌≡◌, ℕ, Bool, List, [], ◌∷◌, ◌++◌, Option, Some, None, refl, sym, ◌∙◌, ap, subst, append_assoc, append-nil}
use Rattle.std.specs.Option.{option_map_or}
use Rattle.crn_grammar.specs.Table.{Table, Answer, Read, Malformed, Limited, after, IsText, PassesNone, answer}
use Rattle.crn_grammar.specs.Part.{Either, PartAnswer, Ends, Wrong, Past, IsPart, part_answer}
use Rattle.crn_grammar.specs.Followed.{Following, followed_table, answer_map}
use Rattle.crn_grammar.proofs.TableLaws.{none_past, none_past_more, after_more, read_is}
use Rattle.crn_grammar.proofs.RightParts.{part_found, part_is}
use Rattle.crn_grammar.proofs.FollowedLaws.{followed_on, followed_is}

-- ---- what is read is a text that passes no limit

module _ {S L F W : Type 0} (table : Table S L F W) (number : L → ℕ) (end : ℕ) where
  abbrev IsWithin : List L → F → Type 0
  IsWithin lines f = IsText table lines f × PassesNone table lines

  read_alike : (f g : F) → ◌≡◌ {A = Answer F W} (Read f) (Read g) → f ≡ g
  read_alike f g same = cc same

  abbrev ended : Option F → Answer F W
  ended o = option_map_or (λ g. Read g) o (Malformed end)

  abbrev past : Option W → Answer F W → Answer F W
  past o on = option_map_or (λ what. Limited what) o on

  abbrev onward : L → List L → Option S → Answer F W
  onward line rest o = option_map_or (λ t. past (table.limit t) (answer table number end t rest)) o (Malformed (number line))

  read_from : (before rest : List L) (s : S) (f : F) → after table table.start before ≡ Some s → PassesNone table before → answer table number end s rest ≡ Read f → IsWithin (before ++ rest) f
  read_from before [] s f here low is = subst (λ l. IsWithin l f) (sym (append-nil before)) (go (table.whole s) refl is)
    where
      go : (o : Option F) → table.whole s ≡ o → ended o ≡ Read f → IsWithin before f
      go None e wrong = let never : ◌≡◌ {A = Answer F W} (Malformed end) (Read f) = wrong in absurd (cc never)
      go (Some g) e same = ((s, here, e ∙ ap (λ h. Some h) (read_alike g f same)), low)
  read_from before (line ∷ rest) s f here low is =
      go (table.next s line) refl is (λ t there quiet on. subst (λ l. IsWithin l f) (append_assoc before (line ∷ []) rest) (read_from (before ++ line ∷ []) rest t f there quiet on))
    where
      low_at : (t : S) → table.next s line ≡ Some t → (o : Option W) → table.limit t ≡ o → past o (answer table number end t rest) ≡ Read f
          → ((t : S) → after table table.start (before ++ line ∷ []) ≡ Some t → PassesNone table (before ++ line ∷ []) → answer table number end t rest ≡ Read f → IsWithin (before ++ line ∷ rest) f) → IsWithin (before ++ line ∷ rest) f
      low_at t e (Some what) passed wrong again = let never : ◌≡◌ {A = Answer F W} (Limited what) (Read f) = wrong in absurd (cc never)
      low_at t e None quiet on again =
          let there = after_more table before line s here ∙ e in
          again t there (none_past_more table before line t low there quiet) on

      go : (o : Option S) → table.next s line ≡ o → onward line rest o ≡ Read f
          → ((t : S) → after table table.start (before ++ line ∷ []) ≡ Some t → PassesNone table (before ++ line ∷ []) → answer table number end t rest ≡ Read f → IsWithin (before ++ line ∷ rest) f) → IsWithin (before ++ line ∷ rest) f
      go None e wrong again = let never : ◌≡◌ {A = Answer F W} (Malformed (number line)) (Read f) = wrong in absurd (cc never)
      go (Some t) e on again = low_at t e (table.limit t) refl on again

  pub read_found : (lines : List L) (f : F) → answer table number end table.start lines ≡ Read f → IsWithin lines f
  read_found lines f is = read_from [] lines table.start f refl (none_past table) is

-- ---- the two parts

module _ {S R L F V G W : Type 0} (table : Table S L F W) (goes_on : S → L → Bool) (rest : F → Table R L V W) (value : F → V → G) where
  abbrev text : Table (Either S (Following F R)) L G W
  text = followed_table table goes_on rest value

  -- lines of no number
  abbrev nowhere : L → ℕ
  nowhere line = 0

  abbrev pub InTwoParts : List L → G → Type 0
  InTwoParts lines g = (f : F) × (v : V) × (more : List L) × IsPart table goes_on lines f more × IsText (rest f) more v × PassesNone (rest f) more × (value f v ≡ g)

  value_read : (f : F) (a : Answer V W) (g : G) → answer_map (value f) a ≡ Read g → (v : V) × (a ≡ Read v) × (value f v ≡ g)
  value_read f (Read v) g same = (v, refl, let alike : value f v ≡ g = cc same in alike)
  value_read f (Malformed n) g wrong = let never : ◌≡◌ {A = Answer G W} (Malformed n) (Read g) = wrong in absurd (cc never)
  value_read f (Limited what) g wrong = let never : ◌≡◌ {A = Answer G W} (Limited what) (Read g) = wrong in absurd (cc never)

  pub parted : (lines : List L) (g : G) → IsText text lines g → PassesNone text lines → InTwoParts lines g
  parted lines g is low =
      go (part_answer table goes_on nowhere 0 table.start lines) refl (sym (followed_is table goes_on rest value nowhere 0 table.start lines) ∙ read_is text nowhere 0 lines g is low)
    where
      go : (part : PartAnswer L F W) → part_answer table goes_on nowhere 0 table.start lines ≡ part → followed_on table goes_on rest value nowhere 0 part ≡ Read g → InTwoParts lines g
      go (Ends f more) e on =
          let (v, here, same) = value_read f (answer (rest f) nowhere 0 (rest f).start more) g on in
          let within = read_found (rest f) nowhere 0 more v here in
          (f, v, more, part_found table goes_on nowhere 0 lines f more e, within.0, within.1, same)
      go (Wrong n) e wrong = let never : ◌≡◌ {A = Answer G W} (Malformed n) (Read g) = wrong in absurd (cc never)
      go (Past what) e wrong = let never : ◌≡◌ {A = Answer G W} (Limited what) (Read g) = wrong in absurd (cc never)

  pub joined : (lines : List L) (g : G) → InTwoParts lines g → IsText text lines g × PassesNone text lines
  joined lines g (f, v, more, part, is, low, same) =
      let ends = part_is table goes_on nowhere 0 lines f more part in
      read_found text nowhere 0 lines g
      (followed_is table goes_on rest value nowhere 0 table.start lines
      ∙ ap (followed_on table goes_on rest value nowhere 0) ends
      ∙ ap (answer_map (value f)) (read_is (rest f) nowhere 0 more v is low)
      ∙ ap (λ h. Read h) same)
