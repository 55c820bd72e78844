-- The answer to a text that begins with a part is the answer to the part, and then to what follows.
use Rattle.std.proofs.Common.{◌≡◌, ℕ, Bool, List, [], ◌∷◌, Option, Some, None, refl, ⊎_elim}
use Rattle.std.proofs.lemmas.Bool.{cases_Bool}
use Rattle.std.specs.Option.{option_map, option_and_then, option_map_or}
use Rattle.crn_grammar.specs.Table.{Table, Answer, Read, Malformed, Limited, answer}
use Rattle.crn_grammar.specs.Part.{PartAnswer, Ends, Wrong, Past, part_answer, Either, Part, After, joined_table, go_on}

module _ {S R L F G W : Type 0} (table : Table S L F W) (goes_on : S → L → Bool) (start : F → R) (next : R → L → Option R) (whole : R → Option G) (limit : R → Option W) (number : L → ℕ) (end : ℕ) where
  abbrev text : Table (Either S R) L G W
  text = joined_table table goes_on start next whole limit

  abbrev onward : PartAnswer L F W → Answer G W
  onward part = go_on table goes_on start next whole limit number end part

  pub answer_parts : (s : S) (lines : List L) → answer text number end (Part s) lines ≡ onward (part_answer table goes_on number end s lines)
  answer_parts s [] = at_end (table.whole s)
    where
      at_end : (o : Option F) → option_map_or (λ g. Read g) (option_and_then (λ f. whole (start f)) o) (Malformed end) ≡ onward (option_map_or (λ f. Ends f []) o (Wrong end))
      at_end None = refl
      at_end (Some f) = refl
  answer_parts s (line ∷ lines) =
      ⊎_elim
      (λ t. rw t (inside (λ u. answer_parts u lines) (table.next s line)))
      (λ f. rw f (outside (table.whole s)))
      (cases_Bool (goes_on s line))
    where
      past : (t : S) → answer text number end (Part t) lines ≡ onward (part_answer table goes_on number end t lines) → (o : Option W)
          → option_map_or (λ what. Limited what) o (answer text number end (Part t) lines) ≡ onward (option_map_or (λ what. Past what) o (part_answer table goes_on number end t lines))
      past t again None = again
      past t again (Some what) = refl

      inside : ((t : S) → answer text number end (Part t) lines ≡ onward (part_answer table goes_on number end t lines)) → (o : Option S)
          → option_map_or (λ t. option_map_or (λ what. Limited what) (text.limit t) (answer text number end t lines)) (option_map (λ t. Part t) o) (Malformed (number line))
          ≡ onward (option_map_or (λ t. option_map_or (λ what. Past what) (table.limit t) (part_answer table goes_on number end t lines)) o (Wrong (number line)))
      inside again None = refl
      inside again (Some t) = past t (again t) (table.limit t)

      enters : (o : Option R) → option_map_or (λ t. option_map_or (λ what. Limited what) (text.limit t) (answer text number end t lines)) (option_map (λ r. After r) o) (Malformed (number line))
          ≡ option_map_or (λ r. option_map_or (λ what. Limited what) (limit r) (answer text number end (After r) lines)) o (Malformed (number line))
      enters None = refl
      enters (Some r) = refl

      outside : (o : Option F)
          → option_map_or (λ t. option_map_or (λ what. Limited what) (text.limit t) (answer text number end t lines)) (option_and_then (λ f. option_map (λ r. After r) (next (start f) line)) o) (Malformed (number line))
          ≡ onward (option_map_or (λ f. Ends f (line ∷ lines)) o (Wrong (number line)))
      outside None = refl
      outside (Some f) = enters (next (start f) line)
