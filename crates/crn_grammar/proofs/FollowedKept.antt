-- What lines that pass no limit keep in a part, in its value and in what follows it holds where a text of both ends.
use Rattle.std.proofs.Common.{◌≡◌, Bool, true, false, cond, List, Option, Some, None, refl, subst}
use Rattle.std.specs.Option.{option_map, option_and_then}
use Rattle.crn_grammar.specs.Table.{Table, IsText, PassesNone}
use Rattle.crn_grammar.specs.Part.{Either, Part, After}
use Rattle.crn_grammar.proofs.TableLaws.{Keeps, kept_to_the_end}
use Rattle.crn_token.proofs.Options.{then_found, map_found}
use Rattle.crn_grammar.specs.Followed.{Following, following_start, following_next, followed_table}

module _ {S R L F V G W : Type 0} (table : Table S L F W) (goes_on : S → L → Bool) (rest : F → Table R L V W) (value : F → V → G) (OfPart : S → Type 0) (OfValue : F → Type 0) (OfRest : F → R → Type 0) where
  abbrev text : Table (Either S (Following F R)) L G W
  text = followed_table table goes_on rest value

  abbrev Kept : Either S (Following F R) → Type 0
  Kept (Part s) = OfPart s
  Kept (After r) = OfValue r.part × OfRest r.part r.place

  abbrev KeptNext : Option (Either S (Following F R)) → Type 0
  KeptNext None = Unit {0}
  KeptNext (Some t) = text.limit t ≡ None → Kept t

  -- where the part is whole, its value and what follows it begin
  abbrev pub Begins : Type 0
  Begins = (s : S) (f : F) → OfPart s → table.whole s ≡ Some f → OfValue f × OfRest f (rest f).start

  abbrev pub RestKeeps : Type 0
  RestKeeps = (f : F) → Keeps (rest f) (OfRest f)

  in_part : Keeps table OfPart → (s : S) (line : L) → OfPart s → (o : Option S) → table.next s line ≡ o → KeptNext (option_map (λ t. Part t) o)
  in_part keeps s line kept None is = tt
  in_part keeps s line kept (Some t) is = λ low. keeps s line t kept is low

  in_rest : RestKeeps → (f : F) (p : R) (line : L) → OfValue f → OfRest f p → (o : Option R) → (rest f).next p line ≡ o → KeptNext (option_map (λ r. After r) (option_map (λ q. record { part = f; place = q }) o))
  in_rest keeps f p line of_value kept None is = tt
  in_rest keeps f p line of_value kept (Some q) is = λ low. (of_value, keeps f p line q kept is low)

  enters : RestKeeps → Begins → (s : S) (line : L) → OfPart s → (o : Option F) → table.whole s ≡ o → KeptNext (option_and_then (λ g. option_map (λ r. After r) (following_next rest (following_start rest g) line)) o)
  enters keeps begins s line kept None is = tt
  enters keeps begins s line kept (Some f) is =
      let first = begins s f kept is in in_rest keeps f (rest f).start line first.0 first.1 ((rest f).next (rest f).start line) refl

  keeps_on : Keeps table OfPart → RestKeeps → Begins → Keeps text Kept
  keeps_on part_keeps rest_keeps begins (After r) line t kept is low =
      subst KeptNext is (in_rest rest_keeps r.part r.place line kept.0 kept.1 ((rest r.part).next r.place line) refl) low
  keeps_on part_keeps rest_keeps begins (Part s) line t kept is low = subst KeptNext is (go (goes_on s line)) low
    where
      go : (b : Bool) → KeptNext (cond b (option_map (λ t. Part t) (table.next s line)) (option_and_then (λ g. option_map (λ r. After r) (following_next rest (following_start rest g) line)) (table.whole s)))
      go true = in_part part_keeps s line kept (table.next s line) refl
      go false = enters rest_keeps begins s line kept (table.whole s) refl

  -- the value of the text is that of a part and of what follows it
  abbrev pub Found : G → Type 0
  Found g = (f : F) × (p : R) × (v : V) × OfValue f × OfRest f p × ((rest f).whole p ≡ Some v) × (value f v ≡ g)

  found_by : (f : F) (p : R) (g : G) → OfValue f → OfRest f p → option_map (value f) ((rest f).whole p) ≡ Some g → Found g
  found_by f p g of_value kept is = let (v, here, same) = map_found (value f) ((rest f).whole p) g is in (f, p, v, of_value, kept, here, same)

  at_end : Begins → (s : Either S (Following F R)) (g : G) → Kept s → text.whole s ≡ Some g → Found g
  at_end begins (After r) g kept is = found_by r.part r.place g kept.0 kept.1 is
  at_end begins (Part s) g kept is =
      let (f, here, end) = then_found (λ f. option_map (value f) ((rest f).whole (rest f).start)) (table.whole s) g is in
      let first = begins s f kept here in
      found_by f (rest f).start g first.0 first.1 end

  pub followed_keeps : OfPart table.start → Keeps table OfPart → RestKeeps → Begins → (lines : List L) (g : G) → IsText text lines g → PassesNone text lines → Found g
  followed_keeps first part_keeps rest_keeps begins lines g is low =
      let (s, kept, end) = kept_to_the_end text Kept first (keeps_on part_keeps rest_keeps begins) lines g is low in at_end begins s g kept end
