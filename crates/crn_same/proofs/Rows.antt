-- The rows of the forms that were asked about, and what the answer about a system tells of its set.
use Rattle.std.proofs.Common.{◌≡◌, ℕ, ◌+◌, ◌<◌, ◌≤◌, List, [], ◌∷◌, ◌++◌, length, map, take, get_or, slice_get, Some, Bool, true, false, not, if◌then◌else◌, Result, Ok, Err, refl, sym, ap, ◌∙◌, subst}
use Rattle.std.specs.Prelude.{All, OnOk, IfErr}
use Rattle.std.specs.List.{list_any}
use Rattle.std.proofs.lemmas.Option.{get_or_from_slice_get}
use Rattle.std.proofs.lemmas.List.{append_assoc, map-append, length-map, get_or-map, take_all}
use Rattle.std.proofs.lemmas.List.Elements.{Contains-get_or, All-push}
use Rattle.indexmap.specs.IndexSet.{insert_key}
use Rattle.crn_fraction.specs.Rational.{ℚ, whole, ◌*ℚ◌}
use Rattle.crn_linear.specs.Cleared.{cleared}
use Rattle.crn_linear.specs.Rows.{Row}
use Rattle.crn_linear.specs.Equality.{eq_forms}
use Rattle.crn_linear.proofs.Equality.{Decides-eq_forms}
use Rattle.crn_linear.proofs.Multiples.{cleared_is}
use Rattle.crn_farkas.specs.Systems.{System, HasNoPoint}
use Rattle.crn_formula.specs.Pieces.{Domain}
use Rattle.crn_pieces.specs.Answers.{Clears}
use Rattle.crn_normal.proofs.Members.{Has, Has-from_Contains, each}
use Rattle.crn_normal.proofs.Loops.{next}
use Rattle.crn_same.specs.declared.SameError.{SameError}
use Rattle.crn_same.specs.declared.SameError.TheVariants.{TooBigForm, Differ, TooBig, TooManyRows, Memory}
use Rattle.crn_same.specs.Equal.{positive_row, asked}
use Rattle.crn_same.specs.Answers.{SystemStops, SetStops, IsNowhere, AreRows, HasNoRow, HaveNoRows}

module _ (keys : List (List ℚ)) (form : List ℚ) (new : List (List ℚ)) (inserted : new ≡ insert_key eq_forms keys form) (is_new : Bool) (added : is_new ≡ not (list_any (eq_forms form) keys)) where
  keys_by : (b : Bool) → list_any (eq_forms form) keys ≡ b → new ≡ (if b then keys else (keys ++ form ∷ []))
  keys_by b e = inserted ∙ ap (λ (t : Bool). if t then keys else (keys ++ form ∷ [])) e

  -- a new form stands behind the others
  pub behind : is_new ≡ true → new ≡ keys ++ form ∷ []
  behind n = by (list_any (eq_forms form) keys) refl
    where
      by : (b : Bool) → list_any (eq_forms form) keys ≡ b → new ≡ keys ++ form ∷ []
      by true e = absurd (let f : is_new ≡ false = added ∙ ap not e in cc)
      by false e = keys_by false e

  pub unchanged : is_new ≡ false → new ≡ keys
  unchanged n = by (list_any (eq_forms form) keys) refl
    where
      by : (b : Bool) → list_any (eq_forms form) keys ≡ b → new ≡ keys
      by true e = keys_by true e
      by false e = absurd (let f : is_new ≡ true = added ∙ ap not e in cc)

  module _ (rows : List Row) (are : AreRows keys rows) where
    pub one_more : is_new ≡ true → Clears form → (more : List Row) → more ≡ rows ++ positive_row form ∷ [] → AreRows new more
    one_more n clears more m = record {
      are_rows = m ∙ ap (λ rs. rs ++ positive_row form ∷ []) are.are_rows ∙ sym (map-append positive_row keys (form ∷ [])) ∙ sym (ap (map positive_row) (behind n));
      clear = subst (All Clears) (sym (behind n)) (All-push Clears keys form are.clear clears);
    }

    pub stay : is_new ≡ false → AreRows new rows
    stay n = record { are_rows = are.are_rows ∙ sym (ap (map positive_row) (unchanged n)); clear = subst (All Clears) (sym (unchanged n)) are.clear }

    pub place_within : is_new ≡ false → (place : ℕ) → place < length new → place < length rows
    place_within n place h = subst (λ k. place < k) (sym (ap length (stay n).are_rows ∙ length-map new positive_row)) h

    module _ (same : is_new ≡ false) (place : ℕ) (within : place < length new) (key : List ℚ) (stored : slice_get new place ≡ Some key) (is_key : eq_forms form key ≡ true) where
      key_is : get_or new place [] ≡ form
      key_is = get_or_from_slice_get new place key [] stored ∙ sym ((Decides-eq_forms form key).0 is_key)

      pub row_there : (d : Row) → get_or rows place d ≡ positive_row form
      row_there d = ap (λ rs. get_or rs place d) (stay same).are_rows ∙ get_or-map positive_row new place [] d within ∙ ap positive_row key_is

      pub clears_there : Clears form
      clears_there = subst Clears key_is (each Clears new (stay same).clear (get_or new place []) (Has-from_Contains new (get_or new place []) (Contains-get_or new place [] within)))

-- ---- the forms of a set
-- the row of a form has an entry for each column
pub length-positive : (form : List ℚ) → length (cleared form) ≡ length form
length-positive form =
    let m = (cleared_is form).multiple in
    sym (length-map (cleared form) whole) ∙ ap length m.same ∙ length-map form (λ x. m.factor *ℚ x)

module _ (forms : List (List ℚ)) (i : ℕ) (form : List ℚ) (within : i < length forms) (is : form ≡ get_or forms i form) where
  has_form : Has forms form
  has_form = subst (Has forms) (sym is) (Has-from_Contains forms (get_or forms i form) (Contains-get_or forms i form within))

  pub row_long : (n : ℕ) → All (λ f. length f ≡ n) forms → length (cleared form) ≡ n
  row_long n a = length-positive form ∙ each (λ f. length f ≡ n) forms a form has_form

  -- one that has no row is one of the set that has none
  pub no_row : (e : SameError) → HasNoRow form e → HaveNoRows forms e
  no_row TooBigForm s = λ all. s (each Clears forms all form has_form)
  no_row Memory s = tt
  no_row e s = absurd s

  -- and each form before this one clears, so this one does
  pub clear_next : All Clears (take i forms) → Clears form → All Clears (take (i + 1) forms)
  clear_next before clears = subst (All Clears) (sym (next forms i form within is)) (All-push Clears (take i forms) form before clears)

  -- and its row stands behind those of the forms before it
  pub push_next : (rows : List Row) → (rows ++ map positive_row (take i forms)) ++ positive_row form ∷ [] ≡ rows ++ map positive_row (take (i + 1) forms)
  push_next rows =
      append_assoc rows (map positive_row (take i forms)) (positive_row form ∷ [])
      ∙ ap (λ rs. rows ++ rs) (sym (map-append positive_row (take i forms) (form ∷ [])))
      ∙ ap (λ fs. rows ++ map positive_row fs) (sym (next forms i form within is))

pub clear_all : (forms : List (List ℚ)) (i : ℕ) → length forms ≤ i → All Clears (take i forms) → All Clears forms
clear_all forms i h all = subst (All Clears) (take_all i forms h) all

-- ---- a set
pub no_rows : (domain : Domain) (S : List (List ℚ)) (e : SameError) → HaveNoRows S e → SetStops domain S e
no_rows domain S TooBigForm s = s
no_rows domain S Memory s = tt
no_rows domain S e s = absurd s

pub system_stops : (domain : Domain) (S : List (List ℚ)) (s : System) → s ≡ asked domain S → All Clears S → (r : Result (Unit {0}) SameError) → IfErr r (SystemStops s) → IfErr r (SetStops domain S)
system_stops domain S s is clear (Ok u) h = tt
system_stops domain S s is clear (Err (Differ p)) h = (clear, subst (λ t. SystemStops t (Differ p)) is h)
system_stops domain S s is clear (Err (TooBig kept)) h = (clear, subst (λ t. SystemStops t (TooBig kept)) is h)
system_stops domain S s is clear (Err (TooManyRows kept)) h = (clear, subst (λ t. SystemStops t (TooManyRows kept)) is h)
system_stops domain S s is clear (Err Memory) h = tt
system_stops domain S s is clear (Err e) h = absurd h

pub nowhere : (domain : Domain) (S : List (List ℚ)) (s : System) → s ≡ asked domain S → All Clears S → (r : Result (Unit {0}) SameError) → OnOk r (HasNoPoint s) → OnOk r (IsNowhere domain S)
nowhere domain S s is clear (Ok u) h = record { clears = clear; none = subst HasNoPoint is h }
nowhere domain S s is clear (Err e) h = tt
