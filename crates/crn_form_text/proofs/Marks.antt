-- What a token is, by its mark.
use Rattle.std.proofs.Common.{◌≡◌, ℕ, Bool, true, false, cond, List, refl, ap}
use Rattle.std.specs.Prelude.{codes}
use Rattle.std.specs.Str.{bytes_eq}
use Rattle.std.proofs.lemmas.Slice.Eq.{bytes_eq-Decides}
use Rattle.crn_token.specs.declared.Sign.TheVariants.{LeftParen, RightParen, Comma, Plus, Minus, Slash, Colon, Arrow, AtLeast}
use Rattle.crn_token.specs.Plain.{Plain, PlainWord, PlainNumber, PlainSign}
use Rattle.crn_form_text.specs.declared.mark.Operator.{Operator}
use Rattle.crn_form_text.specs.declared.mark.Operator.TheVariants as operator
use Rattle.crn_form_text.specs.declared.mark.Mark.{Mark}
use Rattle.crn_form_text.specs.declared.mark.Mark.TheVariants as mark
use Rattle.crn_form_text.specs.Reading.{word_mark, mark_of}

-- the word of an operator
abbrev pub word_of : Operator → List ℕ
word_of operator.Add = codes "add"
word_of operator.Sub = codes "sub"
word_of operator.Min = codes "min"
word_of operator.Max = codes "max"

-- the token has this mark
abbrev pub IsMarked : Mark → Plain → Type 0
IsMarked mark.X t = t ≡ PlainWord (codes "x")
IsMarked (mark.Word o) t = t ≡ PlainWord (word_of o)
IsMarked mark.Scale t = t ≡ PlainWord (codes "scale")
IsMarked (mark.Number n) t = t ≡ PlainNumber n
IsMarked mark.Plus t = t ≡ PlainSign Plus
IsMarked mark.Minus t = t ≡ PlainSign Minus
IsMarked mark.Slash t = t ≡ PlainSign Slash
IsMarked mark.Comma t = t ≡ PlainSign Comma
IsMarked mark.Left t = t ≡ PlainSign LeftParen
IsMarked mark.Right t = t ≡ PlainSign RightParen
IsMarked mark.Other t = Unit {0}

chosen : (b : Bool) (m n : Mark) (t : Plain) → (b ≡ true → IsMarked m t) → IsMarked n t → IsMarked (cond b m n) t
chosen true m n t f g = f refl
chosen false m n t f g = g

is_word : (w c : List ℕ) → bytes_eq w c ≡ true → PlainWord w ≡ PlainWord c
is_word w c e = ap PlainWord ((bytes_eq-Decides w c).0 e)

marked_word : (w : List ℕ) → IsMarked (word_mark w) (PlainWord w)
marked_word w =
    chosen (bytes_eq w (codes "x")) mark.X _ (PlainWord w) (is_word w (codes "x"))
    (chosen (bytes_eq w (codes "add")) (mark.Word operator.Add) _ (PlainWord w) (is_word w (codes "add"))
    (chosen (bytes_eq w (codes "sub")) (mark.Word operator.Sub) _ (PlainWord w) (is_word w (codes "sub"))
    (chosen (bytes_eq w (codes "min")) (mark.Word operator.Min) _ (PlainWord w) (is_word w (codes "min"))
    (chosen (bytes_eq w (codes "max")) (mark.Word operator.Max) _ (PlainWord w) (is_word w (codes "max"))
    (chosen (bytes_eq w (codes "scale")) mark.Scale mark.Other (PlainWord w) (is_word w (codes "scale")) tt)))))

pub marked : (t : Plain) → IsMarked (mark_of t) t
marked (PlainWord w) = marked_word w
marked (PlainNumber n) = refl
marked (PlainSign LeftParen) = refl
marked (PlainSign RightParen) = refl
marked (PlainSign Comma) = refl
marked (PlainSign Plus) = refl
marked (PlainSign Minus) = refl
marked (PlainSign Slash) = refl
marked (PlainSign Colon) = tt
marked (PlainSign Arrow) = tt
marked (PlainSign AtLeast) = tt
