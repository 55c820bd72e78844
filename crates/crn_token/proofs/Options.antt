-- What is known of the parts of an optional value, where there is one.
use Rattle.std.proofs.Common.{◌≡◌, Bool, true, false, cond, Option, Some, None, refl}
use Rattle.std.specs.Option.{option_map, option_and_then}
use Rattle.std.proofs.lemmas.Option.{same_Some}

pub then_found : {A B : Type 0} (f : A → Option B) (o : Option A) (b : B) → option_and_then f o ≡ Some b → (a : A) × (o ≡ Some a) × (f a ≡ Some b)
then_found f None b is = let wrong : None ≡ Some b = is in cc
then_found f (Some a) b is = (a, refl, is)

pub map_found : {A B : Type 0} (f : A → B) (o : Option A) (b : B) → option_map f o ≡ Some b → (a : A) × (o ≡ Some a) × (f a ≡ b)
map_found f None b is = let wrong : None ≡ Some b = is in cc
map_found f (Some a) b is = (a, refl, same_Some (f a) b is)

pub if_found : {A : Type 0} (t : Bool) (o : Option A) (a : A) → cond t o None ≡ Some a → (t ≡ true) × (o ≡ Some a)
if_found true o a is = (refl, is)
if_found false o a is = let wrong : None ≡ Some a = is in cc

pub else_found : {A : Type 0} (t : Bool) (o : Option A) (a : A) → cond t None o ≡ Some a → (t ≡ false) × (o ≡ Some a)
else_found false o a is = (refl, is)
else_found true o a is = let wrong : None ≡ Some a = is in cc
