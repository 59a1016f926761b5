-- The yes of the answer to the subtype question. Assumes nothing.
use mathlib.Core.Path.{◌≡◌, refl}
use mathlib.Core.Bool.{Bool, true, false}
use mir.Val.{bool_byte}
use Rattle.oat.specs.Basics.{pick}

-- 1 for yes, 0 for no
pub yes_is : (holds : Bool) → bool_byte holds ≡ pick holds 1 0
yes_is true = refl
yes_is false = refl
