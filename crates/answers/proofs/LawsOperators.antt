-- What the answer to a binary operator says. Assumes nothing.
use mathlib.Core.Path.{◌≡◌, refl, sym, subst, ◌∙◌}
use mathlib.Core.Bool.{Bool, true, false}
use Prim.Native.Nat.{ℕ}
use native.Mathlib.Omega.{arith}
use Rattle.oat.specs.Basics.{pick}
use Rattle.typing_rules.specs.Operators.{is_equality, operand_type, result_type}
use Rattle.answers.specs.declared.leaves.Operator.{Operator}
use Rattle.answers.specs.declared.leaves.Operator.TheVariants.{Fixed, Equality}
use Rattle.answers.specs.Answers.{operator_of}

-- what the answer says of the operator y that was read as x
fixed_not : (t g : ℕ) → ◌≡◌ {A = Operator} Equality (Fixed t g) → ⊥
fixed_not t g e = let z : ◌≡◌ {A = ℕ} 0 1 = cc in omega arith

told : (b : Bool) (k r t g : ℕ) → pick b Equality (Fixed k r) ≡ Fixed t g → (b ≡ false) × (k ≡ t) × (r ≡ g)
told true k r t g e = absurd (fixed_not t g e)
told false k r t g e = (refl, cc, cc)

equal : (b : Bool) (k r : ℕ) → pick b Equality (Fixed k r) ≡ Equality → b ≡ true
equal true k r e = refl
equal false k r e = absurd (fixed_not k r (sym e))

module _ {x y : ℕ} {o : Operator} (eo : o ≡ operator_of x) (e : x ≡ y) where
  pub takes : {t g : ℕ} → o ≡ Fixed t g → (is_equality y ≡ false) × (operand_type y ≡ t) × (result_type y ≡ g)
  unfolding operator_of
  takes {t} {g} h = subst (λ i. (is_equality i ≡ false) × (operand_type i ≡ t) × (result_type i ≡ g)) e (told (is_equality x) (operand_type x) (result_type x) t g (sym eo ∙ h))

  pub compares : o ≡ Equality → is_equality y ≡ true
  unfolding operator_of
  compares h = subst (λ i. is_equality i ≡ true) e (equal (is_equality x) (operand_type x) (result_type x) (sym eo ∙ h))
