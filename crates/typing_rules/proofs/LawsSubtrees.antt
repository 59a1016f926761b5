-- The rules at all nodes of an expression, from the rule at its top and those below its children. Assumes nothing.
use Prim.Native.Nat.{ℕ, ◌+◌}
use Rattle.oat.specs.Tables.{Tables}
use Rattle.oat.specs.Types.{Ty}
use Rattle.oat.specs.Syntax.{Literal, Expr, null, literal, name, array_literal, default_array, array_with, index, length_of, struct_literal, field, call, unary, binary, Exprs, none, also, Inits, no_init, init, size}
use Rattle.typing_rules.specs.Contexts.{Context}
use Rattle.typing_rules.specs.Labels.{Labels}
use Rattle.typing_rules.specs.Rules.{ExprRule}
use Rattle.typing_rules.specs.Derivations.{At, AtAll, AtInits, here, in_elements, in_length, in_with_length, in_with_value, in_indexed, in_position, in_measured, in_fields, in_record, in_callee, in_arguments, in_operand, in_left, in_right, in_first, in_rest, in_value, in_others, Derives}

-- a rule holds wherever an expression stands by A
abbrev pub Ruled : Tables → Context Ty → Labels Ty → (ℕ → Expr → Type 0) → Type 0
Ruled T C D A = (m : ℕ) (u : Expr) → A m u → ExprRule T C D m u

module _ {T : Tables} {C : Context Ty} {D : Labels Ty} {n : ℕ} where
  pub at_null : {t : ℕ} → ExprRule T C D n (null t) → Ruled T C D (At (null t) n)
  at_null r m u here = r

  pub at_literal : {l : Literal} → ExprRule T C D n (literal l) → Ruled T C D (At (literal l) n)
  at_literal r m u here = r

  pub at_name : {x : ℕ} → ExprRule T C D n (name x) → Ruled T C D (At (name x) n)
  at_name r m u here = r

  pub at_array_literal : {t : ℕ} {es : Exprs} → ExprRule T C D n (array_literal t es) → Ruled T C D (AtAll es (n + 1))
      → Ruled T C D (At (array_literal t es) n)
  at_array_literal r p m u here = r
  at_array_literal r p m u (in_elements w) = p m u w

  pub at_default_array : {t : ℕ} {a : Expr} → ExprRule T C D n (default_array t a) → Derives T C D a (n + 1)
      → Ruled T C D (At (default_array t a) n)
  at_default_array r p m u here = r
  at_default_array r p m u (in_length w) = p.rule m u w

  pub at_array_with : {t x : ℕ} {a b : Expr} → ExprRule T C D n (array_with t x a b) → Derives T C D a (n + 1)
      → Derives T C D b (n + 1 + size a) → Ruled T C D (At (array_with t x a b) n)
  at_array_with r p q m u here = r
  at_array_with r p q m u (in_with_length w) = p.rule m u w
  at_array_with r p q m u (in_with_value w) = q.rule m u w

  pub at_index : {a b : Expr} → ExprRule T C D n (index a b) → Derives T C D a (n + 1) → Derives T C D b (n + 1 + size a)
      → Ruled T C D (At (index a b) n)
  at_index r p q m u here = r
  at_index r p q m u (in_indexed w) = p.rule m u w
  at_index r p q m u (in_position w) = q.rule m u w

  pub at_length_of : {a : Expr} → ExprRule T C D n (length_of a) → Derives T C D a (n + 1) → Ruled T C D (At (length_of a) n)
  at_length_of r p m u here = r
  at_length_of r p m u (in_measured w) = p.rule m u w

  pub at_struct_literal : {t : ℕ} {is : Inits} → ExprRule T C D n (struct_literal t is) → Ruled T C D (AtInits is (n + 1))
      → Ruled T C D (At (struct_literal t is) n)
  at_struct_literal r p m u here = r
  at_struct_literal r p m u (in_fields w) = p m u w

  pub at_field : {x : ℕ} {a : Expr} → ExprRule T C D n (field x a) → Derives T C D a (n + 1) → Ruled T C D (At (field x a) n)
  at_field r p m u here = r
  at_field r p m u (in_record w) = p.rule m u w

  pub at_call : {a : Expr} {es : Exprs} → ExprRule T C D n (call a es) → Derives T C D a (n + 1)
      → Ruled T C D (AtAll es (n + 1 + size a)) → Ruled T C D (At (call a es) n)
  at_call r p q m u here = r
  at_call r p q m u (in_callee w) = p.rule m u w
  at_call r p q m u (in_arguments w) = q m u w

  pub at_unary : {x : ℕ} {a : Expr} → ExprRule T C D n (unary x a) → Derives T C D a (n + 1) → Ruled T C D (At (unary x a) n)
  at_unary r p m u here = r
  at_unary r p m u (in_operand w) = p.rule m u w

  pub at_binary : {x : ℕ} {a b : Expr} → ExprRule T C D n (binary x a b) → Derives T C D a (n + 1)
      → Derives T C D b (n + 1 + size a) → Ruled T C D (At (binary x a b) n)
  at_binary r p q m u here = r
  at_binary r p q m u (in_left w) = p.rule m u w
  at_binary r p q m u (in_right w) = q.rule m u w

  pub at_none : Ruled T C D (AtAll none n)
  at_none m u w = elim w [ ]

  pub at_also : {a : Expr} {es : Exprs} → Derives T C D a n → Ruled T C D (AtAll es (n + size a)) → Ruled T C D (AtAll (also a es) n)
  at_also p q m u (in_first w) = p.rule m u w
  at_also p q m u (in_rest w) = q m u w

  pub at_no_init : Ruled T C D (AtInits no_init n)
  at_no_init m u w = elim w [ ]

  pub at_init : {x : ℕ} {a : Expr} {is : Inits} → Derives T C D a (n + 1) → Ruled T C D (AtInits is (n + 1 + size a))
      → Ruled T C D (AtInits (init x a is) n)
  at_init p q m u (in_value w) = p.rule m u w
  at_init p q m u (in_others w) = q m u w
