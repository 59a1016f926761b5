-- What the rules on types say of each type, for whoever takes a type apart: operands are lower, void is only a return type, and
-- parts are bounded. Assumes nothing.
use mathlib.Core.Path.{◌≡◌, refl}
use mathlib.Core.Bool.{Bool, true, false, not, ◌&&◌}
use Prim.Native.Nat.{ℕ, ◌+◌, ◌≤◌, ◌<◌}
use native.Mathlib.Omega.{arith}
use lib.ListN.{length}
use lib.Dec.{eqb, ltb, leb}
use borrow.Author.Tests.{ltb-true, ltb-false, leb-true, eqb-true, eqb-false, lt-ltb, le-ltb, not-true}
use Rattle.oat.specs.Basics.{pick, all_below}
use Rattle.oat.specs.Tables.{Tables, TypeRecord, type_at, entry_at}
use Rattle.oat.specs.TypeRules.{kind_at, is_reference_kind, is_lower_value, taken_before, unused_bc, base_rule, array_rule, params_right, function_rule, nullable_rule, type_rule, parts_at, each_type_right, types_right}
use Rattle.oat.proofs.LawsBasics.{and_parts, all_at}

-- the type j is lower than i, and it isn't void
pub record LowerValue (T : Tables) (i j : ℕ) : Type 0 where
  pub lower : j < i
  pub value : kind_at T j ≡ 3 → ⊥

pub lower_value : (T : Tables) (i j : ℕ) → is_lower_value T i j ≡ true → LowerValue T i j
unfolding is_lower_value
lower_value T i j e =
    let (l, v) = and_parts (ltb j i) (not (eqb (kind_at T j) 3)) e in
    record { lower = ltb-true j i l; value = eqb-false (kind_at T j) 3 (not-true (eqb (kind_at T j) 3) v) }

pub record FunctionType (T : Tables) (i : ℕ) : Type 0 where
  pub returns : (type_at T i).a < i
  pub first : (type_at T i).b ≡ taken_before T i
  pub listed : (type_at T i).b + (type_at T i).c ≤ length T.list
  pub parameter : (j : ℕ) → j < (type_at T i).c → LowerValue T i (entry_at T ((type_at T i).b + j))

pub record NullableType (T : Tables) (i : ℕ) : Type 0 where
  pub lower : (type_at T i).a < i
  pub reference : is_reference_kind (kind_at T (type_at T i).a) ≡ true

-- the types of a file that keeps the rules
pub record TypesFormed (parts : ℕ) (T : Tables) : Type 0 where
  pub four : 4 ≤ length T.types
  pub used_up : taken_before T (length T.types) ≡ length T.list
  pub base : (i : ℕ) → i < 4 → kind_at T i ≡ i
  pub later : (i : ℕ) → 4 ≤ i → i < length T.types → (4 ≤ kind_at T i) × (kind_at T i ≤ 7)
  pub array : (i : ℕ) → i < length T.types → kind_at T i ≡ 5 → LowerValue T i (type_at T i).a
  pub function : (i : ℕ) → i < length T.types → kind_at T i ≡ 6 → FunctionType T i
  pub nullable : (i : ℕ) → i < length T.types → kind_at T i ≡ 7 → NullableType T i
  pub few : (i : ℕ) → i < length T.types → parts_at T i ≤ parts

module _ (T : Tables) (i : ℕ) (r : TypeRecord) where
  rule_base : i < 4 → type_rule T i r ≡ true → r.kind ≡ i
  unfolding type_rule base_rule
  rule_base h e =
      let all = rw (lt-ltb i 4 h) at e in
      let (front, unused) = and_parts (eqb r.kind i && eqb r.a 0) (unused_bc r) all in
      let (kind, a) = and_parts (eqb r.kind i) (eqb r.a 0) front in
      eqb-true r.kind i kind

  rule_later : 4 ≤ i → type_rule T i r ≡ true → (4 ≤ r.kind) × (r.kind ≤ 7)
  unfolding type_rule
  rule_later h e = four (eqb r.kind 4) refl (rw (le-ltb i 4 h) at e)
    where
      seven : (b : Bool) → eqb r.kind 7 ≡ b → pick b (nullable_rule T i r) false ≡ true → (4 ≤ r.kind) × (r.kind ≤ 7)
      seven true k f = let s = eqb-true r.kind 7 k in omega arith
      seven false k f = absurd (let z : ◌≡◌ {A = ℕ} 0 1 = cc in omega arith)

      six : (b : Bool) → eqb r.kind 6 ≡ b → pick b (function_rule T i r) (pick (eqb r.kind 7) (nullable_rule T i r) false) ≡ true → (4 ≤ r.kind) × (r.kind ≤ 7)
      six true k f = let s = eqb-true r.kind 6 k in omega arith
      six false k f = seven (eqb r.kind 7) refl f

      five : (b : Bool) → eqb r.kind 5 ≡ b → pick b (array_rule T i r) (pick (eqb r.kind 6) (function_rule T i r) (pick (eqb r.kind 7) (nullable_rule T i r) false)) ≡ true → (4 ≤ r.kind) × (r.kind ≤ 7)
      five true k f = let s = eqb-true r.kind 5 k in omega arith
      five false k f = six (eqb r.kind 6) refl f

      four : (b : Bool) → eqb r.kind 4 ≡ b → pick b (unused_bc r) (pick (eqb r.kind 5) (array_rule T i r) (pick (eqb r.kind 6) (function_rule T i r) (pick (eqb r.kind 7) (nullable_rule T i r) false))) ≡ true → (4 ≤ r.kind) × (r.kind ≤ 7)
      four true k f = let s = eqb-true r.kind 4 k in omega arith
      four false k f = five (eqb r.kind 5) refl f

  -- the rule of a later type by its kind
  rule_array : 4 ≤ i → r.kind ≡ 5 → type_rule T i r ≡ true → array_rule T i r ≡ true
  unfolding type_rule array_rule unused_bc
  rule_array h k e = rw (le-ltb i 4 h, k) at e

  rule_function : 4 ≤ i → r.kind ≡ 6 → type_rule T i r ≡ true → function_rule T i r ≡ true
  unfolding type_rule function_rule
  rule_function h k e = rw (le-ltb i 4 h, k) at e

  rule_nullable : 4 ≤ i → r.kind ≡ 7 → type_rule T i r ≡ true → nullable_rule T i r ≡ true
  unfolding type_rule nullable_rule unused_bc
  rule_nullable h k e = rw (le-ltb i 4 h, k) at e

  -- a type whose kind is past 3 is a later one
  rule_late : type_rule T i r ≡ true → 4 ≤ r.kind → 4 ≤ i
  rule_late e h = go (ltb i 4) refl
    where
      go : (b : Bool) → ltb i 4 ≡ b → 4 ≤ i
      go true l = let s = rule_base (ltb-true i 4 l) e in omega arith
      go false l = ltb-false i 4 l

array_of : (T : Tables) (i : ℕ) → array_rule T i (type_at T i) ≡ true → LowerValue T i (type_at T i).a
unfolding array_rule
array_of T i e = lower_value T i (type_at T i).a (and_parts (is_lower_value T i (type_at T i).a) (unused_bc (type_at T i)) e).0

function_of : (T : Tables) (i : ℕ) → function_rule T i (type_at T i) ≡ true → FunctionType T i
unfolding function_rule params_right
function_of T i e =
    let r = type_at T i in
    let (front, params) = and_parts (ltb r.a i && eqb r.b (taken_before T i) && leb (r.b + r.c) (length T.list)) (params_right T i r.b r.c) e in
    let (two, listed) = and_parts (ltb r.a i && eqb r.b (taken_before T i)) (leb (r.b + r.c) (length T.list)) front in
    let (returns, first) = and_parts (ltb r.a i) (eqb r.b (taken_before T i)) two in
    record {
      returns = ltb-true r.a i returns;
      first = eqb-true r.b (taken_before T i) first;
      listed = leb-true (r.b + r.c) (length T.list) listed;
      parameter = λ j h. lower_value T i (entry_at T (r.b + j)) (all_at r.c (λ k. is_lower_value T i (entry_at T (r.b + k))) params j h);
    }

nullable_of : (T : Tables) (i : ℕ) → nullable_rule T i (type_at T i) ≡ true → NullableType T i
unfolding nullable_rule
nullable_of T i e =
    let r = type_at T i in
    let (two, unused) = and_parts (ltb r.a i && is_reference_kind (kind_at T r.a)) (unused_bc r) e in
    let (lower, reference) = and_parts (ltb r.a i) (is_reference_kind (kind_at T r.a)) two in
    record { lower = ltb-true r.a i lower; reference = reference }

-- every type of a file that keeps the rules
pub types-formed : (parts : ℕ) (T : Tables) → types_right parts T ≡ true → TypesFormed parts T
unfolding types_right each_type_right
types-formed parts T e =
    let (four, each) = and_parts (leb 4 (length T.types)) (each_type_right parts T) e in
    let (every, used) = and_parts (all_below (length T.types) (λ i. type_rule T i (type_at T i) && leb (parts_at T i) parts)) (eqb (taken_before T (length T.types)) (length T.list)) each in
    let at : (i : ℕ) → i < length T.types → (type_rule T i (type_at T i) ≡ true) × (leb (parts_at T i) parts ≡ true) =
    λ i h. and_parts (type_rule T i (type_at T i)) (leb (parts_at T i) parts) (all_at (length T.types) (λ k. type_rule T k (type_at T k) && leb (parts_at T k) parts) every i h) in
    let most : 4 ≤ length T.types = leb-true 4 (length T.types) four in
    record {
      four = most;
      used_up = eqb-true (taken_before T (length T.types)) (length T.list) used;
      base = λ i h. rule_base T i (type_at T i) h (at i (omega arith)).0;
      later = λ i h l. rule_later T i (type_at T i) h (at i l).0;
      array = λ i l k. array_of T i (rule_array T i (type_at T i) (rule_late T i (type_at T i) (at i l).0 (omega arith)) k (at i l).0);
      function = λ i l k. function_of T i (rule_function T i (type_at T i) (rule_late T i (type_at T i) (at i l).0 (omega arith)) k (at i l).0);
      nullable = λ i l k. nullable_of T i (rule_nullable T i (type_at T i) (rule_late T i (type_at T i) (at i l).0 (omega arith)) k (at i l).0);
      few = λ i l. leb-true (parts_at T i) parts (at i l).1;
    }
