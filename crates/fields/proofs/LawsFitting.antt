-- What a struct literal's names are tested for is what the rules ask of them: with as many initializers as fields, fields that are
-- distinct and each named are named once each. Assumes nothing.
use mathlib.Core.Path.{◌≡◌, refl, ap, sym, ◌∙◌}
use mathlib.Core.Bool.{Bool, true, false, ◌&&◌, false≢true}
use mathlib.Core.List.{List, [], ◌∷◌}
use Prim.Native.Nat.{ℕ, ◌+◌, ◌≤◌, ◌<◌}
use native.Mathlib.Omega.{arith}
use lib.ListN.{length}
use lib.Dec.{eqb, ltb}
use borrow.Author.Tests.{eq-eqb, ne_eqb, eqb-true, ltb-true, lt-ltb}
use Rattle.oat.specs.Basics.{pick}
use Rattle.oat.specs.Tables.{Tables, node_at, struct_at}
use Rattle.oat.specs.Types.{Field, struct_of}
use Rattle.oat.specs.Syntax.{Expr, Inits, no_init, init, count_inits}
use Rattle.oat.proofs.LawsBasics.{and_parts, and_left, and_both, tabulate_long}
use Rattle.oat.proofs.LawsSame.{both_true}
use Rattle.typing_rules.specs.Rules.{declared_times, named_times, each_once, names_fit}
use Rattle.typing_rules.specs.Steps.{has_field, distinct_fields}
use Rattle.file_sections.specs.declared.Sections.{Sections}
use Rattle.file_sections.specs.Layout.{tables_of}
use Rattle.fields.specs.Literal.{is_named, all_named, OfInitializers}
use Rattle.fields.proofs.LawsDistinct.{picked_none}

-- how many initializers have the name of one of the fields
unfoldable fields_named : List Field → Inits → ℕ
fields_named [] is = 0
fields_named (f ∷ fs) is = named_times f.name is + fields_named fs is

eqb_turn : (a b : ℕ) → eqb a b ≡ eqb b a
eqb_turn a b = both_true (eqb a b) (eqb b a) (λ e. eq-eqb b a (sym (eqb-true a b e)), λ e. eq-eqb a b (sym (eqb-true b a e)))

-- a name that no field has
has_no : (x : ℕ) (fs : List Field) → has_field x fs ≡ false → declared_times x fs ≡ 0
unfolding has_field declared_times
has_no x [] e = refl
has_no x (f ∷ fs) e = go (eqb f.name x) e (has_no x fs)
  where
    go : (b : Bool) → pick b true (has_field x fs) ≡ false → (has_field x fs ≡ false → declared_times x fs ≡ 0) → pick b 1 0 + declared_times x fs ≡ 0
    go true e r = absurd (false≢true (sym e))
    go false e r = omega (arith, r e)

no_times : (x : ℕ) (fs : List Field) → declared_times x fs ≡ 0 → has_field x fs ≡ false
unfolding has_field declared_times
no_times x [] e = refl
no_times x (f ∷ fs) e = go (eqb f.name x) e (no_times x fs)
  where
    go : (b : Bool) → pick b 1 0 + declared_times x fs ≡ 0 → (declared_times x fs ≡ 0 → has_field x fs ≡ false) → pick b true (has_field x fs) ≡ false
    go true e r = absurd (omega arith)
    go false e r = r (omega arith)

-- where fields are distinct no name is declared twice
declared_once : (fs : List Field) → distinct_fields fs ≡ true → (x : ℕ) → declared_times x fs ≤ 1
unfolding distinct_fields declared_times
declared_once [] e x = omega arith
declared_once (f ∷ fs) e x =
    go (eqb f.name x) refl (picked_none (has_field f.name fs) _ e) (λ d. declared_once fs d x)
  where
    go : (b : Bool) → eqb f.name x ≡ b → (has_field f.name fs ≡ false) × (distinct_fields fs ≡ true)
        → (distinct_fields fs ≡ true → declared_times x fs ≤ 1) → pick b 1 0 + declared_times x fs ≤ 1
    go true l p r = omega (arith, has_no x fs (ap (λ y. has_field y fs) (sym (eqb-true f.name x l)) ∙ p.0))
    go false l p r = omega (arith, r p.1)

-- one initializer more counts as often as its name is declared
named_next : (fs : List Field) (y : ℕ) (a : Expr) (is : Inits) → fields_named fs (init y a is) ≡ declared_times y fs + fields_named fs is
unfolding fields_named declared_times named_times
named_next [] y a is = refl
named_next (f ∷ fs) y a is = rw (eqb_turn y f.name, named_next fs y a is) (omega arith)

-- so no more of them have names of distinct fields than there are
none_named : (fs : List Field) → fields_named fs no_init ≡ 0
unfolding fields_named named_times
none_named [] = refl
none_named (f ∷ fs) = omega (arith, none_named fs)

named_few : (fs : List Field) → distinct_fields fs ≡ true → (is : Inits) → fields_named fs is ≤ count_inits is
named_few fs d no_init = omega (arith, none_named fs)
named_few fs d (init y a is) = omega (arith, named_next fs y a is, declared_once fs d y, named_few fs d is)

-- and no fewer than there are fields, where each is named
named_parts : (f : Field) (fs : List Field) (is : Inits) → all_named (f ∷ fs) is ≡ true → (0 < named_times f.name is) × (all_named fs is ≡ true)
unfolding all_named is_named
named_parts f fs is e =
    let parts = and_parts (ltb 0 (named_times f.name is)) _ e in
    (ltb-true 0 (named_times f.name is) parts.0, parts.1)

named_many : (fs : List Field) (is : Inits) → all_named fs is ≡ true → length fs ≤ fields_named fs is
unfolding fields_named
named_many [] is e = omega arith
named_many (f ∷ fs) is e = omega (arith, (named_parts f fs is e).0, named_many fs is (named_parts f fs is e).1)

-- a field declares its own name
own_declared : (g : Field) (gs : List Field) → declared_times g.name (g ∷ gs) ≡ 1 + declared_times g.name gs
unfolding declared_times
own_declared g gs = rw (eq-eqb g.name g.name refl) refl

-- so each is named once; gs are some of the fields fs
module _ (fs : List Field) (is : Inits) where
  once_each : (gs : List Field) → ((x : ℕ) → declared_times x fs ≤ 1) → ((x : ℕ) → declared_times x gs ≤ declared_times x fs)
      → all_named gs is ≡ true → fields_named gs is ≤ length gs → each_once fs is gs ≡ true
  unfolding each_once fields_named declared_times
  once_each [] o u a l = refl
  once_each (g ∷ gs) o u a l =
      let named = named_parts g gs is a in
      let own : 1 ≤ declared_times g.name fs = omega (arith, own_declared g gs, u g.name) in
      let declared : declared_times g.name fs ≡ 1 = omega (arith, o g.name) in
      let once : named_times g.name is ≡ 1 = omega (arith, named.0, named_many gs is named.1) in
      rw
      (declared, once)
      (once_each gs o (λ x. omega (arith, u x)) named.1 (omega (arith, named.0)))

  -- what is named once is named, and what is declared once has no other of its name behind it
  once_parts : (g : Field) (gs : List Field) → each_once fs is (g ∷ gs) ≡ true
      → (declared_times g.name fs ≡ 1) × (named_times g.name is ≡ 1) × (each_once fs is gs ≡ true)
  unfolding each_once
  once_parts g gs e =
      let parts = and_parts (eqb (declared_times g.name fs) 1 && eqb (named_times g.name is) 1) _ e in
      let tests = and_parts (eqb (declared_times g.name fs) 1) _ parts.0 in
      (eqb-true _ _ tests.0, eqb-true _ _ tests.1, parts.1)

  once_named : (gs : List Field) → each_once fs is gs ≡ true → all_named gs is ≡ true
  unfolding all_named is_named
  once_named [] e = refl
  once_named (g ∷ gs) e =
      let parts = once_parts g gs e in
      and_both _ _ (lt-ltb 0 (named_times g.name is) (omega (arith, parts.1))) (once_named gs parts.2)

  once_distinct : (gs : List Field) → ((x : ℕ) → declared_times x gs ≤ declared_times x fs) → each_once fs is gs ≡ true → distinct_fields gs ≡ true
  unfolding distinct_fields declared_times
  once_distinct [] u e = refl
  once_distinct (g ∷ gs) u e =
      let parts = once_parts g gs e in
      let none : declared_times g.name gs ≡ 0 = omega (arith, parts.0, own_declared g gs, u g.name) in
      rw (no_times g.name gs none) (once_distinct gs (λ x. omega (arith, u x)) parts.2)

-- the names fit
fit_is : (fs : List Field) (is : Inits) → count_inits is ≡ length fs → (distinct_fields fs && all_named fs is) ≡ names_fit fs is
unfolding names_fit
fit_is fs is e =
    both_true
    (distinct_fields fs && all_named fs is)
    (each_once fs is fs) (
      λ t. go (and_parts (distinct_fields fs) _ t),
      λ o. and_both _ _ (once_distinct fs is fs (λ x. omega arith) o) (once_named fs is fs o),
    )
    ∙ rw (eq-eqb (count_inits is) (length fs) e) refl
  where
    go : (distinct_fields fs ≡ true) × (all_named fs is ≡ true) → each_once fs is fs ≡ true
    go p = once_each fs is fs (declared_once fs p.0) (λ x. omega arith) p.1 (omega (arith, named_few fs p.0 is))

fit_not : (fs : List Field) (is : Inits) → (count_inits is ≡ length fs → ⊥) → names_fit fs is ≡ false
unfolding names_fit
fit_not fs is f = rw (ne_eqb (count_inits is) (length fs) f) refl

fields_counted : (T : Tables) (r : ℕ) → length (struct_of T r).fields ≡ (struct_at T r).count
unfolding struct_of
fields_counted T r = tabulate_long (struct_at T r).count _

-- the literal at the node n, whose struct is the record r; `v` is what the tests before the last one say
module _ (F : List ℕ) (S : Sections) (n r count m : ℕ) (ec : count ≡ (node_at (tables_of F S) n).children) (em : m ≡ (struct_at (tables_of F S) r).count) (v : Bool) where
  pub same_count : (count ≡ m → ⊥) → v ≡ eqb count m → v ≡ true → ⊥
  same_count f ev e = f (eqb-true count m (sym ev ∙ e))

  pub count_differs : (count ≡ m → ⊥) → v ≡ eqb count m → OfInitializers F S (n + 1) (node_at (tables_of F S) n).children (λ is. v ≡ names_fit (struct_of (tables_of F S) r).fields is)
  count_differs f ev = record {
    holds = λ is d e. ev ∙ ne_eqb count m f ∙ sym (fit_not _ is (λ q. f (ec ∙ sym e ∙ q ∙ fields_counted (tables_of F S) r ∙ sym em)));
  }

  module _ (same : count ≡ m) (b : Bool) (eb : b ≡ distinct_fields (struct_of (tables_of F S) r).fields) (ev : v ≡ b) where
    pub not_distinct : v ≡ false → OfInitializers F S (n + 1) (node_at (tables_of F S) n).children (λ is. v ≡ names_fit (struct_of (tables_of F S) r).fields is)
    not_distinct f = record {
      holds = λ is d e. f
          ∙ sym (and_left _ (all_named (struct_of (tables_of F S) r).fields is) (sym (ev ∙ eb) ∙ f))
          ∙ fit_is _ is (e ∙ sym ec ∙ same ∙ em ∙ sym (fields_counted (tables_of F S) r));
    }

    pub names_told : v ≡ true → (t : Bool) → OfInitializers F S (n + 1) count (λ is. t ≡ all_named (struct_of (tables_of F S) r).fields is)
        → OfInitializers F S (n + 1) (node_at (tables_of F S) n).children (λ is. t ≡ names_fit (struct_of (tables_of F S) r).fields is)
    names_told f t A = record {
      holds = λ is d e. A.holds is d (e ∙ sym ec)
          ∙ sym (ap (λ c. c && all_named (struct_of (tables_of F S) r).fields is) (sym (ev ∙ eb) ∙ f))
          ∙ fit_is _ is (e ∙ sym ec ∙ same ∙ em ∙ sym (fields_counted (tables_of F S) r));
    }
