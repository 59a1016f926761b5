-- Contexts after steps, by counting: how many structs, names and steps; and the steps of each group. Assumes nothing.
use mathlib.Core.Path.{◌≡◌, refl, ap, sym, ◌∙◌}
use mathlib.Core.List.{List, [], ◌∷◌, ◌++◌}
use Prim.Native.Nat.{ℕ, zero, suc, ◌+◌, ◌*◌, ◌≤◌, ◌<◌}
use native.Mathlib.Omega.{arith}
use lib.ListN.{length}
use Rattle.oat.specs.Basics.{tabulate}
use Rattle.oat.specs.Syntax.{Decl, global, function, size_decl}
use Rattle.typing_rules.specs.Steps.{Step, struct_name, built_in, heading, global_value, struct_fields, body, headings, globals, bodies}
use Rattle.typing_rules.specs.Check.{rows_begin, node_count}
use Rattle.typing_rules.proofs.LawsPairs.{step_nodes}
use Rattle.steps.specs.declared.context.Context.{Context}
use Rattle.steps.specs.Contract.{after_step}
use Rattle.typing.specs.Runs.{after_steps, Touched, touched_first, touched_later}

-- how many structs and names a step adds
abbrev pub structs_of_step : Step → ℕ
structs_of_step (struct_name i) = 1
structs_of_step (built_in i) = 0
structs_of_step (heading n x t) = 0
structs_of_step (global_value n x a) = 0
structs_of_step (struct_fields i) = 0
structs_of_step (body n t ps b) = 0

abbrev names_of_step : Step → ℕ
names_of_step (struct_name i) = 0
names_of_step (built_in i) = 1
names_of_step (heading n x t) = 1
names_of_step (global_value n x a) = 1
names_of_step (struct_fields i) = 0
names_of_step (body n t ps b) = 0

-- every step adds j structs and k names
pub data Alike (j k : ℕ) : List Step → Type 0 where
  alike_none : Alike j k []
  alike_next : {s : Step} {ss : List Step} → structs_of_step s ≡ j → names_of_step s ≡ k → Alike j k ss → Alike j k (s ∷ ss)

pub alike_append : {j k : ℕ} {ss ts : List Step} → Alike j k ss → Alike j k ts → Alike j k (ss ++ ts)
alike_append alike_none b = b
alike_append (alike_next e f a) b = alike_next e f (alike_append a b)

-- the counts of d are those of c with so many more
pub record More (c d : Context) (structs names steps : ℕ) : Type 0 where
  pub structs_are : d.structs ≡ c.structs + structs
  pub names_are : d.names ≡ c.names + names
  pub steps_are : d.steps ≡ c.steps + steps

one_more : (s : Step) (c : Context) → More c (after_step s c) (structs_of_step s) (names_of_step s) 1
one_more (struct_name i) c = record { structs_are = refl; names_are = omega arith; steps_are = refl }
one_more (built_in i) c = record { structs_are = omega arith; names_are = refl; steps_are = refl }
one_more (heading n x t) c = record { structs_are = omega arith; names_are = refl; steps_are = refl }
one_more (global_value n x a) c = record { structs_are = omega arith; names_are = refl; steps_are = refl }
one_more (struct_fields i) c = record { structs_are = omega arith; names_are = omega arith; steps_are = refl }
one_more (body n t ps b) c = record { structs_are = omega arith; names_are = omega arith; steps_are = refl }

more_then : {c d e : Context} {a b k a' b' k' : ℕ} → More c d a b k → More d e a' b' k' → More c e (a + a') (b + b') (k + k')
more_then m n = record { structs_are = omega arith; names_are = omega arith; steps_are = omega arith }

pub after_counted : (j k : ℕ) (ss : List Step) (c : Context) → Alike j k ss → More c (after_steps ss c) (length ss * j) (length ss * k) (length ss)
unfolding after_steps
after_counted j k [] c a = record { structs_are = omega arith; names_are = omega arith; steps_are = omega arith }
after_counted j k (s ∷ ss) c (alike_next e f a) =
    let m = one_more s c in
    let n = after_counted j k ss (after_step s c) a in
    let first : (structs_of_step s + length ss * j) ≡ suc (length ss) * j = ap (λ i. i + length ss * j) e ∙ sym (mul_next (length ss) j) in
    let second : (names_of_step s + length ss * k) ≡ suc (length ss) * k = ap (λ i. i + length ss * k) f ∙ sym (mul_next (length ss) k) in
    record {
      structs_are = n.structs_are ∙ omega (arith, m.structs_are, first);
      names_are = n.names_are ∙ omega (arith, m.names_are, second);
      steps_are = n.steps_are ∙ omega (arith, m.steps_are);
    }
  where
    mul_next : (m j : ℕ) → suc m * j ≡ j + m * j
    mul_next m j = omega arith

-- the steps of records
tabulated : (j k : ℕ) (n : ℕ) (f : ℕ → Step) → ((i : ℕ) → structs_of_step (f i) ≡ j) → ((i : ℕ) → names_of_step (f i) ≡ k) → Alike j k (tabulate n f)
unfolding tabulate
tabulated j k zero f a b = alike_none
tabulated j k (suc n) f a b = alike_next (a 0) (b 0) (tabulated j k n (λ i. f (suc i)) (λ i. a (suc i)) (λ i. b (suc i)))

pub structs_alike : (n : ℕ) → Alike 1 0 (tabulate n struct_name)
structs_alike n = tabulated 1 0 n struct_name (λ i. refl) (λ i. refl)

pub built_ins_alike : (n : ℕ) → Alike 0 1 (tabulate n built_in)
built_ins_alike n = tabulated 0 1 n built_in (λ i. refl) (λ i. refl)

pub fields_alike : (n : ℕ) → Alike 0 0 (tabulate n struct_fields)
fields_alike n = tabulated 0 0 n struct_fields (λ i. refl) (λ i. refl)

-- they touch no row
pub data Bare : List Step → Type 0 where
  bare_none : Bare []
  bare_next : {s : Step} {ss : List Step} → node_count s ≡ 0 → Bare ss → Bare (s ∷ ss)

pub bare_untouched : {i : ℕ} {ss : List Step} → Bare ss → Touched i ss → ⊥
bare_untouched bare_none t = elim t [ ]
bare_untouched (bare_next e b) (touched_first l h) = omega arith
bare_untouched (bare_next e b) (touched_later t) = bare_untouched b t

tabulated_bare : (n : ℕ) (f : ℕ → Step) → ((i : ℕ) → node_count (f i) ≡ 0) → Bare (tabulate n f)
unfolding tabulate
tabulated_bare zero f a = bare_none
tabulated_bare (suc n) f a = bare_next (a 0) (tabulated_bare n (λ i. f (suc i)) (λ i. a (suc i)))

pub structs_bare : (n : ℕ) → Bare (tabulate n struct_name)
structs_bare n = tabulated_bare n struct_name (λ i. refl)

pub built_ins_bare : (n : ℕ) → Bare (tabulate n built_in)
built_ins_bare n = tabulated_bare n built_in (λ i. refl)

pub fields_bare : (n : ℕ) → Bare (tabulate n struct_fields)
fields_bare n = tabulated_bare n struct_fields (λ i. refl)

-- the first records, and any that follow
pub tabulate_rest : {A : Type 0} (n m : ℕ) (f : ℕ → A) → n ≤ m → (rest : List A) × (tabulate n f ++ rest ≡ tabulate m f)
unfolding tabulate
tabulate_rest zero m f h = (tabulate m f, refl)
tabulate_rest (suc n) zero f h = absurd (omega arith)
tabulate_rest (suc n) (suc m) f h = let (rest, e) = tabulate_rest n m (λ i. f (suc i)) (omega arith) in (rest, ap (λ l. f 0 ∷ l) e)

-- a group of steps of declarations, each of which has one or none, which adds k names and has nodes of the declaration alone
pub record Group (steps : ℕ → List Decl → List Step) (k : ℕ) : Type 0 where
  pub none : (n : ℕ) → steps n [] ≡ []
  pub more : (n : ℕ) (d : Decl) (ds : List Decl) → steps n (d ∷ ds) ≡ steps n (d ∷ []) ++ steps (n + size_decl d) ds
  pub few : (n : ℕ) (d : Decl) → length (steps n (d ∷ [])) ≤ 1
  pub alike : (n : ℕ) (d : Decl) → Alike 0 k (steps n (d ∷ []))
  pub nodes : (n : ℕ) (d : Decl) → step_nodes (steps n (d ∷ [])) ≤ size_decl d
  pub within : (n : ℕ) (d : Decl) (i : ℕ) → Touched i (steps n (d ∷ [])) → (n * 2 ≤ i) × (i < (n + size_decl d) * 2)

pub headings_group : Group headings 1
unfolding headings
headings_group = record { none = λ n. refl; more = more; few = few; alike = alike; nodes = nodes; within = within }
  where
    more : (n : ℕ) (d : Decl) (ds : List Decl) → headings n (d ∷ ds) ≡ headings n (d ∷ []) ++ headings (n + size_decl d) ds
    more n (global x a) ds = refl
    more n (function x t ps b) ds = refl

    few : (n : ℕ) (d : Decl) → length (headings n (d ∷ [])) ≤ 1
    few n (global x a) = omega arith
    few n (function x t ps b) = omega arith

    alike : (n : ℕ) (d : Decl) → Alike 0 1 (headings n (d ∷ []))
    alike n (global x a) = alike_none
    alike n (function x t ps b) = alike_next refl refl alike_none

    nodes : (n : ℕ) (d : Decl) → step_nodes (headings n (d ∷ [])) ≤ size_decl d
    nodes n (global x a) = omega arith
    nodes n (function x t ps b) = omega arith

    within : (n : ℕ) (d : Decl) (i : ℕ) → Touched i (headings n (d ∷ [])) → (n * 2 ≤ i) × (i < (n + size_decl d) * 2)
    within n (global x a) i u = elim u [ ]
    within n (function x t ps b) i (touched_first l h) = absurd (omega arith)
    within n (function x t ps b) i (touched_later u) = elim u [ ]

pub globals_group : Group globals 1
unfolding globals rows_begin
globals_group = record { none = λ n. refl; more = more; few = few; alike = alike; nodes = nodes; within = within }
  where
    more : (n : ℕ) (d : Decl) (ds : List Decl) → globals n (d ∷ ds) ≡ globals n (d ∷ []) ++ globals (n + size_decl d) ds
    more n (global x a) ds = refl
    more n (function x t ps b) ds = refl

    few : (n : ℕ) (d : Decl) → length (globals n (d ∷ [])) ≤ 1
    few n (global x a) = omega arith
    few n (function x t ps b) = omega arith

    alike : (n : ℕ) (d : Decl) → Alike 0 1 (globals n (d ∷ []))
    alike n (global x a) = alike_next refl refl alike_none
    alike n (function x t ps b) = alike_none

    nodes : (n : ℕ) (d : Decl) → step_nodes (globals n (d ∷ [])) ≤ size_decl d
    nodes n (global x a) = omega arith
    nodes n (function x t ps b) = omega arith

    within : (n : ℕ) (d : Decl) (i : ℕ) → Touched i (globals n (d ∷ [])) → (n * 2 ≤ i) × (i < (n + size_decl d) * 2)
    within n (global x a) i (touched_first l h) = (l, h)
    within n (global x a) i (touched_later u) = elim u [ ]
    within n (function x t ps b) i u = elim u [ ]

pub bodies_group : Group bodies 0
unfolding bodies rows_begin
bodies_group = record { none = λ n. refl; more = more; few = few; alike = alike; nodes = nodes; within = within }
  where
    more : (n : ℕ) (d : Decl) (ds : List Decl) → bodies n (d ∷ ds) ≡ bodies n (d ∷ []) ++ bodies (n + size_decl d) ds
    more n (global x a) ds = refl
    more n (function x t ps b) ds = refl

    few : (n : ℕ) (d : Decl) → length (bodies n (d ∷ [])) ≤ 1
    few n (global x a) = omega arith
    few n (function x t ps b) = omega arith

    alike : (n : ℕ) (d : Decl) → Alike 0 0 (bodies n (d ∷ []))
    alike n (global x a) = alike_none
    alike n (function x t ps b) = alike_next refl refl alike_none

    nodes : (n : ℕ) (d : Decl) → step_nodes (bodies n (d ∷ [])) ≤ size_decl d
    nodes n (global x a) = omega arith
    nodes n (function x t ps b) = omega arith

    within : (n : ℕ) (d : Decl) (i : ℕ) → Touched i (bodies n (d ∷ [])) → (n * 2 ≤ i) × (i < (n + size_decl d) * 2)
    within n (global x a) i u = elim u [ ]
    within n (function x t ps b) i (touched_first l h) = (l, h)
    within n (function x t ps b) i (touched_later u) = elim u [ ]
