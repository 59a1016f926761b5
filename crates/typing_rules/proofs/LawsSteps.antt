-- One step: what is accepted has a derivation, for every labelling that has its labels, and what has a derivation is accepted, with the
-- derivation's labels. Assumes nothing.
use mathlib.Core.Path.{◌≡◌, refl, ap, ap₂, sym, subst, ◌∙◌}
use mathlib.Core.Bool.{Bool, true, false}
use mathlib.Core.List.{List, [], ◌∷◌, ◌++◌}
use mathlib.Core.Logic.{◌↔◌}
use Prim.Native.Nat.{ℕ, zero, suc, ◌+◌, ◌≤◌, ◌<◌}
use native.Mathlib.Numerals.{add-one}
use native.Mathlib.Omega.{arith}
use lib.ListN.{length, replicate, length-append, length-replicate}
use lib.Dec.{eqb}
use borrow.Author.Tests.{eqb-true, eq-eqb}
use Rattle.oat.specs.Basics.{tabulate, sum_below}
use Rattle.oat.specs.Tables.{Tables, type_at, entry_at, field_at, struct_at, built_in_at}
use Rattle.oat.specs.TableRules.{has_kind, fields_before}
use Rattle.oat.specs.Types.{Ty, type_of, Field, Struct, struct_of, structs_of, Lookup, found, missing, lookup}
use Rattle.oat.specs.Subtyping.{Formed}
use Rattle.oat.specs.Decide.{is_formed}
use Rattle.oat.specs.Syntax.{Expr, Block}
use Rattle.oat.specs.Nodes.{Stands, BlockStands}
use Rattle.oat.proofs.LawsBasics.{below_or_last}
use Rattle.oat.proofs.LawsSame.{iff_then, and_says}
use Rattle.oat.proofs.LawsTypes.{FunctionType}
use Rattle.oat.proofs.LawsTables.{HasKind, has-kind}
use Rattle.typing_rules.specs.Contexts.{Scope, empty, Hit, hit, miss, Context, find_name, is_miss}
use Rattle.typing_rules.specs.Derivations.{Derives, DerivesBlock}
use Rattle.typing_rules.specs.Labels.{Result, marks, Label, Labels, unlabelled}
use Rattle.typing_rules.specs.Judge.{ok, formed, referred, judge, execute_block}
use Rattle.typing_rules.specs.Steps.{Step, struct_name, built_in, heading, global_value, struct_fields, body, distinct_fields, distinct_names, FieldsFormed, formed_no_field, formed_field, parameters, Unlabelled, StepRule, typ_stdecl, typ_builtin, typ_ftyp, typ_ggdecl, typ_tdeclok, typ_fdeclok, add_name, add_struct, context_after}
use Rattle.typing_rules.specs.Check.{is_missing, fields_formed, run_step, rows_begin, node_count, stepping}
use Rattle.typing_rules.proofs.Claims.{File, Value, ScopeFits, fits_empty, fits_bind, fits_name, ContextFits, erase_scope, erase_names, erase_context, erase, Holds, erase_bindings}
use Rattle.typing_rules.proofs.LawsBridge.{erase_hit, name_erase, formed_value, erase_append, erase_long, holds_split, holds_join}
use Rattle.typing_rules.proofs.LawsOutcome.{ok_is, then_ok, needs_ok}
use Rattle.typing_rules.proofs.LawsGather.{expr_covered, block_covered}
use Rattle.typing_rules.proofs.Complete.{complete}
use Rattle.typing_rules.proofs.CompleteStmts.{complete_block}
use Rattle.typing_rules.proofs.Sound.{sound}
use Rattle.typing_rules.proofs.SoundStmts.{sound_block}

-- how many structs are declared after a step, k of them before it
abbrev pub structs_after : ℕ → Step → ℕ
structs_after k (struct_name i) = suc k
structs_after k (built_in i) = k
structs_after k (heading n x t) = k
structs_after k (global_value n x a) = k
structs_after k (struct_fields i) = k
structs_after k (body n t ps b) = k

-- a step of the file, k structs declared before it
abbrev pub StepStands : Tables → ℕ → Step → Type 0
StepStands T k (struct_name i) = (i ≡ k) × (i < length T.structs)
StepStands T k (built_in i) = i < length T.built_ins
StepStands T k (heading n x t) = has_kind T t 6 ≡ true
StepStands T k (global_value n x a) = Stands T (n + 1) a
StepStands T k (struct_fields i) = i < length T.structs
StepStands T k (body n t ps b) = (has_kind T t 6 ≡ true) × (length ps ≡ (type_at T t).c) × BlockStands T (n + 1 + length ps) b

-- a lookup that finds nothing
is-missing : (l : Lookup) → is_missing l ≡ true → l ≡ missing
is-missing missing e = refl
is-missing (found fs) e = absurd (let z : ◌≡◌ {A = ℕ} 0 1 = cc in omega arith)

module _ (T : Tables) where
  -- a name is new among type numbers exactly when it is among types written out
  is_new : (h : Hit ℕ) → (is_miss h ≡ true) ↔ (erase_hit T h ≡ miss)
  unfolding erase_hit
  is_new miss = (λ e. refl, λ e. refl)
  is_new (hit a b) = (λ e. absurd (let z : ◌≡◌ {A = ℕ} 0 1 = cc in omega arith), λ e. absurd (let z : ◌≡◌ {A = ℕ} 0 1 = cc in omega arith))

  new_name : (C : Context ℕ) (x : ℕ) → (is_miss (find_name x C.names) ≡ true) ↔ (find_name x (erase_context T C).names ≡ miss)
  new_name C x =
      let (f, g) = is_new (find_name x C.names) in
      (λ e. name_erase T x C.names ∙ f e, λ e. g (sym (name_erase T x C.names) ∙ e))

  function_value : (t : ℕ) → HasKind T t 6 → Value T t
  function_value t h = record { within = h.within; value = λ e. omega arith }

-- the first n, and one more
pub tabulate_more : {A : Type 0} (n : ℕ) (f : ℕ → A) → tabulate n f ++ (f n ∷ []) ≡ tabulate (n + 1) f
unfolding tabulate
tabulate_more zero f = refl
tabulate_more (suc n) f =
    let e : suc (n + 1) ≡ suc n + 1 = omega arith in
    ap (λ l. f 0 ∷ l) (tabulate_more n (λ i. f (suc i))) ∙ ap (λ k. tabulate k f) e

one_longer : {A : Type 0} (l : List A) (a : A) → length (l ++ (a ∷ [])) ≡ suc (length l)
one_longer l a = simp length-append (add-one (length l))

-- the fields that the structs before i take, and those of i
sum_within : (f : ℕ → ℕ) (i m : ℕ) → i < m → sum_below i f + f i ≤ sum_below m f
unfolding sum_below
sum_within f i zero h = absurd (omega arith)
sum_within f i (suc m) h = below_or_last (λ k. sum_below k f + f k ≤ sum_below m f + f m) m i h (λ l. omega (arith, sum_within f i m l)) (omega arith)

fields_within : (T : Tables) (i m : ℕ) → i < m → fields_before T i + (struct_at T i).count ≤ fields_before T m
unfolding fields_before
fields_within T i m h = sum_within (λ j. (struct_at T j).count) i m h

-- parameters
module _ (T : Tables) where
  parameters_written : (xs : List ℕ) (Γ : Scope ℕ) (p m : ℕ)
      → erase_scope T (parameters (λ a. a) T Γ p m xs) ≡ parameters (type_of T) T (erase_scope T Γ) p m xs
  unfolding parameters erase_bindings
  parameters_written [] Γ p m = refl
  parameters_written (x ∷ xs) Γ p m = parameters_written xs _ (suc p) (suc m)

  parameters_fit : (xs : List ℕ) (Γ : Scope ℕ) (p m : ℕ) → ScopeFits T Γ → ((j : ℕ) → j < length xs → Value T (entry_at T (p + j)))
      → ScopeFits T (parameters (λ a. a) T Γ p m xs)
  unfolding parameters
  parameters_fit [] Γ p m f v = f
  parameters_fit (x ∷ xs) Γ p m f v =
      parameters_fit xs _ (suc p) (suc m) (fits_bind f (subst at (omega arith) (v 0 (omega arith))))
      (λ j h. subst at (omega arith) (v (suc j) (omega arith)))
    where
      at : ℕ → Type 0
      at i = Value T (entry_at T i)

-- the scope of a function's body
abbrev pub parameter_scope : Tables → ℕ → ℕ → List ℕ → Scope ℕ
parameter_scope T n t ps = parameters (λ a. a) T empty (type_at T t).b (n + 1) ps

module _ (T : Tables) (F : File T) (t : ℕ) (h : has_kind T t 6 ≡ true) where
  pub type_is : FunctionType T t
  type_is = let k = has-kind T t 6 h in F.types.function t k.within k.kind

  returns_within : referred T t < length T.types
  returns_within = omega (arith, type_is.returns, (has-kind T t 6 h).within)

  pub scope_fits : (n : ℕ) (ps : List ℕ) → length ps ≡ (type_at T t).c → ScopeFits T (parameter_scope T n t ps)
  scope_fits n ps e =
      parameters_fit T ps empty (type_at T t).b (n + 1) fits_empty
      λ j l. let v = type_is.parameter j (omega arith) in
      record { within = omega (arith, v.lower, (has-kind T t 6 h).within); value = v.value }

-- nodes that are given nothing
module _ (T : Tables) (D : Labels Ty) where
  none_labelled : (k n : ℕ) → Holds D n (erase T (replicate k unlabelled)) ↔ Unlabelled D n k
  unfolding Holds erase erase_bindings Unlabelled
  none_labelled zero n = (λ h. tt, λ h. tt)
  none_labelled (suc k) n =
      let (l, r) = none_labelled k (suc n) in
      (λ h. (h.0, l (rw add-one at h.1)), λ h. (h.0, rw add-one (r h.1)))

  -- k of them in front of the labels L
  pub front_labelled : (k n m : ℕ) (L : List (Label ℕ)) → m ≡ n + k
      → Holds D n (erase T (replicate k unlabelled ++ L)) ↔ (Unlabelled D n k × Holds D m (erase T L))
  front_labelled k n m L e =
      let A = replicate k unlabelled in
      let long = erase_long T A ∙ length-replicate k unlabelled in
      let (l, r) = none_labelled k n in (
        λ h. let (a, b) = holds_split D n k m (erase T A) (erase T L) long e (rw erase_append at h) in (l a, b),
        λ h. rw erase_append (holds_join D n k m (erase T A) (erase T L) long e (r h.0) h.1),
      )

-- fields
first_formed : {H : List Struct} {f : Field} {fs : List Field} → FieldsFormed H (f ∷ fs) → Formed H f.type × FieldsFormed H fs
first_formed (formed_field h k) = (h, k)

module _ (T : Tables) (F : File T) (C : Context ℕ) where
  -- n fields, of values' types
  fields-formed : (n : ℕ) (f : ℕ → Field) (g : ℕ → ℕ) → ((j : ℕ) → (f j).type ≡ type_of T (g j)) → ((j : ℕ) → j < n → Value T (g j))
      → (fields_formed C (tabulate n f) ≡ true) ↔ FieldsFormed C.structs (tabulate n f)
  unfolding tabulate fields_formed
  fields-formed zero f g e v = (λ h. formed_no_field, λ h. refl)
  fields-formed (suc n) f g e v =
      iff_then (and_says (is_formed C.structs (f 0).type) (fields_formed C (tabulate n (λ j. f (suc j))))
      (rw (e 0) (formed_value T F C (g 0) (v 0 (omega arith))))
      (fields-formed n (λ j. f (suc j)) (λ j. g (suc j)) (λ j. e (suc j)) (λ j h. v (suc j) (omega arith))))
      (λ h. formed_field h.0 h.1, first_formed)

  -- those of a struct of the file
  struct_formed : (i : ℕ) → i < length T.structs
      → (fields_formed C (struct_of T i).fields ≡ true) ↔ FieldsFormed C.structs (struct_of T i).fields
  unfolding struct_of
  struct_formed i h =
      fields-formed (struct_at T i).count _ (λ j. (field_at T ((struct_at T i).first + j)).type) (λ j. refl)
      λ j l. let v = F.tables.field ((struct_at T i).first + j) (omega (arith, F.tables.struct i h, F.tables.used_up, fields_within T i _ h)) in
      record { within = v.lower; value = v.value }

-- what an accepted step says of every labelling that has its labels
pub record RightStep (T : Tables) (C : Context ℕ) (s : Step) (B : Context ℕ) (L : List (Label ℕ)) : Type 0 where
  pub fits : ContextFits T B
  pub many : length B.structs ≡ structs_after (length C.structs) s
  pub long : length L ≡ node_count s
  pub rule : (D : Labels Ty) → Holds D (rows_begin s) (erase T L) → StepRule T (erase_context T C) D s
  pub after : (D : Labels Ty) → Holds D (rows_begin s) (erase T L) → context_after T (erase_context T C) D s ≡ erase_context T B

module _ (T : Tables) (F : File T) (C : Context ℕ) (f : ContextFits T C) where
  struct_fits : (i : ℕ) → StepStands T (length C.structs) (struct_name i) → ContextFits T (add_struct C (struct_of T i))
  unfolding structs_of
  struct_fits i h = record {
    names = f.names;
    structs =
        ap₂ (λ l k. l ++ (struct_of T k ∷ [])) f.structs h.0
        ∙ tabulate_more (length C.structs) (struct_of T)
        ∙ ap (structs_of T) (sym (length-append C.structs (struct_of T i ∷ [])));
    few = rw one_longer (omega arith);
  }

  name_fits : (x t b : ℕ) (v : Bool) → Value T t → ContextFits T (add_name C x t b v)
  name_fits x t b v w = record { names = fits_name w f.names; structs = f.structs; few = f.few }

  right_struct : (i : ℕ) → StepStands T (length C.structs) (struct_name i) → lookup C.structs (struct_at T i).name ≡ missing
      → RightStep T C (struct_name i) (add_struct C (struct_of T i)) []
  unfolding context_after
  right_struct i h e = record {
    fits = struct_fits i h;
    many = one_longer C.structs (struct_of T i);
    long = refl;
    rule = λ D k. typ_stdecl e;
    after = λ D k. refl;
  }

  right_built_in : (i : ℕ) → i < length T.built_ins → formed T C (built_in_at T i).type ≡ true
      → is_miss (find_name (built_in_at T i).name C.names) ≡ true
      → RightStep T C (built_in i) (add_name C (built_in_at T i).name (built_in_at T i).type (40000 + i) false) []
  unfolding context_after erase_names
  right_built_in i h e g =
      let v = function_value T (built_in_at T i).type (F.tables.built_in_kind i h) in
      record {
        fits = name_fits _ _ _ _ v;
        many = refl;
        long = refl;
        rule = λ D k. typ_builtin ((formed_value T F C _ v).0 e) ((new_name T C _).0 g);
        after = λ D k. refl;
      }

  right_heading : (n x t : ℕ) → has_kind T t 6 ≡ true → formed T C t ≡ true → is_miss (find_name x C.names) ≡ true
      → RightStep T C (heading n x t) (add_name C x t n false) []
  unfolding context_after erase_names
  right_heading n x t h e g =
      let v = function_value T t (has-kind T t 6 h) in
      record {
        fits = name_fits _ _ _ _ v;
        many = refl;
        long = refl;
        rule = λ D k. typ_ftyp ((formed_value T F C _ v).0 e) ((new_name T C _).0 g);
        after = λ D k. refl;
      }

  right_global : (n x : ℕ) (a : Expr) (t : ℕ) (L : List (Label ℕ)) → Stands T (n + 1) a → judge T C a (n + 1) empty ≡ ok t L
      → is_miss (find_name x C.names) ≡ true → RightStep T C (global_value n x a) (add_name C x t n true) (unlabelled ∷ L)
  unfolding context_after erase_names erase_bindings erase Holds rows_begin
  right_global n x a t L h e g =
      let r = sound T F C f a (n + 1) empty t L fits_empty h e in
      record {
        fits = name_fits _ _ _ _ r.value;
        many = refl;
        long = omega (arith, r.long);
        rule = λ D k. typ_ggdecl k.0 (r.before D k.1) (r.derives D k.1) ((new_name T C _).0 g);
        after = λ D k. rw (r.result D k.1);
      }

  right_fields : (i : ℕ) → i < length T.structs → fields_formed C (struct_of T i).fields ≡ true → distinct_fields (struct_of T i).fields ≡ true
      → RightStep T C (struct_fields i) C []
  unfolding context_after
  right_fields i h e g = record {
    fits = f;
    many = refl;
    long = refl;
    rule = λ D k. typ_tdeclok ((struct_formed T F C i h).0 e) g;
    after = λ D k. refl;
  }

  right_body : (n t : ℕ) (ps : List ℕ) (b : Block) (p : ℕ) (L : List (Label ℕ)) → StepStands T (length C.structs) (body n t ps b)
      → distinct_names ps ≡ true → execute_block T C (referred T t) b (n + 1 + length ps) (parameter_scope T n t ps) ≡ ok p L → eqb p 1 ≡ true
      → RightStep T C (body n t ps b) C (replicate (1 + length ps) unlabelled ++ L)
  unfolding context_after rows_begin erase_bindings
  right_body n t ps b p L h d e g =
      let r = sound_block T F C f (referred T t) b _ _ p L (returns_within T F t h.0) (scope_fits T F t h.0 n ps h.1) h.2 e in
      record {
        fits = f;
        many = refl;
        long = simp (length-append, length-replicate) (omega (arith, r.long));
        rule = λ D k.
            let (u, v) = (front_labelled T D (1 + length ps) n (n + 1 + length ps) L (omega arith)).0 k in
            typ_fdeclok d u (r.before D v ∙ parameters_written T ps empty (type_at T t).b (n + 1)) (r.derives D v)
            (r.result D v ∙ ap marks (eqb-true p 1 g));
        after = λ D k. refl;
      }

  pub sound_step : (s : Step) (B : Context ℕ) (L : List (Label ℕ)) → StepStands T (length C.structs) s → run_step T C s ≡ ok B L
      → RightStep T C s B L
  unfolding stepping
  sound_step (struct_name i) B L h e =
      needs_ok _ _ _ _ e λ l r.
      ok_is (RightStep T C (struct_name i)) r (right_struct i h (is-missing _ l))
  sound_step (built_in i) B L h e =
      needs_ok _ _ _ _ e λ l r.
      needs_ok _ _ _ _ r λ m q.
      ok_is (RightStep T C (built_in i)) q (right_built_in i h l m)
  sound_step (heading n x t) B L h e =
      needs_ok _ _ _ _ e λ l r.
      needs_ok _ _ _ _ r λ m q.
      ok_is (RightStep T C (heading n x t)) q (right_heading n x t h l m)
  sound_step (global_value n x a) B L h e =
      then_ok _ _ e λ t M j r.
      needs_ok _ _ _ _ r λ m q.
      ok_is (RightStep T C (global_value n x a)) q (right_global n x a t M h j m)
  sound_step (struct_fields i) B L h e =
      needs_ok _ _ _ _ e λ l r.
      needs_ok _ _ _ _ r λ m q.
      ok_is (RightStep T C (struct_fields i)) q (right_fields i h l m)
  sound_step (body n t ps b) B L h e =
      needs_ok _ _ _ _ e λ l r.
      then_ok _ _ r λ p M j w.
      needs_ok _ _ _ _ w λ m q.
      ok_is (RightStep T C (body n t ps b)) q (right_body n t ps b p M h l j m)

-- what has a derivation is accepted with labels that the derivation has
pub record AcceptedStep (T : Tables) (C : Context ℕ) (D : Labels Ty) (s : Step) : Type 0 where
  pub next : Context ℕ
  pub labels : List (Label ℕ)
  pub accepts : run_step T C s ≡ ok next labels
  pub holds : Holds D (rows_begin s) (erase T labels)

same_mark : {r : Result Ty} {p q : ℕ} → r ≡ marks p → r ≡ marks q → p ≡ q
same_mark e f = cc

module _ (T : Tables) (F : File T) (C : Context ℕ) (f : ContextFits T C) (D : Labels Ty) where
  complete_global : (n x : ℕ) (a : Expr) → Stands T (n + 1) a → D n ≡ unlabelled → (D (n + 1)).before ≡ empty
      → Derives T (erase_context T C) D a (n + 1) → find_name x (erase_context T C).names ≡ miss → AcceptedStep T C D (global_value n x a)
  unfolding stepping erase_bindings erase Holds rows_begin
  complete_global n x a h u b d m =
      let A = complete T F C f D a (n + 1) empty fits_empty h d b in
      record {
        next = add_name C x A.type n true;
        labels = unlabelled ∷ A.labels;
        accepts = rw (A.accepts, (new_name T C x).1 m);
        holds = (u, rw A.same (expr_covered D a (n + 1)).holds);
      }

  complete_body : (n t : ℕ) (ps : List ℕ) (b : Block) → StepStands T (length C.structs) (body n t ps b) → distinct_names ps ≡ true
      → Unlabelled D n (1 + length ps) → (D (n + 1 + length ps)).before ≡ parameters (type_of T) T empty (type_at T t).b (n + 1) ps
      → DerivesBlock T (erase_context T C) D (type_of T (type_at T t).a) b (n + 1 + length ps) → (D (n + 1 + length ps)).result ≡ marks 1
      → AcceptedStep T C D (body n t ps b)
  unfolding stepping erase_bindings rows_begin
  complete_body n t ps b h d u e k m =
      let A = complete_block T F C f D (referred T t) b (n + 1 + length ps) (parameter_scope T n t ps) (returns_within T F t h.0)
      (scope_fits T F t h.0 n ps h.1) h.2 k (e ∙ sym (parameters_written T ps empty (type_at T t).b (n + 1))) in
      record {
        next = C;
        labels = replicate (1 + length ps) unlabelled ++ A.labels;
        accepts = rw (d, A.accepts, eq-eqb A.mark 1 (same_mark A.result m));
        holds =
            (front_labelled T D (1 + length ps) n (n + 1 + length ps) A.labels (omega arith)).1
            (u, rw A.same (block_covered D b (n + 1 + length ps)).holds);
      }

  pub complete_step : {s : Step} → StepRule T (erase_context T C) D s → StepStands T (length C.structs) s → AcceptedStep T C D s
  unfolding stepping erase Holds
  complete_step (typ_stdecl {i} e) h = record { next = add_struct C (struct_of T i); labels = []; accepts = rw e; holds = tt }
  complete_step (typ_builtin {i} e m) h =
      let v = function_value T (built_in_at T i).type (F.tables.built_in_kind i h) in
      record {
        next = add_name C (built_in_at T i).name (built_in_at T i).type (40000 + i) false;
        labels = [];
        accepts = rw ((formed_value T F C _ v).1 e, (new_name T C _).1 m);
        holds = tt;
      }
  complete_step (typ_ftyp {n} {x} {t} e m) h =
      let v = function_value T t (has-kind T t 6 h) in
      record { next = add_name C x t n false; labels = []; accepts = rw ((formed_value T F C t v).1 e, (new_name T C x).1 m); holds = tt }
  complete_step (typ_ggdecl u b d m) h = complete_global _ _ _ h u b d m
  complete_step (typ_tdeclok {i} e d) h = record { next = C; labels = []; accepts = rw ((struct_formed T F C i h).1 e, d); holds = tt }
  complete_step (typ_fdeclok d u b k m) h = complete_body _ _ _ _ h d u b k m
