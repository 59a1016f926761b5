-- The loops over records: struct names, built-ins and struct fields. Assumes nothing.
use mathlib.Core.Path.{◌≡◌, refl, ap, sym, subst, ◌∙◌}
use mathlib.Core.List.{List, []}
use Prim.Native.Nat.{ℕ, ◌+◌, ◌≤◌, ◌<◌}
use native.Mathlib.Omega.{arith}
use lib.ListN.{length}
use Rattle.std.specs.Prelude.{Result, Ok}
use Rattle.oat.specs.Basics.{tabulate}
use Rattle.oat.proofs.LawsBasics.{tabulate_long}
use Rattle.typing_rules.specs.Steps.{Step, struct_name, built_in, struct_fields}
use Rattle.typing_rules.proofs.LawsSteps.{tabulate_more}
use Rattle.typing_rules.specs.Check.{node_count}
use Rattle.file_sections.specs.declared.Sections.{Sections}
use Rattle.file_sections.specs.Layout.{Laid}
use Rattle.steps.specs.declared.context.Context.{Context}
use Rattle.steps.specs.declared.context.Refusal.{Refusal}
use Rattle.steps.specs.Contract.{with_struct, with_step, Answered, Steps, Rowless, Copied, ReadyStruct, ToldStruct, ReadyBuiltIn, ReadyFields}
use Rattle.typing.specs.Runs.{start, Runs, AnsweredAll, ReadyBuiltIns, ToldBuiltIns, ReadyStructs}
use Rattle.typing.proofs.LawsRuns.{HandedUp, Apart, runs_none, runs_one, runs_then, runs_stop, runs_next}
use Rattle.typing.proofs.LawsCounts.{after_counted, built_ins_alike, Bare, bare_none, bare_next, bare_untouched, tabulate_rest}
use Rattle.typing.proofs.LawsAnswers.{answered_next, all_none, answers_stop, answers_more}

pub apart_bare : (ss : List Step) {ts : List Step} → Bare ts → Apart ss ts
apart_bare ss b = record { never = λ i t u. bare_untouched b u }

-- the first i records have had their steps
module _ (f : ℕ → Step) (b : (i : ℕ) → node_count (f i) ≡ 0) {F : List ℕ} {S : Sections} {X : List ℕ} {c₀ c : Context} {R₀ W₀ R W K R' W' K' : List ℕ} {t : Result Context Refusal} {i : ℕ} where
  one_after : Runs F S X c₀ (tabulate i f) R₀ W₀ R W K (Ok c) → Steps F S X c (f i) R W R' W' K' t → Runs F S X c₀ (tabulate (i + 1) f) R₀ W₀ R' W' K' t
  one_after a h =
      subst (λ ss. Runs F S X c₀ ss R₀ W₀ R' W' K' t) (tabulate_more i f)
      (runs_then (apart_bare (tabulate i f) (bare_next (b i) bare_none)) refl a (runs_one h))

  records_stop : (n : ℕ) {r : Result Context Refusal} → i < n → HandedUp t r → Runs F S X c₀ (tabulate i f) R₀ W₀ R W K (Ok c) → Steps F S X c (f i) R W R' W' K' t
      → Runs F S X c₀ (tabulate n f) R₀ W₀ R' W' K' r
  records_stop n l e a h =
      let (rest, q) = tabulate_rest (i + 1) n f (omega arith) in
      subst (Runs F S X c₀ (tabulate n f) R₀ W₀ R' W' K') (sym e.same) (subst (λ ss. Runs F S X c₀ ss R₀ W₀ R' W' K' t) q (runs_stop rest e.stopped (one_after a h)))

  records_next : {d : Context} → t ≡ Ok d → Runs F S X c₀ (tabulate i f) R₀ W₀ R W K (Ok c) → Steps F S X c (f i) R W R' W' K' t
      → Runs F S X c₀ (tabulate (i + 1) f) R₀ W₀ R' W' K' (Ok d)
  records_next e a h = subst (Runs F S X c₀ (tabulate (i + 1) f) R₀ W₀ R' W' K') e (one_after a h)

same_record : (i n : ℕ) → i ≤ n → n ≤ i → i ≡ n
same_record i n a b = omega arith

no_records : {A : Type 0} (f : ℕ → A) → tabulate 0 f ≡ []
unfolding tabulate
no_records f = refl

none_answered : {F : List ℕ} {S : Sections} {c : Context} (f : ℕ → Step) → AnsweredAll F S c (tabulate 0 f) (Ok c)
none_answered {F} {S} {c} f = subst (λ ss. AnsweredAll F S c ss (Ok c)) (sym (no_records f)) all_none

-- struct names
pub record StructsDone (F : List ℕ) (S : Sections) (N : List ℕ) (i : ℕ) (c : Context) : Type 0 where
  pub copied : Copied F S N i
  pub counted : c ≡ record { structs = i; names = 0; steps = i; pairs = 0 }
  pub answered : AnsweredAll F S start (tabulate i struct_name) (Ok c)

module _ {F : List ℕ} {S : Sections} where
  pub structs_first : {N : List ℕ} {c : Context} → Laid F S → 256 ≤ length N → c ≡ start → StructsDone F S N 0 c
  structs_first {N} l h e = subst (StructsDone F S N 0) (sym e) (record {
    copied = record { laid = l; long = h; names = λ j z. absurd (omega arith) };
    counted = refl;
    answered = none_answered struct_name;
  })

  module _ {N : List ℕ} {i : ℕ} {c : Context} (a : StructsDone F S N i c) where
    pub structs_ready : i < S.structs → ReadyStruct F S N c i
    structs_ready h = record {
      copied = a.copied;
      there = h;
      next = ap (λ x. x.structs) a.counted;
      few = omega (arith, ap (λ x. x.steps) a.counted, a.copied.laid.structs_most);
    }

    module _ {N' : List ℕ} {t : Result Context Refusal} (told : ToldStruct F S c i N' t) where
      pub structs_stop : {r : Result Context Refusal} → i < S.structs → HandedUp t r → AnsweredAll F S start (tabulate S.structs struct_name) r
      structs_stop l e = subst (AnsweredAll F S start (tabulate S.structs struct_name)) (sym e.same) (answers_stop struct_name (λ j. refl) a.answered told.answered S.structs l e.stopped)

      pub structs_next : {d : Context} → t ≡ Ok d → StructsDone F S N' (i + 1) d
      structs_next {d} e =
          let n = answered_next told.answered e in
          record {
            copied = told.copied (e ∙ ap (λ x. Ok x) n);
            counted = n ∙ ap with_struct a.counted;
            answered = answers_more struct_name (λ j. refl) a.answered told.answered e;
          }

    pub structs_done : i ≤ S.structs → S.structs ≤ i → AnsweredAll F S start (tabulate S.structs struct_name) (Ok c)
    structs_done l h = subst (λ n. AnsweredAll F S start (tabulate n struct_name) (Ok c)) (same_record i S.structs l h) a.answered

-- the stack is the same before and after a built-in
pub same_stack : {F : List ℕ} {S : Sections} {X W W₁ W₂ K : List ℕ} {c : Context} {s : Step} {r : Result Context Refusal} → W₁ ≡ W → W₂ ≡ W₁ → Rowless F S X c s W₁ W₂ K r → Rowless F S X c s W W K r
same_stack {F} {S} {X} {W} {W₁} {W₂} {K} {c} {s} {r} e f m = subst (λ V. Rowless F S X c s V V K r) e (subst (λ V. Rowless F S X c s W₁ V K r) f m)

-- built-ins
pub record BuiltInsDone (F : List ℕ) (S : Sections) (X W : List ℕ) (c₀ : Context) (K : List ℕ) (i : ℕ) (c : Context) : Type 0 where
  pub runs : (R : List ℕ) → Runs F S X c₀ (tabulate i built_in) R W R W K (Ok c)

module _ {F : List ℕ} {S : Sections} {X W : List ℕ} {c₀ : Context} where
  pub built_ins_start : {K : List ℕ} → ReadyBuiltIns F S X W K c₀ → BuiltInsDone F S X W c₀ K 0 c₀
  built_ins_start {K} z = record {
    runs = λ R. subst (λ ss. Runs F S X c₀ ss R W R W K (Ok c₀)) (sym (no_records built_in)) (runs_none refl z.held);
  }

  module _ {K : List ℕ} {i : ℕ} {c : Context} (a : BuiltInsDone F S X W c₀ K i c) where
    pub built_ins_ready : {W₁ K₀ : List ℕ} → W₁ ≡ W → ReadyBuiltIns F S X W K₀ c₀ → i < S.built_ins → ReadyBuiltIn F S X W₁ K c i
    built_ins_ready f z h =
        let (e, held) = runs_next refl (a.runs []) in
        let m = after_counted 0 1 (tabulate i built_in) c₀ (built_ins_alike i) in
        let n = tabulate_long i built_in in
        subst (λ V. ReadyBuiltIn F S X V K c i) (sym f) record {
          held = held;
          whole = record {
            structs = omega (arith, ap (λ x. x.structs) e, m.structs_are, z.structs);
            few = omega (arith, ap (λ x. x.steps) e, m.steps_are, n, z.few, z.held.good_tables.laid.built_ins_most);
          };
          there = h;
          next = omega (arith, ap (λ x. x.names) e, m.names_are, n, z.none);
        }

    module _ {K' : List ℕ} {t : Result Context Refusal} (told : Rowless F S X c (built_in i) W W K' t) where
      pub built_ins_stop : {r : Result Context Refusal} → i < S.built_ins → HandedUp t r → ToldBuiltIns F S X W c₀ K' r
      built_ins_stop l e = record { tells = λ R. records_stop built_in (λ j. refl) S.built_ins l e (a.runs R) (told.tells R) }

      pub built_ins_next : {d : Context} → t ≡ Ok d → BuiltInsDone F S X W c₀ K' (i + 1) d
      built_ins_next e = record { runs = λ R. records_next built_in (λ j. refl) e (a.runs R) (told.tells R) }

    pub built_ins_done : i ≤ S.built_ins → S.built_ins ≤ i → ToldBuiltIns F S X W c₀ K (Ok c)
    built_ins_done l h = record {
      tells = λ R. subst (λ n. Runs F S X c₀ (tabulate n built_in) R W R W K (Ok c)) (same_record i S.built_ins l h) (a.runs R);
    }

-- struct fields
pub record FieldsDone (F : List ℕ) (S : Sections) (c₀ : Context) (i : ℕ) (c : Context) : Type 0 where
  pub counted : c ≡ record { structs = c₀.structs; names = c₀.names; steps = c₀.steps + i; pairs = c₀.pairs }
  pub answered : AnsweredAll F S c₀ (tabulate i struct_fields) (Ok c)

module _ {F : List ℕ} {S : Sections} {c₀ : Context} where
  pub fields_start : FieldsDone F S c₀ 0 c₀
  fields_start = record {
    counted = ap (λ k. record { structs = c₀.structs; names = c₀.names; steps = k; pairs = c₀.pairs }) (more_none c₀.steps);
    answered = none_answered struct_fields;
  }
    where
      more_none : (k : ℕ) → k ≡ k + 0
      more_none k = omega arith

  module _ {i : ℕ} {c : Context} (a : FieldsDone F S c₀ i c) where
    pub fields_ready : {X : List ℕ} → ReadyStructs F S X c₀ → i < S.structs → ReadyFields F S X c i
    fields_ready z h = record {
      good_tables = z.good_tables;
      indexed = z.indexed;
      whole = record {
        structs = ap (λ x. x.structs) a.counted ∙ z.structs;
        few = omega (arith, ap (λ x. x.steps) a.counted, z.few, z.good_tables.laid.structs_most);
      };
      there = h;
    }

    module _ {t : Result Context Refusal} (told : Answered F S c (struct_fields i) t) where
      pub fields_stop : {r : Result Context Refusal} → i < S.structs → HandedUp t r → AnsweredAll F S c₀ (tabulate S.structs struct_fields) r
      fields_stop l e = subst (AnsweredAll F S c₀ (tabulate S.structs struct_fields)) (sym e.same) (answers_stop struct_fields (λ j. refl) a.answered told S.structs l e.stopped)

      pub fields_next : {d : Context} → t ≡ Ok d → FieldsDone F S c₀ (i + 1) d
      fields_next {d} e = record {
        counted = answered_next told e ∙ ap with_step a.counted ∙ ap (λ k. record { structs = c₀.structs; names = c₀.names; steps = k; pairs = c₀.pairs }) (one_more c₀.steps i);
        answered = answers_more struct_fields (λ j. refl) a.answered told e;
      }
        where
          one_more : (k i : ℕ) → k + i + 1 ≡ k + (i + 1)
          one_more k i = omega arith

    pub fields_done : i ≤ S.structs → S.structs ≤ i → AnsweredAll F S c₀ (tabulate S.structs struct_fields) (Ok c)
    fields_done l h = subst (λ n. AnsweredAll F S c₀ (tabulate n struct_fields) (Ok c)) (same_record i S.structs l h) a.answered
