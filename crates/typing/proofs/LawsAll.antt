-- All steps of a file, group after group. Assumes nothing.
use mathlib.Core.Path.{◌≡◌, refl, ap, ap₂, sym, subst, ◌∙◌}
use mathlib.Core.List.{List, [], ◌∷◌, ◌++◌, append_assoc}
use Prim.Native.Nat.{ℕ, ◌+◌, ◌*◌, ◌≤◌}
use native.Mathlib.Omega.{arith}
use lib.ListN.{length}
use Rattle.std.specs.Prelude.{Result, Ok}
use Rattle.oat.specs.Basics.{tabulate}
use Rattle.oat.specs.Syntax.{Decl, global, function, size_decl}
use Rattle.oat.proofs.LawsBasics.{tabulate_long}
use Rattle.typing_rules.specs.Steps.{Step, struct_name, built_in, struct_fields, headings, globals, bodies, steps_of}
use Rattle.typing_rules.specs.Check.{rows_begin}
use Rattle.file_sections.specs.declared.Sections.{Sections}
use Rattle.file_sections.specs.Layout.{Laid}
use Rattle.file_sections.proofs.LawsRecords.{structs_long, built_ins_long}
use Rattle.program_file.specs.Opened.{Declares}
use Rattle.program_file.proofs.LawsOpened.{decls_some}
use Rattle.steps.specs.declared.context.Context.{Context}
use Rattle.steps.specs.declared.context.Refusal.{Refusal}
use Rattle.steps.specs.Contract.{summing, Held}
use Rattle.typing.specs.Runs.{start, after_steps, Touched, touched_first, touched_later, Runs, AnsweredAll, ReadyBuiltIns, ToldBuiltIns, ReadyStructs, ReadyDecls, ToldDecls, HeadingsTold, ReadyRun, first_steps, ToldFirst, program_of, ToldRun}
use Rattle.typing.proofs.LawsRuns.{HandedUp, after_append, touched_either, Apart, runs_then, runs_stop, runs_next}
use Rattle.typing.proofs.LawsCounts.{More, after_counted, structs_alike, built_ins_alike, fields_alike, Bare, bare_none, bare_next, structs_bare, built_ins_bare, fields_bare, bare_untouched, headings_group, globals_group, bodies_group}
use Rattle.typing.proofs.LawsGroups.{group_alike, group_few, group_within, group_sum}
use Rattle.typing.proofs.LawsSums.{bare_sum}
use Rattle.typing.proofs.LawsAnswers.{answers_run}
use Rattle.typing.proofs.LawsLoops.{apart_bare}

-- headings have no rows; globals and bodies have none in common
headings_bare : (n : ℕ) (ds : List Decl) → Bare (headings n ds)
unfolding headings
headings_bare n [] = bare_none
headings_bare n (global x a ∷ ds) = headings_bare (n + size_decl (global x a)) ds
headings_bare n (function x t ps b ∷ ds) = bare_next refl (headings_bare (n + size_decl (function x t ps b)) ds)

bodies_apart : (n : ℕ) (ds : List Decl) (i : ℕ) → Touched i (globals n ds) → Touched i (bodies n ds) → ⊥
unfolding globals bodies rows_begin
bodies_apart n [] i t u = bare_untouched bare_none t
bodies_apart n (global x a ∷ ds) i (touched_first l h) u = let (m, j) = group_within bodies_group (n + size_decl (global x a)) ds i u in omega arith
bodies_apart n (global x a ∷ ds) i (touched_later t) u = bodies_apart (n + size_decl (global x a)) ds i t u
bodies_apart n (function x t ps b ∷ ds) i v (touched_first l h) =
    let (m, j) = group_within globals_group (n + size_decl (function x t ps b)) ds i v in omega arith
bodies_apart n (function x t ps b ∷ ds) i v (touched_later u) = bodies_apart (n + size_decl (function x t ps b)) ds i v u

apart_first : {ss : List Step} (ts : List Step) → Bare ss → Apart ss ts
apart_first ts b = record { never = λ i t u. bare_untouched b t }

bare_append : {ss ts : List Step} → Bare ss → Bare ts → Bare (ss ++ ts)
bare_append bare_none b = b
bare_append (bare_next e a) b = bare_next e (bare_append a b)

first_bare : (S : Sections) (ds : List Decl) → Bare (first_steps S ds)
first_bare S ds = bare_append (structs_bare S.structs) (bare_append (built_ins_bare S.built_ins) (headings_bare 0 ds))

-- the steps of the file, by its sections
all_are : (F : List ℕ) (S : Sections) (ds : List Decl)
    → tabulate S.structs struct_name ++ (tabulate S.built_ins built_in ++ (headings 0 ds ++ (globals 0 ds ++ (tabulate S.structs struct_fields ++ bodies 0 ds))))
    ≡ steps_of (program_of F S ds)
unfolding steps_of
all_are F S ds =
    ap₂ (λ m n. tabulate m struct_name ++ (tabulate n built_in ++ (headings 0 ds ++ (globals 0 ds ++ (tabulate m struct_fields ++ bodies 0 ds)))))
    (sym (structs_long F S)) (sym (built_ins_long F S))

-- every declaration has a heading or a global's step
each_one : (n : ℕ) (ds : List Decl) → length (headings n ds) + length (globals n ds) ≡ length ds
unfolding headings globals
each_one n [] = refl
each_one n (global x a ∷ ds) = omega (arith, each_one (n + size_decl (global x a)) ds)
each_one n (function x t ps b ∷ ds) = omega (arith, each_one (n + size_decl (function x t ps b)) ds)

-- the first groups
module _ {F : List ℕ} {S : Sections} {X W K : List ℕ} (z : ReadyRun F S X W K) where
  pub first_structs : Laid F S
  first_structs = z.held.good_tables.laid

  structs_run : {r : Result Context Refusal} → AnsweredAll F S start (tabulate S.structs struct_name) r → (R : List ℕ) → Runs F S X start (tabulate S.structs struct_name) R W R W K r
  structs_run told R = answers_run z.held (structs_alike S.structs) told R

  pub first_structs_stop : {t r : Result Context Refusal} → AnsweredAll F S start (tabulate S.structs struct_name) t → HandedUp t r → ToldFirst F S X W W K r
  first_structs_stop told e = subst (ToldFirst F S X W W K) (sym e.same) (record { tells = λ R ds D. runs_stop (tabulate S.built_ins built_in ++ headings 0 ds) e.stopped (structs_run told R) })

  module _ {r₁ : Result Context Refusal} {c : Context} (told₁ : AnsweredAll F S start (tabulate S.structs struct_name) r₁) (e₁ : r₁ ≡ Ok c) where
    structs_counted : More start c S.structs 0 S.structs
    structs_counted =
        let m = after_counted 1 0 (tabulate S.structs struct_name) start (structs_alike S.structs) in
        let e = (runs_next e₁ (structs_run told₁ [])).0 in
        let n = tabulate_long S.structs struct_name in
        record {
          structs_are = ap (λ x. x.structs) e ∙ omega (arith, m.structs_are, n);
          names_are = ap (λ x. x.names) e ∙ omega (arith, m.names_are);
          steps_are = ap (λ x. x.steps) e ∙ omega (arith, m.steps_are, n);
        }

    pub first_built_ins : ReadyBuiltIns F S X W K c
    first_built_ins = record {
      held = (runs_next e₁ (structs_run told₁ [])).1;
      structs = omega (arith, structs_counted.structs_are);
      none = omega (arith, structs_counted.names_are);
      few = omega (arith, structs_counted.steps_are, z.held.good_tables.laid.structs_most);
    }

    module _ {r₂ : Result Context Refusal} {K₂ : List ℕ} (told₂ : ToldBuiltIns F S X W c K₂ r₂) {V : List ℕ} (same : V ≡ W) where
      both : (R : List ℕ) → Runs F S X start (tabulate S.structs struct_name ++ tabulate S.built_ins built_in) R W R W K₂ r₂
      both R = runs_then (apart_bare _ (built_ins_bare S.built_ins)) e₁ (structs_run told₁ R) (told₂.tells R)

      pub first_built_ins_stop : {r : Result Context Refusal} → HandedUp r₂ r → ToldFirst F S X W V K₂ r
      first_built_ins_stop {r} e = subst (λ V. ToldFirst F S X W V K₂ r) (sym same) (subst (ToldFirst F S X W W K₂) (sym e.same) record {
        tells = λ R ds D.
            subst (λ ss. Runs F S X start ss R W R W K₂ r₂) (append_assoc (tabulate S.structs struct_name) (tabulate S.built_ins built_in) (headings 0 ds))
            (runs_stop (headings 0 ds) e.stopped (both R));
      })

      module _ {d : Context} (e₂ : r₂ ≡ Ok d) where
        built_ins_counted : More c d 0 S.built_ins S.built_ins
        built_ins_counted =
            let m = after_counted 0 1 (tabulate S.built_ins built_in) c (built_ins_alike S.built_ins) in
            let e = (runs_next e₂ (told₂.tells [])).0 in
            let n = tabulate_long S.built_ins built_in in
            record {
              structs_are = ap (λ x. x.structs) e ∙ omega (arith, m.structs_are);
              names_are = ap (λ x. x.names) e ∙ omega (arith, m.names_are, n);
              steps_are = ap (λ x. x.steps) e ∙ omega (arith, m.steps_are, n);
            }

        pub first_headings : ReadyDecls headings F S X V K₂ d
        first_headings =
            subst (λ V. ReadyDecls headings F S X V K₂ d) (sym same)
            let m = after_counted 0 1 (headings 0 z.declarations) d (group_alike headings_group 0 z.declarations) in
            record {
              held = (runs_next e₂ (told₂.tells [])).1;
              structs = omega (arith, structs_counted.structs_are, built_ins_counted.structs_are);
              low = omega (arith, structs_counted.names_are, built_ins_counted.names_are);
              declarations = z.declarations;
              declares = z.declares;
              room = omega (arith, m.names_are, structs_counted.names_are, built_ins_counted.names_are, group_few headings_group 0 z.declarations);
              few = omega (arith, structs_counted.steps_are, built_ins_counted.steps_are, z.held.good_tables.laid.structs_most, z.held.good_tables.laid.built_ins_most);
              sums = omega (arith, bare_sum e₁ (structs_run told₁ []) (structs_bare S.structs), bare_sum e₂ (told₂.tells []) (built_ins_bare S.built_ins), z.held.good_tables.laid.nodes_most);
            }

        pub first_done : {r : Result Context Refusal} {W' K' : List ℕ} → HeadingsTold F S X d V W' K' r → ToldFirst F S X W W' K' r
        first_done {r} {W'} {K'} told = record {
          tells = λ R ds D.
              subst (λ ss. Runs F S X start ss R W R W' K' r) (append_assoc (tabulate S.structs struct_name) (tabulate S.built_ins built_in) (headings 0 ds))
              (runs_then (apart_bare _ (headings_bare 0 ds)) e₂ (both R) (((subst (λ V. HeadingsTold F S X d V W' K' r) same told).tells R).tells ds D));
        }

  -- all groups
  pub all_first_stop : {R W' K' : List ℕ} {t r : Result Context Refusal} → ToldFirst F S X W W' K' t → HandedUp t r → ToldRun F S X R W R W' K' r
  all_first_stop {R} {W'} {K'} {t} told e = subst (ToldRun F S X R W R W' K') (sym e.same) record {
    tells = λ ds D.
        subst (λ ss. Runs F S X start ss R W R W' K' t) (simp append_assoc (all_are F S ds))
        (runs_stop (globals 0 ds ++ (tabulate S.structs struct_fields ++ bodies 0 ds)) e.stopped (told.tells R ds D));
  }

  module _ {r₁ : Result Context Refusal} {c : Context} {W₁ K₁ : List ℕ} (told₁ : ToldFirst F S X W W₁ K₁ r₁) (e₁ : r₁ ≡ Ok c) where
    first_counted : (ds : List Decl) → Declares F S ds
        → More start c S.structs (S.built_ins + length (headings 0 ds)) (S.structs + S.built_ins + length (headings 0 ds))
    first_counted ds D =
        let A = tabulate S.structs struct_name in
        let B = tabulate S.built_ins built_in in
        let H = headings 0 ds in
        let a = after_counted 1 0 A start (structs_alike S.structs) in
        let b = after_counted 0 1 B (after_steps A start) (built_ins_alike S.built_ins) in
        let h = after_counted 0 1 H (after_steps B (after_steps A start)) (group_alike headings_group 0 ds) in
        let e : c ≡ summing c.pairs (after_steps H (after_steps B (after_steps A start))) =
        (runs_next e₁ (told₁.tells [] ds D)).0 ∙ ap (summing c.pairs) (after_append A (B ++ H) start ∙ after_append B H (after_steps A start)) in
        let n = tabulate_long S.structs struct_name in
        let m = tabulate_long S.built_ins built_in in
        record {
          structs_are = ap (λ x. x.structs) e ∙ omega (arith, a.structs_are, b.structs_are, h.structs_are, n);
          names_are = ap (λ x. x.names) e ∙ omega (arith, a.names_are, b.names_are, h.names_are, m);
          steps_are = ap (λ x. x.steps) e ∙ omega (arith, a.steps_are, b.steps_are, h.steps_are, n, m);
        }

    first_sum : c.pairs ≡ 0
    first_sum = bare_sum e₁ (told₁.tells [] z.declarations z.declares) (first_bare S z.declarations)

    few_headings : (ds : List Decl) → Declares F S ds → length (headings 0 ds) + length (globals 0 ds) ≤ 4096
    few_headings ds D = omega (arith, each_one 0 ds, decls_some ds, D.used_up, z.held.good_tables.laid.nodes_most)

    pub all_globals : ReadyDecls globals F S X W₁ K₁ c
    all_globals =
        let ds = z.declarations in
        let D = z.declares in
        let m = after_counted 0 1 (globals 0 ds) c (group_alike globals_group 0 ds) in
        record {
          held = (runs_next e₁ (told₁.tells [] ds D)).1;
          structs = omega (arith, (first_counted ds D).structs_are);
          low = omega (arith, (first_counted ds D).names_are);
          declarations = ds;
          declares = D;
          room = omega (arith, m.names_are, (first_counted ds D).names_are, each_one 0 ds);
          few = omega (arith, (first_counted ds D).steps_are, few_headings ds D, z.held.good_tables.laid.structs_most, z.held.good_tables.laid.built_ins_most);
          sums = omega (arith, first_sum, z.held.good_tables.laid.nodes_most);
        }

    module _ {R R₂ W₂ K₂ : List ℕ} {r₂ : Result Context Refusal} (told₂ : ToldDecls globals F S X c R W₁ R₂ W₂ K₂ r₂) where
      second : (ds : List Decl) → Declares F S ds → Runs F S X start (first_steps S ds ++ globals 0 ds) R W R₂ W₂ K₂ r₂
      second ds D = runs_then (apart_first (globals 0 ds) (first_bare S ds)) e₁ (told₁.tells R ds D) (told₂.tells ds D)

      pub all_globals_stop : {r : Result Context Refusal} → HandedUp r₂ r → ToldRun F S X R W R₂ W₂ K₂ r
      all_globals_stop e = subst (ToldRun F S X R W R₂ W₂ K₂) (sym e.same) record {
        tells = λ ds D. subst (λ ss. Runs F S X start ss R W R₂ W₂ K₂ r₂) (simp append_assoc (all_are F S ds)) (runs_stop (tabulate S.structs struct_fields ++ bodies 0 ds) e.stopped (second ds D));
      }

      module _ {d : Context} (e₂ : r₂ ≡ Ok d) where
        second_counted : (ds : List Decl) → Declares F S ds → More c d 0 (length (globals 0 ds)) (length (globals 0 ds))
        second_counted ds D =
            let m = after_counted 0 1 (globals 0 ds) c (group_alike globals_group 0 ds) in
            let e = (runs_next e₂ (told₂.tells ds D)).0 in
            record {
              structs_are = ap (λ x. x.structs) e ∙ omega (arith, m.structs_are);
              names_are = ap (λ x. x.names) e ∙ omega (arith, m.names_are);
              steps_are = ap (λ x. x.steps) e ∙ m.steps_are;
            }

        second_sum : d.pairs ≤ c.pairs + 1200 * S.nodes
        second_sum = omega (arith, group_sum globals_group 0 z.declarations z.held.good_tables e₂ (told₂.tells z.declarations z.declares), z.declares.used_up)

        pub all_fields : ReadyStructs F S X d
        all_fields =
            let ds = z.declarations in
            let D = z.declares in
            record {
              good_tables = z.held.good_tables;
              indexed = z.held.indexed;
              structs = omega (arith, (first_counted ds D).structs_are, (second_counted ds D).structs_are);
              few = omega (arith, (first_counted ds D).steps_are, (second_counted ds D).steps_are, few_headings ds D, z.held.good_tables.laid.structs_most, z.held.good_tables.laid.built_ins_most);
            }

        held_after : Held F S X W₂ K₂ d
        held_after = (runs_next e₂ (told₂.tells z.declarations z.declares)).1

        module _ {r₃ : Result Context Refusal} (told₃ : AnsweredAll F S d (tabulate S.structs struct_fields) r₃) where
          fields_run : Runs F S X d (tabulate S.structs struct_fields) R₂ W₂ R₂ W₂ K₂ r₃
          fields_run = answers_run held_after (fields_alike S.structs) told₃ R₂

          third : (ds : List Decl) → Declares F S ds → Runs F S X start (first_steps S ds ++ globals 0 ds ++ tabulate S.structs struct_fields) R W R₂ W₂ K₂ r₃
          third ds D = runs_then (apart_bare _ (fields_bare S.structs)) e₂ (second ds D) fields_run

          pub all_fields_stop : {r : Result Context Refusal} → HandedUp r₃ r → ToldRun F S X R W R₂ W₂ K₂ r
          all_fields_stop e = subst (ToldRun F S X R W R₂ W₂ K₂) (sym e.same) record {
            tells = λ ds D. subst (λ ss. Runs F S X start ss R W R₂ W₂ K₂ r₃) (simp append_assoc (all_are F S ds)) (runs_stop (bodies 0 ds) e.stopped (third ds D));
          }

          module _ {b : Context} (e₃ : r₃ ≡ Ok b) where
            third_counted : More d b 0 0 S.structs
            third_counted =
                let m = after_counted 0 0 (tabulate S.structs struct_fields) d (fields_alike S.structs) in
                let e = (runs_next e₃ fields_run).0 in
                let n = tabulate_long S.structs struct_fields in
                record {
                  structs_are = ap (λ x. x.structs) e ∙ omega (arith, m.structs_are);
                  names_are = ap (λ x. x.names) e ∙ omega (arith, m.names_are);
                  steps_are = ap (λ x. x.steps) e ∙ omega (arith, m.steps_are, n);
                }

            pub all_bodies : ReadyDecls bodies F S X W₂ K₂ b
            all_bodies =
                let ds = z.declarations in
                let D = z.declares in
                let m = after_counted 0 0 (bodies 0 ds) b (group_alike bodies_group 0 ds) in
                let f = first_counted ds D in
                let s = second_counted ds D in
                record {
                  held = (runs_next e₃ fields_run).1;
                  structs = omega (arith, f.structs_are, s.structs_are, third_counted.structs_are);
                  low = omega (arith, f.names_are, s.names_are, third_counted.names_are);
                  declarations = ds;
                  declares = D;
                  room = omega (arith, m.names_are, f.names_are, s.names_are, third_counted.names_are, each_one 0 ds);
                  few = omega (arith, f.steps_are, s.steps_are, third_counted.steps_are, few_headings ds D, z.held.good_tables.laid.structs_most, z.held.good_tables.laid.built_ins_most);
                  sums = omega (arith, first_sum, second_sum, bare_sum e₃ fields_run (fields_bare S.structs), z.held.good_tables.laid.nodes_most);
                }

            pub all_done : {R' W' K' : List ℕ} {r : Result Context Refusal} → ToldDecls bodies F S X b R₂ W₂ R' W' K' r → ToldRun F S X R W R' W' K' r
            all_done {R'} {W'} {K'} {r} told = record {
              tells = λ ds D.
                  subst (λ ss. Runs F S X start ss R W R' W' K' r) (simp append_assoc (all_are F S ds)) (runs_then (apart ds) e₃ (third ds D) (told.tells ds D));
            }
              where
                apart : (ds : List Decl) → Apart (first_steps S ds ++ globals 0 ds ++ tabulate S.structs struct_fields) (bodies 0 ds)
                apart ds = record {
                  never = λ i t u.
                      touched_either (first_steps S ds ++ globals 0 ds) t
                      (λ v. touched_either (first_steps S ds) v (λ w. bare_untouched (first_bare S ds) w) (λ w. bodies_apart 0 ds i w u))
                      (λ v. bare_untouched (fields_bare S.structs) v);
                }
