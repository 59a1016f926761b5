-- The steps of declarations, group by group: the loops over them. Assumes nothing.
use mathlib.Core.Path.{◌≡◌, refl, ap, sym, subst, ◌∙◌}
use mathlib.Core.List.{List, [], ◌∷◌, ◌++◌, append_assoc}
use Prim.Native.Nat.{ℕ, ◌+◌, ◌*◌, ◌≤◌, ◌<◌}
use native.Mathlib.Nat.{add-mul}
use native.Mathlib.Omega.{arith}
use lib.ListN.{length, length-append}
use Rattle.std.specs.Prelude.{Result, Ok}
use Rattle.oat.specs.Syntax.{Decl, size_decl, size_decls}
use Rattle.typing_rules.specs.Steps.{Step}
use Rattle.typing_rules.proofs.LawsPairs.{step_nodes}
use Rattle.file_sections.specs.declared.Sections.{Sections}
use Rattle.file_sections.specs.Layout.{tables_of, GoodTables}
use Rattle.file_sections.specs.Trees.{Tree, Past}
use Rattle.file_sections.proofs.LawsTrees.{decl_tree}
use Rattle.program_file.specs.Opened.{Declares, Passed}
use Rattle.program_file.proofs.LawsOpened.{sizes_append, decl_some, decls_some, passed_none, left_size, next_decl, all_done, passed_more}
use Rattle.steps.specs.declared.context.Context.{Context}
use Rattle.steps.specs.declared.context.Refusal.{Refusal}
use Rattle.steps.specs.Contract.{Held}
use Rattle.typing.specs.Runs.{Touched, Runs, ReadyDecl, ToldDecl, ReadyDecls, ToldDecls}
use Rattle.typing.proofs.LawsRuns.{HandedUp, touched_either, Apart, runs_none, runs_then, runs_stop, runs_next}
use Rattle.typing.proofs.LawsCounts.{Alike, alike_none, alike_append, More, after_counted, bare_none, bare_untouched, Group}
use Rattle.typing.proofs.LawsSums.{alike_sum}

nodes_append : (xs ys : List Step) → step_nodes (xs ++ ys) ≡ step_nodes xs + step_nodes ys
nodes_append [] ys = omega arith
nodes_append (x ∷ xs) ys = omega (arith, nodes_append xs ys)

module _ {steps : ℕ → List Decl → List Step} {k : ℕ} (g : Group steps k) where
  pub group_append : (n : ℕ) (xs ys : List Decl) → steps n (xs ++ ys) ≡ steps n xs ++ steps (n + size_decls xs) ys
  group_append n [] ys = ap (λ m. steps m ys) (omega arith) ∙ ap (λ l. l ++ steps (n + 0) ys) (sym (g.none n))
  group_append n (d ∷ xs) ys =
      g.more n d (xs ++ ys)
      ∙ ap (λ l. steps n (d ∷ []) ++ l) (group_append (n + size_decl d) xs ys)
      ∙ sym (append_assoc (steps n (d ∷ [])) (steps (n + size_decl d) xs) (steps (n + size_decl d + size_decls xs) ys))
      ∙ ap (λ l. l ++ steps (n + size_decl d + size_decls xs) ys) (sym (g.more n d xs))
      ∙ ap (λ m. steps n (d ∷ xs) ++ steps m ys) (omega arith)

  pub group_alike : (n : ℕ) (ds : List Decl) → Alike 0 k (steps n ds)
  group_alike n [] = subst (Alike 0 k) (sym (g.none n)) alike_none
  group_alike n (d ∷ ds) = subst (Alike 0 k) (sym (g.more n d ds)) (alike_append (g.alike n d) (group_alike (n + size_decl d) ds))

  pub group_few : (n : ℕ) (ds : List Decl) → length (steps n ds) ≤ length ds
  group_few n [] = omega (arith, ap length (g.none n))
  group_few n (d ∷ ds) =
      omega (arith, ap length (g.more n d ds), length-append (steps n (d ∷ [])) (steps (n + size_decl d) ds), g.few n d, group_few (n + size_decl d) ds)

  group_nodes : (n : ℕ) (ds : List Decl) → step_nodes (steps n ds) ≤ size_decls ds
  group_nodes n [] = omega (arith, ap step_nodes (g.none n))
  group_nodes n (d ∷ ds) =
      omega (arith, ap step_nodes (g.more n d ds), nodes_append (steps n (d ∷ [])) (steps (n + size_decl d) ds), g.nodes n d, group_nodes (n + size_decl d) ds)

  -- the sum of pairs after them
  pub group_sum : {F : List ℕ} {S : Sections} {X : List ℕ} {c e : Context} {R W R₁ W₁ K₁ : List ℕ} {r : Result Context Refusal} (n : ℕ) (ds : List Decl) → GoodTables F S → r ≡ Ok e
      → Runs F S X c (steps n ds) R W R₁ W₁ K₁ r → e.pairs ≤ c.pairs + 1200 * size_decls ds
  group_sum n ds tables i h = omega (arith, alike_sum i h tables (group_alike n ds), group_nodes n ds)

  pub group_within : (n : ℕ) (ds : List Decl) (i : ℕ) → Touched i (steps n ds) → (n * 2 ≤ i) × (i < (n + size_decls ds) * 2)
  group_within n [] i t = absurd (bare_untouched bare_none (subst (Touched i) (g.none n) t))
  group_within n (d ∷ ds) i t =
      touched_either (steps n (d ∷ [])) (subst (Touched i) (g.more n d ds) t)
      (λ u. let (a, b) = g.within n d i u in (a, omega arith))
      (λ u. let (a, b) = group_within (n + size_decl d) ds i u in (omega arith, omega arith))

  -- the steps of declarations and of one after them
  pub group_apart : (xs : List Decl) (d : Decl) (n : ℕ) → n ≡ size_decls xs → Apart (steps 0 xs) (steps n (d ∷ []))
  group_apart xs d n e = record {
    never = λ i t u. let (a, b) = group_within 0 xs i t in let (c, h) = g.within n d i u in absurd (omega arith);
  }

-- the loop over the declarations: those before `node` have had their steps
pub record Reached (steps : ℕ → List Decl → List Step) (F : List ℕ) (S : Sections) (X : List ℕ) (c₀ : Context) (R₀ W₀ : List ℕ) (ds : List Decl) (node : ℕ) (c : Context) (R W K : List ℕ) : Type 0 where
  pub passed : Passed ds node
  pub runs : Runs F S X c₀ (steps 0 passed.done) R₀ W₀ R W K (Ok c)

pub record Along (steps : ℕ → List Decl → List Step) (F : List ℕ) (S : Sections) (X : List ℕ) (c₀ : Context) (R₀ W₀ : List ℕ) (node : ℕ) (c : Context) (R W K : List ℕ) : Type 0 where
  pub at : (ds : List Decl) → Declares F S ds → Reached steps F S X c₀ R₀ W₀ ds node c R W K

-- the laws of the loop
module _ {steps : ℕ → List Decl → List Step} {k : ℕ} (g : Group steps k) {F : List ℕ} {S : Sections} {X : List ℕ} {c₀ : Context} {R₀ W₀ : List ℕ} where
  pub along_start : {K₀ : List ℕ} → Held F S X W₀ K₀ c₀ → Along steps F S X c₀ R₀ W₀ 0 c₀ R₀ W₀ K₀
  along_start {K₀} h = record {
    at = λ ds D. record {
      passed = passed_none ds;
      runs = subst (λ ss. Runs F S X c₀ ss R₀ W₀ R₀ W₀ K₀ (Ok c₀)) (sym (g.none 0)) (runs_none refl h);
    };
  }

  module _ {node : ℕ} {c : Context} {R W K : List ℕ} (a : Along steps F S X c₀ R₀ W₀ node c R W K) where
    module _ {K₀ : List ℕ} (z : ReadyDecls steps F S X W₀ K₀ c₀) where
      pub along_low : node ≤ S.nodes
      along_low = omega (arith, left_size z.declares (a.at z.declarations z.declares).passed)

      -- the context there
      pub along_counts : More c₀ c 0 (length (steps 0 (a.at z.declarations z.declares).passed.done) * k) (length (steps 0 (a.at z.declarations z.declares).passed.done))
      along_counts =
          let r = a.at z.declarations z.declares in
          let m = after_counted 0 k (steps 0 r.passed.done) c₀ (group_alike g 0 r.passed.done) in
          let e = (runs_next refl r.runs).0 in
          record {
            structs_are = ap (λ x. x.structs) e ∙ m.structs_are ∙ omega arith;
            names_are = ap (λ x. x.names) e ∙ m.names_are;
            steps_are = ap (λ x. x.steps) e ∙ m.steps_are;
          }

      few_done : length (steps 0 (a.at z.declarations z.declares).passed.done) ≤ S.nodes
      few_done =
          let r = a.at z.declarations z.declares in
          omega (arith, group_few g 0 r.passed.done, decls_some r.passed.done, sizes_append r.passed.done r.passed.left, ap size_decls r.passed.split, z.declares.used_up)

      names_room : c.names ≤ S.built_ins + length z.declarations
      names_room =
          let r = a.at z.declarations z.declares in
          let m = after_counted 0 k (steps 0 z.declarations) c₀ (group_alike g 0 z.declarations) in
          let e : length (steps 0 z.declarations) ≡ length (steps 0 r.passed.done) + length (steps (0 + size_decls r.passed.done) r.passed.left) =
          ap (λ ds. length (steps 0 ds)) r.passed.split ∙ ap length (group_append g 0 r.passed.done r.passed.left) ∙ length-append (steps 0 r.passed.done) (steps (0 + size_decls r.passed.done) r.passed.left) in
          let f = scaled (length (steps 0 r.passed.done)) (length (steps (0 + size_decls r.passed.done) r.passed.left)) (length (steps 0 z.declarations)) e in
          omega (arith, along_counts.names_are, m.names_are, z.room, f)
        where
          scaled : (x y t : ℕ) → t ≡ x + y → x * k ≤ t * k
          scaled x y t e = subst (λ w. x * k ≤ w * k) (sym e) (grown x y)
            where
              grown : (x y : ℕ) → x * k ≤ (x + y) * k
              grown x y = subst (λ w. x * k ≤ w) (sym (add-mul x y k)) (omega arith)

      module _ (h : node < S.nodes) where
        pub along_ready : ReadyDecl F S X W K c node
        along_ready =
            let r = a.at z.declarations z.declares in
            next_decl z.declares r.passed h λ d ys e s.
            record {
              held = (runs_next refl r.runs).1;
              whole = record { structs = omega (arith, along_counts.structs_are, z.structs); few = omega (arith, along_counts.steps_are, few_done, z.few, z.held.good_tables.laid.nodes_most) };
              low = omega (arith, along_counts.names_are, z.low);
              declaration = d;
              stands = s;
              room = omega (arith, names_room, decls_some r.passed.done, decls_some ys, sizes_append r.passed.done r.passed.left, ap size_decls r.passed.split, ap size_decls e, ap length r.passed.split, length-append r.passed.done r.passed.left, ap length e, z.declares.used_up);
              sums = omega (arith, group_sum g 0 r.passed.done z.held.good_tables refl r.runs, z.sums, sizes_append r.passed.done r.passed.left, ap size_decls r.passed.split, ap size_decls e, z.declares.used_up);
            }

        pub along_tree : Tree F S node
        along_tree =
            let r = a.at z.declarations z.declares in
            next_decl z.declares r.passed h λ d ys e s. record { laid = z.held.good_tables.laid; end = node + size_decl d; tree = decl_tree (tables_of F S) node d s }

        -- the next declaration
        module _ {n' : ℕ} (p : Past F S node n') where
          pub along_falls : node < n'
          along_falls =
              let r = a.at z.declarations z.declares in
              next_decl z.declares r.passed h λ d ys e s. omega (arith, p.ends (node + size_decl d) (decl_tree (tables_of F S) node d s), decl_some d)

          pub along_next : {d : Context} {R' W' K' : List ℕ} {t : Result Context Refusal} → ToldDecl steps F S X c node R W R' W' K' t → t ≡ Ok d → Along steps F S X c₀ R₀ W₀ n' d R' W' K'
          along_next {d} {R'} {W'} {K'} {t} told e = record { at = go }
            where
              go : (ds : List Decl) → Declares F S ds → Reached steps F S X c₀ R₀ W₀ ds n' d R' W' K'
              go ds D =
                  let r = a.at ds D in
                  next_decl D r.passed h λ x ys q s.
                  record {
                    passed = passed_more r.passed x ys q (p.ends (node + size_decl x) (decl_tree (tables_of F S) node x s));
                    runs = subst (λ ss. Runs F S X c₀ ss R₀ W₀ R' W' K' (Ok d))
                        (ap (λ m. steps 0 r.passed.done ++ steps m (x ∷ [])) (r.passed.here ∙ omega arith) ∙ sym (group_append g 0 r.passed.done (x ∷ [])))
                        (runs_then (group_apart g r.passed.done x node r.passed.here) refl r.runs (subst (λ y. Runs F S X c (steps node (x ∷ [])) R W R' W' K' y) e (told.tells x s)));
                  }

      -- a refusal
      pub along_stop : {R' W' K' : List ℕ} {t : Result Context Refusal} → node < S.nodes → ToldDecl steps F S X c node R W R' W' K' t → {r : Result Context Refusal} → HandedUp t r
          → ToldDecls steps F S X c₀ R₀ W₀ R' W' K' r
      along_stop {R'} {W'} {K'} {t} h told e = subst (ToldDecls steps F S X c₀ R₀ W₀ R' W' K') (sym e.same) (record { tells = go })
        where
          go : (ds : List Decl) → Declares F S ds → Runs F S X c₀ (steps 0 ds) R₀ W₀ R' W' K' t
          go ds D =
              let r = a.at ds D in
              next_decl D r.passed h λ x ys q s.
              subst (λ ss. Runs F S X c₀ ss R₀ W₀ R' W' K' t)
              (ap (λ m. steps 0 r.passed.done ++ steps m (x ∷ []) ++ steps (m + size_decl x) ys) (r.passed.here ∙ omega arith) ∙ whole ds r.passed.done x ys (r.passed.split ∙ ap (λ l. r.passed.done ++ l) q))
              (runs_stop (steps (node + size_decl x) ys) e.stopped (runs_then (group_apart g r.passed.done x node r.passed.here) refl r.runs (told.tells x s)))
            where
              whole : (ds done : List Decl) (x : Decl) (ys : List Decl) → ds ≡ done ++ (x ∷ ys)
                  → steps 0 done ++ steps (0 + size_decls done) (x ∷ []) ++ steps (0 + size_decls done + size_decl x) ys ≡ steps 0 ds
              whole ds done x ys e =
                  append_assoc (steps 0 done) (steps (0 + size_decls done) (x ∷ [])) (steps (0 + size_decls done + size_decl x) ys)
                  ∙ ap (λ l. steps 0 done ++ l) (sym (g.more (0 + size_decls done) x ys))
                  ∙ sym (group_append g 0 done (x ∷ ys))
                  ∙ ap (steps 0) (sym e)

    -- the end
    pub along_done : S.nodes ≤ node → ToldDecls steps F S X c₀ R₀ W₀ R W K (Ok c)
    along_done h = record { tells = go }
      where
        go : (ds : List Decl) → Declares F S ds → Runs F S X c₀ (steps 0 ds) R₀ W₀ R W K (Ok c)
        go ds D =
            let r = a.at ds D in
            subst (λ xs. Runs F S X c₀ (steps 0 xs) R₀ W₀ R W K (Ok c)) (all_done D r.passed h) r.runs
