-- One declaration of a group: by its node's kind it has a step, or none. Assumes nothing.
use mathlib.Core.Path.{◌≡◌, subst}
use mathlib.Core.List.{List, [], ◌∷◌}
use Prim.Native.Nat.{ℕ, ◌+◌, ◌*◌, ◌≤◌, ◌<◌}
use native.Mathlib.Omega.{arith}
use lib.ListN.{length}
use Rattle.std.specs.Prelude.{Result, Ok}
use Rattle.oat.specs.Tables.{Tables, node_at}
use Rattle.oat.specs.Syntax.{Expr, Block, block, Decl, global, function, size_block, size_decl}
use Rattle.oat.specs.Nodes.{DeclStands}
use Rattle.typing_rules.specs.Steps.{headings, globals, bodies}
use Rattle.file_sections.specs.declared.Sections.{Sections}
use Rattle.file_sections.specs.Layout.{Has, tables_of}
use Rattle.file_sections.proofs.LawsRecords.{nodes_long}
use Rattle.expressions.specs.Contract.{Few}
use Rattle.steps.specs.declared.context.Context.{Context}
use Rattle.steps.specs.declared.context.Refusal.{Refusal}
use Rattle.steps.specs.Contract.{ReadyHeading, ToldHeading, ReadyGlobal, ToldGlobal, ReadyBody, ToldBody}
use Rattle.typing.specs.Runs.{Runs, ReadyDecl, ToldDecl, HeadingTold}
use Rattle.typing.proofs.LawsRuns.{runs_none, runs_one}

-- the kind of a declaration's node
on_global : (T : Tables) (n k : ℕ) (P : Decl → Type 0) → k ≡ (node_at T n).kind → k ≡ 1 → ((x : ℕ) (a : Expr) → DeclStands T n (global x a) → P (global x a))
    → (d : Decl) → DeclStands T n d → P d
on_global T n k P e one f (global x a) h = f x a h
on_global T n k P e one f (function x t ps b) h = absurd (omega (arith, h.0.kind_is))

on-function : (T : Tables) (n k : ℕ) (P : Decl → Type 0) → k ≡ (node_at T n).kind → k ≡ 2
    → ((x t : ℕ) (ps : List ℕ) (b : Block) → DeclStands T n (function x t ps b) → P (function x t ps b)) → (d : Decl) → DeclStands T n d → P d
on-function T n k P e two f (global x a) h = absurd (omega (arith, h.0.kind_is))
on-function T n k P e two f (function x t ps b) h = f x t ps b h

off_global : (T : Tables) (n k : ℕ) (P : Decl → Type 0) → k ≡ (node_at T n).kind → (k ≡ 1 → ⊥)
    → ((x t : ℕ) (ps : List ℕ) (b : Block) → P (function x t ps b)) → (d : Decl) → DeclStands T n d → P d
off_global T n k P e other f (global x a) h = absurd (other (omega (arith, h.0.kind_is)))
off_global T n k P e other f (function x t ps b) h = f x t ps b

off_function : (T : Tables) (n k : ℕ) (P : Decl → Type 0) → k ≡ (node_at T n).kind → (k ≡ 2 → ⊥) → ((x : ℕ) (a : Expr) → P (global x a)) → (d : Decl) → DeclStands T n d → P d
off_function T n k P e other f (global x a) h = f x a
off_function T n k P e other f (function x t ps b) h = absurd (other (omega (arith, h.0.kind_is)))

decl_within : (T : Tables) (n : ℕ) (d : Decl) → DeclStands T n d → n < length T.nodes
decl_within T n (global x a) h = h.0.within
decl_within T n (function x t ps b) h = h.0.within

block_some : (b : Block) → 1 ≤ size_block b
block_some (block ss) = omega arith

module _ {F : List ℕ} {S : Sections} {X W K : List ℕ} {c : Context} {n : ℕ} (z : ReadyDecl F S X W K c n) where
  pub decl_node : Has F S n S.nodes
  decl_node = record { laid = z.held.good_tables.laid; within = subst (λ k. n < k) (nodes_long F S) (decl_within (tables_of F S) n z.declaration z.stands) }

  module _ {k : ℕ} (e : k ≡ (node_at (tables_of F S) n).kind) where
    -- headings
    pub heading_none : {r : Result Context Refusal} → (k ≡ 2 → ⊥) → r ≡ Ok c → HeadingTold F S X c n W W K r
    unfolding headings
    heading_none {r} o q = record {
      tells = λ R. record { tells = off_function (tables_of F S) n k (λ d. Runs F S X c (headings n (d ∷ [])) R W R W K r) e o (λ x a. runs_none q z.held) };
    }

    pub heading_ready : k ≡ 2 → ReadyHeading F S X W K c n
    heading_ready two =
        on-function (tables_of F S) n k (λ d. c.names + size_decl d ≤ S.built_ins + S.nodes + 1 → ReadyHeading F S X W K c n) e two
        (λ x t ps b h l. record {
          held = z.held;
          whole = z.whole;
          low = z.low;
          room = omega (arith, block_some b);
          name = x;
          type = t;
          parameters = ps;
          block = b;
          stands = h;
        }) z.declaration z.stands z.room

    pub heading_told : {W' K' : List ℕ} {r : Result Context Refusal} → k ≡ 2 → ToldHeading F S X W c n W' K' r → HeadingTold F S X c n W W' K' r
    unfolding headings
    heading_told {W'} {K'} {r} two t = record {
      tells = λ R. record {
        tells = on-function (tables_of F S) n k (λ d. Runs F S X c (headings n (d ∷ [])) R W R W' K' r) e two (λ x u ps b h. runs_one ((t.tells x u ps b h).tells R));
      };
    }

    -- globals
    pub global_none : {R : List ℕ} {r : Result Context Refusal} → (k ≡ 1 → ⊥) → r ≡ Ok c → ToldDecl globals F S X c n R W R W K r
    unfolding globals
    global_none {R} {r} o q = record { tells = off_global (tables_of F S) n k (λ d. Runs F S X c (globals n (d ∷ [])) R W R W K r) e o (λ x t ps b. runs_none q z.held) }

    pub global_ready : {R : List ℕ} → S.nodes * 2 ≤ length R → k ≡ 1 → ReadyGlobal F S X R W K c n
    global_ready {R} long one =
        on_global (tables_of F S) n k (λ d. c.names + size_decl d ≤ S.built_ins + S.nodes + 1 → Few c.pairs (size_decl d) → ReadyGlobal F S X R W K c n) e one
        (λ x a h l f. record {
          held = z.held;
          whole = z.whole;
          rows_long = long;
          low = z.low;
          name = x;
          initializer = a;
          stands = h;
          room = omega arith;
          sums = omega arith;
        }) z.declaration z.stands z.room z.sums

    pub global_told : {R R' W' K' : List ℕ} {r : Result Context Refusal} → k ≡ 1 → ToldGlobal F S X R W c n R' W' K' r → ToldDecl globals F S X c n R W R' W' K' r
    unfolding globals
    global_told {R} {R'} {W'} {K'} {r} one t = record {
      tells = on_global (tables_of F S) n k (λ d. Runs F S X c (globals n (d ∷ [])) R W R' W' K' r) e one (λ x a h. runs_one (t.tells x a h));
    }

    -- bodies
    pub body_none : {R : List ℕ} {r : Result Context Refusal} → (k ≡ 2 → ⊥) → r ≡ Ok c → ToldDecl bodies F S X c n R W R W K r
    unfolding bodies
    body_none {R} {r} o q = record { tells = off_function (tables_of F S) n k (λ d. Runs F S X c (bodies n (d ∷ [])) R W R W K r) e o (λ x a. runs_none q z.held) }

    pub body_ready : {R : List ℕ} → S.nodes * 2 ≤ length R → k ≡ 2 → ReadyBody F S X R W K c n
    body_ready {R} long two =
        on-function (tables_of F S) n k (λ d. c.names + size_decl d ≤ S.built_ins + S.nodes + 1 → Few c.pairs (size_decl d) → ReadyBody F S X R W K c n) e two
        (λ x t ps b h l f. record {
          held = z.held;
          whole = z.whole;
          rows_long = long;
          low = z.low;
          name = x;
          type = t;
          parameters = ps;
          block = b;
          stands = h;
          room = omega arith;
          sums = omega arith;
        }) z.declaration z.stands z.room z.sums

    pub body_told : {R R' W' K' : List ℕ} {r : Result Context Refusal} → k ≡ 2 → ToldBody F S X R W c n R' W' K' r → ToldDecl bodies F S X c n R W R' W' K' r
    unfolding bodies
    body_told {R} {R'} {W'} {K'} {r} two t = record {
      tells = on-function (tables_of F S) n k (λ d. Runs F S X c (bodies n (d ∷ [])) R W R' W' K' r) e two (λ x u ps b h. runs_one (t.tells x u ps b h));
    }
