-- The chains of struct records: how they are made, and the walk along one. Assumes nothing.
use mathlib.Core.Path.{◌≡◌, ap, sym, subst, ◌∙◌}
use mathlib.Core.Bool.{Bool, false≢true}
use mathlib.Core.List.{List}
use Prim.Native.Nat.{ℕ, ◌+◌, ◌-◌, ◌%◌, ◌≤◌, ◌<◌}
use native.Mathlib.Nat.{zero-add, mod-lt}
use native.Mathlib.Omega.{arith}
use lib.ListN.{length, get_or, set, length-set}
use lib.Dec.{eqb}
use borrow.Author.Tests.{eqb-true}
use Rattle.oat.specs.Tables.{Tables, struct_at}
use Rattle.chains.proofs.LawsChains.{linked, chains_none}
use Rattle.file_sections.specs.declared.Sections.{Sections}
use Rattle.file_sections.specs.Layout.{Laid, tables_of}
use Rattle.file_sections.proofs.LawsRecords.{structs_long}
use Rattle.type_index.specs.Index.{first_below, record_of}
use Rattle.type_index.specs.Walk.{Way, Leads, NonePasses, LastPasses}
use Rattle.type_index.specs.Records.{name_from_last, Recorded, RecordsFresh}
use Rattle.type_index.proofs.LawsIndex.{first_longer, first_nowhere}

pub head_there : {records : List ℕ} {T : Tables} {k : ℕ} (x : ℕ) → Recorded records T k → x % 64 < length records
head_there x r = let low : x % 64 < 64 = mod-lt x (omega arith) in omega (arith, r.long)

-- making the chains
module _ (s : List ℕ) (S : Sections) where
  pub records_none : {records : List ℕ} → RecordsFresh s S records → Recorded records (tables_of s S) 0
  records_none z = record { long = z.long; chains = chains_none (λ h l. rw (zero-add h) (z.none h l)) }

  module _ {records : List ℕ} {k x : ℕ} (r : Recorded records (tables_of s S) k) (few : k < S.structs) (most : S.structs ≤ 256) (ex : x ≡ (struct_at (tables_of s S) (S.structs - 1 - k)).name) where
    named : name_from_last (tables_of s S) k % 64 ≡ x % 64
    named = ap (λ n. (struct_at (tables_of s S) (n - 1 - k)).name % 64) (structs_long s S) ∙ ap (λ n. n % 64) (sym ex)

    pub records_more : {records' : List ℕ} → records' ≡ set (set records (64 + k) (get_or records (x % 64) 0)) (x % 64) (k + 1) → Recorded records' (tables_of s S) (k + 1)
    records_more e =
        subst (λ l. Recorded l (tables_of s S) (k + 1)) (sym e)
        (record {
          long = simp length-set r.long;
          chains = linked 0 64 64 (λ j. name_from_last (tables_of s S) j % 64) records k (x % 64) (x % 64) named (mod-lt x (omega arith)) (omega arith) (omega (arith, r.long)) (λ g j p q z. omega arith) r.chains (omega (arith, r.long));
        })

  pub records_all : {records : List ℕ} {k : ℕ} → Recorded records (tables_of s S) k → k ≤ S.structs → S.structs ≤ k → Recorded records (tables_of s S) S.structs
  records_all {records} {k} r l h = subst (Recorded records (tables_of s S)) (same k S.structs l h) r
    where
      same : (k n : ℕ) → k ≤ n → n ≤ k → k ≡ n
      same k n l h = omega arith

-- the walk along the chain of the name x, over the records counted from the last
abbrev pub named_way : List ℕ → Sections → ℕ → Way
named_way s S x = record {
  count = S.structs;
  bucket = λ k. name_from_last (tables_of s S) k % 64;
  own = x % 64;
  passes = λ k. eqb (struct_at (tables_of s S) (S.structs - 1 - k)).name x;
}

module _ (s : List ℕ) (S : Sections) (x : ℕ) where
  from_last : (k : ℕ) → name_from_last (tables_of s S) k ≡ (struct_at (tables_of s S) (S.structs - 1 - k)).name
  from_last k = ap (λ n. (struct_at (tables_of s S) (n - 1 - k)).name) (structs_long s S)

  pub named_leads : {records : List ℕ} → Laid s S → Recorded records (tables_of s S) S.structs → Leads records (x % 64) 64 (named_way s S x)
  named_leads {records} laid r = record {
    heads = 0;
    buckets = 64;
    low = mod-lt x (omega arith);
    place = omega arith;
    chains = r.chains;
    inside = λ k l e. ap (λ n. n % 64) (from_last k ∙ eqb-true _ _ e);
    there = head_there x r;
    room = omega (arith, r.long, laid.structs_most);
  }

  -- no record before the one that is found has the name
  pub named_found : (k : ℕ) → LastPasses (named_way s S x) k → S.structs - 1 - k ≡ record_of (tables_of s S) x
  unfolding record_of
  named_found k f =
      let p : ℕ → Bool = λ i. eqb (struct_at (tables_of s S) i).name x in
      sym
      (first_longer p (length (tables_of s S).structs) (S.structs - 1 - k)
      (subst (λ n. S.structs - 1 - k < n) (sym (structs_long s S)) (omega (arith, f.below)))
      f.passes
      ∙ first_nowhere p (S.structs - 1 - k) (λ i l t. false≢true (sym (f.last (S.structs - 1 - i) (omega (arith, f.below)) (omega (arith, f.below))) ∙ ap p (omega (arith, f.below)) ∙ t)))

  pub named_nowhere : NonePasses (named_way s S x) → S.structs ≡ record_of (tables_of s S) x
  unfolding record_of
  named_nowhere n =
      let p : ℕ → Bool = λ i. eqb (struct_at (tables_of s S) i).name x in
      sym (ap (λ m. first_below m p) (structs_long s S) ∙ first_nowhere p S.structs (λ i l t. false≢true (sym (n (S.structs - 1 - i) (omega arith)) ∙ ap p (omega arith) ∙ t)))
