-- Laws of the chains: equal types are in one chain, the way along a chain to an equal type, and chains with one type more. Assumes
-- nothing.
use mathlib.Core.Path.{◌≡◌, refl, ap, sym, subst, ◌∙◌}
use mathlib.Core.Bool.{Bool, true, false≢true}
use mathlib.Core.List.{List, ◌++◌}
use mathlib.Core.Logic.{◌⊎◌, inl, inr, ⊎_elim}
use Prim.Native.Nat.{ℕ, ◌+◌, ◌*◌, ◌%◌, ◌≤◌, ◌<◌}
use native.Mathlib.Nat.{not-suc-le-zero, mod-lt}
use native.Mathlib.Omega.{arith}
use lib.ListN.{length, get_or, set, take, drop, replicate, length-set}
use borrow.Rule.Slice.PartMut.{put_mid, post_of}
use Rattle.std.proofs.lemmas.List.{length-take-le, length-drop, length-replicate, get_or-append_right, get_or_append_left, get_or-replicate}
use lib.Seq.{get_or-set_same, get_or-set_other}
use lib.Dec.{eqb}
use borrow.Author.Count.{below_more}
use Rattle.oat.specs.Basics.{pick}
use Rattle.oat.specs.Tables.{Tables, type_at}
use Rattle.oat.specs.TypeRules.{kind_at}
use Rattle.oat.specs.Types.{type_of}
use Rattle.oat.specs.Decide.{kind_of, same_ty, is_formed}
use Rattle.oat.specs.Pairs.{parts_ty}
use Rattle.oat.proofs.LawsWritten.{params_many}
use Rattle.oat.proofs.LawsSame.{same_sound, same_refl}
use Rattle.oat.proofs.LawsWritten.{type_struct, type_array, type_function, type_nullable}
use Rattle.chains.proofs.LawsChains.{linked, chains_none}
use Rattle.file_sections.specs.declared.Sections.{Sections}
use Rattle.file_sections.specs.Layout.{tables_of, GoodTables}
use Rattle.file_sections.proofs.LawsRecords.{types_long}
use Rattle.type_index.specs.Index.{declared, first_below, struct_named, lowest_entry, struct_entry, formed_entry, parts_entry, first_equal, chain_of, bucket_of, linking, entering, Entered, Chained, Cleared, Indexed}
use Rattle.type_index.specs.Walk.{Way, Leads, NonePasses, LastPasses}
use Rattle.type_index.proofs.LawsIndex.{first_longer, first-equal, first_nowhere, names_none, stored, elsewhere, indexed_more}
use Rattle.type_index.proofs.LawsSameTypes.{on_base, base_kept, base_own, kind_is, function_kept, holder_lower, returns_lower}
use Rattle.type_index.proofs.LawsFormedTypes.{formed_base}
use Rattle.type_index.proofs.LawsParts.{parts_base}

-- the first type equal to an indexed one
first_entry : (s : List ℕ) (S : Sections) (index : List ℕ) (i x e : ℕ) → i < S.types → x < i → Indexed index (tables_of s S) i → e ≡ get_or index x 0 → e ≡ first_equal (tables_of s S) (type_of (tables_of s S) x)
unfolding lowest_entry first_equal
first_entry s S index i x e h l I ee =
    ee
    ∙ I.lowest x l
    ∙ sym (first_longer (λ j. same_ty (type_of (tables_of s S) j) (type_of (tables_of s S) x)) (length (tables_of s S).types) x (rw (types_long s S) (omega arith)) (same_refl (type_of (tables_of s S) x)))

-- the bucket of a type by its kind
pub bucket_most : (n : ℕ) → n % 64 < 64
bucket_most n = mod-lt n (omega arith)

module _ (s : List ℕ) (S : Sections) (i : ℕ) where
  pub bucket_struct : (a : ℕ) → kind_at (tables_of s S) i ≡ 4 → a ≡ (type_at (tables_of s S) i).a → a % 64 ≡ bucket_of (tables_of s S) i
  unfolding bucket_of chain_of
  bucket_struct a k ea = rw (type_struct (tables_of s S) i k) (ap (λ n. n % 64) ea)

  module _ (R : GoodTables s S) (h : i < S.types) where
    bucket_base : kind_at (tables_of s S) i < 4 → kind_at (tables_of s S) i ≡ bucket_of (tables_of s S) i
    unfolding bucket_of chain_of
    bucket_base l =
        sym (kind_is s S R i h)
        ∙ on_base (λ t. kind_of t ≡ chain_of (tables_of s S) t) refl refl refl refl (type_of (tables_of s S) i) (rw (kind_is s S R i h) l)

    module _ (index : List ℕ) (a e : ℕ) (I : Indexed index (tables_of s S) i) (ea : a ≡ (type_at (tables_of s S) i).a) (ee : e ≡ get_or index a 0) where
      first_operand : a < i → e ≡ first_equal (tables_of s S) (type_of (tables_of s S) (type_at (tables_of s S) i).a)
      first_operand l = first_entry s S index i a e h l I ee ∙ ap (λ x. first_equal (tables_of s S) (type_of (tables_of s S) x)) ea

      pub bucket_holder : (k : ℕ) → kind_at (tables_of s S) i ≡ k → (k ≡ 5) ⊎ (k ≡ 7) → (e + k) % 64 ≡ bucket_of (tables_of s S) i
      unfolding bucket_of chain_of
      bucket_holder k ek d = ⊎_elim of_array of_nullable d
        where
          low : a < i
          low = holder_lower s S i a R h ea k ek d

          of_array : k ≡ 5 → (e + k) % 64 ≡ chain_of (tables_of s S) (type_of (tables_of s S) i)
          of_array f = rw (type_array (tables_of s S) i (ek ∙ f) (omega (arith, low)), f, first_operand low)

          of_nullable : k ≡ 7 → (e + k) % 64 ≡ chain_of (tables_of s S) (type_of (tables_of s S) i)
          of_nullable f = rw (type_nullable (tables_of s S) i (ek ∙ f) (omega (arith, low)), f, first_operand low)

      pub bucket_function : (c : ℕ) → kind_at (tables_of s S) i ≡ 6 → c ≡ (type_at (tables_of s S) i).c → (e + 6 + c * 8) % 64 ≡ bucket_of (tables_of s S) i
      unfolding bucket_of chain_of
      bucket_function c k ec =
          let F = function_kept s S R i h k in
          rw (type_function (tables_of s S) i k F.returns (λ j m. (F.parameter j m).lower), params_many (type_of (tables_of s S)) (tables_of s S) (type_at (tables_of s S) i).b (type_at (tables_of s S) i).c, first_operand (returns_lower s S i a R h ea k), ec)

-- the entry of what a type refers to is in the index
pub entry_there : (index : List ℕ) (x : ℕ) → Entered index x → x < length index
entry_there index x E = omega (arith, E.low, E.long)

-- the walk along the chain of the type i to an equal type
abbrev pub equal_way : List ℕ → Sections → ℕ → Way
equal_way s S i = record {
  count = i;
  bucket = bucket_of (tables_of s S);
  own = bucket_of (tables_of s S) i;
  passes = λ j. same_ty (type_of (tables_of s S) j) (type_of (tables_of s S) i);
}

module _ (s : List ℕ) (S : Sections) (index : List ℕ) (i : ℕ) where
  equal_inside : (k : ℕ) → k < i → same_ty (type_of (tables_of s S) k) (type_of (tables_of s S) i) ≡ true → bucket_of (tables_of s S) k ≡ bucket_of (tables_of s S) i
  unfolding bucket_of
  equal_inside k l e = ap (chain_of (tables_of s S)) (same_sound _ _ e)

  pub equal_leads : (b : ℕ) → b ≡ bucket_of (tables_of s S) i → b < 64 → i < 512 → Chained index (tables_of s S) i → Leads index (2048 + b) 1536 (equal_way s S i)
  equal_leads b eb l low C = record {
    heads = 2048;
    buckets = 64;
    low = rw (← eb) l;
    place = ap (λ g. 2048 + g) eb;
    chains = C.chains;
    inside = equal_inside;
    there = omega (arith, C.long);
    room = omega (arith, C.long);
  }

  pub equal_found : (j e : ℕ) → LastPasses (equal_way s S i) j → e ≡ get_or index j 0 → Indexed index (tables_of s S) i → e ≡ first_below i (λ k. same_ty (type_of (tables_of s S) k) (type_of (tables_of s S) i))
  unfolding lowest_entry
  equal_found j e f ee I = ee ∙ I.lowest j f.below ∙ first-equal (type_of (tables_of s S)) j i (same_sound _ _ f.passes)

  pub equal_nowhere : NonePasses (equal_way s S i) → i ≡ first_below i (λ k. same_ty (type_of (tables_of s S) k) (type_of (tables_of s S) i))
  equal_nowhere n = sym (first_nowhere _ i (λ k l e. false≢true (sym (n k l) ∙ e)))

-- what the four stores of a type keep
module _ (T : Tables) (index : List ℕ) (i e r m w : ℕ) (C : Chained index T i) (low : i < 512) where
  stored_between : (j : ℕ) → 1536 ≤ j → j < 2112 → get_or (stored index i e r m w) j 0 ≡ get_or index j 0
  stored_between j h l = elsewhere index i e r m w j (λ x. omega arith) (λ x. omega arith) (λ x. omega arith) (λ x. omega arith)

  chained_stored : Chained (stored index i e r m w) T i
  chained_stored = record {
    long = simp length-set C.long;
    chains = record {
      head = λ h l. stored_between (2048 + h) (omega arith) (omega arith) ∙ C.chains.head h l;
      link = λ j l. stored_between (1536 + j) (omega arith) (omega arith) ∙ C.chains.link j l;
    };
  }

-- what a link keeps
module _ (index : List ℕ) (i b v w : ℕ) (low : i < 512) (bucket : b < 64) where
  linked_else : (j : ℕ) → (j < 1536) ⊎ (2112 ≤ j) → get_or (set (set index (1536 + i) v) (2048 + b) w) j 0 ≡ get_or index j 0
  linked_else j h =
      get_or-set_other (set index (1536 + i) v) (2048 + b) j w 0 (λ x. ⊎_elim (λ l. omega arith) (λ l. omega arith) h)
      ∙ get_or-set_other index (1536 + i) j v 0 (λ x. ⊎_elim (λ l. omega arith) (λ l. omega arith) h)

  indexed_linked : (T : Tables) (n : ℕ) → n ≤ 512 → Indexed index T n → Indexed (set (set index (1536 + i) v) (2048 + b) w) T n
  unfolding lowest_entry struct_entry formed_entry parts_entry
  indexed_linked T n h I = record {
    long = simp length-set I.long;
    lowest = λ k l. linked_else k (inl (omega arith)) ∙ I.lowest k l;
    named = λ k l. linked_else (512 + k) (inl (omega arith)) ∙ I.named k l;
    formed = λ k l. ap (λ x. eqb x 1) (linked_else (1024 + k) (inl (omega arith))) ∙ I.formed k l;
    parts = λ k l. linked_else (2112 + k) (inr (omega arith)) ∙ I.parts k l;
  }

-- one type more: its entries, and its place in its chain
pub entering_is : (index index' : List ℕ) (i e r m w b : ℕ) (f : Bool) → m ≡ pick f 1 0 → index' ≡ linking (set (set (set (set index i e) (512 + i) r) (1024 + i) m) (2112 + i) w) i b → index' ≡ entering index i e r f w b
unfolding entering
entering_is index index' i e r m w b f em is = rw (← em) is

module _ (s : List ℕ) (S : Sections) (index index' : List ℕ) (i e r w b : ℕ) (f : Bool) (R : GoodTables s S) (h : i < S.types) (is : index' ≡ entering index i e r f w b) where
  below_512 : i < 512
  below_512 = omega (arith, R.laid.types_most)

  pub one_chained : Chained index (tables_of s S) i → b ≡ bucket_of (tables_of s S) i → b < 64 → Chained index' (tables_of s S) (i + 1)
  unfolding entering
  one_chained C eb l =
      let D = chained_stored (tables_of s S) index i e r (pick f 1 0) w C below_512 in
      subst (λ x. Chained x (tables_of s S) (i + 1)) (sym is)
      (record {
        long = simp length-set C.long;
        chains = linked 2048 64 1536 (bucket_of (tables_of s S)) _ i b (2048 + b) (sym eb) l refl (omega (arith, D.long)) (λ g j p q z. omega arith) D.chains (omega (arith, D.long));
      })

  pub one_indexed : Indexed index (tables_of s S) i → e ≡ first_below i (λ j. same_ty (type_of (tables_of s S) j) (type_of (tables_of s S) i)) → r ≡ struct_named (tables_of s S) i → f ≡ is_formed (declared (tables_of s S)) (type_of (tables_of s S) i) → w ≡ parts_ty (type_of (tables_of s S) i) → b < 64 → Indexed index' (tables_of s S) (i + 1)
  unfolding entering
  one_indexed I ee er ef ew l =
      subst (λ x. Indexed x (tables_of s S) (i + 1)) (sym is) (indexed_linked _ i b _ (i + 1) below_512 l (tables_of s S) (i + 1) (omega (arith, below_512)) (indexed_more s S index i e r (pick f 1 0) w R h I f ee er ef refl ew))

-- a base type
module _ (s : List ℕ) (S : Sections) (i k : ℕ) (R : GoodTables s S) (h : i < S.types) (ek : k ≡ kind_at (tables_of s S) i) (n : k ≡ 4 → ⊥) (o : (k ≡ 5) ⊎ (k ≡ 7) → ⊥) (m : k ≡ 6 → ⊥) where
  four : i < 4
  four = base_kept s S R i h k ek n o m

  own : kind_at (tables_of s S) i ≡ i
  own = base_own s S R i four

  pub base_low : k < 64
  base_low = omega (arith, own, four)

  base_first : i ≡ first_below i (λ j. same_ty (type_of (tables_of s S) j) (type_of (tables_of s S) i))
  base_first = sym (first_nowhere _ i (λ j l e. omega (arith, own, kind_is s S R i h, kind_is s S R j (omega arith), base_own s S R j (omega (arith, four)), ap kind_of (same_sound _ _ e))))

  module _ (index index' : List ℕ) (is : index' ≡ entering index i i S.structs true 1 k) where
    pub base_indexed : Indexed index (tables_of s S) i → Indexed index' (tables_of s S) (i + 1)
    base_indexed I =
        one_indexed s S index index' i i S.structs 1 k true R h is I base_first (names_none s S i (λ e. n (ek ∙ e))) (formed_base s S i R h (omega (arith, own, four))) (parts_base s S i R h (omega (arith, own, four))) base_low

    pub base_chained : Chained index (tables_of s S) i → Chained index' (tables_of s S) (i + 1)
    base_chained C = one_chained s S index index' i i S.structs 1 k true R h is C (ek ∙ bucket_base s S i R h (omega (arith, own, four))) base_low

-- no type yet: head by head, and all at once
pub cleared_none : (index : List ℕ) → Cleared index 0
cleared_none index = record { heads = λ h l. absurd (not-suc-le-zero l) }

pub cleared_more : (index index₀ : List ℕ) (n : ℕ) → n < 64 → length index ≡ length index₀ → 2624 ≤ length index₀ → Cleared index n → Cleared (set index (2048 + n) 0) (n + 1)
cleared_more index index₀ n l same long c = record {
  heads = below_more
      (λ h. get_or (set index (2048 + n) 0) (2048 + h) 0 ≡ 0)
      n
      (λ h k. get_or-set_other index (2048 + n) (2048 + h) 0 0 (λ x. omega arith) ∙ c.heads h k)
      (get_or-set_same index (2048 + n) 0 0 (omega arith));
}

pub cleared_all : (index part : List ℕ) → 2624 ≤ length index → part ≡ replicate (length (take 64 (drop 2048 index))) 0 → Cleared (put_mid 2048 64 index part) 64
cleared_all index part long e =
    let before : length (take 2048 index) ≡ 2048 = length-take-le 2048 index (omega arith) in
    let rest : 64 ≤ length (drop 2048 index) = simp length-drop (omega arith) in
    let zeros : part ≡ replicate 64 0 = e ∙ ap (λ n. replicate n 0) (length-take-le 64 (drop 2048 index) rest) in
    let many : length part ≡ 64 = ap length zeros ∙ length-replicate {A = ℕ} 64 0 in
    record {
      heads = λ h l.
          get_or-append_right (take 2048 index) (part ++ post_of 2048 64 index) 2048 (2048 + h) 0 before (omega arith)
          ∙ ap (λ k. get_or (part ++ post_of 2048 64 index) k 0) (omega arith)
          ∙ get_or_append_left part (post_of 2048 64 index) 0 h (omega arith)
          ∙ ap (λ x. get_or x h 0) zeros
          ∙ get_or-replicate 64 h 0 0 l;
    }

pub chained_none : (index : List ℕ) (T : Tables) → 2624 ≤ length index → Cleared index 64 → Chained index T 0
chained_none index T h c = record { long = h; chains = chains_none c.heads }
