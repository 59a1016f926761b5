-- Document 001, sections 2 and 3: subtyping and well-formed types, one constructor for each printed rule and named after it. H is the
-- list of declared structs; 'struct S { fields } ∈ H' reads: the first record of that name has these fields. Assumes nothing.
use Rattle.std.specs.Prelude.{◌≡◌, List, ◌++◌, ℕ}
use Rattle.oat.specs.Types.{Ty, int, bool, string, void, struct, array, function, nullable, Tys, no_ty, and_ty, Field, Struct, found, lookup}

mutual
  -- H ⊢ t₁ ≤ t₂
  pub data Sub (H : List Struct) : Ty → Ty → Type 0 where
    sub_sub_int : Sub H int int
    sub_sub_bool : Sub H bool bool
    sub_sub_nref : {r s : Ty} → SubRef H r s → Sub H (nullable r) (nullable s)
    sub_sub_ref : {r s : Ty} → SubRef H r s → Sub H r s
    sub_sub_nrref : {r s : Ty} → SubRef H r s → Sub H r (nullable s)

  -- H ⊢r ref₁ ≤ ref₂
  pub data SubRef (H : List Struct) : Ty → Ty → Type 0 where
    sub_subr_string : SubRef H string string
    sub_subr_array : {t : Ty} → SubRef H (array t) (array t)
    sub_subr_struct : {x y : ℕ} (fields more : List Field) → lookup H x ≡ found (fields ++ more) → lookup H y ≡ found fields → SubRef H (struct x) (struct y)
    sub_subr_funt : {ts us : Tys} {rt₁ rt₂ : Ty} → SubAll H us ts → SubRet H rt₁ rt₂ → SubRef H (function ts rt₁) (function us rt₂)

  -- H ⊢rt rt₁ ≤ rt₂
  pub data SubRet (H : List Struct) : Ty → Ty → Type 0 where
    sub_subret_svoid : SubRet H void void
    sub_subret_rttyp : {t u : Ty} → Sub H t u → SubRet H t u

  -- H ⊢ t₁ ≤ u₁ .. H ⊢ tₙ ≤ uₙ, of equal number
  pub data SubAll (H : List Struct) : Tys → Tys → Type 0 where
    sub_none : SubAll H no_ty no_ty
    sub_also : {t u : Ty} {ts us : Tys} → Sub H t u → SubAll H ts us → SubAll H (and_ty t ts) (and_ty u us)

mutual
  -- H ⊢ t
  pub data Formed (H : List Struct) : Ty → Type 0 where
    wf_typok_int : Formed H int
    wf_typok_bool : Formed H bool
    wf_typok_ref : {r : Ty} → FormedRef H r → Formed H r
    wf_typok_refq : {r : Ty} → FormedRef H r → Formed H (nullable r)

  -- H ⊢r ref
  pub data FormedRef (H : List Struct) : Ty → Type 0 where
    wf_reftok_string : FormedRef H string
    wf_reftok_array : {t : Ty} → Formed H t → FormedRef H (array t)
    wf_reftok_struct : {x : ℕ} (fields : List Field) → lookup H x ≡ found fields → FormedRef H (struct x)
    wf_reftok_funt : {ts : Tys} {rt : Ty} → FormedAll H ts → FormedRet H rt → FormedRef H (function ts rt)

  -- H ⊢rt rt
  pub data FormedRet (H : List Struct) : Ty → Type 0 where
    wf_rtypok_void : FormedRet H void
    wf_rtypok_typ : {t : Ty} → Formed H t → FormedRet H t

  -- H ⊢ t₁ .. H ⊢ tₙ
  pub data FormedAll (H : List Struct) : Tys → Type 0 where
    formed_none : FormedAll H no_ty
    formed_also : {t : Ty} {ts : Tys} → Formed H t → FormedAll H ts → FormedAll H (and_ty t ts)
