-- Document 02, (vi), as its theorems say it: the nearest binding of a name. Assumes nothing.
use Rattle.std.specs.Prelude.{◌≡◌, ◌⊎◌, ℕ, ◌<◌}
use Rattle.oat.specs.Types.{Ty}
use Rattle.typing_rules.specs.Contexts.{Binding, Bindings, bind, Scope}
use Rattle.typing_rules.specs.Labels.{gives, Labels}

-- the binding c is one of those
pub data Among {A : Type 0} (c : Binding A) : Bindings A → Type 0 where
  latest : {B : Bindings A} → Among c (bind B c)
  earlier : {B : Bindings A} {b : Binding A} → Among c B → Among c (bind B b)

-- of the bindings of the name x in the scope Γ, c is the nearest: any other belongs to a block further out
pub record Nearest {A : Type 0} (Γ : Scope A) (x : ℕ) (c : Binding A) : Type 0 where
  pub among : Among c Γ.bindings
  pub named : c.name ≡ x
  pub others : (d : Binding A) → Among d Γ.bindings → d.name ≡ x → (d ≡ c) ⊎ (d.level < c.level)

-- what the name x at the node m means in the derivation D: its nearest local binding, or no local
pub data Means (D : Labels Ty) (m x : ℕ) : Type 0 where
  means_local : (c : Binding Ty) → Nearest (D m).before x c → (D m).result ≡ gives c.type → (D m).binder ≡ c.binder → Means D m x
  means_outer : ((c : Binding Ty) → Among c (D m).before.bindings → c.name ≡ x → ⊥) → Means D m x
