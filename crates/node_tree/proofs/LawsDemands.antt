-- The demands of kinds: a computed test of a kind and its demand, and one law that turns it into the rules of `Shape`. Assumes nothing.
use mathlib.Core.Path.{◌≡◌, refl, sym, ◌∙◌, ap}
use mathlib.Core.Bool.{Bool, true, false, not, ◌&&◌, ◌||◌}
use mathlib.Core.List.{List, [], ◌∷◌}
use mathlib.Core.Logic.{◌⊎◌, inl, inr, ⊎_elim}
use Prim.Native.Nat.{ℕ, ◌+◌, ◌<◌, ◌≤◌}
use native.Mathlib.Omega.{arith}
use lib.ListN.{get_or}
use lib.Dec.{eqb, leb, ltb}
use borrow.Author.Tests.{eqb-true, leb-true, ltb-true, eq-eqb, le-leb}
use Rattle.oat.specs.Basics.{pick}
use Rattle.oat.specs.Tables.{Tables}
use Rattle.oat.specs.TableRules.{has_kind}
use Rattle.oat.specs.Nodes.{has_reference_kind}
use Rattle.oat.proofs.LawsBasics.{and_parts}
use Rattle.node_tree.specs.Shape.{within, admits, x_fits, t_fits, count_fits}
use Rattle.node_tree.specs.Demands.{typed, bit_of, stands_as, plain_for, kind_or, Keeps}
use Rattle.node_tree.specs.declared.demands.Demand.{Demand}
use Rattle.node_tree.specs.declared.shape.Role.{Role}
use Rattle.node_tree.specs.declared.shape.Role.TheVariants.{Declaration, Parameter, Expression, Initializer, Target, Var, Statement, Block, Condition, Step}
use Rattle.node_tree.proofs.LawsShape.{kind_asked}

-- a test at every role
abbrev values : (Role → Bool) → List Bool
values f =
    f Declaration
    ∷ f Parameter
    ∷ f Expression
    ∷ f Initializer
    ∷ f Target
    ∷ f Var
    ∷ f Statement
    ∷ f Block
    ∷ f Condition
    ∷ f Step
    ∷ []

abbrev number : Role → ℕ
number Declaration = 0
number Parameter = 1
number Expression = 2
number Initializer = 3
number Target = 4
number Var = 5
number Statement = 6
number Block = 7
number Condition = 8
number Step = 9

value : (f : Role → Bool) (r : Role) → get_or (values f) (number r) false ≡ f r
value f Declaration = refl
value f Parameter = refl
value f Expression = refl
value f Initializer = refl
value f Target = refl
value f Var = refl
value f Statement = refl
value f Block = refl
value f Condition = refl
value f Step = refl

-- two tests that agree at every role
at_role : (f g : Role → Bool) → values f ≡ values g → (r : Role) → f r ≡ g r
at_role f g e r = sym (value f r) ∙ ap (λ (l : List Bool). get_or l (number r) false) e ∙ value g r

-- the largest x of a kind, the kind of its t and whether it may be 0, and its least and most children; a function and an if? ask more than these say
unfoldable pub x_most : ℕ → ℕ
x_most k =
    pick (within 1 k 3 || within 13 k 15 || eqb k 18 || eqb k 22 || eqb k 23 || eqb k 31 || eqb k 36) 65535
    (pick (eqb k 25) 2
    (pick (eqb k 26) 15 0))

unfoldable pub t_kind : ℕ → ℕ
t_kind k = pick (eqb k 2) 6 (pick (eqb k 10) 7 (pick (within 16 k 18) 5 (pick (eqb k 21) 4 65537)))

unfoldable pub t_free : ℕ → ℕ
t_free k = pick (eqb k 2) 0 (pick (eqb k 10) 0 (pick (within 16 k 18) 0 (pick (eqb k 21) 0 (pick (eqb k 36) 0 1))))

-- by how many children a kind has: one, a function, two, three, some, a for, any
abbrev by_count : ℕ → ℕ → ℕ → ℕ → ℕ → ℕ → ℕ → ℕ → ℕ → ℕ
by_count k one function two three some for any none =
    pick (eqb k 1 || eqb k 17 || eqb k 20 || eqb k 22 || eqb k 23 || eqb k 25 || eqb k 31 || eqb k 32) one
    (pick (eqb k 2) function
    (pick (eqb k 18 || eqb k 19 || eqb k 26 || eqb k 30 || eqb k 38) two
    (pick (eqb k 35 || eqb k 36) three
    (pick (eqb k 24 || eqb k 34) some
    (pick (eqb k 37) for
    (pick (eqb k 16 || eqb k 21 || eqb k 39) any none))))))

unfoldable pub count_least : ℕ → ℕ
count_least k = by_count k 1 1 2 3 1 3 0 0

unfoldable pub count_most : ℕ → ℕ
count_most k = by_count k 1 0 2 3 65535 65535 65535 0

x_fit : (k x : ℕ) → x ≤ x_most k → x_fits k x ≡ true
unfolding x_most x_fits
x_fit k x =
    go (within 1 k 3 || within 13 k 15 || eqb k 18 || eqb k 22 || eqb k 23 || eqb k 31 || eqb k 36) (eqb k 25) (eqb k 26)
  where
    go : (a b c : Bool) → x ≤ pick a 65535 (pick b 2 (pick c 15 0)) → pick a true (pick b (leb x 2) (pick c (leb x 15) (eqb x 0))) ≡ true
    go true b c h = refl
    go false true c h = le-leb x 2 h
    go false false true h = le-leb x 15 h
    go false false false h = eq-eqb x 0 (omega arith)

has-kind : (T : Tables) (t r q : ℕ) → r ≡ kind_or T t → q < 65536 → r ≡ q → has_kind T t q ≡ true
has-kind T t r q e h f = sym (kind_asked T t r q e h) ∙ eq-eqb r q f

t-fits : (T : Tables) (k t r : ℕ) → r ≡ kind_or T t → r < 65537 → (t < t_free k) ⊎ (r ≡ t_kind k) → t_fits T k t ≡ true
unfolding t_kind t_free t_fits
t-fits T k t r e h = go (eqb k 2) (eqb k 10) (within 16 k 18) (eqb k 21) (eqb k 36)
  where
    go : (a b c d f : Bool) → (t < pick a 0 (pick b 0 (pick c 0 (pick d 0 (pick f 0 1))))) ⊎ (r ≡ pick a 6 (pick b 7 (pick c 5 (pick d 4 65537)))) → pick a (has_kind T t 6) (pick b (has_kind T t 7) (pick c (has_kind T t 5) (pick d (has_kind T t 4) (pick f (has_reference_kind T t) (eqb t 0))))) ≡ true
    go true b c d f (inl l) = absurd (omega arith)
    go true b c d f (inr l) = has-kind T t r 6 e (omega arith) l
    go false true c d f (inl l) = absurd (omega arith)
    go false true c d f (inr l) = has-kind T t r 7 e (omega arith) l
    go false false true d f (inl l) = absurd (omega arith)
    go false false true d f (inr l) = has-kind T t r 5 e (omega arith) l
    go false false false true f (inl l) = absurd (omega arith)
    go false false false true f (inr l) = has-kind T t r 4 e (omega arith) l
    go false false false false true (inl l) = absurd (omega arith)
    go false false false false true (inr l) = absurd (omega arith)
    go false false false false false (inl l) = eq-eqb t 0 (omega arith)
    go false false false false false (inr l) = absurd (omega arith)

count_fit : (k p n : ℕ) → count_least k ≤ n → n ≤ count_most k → count_fits k p n ≡ true
unfolding count_least count_most count_fits
count_fit k p n =
    go
    (eqb k 1 || eqb k 17 || eqb k 20 || eqb k 22 || eqb k 23 || eqb k 25 || eqb k 31 || eqb k 32)
    (eqb k 2)
    (eqb k 18 || eqb k 19 || eqb k 26 || eqb k 30 || eqb k 38)
    (eqb k 35 || eqb k 36)
    (eqb k 24 || eqb k 34)
    (eqb k 37)
    (eqb k 16 || eqb k 21 || eqb k 39)
  where
    go : (a b c d e f g : Bool) → pick a 1 (pick b 1 (pick c 2 (pick d 3 (pick e 1 (pick f 3 (pick g 0 0)))))) ≤ n → n ≤ pick a 1 (pick b 0 (pick c 2 (pick d 3 (pick e 65535 (pick f 65535 (pick g 65535 0)))))) → pick a (eqb n 1) (pick b (eqb n (p + 1)) (pick c (eqb n 2) (pick d (eqb n 3) (pick e (leb 1 n) (pick f (leb 3 n) (pick g true (eqb n 0))))))) ≡ true
    go true b c d e f g l m = eq-eqb n 1 (omega arith)
    go false true c d e f g l m = absurd (omega arith)
    go false false true d e f g l m = eq-eqb n 2 (omega arith)
    go false false false true e f g l m = eq-eqb n 3 (omega arith)
    go false false false false true f g l m = le-leb 1 n l
    go false false false false false true g l m = le-leb 3 n l
    go false false false false false false true l m = refl
    go false false false false false false false l m = eq-eqb n 0 (omega arith)

-- in each role that the demand names the kind may stand
abbrev stands_right : ℕ → Demand → Bool → Role → Bool
stands_right k d c r = not (stands_as d (bit_of c r)) || admits c r k

-- the demand asks at least what the rules ask of the kind
pub record Tested (k : ℕ) (d : Demand) : Type 0 where
  pub roles : values (stands_right k d false) ≡ values (λ r. true)
  pub constant : values (stands_right k d true) ≡ values (λ r. true)
  pub limit : leb d.limit (x_most k) ≡ true
  pub free : leb d.free (t_free k) ≡ true
  pub typed : eqb d.typed (t_kind k) ≡ true
  pub least : leb (count_least k) d.least ≡ true
  pub most : leb d.most (count_most k) ≡ true

implied : (a b : Bool) → (not a || b) ≡ true → a ≡ true → b ≡ true
implied true b e h = e
implied false b e h = cc

or_parts : (a b : Bool) → (a || b) ≡ true → (a ≡ true) ⊎ (b ≡ true)
or_parts true b e = inl refl
or_parts false b e = inr e

tested_keeps : (k : ℕ) (d : Demand) → Tested k d → Keeps k d
unfolding plain_for
tested_keeps k d g = record {
  right =
      λ T c role x t r n er lr st pl.
      let (ex, rest) = and_parts (leb x d.limit) ((ltb t d.free || eqb r d.typed) && (leb d.least n && leb n d.most)) pl in
      let (et, counts) = and_parts (ltb t d.free || eqb r d.typed) (leb d.least n && leb n d.most) rest in
      let (el, em) = and_parts (leb d.least n) (leb n d.most) counts in (
        stood c role st,
        x_fit k x (omega (arith, leb-true x d.limit ex, leb-true d.limit (x_most k) g.limit)),
        t-fits T k t r er lr
            (⊎_elim
            (λ l. inl (omega (arith, ltb-true t d.free l, leb-true d.free (t_free k) g.free)))
            (λ l. inr (eqb-true r d.typed l ∙ eqb-true d.typed (t_kind k) g.typed))
            (or_parts (ltb t d.free) (eqb r d.typed) et)),
        λ p. count_fit k p n
            (omega (arith, leb-true d.least n el, leb-true (count_least k) d.least g.least))
            (omega (arith, leb-true n d.most em, leb-true d.most (count_most k) g.most)),
      );
}
  where
    stood : (c : Bool) (role : Role) → stands_as d (bit_of c role) ≡ true → admits c role k ≡ true
    stood true role = implied (stands_as d (bit_of true role)) (admits true role k) (at_role (stands_right k d true) (λ r. true) g.constant role)
    stood false role = implied (stands_as d (bit_of false role)) (admits false role k) (at_role (stands_right k d false) (λ r. true) g.roles role)

-- the demand of an arm keeps to the rules on its kind
pub arm_keeps : (n k : ℕ) (d r : Demand) → k ≡ n → r ≡ d → Tested n d → Keeps k r
arm_keeps n k d r e h g = rw (e, h) (tested_keeps n d g)

-- the demand that nothing meets names no role
nowhere : (c : Bool) (role : Role) → stands_as (typed 65537 0 1 0 0) (bit_of c role) ≡ false
unfolding stands_as
nowhere true role = at_role (λ r. stands_as (typed 65537 0 1 0 0) (bit_of true r)) (λ r. false) refl role
nowhere false role = at_role (λ r. stands_as (typed 65537 0 1 0 0) (bit_of false r)) (λ r. false) refl role

pub no_demand : (k : ℕ) (r : Demand) → r ≡ typed 65537 0 1 0 0 → Keeps k r
no_demand k r h = record {
  right =
      λ T c role x t q n er lr st pl.
      let z : ◌≡◌ {A = Bool} true false = sym st ∙ rw h (nowhere c role) in
      let y : ◌≡◌ {A = ℕ} 0 1 = cc in
      absurd (omega arith);
}
