-- The arcs at a node by the sign of their multiplier there.
use mathlib.Core.Path.{◌≡◌, refl}
use mathlib.Core.Bool.{Bool, true, false, cond}
use mathlib.Core.List.{[], ◌∷◌}
use Prim.Native.Nat.{ℕ, ◌≤◌}
use native.Mathlib.Omega.{arith}
use lib.Dec.{eqb}
use borrow.Author.Tests.{eqb-false}
use Rattle.algebra.specs.Rat.{0_ℚ as 𝟘, ◌<ℚ◌}
use Rattle.algebra.proofs.Order.{lt→le}
use Rattle.fraction.specs.Value.{value}
use Rattle.network.specs.declared.Net.{Net}
use Rattle.network.specs.Network.{arc_at, is_here, degree_of, side_of}
use Rattle.network.specs.Legal.{Legal}
use Rattle.step.proofs.Each.{All, Apart}
use Rattle.network.proofs.First.{First, scan-first}
use Rattle.step.proofs.Touch.{unlike, At, touches, different-all}
use Rattle.step.proofs.Figures.{above_zero, below-zero}
use Rattle.step.proofs.Node.{ArcsAt, at-node, arcs-at}
use Rattle.crossing.specs.Crossing.{signed_after}
use Rattle.step.specs.Junction.{sign_by, has_sign_at}

pub positive : (n : ℕ) → eqb n 0 ≡ false → 1 ≤ n
positive n e = let ne = eqb-false n 0 e in omega arith

abbrev pub signs : Net → ℕ → Bool → ℕ → Bool
signs net i below j = has_sign_at (arc_at net j) i below

pub signed-first : (net : Net) (i : ℕ) (below : Bool) (k : ℕ) → First (signs net i below) k (signed_after net i below k)
unfolding signed_after
signed-first net i below k = scan-first (signs net i below) k

-- that sign, in exact numbers
abbrev pub Signed : Net → ℕ → Bool → ℕ → Type 0
Signed net i below j = cond below (value (side_of (arc_at net j) i).e <ℚ 𝟘) (𝟘 <ℚ value (side_of (arc_at net j) i).e)

-- an arc with a sign at a node touches it
pub sign-touches : (net : Net) (i : ℕ) (below : Bool) (j : ℕ) → signs net i below j ≡ true → touches net i j ≡ true
unfolding has_sign_at
sign-touches net i below j = by (touches net i j) refl
  where
    by : (s : Bool) → touches net i j ≡ s → sign_by s below (side_of (arc_at net j) i).e ≡ true → touches net i j ≡ true
    by true e t = e
    by false e t = unlike t

module _ (net : Net) (g : Legal net) (i : ℕ) (here : is_here net i ≡ true) where
  sign-is : (below : Bool) (j : ℕ) → signs net i below j ≡ true → Signed net i below j
  unfolding has_sign_at
  sign-is true j s = let t = sign-touches net i true j s in below-zero (at-node net g i here j t).near.proper (rw t at s)
  sign-is false j s = let t = sign-touches net i false j s in above_zero (at-node net g i here j t).near.proper (rw t at s)

  -- two arcs above 0 and two below 0: these are all, and their multipliers have those signs
  pub two-signs : {n m p q : ℕ} → degree_of net i ≡ 4 → First (signs net i true) 0 n → First (signs net i true) n m → First (signs net i false) 0 p → First (signs net i false) p q → 1 ≤ m → 1 ≤ q → ArcsAt net i (p ∷ q ∷ n ∷ m ∷ []) × Signed net i true n × Signed net i true m × Signed net i false p × Signed net i false q
  unfolding degree_of
  two-signs {n} {m} {p} {q} e f g' h k a b = (
    arcs-at net g i here (record { each = each; apart = differ; all = different-all (p ∷ q ∷ n ∷ m ∷ []) (touches net i) e each differ }),
    sign-is true _ (f.passes s),
    sign-is true _ (g'.passes a),
    sign-is false _ (h.passes t),
    sign-is false _ (k.passes b),
  )
    where
      -- where there is a second, there is a first
      first-too : {r : ℕ → Bool} {x y : ℕ} → First r 0 x → First r x y → 1 ≤ y → 1 ≤ x
      first-too {y = y} f g h = (f.least y h g.within (g.passes h)).0

      s : 1 ≤ n
      s = first-too f g' a

      t : 1 ≤ p
      t = first-too h k b

      at_sign : (below : Bool) {x y : ℕ} → First (signs net i below) x y → 1 ≤ y → At (touches net i) 0 y
      at_sign below {y = y} f h = record { above = h; within = f.within; passes = sign-touches net i below y (f.passes h) }

      each : All (At (touches net i) 0) (p ∷ q ∷ n ∷ m ∷ [])
      each = (at_sign false h t, (at_sign false k b, (at_sign true f s, (at_sign true g' a, tt))))

      unlike-signs : (x y : ℕ) → signs net i false x ≡ true → signs net i true y ≡ true → x ≡ y → ⊥
      unlike-signs x y s t z = sign-is true x (rw z t) (lt→le (sign-is false x s))

      differ : Apart (p ∷ q ∷ n ∷ m ∷ [])
      differ = (
        ((λ z. omega (arith, k.above b)), (unlike-signs _ _ (h.passes t) (f.passes s), (unlike-signs _ _ (h.passes t) (g'.passes a), tt))),
        ((unlike-signs _ _ (k.passes b) (f.passes s), (unlike-signs _ _ (k.passes b) (g'.passes a), tt)), (((λ z. omega (arith, g'.above a)), tt), (tt, tt))),
      )
