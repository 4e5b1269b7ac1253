-- Laws that the proofs of the figures cite.
use mathlib.Core.Path.{◌≡◌, refl, ◌∙◌}
use mathlib.Core.Bool.{Bool, true, ◌&&◌}
use Prim.Native.Nat.{ℕ, zero, suc, ◌+◌}
use native.Mathlib.Numerals.{add-one}
use Rattle.loops.specs.Loops.{all, upto}

-- a question of all numbers, one number more
pub one_more : (p : ℕ → Bool) (j : ℕ) {x y : Bool} → x ≡ all p j → y ≡ (x && p j) → y ≡ all p (j + 1)
unfolding all
one_more p j e f = f ∙ rw (e, add-one j)

-- what is seen of a state that turns take on, where each turn keeps J and what is seen takes its own turn
module _ {S V : Type 0} (J : S → Type 0) (seen : S → V) (f : ℕ → S → S) (g : ℕ → V → V) (h : (j : ℕ) (s : S) → J s → J (f j s) × (seen (f j s) ≡ g j (seen s))) where
  pub upto_seen : (m : ℕ) (s : S) → J s → J (upto f m s) × (seen (upto f m s) ≡ upto g m (seen s))
  unfolding upto
  upto_seen zero s k = (k, refl)
  upto_seen (suc m) s k =
      let r = upto_seen m s k in
      let t = h m (upto f m s) r.0 in
      (t.0, t.1 ∙ rw r.1 refl)

-- what each turn asks of its number, all turns ask of all numbers
pub upto_all : {S : Type 0} (asked : S → Bool) (f : ℕ → S → S) (p : ℕ → Bool) → ((j : ℕ) (s : S) → asked (f j s) ≡ (asked s && p j)) → (m : ℕ) (s : S) → asked s ≡ true → asked (upto f m s) ≡ all p m
unfolding all upto
upto_all asked f p h zero s e = e
upto_all asked f p h (suc m) s e = rw (h m (upto f m s), upto_all asked f p h m s e) refl
