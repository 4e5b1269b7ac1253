-- The whole numbers of `lib.IntN` as an ordered ring, by `lib.Signed`'s order.
use mathlib.Core.Path.{◌≡◌, refl, sym, subst}
use mathlib.Core.Logic.{◌↔◌}
use mathlib.Core.Bool.{Bool, true, false, not, cond}
use Prim.Native.Nat.{ℕ, zero, suc, ◌*◌, ◌-◌, ◌≤◌, ◌<◌, zero-le, suc-le-suc}
use native.Mathlib.Nat.{not-suc-le-zero, le_of_suc-le-suc}
use native.Mathlib.Omega.{arith}
use lib.Dec.{T, ltb, leb→le, le→leb, nltb→le}
use lib.Arith.{le→nltb}
use lib.IntN.{ℤ, pos, negsuc, neg_ℤ, ◌+ℤ◌, ◌*ℤ◌, ◌-ℤ◌, +ℤ_assoc, +ℤ_comm, +ℤ_idr, +ℤ_invr, *ℤ_comm, sub_ℕ}
use lib.Signed.{non_neg, le_z, lt_z, ◌≤ℤ◌, le_z_yes, lt_z_yes, lt_z_no, clash_ℤ}
use Rattle.integer.specs.Whole.{*ℤ-assoc, *ℤ-+ℤ, *ℤ-un}
use Rattle.algebra.proofs.Ring.{CommRing}
use Rattle.algebra.proofs.Ordered.{OrderedRing, Cone, ordered}

abbrev pub ℤ-ring : CommRing
ℤ-ring = record {
  R = ℤ;
  add = ◌+ℤ◌;
  mul = ◌*ℤ◌;
  neg = neg_ℤ;
  zr = pos 0;
  un = pos 1;
  add_assoc = +ℤ_assoc;
  add_comm = +ℤ_comm;
  add-zero = +ℤ_idr;
  add_neg = +ℤ_invr;
  mul_assoc = *ℤ-assoc;
  mul_comm = *ℤ_comm;
  mul_one = *ℤ-un;
  mul_add = *ℤ-+ℤ;
}

-- ---- the numbers that are not negative

abbrev pub NN : ℤ → Type 0
NN x = T (non_neg x)

pub nn_add : (x y : ℤ) → NN x → NN y → NN (x +ℤ y)
nn_add (pos a) (pos b) h k = tt
nn_add (pos a) (negsuc b) h k = absurd k
nn_add (negsuc a) y h k = absurd h

pub nn_mul : (x y : ℤ) → NN x → NN y → NN (x *ℤ y)
nn_mul (pos a) (pos b) h k = tt
nn_mul (pos a) (negsuc b) h k = absurd k
nn_mul (negsuc a) y h k = absurd h

pub nn_antisym : (x : ℤ) → NN x → NN (neg_ℤ x) → x ≡ pos 0
nn_antisym (pos zero) h k = refl
nn_antisym (pos (suc a)) h k = absurd k
nn_antisym (negsuc a) h k = absurd h

pub nn_total : (x : ℤ) → ¬ (NN x) → NN (neg_ℤ x)
nn_total (pos a) h = absurd (h tt)
nn_total (negsuc a) h = tt

-- a positive factor may go
pub nn-cancel : (x : ℤ) (d : ℕ) → 0 < d → NN (x *ℤ pos d) → NN x
nn-cancel (pos a) d h k = tt
nn-cancel (negsuc a) zero h k = absurd (not-suc-le-zero h)
nn-cancel (negsuc a) (suc d) h k = gone (suc a * suc d) (omega arith) k
  where
    gone : (n : ℕ) → 0 < n → NN (neg_ℤ (pos n)) → ⊥
    gone zero h k = omega arith
    gone (suc n) h k = k

-- ---- `lib.Signed`'s order is theirs

nn-sub : (a b : ℕ) → NN (sub_ℕ a b) ↔ (b ≤ a)
nn-sub a b = (λ h. nltb→le a b ((sign (ltb a b)).0 h), λ h. (sign (ltb a b)).1 (le→nltb a b h))
  where
    sign : (c : Bool) → NN (cond c (negsuc (b - suc a)) (pos (a - b))) ↔ T (not c)
    sign true = (λ t. t, λ t. t)
    sign false = (λ t. t, λ t. t)

le→nn : (a b : ℤ) → T (le_z a b) → NN (b -ℤ a)
le→nn (pos zero) (pos b) h = tt
le→nn (pos (suc a)) (pos b) h = (nn-sub b (suc a)).1 (leb→le (suc a) b h)
le→nn (pos a) (negsuc b) h = absurd h
le→nn (negsuc a) (pos b) h = tt
le→nn (negsuc a) (negsuc b) h = (nn-sub (suc a) (suc b)).1 (suc-le-suc (leb→le b a h))

nn→le : (a b : ℤ) → NN (b -ℤ a) → T (le_z a b)
nn→le (pos zero) (pos b) h = le→leb 0 b zero-le
nn→le (pos (suc a)) (pos b) h = le→leb (suc a) b ((nn-sub b (suc a)).0 h)
nn→le (pos zero) (negsuc b) h = absurd (not-suc-le-zero ((nn-sub 0 (suc b)).0 h))
nn→le (pos (suc a)) (negsuc b) h = h
nn→le (negsuc a) (pos b) h = tt
nn→le (negsuc a) (negsuc b) h = le→leb b a (le_of_suc-le-suc ((nn-sub (suc a) (suc b)).0 h))

pub ≤ℤ-nn : (a b : ℤ) → a ≤ℤ b ↔ NN (b -ℤ a)
≤ℤ-nn a b = (λ h. le→nn a b h.le, λ h. le_z_yes (nn→le a b h))

-- the test for below
pub lt_z-is : (a b : ℤ) → lt_z a b ≡ true ↔ ¬ (b ≤ℤ a)
lt_z-is a b = (λ e h. clash_ℤ (lt_z_yes (subst T (sym e) tt)) h, λ h. go (lt_z a b) refl h)
  where
    go : (c : Bool) → lt_z a b ≡ c → ¬ (b ≤ℤ a) → c ≡ true
    go true e h = refl
    go false e h = absurd (h (lt_z_no (subst (λ c. T (not c)) (sym e) tt)))

abbrev pub ℤ-cone : Cone ℤ-ring
ℤ-cone = record { nn = non_neg; nn_add = nn_add; nn_mul = nn_mul; nn_antisym = nn_antisym; nn_total = nn_total; le = ◌≤ℤ◌; le_nn = ≤ℤ-nn }

abbrev pub ℤ-ordered : OrderedRing
ℤ-ordered = ordered ℤ-ring ℤ-cone
