-- The value of the formula in ℚ: it is exact where it fits, and a misfit only where no fraction in form has that value.
use mathlib.Core.Path.{◌≡◌, refl, sym, ap, ap₂, ◌∙◌}
use mathlib.Core.Bool.{Bool, true, false, cond, ◌&&◌}
use mathlib.Core.Logic.{⊎_elim}
use Prim.Native.Nat.{ℕ, zero, suc, ◌*◌, ◌<◌}
use native.Mathlib.Nat.{eq-zero-or-pos, mul-pos, mul-zero as times_zero, one-mul, zero-lt-suc, zero-mul as zero-times}
use native.Mathlib.Omega.{arith}
use lib.IntN.{ℤ, pos, negsuc, neg_ℤ, nat_abs, ◌-ℤ◌, ◌*ℤ◌}
use Rattle.integer.specs.Whole.{signed, nat_abs_mul, neg-*ℤ}
use Rattle.algebra.proofs.Ring.{mul-zero, zero-mul}
use Rattle.algebra.proofs.Solver.{◌:*◌, ◌:-◌, ◌:=◌, ring9}
use Rattle.algebra.proofs.Int.{ℤ-ring}
use Rattle.algebra.specs.Rat.{ℚ, ◌+ℚ◌, ◌*ℚ◌, -ℚ◌, inv_ℚ, 0_ℚ}
use Rattle.algebra.proofs.Rat.{ℚ-ring}
use Rattle.algebra.specs.Frac.{frac}
use Rattle.algebra.proofs.Frac.{frac-eq, frac-sub, frac-mul, frac-inv}
use Rattle.fraction.specs.declared.Fraction.{Fraction}
use Rattle.std.specs.Prelude.{Ok, Err}
use Rattle.fraction.specs.Exact.{Operand, Proper, is_operand, misfit, Worked}
use Rattle.fraction.specs.Formula.{◌⊖◌, ◌⊗◌}
use Rattle.fraction.proofs.Laws.{never, and_both, is-operand, operands-are, reduce-zero}
use Rattle.fraction.specs.Value.{value, Works}
use Rattle.fraction.proofs.Value.{reduce-works, zero-value}
use Rattle.fraction.proofs.Formulas.{given, minus-fits, minus-gives, numerator-nonzero, over-fits, over-gives, over-nonzero, tested, times-fits, times-gives}
use Rattle.wide.specs.Share.{ratio_of, over_of, under_of, share_of}
use Rattle.wide.specs.internal.Wide.{steps_of}

-- the value of the formula, of numbers
abbrev pub share_ℚ : ℚ → ℚ → ℚ → ℚ → ℚ
share_ℚ r a l b = (r +ℚ (-ℚ (a *ℚ l))) *ℚ inv_ℚ (a *ℚ b)

-- ---- signs

signed-one : (z : ℤ) (n : ℕ) → signed z n ≡ signed z 1 *ℤ pos n
signed-one (pos a) n = ap pos (sym (one-mul n))
signed-one (negsuc a) n = ap (λ (k : ℕ). neg_ℤ (pos k)) (sym (one-mul n)) ∙ sym (neg-*ℤ (pos 1) (pos n))

signed-scaled : (z : ℤ) (k n : ℕ) → 0 < k → signed (z *ℤ pos k) n ≡ signed z n
signed-scaled (pos a) k n h = refl
signed-scaled (negsuc a) k n h = below (suc a * k) (mul-pos (zero-lt-suc a) h)
  where
    below : (m : ℕ) → 0 < m → signed (neg_ℤ (pos m)) n ≡ neg_ℤ (pos n)
    below zero h = absurd (omega arith)
    below (suc m) h = refl

-- ---- numerators

-- a value other than 0 has a numerator other than 0
numerator-pos : (x : Fraction) → Operand x → ¬ (value x ≡ 0_ℚ) → 0 < nat_abs x.num
numerator-pos x p n = ⊎_elim (λ z. absurd (n (zero-value x p z))) (λ h. h) (eq-zero-or-pos (nat_abs x.num))

factor-pos : (m f : ℤ) → 0 < nat_abs (m *ℤ f) → (0 < nat_abs m) × (0 < nat_abs f)
factor-pos m f h = by (nat_abs m) (nat_abs f) (rw nat_abs_mul at h)
  where
    by : (x y : ℕ) → 0 < x * y → (0 < x) × (0 < y)
    by zero y h = absurd (let k = rw zero-times at h in omega arith)
    by (suc x) zero h = absurd (let k = rw times_zero at h in omega arith)
    by (suc x) (suc y) h = (zero-lt-suc x, zero-lt-suc y)

-- ---- the law

under-size : (r a l b : Fraction) → nat_abs (under_of r a l b) ≡ nat_abs (a.num *ℤ b.num) * r.den * l.den
under-size r a l b = nat_abs_mul (a.num *ℤ b.num *ℤ pos r.den) (pos l.den) ∙ ap (λ k. k * l.den) (nat_abs_mul (a.num *ℤ b.num) (pos r.den))

module _ (r a l b : Fraction) (pr : Operand r) (pa : Operand a) (pl : Operand l) (pb : Operand b) (na : ¬ (value a ≡ 0_ℚ)) (nb : ¬ (value b ≡ 0_ℚ)) where
  divisor-pos : 0 < nat_abs (a.num *ℤ b.num)
  divisor-pos = rw nat_abs_mul (mul-pos (numerator-pos a pa na) (numerator-pos b pb nb))

  under-pos : 0 < nat_abs (under_of r a l b)
  under-pos = rw (under-size r a l b) (mul-pos (mul-pos divisor-pos pr.den_pos) pl.den_pos)

  under-sign : signed (under_of r a l b) 1 ≡ signed (a.num *ℤ b.num) 1
  under-sign = signed-scaled (a.num *ℤ b.num *ℤ pos r.den) l.den 1 pl.den_pos ∙ signed-scaled (a.num *ℤ b.num) r.den 1 pr.den_pos

  -- the value, worked out in ℚ, and as the ratio of the definition
  worked-out : share_ℚ (value r) (value a) (value l) (value b) ≡ frac ((r.num *ℤ pos (a.den * l.den) -ℤ a.num *ℤ l.num *ℤ pos r.den) *ℤ signed (a.num *ℤ b.num) (a.den * b.den)) (r.den * (a.den * l.den) * nat_abs (a.num *ℤ b.num))
  unfolding value
  worked-out =
      ap₂ (λ x y. (value r +ℚ (-ℚ x)) *ℚ inv_ℚ y) (frac-mul a.num a.den l.num l.den pa.den_pos pl.den_pos) (frac-mul a.num a.den b.num b.den pa.den_pos pb.den_pos)
      ∙ ap₂ ◌*ℚ◌ (frac-sub r.num r.den (a.num *ℤ l.num) (a.den * l.den) pr.den_pos (mul-pos pa.den_pos pl.den_pos)) (frac-inv (a.num *ℤ b.num) (a.den * b.den) (mul-pos pa.den_pos pb.den_pos) divisor-pos)
      ∙ frac-mul _ (r.den * (a.den * l.den)) _ (nat_abs (a.num *ℤ b.num)) (mul-pos pr.den_pos (mul-pos pa.den_pos pl.den_pos)) divisor-pos

  ratio-value : frac (signed (under_of r a l b) 1 *ℤ (over_of r a l *ℤ pos b.den)) (nat_abs (under_of r a l b)) ≡ share_ℚ (value r) (value a) (value l) (value b)
  ratio-value =
      frac-eq _ _ _ _ under-pos (mul-pos (mul-pos pr.den_pos (mul-pos pa.den_pos pl.den_pos)) divisor-pos)
      (rw (under-sign, under-size r a l b, signed-one (a.num *ℤ b.num) (a.den * b.den))
      (ring9 ℤ-ring (signed (a.num *ℤ b.num) 1) r.num (pos r.den) a.num (pos a.den) l.num (pos l.den) (pos b.den) (pos (nat_abs (a.num *ℤ b.num)))
      (λ s p q m n c d h w. s :* ((p :* n :* d :- c :* m :* q) :* h) :* (q :* (n :* d) :* w) := (p :* (n :* d) :- m :* c :* q) :* (s :* (n :* h)) :* (w :* q :* d)) refl))
      ∙ sym worked-out

  pub share-works : Works (share_of r a l b) (share_ℚ (value r) (value a) (value l) (value b))
  unfolding share_of ratio_of
  share-works = rw (is-operand r pr, is-operand a pa, is-operand l pl, is-operand b pb, ← ratio-value) (reduce-works _ _ under-pos)

module _ (r a l b : Fraction) where
  -- there is none over 0
  over_zero : nat_abs (a.num *ℤ b.num) ≡ 0 → share_of r a l b ≡ Err misfit
  unfolding share_of ratio_of
  over_zero e = rw (reduce-zero _ (nat_abs (under_of r a l b)) (under-size r a l b ∙ rw (e, zero-times r.den) (zero-times l.den))) (either ((is_operand r && is_operand a) && (is_operand l && is_operand b)))
    where
      either : (t : Bool) → cond {A = Worked} t (Err misfit) (Err misfit) ≡ Err misfit
      either true = refl
      either false = refl

  -- where a result fits: the operands are operands, the divisors are not 0, and it is in form and exact
  pub record Shared (z : Fraction) : Type 0 where
    pub operands : Operand r × Operand a × Operand l × Operand b
    pub left_nonzero : ¬ (value a ≡ 0_ℚ)
    pub right_nonzero : ¬ (value b ≡ 0_ℚ)
    pub proper : Proper z
    pub exact : value z ≡ share_ℚ (value r) (value a) (value l) (value b)

  pub share-fits : (z : Fraction) → share_of r a l b ≡ Ok z → Shared z
  unfolding share_of
  share-fits z e =
      let t = and_both (is_operand r && is_operand a) _ (tested _ _ z e) in
      let o = operands-are r a t.0 in
      let q = operands-are l b t.1 in
      let na = numerator-nonzero a o.1 (factor-pos a.num b.num nonzero).0 in
      let nb = numerator-nonzero b q.1 (factor-pos a.num b.num nonzero).1 in
      let w = share-works r a l b o.0 o.1 q.0 q.1 na nb in
      record { operands = (o.0, o.1, q.0, q.1); left_nonzero = na; right_nonzero = nb; proper = w.proper z e; exact = w.exact z e }
    where
      nonzero : 0 < nat_abs (a.num *ℤ b.num)
      nonzero = ⊎_elim (λ n. never (let f = sym e ∙ over_zero n in cc)) (λ h. h) (eq-zero-or-pos (nat_abs (a.num *ℤ b.num)))

  -- where each step of the formula fits, the answer is the same
  pub share-steps : (z : Fraction) → steps_of r a l b ≡ Ok z → share_of r a l b ≡ Ok z
  share-steps z e =
      let o = over-fits e in
      let m = minus-fits o.left_fits in
      let d = times-fits o.right_fits in
      let t = times-fits m.right_fits in
      let n = over-nonzero (Ok r ⊖ (Ok a ⊗ Ok l)) (Ok a ⊗ Ok b) (value a *ℚ value b) (times-gives (given a) (given b)) e in
      (share-works r a l b (same m.left_fits m.is.left_operand) (same d.left_fits d.is.left_operand) (same t.right_fits t.is.right_operand) (same d.right_fits d.is.right_operand)
      (λ v. n (ap (λ q. q *ℚ value b) v ∙ zero-mul ℚ-ring (value b)))
      (λ v. n (ap (λ q. value a *ℚ q) v ∙ mul-zero ℚ-ring (value a)))
      ).complete z o.is.proper (over-gives (minus-gives (given r) (times-gives (given a) (given l))) (times-gives (given a) (given b)) z e)
    where
      same : {x y : Fraction} → ◌≡◌ {A = Worked} (Ok x) (Ok y) → Operand y → Operand x
      same {x} {y} e p = let f : x ≡ y = cc in rw f p
