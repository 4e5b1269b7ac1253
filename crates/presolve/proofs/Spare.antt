-- A program with spare places, for rows and columns that are out, and the same program without them: the two have the same pairs.
use mathlib.Core.Path.{◌≡◌, refl, sym, ◌∙◌, ap, subst}
use mathlib.Core.List.{List, Memᴰ}
use mathlib.Core.Bool.{Bool, cond}
use Prim.Native.Nat.{ℕ}
use lib.Dec.{T}
use Rattle.algebra.specs.Rat.{ℚ, ◌+ℚ◌, ◌*ℚ◌, 0_ℚ as 𝟘}
use Rattle.algebra.proofs.Sum.{sum_congr, sum-zero}
use Rattle.presolve.specs.LP.{LP, Feasible, InBounds, worth, brings, total}
use Rattle.presolve.proofs.Removed.{Gone, gone-within}
use Rattle.presolve.proofs.Step.{SoundStep}
use Rattle.presolve.proofs.Renumber.{Numbering, Survivor, kept-dec, cond_yes, cond_no, zero-times, sum-numbered, mem-numbered, survivor}

abbrev pub listed : LP → List ℕ → List ℕ → LP
listed P rows cols = record { rows = rows; cols = cols; constant = P.constant; rhs = P.rhs; col = P.col }

-- rows and cols are those of P that are in
pub record Spare (P : LP) (row? col? : ℕ → Bool) (rows cols : List ℕ) : Type 0 where
  pub rows_in : Numbering row? (λ s. s) P.rows rows
  pub cols_in : Numbering col? (λ c. c) P.cols cols
  pub gone_col : (c : ℕ) → Memᴰ c P.cols → ¬ (T (col? c)) → Gone (P.col c)
  pub gone_row : (c s : ℕ) → Memᴰ c P.cols → Memᴰ s P.rows → ¬ (T (row? s)) → (P.col c).coef s ≡ 𝟘
  pub gone_rhs : (s : ℕ) → Memᴰ s P.rows → ¬ (T (row? s)) → P.rhs s ≡ 𝟘

still : {kept : ℕ → Bool} {l m : List ℕ} → Numbering kept (λ k. k) l m → (k : ℕ) → Memᴰ k m → Memᴰ k l
still {kept} {l} r k i = let v : Survivor kept (λ k. k) l k = survivor r k i in subst (λ t. Memᴰ t l) (sym v.number) v.listed

module _ {P : LP} {row? col? : ℕ → Bool} {rows cols : List ℕ} (S : Spare P row? col? rows cols) where
  same-brings : (x : ℕ → ℚ) (s : ℕ) → brings (listed P rows cols) x s ≡ brings P x s
  unfolding brings
  same-brings x s = sym (sum-numbered S.cols_in (λ c. (P.col c).coef s *ℚ x c) (λ c. (P.col c).coef s *ℚ x c) (λ c m k. refl) (λ c m n. zero-times ((P.col c).coef s) (x c) ((S.gone_col c m n).coef_0 s)))

  same_total : (x : ℕ → ℚ) → total (listed P rows cols) x ≡ total P x
  unfolding total
  same_total x = sym (sum-numbered S.cols_in (λ c. (P.col c).cost *ℚ x c) (λ c. (P.col c).cost *ℚ x c) (λ c m k. refl) (λ c m n. zero-times (P.col c).cost (x c) (S.gone_col c m n).cost_0))

  same-worth : (p : ℕ → ℚ) (c : ℕ) → Memᴰ c P.cols → worth rows (P.col c) p ≡ worth P.rows (P.col c) p
  unfolding worth
  same-worth p c m = sym (sum-numbered S.rows_in (λ s. (P.col c).coef s *ℚ p s) (λ s. (P.col c).coef s *ℚ p s) (λ s i k. refl) (λ s i n. zero-times ((P.col c).coef s) (p s) (S.gone_row c s m i n)))

  -- on: flow 0 at the spare places
  module _ (x : ℕ → ℚ) (f : Feasible (listed P rows cols) x) where
    cut : ℕ → ℚ
    cut c = cond (col? c) (x c) 𝟘

    cut_in : (c : ℕ) → T (col? c) → cut c ≡ x c
    unfolding cut
    cut_in c k = cond_yes (col? c) (x c) 𝟘 k

    cut_out : (c : ℕ) → ¬ (T (col? c)) → cut c ≡ 𝟘
    unfolding cut
    cut_out c n = cond_no (col? c) (x c) 𝟘 n

    balance : (s : ℕ) → Memᴰ s P.rows → brings P cut s ≡ P.rhs s
    unfolding brings
    balance s m = go (kept-dec (row? s))
      where
        go : Dec (T (row? s)) → brings P cut s ≡ P.rhs s
        go (yes k) = sum-numbered S.cols_in (λ c. (P.col c).coef s *ℚ cut c) (λ c. (P.col c).coef s *ℚ x c) (λ c i k. ap (λ t. (P.col c).coef s *ℚ t) (cut_in c k)) (λ c i n. zero-times ((P.col c).coef s) (cut c) ((S.gone_col c i n).coef_0 s))
            ∙ f.balance s (mem-numbered S.rows_in s m k)
        go (no n) = sum_congr P.cols (λ c. (P.col c).coef s *ℚ cut c) (λ c. 𝟘) (λ c i. zero-times ((P.col c).coef s) (cut c) (S.gone_row c s i m n)) ∙ sum-zero P.cols ∙ sym (S.gone_rhs s m n)

    within : (c : ℕ) → Memᴰ c P.cols → InBounds (P.col c) (cut c)
    within c m = go (kept-dec (col? c))
      where
        go : Dec (T (col? c)) → InBounds (P.col c) (cut c)
        go (yes k) = subst (InBounds (P.col c)) (sym (cut_in c k)) (f.within c (mem-numbered S.cols_in c m k))
        go (no n) = subst (InBounds (P.col c)) (sym (cut_out c n)) (gone-within (P.col c) (S.gone_col c m n))

    with-spare : Feasible P cut
    with-spare = record { balance = balance; within = within }

  pub spare-sound : SoundStep (listed P rows cols) P (λ s. s)
  spare-sound = record {
    solved = λ s h. record {
      feasible = record { balance = λ r m. same-brings s.flow r ∙ h.feasible.balance r (still S.rows_in r m); within = λ c m. h.feasible.within c (still S.cols_in c m) };
      priced = λ c m. let i : Memᴰ c P.cols = still S.cols_in c m in rw (same-worth s.price c i) (h.priced c i);
    };
    same_value = λ s. ap (λ t. P.constant +ℚ t) (same_total s.flow);
    keeps_flow = λ x f. (cut x f, with-spare x f);
  }
