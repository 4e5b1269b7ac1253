-- Survivors are numbered anew, in order: a compact program against the working one, in which what is taken out keeps its place.
-- Also the other way round: a working program with one more place, for a column that a rule adds.
use mathlib.Core.Path.{◌≡◌, refl, sym, ◌∙◌, ap, ap₂, subst}
use mathlib.Core.Logic.{◌⊎◌, inl, inr}
use mathlib.Core.List.Memᴰ
use mathlib.Core.List.{List, [], ◌∷◌, Memᴰ}
use mathlib.Core.Bool.{Bool, true, false, cond}
use mathlib.Core.Option.{some}
use Prim.Native.Nat.{ℕ, zero, suc, ◌<◌}
use native.Mathlib.Decide.{ℕ_discrete}
use native.Mathlib.Omega.{arith}
use lib.Dec.{T}
use Rattle.algebra.proofs.Solver.{◌:+◌, ◌:*◌, :0, ◌:=◌, ring1}
use Rattle.algebra.specs.Rat.{ℚ, ◌+ℚ◌, ◌*ℚ◌, 0_ℚ as 𝟘}
use Rattle.algebra.proofs.Rat.{ℚ-ring}
use Rattle.algebra.specs.Sum.{sum, range}
use Rattle.algebra.proofs.Sum.{sum_congr, sum-zero}
use Rattle.presolve.proofs.Bounds.{fits-closed}
use Rattle.presolve.specs.LP.{LP, Pair, Feasible, Solved, InBounds, PriceRule, worth, reduced, brings, total, value}
use Rattle.presolve.proofs.Removed.{Gone, gone-within}
use Rattle.presolve.proofs.Step.{SoundStep}

pub kept-dec : (b : Bool) → Dec (T b)
kept-dec true = yes tt
kept-dec false = no (λ h. h)

pub cond_yes : (b : Bool) (u v : ℚ) → T b → cond b u v ≡ u
cond_yes true u v t = refl
cond_yes false u v t = absurd t

pub cond_no : (b : Bool) (u v : ℚ) → ¬ (T b) → cond b u v ≡ v
cond_no true u v t = absurd (t tt)
cond_no false u v t = refl

pub zero-times : (a b : ℚ) → a ≡ 𝟘 → a *ℚ b ≡ 𝟘
zero-times a b e = ap (λ t. t *ℚ b) e ∙ ring1 ℚ-ring b (λ b. :0 :* b := :0) refl

-- the second list holds the new numbers of what is kept of the first
pub data Numbering (kept : ℕ → Bool) (rank : ℕ → ℕ) : List ℕ → List ℕ → Type 0 where
  end : Numbering kept rank [] []
  drop : {c : ℕ} {l m : List ℕ} → ¬ (T (kept c)) → Numbering kept rank l m → Numbering kept rank (c ∷ l) m
  keep : {c : ℕ} {l m : List ℕ} → T (kept c) → Numbering kept rank l m → Numbering kept rank (c ∷ l) (rank c ∷ m)

module _ {kept : ℕ → Bool} {rank : ℕ → ℕ} where
  pub sum-numbered : {l m : List ℕ} → Numbering kept rank l m → (f g : ℕ → ℚ) → ((c : ℕ) → Memᴰ c l → T (kept c) → f c ≡ g (rank c)) → ((c : ℕ) → Memᴰ c l → ¬ (T (kept c)) → f c ≡ 𝟘) → sum l f ≡ sum m g
  sum-numbered end f g h z = refl
  sum-numbered (drop {c} {l} {m} n r) f g h z = ap₂ ◌+ℚ◌ (z c (Memᴰ.head refl) n) (sum-numbered r f g (λ c i. h c (Memᴰ.tail i)) (λ c i. z c (Memᴰ.tail i))) ∙ ring1 ℚ-ring (sum m g) (λ s. :0 :+ s := s) refl
  sum-numbered (keep {c} k r) f g h z = ap₂ ◌+ℚ◌ (h c (Memᴰ.head refl) k) (sum-numbered r f g (λ c i. h c (Memᴰ.tail i)) (λ c i. z c (Memᴰ.tail i)))

  pub mem-numbered : {l m : List ℕ} → Numbering kept rank l m → (c : ℕ) → Memᴰ c l → T (kept c) → Memᴰ (rank c) m
  mem-numbered end c i k = absurd (Memᴰ.not-nil i)
  mem-numbered (drop {c = d} {l} {m} n r) c i k = go (Memᴰ.cases_cons i) (λ j. mem-numbered r c j k)
    where
      go : (c ≡ d) ⊎ Memᴰ c l → (Memᴰ c l → Memᴰ (rank c) m) → Memᴰ (rank c) m
      go (inl e) f = absurd (n (subst (λ t. T (kept t)) e k))
      go (inr j) f = f j
  mem-numbered (keep {c = d} {l} {m} q r) c i k = go (Memᴰ.cases_cons i) (λ j. mem-numbered r c j k)
    where
      go : (c ≡ d) ⊎ Memᴰ c l → (Memᴰ c l → Memᴰ (rank c) m) → Memᴰ (rank c) (rank d ∷ m)
      go (inl e) f = Memᴰ.head (ap rank e)
      go (inr j) f = Memᴰ.tail (f j)

-- each new number is that of a survivor
pub record Survivor (kept : ℕ → Bool) (rank : ℕ → ℕ) (l : List ℕ) (k : ℕ) : Type 0 where
  pub old : ℕ
  pub listed : Memᴰ old l
  pub is_kept : T (kept old)
  pub number : k ≡ rank old

pub survivor : {kept : ℕ → Bool} {rank : ℕ → ℕ} {l m : List ℕ} → Numbering kept rank l m → (k : ℕ) → Memᴰ k m → Survivor kept rank l k
survivor end k i = absurd (Memᴰ.not-nil i)
survivor {kept} {rank} (drop {c} {l} n r) k i = let s : Survivor kept rank l k = survivor r k i in record { old = s.old; listed = Memᴰ.tail s.listed; is_kept = s.is_kept; number = s.number }
survivor {kept} {rank} (keep {c} {l} {m} q r) k i = go (Memᴰ.cases_cons i) (λ j. survivor r k j)
  where
    go : (k ≡ rank c) ⊎ Memᴰ k m → (Memᴰ k m → Survivor kept rank l k) → Survivor kept rank (c ∷ l) k
    go (inl e) f = record { old = c; listed = Memᴰ.head refl; is_kept = q; number = e }
    go (inr j) f = let s : Survivor kept rank l k = f j in record { old = s.old; listed = Memᴰ.tail s.listed; is_kept = s.is_kept; number = s.number }

-- C is N with its survivors alone
pub record Renumbered (N C : LP) (row? col? : ℕ → Bool) (row# col# : ℕ → ℕ) : Type 0 where
  pub rows : Numbering row? row# N.rows C.rows
  pub cols : Numbering col? col# N.cols C.cols
  pub origin : ℕ → ℕ  -- a column's old number
  pub origin_is : (c : ℕ) → Memᴰ c N.cols → T (col? c) → origin (col# c) ≡ c
  pub coef_is : (c s : ℕ) → Memᴰ c N.cols → T (col? c) → Memᴰ s N.rows → T (row? s) → (N.col c).coef s ≡ (C.col (col# c)).coef (row# s)
  pub cost_is : (c : ℕ) → Memᴰ c N.cols → T (col? c) → (N.col c).cost ≡ (C.col (col# c)).cost
  pub lower_is : (c : ℕ) → Memᴰ c N.cols → T (col? c) → (N.col c).lower ≡ (C.col (col# c)).lower
  pub upper_is : (c : ℕ) → Memᴰ c N.cols → T (col? c) → (N.col c).upper ≡ (C.col (col# c)).upper
  pub rhs_is : (s : ℕ) → Memᴰ s N.rows → T (row? s) → N.rhs s ≡ C.rhs (row# s)
  pub constant_is : N.constant ≡ C.constant
  -- what is not kept is out
  pub gone_col : (c : ℕ) → Memᴰ c N.cols → ¬ (T (col? c)) → Gone (N.col c)
  pub gone_row : (c s : ℕ) → Memᴰ c N.cols → Memᴰ s N.rows → ¬ (T (row? s)) → (N.col c).coef s ≡ 𝟘
  pub gone_rhs : (s : ℕ) → Memᴰ s N.rows → ¬ (T (row? s)) → N.rhs s ≡ 𝟘

-- postsolve: flow 0 at what is out, and any prices z there
abbrev pub renumber-back : (row? col? : ℕ → Bool) (row# col# : ℕ → ℕ) → (ℕ → ℚ) → Pair → Pair
renumber-back row? col? row# col# z s = record { flow = λ c. cond (col? c) (s.flow (col# c)) 𝟘; price = λ i. cond (row? i) (s.price (row# i)) (z i) }

module _ {N C : LP} {row? col? : ℕ → Bool} {row# col# : ℕ → ℕ} (R : Renumbered N C row? col? row# col#) where
  module _ (z : ℕ → ℚ) (s : Pair) where
    x : ℕ → ℚ
    x c = cond (col? c) (s.flow (col# c)) 𝟘

    p : ℕ → ℚ
    p i = cond (row? i) (s.price (row# i)) (z i)

    x-kept : (c : ℕ) → T (col? c) → x c ≡ s.flow (col# c)
    unfolding x
    x-kept c k = cond_yes (col? c) (s.flow (col# c)) 𝟘 k

    x-gone : (c : ℕ) → ¬ (T (col? c)) → x c ≡ 𝟘
    unfolding x
    x-gone c n = cond_no (col? c) (s.flow (col# c)) 𝟘 n

    p-kept : (i : ℕ) → T (row? i) → p i ≡ s.price (row# i)
    unfolding p
    p-kept i k = cond_yes (row? i) (s.price (row# i)) (z i) k

    total-same : value N x ≡ value C s.flow
    unfolding total
    total-same = ap₂ ◌+ℚ◌ R.constant_is (sum-numbered R.cols (λ c. (N.col c).cost *ℚ x c) (λ c. (C.col c).cost *ℚ s.flow c) (λ c m k. ap₂ ◌*ℚ◌ (R.cost_is c m k) (x-kept c k)) (λ c m n. zero-times (N.col c).cost (x c) (R.gone_col c m n).cost_0))

    balance : Feasible C s.flow → (i : ℕ) → Memᴰ i N.rows → brings N x i ≡ N.rhs i
    unfolding brings
    balance f i m = go (kept-dec (row? i))
      where
        go : Dec (T (row? i)) → brings N x i ≡ N.rhs i
        go (yes k) = sum-numbered R.cols (λ c. (N.col c).coef i *ℚ x c) (λ c. (C.col c).coef (row# i) *ℚ s.flow c) (λ c mc kc. ap₂ ◌*ℚ◌ (R.coef_is c i mc kc m k) (x-kept c kc)) (λ c mc n. zero-times ((N.col c).coef i) (x c) ((R.gone_col c mc n).coef_0 i))
            ∙ f.balance (row# i) (mem-numbered R.rows i m k) ∙ sym (R.rhs_is i m k)
        go (no n) = sum_congr N.cols (λ c. (N.col c).coef i *ℚ x c) (λ c. 𝟘) (λ c mc. zero-times ((N.col c).coef i) (x c) (R.gone_row c i mc m n)) ∙ sum-zero N.cols ∙ sym (R.gone_rhs i m n)

    within : Feasible C s.flow → (c : ℕ) → Memᴰ c N.cols → InBounds (N.col c) (x c)
    within f c m = go (kept-dec (col? c))
      where
        go : Dec (T (col? c)) → InBounds (N.col c) (x c)
        go (yes k) = rw (x-kept c k, R.lower_is c m k, R.upper_is c m k) (f.within (col# c) (mem-numbered R.cols c m k))
        go (no n) = subst (InBounds (N.col c)) (sym (x-gone c n)) (gone-within (N.col c) (R.gone_col c m n))

    worth-same : (c : ℕ) → Memᴰ c N.cols → T (col? c) → worth N.rows (N.col c) p ≡ worth C.rows (C.col (col# c)) s.price
    unfolding worth
    worth-same c m k = sum-numbered R.rows (λ i. (N.col c).coef i *ℚ p i) (λ i. (C.col (col# c)).coef i *ℚ s.price i) (λ i mi ki. ap₂ ◌*ℚ◌ (R.coef_is c i m k mi ki) (p-kept i ki)) (λ i mi n. zero-times ((N.col c).coef i) (p i) (R.gone_row c i m mi n))

    priced : Solved C s → (c : ℕ) → Memᴰ c N.cols → PriceRule N.rows (N.col c) (x c) p
    priced h c m = go (kept-dec (col? c))
      where
        go : Dec (T (col? c)) → PriceRule N.rows (N.col c) (x c) p
        go (yes k) = rw (worth-same c m k, x-kept c k, R.lower_is c m k, R.upper_is c m k, R.cost_is c m k) (h.priced (col# c) (mem-numbered R.cols c m k))
        go (no n) = fits-closed (N.col c).lower (N.col c).upper (x c) (reduced N.rows (N.col c) p) ((R.gone_col c m n).lower_0 ∙ ap some (sym (x-gone c n))) ((R.gone_col c m n).upper_0 ∙ ap some (sym (x-gone c n)))

  -- on: a survivor's flow under its new number
  compact : (y : ℕ → ℚ) → Feasible N y → Feasible C (λ k. y (R.origin k))
  unfolding brings
  compact y f = record { balance = λ i m. row i (survivor R.rows i m); within = λ k m. col k (survivor R.cols k m) }
    where
      row : (i : ℕ) → Survivor row? row# N.rows i → brings C (λ k. y (R.origin k)) i ≡ C.rhs i
      row i v = ap (brings C (λ k. y (R.origin k))) v.number
          ∙ sym (sum-numbered R.cols (λ c. (N.col c).coef v.old *ℚ y c) (λ c. (C.col c).coef (row# v.old) *ℚ y (R.origin c))
          (λ c m k. ap₂ ◌*ℚ◌ (R.coef_is c v.old m k v.listed v.is_kept) (ap y (sym (R.origin_is c m k)))) (λ c m n. zero-times ((N.col c).coef v.old) (y c) ((R.gone_col c m n).coef_0 v.old)))
          ∙ f.balance v.old v.listed ∙ R.rhs_is v.old v.listed v.is_kept ∙ ap C.rhs (sym v.number)

      col : (k : ℕ) → Survivor col? col# N.cols k → InBounds (C.col k) (y (R.origin k))
      col k v = subst (λ t. InBounds (C.col t) (y (R.origin t))) (sym v.number)
          (rw (← (R.lower_is v.old v.listed v.is_kept), ← (R.upper_is v.old v.listed v.is_kept), R.origin_is v.old v.listed v.is_kept) (f.within v.old v.listed))

  pub renumber-sound : (z : ℕ → ℚ) → SoundStep N C (renumber-back row? col? row# col# z)
  unfolding x p
  renumber-sound z = record {
    solved = λ s h. record { feasible = record { balance = balance z s h.feasible; within = within z s h.feasible }; priced = priced z s h };
    same_value = λ s. total-same z s;
    keeps_flow = λ y f. ((λ k. y (R.origin k)), compact y f);
  }

-- ---- the numbers below n: a survivor's new number is the count of survivors below it

unfoldable pub count : (ℕ → Bool) → ℕ → ℕ
count kept zero = zero
count kept (suc n) = cond (kept n) (suc (count kept n)) (count kept n)

pub count-keep : (kept : ℕ → Bool) (n : ℕ) → T (kept n) → count kept (suc n) ≡ suc (count kept n)
unfolding count
count-keep kept n k = go (kept n) k
  where
    go : (b : Bool) → T b → cond b (suc (count kept n)) (count kept n) ≡ suc (count kept n)
    go true t = refl
    go false t = absurd t

pub count-drop : (kept : ℕ → Bool) (n : ℕ) → ¬ (T (kept n)) → count kept (suc n) ≡ count kept n
unfolding count
count-drop kept n k = go (kept n) k
  where
    go : (b : Bool) → ¬ (T b) → cond b (suc (count kept n)) (count kept n) ≡ count kept n
    go true t = absurd (t tt)
    go false t = refl

pub range-numbering : (kept : ℕ → Bool) (n : ℕ) → Numbering kept (count kept) (range n) (range (count kept n))
unfolding range count
range-numbering kept zero = end
range-numbering kept (suc n) = go (kept-dec (kept n)) (range-numbering kept n)
  where
    go : Dec (T (kept n)) → Numbering kept (count kept) (range n) (range (count kept n)) → Numbering kept (count kept) (n ∷ range n) (range (count kept (suc n)))
    go (yes k) r = rw (count-keep kept n k) (keep k r)
    go (no d) r = rw (count-drop kept n d) (drop d r)

-- a survivor counts for those above it
count-above : (kept : ℕ → Bool) (c n : ℕ) → T (kept c) → c < n → count kept c < count kept n
count-above kept c zero k h = absurd (nothing h)
  where
    nothing : c < zero → ⊥
    nothing h = omega arith
count-above kept c (suc n) k h = go (ℕ_discrete c n) (kept-dec (kept n)) (λ g. count-above kept c n k g)
  where
    go : Dec (c ≡ n) → Dec (T (kept n)) → (c < n → count kept c < count kept n) → count kept c < count kept (suc n)
    go (yes e) (yes q) f = rw (count-keep kept n q) (subst (λ t. count kept t < suc (count kept n)) (sym e) (omega arith))
    go (yes e) (no q) f = absurd (q (subst (λ t. T (kept t)) e k))
    go (no d) (yes q) f = let g : count kept c < count kept n = f (omega arith) in rw (count-keep kept n q) (omega arith)
    go (no d) (no q) f = rw (count-drop kept n q) (f (omega arith))

pick_n : {A B : Type 0} → Dec A → Dec B → ℕ → ℕ → ℕ
pick_n (yes a) (yes b) u v = u
pick_n (yes a) (no b) u v = v
pick_n (no a) d u v = v

-- the survivor below n with the new number k
pub find : (ℕ → Bool) → ℕ → ℕ → ℕ
find kept zero k = zero
find kept (suc n) k = pick_n (kept-dec (kept n)) (ℕ_discrete (count kept n) k) n (find kept n k)

pub find-is : (kept : ℕ → Bool) (n c : ℕ) → c < n → T (kept c) → find kept n (count kept c) ≡ c
unfolding find pick_n
find-is kept zero c h k = absurd (nothing h)
  where
    nothing : c < zero → ⊥
    nothing h = omega arith
find-is kept (suc n) c h k = go (kept-dec (kept n)) (ℕ_discrete (count kept n) (count kept c)) (ℕ_discrete c n) (λ g. find-is kept n c g k)
  where
    go : (d : Dec (T (kept n))) (b : Dec (count kept n ≡ count kept c)) → Dec (c ≡ n) → (c < n → find kept n (count kept c) ≡ c) → pick_n d b n (find kept n (count kept c)) ≡ c
    go (yes q) (yes b) (yes e) f = sym e
    go (yes q) (yes b) (no d) f = let g : count kept c < count kept n = count-above kept c n k (omega arith) in absurd (clash b g)
      where
        clash : count kept n ≡ count kept c → count kept c < count kept n → ⊥
        clash b g = omega arith
    go (yes q) (no b) (yes e) f = absurd (b (ap (count kept) (sym e)))
    go (yes q) (no b) (no d) f = f (omega arith)
    go (no q) b (yes e) f = absurd (q (subst (λ t. T (kept t)) e k))
    go (no q) b (no d) f = f (omega arith)
