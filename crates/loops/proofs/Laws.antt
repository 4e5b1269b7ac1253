-- A loop's invariant is a record of this file, and its four answers are one law each: where it begins, a turn, an early end, the end.
use mathlib.Core.Path.{◌≡◌, refl, sym, ap, ◌∙◌}
use mathlib.Core.List.{List, [], ◌∷◌, ◌++◌, append_assoc}
use Prim.Native.Nat.{ℕ, zero, suc, ◌+◌, ◌-◌, ◌≤◌, ◌<◌}
use mathlib.Core.Logic.{⊎_elim}
use native.Mathlib.Nat.{not-suc-le-zero, eq-or-lt_of_le, le_of_suc-le-suc}
use native.Mathlib.Numerals.{add-one}
use native.Mathlib.Omega.{arith}
use lib.ListN.{get_or-append, length, get_or, take, drop, set, replicate, length-append, length-set, length-drop, replicate-append-replicate, drop_of_length-le}
use lib.Seq.{get_or_at, drop-cons, set_at, take_all}
use borrow.Rule.Slice.PartMut.{mid_of, put_mid}
use mathlib.Core.List.{append-nil}
use Rattle.loops.specs.Loops.{build, written, upto, tally, count, all, any, scan}
use mathlib.Core.Bool.{Bool, true, false, ◌&&◌, and-false, ◌||◌, not, not-not}

module _ {A : Type 0} where
  -- one store behind what is written
  pub stored : (p d : List A) (n : ℕ) (a : A) → length p ≡ n → n < length d → set (p ++ drop n d) n a ≡ (p ++ (a ∷ [])) ++ drop (n + 1) d
  stored p d n a e h = rw (add-one, drop-cons d n a, set_at p _ _ a n e, append_assoc) refl

  pub length-build : (n : ℕ) (f : ℕ → A) → length (build n f) ≡ n
  unfolding build
  length-build zero f = refl
  length-build (suc n) f = rw (length-append, length-build n f) (omega arith)

  pub build-more : (d : List A) (f : ℕ → A) (n : ℕ) → n < length d → set (build n f ++ drop n d) n (f n) ≡ build (n + 1) f ++ drop (n + 1) d
  unfolding build
  build-more d f n h = stored (build n f) d n (f n) (length-build n f) h ∙ rw add-one refl

  pub build-same : (n : ℕ) (f g : ℕ → A) → ((i : ℕ) → i < n → f i ≡ g i) → build n f ≡ build n g
  unfolding build
  build-same zero f g h = refl
  build-same (suc n) f g h = rw (build-same n f g (λ i l. h i (omega (arith, add-one n))), h n (omega (arith, add-one n)))

  pub get_or-build : (n : ℕ) (f : ℕ → A) (d : A) (i : ℕ) → i < n → get_or (build n f) i d ≡ f i
  unfolding build
  get_or-build zero f d i h = absurd (not-suc-le-zero h)
  get_or-build (suc n) f d i h =
      ⊎_elim
      (λ (e : i ≡ n). rw e (get_or_at (build n f) (f n) [] d n (length-build n f)))
      (λ (l : i < n). get_or-append (build n f) (f n ∷ []) d i (rw (length-build n f) l) ∙ get_or-build n f d i l)
      (eq-or-lt_of_le (le_of_suc-le-suc h))

  pub build-all : (d : List A) (f : ℕ → A) (n : ℕ) → length d ≤ n → build n f ++ drop n d ≡ build n f
  build-all d f n h = rw (drop_of_length-le d h, append-nil) refl

  pub build-const : (n : ℕ) (a : A) → build n (λ _. a) ≡ replicate n a
  unfolding build
  build-const zero a = refl
  build-const (suc n) a = rw (build-const n a, replicate-append-replicate n 1 a, add-one) refl

  -- a loop that writes f i at i, from 0 up to n. `Filled f n d s i`: at its head, where d is what stood there
  pub record Filled (f : ℕ → A) (n : ℕ) (d s : List A) (i : ℕ) : Type 0 where
    pub upto : i ≤ n
    pub long : length s ≡ length d
    pub is : s ≡ written i f d

  pub filled_none : (f : ℕ → A) (n : ℕ) (d : List A) → Filled f n d d 0
  unfolding build written
  filled_none f n d = record { upto = omega arith; long = refl; is = refl }

  -- v is what the turn stores: f i, as the code has it
  pub filled_more : {f : ℕ → A} {n : ℕ} {d s : List A} {i : ℕ} {v : A} → Filled f n d s i → i < n → n ≤ length d → v ≡ f i → Filled f n d (set s i v) (i + 1)
  unfolding written
  filled_more {f} {n} {d} {s} {i} {v} h l b e =
      let t : i < length d = omega arith in
      record { upto = omega arith; long = length-set s i v ∙ h.long; is = rw (h.is, e) (build-more d f i t) }

  pub filled-all : {f : ℕ → A} {n : ℕ} {d s : List A} {i : ℕ} → Filled f n d s i → n ≤ i → s ≡ written n f d
  filled-all {f} {n} {d} {s} {i} h l = let e : i ≡ n = omega arith in h.is ∙ rw e refl

  pub filled-whole : {f : ℕ → A} {n : ℕ} {d s : List A} {i : ℕ} → Filled f n d s i → n ≤ i → length d ≤ n → s ≡ build n f
  unfolding written
  filled-whole h l b = filled-all h l ∙ build-all _ _ _ b

  -- the part `&mut xs[a..]`, lent and come back
  pub part_in : (a : ℕ) (xs : List A) → mid_of a (length xs - a) xs ≡ drop a xs
  part_in a xs = take_all (length xs - a) (drop a xs) (rw length-drop (omega arith))

  pub part-back : (a : ℕ) (xs ys : List A) → put_mid a (length xs - a) xs ys ≡ take a xs ++ ys
  part-back a xs ys = rw (drop_of_length-le (drop a xs) {i = length xs - a} (rw length-drop (omega arith)), append-nil) refl

  pub part-long : (a : ℕ) (xs : List A) → length (mid_of a (length xs - a) xs) ≡ length xs - a
  part-long a xs = ap length (part_in a xs) ∙ length-drop a xs

  front-two : (v w : A) (d : List A) → 2 ≤ length d → take 2 (set (set d 0 v) 1 w) ≡ v ∷ w ∷ []
  front-two v w [] h = absurd (not-suc-le-zero h)
  front-two v w (x ∷ []) h = absurd (not-suc-le-zero (le_of_suc-le-suc h))
  front-two v w (x ∷ y ∷ d) h = refl

  -- two words, and the rest lent
  pub part-sized : (v w : A) (d : List A) {L D Q : List A} → L ≡ set (set d 0 v) 1 w → D ≡ Q → 2 ≤ length d → put_mid 2 (length L - 2) L D ≡ v ∷ w ∷ Q
  part-sized v w d {L} {D} {Q} l e h = part-back 2 L D ∙ rw (l, e) (ap (λ (t : List A). t ++ Q) (front-two v w d h))

-- ---- a loop that counts the numbers below m that pass p: at its head, with n of those below j
pub record Counted (p : ℕ → Bool) (m j n : ℕ) : Type 0 where
  pub upto : j ≤ m
  pub small : n ≤ j
  pub is : n ≡ count p j

pub counted_none : (p : ℕ → Bool) (m : ℕ) → Counted p m 0 0
unfolding count
counted_none p m = record { upto = omega arith; small = omega arith; is = refl }

pub counted-yes : {p : ℕ → Bool} {m j n n' : ℕ} → Counted p m j n → j < m → p j ≡ true → n' ≡ n + 1 → Counted p m (j + 1) n'
unfolding count
counted-yes {p} {m} {j} {n} h l t e = record { upto = omega arith; small = omega arith; is = rw (e, add-one j, t, h.is) refl }

pub counted-no : {p : ℕ → Bool} {m j n n' : ℕ} → Counted p m j n → j < m → p j ≡ false → n' ≡ n → Counted p m (j + 1) n'
unfolding count
counted-no {p} {m} {j} {n} h l t e = record { upto = omega arith; small = omega arith; is = rw (e, add-one j, t, h.is) refl }

-- ---- a loop that asks p of 0, .., n - 1, and stops at the first that fails: at its head, with all below i passed
pub record Passed (p : ℕ → Bool) (n i : ℕ) : Type 0 where
  pub upto : i ≤ n
  pub is : all p i ≡ true

pub passed_none : (p : ℕ → Bool) (n : ℕ) → Passed p n 0
unfolding all
passed_none p n = record { upto = omega arith; is = refl }

pub passed-more : {p : ℕ → Bool} {n i : ℕ} → Passed p n i → i < n → p i ≡ true → Passed p n (i + 1)
unfolding all
passed-more {p} {n} {i} h l t = record { upto = omega arith; is = rw (add-one i, h.is, t) refl }

pub passed-all : {p : ℕ → Bool} {n i : ℕ} → Passed p n i → n ≤ i → true ≡ all p n
passed-all {p} {n} {i} h l = let e : i ≡ n = omega arith in sym (rw e at h.is)

-- what all pass, each passes
pub all-each : (p : ℕ → Bool) (n : ℕ) → all p n ≡ true → (i : ℕ) → i < n → p i ≡ true
unfolding all
all-each p zero e i h = absurd (not-suc-le-zero h)
all-each p (suc n) e i h =
    let b = both (all p n) (p n) e in
    ⊎_elim (λ (q : i ≡ n). rw q b.1) (λ (l : i < n). all-each p n b.0 i l) (eq-or-lt_of_le (le_of_suc-le-suc h))
  where
    both : (s t : Bool) → (s && t) ≡ true → (s ≡ true) × (t ≡ true)
    both true t e = (refl, e)
    both false t e = cc

all-fails : (p : ℕ → Bool) (i k : ℕ) → p i ≡ false → all p (k + suc i) ≡ false
unfolding all
all-fails p i zero t = let e : 0 + suc i ≡ suc i = omega arith in rw (e, t, and-false) refl
all-fails p i (suc k) t = let e : suc k + suc i ≡ suc (k + suc i) = omega (arith, add-one k, add-one (k + suc i)) in rw (e, all-fails p i k t) refl

-- what each passes, all pass
pub each_all : (p : ℕ → Bool) (n : ℕ) → ((i : ℕ) → i < n → p i ≡ true) → all p n ≡ true
unfolding all
each_all p zero h = refl
each_all p (suc n) h = rw (each_all p n (λ i l. h i (omega (arith, add-one n)))) (h n (omega (arith, add-one n)))

pub passed-fails : {p : ℕ → Bool} {n i : ℕ} → Passed p n i → i < n → p i ≡ false → false ≡ all p n
passed-fails {p} {n} {i} h l t =
    let e : n - suc i + suc i ≡ n = omega (arith, add-one i) in
    sym (rw e at (all-fails p i (n - suc i) t))

-- ---- a loop that asks p of 0, .., n - 1, and stops at the first that passes: at its head, with none below i passed
pub record Missed (p : ℕ → Bool) (n i : ℕ) : Type 0 where
  pub fails : Passed (λ k. not (p k)) n i

any-all : (p : ℕ → Bool) (n : ℕ) → any p n ≡ not (all (λ k. not (p k)) n)
unfolding any all
any-all p zero = refl
any-all p (suc n) = rw (any-all p n) (by (all (λ k. not (p k)) n))
  where
    by : (b : Bool) → (not b || p n) ≡ not (b && not (p n))
    by true = sym (not-not (p n))
    by false = refl

-- what some pass, one of them passes
pub any_some : (p : ℕ → Bool) (n : ℕ) → any p n ≡ true → (i : ℕ) × (i < n) × (p i ≡ true)
unfolding any
any_some p zero e = cc
any_some p (suc n) e = by (any p n) (any_some p n) e
  where
    by : (b : Bool) → (b ≡ true → (i : ℕ) × (i < n) × (p i ≡ true)) → (b || p n) ≡ true → (i : ℕ) × (i < suc n) × (p i ≡ true)
    by true f e = let w = f refl in (w.0, omega (arith, add-one n, w.1), w.2)
    by false f e = (n, omega (arith, add-one n), e)

pub missed-none : (p : ℕ → Bool) (n : ℕ) → Missed p n 0
missed-none p n = record { fails = passed_none _ n }

pub missed_more : {p : ℕ → Bool} {n i : ℕ} → Missed p n i → i < n → p i ≡ false → Missed p n (i + 1)
missed_more h l t = record { fails = passed-more h.fails l (rw t refl) }

pub missed-found : {p : ℕ → Bool} {n i : ℕ} → Missed p n i → i < n → p i ≡ true → true ≡ any p n
missed-found {p} {n} h l t = rw (any-all p n, ← passed-fails h.fails l (rw t refl)) refl

pub missed-all : {p : ℕ → Bool} {n i : ℕ} → Missed p n i → n ≤ i → false ≡ any p n
missed-all {p} {n} h l = rw (any-all p n, ← passed-all h.fails l) refl

-- ---- a loop that asks f at lo, lo + 1, .., k places, and stops at the first answer: at its head, with none below i
module _ {A : Type 0} (alt : A → (ℕ → A) → ℕ → A) (nil : A) where
  pub record Scanned (f : ℕ → A) (k lo i : ℕ) : Type 0 where
    pub from : lo ≤ i
    pub upto : i ≤ lo + k
    pub is : scan alt nil f k lo ≡ scan alt nil f (lo + k - i) i

  pub scanned-none : (f : ℕ → A) (k lo : ℕ) → Scanned f k lo lo
  scanned-none f k lo = let e : lo + k - lo ≡ k = omega arith in record { from = omega arith; upto = omega arith; is = rw e refl }

  scan-at : (f : ℕ → A) (k lo i : ℕ) → i < lo + k → scan alt nil f (lo + k - i) i ≡ alt (f i) (scan alt nil f (lo + k - (i + 1))) (i + 1)
  unfolding scan
  scan-at f k lo i h =
      let e : lo + k - i ≡ suc (lo + k - (i + 1)) = omega (arith, add-one (lo + k - (i + 1))) in
      rw (e, add-one i) refl

  -- t is the answer at i, as the code has it
  pub scanned-more : {f : ℕ → A} {k lo i : ℕ} {t : A} → Scanned f k lo i → i < lo + k → t ≡ f i → ((g : ℕ → A) (j : ℕ) → alt t g j ≡ g j) → Scanned f k lo (i + 1)
  scanned-more {f} {k} {lo} {i} {t} h l e past = record { from = omega arith; upto = omega arith; is = h.is ∙ scan-at f k lo i l ∙ rw (← e) (past _ _) }

  pub scanned-found : {f : ℕ → A} {k lo i : ℕ} {t : A} → Scanned f k lo i → i < lo + k → t ≡ f i → ((g : ℕ → A) (j : ℕ) → alt t g j ≡ t) → t ≡ scan alt nil f k lo
  scanned-found {f} {k} {lo} {i} {t} h l e stop = sym (h.is ∙ scan-at f k lo i l ∙ rw (← e) (stop _ _))

  pub scanned-all : {f : ℕ → A} {k lo i : ℕ} → Scanned f k lo i → lo + k ≤ i → nil ≡ scan alt nil f k lo
  unfolding scan
  scanned-all {f} {k} {lo} {i} h l = let e : lo + k - i ≡ 0 = omega arith in sym (h.is ∙ rw e refl)

-- what holds of each place's answer, and of none, holds of what a scan finds
pub scan-each : {A : Type 0} (alt : A → (ℕ → A) → ℕ → A) (nil : A) (P : A → Type 0) → P nil → ((a : A) (g : ℕ → A) (j : ℕ) → P a → P (g j) → P (alt a g j)) → (f : ℕ → A) (k lo : ℕ) → ((i : ℕ) → lo ≤ i → i < lo + k → P (f i)) → P (scan alt nil f k lo)
unfolding scan
scan-each alt nil P zip both f zero lo each = zip
scan-each alt nil P zip both f (suc k) lo each =
    both _ _ _ (each lo (omega arith) (omega (arith, add-one k))) (scan-each alt nil P zip both f k (suc lo) (λ i g h. each i (omega (arith, add-one lo)) (omega (arith, add-one k, add-one lo))))

-- two tests: where the second passes the first does, and at k only the first
pub count_same : (p q : ℕ → Bool) (n : ℕ) → ((i : ℕ) → i < n → q i ≡ p i) → count q n ≡ count p n
unfolding count
count_same p q zero h = refl
count_same p q (suc n) h = rw (h n (omega (arith, add-one n)), count_same p q n (λ i l. h i (omega (arith, add-one n))))

pub count-mono : (p q : ℕ → Bool) (n : ℕ) → ((i : ℕ) → q i ≡ true → p i ≡ true) → count q n ≤ count p n
unfolding count
count-mono p q zero h = omega arith
count-mono p q (suc n) h = by (q n) (p n) (h n) (count-mono p q n h)
  where
    by : (b a : Bool) → (b ≡ true → a ≡ true) → count q n ≤ count p n → tally b (count q n) ≤ tally a (count p n)
    by true true f c = omega arith
    by true false f c = let e = f refl in cc
    by false true f c = omega arith
    by false false f c = c

pub count_under : (p q : ℕ → Bool) (n k : ℕ) → k < n → p k ≡ true → q k ≡ false → ((i : ℕ) → q i ≡ true → p i ≡ true) → count q n < count p n
unfolding count
count_under p q zero k l t f h = absurd (not-suc-le-zero l)
count_under p q (suc n) k l t f h =
    ⊎_elim
    (λ (e : k ≡ n). let c = count-mono p q n h in rw (← e) (rw (t, f) (rw e (omega arith))))
    (λ (m : k < n). by (q n) (p n) (h n) (count_under p q n k m t f h))
    (eq-or-lt_of_le (le_of_suc-le-suc l))
  where
    by : (b a : Bool) → (b ≡ true → a ≡ true) → count q n < count p n → tally b (count q n) < tally a (count p n)
    by true true f c = omega arith
    by true false f c = let e = f refl in cc
    by false true f c = omega arith
    by false false f c = c

pub count-some : (p : ℕ → Bool) (n k : ℕ) → k < n → p k ≡ true → 1 ≤ count p n
count-some p n k l t = omega (arith, count_under p (λ _. false) n k l t refl (λ i e. cc))

-- a test that 0 does not pass, asked of the numbers from 1
pub count-shift : (p : ℕ → Bool) (n : ℕ) → p 0 ≡ false → count p (suc n) ≡ count (λ k. p (k + 1)) n
unfolding count
count-shift p zero h = rw h
count-shift p (suc n) h = rw (count-shift p n h, add-one n)

pub count-le : (p : ℕ → Bool) (n : ℕ) → count p n ≤ n
unfolding count
count-le p zero = omega arith
count-le p (suc n) = by (p n) (count-le p n)
  where
    by : (b : Bool) → count p n ≤ n → tally b (count p n) ≤ suc n
    by true c = omega (arith, add-one n)
    by false c = omega (arith, add-one n)

-- a test that 0 does not pass
pub count-but-first : (p : ℕ → Bool) (n : ℕ) → p 0 ≡ false → count p (suc n) ≤ n
count-but-first p n h = rw (count-shift p n h) (count-le (λ k. p (k + 1)) n)

-- ---- a loop that takes a state on, one number a turn: at its head, after the numbers below i
module _ {S : Type 0} (f : ℕ → S → S) where
  pub record Folded (n : ℕ) (s₀ : S) (i : ℕ) (s : S) : Type 0 where
    pub below : i ≤ n
    pub is : s ≡ upto f i s₀

  pub folded-none : (n : ℕ) (s : S) → Folded n s 0 s
  unfolding upto
  folded-none n s = record { below = omega arith; is = refl }

  pub folded_more : {n : ℕ} {s₀ : S} {i : ℕ} {s t : S} → Folded n s₀ i s → i < n → t ≡ f i s → Folded n s₀ (i + 1) t
  unfolding upto
  folded_more {i = i} h l e = record { below = omega arith; is = e ∙ rw (add-one i, h.is) refl }

  pub folded-all : {n : ℕ} {s₀ : S} {i : ℕ} {s : S} → Folded n s₀ i s → n ≤ i → s ≡ upto f n s₀
  folded-all {n} {s₀} {i} h l = let e : i ≡ n = omega arith in h.is ∙ rw e refl

-- ---- what each turn keeps, all of them keep
pub upto-keeps : {S : Type 0} (P : S → Type 0) (f : ℕ → S → S) → ((i : ℕ) (s : S) → P s → P (f i s)) → (n : ℕ) (s : S) → P s → P (upto f n s)
unfolding upto
upto-keeps P f keep zero s h = h
upto-keeps P f keep (suc n) s h = keep n _ (upto-keeps P f keep n s h)
