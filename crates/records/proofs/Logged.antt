-- The stack's record, read from a log that holds the steps.
use mathlib.Core.Path.{◌≡◌, refl, sym, ap, ap₂, ◌∙◌}
use mathlib.Core.Bool.{false, ◌&&◌, and-false}
use mathlib.Core.List.{List, [], ◌∷◌, ◌++◌, map}
use Prim.Native.Nat.{ℕ, zero, suc, ◌+◌, ◌-◌, ◌*◌, ◌≤◌, ◌<◌}
use native.Mathlib.Nat.{zero-add, suc-add, add-zero, add-suc}
use native.Mathlib.Numerals.{add-one}
use native.Mathlib.Omega.{arith}
use lib.IntN.{ℤ}
use lib.ListN.{length, drop}
use borrow.Author.Tests.{ne_eqb, le-leb, lt-leb}
use Rattle.std.specs.List.{enumerate_from, list_all}
use Rattle.integer.specs.Whole.{eq_z}
use Rattle.loops.specs.Loops.{build, written, zeros}
use Rattle.loops.proofs.Laws.{length-build, build-same}
use Rattle.fraction.specs.Words.{word_of}
use Rattle.step.specs.declared.Step.{Step}
use Rattle.step_log.specs.Log.{rule_in, place_in, Holds}
use Rattle.records.specs.Stack.{stack_record, stack_of, same_words}
use Rattle.records.specs.Logged.{stack_word, with_stack, is_stack_of}

-- ---- a list built from its head

build-head : {A : Type 0} (n : ℕ) (f : ℕ → A) → build (suc n) f ≡ f 0 ∷ build n (λ k. f (suc k))
unfolding build
build-head zero f = refl
build-head (suc n) f = ap (λ l. l ++ (f (suc n) ∷ [])) (build-head n f)

build-over : {A : Type 0} (n m : ℕ) (f : ℕ → A) → build (n + m) f ≡ build n f ++ build m (λ k. f (n + k))
unfolding build
build-over zero m f = ap (λ n. build n f) (zero-add m) ∙ build-same m f (λ k. f (0 + k)) (λ k l. ap f (sym (zero-add k)))
build-over (suc n) m f =
    ap (λ n. build n f) (suc-add n m)
    ∙ build-head (n + m) f
    ∙ ap (λ l. f 0 ∷ l) (build-over n m (λ k. f (suc k)) ∙ ap (λ l. build n (λ k. f (suc k)) ++ l) (build-same m _ _ (λ k l. ap f (sym (suc-add n k)))))
    ∙ sym (ap (λ l. l ++ build m (λ k. f (suc n + k))) (build-head n f))

-- ---- the words of the steps

module _ (log : List ℤ) (read : ℕ → ℕ) (field : Step → ℕ) (is : (k : ℕ) (s : Step) (steps : List Step) → Holds log k (s ∷ steps) → read k ≡ field s) where
  words-built : (i : ℕ) (steps : List Step) → Holds log i steps → build (length steps) (λ k. word_of (read (i + k))) ≡ map (λ s. word_of (field s)) steps
  unfolding Holds build
  words-built i [] h = refl
  words-built i (s ∷ steps) h =
      build-head (length steps) (λ k. word_of (read (i + k)))
      ∙ ap₂ ◌∷◌ (ap (λ j. word_of (read j)) (add-zero i) ∙ ap word_of (is i s steps h))
      (build-same (length steps) _ _ (λ k l. ap (λ j. word_of (read j)) (add-suc i k ∙ sym (suc-add i k))) ∙ words-built (suc i) steps h.1.1.1)

drop-zeros : (n k : ℕ) → drop n (zeros k) ≡ zeros (k - n)
drop-zeros zero k = let e : k ≡ k - 0 = omega arith in ap zeros e
drop-zeros (suc n) zero = let e : 0 ≡ 0 - suc n = omega (arith, add-one n) in ap zeros e
drop-zeros (suc n) (suc k) = let e : k - n ≡ suc k - suc n = omega (arith, add-one n, add-one k) in drop-zeros n k ∙ ap zeros e

module _ (log : List ℤ) (steps : List Step) (h : Holds log 0 steps) where
  abbrev s : ℕ
  s = length steps

  -- THE RECORD, word by word
  pub recorded : build (1 + 2 * s) (stack_word log s) ≡ stack_record steps
  unfolding stack_record stack_word Holds
  recorded =
      ap (λ n. build n (stack_word log s)) (omega (arith, add-one (s + s)))
      ∙ build-head (s + s) (stack_word log s)
      ∙ ap (λ l. word_of s ∷ l) (build-over s s (λ k. stack_word log s (suc k)) ∙ ap₂ ◌++◌ rules places)
    where
      rules : build s (λ k. stack_word log s (suc k)) ≡ map (λ (t : Step). word_of t.rule) steps
      rules = build-same s _ _ (λ k l. rule-at k l) ∙ words-built log (rule_in log) (λ t. t.rule) (λ k t ts h. h.0) 0 steps h
        where
          rule-at : (k : ℕ) → k < s → stack_word log s (suc k) ≡ word_of (rule_in log (0 + k))
          rule-at k l = rw (ne_eqb (suc k) 0 (λ q. omega (arith, add-one k)), le-leb (suc k) s (omega (arith, add-one k))) (ap (λ j. word_of (rule_in log j)) (omega (arith, add-one k)))

      places : build s (λ k. stack_word log s (suc (s + k))) ≡ map (λ (t : Step). word_of t.place) steps
      places = build-same s _ _ (λ k l. place_at k l) ∙ words-built log (place_in log) (λ t. t.place) (λ k t ts h. h.1.0) 0 steps h
        where
          place_at : (k : ℕ) → k < s → stack_word log s (suc (s + k)) ≡ word_of (place_in log (0 + k))
          place_at k l = rw (ne_eqb (suc (s + k)) 0 (λ q. omega (arith, add-one (s + k))), lt-leb (suc (s + k)) s (omega (arith, add-one (s + k)))) (ap (λ j. word_of (place_in log j)) (omega (arith, add-one (s + k))))

  record-long : length (stack_record steps) ≡ 1 + 2 * s
  record-long = ap length (sym recorded) ∙ length-build (1 + 2 * s) (stack_word log s)

  -- written over the first of a slice of zeros
  pub stack-written : (d : List ℤ) → d ≡ zeros (length d) → written (1 + 2 * s) (stack_word log s) d ≡ stack_of steps (length d)
  unfolding written stack_of
  stack-written d e = ap₂ ◌++◌ recorded (ap (drop (1 + 2 * s)) e ∙ drop-zeros (1 + 2 * s) (length d) ∙ ap (λ n. zeros (length d - n)) (sym record-long))

pub with-room : (log : List ℤ) (n : ℕ) (d : List ℤ) → n ≤ 128 → 257 ≤ length d → with_stack log n d ≡ written (1 + 2 * n) (stack_word log n) d
unfolding with_stack
with-room log n d h l = rw (le-leb _ _ h, le-leb _ _ l)

pub few-enough : (log : List ℤ) (n : ℕ) (zs : List ℤ) → n ≤ 128 → is_stack_of log n zs ≡ same_words zs (build (1 + 2 * n) (stack_word log n))
unfolding is_stack_of
few-enough log n zs h = rw (le-leb _ _ h)

-- ---- the same words as those of a list that is built

pub same-built : (zs : List ℤ) (a n : ℕ) (f g : ℕ → ℤ) → ((k : ℕ) → f (a + k) ≡ g k) → length zs ≡ n → list_all (λ (p : ℕ × ℤ). eq_z p.1 (f p.0)) (enumerate_from a zs) ≡ same_words zs (build n g)
unfolding same_words build
same-built [] a zero f g h e = refl
same-built [] a (suc n) f g h e = absurd (omega (arith, add-one n))
same-built (z ∷ zs) a zero f g h e = absurd (omega (arith, add-one (length zs)))
same-built (z ∷ zs) a (suc n) f g h e =
    let first : a + 0 ≡ a = omega arith in
    let next : (k : ℕ) → f (a + 1 + k) ≡ g (suc k) = λ k. let q : a + 1 + k ≡ a + suc k = omega (arith, add-one k) in rw q (h (suc k)) in
    ap₂ (λ v b. eq_z z v && b) (rw first at (h 0)) (same-built zs (a + 1) n f (λ k. g (suc k)) next (omega (arith, add-one n, add-one (length zs))))
    ∙ sym (ap (same_words (z ∷ zs)) (build-head n g))

pub same-long : (zs ys : List ℤ) → (length zs ≡ length ys → ⊥) → same_words zs ys ≡ false
unfolding same_words
same-long [] [] n = absurd (n refl)
same-long [] (y ∷ ys) n = refl
same-long (z ∷ zs) [] n = refl
same-long (z ∷ zs) (y ∷ ys) n = ap (λ b. eq_z z y && b) (same-long zs ys (λ e. n (ap suc e))) ∙ and-false (eq_z z y)
