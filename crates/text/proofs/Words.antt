-- A pass through a text, byte by byte, finds the words that its pieces are.
use mathlib.Core.Path.{◌≡◌, refl, sym, ap, ◌∙◌}
use mathlib.Core.List.{List, [], ◌∷◌, ◌++◌, append-nil, append_assoc}
use mathlib.Core.Bool.{Bool, true, false, cond, ◌&&◌}
use mathlib.Core.Option.{Option, some, none}
use mathlib.Core.Logic.{◌⊎◌, inl, inr}
use Prim.Native.Nat.{ℕ, suc, ◌+◌, ◌-◌, ◌*◌, ◌≤◌, ◌<◌}
use native.Mathlib.Numerals.{add-one}
use native.Mathlib.Omega.{arith}
use lib.ListN.{length, get_or, drop, replicate, length-append, drop_of_length-le}
use lib.Seq.{drop-cons}
use lib.Dec.{leb, eqb}
use lib.IntN.{ℤ, pos}
use borrow.Author.Tests.{le-leb, lt-leb, leb-true, leb-false, ne_eqb}
use Rattle.text.specs.Text.{separator, digit, onto, pieces, value_from, value_of, limit, with_sign, signed, both, words_in, words_of, answer, Read}
use Rattle.text.specs.Placed.{placed}
use Rattle.text.specs.Pass.{after_value, after_digit, after_minus, after_separator, after, ended_at, ended, Sound, Stored, closed, Passed}
use Rattle.text.proofs.Writing.{placed-append, placed-zeros}
use Rattle.std.specs.Prelude.{Option as Optional, Some, None}
use Rattle.text.specs.declared.State.{State}
use Rattle.text.specs.declared.State.TheVariants.{Between, Minus, Digits, Bad}

-- the first of some pieces, and those behind it
abbrev head_of : List (List ℕ) → List ℕ
head_of [] = []
head_of (p ∷ ps) = p

abbrev tail_of : List (List ℕ) → List (List ℕ)
tail_of [] = []
tail_of (p ∷ ps) = ps

onto-is : (b : ℕ) (ps : List (List ℕ)) → onto b ps ≡ (b ∷ head_of ps) ∷ tail_of ps
onto-is b [] = refl
onto-is b (p ∷ ps) = refl

-- the words that are still to end, in a state, with these pieces of the text left
abbrev words_from : State → List (List ℕ) → Option (List ℤ)
words_from Between ps = words_in ps
words_from Minus ps = both (signed true (value_of (head_of ps))) (words_in (tail_of ps))
words_from (Digits minus v) ps = both (signed minus (value_from v (head_of ps))) (words_in (tail_of ps))
words_from Bad ps = none

-- words that have ended, before others
abbrev joined : List ℤ → Option (List ℤ) → Option (List ℤ)
joined done none = none
joined done (some ws) = some (done ++ ws)

joined-none : (o : Option (List ℤ)) → o ≡ joined [] o
joined-none none = refl
joined-none (some ws) = refl

joined-one : (z : ℤ) (o : Option (List ℤ)) → both (some z) o ≡ joined (z ∷ []) o
joined-one z none = refl
joined-one z (some ws) = refl

joined-more : (xs ys : List ℤ) (o : Option (List ℤ)) → joined xs (joined ys o) ≡ joined (xs ++ ys) o
joined-more xs ys none = refl
joined-more xs ys (some ws) = rw (append_assoc xs ys ws) refl

-- a value beyond the limit stays beyond it
too_large : (minus : Bool) (v : ℕ) (p : List ℕ) → limit minus < v → signed minus (value_from v p) ≡ none
unfolding value_from
too_large minus v [] h = rw (lt-leb v (limit minus) h) refl
too_large minus v (b ∷ p) h = by (digit b) (too_large minus (v * 10 + (b - 48)) p (omega arith))
  where
    by : (t : Bool) → signed minus (value_from (v * 10 + (b - 48)) p) ≡ none → signed minus (cond t (value_from (v * 10 + (b - 48)) p) none) ≡ none
    by true e = e
    by false e = refl

at_value : (minus : Bool) (v : ℕ) (ps : List (List ℕ)) → both (signed minus (value_from v (head_of ps))) (words_in (tail_of ps)) ≡ words_from (after_value minus v) ps
at_value minus v ps = by (leb v (limit minus)) refl
  where
    by : (t : Bool) → leb v (limit minus) ≡ t → both (signed minus (value_from v (head_of ps))) (words_in (tail_of ps)) ≡ words_from (cond t (Digits minus v) Bad) ps
    by true e = refl
    by false e = rw (too_large minus v (head_of ps) (leb-false v (limit minus) e)) refl

at-separator : (s : State) (ps : List (List ℕ)) → Sound s → words_from s ([] ∷ ps) ≡ joined (ended_at s) (words_from (after_separator s) ps)
unfolding words_in value_from
at-separator Between ps h = joined-none (words_in ps)
at-separator Minus ps h = refl
at-separator (Digits minus v) ps h = rw (le-leb v (limit minus) h) (joined-one (with_sign minus v) (words_in ps))
at-separator Bad ps h = refl

pub digit_low : (b : ℕ) → digit b ≡ true → 48 ≤ b
unfolding digit
digit_low b e = by (leb 48 b) refl e
  where
    by : (t : Bool) → leb 48 b ≡ t → t && leb b 57 ≡ true → 48 ≤ b
    by true q e = leb-true 48 b q
    by false q e = cc

at-digit : (s : State) (b : ℕ) (ps : List (List ℕ)) → digit b ≡ true → words_from s ((b ∷ head_of ps) ∷ tail_of ps) ≡ words_from (after_digit s (b - 48)) ps
unfolding words_in value_from
at-digit Between b ps e =
    let l = digit_low b e in
    let z : 0 * 10 + (b - 48) ≡ b - 48 = omega arith in
    rw (ne_eqb b 45 (λ q. omega arith), e, z) (at_value false (b - 48) ps)
at-digit Minus b ps e = let z : 0 * 10 + (b - 48) ≡ b - 48 = omega arith in rw (e, z) (at_value true (b - 48) ps)
at-digit (Digits minus v) b ps e = rw e (at_value minus (v * 10 + (b - 48)) ps)
at-digit Bad b ps e = refl

at-minus : (s : State) (b : ℕ) (ps : List (List ℕ)) → digit b ≡ false → eqb b 45 ≡ true → words_from s ((b ∷ head_of ps) ∷ tail_of ps) ≡ words_from (after_minus s) ps
unfolding words_in value_from
at-minus Between b ps e m = rw m refl
at-minus Minus b ps e m = rw e refl
at-minus (Digits minus v) b ps e m = rw e refl
at-minus Bad b ps e m = refl

at_other : (s : State) (b : ℕ) (ps : List (List ℕ)) → digit b ≡ false → eqb b 45 ≡ false → words_from s ((b ∷ head_of ps) ∷ tail_of ps) ≡ none
unfolding words_in value_from
at_other Between b ps e m = rw (m, e) refl
at_other Minus b ps e m = rw e refl
at_other (Digits minus v) b ps e m = rw e refl
at_other Bad b ps e m = refl

at-word : (s : State) (b : ℕ) (ps : List (List ℕ)) → words_from s (onto b ps) ≡ words_from (cond (digit b) (after_digit s (b - 48)) (cond (eqb b 45) (after_minus s) Bad)) ps
at-word s b ps = rw (onto-is b ps) (by (digit b) (eqb b 45) refl refl)
  where
    by : (t m : Bool) → digit b ≡ t → eqb b 45 ≡ m → words_from s ((b ∷ head_of ps) ∷ tail_of ps) ≡ words_from (cond t (after_digit s (b - 48)) (cond m (after_minus s) Bad)) ps
    by true m e q = at-digit s b ps e
    by false true e q = at-minus s b ps e q
    by false false e q = at_other s b ps e q

-- one more byte: the words that it ends, and those behind
at_byte : (s : State) (b : ℕ) (t : List ℕ) → Sound s → words_from s (pieces (b ∷ t)) ≡ joined (ended s b) (words_from (after s b) (pieces t))
unfolding pieces ended after
at_byte s b t h = by (separator b)
  where
    by : (q : Bool) → words_from s (cond q ([] ∷ pieces t) (onto b (pieces t)))
        ≡ joined (cond q (ended_at s) []) (words_from (cond q (after_separator s) (cond (digit b) (after_digit s (b - 48)) (cond (eqb b 45) (after_minus s) Bad))) (pieces t))
    by true = at-separator s (pieces t) h
    by false = at-word s b (pieces t) ∙ joined-none _

-- a state stays sound
sound-value : (minus : Bool) (v : ℕ) → Sound (after_value minus v)
sound-value minus v = by (leb v (limit minus)) refl
  where
    by : (t : Bool) → leb v (limit minus) ≡ t → Sound (cond t (Digits minus v) Bad)
    by true e = leb-true v (limit minus) e
    by false e = tt

sound-digit : (s : State) (d : ℕ) → Sound (after_digit s d)
sound-digit Between d = sound-value false d
sound-digit Minus d = sound-value true d
sound-digit (Digits minus v) d = sound-value minus (v * 10 + d)
sound-digit Bad d = tt

sound-minus : (s : State) → Sound (after_minus s)
sound-minus Between = tt
sound-minus Minus = tt
sound-minus (Digits minus v) = tt
sound-minus Bad = tt

sound-separator : (s : State) → Sound (after_separator s)
sound-separator Between = tt
sound-separator Minus = tt
sound-separator (Digits minus v) = tt
sound-separator Bad = tt

sound-after : (s : State) (b : ℕ) → Sound (after s b)
unfolding after
sound-after s b = by (separator b) (digit b) (eqb b 45)
  where
    by : (x y z : Bool) → Sound (cond x (after_separator s) (cond y (after_digit s (b - 48)) (cond z (after_minus s) Bad)))
    by true y z = sound-separator s
    by false true z = sound-digit s (b - 48)
    by false false true = sound-minus s
    by false false false = tt

few-ended : (s : State) → length (ended_at s) ≤ 1
few-ended Between = omega arith
few-ended Minus = omega arith
few-ended (Digits minus v) = omega arith
few-ended Bad = omega arith

few : (s : State) (b : ℕ) → length (ended s b) ≤ 1
unfolding ended
few s b = by (separator b)
  where
    by : (q : Bool) → length (cond q (ended_at s) []) ≤ 1
    by true = few-ended s
    by false = omega arith

pub stored-none : (d : List ℤ) (n : ℕ) → Stored d n [] n d
unfolding placed
stored-none d n = record { result = omega arith; words_are = refl }

-- words stored, and more behind them
store-more : (d done : List ℤ) {w e new : List ℤ} {n r : ℕ} → n ≡ length done → w ≡ placed d 0 done → Stored w n new r e → (r ≡ length (done ++ new)) × (e ≡ placed d 0 (done ++ new))
store-more d done {w} {e} {new} {n} {r} c p s =
    let z : 0 + length done ≡ length done = omega arith in
    (s.result ∙ rw (c, length-append done new) refl, s.words_are ∙ rw (c, p) (rw z at (placed-append d 0 done new)))

-- the loop of `pass`, at its head: behind i bytes, in a state, with so many words in the slice
pub record Passing (text : List ℕ) (d : List ℤ) (i : ℕ) (s : State) (n : ℕ) (w : List ℤ) : Type 0 where
  pub small : n ≤ i
  pub sound : Sound s
  pub done : List ℤ
  pub is : words_in (pieces text) ≡ joined done (words_from s (pieces (drop i text)))
  pub counted : n ≡ length done
  pub words_are : w ≡ placed d 0 done

pub passing-none : (text : List ℕ) (d : List ℤ) → Passing text d 0 Between 0 d
unfolding placed
passing-none text d =
    record { small = omega arith; sound = tt; done = []; is = joined-none _; counted = refl; words_are = refl }

pub passing-more : {text : List ℕ} {d : List ℤ} {i : ℕ} {s s' : State} {n n' : ℕ} {w w' : List ℤ}
    → Passing text d i s n w → i < length text → Stored w n (ended s (get_or text i 0)) n' w' → s' ≡ after s (get_or text i 0) → Passing text d (i + 1) s' n' w'
passing-more {text} {d} {i} {s} {s'} {n} {n'} {w} {w'} h l st e =
    let b = get_or text i 0 in
    let m = store-more d h.done h.counted h.words_are st in
    record {
      small = omega (arith, few s b, st.result, h.small);
      sound = rw e (sound-after s b);
      done = h.done ++ ended s b;
      is = h.is ∙ rw (drop-cons text i 0 l, at_byte s b (drop (suc i) text) h.sound, add-one i, e) (joined-more h.done (ended s b) (words_from (after s b) (pieces (drop (suc i) text))));
      counted = m.0;
      words_are = m.1;
    }

-- what a pass gives, by what the text is
found : {text : List ℕ} {d w : List ℤ} {n : ℕ} (ws : List ℤ) → words_in (pieces text) ≡ some ws → n ≡ length ws → w ≡ placed d 0 ws → Passed text d (Some n) w
found ws e c p = record { result = rw (e, c) refl; words_are = λ us q. let z : ws ≡ us = cc in rw (← z) p }

refused : {text : List ℕ} {d w : List ℤ} → words_in (pieces text) ≡ none → Passed text d None w
refused {text} e = record { result = rw e refl; words_are = λ us q. cc }

pub passing-all : {text : List ℕ} {d : List ℤ} {i : ℕ} {s : State} {n n' : ℕ} {w w' : List ℤ}
    → Passing text d i s n w → length text ≤ i → Stored w n (ended_at s) n' w' → Passed text d (closed (after_separator s) n') w'
unfolding pieces words_in
passing-all {text} {d} {i} {s} {n} {n'} {w} {w'} h l st =
    let m = store-more d h.done h.counted h.words_are st in
    by (after_separator s) (closing s) (h.done ++ ended_at s)
    (h.is ∙ rw (drop_of_length-le text l, at-separator s [] h.sound) (joined-more h.done (ended_at s) (words_from (after_separator s) [])))
    m.0 m.1
  where
    -- behind a separator no word has begun
    closing : (t : State) → (after_separator t ≡ Between) ⊎ (after_separator t ≡ Bad)
    closing Between = inl refl
    closing Minus = inr refl
    closing (Digits minus v) = inl refl
    closing Bad = inr refl

    by : (t : State) → (t ≡ Between) ⊎ (t ≡ Bad) → (ws : List ℤ) → words_in (pieces text) ≡ joined ws (words_from t []) → n' ≡ length ws → w' ≡ placed d 0 ws → Passed text d (closed t n') w'
    by t (inl z) ws e c p = rw z (found ws (rw z at e ∙ ap some (append-nil ws)) c p)
    by t (inr z) ws e c p = rw z (refused (rw z at e))

-- what reading gives, by what the text is
answered : (o : Option (List ℤ)) (n : ℕ) → Some n ≡ answer o → (ws : List ℤ) × ((o ≡ some ws) × (n ≡ length ws))
answered none n e = cc
answered (some ws) n e = (ws, (refl, (cc)))

unanswered : (o : Option (List ℤ)) → None ≡ answer o → o ≡ none
unanswered none e = refl
unanswered (some ws) e = cc

pub read-long : {text : List ℕ} {room : ℕ} {r : Optional ℕ} {w : List ℤ} → 24576 < length text → r ≡ None → w ≡ replicate room (pos 0) → Read text room r w
unfolding words_of
read-long h e p = let q = lt-leb _ _ h in record { result = rw q e; words_are = rw q p }

pub read-refused : {text : List ℕ} {room : ℕ} {d u w : List ℤ} {a r : Optional ℕ} → Passed text d a u → length text ≤ 24576 → a ≡ None → r ≡ None → w ≡ replicate room (pos 0) → Read text room r w
unfolding words_of
read-refused {text} g h z e p = let q = le-leb _ _ h in let o = unanswered (words_in (pieces text)) (sym z ∙ g.result) in record { result = rw (q, o) e; words_are = rw (q, o) p }

pub read-many : {text : List ℕ} {room n : ℕ} {d u w : List ℤ} {a r : Optional ℕ} → Passed text d a u → length text ≤ 24576 → a ≡ Some n → room < n → r ≡ None → w ≡ replicate room (pos 0) → Read text room r w
unfolding words_of
read-many {text} {room = room} {n = n} g h z l e p =
    let q = le-leb _ _ h in
    let o = answered (words_in (pieces text)) n (sym z ∙ g.result) in
    let m = lt-leb (length o.0) room (rw o.1.1 at l) in
    record { result = rw (q, o.1.0, m) e; words_are = rw (q, o.1.0, m) p }

pub read_found : {text : List ℕ} {room n : ℕ} {d w : List ℤ} {a : Optional ℕ} → Passed text d a w → length text ≤ 24576 → a ≡ Some n → n ≤ room → d ≡ replicate room (pos 0) → Read text room (Some n) w
unfolding words_of
read_found {text} {room = room} {n = n} g h z l e =
    let q = le-leb _ _ h in
    let o = answered (words_in (pieces text)) n (sym z ∙ g.result) in
    let k : length o.0 ≤ room = rw o.1.1 at l in
    let m = le-leb (length o.0) room k in
    record { result = rw (q, o.1.0, m) (ap Some o.1.1); words_are = rw (q, o.1.0, m) (g.words_are o.0 o.1.0 ∙ rw e (placed-zeros room (pos 0) o.0 k)) }

-- a value so far, within its limit and beyond it
pub value_in : (minus : Bool) (v : ℕ) → v ≤ limit minus → Digits minus v ≡ after_value minus v
value_in minus v h = rw (le-leb v (limit minus) h) refl

pub value_out : (minus : Bool) (v : ℕ) → limit minus < v → Bad ≡ after_value minus v
value_out minus v h = rw (lt-leb v (limit minus) h) refl

pub at_most : (minus : Bool) (v : ℕ) → v ≤ limit minus → v ≤ 2147483648
at_most true v h = h
at_most false v h = omega arith
