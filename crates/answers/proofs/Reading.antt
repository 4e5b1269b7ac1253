-- What is known of a text that was read, where there is room for all its words.
use mathlib.Core.Path.{◌≡◌, refl, sym, ap, ◌∙◌}
use mathlib.Core.List.{List}
use mathlib.Core.Option.{Option, some, none}
use Prim.Native.Nat.{ℕ, ◌≤◌}
use native.Mathlib.Omega.{arith}
use lib.IntN.{ℤ}
use lib.ListN.{length, take, length-append}
use lib.Seq.{take_at}
use Rattle.fraction.proofs.Laws.{never}
use Rattle.std.specs.Prelude.{Some, None}
use Rattle.text.specs.Text.{words_of, answer, padded, Read}
use Rattle.text.proofs.Count.{room-enough}

module _ (text : List ℕ) (room : ℕ) (ws : List ℤ) (h : 12288 ≤ room) where
  pub record Found (n : ℕ) : Type 0 where
    pub is : words_of text ≡ some (take n ws)
    pub few : n ≤ length ws

  pub read_some : (n : ℕ) → Read text room (Some n) ws → Found n
  read_some n r = by (words_of text) refl (rw (room-enough text room h) at r.result) (rw (room-enough text room h) at r.words_are)
    where
      by : (o : Option (List ℤ)) → words_of text ≡ o → Some n ≡ answer o → ws ≡ padded room o → Found n
      by none e q w = never cc
      by (some zs) e q w =
          let l : n ≡ length zs = cc in
          record { is = e ∙ ap some (sym (rw (w, l) (take_at zs _ (length zs) refl))); few = rw (w, length-append) (omega arith) }

  pub read_none : Read text room None ws → words_of text ≡ none
  read_none r = by (words_of text) refl (rw (room-enough text room h) at r.result)
    where
      by : (o : Option (List ℤ)) → words_of text ≡ o → None ≡ answer o → words_of text ≡ none
      by none e q = e
      by (some zs) e q = never cc
