-- Laws that several proofs cite.
use mathlib.Core.Path.{◌≡◌, refl, sym, ◌∙◌}
use mathlib.Core.List.{List, map}
use Prim.Native.Nat.{ℕ, zero, suc, ◌+◌, ◌-◌, ◌≤◌, ◌<◌}
use native.Mathlib.Nat.{not-suc-le-zero}
use native.Mathlib.Omega.{arith}
use lib.ListN.{length, length-map}
use Rattle.loops.specs.Loops.{scan}
use Rattle.loops.proofs.Laws.{Scanned, scanned-found, scanned-more}
use Rattle.network.specs.Network.{or_next}

-- an array of structs in a struct: what its relation says of the list
pub length-mapped : (X Y : Type 0) (f : X → Y) (l : List X) (n : ℕ) → length (map f l) ≡ n → length l ≡ n
length-mapped X Y f l n e = sym (length-map l f) ∙ e

-- a number that is found: no later one counts
pub stays : (k : ℕ) → 1 ≤ k → (g : ℕ → ℕ) (j : ℕ) → or_next k g j ≡ k
stays zero h g j = absurd (not-suc-le-zero h)
stays (suc k) h g j = refl

-- ---- a loop over the arcs' numbers after k that stops at the first that counts (f j is j, or 0 where j doesn't count): where there is none, and the two turns
pub sought-past : (f : ℕ → ℕ) {k : ℕ} → 96 ≤ k → 0 ≡ scan or_next 0 f (96 - k) (k + 1)
unfolding scan
sought-past f {k} l = let e : 96 - k ≡ 0 = omega arith in rw e refl

pub sought-yes : {f : ℕ → ℕ} {k j : ℕ} → Scanned or_next 0 f (96 - k) (k + 1) j → k < 96 → j < 97 → j ≡ f j → j ≡ scan or_next 0 f (96 - k) (k + 1)
sought-yes {j = j} h l m e = let q : 1 ≤ j = omega arith in scanned-found _ _ h (omega arith) e (stays j q)

pub sought-no : {f : ℕ → ℕ} {k j : ℕ} → Scanned or_next 0 f (96 - k) (k + 1) j → k < 96 → j < 97 → 0 ≡ f j → Scanned or_next 0 f (96 - k) (k + 1) (j + 1)
sought-no h l m e = scanned-more _ _ {t = 0} h (omega arith) e (λ g i. refl)
