-- The survivors of a legal network have nothing at numbers not in use: as a network that is read from a record.
use mathlib.Core.Path.{◌≡◌, refl, ◌∙◌}
use mathlib.Core.Bool.{Bool, true, false, cond}
use mathlib.Core.List.{List}
use mathlib.Core.Logic.{◌⊎◌, inl, inr}
use Prim.Native.Nat.{ℕ, zero, suc, ◌+◌, ◌<◌}
use native.Mathlib.Omega.{arith}
use lib.ListN.{get_or, set, replicate}
use lib.Seq.{get_or-set_other}
use Rattle.loops.specs.Loops.{tally, count}
use Rattle.fraction.specs.Exact.{no_figure}
use Rattle.network.specs.declared.Net.{Net}
use Rattle.network.specs.Network.{supply_at, is_here}
use Rattle.network.specs.Legal.{Legal, Gapless}
use Rattle.network.proofs.Numbers.{get_or-all}
use Rattle.survivors.specs.Survivors.{packed_of}
use Rattle.survivors.proofs.Packed.{packed-legal}
use Rattle.survivors.proofs.Ranks.{packs}
use Rattle.survivors.proofs.Survivors.{packed-is, packed-gapless}

-- a list that survivors are packed into, at the numbers that they do not take
packs-out : {A : Type 0} (p : ℕ → Bool) (f : ℕ → A) (l : List A) (d : A) (n i : ℕ) → (i ≡ 0) ⊎ (count (λ k. p (k + 1)) n < i) → get_or (packs p f l n) i d ≡ get_or l i d
unfolding packs count
packs-out p f l d zero i o = refl
packs-out p f l d (suc n) i o = by (p (n + 1)) o (packs-out p f l d n i)
  where
    c : ℕ
    c = count (λ k. p (k + 1)) n

    apart : (i ≡ 0) ⊎ (c + 1 < i) → i ≡ c + 1 → ⊥
    apart (inl z) e = omega arith
    apart (inr h) e = omega arith

    less : (i ≡ 0) ⊎ (c + 1 < i) → (i ≡ 0) ⊎ (c < i)
    less (inl z) = inl z
    less (inr h) = inr (omega arith)

    by : (b : Bool) → (i ≡ 0) ⊎ (tally b c < i) → ((i ≡ 0) ⊎ (c < i) → get_or (packs p f l n) i d ≡ get_or l i d) → get_or (cond b (set (packs p f l n) (c + 1) (f (n + 1))) (packs p f l n)) i d ≡ get_or l i d
    by true o rest = get_or-set_other (packs p f l n) (c + 1) i (f (n + 1)) d (apart o) ∙ rest (less o)
    by false o rest = rest o

pub packed-bare : (net : Net) (i : ℕ) → (i ≡ 0) ⊎ ((packed_of net).n < i) → supply_at (packed_of net) i ≡ no_figure
packed-bare net i o =
    rw (packed-is net) (packs-out (is_here net) (supply_at net) (replicate 33 no_figure) no_figure 32 i (rw (packed-is net) at o) ∙ get_or-all 33 i no_figure)

pub packed-tidy : {net : Net} → Legal net → Legal (packed_of net) × Gapless (packed_of net) × ((i : ℕ) → (i ≡ 0) ⊎ ((packed_of net).n < i) → supply_at (packed_of net) i ≡ no_figure)
packed-tidy {net} g = (packed-legal g, packed-gapless g, packed-bare net)
