-- Rule 2, bare node: no arc touches it. A supply that is not 0: no flow. Otherwise the node is dropped, which changes nothing, since a dropped row is one with coefficients 0.
use mathlib.Core.Path.{◌≡◌, refl, sym, ◌∙◌, ap}
use mathlib.Core.List.{[], Memᴰ}
use Prim.Native.Nat.{ℕ}
use Rattle.algebra.proofs.Solver.{◌:*◌, :0, ◌:=◌, ring1}
use Rattle.algebra.specs.Rat.{ℚ, ◌+ℚ◌, ◌*ℚ◌, 0_ℚ as 𝟘}
use Rattle.algebra.proofs.Rat.{ℚ-ring}
use Rattle.algebra.proofs.Sum.{sum_congr, sum-zero}
use Rattle.algebra.specs.Sum.{upd}
use Rattle.presolve.proofs.Named.{nil, perm-refl}
use Rattle.presolve.specs.LP.{LP, Pair, NoFlow, brings}
use Rattle.presolve.proofs.Step.{SoundStep}
use Rattle.presolve.proofs.Frame.{Frame, Matched, frame-value, frame_on, frame-solved, agree-upd}

-- no column has a coefficient at row i
abbrev pub Untouched : LP → ℕ → Type 0
Untouched N i = (c : ℕ) → Memᴰ c N.cols → (N.col c).coef i ≡ 𝟘

pub record BareNode (N N' : LP) (i : ℕ) : Type 0 where
  pub bare : Untouched N i
  pub rows_same : N'.rows ≡ N.rows
  pub cols_same : N'.cols ≡ N.cols
  pub same : (c : ℕ) → Memᴰ c N.cols → N'.col c ≡ N.col c
  pub rhs_is : (s : ℕ) → Memᴰ s N.rows → N'.rhs s ≡ N.rhs s
  pub constant_is : N'.constant ≡ N.constant

-- postsolve: the price π at the node, which may be any number; the document says 0
abbrev pub bare-back : ℕ → ℚ → Pair → Pair
bare-back i π s = record { flow = s.flow; price = upd s.price i π }

pub bare-sound : {N N' : LP} {i : ℕ} (π : ℚ) → BareNode N N' i → SoundStep N N' (bare-back i π)
bare-sound {N} {N'} {i} π B = record {
  solved = λ s h. frame-solved F s.flow s.flow (upd s.price i π) s.price (M s.flow) tt (agree-upd F s.price i π (λ c m a. B.bare c m)) tt h;
  same_value = λ s. frame-value F s.flow s.flow (M s.flow) (ap (λ k. k +ℚ 𝟘) (sym B.constant_is));
  keeps_flow = λ x f. (x, frame_on F x x (M x) tt f);
}
  where
    F : Frame N N' [] []
    F = record { rows_same = B.rows_same; cols_same = B.cols_same; distinct = nil; listed = tt; renumbered = perm-refl []; same = λ c m a. B.same c m }

    M : (x : ℕ → ℚ) → Matched N N' [] [] x x
    M x = record { off = λ c a. refl; row = λ s m. ap (λ r. 𝟘 +ℚ r) (B.rhs_is s m) }

-- NO FLOW
pub bare-no-flow : {N : LP} (i : ℕ) → Untouched N i → Memᴰ i N.rows → ¬ (N.rhs i ≡ 𝟘) → NoFlow N
unfolding brings
bare-no-flow {N} i b m h x f = h (sym (f.balance i m) ∙ sum_congr N.cols (λ c. (N.col c).coef i *ℚ x c) (λ c. 𝟘) (λ c k. ap (λ t. t *ℚ x c) (b c k) ∙ ring1 ℚ-ring (x c) (λ x. :0 :* x := :0) refl) ∙ sum-zero N.cols)
