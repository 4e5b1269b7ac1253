-- A word that is a number, by what it is as a size up to that number.
use mathlib.Core.Path.{◌≡◌, refl, sym}
use mathlib.Core.Bool.{false}
use Prim.Native.Nat.{ℕ}
use native.Mathlib.Omega.{arith}
use lib.Dec.{eqb}
use lib.IntN.{ℤ, pos, negsuc}
use borrow.Author.Tests.{leb-false, ne_eqb}
use Rattle.std.specs.Prelude.{Some, None}
use Rattle.integer.specs.Whole.{eq_z}
use Rattle.fraction.proofs.Laws.{never}
use Rattle.records.specs.Network.{size_of}
use Rattle.records.proofs.Questions as Questions

pub size_is : (z : ℤ) (n k : ℕ) → size_of z n ≡ Some k → eqb k n ≡ eq_z z (pos n)
size_is (pos j) n k e = rw ((Questions.size_is (pos j) n k e).1) refl
size_is (negsuc j) n k e = never cc

pub size-off : (z : ℤ) (n : ℕ) → size_of z n ≡ None → false ≡ eq_z z (pos n)
size-off (pos j) n e = sym (ne_eqb j n (λ q. omega (arith, leb-false j n (Questions.size-off (pos j) n e))))
size-off (negsuc j) n e = refl
