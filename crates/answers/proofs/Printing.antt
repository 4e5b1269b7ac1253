-- Laws of what is printed.
use Rattle.std.proofs.Common.{◌≤◌, ◌-◌, ◌++◌, length, take, arith}
use Rattle.std.proofs.Math.Seq.{take-append_seam}
use Rattle.std.proofs.lemmas.List.{length-replicate}
use mathlib.Core.Path.{◌≡◌, ◌∙◌}
use mathlib.Core.List.{List}
use Prim.Native.Nat.{ℕ}
use Rattle.text.specs.declared.page.Page.{Page}
use Rattle.text.specs.Page.{Prints}
use Rattle.text.proofs.Writing.{put-le, behind-within, placed-zeros}
use Rattle.answers.specs.Answers.{no_bytes, Printed}

-- a new page, printed into and given back
pub printed : (n : ℕ) {p q : Page} {bytes : List ℕ} {most : ℕ} {e : List ℕ} → Prints p bytes most q → p.out.now ≡ no_bytes n → p.at ≡ 0 → e ≡ q.out.now → Printed (no_bytes n) 0 bytes most q.at e
printed n f d a e = record { put = rw (e, ← d, ← a) f.put; few = f.few }

-- what is printed from the front on ends within the slice
pub printed_within : {d bytes e : List ℕ} {most r : ℕ} → Printed d 0 bytes most r e → r ≤ length e
printed_within p = put-le p.put (omega arith)

-- where there is room, what is printed from the front on stands there
pub printed_front : {n : ℕ} {bytes e : List ℕ} {most r : ℕ} → Printed (no_bytes n) 0 bytes most r e → most ≤ n → take r e ≡ bytes
printed_front {n} {bytes} {e} {most} {r} p h =
    let few : length bytes ≤ n = omega (arith, p.few) in
    let l : length (no_bytes n) ≡ n = length-replicate n 0 in
    let size : r ≡ length bytes = p.put.result ∙ behind-within (length (no_bytes n)) 0 (length bytes) (omega arith) ∙ omega arith in
    let at : e ≡ bytes ++ no_bytes (n - length bytes) = p.put.bytes_are ∙ placed-zeros n 0 bytes few in
    rw (size, at) (take-append_seam bytes (no_bytes (n - length bytes)))
