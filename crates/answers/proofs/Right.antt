-- What is printed is right.
use mathlib.Core.Path.{refl}
use mathlib.Core.List.{List}
use Prim.Native.Nat.{ℕ}
use lib.IntN.{ℤ}
use Rattle.reduction.proofs.Entry.{flowless}
use Rattle.restoration.proofs.Optimum.{restored-optimum}
use Rattle.answers.specs.Answers.{NoFlowRight}
use Rattle.answers.specs.Restoring.{OptimumRight, RestoredRight}

pub no-flow-right : (text : List ℕ) → NoFlowRight text
no-flow-right text xs rule place w e = flowless xs 1412 257 10240 96 refl rule place e

optimum-right : (xs zs ys : List ℤ) → OptimumRight xs zs ys
optimum-right xs zs ys e = restored-optimum xs zs ys 258 4 10240 96 (record { result = refl; out_is = refl; values_is = refl }) e

pub restored-right : (text : List ℕ) → RestoredRight text
restored-right text ws w e s = optimum-right _ _ _
