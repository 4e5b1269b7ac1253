-- How a rule reads: conditions and figures in the paper's order, then the change.
use Rattle.std.specs.Prelude.{Bool, cond}
use Rattle.fraction.specs.declared.Misfit.{Misfit}
use Rattle.std.specs.Prelude.{Result, Ok, Err}
use Rattle.step.specs.declared.Change.{Change}
use Rattle.step.specs.declared.Halt.{Halt}
use Rattle.step.specs.declared.Halt.TheVariants.{Passes, NoFlow}

-- what a rule answers at a place: a change, or that it doesn't apply, or that there is no flow
abbrev pub Outcome : Type 0
Outcome = Result Change Halt

infixl 1 ◌>>=◌ ◌>>◌
-- what comes after a line of a `do`
abbrev pub ◌>>◌ : {R : Type 0} → (R → R) → R → R
m >> r = m r

abbrev pub ◌>>=◌ : {A R : Type 0} → ((A → R) → R) → (A → R) → R
m >>= f = m f

-- the rule applies only where b
unfoldable pub only_where : Bool → Outcome → Outcome
only_where b rest = cond b rest (Err Passes)

-- "the answer is no flow" where b
unfoldable pub no_flow_where : Bool → Outcome → Outcome
no_flow_where b rest = cond b (Err NoFlow) rest

-- a figure, or an arc of such, that must fit: "a rule some of whose figures don't fit doesn't apply at that place"
unfoldable pub fits : {A : Type 0} → Result A Misfit → (A → Outcome) → Outcome
fits (Ok x) rest = rest x
fits (Err m) rest = Err Passes
