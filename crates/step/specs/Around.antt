-- The arcs that touch a node, upward, and a node as the rules of nodes are given it.
use Rattle.std.specs.Prelude.{Err}
use Rattle.std.specs.Prelude.{◌≡◌, Bool, true, false, List, ℕ, ◌≤◌}
use Rattle.fraction.specs.declared.Fraction.{Fraction}
use Rattle.network.specs.declared.Net.{Net}
use Rattle.network.specs.Network.{is_here, degree_of, touching_after}
use Rattle.network.specs.Legal.{Legal}
use Rattle.step.specs.declared.Around.{Around}
use Rattle.step.specs.Outcome.{Outcome}
use Rattle.step.specs.declared.Halt.TheVariants.{Passes}
use Rattle.step.specs.Back.{old_arc}

-- their numbers; 0 where there are no more
abbrev pub first_at : Net → ℕ → ℕ
first_at net i = touching_after net i 0

abbrev pub second_at : Net → ℕ → ℕ
second_at net i = touching_after net i (first_at net i)

abbrev pub third_at : Net → ℕ → ℕ
third_at net i = touching_after net i (second_at net i)

abbrev pub fourth_at : Net → ℕ → ℕ
fourth_at net i = touching_after net i (third_at net i)

-- ---- for those who try a rule

-- how a rule is tried at a node: the degree that it asks for, whether it asks for supply 0, and its answer by the constant,
-- the supplies of all nodes, the node's degree and its arcs
pub record Trial : Type 0 where
  pub degree : ℕ
  pub balanced : Bool
  pub by : Fraction → List Fraction → ℕ → ℕ → Around → Outcome

-- of a rule of arcs
abbrev pub no_trial : Trial
no_trial = record { degree = 0; balanced = false; by = λ constant supply i d near. Err Passes }

-- of the arcs that touch node i, as many as d asks for
pub record Near (net : Net) (i d : ℕ) (near : Around) : Type 0 where
  pub one : 1 ≤ d → near.one ≡ old_arc net (first_at net i)
  pub two : 2 ≤ d → near.two ≡ old_arc net (second_at net i)
  pub three : 3 ≤ d → near.three ≡ old_arc net (third_at net i)
  pub four : 4 ≤ d → near.four ≡ old_arc net (fourth_at net i)

-- node i, in use, by the constant, the supplies of all nodes, its degree and its arcs
pub record Given (net : Net) (constant : Fraction) (supply : List Fraction) (i d : ℕ) (near : Around) : Type 0 where
  pub legal : Legal net
  pub here : is_here net i ≡ true
  pub constant_is : net.constant ≡ constant
  pub supplies : net.supply ≡ supply
  pub degree : degree_of net i ≡ d
  pub arcs : Near net i d near
