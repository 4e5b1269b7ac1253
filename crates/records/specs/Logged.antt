-- The stack's record, read from the log.
use Rattle.std.specs.Prelude.{Bool, cond, ◌&&◌, List, ℕ, ◌+◌, ◌-◌, ◌*◌, eqb, leb, ℤ, length}
use Rattle.loops.specs.Loops.{build, written}
use Rattle.fraction.specs.Words.{word_of}
use Rattle.network.specs.Limits.{max_steps}
use Rattle.step_log.specs.Log.{rule_in, place_in}
use Rattle.records.specs.Limits.{stack_room}
use Rattle.records.specs.Stack.{same_words}

-- word k of the record of s steps
unfoldable pub stack_word : List ℤ → ℕ → ℕ → ℤ
stack_word log s k = cond (eqb k 0) (word_of s) (cond (leb k s) (word_of (rule_in log (k - 1))) (word_of (place_in log (k - 1 - s))))

-- the record over the first words of a slice that has room, and whether words are the record
unfoldable pub with_stack : List ℤ → ℕ → List ℤ → List ℤ
with_stack log s d = cond (leb s max_steps && leb stack_room (length d)) (written (1 + 2 * s) (stack_word log s) d) d

unfoldable pub is_stack_of : List ℤ → ℕ → List ℤ → Bool
is_stack_of log s zs = leb s max_steps && same_words zs (build (1 + 2 * s) (stack_word log s))
