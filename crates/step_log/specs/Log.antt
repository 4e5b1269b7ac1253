-- The log: the steps of a run in the lent words, each as 40 figures of two words, a numerator and a denominator.
use Rattle.std.specs.Prelude.{◌≡◌, cond, ◌&&◌, List, [], ◌∷◌, ◌++◌, ℕ, suc, ◌+◌, ◌*◌, ltb, leb, ℤ, length, set}
use Rattle.fraction.specs.declared.Fraction.{Fraction}
use Rattle.fraction.specs.Exact.{from_words, den_word}
use Rattle.network.specs.declared.ArcUpdate.{ArcUpdate}
use Rattle.fraction.specs.Words.{word, natural_of}
use Rattle.fraction.specs.Words.{whole_of}
use Rattle.step.specs.declared.Numbers.{Numbers}
use Rattle.step.specs.declared.Old.{Old}
use Rattle.step.specs.declared.Step.{Step}
use Rattle.network.specs.Limits.{max_steps}

-- the words of a step, and those of the steps of the longest run
abbrev pub step_words : ℕ
step_words = 80

abbrev pub log_words : ℕ
log_words = step_words * max_steps

-- ---- the figures of a step; a whole number is itself over 1

-- an old arc: its number and its seven figures
abbrev pub update_figures : ArcUpdate → List Fraction
update_figures u =
    whole_of u.number ∷ whole_of u.arc.from ∷ whole_of u.arc.to ∷ u.arc.cost ∷ u.arc.lower ∷ u.arc.upper ∷ u.arc.a ∷ u.arc.b ∷ []

abbrev pub number_figures : Numbers → List Fraction
number_figures new = whole_of new.first ∷ whole_of new.second ∷ whole_of new.third ∷ whole_of new.fourth ∷ []

-- rule, place, node and supply; the four old arcs; the numbers of the new arcs
abbrev pub figures_of : ℕ → ℕ → Old → List Fraction
figures_of rule place old =
    (whole_of rule ∷ whole_of place ∷ whole_of old.node ∷ old.supply ∷ []) ++
    (update_figures old.one ++ (update_figures old.two ++ (update_figures old.three ++ (update_figures old.four ++ number_figures old.new))))

-- ---- written

unfoldable pub with_figure : List ℤ → ℕ → Fraction → List ℤ
with_figure zs at f = set (set zs at f.num) (at + 1) (den_word f.den)

unfoldable pub with_figures : List ℤ → ℕ → List Fraction → List ℤ
with_figures zs at [] = zs
with_figures zs at (f ∷ fs) = with_figures (with_figure zs at f) (at + 2) fs

-- step k, from 0; nothing is written where there is no such step, or no room for it
unfoldable pub with_step : List ℤ → ℕ → Step → List ℤ
with_step zs k s = cond (ltb k max_steps && leb (step_words * k + step_words) (length zs)) (with_figures zs (step_words * k) (figures_of s.rule s.place s.change.old)) zs

-- steps from number k on
unfoldable pub logged : ℕ → List Step → List ℤ → List ℤ
logged k [] zs = zs
logged k (s ∷ ss) zs = logged (suc k) ss (with_step zs k s)

-- ---- read

-- where step k stands; behind the last where there is no such step
abbrev pub start_of : ℕ → ℕ
start_of k = cond (ltb k max_steps) (step_words * k) log_words

unfoldable pub figure_in : List ℤ → ℕ → Fraction
figure_in zs at = from_words (word zs at) (word zs (at + 1))

abbrev pub number_in : List ℤ → ℕ → ℕ
number_in zs at = natural_of (figure_in zs at).num

unfoldable pub update_in : List ℤ → ℕ → ArcUpdate
update_in zs at =
    record {
      number = number_in zs at;
      arc = record {
        from = number_in zs (at + 2);
        to = number_in zs (at + 4);
        cost = figure_in zs (at + 6);
        lower = figure_in zs (at + 8);
        upper = figure_in zs (at + 10);
        a = figure_in zs (at + 12);
        b = figure_in zs (at + 14);
      };
    }

unfoldable pub numbers_in : List ℤ → ℕ → Numbers
numbers_in zs at = record { first = number_in zs at; second = number_in zs (at + 2); third = number_in zs (at + 4); fourth = number_in zs (at + 6) }

unfoldable pub old_from : List ℤ → ℕ → Old
old_from zs at =
    record {
      node = number_in zs (at + 4);
      supply = figure_in zs (at + 6);
      one = update_in zs (at + 8);
      two = update_in zs (at + 24);
      three = update_in zs (at + 40);
      four = update_in zs (at + 56);
      new = numbers_in zs (at + 72);
    }

-- rule, place and the other figures of step k, from 0
unfoldable pub rule_in : List ℤ → ℕ → ℕ
rule_in zs k = number_in zs (start_of k)

unfoldable pub place_in : List ℤ → ℕ → ℕ
place_in zs k = number_in zs (start_of k + 2)

unfoldable pub old_in : List ℤ → ℕ → Old
old_in zs k = old_from zs (start_of k)

-- these steps stand from number k on
unfoldable pub Holds : List ℤ → ℕ → List Step → Type 0
Holds zs k [] = Unit {0}
Holds zs k (s ∷ ss) = (rule_in zs k ≡ s.rule) × ((place_in zs k ≡ s.place) × ((old_in zs k ≡ s.change.old) × Holds zs (suc k) ss))
