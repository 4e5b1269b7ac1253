-- What the questions answer of some records, and a record read and written.
use Rattle.std.specs.Prelude.{◌≡◌, refl, List, [], ◌∷◌, ◌++◌, ℕ, ◌-◌, ℤ, pos, negsuc, length, set}
use Rattle.integer.specs.Gcd.{gcd, gcd_by}
use Rattle.loops.specs.Loops.{zeros, all, upto, build}
use Rattle.fraction.specs.Exact.{is_proper, is_operand, is_same, from_words, den_word, is_zero}
use Rattle.fraction.specs.Words.{word_of}
use Rattle.network.specs.Network.{is_root, with_arc, with_supply, with_node}
use Rattle.records.specs.Limits.{network_room}
use Rattle.records.specs.Questions.{first_no, number_in}
use Rattle.records.specs.Arrays.{figure_at, arrays_of, has_room, record_of}
use Rattle.records.specs.Network.{sizes_right, figures_right, ends_right, multipliers_right, questions, role_of, is_permitted, is_end, has_ends, arc_in, is_weighted, net_of, read_of, role_figure, figure_of, network_of}

-- the network of 01's instance A, with its constant
abbrev pub given : List ℤ
given = pos 3 ∷ pos 3 ∷ pos 0 ∷ pos 4 ∷ negsuc 4 ∷ pos 2 ∷ pos 1 ∷ pos 2 ∷ pos 1 ∷ pos 0 ∷ pos 3 ∷ pos 1 ∷ negsuc 0 ∷ pos 1 ∷ pos 2 ∷ pos 2 ∷ pos 0 ∷ pos 1 ∷ pos 1 ∷ negsuc 0 ∷ pos 3 ∷ pos 2 ∷ pos 7 ∷ pos 0 ∷ pos 1 ∷ pos 1 ∷ negsuc 0 ∷ pos 1 ∷ pos 1 ∷ pos 1 ∷ pos 1 ∷ pos 1 ∷ pos 1 ∷ pos 1 ∷ pos 1 ∷ pos 1 ∷ pos 1 ∷ pos 1 ∷ pos 1 ∷ pos 1 ∷ pos 1 ∷ pos 1 ∷ pos 0 ∷ pos 1 ∷ pos 1 ∷ pos 1 ∷ pos 1 ∷ pos 1 ∷ pos 1 ∷ pos 0 ∷ pos 1 ∷ pos 2 ∷ []

pub record Example : Type 0 where
  pub network : List ℤ
  pub answer : ℕ

abbrev pub AllRight : List Example → Type 0
AllRight [] = Unit {0}
AllRight (e ∷ es) = (number_in (first_no (questions e.network)) ≡ e.answer) × AllRight es

-- the empty network, and without its constant; no word; a word more; a mark for the constant; arc 1's lower bound 1 over 0; its to node 4; its to node 1
abbrev pub table : List Example
table =
    record { network = given; answer = 0 }
    ∷ record { network = pos 0 ∷ pos 0 ∷ pos 0 ∷ pos 1 ∷ []; answer = 0 }
    ∷ record { network = pos 0 ∷ pos 0 ∷ []; answer = 2 }
    ∷ record { network = []; answer = 2 }
    ∷ record { network = given ++ (pos 0 ∷ []); answer = 2 }
    ∷ record { network = set (set given 2 (negsuc 0)) 27 (pos 0); answer = 3 }
    ∷ record { network = set (set given 9 (pos 1)) 34 (pos 0); answer = 3 }
    ∷ record { network = set given 7 (pos 4); answer = 4 }
    ∷ record { network = set given 7 (pos 1); answer = 5 }
    ∷ []

pub asked : AllRight table
unfolding gcd gcd_by all is_proper is_operand is_same from_words is_zero is_root figure_at sizes_right figures_right ends_right multipliers_right questions role_of is_permitted is_end has_ends arc_in is_weighted
asked = (refl, (refl, (refl, (refl, (refl, (refl, (refl, (refl, (refl, tt)))))))))

pub written_back : network_of (read_of given) network_room ≡ given ++ zeros (network_room - length given)
unfolding upto build from_words den_word with_arc with_supply with_node figure_at sizes_right arc_in net_of read_of arrays_of word_of role_figure figure_of has_room record_of network_of
written_back = refl
