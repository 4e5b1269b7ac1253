-- THE JUNCTION LEMMA of rules 6, 8 and 9. At node i two arcs a and b have multipliers of one sign σ, and lower bounds but no upper ones; the other arcs n have the other sign, and lie between 0 and
-- no bound. The node is dropped. For each n two arcs take its place, one that passes through to a's far end and one to b's; and where the node has a supply, a transfer arc decides how much
-- of it goes by b and not by a.
use mathlib.Core.Path.{◌≡◌, refl, sym, ◌∙◌, ap, ap₂, subst}
use mathlib.Core.List.{List, [], ◌∷◌, Memᴰ}
use mathlib.Core.Option.{Option, none, some}
use Prim.Native.Nat.{ℕ}
use Rattle.algebra.proofs.Ring.{combo, combo2, combo3}
use Rattle.algebra.proofs.Solver.{◌:+◌, ◌:*◌, ◌:-◌, :neg, :0, :1, ◌:=◌, ring1, ring2, ring3, ring4, ring5, ring6, ring7, ring8, ring11, ring14}
use Rattle.algebra.specs.Rat.{ℚ, ◌+ℚ◌, ◌*ℚ◌, -ℚ◌, ◌≤ℚ◌, 0_ℚ as 𝟘, 1_ℚ as 𝟙, inv_ℚ as inv, ◌<ℚ◌}
use Rattle.algebra.proofs.Rat.{ℚ-ring, mul_ℚ-inv as mul_inv, ≤ℚ-trans as le_trans, ≤ℚ-antisym as le_antisym}
use Rattle.algebra.proofs.Order.{lt→le, le-by, le_refl, le_of_eq, sub-nn, add-nn, mul_nn', pos-ne}
use Rattle.algebra.proofs.Inverse.{inv-nn, le-cancel, mul-cancel}
use Rattle.algebra.proofs.Sum.{Absent, Once}
use Rattle.algebra.specs.Sum.{sum, upd}
use Rattle.presolve.proofs.Named.{Distinct, once-mem, All, all-mem, sum-at-named, Perm, absent-perm, distinct-perm, puts, puts-at, puts-off, Reads}
use Rattle.presolve.proofs.Bounds.{some_inj, none-some, fits-nn, fits-closed}
use Rattle.presolve.specs.LP.{LP, Column, Pair, Feasible, Solved, InBounds, PriceRule, brings}
use Rattle.presolve.proofs.Removed.{Gone, gone-within}
use Rattle.presolve.proofs.Step.{SoundStep}
use Rattle.presolve.proofs.Frame.{Frame, Matched, Paid, frame-value, frame_on, frame-solved, agree-upd, rule-new, within_new}
use Rattle.presolve.proofs.Spoke.{PlusMinus, Spoke, SpokeAt, quote, spoke-e, spoke-reduced, Through, through-coef, through-cost, through-order, through-idle, through-full, with-nn, with-pos, against-nn, against-pos, inv-nn₀, larger, larger-is, portion}

-- between 0 and no bound
pub record Open (c : Column) : Type 0 where
  pub lower_0 : c.lower ≡ some 𝟘
  pub free : c.upper ≡ none

pub open-within : (c : Column) (x : ℚ) → Open c → 𝟘 ≤ℚ x → InBounds c x
open-within c x O h = record { above = λ v e. subst (λ t. t ≤ℚ x) (some_inj (sym O.lower_0 ∙ e)) h; below = λ v e. absurd (none-some (sym O.free ∙ e)) }

-- an arc n, the numbers of the two arcs that take its place, and what each passes through for a unit of its flow
pub record Branch : Type 0 where
  pub n : Spoke
  pub ka : ℕ
  pub kb : ℕ
  pub ma : ℚ
  pub mb : ℚ

abbrev pub Each : (Branch → Type 0) → List Branch → Type 0
Each P [] = Unit {0}
Each P (B ∷ bs) = P B × Each P bs

pub each : {P Q : Branch → Type 0} (bs : List Branch) → ((B : Branch) → P B → Q B) → Each P bs → Each Q bs
each [] f h = tt
each (B ∷ bs) f h = (f B h.0, each bs f h.1)

each₂ : {P Q R : Branch → Type 0} (bs : List Branch) → ((B : Branch) → P B → Q B → R B) → Each P bs → Each Q bs → Each R bs
each₂ [] f h g = tt
each₂ (B ∷ bs) f h g = (f B h.0 g.0, each₂ bs f h.1 g.1)

each₃ : {P Q R S : Branch → Type 0} (bs : List Branch) → ((B : Branch) → P B → Q B → R B → S B) → Each P bs → Each Q bs → Each R bs → Each S bs
each₃ [] f p q r = tt
each₃ (B ∷ bs) f p q r = (f B p.0 q.0 r.0, each₃ bs f p.1 q.1 r.1)

each₄ : {P Q R S W : Branch → Type 0} (bs : List Branch) → ((B : Branch) → P B → Q B → R B → S B → W B) → Each P bs → Each Q bs → Each R bs → Each S bs → Each W bs
each₄ [] f p q r s = tt
each₄ (B ∷ bs) f p q r s = (f B p.0 q.0 r.0 s.0, each₄ bs f p.1 q.1 r.1 s.1)

-- the old numbers (those of `spare` are of columns that are gone), and the new ones
abbrev pub arcs-of : List Branch → List ℕ → List ℕ
arcs-of [] spare = spare
arcs-of (B ∷ bs) spare = B.n.arc ∷ arcs-of bs spare

abbrev pub numbers_of_lem : List Branch → List ℕ
numbers_of_lem [] = []
numbers_of_lem (B ∷ bs) = B.ka ∷ B.kb ∷ numbers_of_lem bs

abbrev pub old_of : Spoke → Spoke → List Branch → List ℕ → List ℕ
old_of a b bs spare = a.arc ∷ b.arc ∷ arcs-of bs spare

abbrev pub new-of : Option ℕ → List Branch → List ℕ
new-of none bs = numbers_of_lem bs
new-of (some k) bs = k ∷ numbers_of_lem bs

-- what the transfer arc takes from a to b
abbrev pub taken : Option ℕ → ℚ → (ℕ → ℚ) → ℚ
taken none m x = 𝟘
taken (some k) m x = m *ℚ x k

pub record BranchAt (N N' : LP) (i : ℕ) (σ : ℚ) (a b : Spoke) (B : Branch) : Type 0 where
  pub at_n : SpokeAt N i B.n
  pub against : σ *ℚ B.n.e <ℚ 𝟘
  pub open_n : Open (N.col B.n.arc)
  pub new_a : Through N a B.n B.ma (N'.col B.ka)
  pub new_b : Through N b B.n B.mb (N'.col B.kb)
  pub with_a : 𝟘 <ℚ σ *ℚ B.ma
  pub with_b : 𝟘 <ℚ σ *ℚ B.mb
  pub open_a : Open (N'.col B.ka)
  pub open_b : Open (N'.col B.kb)

-- the transfer arc runs from a's far end to b's; its bounds are its flows at which b and a stand at their lower bounds. With no supply and lower bounds 0 there is none.
pub data Transfer (N N' : LP) (i : ℕ) (σ : ℚ) (a b : Spoke) (la lb m : ℚ) : Option ℕ → Type 0 where
  idle : N.rhs i ≡ 𝟘 → la ≡ 𝟘 → lb ≡ 𝟘 → Transfer N N' i σ a b la lb m none
  arc : {k : ℕ} → Through N b a m (N'.col k) → 𝟘 <ℚ σ *ℚ m → (low high : ℚ)
      → (N'.col k).lower ≡ some low → m *ℚ low ≡ b.e *ℚ lb
      → (N'.col k).upper ≡ some high → m *ℚ high ≡ N.rhs i +ℚ -ℚ (a.e *ℚ la)
      → low ≤ℚ high → Transfer N N' i σ a b la lb m (some k)

pub record Junction (N N' : LP) (i : ℕ) (σ : ℚ) (a b : Spoke) (la lb : ℚ) (bs : List Branch) (spare : List ℕ) (kz : Option ℕ) (mz : ℚ) : Type 0 where
  pub sign : PlusMinus σ
  pub listed_i : Once i N.rows
  pub at_a : SpokeAt N i a
  pub at_b : SpokeAt N i b
  pub with_a : 𝟘 <ℚ σ *ℚ a.e
  pub with_b : 𝟘 <ℚ σ *ℚ b.e
  pub lower_a : (N.col a.arc).lower ≡ some la
  pub lower_b : (N.col b.arc).lower ≡ some lb
  pub free_a : (N.col a.arc).upper ≡ none
  pub free_b : (N.col b.arc).upper ≡ none
  pub branches : Each (BranchAt N N' i σ a b) bs
  pub spare_listed : All (λ c. Once c N.cols) spare
  pub spare_gone : All (λ c. Gone (N.col c)) spare
  pub different : Distinct (old_of a b bs spare)
  pub alone : (c : ℕ) → Memᴰ c N.cols → Absent c (old_of a b bs spare) → (N.col c).coef i ≡ 𝟘
  -- the reduced network
  pub rows_same : N'.rows ≡ N.rows
  pub cols_same : N'.cols ≡ N.cols
  pub renumbered : Perm (old_of a b bs spare) (new-of kz bs)
  pub same : (c : ℕ) → Memᴰ c N.cols → Absent c (old_of a b bs spare) → N'.col c ≡ N.col c
  pub transfer : Transfer N N' i σ a b la lb mz kz
  pub rhs_is : (s : ℕ) → Memᴰ s N.rows → N'.rhs s ≡ N.rhs s +ℚ -ℚ ((N.col a.arc).coef s *ℚ (N.rhs i *ℚ inv a.e))
  pub constant_is : N'.constant ≡ N.constant +ℚ (N.col a.arc).cost *ℚ (N.rhs i *ℚ inv a.e)

-- ---- postsolve

abbrev pub junction-values : List Branch → (ℕ → ℚ) → List ℚ
junction-values [] x = []
junction-values (B ∷ bs) x = -ℚ ((B.ma *ℚ x B.ka +ℚ B.mb *ℚ x B.kb) *ℚ inv B.n.e) ∷ junction-values bs x

abbrev pub flow-a : LP → (i : ℕ) (a : Spoke) (bs : List Branch) (kz : Option ℕ) (mz : ℚ) → (ℕ → ℚ) → ℚ
flow-a N i a bs kz mz x = (N.rhs i +ℚ -ℚ taken kz mz x +ℚ sum bs (λ B. B.ma *ℚ x B.ka)) *ℚ inv a.e

abbrev pub flow-b : (b : Spoke) (bs : List Branch) (kz : Option ℕ) (mz : ℚ) → (ℕ → ℚ) → ℚ
flow-b b bs kz mz x = (taken kz mz x +ℚ sum bs (λ B. B.mb *ℚ x B.kb)) *ℚ inv b.e

-- the flow; the numbers `spare` were gone, and have the flow 0
abbrev pub zeros : List ℕ → List ℚ
zeros [] = []
zeros (k ∷ ks) = 𝟘 ∷ zeros ks

abbrev pub append : List ℚ → List ℚ → List ℚ
append [] r = r
append (v ∷ vs) r = v ∷ append vs r

abbrev pub junction-flow : LP → (i : ℕ) (a b : Spoke) (bs : List Branch) (spare : List ℕ) (kz : Option ℕ) (mz : ℚ) → (ℕ → ℚ) → ℕ → ℚ
junction-flow N i a b bs spare kz mz x = puts (old_of a b bs spare) (flow-a N i a bs kz mz x ∷ flow-b b bs kz mz x ∷ append (junction-values bs x) (zeros spare)) x

module _ {N N' : LP} {i : ℕ} {σ : ℚ} {a b : Spoke} {la lb : ℚ} {bs : List Branch} {spare : List ℕ} {kz : Option ℕ} {mz : ℚ} (C : Junction N N' i σ a b la lb bs spare kz mz) where
  -- ---- the frame

  arcs-listed : (bs : List Branch) → Each (BranchAt N N' i σ a b) bs → All (λ c. Once c N.cols) (arcs-of bs spare)
  arcs-listed [] h = C.spare_listed
  arcs-listed (B ∷ bs) h = (h.0.at_n.listed, arcs-listed bs h.1)

  frame : Frame N N' (old_of a b bs spare) (new-of kz bs)
  frame = record {
    rows_same = C.rows_same;
    cols_same = C.cols_same;
    distinct = C.different;
    listed = (C.at_a.listed, (C.at_b.listed, arcs-listed bs C.branches));
    renumbered = C.renumbered;
    same = C.same;
  }

  -- ---- the flows

  record Joined (x x' : ℕ → ℚ) : Type 0 where
    x_a : x a.arc ≡ flow-a N i a bs kz mz x'
    x_b : x b.arc ≡ flow-b b bs kz mz x'
    x_n : Each (λ B. x B.n.arc ≡ -ℚ ((B.ma *ℚ x' B.ka +ℚ B.mb *ℚ x' B.kb) *ℚ inv B.n.e)) bs
    x_off : (c : ℕ) → Absent c (old_of a b bs spare) → x c ≡ x' c

  -- H is what a column has, its coefficient at a row or its cost; H' the same in N'
  module _ (H H' : ℕ → ℚ) (x x' : ℕ → ℚ) where
    Carries : Branch → Type 0
    Carries B = (H' B.ka ≡ B.ma *ℚ inv a.e *ℚ H a.arc +ℚ -ℚ (B.ma *ℚ inv B.n.e) *ℚ H B.n.arc) × (H' B.kb ≡ B.mb *ℚ inv b.e *ℚ H b.arc +ℚ -ℚ (B.mb *ℚ inv B.n.e) *ℚ H B.n.arc)

    spare-zero : (ks : List ℕ) → All (λ c. H c ≡ 𝟘) ks → sum ks (λ c. H c *ℚ x c) ≡ 𝟘
    spare-zero [] h = refl
    spare-zero (k ∷ ks) h = ap₂ (λ u v. u *ℚ x k +ℚ v) h.0 (spare-zero ks h.1) ∙ ring1 ℚ-ring (x k) (λ x. :0 :* x :+ :0 := :0) refl

    branches-carry : (bs : List Branch) → All (λ c. H c ≡ 𝟘) spare → Each Carries bs → Each (λ B. x B.n.arc ≡ -ℚ ((B.ma *ℚ x' B.ka +ℚ B.mb *ℚ x' B.kb) *ℚ inv B.n.e)) bs
        → sum (arcs-of bs spare) (λ c. H c *ℚ x c) +ℚ H a.arc *ℚ (sum bs (λ B. B.ma *ℚ x' B.ka) *ℚ inv a.e) +ℚ H b.arc *ℚ (sum bs (λ B. B.mb *ℚ x' B.kb) *ℚ inv b.e) ≡ sum (numbers_of_lem bs) (λ k. H' k *ℚ x' k)
    unfolding Carries
    branches-carry [] z h e = ap (λ t. t +ℚ H a.arc *ℚ (𝟘 *ℚ inv a.e) +ℚ H b.arc *ℚ (𝟘 *ℚ inv b.e)) (spare-zero spare z) ∙ ring4 ℚ-ring (H a.arc) (inv a.e) (H b.arc) (inv b.e) (λ a i b j. :0 :+ a :* (:0 :* i) :+ b :* (:0 :* j) := :0) refl
    branches-carry (B ∷ bs) z h e =
        ap (λ t. H B.n.arc *ℚ t +ℚ S +ℚ H a.arc *ℚ ((B.ma *ℚ x' B.ka +ℚ P) *ℚ inv a.e) +ℚ H b.arc *ℚ ((B.mb *ℚ x' B.kb +ℚ Q) *ℚ inv b.e)) e.0
        ∙ combo ℚ-ring 𝟙 (branches-carry bs z h.1 e.1)
        (ring14 ℚ-ring (H a.arc) (H b.arc) (H B.n.arc) (inv a.e) (inv b.e) (inv B.n.e) B.ma B.mb (x' B.ka) (x' B.kb) S P Q R
        (λ ha hb hn ia ib ik ma mb y z s p q r. hn :* :neg ((ma :* y :+ mb :* z) :* ik) :+ s :+ ha :* ((ma :* y :+ p) :* ia) :+ hb :* ((mb :* z :+ q) :* ib)
        :- ((ma :* ia :* ha :+ :neg (ma :* ik) :* hn) :* y :+ ((mb :* ib :* hb :+ :neg (mb :* ik) :* hn) :* z :+ r)) := :1 :* (s :+ ha :* (p :* ia) :+ hb :* (q :* ib) :- r)) refl)
        ∙ ap₂ (λ u v. u *ℚ x' B.ka +ℚ (v *ℚ x' B.kb +ℚ R)) (sym h.0.0) (sym h.0.1)
      where
        S : ℚ
        S = sum (arcs-of bs spare) (λ c. H c *ℚ x c)

        P : ℚ
        P = sum bs (λ B. B.ma *ℚ x' B.ka)

        Q : ℚ
        Q = sum bs (λ B. B.mb *ℚ x' B.kb)

        R : ℚ
        R = sum (numbers_of_lem bs) (λ k. H' k *ℚ x' k)

    -- the transfer arc
    Transfers : Option ℕ → Type 0
    Transfers none = Unit {0}
    Transfers (some k) = H' k ≡ mz *ℚ inv b.e *ℚ H b.arc +ℚ -ℚ (mz *ℚ inv a.e) *ℚ H a.arc

    transfer-carries : (o : Option ℕ) → Transfers o → sum (new-of o bs) (λ k. H' k *ℚ x' k) ≡ sum (numbers_of_lem bs) (λ k. H' k *ℚ x' k) +ℚ taken o mz x' *ℚ (H b.arc *ℚ inv b.e +ℚ -ℚ (H a.arc *ℚ inv a.e))
    unfolding Transfers
    transfer-carries none t = ring2 ℚ-ring (sum (numbers_of_lem bs) (λ k. H' k *ℚ x' k)) (H b.arc *ℚ inv b.e +ℚ -ℚ (H a.arc *ℚ inv a.e)) (λ r d. r := r :+ :0 :* d) refl
    transfer-carries (some k) t = ap (λ u. u *ℚ x' k +ℚ sum (numbers_of_lem bs) (λ k. H' k *ℚ x' k)) t
        ∙ ring7 ℚ-ring (sum (numbers_of_lem bs) (λ k. H' k *ℚ x' k)) mz (x' k) (H b.arc) (inv b.e) (H a.arc) (inv a.e) (λ r m z hb ib ha ia. (m :* ib :* hb :+ :neg (m :* ia) :* ha) :* z :+ r := r :+ m :* z :* (hb :* ib :- ha :* ia)) refl

    -- whatever the old columns have, the new ones bring as much of it, but for a's share of the supply
    carried : Joined x x' → All (λ c. H c ≡ 𝟘) spare → Each Carries bs → Transfers kz
        → sum (old_of a b bs spare) (λ c. H c *ℚ x c) ≡ sum (new-of kz bs) (λ k. H' k *ℚ x' k) +ℚ H a.arc *ℚ (N.rhs i *ℚ inv a.e)
    carried J z h t =
        ap₂ (λ u v. H a.arc *ℚ u +ℚ (H b.arc *ℚ v +ℚ S)) J.x_a J.x_b
        ∙ combo2 ℚ-ring 𝟙 (-ℚ 𝟙) (branches-carry bs z h J.x_n) (transfer-carries kz t)
        (ring11 ℚ-ring (H a.arc) (H b.arc) (inv a.e) (inv b.e) (N.rhs i) (taken kz mz x') (sum bs (λ B. B.ma *ℚ x' B.ka)) (sum bs (λ B. B.mb *ℚ x' B.kb)) S (sum (numbers_of_lem bs) (λ k. H' k *ℚ x' k)) (sum (new-of kz bs) (λ k. H' k *ℚ x' k))
        (λ ha hb ia ib r f p q s n w. ha :* ((r :- f :+ p) :* ia) :+ (hb :* ((f :+ q) :* ib) :+ s) :- (w :+ ha :* (r :* ia))
        := :1 :* (s :+ ha :* (p :* ia) :+ hb :* (q :* ib) :- n) :+ :neg :1 :* (w :- (n :+ f :* (hb :* ib :- ha :* ia)))) refl)
      where
        S : ℚ
        S = sum (arcs-of bs spare) (λ c. H c *ℚ x c)

  spare-has : (f : Column → ℚ) → ((c : Column) → Gone c → f c ≡ 𝟘) → (ks : List ℕ) → All (λ c. Gone (N.col c)) ks → All (λ c. f (N.col c) ≡ 𝟘) ks
  spare-has f z [] h = tt
  spare-has f z (k ∷ ks) h = (z (N.col k) h.0, spare-has f z ks h.1)

  module _ (x x' : ℕ → ℚ) (J : Joined x x') where
    matched : Matched N N' (old_of a b bs spare) (new-of kz bs) x x'
    unfolding Carries Transfers
    matched = record {
      off = J.x_off;
      row = λ s m. combo2 ℚ-ring 𝟙 𝟙
          (carried (λ c. (N.col c).coef s) (λ c. (N'.col c).coef s) x x' J (spare-has (λ c. c.coef s) (λ c g. g.coef_0 s) spare C.spare_gone)
          (each bs (λ B h. (through-coef C.at_a h.at_n h.new_a s, through-coef C.at_b h.at_n h.new_b s)) C.branches) (go s C.transfer))
          (C.rhs_is s m)
          (ring5 ℚ-ring (sum (old_of a b bs spare) (λ c. (N.col c).coef s *ℚ x c)) (N'.rhs s) (sum (new-of kz bs) (λ c. (N'.col c).coef s *ℚ x' c)) (N.rhs s) ((N.col a.arc).coef s *ℚ (N.rhs i *ℚ inv a.e))
          (λ o r' n r t. o :+ r' :- (n :+ r) := :1 :* (o :- (n :+ t)) :+ :1 :* (r' :- (r :- t))) refl);
    }
      where
        go : (s : ℕ) {o : Option ℕ} → Transfer N N' i σ a b la lb mz o → Transfers (λ c. (N.col c).coef s) (λ c. (N'.col c).coef s) x x' o
        go s (idle r l m) = tt
        go s (arc T p l h el ml eh mh le) = through-coef C.at_b C.at_a T s

    paid : Paid N N' (old_of a b bs spare) (new-of kz bs) x x'
    unfolding Carries Transfers
    paid = combo2 ℚ-ring 𝟙 (-ℚ 𝟙)
        (carried (λ c. (N.col c).cost) (λ c. (N'.col c).cost) x x' J (spare-has (λ c. c.cost) (λ c g. g.cost_0) spare C.spare_gone)
        (each bs (λ B h. (through-cost C.at_a h.at_n h.new_a, through-cost C.at_b h.at_n h.new_b)) C.branches) (go C.transfer))
        C.constant_is
        (ring5 ℚ-ring (sum (old_of a b bs spare) (λ c. (N.col c).cost *ℚ x c)) N'.constant (sum (new-of kz bs) (λ c. (N'.col c).cost *ℚ x' c)) N.constant ((N.col a.arc).cost *ℚ (N.rhs i *ℚ inv a.e))
        (λ o k' n k t. k :+ o :- (k' :+ n) := :1 :* (o :- (n :+ t)) :+ :neg :1 :* (k' :- (k :+ t))) refl)
      where
        go : {o : Option ℕ} → Transfer N N' i σ a b la lb mz o → Transfers (λ c. (N.col c).cost) (λ c. (N'.col c).cost) x x' o
        go (idle r l m) = tt
        go (arc T p l h el ml eh mh le) = through-cost C.at_b C.at_a T

  -- ---- back: the flow

  reads-n : (g x' : ℕ → ℚ) (bs : List Branch) → Reads g (arcs-of bs spare) (append (junction-values bs x') (zeros spare)) → Each (λ B. g B.n.arc ≡ -ℚ ((B.ma *ℚ x' B.ka +ℚ B.mb *ℚ x' B.kb) *ℚ inv B.n.e)) bs
  reads-n g x' [] r = tt
  reads-n g x' (B ∷ bs) r = (r.0, reads-n g x' bs r.1)

  joined : (x' : ℕ → ℚ) → Joined (junction-flow N i a b bs spare kz mz x') x'
  joined x' = record { x_a = r.0; x_b = r.1.0; x_n = reads-n (junction-flow N i a b bs spare kz mz x') x' bs r.1.1; x_off = λ c h. puts-off (old_of a b bs spare) vs x' c h }
    where
      vs : List ℚ
      vs = flow-a N i a bs kz mz x' ∷ flow-b b bs kz mz x' ∷ append (junction-values bs x') (zeros spare)

      r : (junction-flow N i a b bs spare kz mz x' a.arc ≡ flow-a N i a bs kz mz x') × ((junction-flow N i a b bs spare kz mz x' b.arc ≡ flow-b b bs kz mz x')
          × Reads (junction-flow N i a b bs spare kz mz x') (arcs-of bs spare) (append (junction-values bs x') (zeros spare)))
      r = puts-at (old_of a b bs spare) vs x' C.different

  -- ---- what an optimal pair of the reduced program tells

  members : (bs : List Branch) → Each (λ B. Memᴰ B.ka (numbers_of_lem bs) × Memᴰ B.kb (numbers_of_lem bs)) bs
  members [] = tt
  members (B ∷ bs) = ((Memᴰ.head refl, Memᴰ.tail (Memᴰ.head refl)), each bs (λ B h. (Memᴰ.tail (Memᴰ.tail h.0), Memᴰ.tail (Memᴰ.tail h.1))) (members bs))

  in-new : (o : Option ℕ) (k : ℕ) → Memᴰ k (numbers_of_lem bs) → Memᴰ k (new-of o bs)
  in-new none k m = m
  in-new (some z) k m = Memᴰ.tail m

  module _ (s : Pair) where
    -- σ times the break-even price
    abbrev pub q : Spoke → ℚ
    q n = σ *ℚ quote N n s.price

    -- of a branch: its two flows are not negative, the quotes are in order, and where two quotes differ the arc between them carries nothing
    pub record Facts (B : Branch) : Type 0 where
      pub nn_a : 𝟘 ≤ℚ s.flow B.ka
      pub nn_b : 𝟘 ≤ℚ s.flow B.kb
      pub order_a : q B.n ≤ℚ q a
      pub order_b : q B.n ≤ℚ q b
      pub idle_a : q B.n <ℚ q a → s.flow B.ka ≡ 𝟘
      pub idle_b : q B.n <ℚ q b → s.flow B.kb ≡ 𝟘

    -- of the transfer arc: what it takes leaves a and b at or above their lower bounds, and one of them at it where their quotes differ
    pub record Share (φ : ℚ) : Type 0 where
      pub above_b : 𝟘 ≤ℚ σ *ℚ (φ +ℚ -ℚ (b.e *ℚ lb))
      pub below_a : 𝟘 ≤ℚ σ *ℚ (N.rhs i +ℚ -ℚ (a.e *ℚ la) +ℚ -ℚ φ)
      pub rest_b : q a <ℚ q b → φ ≡ b.e *ℚ lb
      pub rest_a : q b <ℚ q a → φ ≡ N.rhs i +ℚ -ℚ (a.e *ℚ la)

    pub facts : Solved N' s → Each Facts bs
    facts h = each₂ bs fact C.branches (members bs)
      where
        fact : (B : Branch) → BranchAt N N' i σ a b B → (Memᴰ B.ka (numbers_of_lem bs) × Memᴰ B.kb (numbers_of_lem bs)) → Facts B
        fact B A m = record {
          nn_a = (within_new frame s.flow h.feasible B.ka (in-new kz B.ka m.0)).above 𝟘 A.open_a.lower_0;
          nn_b = (within_new frame s.flow h.feasible B.kb (in-new kz B.kb m.1)).above 𝟘 A.open_b.lower_0;
          order_a = through-order C.sign A.with_a C.listed_i C.at_a A.at_n A.new_a (s.flow B.ka) s.price (rule-new frame s h B.ka (in-new kz B.ka m.0)) A.open_a.free;
          order_b = through-order C.sign A.with_b C.listed_i C.at_b A.at_n A.new_b (s.flow B.kb) s.price (rule-new frame s h B.kb (in-new kz B.kb m.1)) A.open_b.free;
          idle_a = λ lt. some_inj (sym (through-idle C.sign A.with_a C.listed_i C.at_a A.at_n A.new_a (s.flow B.ka) s.price (rule-new frame s h B.ka (in-new kz B.ka m.0)) lt) ∙ A.open_a.lower_0);
          idle_b = λ lt. some_inj (sym (through-idle C.sign A.with_b C.listed_i C.at_b A.at_n A.new_b (s.flow B.kb) s.price (rule-new frame s h B.kb (in-new kz B.kb m.1)) lt) ∙ A.open_b.lower_0);
        }

    pub share : Solved N' s → Share (taken kz mz s.flow)
    share h = go C.transfer (λ k e. named k e)
      where
        named : (k : ℕ) → kz ≡ some k → Memᴰ k (new-of kz bs)
        named k e = subst (λ o. Memᴰ k (new-of o bs)) (sym e) (Memᴰ.head refl)

        go : {o : Option ℕ} → Transfer N N' i σ a b la lb mz o → ((k : ℕ) → o ≡ some k → Memᴰ k (new-of kz bs)) → Share (taken o mz s.flow)
        go (idle r l m) _ = record {
          above_b = le_of_eq (ring2 ℚ-ring σ b.e (λ s e. :0 := s :* (:0 :- e :* :0)) refl ∙ ap (λ t. σ *ℚ (𝟘 +ℚ -ℚ (b.e *ℚ t))) (sym m));
          below_a = le_of_eq (ring2 ℚ-ring σ a.e (λ s e. :0 := s :* (:0 :- e :* :0 :- :0)) refl ∙ ap₂ (λ t u. σ *ℚ (t +ℚ -ℚ (a.e *ℚ u) +ℚ -ℚ 𝟘)) (sym r) (sym l));
          rest_b = λ _. ring1 ℚ-ring b.e (λ e. :0 := e :* :0) refl ∙ ap (λ t. b.e *ℚ t) (sym m);
          rest_a = λ _. ring1 ℚ-ring a.e (λ e. :0 := :0 :- e :* :0) refl ∙ ap₂ (λ t u. t +ℚ -ℚ (a.e *ℚ u)) (sym r) (sym l);
        }
        go (arc {k} T p l u el ml eu mu le) mem = record {
          above_b = subst (λ t. 𝟘 ≤ℚ t) (ring4 ℚ-ring σ mz (s.flow k) l (λ s m z l. s :* m :* (z :- l) := s :* (m :* z :- m :* l)) refl ∙ ap (λ t. σ *ℚ (mz *ℚ s.flow k +ℚ -ℚ t)) ml) (mul_nn' (lt→le p) (sub-nn (w.above l el)));
          below_a = subst (λ t. 𝟘 ≤ℚ t) (ring4 ℚ-ring σ mz (s.flow k) u (λ s m z u. s :* m :* (u :- z) := s :* (m :* u :- m :* z)) refl ∙ ap (λ t. σ *ℚ (t +ℚ -ℚ (mz *ℚ s.flow k))) mu) (mul_nn' (lt→le p) (sub-nn (w.below u eu)));
          rest_b = λ lt. ap (λ t. mz *ℚ t) (some_inj (sym (through-idle C.sign p C.listed_i C.at_b C.at_a T (s.flow k) s.price f lt) ∙ el)) ∙ ml;
          rest_a = λ lt. ap (λ t. mz *ℚ t) (some_inj (sym (through-full C.sign p C.listed_i C.at_b C.at_a T (s.flow k) s.price f lt) ∙ eu)) ∙ mu;
        }
          where
            w : InBounds (N'.col k) (s.flow k)
            w = within_new frame s.flow h.feasible k (mem k refl)

            f : PriceRule N.rows (N'.col k) (s.flow k) s.price
            f = rule-new frame s h k (mem k refl)

    -- a price for the node: between the quotes of the n and those of a and b; and where it is off a's quote or b's, the transfer arc leaves that arc at its lower bound
    pub record Fair (π : ℚ) : Type 0 where
      pub n_below : Each (λ B. q B.n ≤ℚ σ *ℚ π) bs
      pub a_above : σ *ℚ π ≤ℚ q a
      pub b_above : σ *ℚ π ≤ℚ q b
      pub a_rest : σ *ℚ π <ℚ q a → taken kz mz s.flow ≡ N.rhs i +ℚ -ℚ (a.e *ℚ la)
      pub b_rest : σ *ℚ π <ℚ q b → taken kz mz s.flow ≡ b.e *ℚ lb

    -- the quote of a or of b, whichever is the nearer one, is fair
    pub fair-a : Solved N' s → q a ≤ℚ q b → Fair (quote N a s.price)
    fair-a h le = record { n_below = each {P = Facts} bs (λ B f. f.order_a) (facts h); a_above = le_refl (q a); b_above = le; a_rest = λ lt. absurd (lt (le_refl (q a))); b_rest = λ lt. (share h).rest_b lt }

    pub fair-b : Solved N' s → q b ≤ℚ q a → Fair (quote N b s.price)
    fair-b h le = record { n_below = each {P = Facts} bs (λ B f. f.order_b) (facts h); a_above = le; b_above = le_refl (q b); a_rest = λ lt. (share h).rest_a lt; b_rest = λ lt. absurd (lt (le_refl (q b))) }

    module _ (h : Solved N' s) (π : ℚ) (F : Fair π) where
      x : ℕ → ℚ
      x = junction-flow N i a b bs spare kz mz s.flow

      J : Joined x s.flow
      unfolding x
      J = joined s.flow

      Ya : ℚ
      Ya = sum bs (λ B. B.ma *ℚ s.flow B.ka)

      Yb : ℚ
      Yb = sum bs (λ B. B.mb *ℚ s.flow B.kb)

      over : (e y : ℚ) → ¬ (e ≡ 𝟘) → e *ℚ (y *ℚ inv e) ≡ y
      over e y z = combo ℚ-ring y (mul_inv e z) (ring3 ℚ-ring e y (inv e) (λ e y i. e :* (y :* i) :- y := y :* (e :* i :- :1)) refl)

      link-a : a.e *ℚ x a.arc ≡ N.rhs i +ℚ -ℚ taken kz mz s.flow +ℚ Ya
      unfolding Ya
      link-a = ap (λ t. a.e *ℚ t) J.x_a ∙ over a.e (N.rhs i +ℚ -ℚ taken kz mz s.flow +ℚ sum bs (λ B. B.ma *ℚ s.flow B.ka)) C.at_a.nonzero

      link-b : b.e *ℚ x b.arc ≡ taken kz mz s.flow +ℚ Yb
      unfolding Yb
      link-b = ap (λ t. b.e *ℚ t) J.x_b ∙ over b.e (taken kz mz s.flow +ℚ sum bs (λ B. B.mb *ℚ s.flow B.kb)) C.at_b.nonzero

      -- sums of what passes through
      sum-side : (bs : List Branch) (m : Branch → ℚ) (k : Branch → ℕ) → Each (λ B. 𝟘 <ℚ σ *ℚ m B) bs → Each (λ B. 𝟘 ≤ℚ s.flow (k B)) bs → 𝟘 ≤ℚ σ *ℚ sum bs (λ B. m B *ℚ s.flow (k B))
      sum-side [] m k p n = le_of_eq (ring1 ℚ-ring σ (λ s. :0 := s :* :0) refl)
      sum-side (B ∷ bs) m k p n = subst (λ t. 𝟘 ≤ℚ t) (ring4 ℚ-ring σ (m B) (s.flow (k B)) (sum bs (λ B. m B *ℚ s.flow (k B))) (λ s m y r. s :* m :* y :+ s :* r := s :* (m :* y :+ r)) refl) (add-nn (mul_nn' (lt→le p.0) n.0) (sum-side bs m k p.1 n.1))

      sum-none : (bs : List Branch) (m : Branch → ℚ) (k : Branch → ℕ) → Each (λ B. s.flow (k B) ≡ 𝟘) bs → sum bs (λ B. m B *ℚ s.flow (k B)) ≡ 𝟘
      sum-none [] m k z = refl
      sum-none (B ∷ bs) m k z = ap₂ (λ u v. m B *ℚ u +ℚ v) z.0 (sum-none bs m k z.1) ∙ ring1 ℚ-ring (m B) (λ m. m :* :0 :+ :0 := :0) refl

      within_a : InBounds (N.col a.arc) (x a.arc)
      unfolding Ya
      within_a = record { above = λ v e. subst (λ t. t ≤ℚ x a.arc) (some_inj (sym C.lower_a ∙ e)) low; below = λ v e. absurd (none-some (sym C.free_a ∙ e)) }
        where
          low : la ≤ℚ x a.arc
          low = le-cancel C.with_a (le-by (add-nn (share h).below_a (sum-side bs (λ B. B.ma) (λ B. B.ka) (each bs (λ B A. A.with_a) C.branches) (each bs (λ B f. f.nn_a) (facts h))))
              (combo ℚ-ring σ link-a (ring7 ℚ-ring σ a.e (x a.arc) la (N.rhs i) (taken kz mz s.flow) Ya (λ s e x l r f y. s :* e :* x :- s :* e :* l :- (s :* (r :- e :* l :- f) :+ s :* y) := s :* (e :* x :- (r :- f :+ y))) refl)))

      within_b : InBounds (N.col b.arc) (x b.arc)
      unfolding Yb
      within_b = record { above = λ v e. subst (λ t. t ≤ℚ x b.arc) (some_inj (sym C.lower_b ∙ e)) low; below = λ v e. absurd (none-some (sym C.free_b ∙ e)) }
        where
          low : lb ≤ℚ x b.arc
          low = le-cancel C.with_b (le-by (add-nn (share h).above_b (sum-side bs (λ B. B.mb) (λ B. B.kb) (each bs (λ B A. A.with_b) C.branches) (each bs (λ B f. f.nn_b) (facts h))))
              (combo ℚ-ring σ link-b (ring6 ℚ-ring σ b.e (x b.arc) lb (taken kz mz s.flow) Yb (λ s e x l f y. s :* e :* x :- s :* e :* l :- (s :* (f :- e :* l) :+ s :* y) := s :* (e :* x :- (f :+ y))) refl)))

      n-flow : Branch → Type 0
      n-flow B = x B.n.arc ≡ -ℚ ((B.ma *ℚ s.flow B.ka +ℚ B.mb *ℚ s.flow B.kb) *ℚ inv B.n.e)

      n-nn : (B : Branch) → BranchAt N N' i σ a b B → Facts B → n-flow B → 𝟘 ≤ℚ x B.n.arc
      unfolding n-flow
      n-nn B A f e = le-cancel {k = -ℚ (σ *ℚ B.n.e)} (λ z. A.against (le-by (sub-nn z) (ring2 ℚ-ring σ B.n.e (λ s e. s :* e :- :0 := :0 :- :neg (s :* e)) refl)))
          (le-by (add-nn (mul_nn' (lt→le A.with_a) f.nn_a) (mul_nn' (lt→le A.with_b) f.nn_b))
          (combo2 ℚ-ring (-ℚ (σ *ℚ B.n.e)) (σ *ℚ (B.ma *ℚ s.flow B.ka +ℚ B.mb *ℚ s.flow B.kb)) e (mul_inv B.n.e A.at_n.nonzero)
          (ring8 ℚ-ring σ B.n.e (inv B.n.e) (x B.n.arc) B.ma (s.flow B.ka) B.mb (s.flow B.kb)
          (λ s e i x m y k z. :neg (s :* e) :* x :- :neg (s :* e) :* :0 :- (s :* m :* y :+ s :* k :* z) := :neg (s :* e) :* (x :- :neg ((m :* y :+ k :* z) :* i)) :+ s :* (m :* y :+ k :* z) :* (e :* i :- :1)) refl)))

      n-zero : (B : Branch) → n-flow B → s.flow B.ka ≡ 𝟘 → s.flow B.kb ≡ 𝟘 → 𝟘 ≡ x B.n.arc
      unfolding n-flow
      n-zero B e u v = ring3 ℚ-ring B.ma B.mb (inv B.n.e) (λ m k i. :0 := :neg ((m :* :0 :+ k :* :0) :* i)) refl ∙ ap₂ (λ y z. -ℚ ((B.ma *ℚ y +ℚ B.mb *ℚ z) *ℚ inv B.n.e)) (sym u) (sym v) ∙ sym e

      rule-n : (B : Branch) → BranchAt N N' i σ a b B → Facts B → n-flow B → q B.n ≤ℚ σ *ℚ π → PriceRule N.rows (N.col B.n.arc) (x B.n.arc) (upd s.price i π)
      rule-n B A f e le = rw (spoke-reduced A.at_n C.listed_i s.price π) (fits-nn _ _ _ _ (against-nn C.sign B.n.e (quote N B.n s.price) π A.against le)
          (λ d. let lt : q B.n <ℚ σ *ℚ π = against-pos C.sign B.n.e (quote N B.n s.price) π A.against d in
          A.open_n.lower_0 ∙ ap some (n-zero B e (f.idle_a (λ g. lt (le_trans (σ *ℚ π) (q a) (q B.n) F.a_above g))) (f.idle_b (λ g. lt (le_trans (σ *ℚ π) (q b) (q B.n) F.b_above g))))))

      rule-a : PriceRule N.rows (N.col a.arc) (x a.arc) (upd s.price i π)
      unfolding Ya
      rule-a = rw (spoke-reduced C.at_a C.listed_i s.price π) (fits-nn _ _ _ _ (with-nn C.sign a.e (quote N a s.price) π C.with_a F.a_above)
          (λ d. let lt : σ *ℚ π <ℚ q a = with-pos C.sign a.e (quote N a s.price) π C.with_a d in C.lower_a ∙ ap some (at_low lt)))
        where
          none-a : σ *ℚ π <ℚ q a → Ya ≡ 𝟘
          none-a lt = sum-none bs (λ B. B.ma) (λ B. B.ka) (each₂ {P = Facts} {Q = λ B. q B.n ≤ℚ σ *ℚ π} bs (λ B f le. f.idle_a (λ g. lt (le_trans (q a) (q B.n) (σ *ℚ π) g le))) (facts h) F.n_below)

          at_low : σ *ℚ π <ℚ q a → la ≡ x a.arc
          at_low lt = mul-cancel C.at_a.nonzero (combo3 ℚ-ring (-ℚ 𝟙) 𝟙 (-ℚ 𝟙) link-a (F.a_rest lt) (none-a lt)
              (ring6 ℚ-ring a.e la (x a.arc) (N.rhs i) (taken kz mz s.flow) Ya (λ e l x r f y. e :* l :- e :* x := :neg :1 :* (e :* x :- (r :- f :+ y)) :+ :1 :* (f :- (r :- e :* l)) :+ :neg :1 :* (y :- :0)) refl))

      rule-b : PriceRule N.rows (N.col b.arc) (x b.arc) (upd s.price i π)
      unfolding Yb
      rule-b = rw (spoke-reduced C.at_b C.listed_i s.price π) (fits-nn _ _ _ _ (with-nn C.sign b.e (quote N b s.price) π C.with_b F.b_above)
          (λ d. let lt : σ *ℚ π <ℚ q b = with-pos C.sign b.e (quote N b s.price) π C.with_b d in C.lower_b ∙ ap some (at_low lt)))
        where
          none-b : σ *ℚ π <ℚ q b → Yb ≡ 𝟘
          none-b lt = sum-none bs (λ B. B.mb) (λ B. B.kb) (each₂ {P = Facts} {Q = λ B. q B.n ≤ℚ σ *ℚ π} bs (λ B f le. f.idle_b (λ g. lt (le_trans (q b) (q B.n) (σ *ℚ π) g le))) (facts h) F.n_below)

          at_low : σ *ℚ π <ℚ q b → lb ≡ x b.arc
          at_low lt = mul-cancel C.at_b.nonzero (combo3 ℚ-ring (-ℚ 𝟙) (-ℚ 𝟙) (-ℚ 𝟙) link-b (F.b_rest lt) (none-b lt)
              (ring5 ℚ-ring b.e lb (x b.arc) (taken kz mz s.flow) Yb (λ e l x f y. e :* l :- e :* x := :neg :1 :* (e :* x :- (f :+ y)) :+ :neg :1 :* (f :- e :* l) :+ :neg :1 :* (y :- :0)) refl))

      spare-within : (ks : List ℕ) → All (λ c. Gone (N.col c)) ks → All (λ c. x c ≡ 𝟘) ks → All (λ c. InBounds (N.col c) (x c)) ks
      spare-within [] g z = tt
      spare-within (k ∷ ks) g z = (subst (InBounds (N.col k)) (sym z.0) (gone-within (N.col k) g.0), spare-within ks g.1 z.1)

      spare-rule : (ks : List ℕ) → All (λ c. Gone (N.col c)) ks → All (λ c. x c ≡ 𝟘) ks → All (λ c. PriceRule N.rows (N.col c) (x c) (upd s.price i π)) ks
      spare-rule [] g z = tt
      spare-rule (k ∷ ks) g z = (fits-closed _ _ _ _ (g.0.lower_0 ∙ ap some (sym z.0)) (g.0.upper_0 ∙ ap some (sym z.0)), spare-rule ks g.1 z.1)

      arcs-all : (P : ℕ → Type 0) (bs : List Branch) → Each (λ B. P B.n.arc) bs → All P spare → All P (arcs-of bs spare)
      arcs-all P [] h z = z
      arcs-all P (B ∷ bs) h z = (h.0, arcs-all P bs h.1 z)

      read-spare : (ks : List ℕ) → Reads x ks (zeros ks) → All (λ c. x c ≡ 𝟘) ks
      read-spare [] r = tt
      read-spare (k ∷ ks) r = (r.0, read-spare ks r.1)

      spare-reads : (bs : List Branch) → Reads x (arcs-of bs spare) (append (junction-values bs s.flow) (zeros spare)) → All (λ c. x c ≡ 𝟘) spare
      spare-reads [] r = read-spare spare r
      spare-reads (B ∷ bs) r = spare-reads bs r.1

      spare-0 : All (λ c. x c ≡ 𝟘) spare
      unfolding x
      spare-0 = spare-reads bs (puts-at (old_of a b bs spare) (flow-a N i a bs kz mz s.flow ∷ flow-b b bs kz mz s.flow ∷ append (junction-values bs s.flow) (zeros spare)) s.flow C.different).1.1

      -- (B): a fair price makes an optimal pair
      solved-at : Solved N (record { flow = x; price = upd s.price i π })
      unfolding n-flow
      solved-at = frame-solved frame x s.flow (upd s.price i π) s.price (matched x s.flow J)
          (within_a, (within_b, arcs-all (λ c. InBounds (N.col c) (x c)) bs (each₃ bs (λ B A f e. open-within (N.col B.n.arc) (x B.n.arc) A.open_n (n-nn B A f e)) C.branches (facts h) J.x_n) (spare-within spare C.spare_gone spare-0)))
          (agree-upd frame s.price i π C.alone) (
            rule-a,
            (
              rule-b,
              arcs-all (λ c. PriceRule N.rows (N.col c) (x c) (upd s.price i π)) bs
                  (each₄ bs (λ B A f e le. rule-n B A f e le) C.branches (facts h) J.x_n F.n_below)
                  (spare-rule spare C.spare_gone spare-0),
            ),
          ) h

  -- ---- on: what the arcs n bring in is shared out as a and b take it

  module _ (x : ℕ → ℚ) (fx : Feasible N x) where
    fa : ℚ
    fa = σ *ℚ (a.e *ℚ x a.arc)

    fb : ℚ
    fb = σ *ℚ (b.e *ℚ x b.arc)

    g : Branch → ℚ
    g B = -ℚ (σ *ℚ (B.n.e *ℚ x B.n.arc))

    G : ℚ
    G = sum bs g

    supply : ℚ
    supply = σ *ℚ N.rhs i

    g-nn : Each (λ B. 𝟘 ≤ℚ g B) bs
    unfolding g
    g-nn = each bs (λ B A. subst (λ t. 𝟘 ≤ℚ t) (ring3 ℚ-ring σ B.n.e (x B.n.arc) (λ s e x. (:0 :- s :* e) :* x := :neg (s :* (e :* x))) refl)
        (mul_nn' (sub-nn (lt→le A.against)) ((fx.within B.n.arc (once-mem A.at_n.listed)).above 𝟘 A.open_n.lower_0))) C.branches

    sum-each-nn : (bs : List Branch) → Each (λ B. 𝟘 ≤ℚ g B) bs → 𝟘 ≤ℚ sum bs g
    sum-each-nn [] h = le_refl 𝟘
    sum-each-nn (B ∷ bs) h = add-nn h.0 (sum-each-nn bs h.1)

    each_below : (bs : List Branch) → Each (λ B. 𝟘 ≤ℚ g B) bs → Each (λ B. g B ≤ℚ sum bs g) bs
    each_below [] h = tt
    each_below (B ∷ bs) h = (
      le-by (sum-each-nn bs h.1) (ring2 ℚ-ring (g B) (sum bs g) (λ g s. g :+ s :- g := s) refl),
      each {P = λ D. g D ≤ℚ sum bs g} bs (λ D le. le_trans (g D) (sum bs g) (g B +ℚ sum bs g) le (le-by h.0 (ring2 ℚ-ring (g B) (sum bs g) (λ g s. g :+ s :- s := g) refl))) (each_below bs h.1),
    )

    G-nn : 𝟘 ≤ℚ G
    unfolding G
    G-nn = sum-each-nn bs g-nn

    -- the balance at the node
    arcs-at-i : (bs : List Branch) → Each (BranchAt N N' i σ a b) bs → -ℚ (σ *ℚ sum (arcs-of bs spare) (λ c. (N.col c).coef i *ℚ x c)) ≡ sum bs g
    unfolding g
    arcs-at-i [] h = ap (λ t. -ℚ (σ *ℚ t)) (spare-zero (λ c. (N.col c).coef i) (λ c. 𝟘) x x spare (spare-has (λ c. c.coef i) (λ c g. g.coef_0 i) spare C.spare_gone)) ∙ ring1 ℚ-ring σ (λ s. :neg (s :* :0) := :0) refl
    arcs-at-i (B ∷ bs) h = ring3 ℚ-ring σ ((N.col B.n.arc).coef i *ℚ x B.n.arc) (sum (arcs-of bs spare) (λ c. (N.col c).coef i *ℚ x c)) (λ s u v. :neg (s :* (u :+ v)) := :neg (s :* u) :+ :neg (s :* v)) refl
        ∙ ap₂ (λ u v. -ℚ (σ *ℚ (u *ℚ x B.n.arc)) +ℚ v) (spoke-e h.0.at_n) (arcs-at-i bs h.1)

    even : fa +ℚ fb ≡ supply +ℚ G
    unfolding fa fb supply G brings
    even = combo2 ℚ-ring σ 𝟙 at_i (arcs-at-i bs C.branches)
        (ring6 ℚ-ring σ (a.e *ℚ x a.arc) (b.e *ℚ x b.arc) (N.rhs i) (sum (arcs-of bs spare) (λ c. (N.col c).coef i *ℚ x c)) (sum bs g)
        (λ s u v r t k. s :* u :+ s :* v :- (s :* r :+ k) := s :* (u :+ (v :+ t) :- r) :+ :1 :* (:neg (s :* t) :- k)) refl)
      where
        at_i : a.e *ℚ x a.arc +ℚ (b.e *ℚ x b.arc +ℚ sum (arcs-of bs spare) (λ c. (N.col c).coef i *ℚ x c)) ≡ N.rhs i
        at_i = ap₂ (λ u v. u *ℚ x a.arc +ℚ (v *ℚ x b.arc +ℚ sum (arcs-of bs spare) (λ c. (N.col c).coef i *ℚ x c))) (sym (spoke-e C.at_a)) (sym (spoke-e C.at_b))
            ∙ sym (sum-at-named (old_of a b bs spare) (λ c. (N.col c).coef i *ℚ x c) C.different (λ c m. all-mem (λ c. Once c N.cols) (old_of a b bs spare) frame.listed c m)
            (λ c m z. ap (λ t. t *ℚ x c) (C.alone c m z) ∙ ring1 ℚ-ring (x c) (λ x. :0 :* x := :0) refl))
            ∙ fx.balance i (once-mem C.listed_i)

    -- lower bounds, times the multipliers
    Ea : ℚ
    Ea = σ *ℚ (a.e *ℚ la)

    Eb : ℚ
    Eb = σ *ℚ (b.e *ℚ lb)

    Ea≤fa : Ea ≤ℚ fa
    unfolding Ea fa
    Ea≤fa = le-by (mul_nn' (lt→le C.with_a) (sub-nn ((fx.within a.arc (once-mem C.at_a.listed)).above la C.lower_a))) (ring4 ℚ-ring σ a.e (x a.arc) la (λ s e x l. s :* (e :* x) :- s :* (e :* l) := s :* e :* (x :- l)) refl)

    Eb≤fb : Eb ≤ℚ fb
    unfolding Eb fb
    Eb≤fb = le-by (mul_nn' (lt→le C.with_b) (sub-nn ((fx.within b.arc (once-mem C.at_b.listed)).above lb C.lower_b))) (ring4 ℚ-ring σ b.e (x b.arc) lb (λ s e x l. s :* (e :* x) :- s :* (e :* l) := s :* e :* (x :- l)) refl)

    ordered : Eb ≤ℚ supply +ℚ -ℚ Ea
    unfolding Ea Eb supply
    ordered = go C.transfer
      where
        go : {o : Option ℕ} → Transfer N N' i σ a b la lb mz o → σ *ℚ (b.e *ℚ lb) ≤ℚ σ *ℚ N.rhs i +ℚ -ℚ (σ *ℚ (a.e *ℚ la))
        go (idle r l m) = le_of_eq (ap (λ t. σ *ℚ (b.e *ℚ t)) m ∙ ring3 ℚ-ring σ b.e a.e (λ s b a. s :* (b :* :0) := s :* :0 :- s :* (a :* :0)) refl ∙ ap₂ (λ t u. σ *ℚ t +ℚ -ℚ (σ *ℚ (a.e *ℚ u))) (sym r) (sym l))
        go (arc T p l u el ml eu mu le) = le-by (mul_nn' (lt→le p) (sub-nn le)) (combo2 ℚ-ring (-ℚ σ) σ mu ml
            (ring8 ℚ-ring σ (N.rhs i) a.e la (b.e *ℚ lb) mz l u (λ s r e l t m lo hi. s :* r :- s :* (e :* l) :- s :* t :- s :* m :* (hi :- lo) := :neg s :* (m :* hi :- (r :- e :* l)) :+ s :* (m :* lo :- t)) refl))

    -- what b takes of the supply
    φ : ℚ
    φ = larger Eb (supply +ℚ -ℚ fa)

    record Fitting (f : ℚ) : Type 0 where
      above_b : Eb ≤ℚ f
      above_a : supply +ℚ -ℚ fa ≤ℚ f
      below_a : f ≤ℚ supply +ℚ -ℚ Ea
      below_b : f ≤ℚ fb

    fitting : Fitting φ
    unfolding φ
    fitting = larger-is Eb (supply +ℚ -ℚ fa) Fitting
        (λ h. record { above_b = le_refl Eb; above_a = h; below_a = ordered; below_b = Eb≤fb })
        (λ h. record {
          above_b = h;
          above_a = le_refl _;
          below_a = le-by (sub-nn Ea≤fa) (ring3 ℚ-ring supply Ea fa (λ s e f. s :- e :- (s :- f) := f :- e) refl);
          below_b = le-by G-nn (combo ℚ-ring 𝟙 even (ring4 ℚ-ring supply fa fb G (λ s a b g. b :- (s :- a) :- g := :1 :* (a :+ b :- (s :+ g))) refl));
        })

    sa : ℚ
    sa = fa +ℚ -ℚ supply +ℚ φ

    sb : ℚ
    sb = fb +ℚ -ℚ φ

    sa-nn : 𝟘 ≤ℚ sa
    unfolding sa
    sa-nn = subst (λ t. 𝟘 ≤ℚ t) (ring3 ℚ-ring supply fa φ (λ s f p. p :- (s :- f) := f :- s :+ p) refl) (sub-nn fitting.above_a)

    sb-nn : 𝟘 ≤ℚ sb
    unfolding sb
    sb-nn = sub-nn fitting.below_b

    G-is : G ≡ sa +ℚ sb
    unfolding sa sb
    G-is = combo ℚ-ring (-ℚ 𝟙) even (ring5 ℚ-ring G supply fa fb φ (λ g s a b p. g :- (a :- s :+ p :+ (b :- p)) := :neg :1 :* (a :+ b :- (s :+ g))) refl)

    -- the new flows
    va : Branch → ℚ
    va B = g B *ℚ sa *ℚ inv G *ℚ inv (σ *ℚ B.ma)

    vb : Branch → ℚ
    vb B = g B *ℚ sb *ℚ inv G *ℚ inv (σ *ℚ B.mb)

    values : List Branch → List ℚ
    values [] = []
    values (B ∷ bs) = va B ∷ vb B ∷ values bs

    new-values : Option ℕ → List ℚ
    new-values none = values bs
    new-values (some k) = (φ *ℚ inv (σ *ℚ mz)) ∷ values bs

    x' : ℕ → ℚ
    x' = puts (new-of kz bs) (new-values kz) x

    reads-each : (f : ℕ → ℚ) (bs : List Branch) → Reads f (numbers_of_lem bs) (values bs) → Each (λ B. (f B.ka ≡ va B) × (f B.kb ≡ vb B)) bs
    unfolding values
    reads-each f [] r = tt
    reads-each f (B ∷ bs) r = ((r.0, r.1.0), reads-each f bs r.1.1)

    reads-new : (f : ℕ → ℚ) (o : Option ℕ) → Reads f (new-of o bs) (new-values o) → Each (λ B. (f B.ka ≡ va B) × (f B.kb ≡ vb B)) bs
    unfolding new-values
    reads-new f none r = reads-each f bs r
    reads-new f (some k) r = reads-each f bs r.1

    reads : Reads x' (new-of kz bs) (new-values kz)
    unfolding x'
    reads = puts-at (new-of kz bs) (new-values kz) x (distinct-perm C.renumbered C.different)

    read : Each (λ B. (x' B.ka ≡ va B) × (x' B.kb ≡ vb B)) bs
    read = reads-new x' kz reads

    -- m y / (σ m) is σ y
    unscale : (m y : ℚ) → 𝟘 <ℚ σ *ℚ m → m *ℚ (y *ℚ inv (σ *ℚ m)) ≡ σ *ℚ y
    unscale m y h = combo2 ℚ-ring (σ *ℚ y) (-ℚ (m *ℚ y *ℚ inv (σ *ℚ m))) (mul_inv (σ *ℚ m) (pos-ne h)) C.sign.square
        (ring4 ℚ-ring σ m y (inv (σ *ℚ m)) (λ s m y i. m :* (y :* i) :- s :* y := s :* y :* (s :* m :* i :- :1) :+ :neg (m :* y :* i) :* (s :* s :- :1)) refl)

    taken_is : taken kz mz x' ≡ σ *ℚ φ
    unfolding new-values Ea Eb supply
    taken_is = go C.transfer reads
      where
        go : {o : Option ℕ} → Transfer N N' i σ a b la lb mz o → Reads x' (new-of o bs) (new-values o) → taken o mz x' ≡ σ *ℚ φ
        go (idle r l m) _ = ring1 ℚ-ring σ (λ s. :0 := s :* :0) refl ∙ ap (λ t. σ *ℚ t) (le_antisym 𝟘 φ
            (subst (λ t. t ≤ℚ φ) (ap (λ t. σ *ℚ (b.e *ℚ t)) m ∙ ring2 ℚ-ring σ b.e (λ s b. s :* (b :* :0) := :0) refl) fitting.above_b)
            (subst (λ t. φ ≤ℚ t) (ap₂ (λ t u. σ *ℚ t +ℚ -ℚ (σ *ℚ (a.e *ℚ u))) r l ∙ ring2 ℚ-ring σ a.e (λ s a. s :* :0 :- s :* (a :* :0) := :0) refl) fitting.below_a))
        go (arc {k} T p lo hi el ml eu mu le) r = ap (λ t. mz *ℚ t) r.0 ∙ unscale mz φ p

    sa-is : sa ≡ fa +ℚ -ℚ supply +ℚ φ
    unfolding sa
    sa-is = refl

    sb-is : sb ≡ fb +ℚ -ℚ φ
    unfolding sb
    sb-is = refl

    both_below : Each (λ B. (𝟘 ≤ℚ g B) × (g B ≤ℚ G)) bs
    unfolding G
    both_below = each₂ {P = λ B. 𝟘 ≤ℚ g B} {Q = λ B. g B ≤ℚ sum bs g} bs (λ B h k. (h, k)) g-nn (each_below bs g-nn)

    off : (c : ℕ) → Absent c (old_of a b bs spare) → x' c ≡ x c
    unfolding x'
    off c h = puts-off (new-of kz bs) (new-values kz) x c (absent-perm C.renumbered h)

    -- sums of the new flows
    sum-new : (bs : List Branch) (m : Branch → ℚ) (k : Branch → ℕ) (t : ℚ) → Each (λ B. 𝟘 <ℚ σ *ℚ m B) bs → Each (λ B. x' (k B) ≡ g B *ℚ t *ℚ inv G *ℚ inv (σ *ℚ m B)) bs → sum bs (λ B. m B *ℚ x' (k B)) ≡ σ *ℚ (sum bs g *ℚ (t *ℚ inv G))
    sum-new [] m k t p r = ring3 ℚ-ring σ t (inv G) (λ s t i. :0 := s :* (:0 :* (t :* i))) refl
    sum-new (B ∷ bs) m k t p r = ap₂ ◌+ℚ◌ (ap (λ u. m B *ℚ u) r.0 ∙ unscale (m B) (g B *ℚ t *ℚ inv G) p.0) (sum-new bs m k t p.1 r.1)
        ∙ ring5 ℚ-ring σ (g B) t (inv G) (sum bs g) (λ s g t i r. s :* (g :* t :* i) :+ s :* (r :* (t :* i)) := s :* ((g :+ r) :* (t :* i))) refl

    whole : (t u : ℚ) → 𝟘 ≤ℚ t → 𝟘 ≤ℚ u → G ≡ t +ℚ u → G *ℚ (t *ℚ inv G) ≡ t
    whole t u ht hu e = ring3 ℚ-ring G t (inv G) (λ g t i. g :* (t :* i) := t :* g :* i) refl ∙ portion t u G ht hu e

    sum-a : sum bs (λ B. B.ma *ℚ x' B.ka) ≡ σ *ℚ sa
    unfolding G va
    sum-a = sum-new bs (λ B. B.ma) (λ B. B.ka) sa (each bs (λ B A. A.with_a) C.branches) (each {P = λ B. (x' B.ka ≡ va B) × (x' B.kb ≡ vb B)} bs (λ B r. r.0) read) ∙ ap (λ t. σ *ℚ t) (whole sa sb sa-nn sb-nn G-is)

    sum-b : sum bs (λ B. B.mb *ℚ x' B.kb) ≡ σ *ℚ sb
    unfolding G vb
    sum-b = sum-new bs (λ B. B.mb) (λ B. B.kb) sb (each bs (λ B A. A.with_b) C.branches) (each {P = λ B. (x' B.ka ≡ va B) × (x' B.kb ≡ vb B)} bs (λ B r. r.1) read)
        ∙ ap (λ t. σ *ℚ t) (whole sb sa sb-nn sa-nn (G-is ∙ ring2 ℚ-ring sa sb (λ a b. a :+ b := b :+ a) refl))

    -- e y / e
    under : (e y t : ℚ) → ¬ (e ≡ 𝟘) → t ≡ e *ℚ y → y ≡ t *ℚ inv e
    under e y t h q = combo2 ℚ-ring (-ℚ y) (-ℚ inv e) (mul_inv e h) q (ring4 ℚ-ring e y t (inv e) (λ e y t i. y :- t :* i := :neg y :* (e :* i :- :1) :+ :neg i :* (t :- e :* y)) refl)

    spread : Joined x x'
    unfolding fa fb supply g va vb
    spread = record {
      x_a = under a.e (x a.arc) (N.rhs i +ℚ -ℚ taken kz mz x' +ℚ sum bs (λ B. B.ma *ℚ x' B.ka)) C.at_a.nonzero
          (ap₂ (λ u v. N.rhs i +ℚ -ℚ u +ℚ v) taken_is sum-a ∙ part-a);
      x_b = under b.e (x b.arc) (taken kz mz x' +ℚ sum bs (λ B. B.mb *ℚ x' B.kb)) C.at_b.nonzero (ap₂ ◌+ℚ◌ taken_is sum-b ∙ part-b);
      x_n = each₃ bs part-n C.branches read both_below;
      x_off = λ c h. sym (off c h);
    }
      where
        part-a : N.rhs i +ℚ -ℚ (σ *ℚ φ) +ℚ σ *ℚ sa ≡ a.e *ℚ x a.arc
        part-a = ap (λ t. N.rhs i +ℚ -ℚ (σ *ℚ φ) +ℚ σ *ℚ t) sa-is ∙ combo ℚ-ring (a.e *ℚ x a.arc +ℚ -ℚ N.rhs i) C.sign.square
            (ring4 ℚ-ring σ (N.rhs i) (a.e *ℚ x a.arc) φ (λ s r u p. r :- s :* p :+ s :* (s :* u :- s :* r :+ p) :- u := (u :- r) :* (s :* s :- :1)) refl)

        part-b : σ *ℚ φ +ℚ σ *ℚ sb ≡ b.e *ℚ x b.arc
        part-b = ap (λ t. σ *ℚ φ +ℚ σ *ℚ t) sb-is ∙ combo ℚ-ring (b.e *ℚ x b.arc) C.sign.square
            (ring3 ℚ-ring σ (b.e *ℚ x b.arc) φ (λ s u p. s :* p :+ s :* (s :* u :- p) :- u := u :* (s :* s :- :1)) refl)

        part-n : (B : Branch) → BranchAt N N' i σ a b B → ((x' B.ka ≡ va B) × (x' B.kb ≡ vb B)) → ((𝟘 ≤ℚ g B) × (g B ≤ℚ G)) → x B.n.arc ≡ -ℚ ((B.ma *ℚ x' B.ka +ℚ B.mb *ℚ x' B.kb) *ℚ inv B.n.e)
        part-n B A r le = under B.n.e (x B.n.arc) (-ℚ (B.ma *ℚ x' B.ka +ℚ B.mb *ℚ x' B.kb)) A.at_n.nonzero
            (ap₂ (λ u v. -ℚ (B.ma *ℚ u +ℚ B.mb *ℚ v)) r.0 r.1 ∙ ap₂ (λ u v. -ℚ (u +ℚ v)) (unscale B.ma (g B *ℚ sa *ℚ inv G) A.with_a) (unscale B.mb (g B *ℚ sb *ℚ inv G) A.with_b)
            ∙ ring5 ℚ-ring σ (g B) sa sb (inv G) (λ s g a b i. :neg (s :* (g :* a :* i) :+ s :* (g :* b :* i)) := :neg (s :* (g :* (a :+ b) :* i))) refl
            ∙ ap (λ t. -ℚ (σ *ℚ (g B *ℚ t *ℚ inv G))) (sym G-is) ∙ ap (λ t. -ℚ (σ *ℚ t)) (portion (g B) (G +ℚ -ℚ g B) G le.0 (sub-nn le.1) (ring2 ℚ-ring G (g B) (λ G g. G := g :+ (G :- g)) refl))
            ∙ combo ℚ-ring (B.n.e *ℚ x B.n.arc) C.sign.square (ring2 ℚ-ring σ (B.n.e *ℚ x B.n.arc) (λ s u. :neg (s :* :neg (s :* u)) :- u := u :* (s :* s :- :1)) refl))
            ∙ ring2 ℚ-ring (B.ma *ℚ x' B.ka +ℚ B.mb *ℚ x' B.kb) (inv B.n.e) (λ t i. :neg t :* i := :neg (t :* i)) refl

    new-nn : (y t m : ℚ) → 𝟘 ≤ℚ y → 𝟘 ≤ℚ t → 𝟘 <ℚ σ *ℚ m → 𝟘 ≤ℚ y *ℚ t *ℚ inv G *ℚ inv (σ *ℚ m)
    new-nn y t m hy ht hm = mul_nn' (mul_nn' (mul_nn' hy ht) (inv-nn₀ G-nn)) (inv-nn hm)

    numbers-within : (bs : List Branch) → Each (BranchAt N N' i σ a b) bs → Each (λ B. 𝟘 ≤ℚ g B) bs → Each (λ B. (x' B.ka ≡ va B) × (x' B.kb ≡ vb B)) bs → All (λ c. InBounds (N'.col c) (x' c)) (numbers_of_lem bs)
    unfolding va vb
    numbers-within [] h n r = tt
    numbers-within (B ∷ bs) h n r = (
      open-within (N'.col B.ka) (x' B.ka) h.0.open_a (subst (λ t. 𝟘 ≤ℚ t) (sym r.0.0) (new-nn (g B) sa B.ma n.0 sa-nn h.0.with_a)),
      (open-within (N'.col B.kb) (x' B.kb) h.0.open_b (subst (λ t. 𝟘 ≤ℚ t) (sym r.0.1) (new-nn (g B) sb B.mb n.0 sb-nn h.0.with_b)), numbers-within bs h.1 n.1 r.1),
    )

    new-within : All (λ c. InBounds (N'.col c) (x' c)) (new-of kz bs)
    unfolding new-values Ea Eb supply
    new-within = go C.transfer reads (numbers-within bs C.branches g-nn read)
      where
        go : {o : Option ℕ} → Transfer N N' i σ a b la lb mz o → Reads x' (new-of o bs) (new-values o) → All (λ c. InBounds (N'.col c) (x' c)) (numbers_of_lem bs) → All (λ c. InBounds (N'.col c) (x' c)) (new-of o bs)
        go (idle r l m) _ w = w
        go (arc {k} T p lo hi el ml eu mu le) r w = (
          record {
            above = λ v e. subst (λ t. t ≤ℚ x' k) (some_inj (sym el ∙ e)) (le-cancel p (le-by (sub-nn fitting.above_b) (combo2 ℚ-ring 𝟙 (-ℚ σ) z-is ml
                (ring6 ℚ-ring σ mz (x' k) lo φ (b.e *ℚ lb) (λ s m z l f t. s :* m :* z :- s :* m :* l :- (f :- s :* t) := :1 :* (s :* m :* z :- f) :+ :neg s :* (m :* l :- t)) refl))));
            below = λ v e. subst (λ t. x' k ≤ℚ t) (some_inj (sym eu ∙ e)) (le-cancel p (le-by (sub-nn fitting.below_a) (combo2 ℚ-ring (-ℚ 𝟙) σ z-is mu
                (ring7 ℚ-ring σ mz (x' k) hi φ (N.rhs i) (a.e *ℚ la) (λ s m z h f r t. s :* m :* h :- s :* m :* z :- (s :* r :- s :* t :- f) := :neg :1 :* (s :* m :* z :- f) :+ s :* (m :* h :- (r :- t))) refl))));
          },
          w,
        )
          where
            z-is : σ *ℚ mz *ℚ x' k ≡ φ
            z-is = ap (λ t. σ *ℚ mz *ℚ t) r.0 ∙ combo ℚ-ring φ (mul_inv (σ *ℚ mz) (pos-ne p)) (ring3 ℚ-ring (σ *ℚ mz) φ (inv (σ *ℚ mz)) (λ m f i. m :* (f :* i) :- f := f :* (m :* i :- :1)) refl)

    on : Feasible N' x'
    on = frame_on frame x x' (matched x x' spread) new-within fx

  -- THE STEP, for any fair choice of the node's price
  pub junction-sound : (π : (ℕ → ℚ) → ℚ) → ((s : Pair) → Solved N' s → Fair s (π s.price))
      → SoundStep N N' (λ s. record { flow = junction-flow N i a b bs spare kz mz s.flow; price = upd s.price i (π s.price) })
  unfolding x
  junction-sound π fair = record {
    solved = λ s h. solved-at s h (π s.price) (fair s h);
    same_value = λ s. frame-value frame (junction-flow N i a b bs spare kz mz s.flow) s.flow (matched _ s.flow (joined s.flow)) (paid _ s.flow (joined s.flow));
    keeps_flow = λ x f. (x' x f, on x f);
  }
