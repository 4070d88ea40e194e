-- The most that can be kept in a state: its choices one after the other, up to those that cannot be made.
use Rattle.std.specs.Prelude.{◌≡◌, refl, Bool, true, false, ◌&&◌, ◌||◌, List, ℕ, ◌+◌, ◌-◌, ◌≤◌, ◌<◌, max, leb, eqb, get_or}
use Rattle.std.proofs.Common.{sym, ◌∙◌, arith, le-leb}
use Rattle.std.proofs.lemmas.Bool.{false≢true, lt-leb, eqb-false}
use Rattle.tiles.specs.Kinds.{is_run_start}
use Rattle.ready_choices.specs.declared.Begun.{Begun}
use Rattle.ready_choices.specs.declared.Move.{Move}
use Rattle.ready_choices.specs.search.Moves.{x_of, y_of, z_of, choices, live, may, most, worth}
use Rattle.ready_choices.specs.search.Made.{takes, IsMove, value_of}
use Rattle.ready_choices.proofs.laws.Most.{most_more}
use Rattle.ready_choices.proofs.laws.State.{state_read}
use Rattle.ready_choices.proofs.laws.Makes.{makes_read}
use Rattle.ready_nearest.specs.search.Found.{Pairs, after}
use Rattle.ready_nearest.proofs.laws.Chosen.{worth_value, chose_dead, may_not, special_may, pass, over_groups, begins_run, choices_low}

-- no run, one, two, each without a pair and with one
pub pairs_none : Pairs 0 0
unfolding x_of y_of z_of
pairs_none = record { low = omega arith; runs = (refl, refl); triplets = (refl, refl); pair = (refl, refl) }

pub pairs_one : Pairs 3 1
unfolding x_of y_of z_of
pairs_one = record { low = omega arith; runs = (refl, refl); triplets = (refl, refl); pair = (refl, refl) }

pub pairs_two : Pairs 5 2
unfolding x_of y_of z_of
pairs_two = record { low = omega arith; runs = (refl, refl); triplets = (refl, refl); pair = (refl, refl) }

-- a move that has no room
pub worth_no_more : (v : ℕ) (m : Move) (later have room : ℕ) → room < m.tiles → v ≡ max v (value_of m later have room)
unfolding value_of
worth_no_more v m later have room h = rw (lt-leb m.tiles room h) (omega arith)

-- it leads to one of the 80 states
pub takes_low : (u : Begun) (x y z : ℕ) → x + y ≤ u.groups → z ≤ u.pairs → (takes u x y z).to < 80
unfolding takes
takes_low u x y z g o = omega (arith, (state_read x u.last (u.groups - (x + y)) (u.pairs - z) (omega (arith, u.sum)) (omega (arith, u.one))).low)

module _ (have room : ℕ) (row : List ℕ) (k s : ℕ) where
  -- in a state that a hand cannot be in
  pub none_dead : live k s ≡ false → 0 ≡ most 10 (worth have room (after row) k s)
  none_dead h = (chose_dead have room (after row) k s h).value

  -- one choice more, which can be made
  pub made_more : live k s ≡ true → (e v r : ℕ) (m : Move) → IsMove k s e m → v ≡ most e (worth have room (after row) k s) →
      r ≡ max v (value_of m (get_or row m.to 0) have room) → r ≡ most (e + 1) (worth have room (after row) k s)
  made_more l e v r m h p q = rw (most_more (worth have room (after row) k s) e) (omega (arith, worth_value have room (after row) k s l e m h))

  -- and one that cannot
  pub made_not : (e v : ℕ) → may k s e ≡ false → v ≡ most e (worth have room (after row) k s) → v ≡ most (e + 1) (worth have room (after row) k s)
  made_not e v n h = h ∙ pass have room (after row) k s e (e + 1) (omega arith)
      (λ i a b. let q : i ≡ e = omega arith in rw q n)

  -- two choices in a state of seven pairs or thirteen orphans
  pub special_done : 70 ≤ s → (v : ℕ) → v ≡ most 2 (worth have room (after row) k s) → v ≡ most 10 (worth have room (after row) k s)
  special_done l v h = h ∙ pass have room (after row) k s 2 10 (omega arith) (λ e x y. special_may k s e l x)

module _ (have room : ℕ) (row : List ℕ) (k : ℕ) (u : Begun) (lo : u.state < 70) (l : live k u.state ≡ true) where
  -- one choice more in a state of a regular hand
  pub takes_more : (e x y z v r : ℕ) → x_of e ≡ x → y_of e ≡ y → z_of e ≡ z → x + y ≤ u.groups → z ≤ u.pairs → (0 < x → is_run_start k ≡ true) →
      v ≡ most e (worth have room (after row) k u.state) → (m : Move) → m ≡ takes u x y z →
      r ≡ max v (value_of m (get_or row m.to 0) have room) → r ≡ most (e + 1) (worth have room (after row) k u.state)
  takes_more e x y z v r ex ey ez hg hp hr p m em q =
      made_more have room row k u.state l e v r m (rw em (makes_read k e x y z u (is_run_start k) lo refl (sym ex) (sym ey) (sym ez) test)) p q
    where
      begun : (b : Bool) → eqb x 0 ≡ b → b || is_run_start k ≡ true
      begun true o = refl
      begun false o = let n : x ≡ 0 → ⊥ = eqb-false x 0 o in hr (omega arith)

      test : leb (x + y) u.groups && leb z u.pairs && (eqb x 0 || is_run_start k) ≡ true
      test = rw (le-leb (x + y) u.groups hg, le-leb z u.pairs hp) (begun (eqb x 0) refl)

  -- the triplet; a run and the triplet; three runs; four: each after the choices before it
  pub with_triplet : (v r : ℕ) (m : Move) → 1 ≤ u.groups → v ≡ most 2 (worth have room (after row) k u.state) → m ≡ takes u 0 1 0
      → r ≡ max v (value_of m (get_or row m.to 0) have room) → r ≡ most 3 (worth have room (after row) k u.state)
  unfolding x_of y_of z_of
  with_triplet v r m g h e q = takes_more 2 0 1 0 v r refl refl refl (omega arith) (omega arith) (λ o. absurd (omega arith)) h m e q

  pub with_both : (v r : ℕ) (m : Move) → 2 ≤ u.groups → is_run_start k ≡ true → v ≡ most 7 (worth have room (after row) k u.state) → m ≡ takes u 1 1 0
      → r ≡ max v (value_of m (get_or row m.to 0) have room) → r ≡ most 8 (worth have room (after row) k u.state)
  unfolding x_of y_of z_of
  with_both v r m g s h e q = takes_more 7 1 1 0 v r refl refl refl (omega arith) (omega arith) (λ o. s) h m e q

  pub with_three : (v r : ℕ) (m : Move) → 3 ≤ u.groups → is_run_start k ≡ true → v ≡ most 8 (worth have room (after row) k u.state) → m ≡ takes u 3 0 0
      → r ≡ max v (value_of m (get_or row m.to 0) have room) → r ≡ most 9 (worth have room (after row) k u.state)
  unfolding x_of y_of z_of
  with_three v r m g s h e q = takes_more 8 3 0 0 v r refl refl refl (omega arith) (omega arith) (λ o. s) h m e q

  pub with_four : (v r : ℕ) (m : Move) → 4 ≤ u.groups → is_run_start k ≡ true → v ≡ most 9 (worth have room (after row) k u.state) → m ≡ takes u 4 0 0
      → r ≡ max v (value_of m (get_or row m.to 0) have room) → r ≡ most 10 (worth have room (after row) k u.state)
  unfolding x_of y_of z_of
  with_four v r m g s h e q = takes_more 9 4 0 0 v r refl refl refl (omega arith) (omega arith) (λ o. s) h m e q

  -- without a pair to come
  pub pair_not : (e v : ℕ) → u.pairs ≡ 0 → z_of e ≡ 1 → v ≡ most e (worth have room (after row) k u.state) → v ≡ most (e + 1) (worth have room (after row) k u.state)
  pair_not e v o z h = made_not have room row k u.state e v (may_not k u.state e lo (λ x y w. omega (arith, u.pair lo))) h

  -- past the choices that the groups left allow
  pub groups_done : (n v : ℕ) → choices u.groups ≡ n → v ≡ most n (worth have room (after row) k u.state) → v ≡ most 10 (worth have room (after row) k u.state)
  groups_done n v q h = h ∙ pass have room (after row) k u.state n 10 (omega (arith, choices_low u.groups))
      (λ e a b. may_not k u.state e lo (λ x y z. omega (arith, over_groups u.groups e (omega (arith, u.sum)) b (omega arith), u.left lo)))

  -- past the first three where no run begins
  pub runs_done : is_run_start k ≡ false → (v : ℕ) → v ≡ most 3 (worth have room (after row) k u.state) → v ≡ most 10 (worth have room (after row) k u.state)
  runs_done q v h = h ∙ pass have room (after row) k u.state 3 10 (omega arith)
      (λ e a b. may_not k u.state e lo (λ x y z. false≢true (sym q ∙ z (begins_run e b a))))
