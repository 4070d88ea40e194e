-- Several records: that what all of them give is fair, since only one of the winners deals and one takes the sticks.
use Rattle.std.specs.Prelude.{◌≡◌, true, false, not, ◌||◌, length}
use Rattle.std.proofs.Math.Path.{refl}
use Rattle.std.proofs.Common.{◌∙◌}
use Rattle.std.proofs.Math.Bool.{Bool, cond}
use mathlib.Core.List.{List, [], ◌∷◌}
use Prim.Native.Nat.{ℕ, ◌+◌, ◌*◌, ◌≤◌, ◌<◌}
use native.Mathlib.Omega.{arith}
use borrow.Author.Tests.{ltb-false, eqb-false}
use Rattle.std.proofs.Math.Dec.{ltb, eqb}
use Rattle.tiles.proofs.laws.Below.{or_both}
use Rattle.hand_record.proofs.laws.Bounds.{read_bounds}
use Rattle.hand_rons.specs.Records.{records_of, first_unreadable, not_on_one_tile, is_winner, discarder_of, first_winner, turns_after}
use Rattle.hand_rons.proofs.laws.OneTile.{own_zero, AllRead, all_read, records_length_lem, winner_of, taken, first_once, first_wins}
use Rattle.hand_rons.proofs.laws.First.{none_before}
use Rattle.score.proofs.laws.Z.{up, dn, add_law}
use Rattle.position.specs.declared.Position.{Position}
use Rattle.position.specs.Booking.{result, multi_ron}
use Rattle.position.specs.Ledger.{not_open, refusal_for, refusals_of, is_dealers_win, win_gives, multi_ron_gives, effect_of}
use Rattle.position.specs.search.First.{first_refused}
use Rattle.position.proofs.laws.Form.{open_of}
use Rattle.position.proofs.laws.Accepted.{cond_zero}
use Rattle.position.proofs.laws.Effect.{Fair, finishing_fair}
use Rattle.position.proofs.laws.Fair.{Turns, all_turn, win_turns, win_dn, won_counter}

-- ---- what they give

module _ (g : Position) (x : ℕ) where
  multi_ron_turns : (ss : List (List ℕ)) → AllRead ss → Turns (multi_ron_gives g x ss) (taken x g.sticks ss) 0
  unfolding multi_ron_gives taken
  multi_ron_turns [] r = refl
  multi_ron_turns (s ∷ ss) r =
      let foremost : Bool = eqb (winner_of s) x in
      all_turn (win_gives g s (cond foremost g.counter 0) (cond foremost g.sticks 0)) (multi_ron_gives g x ss) (cond foremost g.sticks 0)
      (taken x g.sticks ss)
      (win_turns g s (cond foremost g.counter 0) (cond foremost g.sticks 0) (read_bounds s r.0).winner) (multi_ron_turns ss r.1)

  times : (k : ℕ) (t : Bool) (n : ℕ) → k * cond t n 0 ≡ cond t (k * n) 0
  times k true n = refl
  times k false n = omega arith

  pub multi_ron_dn : (ss : List (List ℕ)) (i : ℕ)
      → dn (multi_ron_gives g x ss i) ≤ 32000 * length ss + taken g.dealer 16000 ss + taken x (300 * g.counter) ss + up (multi_ron_gives g x ss i)
  unfolding multi_ron_gives taken
  multi_ron_dn [] i = omega arith
  multi_ron_dn (s ∷ ss) i =
      let foremost : Bool = eqb (winner_of s) x in
      let n : ℕ = cond foremost g.counter 0 in
      let k : ℕ = cond foremost g.sticks 0 in
      omega (
        arith,
        win_dn g s n k i,
        multi_ron_dn ss i,
        times 300 foremost g.counter,
        times 16000 (is_dealers_win g s) 1,
        add_law (win_gives g s n k i)
            (multi_ron_gives g x ss i),
      )

-- ---- an accepted set

pub record Accepted (g : Position) (number : ℕ) (s : List ℕ) : Type 0 where
  pub opened : not_open g ≡ false
  pub some : 0 < number
  pub few : number ≤ 3
  pub read : AllRead (records_of number s)
  pub set : not_on_one_tile (records_of number s) ≡ false
  pub scored : first_refused g (records_of number s) ≡ 0

module _ (g : Position) (number : ℕ) (s : List ℕ) where
  abbrev rs : List (List ℕ)
  rs = records_of number s

  pub multi_ron_accepted : refusal_for g (result (multi_ron number s)) ≡ 0 → Accepted g number s
  unfolding refusal_for refusals_of
  multi_ron_accepted e =
      let c3 : ℕ = cond (not_on_one_tile rs) 17 (first_refused g rs) in
      let c2 : ℕ = cond (ltb 0 (first_unreadable rs)) (first_unreadable rs) c3 in
      let p = cond_zero (not_open g) 8 (cond (eqb number 0 || ltb 3 number) 17 c2) e in
      let q = cond_zero (eqb number 0 || ltb 3 number) 16 c2 p.1 in
      let n = or_both (eqb number 0) (ltb 3 number) q.0 in
      let r = own_zero (first_unreadable rs) c3 q.1 in
      let t = cond_zero (not_on_one_tile rs) 16 (first_refused g rs) r.1 in
      let z = eqb-false number 0 n.0 in
      record { opened = p.0; some = omega (arith, z); few = ltb-false 3 number n.1; read = all_read rs r.0; set = t.0; scored = t.1 }

  pub once : (x k : ℕ) → not_on_one_tile rs ≡ false → taken x k rs ≤ k
  once x k e = go (is_winner rs x) (first_once x k rs e)
    where
      go : (t : Bool) → taken x k rs ≡ cond t k 0 → taken x k rs ≤ k
      go true q = omega (arith, q)
      go false q = omega (arith, q)

  pub multi_ron_fair : refusal_for g (result (multi_ron number s)) ≡ 0 → Fair g (effect_of g (result (multi_ron number s)))
  unfolding effect_of
  multi_ron_fair e =
      let a = multi_ron_accepted e in
      let o = open_of g a.opened in
      let x : ℕ = first_winner rs in
      let l = records_length_lem number s in
      let w = first_wins rs (omega (arith, l, a.some)) a.read a.set in
      let k : taken x g.sticks rs ≡ g.sticks = first_once x g.sticks rs a.set ∙ rw w in
      let turns : Turns (multi_ron_gives g x rs) g.sticks 0 = rw k at (multi_ron_turns g x rs a.read) in
      finishing_fair g (multi_ron_gives g x rs) 0 (not (is_winner rs g.dealer)) (cond (is_winner rs g.dealer) (g.counter + 1) 0) o.hands
      (won_counter (is_winner rs g.dealer) g.counter g.hands o.form.counter) turns
      (λ i h. omega (arith, l, a.few, o.form.counter, once g.dealer 16000 a.set, once x (300 * g.counter) a.set, multi_ron_dn g x rs i))

  pub first_winner_lem : refusal_for g (result (multi_ron number s)) ≡ 0
      → (is_winner rs (first_winner rs) ≡ true) × ((seat : ℕ) → is_winner rs seat ≡ true
      → turns_after (discarder_of rs) (first_winner rs) ≤ turns_after (discarder_of rs) seat)
  first_winner_lem e =
      let a = multi_ron_accepted e in
      let some : 0 < length rs = omega (arith, records_length_lem number s, a.some) in
      (first_wins rs some a.read a.set, none_before rs some a.read a.set)
