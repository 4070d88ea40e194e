-- "in three suits" (`in_three_suits`) by the groups in turn: a group of man makes it where the same of pin and of sou are among the four.
use Rattle.std.specs.Prelude.{◌≡◌, refl, Bool, true, ◌&&◌, List, leb}
use Rattle.std.proofs.Common.{◌∙◌, add-zero}
use Prim.Native.Nat.{ℕ, ◌+◌, ◌-◌, ◌*◌, ◌<◌}
use native.Mathlib.Omega.{arith}
use borrow.Author.Tests.{ltb-true, lt-ltb, le-leb, leb-true, eqb-true, eq-eqb}
use Rattle.std.proofs.Math.Dec.{ltb, eqb}
use Rattle.std.proofs.Math.ListN.{get_or}
use Rattle.tiles.specs.Below.{all, any}
use Rattle.tiles.proofs.laws.Below.{and_true, both_ways, any_at, any_of}
use Rattle.yaku_basics.specs.Tests.{has, in_three_suits}

module _ (low : ℕ) (g : List ℕ) where
  -- the group c is of man, whose codes are the nine from low on, and the same of pin and of sou are among the four
  abbrev from : ℕ → Bool
  from c = leb low c && ltb c (low + 9) && has g (c + 9) && has g (c + 18)

  abbrev number : ℕ → Bool
  number j = all 3 (λ s. has g (low + j + 9 * s))

  number_of : (i : ℕ) → i < 4 → from (get_or g i 0) ≡ true → in_three_suits low g ≡ true
  unfolding in_three_suits
  number_of i l e =
      let c : ℕ = get_or g i 0 in
      let sou = and_true (leb low c && ltb c (low + 9) && has g (c + 9)) (has g (c + 18)) e in
      let pin = and_true (leb low c && ltb c (low + 9)) (has g (c + 9)) sou.0 in
      let man = and_true (leb low c) (ltb c (low + 9)) pin.0 in
      let least = leb-true low c man.0 in
      let most = ltb-true c (low + 9) man.1 in
      let e0 : low + (c - low) + 0 ≡ c = omega arith in
      let e1 : low + (c - low) + 9 ≡ c + 9 = omega arith in
      let e2 : low + (c - low) + 18 ≡ c + 18 = omega arith in
      any_of number 9 (c - low) (omega arith)
      (rw (e0, e1, e2, any_of (λ k. eqb (get_or g k 0) c) 4 i l (eq-eqb c c refl), pin.1, sou.1))

  from_number : (j : ℕ) → j < 9 → number j ≡ true → any 4 (λ i. from (get_or g i 0)) ≡ true
  from_number j l e =
      let sou = and_true (has g (low + j + 0) && has g (low + j + 9)) (has g (low + j + 18)) e in
      let pin = and_true (has g (low + j + 0)) (has g (low + j + 9)) sou.0 in
      let (i, k, h) = any_at (λ i. eqb (get_or g i 0) (low + j + 0)) 4 pin.0 in
      let q : get_or g i 0 ≡ low + j = eqb-true _ _ h ∙ add-zero (low + j) in
      any_of (λ i. from (get_or g i 0)) 4 i k
      (rw (q, le-leb low (low + j) (omega arith), lt-ltb (low + j) (low + 9) (omega arith), pin.1, sou.1))

  pub groups_in_turn : any 4 (λ i. from (get_or g i 0)) ≡ in_three_suits low g
  unfolding in_three_suits
  groups_in_turn =
      both_ways (any 4 (λ i. from (get_or g i 0))) (in_three_suits low g)
      (λ e. let (i, l, h) = any_at (λ i. from (get_or g i 0)) 4 e in number_of i l h)
      (λ e. let (j, l, h) = any_at number 9 e in from_number j l h)
