use Rattle.std.proofs.Common.{rules, ◌≡◌, ℕ, ◌+◌, ◌≤◌, ◌<◌, ◌%◌, get_or, length, List, refl, arith, eq-eqb, ne_eqb}
use Rattle.tiles.specs.Groups.{at_kind}
use Rattle.tiles.specs.Tally.{more}
use Rattle.tiles.proofs.laws.Tally.{at_le, tally_bound, more_adds}
use Rattle.hand.specs.Held.{meld_holds}
use Rattle.hand.proofs.add_meld.Goals as goal

abbrev Same : List ℕ → (ℕ → ℕ) → Type 0
Same t f = (k : ℕ) → k < 34 → get_or t k 0 ≡ f k

one : (t u : List ℕ) (f : ℕ → ℕ) (a n : ℕ) → length t ≡ 34 → u ≡ more t a n → Same t f → Same u (λ k. f k + at_kind a n k)
one t u f a n l e h = more_adds t l u f a n e h

room : (t u : List ℕ) (a b : ℕ) → length t ≡ 34 → length u ≡ 34 → u ≡ more t a 1 → ((k : ℕ) → get_or t k 0 ≤ b) → (k : ℕ) → get_or u k 0 ≤ b + 1
room t u a b l m e h = tally_bound u m (b + 1) (λ k g. rw (one t u (λ j. get_or t j 0) a 1 l e (λ j _. refl) k g) (omega (arith, h k, at_le a 1 k)))

pub add-v-requires : goal.add-v-requires
add-v-requires c =
    omega (arith, room c.args.t c.add-u.result (c.args.b % 64) 240 (search rules) (search rules) c.add-u.ensures c.requires (c.args.b % 64 + 1))

pub add-requires : goal.add-requires
add-requires c =
    omega (
      arith,
      room c.add-u.result c.add-v.result (c.args.b % 64 + 1) 241 (search rules) (search rules) c.add-v.ensures
          (room c.args.t c.add-u.result (c.args.b % 64) 240 (search rules) (search rules) c.add-u.ensures c.requires)
          (c.args.b % 64 + 2),
    )

pub returns-then-b-eq0 : goal.returns-then-b-eq0
unfolding meld_holds
returns-then-b-eq0 c k g =
    let a = c.args in
    let x = a.b % 64 in
    let u = one a.t c.add-u.result (λ j. get_or a.t j 0) x 1 (search rules) c.add-u.ensures (λ j _. refl) in
    let v = one c.add-u.result c.add-v.result (λ j. get_or a.t j 0 + at_kind x 1 j) (x + 1) 1 (search rules) c.add-v.ensures u in
    rw (eq-eqb _ _ c.if-b-eq0.true)
    (omega (
      arith,
      one c.add-v.result c.add.result (λ j. get_or a.t j 0 + at_kind x 1 j + at_kind (x + 1) 1 j) (x + 2) 1 (search rules)
          c.add.ensures v k g,
    ))

pub returns-then-b-eq1 : goal.returns-then-b-eq1
unfolding meld_holds
returns-then-b-eq1 c k g =
    rw (ne_eqb _ _ c.if-b-eq0.false, eq-eqb _ _ c.if-b-eq1.true)
    (one c.args.t c.add-then-b-eq1.result (λ j. get_or c.args.t j 0) (c.args.b % 64) 3 (search rules) c.add-then-b-eq1.ensures (λ j _. refl) k g)

pub returns-else-b-eq1 : goal.returns-else-b-eq1
unfolding meld_holds
returns-else-b-eq1 c k g =
    rw (ne_eqb _ _ c.if-b-eq0.false, ne_eqb _ _ c.if-b-eq1.false)
    (one c.args.t c.add-else-b-eq1.result (λ j. get_or c.args.t j 0) (c.args.b % 64) 4 (search rules) c.add-else-b-eq1.ensures (λ j _. refl) k g)
