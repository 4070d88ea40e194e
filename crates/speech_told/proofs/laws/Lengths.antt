-- How long the parts of a message are.
use Rattle.std.specs.Prelude.{Bool, ◌||◌, cond, ℕ, zero, suc, ◌+◌, ◌≤◌, ◌<◌, eqb, leb, ltb, ℤ, pos, nat_abs, get_or}
use Rattle.std.proofs.Math.Bool.{true, false}
use mathlib.Core.List.{List, [], ◌∷◌, ◌++◌}
use native.Mathlib.Omega.{arith}
use Rattle.std.proofs.Math.ListN.{length, length-append}
use Rattle.std.specs.Int.Signed.{lt_z}
use Rattle.points.specs.Points.{plain}
use Rattle.speech_numerals.specs.Numerals.{numeral}
use Rattle.speech_numerals.proofs.laws.Short.{numeral_short}
use Rattle.speech_told.specs.Phrases.{player, chosen, yaku_clips, limit_clips, is_limit, limit_clip, worth_clips, amount_clips, pays_clips, payments_clips}
use Rattle.speech_told.specs.Phrases.{counted_clips}
use Rattle.speech_told.specs.Phrases.{score_clips, tile_clips}

-- ---- the parts

pub chosen_short : (first : ℕ) (p : ℕ → Bool) (n : ℕ) → length (chosen first p n) ≤ n
unfolding chosen
chosen_short first p zero = omega arith
chosen_short first p (suc n) = rw length-append (go (p n) (chosen_short first p n))
  where
    go : (b : Bool) → length (chosen first p n) ≤ n → length (chosen first p n) + length (cond b ((first + n) ∷ []) []) ≤ suc n
    go true h = omega arith
    go false h = omega arith

pub yaku_short : (y : List Bool) → length (yaku_clips y) ≤ 36
unfolding yaku_clips
yaku_short y = chosen_short 141 (λ k. get_or y (k + 1) false) 36

pub limit_short : (h fu : ℕ) → length (limit_clips h fu) ≤ 1
unfolding limit_clips is_limit limit_clip
limit_short h fu = go (leb 5 h || ltb 2000 (plain h fu)) (cond (leb h 5) 71 (cond (leb h 7) 72 (cond (leb h 10) 73 74)))
  where
    go : (b : Bool) (c : ℕ) → length (cond b (c ∷ []) []) ≤ 1
    go true c = omega arith
    go false c = omega arith

module _ (l : ℕ) where
  pub worth_short : (yakuman : Bool) (h fu : ℕ) → h < 4294967296 → fu < 4294967296 → length (worth_clips l yakuman h fu) ≤ 29
  unfolding worth_clips
  worth_short true h fu f g = omega arith
  worth_short false h fu f g = rw (length-append, length-append) (omega (arith, numeral_short l h f, numeral_short l fu g, limit_short h fu))

  pub amount_short : (who verb n : ℕ) → n < 4294967296 → length (amount_clips l who verb n) ≤ 16
  unfolding amount_clips
  amount_short who verb n h = rw length-append (omega (arith, numeral_short l n h))

  pub pays_short : (dealer seat : ℕ) (z : ℤ) → nat_abs z < 4294967296 → length (pays_clips l dealer seat z) ≤ 16
  unfolding pays_clips
  pays_short dealer seat z h = go (lt_z z (pos 0))
    where
      go : (b : Bool) → length (cond b (amount_clips l (player dealer seat) 66 (nat_abs z)) []) ≤ 16
      go true = amount_short (player dealer seat) 66 (nat_abs z) h
      go false = omega arith

  pub payments_short : (dealer : ℕ) (c : List ℤ) → ((k : ℕ) → nat_abs (get_or c k (pos 0)) < 4294967296) → length (payments_clips l dealer c) ≤ 64
  unfolding payments_clips
  payments_short dealer c f =
      rw (length-append, length-append, length-append)
      (omega (
        arith,
        pays_short dealer 0 (get_or c 0 (pos 0)) (f 0),
        pays_short dealer 1 (get_or c 1 (pos 0)) (f 1),
        pays_short dealer 2 (get_or c 2 (pos 0))
            (f 2),
        pays_short dealer 3 (get_or c 3 (pos 0)) (f 3),
      ))

  pub counted_short : (clip n : ℕ) → n < 4294967296 → length (counted_clips l clip n) ≤ 14
  unfolding counted_clips
  counted_short clip n h = go (eqb n 0)
    where
      go : (b : Bool) → length (cond b [] (clip ∷ numeral l n)) ≤ 14
      go true = omega arith
      go false = omega (arith, numeral_short l n h)

  pub score_short : (dealer seat : ℕ) (z : ℤ) → nat_abs z < 4294967296 → length (score_clips l dealer seat z) ≤ 16
  unfolding score_clips
  score_short dealer seat z h = go (lt_z z (pos 0))
    where
      go : (b : Bool) → length (player dealer seat ∷ (cond b (76 ∷ []) [] ++ (numeral l (nat_abs z) ++ (68 ∷ [])))) ≤ 16
      go true = omega (arith, length-append (numeral l (nat_abs z)) (68 ∷ []), numeral_short l (nat_abs z) h)
      go false = omega (arith, length-append (numeral l (nat_abs z)) (68 ∷ []), numeral_short l (nat_abs z) h)

pub tiles_short : (w : List Bool) → length (tile_clips w) ≤ 34
unfolding tile_clips
tiles_short w = chosen_short 100 (λ k. get_or w k false) 34
