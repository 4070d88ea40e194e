-- Of all bytes and discards there is exactly one answer, and it is the one that is found.
use Rattle.std.specs.Prelude.{◌≡◌, ◌↔◌, List, ℕ, ◌≤◌, ◌<◌, ltb}
use Rattle.std.proofs.Math.Path.{refl}
use Rattle.std.proofs.Common.{sym, ap, ◌∙◌, arith, ltb-true, ltb-false, lt-ltb, le-ltb, ext_get_or}
use mathlib.Core.Bool.{Bool, true, false, cond}
use Rattle.std.proofs.Math.ListN.{get_or}
use Rattle.std.specs.List.{list_any, All}
use Rattle.std.proofs.lemmas.List.Folds.{list_any_at}
use Rattle.tiles.proofs.laws.Below.{both_ways}
use Rattle.unfinished.specs.Unfinished.{Unfinished}
use Rattle.unfinished.specs.Unfinished.{held_of, refusal_of, read_of}
use Rattle.unfinished.proofs.laws.Sound.{refusal_is, held_is}
use Rattle.waits.specs.declared.Waits.{Waits}
use Rattle.waits.specs.Waits.{Discarded, OverAmong, refused_with, IsWaits, unreadable, fifteen, answered}
use Rattle.waits.specs.search.Found.{wait_set, found_of}
use Rattle.waits.proofs.laws.Found.{length_waits, set_exactly, any_exactly}

-- ---- what is found is an answer

pub over_exactly : (d : List ℕ) → (list_any (ltb 33) d ≡ true) ↔ OverAmong d
over_exactly d =
    let a = any_exactly d (ltb 33) in
    (λ e. let r = a.0 e in (r.0, r.1, ltb-true 33 r.0 r.2), λ o. a.1 (o.0, o.1, lt-ltb 33 o.0 o.2))

-- discards none of which is over 33 are kinds
pub all_kinds : (d : List ℕ) → list_any (ltb 33) d ≡ false → All (λ k. k < 34) d
all_kinds d e k x h = go (ltb 33 (get_or d k x)) refl
  where
    go : (b : Bool) → ltb 33 (get_or d k x) ≡ b → get_or d k x < 34
    go true q = absurd (mathlib.Core.Bool.false≢true (sym e ∙ list_any_at (ltb 33) d k x h q))
    go false q = omega (arith, ltb-false 33 (get_or d k x) q)

module _ (s d : List ℕ) where
  abbrev W : List Bool
  W = wait_set (held_of s)

  furiten_exactly : (list_any (λ k. get_or W k false) d ≡ true) ↔ Discarded (held_of s) d
  furiten_exactly =
      let a = any_exactly d (λ k. get_or W k false) in (
        λ e. let r = a.0 e in (r.0, r.1, (set_exactly (held_of s) r.0).0 r.2),
        λ o. a.1 (o.0, o.1, (set_exactly (held_of s) o.0).1 o.2),
      )

  pub found : IsWaits s d (found_of s d)
  unfolding found_of
  found = first (ltb 0 (refusal_of s)) refl
    where
      second : refusal_of s ≡ 0 → (b : Bool) → list_any (ltb 33) d ≡ b
          → IsWaits s d (cond b (refused_with 15) (record { refusal = 0; waits = W; furiten = list_any (λ k. get_or W k false) d }))
      second z true e = fifteen z ((over_exactly d).0 e)
      second z false e =
          answered z (λ o. mathlib.Core.Bool.false≢true (sym e ∙ (over_exactly d).1 o)) W (list_any (λ k. get_or W k false) d) (length_waits (held_of s))
          (set_exactly (held_of s)) furiten_exactly

      first : (b : Bool) → ltb 0 (refusal_of s) ≡ b
          → IsWaits s d (cond b (refused_with (refusal_of s))
          (cond (list_any (ltb 33) d) (refused_with 15) (record { refusal = 0; waits = W; furiten = list_any (λ k. get_or W k false) d })))
      first true e = unreadable (ltb-true 0 (refusal_of s) e)
      first false e = second (omega (arith, ltb-false 0 (refusal_of s) e)) (list_any (ltb 33) d) refl

  -- ---- and the only one
  pub only : {a b : Waits} → IsWaits s d a → IsWaits s d b → a ≡ b
  only (unreadable p) (unreadable q) = refl
  only (unreadable p) (fifteen z o) = absurd (omega arith)
  only (unreadable p) (answered z n w f l e g) = absurd (omega arith)
  only (fifteen z o) (unreadable p) = absurd (omega arith)
  only (fifteen z o) (fifteen y q) = refl
  only (fifteen z o) (answered y n w f l e g) = absurd (n o)
  only (answered z n w f l e g) (unreadable p) = absurd (omega arith)
  only (answered z n w f l e g) (fifteen y o) = absurd (n o)
  only (answered z n w f l e g) (answered y o v h m i j) =
      let ew : w ≡ v = ext_get_or false w v (l ∙ sym m) (λ k q. both_ways (get_or w k false) (get_or v k false) (λ x. (i k).1 ((e k).0 x)) (λ x. (e k).1 ((i k).0 x))) in
      let ef : f ≡ h = both_ways f h (λ x. j.1 (g.0 x)) (λ x. g.1 (j.0 x)) in
      ap (λ (u : List Bool). record { refusal = 0; waits = u; furiten = f }) ew ∙ ap (λ (b : Bool). record { refusal = 0; waits = v; furiten = b }) ef

abbrev pub exactly_one : (s d : List ℕ) → (a : Waits) × IsWaits s d a × ((b : Waits) → IsWaits s d b → b ≡ a)
exactly_one s d = (found_of s d, found s d, λ b h. only s d h (found s d))

-- ---- what the call's parts give: u is what the reader gave

module _ (s d : List ℕ) (u : Unfinished) (e : u ≡ read_of s) where
  pub found_unreadable : 0 < u.refusal → refused_with u.refusal ≡ found_of s d
  unfolding found_of
  found_unreadable h = rw (refusal_is s u e) (rw (lt-ltb 0 (refusal_of s) (rw (refusal_is s u e) at h)))

  module _ (z : u.refusal ≤ 0) where
    none : u.refusal ≡ 0
    none = omega arith

    first : ltb 0 (refusal_of s) ≡ false
    first = le-ltb 0 (refusal_of s) (rw (refusal_is s u e) at z)

    pub found_fifteen : list_any (ltb 33) d ≡ true → refused_with 15 ≡ found_of s d
    unfolding found_of
    found_fifteen o = rw (first, o)

    pub found_waits : list_any (ltb 33) d ≡ false → (w : List Bool) (f : Bool) → w ≡ wait_set u.held → f ≡ list_any (λ k. get_or w k false) d
        → record { refusal = 0; waits = w; furiten = f } ≡ found_of s d
    unfolding found_of
    found_waits o w f p q = rw (first, o, q, p, held_is s u e none)
