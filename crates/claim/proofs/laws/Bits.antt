-- Codes with 68 after them, and lists of codes.
use Rattle.std.specs.Prelude.{ℕ, ◌+◌, ◌-◌, ◌≤◌, ◌<◌, ◌≡◌, refl, true, ◌&&◌, List, [], ◌∷◌, ◌++◌, leb, length, get_or, drop, replicate}
use Rattle.std.proofs.Common.{ap, ◌∙◌, zero-add, add-one, arith, leb-true, le-leb, drop-cons}
use Rattle.std.proofs.lemmas.List.{length-replicate, drop_all}
use Rattle.std.proofs.lemmas.List.Edits.{sets, sets-eq}
use Rattle.tiles.specs.Groups.{is_group}
use Rattle.tiles.proofs.laws.Below.{and_true}
use Rattle.bits.specs.Bits.{unpack}
use Rattle.bits.proofs.laws.Pack.{length_unpack, drop_replicate}
use Rattle.reading.specs.Reading.{Ascends}
use Rattle.claim.specs.search.Claimed.{codes_in, ascends}

-- ---- codes, then 68

pub length_codes : (m : ℕ) (b : List ℕ) → length (codes_in m b) ≡ 4 - m
unfolding codes_in
length_codes m b = length_unpack (replicate (4 - m) 7) (drop 8 b) ∙ length-replicate {A = ℕ} (4 - m) 7

pub groups_stored : (m : ℕ) (b out : List ℕ) → m ≤ 4 → out ≡ sets (replicate 4 68) 0 (unpack (replicate (4 - m) 7) (drop 8 b))
    → out ≡ codes_in m b ++ replicate m 68
unfolding codes_in
groups_stored m b out h e =
    let vs : List ℕ = unpack (replicate (4 - m) 7) (drop 8 b) in
    let l : length vs ≡ 4 - m = length_codes m b in
    let r : List ℕ = replicate {A = ℕ} 4 68 in
    let e2 : sets r 0 vs ≡ vs ++ drop (length vs) r = sets-eq vs r 0 (omega arith) ∙ rw zero-add in
    let e3 : drop (length vs) r ≡ replicate (4 - length vs) 68 = drop_replicate (length vs) 4 68 in
    let e4 : 4 - length vs ≡ m = omega arith in
    e ∙ e2 ∙ ap (λ (x : List ℕ). vs ++ x) (e3 ∙ ap (λ (k : ℕ). replicate k 68) e4)

-- ---- codes that ascend

pub ascends_true : (c : ℕ) (gs : List ℕ) → ascends c gs ≡ true → Ascends c gs
unfolding ascends
ascends_true c [] e = tt
ascends_true c (g ∷ gs) e =
    let p = and_true (leb c g && is_group g) (ascends g gs) e in
    let q = and_true (leb c g) (is_group g) p.0 in
    (leb-true c g q.0, q.1, ascends_true g gs p.1)

pub ascends_of : (c : ℕ) (gs : List ℕ) → Ascends c gs → ascends c gs ≡ true
unfolding ascends
ascends_of c [] o = refl
ascends_of c (g ∷ gs) o = rw (le-leb c g o.0, o.1) (ascends_of g gs o.2)

-- one turn of the loop, and its end
module _ (g : List ℕ) (i c : ℕ) where
  pub ascends_turn : i < length g → ascends c (drop i g) ≡ leb c (get_or g i 0) && is_group (get_or g i 0) && ascends (get_or g i 0) (drop (i + 1) g)
  unfolding ascends
  ascends_turn h = rw (add-one, drop-cons g i 0 h)

  pub ascends_done : length g ≤ i → ascends c (drop i g) ≡ true
  unfolding ascends
  ascends_done h = rw (drop_all i g h)
