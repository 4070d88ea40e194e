-- The first winner of records that read: no winner comes before it in turn order after the discarder.
use Rattle.std.specs.Prelude.{◌≡◌, refl, Bool, true, false, not, ◌||◌, cond, List, [], ◌∷◌, ℕ, ◌+◌, ◌%◌, ◌≤◌, ◌<◌, eqb, length}
use Rattle.std.proofs.Common.{sym, ap, ◌∙◌, arith, eqb-true}
use Rattle.std.proofs.lemmas.Bool.{false≢true, not-false}
use Rattle.tiles.proofs.laws.Below.{or_both}
use Rattle.hand.specs.declared.Fields.{Fields}
use Rattle.hand_record.proofs.laws.Bounds.{other_seat, read_bounds}
use Rattle.hand_rons.specs.Records.{hand_for, conflict, conflicts, not_on_one_tile, is_winner, discarder_of, first_after, first_winner, turns_after}
use Rattle.hand_rons.proofs.laws.OneTile.{AllRead, winner_of, rons_first}

-- ---- every winner is a seat other than the discarder

same_discarder : (f g : Fields) → conflict f g ≡ false → f.discarder ≡ g.discarder
same_discarder f g e =
    let a = eqb f.winner g.winner in
    let b = not (eqb f.discarder g.discarder) in
    let c = not (eqb f.winning g.winning) in
    let d = not (eqb f.indicator g.indicator) in
    eqb-true f.discarder g.discarder (not-false (eqb f.discarder g.discarder)
    (or_both a b (or_both (a || b) c (or_both (a || b || c) d (or_both (a || b || c || d) (not (eqb f.situation g.situation)) e).0).0).0).1)

-- the others have the first one's discarder
pub next_discarder : (f : Fields) (s : List ℕ) (ss : List (List ℕ)) → conflicts f (s ∷ ss) ≡ false → f.discarder ≡ discarder_of (s ∷ ss)
unfolding conflicts
next_discarder f s ss e = same_discarder f (hand_for s).fields (or_both (conflict f (hand_for s).fields) (conflicts f ss) e).0

abbrev Other : ℕ → ℕ → Type 0
Other d seat = (seat ≤ 3) × (seat ≡ d → ⊥)

winner_other : (ss : List (List ℕ)) → AllRead ss → not_on_one_tile ss ≡ false → (seat : ℕ) → is_winner ss seat ≡ true → Other (discarder_of ss) seat
unfolding is_winner
winner_other [] r e seat w = absurd (false≢true w)
winner_other (s ∷ ss) r e seat w = go (winner_other ss r.1 (rons_first s ss e).2 seat) (eqb (winner_of s) seat) refl w
  where
    later : (ts : List (List ℕ)) → conflicts (hand_for s).fields ts ≡ false → (is_winner ts seat ≡ true → Other (discarder_of ts) seat)
        → is_winner ts seat ≡ true → Other (hand_for s).fields.discarder seat
    later [] c f u = absurd (false≢true u)
    later (t ∷ ts) c f u = rw (next_discarder (hand_for s).fields t ts c) (f u)

    go : (is_winner ss seat ≡ true → Other (discarder_of ss) seat) → (b : Bool) → eqb (winner_of s) seat ≡ b → b || is_winner ss seat ≡ true
        → Other (hand_for s).fields.discarder seat
    go f true q u =
        let b = read_bounds s r.0 in
        let z = eqb-true (winner_of s) seat q in
        let o = other_seat (hand_for s).fields b.other (rons_first s ss e).0 in
        (omega (arith, b.winner, z), λ k. o (z ∙ k))
    go f false q u = later ss (rons_first s ss e).1 f u

-- ---- by turns

module _ (d : ℕ) (h : d ≤ 3) where
  turns_1 : turns_after d ((d + 1) % 4) ≡ 1
  turns_1 = omega arith

  turns_2 : turns_after d ((d + 2) % 4) ≡ 2
  turns_2 = omega arith

  turns_3 : turns_after d ((d + 3) % 4) ≡ 3
  turns_3 = omega arith

  from_1 : (seat : ℕ) → Other d seat → 1 ≤ turns_after d seat
  from_1 seat o = let n = o.1 in let l = o.0 in omega arith

  from_2 : (seat : ℕ) → Other d seat → (seat ≡ (d + 1) % 4 → ⊥) → 2 ≤ turns_after d seat
  from_2 seat o p = let n = o.1 in let l = o.0 in omega arith

  from_3 : (seat : ℕ) → Other d seat → (seat ≡ (d + 1) % 4 → ⊥) → (seat ≡ (d + 2) % 4 → ⊥) → 3 ≤ turns_after d seat
  from_3 seat o p q = let n = o.1 in let l = o.0 in omega arith

  module _ (wins : ℕ → Bool) (each : (seat : ℕ) → wins seat ≡ true → Other d seat) where
    first_least : (seat : ℕ) → wins seat ≡ true → turns_after d (first_after d wins) ≤ turns_after d seat
    first_least seat w = go (wins ((d + 1) % 4)) (wins ((d + 2) % 4)) refl refl
      where
        go : (p q : Bool) → wins ((d + 1) % 4) ≡ p → wins ((d + 2) % 4) ≡ q
            → turns_after d (cond p ((d + 1) % 4) (cond q ((d + 2) % 4) ((d + 3) % 4))) ≤ turns_after d seat
        go true q x y = omega (arith, turns_1, from_1 seat (each seat w))
        go false true x y =
            let n : seat ≡ (d + 1) % 4 → ⊥ = λ z. false≢true (sym x ∙ ap wins (sym z) ∙ w) in
            omega (arith, turns_2, from_2 seat (each seat w) n)
        go false false x y =
            let n : seat ≡ (d + 1) % 4 → ⊥ = λ z. false≢true (sym x ∙ ap wins (sym z) ∙ w) in
            let m : seat ≡ (d + 2) % 4 → ⊥ = λ z. false≢true (sym y ∙ ap wins (sym z) ∙ w) in
            omega (arith, turns_3, from_3 seat (each seat w) n m)

pub none_before : (ss : List (List ℕ)) → 0 < length ss → AllRead ss → not_on_one_tile ss ≡ false → (seat : ℕ) → is_winner ss seat ≡ true
    → turns_after (discarder_of ss) (first_winner ss) ≤ turns_after (discarder_of ss) seat
none_before [] l r e = absurd (omega arith)
none_before (s ∷ ss) l r e = first_least (hand_for s).fields.discarder (read_bounds s r.0).discarder (is_winner (s ∷ ss)) (winner_other (s ∷ ss) r e)
