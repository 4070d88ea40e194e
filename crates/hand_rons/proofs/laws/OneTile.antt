-- Records that read and are rons on one tile: a seat wins one at most, and the first winner is one.
use Rattle.std.specs.Prelude.{◌≡◌, refl, Bool, true, false, not, ◌||◌, cond, List, [], ◌∷◌, ℕ, zero, suc, ◌+◌, ◌%◌, ◌≤◌, ◌<◌, ltb, eqb, length, drop}
use Rattle.std.proofs.Common.{sym, ap, ◌∙◌, arith, ltb-true, ltb-false, eqb-true, eq-eqb}
use Rattle.std.proofs.lemmas.Bool.{false≢true, eqb-false, not-false}
use Rattle.tiles.proofs.laws.Below.{or_both}
use Rattle.hand.specs.declared.Fields.{Fields}
use Rattle.hand.specs.Hand.{is_ron}
use Rattle.hand_record.specs.Record.{Refused, HandRead, length_of, count_in, refusal_in, read_of}
use Rattle.hand_record.proofs.laws.Bounds.{answer_is, other_seat, read_bounds, refused_number}
use Rattle.hand_rons.specs.Records.{hand_for, records_of, first_unreadable, conflict, conflicts, not_on_one_tile, is_winner, first_after}
use Rattle.hand_rons.specs.Records.{first_winner}
pub use Rattle.hand_rons.specs.search.Read.{Read, AllRead}

-- ---- records that read

-- as a reader sees one that does not: r is what Read gave, w its refusal
pub refused_read : (s : List ℕ) (r : HandRead) → r ≡ read_of s → (m w : ℕ) → r.answer ≡ Refused m → w ≡ refusal_in r.answer
    → (refusal_in (read_of s).answer ≡ w) × (0 < w)
refused_read s r e m w told q =
    let a = answer_is s r e told in
    let z : w ≡ m = q ∙ ap refusal_in told in
    (ap refusal_in a ∙ sym z, omega (arith, z, refused_number s m a))

pub own_zero : (n m : ℕ) → cond (ltb 0 n) n m ≡ 0 → (n ≡ 0) × (m ≡ 0)
own_zero n m e = go (ltb 0 n) refl e
  where
    go : (b : Bool) → ltb 0 n ≡ b → cond b n m ≡ 0 → (n ≡ 0) × (m ≡ 0)
    go true q e = absurd (omega (arith, ltb-true 0 n q))
    go false q e = (omega (arith, ltb-false 0 n q), e)

pub all_read : (ss : List (List ℕ)) → first_unreadable ss ≡ 0 → AllRead ss
unfolding first_unreadable
all_read [] e = tt
all_read (s ∷ ss) e = let p = own_zero (refusal_in (read_of s).answer) (first_unreadable ss) e in (p.0, all_read ss p.1)

pub records_length_lem : (n : ℕ) (s : List ℕ) → length (records_of n s) ≡ n
unfolding records_of
records_length_lem zero s = refl
records_length_lem (suc zero) s = refl
records_length_lem (suc (suc n)) s = ap suc (records_length_lem (suc n) (drop (length_of (count_in s)) s))

-- ---- a seat wins one of them at most

abbrev pub winner_of : List ℕ → ℕ
winner_of s = (hand_for s).fields.winner

-- the first of them: by ron, and with no winner, discarder or tile of the others against it
pub rons_first : (s : List ℕ) (ss : List (List ℕ)) → not_on_one_tile (s ∷ ss) ≡ false
    → (is_ron (hand_for s).fields ≡ true) × (conflicts (hand_for s).fields ss ≡ false) × (not_on_one_tile ss ≡ false)
unfolding not_on_one_tile
rons_first s ss e =
    let p = or_both (not (is_ron (hand_for s).fields) || conflicts (hand_for s).fields ss) (not_on_one_tile ss) e in
    let q = or_both (not (is_ron (hand_for s).fields)) (conflicts (hand_for s).fields ss) p.0 in
    (not-false (is_ron (hand_for s).fields) q.0, q.1, p.1)

other_winner : (f g : Fields) → conflict f g ≡ false → eqb f.winner g.winner ≡ false
other_winner f g e =
    let a = eqb f.winner g.winner in
    let b = not (eqb f.discarder g.discarder) in
    let c = not (eqb f.winning g.winning) in
    let d = not (eqb f.indicator g.indicator) in
    (or_both a b (or_both (a || b) c (or_both (a || b || c) d (or_both (a || b || c || d) (not (eqb f.situation g.situation)) e).0).0).0).0

flipped : (a b : ℕ) → eqb a b ≡ false → eqb b a ≡ false
flipped a b e = go (eqb b a) refl
  where
    go : (t : Bool) → eqb b a ≡ t → t ≡ false
    go true q = absurd (eqb-false a b e (sym (eqb-true b a q)))
    go false q = refl

no_other : (f : Fields) (ss : List (List ℕ)) → conflicts f ss ≡ false → is_winner ss f.winner ≡ false
unfolding conflicts is_winner
no_other f [] e = refl
no_other f (s ∷ ss) e =
    let p = or_both (conflict f (hand_for s).fields) (conflicts f ss) e in
    rw (flipped f.winner (winner_of s) (other_winner f (hand_for s).fields p.0), no_other f ss p.1)

-- what the records that seat x wins come to, at k each
unfoldable pub taken : ℕ → ℕ → List (List ℕ) → ℕ
taken x k [] = 0
taken x k (s ∷ ss) = cond (eqb (winner_of s) x) k 0 + taken x k ss

taken_none : (x k : ℕ) (ss : List (List ℕ)) → is_winner ss x ≡ false → taken x k ss ≡ 0
unfolding is_winner taken
taken_none x k [] e = refl
taken_none x k (s ∷ ss) e = let p = or_both (eqb (winner_of s) x) (is_winner ss x) e in let q = taken_none x k ss p.1 in rw p.0 (omega (arith, q))

-- k where it wins one, 0 where it wins none
pub first_once : (x k : ℕ) (ss : List (List ℕ)) → not_on_one_tile ss ≡ false → taken x k ss ≡ cond (is_winner ss x) k 0
unfolding is_winner taken
first_once x k [] e = refl
first_once x k (s ∷ ss) e = go (first_once x k ss (rons_first s ss e).2) (eqb (winner_of s) x) refl
  where
    go : taken x k ss ≡ cond (is_winner ss x) k 0 → (t : Bool) → eqb (winner_of s) x ≡ t → cond t k 0 + taken x k ss ≡ cond (t || is_winner ss x) k 0
    go r true q =
        let none : is_winner ss x ≡ false = ap (is_winner ss) (sym (eqb-true (winner_of s) x q)) ∙ no_other (hand_for s).fields ss (rons_first s ss e).1 in
        omega (arith, taken_none x k ss none)
    go r false q = omega (arith, r)

-- ---- the first winner is one

last : (d w : ℕ) → d ≤ 3 → w ≤ 3 → (w ≡ d → ⊥) → (w ≡ (d + 1) % 4 → ⊥) → (w ≡ (d + 2) % 4 → ⊥) → w ≡ (d + 3) % 4
last d w a b k p q = omega arith

module _ (wins : ℕ → Bool) where
  pub first_after_lem : (d w : ℕ) → d ≤ 3 → w ≤ 3 → (w ≡ d → ⊥) → wins w ≡ true → wins (first_after d wins) ≡ true
  first_after_lem d w a b k e = go (wins ((d + 1) % 4)) (wins ((d + 2) % 4)) refl refl
    where
      go : (p q : Bool) → wins ((d + 1) % 4) ≡ p → wins ((d + 2) % 4) ≡ q → wins (cond p ((d + 1) % 4) (cond q ((d + 2) % 4) ((d + 3) % 4))) ≡ true
      go true q x y = x
      go false true x y = y
      go false false x y =
          let not1 : w ≡ (d + 1) % 4 → ⊥ = λ z. false≢true (sym x ∙ ap wins (sym z) ∙ e) in
          let not2 : w ≡ (d + 2) % 4 → ⊥ = λ z. false≢true (sym y ∙ ap wins (sym z) ∙ e) in
          let z : w ≡ (d + 3) % 4 = last d w a b k not1 not2 in
          ap wins (sym z) ∙ e

own : (s : List ℕ) (ss : List (List ℕ)) → is_winner (s ∷ ss) (winner_of s) ≡ true
unfolding is_winner
own s ss = rw (eq-eqb (winner_of s) (winner_of s) refl)

pub first_wins : (ss : List (List ℕ)) → 0 < length ss → AllRead ss → not_on_one_tile ss ≡ false → is_winner ss (first_winner ss) ≡ true
first_wins [] l r e = absurd (omega arith)
first_wins (s ∷ ss) l r e =
    let b = read_bounds s r.0 in
    let f = (hand_for s).fields in
    first_after_lem (is_winner (s ∷ ss)) f.discarder f.winner b.discarder b.winner (other_seat f b.other (rons_first s ss e).0) (own s ss)
