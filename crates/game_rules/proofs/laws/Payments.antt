-- Who pays what: what the ledger gives each seat is what documents 01 and 02 say case by case.
use Rattle.std.specs.Prelude.{◌≡◌, Bool, ◌&&◌, ◌⊎◌, List, ℤ, ◌+ℤ◌, get_or}
use Rattle.std.proofs.Math.Path.{refl, ap}
use Rattle.std.proofs.Common.{sym, ◌∙◌, subst, inl, inr, arith}
use Rattle.std.proofs.Math.Bool.{true, false, cond}
use Prim.Native.Nat.{ℕ, zero, suc, ◌+◌, ◌-◌, ◌*◌, ◌/◌, ◌≤◌, ◌<◌}
use Rattle.std.proofs.Math.Nat.{zero-mul}
use borrow.Author.Tests.{eq-eqb, ne_eqb, eqb-true, eqb-false}
use Rattle.std.proofs.Math.Dec.{eqb}
use Rattle.std.proofs.Math.IntN.{pos, neg_ℤ, nat_abs}
use Rattle.tiles.specs.Below.{any, count, all_below}
use Rattle.tiles.proofs.laws.Below.{every_at}
use Rattle.hand.specs.declared.Fields.{Fields}
use Rattle.hand.specs.Hand.{is_ron}
use Rattle.hand_record.specs.Record.{IsSound}
use Rattle.hand_record.proofs.Claims.{sound}
use Rattle.hand_record.proofs.laws.Bounds.{Bounds, other_seat, read_bounds}
use Rattle.reading.specs.declared.Reading.{Reading}
use Rattle.yaku_basics.specs.Tests.{winds}
use Rattle.points.specs.declared.Seats.{Seats}
use Rattle.points.specs.Points.{hundreds, times_a, pays, changes}
use Rattle.points.proofs.laws.Balance.{below_four}
use Rattle.score.specs.Named.{groups_of, seats_of, worth, scored_as}
use Rattle.position.specs.declared.Position.{Position}
use Rattle.position.specs.Booking.{result, win, draw, chombo}
use Rattle.position.specs.Ledger.{is_declared, not_open, hand_for, feeder_at, feeder_index, is_ready, ready_seats, paid_by_others, Liable, nobody, the_feeder, owes}
use Rattle.position.specs.Ledger.{refusal_for, liable_by, liable_in, whole_of, is_dealers_win, payments, share_of, draw_gives, chombo_gives, effect_of}
use Rattle.position.specs.Wins.{paid_in, IsBest}
use Rattle.position.specs.Article67.{Article67}
use Rattle.position.proofs.laws.Form.{InForm, open_of}
use Rattle.position.proofs.laws.PaidByOthers.{even_zero, paid_by_others_even}
use Rattle.position.proofs.laws.Owed.{IsOther, whole_even, all_owed, other_size, changes_paid}
use Rattle.position.proofs.laws.Pao.{feeder_seat}
use Rattle.position.proofs.laws.Tiles.{winner_won, win_booked}
use Rattle.position.proofs.laws.Winds.{not_both}
use Rattle.position.proofs.laws.Fines.{fined_at}
use Rattle.game_rules.specs.Payments.{IsLiable, NoneLiable, WhoPays, declared_not_ready, bits_by, DrawPays}

-- ---- one payment of the four: w wins, d deals, x discards, a is A

module _ (w d x a : ℕ) where
  abbrev seats : Seats
  seats = record { winner = w; dealer = d; discarder = x }

  module _ (i : ℕ) (o : i ≡ w → ⊥) where
    -- by ron the discarder pays, with m for the counters, and nobody else
    by_discarder : (n : ℕ) → pays seats true a i + cond (eqb i x) (300 * n) 0 ≡ cond (eqb i x) (hundreds (cond (eqb w d) 6 4 * a) + 300 * n) 0
    unfolding pays times_a hundreds
    by_discarder n = go (eqb i x) refl
      where
        go : (b : Bool) → eqb i x ≡ b → pays seats true a i + cond b (300 * n) 0 ≡ cond b (hundreds (cond (eqb w d) 6 4 * a) + 300 * n) 0
        go true e = rw (ne_eqb w i (λ z. o (sym z)), eq-eqb x i (sym (eqb-true i x e)))
        go false e = rw (ne_eqb w i (λ z. o (sym z)), ne_eqb x i (λ z. eqb-false i x e (sym z)), zero-mul a)

    to_dealer : w ≡ d → pays seats false a i ≡ hundreds (2 * a)
    unfolding pays times_a
    to_dealer e = rw (ne_eqb w i (λ z. o (sym z)), eq-eqb w d e)

    to_child : (w ≡ d → ⊥) → pays seats false a i ≡ hundreds (cond (eqb i d) 2 1 * a)
    unfolding pays times_a
    to_child k = go (eqb i d) refl
      where
        go : (b : Bool) → eqb i d ≡ b → pays seats false a i ≡ hundreds (cond b 2 1 * a)
        go true e = rw (ne_eqb w i (λ z. o (sym z)), ne_eqb w d k, eq-eqb d i (sym (eqb-true i d e)))
        go false e = rw (ne_eqb w i (λ z. o (sym z)), ne_eqb w d k, ne_eqb d i (λ z. eqb-false i d e (sym z)))

-- ---- by article 67

module _ (taken : ℕ → ℕ) (w d x k n : ℕ) (ron : Bool) (h : w ≤ 3) (l : d ≤ 3) (g : x ≤ 3) (other : w ≡ x → ⊥) (own : ron ≡ true → w ≡ d → ⊥) where
  abbrev owed : ℕ → ℕ
  owed = owes taken d (2 * k) n (the_feeder x) ron

  pays_owed : (i : ℕ) → (i ≡ w → ⊥) → (m : ℕ) → owed i ≡ m → paid_by_others w owed i ≡ neg_ℤ (pos m)
  unfolding paid_by_others
  pays_owed i o m e = rw (ne_eqb i w o, e)

  gains_all : paid_by_others w owed w ≡ pos (2 * k + 300 * n)
  unfolding paid_by_others
  gains_all = rw (eq-eqb w w refl) (ap pos (all_owed taken w d k n h l (the_feeder x) (g, other) ron own))

  -- on tsumo
  whole_owed : ron ≡ false → owed x ≡ 2 * k + 300 * n
  unfolding owes
  whole_owed r = rw (r, eq-eqb x x refl)

  -- on ron, of two seats
  feeder_owes : ron ≡ true → (x ≡ d → ⊥) → owed x ≡ 2 * k / 2
  unfolding owes
  feeder_owes r o = rw (r, eq-eqb x x refl, ne_eqb x d o) (omega arith)

  discarder_owes : ron ≡ true → (x ≡ d → ⊥) → owed d ≡ 2 * k / 2 + 300 * n
  unfolding owes
  discarder_owes r o = rw (r, eq-eqb d d refl, ne_eqb d x (λ e. o (sym e))) (omega arith)

  -- of one
  all_of_one : ron ≡ true → x ≡ d → owed x ≡ 2 * k + 300 * n
  unfolding owes
  all_of_one r e = rw (r, eq-eqb x x refl, eq-eqb x d e) (omega arith)

  others_owe_nothing : (i : ℕ) → (i ≡ x → ⊥) → (ron ≡ true → i ≡ d → ⊥) → owed i ≡ 0
  unfolding owes
  others_owe_nothing i b c = go ron refl
    where
      go : (r : Bool) → ron ≡ r → owes taken d (2 * k) n (the_feeder x) r i ≡ 0
      go true e = rw (ne_eqb i x b, ne_eqb i d (c e))
      go false e = rw (ne_eqb i x b)

  by_article_67 : Article67 w d x ron (2 * k) (300 * n) (paid_by_others w owed)
  by_article_67 = record {
    gain = gains_all;
    tsumo = λ r. pays_owed x (λ e. other (sym e)) (2 * k + 300 * n) (whole_owed r);
    halves = λ r o. (
      pays_owed x (λ e. other (sym e)) (2 * k / 2) (feeder_owes r o),
      pays_owed d (λ e. own r (sym e)) (2 * k / 2 + 300 * n) (discarder_owes r o),
    );
    one = λ r e. pays_owed x (λ e. other (sym e)) (2 * k + 300 * n) (all_of_one r e);
    others = λ i a b c. pays_owed i a 0 (others_owe_nothing i b c);
  }

-- ---- who is liable

none_at : (n : ℕ) → ((k : ℕ) → n ≡ 1 + k → ⊥) → liable_by n ≡ nobody
none_at zero none = refl
none_at (suc n) none = absurd (none n (omega arith))

named_at : (n k : ℕ) → n ≡ 1 + k → liable_by n ≡ the_feeder k
named_at n k e = let one : n ≡ suc k = omega arith in ap liable_by one

module _ (l : Position) (s : List ℕ) (r : Reading) where
  abbrev f : Fields
  f = (hand_for s).fields

  abbrev yaku : List Bool
  yaku = (scored_as (hand_for s) l.dealer l.wind r).yaku

  abbrev four : Bool
  four = eqb (winds (groups_of (hand_for s) r)) 4

  abbrev liable : Liable
  liable = liable_in l f.winner (get_or yaku 28 false) (get_or yaku 29 false && four)

  none_liable : NoneLiable l s r → liable ≡ nobody
  none_liable none = go (get_or yaku 28 false) (get_or yaku 29 false) four refl refl refl
    where
      go : (a b c : Bool) → get_or yaku 28 false ≡ a → get_or yaku 29 false ≡ b → four ≡ c → liable_in l f.winner a (b && c) ≡ nobody
      go true b c p q e = none_at (feeder_at l (feeder_index f.winner 28)) (λ k z. none k (inl (p, z)))
      go false true true p q e =
          none_at (feeder_at l (feeder_index f.winner 29)) (λ k z. none k (inr (q, eqb-true (winds (groups_of (hand_for s) r)) 4 e, z)))
      go false true false p q e = refl
      go false false c p q e = refl

  liable_is : (feeder : ℕ) → IsLiable l s r feeder → liable ≡ the_feeder feeder
  liable_is feeder (inl (p, z)) = rw p (named_at (feeder_at l (feeder_index f.winner 28)) feeder z)
  liable_is feeder (inr (q, e, z)) = go (get_or yaku 28 false) refl
    where
      go : (a : Bool) → get_or yaku 28 false ≡ a → liable_in l f.winner a (get_or yaku 29 false && four) ≡ the_feeder feeder
      go true p = absurd (not_both (hand_for s) l.dealer l.wind r p q)
      go false p = rw (q, eq-eqb (winds (groups_of (hand_for s) r)) 4 e) (named_at (feeder_at l (feeder_index f.winner 29)) feeder z)

  -- ---- a win

  module _ (n : ℕ) (o : not_open l ≡ false) (i : IsSound s) where
    abbrev a : ℕ
    a = (worth (hand_for s) l.dealer l.wind r).basic.0

    abbrev σ : Seats
    σ = seats_of (hand_for s) l.dealer

    -- what the reading takes of a seat
    abbrev taken : Bool → ℕ → ℕ
    taken ron j = nat_abs (get_or (changes σ ron a) j (pos 0))

    abbrev owed_by : Liable → ℕ → ℕ
    owed_by who = owes (taken (is_ron f)) f.discarder (whole_of (is_dealers_win l s)) n who (is_ron f)

    form : InForm l
    form = (open_of l o).form

    bounds : Bounds (hand_for s)
    bounds = read_bounds s ((sound s).0 i)

    from_other : is_ron f ≡ true → f.discarder ≡ f.winner → ⊥
    from_other e z = other_seat f bounds.other e (sym z)

    -- another seat than the winner, where nobody is liable
    module _ (none : NoneLiable l s r) (j : ℕ) (h : j < 4) (k : j ≡ f.winner → ⊥) where
      pays_its_own : paid_in l s r n j ≡ neg_ℤ (pos (owed_by nobody j))
      unfolding payments paid_by_others
      pays_its_own = rw (ne_eqb j f.winner k) (ap (λ (who : Liable). neg_ℤ (pos (owed_by who j))) (none_liable none))

      size : (ron : Bool) → taken ron j ≡ pays σ ron a j
      size ron = other_size σ ron a j h (λ e. k (sym e))

      by_ron : is_ron f ≡ true → paid_in l s r n j ≡ neg_ℤ (pos (pays σ true a j + cond (eqb j f.discarder) (300 * n) 0))
      unfolding owes
      by_ron e =
          pays_its_own ∙ ap (λ (b : Bool). neg_ℤ (pos (owes (taken b) f.discarder (whole_of (is_dealers_win l s)) n nobody b j))) e
          ∙ ap (λ (p : ℕ). neg_ℤ (pos (p + cond (eqb j f.discarder) (300 * n) 0))) (size true)

      by_tsumo : is_ron f ≡ false → paid_in l s r n j ≡ neg_ℤ (pos (pays σ false a j + 100 * n))
      unfolding owes
      by_tsumo e =
          pays_its_own ∙ ap (λ (b : Bool). neg_ℤ (pos (owes (taken b) f.discarder (whole_of (is_dealers_win l s)) n nobody b j))) e
          ∙ ap (λ (p : ℕ). neg_ℤ (pos (p + 100 * n))) (size false)

    -- by article 67, where a feeder is
    abbrev Claimed : ℕ → Liable → ℕ → Type 0
    Claimed whole who feeder =
        Article67 f.winner f.discarder feeder (is_ron f) whole (300 * n)
        (paid_by_others f.winner (owes (taken (is_ron f)) f.discarder whole n who (is_ron f)))

    by_feeder : (feeder : ℕ) → IsLiable l s r feeder → Claimed (whole_of (is_dealers_win l s)) liable feeder
    by_feeder feeder y =
        let e = liable_is feeder y in
        let seat = feeder_seat l form f.winner bounds.winner (get_or yaku 28 false) (get_or yaku 29 false && four) in
        let other : IsOther f.winner (the_feeder feeder) = subst (IsOther f.winner) e seat in
        let paid = by_article_67 (taken (is_ron f)) f.winner f.discarder feeder (cond (is_dealers_win l s) 24000 16000) n (is_ron f) bounds.winner
        bounds.discarder other.0 other.1 (λ e z. from_other e (sym z)) in
        subst (λ (who : Liable). Claimed (whole_of (is_dealers_win l s)) who feeder) (sym e)
        (subst (λ (whole : ℕ). Claimed whole (the_feeder feeder) feeder) (sym (whole_even (is_dealers_win l s))) paid)

    pub who_pays : WhoPays l s r n (paid_in l s r n)
    unfolding payments
    who_pays = record {
      ron = λ none e j h k. by_ron none j h k e ∙ ap (λ (p : ℕ). neg_ℤ (pos p)) (by_discarder f.winner l.dealer f.discarder a j k n);
      dealers_tsumo = λ none e d j h k. by_tsumo none j h k e ∙ rw (to_dealer f.winner l.dealer f.discarder a j k d);
      childs_tsumo = λ none e d j h k. by_tsumo none j h k e ∙ rw (to_child f.winner l.dealer f.discarder a j k d);
      with_pao = by_feeder;
      zero = even_zero (paid_in l s r n) (paid_by_others_even (owed_by liable) f.winner (omega (arith, bounds.winner)));
    }

-- ---- without counters

paid_cong : (w : ℕ) (p q : ℕ → ℕ) → ((j : ℕ) → p j ≡ q j) → (i : ℕ) → paid_by_others w p i ≡ paid_by_others w q i
unfolding paid_by_others
paid_cong w p q e i = rw (e 0, e 1, e 2, e 3, e i)

none_more : (taken : ℕ → ℕ) (d whole : ℕ) (ron : Bool) (i : ℕ) → owes taken d whole 0 nobody ron i ≡ taken i
unfolding owes
none_more taken d whole true i = go (eqb i d)
  where
    go : (b : Bool) → taken i + cond b (300 * 0) 0 ≡ taken i
    go true = omega arith
    go false = omega arith
none_more taken d whole false i = omega arith

module _ (l : Position) (s : List ℕ) (r : Reading) (o : not_open l ≡ false) (y : IsSound s) where
  abbrev change : ℕ → ℤ
  change i = get_or (scored_as (hand_for s) l.dealer l.wind r).changes i (pos 0)

  by_none : NoneLiable l s r → (i : ℕ) → paid_in l s r 0 i ≡ change i
  unfolding payments
  by_none none i =
      let h = hand_for s in
      let took : ℕ → ℕ = λ j. nat_abs (change j) in
      let owed : Liable → ℕ → ℕ = λ who. owes took h.fields.discarder (whole_of (is_dealers_win l s)) 0 who (is_ron h.fields) in
      ap (λ (who : Liable). paid_by_others h.fields.winner (owed who) i) (none_liable l s r none)
      ∙ paid_cong h.fields.winner (owed nobody) took (none_more took h.fields.discarder (whole_of (is_dealers_win l s)) (is_ron h.fields)) i
      ∙ changes_paid (seats_of h l.dealer) (is_ron h.fields) (worth h l.dealer l.wind r).basic.0
      (omega (arith, (read_bounds s ((sound s).0 y)).winner)) i

  pub as_scored : (i : ℕ) → NoneLiable l s r ⊎ (i ≡ (hand_for s).fields.winner) → paid_in l s r 0 i ≡ change i
  as_scored i (inl none) = by_none none i
  as_scored i (inr e) = rw e (winner_won l s o ((sound s).0 y) r)

-- ---- the sticks

pub win_takes_sticks : (l : Position) (s : List ℕ) → refusal_for l (result (win s)) ≡ 0 → (r : Reading) × IsBest l s r
    × ((i : ℕ) → (effect_of l (result (win s))).gives i
    ≡ paid_in l s r l.counter i +ℤ cond (eqb i (hand_for s).fields.winner) (pos (1000 * l.sticks)) (pos 0))
unfolding effect_of
win_takes_sticks l s e =
    let p = ((win_booked l s 0 (sym e)).paid refl).0 in
    (p.0, p.1, p.2 l.counter l.sticks)

-- ---- a draw

pub seat_0_first : (bits : ℕ) → bits < 16 → bits ≡ bits_by (is_ready bits)
unfolding all_below
seat_0_first bits h = eqb-true bits (bits_by (is_ready bits)) (every_at (λ b. eqb b (bits_by (is_ready b))) 16 bits refl h)

-- of 0 or 4 ready
none_paid : (r : ℕ) (ready : Bool) → (r ≡ 0) ⊎ (r ≡ 4) → share_of r ready ≡ pos 0
none_paid r ready (inl e) = rw e
none_paid r ready (inr e) = rw e

-- what a fine gives seat i, by which are at fault and how many
abbrev fined_in : Position → (ℕ → Bool) → ℕ → ℤ
fined_in l fined i =
    let n = count 4 fined in
    cond (fined i) (neg_ℤ (pos (3000 * (4 - n)))) (pos (3000 * n)) +ℤ cond (is_declared l i) (pos 1000) (pos 0)

module _ (l : Position) (bits : ℕ) where
  pub draw_pays : (i : ℕ) → any 4 (declared_not_ready l bits) ≡ false → DrawPays bits i ((effect_of l (result (draw bits))).gives i)
  unfolding effect_of draw_gives
  draw_pays i e = record {
    one = λ n. rw (e, n);
    two = λ n. rw (e, n);
    three = λ n. rw (e, n);
    else = λ n. rw e (none_paid (ready_seats bits) (is_ready bits i) n);
  }

  -- ---- a chombo

  pub draw_at_fault_pays : (i : ℕ) → i < 4 → any 4 (declared_not_ready l bits) ≡ true
      → (effect_of l (result (draw bits))).gives i ≡ fined_in l (declared_not_ready l bits) i
  unfolding effect_of chombo_gives
  draw_at_fault_pays i h e = rw (e, ← fined_at (declared_not_ready l bits) i h)

chombo_pays : (l : Position) (seat i : ℕ) → i < 4 → (effect_of l (result (chombo seat))).gives i ≡ fined_in l (λ j. eqb j seat) i
unfolding effect_of chombo_gives
chombo_pays l seat i h = rw (← fined_at (λ j. eqb j seat) i h)

pub chombo_costs_9000 : (l : Position) (seat i : ℕ) → seat < 4 → i < 4
    → (effect_of l (result (chombo seat))).gives i ≡ cond (eqb i seat) (neg_ℤ (pos 9000)) (pos 3000) +ℤ cond (is_declared l i) (pos 1000) (pos 0)
chombo_costs_9000 l seat i g h = chombo_pays l seat i h ∙ rw (one_seat seat g)
  where
    one_seat : (k : ℕ) → k < 4 → count 4 (λ j. eqb j k) ≡ 1
    one_seat = below_four (λ k. count 4 (λ j. eqb j k) ≡ 1) refl refl refl refl
