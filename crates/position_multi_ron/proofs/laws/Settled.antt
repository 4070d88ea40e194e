-- What the settling of several hands comes to, one after the other, for each list of records that reads as them, and that this is the ledger's booking.
use Rattle.std.specs.Prelude.{◌≡◌, refl, Result, Ok, Err, true, false, not, ◌||◌, ltb, pos, ◌+ℤ◌, take}
use Rattle.std.proofs.Math.Path.{sym, ap}
use Rattle.std.proofs.Common.{◌∙◌, subst, arith, drop-cons}
use Rattle.std.proofs.Math.Bool.{Bool, cond}
use mathlib.Core.List.{List, [], ◌∷◌, map}
use Prim.Native.Nat.{ℕ, zero, suc, ◌+◌, ◌*◌, ◌≤◌, ◌<◌}
use borrow.Author.Tests.{lt-ltb, ltb-false, eqb-false}
use Rattle.std.proofs.Math.Dec.{eqb}
use Rattle.std.proofs.Math.IntN.{ℤ, +ℤ_idl, +ℤ_idr, +ℤ_assoc}
use Rattle.std.proofs.Math.ListN.{length, get_or, drop}
use Rattle.std.proofs.Math.Seq.{drop-length}
use Rattle.refusals.specs.declared.Refusal.{Refusal}
use Rattle.refusals.specs.Refusal.{number, refusal_in}
use Rattle.refusals.proofs.Numbers.{number_above}
use Rattle.tiles.specs.Below.{tabulate}
use Rattle.tiles.proofs.laws.Below.{or_both}
use Rattle.hand.specs.declared.Hand.{Hand}
use Rattle.hand_record.proofs.laws.Bounds.{read_bounds}
use Rattle.score.proofs.laws.Z.{Within}
use Rattle.hand_rons.specs.Records.{hand_for, records_of, is_winner, discarder_of, first_after, first_winner}
use Rattle.hand_rons.proofs.laws.OneTile.{Read, AllRead}
use Rattle.hand_rons.proofs.laws.Hands.{blank, that_number, hand_at_lem}
use Rattle.position.specs.declared.Position.{Position}
use Rattle.position.specs.Booking.{result, multi_ron}
use Rattle.position.specs.Ledger.{win_gives, refusal_for, multi_ron_gives, effect_of, applied, after, Moves, record_refusals}
use Rattle.position.specs.search.First.{win_refusal, first_refused}
use Rattle.position.proofs.laws.Bounds.{most_gift}
use Rattle.position.proofs.laws.Sums.{Small, Gifts, paid, paid_within}
use Rattle.position_moves.proofs.laws.Steps.{finished}
use Rattle.position_win.specs.declared.Settled.{Settled}
use Rattle.position_win.proofs.laws.Settling.{IsSettled}
pub use Rattle.position_multi_ron.specs.search.Settled.{AllBounds, SettlesAll, RonsBooked, BooksHands}

-- ---- hands of records that read

pub read_at : (rs : List (List ℕ)) → AllRead rs → (i : ℕ) → i < length rs → Read (get_or rs i [])
read_at [] r i l = absurd (omega arith)
read_at (s ∷ rs) r zero l = r.0
read_at (s ∷ rs) r (suc i) l = read_at rs r.1 i (omega arith)

module _ (n : ℕ) (hs : List Hand) (room : n ≤ length hs) (rs : List (List ℕ)) (e : map hand_for rs ≡ take n hs) where
  pub all_bounds : AllRead rs → AllBounds n hs
  all_bounds r i l = rw (hand_at_lem n hs room rs e i l) (read_bounds (get_or rs i []) (read_at rs r i (omega (arith, that_number n hs room rs e))))

  -- the first hand's discarder is the records'
  pub first_discarder : 0 < n → (get_or hs 0 blank).fields.discarder ≡ discarder_of rs
  first_discarder l = ap (λ (h : Hand). h.fields.discarder) (hand_at_lem n hs room rs e 0 l) ∙ go rs (omega (arith, l, that_number n hs room rs e))
    where
      go : (ss : List (List ℕ)) → 0 < length ss → (hand_for (get_or ss 0 [])).fields.discarder ≡ discarder_of ss
      go [] p = absurd (omega arith)
      go (s ∷ ss) p = refl

-- ---- what is given in all

-- nothing before, and nothing after
paid_none : (f : ℕ → ℤ) → tabulate 4 0 f ≡ paid (pos 0 ∷ pos 0 ∷ pos 0 ∷ pos 0 ∷ []) (tabulate 4 0 f)
paid_none f = rw (+ℤ_idl (f 0), +ℤ_idl (f 1), +ℤ_idl (f 2), +ℤ_idl (f 3))

paid_last : (l : List ℤ) → length l ≡ 4 → paid l (tabulate 4 0 (λ i. pos 0)) ≡ l
paid_last (a ∷ b ∷ c ∷ d ∷ []) e = rw (+ℤ_idr a, +ℤ_idr b, +ℤ_idr c, +ℤ_idr d)
paid_last [] e = absurd (omega arith)
paid_last (a ∷ []) e = absurd (omega arith)
paid_last (a ∷ b ∷ []) e = absurd (omega arith)
paid_last (a ∷ b ∷ c ∷ []) e = absurd (omega arith)
paid_last (a ∷ b ∷ c ∷ d ∷ x ∷ l) e = absurd (omega arith)

paid_next : (l : List ℤ) (f h : ℕ → ℤ) → paid l (tabulate 4 0 (λ i. f i +ℤ h i)) ≡ paid (paid l (tabulate 4 0 f)) (tabulate 4 0 h)
paid_next l f h =
    let at : ℕ → ℤ = λ i. get_or l i (pos 0) in
    rw (+ℤ_assoc (at 0) (f 0) (h 0), +ℤ_assoc (at 1) (f 1) (h 1), +ℤ_assoc (at 2) (f 2) (h 2), +ℤ_assoc (at 3) (f 3) (h 3))

-- ---- hands, one after the other

module _ (g : Position) (x : ℕ) where
  -- after i of n hands, none refused, that give `by`
  pub record Given (n : ℕ) (hs : List Hand) (by : List ℤ) (i : ℕ) : Type 0 where
    pub inside : i ≤ n
    pub four : length by ≡ 4
    pub within : (j : ℕ) → Within (get_or by j (pos 0)) (most_gift * i)
    pub refusal : (rs : List (List ℕ)) → AllRead rs → map hand_for rs ≡ take n hs → first_refused g rs ≡ first_refused g (drop i rs)
    pub gives : (rs : List (List ℕ)) → AllRead rs → map hand_for rs ≡ take n hs
        → tabulate 4 0 (multi_ron_gives g x rs) ≡ paid by (tabulate 4 0 (multi_ron_gives g x (drop i rs)))

  pub given_none : (n : ℕ) (hs : List Hand) → Given n hs (pos 0 ∷ pos 0 ∷ pos 0 ∷ pos 0 ∷ []) 0
  given_none n hs = record {
    inside = omega arith;
    four = refl;
    within = zeros;
    refusal = λ rs r e. refl;
    gives = λ rs r e. paid_none (multi_ron_gives g x rs);
  }
    where
      zeros : (i : ℕ) → Within (get_or (pos 0 ∷ pos 0 ∷ pos 0 ∷ pos 0 ∷ []) i (pos 0)) (most_gift * 0)
      zeros zero = (omega arith, omega arith)
      zeros (suc zero) = (omega arith, omega arith)
      zeros (suc (suc zero)) = (omega arith, omega arith)
      zeros (suc (suc (suc zero))) = (omega arith, omega arith)
      zeros (suc (suc (suc (suc i)))) = (omega arith, omega arith)

  module _ (n : ℕ) (hs : List Hand) (by : List ℤ) (i : ℕ) (few : n ≤ 3) (room : n ≤ length hs) (w : Given n hs by i) where
    -- what up to three hands give is small
    pub given_small : Small by
    given_small j l = let y = w.within j in let m = w.inside in (omega arith, omega arith)

    -- all are settled
    pub given_all : n ≤ i → (rs : List (List ℕ)) → AllRead rs → map hand_for rs ≡ take n hs → SettlesAll g x rs (Ok (record { winner = x; gives = by }))
    unfolding record_refusals multi_ron_gives
    given_all l rs r e =
        let m : i ≡ length rs = omega (arith, w.inside, that_number n hs room rs e) in
        let none : drop i rs ≡ [] = ap (λ (k : ℕ). drop k rs) m ∙ drop-length rs in (
          sym (w.refusal rs r e ∙ ap (first_refused g) none),
          sym (w.gives rs r e ∙ ap (λ (ss : List (List ℕ)). paid by (tabulate 4 0 (multi_ron_gives g x ss))) none ∙ paid_last by w.four),
        )

    -- the next hand, that the settling t is of
    abbrev foremost : Bool
    foremost = eqb (get_or hs i blank).fields.winner x

    module _ (l : i < n) (a b : ℕ) (ea : a ≡ cond foremost g.counter 0) (eb : b ≡ cond foremost g.sticks 0) (t : Result Settled Refusal)
        (v : (s : List ℕ) → Read s → get_or hs i blank ≡ hand_for s → IsSettled g s a b t) where
      module _ (rs : List (List ℕ)) (r : AllRead rs) (e : map hand_for rs ≡ take n hs) where
        inside_records : i < length rs
        inside_records = omega (arith, l, that_number n hs room rs e)

        next : drop i rs ≡ get_or rs i [] ∷ drop (suc i) rs
        next = drop-cons rs i [] inside_records

        settled : IsSettled g (get_or rs i []) a b t
        settled = v (get_or rs i []) (read_at rs r i inside_records) (hand_at_lem n hs room rs e i l)

        -- it is refused
        pub given_refused : (m : Refusal) → t ≡ Err m → SettlesAll g x rs (Err m)
        unfolding record_refusals
        given_refused m is =
            let q : win_refusal g (get_or rs i []) ≡ number m = sym settled.0 ∙ ap (λ (y : Result Settled Refusal). refusal_in y) is in
            (sym (w.refusal rs r e ∙ ap (first_refused g) next ∙ rw (q, lt-ltb 0 (number m) (number_above m))), tt)

        next_refusal : refusal_in t ≡ 0 → first_refused g rs ≡ first_refused g (drop (suc i) rs)
        unfolding record_refusals
        next_refusal z = w.refusal rs r e ∙ ap (first_refused g) next ∙ rw (sym settled.0 ∙ z)

        next_gives : (u : Settled) → t ≡ Ok u → tabulate 4 0 (multi_ron_gives g x rs) ≡ paid (paid by u.gives) (tabulate 4 0 (multi_ron_gives g x (drop (suc i) rs)))
        unfolding multi_ron_gives
        next_gives u is =
            let s = get_or rs i [] in
            let own : Bool = eqb (hand_for s).fields.winner x in
            let h : get_or hs i blank ≡ hand_for s = hand_at_lem n hs room rs e i l in
            let ca : a ≡ cond own g.counter 0 = ea ∙ ap (λ (y : Hand). cond (eqb y.fields.winner x) g.counter 0) h in
            let cb : b ≡ cond own g.sticks 0 = eb ∙ ap (λ (y : Hand). cond (eqb y.fields.winner x) g.sticks 0) h in
            let f : ℕ → ℤ = win_gives g s (cond own g.counter 0) (cond own g.sticks 0) in
            let is_settled : IsSettled g s a b (Ok u) = subst (λ (y : Result Settled Refusal). IsSettled g s a b y) is settled in
            let given : u.gives ≡ tabulate 4 0 f = is_settled.1.1 ∙ rw (ca, cb) in
            let k : ℕ → ℤ = multi_ron_gives g x (drop (suc i) rs) in
            w.gives rs r e
            ∙ ap (λ (ss : List (List ℕ)). paid by (tabulate 4 0 (multi_ron_gives g x ss))) next
            ∙ paid_next by f k
            ∙ ap (λ (y : List ℤ). paid (paid by y) (tabulate 4 0 k)) (sym given)

      -- it is not
      pub given_more : (u : Settled) → t ≡ Ok u → Gifts u.gives → (by' : List ℤ) → by' ≡ paid by u.gives → Given n hs by' (i + 1)
      given_more u is p by' q =
          let one : suc i ≡ i + 1 = omega arith in
          let m = paid_within by u.gives (most_gift * i) most_gift w.within p in
          let z : refusal_in t ≡ 0 = ap (λ (y : Result Settled Refusal). refusal_in y) is in
          record {
            inside = omega arith;
            four = ap (λ (y : List ℤ). length y) q;
            within = λ j. let y = m j in rw q (omega arith, omega arith);
            refusal = λ rs r e. next_refusal rs r e z ∙ ap (λ (j : ℕ). first_refused g (drop j rs)) one;
            gives = λ rs r e.
                next_gives rs r e u is ∙ ap (λ (y : List ℤ). paid y (tabulate 4 0 (multi_ron_gives g x (drop (suc i) rs)))) (sym q)
                ∙ ap (λ (j : ℕ). paid by' (tabulate 4 0 (multi_ron_gives g x (drop j rs)))) one;
          }

-- ---- the booking

module _ (g : Position) (number : ℕ) (s : List ℕ) where
  abbrev rs : List (List ℕ)
  rs = records_of number s

  pub rons_refused : (n : ℕ) → n ≡ first_refused g rs → 0 < n → RonsBooked g number s n g
  rons_refused n e l = let t : ltb 0 (first_refused g rs) ≡ true = lt-ltb 0 (first_refused g rs) (omega arith) in (e, rw t)

  pub rons_accepted : (k : Position) → first_refused g rs ≡ 0 → k ≡ applied g (effect_of g (result (multi_ron number s))) → RonsBooked g number s 0 k
  rons_accepted k e q = (sym e, rw e q)

  -- x the first winner, dealers whether the dealer is one
  pub rons_applied : (d x : ℕ) (by : List ℤ) (dealers : Bool) (m : ℕ) → d ≡ discarder_of rs → x ≡ first_after d (is_winner rs)
      → by ≡ tabulate 4 0 (multi_ron_gives g x rs) → dealers ≡ is_winner rs g.dealer → m ≡ cond dealers (g.counter + 1) 0
      → finished g by 0 (not dealers) m ≡ applied g (effect_of g (result (multi_ron number s)))
  unfolding finished applied effect_of
  rons_applied d x by dealers m p q b w c =
      let z : x ≡ first_winner rs = q ∙ ap (λ (k : ℕ). first_after k (is_winner rs)) p in
      rw (c, b, w, z)

  -- rons that are booked are the booking
  pub rons_booked : (n : ℕ) (k : Position) → refusal_for g (result (multi_ron number s)) ≡ first_refused g rs → RonsBooked g number s n k
      → Moves g (result (multi_ron number s)) n k
  unfolding after
  rons_booked n k q w = rw q (w.0, w.1)

-- one to three
pub some_few : (n : ℕ) → eqb n 0 || ltb 3 n ≡ false → (1 ≤ n) × (n ≤ 3)
some_few n e =
    let o = or_both (eqb n 0) (ltb 3 n) e in
    let z = eqb-false n 0 o.0 in
    (omega (arith, z), ltb-false 3 n o.1)
