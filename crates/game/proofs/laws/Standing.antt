-- The position after a list is the ledger of the bookings left standing.
use Rattle.std.specs.Prelude.{◌≡◌, Bool, cond, ℕ, ◌<◌, ltb, length, replicate}
use Rattle.std.proofs.Math.Path.{refl}
use Rattle.std.proofs.Common.{sym, ap, ◌∙◌, subst, arith}
use Rattle.std.proofs.Math.Bool.{true, false}
use Rattle.std.proofs.lemmas.Bool.{false≢true}
use mathlib.Core.List.{List, [], ◌∷◌, ◌++◌, append-nil, map}
use borrow.Author.Tests.{ltb-true, ltb-false}
use Rattle.position.specs.declared.Position.{Position}
use Rattle.position.specs.Booking.{Result, Booking, result}
use Rattle.position.specs.Ledger.{is_set, mark, fresh, refusal_for, effect_of, after, ledger_from, ledger}
use Rattle.position.proofs.laws.Each.{finished_by}
use Rattle.position.proofs.laws.Lists.{ledger_append}
use Rattle.game.specs.declared.Game.{Game}
use Rattle.game.specs.Game.{Entry, booking, correction, fresh_game, game_refusal, with_entry, game_after, game_from, standing_from, standing}
use Rattle.game.specs.Runs.{refusals_from}
use Rattle.game.proofs.laws.After.{after_refused, after_accepted}
use Rattle.game.proofs.laws.Lists.{Both, fresh_both, after_both, plain_refusal, correction_refusal_lem}

-- what the game holds where bs stand and after them `last`, a result, which can be superseded, or none
abbrev Correctable : List Booking → List Booking → Game → Type 0
Correctable bs [] k = is_set k.correctable ≡ false
Correctable bs (b ∷ none) k = (is_set k.correctable ≡ true) × (k.earlier ≡ ledger bs) × (none ≡ []) × ((r : Result) × (b ≡ result r))

-- each of a list is accepted, one after the other
abbrev pub AllIn : Position → List Booking → Type 0
AllIn l [] = Unit {0}
AllIn l (b ∷ bs) = (refusal_for l b ≡ 0) × AllIn (after l b) bs

abbrev Stands : List Booking → List Booking → Game → Type 0
Stands bs last k = (k.now ≡ ledger (bs ++ last)) × Correctable bs last k × AllIn fresh (bs ++ last)

-- one more, and those before
all_more : (bs : List Booking) (b : Booking) (l : Position) → AllIn l bs → refusal_for (ledger_from l bs) b ≡ 0 → AllIn l (bs ++ (b ∷ []))
unfolding ledger_from
all_more [] b l a e = (e, tt)
all_more (c ∷ bs) b l a e = (a.0, all_more bs b (after l c) a.1 e)

all_before : (bs cs : List Booking) (l : Position) → AllIn l (bs ++ cs) → AllIn l bs
all_before [] cs l a = tt
all_before (b ∷ bs) cs l a = (a.0, all_before bs cs (after l b) a.1)

-- one more booking
ledger_one : (bs : List Booking) (b : Booking) → ledger (bs ++ (b ∷ [])) ≡ after (ledger bs) b
unfolding ledger ledger_from
ledger_one bs b = ledger_append bs (b ∷ []) fresh

-- a booking that was accepted stands at the end
module _ (bs : List Booking) (b : Booking) (g : Position) (e : g ≡ ledger bs) (a : AllIn fresh bs) (z : refusal_for (ledger bs) b ≡ 0) where
  after_one : after g b ≡ ledger (bs ++ (b ∷ []))
  after_one = ap (λ (l : Position). after l b) e ∙ sym (ledger_one bs b)

  all_one : AllIn fresh (bs ++ (b ∷ []))
  unfolding ledger
  all_one = all_more bs b fresh a z

  finished : ((r : Result) × (b ≡ result r)) → Stands bs (b ∷ []) (record { now = after g b; earlier = g; correctable = mark true })
  finished r = (after_one, (refl, e, refl, r), all_one)

  going : (earlier : Position) → Stands (bs ++ (b ∷ [])) [] (record { now = after g b; earlier = earlier; correctable = mark false })
  going earlier = (after_one ∙ ap ledger (sym (append-nil (bs ++ (b ∷ [])))), refl, subst (AllIn fresh) (sym (append-nil (bs ++ (b ∷ [])))) all_one)

-- where a list ends: what is left standing is bs and after them `last`, and the game holds so
record Ends (standing : List Booking) (k : Game) : Type 0 where
  bs : List Booking
  last : List Booking
  all : standing ≡ bs ++ last
  stands : Stands bs last k

-- what is left of a list, from any game that has what stands
abbrev Rest : List Entry → Type 0
Rest xs = (bs last : List Booking) (k : Game) → Both k → Stands bs last k → Ends (standing_from bs last xs) (game_from k xs)

module _ (xs : List Entry) (rest : Rest xs) where
  module _ (x : Entry) (k : Game) (p : Both k) where
    same : (bs last : List Booking) → 0 < game_refusal k x → Stands bs last k → Ends (standing_from bs last xs) (game_from (game_after k x) xs)
    same bs last h s = rw (after_refused k x h) (rest bs last k p s)

    moved : (bs last : List Booking) → game_refusal k x ≡ 0 → Stands bs last (with_entry k x) → Ends (standing_from bs last xs) (game_from (game_after k x) xs)
    moved bs last e s = rest bs last (game_after k x) (after_both k x p) (rw (after_accepted k x e) s)

  module _ (b : Booking) (bs last : List Booking) (k : Game) (p : Both k) (s : Stands bs last k) where
    abbrev l : Position
    l = ledger (bs ++ last)

    refusal_is : game_refusal k (booking b) ≡ refusal_for l b
    refusal_is = plain_refusal k p b ∙ ap (λ (g : Position). refusal_for g b) s.0

    by_plain : (t : Bool) → ltb 0 (refusal_for l b) ≡ t → (f : Bool) → (effect_of l b).finishes ≡ f
        → Ends (cond t (standing_from bs last xs) (cond f (standing_from (bs ++ last) (b ∷ []) xs) (standing_from ((bs ++ last) ++ (b ∷ [])) [] xs)))
        (game_from (game_after k (booking b)) xs)
    unfolding with_entry
    by_plain true e f z = same (booking b) k p bs last (rw refusal_is (ltb-true 0 (refusal_for l b) e)) s
    by_plain false e true z =
        let n : refusal_for l b ≡ 0 = omega (arith, ltb-false 0 (refusal_for l b) e) in
        moved (booking b) k p (bs ++ last) (b ∷ []) (refusal_is ∙ n) (rw (s.0, z) (finished (bs ++ last) b l refl s.2 n (finished_by l b z)))
    by_plain false e false z =
        let n : refusal_for l b ≡ 0 = omega (arith, ltb-false 0 (refusal_for l b) e) in
        moved (booking b) k p ((bs ++ last) ++ (b ∷ [])) [] (refusal_is ∙ n) (rw (s.0, z) (going (bs ++ last) b l refl s.2 n l))

  at_plain : (b : Booking) → Rest (booking b ∷ xs)
  unfolding game_from standing_from
  at_plain b bs last k p s = by_plain b bs last k p s _ refl _ refl

  at_correction : (r : Result) → Rest (correction r ∷ xs)
  unfolding game_from standing_from with_entry
  at_correction r bs [] k p s = same (correction r) k p bs [] (rw (correction_refusal_lem k p r, s.1) (omega arith)) s
  at_correction r bs (last ∷ none) k p s = go (ltb 0 (refusal_for (ledger bs) (result r))) refl
    where
      q : game_refusal k (correction r) ≡ refusal_for (ledger bs) (result r)
      q = correction_refusal_lem k p r ∙ rw (s.1.0, s.1.1)

      go : (t : Bool) → ltb 0 (refusal_for (ledger bs) (result r)) ≡ t
          → Ends (cond t (standing_from bs (last ∷ none) xs) (standing_from bs (result r ∷ []) xs)) (game_from (game_after k (correction r)) xs)
      go true e = same (correction r) k p bs (last ∷ none) (rw q (ltb-true 0 (refusal_for (ledger bs) (result r)) e)) s
      go false e =
          let n : refusal_for (ledger bs) (result r) ≡ 0 = omega (arith, ltb-false 0 (refusal_for (ledger bs) (result r)) e) in
          moved (correction r) k p bs (result r ∷ []) (q ∙ n)
          (finished bs (result r) k.earlier s.1.1 (all_before bs (last ∷ none) fresh s.2) n (r, refl))

left_standing : (xs : List Entry) → Rest xs
unfolding game_from standing_from
left_standing [] = λ bs last k p s. record { bs = bs; last = last; all = refl; stands = s }
left_standing (booking b ∷ xs) = at_plain xs (left_standing xs) b
left_standing (correction r ∷ xs) = at_correction xs (left_standing xs) r

fresh_stands : Stands [] [] fresh_game
unfolding fresh_game ledger ledger_from
fresh_stands = (refl, refl, tt)

ends : (xs : List Entry) → Ends (standing xs) (game_from fresh_game xs)
ends xs = left_standing xs [] [] fresh_game fresh_both fresh_stands

pub game_standing : (xs : List Entry) → (game_from fresh_game xs).now ≡ ledger (standing xs)
game_standing xs = let e = ends xs in e.stands.0 ∙ ap ledger (sym e.all)

pub standing_in : (xs : List Entry) → AllIn fresh (standing xs)
standing_in xs = let e = ends xs in subst (AllIn fresh) (sym e.all) e.stands.2

pub earlier_kept : (xs : List Entry) → let k = game_from fresh_game xs in
    is_set k.correctable ≡ true → (bs : List Booking) × (r : Result) × (standing xs ≡ bs ++ (result r ∷ [])) × (k.earlier ≡ ledger bs)
earlier_kept xs h = let e = ends xs in go e.bs e.last e.all e.stands.1
  where
    go : (bs last : List Booking) → standing xs ≡ bs ++ last → Correctable bs last (game_from fresh_game xs)
        → (cs : List Booking) × (r : Result) × (standing xs ≡ cs ++ (result r ∷ [])) × ((game_from fresh_game xs).earlier ≡ ledger cs)
    go bs [] a q = absurd (false≢true (sym q ∙ h))
    go bs (b ∷ none) a q =
        let r = q.3 in
        (bs, r.0, a ∙ ap (λ (l : List Booking). bs ++ (b ∷ l)) q.2 ∙ ap (λ (c : Booking). bs ++ (c ∷ [])) r.1, q.1)

-- booked anew
then_in : (k : Game) (c : Booking) (cs : List Booking) → game_refusal k (booking c) ≡ 0 → AllIn (after k.now c) cs → AllIn (game_after k (booking c)).now cs
unfolding with_entry
then_in k c cs e a = rw (after_accepted k (booking c) e) a

fresh_in : (cs : List Booking) → AllIn fresh cs → AllIn fresh_game.now cs
unfolding fresh_game
fresh_in cs a = a

again : (cs : List Booking) (k : Game) → Both k → AllIn k.now cs → refusals_from k (map booking cs) ≡ replicate (length cs) 0
unfolding refusals_from
again [] k p a = refl
again (c ∷ cs) k p a =
    let e : game_refusal k (booking c) ≡ 0 = plain_refusal k p c ∙ a.0 in
    rw e (ap (λ (ns : List ℕ). 0 ∷ ns) (again cs (game_after k (booking c)) (after_both k (booking c) p) (then_in k c cs e a.1)))

pub standing_accepted : (xs : List Entry) → refusals_from fresh_game (map booking (standing xs)) ≡ replicate (length (standing xs)) 0
standing_accepted xs = again (standing xs) fresh_game fresh_both (fresh_in (standing xs) (standing_in xs))
