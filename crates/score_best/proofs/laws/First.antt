-- The search keeps the first of those readings with a yaku that no other beats.
use Rattle.std.specs.Prelude.{Bool, ◌&&◌, ◌||◌, not, cond, ◌⊎◌, ◌≡◌, ℕ, ◌+◌, ◌<◌, ltb, eqb}
use Rattle.std.proofs.Math.Bool.{true, false}
use Rattle.std.proofs.lemmas.Bool.{false≢true, eqb-false}
use mathlib.Core.List.Memᴰ
use mathlib.Core.List.{List, [], ◌∷◌, Memᴰ as Member}
use Rattle.std.proofs.Math.Logic.{inl, inr, ⊎_elim}
use Rattle.std.proofs.Math.Path.{refl}
use Rattle.std.proofs.Common.{sym, ap, ◌∙◌, subst, eq-or-lt_of_le, arith, ltb-true, ltb-false, eqb-true}
use Rattle.reading.specs.declared.Reading.{Reading}
use Rattle.reading.specs.Order.{Lex, Before}
use Rattle.reading.specs.All.{Pairwise, first}
use Rattle.reading.specs.search.Folded.{folded}
use Rattle.reading.proofs.laws.Lists.{each_member}
use Rattle.reading.proofs.laws.Only.{lex_trans}
use Rattle.points_value.specs.declared.Value.{Value}
use Rattle.score_best.specs.declared.Best.{Best}
use Rattle.score_best.specs.Best.{with_yaku, figures, Over}
use Rattle.score_best.specs.search.Best.{beats, counted, none_of, taking, passing, keep_better_by, keep_nth, keep_better}
use Rattle.score_best.proofs.laws.Top.{AtMost, equal}

-- ---- the order of values: gain, then h, then fu

-- v beats w
pub beats_lex : (v w : Value) → beats v w ≡ true → Lex (figures w) (figures v)
unfolding beats
beats_lex v w e =
    go (ltb w.gain.0 v.gain.0) (eqb v.gain.0 w.gain.0) (ltb w.han.0 v.han.0) (eqb v.han.0 w.han.0)
    (ltb w.fu.0 v.fu.0) refl refl refl refl refl e
  where
    go : (a b c d f : Bool) → ltb w.gain.0 v.gain.0 ≡ a → eqb v.gain.0 w.gain.0 ≡ b → ltb w.han.0 v.han.0 ≡ c
        → eqb v.han.0 w.han.0 ≡ d → ltb w.fu.0 v.fu.0 ≡ f
        → a || (b && (c || (d && f))) ≡ true → Lex (figures w) (figures v)
    go true b c d f ea eb ec ed ef q = inl (ltb-true _ _ ea)
    go false false c d f ea eb ec ed ef q = absurd (false≢true q)
    go false true true d f ea eb ec ed ef q = inr (sym (eqb-true _ _ eb), inl (ltb-true _ _ ec))
    go false true false false f ea eb ec ed ef q = absurd (false≢true q)
    go false true false true false ea eb ec ed ef q = absurd (false≢true q)
    go false true false true true ea eb ec ed ef q = inr (sym (eqb-true _ _ eb), inr (sym (eqb-true _ _ ed), inl (ltb-true _ _ ef)))

-- v does not beat w: w is above, or they are equal
pub not_beats_lex : (v w : Value) → beats v w ≡ false → AtMost v w
unfolding beats
not_beats_lex v w e =
    go (ltb w.gain.0 v.gain.0) (eqb v.gain.0 w.gain.0) (ltb w.han.0 v.han.0) (eqb v.han.0 w.han.0)
    (ltb w.fu.0 v.fu.0) refl refl refl refl refl e
  where
    under : (a b : ℕ) → ltb b a ≡ false → eqb a b ≡ false → a < b
    under a b p q = ⊎_elim (λ r. absurd (eqb-false a b q r)) (λ l. l) (eq-or-lt_of_le (ltb-false b a p))

    same : (a b : ℕ) → ltb b a ≡ false → (a < b) ⊎ (a ≡ b)
    same a b p = ⊎_elim (λ r. inr r) (λ l. inl l) (eq-or-lt_of_le (ltb-false b a p))

    go : (a b c d f : Bool) → ltb w.gain.0 v.gain.0 ≡ a → eqb v.gain.0 w.gain.0 ≡ b → ltb w.han.0 v.han.0 ≡ c
        → eqb v.han.0 w.han.0 ≡ d → ltb w.fu.0 v.fu.0 ≡ f
        → a || (b && (c || (d && f))) ≡ false → AtMost v w
    go true b c d f ea eb ec ed ef q = absurd (false≢true (sym q))
    go false false c d f ea eb ec ed ef q = inl (inl (under _ _ ea eb))
    go false true true d f ea eb ec ed ef q = absurd (false≢true (sym q))
    go false true false false f ea eb ec ed ef q = inl (inr (eqb-true _ _ eb, inl (under _ _ ec ed)))
    go false true false true true ea eb ec ed ef q = absurd (false≢true (sym q))
    go false true false true false ea eb ec ed ef q =
        ⊎_elim (λ l. inl (inr (eqb-true _ _ eb, inr (eqb-true _ _ ed, inl l))))
        (λ r. inr (equal _ _ _ _ _ _ (eqb-true _ _ eb) (eqb-true _ _ ed) r)) (same _ _ ef)

at_most_trans : (u v w : Value) → AtMost u v → AtMost v w → AtMost u w
at_most_trans u v w (inl h) (inl g) = inl (lex_trans (figures u) (figures v) (figures w) h g)
at_most_trans u v w (inl h) (inr e) = inl (subst (λ (z : List ℕ). Lex (figures u) z) e h)
at_most_trans u v w (inr e) (inl g) = inl (subst (λ (z : List ℕ). Lex z (figures w)) (sym e) g)
at_most_trans u v w (inr e) (inr f) = inr (e ∙ f)

-- ---- what is kept

-- the first of the readings S with a yaku that no other beats, or none
pub record Kept (worth : Reading → Value) (S : Reading → Type 0) (b : Best) : Type 0 where
  pub untried : b.tried ≡ 0 → (q : Reading) → S q → ⊥
  pub tried : 0 < b.tried → (r : Reading) × S r
  pub worthless : b.valued ≡ false → (q : Reading) → S q → with_yaku worth q ≡ false
  pub best : b.valued ≡ true
      → S b.reading × (with_yaku worth b.reading ≡ true) × (b.value ≡ worth b.reading)
      × ((q : Reading) → S q → with_yaku worth q ≡ true → Over worth b.reading q)
  -- once the search is done, no reading at all beats what is kept
  pub topped : b.done ≡ true → (b.valued ≡ true) × ((q : Reading) → AtMost (worth q) b.value)

-- the search may end at such readings: each has a yaku, and none "can be beaten"
pub record MayEnd (worth : Reading → Value) (ends : Reading → Bool) : Type 0 where
  pub yaku : (x : Reading) → ends x ≡ true → with_yaku worth x ≡ true
  pub top : (x q : Reading) → ends x ≡ true → AtMost (worth q) (worth x)

-- or at none
pub never : (worth : Reading → Value) → MayEnd worth (λ _. false)
never worth = record { yaku = λ x e. absurd (false≢true e); top = λ x q e. absurd (false≢true e) }

abbrev With : (Reading → Type 0) → Reading → Reading → Type 0
With S x q = S q ⊎ (q ≡ x)

pub counted_some : (n : ℕ) → counted n ≡ 0 → ⊥
unfolding counted
counted_some n e = go (ltb n 4294967295) refl e
  where
    go : (c : Bool) → ltb n 4294967295 ≡ c → cond c (n + 1) n ≡ 0 → ⊥
    go true p z = omega arith
    go false p z = omega (arith, ltb-false n 4294967295 p)

module _ (worth : Reading → Value) (ends : Reading → Bool) (may : MayEnd worth ends) where
  module _ (S : Reading → Type 0) (b : Best) (x : Reading) (k : Kept worth S b) (later : (q : Reading) → S q → Before q x) where
    -- the reading that is kept, where x does not beat it or has no yaku
    keeps : (r : Reading) → ((q : Reading) → S q → with_yaku worth q ≡ true → Over worth r q) → (with_yaku worth x ≡ true → Over worth r x) → (q : Reading)
        → With S x q → with_yaku worth q ≡ true → Over worth r q
    keeps r o ox q m v = ⊎_elim (λ s. o q s v) (λ e. rw e (ox (rw e at v))) m

    -- it stays before the later x, which does not beat it
    behind : (r : Reading) → S r → b.value ≡ worth r → AtMost (worth x) b.value → Over worth r x
    behind r s e m = ⊎_elim (λ l. inl l) (λ q. inr (q, inr (later r s))) (subst (λ (v : Value). AtMost (worth x) v) e m)

    -- x is taken: it beats what was kept, or nothing was
    taken : with_yaku worth x ≡ true → (not b.valued || beats (worth x) b.value) ≡ true → Kept worth (With S x) (taking worth ends b x)
    taken vx e = record {
      untried = λ z. absurd (counted_some b.tried z);
      tried = λ _. (x, inr refl);
      worthless = λ z. absurd (false≢true (sym z));
      best =
          λ _. (inr refl, vx, refl, λ q m v. ⊎_elim (λ s. over q s v b.valued refl) (λ z. inr (ap (λ (y : Reading). figures (worth y)) z, inl (sym z))) m);
      topped = λ z. (refl, λ q. may.top x q z);
    }
      where
        above : (r : Reading) → b.value ≡ worth r → beats (worth x) b.value ≡ true → Lex (figures (worth r)) (figures (worth x))
        above r e1 e2 = beats_lex (worth x) (worth r) (rw e1 at e2)

        beyond : (q r : Reading) → Over worth r q → Lex (figures (worth r)) (figures (worth x)) → Over worth x q
        beyond q r o l =
            ⊎_elim (λ h. inl (lex_trans (figures (worth q)) (figures (worth r)) (figures (worth x)) h l))
            (λ h. inl (subst (λ (z : List ℕ). Lex z (figures (worth x))) (sym h.0) l)) o

        over : (q : Reading) → S q → with_yaku worth q ≡ true → (c : Bool) → b.valued ≡ c → Over worth x q
        over q s v false z = absurd (false≢true (sym (k.worthless z q s) ∙ v))
        over q s v true z =
            let y = k.best z in
            let h : beats (worth x) b.value ≡ true = rw z at e in
            beyond q b.reading (y.3 q s v) (above b.reading y.2 h)

    -- x is not taken: it has no yaku, or does not beat what is kept
    passed : (with_yaku worth x ≡ true → (b.valued ≡ true) × AtMost (worth x) b.value) → Kept worth (With S x) (passing worth ends b x)
    passed h = record {
      untried = λ z. absurd (counted_some b.tried z);
      tried = λ _. (x, inr refl);
      worthless = λ z q m. ⊎_elim (λ s. k.worthless z q s) (λ e. rw e (no_yaku z (with_yaku worth x) refl)) m;
      best = λ z.
          let y = k.best z in
          (inl y.0, y.1, y.2, keeps b.reading y.3 (λ v. behind b.reading y.0 y.2 (h v).1));
      topped = λ z. let g = h (may.yaku x z) in (g.0, λ q. at_most_trans (worth q) (worth x) b.value (may.top x q z) g.1);
    }
      where
        no_yaku : b.valued ≡ false → (c : Bool) → with_yaku worth x ≡ c → with_yaku worth x ≡ false
        no_yaku z true e = absurd (false≢true (sym z ∙ (h e).0))
        no_yaku z false e = e

    -- the search is done: x is not looked at
    stays : b.done ≡ true → Kept worth (With S x) b
    stays d =
        let top = k.topped d in
        let y = k.best top.0 in
        record {
          untried = λ z. absurd (k.untried z b.reading y.0);
          tried = λ z. (b.reading, inl y.0);
          worthless = λ z. absurd (false≢true (sym z ∙ top.0));
          best = λ z. (inl y.0, y.1, y.2, keeps b.reading y.3 (λ v. behind b.reading y.0 y.2 (top.1 x)));
          topped = k.topped;
        }

    kept_step : Kept worth (With S x) (keep_better_by worth ends b x)
    unfolding keep_better_by
    kept_step = go b.done (with_yaku worth x) b.valued (beats (worth x) b.value) refl refl refl refl
      where
        go : (d v w z : Bool) → b.done ≡ d → with_yaku worth x ≡ v → b.valued ≡ w → beats (worth x) b.value ≡ z
            → Kept worth (With S x) (cond d b (cond (v && (not w || z)) (taking worth ends b x) (passing worth ends b x)))
        go true v w z ed ev ew ez = stays ed
        go false false w z ed ev ew ez = passed (λ e. absurd (false≢true (sym ev ∙ e)))
        go false true false z ed ev ew ez = taken ev (rw ew refl)
        go false true true true ed ev ew ez = taken ev (rw (ew, ez) refl)
        go false true true false ed ev ew ez = passed (λ _. (ew, not_beats_lex (worth x) b.value ez))

pub kept_same : (worth : Reading → Value) (S T : Reading → Type 0) (b : Best) → ((q : Reading) → S q → T q) → ((q : Reading) → T q → S q) → Kept worth S b
    → Kept worth T b
kept_same worth S T b to from k = record {
  untried = λ z q s. k.untried z q (from q s);
  tried = λ z. let y = k.tried z in (y.0, to y.0 y.1);
  worthless = λ z q s. k.worthless z q (from q s);
  best = λ z. let y = k.best z in (to b.reading y.0, y.1, y.2, λ q s v. y.3 q (from q s) v);
  topped = k.topped;
}

-- before any reading
kept_none : (worth : Reading → Value) → Kept worth (λ q. ⊥) (none_of 0)
unfolding none_of
kept_none worth = record {
  untried = λ z q s. s;
  tried = λ z. absurd (omega arith);
  worthless = λ z q s. absurd s;
  best = λ z. absurd (false≢true z);
  topped = λ z. absurd (false≢true z);
}

module _ (worth : Reading → Value) (ends : Reading → Bool) (may : MayEnd worth ends) where
  kept_fold : (rs : List Reading) (S : Reading → Type 0) (b : Best) → Kept worth S b → ((q r : Reading) → S q → Member r rs → Before q r) → Pairwise Before rs
      → Kept worth (λ q. S q ⊎ Member q rs) (folded (keep_better_by worth ends) b rs)
  unfolding folded
  kept_fold [] S b k later p = kept_same worth S (λ q. S q ⊎ Member q []) b (λ q s. inl s) (λ q m. ⊎_elim (λ s. s) (λ n. absurd (Memᴰ.not-nil n)) m) k
  kept_fold (x ∷ rs) S b k later (first e p) =
      kept_same worth (λ q. With S x q ⊎ Member q rs) (λ q. S q ⊎ Member q (x ∷ rs)) _
      (λ q m. ⊎_elim (λ w. ⊎_elim (λ s. inl s) (λ z. inr (Member.head z)) w) (λ n. inr (Member.tail n)) m)
      (λ q m. ⊎_elim (λ s. inl (inl s)) (λ n. ⊎_elim (λ z. inl (inr z)) (λ o. inr o) (Memᴰ.cases_cons n)) m)
      (kept_fold rs (With S x) (keep_better_by worth ends b x) (kept_step worth ends may S b x k (λ q s. later q x s (Member.head refl)))
      (λ q r w m. ⊎_elim (λ s. later q r s (Member.tail m)) (λ z. rw z (each_member e m)) w) p)

  -- after a list in order: each of it was held against the others, or none could beat what is kept
  pub kept_all : (rs : List Reading) → Pairwise Before rs → Kept worth (λ q. Member q rs) (folded (keep_better_by worth ends) (none_of 0) rs)
  kept_all rs p =
      kept_same worth (λ q. ⊥ ⊎ Member q rs) (λ q. Member q rs) _ (λ q m. ⊎_elim (λ z. absurd z) (λ n. n) m) (λ q m. inr m)
      (kept_fold rs (λ q. ⊥) (none_of 0) (kept_none worth) (λ q r z m. absurd z) p)

-- ---- two ways to say what a reading is worth

keep_better_same : (f g : Reading → Value) (b : Best) (r : Reading) → f r ≡ g r → keep_better f b r ≡ keep_better g b r
unfolding keep_better_by keep_nth keep_better
keep_better_same f g b r e = rw e

-- where they agree on each reading of a list, the same is kept
pub folded_same : (f g : Reading → Value) (b : Best) (rs : List Reading) → ((q : Reading) → Member q rs → f q ≡ g q)
    → folded (keep_better f) b rs ≡ folded (keep_better g) b rs
unfolding folded
folded_same f g b [] h = refl
folded_same f g b (r ∷ rs) h =
    ap (λ (x : Best). folded (keep_better f) x rs) (keep_better_same f g b r (h r (Member.head refl)))
    ∙ folded_same f g (keep_better g b r) rs (λ q m. h q (Member.tail m))
