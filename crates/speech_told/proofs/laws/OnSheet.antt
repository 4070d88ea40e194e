-- Every clip of a part of a message is on the sheet of its language.
use Rattle.std.specs.Prelude.{◌≡◌, Bool, ◌||◌, cond, ℕ, zero, suc, ◌+◌, ◌<◌, leb, eqb, ℤ, pos, nat_abs}
use Rattle.std.proofs.Math.Path.{refl}
use Rattle.std.proofs.Math.Bool.{true, false}
use mathlib.Core.List.Memᴰ
use mathlib.Core.List.{List, [], ◌∷◌, ◌++◌, Memᴰ as Member}
use Rattle.std.proofs.Common.{⊎_elim, arith, lt-ltb, le-ltb}
use Rattle.std.proofs.Math.Dec.{ltb}
use Rattle.std.proofs.Math.ListN.{get_or}
use Rattle.std.specs.Int.Signed.{lt_z}
use Rattle.points.specs.Points.{plain}
use Rattle.speech_numerals.specs.Numerals.{numeral}
use Rattle.speech_numerals.specs.Heard.{on_sheet}
use Rattle.speech_numerals.proofs.laws.Sheet.{on_numeral}
use Rattle.speech_told.specs.Phrases.{player, chosen, yaku_clips, limit_clips, is_limit, limit_clip, worth_clips, amount_clips, pays_clips, payments_clips}
use Rattle.speech_told.specs.Phrases.{counted_clips}
use Rattle.speech_told.specs.Phrases.{score_clips, tile_clips}
use Rattle.speech_told.specs.Sheet.{is_phrase, has_clip}

-- all clips of a list
pub record Has (l : ℕ) (cs : List ℕ) : Type 0 where
  pub has : (c : ℕ) → Member c cs → has_clip l c ≡ true

or_true : (b : Bool) → b || true ≡ true
or_true true = refl
or_true false = refl

phrase : (l c : ℕ) → is_phrase c ≡ true → has_clip l c ≡ true
phrase l c e = rw e (or_true (on_sheet l c))

pub has_none : (l : ℕ) → Has l []
has_none l = record { has = λ c m. absurd (Memᴰ.not-nil m) }

pub has_then : {l : ℕ} {a b : List ℕ} → Has l a → Has l b → Has l (a ++ b)
has_then {l} {a} {b} p q = record { has = λ c m. ⊎_elim (p.has c) (q.has c) (Memᴰ.append_cases a m) }

pub has_more : {l : ℕ} {b : List ℕ} (c : ℕ) → is_phrase c ≡ true → Has l b → Has l (c ∷ b)
has_more {l} c e q = record { has = λ d m. ⊎_elim (λ s. rw s (phrase l c e)) (q.has d) (Memᴰ.cases_cons m) }

pub has_cond : (l : ℕ) (t : Bool) {a b : List ℕ} → Has l a → Has l b → Has l (cond t a b)
has_cond l true p q = p
has_cond l false p q = q

pub has_numeral : (l n : ℕ) → n < 4294967296 → Has l (numeral l n)
has_numeral l n h = record { has = λ c m. rw ((on_numeral l n (omega arith)).on c m) }

-- ---- the parts

pub has_player : (dealer seat : ℕ) → is_phrase (player dealer seat) ≡ true
unfolding is_phrase
has_player dealer seat = rw (lt-ltb 59 (player dealer seat) (omega arith), lt-ltb (player dealer seat) 95 (omega arith))

has_chosen : (l first : ℕ) (p : ℕ → Bool) (n : ℕ) → ((k : ℕ) → k < n → is_phrase (first + k) ≡ true) → Has l (chosen first p n)
unfolding chosen
has_chosen l first p zero h = has_none l
has_chosen l first p (suc n) h =
    has_then (has_chosen l first p n (λ k g. h k (omega arith))) (has_cond l (p n) (has_more (first + n) (h n (omega arith)) (has_none l)) (has_none l))

yaku_row : (k : ℕ) → k < 36 → is_phrase (141 + k) ≡ true
unfolding is_phrase
yaku_row k h =
    rw (
      lt-ltb 59 (141 + k) (omega arith),
      le-ltb (141 + k) 95 (omega arith),
      lt-ltb 99 (141 + k) (omega arith),
      le-ltb (141 + k) 134 (omega arith),
      lt-ltb 140 (141 + k) (omega arith),
      lt-ltb (141 + k) 177 (omega arith),
    )

tile_row : (k : ℕ) → k < 34 → is_phrase (100 + k) ≡ true
unfolding is_phrase
tile_row k h = rw (lt-ltb 59 (100 + k) (omega arith), le-ltb (100 + k) 95 (omega arith), lt-ltb 99 (100 + k) (omega arith), lt-ltb (100 + k) 134 (omega arith))

pub verbs : (is_phrase 64 ≡ true) × (is_phrase 65 ≡ true) × (is_phrase 66 ≡ true) × (is_phrase 67 ≡ true)
unfolding is_phrase
verbs = (refl, refl, refl, refl)

module _ (l : ℕ) where
  pub has_yaku_lem : (y : List Bool) → Has l (yaku_clips y)
  unfolding yaku_clips
  has_yaku_lem y = has_chosen l 141 (λ k. get_or y (k + 1) false) 36 yaku_row

  pub has_tiles : (w : List Bool) → Has l (tile_clips w)
  unfolding tile_clips
  has_tiles w = has_chosen l 100 (λ k. get_or w k false) 34 tile_row

  has_limit : (h fu : ℕ) → Has l (limit_clips h fu)
  unfolding limit_clips is_limit limit_clip is_phrase
  has_limit h fu = has_cond l (leb 5 h || ltb 2000 (plain h fu)) (has_more _ (go (leb h 5) (leb h 7) (leb h 10)) (has_none l)) (has_none l)
    where
      go : (x y z : Bool) → is_phrase (cond x 71 (cond y 72 (cond z 73 74))) ≡ true
      go true y z = refl
      go false true z = refl
      go false false true = refl
      go false false false = refl

  pub has_worth : (yakuman : Bool) (h fu : ℕ) → h < 4294967296 → fu < 4294967296 → Has l (worth_clips l yakuman h fu)
  unfolding worth_clips is_phrase
  has_worth yakuman h fu f g =
      has_cond l yakuman (has_more 75 refl (has_none l))
      (has_then (has_numeral l h f) (has_more 69 refl (has_then (has_numeral l fu g) (has_more 70 refl (has_limit h fu)))))

  pub has_amount : (who verb n : ℕ) → is_phrase who ≡ true → is_phrase verb ≡ true → n < 4294967296 → Has l (amount_clips l who verb n)
  unfolding amount_clips is_phrase
  has_amount who verb n w v h = has_more who w (has_more verb v (has_then (has_numeral l n h) (has_more 68 refl (has_none l))))

  has_pays : (dealer seat : ℕ) (z : ℤ) → nat_abs z < 4294967296 → Has l (pays_clips l dealer seat z)
  unfolding pays_clips
  has_pays dealer seat z h = has_cond l (lt_z z (pos 0)) (has_amount (player dealer seat) 66 (nat_abs z) (has_player dealer seat) verbs.2 h) (has_none l)

  pub has_payments : (dealer : ℕ) (c : List ℤ) → ((k : ℕ) → nat_abs (get_or c k (pos 0)) < 4294967296) → Has l (payments_clips l dealer c)
  unfolding payments_clips
  has_payments dealer c f =
      has_then (has_pays dealer 0 (get_or c 0 (pos 0)) (f 0))
      (has_then (has_pays dealer 1 (get_or c 1 (pos 0)) (f 1))
      (has_then (has_pays dealer 2 (get_or c 2 (pos 0)) (f 2)) (has_pays dealer 3 (get_or c 3 (pos 0)) (f 3))))

  pub has_counted : (clip n : ℕ) → is_phrase clip ≡ true → n < 4294967296 → Has l (counted_clips l clip n)
  unfolding counted_clips
  has_counted clip n e h = has_cond l (eqb n 0) (has_none l) (has_more clip e (has_numeral l n h))

  pub has_score : (dealer seat : ℕ) (z : ℤ) → nat_abs z < 4294967296 → Has l (score_clips l dealer seat z)
  unfolding score_clips is_phrase
  has_score dealer seat z h =
      has_more (player dealer seat) (has_player dealer seat)
      (has_then (has_cond l (lt_z z (pos 0)) (has_more 76 refl (has_none l)) (has_none l))
      (has_then (has_numeral l (nat_abs z) h) (has_more 68 refl (has_none l))))
