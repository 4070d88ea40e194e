-- The image of the reported reading is reported, so a hand and its renaming score the same.
use Rattle.std.specs.Prelude.{ℕ, ◌≡◌, refl, List}
use Rattle.std.proofs.Common.{sym, ap, ◌∙◌, subst, inl, inr}
use Rattle.hand.specs.declared.Hand.{Hand}
use Rattle.hand.specs.Hand.{hand_tally}
use Rattle.reading.specs.declared.Reading.{Reading}
use Rattle.reading.specs.Order.{Lex}
use Rattle.yaku_tiles.specs.OfTiles.{only, is_green}
use Rattle.yaku.specs.Yaku.{has_yaku}
use Rattle.score_best.specs.Best.{with_yaku, figures, Over}
use Rattle.score.specs.declared.Scored.{Scored}
use Rattle.score.specs.Named.{worth, IsReadingOf, ReadsWithYaku, IsReported, scored_as, refused_with, Named, reported, six, seven}
use Rattle.symmetry.specs.Renamed.{SameScore}
use Rattle.symmetry.proofs.laws.Kinds.{Renaming}
use Rattle.symmetry.proofs.laws.Worth.{same_alone}
use Rattle.symmetry.proofs.laws.Hands.{Renames}
use Rattle.symmetry.proofs.laws.Readings.{Image, image_of, image_from}
use Rattle.symmetry.proofs.laws.Images.{image_before, image_same}
use Rattle.symmetry.proofs.laws.Four.{image_worth}
use Rattle.symmetry.proofs.laws.Tried.{tried_stays}

lex_moved : {a b c d : List ℕ} → a ≡ c → b ≡ d → Lex c d → Lex a b
lex_moved p q l = rw (p, q) l

pub same_refused : (n : ℕ) → SameScore (refused_with n) (refused_with n)
same_refused n = record { refusal = refl; h = refl; fu = refl; items = same_alone 0; yaku = refl; tried = refl; changes = refl }

module _ (u : Renaming) (h k : Hand) (s : Renames u h k) (green : only (hand_tally k) is_green ≡ only (hand_tally h) is_green) (dealer wind : ℕ) where
  figures_stay : (r q : Reading) → Image u h k r q → figures (worth k dealer wind q) ≡ figures (worth h dealer wind r)
  figures_stay r q i = let v = image_worth u h k s green dealer wind r q i in rw (v.gain, v.han, v.fu)

  yaku_stays : (r q : Reading) → Image u h k r q → with_yaku (worth k dealer wind) q ≡ with_yaku (worth h dealer wind) r
  yaku_stays r q i = ap has_yaku (image_worth u h k s green dealer wind r q i).yaku

  over_stays : (r p q c : Reading) → Image u h k r q → Image u h k p c → Over (worth h dealer wind) r p → Over (worth k dealer wind) q c
  over_stays r p q c i j (inl l) = inl (lex_moved (figures_stay p c j) (figures_stay r q i) l)
  over_stays r p q c i j (inr (e, inl o)) =
      let z = image_same u h k (rw s.m s.few) p q c (subst (λ (x : Reading). Image u h k x q) o i) j in
      inr (figures_stay p c j ∙ e ∙ sym (figures_stay r q i), inl z)
  over_stays r p q c i j (inr (e, inr o)) = inr (figures_stay p c j ∙ e ∙ sym (figures_stay r q i), inr (image_before u h k r p q c i j o))

  -- a reading with a yaku is the image of one
  from : (c : Reading) → ReadsWithYaku k dealer wind c → (p : Reading) × ReadsWithYaku h dealer wind p × Image u h k p c
  from c (i, y) = let (p, j, m) = image_from u h k s c i in (p, (j, sym (yaku_stays p c m) ∙ y), m)

  reported_image : (r q : Reading) → IsReadingOf k q → Image u h k r q → IsReported h dealer wind r → IsReported k dealer wind q
  reported_image r q i m a = record {
    yaku = (i, yaku_stays r q m ∙ a.yaku.1);
    first = λ c y. let (p, z, n) = from c y in over_stays r p q c m n (a.first p z);
  }

  same_score : (r q : Reading) → Image u h k r q → SameScore (scored_as h dealer wind r) (scored_as k dealer wind q)
  same_score r q i =
      let v = image_worth u h k s green dealer wind r q i in
      let n = tried_stays u h k s green dealer wind in
      record { refusal = refl; h = v.han; fu = v.fu; items = v.items; yaku = v.yaku; tried = n; changes = rw (v.basic, s.fields) }

  pub renamed_named : {x : Scored} → Named h dealer wind x → (y : Scored) × Named k dealer wind y × SameScore x y
  renamed_named (reported r a) =
      let (q, i, m) = image_of u h k s r a.yaku.0 in
      (_, reported q (reported_image r q i m a), same_score r q m)
  renamed_named (six n) = (_, six (λ q i. let (r, j, m) = image_from u h k s q i in n r j), same_refused 6)
  renamed_named (seven p i n) =
      let (q, j, m) = image_of u h k s p i in
      (_, seven q j (λ c y. let (r, z, l) = from c y in n r z), same_refused 7)
