-- The images of all readings in order are all readings of the renamed hand in order, so as many are tried.
use Rattle.std.specs.Prelude.{ℕ, ◌≡◌, Bool}
use Rattle.std.proofs.Math.Path.{refl}
use Rattle.std.proofs.Common.{sym, ap, ◌∙◌, subst}
use Rattle.std.proofs.Math.Bool.{true, false, cond}
use mathlib.Core.List.{List, [], ◌∷◌, Memᴰ as Member}
use Rattle.std.proofs.Math.ListN.{length}
use Rattle.hand.specs.declared.Hand.{Hand}
use Rattle.hand.specs.Hand.{hand_tally}
use Rattle.reading.specs.declared.Reading.{Reading}
use Rattle.reading.specs.Order.{Before}
use Rattle.reading.specs.All.{Each, none, also, Pairwise, ended, first}
use Rattle.yaku_tiles.specs.OfTiles.{only, is_green}
use Rattle.yaku.specs.Yaku.{is_yakuman}
use Rattle.score_best.specs.Best.{with_yakuman, up_to}
use Rattle.score.specs.Readings.{AreReadingsOf, readings_of}
use Rattle.score.proofs.laws.Readings.{are_readings, only_readings}
use Rattle.score.specs.Named.{worth, IsReadingOf, tried_in}
use Rattle.symmetry.proofs.laws.Kinds.{Renaming}
use Rattle.symmetry.proofs.laws.Hands.{Renames}
use Rattle.symmetry.proofs.laws.Readings.{Image, image_of, image_from}
use Rattle.symmetry.proofs.laws.Images.{image_before, image_same}
use Rattle.symmetry.proofs.laws.Four.{image_worth}

-- image by image
data Images (u : Renaming) (h k : Hand) : List Reading → List Reading → Type 0 where
  done : Images u h k [] []
  more : {r q : Reading} {rs qs : List Reading} → Image u h k r q → IsReadingOf k q → Images u h k rs qs → Images u h k (r ∷ rs) (q ∷ qs)

module _ (u : Renaming) (h k : Hand) (s : Renames u h k) where
  images : (rs : List Reading) → ((r : Reading) → Member r rs → IsReadingOf h r) → (qs : List Reading) × Images u h k rs qs
  images [] f = ([], done)
  images (r ∷ rs) f =
      let (q, i, m) = image_of u h k s r (f r (Member.head refl)) in
      let (qs, l) = images rs (λ p n. f p (Member.tail n)) in
      (q ∷ qs, more m i l)

  reads : {rs qs : List Reading} → Images u h k rs qs → (q : Reading) → Member q qs → IsReadingOf k q
  reads done q e = elim e [ ]
  reads (more m i l) q (Member.head e) = subst (λ (x : Reading). IsReadingOf k x) (sym e) i
  reads (more m i l) q (Member.tail n) = reads l q n

  has : {rs qs : List Reading} → Images u h k rs qs → (r q : Reading) → Member r rs → Image u h k r q → Member q qs
  has done r q e j = elim e [ ]
  has (more {q = c} m i l) r q (Member.head e) j =
      Member.head (image_same u h k (rw s.m s.few) r q c j (subst (λ (x : Reading). Image u h k x c) (sym e) m))
  has (more m i l) r q (Member.tail n) j = Member.tail (has l r q n j)

  after : {rs qs : List Reading} (r q : Reading) → Image u h k r q → Images u h k rs qs → Each (Before r) rs → Each (Before q) qs
  after r q j done none = none
  after r q j (more {r = p} {q = c} m i l) (also b e) = also (image_before u h k r p q c j m b) (after r q j l e)

  order : {rs qs : List Reading} → Images u h k rs qs → Pairwise Before rs → Pairwise Before qs
  order done ended = ended
  order (more {r = r} {q = q} m i l) (first e p) = first (after r q m l e) (order l p)

  all_images : (qs : List Reading) → Images u h k (readings_of h) qs → AreReadingsOf k qs
  all_images qs l = record {
    readings = reads l;
    every = λ q i. let (r, j, m) = image_from u h k s q i in has l r q ((are_readings h).every r j) m;
    order = order l (are_readings h).order;
  }

  module _ (green : only (hand_tally k) is_green ≡ only (hand_tally h) is_green) (dealer wind : ℕ) where
    abbrev tries : Hand → List Reading → ℕ
    tries x l = length (up_to (with_yakuman (worth x dealer wind)) l)

    as_many : {rs qs : List Reading} → Images u h k rs qs → tries k qs ≡ tries h rs
    unfolding up_to
    as_many done = refl
    as_many (more {r = r} {q = q} {rs = rs} {qs = qs} m i l) =
        rw (ap is_yakuman (image_worth u h k s green dealer wind r q m).yaku) (go (with_yakuman (worth h dealer wind) r) (as_many l))
      where
        go : (b : Bool) → tries k qs ≡ tries h rs
            → length (q ∷ cond b [] (up_to (with_yakuman (worth k dealer wind)) qs)) ≡ length (r ∷ cond b [] (up_to (with_yakuman (worth h dealer wind)) rs))
        go true e = refl
        go false e = rw e

    pub tried_stays : tried_in k dealer wind ≡ tried_in h dealer wind
    tried_stays =
        let (qs, l) = images (readings_of h) (are_readings h).readings in
        ap (tries k) (sym (only_readings k qs (all_images qs l))) ∙ as_many l
