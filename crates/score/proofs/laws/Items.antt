-- The items of fu in a score.
use Rattle.std.specs.Prelude.{ℕ, ◌<◌, ◌≡◌, false, List, get_or}
use Rattle.tiles.specs.Kinds.{dora_of}
use Rattle.tiles.proofs.laws.Tabulate.{get_d_tabulate}
use Rattle.hand.specs.declared.Hand.{Hand}
use Rattle.reading.specs.declared.Reading.{Reading}
use Rattle.yaku.specs.Yaku.{yakuman}
use Rattle.points_fu.specs.Fu.{fu, group_fu, added, regular_items, items_of}
use Rattle.points_value.specs.Value.{value_of}
use Rattle.points_value.proofs.Claims.{items_add_up}
use Rattle.points_fu.proofs.laws.Items.{added_alone}
use Rattle.score.specs.declared.Scored.{Scored}
use Rattle.score.specs.Named.{won_of, seats_of, groups_of, ways_of, full_reading_of, worth, Named, reported, six, seven}
use Rattle.score.specs.IsScore.{IsScore, eight, unreadable, read}

module _ (h : Hand) (dealer wind : ℕ) where
  reading_total : (r : Reading) → added (worth h dealer wind r).items ≡ (worth h dealer wind r).fu.0
  unfolding worth
  reading_total r = items_add_up (won_of h dealer wind) (full_reading_of h r) (dora_of h.fields.indicator) (seats_of h dealer)

  named_total : {a : Scored} → Named h dealer wind a → added a.items ≡ a.fu.0
  named_total (reported r i) = reading_total r
  named_total (six n) = added_alone 0
  named_total (seven q i n) = added_alone 0

  pub group_item : (r : Reading) → r.shape ≡ 0 → yakuman (won_of h dealer wind) (full_reading_of h r) ≡ false →
      (i : ℕ) → i < 4 → get_or (worth h dealer wind r).items.group i (fu 0) ≡ fu (group_fu (get_or (groups_of h r) i 0) (get_or (ways_of h r) i 0))
  unfolding worth value_of items_of regular_items full_reading_of groups_of ways_of
  group_item r e y i l = rw (y, e) (get_d_tabulate (fu 0) 4 (λ k. fu (group_fu (get_or (groups_of h r) k 0) (get_or (ways_of h r) k 0))) i l)

module _ {s : List ℕ} {dealer wind : ℕ} where
  pub total : {a : Scored} → IsScore s dealer wind a → added a.items ≡ a.fu.0
  total (eight o) = added_alone 0
  total (unreadable d w n e) = added_alone 0
  total (read d w f e n) = named_total _ dealer wind n
