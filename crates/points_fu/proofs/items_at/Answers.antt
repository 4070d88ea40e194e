-- `points_fu::items_at` meets its contract: a triplet that is completed by ron is open.
use Rattle.std.proofs.Common.{◌≡◌, ◌≤◌, ℕ, ◌-◌, List, Bool, true, ◌&&◌, ltb, get_or, ap, sym, ◌∙◌, rules, length}
use Rattle.std.proofs.Math.ListN.{set}
use Rattle.units.specs.declared.Fu.{Fu}
use Rattle.yaku_basics.specs.search.Ways.{ways_at}
use Rattle.yaku_basics.proofs.laws.Ways.{ways_same, opened_some, opened_none}
use Rattle.points_fu.specs.Fu.{fu, group_fu}
use Rattle.points_fu.specs.search.Items.{items_by}
use Rattle.points_fu.proofs.laws.Items.{items_ron}
use Rattle.points_fu.proofs.items_at.Goals as goal

by_ron : (all : List Fu) (g ways : List ℕ) (ron : Bool) (place i : ℕ) (x : Fu) → all ≡ items_by g ways → length ways ≡ 4 → place ≤ 4 → ron && ltb 0 place ≡ true
    → i ≡ place - 1 → x ≡ fu (group_fu (get_or g i 0) 1) → set all i x ≡ items_by g (ways_at ways ron place)
by_ron all g ways ron place i x ea l few e at ex = rw (ea, ex, at) (items_ron g ways l ron place few e)

pub returns-in-Some : goal.returns-in-Some
returns-in-Some c =
    let a = c.args in
    let o = opened_some (a.ron && ltb 0 a.place) (a.place - 1) c.in-Some.i (sym c.in-Some.ensures) in
    by_ron a.all a.g a.ways a.ron a.place c.in-Some.i c.group_fu.result c.requires.0 (search rules) c.requires.1 o.0 o.1 c.group_fu.ensures.value

pub returns-in_default : goal.returns-in_default
returns-in_default c =
    let a = c.args in
    c.requires.0 ∙ ap (items_by a.g) (sym (ways_same a.ways a.ron a.place (opened_none (a.ron && ltb 0 a.place) (a.place - 1) (sym c.in_default.ensures))))
