use Rattle.std.proofs.Common.{◌≡◌, ℕ, ◌≤◌, List, length, get_or, length-set, rules, arith}
use Rattle.tiles.specs.Tally.{tally_of}
use Rattle.hand.specs.declared.Held.{Held}
use Rattle.hand.specs.Held.{in_others}
use Rattle.hand.proofs.laws.Held.{others_le, tally_room}
use Rattle.waits.proofs.laws.Found.{one_told, all_told}
use Rattle.waits.proofs.wait_set.Goals as goal

-- the concealed tiles have of no kind more than 13
room : (x : Held) (t : List ℕ) → length t ≡ 34 → t ≡ tally_of (in_others x) → (k : ℕ) → get_or t k 0 ≤ 13
room x t l e = tally_room t (in_others x) l e 13 (others_le x)

pub open_sorts-may-requires : goal.open_sorts-may-requires
open_sorts-may-requires c =
    let t = c.others_tally-t in
    (search rules, room c.args.x t.result (search rules) t.ensures)

pub loop-k-init : goal.loop-k-init
loop-k-init c = (search rules, λ j h. absurd (omega arith))

pub is_wait-requires : goal.is_wait-requires
is_wait-requires c =
    let t = c.others_tally-t in
    let k = c.loop-k.k in (
      c.requires,
      room c.args.x t.result (search rules) t.ensures k,
      λ h. c.open_sorts-may.ensures k _ c.loop-k-test.true (rw c.sort_of.ensures.0 at h),
    )

pub loop-k-preserved : goal.loop-k-preserved
loop-k-preserved c =
    let l = c.loop-k in (
      rw length-set l.invariant.0,
      one_told c.args.x.m c.others_tally-t.result c.held_tally-held.result l.wait-items l.k c.is_wait.result (omega arith) l.invariant.1 c.is_wait.ensures,
    )

pub returns : goal.returns
returns c =
    let l = c.loop-k in
    let n : l.k ≡ 34 = omega arith in
    let t = c.others_tally-t in
    let h = c.held_tally-held in
    all_told c.args.x t.result h.result l.wait-items (search rules) t.ensures h.ensures l.invariant.0 (rw n at l.invariant.1)
