use Rattle.std.specs.Bool.{MatchBool}
use Rattle.std.specs.List.Sorted.{IsNonDecreasing}
use Rattle.std.proofs.lemmas.List.Sorted.{non_decreasing_from_is_sorted}
use Rattle.std.proofs.Common.{rules, ◌≡◌, sym, Bool, true, false, not, ℕ, ◌+◌, ◌-◌, ◌<◌, get_or, length, take, length-take-le, get_or-take, le-ltb, lt-ltb, arith}
use Rattle.tiles.proofs.laws.Below.{some_of, some_stop}
use Rattle.hand.specs.declared.Held.{Held}
use Rattle.hand.specs.Held.{descends, others}
use Rattle.hand_refusals.proofs.descends.Goals as goal

-- tiles descend where they are not sorted
sorted : (x : Held) (r : Bool) → length x.concealed ≡ 13
    → let l = take (others x) x.concealed in
    MatchBool r (IsNonDecreasing l) ((k : ℕ) × (k + 1 < length l) × ((d : ℕ) → get_or l (k + 1) d < get_or l k d))
    → not r ≡ descends x
unfolding descends
sorted x true t m =
    let n = others x in
    let c = x.concealed in
    let l = length-take-le n c (omega arith) in
    sym (some_of _ (n - 1) (λ i g. le-ltb (get_or c (i + 1) 0) (get_or c i 0)
    (omega (arith, m i (i + 1) 0 (omega arith) (omega (arith, l)), get_or-take n c i 0 (omega arith), get_or-take n c (i + 1) 0 (omega arith)))))
sorted x false t m =
    let n = others x in
    let c = x.concealed in
    let l = length-take-le n c (omega arith) in
    let h : m.0 + 1 < n = omega (arith, l, m.1) in
    sym (some_stop _ (n - 1) m.0 (omega arith) (lt-ltb (get_or c (m.0 + 1) 0) (get_or c m.0 0)
    (omega (arith, m.2 0, get_or-take n c m.0 0 (omega arith), get_or-take n c (m.0 + 1) 0 h))))

pub returns : goal.returns
returns c =
    let x = c.args.x in
    let tiles : length x.concealed ≡ 13 = search rules in
    sorted x c.is_sorted.result tiles
    (rw c.concealed.ensures at (non_decreasing_from_is_sorted c.concealed.result.now c.is_sorted.result c.is_sorted.ensures.cases))
