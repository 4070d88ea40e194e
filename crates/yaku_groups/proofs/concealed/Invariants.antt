-- The loop of `yaku_groups::concealed`: what is counted and what is left make the whole.
use Rattle.std.proofs.Common.{◌≡◌, ◌+◌, ℕ, List, count_by}
use Rattle.std.specs.List.{zip}
use Rattle.yaku_basics.specs.Tests.{is_concealed}
use Rattle.yaku_groups.proofs.concealed.Given as goal

-- the concealed triplets among groups with their ways
abbrev pub counted : List ℕ → List ℕ → ℕ
counted g ways = count_by (λ (p : ℕ × ℕ). is_concealed p.0 p.1) (zip g ways)

abbrev pub invariant-loop-c : goal.invariant-loop-c
invariant-loop-c l = l.n + counted l.c-iterator.a.rest.now l.c-iterator.b.rest.now ≡ counted l.fn.g l.fn.ways
