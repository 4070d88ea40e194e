use Rattle.std.proofs.Common.{rules, ◌≡◌, ℕ, ◌+◌, ◌≤◌, ◌<◌, eqb, get_or, length, List, arith}
use Rattle.std.proofs.Common.{refl, sym, ap, ◌∙◌, set, length-set}
use Rattle.std.proofs.Math.ListN.{get_or-replicate}
use Rattle.std.proofs.Math.Seq.{set_out}
use Rattle.tiles.specs.Below.{count_below}
use Rattle.tiles.specs.Groups.{at_kind}
use Rattle.tiles.specs.Tally.{more}
use Rattle.tiles.proofs.laws.Below.{number_none, number_more, number_le}
use Rattle.tiles.proofs.laws.Tally.{tally_ext, tally_bound, more_adds}
use Rattle.hand.proofs.tally_of.Goals as goal
use Rattle.hand.proofs.tally_of.Goals.{then-k-lt34, else-k-lt34}

-- how many of the first i tiles are of kind k
abbrev among : List ℕ → ℕ → ℕ → ℕ
among c i k = count_below i (λ j. eqb (get_or c j 0) k)

room : (c t : List ℕ) (i : ℕ) → length t ≡ 34 → i ≤ 13 → ((k : ℕ) → k < 34 → get_or t k 0 ≡ among c i k) → (a : ℕ) → get_or t a 0 + 1 ≤ 255
room c t i l h e a =
    let b = tally_bound t l 13 (λ k g. rw (e k g) (omega (arith, number_le (λ j. eqb (get_or c j 0) k) i))) a in
    omega arith

turn : (c : List ℕ) (i : ℕ) (t u : List ℕ) → length t ≡ 34 → ((k : ℕ) → k < 34 → get_or t k 0 ≡ among c i k)
    → ((k : ℕ) → k < 34 → get_or u k 0 ≡ among c i k + at_kind (get_or c i 0) 1 k) → (k : ℕ) → k < 34 → get_or u k 0 ≡ among c (i + 1) k
unfolding at_kind
turn c i t u l e h k g = h k g ∙ sym (number_more (λ j. eqb (get_or c j 0) k) i)

-- one more of a kind, or of what is none
stored : (t : List ℕ) (a : ℕ) → set t a (get_or t a 0 + 1) ≡ more t a 1
unfolding more
stored t a = refl

kept : (t : List ℕ) (a : ℕ) → length t ≡ 34 → 34 ≤ a → t ≡ more t a 1
unfolding more
kept t a l h = sym (set_out t a (get_or t a 0 + 1) (omega arith))

more_long : (t : List ℕ) (a : ℕ) → length t ≡ 34 → length (more t a 1) ≡ 34
unfolding more
more_long t a l = simp length-set l

pub overflow_add-t : goal.overflow_add-t
overflow_add-t c =
    let l = c.loop-k in
    let within : l.k-index ≤ 13 = omega (arith, c.requires) in
    omega (arith, room c.args.tiles.now l.t l.k-index l.invariant.0 within l.invariant.1 c.from.result)

pub loop-k-init : goal.loop-k-init
loop-k-init c = (search rules, λ k g. get_or-replicate 34 k 0 0 g ∙ sym (number_none _))

pub loop-k-preserved : goal.loop-k-preserved
loop-k-preserved c =
    let a = c.args.tiles.now in
    let i = c.loop-k.k-index in
    let t = c.loop-k.t in
    let long = c.loop-k.invariant.0 in
    let known : (k : ℕ) → k < 34 → get_or t k 0 ≡ among a i k = c.loop-k.invariant.1 in
    let added : c.if-k-lt34.t ≡ more t (get_or a i 0) 1 =
    elim c.if-k-lt34.branch [
      | then-k-lt34 w ↦ w.t-is ∙ ap (λ (j : ℕ). set t j (get_or t j 0 + 1)) w.from.ensures ∙ stored t (get_or a i 0)
      | else-k-lt34 w ↦ w.t-is ∙ kept t (get_or a i 0) long w.if-k-lt34.false
    ] in (
      ap length added ∙ more_long t (get_or a i 0) long,
      turn a i t c.if-k-lt34.t long known (more_adds t long c.if-k-lt34.t (among a i) (get_or a i 0) 1 added known),
    )

pub returns : goal.returns
returns c =
    let l = c.loop-k in
    let n : l.k-index ≡ length c.args.tiles.now = omega arith in
    rw n at (tally_ext l.t (among c.args.tiles.now l.k-index) l.invariant.0 l.invariant.1)
