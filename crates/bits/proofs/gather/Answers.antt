use Rattle.std.proofs.Common.{◌≡◌, ℕ, ◌+◌, ◌-◌, ◌*◌, ◌^◌, ◌<◌, ◌≤◌, List, length, get_or, take, drop, sym, ◌∙◌, length-take, get_or-take, get_or-drop, arith}
use Rattle.bits.proofs.laws.Pack.{gather_step, grow}
use Rattle.bits.proofs.gather.Goals as goal

-- a bit of the part is one of the whole
item : (b : List ℕ) (at n i : ℕ) → i < n → get_or (take (at + n - at) (drop at b)) i 0 ≡ get_or b (at + i) 0
item b at n i h = get_or-take (at + n - at) (drop at b) i 0 (omega arith) ∙ get_or-drop at b i 0

below : (b : List ℕ) (at n i : ℕ) → i < length (take (at + n - at) (drop at b)) → i < n
below b at n i h = omega (arith, h, length-take (at + n - at) (drop at b))

grown : (n i r x : ℕ) → n ≤ 8 → i < n → r < 2 ^ i → x < 2 → (r < 128) × (r * 2 + x < 2 ^ (i + 1))
grown n i r x h p q g =
    let e : n - (n - i) ≡ i = omega arith in
    let f : n - (n - i - 1) ≡ i + 1 = omega arith in
    rw f at (grow n (n - i) r x h (omega arith) (omega arith) (rw e q) g)

pub overflow_add-r : goal.overflow_add-r
overflow_add-r c =
    let a = c.args in
    let l = c.loop-bit in
    let p = below a.b.now a.at a.n l.bit-index c.loop-bit-test.true in
    let x = c.requires.2 (a.at + l.bit-index) in
    let g = grown a.n l.bit-index l.r (get_or a.b.now (a.at + l.bit-index) 0) c.requires.0 p l.invariant.0 x in
    rw (item a.b.now a.at a.n l.bit-index p) (omega (arith, g.0, x))

pub loop-bit-preserved : goal.loop-bit-preserved
loop-bit-preserved c =
    let a = c.args in
    let l = c.loop-bit in
    let i = l.bit-index in
    let p = below a.b.now a.at a.n i c.loop-bit-test.true in
    let g = grown a.n i l.r (get_or a.b.now (a.at + i) 0) c.requires.0 p l.invariant.0 (c.requires.2 (a.at + i)) in
    let left : a.n - (i + 1) ≡ a.n - i - 1 = omega arith in
    let place : a.at + (i + 1) ≡ a.at + i + 1 = omega arith in
    rw (item a.b.now a.at a.n i p, left, place)
    (g.1, sym (gather_step a.b.now (a.at + i) (a.n - i) l.r (omega (arith, c.requires.1)) (omega arith)) ∙ l.invariant.1)
