-- `yaku_tiles::gates` meets its contract: where no suit has all tiles, no suit is asked.
use borrow.Author.Rules.{rules}
use mathlib.Core.Path.{◌≡◌, refl, sym, ◌∙◌}
use mathlib.Core.Bool.{Bool, true, false, ◌&&◌, ◌||◌}
use mathlib.Core.List.{List}
use Prim.Native.Nat.{ℕ}
use Rattle.tiles.specs.Kinds.{in_suit}
use Rattle.yaku_tiles.specs.OfTiles.{only, gates_of, gates}
use Rattle.yaku_tiles.proofs.gates.Statement.{statement}
use Rattle.yaku_tiles.proofs.gates.Tie as tie

by_suits : (t : List ℕ) (meldless m p s : Bool) → (m ≡ only t (in_suit 0)) × (p ≡ only t (in_suit 1)) × (s ≡ only t (in_suit 2))
    → (meldless && ((m && gates_of t 0 || p && gates_of t 1) || s && gates_of t 2)) ≡ gates t meldless
unfolding gates
by_suits t meldless m p s e = rw (e.0, e.1, e.2)

none : (b m p s x y z : Bool) → b && ((m || p) || s) ≡ false → false ≡ (b && ((m && x || p && y) || s && z))
none false m p s x y z e = refl
none true false false false x y z e = refl
none true true p s x y z e = absurd (mathlib.Core.Bool.false≢true (sym e))
none true false true s x y z e = absurd (mathlib.Core.Bool.false≢true (sym e))
none true false false true x y z e = absurd (mathlib.Core.Bool.false≢true (sym e))

one : (b c r : Bool) → b && c ≡ true → r ≡ (b && r)
one true c r e = refl
one false c r e = absurd (mathlib.Core.Bool.false≢true e)

pub gates_spec : {M : Type 1} → statement M
gates_spec =
    tie.close
    (tie.spec
    (λ c.
    let a = c.before in
    let x = a.args in
    none x.meldless x.man x.pin x.sou (gates_of x.t 0) (gates_of x.t 1) (gates_of x.t 2) c.if-not-meldless-man.true
    ∙ by_suits x.t x.meldless x.man x.pin x.sou a.requires)
    (λ c κs. search rules) (λ c κs. search rules) (λ c κs. search rules)
    (λ c.
    let two = c.before in
    let first = two.before in
    let a = first.before.before in
    let x = a.args in
    rw (first.gates_of.ensures, two.gates_of-2.ensures, c.gates_of-3.ensures)
    (one x.meldless ((x.man || x.pin) || x.sou) _ first.before.if-not-meldless-man.false
    ∙ by_suits x.t x.meldless x.man x.pin x.sou a.requires)))
