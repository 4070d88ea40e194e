use Rattle.std.proofs.Common.{◌≡◌, refl, false, true, ◌||◌, Bool, [], ◌∷◌, ℕ, get_or, rules}
use Rattle.position.specs.Ledger.{wrong_feeder}
use Rattle.position_form.proofs.any_wrong.Goals as goal

-- two times four tests, one after the other
eight : (a b c d e : Bool) → a || (((b || c) || d) || e) ≡ (((a || b) || c) || d) || e
eight true b c d e = refl
eight false b c d e = refl

pub returns : goal.returns
returns c =
    let w : ℕ → Bool = λ i. wrong_feeder i (get_or c.args.f i 0) in
    let p : c.each_seat-of_28.result ≡ w 0 ∷ w 1 ∷ w 2 ∷ w 3 ∷ [] = search rules in
    let q : c.each_seat-of_29.result ≡ w 4 ∷ w 5 ∷ w 6 ∷ w 7 ∷ [] = search rules in
    rw (c.any_true.ensures, c.any_true-2.ensures, p, q) (eight (w 0 || w 1 || w 2 || w 3) (w 4) (w 5) (w 6) (w 7))
