-- Of two readings at most one is reported rather than the other.
use Rattle.std.specs.Prelude.{List, ◌≡◌, ℕ}
use Rattle.std.proofs.Common.{inl, inr, sym, subst}
use Rattle.reading.specs.declared.Reading.{Reading}
use Rattle.reading.specs.Order.{Lex, key_of}
use Rattle.reading.proofs.laws.Readings.{lex_irreflexive}
use Rattle.reading.proofs.laws.Only.{lex_one_way}
use Rattle.points_value.specs.declared.Value.{Value}
use Rattle.score_best.specs.Best.{figures, Over}

lex_differ : (a b : List ℕ) → Lex a b → a ≡ b → ⊥
lex_differ a b h e = lex_irreflexive b (subst (λ (z : List ℕ). Lex z b) e h)

pub over_same : (worth : Reading → Value) (r q : Reading) → Over worth r q → Over worth q r → r ≡ q
over_same worth r q (inl h) (inl g) = absurd (lex_one_way (figures (worth q)) (figures (worth r)) h g)
over_same worth r q (inl h) (inr g) = absurd (lex_differ (figures (worth q)) (figures (worth r)) h (sym g.0))
over_same worth r q (inr h) (inl g) = absurd (lex_differ (figures (worth r)) (figures (worth q)) g (sym h.0))
over_same worth r q (inr (e, inl p)) (inr g) = p
over_same worth r q (inr (e, inr p)) (inr (f, inl g)) = sym g
over_same worth r q (inr (e, inr p)) (inr (f, inr g)) = absurd (lex_one_way (key_of r) (key_of q) p g)
