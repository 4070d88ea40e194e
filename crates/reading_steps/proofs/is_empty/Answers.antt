-- Each kind has no tile, or one has.
use Rattle.std.proofs.Common.{◌≡◌, Bool, true, false, List, ℕ, ◌<◌, length, sym, arith, rules, tests, eq-eqb, ne_eqb}
use Rattle.std.specs.Bool.{MatchBool}
use Rattle.std.specs.List.{AllWithin, HoldsAt}
use Rattle.std.proofs.lemmas.Iterator.{cases_from_all, YieldsList-from_slice}
use Rattle.tiles.proofs.laws.Below.{every_of, every_stop}
use Rattle.reading.specs.search.Readings.{is_empty}
use Rattle.reading_steps.proofs.is_empty.Goals as goal

told : (t : List ℕ) (r : Bool) → length t ≡ 34 →
    MatchBool r (AllWithin (λ x. x ≡ 0) t 0 (length t)) ((k : ℕ) × (k < length t) × HoldsAt (λ x. x ≡ 0 → ⊥) t k) → r ≡ is_empty t
unfolding is_empty
told t true l h = sym (every_of _ 34 (λ k m. eq-eqb _ 0 (h k 0 (omega arith) (omega arith))))
told t false l h = sym (every_stop _ 34 h.0 (omega (arith, h.1)) (ne_eqb _ 0 (h.2 0)))

pub returns : goal.returns
returns c =
    told c.args.t _ (search rules)
    (cases_from_all c.all.new.self _ _ (λ x. x ≡ 0) (λ x. x ≡ 0 → ⊥) c.all.ensures.ran (YieldsList-from_slice c.args.t cc) (λ x q k. search (rules, tests))
    (λ x q k. search (rules, tests)))
