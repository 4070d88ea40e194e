-- Exactly one: a tool for answers that are stated by a relation, no rule of the game.
use Rattle.std.specs.Prelude.{◌≡◌}

-- there is one with P, and every other with P is that one
abbrev pub ExactlyOne : {A : Type 0} → (A → Type 0) → Type 0
ExactlyOne {A} P = (a : A) × P a × ((b : A) → P b → b ≡ a)
