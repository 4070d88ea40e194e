-- Which of two readings is reported (01, Readings), and how far a search in order goes (02, S-4), where `worth` says what each is worth.
use Rattle.std.specs.Prelude.{Bool, cond, List, [], ◌∷◌, ◌⊎◌, ◌≡◌, ℕ}
use Rattle.reading.specs.declared.Reading.{Reading}
use Rattle.reading.specs.Order.{Lex, Before}
use Rattle.yaku.specs.Yaku.{is_yakuman, has_yaku}
use Rattle.points_value.specs.declared.Value.{Value}

-- it is one "of the readings with a yaku"
abbrev pub with_yaku : (Reading → Value) → Reading → Bool
with_yaku worth r = has_yaku (worth r).yaku

-- "the highest winner's gain, then highest h, then fu"
abbrev pub figures : Value → List ℕ
figures v = v.gain.0 ∷ v.han.0 ∷ v.fu.0 ∷ []

-- "the first with the highest": r's figures are above q's, or they are equal and r is q or comes before it
abbrev pub Over : (Reading → Value) → Reading → Reading → Type 0
Over worth r q = Lex (figures (worth q)) (figures (worth r)) ⊎ ((figures (worth q) ≡ figures (worth r)) × ((r ≡ q) ⊎ Before r q))

-- it is a "yakuman reading" (02, S-4)
abbrev pub with_yakuman : (Reading → Value) → Reading → Bool
with_yakuman worth r = is_yakuman (worth r).yaku

-- "up to that one, it included, or all where there is none": the elements of a list up to the first with p
unfoldable pub up_to : {A : Type 0} → (A → Bool) → List A → List A
up_to p [] = []
up_to p (x ∷ xs) = x ∷ cond (p x) [] (up_to p xs)
