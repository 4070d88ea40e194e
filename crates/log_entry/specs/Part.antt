-- What Next entry's answer hands back, in the papers' words.
use Rattle.std.specs.Prelude.{List, [], ℕ, Option, None, Some, Result, Ok, Err}
use Rattle.std.specs.Borrow.{Bor}

-- the part: "an empty part" at 14 and at the end
abbrev pub part_given : {E : Type 0} → Result (Option (Bor (List ℕ))) E → List ℕ
part_given (Ok None) = []
part_given (Ok (Some p)) = p.now
part_given (Err e) = []
