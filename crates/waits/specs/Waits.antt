-- What an unfinished hand waits for (02, S-1). Nothing here says how the waits are found; `Answer` has the one answer of the call.
use Rattle.std.specs.Prelude.{◌≡◌, Bool, true, false, ◌↔◌, ℕ, ◌+◌, ◌<◌, length, get_or, replicate}
use mathlib.Core.List.{List, Memᴰ as Member}
use Rattle.tiles.specs.Groups.{at_kind}
use Rattle.tiles.specs.Tally.{tally_of}
use Rattle.hand.specs.declared.Held.{Held}
use Rattle.hand.specs.Held.{in_others, in_held}
use Rattle.reading.specs.declared.Reading.{Reading}
use Rattle.reading.specs.Reading.{IsReading}
use Rattle.unfinished.specs.Unfinished.{held_of, refusal_of}
use Rattle.waits.specs.declared.Waits.{Waits}

-- "when added": the concealed tiles with one of kind k more
unfoldable pub with_one : Held → ℕ → List ℕ
with_one x k = tally_of (λ j. in_others x j + at_kind k 1 j)

-- "kinds that give a reading when added, yaku or not. A kind already held four times is never among them"
pub record IsWait (x : Held) (k : ℕ) : Type 0 where
  pub kind : k < 34
  pub free : in_held x k < 4
  pub reading : Reading
  pub reads : IsReading (with_one x k) x.m k reading

-- "a discarded kind is a wait"
abbrev pub Discarded : Held → List ℕ → Type 0
Discarded x discards = (d : ℕ) × Member d discards × IsWait x d

-- "a discard over 33"
abbrev pub OverAmong : List ℕ → Type 0
OverAmong discards = (d : ℕ) × Member d discards × (33 < d)

-- refused: no waits, not in furiten; "all else zero" (01)
abbrev pub refused_with : ℕ → Waits
refused_with n = record { refusal = n; waits = replicate 34 false; furiten = false }

-- what the call answers of the bytes s of an unfinished hand and a list of discards
pub data IsWaits (s discards : List ℕ) : Waits → Type 0 where
  -- "Read's checks 1 to 4"
  unreadable : 0 < refusal_of s → IsWaits s discards (refused_with (refusal_of s))
  -- "It refuses a discard over 33 with 15, after the checks above"
  fifteen : refusal_of s ≡ 0 → OverAmong discards → IsWaits s discards (refused_with 15)
  -- "the set of kinds"; "in furiten exactly when a discarded kind is a wait"
  answered : refusal_of s ≡ 0 → (OverAmong discards → ⊥) → (w : List Bool) (furiten : Bool) → length w ≡ 34
      → ((k : ℕ) → (get_or w k false ≡ true) ↔ IsWait (held_of s) k)
      → ((furiten ≡ true) ↔ Discarded (held_of s) discards)
      → IsWaits s discards (record { refusal = 0; waits = w; furiten = furiten })
