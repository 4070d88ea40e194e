-- What S-13 (02) says of a claim that names the reading r and the gain g for a sound hand. Nothing here says how it is decided.
use Rattle.std.specs.Prelude.{◌≡◌, ℕ, ◌≤◌, ◌<◌}
use Rattle.hand.specs.declared.Hand.{Hand}
use Rattle.reading.specs.declared.Reading.{Reading}
use Rattle.score.specs.Named.{IsReadingOf, ReadsWithYaku, gain_in}

module _ (h : Hand) (dealer wind : ℕ) (r : Reading) where
  -- "no other reading of them with a yaku pays more"
  abbrev pub PaysMost : Type 0
  PaysMost = (q : Reading) → ReadsWithYaku h dealer wind q → gain_in h dealer wind q ≤ gain_in h dealer wind r

  -- "accepted exactly when its reading is one of those tiles, has a yaku, pays that gain, and no other .. pays more": 0
  -- "Otherwise it names the first of these four that is false": 1 to 4
  pub data IsVerdict (g : ℕ) : ℕ → Type 0 where
    accepted : ReadsWithYaku h dealer wind r → gain_in h dealer wind r ≡ g → PaysMost → IsVerdict g 0
    one : (IsReadingOf h r → ⊥) → IsVerdict g 1
    two : IsReadingOf h r → (ReadsWithYaku h dealer wind r → ⊥) → IsVerdict g 2
    three : ReadsWithYaku h dealer wind r → (gain_in h dealer wind r ≡ g → ⊥) → IsVerdict g 3
    four : ReadsWithYaku h dealer wind r → gain_in h dealer wind r ≡ g → (q : Reading)
        → ReadsWithYaku h dealer wind q → g < gain_in h dealer wind q → IsVerdict g 4
