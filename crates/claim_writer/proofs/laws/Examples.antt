-- Claims byte by byte, computed: those of the hand `five` of claim/proofs/laws/Examples, and what is refused.
use Rattle.std.specs.Prelude.{List, [], ◌∷◌, ◌≡◌, refl, ℕ, replicate}
use Rattle.std.proofs.Common.{sym, ◌∙◌}
use Rattle.tiles.specs.Groups.{is_group}
use Rattle.hand_record.specs.declared.Written.{Written}
use Rattle.claim_writer.specs.declared.Claim.{Claim}
use Rattle.claim_writer.specs.Writes.{refused_with}
use Rattle.claim_writer.specs.Write.{written_of, buffer_of}
use Rattle.claim_writer.proofs.ExactlyOne.{one_answer}
use Rattle.claim_writer.specs.search.Bytes.{ordered, is_nameable, packed, length_for, bytes_for, found_written, found_buffer}
use Rattle.claim_writer.proofs.laws.Exact.{found_is}

-- a claim by its fields
abbrev pub claimed : ℕ → ℕ → List ℕ → ℕ → ℕ → ℕ → Claim
claimed shape pair groups place gain m = record { gain = record { 0 = gain }; shape = shape; pair = pair; groups = groups; place = place; m = m }

-- in a buffer of n bytes 255: what is answered, and what it then holds
pub record Leaves (c : Claim) (n : ℕ) (w : Written) (out : List ℕ) : Type 0 where
  pub answer : written_of c (replicate n 255) ≡ w
  pub buffer : buffer_of c (replicate n 255) ≡ out

-- groups of a hand without a group
abbrev none : List ℕ
none = 68 ∷ 68 ∷ 68 ∷ 68 ∷ []

pub record Worked : Type 0 where
  -- pair 5s (22), groups 123m (0) twice and 789p (15) twice, place 0, gain 5,200; a byte more stays
  pub regular : Leaves (claimed 0 22 (0 ∷ 0 ∷ 15 ∷ 15 ∷ []) 0 5200 0) 8 (record { refusal = 0; len = 7 }) (22 ∷ 0 ∷ 0 ∷ 120 ∷ 240 ∷ 20 ∷ 80 ∷ 255 ∷ [])
  -- with three melds: pair East (27), triplet 1s (52), place 1, gain 12,000
  pub melds : Leaves (claimed 0 27 (52 ∷ 68 ∷ 68 ∷ 68 ∷ []) 1 12000 3) 5 (record { refusal = 0; len = 5 }) (27 ∷ 104 ∷ 69 ∷ 220 ∷ 0 ∷ [])
  -- seven pairs for 1,600
  pub pairs : Leaves (claimed 1 34 none 0 1600 0) 3 (record { refusal = 0; len = 3 }) (64 ∷ 200 ∷ 0 ∷ [])
  -- 22: shape 3, descending codes, a place over 4 − m, pair 34, a code in the place of a meld, a gain of 18 bits, m 5; before 13
  pub shape_3 : Leaves (claimed 3 34 none 0 1600 0) 2 (refused_with 22) (255 ∷ 255 ∷ [])
  pub descending : Leaves (claimed 0 22 (15 ∷ 0 ∷ 0 ∷ 15 ∷ []) 0 5200 0) 2 (refused_with 22) (255 ∷ 255 ∷ [])
  pub place : Leaves (claimed 0 27 (52 ∷ 68 ∷ 68 ∷ 68 ∷ []) 2 12000 3) 2 (refused_with 22) (255 ∷ 255 ∷ [])
  pub pair : Leaves (claimed 0 34 (0 ∷ 0 ∷ 15 ∷ 15 ∷ []) 0 5200 0) 2 (refused_with 22) (255 ∷ 255 ∷ [])
  pub meld : Leaves (claimed 0 27 (52 ∷ 53 ∷ 68 ∷ 68 ∷ []) 1 12000 3) 2 (refused_with 22) (255 ∷ 255 ∷ [])
  pub gain : Leaves (claimed 1 34 none 0 131072 0) 2 (refused_with 22) (255 ∷ 255 ∷ [])
  pub five_melds : Leaves (claimed 1 34 none 0 1600 5) 2 (refused_with 22) (255 ∷ 255 ∷ [])
  -- 13
  pub short : Leaves (claimed 1 34 none 0 1600 0) 2 (refused_with 13) (255 ∷ 255 ∷ [])

-- what is left is what the code finds
by : (c : Claim) (n : ℕ) (w : Written) (out : List ℕ) → found_written c (replicate n 255) ≡ w → found_buffer c (replicate n 255) ≡ out → Leaves c n w out
by c n w out e f =
    let o = one_answer c (replicate n 255) (found_written c (replicate n 255)) (found_buffer c (replicate n 255)) (found_is c (replicate n 255)) in
    record { answer = sym o.0 ∙ e; buffer = sym o.1 ∙ f }

pub worked_claims : Worked
unfolding is_group ordered is_nameable packed length_for bytes_for found_written found_buffer
worked_claims = record {
  regular = by _ _ _ _ refl refl;
  melds = by _ _ _ _ refl refl;
  pairs = by _ _ _ _ refl refl;
  shape_3 = by _ _ _ _ refl refl;
  descending = by _ _ _ _ refl refl;
  place = by _ _ _ _ refl refl;
  pair = by _ _ _ _ refl refl;
  meld = by _ _ _ _ refl refl;
  gain = by _ _ _ _ refl refl;
  five_melds = by _ _ _ _ refl refl;
  short = by _ _ _ _ refl refl;
}
