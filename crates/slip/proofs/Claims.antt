-- The theorems of the slip (02, S-2), for every record, dealer, wind and page.
use Rattle.std.specs.Prelude.{◌≡◌, List, [], ℕ, ◌*◌, ◌≤◌, ◌<◌, length, get_or, take, drop}
use Rattle.score.specs.Score.{score_of}
use Rattle.text.specs.Text.{digits_of}
use Rattle.slip.specs.Slip.{values_of, line_at, slip_text, slip_refusal, slip_page}
use Rattle.slip.proofs.laws.Short as short
use Rattle.slip.proofs.laws.Page as page

module _ (s : List ℕ) (dealer wind : ℕ) where
  -- "a value, right in 14": every value fits, so that nothing is cut
  pub value_fits : (k : ℕ) → length (get_or (values_of (score_of s dealer wind)) k []) ≤ 14
  value_fits = short.value_fits s dealer wind

  -- "lines of 24 characters and a line feed": each line has 25 bytes
  pub line_has_25_bytes : (k : ℕ) → length (line_at (score_of s dealer wind) k) ≡ 25
  line_has_25_bytes = short.line_has_25_bytes s dealer wind

  -- "150 bytes"
  pub text_has_150_bytes : length (slip_text (score_of s dealer wind)) ≡ 150
  text_has_150_bytes = short.text_has_150_bytes s dealer wind

  -- the second line has fu, also where it is a yakuman's 0
  pub fu_line : get_or (values_of (score_of s dealer wind)) 1 [] ≡ digits_of (score_of s dealer wind).fu.0
  fu_line = page.fu_line s dealer wind

  module _ (p : List ℕ) where
    -- "Each line is written into its own part of the page": bytes 25k to 25k + 24
    pub line_in_its_part : slip_refusal (score_of s dealer wind) p ≡ 0 → (k : ℕ) → k < 6 →
        take 25 (drop (25 * k) (slip_page (score_of s dealer wind) p)) ≡ line_at (score_of s dealer wind) k
    line_in_its_part = page.line_in_its_part s dealer wind p

    -- "bytes past 150 keep what they had"
    pub past_150 : drop 150 (slip_page (score_of s dealer wind) p) ≡ drop 150 p
    past_150 = page.past_150 s dealer wind p

    -- "a refused call .. writes nothing" (01)
    pub refused_writes_nothing : 0 < slip_refusal (score_of s dealer wind) p → slip_page (score_of s dealer wind) p ≡ p
    refused_writes_nothing = page.refused_writes_nothing s dealer wind p
