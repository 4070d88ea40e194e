-- The slip of a scored hand (02, S-2), as bytes: 32 is a space, 10 a line feed.
use Rattle.std.specs.Prelude.{cond, ℕ, ltb, length, get_or, drop}
use mathlib.Core.List.{List, [], ◌∷◌, ◌++◌, flat_map}
use Rattle.yaku.specs.Yaku.{is_yakuman}
use Rattle.score.specs.declared.Scored.{Scored}
use Rattle.text.specs.Text.{digits_of, score_text}
use Rattle.text.specs.Words.{bytes_of}
use Rattle.slip.specs.Line.{slip_line, labels}

-- "HAN carries h and the seats the four changes of a scored hand, with a minus where negative"; FU carries fu.
-- "A yakuman has the value YAKUMAN on the first line and 0 on the second."
unfoldable pub values_of : Scored → List (List ℕ)
values_of a =
    cond (is_yakuman a.yaku) (bytes_of "YAKUMAN") (digits_of a.h.0)
    ∷ cond (is_yakuman a.yaku) (digits_of 0) (digits_of a.fu.0)
    ∷ score_text a.changes 0 ∷ score_text a.changes 1 ∷ score_text a.changes 2 ∷ score_text a.changes 3 ∷ []

-- line k
unfoldable pub line_at : Scored → ℕ → List ℕ
line_at a k = slip_line (get_or labels k []) (get_or (values_of a) k [])

-- "six lines"
unfoldable pub slip_text : Scored → List ℕ
slip_text a = flat_map (line_at a) (0 ∷ 1 ∷ 2 ∷ 3 ∷ 4 ∷ 5 ∷ [])

-- Score's refusal; "It refuses a page buffer under 150 bytes with 16, after Score's own checks"
unfoldable pub slip_refusal : Scored → List ℕ → ℕ
slip_refusal a page = cond (ltb 0 a.refusal) a.refusal (cond (ltb (length page) 150) 16 0)

-- the page afterwards: "a refused call .. writes nothing" (01); "bytes past 150 keep what they had"
unfoldable pub slip_page : Scored → List ℕ → List ℕ
slip_page a page = cond (ltb 0 (slip_refusal a page)) page (slip_text a ++ drop 150 page)
