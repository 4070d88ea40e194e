-- A buffer filled with whole lines: what holds before every line, and where it ends.
use Rattle.std.specs.Prelude.{◌≡◌, Bool, ◌||◌, List, [], ◌∷◌, ◌++◌, ℕ, zero, suc, ◌+◌, ◌-◌, ◌≤◌, ◌<◌, ltb, leb, take, drop}
use Rattle.std.proofs.Math.Path.{refl}
use Rattle.std.proofs.Common.{sym, ap, ◌∙◌, append_assoc, append-nil, arith, length-append, length-drop, take-append-drop, length-take-le, drop-drop}
use Rattle.std.proofs.Math.Bool.{true, false, cond}
use borrow.Author.Tests.{leb-true, leb-false, lt-ltb, le-ltb, le-leb, lt-leb, eq-eqb, ne_eqb}
use Rattle.std.proofs.Math.Dec.{eqb}
use Rattle.std.proofs.Math.ListN.{length}
use Rattle.std.proofs.Math.Seq.{take-append_seam, drop-append_seam}
use Rattle.log_entry.specs.Entry.{letter_of}
use Rattle.log_entry.specs.Next.{LogEntry}
use Rattle.log_entry.specs.Log.{entries_of}
use Rattle.log_entry.proofs.laws.Parts.{from_on, none_empty}
use Rattle.log_entry.proofs.laws.Next.{none_left, entry_at}
use Rattle.log_entry.proofs.laws.Walk.{parts_none}
use Rattle.text.specs.Text.{digits_of, spaced, line_of, length_in, buffer_with}
use Rattle.position.specs.declared.Position.{Position}
use Rattle.game.specs.declared.Game.{Game}
use Rattle.game.specs.Game.{game_refusal, game_after}
use Rattle.log_walk.specs.declared.Walk.{Walk}
use Rattle.log_walk.specs.declared.Printed.{Printed}
use Rattle.log_walk.specs.Walk.{Step, step_of, entry_line, text_from, text_left, filled, lines_of}
use Rattle.log_walk.proofs.laws.Turn.{no_parts, step_is, parts_are, inside}

-- a line has a byte at least
line_some : (k letter refusal : ℕ) (g : Position) → 0 < length (entry_line k letter refusal g)
unfolding entry_line line_of spaced
line_some k letter refusal g = rw (length-append (digits_of k)) (omega arith)

-- a text at the start of a buffer: all of it where it fits, else nothing
text_fits : (buf text : List ℕ) → length text ≤ length buf → (length_in buf text ≡ length text) × (buffer_with buf text ≡ text ++ drop (length text) buf)
text_fits buf text h = (simp (le-leb (length text) (length buf) h), simp (le-leb (length text) (length buf) h))

text_not : (buf text : List ℕ) → length buf < length text → (length_in buf text ≡ 0) × (buffer_with buf text ≡ buf)
text_not buf text h = (simp (lt-leb (length text) (length buf) h), simp (lt-leb (length text) (length buf) h))

-- 0 bytes of a text that has some: it does not fit
zero_long : (buf text : List ℕ) → 0 < length text → length_in buf text ≡ 0 → length buf < length text
zero_long buf text h z = go (leb (length text) (length buf)) refl
  where
    go : (b : Bool) → leb (length text) (length buf) ≡ b → length buf < length text
    go true e = absurd (omega (arith, h, sym (text_fits buf text (leb-true (length text) (length buf) e)).0 ∙ z))
    go false e = leb-false (length text) (length buf) e

some_fits : (buf text : List ℕ) → (length_in buf text ≡ 0 → ⊥) → length text ≤ length buf
some_fits buf text l = go (leb (length text) (length buf)) refl
  where
    go : (b : Bool) → leb (length text) (length buf) ≡ b → length text ≤ length buf
    go true e = leb-true (length text) (length buf) e
    go false e = absurd (l (text_not buf text (leb-false (length text) (length buf) e)).0)

-- nothing stands after the end
drop_past : (n : ℕ) (l : List ℕ) → length l ≤ n → drop n l ≡ []
drop_past zero [] h = refl
drop_past (suc n) [] h = refl
drop_past zero (x ∷ l) h = absurd (omega arith)
drop_past (suc n) (x ∷ l) h = drop_past n l (omega arith)

-- a buffer with the part from n on written anew
rest_put : (n : ℕ) (buf out : List ℕ) → take n buf ++ (out ++ drop (length buf - n) (drop n buf)) ≡ take n buf ++ out
rest_put n buf out =
    ap (λ (x : List ℕ). take n buf ++ (out ++ x)) (drop_past (length buf - n) (drop n buf) (omega (arith, length-drop n buf)))
    ∙ ap (λ (x : List ℕ). take n buf ++ x) (append-nil out)

-- ---- the lines of parts

module _ (room n : ℕ) (w : Walk) (p : LogEntry) (rest : List LogEntry) where
  abbrev pub game_next : Game
  game_next = game_after w.game p.entry

  abbrev pub line_next : List ℕ
  line_next = entry_line w.entry (letter_of p.entry) (game_refusal w.game p.entry) game_next.now

  abbrev pub walk_next : Walk
  walk_next = record { game = game_next; entry = w.entry + 1; at = w.at + length p.part }

  pub filled_on : n + length line_next ≤ room → (w.entry ≡ 4294967295 → ⊥) → filled room n w (p ∷ rest) ≡ filled room (n + length line_next) walk_next rest
  unfolding filled
  filled_on h m = simp (le-ltb room (n + length line_next) h, ne_eqb w.entry 4294967295 m)

  pub filled_long : room < n + length line_next → filled room n w (p ∷ rest) ≡ record { written = n; walk = w }
  unfolding filled
  filled_long h = simp (lt-ltb room (n + length line_next) h)

  filled_last : w.entry ≡ 4294967295 → filled room n w (p ∷ rest) ≡ record { written = n; walk = w }
  unfolding filled
  filled_last e = go (ltb room (n + length line_next))
    where
      go : (b : Bool) → cond (b || eqb w.entry 4294967295) (record { written = n; walk = w }) (filled room (n + length line_next) walk_next rest)
          ≡ record { written = n; walk = w }
      go true = refl
      go false = rw (eq-eqb w.entry 4294967295 e)

pub filled_none : (room n : ℕ) (w : Walk) → filled room n w [] ≡ record { written = n; walk = w }
unfolding filled
filled_none room n w = refl

-- where every number is taken
pub filled_max : (room n : ℕ) (w : Walk) (parts : List LogEntry) → w.entry ≡ 4294967295 → filled room n w parts ≡ record { written = n; walk = w }
filled_max room n w [] e = filled_none room n w
filled_max room n w (p ∷ rest) e = filled_last room n w p rest e

text_none : (j : ℕ) (k : Game) → text_from j k [] ≡ []
unfolding text_from
text_none j k = refl

pub text_some : (j : ℕ) (k : Game) (p : LogEntry) (rest : List LogEntry)
    → text_from j k (p ∷ rest) ≡ entry_line j (letter_of p.entry) (game_refusal k p.entry) (game_after k p.entry).now
    ++ text_from (j + 1) (game_after k p.entry) rest
unfolding text_from
text_some j k p rest = refl

-- ---- before every line

module _ (log : List ℕ) (w : Walk) (old : List ℕ) where
  -- n bytes are written of a buffer and the walk stands at v
  pub record Kept (buf : List ℕ) (v : Walk) (n : ℕ) : Type 0 where
    pub size : length buf ≡ length old
    pub room : n ≤ length old
    pub text : take n buf ++ text_left v log ≡ text_left w log
    pub past : drop n buf ≡ drop n old
    pub left : filled (length old) n v (entries_of (drop v.at log)) ≡ lines_of (length old) w log

  -- what `lines` gives
  abbrev pub Gives : Printed → List ℕ → Type 0
  Gives r buf =
      (r ≡ lines_of (length old) w log) × ((buf ≡ take r.written (text_left w log) ++ drop r.written old)
      × (83 + r.written ≤ length old → r.walk.entry < 4294967295 → text_left r.walk log ≡ []))

  pub kept_start : Kept old w 0
  unfolding lines_of
  kept_start = record { size = refl; room = omega arith; text = refl; past = refl; left = refl }

  module _ (buf : List ℕ) (v : Walk) (n : ℕ) (k : Kept buf v n) where
    -- the buffer by what is written and what stays
    bytes : buf ≡ take n (text_left w log) ++ drop n old
    bytes =
        let l : length (take n buf) ≡ n = length-take-le n buf (omega (arith, k.size, k.room)) in
        let t : take n (text_left w log) ≡ take n buf = ap (take n) (sym k.text) ∙ ap (λ (m : ℕ). take m (take n buf ++ text_left v log)) (sym l)
        ∙ take-append_seam (take n buf) (text_left v log) in
        sym (take-append-drop n buf) ∙ ap (λ (x : List ℕ). x ++ drop n buf) (sym t) ∙ ap (λ (x : List ℕ). take n (text_left w log) ++ x) k.past

    gives : filled (length old) n v (entries_of (drop v.at log)) ≡ record { written = n; walk = v }
        → (83 + n ≤ length old → v.entry < 4294967295 → text_left v log ≡ []) → Gives (record { written = n; walk = v }) buf
    gives e f = (sym e ∙ k.left, (bytes, f))

    -- no entry is left
    none_gives : entries_of (drop v.at log) ≡ [] → Gives (record { written = n; walk = v }) buf
    none_gives e = gives (ap (filled (length old) n v) e ∙ filled_none (length old) n v) (λ h l. none e)
      where
        none : entries_of (drop v.at log) ≡ [] → text_left v log ≡ []
        none e = ap (text_from v.entry v.game) e ∙ text_none v.entry v.game

    pub past_gives : length log ≤ v.at → Gives (record { written = n; walk = v }) buf
    past_gives h = none_gives (parts_none (drop v.at log) (none_empty (drop v.at log) (none_left log v.at h)))

    -- no number is left
    pub max_gives : v.entry ≡ 4294967295 → Gives (record { written = n; walk = v }) buf
    max_gives e = gives (filled_max (length old) n v (entries_of (drop v.at log)) e) (λ h l. absurd (omega (arith, e, l)))

    -- b is the entry there, booked
    module _ (b : Step) (eb : b ≡ step_of v.game log v.at) where
      pub end_gives : b.len ≡ 0 → Gives (record { written = n; walk = v }) buf
      end_gives z = none_gives (no_parts v.game log v.at (rw eb at z))

      module _ (l : b.len ≡ 0 → ⊥) where
        abbrev p : LogEntry
        p = entry_at log v.at

        abbrev rest : List LogEntry
        rest = entries_of (drop (v.at + length p.part) log)

        abbrev line : List ℕ
        line = entry_line v.entry b.letter b.refusal b.game.now

        there : (step_of v.game log v.at).len ≡ 0 → ⊥
        there = rw eb at l

        -- what b is of the log
        line_is : line ≡ line_next (length old) n v p rest
        line_is = rw (eb, step_is v.game log v.at there)

        walk_is : record { game = b.game; entry = v.entry + 1; at = v.at + b.len } ≡ walk_next (length old) n v p rest
        walk_is = rw (eb, step_is v.game log v.at there)

        parts : entries_of (drop v.at log) ≡ p ∷ rest
        parts = parts_are v.game log v.at there

        pub line_inside : (0 < b.len) × (v.at + b.len ≤ length log)
        line_inside = rw (eb, step_is v.game log v.at there) (inside v.game log v.at there)

        -- its line, written into what is left of the buffer, of which m bytes are told
        module _ (m : ℕ) (em : m ≡ length_in (drop n buf) line) where
          left_length : length (drop n buf) ≡ length old - n
          left_length = omega (arith, length-drop n buf, k.size)

          line_room : n + m ≤ length old
          line_room = go (leb (length line) (length (drop n buf))) refl
            where
              go : (t : Bool) → leb (length line) (length (drop n buf)) ≡ t → n + m ≤ length old
              go true e =
                  omega (
                    arith,
                    em ∙ (text_fits (drop n buf) line (leb-true (length line) (length (drop n buf)) e)).0,
                    leb-true (length line)
                        (length (drop n buf)) e,
                    left_length,
                    k.room,
                  )
              go false e = omega (arith, em ∙ (text_not (drop n buf) line (leb-false (length line) (length (drop n buf)) e)).0, k.room)

          -- it has no room
          short_gives : m ≡ 0 → length line ≤ 83 → Gives (record { written = n; walk = v }) buf
          short_gives z short =
              let long = zero_long (drop n buf) line (line_some v.entry b.letter b.refusal b.game.now) (sym em ∙ z) in
              let over : length old < n + length (line_next (length old) n v p rest) = rw (← line_is) (omega (arith, long, left_length, k.room)) in
              gives (ap (filled (length old) n v) parts ∙ filled_long (length old) n v p rest over) (λ h y. absurd (omega (arith, long, short, left_length, h)))

          -- it is written, and the walk goes on
          module _ (some : m ≡ 0 → ⊥) (max : v.entry ≡ 4294967295 → ⊥) where
            fits : length line ≤ length (drop n buf)
            fits = some_fits (drop n buf) line (λ z. some (em ∙ z))

            m_is : m ≡ length line
            m_is = em ∙ (text_fits (drop n buf) line fits).0

            -- the buffer then
            abbrev out : List ℕ
            out = take n buf ++ buffer_with (drop n buf) line

            head_length : length (take n buf) ≡ n
            head_length = length-take-le n buf (omega (arith, k.size, k.room))

            out_is : out ≡ (take n buf ++ line) ++ drop m (drop n buf)
            out_is =
                ap (λ (x : List ℕ). take n buf ++ x) (text_fits (drop n buf) line fits).1
                ∙ sym (append_assoc (take n buf) line (drop (length line) (drop n buf)))
                ∙ ap (λ (j : ℕ). (take n buf ++ line) ++ drop j (drop n buf)) (sym m_is)

            front_length : length (take n buf ++ line) ≡ n + m
            front_length = length-append (take n buf) line ∙ rw (head_length, m_is)

            line_kept : Kept out (record { game = b.game; entry = v.entry + 1; at = v.at + b.len }) (n + m)
            line_kept =
                record {
                  size =
                      ap length out_is ∙ length-append (take n buf ++ line) (drop m (drop n buf))
                      ∙ omega (arith, front_length, length-drop m (drop n buf), left_length, m_is, fits, k.room);
                  room = line_room;
                  text =
                      ap (λ (x : List ℕ). x ++ text_left (record { game = b.game; entry = v.entry + 1; at = v.at + b.len }) log) front
                      ∙ append_assoc (take n buf) line _ ∙ ap (λ (x : List ℕ). take n buf ++ x) (sym text_turn) ∙ k.text;
                  past =
                      ap (drop (n + m)) out_is ∙ ap (λ (j : ℕ). drop j ((take n buf ++ line) ++ drop m (drop n buf))) (sym front_length)
                      ∙ drop-append_seam (take n buf ++ line) (drop m (drop n buf)) ∙ ap (drop m) k.past ∙ drop-drop m n old;
                  left = ap (λ (x : Walk). filled (length old) (n + m) x (entries_of (drop x.at log))) walk_is ∙ sym filled_turn ∙ k.left;
                }
              where
                front : take (n + m) out ≡ take n buf ++ line
                front =
                    ap (take (n + m)) out_is ∙ ap (λ (j : ℕ). take j ((take n buf ++ line) ++ drop m (drop n buf))) (sym front_length)
                    ∙ take-append_seam (take n buf ++ line) (drop m (drop n buf))

                text_turn : text_left v log ≡ line ++ text_left (record { game = b.game; entry = v.entry + 1; at = v.at + b.len }) log
                text_turn =
                    ap (text_from v.entry v.game) parts ∙ text_some v.entry v.game p rest
                    ∙ ap (λ (x : List ℕ). x ++ text_left (walk_next (length old) n v p rest) log) (sym line_is)
                    ∙ ap (λ (x : Walk). line ++ text_left x log) (sym walk_is)

                filled_turn : filled (length old) n v (entries_of (drop v.at log)) ≡ filled (length old) (n + m) (walk_next (length old) n v p rest) rest
                filled_turn =
                    ap (filled (length old) n v) parts ∙ filled_on (length old) n v p rest (rw (← line_is) (omega (arith, m_is, line_room))) max
                    ∙ ap (λ (j : ℕ). filled (length old) (n + j) (walk_next (length old) n v p rest) rest) (sym (m_is ∙ ap length line_is))

        -- as the code has it: the part from n on is lent, and comes back as o
        module _ (m : ℕ) (o : List ℕ) (em : m ≡ length_in (take (length buf - n) (drop n buf)) line)
            (eo : o ≡ buffer_with (take (length buf - n) (drop n buf)) line) where
          lent_length : m ≡ length_in (drop n buf) line
          lent_length = em ∙ ap (λ (x : List ℕ). length_in x line) (from_on n buf)

          lent_bytes : take n buf ++ (o ++ drop (length buf - n) (drop n buf)) ≡ take n buf ++ buffer_with (drop n buf) line
          lent_bytes = rest_put n buf o ∙ ap (λ (x : List ℕ). take n buf ++ x) (eo ∙ ap (λ (x : List ℕ). buffer_with x line) (from_on n buf))

          pub lent_room : n + m ≤ length old
          lent_room = line_room m lent_length

          -- nothing is written
          pub lent_same : m ≡ 0 → take n buf ++ (o ++ drop (length buf - n) (drop n buf)) ≡ buf
          lent_same z =
              let long = zero_long (drop n buf) line (line_some v.entry b.letter b.refusal b.game.now) (sym lent_length ∙ z) in
              lent_bytes ∙ ap (λ (x : List ℕ). take n buf ++ x) (text_not (drop n buf) line long).1 ∙ take-append-drop n buf

          pub lent_short : m ≡ 0 → length line ≤ 83 → Gives (record { written = n; walk = v }) (take n buf ++ (o ++ drop (length buf - n) (drop n buf)))
          lent_short z short =
              let g = short_gives m lent_length z short in
              (g.0, (lent_same z ∙ g.1.0, g.1.1))

          -- the line is written
          pub lent_kept : (m ≡ 0 → ⊥) → (v.entry ≡ 4294967295 → ⊥)
              → Kept (take n buf ++ (o ++ drop (length buf - n) (drop n buf))) (record { game = b.game; entry = v.entry + 1; at = v.at + b.len }) (n + m)
          lent_kept some max = rw lent_bytes (line_kept m lent_length some max)
