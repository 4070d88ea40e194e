-- Where a walk stands after as many lines as fit: what was written and what is left make up the text.
use Rattle.std.specs.Prelude.{◌≡◌, Bool, true, false, List, [], ◌++◌, ℕ, ◌+◌, ◌≤◌, ◌<◌, leb, eqb, length, take, drop}
use Rattle.std.proofs.Math.Path.{refl}
use Rattle.std.proofs.Common.{sym, ap, ◌∙◌, append_assoc, arith, leb-true, leb-false, eqb-true, length-append, length-drop, drop-drop, take_all, take-take}
use Rattle.std.proofs.lemmas.Bool.{eqb-false}
use Rattle.std.proofs.Math.Seq.{take-append_seam}
use Rattle.log_entry.specs.Next.{LogEntry}
use Rattle.log_entry.specs.Log.{entries_of}
use Rattle.log_entry.specs.search.Lengths.{entry_length}
use Rattle.log_entry.proofs.laws.Parts.{length_inside, part_length}
use Rattle.log_entry.proofs.laws.Next.{first_entry}
use Rattle.log_entry.proofs.laws.Walk.{along, parts_none, parts_some}
use Rattle.log_walk.specs.declared.Walk.{Walk}
use Rattle.log_walk.specs.declared.Printed.{Printed}
use Rattle.log_walk.specs.Walk.{started, text_from, text_left, printed_text, filled, lines_of}
use Rattle.log_walk.proofs.laws.Fill.{line_next, walk_next, filled_on, filled_long, filled_max, filled_none, text_some}

module _ (log : List ℕ) (room : ℕ) where
  -- from w, with n bytes written, to r
  pub record Moved (w : Walk) (n : ℕ) (r : Printed) : Type 0 where
    pub front : List ℕ
    pub text : front ++ text_left r.walk log ≡ text_left w log
    pub size : r.written ≡ n + length front
    pub ahead : 0 < length front → w.at < r.walk.at
    pub inside : w.at ≤ length log → r.walk.at ≤ length log
    pub after : w.at ≤ r.walk.at
    pub count : r.walk.entry + w.at ≤ w.entry + r.walk.at
    pub fits : n ≤ room → r.written ≤ room

  stays : (w : Walk) (n : ℕ) (r : Printed) → r ≡ record { written = n; walk = w } → Moved w n r
  stays w n r e =
      rw e record {
        front = [];
        text = refl;
        size = omega arith;
        ahead = λ h. absurd
            (omega arith);
        inside = λ h. h;
        after = omega arith;
        count = omega arith;
        fits = λ h. h;
      }

  moved_from : (s : List ℕ) (w : Walk) (n : ℕ) → drop w.at log ≡ s → Moved w n (filled room n w (entries_of s))
  moved_from =
      along (λ s. (w : Walk) (n : ℕ) → drop w.at log ≡ s → Moved w n (filled room n w (entries_of s)))
      (λ s e w n d. stays w n _ (ap (filled room n w) (parts_none s e) ∙ filled_none room n w)) turn
    where
      turn : (s : List ℕ) → 0 < entry_length s → ((w : Walk) (n : ℕ) → drop w.at log ≡ drop (entry_length s) s
          → Moved w n (filled room n w (entries_of (drop (entry_length s) s)))) → (w : Walk) (n : ℕ) → drop w.at log ≡ s
          → Moved w n (filled room n w (entries_of s))
      turn s p r w n d = go (leb (n + length line) room) refl (eqb w.entry 4294967295) refl
        where
          rest : List LogEntry
          rest = entries_of (drop (entry_length s) s)

          line : List ℕ
          line = line_next room n w (first_entry s) rest

          go : (f : Bool) → leb (n + length line) room ≡ f → (m : Bool) → eqb w.entry 4294967295 ≡ m → Moved w n (filled room n w (entries_of s))
          go false f m e = stays w n _ (ap (filled room n w) (parts_some s p) ∙ filled_long room n w (first_entry s) rest (leb-false (n + length line) room f))
          go true f true e = stays w n _ (filled_max room n w (entries_of s) (eqb-true w.entry 4294967295 e))
          go true f false e = rw same (step (r next (n + length line) there))
            where
              next : Walk
              next = walk_next room n w (first_entry s) rest

              there : drop next.at log ≡ drop (entry_length s) s
              there = ap (λ (j : ℕ). drop (w.at + j) log) (part_length s) ∙ sym (drop-drop (entry_length s) w.at log) ∙ ap (drop (entry_length s)) d

              same : filled room n w (entries_of s) ≡ filled room (n + length line) next rest
              same =
                  ap (filled room n w) (parts_some s p) ∙ filled_on room n w (first_entry s) rest (leb-true (n + length line) room f)
                  (eqb-false w.entry 4294967295 e)

              text_turn : text_left w log ≡ line ++ text_left next log
              text_turn =
                  ap (λ (x : List ℕ). text_from w.entry w.game (entries_of x)) d ∙ ap (text_from w.entry w.game) (parts_some s p)
                  ∙ text_some w.entry w.game (first_entry s) rest
                  ∙ ap (λ (x : List ℕ). line ++ text_from next.entry next.game (entries_of x)) (sym there)

              step : Moved next (n + length line) (filled room (n + length line) next rest) → Moved w n (filled room (n + length line) next rest)
              step q =
                  let k = part_length s in
                  record {
                    front = line ++ q.front;
                    text = append_assoc line q.front _ ∙ ap (λ (x : List ℕ). line ++ x) q.text ∙ sym text_turn;
                    size = omega (arith, q.size, length-append line q.front);
                    ahead = λ h. omega (arith, q.after, k, p);
                    inside = λ h. q.inside (omega (arith, k, ap length d, length-drop w.at log, length_inside s, h));
                    after = omega (arith, q.after);
                    count = omega (arith, q.count, k, p);
                    fits = λ h. q.fits (leb-true (n + length line) room f);
                  }

module _ (room : ℕ) (w : Walk) (log : List ℕ) where
  pub moved : Moved log room w 0 (lines_of room w log)
  unfolding lines_of
  moved = moved_from log room (drop w.at log) w 0 refl

  pub by_lines : take (lines_of room w log).written (text_left w log) ++ text_left (lines_of room w log).walk log ≡ text_left w log
  by_lines =
      let l : (lines_of room w log).written ≡ length moved.front = omega (arith, moved.size) in
      let t = sym moved.text in
      ap (λ (x : List ℕ). x ++ text_left (lines_of room w log).walk log)
      (ap (take (lines_of room w log).written) t ∙ ap (λ (j : ℕ). take j (moved.front ++ text_left (lines_of room w log).walk log)) l
      ∙ take-append_seam moved.front _) ∙ moved.text

  pub lengths : (lines_of room w log).written + length (text_left (lines_of room w log).walk log) ≡ length (text_left w log)
  lengths = omega (arith, moved.size, length-append moved.front (text_left (lines_of room w log).walk log), ap length moved.text)

-- a log of at most 65,536 bytes is read whole; of a longer one the first 65,536 bytes
pub text_whole : (log : List ℕ) → length log ≤ 65536 → text_left started log ≡ printed_text log
unfolding printed_text
text_whole log h = rw (take_all 65536 log h)

pub text_cut : (log : List ℕ) → printed_text (take 65536 log) ≡ printed_text log
unfolding printed_text
text_cut log = rw (take-take 65536 65536 log (omega arith))
