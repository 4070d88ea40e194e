use Rattle.std.proofs.Common.{◌≡◌, ◌<◌, Ok, Some, None, ◌/◌, ◌%◌, true, false, Bool, List, ℕ, length, get_or, sym, ap, ◌∙◌, refl, rules, arith}
use Rattle.log_entry.specs.Entry.{letter_of}
use Rattle.log_entry.specs.Log.{part_at, refusal_at}
use Rattle.log_entry.specs.search.Found.{entry_of}
use Rattle.log_entry.proofs.laws.Exact.{by_place}
use Rattle.log_entry.proofs.laws.Letters.{IsLetter, letter_told}
use Rattle.log_entry.proofs.laws.Next.{next_end, next_bad, next_part, refusal_end, refusal_bad, length_part, part_is_entry}
use Rattle.handset.specs.declared.NextEntry.{NextEntry}
use Rattle.handset.specs.Interface.{next_entry_by, next_entry_of}
use Rattle.handset.proofs.hb_log_next.Goals as goal

-- no entry, by its refusal, and whether it is the end
abbrev no_entry : ℕ → Bool → NextEntry
no_entry refusal ends = record { refusal = refusal; end = ends; kind = 0; argument = 0; letter = 0; length = 0 }

module _ (log : List ℕ) (at : ℕ) (empty : length (part_at log at) ≡ 0) where
  ends : 0 ≡ refusal_at log at → no_entry 0 true ≡ next_entry_of log at
  unfolding next_entry_of
  ends r =
      by_place log at (λ g. sym (ap next_entry_by (next_end log at g))) (λ g z. absurd (omega (arith, r, refusal_bad log at g z)))
      (λ g. absurd (omega (arith, g, length_part log at, empty)))

  fails : 14 ≡ refusal_at log at → no_entry 14 false ≡ next_entry_of log at
  unfolding next_entry_of
  fails r =
      by_place log at (λ g. absurd (omega (arith, r, refusal_end log at g))) (λ g z. sym (ap next_entry_by (next_bad log at g z)))
      (λ g. absurd (omega (arith, g, length_part log at, empty)))

some : (log : List ℕ) (at : ℕ) (part : List ℕ) (kind argument letter : ℕ) → part ≡ part_at log at → 0 < length part → kind ≡ get_or part 0 0 / 16
    → argument ≡ get_or part 0 0 % 16 → IsLetter kind letter
    → record { refusal = 0; end = false; kind = kind; argument = argument; letter = letter; length = length part } ≡ next_entry_of log at
unfolding next_entry_of
some log at part kind argument letter e h k a l =
    let p : 0 < length (part_at log at) = rw (← e) h in
    let n : IsLetter (get_or (part_at log at) 0 0 / 16) letter = rw (← e, ← k) l in
    let y : letter ≡ letter_of (entry_of (part_at log at)) = letter_told (part_at log at) (entry_of (part_at log at)) (part_is_entry log at p) p letter n in
    rw (k, a, y, e) (sym (ap next_entry_by (next_part log at p)))

pub returns-in-Ok-Some : goal.returns-in-Ok-Some
returns-in-Ok-Some c =
    let e = c.next_entry.ensures in
    let whole : c.next_entry.result ≡ Ok (Some c.in-Ok-Some.part) = search rules in
    some c.args.s.now c.args.at _ _ _ _ (rw whole at e.part) (rw whole at e.some) c.kind-kind.ensures c.argument.ensures c.letter.ensures.by_index

pub returns-in-Ok-None : goal.returns-in-Ok-None
returns-in-Ok-None c =
    let e = c.next_entry.ensures in
    let d = c.default.ensures in
    let none : c.next_entry.result ≡ Ok None = search rules in
    rw (d.0, d.1.1.0, d.1.1.1.0, d.1.1.1.1.0, d.1.1.1.1.1)
    (ends c.args.s.now c.args.at (ap length (sym (rw none at e.part))) (rw none at e.refusal))

pub returns-in-Err : goal.returns-in-Err
returns-in-Err c =
    let e = c.in-Err.ensures in
    let d = c.default-in-Err.ensures in
    rw (c.from.ensures.value, e.err, d.1.0, d.1.1.0, d.1.1.1.0, d.1.1.1.1.0, d.1.1.1.1.1)
    (fails c.args.s.now c.args.at (ap length (sym e.part)) (rw e.err at e.refusal))
