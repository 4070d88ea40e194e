-- The label has the seat's number, and the change passes through its bits unchanged.
use Rattle.std.proofs.Common.{ℕ, List, ap, ◌∙◌, w32, to_z-of_z}
use Rattle.bits.proofs.laws.Elem.{elem_sfits}
use Rattle.text.specs.Text.{score_text}
use Rattle.slip.specs.Line.{slip_line}
use Rattle.slip.proofs.laws.Lines.{seat_label}
use Rattle.slip.proofs.put_seat.Goals as goal

pub returns : goal.returns
returns c =
    let a = c.args in
    let fits = elem_sfits w32 a.changes c.well_formed.1.1.0.0 a.seat c.well_formed.1.1.0.1.1 in
    rw (to_z-of_z fits) at c.put_number.ensures ∙ ap (λ (l : List ℕ). slip_line l (score_text a.changes a.seat)) (seat_label a.seat c.requires.1)
