-- Line 0, line 1, and those of the seats.
use Rattle.std.proofs.Common.{Bool, cond, [], get_or, sym, ap, ◌∙◌, arith}
use Rattle.text.specs.Text.{digits_of}
use Rattle.text.specs.Words.{bytes_of}
use Rattle.slip.specs.Line.{slip_line, labels}
use Rattle.slip.specs.Slip.{line_at}
use Rattle.slip.proofs.laws.Lines.{line_han, line_fu, line_seat}
use Rattle.slip.proofs.put_line_at.Goals as goal

pub returns-in-0 : goal.returns-in-0
returns-in-0 c =
    let a = c.args.a in
    c.put_han.ensures
    ∙ ap (λ (y : Bool). slip_line (get_or labels 0 []) (cond y (bytes_of "YAKUMAN") (digits_of a.h.0))) c.is_yakuman.ensures
    ∙ line_han a ∙ ap (line_at a) (sym c.in-0.is)

pub returns-in-1 : goal.returns-in-1
returns-in-1 c =
    c.put_fu.ensures ∙ line_fu c.args.a c.requires.fu_value ∙ ap (line_at c.args.a) (sym c.in-1.is)

pub returns-in_default : goal.returns-in_default
returns-in_default c =
    c.put_seat.ensures ∙ line_seat c.args.a c.args.k (λ e. omega arith) (λ e. omega arith) c.requires.line_len.1
