use Rattle.std.proofs.Common.{◌≤◌, length, rules}
use Rattle.text.proofs.laws.Put.{take_put_at}
use Rattle.text.proofs.bytes.Bytes.push_digits.Goals as goal

pub returns : goal.returns
returns g c =
    let h : c.digits-self-inside.result ≤ length c.self.inside.array = search rules in
    rw (← c.self.view_is) (take_put_at c.digits-self-inside.ensures h)
