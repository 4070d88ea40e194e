use Rattle.std.proofs.Common.{◌≡◌, ◌∙◌, length, rules}
use Rattle.speech_table.proofs.laws.Any.{any_places}
use Rattle.speech_table.proofs.any_wait.Goals as goal

pub returns : goal.returns
returns c =
    let long : length c.args.waits ≡ 34 = search rules in
    c.contains.ensures.value ∙ any_places _ (λ b. search rules) c.args.waits 34 long
