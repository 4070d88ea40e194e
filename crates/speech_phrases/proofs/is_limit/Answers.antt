use Rattle.std.proofs.Common.{◌<◌, arith, rules}
use Rattle.speech_phrases.proofs.laws.Limit.{limit_0, limit_1, limit_2, limit_3, limit_4, limit_5}
use Rattle.speech_phrases.proofs.is_limit.Goals as goal

pub returns-in-0 : goal.returns-in-0
returns-in-0 c =
    let byte : c.args.fu.0 < 256 = search rules in
    limit_0 _ _ c.in-0.is byte

pub returns-in-1 : goal.returns-in-1
returns-in-1 c = limit_1 _ _ c.in-1.is

pub returns-in-2 : goal.returns-in-2
returns-in-2 c = limit_2 _ _ c.in-2.is

pub returns-in-3 : goal.returns-in-3
returns-in-3 c = limit_3 _ _ c.in-3.is

pub returns-in-4 : goal.returns-in-4
returns-in-4 c = limit_4 _ _ c.in-4.is

pub returns-in_default : goal.returns-in_default
returns-in_default c = limit_5 c.args.h.0 c.args.fu.0 (omega arith)
