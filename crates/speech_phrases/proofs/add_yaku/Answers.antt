use Rattle.std.proofs.Common.{◌≡◌, ◌++◌, ◌∙◌, List, ℕ, ap, length, rules}
use Rattle.speech_told.specs.Phrases.{yaku_clips}
use Rattle.speech_phrases.proofs.laws.Chosen.{chosen_behind_one}
use Rattle.speech_phrases.proofs.add_yaku.Goals as goal

pub returns-clause-added : goal.returns-clause-added
unfolding yaku_clips
returns-clause-added g c =
    let wide : length c.args.yaku ≡ 37 = search rules in
    c.put_set.ensures.added ∙ ap (λ (l : List ℕ). c.args.clips.now ++ l) (chosen_behind_one 141 36 c.args.yaku wide)
