-- Demand 3 holds of every run.
use Rattle.std.specs.Prelude.{◌≡◌, List, ℕ, ℤ, ◌+ℤ◌}
use Rattle.std.proofs.Common.{ap, ◌∙◌}
use Rattle.position.specs.declared.Position.{Position}
use Rattle.position.specs.Booking.{result, win, multi_ron}
use Rattle.position.specs.Ledger.{fresh, score_at, total_of, refusal_for, ledger, given_from}
use Rattle.position.specs.Wins.{WinBooked, MultiRonBooked}
use Rattle.position.proofs.laws.Tiles.{win_booked, multi_ron_booked}
use Rattle.position.proofs.laws.Kept.{fresh_kept, ledger_kept}
use Rattle.position.proofs.laws.Lists.{fresh_score, scores_given}
use Rattle.game.specs.declared.Game.{Game}
use Rattle.game.specs.Game.{Entry, fresh_game, standing}
use Rattle.game.specs.Runs.{Runs}
use Rattle.game.specs.Demand3.{Demand3}
use Rattle.game.proofs.laws.Lists.{fresh_both, runs_game, runs_named, every_of}
use Rattle.game.proofs.laws.Standing.{game_standing}

module _ {xs : List Entry} {ns : List ℕ} {k : Game} (r : Runs fresh_game xs ns k) where
  runs_standing : k.now ≡ ledger (standing xs)
  runs_standing = ap (λ (h : Game). h.now) (runs_game r) ∙ game_standing xs

pub demand_3 : (xs : List Entry) (ns : List ℕ) (k : Game) → Runs fresh_game xs ns k → Demand3 xs ns k
unfolding ledger
demand_3 xs ns k r = record {
  sum = ap total_of (runs_standing r) ∙ (ledger_kept (standing xs) fresh fresh_kept).total;
  seats =
      λ i h. ap (λ (g : Position). score_at g i) (runs_standing r) ∙ scores_given (standing xs) fresh i h
      ∙ ap (λ (z : ℤ). z +ℤ given_from fresh (standing xs) i) (fresh_score i h);
  ledger = runs_standing r;
  game = runs_game r;
  named = (runs_named r, every_of (λ l b n. n ≡ refusal_for l b) (λ l b n e. e) r fresh_both);
  wins = every_of (λ l b n. (s : List ℕ) → b ≡ result (win s) → WinBooked l s n) (λ l b n e s q. win_booked l s n (e ∙ ap (refusal_for l) q)) r fresh_both;
  multi_rons = every_of (λ l b n. (number : ℕ) (s : List ℕ) → b ≡ result (multi_ron number s) → MultiRonBooked l number s n)
      (λ l b n e number s q. multi_ron_booked l number s n (e ∙ ap (refusal_for l) q)) r fresh_both;
}
