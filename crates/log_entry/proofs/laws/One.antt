-- What Next entry gives is an answer, and the only one.
use Rattle.std.specs.Prelude.{◌≡◌, List, ℕ}
use Rattle.log_entry.specs.Next.{Next, IsNext}
use Rattle.log_entry.specs.Log.{next_of}
use Rattle.log_entry.proofs.laws.Exact.{exactly_one}

module _ (log : List ℕ) (at : ℕ) where
  pub is_next : IsNext log at (next_of log at)
  unfolding next_of
  is_next = (exactly_one log at).1

  pub one_next : (n : Next) → IsNext log at n → n ≡ next_of log at
  unfolding next_of
  one_next = (exactly_one log at).2
