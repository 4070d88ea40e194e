-- What the code finds for a record and a claim, case by case.
use Rattle.std.specs.Prelude.{ℕ, ◌≡◌, true, false, ◌||◌, List, ltb, Option, None, Some}
use Rattle.std.proofs.Common.{sym, ◌∙◌, refl, arith}
use Rattle.std.proofs.Math.Path.{ap}
use Rattle.hand.specs.declared.Hand.{Hand}
use Rattle.hand_record.specs.Record.{Answer, Sound, Refused}
use Rattle.hand_record.specs.Record.{refusal_in, hand_of, read_of}
use Rattle.hand_record.proofs.laws.Bounds.{refused_number}
use Rattle.claim.specs.declared.Claimed.{Claimed}
use Rattle.claim.specs.IsJudged.{refused_with, judged_as}
use Rattle.claim.specs.Judge.{judged_of}
use Rattle.claim.specs.search.Claimed.{claimed_of}
use Rattle.claim.specs.search.Verdict.{verdict_of}
use Rattle.claim.specs.search.Judge.{passed_as, found_by, found_of}

pub found_eight : (s claim : List ℕ) (dealer wind : ℕ) → ltb 3 dealer || ltb 1 wind ≡ true → refused_with 8 ≡ judged_of s claim dealer wind
unfolding judged_of found_of
found_eight s claim dealer wind e = rw e

module _ (s claim : List ℕ) (dealer wind : ℕ) (q : ltb 3 dealer || ltb 1 wind ≡ false) where
  by_answer : (a : Answer) → (read_of s).answer ≡ a → found_by a (hand_of (read_of s)) claim dealer wind ≡ judged_of s claim dealer wind
  unfolding judged_of found_of
  by_answer a told = rw q (ap (λ (x : Answer). found_by x (hand_of (read_of s)) claim dealer wind) (sym told))

  -- Read's refusal
  pub found_refused : (n : ℕ) → n ≡ refusal_in (read_of s).answer → (n ≡ 0 → ⊥) → refused_with n ≡ judged_of s claim dealer wind
  unfolding found_by
  found_refused n e some = go (read_of s).answer refl
    where
      go : (a : Answer) → (read_of s).answer ≡ a → refused_with n ≡ judged_of s claim dealer wind
      go (Refused k) t = ap refused_with (e ∙ ap refusal_in t) ∙ by_answer (Refused k) t
      go (Sound f) t = absurd (some (e ∙ ap refusal_in t))

  -- the claim, for a hand that read
  module _ (z : refusal_in (read_of s).answer ≡ 0) (h : Hand) (eh : h ≡ hand_of (read_of s)) (x : Option Claimed) (ex : x ≡ claimed_of h.held.m claim) where
    found_passed : passed_as h x dealer wind ≡ judged_of s claim dealer wind
    unfolding found_by
    found_passed =
        ap (λ (y : Option Claimed). passed_as h y dealer wind) ex ∙ ap (λ (k : Hand). passed_as k (claimed_of k.held.m claim) dealer wind) eh
        ∙ go (read_of s).answer refl
      where
        go : (a : Answer) → (read_of s).answer ≡ a → passed_as (hand_of (read_of s)) (claimed_of (hand_of (read_of s)).held.m claim) dealer wind ≡ judged_of s claim dealer wind
        go (Refused k) t = absurd (omega (arith, refused_number s k t, ap refusal_in t, z))
        go (Sound f) t = by_answer (Sound f) t

    pub found_faulty : x ≡ None → refused_with 22 ≡ judged_of s claim dealer wind
    unfolding passed_as
    found_faulty n = rw n at found_passed

    pub found_verdict : (y : Claimed) (v : ℕ) → x ≡ Some y → v ≡ verdict_of h dealer wind y.reading y.gain.0 → judged_as v ≡ judged_of s claim dealer wind
    unfolding passed_as
    found_verdict y v n ev = ap judged_as ev ∙ rw n at found_passed
