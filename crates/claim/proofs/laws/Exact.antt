-- There is exactly one answer: what the code finds is one, and there is no other.
use Rattle.std.specs.Prelude.{ℕ, ◌<◌, ◌≤◌, ◌≡◌, Bool, ◌||◌, cond, List, ◌⊎◌, ltb, length, Option, None, Some}
use Rattle.std.proofs.Common.{arith, sym, ap, ◌∙◌, subst, inl, inr, ⊎_elim, ltb-true, ltb-false}
use Rattle.std.proofs.Math.Path.{refl}
use Rattle.std.proofs.Math.Bool.{true, false}
use Rattle.std.proofs.lemmas.Bool.{false≢true}
use Rattle.bits.specs.Bits.{bits_of}
use Rattle.hand.specs.declared.Hand.{Hand}
use Rattle.hand_record.specs.Record.{Answer, Sound, Refused}
use Rattle.hand_record.specs.Record.{refusal_in, hand_of, read_of, IsSound}
use Rattle.hand_record.proofs.Claims.{sound}
use Rattle.hand_record.proofs.laws.Bounds.{refused_number, read_bounds}
use Rattle.reading.specs.declared.Reading.{Reading}
use Rattle.score.proofs.laws.Paid.{read_paid}
use Rattle.claim.specs.declared.Claimed.{Claimed}
use Rattle.claim.specs.declared.Judged.{Judged}
use Rattle.claim.specs.Claim.{Names}
use Rattle.claim.specs.Verdict.{IsVerdict}
use Rattle.claim.specs.IsJudged.{refused_with, judged_as, IsNamed, IsJudged, eight, unreadable, faulty, passed}
use Rattle.claim.specs.search.Claimed.{reading_in, gain_of, faulty_in, claimed_in, claimed_of}
use Rattle.claim.specs.search.Judge.{passed_as, found_by, found_of}
use Rattle.claim.proofs.laws.Names.{names_of, same, formed_of}
use Rattle.claim.proofs.laws.Verdict as verdicts

-- ---- what a claim names, as the code reads it

module _ (m : ℕ) (claim : List ℕ) (few : m ≤ 4) (x : Option Claimed) (e : x ≡ claimed_of m claim) where
  either : {A : Type 0} → (x ≡ None → faulty_in m (length claim) (bits_of claim) ≡ true → A)
      → (x ≡ Some (record { reading = reading_in m (bits_of claim); gain = record { 0 = gain_of m (bits_of claim) } })
      → faulty_in m (length claim) (bits_of claim) ≡ false → A) → A
  unfolding claimed_in
  either {A} f g = go (faulty_in m (length claim) (bits_of claim)) refl
    where
      go : (b : Bool) → faulty_in m (length claim) (bits_of claim) ≡ b → A
      go true q = f (e ∙ rw q) q
      go false q = g (e ∙ rw q) q

  -- it names what was read
  pub some_names : (y : Claimed) → x ≡ Some y → Names m claim y.reading y.gain.0
  some_names y t =
      either (λ k q. cc)
      (λ k q.
      let z : y ≡ record { reading = reading_in m (bits_of claim); gain = record { 0 = gain_of m (bits_of claim) } } = cc in
      subst (λ (y : Claimed). Names m claim y.reading y.gain.0) (sym z) (names_of m claim few q))

  -- it names nothing
  pub none_names : x ≡ None → (r : Reading) (g : ℕ) → Names m claim r g → ⊥
  none_names t r g n = either (λ k q. false≢true (sym (same m claim few n).sound ∙ q)) (λ k q. cc)

module _ (s claim : List ℕ) (dealer wind : ℕ) where
  abbrev hand : Hand
  hand = hand_of (read_of s)

  abbrev Judges : Judged → Type 0
  Judges = IsJudged s claim dealer wind

  -- ---- what the code finds is an answer

  module _ (d : dealer ≤ 3) (w : wind ≤ 1) where
    passed_is : refusal_in (read_of s).answer ≡ 0 → Judges (passed_as hand (claimed_of hand.held.m claim) dealer wind)
    unfolding passed_as
    passed_is e = go (claimed_of hand.held.m claim) refl
      where
        go : (x : Option Claimed) → x ≡ claimed_of hand.held.m claim → Judges (passed_as hand x dealer wind)
        go None q = faulty d w ((sound s).1 e) (none_names hand.held.m claim (read_bounds s e).few None q refl)
        go (Some y) q =
            let n = some_names hand.held.m claim (read_bounds s e).few (Some y) q y refl in
            passed (record { seat = d; round = w; sound = (sound s).1 e; names = n })
            (verdicts.named hand dealer wind (read_paid s dealer d e) y.reading y.gain.0 (formed_of hand.held.m claim (read_bounds s e).few n))

    by_answer : (a : Answer) → (read_of s).answer ≡ a → Judges (found_by a hand claim dealer wind)
    unfolding found_by
    by_answer (Refused n) e = unreadable d w n e
    by_answer (Sound f) e = passed_is (ap refusal_in e)

  by_seats : (a b : Bool) → ltb 3 dealer ≡ a → ltb 1 wind ≡ b → Judges (cond (a || b) (refused_with 8) (found_by (read_of s).answer hand claim dealer wind))
  by_seats true b p q = eight (inl (ltb-true 3 dealer p))
  by_seats false true p q = eight (inr (ltb-true 1 wind q))
  by_seats false false p q = by_answer (ltb-false 3 dealer p) (ltb-false 1 wind q) (read_of s).answer refl

  pub found_is : Judges (found_of s claim dealer wind)
  unfolding found_of
  found_is = by_seats (ltb 3 dealer) (ltb 1 wind) refl refl

  -- ---- and there is no other

  over : {A : Type 0} → (3 < dealer) ⊎ (1 < wind) → dealer ≤ 3 → wind ≤ 1 → A
  over o d w = absurd (⊎_elim (λ x. omega arith) (λ x. omega arith) o)

  not_both : {A : Type 0} (n : ℕ) → (read_of s).answer ≡ Refused n → IsSound s → A
  not_both n p y =
      let z : n ≡ 0 = ap refusal_in (sym p) ∙ (sound s).0 y in
      absurd (omega (arith, refused_number s n p))

  -- a claim names one reading and one gain
  pub one_claim : {r q : Reading} {g k : ℕ} → IsSound s → Names hand.held.m claim r g → Names hand.held.m claim q k → (r ≡ q) × (g ≡ k)
  one_claim y a b =
      let few = (read_bounds s ((sound s).0 y)).few in
      let x = same hand.held.m claim few a in
      let z = same hand.held.m claim few b in
      (sym x.reading ∙ z.reading, sym x.gain ∙ z.gain)

  pub same_verdict : {r q : Reading} {g k v w : ℕ} → IsNamed s claim dealer wind r g → IsVerdict hand dealer wind r g v → IsNamed s claim dealer wind q k
      → IsVerdict hand dealer wind q k w → v ≡ w
  same_verdict {r} {q} {g} {k} {v} {w} x a y b =
      let e = one_claim x.sound x.names y.names in
      verdicts.only_one hand dealer wind q k
      (subst (λ (z : Reading). IsVerdict hand dealer wind z k v) e.0 (subst (λ (z : ℕ). IsVerdict hand dealer wind r z v) e.1 a)) b

  pub only : {x y : Judged} → Judges x → Judges y → x ≡ y
  only (eight o) (eight p) = refl
  only (eight o) (unreadable d w n e) = over o d w
  only (eight o) (faulty d w y n) = over o d w
  only (eight o) (passed x v) = over o x.seat x.round
  only (unreadable d w n e) (eight o) = over o d w
  only (unreadable d w n e) (unreadable c v k q) = ap refused_with (ap refusal_in (sym e ∙ q))
  only (unreadable d w n e) (faulty c v y k) = not_both n e y
  only (unreadable d w n e) (passed x v) = not_both n e x.sound
  only (faulty d w y n) (eight o) = over o d w
  only (faulty d w y n) (unreadable c v k q) = not_both k q y
  only (faulty d w y n) (faulty c v z k) = refl
  only (faulty d w y n) (passed x v) = absurd (n _ _ x.names)
  only (passed x v) (eight o) = over o x.seat x.round
  only (passed x v) (unreadable c w k q) = not_both k q x.sound
  only (passed x v) (faulty c w z k) = absurd (k _ _ x.names)
  only (passed x v) (passed y w) = ap judged_as (same_verdict x v y w)

  abbrev pub exactly_one : (a : Judged) × IsJudged s claim dealer wind a × ((b : Judged) → IsJudged s claim dealer wind b → b ≡ a)
  exactly_one = (found_of s claim dealer wind, found_is, λ b i. only i found_is)
