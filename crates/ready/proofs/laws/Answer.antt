-- From what the reader gives to the answer, and what an answer says.
use Rattle.std.specs.Prelude.{◌≡◌, refl, List, ℕ, ◌≤◌, replicate}
use Rattle.std.proofs.Common.{sym, subst, ◌∙◌, arith}
use Rattle.hand.specs.declared.Held.{Held}
use Rattle.unfinished.specs.Unfinished.{Unfinished}
use Rattle.unfinished.specs.Unfinished.{held_of, refusal_of, read_of}
use Rattle.unfinished.proofs.laws.Sound.{sound_held, refusal_is, held_is}
use Rattle.ready.specs.declared.Ready.{Ready}
use Rattle.ready.specs.Ready.{SameMelds, IsNearest, IsAnswer, unreadable, nearest}
use Rattle.ready.specs.search.Written.{same_melds_with}

-- tiles held that are not refused stand beside their melds
pub same_melds_self : (s : List ℕ) → refusal_of s ≡ 0 → ((held_of s).m ≤ 4) × SameMelds (held_of s) (held_of s)
same_melds_self s e =
    let h = sound_held s e in
    (h.few, record { number = refl; melds = refl; sound = h.unrefused; long = h.concealed; unused = h.unused })

module _ (s : List ℕ) (u : Unfinished) (e : u ≡ read_of s) where
  pub answer_refused : (u.refusal ≡ 0 → ⊥) → IsAnswer s (record { refusal = u.refusal; swaps = 0; hand = replicate 13 0 })
  answer_refused n =
      let q = refusal_is s u e in
      rw q (unreadable (omega arith))

  pub same_melds_read : u.refusal ≡ 0 → (u.held.m ≤ 4) × SameMelds u.held u.held
  same_melds_read z = rw (held_is s u e z) (same_melds_self s (sym (refusal_is s u e) ∙ z))

  pub answer_found : u.refusal ≡ 0 → (r : Ready) → r.refusal ≡ 0 → IsNearest u.held r.swaps (same_melds_with u.held r.hand) → IsAnswer s r
  answer_found z r q n =
      let h : u.held ≡ held_of s = held_is s u e z in
      subst (λ (c : ℕ). IsAnswer s (record { refusal = c; swaps = r.swaps; hand = r.hand })) (sym q)
      (nearest (sym (refusal_is s u e) ∙ z) r.swaps (same_melds_with u.held r.hand)
      (subst (λ (x : Held). IsNearest x r.swaps (same_melds_with u.held r.hand)) h n))
