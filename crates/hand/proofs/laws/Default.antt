-- What the derived `default` gives: zeros.
use Rattle.std.specs.Prelude.{◌≡◌, List, ℕ, replicate}
use Rattle.std.specs.Array.{AllOfLen}
use Rattle.std.proofs.Common.{sym, ap, ◌∙◌, arith, ext_get_or}
use Rattle.std.proofs.lemmas.List.{length-replicate, get_or-replicate}
use Rattle.hand.specs.declared.Fields.{Fields}
use Rattle.hand.specs.declared.Held.{Held}
use Rattle.hand.specs.declared.Hand.{Hand}

default_zeros : (n : ℕ) (xs : List ℕ) → AllOfLen (λ (x : ℕ). x ≡ 0) xs n → xs ≡ replicate n 0
default_zeros n xs a =
    ext_get_or 0 xs (replicate n 0) (a.long ∙ sym (length-replicate n 0))
    (λ i g. a.at i 0 (omega (arith, a.long)) ∙ sym (get_or-replicate n i 0 0 (omega (arith, a.long))))

abbrev DefaultFields : Fields → Type 0
DefaultFields f =
    (f.how ≡ 0) × ((f.winner ≡ 0) × ((f.discarder ≡ 0) × ((f.riichi ≡ 0) × ((f.situation ≡ 0) × ((f.indicator ≡ 0) × (f.winning ≡ 0))))))

abbrev DefaultHeld : Held → Type 0
DefaultHeld x = (x.m ≡ 0) × (AllOfLen (λ (k : ℕ). k ≡ 0) x.melds 4 × AllOfLen (λ (k : ℕ). k ≡ 0) x.concealed 13)

-- a record's fields are equal one by one
fields_by : ℕ → ℕ → ℕ → ℕ → ℕ → ℕ → ℕ → Fields
fields_by a b c d e f g = record { how = a; winner = b; discarder = c; riichi = d; situation = e; indicator = f; winning = g }

held_by : ℕ → List ℕ → List ℕ → Held
held_by m d c = record { m = m; melds = d; concealed = c }

fields_same : (f : Fields) → DefaultFields f
    → fields_by f.how f.winner f.discarder f.riichi f.situation f.indicator f.winning ≡ fields_by 0 0 0 0 0 0 0
fields_same f e = cc

held_same : (x : Held) → DefaultHeld x → held_by x.m x.melds x.concealed ≡ held_by 0 (replicate 4 0) (replicate 13 0)
held_same x e = let m = default_zeros 4 x.melds e.1.0 in let c = default_zeros 13 x.concealed e.1.1 in cc

fields_zero : (f : Fields) → DefaultFields f
    → f ≡ record { how = 0; winner = 0; discarder = 0; riichi = 0; situation = 0; indicator = 0; winning = 0 }
unfolding fields_by
fields_zero f e = fields_same f e

held_zero : (x : Held) → DefaultHeld x → x ≡ record { m = 0; melds = replicate 4 0; concealed = replicate 13 0 }
unfolding held_by
held_zero x e = held_same x e

pub default_hand : (h : Hand) → DefaultFields h.fields × DefaultHeld h.held
    → h ≡ record {
      fields = record { how = 0; winner = 0; discarder = 0; riichi = 0; situation = 0; indicator = 0; winning = 0 };
      held = record { m = 0; melds = replicate 4 0; concealed = replicate 13 0 };
    }
default_hand h e =
    ap (λ (f : Fields). record { fields = f; held = h.held }) (fields_zero h.fields e.0)
    ∙ ap (λ (x : Held). record {
      fields = record { how = 0; winner = 0; discarder = 0; riichi = 0; situation = 0; indicator = 0; winning = 0 };
      held = x;
    }) (held_zero h.held e.1)
