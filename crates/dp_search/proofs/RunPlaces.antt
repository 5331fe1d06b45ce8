-- The digits of a number and of the next one.
use Rattle.std.proofs.Common.{◌≡◌, ℕ, suc, ◌+◌, ◌*◌, ◌/◌, ◌%◌, ◌<◌, ◌≤◌, sym, ap, ◌∙◌, arith}
use Rattle.std.proofs.lemmas.Nat.{div-mul-add, mod-mul-add}

whole : (C w : ℕ) → C / w * w + C % w ≡ C
whole C w = omega arith

-- where the last digit goes on
pub digit_on : (C w : ℕ) → C % w + 1 < w → ((C + 1) / w ≡ C / w) × ((C + 1) % w ≡ C % w + 1)
digit_on C w lt =
    let same : C + 1 ≡ C / w * w + (C % w + 1) = let e = whole C w in omega arith in (
      ap (λ (z : ℕ). z / w) same ∙ div-mul-add (C / w) w (C % w + 1) lt,
      ap (λ (z : ℕ). z % w) same ∙ mod-mul-add (C / w) w (C % w + 1) lt,
    )

-- where it begins again
pub digit_back : (C w : ℕ) → C % w < w → w ≤ C % w + 1 → ((C + 1) / w ≡ C / w + 1) × ((C + 1) % w ≡ 0)
digit_back C w lt le =
    let some : 0 < w = omega arith in
    let next : (C / w + 1) * w ≡ C / w * w + w = spread (C / w) w in
    let same : C + 1 ≡ (C / w + 1) * w + 0 = let e = whole C w in omega arith in (
      ap (λ (z : ℕ). z / w) same ∙ div-mul-add (C / w + 1) w 0 some,
      ap (λ (z : ℕ). z % w) same ∙ mod-mul-add (C / w + 1) w 0 some,
    )
  where
    spread : (q w : ℕ) → (q + 1) * w ≡ q * w + w
    spread q w = omega arith

-- ---- the last digit but one, of n, and the last one, of w

module _ (C w n c x : ℕ) (ec : c ≡ C / w % n) (ex : x ≡ C % w) where
  pub in_run : x + 1 < w → (c ≡ (C + 1) / w % n) × (x + 1 ≡ (C + 1) % w)
  in_run lt =
      let on = digit_on C w (let e = ex in omega arith) in (
        ec ∙ ap (λ (q : ℕ). q % n) (sym on.0),
        ap (λ (z : ℕ). z + 1) ex ∙ sym on.1,
      )

  pub next_run : x < w → w ≤ x + 1 → c + 1 < n → (c + 1 ≡ (C + 1) / w % n) × (0 ≡ (C + 1) % w)
  next_run lt le inside =
      let back = digit_back C w (let e = ex in omega arith) (let e = ex in omega arith) in
      let on = digit_on (C / w) n (let e = ec in omega arith) in (
        ap (λ (z : ℕ). z + 1) ec ∙ sym on.1 ∙ ap (λ (q : ℕ). q % n) (sym back.0),
        sym back.1,
      )

  pub first_run : x < w → w ≤ x + 1 → c < n → n ≤ c + 1 → (0 ≡ (C + 1) / w % n) × (0 ≡ (C + 1) % w)
  first_run lt le inside last =
      let back = digit_back C w (let e = ex in omega arith) (let e = ex in omega arith) in
      let again = digit_back (C / w) n (let e = ec in omega arith) (let e = ec in omega arith) in (
        sym again.1 ∙ ap (λ (q : ℕ). q % n) (sym back.0),
        sym back.1,
      )
