-- joint numbers by the part at one place and the joint number of the others
use Rattle.std.proofs.Common.{◌≡◌, ℕ, zero, suc, ◌+◌, ◌*◌, ◌/◌, ◌%◌, ◌<◌, ◌≤◌, ℤ, List, [], ◌∷◌, length, get_or, refl}
use Rattle.std.proofs.Common.{sym, ap, ◌∙◌, arith}
use Rattle.std.proofs.lemmas.Nat.{div-mul-add, mod-mul-add}
use Rattle.dp_base.proofs.Sums.{int_sum_ext, int_sum_prod, int_sum_swap}
use Rattle.dp_spec.specs.JointNumbers.{joint_number, parts_of, product}
use Rattle.dp_spec.specs.Merge.{inserted, without, placed_number}
use Rattle.dp_base.specs.Sums.{int_sum}
use Rattle.dp_spec.proofs.JointNumberLaws.{AreBelow, joint_number-parts_of, length-below, parts_below}
use Rattle.dp_spec.proofs.JointNumberLaws.{parts_of-joint_number}

-- ---- lists
pub get_or-inserted : (i c : ℕ) (ps : List ℕ) → i ≤ length ps → get_or (inserted i c ps) i 0 ≡ c
get_or-inserted zero c ps h = refl
get_or-inserted (suc i) c [] h = absurd (omega arith)
get_or-inserted (suc i) c (p ∷ ps) h = get_or-inserted i c ps (omega arith)

pub without-inserted : (i c : ℕ) (ps : List ℕ) → i ≤ length ps → without i (inserted i c ps) ≡ ps
without-inserted zero c ps h = refl
without-inserted (suc i) c [] h = absurd (omega arith)
without-inserted (suc i) c (p ∷ ps) h = ap (λ z. p ∷ z) (without-inserted i c ps (omega arith))

pub inserted-without : (i : ℕ) (xs : List ℕ) → i < length xs → inserted i (get_or xs i 0) (without i xs) ≡ xs
inserted-without i [] h = absurd (omega arith)
inserted-without zero (x ∷ xs) h = refl
inserted-without (suc i) (x ∷ xs) h = ap (λ z. x ∷ z) (inserted-without i xs (omega arith))

pub below_inserted : (i : ℕ) (ns : List ℕ) (c : ℕ) (ps : List ℕ) → i < length ns → c < get_or ns i 0
    → AreBelow (without i ns) ps → AreBelow ns (inserted i c ps)
below_inserted i [] c ps p q h = absurd (omega arith)
below_inserted zero (n ∷ ns) c ps p q h = (q, h)
below_inserted (suc i) (n ∷ ns) c [] p q h = absurd h
below_inserted (suc i) (n ∷ ns) c (x ∷ ps) p q h = (h.0, below_inserted i ns c ps (omega arith) q h.1)

pub below_others : (i : ℕ) (ns xs : List ℕ) → AreBelow ns xs → AreBelow (without i ns) (without i xs)
below_others i [] [] h = tt
below_others i [] (x ∷ xs) h = absurd h
below_others i (n ∷ ns) [] h = absurd h
below_others zero (n ∷ ns) (x ∷ xs) h = h.1
below_others (suc i) (n ∷ ns) (x ∷ xs) h = (h.0, below_others i ns xs h.1)

others_long : (i : ℕ) (ns : List ℕ) → i < length ns → i ≤ length (without i ns)
others_long i [] h = absurd (omega arith)
others_long zero (n ∷ ns) h = omega arith
others_long (suc i) (n ∷ ns) h = let e = others_long i ns (omega arith) in omega arith

-- ---- joint numbers
parts_long : (i : ℕ) (ns : List ℕ) (x : ℕ) → i < length ns → x < product (without i ns)
    → i ≤ length (parts_of (without i ns) x)
parts_long i ns x p h = let e = length-below (without i ns) (parts_of (without i ns) x)
    (parts_below (without i ns) x h) in let l = others_long i ns p in omega arith

pub parts-placed : (i : ℕ) (ns : List ℕ) (c x : ℕ) → i < length ns → c < get_or ns i 0
    → x < product (without i ns)
    → parts_of ns (placed_number i ns c x) ≡ inserted i c (parts_of (without i ns) x)
parts-placed i ns c x p q h = parts_of-joint_number ns _ (below_inserted i ns c _ p q
    (parts_below (without i ns) x h))

-- different places have different numbers
pub placed_injective : (i : ℕ) (ns : List ℕ) (c x d y : ℕ) → i < length ns → c < get_or ns i 0
    → x < product (without i ns) → d < get_or ns i 0 → y < product (without i ns)
    → placed_number i ns c x ≡ placed_number i ns d y → (c ≡ d) × (x ≡ y)
placed_injective i ns c x d y p hc hx hd hy e =
    let lists : inserted i c (parts_of (without i ns) x) ≡ inserted i d (parts_of (without i ns) y) = sym
    (parts-placed i ns c x p hc hx) ∙ ap (parts_of ns) e ∙ parts-placed i ns d y p hd hy in
    let long_x = parts_long i ns x p hx in
    let long_y = parts_long i ns y p hy in (
      sym (get_or-inserted i c _ long_x) ∙ ap (λ z. get_or z i 0) lists ∙ get_or-inserted i d _ long_y,
      sym (joint_number-parts_of (without i ns) x hx) ∙ ap (joint_number (without i ns))
          (sym (without-inserted i c _ long_x) ∙ ap (without i) lists ∙ without-inserted i d _ long_y)
          ∙ joint_number-parts_of (without i ns) y hy,
    )

-- a joint number of parts, by place
pub joint_is_placed : (i : ℕ) (ns xs : List ℕ) → i < length ns → AreBelow ns xs
    → joint_number ns xs ≡ placed_number i ns (get_or xs i 0) (joint_number (without i ns) (without i xs))
joint_is_placed i ns xs p h =
    let long = length-below ns xs h in
    ap (joint_number ns) (sym (inserted-without i xs (omega arith))
    ∙ ap (inserted i (get_or xs i 0)) (sym (parts_of-joint_number (without i ns) (without i xs)
    (below_others i ns xs h))))

place_first : (n : ℕ) (ns : List ℕ) (c x : ℕ) → x < product ns
    → c * product ns + x ≡ placed_number zero (n ∷ ns) c x
place_first n ns c x h = ap (λ (z : ℕ). c * product ns + z) (sym (joint_number-parts_of ns x h))

-- a place behind the first agent
pub place_later : (i n : ℕ) (ns : List ℕ) (y c x : ℕ) → x < product (without i ns)
    → y * product ns + placed_number i ns c x ≡ placed_number (suc i) (n ∷ ns) c
    (y * product (without i ns) + x)
place_later i n ns y c x h =
    let first : (y * product (without i ns) + x) / product (without i ns)
    ≡ y = div-mul-add y (product (without i ns)) x h in
    let rest : (y * product (without i ns) + x) % product (without i ns)
    ≡ x = mod-mul-add y (product (without i ns)) x h in rw (first, rest)

-- a sum over joint numbers, by place
pub int_sum_placed : (i : ℕ) (ns : List ℕ) → i < length ns → (g : ℕ → ℤ)
    → int_sum (product ns) g
    ≡ int_sum (get_or ns i 0) (λ c. int_sum (product (without i ns)) (λ x. g (placed_number i ns c x)))
int_sum_placed i [] p g = absurd (omega arith)
int_sum_placed zero (n ∷ ns) p g = int_sum_prod n (product ns) g
    ∙ int_sum_ext n _ _ (λ c q. int_sum_ext (product ns) _ _ (λ x h. ap g (place_first n ns c x h)))
int_sum_placed (suc i) (n ∷ ns) p g =
    let Q = product (without i ns) in
    int_sum_prod n (product ns) g
    ∙ int_sum_ext n _ _ (λ y q. int_sum_placed i ns (omega arith) (λ j. g (y * product ns + j)))
    ∙ int_sum_swap n (get_or ns i 0) (λ y c. int_sum Q (λ x. g (y * product ns + placed_number i ns c x)))
    ∙ int_sum_ext (get_or ns i 0) _ _ (λ c u.
    int_sum_ext n _ _ (λ y q. int_sum_ext Q _ _ (λ x h. ap g (place_later i n ns y c x h)))
    ∙ sym (int_sum_prod n Q (λ z. g (placed_number (suc i) (n ∷ ns) c z))))
