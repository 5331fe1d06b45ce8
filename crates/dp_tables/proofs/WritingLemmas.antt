-- What is written to the cells of a table.
use Rattle.std.proofs.Common.{◌≡◌, ◌⊎◌, inl, inr, ℕ, suc, ◌+◌, ◌-◌, ◌*◌, ◌/◌, ◌%◌, ◌<◌, ◌≤◌, Bool, true, cond, nat_le}
use Rattle.std.proofs.Common.{nat_lt, ◌&&◌, List, [], ◌∷◌, ◌++◌, length, get_or, take, drop, refl, sym, ap, subst}
use Rattle.std.proofs.Common.{◌∙◌, arith}
use Rattle.std.specs.Int.{◌∣◌}
use Rattle.std.proofs.lemmas.Bool.{lt-ltb, le-ltb, le-leb, cases_order}
use Rattle.std.proofs.Math.Bool.{and-false}
use Rattle.std.proofs.lemmas.List.{get_or-take, get_or-drop, get_or_append_left, get_or-append_right, length-take-le}
use Rattle.std.proofs.lemmas.List.{length-drop}
use Rattle.std.proofs.lemmas.Slice.{first_rest}
use Rattle.std.proofs.lemmas.Nat.{div-mul-add, mod_below}
use Rattle.std.proofs.Math.Nat.{div-add-mod, mod-mod_of_dvd, mul-le-mul_right, mul_comm, one-dvd}
use borrow.Rule.Slice.PartMut.{put_mid}
use Rattle.dp_meaning.specs.declared.statement.Part.{Part}
use Rattle.dp_meaning.specs.declared.statement.Part.TheVariants.{Any}
use Rattle.dp_meaning.specs.Cells.{allows, allow}
use Rattle.dp_spec.specs.JointNumbers.{product, parts_of}
use Rattle.dp_spec.proofs.JointNumberLaws.{product-drop_dvd, positive_left, positive_right, part_below}
use Rattle.dp_tables.specs.Writing.{ArePartsWithin, AreWritten, is_covered}

-- the stretches of this length from the first up to, but without, the i-th are written
abbrev pub AreWrittenUpTo : {T : Type 0} → ℕ → ℕ → ℕ → List ℕ → List Part → List T → List T → List T → Type 0
AreWrittenUpTo {T} step first i sizes parts block before after =
    (k : ℕ) (d : T) → k < length before →
    get_or after k d ≡ cond ((nat_le first (k / step) && nat_lt (k / step) i) && is_covered sizes parts (k % step))
    (get_or block (k % length block) d) (get_or before k d)

-- ---- a part of a list that is replaced

put_below : {T : Type 0} (a k : ℕ) (xs ys : List T) (j : ℕ) (d : T) → j < a → a ≤ length xs
    → get_or (put_mid a k xs ys) j d ≡ get_or xs j d
put_below a k xs ys j d h fits =
    let long = length-take-le a xs fits in
    get_or_append_left (take a xs) _ d j (omega arith) ∙ get_or-take a xs j d h

put_within : {T : Type 0} (a k : ℕ) (xs ys : List T) (j : ℕ) (d : T) → a ≤ length xs → j < length ys
    → get_or (put_mid a k xs ys) (a + j) d ≡ get_or ys j d
put_within a k xs ys j d fits h =
    get_or-append_right (take a xs) _ a (a + j) d (length-take-le a xs fits) (omega arith)
    ∙ (let e : a + j - a ≡ j = omega arith in ap (λ n. get_or (ys ++ drop k (drop a xs)) n d) e)
    ∙ get_or_append_left ys _ d j h

put_above : {T : Type 0} (a k : ℕ) (xs ys : List T) (j : ℕ) (d : T) → a ≤ length xs → length ys ≡ k → a + k ≤ j
    → get_or (put_mid a k xs ys) j d ≡ get_or xs j d
put_above a k xs ys j d fits long h =
    get_or-append_right (take a xs) _ a j d (length-take-le a xs fits) (omega arith)
    ∙ get_or-append_right ys _ k (j - a) d long (omega arith)
    ∙ get_or-drop k (drop a xs) (j - a - k) d ∙ get_or-drop a xs (k + (j - a - k)) d
    ∙ (let e : a + (k + (j - a - k)) ≡ j = omega arith in ap (λ n. get_or xs n d) e)

-- ---- one stretch more

pub one_more : {T : Type 0} (step first i : ℕ) (sizes : List ℕ) (parts : List Part) (block before now new : List T)
    → 0 < step → first ≤ i → length now ≡ length before → i * step + step ≤ length before → length new ≡ step
    → length block ∣ step
    → AreWrittenUpTo step first i sizes parts block before now
    → ((k : ℕ) (d : T) → k < step → get_or new k d ≡ cond (is_covered sizes parts k)
    (get_or block (k % length block) d)
    (get_or now (i * step + k) d))
    → AreWrittenUpTo step first (i + 1) sizes parts block before (put_mid (i * step) step now new)
one_more {T} step first i sizes parts block before now new some from same fits long whole up written k d h =
    by (cases_order (k / step) i)
  where
    value : Bool → T
    value b = cond ((nat_le first (k / step) && b) && is_covered sizes parts (k % step))
        (get_or block (k % length block) d)
        (get_or before k d)

    split : step * (k / step) + k % step ≡ k
    split = div-add-mod k step

    low : k % step < step
    low = mod_below k step some

    by : (k / step ≡ i) ⊎ ((k / step < i) ⊎ (i < k / step))
        → get_or (put_mid (i * step) step now new) k d ≡ value (nat_lt (k / step) (i + 1))
    by (inl e) =
        let times = ap (λ q. step * q) e in
        let at : i * step + k % step ≡ k = omega arith in
        let inner : get_or now k d ≡ get_or before k d = up k d h ∙ ap value (le-ltb (k / step) i (omega arith))
        ∙ ap (λ b. cond (b && is_covered sizes parts (k % step)) (get_or block (k % length block) d)
        (get_or before k d))
        (and-false (nat_le first (k / step))) in
        ap (λ n. get_or (put_mid (i * step) step now new) n d) (sym at)
        ∙ put_within (i * step) step now new (k % step) d (omega arith) (omega arith)
        ∙ written (k % step) d low
        ∙ ap (λ n. cond (is_covered sizes parts (k % step)) (get_or block n d) (get_or now (i * step + k % step) d))
        (mod-mod_of_dvd (length block) k whole)
        ∙ ap (λ n. cond (is_covered sizes parts (k % step)) (get_or block (k % length block) d) (get_or now n d)) at
        ∙ ap (λ x. cond (is_covered sizes parts (k % step)) (get_or block (k % length block) d) x) inner
        ∙ ap (λ b. cond (b && is_covered sizes parts (k % step)) (get_or block (k % length block) d)
        (get_or before k d)) (sym both)
      where
        both : (nat_le first (k / step) && nat_lt (k / step) (i + 1)) ≡ true
        both = ap (λ b. b && nat_lt (k / step) (i + 1)) (le-leb first (k / step) (omega arith))
            ∙ lt-ltb (k / step) (i + 1) (omega arith)
    by (inr (inl l)) =
        let times = mul-le-mul_right step l in
        let at : k < i * step = omega arith in
        put_below (i * step) step now new k d at (omega arith) ∙ up k d h
        ∙ ap value (lt-ltb (k / step) i l ∙ sym (lt-ltb (k / step) (i + 1) (omega arith)))
    by (inr (inr l)) =
        let times = mul-le-mul_right step l in
        let at : i * step + step ≤ k = omega arith in
        put_above (i * step) step now new k d (omega arith) long at ∙ up k d h
        ∙ ap value (le-ltb (k / step) i (omega arith) ∙ sym (le-ltb (k / step) (i + 1) (omega arith)))

-- ---- all stretches

-- the stretches that the first part allows are the first to the last
pub all_written : {T : Type 0} (size : ℕ) (sizes : List ℕ) (part : Part) (parts : List Part) (step first end : ℕ)
    (block before after : List T)
    → step ≡ product sizes → length before ≡ size * product sizes
    → ((q : ℕ) → q < size → allows part q ≡ (nat_le first q && nat_lt q end))
    → AreWrittenUpTo step first end sizes parts block before after
    → AreWritten (size ∷ sizes) (part ∷ parts) block before after
all_written size sizes part parts step first end block before after e long within up k d h =
    let below : k / product sizes < size = part_below size (product sizes) k (omega arith) in
    up k d h
    ∙ ap (λ s. cond ((nat_le first (k / s) && nat_lt (k / s) end) && is_covered sizes parts (k % s))
    (get_or block (k % length block) d) (get_or before k d)) e
    ∙ ap (λ b. cond (b && is_covered sizes parts (k % product sizes)) (get_or block (k % length block) d)
    (get_or before k d))
    (sym (within (k / product sizes) below))

-- ---- the lists of a call

-- what stands behind the first, as code has it
abbrev pub behind_first : {X : Type 0} → List X → List X
behind_first xs = take (length xs - 1) (drop 1 xs)

-- a part is that of a size
pub some_size : (sizes : List ℕ) (parts : List Part) → ArePartsWithin sizes parts → 1 ≤ length parts
    → 1 ≤ length sizes
some_size sizes [] are h = absurd (omega arith)
some_size [] (part ∷ parts) are h = absurd are
some_size (size ∷ sizes) (part ∷ parts) are h = omega arith

-- what is left to write, where something is
pub record IsStep (sizes : List ℕ) (parts : List Part) (size : ℕ) (inner : List ℕ) (part : Part)
    (others : List Part) : Type 0 where
  pub sizes_are : sizes ≡ size ∷ inner
  pub parts_are : parts ≡ part ∷ others

pub step_of : (sizes : List ℕ) (parts : List Part) (d : Part) → 1 ≤ length sizes → 1 ≤ length parts
    → IsStep sizes parts (get_or sizes 0 0) (behind_first sizes) (get_or parts 0 d) (behind_first parts)
step_of sizes parts d some_size some_part = record {
  sizes_are = first_rest sizes 0 some_size;
  parts_are =
      first_rest parts d some_part;
}

-- how long a stretch is
pub step_is : (sizes : List ℕ) (size : ℕ) (inner : List ℕ) (count : ℕ) → sizes ≡ size ∷ inner → count ≡ product sizes
    → 0 < product sizes
    → count / size ≡ product inner
step_is sizes size inner count e long some = quotient size (product inner) count (long
    ∙ ap product e) (subst (λ ns. 0 < product ns) e some)
  where
    quotient : (n p c : ℕ) → c ≡ n * p → 0 < n * p → c / n ≡ p
    quotient n p c f h =
        let above : 0 < n = positive_left n p 0 h in
        let turned : c ≡ p * n + 0 = f ∙ mul_comm n p ∙ omega arith in
        ap (λ x. x / n) turned ∙ div-mul-add p n 0 above

pub positive_step : (sizes : List ℕ) (size : ℕ) (inner : List ℕ) (step : ℕ) → sizes ≡ size ∷ inner → 0 < product sizes
    → step
    ≡ product inner
    → 0 < step
positive_step sizes size inner step e some f =
    subst (λ n. 0 < n) (sym f) (positive_right size (product inner) 0 (subst (λ ns. 0 < product ns) e some))

pub long_step : (sizes : List ℕ) (size : ℕ) (inner : List ℕ) (step : ℕ) {count : ℕ} → sizes ≡ size ∷ inner
    → count ≡ product sizes
    → step ≡ product inner → count ≡ size * step
long_step sizes size inner step e long f = long ∙ ap product e ∙ ap (λ n. size * n) (sym f)

-- the size of a block, which is 1 or that of the cells that the parts leave, divides a stretch
pub block_divides : (sizes : List ℕ) (parts : List Part) (size : ℕ) (inner : List ℕ) (part : Part)
    (others : List Part) (long step : ℕ)
    → IsStep sizes parts size inner part others → (long ≡ 1) ⊎ (long ≡ product (drop (length parts) sizes))
    → step ≡ product inner
    → long ∣ step
block_divides sizes parts size inner part others long step is (inl one) e =
    subst (λ n. n ∣ step) (sym one) (one-dvd step)
block_divides sizes parts size inner part others long step is (inr all) e =
    subst (λ n. long ∣ n) (sym e) (subst (λ n. n ∣ product inner) (sym same) (product-drop_dvd inner (length others)))
  where
    same : long ≡ product (drop (length others) inner)
    same = all ∙ ap (λ ps. product (drop (length ps) sizes)) is.parts_are
        ∙ ap (λ ns. product (drop (suc (length others)) ns)) is.sizes_are

-- a stretch that is written in its turn
pub next_written : {T : Type 0} (size : ℕ) (inner : List ℕ) (others : List Part) (block before now new : List T)
    (step first i : ℕ)
    → 0 < step → length before ≡ size * step → i < size → first ≤ i → length now ≡ length before
    → length new ≡ length (take ((i + 1) * step - i * step) (drop (i * step) now)) → length block ∣ step
    → AreWrittenUpTo step first i inner others block before now
    → AreWritten inner others block (take ((i + 1) * step - i * step) (drop (i * step) now)) new
    → AreWrittenUpTo step first (i + 1) inner others block before
    (put_mid (i * step) ((i + 1) * step - i * step) now new)
next_written {T} size inner others block before now new step first i some long below from same as_long whole up
    written =
    let times = mul-le-mul_right step below in
    let fits : i * step + step ≤ length before = omega arith in
    let width : (i + 1) * step - i * step ≡ step = omega arith in
    let rest = length-drop (i * step) now in
    let mid : length (take step (drop (i * step) now)) ≡ step =
    length-take-le step (drop (i * step) now) (omega arith) in
    let long_new : length new ≡ step = as_long ∙ ap (λ m. length (take m (drop (i * step) now))) width ∙ mid in
    subst (λ m. AreWrittenUpTo step first (i + 1) inner others block before (put_mid (i * step) m now new))
    (sym width)
    (one_more step first i inner others block before now new some from same fits long_new whole up
    (λ k d h. written k d (subst (λ n. k < n) (sym as_new) h)
    ∙ ap (λ x. cond (is_covered inner others k) (get_or block (k % length block) d) x) (held k d h)))
  where
    width : (i + 1) * step - i * step ≡ step
    width = omega arith

    times : suc i * step ≤ size * step
    times = mul-le-mul_right step below

    as_new : length (take ((i + 1) * step - i * step) (drop (i * step) now)) ≡ step
    as_new = ap (λ m. length (take m (drop (i * step) now))) width ∙ length-take-le step (drop (i * step) now)
        (let rest = length-drop (i * step) now in let t = times in omega arith)

    held : (k : ℕ) (d : T) → k < step
        → get_or (take ((i + 1) * step - i * step) (drop (i * step) now)) k d ≡ get_or now (i * step + k) d
    held k d h = ap (λ m. get_or (take m (drop (i * step) now)) k d) width
        ∙ get_or-take step (drop (i * step) now) k d h
        ∙ get_or-drop (i * step) now k d

-- all are written
pub written_whole : {T : Type 0} (sizes : List ℕ) (parts : List Part) (size : ℕ) (inner : List ℕ) (part : Part)
    (others : List Part)
    (step first end : ℕ) (block before after : List T)
    → IsStep sizes parts size inner part others → step ≡ product inner → length before ≡ product sizes
    → ((q : ℕ) → q < size → allows part q ≡ (nat_le first q && nat_lt q end))
    → AreWrittenUpTo step first end inner others block before after
    → AreWritten sizes parts block before after
written_whole sizes parts size inner part others step first end block before after is e long within up =
    subst (λ ns. AreWritten ns parts block before after) (sym is.sizes_are)
    (subst (λ ps. AreWritten (size ∷ inner) ps block before after) (sym is.parts_are)
    (all_written size inner part others step first end block before after e (long
    ∙ ap product is.sizes_are) within up))

-- ---- last parts that allow all

allow_more : (front : List Part) (ns : List ℕ) → allow (front ++ Any ∷ []) ns ≡ allow front ns
allow_more [] [] = refl
allow_more [] (n ∷ ns) = refl
allow_more (part ∷ front) [] = refl
allow_more (part ∷ front) (n ∷ ns) = ap (λ b. allows part n && b) (allow_more front ns)

pub covered_without : (sizes : List ℕ) (front : List Part) (k : ℕ)
    → is_covered sizes front k ≡ is_covered sizes (front ++ Any ∷ []) k
covered_without sizes front k = sym (allow_more front (parts_of sizes k))

pub within_without : (sizes : List ℕ) (front : List Part) → ArePartsWithin sizes (front ++ Any ∷ [])
    → ArePartsWithin sizes front
within_without [] [] are = tt
within_without (size ∷ sizes) [] are = tt
within_without [] (part ∷ front) are = absurd are
within_without (size ∷ sizes) (part ∷ front) are = (are.0, within_without sizes front are.1)
