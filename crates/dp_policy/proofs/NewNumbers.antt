-- Rows numbered anew, in the order in which they are met.
use Rattle.std.proofs.Common.{◌≡◌, ◌≢◌, ◌⊎◌, ℕ, zero, suc, ◌<◌, ◌≤◌, List, [], ◌∷◌, ◌++◌, Option, Some, None, cond}
use Rattle.std.proofs.Common.{inl, inr, length, get_or, set, refl, sym, ap, ◌∙◌, subst, arith, get_or-set_other}
use Rattle.std.proofs.Common.{get_or-set_same}
use Rattle.std.specs.Prelude.{max, ◌==◌}
use Rattle.std.proofs.Math.ListN.{length-set}
use Rattle.std.proofs.lemmas.Bool.{cases_lt, cases_eq}
use Rattle.std.proofs.lemmas.Bool.Decides.{nat_tests}
use Rattle.dp_spec.specs.SharedForm.{AreInOrder, all_nexts, read_after}
use Rattle.dp_spec.specs.SharedPolicy.{AgentRows, PolicyRow, no_row, row_at}
use Rattle.dp_policy.specs.Renumbered.{AreNumberedAfter, AreRenumbered, IsNumbering}
use Rattle.dp_policy.proofs.PairNumbers.{early_of, last_of, none_is, one_longer, some_is}

-- ---- numbers below n that differ are at most n

pub pigeon : (m n : ℕ) (f : ℕ → ℕ) → ((i : ℕ) → i < m → f i < n)
    → ((i j : ℕ) → i < m → j < m → f i ≡ f j → i ≡ j)
    → m ≤ n
pigeon zero n f below apart = omega arith
pigeon (suc m) zero f below apart = let lt = below 0 (omega arith) in absurd (omega arith)
pigeon (suc m) (suc n) f below apart =
    let rest = pigeon m n (moved f m n) (λ i lt. moved_below i lt (cases_eq (f i) n))
    (λ i j li lj e. moved_apart i j li lj e (cases_eq (f i) n) (cases_eq (f j) n)) in
    omega arith
  where
    moved : (ℕ → ℕ) → ℕ → ℕ → ℕ → ℕ
    moved f m n i = cond (f i == n) (f m) (f i)

    top : (i : ℕ) → f i ≡ n → moved f m n i ≡ f m
    top i e = grind (arith, nat_tests)

    other : (i : ℕ) → (f i ≡ n → ⊥) → moved f m n i ≡ f i
    other i e = grind (arith, nat_tests)

    not_top : (i : ℕ) → i < m → f i ≡ n → f m ≡ n → ⊥
    not_top i lt e q = let same : m ≡ i = apart m i (omega arith) (omega arith) (q ∙ sym e) in
        absurd (omega arith)

    moved_below : (i : ℕ) → i < m → (f i ≡ n) ⊎ (f i ≡ n → ⊥) → moved f m n i < n
    moved_below i lt (inl e) =
        let most = below m (omega arith) in
        let ne : f m ≢ n = not_top i lt e in
        rw (top i e) (omega arith)
    moved_below i lt (inr ne) =
        let most = below i (omega arith) in
        let apart : f i ≢ n = ne in
        rw (other i ne) (omega arith)

    moved_apart : (i j : ℕ) → i < m → j < m → moved f m n i ≡ moved f m n j → (f i ≡ n) ⊎ (f i ≡ n → ⊥)
        → (f j ≡ n) ⊎ (f j ≡ n → ⊥) → i ≡ j
    moved_apart i j li lj e (inl a) (inl b) = apart i j (omega arith) (omega arith) (a ∙ sym b)
    moved_apart i j li lj e (inl a) (inr b) =
        let same : m ≡ j = apart m j (omega arith) (omega arith) (sym (top i a) ∙ e ∙ other j b) in
        absurd (omega arith)
    moved_apart i j li lj e (inr a) (inl b) =
        let same : i ≡ m = apart i m (omega arith) (omega arith) (sym (other i a) ∙ e ∙ top j b) in
        absurd (omega arith)
    moved_apart i j li lj e (inr a) (inr b) = apart i j (omega arith) (omega arith)
        (sym (other i a) ∙ e ∙ other j b)

-- ---- one row

module _ (kinds : List ℕ) (numbers : List (Option ℕ)) (met : List ℕ) (is : IsNumbering kinds numbers met) where
  -- rows that were met are of different kinds
  pub met_apart : (x y : ℕ) → x < length met → y < length met
      → get_or kinds (get_or met x 0) 0 ≡ get_or kinds (get_or met y 0) 0 → x ≡ y
  met_apart x y lx ly e = some_is
      (sym (is.numbered x lx) ∙ ap (λ (k : ℕ). get_or numbers k None) e ∙ is.numbered y ly)

  pub met_few : ((x : ℕ) → x < length kinds → get_or kinds x 0 < length kinds) → length met ≤ length kinds
  met_few inside =
      pigeon (length met) (length kinds) (λ x. get_or kinds (get_or met x 0) 0)
      (λ x lx. inside (get_or met x 0) (is.inside x lx)) met_apart

  -- a row of a new kind
  pub met_step : (row : ℕ) → row < length kinds → get_or kinds row 0 < length kinds
      → get_or numbers (get_or kinds row 0) None ≡ None
      → IsNumbering kinds (set numbers (get_or kinds row 0) (Some (length met))) (met ++ row ∷ [])
  met_step row lr lk none =
      let k = get_or kinds row 0 in
      let longer = one_longer met row in
      let inside : get_or kinds row 0 < length numbers = let e = is.counted in omega arith in
      record {
        counted = length-set numbers k (Some (length met)) ∙ is.counted;
        known = λ q x e. elim (cases_eq q k) [
          | inl same ↦
              let at : get_or (set numbers k (Some (length met))) k None ≡ Some (length met) =
              rw get_or-set_same refl in
              let here : length met ≡ x = some_is
              (sym at ∙ ap (λ (z : ℕ). get_or (set numbers k (Some (length met))) z None) (sym same) ∙ e) in (
                omega arith,
                ap (λ (z : ℕ). get_or kinds (get_or (met ++ row ∷ []) z 0) 0) (sym here)
                    ∙ ap (λ (z : ℕ). get_or kinds z 0) (last_of met row (length met) refl) ∙ sym same,
              )
          | inr apart ↦
              let was : get_or numbers q None ≡ Some x =
              (let at : get_or (set numbers k (Some (length met))) q None ≡ get_or numbers q None =
              rw get_or-set_other refl in sym at ∙ e) in
              let o = is.known q x was in
              (omega arith, ap (λ (z : ℕ). get_or kinds z 0) (early_of met row x o.0) ∙ o.1)
        ];
        numbered = λ x lx. elim (cases_lt x (length met)) [
          | inl early ↦
              let was = is.numbered x early in
              let kind = get_or kinds (get_or met x 0) 0 in
              let apart : get_or kinds (get_or met x 0) 0 ≢ get_or kinds row 0 =
              λ e. none_is (sym none ∙ ap (λ (z : ℕ). get_or numbers z None) (sym e) ∙ was) in
              let at : get_or (set numbers k (Some (length met))) kind None ≡ get_or numbers kind None =
              rw get_or-set_other refl in
              ap (λ (z : ℕ). get_or (set numbers k (Some (length met))) (get_or kinds z 0) None)
              (early_of met row x early) ∙ at ∙ was
          | inr late ↦
              let here : length met ≡ x = omega arith in
              let at : get_or (set numbers k (Some (length met))) k None ≡ Some (length met) =
              rw get_or-set_same refl in
              subst (λ (z : ℕ). get_or (set numbers k (Some (length met)))
              (get_or kinds (get_or (met ++ row ∷ []) z 0) 0) None ≡ Some z) here
              (ap (λ (z : ℕ). get_or (set numbers k (Some (length met))) (get_or kinds z 0) None)
              (last_of met row (length met) refl) ∙ at)
        ];
        inside = λ x lx. elim (cases_lt x (length met)) [
          | inl early ↦ rw (early_of met row x early) (is.inside x early)
          | inr late ↦
              let here : length met ≡ x = omega arith in
              subst (λ (z : ℕ). get_or (met ++ row ∷ []) z 0 < length kinds) here
              (rw (last_of met row (length met) refl) lr)
        ];
      }

pub none_met : (kinds : List ℕ) (numbers : List (Option ℕ)) → length numbers ≡ length kinds
    → ((k : ℕ) → get_or numbers k None ≡ None)
    → IsNumbering kinds numbers []
none_met kinds numbers e none = record {
  counted = e;
  known = λ k x is. none_is (sym (none k) ∙ is);
  numbered = λ x lx. absurd (omega arith);
  inside = λ x lx. absurd (omega arith);
}

-- ---- rows in order

order_append : (c : ℕ) (xs ys : List ℕ) → AreInOrder c xs → AreInOrder (read_after c xs) ys
    → AreInOrder c (xs ++ ys)
order_append c [] ys first second = second
order_append c (x ∷ xs) ys first second = (first.0, order_append (max c (suc x)) xs ys first.1 second)

read_append : (c : ℕ) (xs ys : List ℕ) → read_after c (xs ++ ys) ≡ read_after (read_after c xs) ys
read_append c [] ys = refl
read_append c (x ∷ xs) ys = read_append (max c (suc x)) xs ys

nexts_append : (rows : List PolicyRow) (row : PolicyRow) → all_nexts (rows ++ row ∷ []) ≡ all_nexts rows
    ++ row.next
nexts_append [] row = none row.next
  where
    none : (xs : List ℕ) → xs ++ [] ≡ xs
    none [] = refl
    none (x ∷ xs) = ap (λ (l : List ℕ). x ∷ l) (none xs)
nexts_append (first ∷ rows) row = ap (λ (l : List ℕ). first.next ++ l) (nexts_append rows row)
    ∙ sym (assoc first.next (all_nexts rows) row.next)
  where
    assoc : (xs ys zs : List ℕ) → (xs ++ ys) ++ zs ≡ xs ++ (ys ++ zs)
    assoc [] ys zs = refl
    assoc (x ∷ xs) ys zs = ap (λ (l : List ℕ). x ∷ l) (assoc xs ys zs)

pub numbered_first : (kinds nexts before : List ℕ) → AreNumberedAfter kinds 0 nexts before before []
numbered_first kinds nexts before = record {
  counted = refl;
  grown = omega arith;
  kept = λ x lx. refl;
  in_order = tt;
  read = refl;
  below = λ o lo. absurd (omega arith);
  same = λ o lo. absurd (omega arith);
}

-- one next row more
module _ (kinds : List ℕ) (k : ℕ) (nexts before mid after news : List ℕ) (x row : ℕ)
    (so_far : AreNumberedAfter kinds k nexts before mid news)
    (number : ((x < length mid) × (after ≡ mid)) ⊎ ((x ≡ length mid) × (after ≡ mid ++ row ∷ [])))
    (here : row ≡ get_or nexts k 0) (same : get_or kinds (get_or after x 0) 0 ≡ get_or kinds row 0) where
  grew : length mid ≤ length after
  grew = elim number [
    | inl old ↦ let e = ap length old.1 in omega arith
    | inr new ↦ let e = ap length new.1 in let f = one_longer mid row in omega arith
  ]

  stayed : (y : ℕ) → y < length mid → get_or after y 0 ≡ get_or mid y 0
  stayed y ly = elim number [
    | inl old ↦ ap (λ (l : List ℕ). get_or l y 0) old.1
    | inr new ↦ ap (λ (l : List ℕ). get_or l y 0) new.1 ∙ early_of mid row y ly
  ]

  in_range : (x ≤ length mid) × (x < length after) × (max (length mid) (suc x) ≡ length after)
  in_range = elim number [
    | inl old ↦ let e = ap length old.1 in (omega arith, omega arith, omega arith)
    | inr new ↦ let e = ap length new.1 in let f = one_longer mid row in (omega arith, omega arith, omega arith)
  ]

  pub numbered_next : AreNumberedAfter kinds (suc k) nexts before after (news ++ x ∷ [])
  numbered_next =
      let r = so_far.read in
      let grown = so_far.grown in
      let g = grew in
      let range = in_range in
      let counted = so_far.counted in
      record {
        counted = one_longer news x ∙ ap suc so_far.counted;
        grown = omega arith;
        kept = λ y ly. stayed y (omega arith) ∙ so_far.kept y ly;
        in_order = order_append (length before) news (x ∷ []) so_far.in_order (rw r (range.0, tt));
        read = read_append (length before) news (x ∷ []) ∙ ap (λ (c : ℕ). max c (suc x)) r ∙ range.2;
        below = λ o lo. elim (cases_lt o k) [
          | inl early ↦ let lt = so_far.below o early in rw (early_of news x o (omega arith)) (omega arith)
          | inr late ↦ let e : k ≡ o = omega arith in
              subst (λ (z : ℕ). get_or (news ++ x ∷ []) z 0 < length after) e
              (rw (last_of news x k so_far.counted) range.1)
        ];
        same = λ o lo. elim (cases_lt o k) [
          | inl early ↦
              ap (λ (z : ℕ). get_or kinds (get_or after z 0) 0) (early_of news x o (omega arith))
              ∙ ap (λ (z : ℕ). get_or kinds z 0) (stayed (get_or news o 0) (so_far.below o early))
              ∙ so_far.same o early
          | inr late ↦
              let e : k ≡ o = omega arith in
              subst (λ (z : ℕ). get_or kinds (get_or after (get_or (news ++ x ∷ []) z 0) 0) 0 ≡ get_or kinds
              (get_or nexts z 0) 0) e
              (ap (λ (z : ℕ). get_or kinds (get_or after z 0) 0) (last_of news x k so_far.counted) ∙ same
              ∙ ap (λ (z : ℕ). get_or kinds z 0) here)
        ];
      }

-- ---- rows of a stage

pub renumbered_first : (stages : AgentRows) (t : ℕ) (kinds reached : List ℕ)
    → AreRenumbered stages t kinds 0 reached [] []
renumbered_first stages t kinds reached = record {
  counted = refl;
  action = λ j lj. absurd (omega arith);
  nexts = λ j lj. absurd (omega arith);
  below = λ j o lj lo. absurd (omega arith);
  same = λ j o lj lo. absurd (omega arith);
  in_order = tt;
  read = refl;
}

early_row : (rows : List PolicyRow) (row : PolicyRow) (j : ℕ) → j < length rows
    → get_or (rows ++ row ∷ []) j no_row ≡ get_or rows j no_row
early_row [] row j lt = absurd (omega arith)
early_row (first ∷ rows) row zero lt = refl
early_row (first ∷ rows) row (suc j) lt = early_row rows row j (omega arith)

last_row : (rows : List PolicyRow) (row : PolicyRow) (j : ℕ) → length rows ≡ j
    → get_or (rows ++ row ∷ []) j no_row ≡ row
last_row [] row zero e = refl
last_row [] row (suc j) e = absurd (omega arith)
last_row (first ∷ rows) row zero e = absurd (omega arith)
last_row (first ∷ rows) row (suc j) e = last_row rows row j (omega arith)

rows_longer : (rows : List PolicyRow) (row : PolicyRow) → length (rows ++ row ∷ []) ≡ suc (length rows)
rows_longer [] row = refl
rows_longer (first ∷ rows) row = ap suc (rows_longer rows row)

-- one row more
module _ (stages : AgentRows) (t : ℕ) (kinds : List ℕ) (k : ℕ) (reached : List ℕ) (rows : List PolicyRow)
    (mid after : List ℕ) (row : PolicyRow) (so_far : AreRenumbered stages t kinds k reached rows mid)
    (action : row.action ≡ (row_at stages t (get_or reached k 0)).action)
    (news : AreNumberedAfter kinds (length (row_at stages t (get_or reached k 0)).next)
    (row_at stages t (get_or reached k 0)).next mid after row.next) where
  pub renumbered_step : AreRenumbered stages t kinds (suc k) reached (rows ++ row ∷ []) after
  renumbered_step =
      let counted = so_far.counted in
      let grown = news.grown in
      let r = so_far.read in
      record {
        counted = rows_longer rows row ∙ ap suc so_far.counted;
        action = λ j lj. elim (cases_lt j k) [
          | inl early ↦ ap (λ (p : PolicyRow). p.action) (early_row rows row j (omega arith))
              ∙ so_far.action j early
          | inr late ↦ let e : k ≡ j = omega arith in
              subst (λ (z : ℕ). (get_or (rows ++ row ∷ []) z no_row).action ≡
              (row_at stages t (get_or reached z 0)).action) e
              (ap (λ (p : PolicyRow). p.action) (last_row rows row k so_far.counted) ∙ action)
        ];
        nexts = λ j lj. elim (cases_lt j k) [
          | inl early ↦ ap (λ (p : PolicyRow). length p.next) (early_row rows row j (omega arith))
              ∙ so_far.nexts j early
          | inr late ↦ let e : k ≡ j = omega arith in
              subst (λ (z : ℕ). length (get_or (rows ++ row ∷ []) z no_row).next ≡ length
              (row_at stages t (get_or reached z 0)).next) e
              (ap (λ (p : PolicyRow). length p.next) (last_row rows row k so_far.counted) ∙ news.counted)
        ];
        below = λ j o lj lo. elim (cases_lt j k) [
          | inl early ↦
              let lt = so_far.below j o early lo in
              subst (λ (p : PolicyRow). get_or p.next o 0 < length after)
              (sym (early_row rows row j (omega arith)))
              (omega arith)
          | inr late ↦ let e : k ≡ j = omega arith in
              let here : o < length (row_at stages t (get_or reached k 0)).next =
              subst (λ (z : ℕ). o < length (row_at stages t (get_or reached z 0)).next) (sym e) lo in
              subst (λ (z : ℕ). get_or (get_or (rows ++ row ∷ []) z no_row).next o 0 < length after) e
              (subst (λ (p : PolicyRow). get_or p.next o 0 < length after)
              (sym (last_row rows row k so_far.counted)) (news.below o here))
        ];
        same = λ j o lj lo. elim (cases_lt j k) [
          | inl early ↦
              let lt = so_far.below j o early lo in
              ap (λ (p : PolicyRow). get_or kinds (get_or after (get_or p.next o 0) 0) 0)
              (early_row rows row j (omega arith))
              ∙ ap (λ (z : ℕ). get_or kinds z 0) (news.kept (get_or (get_or rows j no_row).next o 0) lt)
              ∙ so_far.same j o early lo
          | inr late ↦ let e : k ≡ j = omega arith in
              let here : o < length (row_at stages t (get_or reached k 0)).next =
              subst (λ (z : ℕ). o < length (row_at stages t (get_or reached z 0)).next) (sym e) lo in
              subst (λ (z : ℕ). get_or kinds
              (get_or after (get_or (get_or (rows ++ row ∷ []) z no_row).next o 0) 0) 0 ≡ get_or kinds
              (get_or (row_at stages t (get_or reached z 0)).next o 0) 0) e
              (ap (λ (p : PolicyRow). get_or kinds (get_or after (get_or p.next o 0) 0) 0)
              (last_row rows row k so_far.counted) ∙ news.same o here)
        ];
        in_order = subst (AreInOrder 0) (sym (nexts_append rows row))
            (order_append 0 (all_nexts rows) row.next so_far.in_order (rw r news.in_order));
        read = ap (read_after 0) (nexts_append rows row) ∙ read_append 0 (all_nexts rows) row.next
            ∙ ap (λ (c : ℕ). read_after c row.next) r ∙ news.read;
      }
