-- The table of keys, from its rows.
use Rattle.std.proofs.Common.{◌≡◌, ℕ, ◌+◌, ◌*◌, ◌/◌, ◌-◌, ◌<◌, ◌≤◌, min, Bool, ℤ, pos, List, [], ◌∷◌, ◌++◌, length}
use Rattle.std.proofs.Common.{get_or}
use Rattle.std.proofs.Common.{Option, None, Some, MatchOption, suc, drop, inl, inr, refl, sym, ap, subst, ◌∙◌, arith}
use Rattle.std.proofs.Math.Seq.{get_or-append_seam}
use Rattle.std.proofs.lemmas.Bool.{cases_lt}
use Rattle.std.proofs.lemmas.List.{get_or_append_left, get_or_default}
use Rattle.dp_spec.specs.Arithmetic.{arithmetic}
use Rattle.dp_spec.specs.Model.{IsModel, Model, joint_actions, joint_observations}
use Rattle.dp_spec.specs.Quantities.{look_ahead_in}
use Rattle.dp_laws.proofs.EqualWeights.{look_ahead_in_ext}
use Rattle.dp_pomdp.specs.Keys.{AreKeyWeights, ArePairs, IsAmongFirst, IsFoundFrom, IsKeyTable, KeptKeys}
use Rattle.dp_pomdp.specs.Keys.{KeyWeights, key_look, key_place, keys_below, place_from}
use Rattle.dp_pomdp.specs.Keys.{no_key_weights, pairs_of, start_weights, weights_along}
use Rattle.dp_pomdp.specs.Looking.{weights_of}
use Rattle.dp_pomdp.proofs.KeyPlaces.{early_of_place, place_below, place_grows}
use Rattle.dp_pomdp.proofs.KeyRows.{row_read, some_pairs}

-- the look-ahead from the weights of a row
abbrev pub look_of_row : Bool → Model → ℕ → KeyWeights → ℤ
look_of_row e m h row = look_ahead_in (arithmetic e m.scales) m (h - row.time) (weights_of row.weights) 16

-- a list goes on with what F gives of the next row
pub more_looks : (F : KeyWeights → ℤ) (rows : List KeyWeights) (all more : List ℤ) (n : ℕ) (new : ℤ) (x : KeyWeights)
    → n < length rows → x ≡ get_or rows n x → new ≡ F x → length all ≡ n → more ≡ all ++ new ∷ []
    → ((p : ℕ) → p < n → get_or all p (pos 0) ≡ F (get_or rows p no_key_weights))
    → (p : ℕ) → p < n + 1 → get_or more p (pos 0) ≡ F (get_or rows p no_key_weights)
more_looks F rows all more n new x inside read is filled pushed before p lt =
    elim (cases_lt p n) [
      | inl early ↦
          ap (λ l. get_or l p (pos 0)) pushed
          ∙ get_or_append_left all (new ∷ []) (pos 0) p (omega arith) ∙ before p early
      | inr late ↦
          let here : p ≡ length all = omega arith in
          let at : n ≡ p = omega arith in
          ap (λ l. get_or l p (pos 0)) pushed
          ∙ ap (λ j. get_or (all ++ new ∷ []) j (pos 0)) here ∙ get_or-append_seam all new [] (pos 0) ∙ is
          ∙ ap F (read ∙ get_or_default rows n x no_key_weights inside)
          ∙ ap (λ j. F (get_or rows j no_key_weights)) at
    ]

-- a row comes before the horizon
pub row_early : (e : Bool) (m : Model) → IsModel m → (h p : ℕ) (row : KeyWeights) → AreKeyWeights e m p row
    → p < keys_below (pairs_of m) h → row.time < h
row_early e m is h p row are lt = early_of_place (pairs_of m) row.time h p (some_pairs m is) are.late lt

-- what is read of the rows
module _ (e : Bool) (m : Model) (rows : List KeyWeights)
    (each : (p : ℕ) → p < length rows → AreKeyWeights e m p (get_or rows p no_key_weights)) where
  pub read_row : (p : ℕ) (x : KeyWeights) → p < length rows → x ≡ get_or rows p x → AreKeyWeights e m p x
  read_row p x lt read = row_read e m rows (length rows) p x each lt refl read

half : (n t : ℕ) → n ≡ 2 * t → n / 2 ≡ t
half n t e = omega arith

-- the look-ahead of a key is that of its row
key_look_is : (e : Bool) (m : Model) (h : ℕ) (key : List ℕ) (row : KeyWeights)
    → ArePairs (joint_actions m) (joint_observations m) key → AreKeyWeights e m (key_place m key) row
    → look_of_row e m h row ≡ key_look e m h key
key_look_is e m h key row p are =
    let A = arithmetic e m.scales in
    ap (λ (t : ℕ). look_ahead_in A m (h - t) (weights_of row.weights) 16) (sym (half (length key) row.time
    (are.long key p refl)))
    ∙ look_ahead_in_ext A m (h - length key / 2) 16 (weights_of row.weights)
    (weights_along A m (start_weights A m) key)
    (are.along key p refl)

pub table_of : (e : Bool) (m : Model) → IsModel m → (h most n k count : ℕ) → 0 < h
    → (rows slice : List KeyWeights) (values : List ℤ)
    → n ≡ joint_actions m → k ≡ joint_observations m → count ≡ min most (keys_below (n * k) h)
    → slice ≡ rows → length rows ≡ count
    → ((p : ℕ) → p < count → AreKeyWeights e m p (get_or rows p no_key_weights)) → length values ≡ length slice
    → ((p : ℕ) → p < length slice → get_or values p (pos 0) ≡ look_of_row e m h (get_or slice p no_key_weights))
    → IsKeyTable e m h most (record { actions = n; observations = k; horizon = h; values = values })
table_of e m is h most n k count some rows slice values en ek counted same as_many are long looks = record {
  model = is;
  some_step = some;
  actions = en;
  observations = ek;
  horizon = refl;
  count =
      long ∙ ap (λ (l : List KeyWeights). length l) same ∙ as_many ∙ counted
      ∙ ap (λ (i : ℕ). min most (keys_below (i * k) h)) en
      ∙ ap (λ (i : ℕ). min most (keys_below (joint_actions m * i) h)) ek;
  values = λ key p lt.
      let inside : key_place m key < length slice = omega (arith, lt, long) in
      let whole : length slice ≡ length rows = ap (λ (l : List KeyWeights). length l) same in
      looks (key_place m key) inside
      ∙ ap (λ (l : List KeyWeights). look_of_row e m h (get_or l (key_place m key) no_key_weights)) same
      ∙ key_look_is e m h key (get_or rows (key_place m key) no_key_weights) p
      (are (key_place m key) (omega (arith, inside, whole, as_many)));
}

-- ---- what is found

map_match : {X : Type 0} (r : Option X) {N N' : Type 0} {S S' : X → Type 0} → (N → N') → ((x : X) → S x → S' x)
    → MatchOption r N S → MatchOption r N' S'
map_match None none some is = none is
map_match (Some x) none some is = some x is

-- a key that is too far is not among those kept
pub none_from : (n k r : ℕ) (values : List ℤ) (key : List ℕ) → length values ≤ r → ArePairs n k key
    → length values ≤ place_from n k r key
none_from n k r values key le p = let grows = place_grows n k r key p in omega (arith, grows, le)

-- what is found of the rest of a key is found of the key
pub found_later : (n k r next : ℕ) (values : List ℤ) (key later : List ℕ) (found : Option ℤ) → 2 ≤ length key
    → later ≡ drop 2 key → get_or key 0 0 < n → get_or key 1 0 < k
    → next ≡ r * (n * k) + 1 + (get_or key 0 0 * k + get_or key 1 0)
    → IsFoundFrom n k values next later found → IsFoundFrom n k values r key found
found_later n k r next values [] later found long rest pa po at is = absurd (omega (arith, long))
found_later n k r next values (a ∷ []) later found long rest pa po at is = absurd (omega (arith, long))
found_later n k r next values (a ∷ (o ∷ key)) later found long rest pa po at is =
    let here : IsFoundFrom n k values (r * (n * k) + 1 + (a * k + o)) key found =
    subst (λ (j : ℕ). IsFoundFrom n k values j key found) at
    (subst (λ (l : List ℕ). IsFoundFrom n k values next l found) rest is) in
    map_match found (λ none p. none p.2) (λ x some. ((pa, po, some.0), some.1, some.2)) here

-- with no key to its left it is what the table says
pub found_is : (e : Bool) (m : Model) (h most : ℕ) (t : KeptKeys) → IsKeyTable e m h most t → (key : List ℕ)
    (found : Option ℤ) → length key / 2 < t.horizon
    → IsFoundFrom t.actions t.observations t.values 0 key found
    → MatchOption found (IsAmongFirst m h most key → ⊥) (λ x. IsAmongFirst m h most key × (x ≡ key_look e m h key))
found_is e m h most t table key found early is =
    let same = table.horizon in
    let short : length key < 2 * h = omega (arith, early, same) in
    let here : IsFoundFrom (joint_actions m) (joint_observations m) t.values 0 key found =
    subst (λ (k : ℕ). IsFoundFrom (joint_actions m) k t.values 0 key found) table.observations
    (subst (λ (n : ℕ). IsFoundFrom n t.observations t.values 0 key found) table.actions is) in
    map_match found (λ none among. not_kept e m h most t table key among (none among.pairs))
    (λ x some. (
      record {
        pairs = some.0;
        early = short;
        first = let count = table.count in let lt = some.1 in omega (arith, count, lt);
      },
      some.2 ∙ table.values key some.0 some.1,
    )) here
  where
    not_kept : (e : Bool) (m : Model) (h most : ℕ) (t : KeptKeys) → IsKeyTable e m h most t → (key : List ℕ)
        → IsAmongFirst m h most key → length t.values ≤ key_place m key → ⊥
    not_kept e m h most t table key among le =
        let steps : suc (h - 1) ≡ h = let some = table.some_step in omega arith in
        let below = place_below (joint_actions m) (joint_observations m) 0 1 (h - 1) key (some_pairs m table.model)
        among.pairs (subst (λ (j : ℕ). length key < 2 * j) (sym steps) among.early) (one_key (pairs_of m)) in
        let all : 1 + (h - 1) ≡ h = omega (arith, steps) in
        let whole = subst (λ (j : ℕ). key_place m key < keys_below (pairs_of m) j) all below in
        let count = table.count in
        let first = among.first in
        omega (arith, whole, count, first, le)
      where
        one_key : (p : ℕ) → 0 < keys_below p 1
        one_key p = omega arith
