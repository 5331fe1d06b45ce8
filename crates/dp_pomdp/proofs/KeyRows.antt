-- The weights of keys, one step after the other.
use Rattle.std.proofs.Common.{◌≡◌, ℕ, suc, ◌+◌, ◌*◌, ◌/◌, ◌%◌, ◌-◌, ◌<◌, ◌≤◌, Bool, List, [], ◌∷◌, ◌++◌, length, map}
use Rattle.std.proofs.Common.{get_or, refl, sym, ap, ◌∙◌, arith, subst}
use Rattle.std.specs.List.{range_with_len}
use Rattle.std.proofs.Math.Nat.{div-add-mod, div-mul-le_self, le-mul_of_pos_right, mod-lt}
use Rattle.std.proofs.lemmas.List.{get_or_default}
use Rattle.std.proofs.lemmas.List.FromFn.{get_or-map-range_with_len, length-map-range_with_len}
use Rattle.std.proofs.lemmas.Nat.{div-mul-add, mod-mul-add}
use Rattle.dp_spec.specs.declared.span.Span.{Span}
use Rattle.dp_spec.specs.declared.scales.Scales.{Scales}
use Rattle.dp_spec.specs.Arithmetic.{arithmetic, point}
use Rattle.dp_spec.specs.Calls.{calls_in}
use Rattle.dp_spec.specs.Mode.{IsTrueFit}
use Rattle.dp_spec.specs.Model.{IsModel, Model, joint_actions, joint_observations, start_at}
use Rattle.dp_spec.specs.Quantities.{weights_after_in}
use Rattle.dp_spec.specs.Sizes.{AreWeights}
use Rattle.dp_laws.proofs.EqualWeights.{weights_after_in_ext, weights_same}
use Rattle.dp_laws.proofs.SizeLaws.{arithmetic_is_exact, mode_can_update_weights}
use Rattle.dp_pomdp.specs.Keys.{AreKeyWeights, ArePairs, KeyWeights, key_place, keys_below}
use Rattle.dp_pomdp.specs.Keys.{no_key_weights, pairs_of, start_weights, weights_along}
use Rattle.dp_pomdp.specs.Looking.{weights_of}
use Rattle.dp_base.proofs.MadeLists.{next_after}
use Rattle.dp_pomdp.proofs.KeyPlaces.{HasLast, div_below, early_of_place, keys_below_next, last_pair}
use Rattle.dp_pomdp.proofs.KeyPlaces.{pair_below, place_pair}
use Rattle.dp_pomdp.proofs.KeyPlaces.{place_row, some_pair}
use Rattle.dp_spec.proofs.ModelLaws.{some_joint_observation}

-- there is a pair
pub some_pairs : (m : Model) → IsModel m → 0 < pairs_of m
some_pairs m is = some_pair (joint_actions m) (joint_observations m) 0 0 is.sizes.some_action
    (some_joint_observation m is)

pub div_less : (q p : ℕ) → 0 < q → 0 < p → (q - 1) / p < q
div_less q p some positive =
    let whole = div-mul-le_self (q - 1) p in
    let less = le-mul_of_pos_right ((q - 1) / p) positive in omega (arith, whole, less)

-- a row that is read
pub row_read : (e : Bool) (m : Model) (rows : List KeyWeights) (q i : ℕ) (x : KeyWeights)
    → ((p : ℕ) → p < q → AreKeyWeights e m p (get_or rows p no_key_weights)) → i < q → length rows ≡ q
    → x ≡ get_or rows i x → AreKeyWeights e m i x
row_read e m rows q i x each lt long read =
    subst (AreKeyWeights e m i) (sym (read ∙ get_or_default rows i x no_key_weights (omega (arith, lt, long))))
    (each i lt)

-- the row that a row goes on from, where n and k are the numbers of joint actions and joint observations
pub parent_of : (e : Bool) (m : Model) → IsModel m → (rows : List KeyWeights) (q n k : ℕ) (x : KeyWeights)
    → n ≡ joint_actions m → k ≡ joint_observations m → 0 < q
    → ((p : ℕ) → p < q → AreKeyWeights e m p (get_or rows p no_key_weights)) → length rows ≡ q
    → x ≡ get_or rows ((q - 1) / (n * k)) x → AreKeyWeights e m ((q - 1) / pairs_of m) x
parent_of e m is rows q n k x en ek some each long read =
    let at : (q - 1) / (n * k) ≡ (q - 1) / pairs_of m =
    ap (λ (i : ℕ). (q - 1) / (i * k)) en ∙ ap (λ (i : ℕ). (q - 1) / (joint_actions m * i)) ek in
    row_read e m rows q ((q - 1) / pairs_of m) x each (div_less q (pairs_of m) some (some_pairs m is)) long
    (read ∙ ap (λ i. get_or rows i x) at)

-- a made list goes on with its next item
pub next_made : {X : Type 0} (f : ℕ → X) (all more : List X) (i : ℕ) (new : X) → new ≡ f i → more ≡ all ++ new ∷ []
    → all ≡ map f (range_with_len 0 i) → more ≡ map f (range_with_len 0 (i + 1))
next_made f all more i new same pushed before = next_after f [] all more i new same pushed before

-- ---- the arithmetic of a branch

pub same_arithmetic : (e x : Bool) (c : Scales) (m : Model) → c ≡ m.scales → x ≡ e
    → arithmetic e c ≡ arithmetic x m.scales
same_arithmetic e x c m same branch = ap (arithmetic e) same
    ∙ ap (λ (b : Bool). arithmetic b m.scales) (sym branch)

-- the calls for the weights of the start
pub mode_starts : (e x : Bool) (c : Scales) (m : Model) → IsModel m → c ≡ m.scales → x ≡ e → (h : ℕ) (u : _)
    → IsTrueFit m h x u → (s : ℕ) → s < m.states → (calls_in e c).Start (start_at m s)
mode_starts e x c m is same branch h u fit s p =
    subst (λ (c : Scales). (calls_in e c).Start (start_at m s)) (sym same)
    ((mode_can_update_weights m is h fit.horizon.0 fit.horizon.1 e (sym branch ∙ fit.mode)).start s p)

module _ (e : Bool) (m : Model) (is : IsModel m) (h : ℕ) (u : _) (fit : IsTrueFit m h e u) where
  -- ---- the empty key

  starts_are : AreWeights e m 0 (start_weights (arithmetic e m.scales) m)
  starts_are =
      subst (λ (b : Bool). AreWeights b m 0 (start_weights (arithmetic e m.scales) m))
      (arithmetic_is_exact e m.scales)
      (mode_can_update_weights m is h fit.horizon.0 fit.horizon.1 e fit.mode).started

  start_at_state : (ws : List Span) → ws ≡ map (start_weights (arithmetic e m.scales) m) (range_with_len 0 m.states)
      → (s : ℕ) → s < m.states → weights_of ws s ≡ start_weights (arithmetic e m.scales) m s
  start_at_state ws made s lt =
      ap (λ (l : List Span). weights_of l s) made
      ∙ get_or-map-range_with_len (start_weights (arithmetic e m.scales) m) 0 m.states s s (point _) lt (omega arith)

  -- only the empty key has place 0
  no_pair : (key : List ℕ) → ArePairs (joint_actions m) (joint_observations m) key → key_place m key ≡ 0 → key ≡ []
  no_pair [] p place = refl
  no_pair (a ∷ key) p place =
      let last = last_pair (arithmetic e m.scales) m (joint_actions m) (joint_observations m) 0
      (start_weights (arithmetic e m.scales) m) (a ∷ key) p (omega arith) in
      let at = last.place in absurd (omega (arith, at, place))

  pub first_weights : (ws : List Span)
      → ws ≡ map (start_weights (arithmetic e m.scales) m) (range_with_len 0 m.states)
      → AreKeyWeights e m 0 (record { time = 0; weights = ws })
  first_weights ws made = record {
    one_each = ap (λ (l : List Span). length l) made ∙ length-map-range_with_len _ 0 m.states;
    late = omega arith;
    weights = weights_same e m 0 _ _ (λ s lt. sym (start_at_state ws made s lt)) starts_are;
    long = λ key p place. ap (λ (l : List ℕ). length l) (no_pair key p place);
    along = λ key p place s lt.
        start_at_state ws made s lt
        ∙ sym (ap (λ (l : List ℕ). weights_along (arithmetic e m.scales) m
        (start_weights (arithmetic e m.scales) m) l s) (no_pair key p place));
  }

  -- ---- a key of one step more

  pub early_row : (q : ℕ) → q < keys_below (pairs_of m) h → 0 < q → 0 < pairs_of m → (row : KeyWeights)
      → AreKeyWeights e m ((q - 1) / pairs_of m) row → row.time < h
  early_row q lt some pairs row are =
      let less = div_less q (pairs_of m) some pairs in
      early_of_place (pairs_of m) row.time h ((q - 1) / pairs_of m) pairs are.late (omega (arith, less, lt))

  module _ (q : ℕ) (some : 0 < q) (lt : q < keys_below (pairs_of m) h) (pairs : 0 < pairs_of m)
      (row next : KeyWeights) (are : AreKeyWeights e m ((q - 1) / pairs_of m) row)
      (time : next.time ≡ suc row.time) (one_each : length next.weights ≡ m.states) where
    at_place : pairs_of m * ((q - 1) / pairs_of m) + (q - 1) % pairs_of m ≡ q - 1
    at_place = div-add-mod (q - 1) (pairs_of m)

    late_next : keys_below (pairs_of m) next.time ≤ q
    late_next =
        let more = keys_below_next (pairs_of m) row.time ((q - 1) / pairs_of m) ((q - 1) % pairs_of m) are.late in
        let turned : pairs_of m * ((q - 1) / pairs_of m) ≡ (q - 1) / pairs_of m * pairs_of m = grind arith in
        subst (λ (t : ℕ). keys_below (pairs_of m) t ≤ q) (sym time) (omega (arith, more, at_place, turned))

    last_of_key : (key : List ℕ) → ArePairs (joint_actions m) (joint_observations m) key → key_place m key ≡ q
        → HasLast (arithmetic e m.scales) m (joint_actions m) (joint_observations m) 0
        (start_weights (arithmetic e m.scales) m) key
    last_of_key [] p place = absurd (omega (arith, place))
    last_of_key (a ∷ key) p place = last_pair (arithmetic e m.scales) m (joint_actions m) (joint_observations m) 0
        (start_weights (arithmetic e m.scales) m) (a ∷ key) p (omega arith)

    module _ (key : List ℕ) (p : ArePairs (joint_actions m) (joint_observations m) key)
        (place : key_place m key ≡ q)
        (last : HasLast (arithmetic e m.scales) m (joint_actions m) (joint_observations m) 0
        (start_weights (arithmetic e m.scales) m) key) where
      row_before : key_place m last.before ≡ (q - 1) / pairs_of m
      row_before = sym (place_row (pairs_of m) (key_place m last.before)
          (last.action * joint_observations m + last.seen)
          q (pair_below _ _ _ _ last.in_actions last.in_seen) (sym place ∙ last.place))

      pair_before : (q - 1) % pairs_of m ≡ last.action * joint_observations m + last.seen
      pair_before = place_pair (pairs_of m) (key_place m last.before)
          (last.action * joint_observations m + last.seen) q (pair_below _ _ _ _ last.in_actions last.in_seen)
          (sym place ∙ last.place)

      action_before : (q - 1) % pairs_of m / joint_observations m ≡ last.action
      action_before = ap (λ x. x / joint_observations m) pair_before
          ∙ div-mul-add last.action (joint_observations m) last.seen last.in_seen

      seen_before : (q - 1) % pairs_of m % joint_observations m ≡ last.seen
      seen_before = ap (λ x. x % joint_observations m) pair_before
          ∙ mod-mul-add last.action (joint_observations m) last.seen last.in_seen

      long_next : length key ≡ 2 * next.time
      long_next =
          let before = are.long last.before last.pairs row_before in
          let all = last.long in omega (arith, all, before, time)

      along_next : (s : ℕ) → s < m.states
          → weights_of next.weights s ≡ weights_after_in (arithmetic e m.scales) m (weights_of row.weights)
          ((q - 1) % pairs_of m / joint_observations m) ((q - 1) % pairs_of m % joint_observations m) s
          → weights_of next.weights s
          ≡ weights_along (arithmetic e m.scales) m (start_weights (arithmetic e m.scales) m) key s
      along_next s ps pushed =
          let A = arithmetic e m.scales in
          let along = weights_along A m (start_weights A m) in
          pushed
          ∙ ap (λ (a : ℕ). weights_after_in A m (weights_of row.weights) a
          ((q - 1) % pairs_of m % joint_observations m) s) action_before
          ∙ ap (λ (o : ℕ). weights_after_in A m (weights_of row.weights) last.action o s) seen_before
          ∙ weights_after_in_ext A m (weights_of row.weights) (along last.before) last.action last.seen s
          (are.along last.before last.pairs row_before)
          ∙ sym (ap (λ (w : ℕ → Span). w s) last.weights)

    pub next_weights : (q - 1) % pairs_of m / joint_observations m < joint_actions m
        → (q - 1) % pairs_of m % joint_observations m < joint_observations m
        → ((s : ℕ) → s < m.states
        → weights_of next.weights s ≡ weights_after_in (arithmetic e m.scales) m (weights_of row.weights)
        ((q - 1) % pairs_of m / joint_observations m) ((q - 1) % pairs_of m % joint_observations m) s)
        → AreKeyWeights e m q next
    next_weights pa po pushed = record {
      one_each = one_each;
      late = late_next;
      weights =
          let updated = (mode_can_update_weights m is h fit.horizon.0 fit.horizon.1 e fit.mode).updated row.time
          (weights_of row.weights) ((q - 1) % pairs_of m / joint_observations m)
          ((q - 1) % pairs_of m % joint_observations m) (early_row q lt some pairs row are)
          (subst (λ (b : Bool). AreWeights b m row.time (weights_of row.weights))
          (sym (arithmetic_is_exact e m.scales)) are.weights) pa po in
          subst (λ (t : ℕ). AreWeights e m t (weights_of next.weights)) (sym time)
          (weights_same e m (suc row.time) _ _ (λ s lt. sym (pushed s lt))
          (subst (λ (b : Bool). AreWeights b m (suc row.time) (weights_after_in (arithmetic e m.scales) m
          (weights_of row.weights) ((q - 1) % pairs_of m / joint_observations m)
          ((q - 1) % pairs_of m % joint_observations m))) (arithmetic_is_exact e m.scales) updated));
      long = λ key p place. long_next key p place (last_of_key key p place);
      along = λ key p place s ps. along_next key p place (last_of_key key p place) s ps (pushed s ps);
    }

  -- the same, where n and k are the numbers of joint actions and joint observations
  pub next_at : (q n k : ℕ) → n ≡ joint_actions m → k ≡ joint_observations m → 0 < q
      → q < keys_below (pairs_of m) h → (row next : KeyWeights) → AreKeyWeights e m ((q - 1) / pairs_of m) row
      → next.time ≡ suc row.time → length next.weights ≡ m.states
      → ((s : ℕ) → s < m.states → weights_of next.weights s ≡ weights_after_in (arithmetic e m.scales) m
      (weights_of row.weights) ((q - 1) % (n * k) / k) ((q - 1) % (n * k) % k) s)
      → AreKeyWeights e m q next
  next_at q n k en ek some lt row next are time one_each pushed =
      let A = arithmetic e m.scales in
      let seen_some = some_joint_observation m is in
      let pa = div_below ((q - 1) % pairs_of m) (joint_actions m) (joint_observations m) seen_some
      (mod-lt (q - 1) (some_pairs m is)) in
      let po = mod-lt ((q - 1) % pairs_of m) seen_some in
      next_weights q some lt (some_pairs m is) row next are time one_each pa po
      (subst (λ (i : ℕ). (s : ℕ) → s < m.states → weights_of next.weights s ≡ weights_after_in A m
      (weights_of row.weights) ((q - 1) % (joint_actions m * i) / i) ((q - 1) % (joint_actions m * i) % i) s) ek
      (subst (λ (i : ℕ). (s : ℕ) → s < m.states → weights_of next.weights s ≡ weights_after_in A m
      (weights_of row.weights) ((q - 1) % (i * k) / k) ((q - 1) % (i * k) % k) s) en pushed))
