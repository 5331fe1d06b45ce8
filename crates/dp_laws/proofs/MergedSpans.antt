-- The weights of the joint classes of a merged front, in the exact arithmetic.
use Rattle.std.proofs.Common.{◌≡◌, ◌≢◌, ℕ, zero, suc, ◌+◌, ◌*◌, ◌/◌, ◌%◌, ◌<◌, pos, List, [], ◌∷◌, length, get_or}
use Rattle.std.proofs.Common.{drop, take, sym, ap, ◌∙◌, subst, arith}
use Rattle.std.proofs.lemmas.Nat.{mod_below}
use Rattle.dp_spec.specs.Arithmetic.{exact, point, span_add}
use Rattle.dp_spec.specs.Front.{Front, class_counts, class_weight}
use Rattle.dp_spec.specs.JointNumbers.{joint_number, parts_of, product}
use Rattle.dp_spec.specs.Merge.{kept_class, merged_agents, merged_front, placed_number, without}
use Rattle.dp_spec.specs.Model.{IsModel, Model}
use Rattle.dp_spec.specs.Quantities.{class_weight_in}
use Rattle.dp_spec.specs.Steps.{IsUnassigned}
use Rattle.dp_spec.specs.WellFormed.{IsFront}
use Rattle.dp_spec.proofs.JointNumberLaws.{joint_number-parts_of, positive_right, row_below}
use Rattle.dp_laws.proofs.JointPlaces.{place_later}
use Rattle.dp_laws.proofs.MergedFronts.{as_many_merged, counts_of_others, joined_weight, kept_below, kept_weight}
use Rattle.dp_laws.proofs.MergedFronts.{one_class_less, placed_weight, unassigned_agent}
use Rattle.dp_laws.proofs.QuantityLaws.{exact_quantities}
use Rattle.dp_laws.proofs.WellFormedSteps.{merged_is_front}

module _ (m : Model) (is : IsModel m) (h : ℕ) (F : Front) (front : IsFront m h F) (lt : F.stage < h) (i a b : ℕ)
    (ab : a < b) (free_a : IsUnassigned i a F.agents) (free_b : IsUnassigned i b F.agents) where
  abbrev G : Front
  G = merged_front F i a b

  abbrev counts : List ℕ
  counts = class_counts F.agents

  abbrev merged : List ℕ
  merged = class_counts (merged_agents i a b F.agents)

  i_in : i < length counts
  i_in = (unassigned_agent i a F.agents free_a).0

  i_in_merged : i < length merged
  i_in_merged = omega (arith, i_in, as_many_merged i a b F.agents)

  in_merged : (x : ℕ) → x < product (without i counts) → x < product (without i merged)
  in_merged x p = subst (λ (z : List ℕ). x < product z) (sym (counts_of_others i a b F.agents)) p

  exact_weight : (E : Front) (C s : ℕ) → class_weight_in (exact m.scales) m E C s
      ≡ point (pos (class_weight m E C s))
  exact_weight E C s = (exact_quantities m is).class_weights E C s

  kept_in : (c : ℕ) → c < get_or merged i 0 → kept_class b c < get_or counts i 0
  kept_in c hc = kept_below b c _ _ hc (one_class_less i a b F.agents free_b)

  -- a joint class without the joined one has the weights that it had
  pub kept_span : (c x s : ℕ) → c < get_or merged i 0 → a ≢ c → x < product (without i counts)
      → class_weight_in (exact m.scales) m G (placed_number i merged c x) s
      ≡ class_weight_in (exact m.scales) m F (placed_number i counts (kept_class b c) x) s
  kept_span c x s hc ne hx =
      exact_weight G _ s
      ∙ ap (λ (w : ℕ). point (pos w))
      (placed_weight m h G (merged_is_front m h F i a b front lt ab free_a free_b) i i_in_merged c x s hc
      (in_merged x hx)
      ∙ kept_weight m F i a b ab c x s ne
      ∙ sym (placed_weight m h F front i i_in (kept_class b c) x s (kept_in c hc) hx))
      ∙ sym (exact_weight F _ s)

  a_in_merged : a < get_or merged i 0
  a_in_merged = let b_in = (unassigned_agent i b F.agents free_b).1 in
      omega (arith, b_in, ab, one_class_less i a b F.agents free_b)

  -- a joint class with the joined one has the weights of the two together
  pub joined_span : (x s : ℕ) → x < product (without i counts)
      → class_weight_in (exact m.scales) m G (placed_number i merged a x) s
      ≡ span_add (class_weight_in (exact m.scales) m F (placed_number i counts a x) s)
      (class_weight_in (exact m.scales) m F (placed_number i counts b x) s)
  joined_span x s hx =
      exact_weight G _ s
      ∙ ap (λ (w : ℕ). point (pos w))
      (placed_weight m h G (merged_is_front m h F i a b front lt ab free_a free_b)
      i i_in_merged a x s a_in_merged
      (in_merged x hx)
      ∙ joined_weight m F i a b ab x s
      ∙ (λ j. sym (placed_weight m h F front i i_in a x s (unassigned_agent i a F.agents free_a).1 hx) j + sym
      (placed_weight m h F front i i_in b x s (unassigned_agent i b F.agents free_b).1 hx) j))
      ∙ (λ j. span_add (sym (exact_weight F (placed_number i counts a x) s) j)
      (sym (exact_weight F (placed_number i counts b x) s) j))

-- ---- places in the list

-- the joint classes of the other agents
pub product_without : (i : ℕ) (ns : List ℕ) → i < length ns → product (without i ns)
    ≡ product (take i ns) * product (drop (suc i) ns)
product_without i [] lt = absurd (omega arith)
product_without zero (n ∷ ns) lt = omega arith
product_without (suc i) (n ∷ ns) lt = let rest = product_without i ns (omega arith) in rw rest (omega arith)

-- all joint classes
pub product_split : (i : ℕ) (ns : List ℕ) → i < length ns → product ns
    ≡ product (take i ns) * get_or ns i 0 * product (drop (suc i) ns)
product_split i [] lt = absurd (omega arith)
product_split zero (n ∷ ns) lt = omega arith
product_split (suc i) (n ∷ ns) lt = let rest = product_split i ns (omega arith) in rw rest (omega arith)

-- class c of agent i, in row `high` of the agents before it and place `low` of the agents behind it
pub placed_at : (i : ℕ) (ns : List ℕ) (c high low : ℕ) → i < length ns → high < product (take i ns)
    → low < product (drop (suc i) ns)
    → placed_number i ns c (high * product (drop (suc i) ns) + low)
    ≡ (high * get_or ns i 0 + c) * product (drop (suc i) ns) + low
placed_at i [] c high low lt hh hl = absurd (omega arith)
placed_at zero (n ∷ ns) c high low lt hh hl =
    let none : high ≡ 0 = omega arith in
    let whole : high * product ns + low ≡ low = rw none (omega arith) in
    ap (λ (z : ℕ). c * product ns + joint_number ns (parts_of ns z)) whole
    ∙ ap (λ (z : ℕ). c * product ns + z) (joint_number-parts_of ns low hl) ∙ rw none (omega arith)
placed_at (suc i) (n ∷ ns) c high low lt hh hl =
    let H = product (take i ns) in
    let L = product (drop (suc i) ns) in
    let Q = product (without i ns) in
    let whole : Q ≡ H * L = product_without i ns (omega arith) in
    let some : 0 < H = positive_right n H high hh in
    let high' = high % H in
    let hh' : high' < H = mod_below high H some in
    let x' : high' * L + low < Q = rw whole (row_below high' H L low hh' hl) in
    let split : high * L + low ≡ high / H * Q + (high' * L + low) = rw whole (parts high H L low) in
    ap (λ (z : ℕ). placed_number (suc i) (n ∷ ns) c z) split
    ∙ sym (place_later i n ns (high / H) c (high' * L + low) x')
    ∙ (λ j. high / H * product_split i ns (omega arith) j + placed_at i ns c high' low (omega arith) hh' hl j)
    ∙ together (high / H) H (get_or ns i 0) L high' c low
    ∙ ap (λ (z : ℕ). (z * get_or ns i 0 + c) * L + low) (back high H)
  where
    regroup : (q H L r low : ℕ) → (q * H + r) * L + low ≡ q * (H * L) + (r * L + low)
    regroup q H L r low = omega arith

    back : (h H : ℕ) → h / H * H + h % H ≡ h
    back h H = omega arith

    parts : (h H L low : ℕ) → h * L + low ≡ h / H * (H * L) + (h % H * L + low)
    parts h H L low = ap (λ (z : ℕ). z * L + low) (sym (back h H)) ∙ regroup (h / H) H L (h % H) low

    together : (q H n L r c low : ℕ) → q * (H * n * L) + ((r * n + c) * L + low)
        ≡ ((q * H + r) * n + c) * L + low
    together q H n L r c low = omega arith
