-- The own histories of the classes of a merged agent, in their order.
use Rattle.std.proofs.Common.{◌≡◌, ◌≢◌, ℕ, ◌<◌, ◌||◌, eqb, map, filter, length, get_or, ap, ◌∙◌, arith, ◌⊎◌, inl, inr}
use Rattle.std.proofs.Common.{min, max, sym, subst}
use Rattle.std.specs.List.{range_with_len}
use Rattle.std.proofs.lemmas.Bool.Decides.{nat_tests}
use Rattle.std.proofs.Math.ListN.{length-map}
use Rattle.dp_spec.specs.Front.{AgentFront}
use Rattle.dp_spec.specs.Merge.{class_members, kept_class, merged_agent, renumbered, IsHighestMember, IsLowestMember}
use Rattle.dp_spec.specs.Merge.{IsMember}
use Rattle.dp_laws.proofs.MergedAgents.{get_or-renumbered}
use Rattle.dp_base.proofs.Members.{filter_same}
use Rattle.std.proofs.lemmas.Bool.{cases_eq, cases_lt}

-- the members of a class of the merged agent, by the classes before
members_merged : (a b : ℕ) (d : AgentFront) (c : ℕ) → a < b →
    class_members (merged_agent a b d) c
    ≡ filter (λ x. eqb (renumbered a b (get_or d.class_of x 0)) c) (range_with_len 0 (length d.class_of))
members_merged a b d c ab =
    ap (λ (n : ℕ). filter (λ x. eqb (get_or (map (renumbered a b) d.class_of) x 0) c) (range_with_len 0 n))
    (length-map d.class_of (renumbered a b))
    ∙ filter_same _ _ (range_with_len 0 (length d.class_of))
    (λ x. ap (λ (z : ℕ). eqb z c) (get_or-renumbered a b d.class_of x ab))

joined_test : (a b k : ℕ) → a < b → eqb (renumbered a b k) a ≡ (eqb k a || eqb k b)
joined_test a b k h = grind (arith, nat_tests)

kept_test : (a b c k : ℕ) → a < b → a ≢ c → eqb (renumbered a b k) c ≡ eqb k (kept_class b c)
kept_test a b c k h ne = grind (arith, nat_tests)

-- the joined class holds the members of both
pub joined_members : (a b : ℕ) (d : AgentFront) → a < b →
    class_members (merged_agent a b d) a
    ≡ filter (λ x. eqb (get_or d.class_of x 0) a || eqb (get_or d.class_of x 0) b)
    (range_with_len 0 (length d.class_of))
joined_members a b d ab = members_merged a b d a ab ∙ filter_same _ _ (range_with_len 0 (length d.class_of))
    (λ x. joined_test a b (get_or d.class_of x 0) ab)

-- every other class holds what it held under its old number
pub kept_members : (a b c : ℕ) (d : AgentFront) → a < b → a ≢ c
    → class_members (merged_agent a b d) c ≡ class_members d (kept_class b c)
kept_members a b c d ab ne = members_merged a b d c ab ∙ filter_same _ _ (range_with_len 0 (length d.class_of))
    (λ x. kept_test a b c (get_or d.class_of x 0) ab ne)

-- ---- the lowest and the highest

neither : (a b k : ℕ) → a < b → k ≢ a → k ≢ b → renumbered a b k ≡ a → ⊥
neither a b k h p q e = grind (arith, nat_tests)

-- what is called a was a or b
of_either : (a b k : ℕ) → a < b → renumbered a b k ≡ a → (k ≡ a) ⊎ (k ≡ b)
of_either a b k h e =
    elim (cases_eq k a) [
      | inl same ↦ inl same
      | inr p ↦ elim (cases_eq k b) [ inl same ↦ inr same | inr q ↦ absurd (neither a b k h p q e) ]
    ]

first_joined : (a b k : ℕ) → a < b → k ≡ a → renumbered a b k ≡ a
first_joined a b k h e = grind (arith, nat_tests)

second_joined : (a b k : ℕ) → a < b → k ≡ b → renumbered a b k ≡ a
second_joined a b k h e = grind (arith, nat_tests)

module _ (d : AgentFront) (a b : ℕ) (ab : a < b) where
  -- a member of the joined class is one of either ..
  from_joined : (x : ℕ) → IsMember (merged_agent a b d) a x → IsMember d a x ⊎ IsMember d b x
  from_joined x h =
      let within : x < length (map (renumbered a b) d.class_of) = h.0 in
      let lt : x < length d.class_of = omega (arith, length-map d.class_of (renumbered a b)) in
      elim (of_either a b (get_or d.class_of x 0) ab (sym (get_or-renumbered a b d.class_of x ab) ∙ h.1)) [
        | inl e ↦ inl (lt, e)
        | inr e ↦ inr (lt, e)
      ]

  -- .. and the other way round
  into_joined : (x : ℕ) → x < length d.class_of → renumbered a b (get_or d.class_of x 0) ≡ a
      → IsMember (merged_agent a b d) a x
  into_joined x lt e =
      let within : x < length (map (renumbered a b) d.class_of) = omega
      (arith, length-map d.class_of (renumbered a b)) in
      (within, get_or-renumbered a b d.class_of x ab ∙ e)

  of_first : (x : ℕ) → IsMember d a x → IsMember (merged_agent a b d) a x
  of_first x h = into_joined x h.0 (first_joined a b (get_or d.class_of x 0) ab h.1)

  of_second : (x : ℕ) → IsMember d b x → IsMember (merged_agent a b d) a x
  of_second x h = into_joined x h.0 (second_joined a b (get_or d.class_of x 0) ab h.1)

  lowest_joined : (x y : ℕ) → IsLowestMember d a x → IsLowestMember d b y
      → IsLowestMember (merged_agent a b d) a (min x y)
  lowest_joined x y first second = record {
    member = elim (cases_lt x y) [
      | inl lt ↦ let e : x ≡ min x y = omega arith in subst (IsMember (merged_agent a b d) a) e
          (of_first x first.member)
      | inr le ↦ let e : y ≡ min x y = omega arith in subst (IsMember (merged_agent a b d) a) e
          (of_second y second.member)
    ];
    least = λ z h. elim (from_joined z h) [
      | inl one ↦ let le = first.least z one in omega arith
      | inr other ↦ let le = second.least z other in omega arith
    ];
  }

  highest_joined : (x y : ℕ) → IsHighestMember d a x → IsHighestMember d b y
      → IsHighestMember (merged_agent a b d) a (max x y)
  highest_joined x y first second = record {
    member = elim (cases_lt x y) [
      | inl lt ↦ let e : y ≡ max x y = omega arith in subst (IsMember (merged_agent a b d) a) e
          (of_second y second.member)
      | inr le ↦ let e : x ≡ max x y = omega arith in subst (IsMember (merged_agent a b d) a) e
          (of_first x first.member)
    ];
    greatest = λ z h. elim (from_joined z h) [
      | inl one ↦ let le = first.greatest z one in omega arith
      | inr other ↦ let le = second.greatest z other in omega arith
    ];
  }

-- of any two classes
pub lowest_of_merged : (d : AgentFront) (a b x y : ℕ) → a < b → IsLowestMember d a x → IsLowestMember d b y
    → IsLowestMember (merged_agent a b d) a (min x y)
lowest_of_merged d a b x y ab first second = lowest_joined d a b ab x y first second

pub highest_of_merged : (d : AgentFront) (a b x y : ℕ) → a < b → IsHighestMember d a x → IsHighestMember d b y
    → IsHighestMember (merged_agent a b d) a (max x y)
highest_of_merged d a b x y ab first second = highest_joined d a b ab x y first second
