-- Parts where no classes were joined: each own history has its own number for its class.
use Rattle.std.proofs.Common.{◌≡◌, inl, inr, ◌⊎◌, ℕ, zero, suc, ◌+◌, ◌-◌, ◌*◌, ◌/◌, ◌%◌, ◌^◌, ◌<◌, ◌≤◌, List, [], ◌∷◌}
use Rattle.std.proofs.Common.{map, length, get_or, drop, Option, refl, sym, ap, ◌∙◌, subst, arith}
use Rattle.std.specs.List.{range_with_len}
use Rattle.std.specs.declared.alloc.Global.{Global}
use Rattle.std.specs.declared.rc.Rc.{Rc}
use Rattle.std.proofs.Math.Nat.{pow-suc, pow-zero}
use Rattle.std.proofs.Math.Seq.{drop-cons}
use Rattle.std.proofs.lemmas.Bool.{cases_lt}
use Rattle.std.proofs.lemmas.List.{length-drop, length-map}
use Rattle.dp_spec.proofs.JointNumberLaws.{part_below, row_below}
use Rattle.dp_cluster.specs.declared.part.PastStage.{PastStage}
use Rattle.dp_cluster.specs.AgentParts.{ArePastStages, HaveNoLinks, LeadTogether, OwnPart, class_after, class_led_to}
use Rattle.dp_cluster.specs.AgentParts.{part_of, past_classes}
use Rattle.dp_cluster.specs.Keys.{HasOwnNumbers, HasSharedClass}
use Rattle.dp_cluster.specs.PastClasses.{PastClasses, no_classes}
use Rattle.dp_cluster.proofs.ClassesBehind.{earlier_read, last_read}
use Rattle.dp_cluster.proofs.OwnParts.{made_at, own_part, part_class, part_stage}
use Rattle.dp_cluster.proofs.PastTrees.{stage_actions}
use Rattle.dp_cluster.proofs.StageRows.{history_on, leads_on, past_long, stage_at}

-- ---- without links

pub numbers_stay : (n : ℕ) (ss : List PastStage) → HaveNoLinks ss → (x : ℕ) → x < n ^ length ss
    → class_after n ss x ≡ x
numbers_stay n [] none x lt = let one = pow-zero n in omega arith
numbers_stay n (s ∷ ss) none x lt =
    let lt' : x < n ^ length ss * n = rw pow-suc at lt in
    let before = numbers_stay n ss none.1 (x / n) (part_below (n ^ length ss) n x lt') in
    let whole : x / n * n + x % n ≡ x = omega arith in
    ap (λ (l : List ℕ). get_or l (class_after n ss (x / n) * n + x % n) (class_after n ss (x / n) * n + x % n)) none.0
    ∙ ap (λ (c : ℕ). c * n + x % n) before ∙ whole

past_numbers : (n : ℕ) (ss : List PastStage) → HaveNoLinks ss → (t x : ℕ) → t < length ss → x < n ^ t
    → get_or (get_or (past_classes n ss) t no_classes).class_of x 0 ≡ x
past_numbers n [] none t x lt below = absurd (omega arith)
past_numbers n (s ∷ ss) none t x lt below =
    let here : PastClasses = record {
      count = length s.actions.items;
      class_of = map (class_after n ss) (range_with_len 0 (n ^ length ss));
    } in
    let long = past_long n ss in
    elim (cases_lt t (length ss)) [
      | inl early ↦
          ap (λ (z : PastClasses). get_or z.class_of x 0)
          (earlier_read (past_classes n ss) (here ∷ []) t no_classes (omega arith))
          ∙ past_numbers n ss none.1 t x early below
      | inr late ↦
          let same : t ≡ length ss = omega arith in
          let below' : x < n ^ length ss = subst (λ (z : ℕ). x < n ^ z) same below in
          ap (λ (z : PastClasses). get_or z.class_of x 0)
          (last_read (past_classes n ss) t here no_classes (omega arith))
          ∙ made_at (n ^ length ss) x 0 (class_after n ss) below' ∙ numbers_stay n ss none.1 x below'
    ]

-- ---- with links

pub none_left : (xs : List ℕ) → length xs ≡ 0 → xs ≡ []
none_left [] e = refl
none_left (x ∷ xs) e = absurd (omega arith)

nil_or_not : (xs : List ℕ) → (xs ≡ []) ⊎ (¬ (xs ≡ []))
nil_or_not [] = inl refl
nil_or_not (x ∷ xs) = inr (λ e. cc)

pub links_lead_together : (n : ℕ) (ss : List PastStage) → 0 < n → ArePastStages n ss → (¬ HaveNoLinks ss)
    → LeadTogether n ss
links_lead_together n [] some past linked = absurd (linked tt)
links_lead_together n (s ∷ ss) some past linked =
    elim (nil_or_not s.links.items) [
      | inl e ↦
          let before = links_lead_together n ss some past.2 (λ none. linked (e, none)) in
          let x = before.0 in
          let y = before.1 in
          let less = row_below x y n 0 before.2 some in
          let x_below : x < n ^ length ss = let lt = before.2 in let le = before.3 in omega arith in (
            x * n + 0,
            y * n + 0,
            omega arith,
            history_on n s ss past y 0 before.3 some,
            leads_on n s ss past x 0 some ∙ ap (λ (c : ℕ). class_led_to s (c * n + 0)) before.4
                ∙ sym (leads_on n s ss past y 0 some),
          )
      | inr here ↦ past.4 here
    ]

-- ---- the stage that others are behind

pub past_read : (n r : ℕ) (ss ss' : List PastStage) (s : PastStage) → drop r ss ≡ s ∷ ss'
    → get_or (past_classes n ss) (length ss') no_classes ≡ record {
      count = length s.actions.items;
      class_of = map (class_after n ss') (range_with_len 0 (n ^ length ss'));
    }
past_read n zero ss ss' s e =
    ap (λ (l : List PastStage). get_or (past_classes n l) (length ss') no_classes) e
    ∙ last_read (past_classes n ss') (length ss') _ no_classes (sym (past_long n ss'))
past_read n (suc r) [] ss' s e = absurd (let no : 0 ≡ suc (length ss') = ap (λ l. length l) e in omega arith)
past_read n (suc r) (q ∷ qs) ss' s e =
    let rest = length-drop r qs in
    let size : length (drop r qs) ≡ suc (length ss') = ap (λ l. length l) e in
    let many = past_long n qs in
    earlier_read (past_classes n qs) _ (length ss') no_classes (omega arith) ∙ past_read n r qs ss' s e

stages_behind : (n r : ℕ) (ss ss' : List PastStage) → drop r ss ≡ ss' → ArePastStages n ss → ArePastStages n ss'
stages_behind n zero ss ss' e past = subst (ArePastStages n) e past
stages_behind n (suc r) [] ss' e past = subst (ArePastStages n) e past
stages_behind n (suc r) (q ∷ qs) ss' e past = stages_behind n r qs ss' e past.2

-- ---- of a part

module _ (n : ℕ) (ss : List PastStage) (k : ℕ) (cs : List (Option ℕ)) (past : ArePastStages n ss) where
  numbers_of : HaveNoLinks ss → HasOwnNumbers (own_part n ss k cs)
  numbers_of none =
      let stage = part_stage n ss k cs in record {
        now = λ x lt.
            let below : x < n ^ length ss = subst (λ (t : ℕ). x < n ^ t) stage lt in
            sym (part_class n ss k cs x below) ∙ numbers_stay n ss none x below;
        before = λ t x lt below. past_numbers n ss none t x (omega arith) below;
      }

  shared_in : 0 < n → (¬ HaveNoLinks ss) → HasSharedClass (own_part n ss k cs)
  shared_in some linked =
      let stage = part_stage n ss k cs in
      let two = links_lead_together n ss some past linked in
      let x_below : two.0 < n ^ length ss = let lt = two.2 in let le = two.3 in omega arith in (
        two.0,
        two.1,
        two.2,
        subst (λ (t : ℕ). two.1 < n ^ t) (sym stage) two.3,
        sym (part_class n ss k cs two.0 x_below) ∙ two.4 ∙ part_class n ss k cs two.1 two.3,
      )

  module _ (t : ℕ) (lt : t < length ss) (s : PastStage) (read : s ≡ get_or ss (length ss - 1 - t) s) where
    here : drop (length ss - 1 - t) ss ≡ s ∷ drop (suc (length ss - 1 - t)) ss
    here = drop-cons ss (length ss - 1 - t) s (omega arith)
        ∙ ap (λ (z : PastStage). z ∷ drop (suc (length ss - 1 - t)) ss) (sym read)

    abbrev rest : List PastStage
    rest = drop (suc (length ss - 1 - t)) ss

    rest_long : length rest ≡ t
    rest_long = let size = length-drop (suc (length ss - 1 - t)) ss in omega arith

    classes_here : get_or (past_classes n ss) t no_classes ≡ record {
      count = length s.actions.items;
      class_of = map (class_after n rest) (range_with_len 0 (n ^ length rest));
    }
    classes_here = ap (λ (z : ℕ). get_or (past_classes n ss) z no_classes) (sym rest_long)
        ∙ past_read n (length ss - 1 - t) ss rest s here

    class_here : (x : ℕ) → x < n ^ t
        → get_or (get_or (past_classes n ss) t no_classes).class_of x 0 ≡ class_after n rest x
    class_here x below =
        ap (λ (z : PastClasses). get_or z.class_of x 0) classes_here
        ∙ made_at (n ^ length rest) x 0 (class_after n rest) (subst (λ (z : ℕ). x < n ^ z) (sym rest_long) below)

    -- a class of an own history has an action
    pub class_has_action : (x c : ℕ) → x < n ^ t
        → get_or (get_or (past_classes n ss) t no_classes).class_of x 0 ≡ c → c < length s.actions.items
    class_has_action x c below e =
        let there = stages_behind n (length ss - 1 - t) ss (s ∷ rest) here past in
        let inside = there.0 x (subst (λ (z : ℕ). x < n ^ z) (sym rest_long) below) in
        let is : class_after n rest x ≡ c = sym (class_here x below) ∙ e in omega arith

    -- which is fixed after it
    pub action_fixed : (x c : ℕ) → x < n ^ t
        → get_or (get_or (past_classes n ss) t no_classes).class_of x 0 ≡ c
        → get_or s.actions.items c 0 ≡ get_or (get_or (own_part n ss k cs).front.fixed t []) x 0
    unfolding part_of
    action_fixed x c below e =
        let below' : x < n ^ length rest = subst (λ (z : ℕ). x < n ^ z) (sym rest_long) below in
        sym (
        ap (λ (z : ℕ). get_or (get_or (own_part n ss k cs).front.fixed z []) x 0) (sym rest_long)
        ∙ ap (λ (l : List ℕ). get_or l x 0) (stage_actions n (length ss - 1 - t) ss rest s here)
        ∙ made_at (n ^ length rest) x 0 (λ y. get_or s.actions.items (class_after n rest y) 0) below'
        ∙ ap (λ (z : ℕ). get_or s.actions.items z 0) (sym (class_here x below) ∙ e)
        )

    module _ (v : OwnPart) (is : own_part n ss k cs ≡ v) (c : ℕ) where
      pub has_action : (x : ℕ) × (x < v.observations ^ t) × (get_or (get_or v.past t no_classes).class_of x 0 ≡ c)
          → c < length s.actions.items
      has_action some =
          let P : OwnPart → Type 0 = λ v. (x : ℕ) × (x < v.observations ^ t)
          × (get_or (get_or v.past t no_classes).class_of x 0 ≡ c) in
          let own = subst P (sym is) some in class_has_action own.0 c own.1 own.2

      pub action_is : (a : ℕ) → a ≡ get_or s.actions.items c 0 → (x : ℕ) → x < v.observations ^ t
          → get_or (get_or v.past t no_classes).class_of x 0 ≡ c → a ≡ get_or (get_or v.front.fixed t []) x 0
      action_is a ea =
          let P : OwnPart → Type 0 = λ v. (x : ℕ) → x < v.observations ^ t
          → get_or (get_or v.past t no_classes).class_of x 0 ≡ c → a ≡ get_or (get_or v.front.fixed t []) x 0 in
          subst P is (λ x below e. ea ∙ action_fixed x c below e)

  module _ (v : OwnPart) (is : own_part n ss k cs ≡ v) where
    pub own_numbers : HaveNoLinks ss → HasOwnNumbers v
    own_numbers none = subst HasOwnNumbers is (numbers_of none)

    pub shared_class : 0 < v.observations → (¬ HaveNoLinks ss) → HasSharedClass v
    shared_class = subst (λ (v : OwnPart). 0 < v.observations → (¬ HaveNoLinks ss) → HasSharedClass v) is shared_in

-- the stage of a time that is read of shared stages
pub stage_back : (past : List (Rc PastStage Global)) (t : ℕ) (r : Rc PastStage Global) (s : PastStage)
    → t < length past → r ≡ get_or past (length past - 1 - t) r → s ≡ r.value
    → s ≡ get_or (map (λ s. s.value) past) (length (map (λ s. s.value) past) - 1 - t) s
stage_back past t r s lt read is =
    let size = length-map past (λ (q : Rc PastStage Global). q.value) in
    subst (λ (z : ℕ). s ≡ get_or (map (λ q. q.value) past) (z - 1 - t) s) (sym size)
    (stage_at past (length past - 1 - t) r s (omega arith) read is)

-- ---- stage by stage

no_links_next : (s : PastStage) (ss : List PastStage) (i : ℕ) → i < length ss → s ≡ get_or ss i s
    → drop i ss ≡ s ∷ drop (suc i) ss
no_links_next s ss i lt read = drop-cons ss i s lt ∙ ap (λ (z : PastStage). z ∷ drop (suc i) ss) (sym read)

-- where the stages so far have none, all have none exactly where those that are left do
pub record LeaveLinks (ss : List PastStage) (i : ℕ) : Type 0 where
  pub all : HaveNoLinks (drop i ss) → HaveNoLinks ss
  pub left : HaveNoLinks ss → HaveNoLinks (drop i ss)

pub leave_next : (s : PastStage) (ss : List PastStage) (i j : ℕ) → j ≡ suc i → i < length ss → s ≡ get_or ss i s
    → s.links.items ≡ [] → LeaveLinks ss i → LeaveLinks ss j
leave_next s ss i j e lt read none so_far =
    let here = no_links_next s ss i lt read in
    subst (LeaveLinks ss) (sym e) (record {
      all = λ rest. so_far.all (subst HaveNoLinks (sym here) (none, rest));
      left = λ all. (subst HaveNoLinks here (so_far.left all)).1;
    })

pub leave_linked : (s : PastStage) (ss : List PastStage) (i : ℕ) → i < length ss → s ≡ get_or ss i s
    → (¬ (s.links.items ≡ [])) → LeaveLinks ss i → ¬ HaveNoLinks ss
leave_linked s ss i lt read linked so_far = λ all.
    linked (subst HaveNoLinks (no_links_next s ss i lt read) (so_far.left all)).0

pub leave_none : (ss : List PastStage) (i : ℕ) → length ss ≤ i → LeaveLinks ss i → HaveNoLinks ss
leave_none ss i le so_far = so_far.all (subst HaveNoLinks (sym (dropped ss i le)) tt)
  where
    dropped : (ss : List PastStage) (i : ℕ) → length ss ≤ i → drop i ss ≡ []
    dropped [] zero le = refl
    dropped [] (suc i) le = refl
    dropped (s ∷ ss) zero le = absurd (omega arith)
    dropped (s ∷ ss) (suc i) le = dropped ss i (omega arith)
