-- The classes behind a front after an advance.
use Rattle.std.proofs.Common.{◌≡◌, inl, inr, ℕ, zero, suc, ◌*◌, ◌<◌, ◌≤◌, List, [], ◌∷◌, ◌++◌, length, get_or, refl}
use Rattle.std.proofs.Common.{sym, ap, ◌∙◌, subst, arith}
use Rattle.std.proofs.lemmas.Bool.{cases_lt}
use Rattle.std.proofs.lemmas.List.{length-append}
use Rattle.dp_spec.specs.Front.{AgentFront, class_counts}
use Rattle.dp_spec.specs.JointNumbers.{product}
use Rattle.dp_spec.specs.Steps.{root_agent}
use Rattle.dp_cluster.specs.PastClasses.{PastClasses, classes_of, no_classes, past_after, past_counts}

-- ---- lists with one more item

pub last_read : {X : Type 0} (xs : List X) (i : ℕ) (m d : X) → i ≡ length xs → get_or (xs ++ m ∷ []) i d ≡ m
last_read [] i m d e = ap (λ (k : ℕ). get_or (m ∷ []) k d) e
last_read (x ∷ xs) zero m d e = absurd (omega arith)
last_read (x ∷ xs) (suc i) m d e = last_read xs i m d (omega arith)

pub earlier_read : {X : Type 0} (xs ys : List X) (i : ℕ) (d : X) → i < length xs
    → get_or (xs ++ ys) i d ≡ get_or xs i d
earlier_read [] ys i d lt = absurd (omega arith)
earlier_read (x ∷ xs) ys zero d lt = refl
earlier_read (x ∷ xs) ys (suc i) d lt = earlier_read xs ys i d (omega arith)

-- ---- agent by agent

pub after_length : (ds : List AgentFront) (past : List (List PastClasses)) → length past ≡ length ds
    → length (past_after ds past) ≡ length ds
after_length [] past e = refl
after_length (d ∷ ds) [] e = absurd (omega arith)
after_length (d ∷ ds) (cs ∷ past) e = ap suc (after_length ds past (omega arith))

pub after_read : (ds : List AgentFront) (past : List (List PastClasses)) (i : ℕ) (d : List PastClasses)
    → i < length ds → length past ≡ length ds
    → get_or (past_after ds past) i d ≡ get_or past i [] ++ classes_of (get_or ds i root_agent) ∷ []
after_read [] past i d lt e = absurd (omega arith)
after_read (x ∷ ds) [] i d lt e = absurd (omega arith)
after_read (x ∷ ds) (cs ∷ past) zero d lt e = refl
after_read (x ∷ ds) (cs ∷ past) (suc i) d lt e = after_read ds past i d (omega arith) (omega arith)

-- one stage more is behind
pub after_stages : (f : ℕ) (ds : List AgentFront) (past : List (List PastClasses)) → length past ≡ length ds
    → ((i : ℕ) → i < length past → length (get_or past i []) ≡ f) → (i : ℕ) → i < length (past_after ds past)
    → length (get_or (past_after ds past) i []) ≡ suc f
after_stages f ds past e before i lt =
    let many = after_length ds past e in
    let own = before i (omega arith) in
    let read = ap length (after_read ds past i [] (omega arith) e) in
    let more = length-append (get_or past i []) (classes_of (get_or ds i root_agent) ∷ []) in
    omega arith

-- the classes of an earlier stage are as before
pub counts_before : (f t : ℕ) (ds : List AgentFront) (past : List (List PastClasses)) → length past ≡ length ds
    → ((i : ℕ) → i < length past → length (get_or past i []) ≡ f) → t < f
    → past_counts (past_after ds past) t ≡ past_counts past t
counts_before f t [] [] e before lt = refl
counts_before f t [] (cs ∷ past) e before lt = absurd (omega arith)
counts_before f t (d ∷ ds) [] e before lt = absurd (omega arith)
counts_before f t (d ∷ ds) (cs ∷ past) e before lt =
    let own : length cs ≡ f = before 0 (omega arith) in
    let first = ap (λ (z : PastClasses). z.count) (earlier_read cs (classes_of d ∷ []) t no_classes (omega arith)) in
    let rest = counts_before f t ds past (omega arith) (λ i p. before (suc i) (omega arith)) lt in
    λ j. first j ∷ rest j

-- those of the stage that is left are the classes that it had
pub counts_left : (f : ℕ) (ds : List AgentFront) (past : List (List PastClasses)) → length past ≡ length ds
    → ((i : ℕ) → i < length past → length (get_or past i []) ≡ f)
    → past_counts (past_after ds past) f ≡ class_counts ds
counts_left f [] past e before = refl
counts_left f (d ∷ ds) [] e before = absurd (omega arith)
counts_left f (d ∷ ds) (cs ∷ past) e before =
    let own : f ≡ length cs = sym (before 0 (omega arith)) in
    let first = ap (λ (z : PastClasses). z.count) (last_read cs f (classes_of d) no_classes own) in
    let rest = counts_left f ds past (omega arith) (λ i p. before (suc i) (omega arith)) in
    λ j. first j ∷ rest j

-- so each stage behind the front has room, where the stage that is left had
pub after_room : (f S limit : ℕ) (ds : List AgentFront) (past : List (List PastClasses)) → length past ≡ length ds
    → ((i : ℕ) → i < length past → length (get_or past i []) ≡ f)
    → ((t : ℕ) → t < f → product (past_counts past t) * S ≤ limit) → product (class_counts ds) * S ≤ limit
    → (t : ℕ) → t < suc f → product (past_counts (past_after ds past) t) * S ≤ limit
after_room f S limit ds past e before room now t lt =
    elim (cases_lt t f) [
      | inl early ↦ subst (λ (z : List ℕ). product z * S ≤ limit) (sym (counts_before f t ds past e before early))
          (room t early)
      | inr late ↦
          let same : t ≡ f = omega arith in
          subst (λ (z : List ℕ). product z * S ≤ limit)
          (sym (ap (past_counts (past_after ds past)) same ∙ counts_left f ds past e before)) now
    ]
