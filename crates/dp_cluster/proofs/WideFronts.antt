-- Wide fronts: classes without an action, counted one after the other.
use Rattle.std.proofs.Common.{◌≡◌, ℕ, zero, suc, ◌+◌, ◌<◌, ◌≤◌, Bool, true, false, List, [], ◌∷◌, length, get_or}
use Rattle.std.proofs.Common.{drop, add-one, Option, Some, None, refl, sym, ap, ◌∙◌, arith}
use Rattle.std.specs.Prelude.{is_none, is_some, not, ◌==◌}
use Rattle.std.proofs.lemmas.Bool.Decides.{nat_tests}
use Rattle.std.proofs.Math.Seq.{drop-cons}
use Rattle.std.proofs.lemmas.List.{drop_all}
use Rattle.dp_spec.specs.Front.{AgentFront, Front, class_counts}
use Rattle.dp_spec.specs.Steps.{root_agent}
use Rattle.dp_spec.specs.Model.{Model}
use Rattle.dp_spec.specs.Wide.{is_wide, none_count, unassigned_count, widens}
use Rattle.dp_cluster.specs.KeptFronts.{choice_at}

-- ---- the classes of an agent

one_more : (o : Option ℕ) (os : List (Option ℕ)) (k total : ℕ) → k + none_count (o ∷ os) ≡ total
    → is_none o ≡ true
    → k + 1 + none_count os ≡ total
one_more None os k total e some = omega arith
one_more (Some a) os k total e some = absurd (let no' : false ≡ true = some in cc)

no_more : (o : Option ℕ) (os : List (Option ℕ)) (k total : ℕ) → k + none_count (o ∷ os) ≡ total
    → is_none o ≡ false
    → k + none_count os ≡ total
no_more None os k total e none = absurd (let no' : true ≡ false = none in cc)
no_more (Some a) os k total e none = e

here : (os : List (Option ℕ)) (c : ℕ) (k total : ℕ) → c < length os → k + none_count (drop c os) ≡ total
    → k + none_count (get_or os c None ∷ drop (suc c) os) ≡ total
here os c k total lt e = ap (λ l. k + none_count l) (sym (drop-cons os c None lt)) ∙ e

pub counted_one : (os : List (Option ℕ)) (c k total : ℕ) → c < length os → is_none (get_or os c None) ≡ true
    → k + none_count (drop c os) ≡ total → k + 1 + none_count (drop (c + 1) os) ≡ total
counted_one os c k total lt some e =
    ap (λ z. k + 1 + none_count (drop z os)) (add-one c) ∙ one_more (get_or os c None) (drop (suc c) os) k total
    (here os c k total lt e) some

pub counted_none : (os : List (Option ℕ)) (c k total : ℕ) → c < length os → is_none (get_or os c None) ≡ false
    → k + none_count (drop c os) ≡ total → k + none_count (drop (c + 1) os) ≡ total
counted_none os c k total lt none e =
    ap (λ z. k + none_count (drop z os)) (add-one c) ∙ no_more (get_or os c None) (drop (suc c) os) k total
    (here os c k total lt e) none

pub counted_all : (os : List (Option ℕ)) (c k total : ℕ) → length os ≤ c → k + none_count (drop c os) ≡ total
    → k ≡ total
counted_all os c k total le e = let all = ap none_count (drop_all c os le) in
    let last = ap (λ z. k + z) (sym all)
    ∙ e in omega arith

-- ---- the agents

pub counted_agent : (ds : List AgentFront) (i k total here : ℕ) → i < length ds
    → here ≡ none_count (get_or ds i root_agent).chosen
    → k + unassigned_count (drop i ds) ≡ total → k + here + unassigned_count (drop (i + 1) ds) ≡ total
counted_agent ds i k total here lt is e =
    let split = ap unassigned_count (drop-cons ds i root_agent lt) in
    let next = ap (λ z. unassigned_count (drop z ds)) (add-one i) in omega arith

pub counted_agents : (ds : List AgentFront) (i k total : ℕ) → length ds ≤ i
    → k + unassigned_count (drop i ds) ≡ total → k ≡ total
counted_agents ds i k total le e = let all = ap unassigned_count (drop_all i ds le) in
    let last = ap (λ z. k + z) (sym all) ∙ e in omega arith

-- ---- whether a front is wide

-- with 2048 branches and merges above it a node is wide, where a step is left
pub wide_below : (m : Model) (h above : ℕ) (F : Front) → F.stage < h → is_wide m h above F ≡ false
    → above < 2048
unfolding is_wide
wide_below m h above F lt narrow = grind (arith, nat_tests)

pub wide_late : (m : Model) (h above : ℕ) (F : Front) → h ≤ F.stage → false ≡ is_wide m h above F
unfolding is_wide
wide_late m h above F le = grind (arith, nat_tests)

pub wide_deep : (m : Model) (h above : ℕ) (F : Front) → F.stage < h → 2048 ≤ above → true ≡ is_wide m h above F
unfolding is_wide
wide_deep m h above F lt le = grind (arith, nat_tests)

pub not_last : (m : Model) (h above : ℕ) (F : Front) → above < 2048 → (unassigned_count F.agents == 1) ≡ false
    → false ≡ is_wide m h above F
unfolding is_wide
not_last m h above F lt none = grind (arith, nat_tests)

pub last_widens : (m : Model) (h above : ℕ) (F : Front) (w : Bool) → F.stage < h → above < 2048
    → (unassigned_count F.agents == 1) ≡ true
    → w ≡ widens m h F → w ≡ is_wide m h above F
unfolding is_wide
last_widens m h above F w lt less last is = grind (arith, nat_tests)

-- ---- as the code reads a class

pub none_test : (o : Option ℕ) (t : Bool) → is_some o ≡ not t → t ≡ is_none o
none_test None true e = refl
none_test None false e = absurd (let bad : false ≡ true = e in cc)
none_test (Some a) true e = absurd (let bad : true ≡ false = e in cc)
none_test (Some a) false e = refl

pub chosen_read : (ds : List AgentFront) (i c : ℕ) → i < length ds
    → choice_at ds i c ≡ get_or (get_or ds i root_agent).chosen c None
chosen_read [] i c lt = absurd (omega arith)
chosen_read (d ∷ ds) zero c lt = refl
chosen_read (d ∷ ds) (suc i) c lt = chosen_read ds i c (omega arith)

pub classes_read : (ds : List AgentFront) (i : ℕ) → i < length ds
    → get_or (class_counts ds) i 0 ≡ length (get_or ds i root_agent).chosen
classes_read [] i lt = absurd (omega arith)
classes_read (d ∷ ds) zero lt = refl
classes_read (d ∷ ds) (suc i) lt = classes_read ds i (omega arith)

-- whether a class that was read has no action
pub read_none : (ds : List AgentFront) (i c : ℕ) (o : Option ℕ) (t : Bool) → i < length ds
    → o ≡ choice_at ds i c
    → is_some o ≡ not t
    → is_none (get_or (get_or ds i root_agent).chosen c None) ≡ t
read_none ds i c o t lt e test = sym (none_test o t test ∙ ap is_none (e ∙ chosen_read ds i c lt))
