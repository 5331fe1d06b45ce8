use Rattle.std.proofs.Common.{◌≡◌, ◌∙◌, ap, false, true, subst, sym, rules}
use Rattle.std.proofs.lemmas.Result.{IfOk-weaker}
use Rattle.dp_spec.specs.Front.{Front}
use Rattle.dp_cluster.specs.KeptFronts.{KeptFront}
use Rattle.dp_search.specs.FrontPlanners.{IsPlannerFront}
use Rattle.dp_search.specs.MadeFronts.{IsMadeFront, IsStart}
use Rattle.dp_search.specs.Paths.{IsPath, path_front}
use Rattle.dp_search.proofs.Expansions.{of_some}
use Rattle.dp_search.proofs.MadeSteps.{free_in_kept, free_in_own, merged_is, merged_planner, own_choice}
use Rattle.dp_search.proofs.MadeSteps.{own_planner}
use Rattle.dp_search.proofs.making.+making.Goals as goal

-- ---- start_anew

pub start_anew-returns-in_ok-front-in-Root-clause-is : goal.start_anew-returns-in_ok-front-in-Root-clause-is
start_anew-returns-in_ok-front-in-Root-clause-is t c =
    let m = c.args.model.now.model in
    let h = c.args.bounder.now.horizon in
    let look = c.args.bounder.now.look in
    record {
      of_planner = c.in_ok-front-in-Root.ensures.of_planner m h look c.args.merging c.requires.room.made;
      front = c.in_ok-front-in-Root.ensures.front m h look c.args.merging c.requires.room.made
          ∙ sym (ap (path_front m) c.in-Root.is);
      game = tt;
      settled = λ on. absurd (let no : false ≡ true = on in cc);
    }

pub start_anew-returns-in_ok-new-in-Merged-clause-is : goal.start_anew-returns-in_ok-new-in-Merged-clause-is
start_anew-returns-in_ok-new-in-Merged-clause-is t c =
    let m = c.args.model.now.model in
    let h = c.args.bounder.now.horizon in
    let look = c.args.bounder.now.look in
    let merging = c.args.merging in
    let F = path_front m c.in-Merged.before.value in
    let pair = c.in-Merged.pair in
    let steps = subst (IsPath m h merging) c.in-Merged.is c.requires.path in
    let start = c.in_ok-start-in-Merged.start in
    let is = c.in_ok-start-in-Merged.ensures.is in
    let joined = c.in_ok-next-in-Merged.ensures in
    let next = c.in_ok-next-in-Merged.next in
    let made : c.in_ok-new-in-Merged.field-0.value ≡ next = c.in_ok-new-in-Merged.ensures.ok in
    let planner = merged_planner m h look merging F start is pair steps.1 c.as_ref.result.now c.as_ref.ensures
    next joined.front joined.horizon (joined.of_model m) in
    let front = merged_is m h look merging F start is pair steps.1 c.as_ref.result.now c.as_ref.ensures
    next joined.front joined.horizon (joined.of_model m) in
    record {
      of_planner = subst (IsPlannerFront m h) (sym made) planner;
      front = ap (λ (f : KeptFront). f.front) made ∙ front ∙ sym (ap (path_front m) c.in-Merged.is);
      game = tt;
      settled = λ on. absurd (let no : false ≡ true = on in cc);
    }

-- ---- start_after

pub start_after-returns-in_err-found-clause-room : goal.start_after-returns-in_err-found-clause-room
start_after-returns-in_err-found-clause-room t c = record {
  look_room = c.requires.room.look_room;
  made = c.find.ensures.kept _ _ _ _ c.requires.room.made;
}

pub start_after-returns-in-Some-clause-room : goal.start_after-returns-in-Some-clause-room
start_after-returns-in-Some-clause-room t c = record {
  look_room = c.requires.room.look_room;
  made = c.find.ensures.kept _ _ _ _ c.requires.room.made;
}

pub start_after-after_made-requires-clause-of_planner : goal.start_after-after_made-requires-clause-of_planner
start_after-after_made-requires-clause-of_planner t c =
    let m = c.args.model.now.model in
    let h = c.args.bounder.now.horizon in
    let look = c.args.bounder.now.look in
    let merging = c.args.merging in
    let F = path_front m c.args.path.now.value in
    let made = c.in-Some.found in
    let found : IsMadeFront m h look merging F made =
    subst (λ (G : Front). IsMadeFront m h look merging G made) (ap (path_front m) c.as_ref.ensures)
    (of_some _ c.in_ok-found.field-0 made c.in-Some.is c.in_ok-found.ensures.found m h look merging
    c.requires.room.made) in
    own_planner m h look merging F made.front.value found.of_planner found.front c.args.choice c.requires.choice

pub start_after-after_made-requires-clause-choice : goal.start_after-after_made-requires-clause-choice
start_after-after_made-requires-clause-choice t c =
    let m = c.args.model.now.model in
    let h = c.args.bounder.now.horizon in
    let look = c.args.bounder.now.look in
    let merging = c.args.merging in
    let F = path_front m c.args.path.now.value in
    let made = c.in-Some.found in
    let found : IsMadeFront m h look merging F made =
    subst (λ (G : Front). IsMadeFront m h look merging G made) (ap (path_front m) c.as_ref.ensures)
    (of_some _ c.in_ok-found.field-0 made c.in-Some.is c.in_ok-found.ensures.found m h look merging
    c.requires.room.made) in
    own_choice m h look merging F made.front.value found.of_planner found.front c.args.choice c.requires.choice

pub start_after-after_made-requires-clause-free : goal.start_after-after_made-requires-clause-free
start_after-after_made-requires-clause-free t c =
    let m = c.args.model.now.model in
    let h = c.args.bounder.now.horizon in
    let look = c.args.bounder.now.look in
    let merging = c.args.merging in
    let F = path_front m c.args.path.now.value in
    let made = c.in-Some.found in
    let found : IsMadeFront m h look merging F made =
    subst (λ (G : Front). IsMadeFront m h look merging G made) (ap (path_front m) c.as_ref.ensures)
    (of_some _ c.in_ok-found.field-0 made c.in-Some.is c.in_ok-found.ensures.found m h look merging
    c.requires.room.made) in
    free_in_kept m h look merging F c.args.choice c.requires.choice made.game found.game

pub start_after-returns-in-Some-clause-is : goal.start_after-returns-in-Some-clause-is
start_after-returns-in-Some-clause-is t c =
    let m = c.args.model.now.model in
    let h = c.args.bounder.now.horizon in
    let look = c.args.bounder.now.look in
    let merging = c.args.merging in
    let F = path_front m c.args.path.now.value in
    let made = c.in-Some.found in
    let found : IsMadeFront m h look merging F made =
    subst (λ (G : Front). IsMadeFront m h look merging G made) (ap (path_front m) c.as_ref.ensures)
    (of_some _ c.in_ok-found.field-0 made c.in-Some.is c.in_ok-found.ensures.found m h look merging
    c.requires.room.made) in
    IfOk-weaker c.after_made.result _ _ (λ s next. next h look merging F found c.requires.choice) c.after_made.ensures

pub start_after-start_anew-requires : goal.start_after-start_anew-requires
start_after-start_anew-requires t c =
    let m = c.args.model.now.model in
    let h = c.args.bounder.now.horizon in
    let look = c.args.bounder.now.look in
    let merging = c.args.merging in
    let made = c.find.ensures.kept m h look merging c.requires.room.made in
    search (rules, made, c.as_ref-2.ensures)

pub start_after-after_start-requires-clause-free : goal.start_after-after_start-requires-clause-free
start_after-after_start-requires-clause-free t c =
    let m = c.args.model.now.model in
    let h = c.args.bounder.now.horizon in
    let look = c.args.bounder.now.look in
    let merging = c.args.merging in
    let F = path_front m c.args.path.now.value in
    let start = subst (λ (G : Front). IsStart m h look merging G c.in_ok-start.start)
    (ap (path_front m) c.as_ref-2.ensures) c.in_ok-start.ensures.is in
    free_in_own m h look merging F c.args.choice c.requires.choice c.in_ok-start.start.game start.game

pub start_after-returns-then-start-clause-is : goal.start_after-returns-then-start-clause-is
start_after-returns-then-start-clause-is t c =
    let m = c.args.model.now.model in
    let h = c.args.bounder.now.horizon in
    let look = c.args.bounder.now.look in
    let merging = c.args.merging in
    let F = path_front m c.args.path.now.value in
    let start = subst (λ (G : Front). IsStart m h look merging G c.in_ok-start.start)
    (ap (path_front m) c.as_ref-2.ensures) c.in_ok-start.ensures.is in
    IfOk-weaker c.after_start.result _ _ (λ s next. next h look merging F start c.requires.choice)
    c.after_start.ensures

pub start_after-after_made-requires-2-clause-free : goal.start_after-after_made-requires-2-clause-free
start_after-after_made-requires-2-clause-free t c =
    let m = c.args.model.now.model in
    let h = c.args.bounder.now.horizon in
    let look = c.args.bounder.now.look in
    let merging = c.args.merging in
    let F = path_front m c.args.path.now.value in
    free_in_kept m h look merging F c.args.choice c.requires.choice c.in_ok-made.made.game
    c.in_ok-made.ensures.is.game

pub start_after-returns-clause-is : goal.start_after-returns-clause-is
start_after-returns-clause-is t c =
    let m = c.args.model.now.model in
    let h = c.args.bounder.now.horizon in
    let look = c.args.bounder.now.look in
    let merging = c.args.merging in
    let F = path_front m c.args.path.now.value in
    IfOk-weaker c.after_made-2.result _ _
    (λ s next. next h look merging F c.in_ok-made.ensures.is c.requires.choice) c.after_made-2.ensures

-- ---- start_at

pub start_at-returns-in_err-find-clause-room : goal.start_at-returns-in_err-find-clause-room
start_at-returns-in_err-find-clause-room t c = record {
  look_room = c.requires.room.look_room;
  made = c.find.ensures.kept _ _ _ _ c.requires.room.made;
}

pub start_at-returns-in-Some-clause-room : goal.start_at-returns-in-Some-clause-room
start_at-returns-in-Some-clause-room t c = record {
  look_room = c.requires.room.look_room;
  made = c.find.ensures.kept _ _ _ _ c.requires.room.made;
}

pub start_at-start_anew-requires : goal.start_at-start_anew-requires
start_at-start_anew-requires t c =
    let m = c.args.model.now.model in
    let h = c.args.bounder.now.horizon in
    let look = c.args.bounder.now.look in
    let merging = c.args.merging in
    let made = c.find.ensures.kept m h look merging c.requires.room.made in
    search (rules, made, c.as_ref-in-None.ensures)

pub start_at-returns-in-Some-clause-is : goal.start_at-returns-in-Some-clause-is
start_at-returns-in-Some-clause-is t c =
    let m = c.args.model.now.model in
    let h = c.args.bounder.now.horizon in
    let look = c.args.bounder.now.look in
    let merging = c.args.merging in
    let F = path_front m c.args.path.now.value in
    let made = c.in-Some.found in
    let found = subst (λ (G : Front). IsMadeFront m h look merging G made) (ap (path_front m) c.as_ref.ensures)
    (of_some _ c.in_ok-find.field-0 made c.in-Some.is c.in_ok-find.ensures.found m h look merging
    c.requires.room.made) in
    record { of_planner = found.of_planner; front = found.front; game = tt; settled = found.settled }
