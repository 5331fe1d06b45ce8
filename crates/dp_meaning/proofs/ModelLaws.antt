-- The model that a text means keeps what every model keeps.
use Rattle.std.proofs.Common.{◌≡◌, ℕ, zero, suc, ◌*◌, ◌^◌, ◌<◌, ◌≤◌, List, [], ◌∷◌, length, get_or, map, refl, sym}
use Rattle.std.proofs.Common.{subst, ◌∙◌, arith, pos}
use Rattle.std.specs.Prelude.{unsigned_abs, Ok}
use Rattle.std.proofs.lemmas.List.{length-map}
use Rattle.std.proofs.lemmas.Nat.{mul-le}
use Rattle.dp_base.proofs.SignificandLaws.{some_tens}
use Rattle.dp_lexer.specs.Tokens.{tokens_of}
use Rattle.dp_spec.specs.JointNumbers.{product}
use Rattle.dp_spec.specs.Model.{joint_actions, joint_observations, AreScales, AreSizes, AreTables, IsModel}
use Rattle.dp_model.specs.Names.{IsNameList, AreNames}
use Rattle.dp_model.specs.Tables.{NamesAllOrNone, AreNamesOf, IsNamedModel}
use Rattle.dp_model.proofs.NameLemmas.{empty-kept}
use Rattle.dp_meaning.specs.declared.given_list.GivenList.{GivenList}
use Rattle.dp_meaning.specs.declared.given_list.GivenList.TheVariants.{Counted, Named}
use Rattle.dp_meaning.specs.declared.statement.Table.TheVariants.{Reward}
use Rattle.dp_meaning.specs.declared.text.Text.{Text}
use Rattle.dp_meaning.specs.Items.{items_of_pieces}
use Rattle.dp_meaning.specs.NameLists.{size_of, names_in}
use Rattle.dp_meaning.specs.Header.{header_of, no_entries}
use Rattle.dp_meaning.specs.Statements.{axes_of, statements_of}
use Rattle.dp_meaning.specs.Cells.{statements_for}
use Rattle.dp_meaning.specs.Text.{states_in, joint_observations_in}
use Rattle.dp_meaning.specs.Scales.{digits_of_statements, scales_of}
use Rattle.dp_meaning.specs.Meaning.{table_model, names_given, pieces_of_tokens, unless_lines, text_of, rewards_of}
use Rattle.dp_meaning.specs.Meaning.{ReadModel, Means, meaning}
use Rattle.dp_meaning.proofs.FaultSteps.{ok_same, bind_ok}
use Rattle.dp_meaning.proofs.Meant.{meant}
use Rattle.dp_meaning.proofs.TextLimits.{IsSmall, small}
use Rattle.dp_meaning.proofs.BuiltModel.{IsBuilt, built_of, trans_table, obs_table, sum_of_start, length_of_rewards}
use Rattle.dp_meaning.proofs.RowLaws.{table_model_rows}
use Rattle.dp_meaning.proofs.Each.{Each, each_at, each_from, each_of_range}
use Rattle.dp_meaning.proofs.ReadValues.{IsList}
use Rattle.dp_meaning.proofs.ReadHeader.{AreLists, IsHeader, header_is}
use Rattle.dp_meaning.proofs.ReadStatements.{IsStatement, statements_are}
use Rattle.dp_meaning.proofs.ReadScales.{chance_parts, some_scale, some_start_scale, rewards_only, reward_digits}
use Rattle.dp_meaning.proofs.ReadScales.{cell_bound}

-- ---- the text

pub record IsText (text : Text) : Type 0 where
  pub header : IsHeader text.header
  pub statements : Each IsStatement text.statements

-- what is known of a text that some file says
pub text_is : (bytes : List ℕ) (text : Text) → text_of bytes ≡ Ok text → IsText text
unfolding text_of
text_is bytes text e =
    let pieces = bind_ok (pieces_of_tokens bytes (tokens_of bytes)) _ text e in
    let none = bind_ok (unless_lines (length bytes) (items_of_pieces (length bytes) pieces.0).before) _ text
    pieces.2 in
    let header = bind_ok (header_of (length bytes) no_entries (items_of_pieces (length bytes) pieces.0).items) _ text
    none.2 in
    let statements = bind_ok (statements_of header.0.0 header.0.1) _ text header.2 in
    subst IsText (ok_same _ text statements.2) (record {
      header = header_is (length bytes) (items_of_pieces (length bytes) pieces.0).items header.0 header.1;
      statements = statements_are header.0.0 header.0.1 statements.0 statements.1;
    })

-- ---- sizes

-- a product of numbers above 0 is above 0
pub product_above : {X : Type 0} (f : X → ℕ) (xs : List X) → Each (λ x. 1 ≤ f x) xs → 0 < product (map f xs)
product_above f [] each = omega arith
product_above f (x ∷ xs) each =
    let h = mul-le 1 1 (f x) (product (map f xs)) each.0 (product_above f xs each.1) in omega arith

pub some_product : (lists : List GivenList) → Each IsList lists → 0 < product (map size_of lists)
some_product lists each = product_above size_of lists (each_from IsList (λ l. 1 ≤ size_of l)
    (λ l is. is.some) lists each)

count_of : (agents : GivenList) (lists : List GivenList) → AreLists agents lists
    → length (map size_of lists) ≡ size_of agents
count_of agents lists are = length-map lists size_of ∙ are.count

table_model_sizes : (text : Text) (start trans obs : List ℕ) → IsText text → IsSmall text
    → AreSizes (table_model text start trans obs)
unfolding joint_actions joint_observations
table_model_sizes text start trans obs is fits =
    let actions = count_of text.header.agents text.header.actions is.header.actions in
    let observations = count_of text.header.agents text.header.observations is.header.observations in
    let agents = is.header.agents.some in
    let limit = fits.agents in
    record {
      alike = observations ∙ sym actions;
      some_agent = omega arith;
      some_action = some_product text.header.actions is.header.actions.each;
      agents_limit = omega arith;
      states_limit = fits.states;
      joint_actions_limit = fits.actions;
      joint_observations_limit = fits.observations;
      trans_cells_limit = fits.trans_cells;
      obs_cells_limit = fits.obs_cells;
      reward_cells_limit = fits.reward_cells;
    }

-- ---- scales

-- the scales of a text within the limits
pub scales_are : (text : Text) → IsText text → IsSmall text → AreScales (scales_of text)
unfolding scales_of
scales_are text is fits =
    let discount = chance_parts text.header.discount is.header.discount in
    record {
      start = some_start_scale text.header.start (states_in text) is.header.states.some;
      trans = some_scale _ _ (states_in text) is.header.states.some;
      obs = some_scale _ _ (joint_observations_in text)
          (some_product text.header.observations is.header.observations.each);
      reward = some_tens _;
      discount = some_tens _;
      start_limit = fits.start_scale;
      trans_limit = fits.trans_scale;
      obs_limit = fits.obs_scale;
      reward_digits = (
        _,
        reward_digits (statements_for Reward text.statements)
            (rewards_only text.statements is.statements),
        refl,
      );
      discount_digits = (text.header.discount.digits, discount.0, refl);
      gain = discount.1;
    }

-- ---- tables

rewards_bound : (text : Text) → IsText text → (i : ℕ)
    → unsigned_abs (get_or (rewards_of text) i (pos 0)) ≤ 10 ^ 8 * (scales_of text).reward
unfolding rewards_of scales_of
rewards_bound text is i =
    each_at (λ r. unsigned_abs r ≤ 10 ^ 8 * 10 ^ digits_of_statements (statements_for Reward text.statements))
    (rewards_of text) i (pos 0)
    (each_of_range _ _ 0 _ (λ k. cell_bound text.header.cost (axes_of text.header Reward)
    (statements_for Reward text.statements) _
    (rewards_only text.statements is.statements)))
    (omega arith)

table_model_tables : (end : ℕ) (text : Text) (r : ReadModel) (w : IsBuilt end text r) → IsText text → IsSmall text
    → AreTables (table_model text w.start.cells w.trans.cells w.obs.cells)
unfolding joint_actions joint_observations
table_model_tables end text r w is fits = record {
  start = (sum_of_start end text w.start (let h = fits.states in omega arith) w.start_is).0;
  trans = (trans_table end text w.trans w.trans_is).size;
  obs = (obs_table end text w.obs w.obs_is).size;
  reward = length_of_rewards text;
  reward_limit = rewards_bound text is;
}

-- ---- names

-- each list names all of its kind or none
all_or_none : (list : GivenList) → NamesAllOrNone (names_in list) (size_of list)
all_or_none (Counted n) h = absurd (let none : 0 < 0 = h in omega arith)
all_or_none (Named names) h = refl

all_or_none_at : (lists : List GivenList) (i : ℕ) → i < length lists
    → NamesAllOrNone (get_or (map names_in lists) i [])
    (get_or (map size_of lists) i 0)
all_or_none_at [] i h = absurd (omega arith)
all_or_none_at (l ∷ lists) zero h = all_or_none l
all_or_none_at (l ∷ lists) (suc i) h = all_or_none_at lists i (omega arith)

table_names : (text : Text) (start trans obs : List ℕ) → IsText text → AreNamesOf (table_model text start trans obs)
    (names_given text.header)
table_names text start trans obs is =
    let actions = count_of text.header.agents text.header.actions is.header.actions in
    let observations = count_of text.header.agents text.header.observations is.header.observations in
    let action_count = is.header.actions.count in
    let observation_count = is.header.observations.count in
    record {
      action_lists = length-map text.header.actions names_in ∙ sym (length-map text.header.actions size_of);
      observation_lists = length-map text.header.observations names_in ∙ observation_count ∙ sym actions;
      agents = λ h. all_or_none text.header.agents h ∙ sym actions;
      states = all_or_none text.header.states;
      actions = λ i h. all_or_none_at text.header.actions i (omega arith);
      observations = λ i h. all_or_none_at text.header.observations i (omega arith);
    }

-- a list in a product is no longer than the product
names_within : (lists : List GivenList) (most : ℕ) → Each IsList lists → product (map size_of lists) ≤ most
    → most ≤ 2 ^ 26
    → (i : ℕ) → IsNameList (get_or (map names_in lists) i [])
names_within [] most each h fits i = empty-kept
names_within (l ∷ lists) most each h fits zero =
    let some = some_product lists each.1 in
    let times = mul-le (size_of l) 1 (size_of l) (product (map size_of lists)) (omega arith) some in
    each.0.names (omega arith)
names_within (l ∷ lists) most each h fits (suc i) =
    let times = mul-le 1 (product (map size_of lists)) (size_of l) (product (map size_of lists)) each.0.some
    (omega arith) in
    names_within lists most each.1 (omega arith) fits i

given_names : (text : Text) → IsText text → IsSmall text → AreNames (names_given text.header)
given_names text is fits =
    let few = fits.agents in
    let states = fits.states in
    let action_count = is.header.actions.count in
    let observation_count = is.header.observations.count in
    record {
      agents = is.header.agents.names (omega arith);
      states = is.header.states.names (omega arith);
      actions = names_within text.header.actions 256 is.header.actions.each fits.actions (omega arith);
      observations = names_within text.header.observations 256 is.header.observations.each fits.observations
          (omega arith);
      alike = length-map text.header.observations names_in ∙ observation_count ∙ sym action_count
          ∙ sym (length-map text.header.actions names_in);
    }

-- ---- the model

pub model_is : (bytes : List ℕ) (r : ReadModel) → meaning bytes ≡ Means r → IsNamedModel r.model
model_is bytes r e =
    let w = meant bytes r e in
    let parts = built_of (length bytes) w.0 r w.1.model in
    let is = text_is bytes w.0 w.1.says in
    let fits = small w.0 w.1.within in
    let model = table_model w.0 parts.start.cells parts.trans.cells parts.obs.cells in
    let of_text : AreNamesOf model r.model.names = subst (AreNamesOf model) (sym parts.names)
    (table_names w.0 parts.start.cells parts.trans.cells parts.obs.cells is) in
    record {
      model = subst IsModel (sym parts.model) (record {
        sizes = table_model_sizes w.0 parts.start.cells parts.trans.cells parts.obs.cells is fits;
        scales = scales_are w.0 is fits;
        tables = table_model_tables (length bytes) w.0 r parts is fits;
        rows = table_model_rows (length bytes) w.0 r parts fits;
      });
      names = subst (λ m. AreNamesOf m r.model.names) (sym parts.model) of_text;
    }

pub names_are : (bytes : List ℕ) (r : ReadModel) → meaning bytes ≡ Means r → AreNames r.model.names
names_are bytes r e =
    let w = meant bytes r e in
    let parts = built_of (length bytes) w.0 r w.1.model in
    subst AreNames (sym parts.names) (given_names w.0 (text_is bytes w.0 w.1.says) (small w.0 w.1.within))
