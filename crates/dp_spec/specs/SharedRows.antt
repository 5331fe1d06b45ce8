-- The rows of a shared policy in the text of a certificate of version 2: a line with the counts of the stages, and
-- one line for each row. (Own.)
use Rattle.std.specs.Prelude.{ℕ, zero, suc, ◌-◌, ◌*◌, ◌^◌, nat_lt, if◌then◌else◌, Option, Some, None, pos, List, []}
use Rattle.std.specs.Prelude.{◌∷◌, ◌++◌, map, length, replicate, codes}
use Rattle.dp_spec.specs.SharedPolicy.{PolicyRow, AgentRows, SharedPolicy, first_count, next_count}
use Rattle.dp_spec.specs.TextLines.{Item, fixed, plain, Line}

-- how many rows each of h stages has: the first has one
abbrev pub counts_form : ℕ → List Item
counts_form zero = fixed (codes "rows") ∷ []
counts_form (suc h) = fixed (codes "rows") ∷ plain 1 1 ∷ replicate h (plain 1 (2 ^ 22))

-- a row of an agent with b actions: its action, and so many next rows below a count
abbrev pub shared_row_form : ℕ → ℕ → ℕ → List Item
shared_row_form b nexts count = plain 0 (b - 1) ∷ replicate nexts (plain 0 (count - 1))

-- for each stage how many rows it has
abbrev pub stage_counts : AgentRows → List ℕ
stage_counts stages = map (λ (rows : List PolicyRow). length rows) stages

-- the line of the counts
abbrev pub counts_line : AgentRows → Line
counts_line stages = record { form = counts_form (length stages); numbers = map pos (stage_counts stages) }

-- the line of a row
abbrev pub shared_row_line : ℕ → ℕ → ℕ → PolicyRow → Line
shared_row_line b nexts count row = record {
  form = shared_row_form b nexts count;
  numbers =
      pos row.action ∷ map pos row.next;
}

-- the lines of all rows, stage after stage, for an agent with b actions and n observations
abbrev pub stage_lines : ℕ → ℕ → AgentRows → List Line
stage_lines b n [] = []
stage_lines b n (rows ∷ stages) = map (shared_row_line b (next_count n stages) (first_count stages)) rows
    ++ stage_lines b n stages

-- for each agent the line of its counts and the lines of its rows
abbrev pub shared_policy_rows : List ℕ → List ℕ → SharedPolicy → List (List Line)
shared_policy_rows (b ∷ bs) (n ∷ ns) (stages ∷ p) = (counts_line stages ∷ stage_lines b n stages) ∷ shared_policy_rows
    bs ns p
shared_policy_rows bs ns p = []

-- ---- the limit on the joint rows of a stage, which is tried agent after agent

-- the products of two lists, place by place
abbrev pub products : List ℕ → List ℕ → List ℕ
products [] ks = []
products (c ∷ cs) [] = []
products (c ∷ cs) (k ∷ ks) = c * k ∷ products cs ks

-- at each of h stages so many states times the joint rows of agents with these counts of rows
abbrev pub row_cells : ℕ → ℕ → List (List ℕ) → List ℕ
row_cells states h [] = replicate h states
row_cells states h (counts ∷ others) = products (row_cells states h others) counts

-- the first number past a limit
abbrev pub first_past : ℕ → List ℕ → Option ℕ
first_past limit [] = None
first_past limit (x ∷ xs) = if nat_lt limit x then Some x else first_past limit xs
