-- What is to fail on a disk in memory, and how far its counts are (docs/formats/disk.md, "The disk").
use Rattle.std.specs.Prelude.{◌≡◌, ℕ, ◌+◌, ◌-◌, ◌^◌, ◌<◌, min, List, [], ◌∷◌, ◌++◌, Contains}
use Rattle.disk_face.specs.declared.OpId.{OpId}
use Rattle.disk_face.specs.declared.Progress.{Progress}
use Rattle.disk_face.specs.declared.Progress.TheVariants.{Pending, Done, Failed}
use Rattle.disk_face.specs.View.{DiskView}

-- the failures that were asked for, by numbers that are counted from 0
pub record Plan : Type 0 where
  -- the operations that are to fail
  pub failing_ops : List ℕ
  -- how many operations were started
  pub starts : ℕ
  -- the calls of `list` and `read` that are to fail
  pub failing_calls : List ℕ
  -- how many such calls there were. The count stops at its last value
  pub calls : ℕ
  -- the calls on tables, and the removals, that are to fail
  pub failing_table_calls : List ℕ
  -- how many such calls there were. The count stops at its last value
  pub table_calls : ℕ

-- no failure was asked for, and nothing is counted
abbrev pub nothing_planned : Plan
nothing_planned = record { failing_ops = []; starts = 0; failing_calls = []; calls = 0; failing_table_calls = []; table_calls = 0 }

-- one operation more is to fail
abbrev pub failing_op : ℕ → Plan → Plan
failing_op number plan = record plan { failing_ops = plan.failing_ops ++ number ∷ [] }

-- one call more is to fail
abbrev pub failing_call : ℕ → Plan → Plan
failing_call number plan = record plan { failing_calls = plan.failing_calls ++ number ∷ [] }

-- the next call of `list` or `read` is to fail
abbrev pub FailsNext : Plan → Type 0
FailsNext plan = Contains plan.failing_calls plan.calls

-- one call of `list` or `read` more
abbrev pub after_call : Plan → Plan
after_call plan = record plan { calls = min (plan.calls + 1) (2 ^ 64 - 1) }

-- one call on tables, or removal, more is to fail. Its number is counted from 0 over those that are made from now on
abbrev pub failing_table_call : ℕ → Plan → Plan
failing_table_call number plan = record plan { failing_table_calls = plan.failing_table_calls ++ min (plan.table_calls + number) (2 ^ 64 - 1) ∷ [] }

-- the next call on tables, or removal, is to fail
abbrev pub FailsTableCall : Plan → Type 0
FailsTableCall plan = Contains plan.failing_table_calls plan.table_calls

-- one call on tables, or removal, more
abbrev pub after_table_call : Plan → Plan
after_table_call plan = record plan { table_calls = min (plan.table_calls + 1) (2 ^ 64 - 1) }

-- one operation more was started
abbrev pub after_op : Plan → Plan
after_op plan = record plan { starts = plan.starts + 1 }

-- The answer to a poll of that operation, where so many polls are left on its side: it is pending while there are any,
-- and then has failed where it is to fail.
abbrev pub AnswersAsPlanned : Plan → ℕ → ℕ → Progress → Type 0
AnswersAsPlanned plan number polls Pending = 0 < polls
AnswersAsPlanned plan number polls Done = (polls ≡ 0) × (Contains plan.failing_ops number → ⊥)
AnswersAsPlanned plan number polls Failed = (polls ≡ 0) × Contains plan.failing_ops number

-- an operation is answered so, by the polls that are left on its side
abbrev pub AnswersByPlan : Plan → OpId → DiskView → Progress → Type 0
AnswersByPlan plan id v answer = AnswersAsPlanned plan id.number (v.polls_left id.side) answer

-- a poll that is pending takes one poll of its side
abbrev pub TakesOnePoll : OpId → Progress → DiskView → DiskView → Type 0
TakesOnePoll id answer old new = answer ≡ Pending → new.polls_left id.side + 1 ≡ old.polls_left id.side
