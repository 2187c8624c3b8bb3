-- What clauses say of a desk and of its two ends (docs/formats/program.md, "The run of a script").
use Rattle.std.specs.Prelude.{◌≡◌, Option, None}
use Rattle.crossbeam_queue.specs.Passes.{view, IsPassOf}
use Rattle.lent_work.specs.declared.rule.Side.{Side}
use Rattle.lent_work.specs.declared.rule.Side.TheVariants.{Whole, Lends, Works}
use Rattle.lent_work.specs.declared.desk.Desk.{Desk}
use Rattle.lent_work.specs.declared.ends.Lender.{Lender}
use Rattle.lent_work.specs.declared.ends.Worker.{Worker}
use Rattle.lent_work.specs.declared.ends.Back.{Back}
use Rattle.lent_work.specs.declared.ends.Back.TheVariants as backs

-- what an end that lends has lent
abbrev pub lent_by : {T : Type 0} → Side T → Option T
lent_by Whole = None
lent_by (Lends lent) = lent
lent_by (Works work) = None

-- what an end that works is doing
abbrev pub done_by : {T : Type 0} → Side T → Option T
done_by Whole = None
done_by (Lends lent) = None
done_by (Works work) = work

-- what is lent
abbrev pub lent : {T : Type 0} → Lender T → Option T
lent l = lent_by (view l.pass)

-- what is being done
abbrev pub work_of : {T : Type 0} → Worker T → Option T
work_of w = done_by (view w.pass)

module _ {T P : Type 0} where
  -- It is the end of this desk that lends.
  abbrev pub IsLenderOf : Desk T P → Lender T → Type 0
  IsLenderOf desk l = IsPassOf desk.parcels l.pass × (view l.pass ≡ Lends (lent l))

  -- It is the end of this desk that works.
  abbrev pub IsWorkerOf : Desk T P → Worker T → Type 0
  IsWorkerOf desk w = IsPassOf desk.parcels w.pass × (view w.pass ≡ Works (work_of w))

-- Work that was lent is back, as it was or done.
abbrev pub ComesBack : {T : Type 0} → (T → T → Type 0) → T → Back T → Type 0
ComesBack is_done t (backs.AsItWas t') = t' ≡ t
ComesBack is_done t (backs.Done t') = is_done t t'
