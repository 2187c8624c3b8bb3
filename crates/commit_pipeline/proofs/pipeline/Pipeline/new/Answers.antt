-- Over a journal of no record both sides hold nothing, and the sessions have seen nothing.
use Rattle.commit_pipeline.proofs.Opening.{FitJournal, fits_journal, enrols_at_first, flushes_at_first}
use Rattle.commit_pipeline.proofs.pipeline.Pipeline.new.Given.{Over}
use Rattle.commit_pipeline.proofs.pipeline.Pipeline.new.Goals.{After-len-none}
use Rattle.commit_pipeline.proofs.pipeline.Pipeline.new.Goals as goal

-- what the parts open
fits : (g : Over) (c : After-len-none g)
    → FitJournal g.D.Disk.view c.args.journal g.N.PipeName.opening g.N.PipeName.table g.N.PipeName.queue c.parts.inside.base.value c.parts.inside.next
    c.parts.inside.batches.parts c.parts.inside.table c.parts.inside.producer c.parts.inside.flush c.parts.inside.seats c.parts.inside.flow
    c.parts.inside.sends c.parts.inside.pops
fits g c =
    let i = c.parts.inside in
    fits_journal g.D.Disk.view c.args.journal g.N.PipeName.opening g.N.PipeName.table g.N.PipeName.queue i.base.value i.next i.batches.parts
    i.batches.name i.answers.name i.table i.producer i.flush i.seats i.flow i.sends i.pops c.args.parts c.parts.invariant.0 c.parts.invariant.1
    c.parts.view_is c.requires.opening c.requires.table c.requires.queue c.requires.next

pub invariant_of-new : goal.invariant_of-new
invariant_of-new g c =
    let i = c.parts.inside in (
      enrols_at_first g.D.Disk.tells g.D.Disk.view c.args.journal g.N.PipeName.opening g.N.PipeName.table g.N.PipeName.queue i.base.value i.next
          i.batches.parts i.table i.producer i.flush i.seats i.flow i.sends i.pops (fits g (goal.at.invariant_of-new g c).After-len-none)
          c.open-batches.result.0.total c.open-batches.ensures.total,
      c.in-Ok.ensures.own,
    )

pub invariant_of-new-2 : goal.invariant_of-new-2
invariant_of-new-2 g c =
    let i = c.parts.inside in (
      flushes_at_first g.D.Disk.tells g.D.Disk.view c.args.journal g.N.PipeName.opening g.N.PipeName.table g.N.PipeName.queue i.base.value i.next
          i.batches.parts i.table i.producer i.flush i.seats i.flow i.sends i.pops (fits g (goal.at.invariant_of-new-2 g c).After-len-none)
          c.open-answers.result.0.total c.requires.empty c.len-none.ensures.stands c.len-none.ensures.sound c.open-answers.ensures.total,
      c.in-Ok.ensures.dead,
    )
