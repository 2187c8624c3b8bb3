-- What the pipeline ends with is told of those that have met.
use Rattle.std.proofs.Common.{subst}
use Rattle.session_rounds.specs.Players.{ReadersView, EndsPlay}
use Rattle.session_rounds.proofs.EndsPlay.{ends_play}
use Rattle.session_rounds.proofs.readers.Readers.finish.Goals as goal

pub returns : goal.returns
returns g c =
    let ends = c.finish.ensures in
    let out = c.finish.result in (
      ends.0,
      subst (λ (r : ReadersView). EndsPlay g.D.Disk.tells g.N.PipeName.opening r ends.0 out.journal.state (g.D.Disk.view out.journal.disk) out.visible out.batches)
          c.self.view_is
          (ends_play g.D.Disk.tells g.N.PipeName.opening ends.0 c.self.inside.met.value.items c.self.inside.sessions.items out.journal.state
          (g.D.Disk.view out.journal.disk) out.visible out.batches c.self.invariant.0 ends.1),
    )
