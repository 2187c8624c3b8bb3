-- What the end of a pipeline tells of its players.
use Rattle.std.proofs.Common.{ℕ, Bool, true, List, length, refl, sym, subst}
use Rattle.batch_repr.specs.declared.batch.Batch.{Batch}
use Rattle.disk_face.specs.View.{DiskView}
use Rattle.failover_writer.specs.State.{State}
use Rattle.session_replies.specs.Rounds.{NameSessions}
use Rattle.session_replies.specs.declared.script.Round.{Round}
use Rattle.commit_pipeline.specs.Openings.{Opening}
use Rattle.commit_pipeline.specs.declared.standing.Standing.{Standing}
use Rattle.commit_pipeline.specs.Parts.{AreNew}
use Rattle.commit_pipeline.specs.Meeting.{StayOn}
use Rattle.commit_pipeline.specs.Ending.{Finishes}
use Rattle.session_replies.specs.Legal.{Replied}
use Rattle.session_rounds.specs.Players.{HavePlayed, ArePlayedLegally, EndsPlay}
use Rattle.session_rounds.proofs.AreLegal.{played_legally, visible_at_end}
use Rattle.session_rounds.proofs.IsSeen.{played_seen}
use Rattle.session_rounds.proofs.DeathLasts.{deaths_lasting}

module _ (tells : Bool) (opening : Opening) (batches : List Batch) (met now : List Standing) (state : State) (v : DiskView) (visible count : ℕ)
    (stay : StayOn met now) (ends : Finishes tells opening batches now state v visible count) where
  legally : (rounds : List Round) (replies : List (List Replied)) → HavePlayed opening rounds replies met
      → ArePlayedLegally opening rounds replies met batches state
  legally rounds replies had =
      let new : AreNew (length had.first) had.first = record { all = refl; each = had.new.each } in
      let named : NameSessions (length had.first) rounds = subst (λ (n : ℕ). NameSessions n rounds) (sym had.new.all) had.named in
      let seen = played_seen tells opening rounds replies had.first met now batches state v visible count new named had.plays stay ends in
      record {
        legal = λ died dies. (played_legally tells opening rounds replies had.first met batches state v visible count died new named had.plays
            seen.finishes dies).0;
        synced = (played_legally tells opening rounds replies had.first met batches state v visible count true new named had.plays
            seen.finishes (λ dead. refl)).1;
        lasting = deaths_lasting opening rounds replies had.first met named had.plays;
        seen = seen.seen;
      }

  pub ends_play : EndsPlay tells opening (record { met = met; now = now }) batches state v visible count
  ends_play = record {
    keeps = ends.keeps;
    legally = legally;
    within = ends.seen;
    visible_is = visible_at_end tells opening batches now state v visible count ends;
    count_is = ends.count_is;
  }
