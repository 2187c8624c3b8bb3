use Rattle.std.proofs.Common.{◌≡◌, ◌<◌, arith, ap, ◌∙◌, false, None}
use Rattle.wal_ship.specs.Following.{Following}
use Rattle.wal_ship.specs.Course.{has_ended, fault_in}
use Rattle.wal_ship.proofs.Portions.{right_byte, wrong_byte}
use Rattle.wal_ship.proofs.follower.Follower.take_of_magic.Goals as goal
use Rattle.wal_ship.proofs.follower.Follower.take_of_magic.Goals.{then-byte-at, else-byte-at}

pub returns : goal.returns
returns c = λ piece.
    let live : has_ended c.self.inside.course ≡ false = ap (λ (f : Following). f.ended) c.self.view_is ∙ c.requires.live in
    let right : fault_in c.self.inside.course ≡ None = ap (λ (f : Following). f.fault) c.self.view_is ∙ c.requires.right in
    let early : c.self.inside.fed < 8 = omega (arith, ap (λ (f : Following). f.fed) c.self.view_is, c.requires.early) in
    elim c.if-byte-at.branch [
      | then-byte-at w ↦ rw (w.self-inside-is, ← c.self.view_is) (wrong_byte _ c.args.byte live right early w.if-byte-at.true piece)
      | else-byte-at w ↦ rw (w.self-inside-is, ← c.self.view_is) (right_byte _ c.args.byte live right early w.if-byte-at.false piece)
    ]
