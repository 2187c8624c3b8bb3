use Rattle.std.proofs.Common.{◌≡◌, ◌++◌, ◌∷◌, [], List, ◌∙◌, ap, append_assoc, sym, subst}
use Rattle.batch_repr.specs.declared.batch.Batch.{Batch}
use Rattle.batch_repr.specs.Batches.{end_of}
use Rattle.wal_ship.specs.declared.frame.Frame.TheVariants as frames
use Rattle.wal_ship.specs.Following.{Joins}
use Rattle.wal_ship.specs.Following.Joins.{comes_next}
use Rattle.wal_ship.specs.Taking.{IsTakenRun, Reads}
use Rattle.wal_ship.proofs.Runs.{taken_run_push}
use Rattle.wal_ship.proofs.follower.follow_frame.Goals as goal

pub returns-in_ok-push-in-New-clause-run : goal.returns-in_ok-push-in-New-clause-run
returns-in_ok-push-in-New-clause-run c =
    let local : List Batch = c.args.local.now.batches in
    let old : List Batch = c.args.taken.now.batches in
    let reads : Reads (local ++ old) c.args.at c.args.frame.now (frames.New c.in-New.batch) =
    subst (Reads (local ++ old) c.args.at c.args.frame.now) c.in-New.is c.in_ok-read_frame.ensures in
    subst (λ next. IsTakenRun local c.push.new.self.batches next) (sym c.in_ok-push-in-New.ensures.next)
    (subst (λ taken. IsTakenRun local taken (end_of c.in-New.batch)) (sym c.in_ok-push-in-New.ensures.batches)
    (taken_run_push local old c.args.taken.now.next reads.0.text c.in-New.batch c.requires.run reads.1 reads.2 reads.0.spells))

pub returns-in_ok-push-in-New-clause-leads : goal.returns-in_ok-push-in-New-clause-leads
returns-in_ok-push-in-New-clause-leads c =
    let local : List Batch = c.args.local.now.batches in
    let old : List Batch = c.args.taken.now.batches in
    let batch = c.in-New.batch in
    let reads : Reads (local ++ old) c.args.at c.args.frame.now (frames.New batch) =
    subst (Reads (local ++ old) c.args.at c.args.frame.now) c.in-New.is c.in_ok-read_frame.ensures in
    let behind : (local ++ old) ++ batch ∷ [] ≡ local ++ c.push.new.self.batches =
    append_assoc local old (batch ∷ []) ∙ ap (λ (x : List Batch). local ++ x) (sym c.in_ok-push-in-New.ensures.batches) in
    (batch, reads.0, subst (Joins (local ++ old) batch) behind (comes_next reads.1 reads.2))
