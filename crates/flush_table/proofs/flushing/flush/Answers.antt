-- What was read, and the flush of it.
use Rattle.std.proofs.Common.{◌++◌, List, sym, subst, ◌∙◌, refl, arith}
use Rattle.disk_face.specs.declared.Listed.{Listed}
use Rattle.disk_face.specs.View.{files}
use Rattle.disk_face.proofs.Laws.{moments_joined}
use Rattle.flush_table.specs.Flushing.{ImagesAnswerAs}
use Rattle.flush_table.specs.Settling.{IsGreatestOf}
use Rattle.flush_table.proofs.Flushes.{each_answers, flush_calls, flushed_is, last_number, listed_synced, no_last, none_stands, only_asked}
use Rattle.flush_table.proofs.SameAnswers.{synced_answers}
use Rattle.flush_table.specs.Promises.{sides_of}
use Rattle.flush_table.proofs.flushing.flush.Goals as goal

pub returns-in_err-found-clause-calls : goal.returns-in_err-found-clause-calls
returns-in_err-found-clause-calls g c = only_asked (g.D.Disk.view c.args.disk.now) (g.D.Disk.view c.recover_store.new.disk) c.recover_store.ensures.asks

pub returns-in_err-found-clause-each_moment : goal.returns-in_err-found-clause-each_moment
returns-in_err-found-clause-each_moment g c = λ told rested batches next were.
    (λ k low high. synced_answers batches next (files (g.D.Disk.view c.args.disk.now)) ((g.D.Disk.view c.recover_store.new.disk).history k)
    (c.recover_store.ensures.each_moment told k low high) (c.recover_store.ensures.files told k low high) were)

-- ---- no segment is listed

pub returns-in_default-clause-nothing : goal.returns-in_default-clause-nothing
returns-in_default-clause-nothing g c = λ e.
    let none = no_last c.as_slice.result.now c.as_slice-2.result.now c.last_wal.result c.last_wal.ensures c.in_default.not-Some in
    c.in_ok-found.ensures.quiet (sym c.as_slice.ensures ∙ none.0) (sym c.as_slice-2.ensures ∙ none.1)

pub returns-in_default-clause-flushed : goal.returns-in_default-clause-flushed
returns-in_default-clause-flushed g c = λ told.
    let none = no_last c.as_slice.result.now c.as_slice-2.result.now c.last_wal.result c.last_wal.ensures c.in_default.not-Some in
    none_stands c.in_ok-found.found g.D.Disk.tells (g.D.Disk.view c.args.disk.now) c.in_ok-found.ensures.listings told
    (sym c.as_slice.ensures ∙ none.0) (sym c.as_slice-2.ensures ∙ none.1)

pub returns-in_default-clause-each_moment : goal.returns-in_default-clause-each_moment
returns-in_default-clause-each_moment g c = λ told rested batches next were.
    (λ k low high. synced_answers batches next (files (g.D.Disk.view c.args.disk.now)) ((g.D.Disk.view c.recover_store.new.disk).history k)
    (c.recover_store.ensures.each_moment told k low high) (c.recover_store.ensures.files told k low high) were)

-- ---- the store is flushed

pub flush_read-requires-clause-number : goal.flush_read-requires-clause-number
flush_read-requires-clause-number g c =
    (last_number (sides_of c.in_ok-found.found) c.in_ok-found.ensures.names.sides c.in-Some.wal
    (subst (λ (l : List Listed). IsGreatestOf (l ++ c.in_ok-found.found.secondary) c.in-Some.wal) c.as_slice.ensures
    (subst (λ (l : List Listed). IsGreatestOf (c.as_slice.result.now ++ l) c.in-Some.wal) c.as_slice-2.ensures c.in-Some.ensures)))

pub flush_read-requires-clause-greatest : goal.flush_read-requires-clause-greatest
flush_read-requires-clause-greatest g c =
    (subst (λ (l : List Listed). IsGreatestOf (l ++ c.in_ok-found.found.secondary) c.in-Some.wal) c.as_slice.ensures
    (subst (λ (l : List Listed). IsGreatestOf (c.as_slice.result.now ++ l) c.in-Some.wal) c.as_slice-2.ensures c.in-Some.ensures)).greatest

pub flush_read-requires-clause-fits : goal.flush_read-requires-clause-fits
flush_read-requires-clause-fits g c = record {
  numbered = c.in_ok-found.ensures.numbered refl;
  most = c.in_ok-found.ensures.within;
  within = c.in_ok-found.ensures.limits refl;
}

pub flush_read-requires-clause-there : goal.flush_read-requires-clause-there
flush_read-requires-clause-there g c = λ told.
    listed_synced g.D.Disk.tells (g.D.Disk.view c.args.disk.now) (g.D.Disk.view c.recover_store.new.disk) c.in_ok-found.found c.in_ok-found.ensures.listings told
    (c.recover_store.ensures.files told (g.D.Disk.view c.recover_store.new.disk).clock c.recover_store.ensures.goes_on.clock (omega arith))

pub returns-in_err-flushed-clause-calls : goal.returns-in_err-flushed-clause-calls
returns-in_err-flushed-clause-calls g c =
    flush_calls (g.D.Disk.view c.args.disk.now) (g.D.Disk.view c.recover_store.new.disk) c.recover_store.ensures.asks c.in_ok-found.found c.in-Some.wal
    (g.D.Disk.view c.flush_read.new.disk) c.flush_read.ensures.calls

pub returns-in_err-flushed-clause-each_moment : goal.returns-in_err-flushed-clause-each_moment
returns-in_err-flushed-clause-each_moment g c = λ told rested batches next were.
    moments_joined (g.D.Disk.view c.args.disk.now).clock (g.D.Disk.view c.recover_store.new.disk) (g.D.Disk.view c.flush_read.new.disk) (ImagesAnswerAs batches next)
    (λ k low high. synced_answers batches next (files (g.D.Disk.view c.args.disk.now)) ((g.D.Disk.view c.recover_store.new.disk).history k)
    (c.recover_store.ensures.each_moment told k low high) (c.recover_store.ensures.files told k low high) were) c.flush_read.ensures.goes_on
    (λ k low high. each_answers g.D.Disk.tells told (g.D.Disk.view c.args.disk.now) (g.D.Disk.view c.recover_store.new.disk) c.in_ok-found.found c.in_ok-found.ensures.recovered
    c.in_ok-found.ensures.next c.in_ok-found.ensures.listings
    (c.recover_store.ensures.files told (g.D.Disk.view c.recover_store.new.disk).clock c.recover_store.ensures.goes_on.clock (omega arith)) c.in-Some.wal
    (last_number (sides_of c.in_ok-found.found) c.in_ok-found.ensures.names.sides c.in-Some.wal
    (subst (λ (l : List Listed). IsGreatestOf (l ++ c.in_ok-found.found.secondary) c.in-Some.wal) c.as_slice.ensures
    (subst (λ (l : List Listed). IsGreatestOf (c.as_slice.result.now ++ l) c.in-Some.wal) c.as_slice-2.ensures c.in-Some.ensures)))
    (subst (λ (l : List Listed). IsGreatestOf (l ++ c.in_ok-found.found.secondary) c.in-Some.wal) c.as_slice.ensures
    (subst (λ (l : List Listed). IsGreatestOf (c.as_slice.result.now ++ l) c.in-Some.wal) c.as_slice-2.ensures c.in-Some.ensures)) rested (c.in_ok-found.ensures.stable told refl rested)
    (c.in_ok-found.ensures.answers told refl rested) batches next were ((g.D.Disk.view c.flush_read.new.disk).history k) (c.flush_read.ensures.each_moment told k low high))

pub returns-clause-flushed : goal.returns-clause-flushed
returns-clause-flushed g c = λ told.
    flushed_is g.D.Disk.tells told (g.D.Disk.view c.args.disk.now) (g.D.Disk.view c.recover_store.new.disk) c.in_ok-found.found c.in_ok-found.ensures.recovered
    c.in_ok-found.ensures.next c.in_ok-found.ensures.listings
    (c.recover_store.ensures.files told (g.D.Disk.view c.recover_store.new.disk).clock c.recover_store.ensures.goes_on.clock (omega arith)) c.in-Some.wal
    (last_number (sides_of c.in_ok-found.found) c.in_ok-found.ensures.names.sides c.in-Some.wal
    (subst (λ (l : List Listed). IsGreatestOf (l ++ c.in_ok-found.found.secondary) c.in-Some.wal) c.as_slice.ensures
    (subst (λ (l : List Listed). IsGreatestOf (c.as_slice.result.now ++ l) c.in-Some.wal) c.as_slice-2.ensures c.in-Some.ensures)))
    (subst (λ (l : List Listed). IsGreatestOf (l ++ c.in_ok-found.found.secondary) c.in-Some.wal) c.as_slice.ensures
    (subst (λ (l : List Listed). IsGreatestOf (c.as_slice.result.now ++ l) c.in-Some.wal) c.as_slice-2.ensures c.in-Some.ensures)) c.in_ok-found.ensures.names
    (g.D.Disk.view c.flush_read.new.disk) c.in_ok-flushed.flushed c.in_ok-flushed.ensures.flushed

pub returns-clause-calls : goal.returns-clause-calls
returns-clause-calls g c =
    flush_calls (g.D.Disk.view c.args.disk.now) (g.D.Disk.view c.recover_store.new.disk) c.recover_store.ensures.asks c.in_ok-found.found c.in-Some.wal
    (g.D.Disk.view c.flush_read.new.disk) c.flush_read.ensures.calls

pub returns-clause-each_moment : goal.returns-clause-each_moment
returns-clause-each_moment g c = λ told rested batches next were.
    moments_joined (g.D.Disk.view c.args.disk.now).clock (g.D.Disk.view c.recover_store.new.disk) (g.D.Disk.view c.flush_read.new.disk) (ImagesAnswerAs batches next)
    (λ k low high. synced_answers batches next (files (g.D.Disk.view c.args.disk.now)) ((g.D.Disk.view c.recover_store.new.disk).history k)
    (c.recover_store.ensures.each_moment told k low high) (c.recover_store.ensures.files told k low high) were) c.flush_read.ensures.goes_on
    (λ k low high. each_answers g.D.Disk.tells told (g.D.Disk.view c.args.disk.now) (g.D.Disk.view c.recover_store.new.disk) c.in_ok-found.found c.in_ok-found.ensures.recovered
    c.in_ok-found.ensures.next c.in_ok-found.ensures.listings
    (c.recover_store.ensures.files told (g.D.Disk.view c.recover_store.new.disk).clock c.recover_store.ensures.goes_on.clock (omega arith)) c.in-Some.wal
    (last_number (sides_of c.in_ok-found.found) c.in_ok-found.ensures.names.sides c.in-Some.wal
    (subst (λ (l : List Listed). IsGreatestOf (l ++ c.in_ok-found.found.secondary) c.in-Some.wal) c.as_slice.ensures
    (subst (λ (l : List Listed). IsGreatestOf (c.as_slice.result.now ++ l) c.in-Some.wal) c.as_slice-2.ensures c.in-Some.ensures)))
    (subst (λ (l : List Listed). IsGreatestOf (l ++ c.in_ok-found.found.secondary) c.in-Some.wal) c.as_slice.ensures
    (subst (λ (l : List Listed). IsGreatestOf (c.as_slice.result.now ++ l) c.in-Some.wal) c.as_slice-2.ensures c.in-Some.ensures)) rested (c.in_ok-found.ensures.stable told refl rested)
    (c.in_ok-found.ensures.answers told refl rested) batches next were ((g.D.Disk.view c.flush_read.new.disk).history k) (c.flush_read.ensures.each_moment told k low high))
