-- A pipeline may be shared by threads where its disk may go from one to another, and its gate be shared.
use denote.RattleType.{RattleType}
use denote.Ref.{NamedLft}
use denote.Struct.Struct.{Struct}
use denote.Struct.Declared.{shape}
use denote.Param.Send.{IsSend, IsSync, sendable, view_send, recorded_send, recorded_sync, struct_send, struct_sync}
use Rattle.std.proofs.Crossing.{crosses}
use Rattle.std.specs.declared.sync.ledger.Ledger as ledger
use Rattle.std.proofs.sync.ledger.Book.TheSendSync as book
use Rattle.std.proofs.sync.ledger.Share.TheSendSync as share
use Rattle.std.proofs.sync.atomic.AtomicBool.TheSendSync as flag
use Rattle.crossbeam_utils.proofs.cache_padded.CachePadded.TheSendSync as padded
use Rattle.disk_face.specs.declared.disk.Disk as disk
use Rattle.record_flow.proofs.Laws.{nodes_sent, send_pass_field_sent, flush_pass_field_sent, flow_field_shared}
use Rattle.commit_queue.proofs.pipe_table.PipeTable.TheSendSync as table
use Rattle.commit_queue.proofs.seats.ProducerSeat.TheSendSync as producer
use Rattle.commit_queue.proofs.seats.FlushSeat.TheSendSync as flush
use Rattle.failover_writer.specs.contracts.journal.Journal as journal
use Rattle.commit_pipeline.proofs.bells.Bells.TheSendSync as bells
use Rattle.commit_pipeline.specs.declared.name.PipeName as name
use Rattle.commit_pipeline.specs.contracts.commit_side.CommitSide as commits
use Rattle.commit_pipeline.specs.contracts.commit_side.CommitSide.TheInside as numbering
use Rattle.commit_pipeline.specs.contracts.flush_side.FlushSide as flushes
use Rattle.commit_pipeline.specs.contracts.flush_side.FlushSide.TheInside as writing
use Rattle.commit_pipeline.specs.contracts.log_side.LogSide as log
use Rattle.commit_pipeline.specs.contracts.pipeline.Pipeline as pipeline

-- A journal may go from thread to thread.
journal_sent : (D : RattleType) (d : disk.Ghosts D.Denot) → IsSend D → IsSend (journal.the_row D d)
journal_sent D d sent = search (sendable, crosses, nodes_sent) depth 60 fits 200000

-- What stands behind the commit lock may go from thread to thread.
commits_sent : (N : RattleType) (n : name.Ghosts N.Denot) (b : ledger.Ghosts N.Denot) → IsSend (commits.the_row N n b)
commits_sent N n b =
    let t = numbering.the_type N n b in
    let fields : IsSend (numbering.the_row N n b) = recorded_send (Struct (shape t)) _ _ t.to_one (struct_send (shape t) (
      search sendable,
      (
        search sendable,
        (
          search (sendable, producer.the_field_send),
          (send_pass_field_sent, (search (sendable, book.the_send), (search (sendable, share.the_send), tt))),
        ),
      ),
    )) in
    view_send _ _ _ _ _ fields

-- And so may what stands behind the flush lock.
flushes_sent : (D N M : RattleType) (d : disk.Ghosts D.Denot) (n : name.Ghosts N.Denot) (b : ledger.Ghosts N.Denot) (a : ledger.Ghosts M.Denot)
    → IsSend D → IsSend (flushes.the_row D N M d n b a)
flushes_sent D N M d n b a sent =
    let t = writing.the_type D N M d n b a in
    let fields : IsSend (writing.the_row D N M d n b a) = recorded_send (Struct (shape t)) _ _ t.to_one (struct_send (shape t) (
      journal_sent D d sent,
      (
        search (sendable, flush.the_field_send),
        (
          flush_pass_field_sent,
          (search (sendable, book.the_send), (search (sendable, share.the_send), (search (sendable, crosses), tt))),
        ),
      ),
    )) in
    view_send _ _ _ _ _ fields

-- The way to the log may be shared.
log_shared : (D N M : RattleType) (d : disk.Ghosts D.Denot) (n : name.Ghosts N.Denot) (b : ledger.Ghosts N.Denot) (a : ledger.Ghosts M.Denot)
    → IsSend D → IsSync (log.the_field D N M d n b a).row
log_shared D N M d n b a sent =
    let t = log.the_type D N M d n b a in
    let behind = flushes_sent D N M d n b a sent in
    struct_sync (shape t) (
      flow_field_shared,
      (
        search (sendable, crosses, padded.the_field_sync, behind),
        (
          search (sendable, flag.the_field_sync),
          (
            search (sendable, padded.the_field_sync, flag.the_sync),
            (search (sendable, bells.the_field_sync), tt),
          ),
        ),
      ),
    )

-- A pipeline may be shared.
pub pipeline_shared : (κ : NamedLft) (D G N M : RattleType) (d : disk.Ghosts D.Denot) (n : name.Ghosts N.Denot) (b : ledger.Ghosts N.Denot)
    (a : ledger.Ghosts M.Denot) → IsSend D → IsSync G → IsSync (pipeline.the_row κ D G N M d n b a)
pipeline_shared κ D G N M d n b a sent shared =
    let c = commits_sent N n b in
    let l = log_shared D N M d n b a sent in
    let t = pipeline.the_type κ D G N M d n b a in
    recorded_sync (Struct (shape t)) _ _ t.to_one (struct_sync (shape t) (
      search (sendable, crosses),
      (search (sendable, table.the_field_sync), (search (sendable, crosses, padded.the_field_sync, c), (l, (search (sendable, shared), tt)))),
    ))
