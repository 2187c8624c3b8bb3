-- What a start of an operation sends (docs/formats/journal.md, "The next operation of a segment").
use Rattle.crc_chunk.specs.declared.chunk.TheConstants.{BLOCK}
use Rattle.std.specs.Prelude.{◌≡◌, ℕ, ◌+◌, ◌-◌, ◌%◌, List, length}
use Rattle.batch_repr.specs.declared.batch.Batch.{Batch}
use Rattle.block_record.specs.Framing.{Standing, laid}
use Rattle.record_queue.specs.Queue.{Queue}
use Rattle.log_writer.specs.declared.phase.Operation.{Operation}
use Rattle.log_writer.specs.declared.phase.Operation.TheVariants.{Create, Write, Sync}
use Rattle.log_writer.specs.Parts.{part, marked_all}
use Rattle.log_writer.specs.Writer.{Writer}
use Rattle.log_writer.specs.Steps.{sent_with}

-- the records of a queue from one number to below another
abbrev pub queue_part : Queue → ℕ → ℕ → List Batch
queue_part queue from to = part (from - queue.start) (to - queue.start) queue.records

-- the records of a queue from one number to below another, framed after that place of a block, each with this sync offset
abbrev pub frames_from : Queue → ℕ → ℕ → ℕ → ℕ → ℕ → List ℕ
frames_from queue log offset place from to = laid log place (marked_all offset (queue_part queue from to))

-- the same, framed where a framer stands
abbrev pub frames_at : Queue → Standing → ℕ → ℕ → ℕ → List ℕ
frames_at queue standing offset from to = frames_from queue standing.log offset standing.place from to

-- The records of a queue from one number to below another have so many bytes as they are framed where a framer stands, whatever
-- their sync offset is.
abbrev pub HasFrames : Queue → Standing → ℕ → ℕ → ℕ → Type 0
HasFrames queue standing from to len = (offset : ℕ) → len ≡ length (frames_at queue standing offset from to)

-- where the next record begins in its block, once these bytes were sent by a write
abbrev pub place_with : Operation → List ℕ → ℕ → ℕ
place_with Create frames place = place
place_with Write frames place = (place + length frames) % BLOCK
place_with Sync frames place = place

-- how many bytes writes were started for, once these bytes were sent by a write
abbrev pub size_with : Operation → List ℕ → ℕ → ℕ
size_with Create frames size = size
size_with Write frames size = size + length frames
size_with Sync frames size = size

-- the bytes of a write of all records up to `len`: each has as sync offset what a completed sync covers as the write is started
abbrev pub frames_of : Queue → Writer → ℕ → List ℕ
frames_of queue w len = frames_from queue w.log w.synced_bytes w.place w.sent len

-- the writer once the operation is started, before it notes which
abbrev pub sending : Operation → Queue → ℕ → Writer → Writer
sending operation queue len w = record w { sent = sent_with operation len w.sent; size = size_with operation (frames_of queue w len) w.size; place = place_with operation (frames_of queue w len) w.place }
