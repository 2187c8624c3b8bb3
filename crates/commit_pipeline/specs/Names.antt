-- A name that names nothing, which stands where no name is picked yet (docs/formats/ring.md, "What a pipeline holds").
use Rattle.std.specs.Prelude.{[], None, false}
use Rattle.atomic_table.specs.Seated.{TableId}
use Rattle.record_flow.specs.Passes.{FlowId}
use Rattle.disk_face.specs.View.{DiskView}
use Rattle.failover_writer.specs.State.{unbegun}
use Rattle.commit_pipeline.specs.Openings.{Opening}

-- the table of no words
abbrev pub unnamed_table : TableId
unnamed_table = record { words = 0; slots = 0; views_name = 0; atom = 0; block = 0; offset = 0; slot_names = [] }

-- a queue that no pipeline has
abbrev pub unnamed_queue : FlowId
unnamed_queue = (0, 0)

-- a disk of which nothing was asked
abbrev pub unnamed_view : DiskView
unnamed_view =
    record {
      faults = λ side. 0;
      polls_left = λ side. 0;
      in_flight = λ id. None;
      clock = 0;
      history = λ moment place. None;
      calls = [];
    }

-- no store, and a journal of no record
abbrev pub unnamed_opening : Opening
unnamed_opening =
    record {
      base = [];
      start = record {
        state = unbegun 1 0 1 record { start = 0; records = []; spare = 0 };
        disk = unnamed_view;
        may_stall = false;
      };
    }
