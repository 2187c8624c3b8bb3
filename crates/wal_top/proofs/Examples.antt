-- Worked examples of the definitions, as the checker computes them.
use Rattle.std.proofs.Common.{◌≡◌, true, false, [], ◌∷◌, refl}
use Rattle.std.specs.Prelude.{codes}
use Rattle.std.specs.Fmt.{digits}
use Rattle.wal_base.specs.declared.entry.Entry.TheVariants.{Set}
use Rattle.disk_face.specs.declared.Side.TheVariants.{Primary}
use Rattle.wal_recovery.specs.declared.reports.SegReport.{SegReport}
use Rattle.script_runner.specs.declared.run.Outcome.{Outcome}
use Rattle.wal_top.specs.declared.status.Status.TheVariants.{Disk}
use Rattle.session_replies.specs.Replies.{end_line}
use Rattle.wal_top.specs.Replay.{bad_line_text, replay_text}
use Rattle.wal_top.specs.Load.{load_text}
use Rattle.wal_top.specs.Dump.{segments_text}
use Rattle.wal_top.specs.Work.{status_after}

-- a commit found no number left, and the journal died after it
abbrev limited_and_dead : Outcome
limited_and_dead = record {
  told = record { text = codes "s0 commit limit\n"; live = 0; limited = true };
  end = record { visible = 72057594037927935; batches = 1; acked = 0; segments = 10; died = true; halted = false };
}

-- a replay prints its replies, and a load only how it ended
a_replay_is_told : replay_text limited_and_dead
    ≡ codes "s0 commit limit\nend visible 72057594037927935 batches 1 acked 0 segments 10 dead\n"
unfolding end_line digits
a_replay_is_told = refl

a_load_is_told : load_text 7 1 limited_and_dead ≡ codes "load dead\n"
a_load_is_told = refl

-- the death is told, and not the limit
a_death_comes_first : status_after limited_and_dead ≡ Disk
a_death_comes_first = refl

abbrev torn_segment : SegReport
torn_segment = record {
  side = Primary;
  name = record { wal = 1; index = 0 };
  len = 56;
  ends_at = 28;
  torn = true;
  batches = record { first = 10; entries = Set (codes "a") (codes "1") ∷ [] } ∷ [];
}

its_lines : segments_text (torn_segment ∷ []) ≡ codes "segment 000001.log primary bytes 56 records 1 ends 28 torn\nbatch 10 1\nset a 1\n"
unfolding digits
its_lines = refl

a_bad_line : bad_line_text 12 ≡ codes "script line 12\n"
unfolding bad_line_text digits
a_bad_line = refl
