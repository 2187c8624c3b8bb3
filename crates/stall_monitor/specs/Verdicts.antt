-- When a log begins its next segment, and when it gives up (docs/formats/journal.md, "The verdict on a segment").
use Rattle.std.specs.Prelude.{◌≡◌, ◌⊎◌, ◌<◌, ◌≤◌, true}
use Rattle.stall_monitor.specs.declared.verdict.MonitorView.{MonitorView}
use Rattle.stall_monitor.specs.declared.verdict.TheConstants.{SEGMENTS_MAX}

-- The segment is broken, and no other may be begun.
abbrev pub IsToDie : MonitorView → Type 0
IsToDie view = (view.broken ≡ true) × (view.opened ≡ SEGMENTS_MAX)

-- The segment is broken, or pending for as long as the threshold says.
abbrev pub IsStuck : MonitorView → Type 0
IsStuck view = (view.broken ≡ true) ⊎ (view.threshold ≤ view.waiting)

-- A segment may still be begun, a record is not synced, and the current segment is stuck.
abbrev pub IsToSwitch : MonitorView → Type 0
IsToSwitch view = (view.opened < SEGMENTS_MAX) × (view.behind ≡ true) × IsStuck view
