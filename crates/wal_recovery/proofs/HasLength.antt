-- The bytes of a file that is there.
use Rattle.std.proofs.Common.{◌≡◌, ℕ, ap}
use Rattle.disk_face.specs.View.{Place, Files}
use Rattle.disk_face.specs.Listing.{HasLength}
use Rattle.wal_recovery.specs.Rows.{bytes_at, bytes_or_none}
use Rattle.disk_face.proofs.Laws.{read_created}

pub bytes_are : (files : Files) (place : Place) (len : ℕ) (h : HasLength files place len) → bytes_at files place ≡ h.0.reads
bytes_are files place len h = ap bytes_or_none (read_created place (files place) h.0 h.1 h.2)
