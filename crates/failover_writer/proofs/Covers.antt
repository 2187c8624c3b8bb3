-- Each poll that fails is a fault of the disk.
use Rattle.std.proofs.Common.{◌≡◌, inl, inr, ℕ, ◌+◌, ◌≤◌, Bool, subst, arith}
use native.Mathlib.Decide.{dec_lt}
use Rattle.wal_base.specs.Faults.{Rose, COUNT_END}
use Rattle.disk_face.specs.declared.OpId.{OpId}
use Rattle.disk_face.specs.declared.Progress.{Progress}
use Rattle.disk_face.specs.declared.Progress.TheVariants.{Pending, Done, Failed}
use Rattle.disk_face.specs.declared.Side.{Side}
use Rattle.disk_face.specs.declared.Side.TheVariants.{Primary, Secondary}
use Rattle.disk_face.specs.View.{DiskView}
use Rattle.disk_face.specs.Calls.{GoesOn, Polled}
use Rattle.failover_writer.specs.Answered.{faults_of, failed_polls, RoseBy}

pub rose_by_none : (before after : DiskView) → GoesOn before after → RoseBy 0 before after
rose_by_none before after goes = inl (omega (arith, goes.faults Primary, goes.faults Secondary))

pub rose_by_more : (n m : ℕ) (before between after : DiskView) → RoseBy n before between → RoseBy m between after → GoesOn between after
    → RoseBy (n + m) before after
rose_by_more n m before between after (inl one) (inl two) goes = inl (omega (arith, one, two))
rose_by_more n m before between after (inr one) two goes = inr (one.0, omega (arith, one.1, goes.faults one.0))
rose_by_more n m before between after (inl one) (inr two) goes = inr two

pub rose_by_as : (n m : ℕ) (before after : DiskView) → n ≡ m → RoseBy n before after → RoseBy m before after
rose_by_as n m before after same rose = subst (λ (k : ℕ). RoseBy k before after) same rose

pub rose_by_less : (n m : ℕ) (before after : DiskView) → m ≤ n → RoseBy n before after → RoseBy m before after
rose_by_less n m before after less (inl rose) = inl (omega (arith, rose, less))
rose_by_less n m before after less (inr at_end) = inr at_end

rose_by_one : (side : Side) (before after : DiskView) → GoesOn before after → Rose (before.faults side) (after.faults side) → RoseBy 1 before after
rose_by_one side before after goes rose = elim (dec_lt (before.faults side) COUNT_END) [
  | no at_end ↦ inr (side, omega (arith, at_end, goes.faults side))
  | yes low ↦ inl (go side (omega (arith, rose, low)))
]
  where
    go : (side : Side) → before.faults side + 1 ≤ after.faults side → faults_of before + 1 ≤ faults_of after
    go Primary more = omega (arith, more, goes.faults Secondary)
    go Secondary more = omega (arith, more, goes.faults Primary)

pub rose_by_poll : (tells : Bool) (id : OpId) (answer : Progress) (before after : DiskView) → GoesOn before after → Polled tells id before after answer
    → RoseBy (failed_polls answer) before after
rose_by_poll tells id Pending before after goes polled = rose_by_none before after goes
rose_by_poll tells id Done before after goes polled = rose_by_none before after goes
rose_by_poll tells id Failed before after goes polled = rose_by_one id.side before after goes polled.rose
