-- Counts of faults that stay: over a run of calls, and where a poll does not fail.
use Rattle.std.proofs.Common.{◌≡◌, Result, subst, ◌∙◌, refl}
use Rattle.std.specs.Prelude.{OnOk}
use Rattle.disk_face.specs.declared.OpId.{OpId}
use Rattle.disk_face.specs.declared.Progress.{Progress}
use Rattle.disk_face.specs.declared.Progress.TheVariants.{Failed}
use Rattle.disk_face.specs.View.{DiskView}
use Rattle.disk_face.specs.Calls.{FaultsStayBut}
use Rattle.wal_recovery.specs.Answers.{NoFaultRose}

pub calm_from : (v : DiskView) → NoFaultRose v v
calm_from v = refl

pub calm_further : (old mid new : DiskView) → NoFaultRose old mid → NoFaultRose mid new → NoFaultRose old new
calm_further old mid new a b = b ∙ a

-- a run before an answer
pub calm_before : {A E : Type 0} (old mid new : DiskView) (r : Result A E) → NoFaultRose old mid → OnOk r (NoFaultRose mid new) → OnOk r (NoFaultRose old new)
calm_before old mid new r a b = subst (λ faults. OnOk r (new.faults ≡ faults)) a b

-- a poll that did not fail
pub polled_well : (id : OpId) (answer : Progress) (old new : DiskView) → (answer ≡ Failed → ⊥) → FaultsStayBut id answer old new → NoFaultRose old new
polled_well id answer old new well stay i s = stay s (λ failed. well failed.0) i
