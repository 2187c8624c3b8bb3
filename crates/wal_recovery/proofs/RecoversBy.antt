-- What holds of the directories is answered, in either mode: they have one answer.
use Rattle.std.proofs.Common.{◌≡◌, ℕ, Bool, List, ◌++◌, Result, Ok, Err, IsTrue, sym, subst, ap, ◌∙◌}
use Rattle.std.specs.Prelude.{IfOk, IfErr}
use Rattle.batch_repr.specs.declared.batch.Batch.{Batch}
use Rattle.disk_face.specs.View.{Dirs}
use Rattle.wal_recovery.specs.declared.reports.Mode.{Mode}
use Rattle.wal_recovery.specs.declared.reports.Mode.TheVariants.{Strict, Lenient}
use Rattle.wal_recovery.specs.declared.reports.Recovered.{Recovered}
use Rattle.wal_recovery.specs.declared.fault.RecoverFault.{RecoverFault}
use Rattle.wal_recovery.specs.declared.fault.RecoverFault.TheVariants as faults
use Rattle.wal_recovery.specs.Base.{front_of}
use Rattle.wal_recovery.specs.Rows.{RefusesTwice}
use Rattle.wal_recovery.specs.Answers.{RecoversByFrom, IsRefusedByFrom, DiskMemoryOr, OkOrFailed, ErrOrFailed}
use Rattle.wal_recovery.proofs.OneAnswer.{recovers_once_from}
use Rattle.wal_recovery.proofs.OneRefusal.{recovered_or_refused_from, refused_once_from}
use Rattle.wal_recovery.proofs.OneLenient.{lenient_once_after, lenient_or_refused_after, lenient_refused_once_after}

pub recovers_by_once : (mode : Mode) (first : ℕ) (base : List Batch) (dirs : Dirs) (a b : List Batch) → RecoversByFrom mode first base dirs a
    → RecoversByFrom mode first base dirs b → a ≡ b
recovers_by_once Strict first base dirs a b h k =
    h.behind ∙ ap (λ (l : List Batch). base ++ l) (recovers_once_from first dirs h.merged k.merged h.recovers k.recovers) ∙ sym k.behind
recovers_by_once Lenient first base dirs a b h k = lenient_once_after (front_of base) dirs a b h k

pub not_both : (mode : Mode) (first : ℕ) (base : List Batch) (dirs : Dirs) (merged : List Batch) (fault : RecoverFault)
    → RecoversByFrom mode first base dirs merged → IsRefusedByFrom mode first base dirs fault → ⊥
not_both Strict first base dirs merged fault h r = recovered_or_refused_from first dirs h.merged fault h.recovers r
not_both Lenient first base dirs merged fault h r = lenient_or_refused_after (front_of base) dirs merged fault h r

one_reason : (mode : Mode) (first : ℕ) (base : List Batch) (dirs : Dirs) (f g : RecoverFault) → IsRefusedByFrom mode first base dirs f
    → IsRefusedByFrom mode first base dirs g → f ≡ g
one_reason Strict first base dirs f g a b = refused_once_from first dirs f g a b
one_reason Lenient first base dirs f g a b = lenient_refused_once_after (front_of base) dirs f g a b

-- a name that stands twice is refused in either mode
pub twice_refused : (mode : Mode) (first : ℕ) (base : List Batch) (dirs : Dirs) (fault : RecoverFault) → DiskMemoryOr (RefusesTwice dirs) fault
    → DiskMemoryOr (IsRefusedByFrom mode first base dirs) fault
twice_refused mode first base dirs (faults.Disk side) r = tt
twice_refused Strict first base dirs (faults.DuplicateSegment w i) r = r
twice_refused Lenient first base dirs (faults.DuplicateSegment w i) r = r
twice_refused mode first base dirs (faults.BadBatch w i p f) r = absurd r
twice_refused mode first base dirs (faults.Gap w i e x) r = absurd r
twice_refused mode first base dirs (faults.Corrupt w i p x) r = absurd r
twice_refused mode first base dirs (faults.Conflict w i x) r = absurd r
twice_refused mode first base dirs faults.NoMemory r = tt

module _ (mode : Mode) (first : ℕ) (base : List Batch) (dirs : Dirs) (tells : Bool) (told : IsTrue tells) where
  pub only_recovered : (result : Result Recovered RecoverFault) → IfOk result (λ (found : Recovered). IsTrue tells → RecoversByFrom mode first base dirs found.batches)
      → IfErr result (λ (fault : RecoverFault). IsTrue tells → DiskMemoryOr (IsRefusedByFrom mode first base dirs) fault) → (merged : List Batch)
      → RecoversByFrom mode first base dirs merged → OkOrFailed result merged
  only_recovered (Ok found) is why merged h = recovers_by_once mode first base dirs found.batches merged (is told) h
  only_recovered (Err (faults.Disk side)) is why merged h = tt
  only_recovered (Err (faults.DuplicateSegment w i)) is why merged h = not_both mode first base dirs merged (faults.DuplicateSegment w i) h (why told)
  only_recovered (Err (faults.BadBatch w i p f)) is why merged h = not_both mode first base dirs merged (faults.BadBatch w i p f) h (why told)
  only_recovered (Err (faults.Gap w i e x)) is why merged h = not_both mode first base dirs merged (faults.Gap w i e x) h (why told)
  only_recovered (Err (faults.Conflict w i x)) is why merged h = not_both mode first base dirs merged (faults.Conflict w i x) h (why told)
  only_recovered (Err (faults.Corrupt w i p x)) is why merged h = not_both mode first base dirs merged (faults.Corrupt w i p x) h (why told)
  only_recovered (Err faults.NoMemory) is why merged h = tt

  pub only_refused : (result : Result Recovered RecoverFault) → IfOk result (λ (found : Recovered). IsTrue tells → RecoversByFrom mode first base dirs found.batches)
      → IfErr result (λ (fault : RecoverFault). IsTrue tells → DiskMemoryOr (IsRefusedByFrom mode first base dirs) fault) → (fault : RecoverFault)
      → IsRefusedByFrom mode first base dirs fault → ErrOrFailed result fault
  only_refused (Ok found) is why fault r = not_both mode first base dirs found.batches fault (is told) r
  only_refused (Err (faults.Disk side)) is why fault r = tt
  only_refused (Err (faults.DuplicateSegment w i)) is why fault r = one_reason mode first base dirs (faults.DuplicateSegment w i) fault (why told) r
  only_refused (Err (faults.BadBatch w i p f)) is why fault r = one_reason mode first base dirs (faults.BadBatch w i p f) fault (why told) r
  only_refused (Err (faults.Gap w i e x)) is why fault r = one_reason mode first base dirs (faults.Gap w i e x) fault (why told) r
  only_refused (Err (faults.Conflict w i x)) is why fault r = one_reason mode first base dirs (faults.Conflict w i x) fault (why told) r
  only_refused (Err (faults.Corrupt w i p x)) is why fault r = one_reason mode first base dirs (faults.Corrupt w i p x) fault (why told) r
  only_refused (Err faults.NoMemory) is why fault r = tt

-- ---- an arm of the mode

module _ (mode arm : Mode) (first : ℕ) (base : List Batch) (is : mode ≡ arm) (dirs : Dirs) (tells : Bool) (result : Result Recovered RecoverFault) where
  pub recovered_by : IfOk result (λ (found : Recovered). IsTrue tells → RecoversByFrom arm first base dirs found.batches)
      → IfOk result (λ (found : Recovered). IsTrue tells → RecoversByFrom mode first base dirs found.batches)
  recovered_by h = subst (λ (m : Mode). IfOk result (λ (found : Recovered). IsTrue tells → RecoversByFrom m first base dirs found.batches)) (sym is) h

  pub refused_by : IfErr result (λ (fault : RecoverFault). IsTrue tells → DiskMemoryOr (IsRefusedByFrom arm first base dirs) fault)
      → IfErr result (λ (fault : RecoverFault). IsTrue tells → DiskMemoryOr (IsRefusedByFrom mode first base dirs) fault)
  refused_by h = subst (λ (m : Mode). IfErr result (λ (fault : RecoverFault). IsTrue tells → DiskMemoryOr (IsRefusedByFrom m first base dirs) fault)) (sym is) h
