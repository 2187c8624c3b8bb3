-- What a writer that fits a disk makes of its segment, and of which records it is a writer.
use Rattle.std.proofs.Common.{◌≡◌, inl, inr, ℕ, ◌≤◌, Bool, true, false, List, ◌++◌, length, Option, Some, None, IsTrue, ap, sym, subst, ◌∙◌, refl, arith}
use Rattle.std.proofs.lemmas.List.{length-append}
use Rattle.disk_face.specs.declared.Side.{Side}
use Rattle.disk_face.specs.declared.SegName.{SegName}
use Rattle.disk_face.specs.View.{segment, File, DiskView, files, IsFree}
use Rattle.disk_face.specs.Calls.{fresh}
use Rattle.batch_repr.specs.declared.batch.Batch.{Batch}
use Rattle.log_writer.specs.declared.phase.Operation.TheVariants.{Create, Write, Sync}
use Rattle.log_writer.specs.declared.phase.Phase.{Phase}
use Rattle.log_writer.specs.declared.phase.Phase.TheVariants.{New, InFlight, Idle, Broken}
use Rattle.log_writer.specs.Writer.{Writer}
use Rattle.log_writer.specs.Parts.{segment_bytes}
use Rattle.log_writer.specs.Fits.{place_of_writer, file_with, HasNumbers, IsOrdered, HoldsRecords, HoldsBroken, IsUnsent, HasFile, Fits}
use Rattle.log_writer.specs.Kept.{SegmentKept, IsKeptFile}
use Rattle.log_writer.proofs.Parts.{no_bytes, bytes_shorter, bytes_grown}
use Rattle.log_writer.proofs.IsKeptAs.{file_kept}
use Rattle.disk_face.specs.Image.{log_number}
use Rattle.log_writer.specs.Promises.{unstarted}

module _ (offsets : ℕ → ℕ) (records : List Batch) (w : Writer) (ordered : IsOrdered offsets records w) (synced : ℕ) (begins : w.from ≤ synced) (few : synced ≤ w.synced) where
  fresh_kept : (f : Option File) → w.sent ≡ w.from → f ≡ Some fresh → IsKeptFile w.log w.from synced records f
  fresh_kept f none is =
      let first : synced ≡ w.from = omega (arith, begins, few, ordered.synced, ordered.written, none) in
      let no_byte : length (segment_bytes w.log (λ n. 0) w.from w.from records) ≡ 0 = ap length (no_bytes w.log (λ n. 0) w.from records) in
      subst (IsKeptFile w.log w.from synced records) (sym is) (record {
        offsets = λ n. 0;
        covers = w.from;
        upto = w.from;
        begins = begins;
        has_synced = omega (arith, first);
        has_covered = omega arith;
        within = omega (arith, none, ordered.sent);
        sent = sym (no_bytes w.log (λ n. 0) w.from records);
        stable = λ e. omega arith;
        covered = λ e. omega (arith, no_byte);
        below = λ n. omega arith;
        fit = λ n. omega arith;
        stays = λ e. refl;
        not_created = λ e. refl;
      })

  unsent_kept : (f : Option File) → w.sent ≡ w.from → IsUnsent f → IsKeptFile w.log w.from synced records f
  unsent_kept None none unsent = omega (arith, begins, few, ordered.synced, ordered.written, none)
  unsent_kept (Some g) none unsent =
      let first : synced ≡ w.from = omega (arith, begins, few, ordered.synced, ordered.written, none) in
      record {
        offsets = λ n. 0;
        covers = w.from;
        upto = w.from;
        begins = begins;
        has_synced = omega (arith, first);
        has_covered = omega arith;
        within = omega (arith, none, ordered.sent);
        sent = unsent.1 g refl ∙ sym (no_bytes w.log (λ n. 0) w.from records);
        stable = λ e. let clash : true ≡ false = sym e ∙ unsent.0 in cc;
        covered = λ e. let clash : true ≡ false = sym e ∙ unsent.0 in cc;
        below = λ n. omega arith;
        fit = λ n. omega arith;
        stays = λ e. sym (let clash : true ≡ false = sym e ∙ unsent.0 in cc);
        not_created = λ e. refl;
      }

  held_kept : (f : Option File) → HoldsBroken offsets records w f → IsKeptFile w.log w.from synced records f
  held_kept f holds = subst (IsKeptFile w.log w.from synced records) (sym holds.1) (record {
    offsets = offsets;
    covers = w.synced;
    upto = w.sent;
    begins = begins;
    has_synced = few;
    has_covered = omega (arith, ordered.synced, ordered.written);
    within = ordered.sent;
    sent = refl;
    stable = λ e. omega (
      arith,
      ordered.covered,
      bytes_shorter w.log offsets w.from w.synced w.sent records ordered.from
          (omega (arith, ordered.synced, ordered.written)) (omega (arith, ordered.synced, ordered.written, ordered.sent)),
    );
    covered = λ e. omega (arith, ordered.covered);
    below = λ n. omega (arith, ordered.below n, ordered.covered);
    fit = ordered.fit;
    stays = λ e. refl;
    not_created = λ e. cc;
  })

  pub phase_kept : (phase : Phase) (f : Option File) → HasNumbers phase w → HasFile phase offsets records w f → IsKeptFile w.log w.from synced records f
  phase_kept New f numbers unsent = unsent_kept f numbers unsent
  phase_kept (InFlight Create id) f numbers is = fresh_kept f numbers is
  phase_kept (InFlight Write id) f numbers holds = held_kept f (_, holds)
  phase_kept (InFlight Sync id) f numbers holds = held_kept f (_, holds)
  phase_kept Idle f numbers holds = held_kept f (_, holds)
  phase_kept Broken f numbers (inl is) = fresh_kept f is.0 is.1
  phase_kept Broken f numbers (inr holds) = held_kept f holds

-- A writer that fits has its file, with any number of the records that it has synced.
pub fits_file : (tells : Bool) (records : List Batch) (w : Writer) (v : DiskView) (synced : ℕ) → Fits tells records w v → IsTrue tells
    → w.from ≤ synced → synced ≤ w.synced
    → IsKeptFile w.log w.from synced records (files v (place_of_writer w))
fits_file tells records w v synced fits told begins few = phase_kept fits.offsets records w fits.ordered synced begins few w.phase
    (files v (place_of_writer w)) fits.numbers (fits.file told)

-- So its segment is kept.
pub fits_kept_from : (tells : Bool) (records : List Batch) (w : Writer) (v : DiskView) (synced : ℕ) → Fits tells records w v → IsTrue tells
    → w.from ≤ synced → synced ≤ w.synced
    → SegmentKept (place_of_writer w) w.log w.from synced records (files v)
fits_kept_from tells records w v synced fits told begins few =
    file_kept w.side w.name w.log w.from synced records (files v) fits.ordered.log (fits_file tells records w v synced fits told begins few)

pub fits_kept : (tells : Bool) (records : List Batch) (w : Writer) (v : DiskView) → Fits tells records w v → IsTrue tells
    → SegmentKept (place_of_writer w) w.log w.from w.synced records (files v)
fits_kept tells records w v fits told = fits_kept_from tells records w v w.synced fits told fits.ordered.from (omega arith)

-- A new writer fits where nothing was sent to its file.
pub new_fits : (side : Side) (name : SegName) (log from : ℕ) → log ≡ log_number name.wal
    → (tells : Bool) (records : List Batch) (v : DiskView) → from ≤ length records → IsFree v (segment side name)
    → (IsTrue tells → IsUnsent (files v (segment side name))) → Fits tells records (unstarted side name log from) v
new_fits side name log from log_is tells records v within free absent = record {
  offsets = λ n. 0;
  ordered = record {
    log = log_is;
    from = omega arith;
    synced = omega arith;
    written = omega arith;
    sent = within;
    size = sym (ap length (no_bytes log (λ n. 0) from records));
    place = refl;
    covered = sym (ap length (no_bytes log (λ n. 0) from records));
    below = λ n. omega arith;
    fit = λ n. omega arith;
  };
  numbers = refl;
  flight = free;
  file = absent;
}

-- Records that come after change nothing.
pub fits_grown : (tells : Bool) (records more : List Batch) (w : Writer) (v : DiskView) → Fits tells records w v → Fits tells (records ++ more) w v
fits_grown tells records more w v fits = record {
  offsets = offsets;
  ordered = record {
    log = ordered.log;
    from = ordered.from;
    synced = ordered.synced;
    written = ordered.written;
    sent = omega (arith, ordered.sent, length-append records more);
    size = ordered.size ∙ ap length (sym sent_same);
    place = ordered.place;
    covered = ordered.covered ∙ ap length (sym synced_same);
    below = ordered.below;
    fit = ordered.fit;
  };
  numbers = fits.numbers;
  flight = fits.flight;
  file = λ told. phase_grown w.phase (files v (place_of_writer w)) (fits.file told);
}
  where
    offsets : ℕ → ℕ
    offsets = fits.offsets

    ordered : IsOrdered offsets records w
    ordered = fits.ordered

    same : (to : ℕ) → w.from ≤ to → to ≤ length records → segment_bytes w.log offsets w.from to (records ++ more) ≡ segment_bytes w.log offsets w.from to records
    same to low high = bytes_grown w.log offsets w.from to records more low high

    sent_same : segment_bytes w.log offsets w.from w.sent (records ++ more) ≡ segment_bytes w.log offsets w.from w.sent records
    sent_same = same w.sent (omega (arith, ordered.from, ordered.synced, ordered.written)) ordered.sent

    written_same : segment_bytes w.log offsets w.from w.written (records ++ more) ≡ segment_bytes w.log offsets w.from w.written records
    written_same = same w.written (omega (arith, ordered.from, ordered.synced)) (omega (arith, ordered.written, ordered.sent))

    synced_same : segment_bytes w.log offsets w.from w.synced (records ++ more) ≡ segment_bytes w.log offsets w.from w.synced records
    synced_same = same w.synced ordered.from (omega (arith, ordered.synced, ordered.written, ordered.sent))

    broken_grown : (f : Option File) (reads : List ℕ) → f ≡ Some (file_with offsets records w reads) → f ≡ Some (file_with offsets (records ++ more) w reads)
    broken_grown f reads holds = rw (sent_same, written_same) holds

    holds_grown : (f : Option File) → HoldsRecords offsets records w f → HoldsRecords offsets (records ++ more) w f
    holds_grown f holds = rw (sent_same, written_same) holds

    phase_grown : (phase : Phase) (f : Option File) → HasFile phase offsets records w f → HasFile phase offsets (records ++ more) w f
    phase_grown New f is = is
    phase_grown (InFlight Create id) f is = is
    phase_grown (InFlight Write id) f holds = holds_grown f holds
    phase_grown (InFlight Sync id) f holds = holds_grown f holds
    phase_grown Idle f holds = holds_grown f holds
    phase_grown Broken f (inl is) = inl is
    phase_grown Broken f (inr holds) = inr (holds.0, broken_grown f holds.0 holds.1)
