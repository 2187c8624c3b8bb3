-- What an answer to a poll leaves, for each operation. An operation in flight is the only one on its file.
use Rattle.std.proofs.Common.{◌≡◌, ◌≢◌, inl, inr, ℕ, ◌≤◌, Bool, List, length, Option, Some, None, IsTrue, ap, sym, subst, ◌∙◌, refl, arith}
use Rattle.disk_face.specs.declared.Side.{Side}
use Rattle.disk_face.specs.declared.OpId.{OpId}
use Rattle.disk_face.specs.declared.Progress.{Progress}
use Rattle.disk_face.specs.declared.Progress.TheVariants.{Pending, Done, Failed}
use Rattle.disk_face.specs.View.{Place, Act, creating, writing, syncing, Flight, File, Files, DiskView, files, IsFree, AtEachMoment}
use Rattle.disk_face.specs.Calls.{GoesOn, Ends, Polled, AfterDone, AfterFailed}
use Rattle.disk_face.proofs.Laws.{same_id}
use Rattle.batch_repr.specs.declared.batch.Batch.{Batch}
use Rattle.log_writer.specs.declared.phase.Operation.{Operation}
use Rattle.log_writer.specs.declared.phase.Operation.TheVariants.{Create, Write, Sync}
use Rattle.log_writer.specs.declared.phase.Phase.{Phase}
use Rattle.log_writer.specs.declared.phase.Phase.TheVariants.{InFlight, Idle, Broken}
use Rattle.log_writer.specs.Writer.{Writer}
use Rattle.log_writer.specs.Parts.{segment_bytes}
use Rattle.log_writer.specs.Fits.{place_of_writer, act_of, Flies, HasFlight, HasNumbers, IsOrdered, HoldsRecords, HasFile, Fits, SameFile}
use Rattle.log_writer.specs.Kept.{SegmentKept}
use Rattle.log_writer.specs.Steps.{TakesPoll, after_answer, synced_with}
use Rattle.log_writer.proofs.Parts.{no_bytes, bytes_front, bytes_shorter}
use Rattle.log_writer.proofs.Fits.{fits_kept, fits_kept_from}
use Rattle.log_writer.proofs.Beside.{OthersStay, same_disk, ended_elsewhere, two_moments, one_moment, fits_beside}

free_after : (old new : DiskView) (place : Place) (act : Act) (id : OpId) → Flies old place act id → Ends id old new → IsFree new place
free_after old new place act id flies ends q f is = elim (same_id q id) [
  | inl e ↦ let clash : Some f ≡ None = sym is ∙ ap new.in_flight e ∙ ends.gone in cc
  | inr ne ↦ flies.alone q ne f (sym (ends.others q ne) ∙ is)
]

module _ (offsets : ℕ → ℕ) (records : List Batch) (w : Writer) (ordered : IsOrdered offsets records w) where
  none_yet : w.sent ≡ w.from → (w.written ≡ w.from) × (w.synced ≡ w.from)
  none_yet e = (omega (arith, e, ordered.from, ordered.synced, ordered.written), omega (arith, e, ordered.from, ordered.synced, ordered.written))

  done_ordered : (operation : Operation) (id : OpId) → HasNumbers (InFlight operation id) w → IsOrdered offsets records (after_answer operation Done w)
  done_ordered Create id e = record {
    log = ordered.log;
    from = ordered.from;
    synced = ordered.synced;
    written = ordered.written;
    sent = ordered.sent;
    size = ordered.size;
    place = ordered.place;
    covered = ordered.covered;
    below = ordered.below;
    fit = ordered.fit;
  }
  done_ordered Write id e = record {
    log = ordered.log;
    from = ordered.from;
    synced = omega (arith, ordered.synced, ordered.written);
    written = omega arith;
    sent = ordered.sent;
    size = ordered.size;
    place = ordered.place;
    covered = ordered.covered;
    below = ordered.below;
    fit = ordered.fit;
  }
  done_ordered Sync id e =
      let shorter = bytes_shorter w.log offsets w.from w.synced w.sent records ordered.from
      (omega (arith, ordered.synced, ordered.written)) (omega (arith, ordered.synced, ordered.written, ordered.sent)) in
      record {
        log = ordered.log;
        from = omega (arith, ordered.from, ordered.synced);
        synced = omega arith;
        written = ordered.written;
        sent = ordered.sent;
        size = ordered.size;
        place = ordered.place;
        covered = ordered.size ∙ ap (λ (n : ℕ). length (segment_bytes w.log offsets w.from n records)) (sym e);
        below = λ n. omega (arith, ordered.below n, ordered.covered, ordered.size, shorter);
        fit = ordered.fit;
      }

  done_numbers : (operation : Operation) (id : OpId) → HasNumbers (InFlight operation id) w → HasNumbers Idle (after_answer operation Done w)
  done_numbers Create id e = (none_yet e).0 ∙ sym e
  done_numbers Write id e = refl
  done_numbers Sync id e = e

  done_file : (operation : Operation) (id : OpId) (f g : Option File) → HasNumbers (InFlight operation id) w
      → HasFile (InFlight operation id) offsets records w f → AfterDone (act_of operation) f g
      → HoldsRecords offsets records (after_answer operation Done w) g
  done_file Create id f g e is after =
      let now = subst (λ (h : Option File). AfterDone creating h g) is after in
      let nothing : w.synced_bytes ≡ 0 = ordered.covered ∙ ap (λ (n : ℕ). length (segment_bytes w.log offsets w.from n records)) (none_yet e).1
      ∙ ap length (no_bytes w.log offsets w.from records) in
      now ∙ rw (e, (none_yet e).0, nothing, no_bytes w.log offsets w.from records) refl
  done_file Write id f g e holds after =
      let now = subst (λ (h : Option File). AfterDone writing h g) holds after in
      let clean = bytes_front w.log offsets w.from w.written w.sent records (omega (arith, ordered.from, ordered.synced)) ordered.written
      (omega (arith, ordered.written, ordered.sent)) in
      now.2 ∙ rw (now.1 (sym clean)) refl
  done_file Sync id f g e holds after =
      let now = subst (λ (h : Option File). AfterDone syncing h g) holds after in
      let all : length (segment_bytes w.log offsets w.from w.written records) ≡ w.size =
      ap (λ (n : ℕ). length (segment_bytes w.log offsets w.from n records)) e ∙ sym ordered.size in
      now ∙ rw (← all) refl

  failed_file : (operation : Operation) (id : OpId) (f g : Option File) → HasNumbers (InFlight operation id) w
      → HasFile (InFlight operation id) offsets records w f → AfterFailed (act_of operation) f g
      → HasFile Broken offsets records (after_answer operation Failed w) g
  failed_file Create id f g e is after = inl (e, subst (λ (h : Option File). AfterFailed creating h g) is after)
  failed_file Write id f g e holds after =
      let now = subst (λ (h : Option File). AfterFailed writing h g) holds after in
      inr (now.0, now.1)
  failed_file Sync id f g e holds after =
      inr (_, subst (λ (h : Option File). AfterFailed syncing h g) holds after)

  waited_file : (operation : Operation) (id : OpId) (f : Option File) → HasFile (InFlight operation id) offsets records w f
      → HasFile (InFlight operation id) offsets records (after_answer operation Pending w) f
  waited_file Create id f is = is
  waited_file Write id f holds = holds
  waited_file Sync id f holds = holds

  waited_numbers : (operation : Operation) (id : OpId) → HasNumbers (InFlight operation id) w
      → HasNumbers (InFlight operation id) (after_answer operation Pending w)
  waited_numbers Create id e = e
  waited_numbers Write id e = tt
  waited_numbers Sync id e = e

  same_order : (operation : Operation) → IsOrdered offsets records (after_answer operation Pending w) × IsOrdered offsets records (after_answer operation Failed w)
  same_order operation = (
    record {
      log = ordered.log;
      from = ordered.from;
      synced = ordered.synced;
      written = ordered.written;
      sent = ordered.sent;
      size = ordered.size;
      place = ordered.place;
      covered = ordered.covered;
      below = ordered.below;
      fit = ordered.fit;
    },
    record {
      log = ordered.log;
      from = ordered.from;
      synced = ordered.synced;
      written = ordered.written;
      sent = ordered.sent;
      size = ordered.size;
      place = ordered.place;
      covered = ordered.covered;
      below = ordered.below;
      fit = ordered.fit;
    },
  )

module _ (tells : Bool) (w : Writer) (old new : DiskView) (operation : Operation) (id : OpId) (is : w.phase ≡ InFlight operation id) where
  abbrev flight : Flight
  flight = record { place = place_of_writer w; act = act_of operation }

  flies_now : (records : List Batch) → Fits tells records w old → Flies old (place_of_writer w) (act_of operation) id
  flies_now records fits = subst (λ (p : Phase). HasFlight p (place_of_writer w) old) is fits.flight

  numbers_now : (records : List Batch) → Fits tells records w old → HasNumbers (InFlight operation id) w
  numbers_now records fits = subst (λ (p : Phase). HasNumbers p w) is fits.numbers

  file_now : (records : List Batch) (fits : Fits tells records w old) → IsTrue tells → HasFile (InFlight operation id) fits.offsets records w (files old (place_of_writer w))
  file_now records fits told = subst (λ (p : Phase). HasFile p fits.offsets records w (files old (place_of_writer w))) is (fits.file told)

  pub polled_fits : (records : List Batch) (answer : Progress) → Fits tells records w old → Polled tells id old new answer
      → Fits tells records (after_answer operation answer w) new
  polled_fits records Pending fits polled =
      fits_beside tells records (after_answer operation Pending w) old new
      (record {
        offsets = fits.offsets;
        ordered = (same_order fits.offsets records w fits.ordered operation).0;
        numbers = subst (λ (p : Phase). HasNumbers p (after_answer operation Pending w)) (sym is)
            (waited_numbers fits.offsets records w fits.ordered operation id (numbers_now records fits));
        flight = fits.flight;
        file = λ told. subst (λ (p : Phase). HasFile p fits.offsets records (after_answer operation Pending w) (files old (place_of_writer w))) (sym is)
            (waited_file fits.offsets records w fits.ordered operation id (files old (place_of_writer w)) (file_now records fits told));
      })
      (same_disk tells (place_of_writer w) old new polled.same)
  polled_fits records Done fits polled = record {
    offsets = fits.offsets;
    ordered = done_ordered fits.offsets records w fits.ordered operation id (numbers_now records fits);
    numbers = done_numbers fits.offsets records w fits.ordered operation id (numbers_now records fits);
    flight = free_after old new (place_of_writer w) (act_of operation) id (flies_now records fits) polled.ends;
    file = λ told.
        done_file fits.offsets records w fits.ordered operation id (files old (place_of_writer w)) (files new (place_of_writer w))
        (numbers_now records fits) (file_now records fits told)
        (polled.file told flight (flies_now records fits).here).here;
  }
  polled_fits records Failed fits polled = record {
    offsets = fits.offsets;
    ordered = (same_order fits.offsets records w fits.ordered operation).1;
    numbers = tt;
    flight = free_after old new (place_of_writer w) (act_of operation) id (flies_now records fits) polled.ends;
    file = λ told.
        failed_file fits.offsets records w fits.ordered operation id (files old (place_of_writer w)) (files new (place_of_writer w))
        (numbers_now records fits) (file_now records fits told)
        (polled.file told flight (flies_now records fits).here).here;
  }

  pub synced_rises : (records : List Batch) (answer : Progress) → Fits tells records w old → w.synced ≤ (after_answer operation answer w).synced
  synced_rises records Pending fits = omega arith
  synced_rises records Failed fits = omega arith
  synced_rises records Done fits = by_operation operation
    where
      by_operation : (done : Operation) → w.synced ≤ synced_with done w
      by_operation Create = omega arith
      by_operation Write = omega arith
      by_operation Sync = omega (arith, fits.ordered.synced)

  -- the writer's segment, as it is known by what was synced before the call
  same_segment : (records : List Batch) (answer : Progress) → SegmentKept (place_of_writer (after_answer operation answer w))
      (after_answer operation answer w).log (after_answer operation answer w).from w.synced records (files new)
      → SegmentKept (place_of_writer w) w.log w.from w.synced records (files new)
  same_segment records Pending kept = kept
  same_segment records Done kept = kept
  same_segment records Failed kept = kept

  kept_after : (records : List Batch) (answer : Progress) → Fits tells records w old → Polled tells id old new answer → IsTrue tells
      → SegmentKept (place_of_writer w) w.log w.from w.synced records (files new)
  kept_after records answer fits polled told =
      same_segment records answer
      (fits_kept_from tells records (after_answer operation answer w) new w.synced (polled_fits records answer fits polled) told
      (low answer) (synced_rises records answer fits))
    where
      low : (given : Progress) → (after_answer operation given w).from ≤ w.synced
      low Pending = fits.ordered.from
      low Done = fits.ordered.from
      low Failed = fits.ordered.from

  -- A fact on the files at each moment, from the two ends of the call.
  each_moment : (records : List Batch) (answer : Progress) (P : Files → Type 0) → GoesOn old new → Fits tells records w old
      → Polled tells id old new answer → IsTrue tells → P (files old) → P (files new)
      → AtEachMoment old.clock new P
  each_moment records Pending P goes fits polled told before after = one_moment old new P goes polled.same before
  each_moment records Done P goes fits polled told before after = two_moments (place_of_writer w) (AfterDone (act_of operation)) old new P
      goes (polled.file told flight (flies_now records fits).here) before after
  each_moment records Failed P goes fits polled told before after = two_moments (place_of_writer w) (AfterFailed (act_of operation)) old new
      P goes (polled.file told flight (flies_now records fits).here) before after

  pub polled_moments : (records : List Batch) (answer : Progress) → GoesOn old new → Fits tells records w old → Polled tells id old new answer → IsTrue tells
      → AtEachMoment old.clock new (SegmentKept (place_of_writer w) w.log w.from w.synced records)
  polled_moments records answer goes fits polled told =
      each_moment records answer (SegmentKept (place_of_writer w) w.log w.from w.synced records) goes fits polled told
      (fits_kept tells records w old fits told) (kept_after records answer fits polled told)

  pub polled_others : (records : List Batch) (answer : Progress) → Fits tells records w old → Polled tells id old new answer
      → (place : Place) → place ≢ place_of_writer w → SameFile tells place old new
  polled_others records Pending fits polled place elsewhere = same_disk tells place old new polled.same
  polled_others records Done fits polled place elsewhere =
      ended_elsewhere tells place flight id (AfterDone (act_of operation)) old new (flies_now records fits).here polled.ends
      (λ told. polled.file told flight (flies_now records fits).here) elsewhere
  polled_others records Failed fits polled place elsewhere =
      ended_elsewhere tells place flight id (AfterFailed (act_of operation)) old new (flies_now records fits).here polled.ends
      (λ told. polled.file told flight (flies_now records fits).here) elsewhere

  pub polled_other_moments : (records : List Batch) (answer : Progress) → GoesOn old new → Fits tells records w old
      → Polled tells id old new answer → IsTrue tells
      → AtEachMoment old.clock new (OthersStay (place_of_writer w) (files old))
  polled_other_moments records answer goes fits polled told =
      each_moment records answer (OthersStay (place_of_writer w) (files old)) goes fits polled told (λ place elsewhere. refl)
      (λ place elsewhere. (polled_others records answer fits polled place elsewhere).file told)

-- ---- the polls left

pub takes_poll : (tells : Bool) (id : OpId) (answer : Progress) (before after : DiskView)
    → ((side : Side) → ((answer ≡ Pending) × (side ≡ id.side) → ⊥) → after.polls_left side ≡ before.polls_left side)
    → Polled tells id before after answer → TakesPoll id answer before after
takes_poll tells id Pending before after stalls polled = record { its = polled.fell; others = λ side ne. stalls side (λ both. ne both.1) }
takes_poll tells id Done before after stalls polled = record {
  its = omega (arith, stalls id.side (λ both. let clash : Done ≡ Pending = both.0 in cc));
  others = λ side ne. stalls side (λ both. ne both.1);
}
takes_poll tells id Failed before after stalls polled = record {
  its = omega (arith, stalls id.side (λ both. let clash : Failed ≡ Pending = both.0 in cc));
  others = λ side ne. stalls side (λ both. ne both.1);
}
