-- A journal of which no segment has failed reads as an image of its disk: each file is one of its segments', which reads a front
-- of what was sent, or is as it was at rest.
use Rattle.std.proofs.Common.{◌≡◌, ◌≢◌, ◌⊎◌, inl, inr, ℕ, suc, ◌+◌, Bool, true, false, List, [], ◌∷◌, ◌++◌, length, take, drop, Option, Some, None, IsTrue, ap, sym, subst, ◌∙◌, refl, arith, cond}
use Rattle.std.specs.Prelude.{max, count_by}
use Rattle.std.specs.List.{AllByRecursion}
use Rattle.std.proofs.lemmas.List.{take-append-drop}
use Rattle.crc_chunk.specs.Chunk.{IsChunkOf}
use Rattle.crc_chunk.proofs.Laws.{same_in_whole}
use Rattle.block_record.specs.Framing.{laid}
use Rattle.batch_repr.specs.declared.batch.Batch.{Batch}
use Rattle.disk_face.specs.declared.FilePlace.TheVariants.{Segment, Table}
use Rattle.disk_face.specs.View.{Place, File, Files, DiskView, files}
use Rattle.disk_face.specs.Image.{IsImageOf, IsImage, IsChanceFree, IsRestedFile, IsRested, log_of, as_read, dirs_as_read}
use Rattle.disk_face.specs.Calls.{fresh}
use Rattle.disk_face.proofs.Laws.{same_place}
use Rattle.log_writer.specs.declared.phase.Operation.TheVariants.{Create, Write, Sync}
use Rattle.log_writer.specs.declared.phase.Phase.{Phase}
use Rattle.log_writer.specs.declared.phase.Phase.TheVariants.{New, InFlight, Idle, Broken}
use Rattle.log_writer.specs.Writer.{Writer}
use Rattle.log_writer.specs.Parts.{part, marked, segment_bytes}
use Rattle.log_writer.specs.Fits.{place_of_writer, file_with, IsOrdered, HoldsRecords, HasFile, Fits}
use Rattle.log_writer.proofs.Laws.{bytes_split, bytes_front}
use Rattle.failover_writer.specs.State.{State, phase_is_broken, is_broken, broken_count}
use Rattle.failover_writer.specs.Ranges.{AreJoined, StandsFor}
use Rattle.failover_writer.specs.Keeping.{OthersStay}
use Rattle.wal_recovery.proofs.Laws.{ReadsAsImage, rested_reads}
use Rattle.failover_writer.proofs.PollsAt.{count_head}
use Rattle.failover_writer.proofs.Segments.{not_theirs}

-- ---- one file

-- A chunk that stands in a front has the same bytes in the whole.
chunk_in_front : (front more : List ℕ) (at log size : ℕ) → IsChunkOf front at log size → take size (drop at front) ≡ take size (drop at (front ++ more))
chunk_in_front front more at log size here = subst (λ (n : ℕ). take n (drop at front) ≡ take n (drop at (front ++ more))) (sym here.size_is)
    (same_in_whole front more at here.stands)

-- ---- one segment

fresh_reads : (w : Writer) (f : Option File) → f ≡ Some fresh → ReadsAsImage (place_of_writer w) f
fresh_reads w f is = subst (ReadsAsImage (place_of_writer w)) (sym is)
    (record { image = λ e. absurd cc; was_sent = λ g bytes at size same read here. absurd cc })

module _ (offsets : ℕ → ℕ) (records : List Batch) (w : Writer) (ordered : IsOrdered offsets records w) where
  -- the bytes of its records up to this one
  abbrev upto : ℕ → List ℕ
  upto to = segment_bytes w.log offsets w.from to records

  -- the bytes of its records from this one on, up to another
  abbrev behind : ℕ → ℕ → List ℕ
  behind mid to = laid w.log (length (upto mid)) (marked offsets mid (part mid to records))

  written_reads : ReadsAsImage (place_of_writer w) (Some (file_with offsets records w (upto w.written)))
  written_reads = record {
    image = λ made. (
      behind w.synced w.written,
      bytes_split w.log offsets w.from w.synced w.written records ordered.from ordered.synced (omega (arith, ordered.synced, ordered.written, ordered.sent))
          ∙ ap (λ (front : List ℕ). front ++ behind w.synced w.written)
          (sym (ap (λ (n : ℕ). take n (upto w.sent)) ordered.covered
          ∙ bytes_front w.log offsets w.from w.synced w.sent records ordered.from (omega (arith, ordered.synced, ordered.written))
          (omega (arith, ordered.synced, ordered.written, ordered.sent)))),
    );
    was_sent = λ g bytes at size is read here.
        let bytes_are : upto w.written ≡ bytes = cc in
        let sent_is : upto w.sent ≡ g.sent = ap (λ (o : Option File). sent_of o) is in
        let split : upto w.sent ≡ upto w.written ++ behind w.written w.sent = bytes_split w.log offsets w.from w.written w.sent records
        (omega (arith, ordered.from, ordered.synced)) ordered.written (omega (arith, ordered.written, ordered.sent)) in
        subst (λ (l : List ℕ). take size (drop at l) ≡ take size (drop at g.sent)) bytes_are
        (chunk_in_front (upto w.written) (behind w.written w.sent) at (log_of (place_of_writer w)) size
        (subst (λ (l : List ℕ). IsChunkOf l at (log_of (place_of_writer w)) size) (sym bytes_are) here)
        ∙ ap (λ (l : List ℕ). take size (drop at l)) (sym split ∙ sent_is));
  }
    where
      sent_of : Option File → List ℕ
      sent_of None = []
      sent_of (Some f) = f.sent

  held_reads : (f : Option File) → HoldsRecords offsets records w f → ReadsAsImage (place_of_writer w) f
  held_reads f holds = subst (ReadsAsImage (place_of_writer w)) (sym holds) written_reads

  phase_reads : (phase : Phase) (f : Option File) → phase ≢ New → phase_is_broken phase ≡ false → HasFile phase offsets records w f → ReadsAsImage (place_of_writer w) f
  phase_reads New f begun whole has = absurd (begun refl)
  phase_reads (InFlight Create id) f begun whole is = fresh_reads w f is
  phase_reads (InFlight Write id) f begun whole holds = held_reads f holds
  phase_reads (InFlight Sync id) f begun whole holds = held_reads f holds
  phase_reads Idle f begun whole holds = held_reads f holds
  phase_reads Broken f begun whole has = absurd cc

-- ---- all files

none_counted : (b : Bool) (n : ℕ) → cond b 1 0 + n ≡ 0 → (b ≡ false) × (n ≡ 0)
none_counted true n none = absurd (omega (arith, none))
none_counted false n none = (refl, omega (arith, none))

all_read : (tells : Bool) (records : List Batch) (v : DiskView) → IsTrue tells → (wal index synced : ℕ) (ws : List Writer)
    → AreJoined wal index synced ws → AllByRecursion (λ (w : Writer). Fits tells records w v) ws → count_by is_broken ws ≡ 0
    → AllByRecursion (λ (w : Writer). ReadsAsImage (place_of_writer w) (files v (place_of_writer w))) ws
unfolding AreJoined
all_read tells records v told wal index synced [] joined fit none = tt
all_read tells records v told wal index synced (w ∷ ws) joined fit none =
    let counted = none_counted (is_broken w) (count_by is_broken ws) (sym (count_head w ws) ∙ none) in (
      phase_reads fit.0.offsets records w fit.0.ordered w.phase (files v (place_of_writer w)) joined.0.begun counted.0 (fit.0.file told),
      all_read tells records v told wal (suc index) (max synced w.synced) ws joined.2 fit.1 counted.1,
    )

-- What holds at the place of each holds here, or the place is none of theirs.
holds_or_apart : (P : Place → Type 0) (ws : List Writer) (place : Place) → AllByRecursion (λ (w : Writer). P (place_of_writer w)) ws
    → P place ⊎ AllByRecursion (λ (w : Writer). place_of_writer w ≢ place) ws
holds_or_apart P [] place all = inr tt
holds_or_apart P (w ∷ ws) place all = elim (same_place (place_of_writer w) place) [
  | inl here ↦ inl (subst P here all.0)
  | inr other ↦ elim (holds_or_apart P ws place all.1) [ inl here ↦ inl here | inr apart ↦ inr (other, apart) ]
]

each_reads : (tells : Bool) (records : List Batch) (opening : Files) (state : State) (v : DiskView) → IsTrue tells
    → StandsFor tells records state v → broken_count state ≡ 0 → IsRested opening → OthersStay opening state (files v)
    → (place : Place) → ReadsAsImage place (files v place)
each_reads tells records opening state v told stands none rested others place =
    elim (holds_or_apart (λ (p : Place). ReadsAsImage p (files v p)) state.segments place
    (all_read tells records v told state.wal 0 0 state.segments stands.joined stands.fit none)) [
      | inl own ↦ own
      | inr apart ↦ subst (ReadsAsImage place) (sym (others place (not_theirs state.segments place apart))) (rested_reads place (opening place) (rested place))
    ]

pub reads_as_image : (tells : Bool) (records : List Batch) (opening : Files) (state : State) (v : DiskView) → IsTrue tells
    → StandsFor tells records state v → broken_count state ≡ 0 → IsRested opening → OthersStay opening state (files v)
    → IsImage (files v) (dirs_as_read (files v)) × IsChanceFree IsChunkOf (files v) (dirs_as_read (files v))
reads_as_image tells records opening state v told stands none rested others =
    let each : (place : Place) → ReadsAsImage place (files v place) = each_reads tells records opening state v told stands none rested others in
    (λ p. (each p).image, λ p f bytes at size is read here. (each p).was_sent f bytes at size is read here)
