-- One segment of a journal changes, and the others stay as they are: what holds of all of them goes on.
use Rattle.std.proofs.Common.{◌≡◌, ◌≢◌, ◌⊎◌, inl, inr, ℕ, suc, ◌+◌, ◌<◌, ◌≤◌, min, max, Bool, List, [], ◌∷◌, ◌++◌, length, map, Some, ap, sym, subst, ◌∙◌, refl, arith}
use Rattle.std.specs.Prelude.{Contains}
use Rattle.std.specs.List.{AllByRecursion}
use Rattle.std.proofs.lemmas.List.{length-append}
use Rattle.batch_repr.specs.declared.batch.Batch.{Batch}
use Rattle.disk_face.specs.declared.OpId.{OpId}
use Rattle.disk_face.specs.declared.SegName.{SegName}
use Rattle.disk_face.specs.View.{Place, Flight, DiskView}
use Rattle.disk_face.proofs.Laws.{same_place}
use Rattle.log_writer.specs.declared.phase.Phase.TheVariants.{New}
use Rattle.log_writer.specs.Writer.{Writer}
use Rattle.log_writer.specs.Fits.{IsUnsent, Fits, SameFile, place_of_writer}
use Rattle.log_writer.proofs.Laws.{fits_beside}
use Rattle.failover_writer.proofs.Segments.{place_at, index_in}
use Rattle.failover_writer.specs.State.{State, most_synced}
use Rattle.failover_writer.specs.Ranges.{AreJoined, IsSegmentAt, sent_to_current, StandsFor}

-- The writer goes on with its segment, and what it has sent and synced does not fall.
pub record SameSegment (old new : Writer) : Type 0 where
  pub side : new.side ≡ old.side
  pub name : new.name ≡ old.name
  pub from : new.from ≡ old.from
  pub sent : old.sent ≤ new.sent
  pub synced : old.synced ≤ new.synced
  pub begun : new.phase ≢ New

pub same_file : (old new : Writer) → SameSegment old new → place_of_writer new ≡ place_of_writer old
same_file old new same = let s = same.side in let n = same.name in cc

-- ---- what is synced

-- A greater number before does not lessen it.
pub synced_later : (low high : ℕ) (writers : List Writer) → low ≤ high → most_synced low writers ≤ most_synced high writers
unfolding most_synced
synced_later low high [] le = le
synced_later low high (w ∷ writers) le = synced_later (max low w.synced) (max high w.synced) writers (omega arith)

pub synced_from : (from : ℕ) (writers : List Writer) → from ≤ most_synced from writers
unfolding most_synced
synced_from from [] = omega arith
synced_from from (w ∷ writers) = let later = synced_from (max from w.synced) writers in omega (arith, later)

pub synced_max : (a b : ℕ) (writers : List Writer) → most_synced (max a b) writers ≡ max (most_synced a writers) b
unfolding most_synced
synced_max a b [] = refl
synced_max a b (w ∷ writers) = let swap : max (max a b) w.synced ≡ max (max a w.synced) b = omega arith in ap
    (λ (n : ℕ). most_synced n writers) swap ∙ synced_max (max a w.synced) b writers

-- What is synced then is the greatest of what was synced and of what this segment has.
pub synced_changed : (from : ℕ) (front : List Writer) (old new : Writer) (back : List Writer) → old.synced ≤ new.synced
    → most_synced from (front ++ new ∷ back) ≡ max (most_synced from (front ++ old ∷ back)) new.synced
unfolding most_synced
synced_changed from [] old new back le =
    let more : max from new.synced ≡ max (max from old.synced) new.synced = omega (arith, le) in
    ap (λ (n : ℕ). most_synced n back) more ∙ synced_max (max from old.synced) new.synced back
synced_changed from (w ∷ front) old new back le = synced_changed (max from w.synced) front old new back le

-- ---- what is sent

pub sent_changed : (none : ℕ) (front : List Writer) (old new : Writer) (back : List Writer) → old.sent ≤ new.sent
    → sent_to_current none (front ++ old ∷ back) ≤ sent_to_current none (front ++ new ∷ back)
sent_changed none [] old new [] le = le
sent_changed none [] old new (w ∷ back) le = omega arith
sent_changed none (w ∷ front) old new back le = sent_changed w.sent front old new back le

-- ---- how they are joined

pub joined_later : (wal index low high : ℕ) (writers : List Writer) → low ≤ high → AreJoined wal index low writers → AreJoined wal index high writers
unfolding AreJoined
joined_later wal index low high [] le joined = tt
joined_later wal index low high (w ∷ writers) le joined = (
  joined.0,
  omega (arith, joined.1, le),
  joined_later wal (suc index) (max low w.synced) (max high w.synced) writers (omega arith) joined.2,
)

segment_changed : (wal index : ℕ) (old new : Writer) → SameSegment old new → IsSegmentAt wal index old → IsSegmentAt wal index new
segment_changed wal index old new same is = record { side = same.side ∙ is.side; name = same.name ∙ is.name; begun = same.begun }

pub joined_changed : (wal index synced : ℕ) (front : List Writer) (old new : Writer) (back : List Writer) → SameSegment old new
    → AreJoined wal index synced (front ++ old ∷ back)
    → AreJoined wal index synced (front ++ new ∷ back)
unfolding AreJoined
joined_changed wal index synced [] old new back same joined = (
  segment_changed wal index old new same joined.0,
  omega (arith, same.from, joined.1),
  joined_later wal (suc index) (max synced old.synced) (max synced new.synced) back (omega (arith, same.synced)) joined.2,
)
joined_changed wal index synced (w ∷ front) old new back same joined =
    (joined.0, joined.1, joined_changed wal (suc index) (max synced w.synced) front old new back same joined.2)

-- ---- two segments have two files

pub index_from : (wal index synced : ℕ) (front : List Writer) (w : Writer) (back : List Writer)
    → AreJoined wal index synced (front ++ w ∷ back) → w.name.index ≡ index + length front
unfolding AreJoined
index_from wal index synced [] w back joined = ap (λ (n : SegName). n.index) joined.0.name ∙ omega arith
index_from wal index synced (u ∷ front) w back joined = index_from wal (suc index) (max synced u.synced) front w back joined.2 ∙ omega arith

pub other_index : (w u : Writer) → w.name.index ≢ u.name.index → place_of_writer w ≢ place_of_writer u
other_index w u differ same = differ (let names : w.name ≡ u.name = cc in ap (λ (n : SegName). n.index) names)

-- What holds of each segment of another file and of the changed one holds of all.
module _ (P Q : Writer → Type 0) (old new : Writer) (elsewhere : (w : Writer) → place_of_writer w ≢ place_of_writer old → P w → Q w) where
  -- no segment after has this index
  others_behind : (wal index synced : ℕ) (writers : List Writer) → old.name.index < index → AreJoined wal index synced writers
      → AllByRecursion P writers → AllByRecursion Q writers
  unfolding AreJoined
  others_behind wal index synced [] below joined all = tt
  others_behind wal index synced (w ∷ writers) below joined all =
      let at : w.name.index ≡ index = ap (λ (n : SegName). n.index) joined.0.name in (
        elsewhere w (other_index w old (λ e. omega (arith, e, at, below))) all.0,
        others_behind wal (suc index) (max synced w.synced) writers
            (omega (arith, below)) joined.2 all.1,
      )

  pub all_changed : (wal index synced : ℕ) (front back : List Writer) → AreJoined wal index synced (front ++ old ∷ back)
      → AllByRecursion P (front ++ old ∷ back) → (P old → Q new) → AllByRecursion Q (front ++ new ∷ back)
  unfolding AreJoined
  all_changed wal index synced [] back joined all here =
      let at : old.name.index ≡ index = ap (λ (n : SegName). n.index) joined.0.name in
      (here all.0, others_behind wal (suc index) (max synced old.synced) back (omega (arith, at)) joined.2 all.1)
  all_changed wal index synced (w ∷ front) back joined all here =
      let at : w.name.index ≡ index = ap (λ (n : SegName). n.index) joined.0.name in
      let there : old.name.index ≡ suc index + length front = index_from wal (suc index) (max synced w.synced) front old back joined.2 in (
        elsewhere w (other_index w old (λ e. omega (arith, e, at, there))) all.0,
        all_changed wal (suc index) (max synced w.synced) front back joined.2 all.1 here,
      )

-- ---- the whole

pub files_changed : (front : List Writer) (old new : Writer) (back : List Writer) → place_of_writer new ≡ place_of_writer old
    → map place_of_writer (front ++ new ∷ back) ≡ map place_of_writer (front ++ old ∷ back)
files_changed [] old new back same = ap (λ (p : Place). p ∷ map place_of_writer back) same
files_changed (w ∷ front) old new back same = ap (λ (ps : List Place). place_of_writer w ∷ ps) (files_changed front old new back same)

pub file_within : (front : List Writer) (w : Writer) (back : List Writer) → Contains (map place_of_writer (front ++ w ∷ back)) (place_of_writer w)
file_within [] w back = (0, omega arith, refl)
file_within (u ∷ front) w back = let later = file_within front w back in (suc later.0, omega (arith, later.1), later.2)

-- The journal stands for the same records where one segment goes on and every other file stays as it was.
pub stands_changed : (tells : Bool) (records : List Batch) (state : State) (before after : DiskView) (front : List Writer)
    (old new : Writer) (back : List Writer) → state.segments ≡ front ++ old ∷ back → SameSegment old new
    → (Fits tells records old before → Fits tells records new after)
    → ((place : Place) → place ≢ place_of_writer old → SameFile tells place before after) → StandsFor tells records state before
    → StandsFor tells records (record state { segments = front ++ new ∷ back }) after
stands_changed tells records state before after front old new back are same fits others stands = record {
  named = stands.named;
  numbered = stands.numbered;
  spelled = stands.spelled;
  next = stands.next;
  queue = stands.queue;
  queued =
      let sent = sent_changed 0 front old new back same.sent in
      let synced = synced_changed 0 front old new back same.synced in
      let queued = subst (λ (ws : List Writer). state.queue.start ≤ min (most_synced 0 ws) (sent_to_current 0 ws)) are stands.queued in
      omega (arith, sent, synced, queued);
  want = stands.want;
  few = let few : length (front ++ old ∷ back) ≤ 10 = subst (λ (ws : List Writer). length ws ≤ 10) are stands.few in omega
      (arith, few, length-append front (old ∷ back), length-append front (new ∷ back));
  joined = joined_changed state.wal 0 0 front old new back same joined;
  fit =
      all_changed (λ (w : Writer). Fits tells records w before) (λ (w : Writer). Fits tells records w after) old new
      (λ w elsewhere fit. fits_beside tells records w before after fit (others (place_of_writer w) elsewhere)) state.wal 0 0 front back
      joined (subst (λ (ws : List Writer). AllByRecursion (λ (w : Writer). Fits tells records w before) ws) are stands.fit) fits;
  alone = λ id f flies. subst (λ (ps : List Place). Contains ps f.place) (sym (files_changed front old new back (same_file old new same)))
      (alone id f flies (same_place f.place (place_of_writer old)));
  fresh = λ told index low high.
      subst IsUnsent (sym ((others (place_at state.wal index) (λ e. omega
      (arith, low, length-append front (new ∷ back), ap index_in e, index_from state.wal 0 0 front old back joined))).file told))
      (stands.fresh told index (omega (
        arith,
        low,
        ap (λ (ws : List Writer). length ws) are,
        length-append front (new ∷ back),
        length-append front (old ∷ back),
      )) high);
}
  where
    joined : AreJoined state.wal 0 0 (front ++ old ∷ back)
    joined = subst (λ (ws : List Writer). AreJoined state.wal 0 0 ws) are stands.joined

    alone : (id : OpId) (f : Flight) → after.in_flight id ≡ Some f → (f.place ≡ place_of_writer old) ⊎ (f.place ≢ place_of_writer old)
        → Contains (map place_of_writer (front ++ old ∷ back)) f.place
    alone id f flies (inl here) = subst (λ (p : Place). Contains (map place_of_writer (front ++ old ∷ back)) p) (sym here) (file_within front old back)
    alone id f flies (inr elsewhere) = subst (λ (ws : List Writer). Contains (map place_of_writer ws) f.place) are
        (stands.alone id f ((others f.place elsewhere).no_more id f refl flies))
