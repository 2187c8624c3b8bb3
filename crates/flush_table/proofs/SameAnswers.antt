-- Every image answers the same while a store is flushed: while it is synced, while the table is put, and while what the table covers is
-- removed.
use Rattle.std.proofs.Common.{◌≡◌, inl, inr, ℕ, ◌-◌, ◌<◌, ◌≤◌, List, [], length, take, drop, Option, Some, None, sym, subst, ap, ◌∙◌, refl, arith, append-nil}
use Rattle.crc_chunk.specs.Chunk.{IsChunkOf}
use Rattle.batch_repr.specs.declared.batch.Batch.{Batch}
use Rattle.batch_repr.specs.Batches.{end_after}
use Rattle.block_record.proofs.Laws.{readable}
use Rattle.disk_face.specs.declared.Side.{Side}
use Rattle.disk_face.specs.declared.SegName.{SegName}
use Rattle.disk_face.specs.View.{Place, segment, table, File, Files, Dirs}
use Rattle.disk_face.specs.Image.{log_number, IsImageOf, IsImage, IsChanceFree, IsRested, dirs_as_read}
use Rattle.disk_face.specs.Listing.{IsSegmentName, IsTableNumber}
use Rattle.disk_face.specs.Tables.{whole}
use Rattle.disk_face.proofs.Laws.{same_place}
use Rattle.table_text.specs.Tables.{IsWhole, ReadsTable, batches_of, table_text, Table}
use Rattle.table_text.proofs.Laws.{stands_for_store, written_is_read}
use Rattle.wal_recovery.specs.declared.reports.Mode.{Mode}
use Rattle.wal_recovery.specs.declared.reports.Mode.TheVariants.{Strict}
use Rattle.wal_recovery.specs.Listing.{place_in, name_in}
use Rattle.wal_recovery.specs.Rows.{files_from}
use Rattle.wal_recovery.specs.Resting.{AddsNoImage, AreSegmentsStable, OnlySynced}
use Rattle.wal_recovery.proofs.Laws.{base_ends, image_has_file, reads_sent, rested_reads}
use Rattle.flush_table.specs.declared.reports.TableSeen.{TableSeen}
use Rattle.flush_table.specs.Stores.{HasWholeTable, UsesTable, Used, StoreOf, TellsUsed, wal_from, next_in, wal_after, number_after}
use Rattle.flush_table.specs.Flushing.{answer_of, ImagesAnswerAs}
use Rattle.flush_table.specs.Putting.{IsTableOf, IsPutting}
use Rattle.flush_table.specs.Settling.{IsAboveSeen, IsSettling, HasTableOf, Covers, IsFlushing}
use Rattle.flush_table.specs.Removing.{IsCoveredBy, IsThinned}
use Rattle.flush_table.proofs.Covered.{IsCovered, covered_answers, covered_thinned}
use Rattle.flush_table.proofs.OneStore.{store_once}
use Rattle.flush_table.proofs.OnlyTable.{StandUpTo, only_batches, only_next}
use Rattle.flush_table.proofs.PutOrNot.{old_store, new_store, put_or_not}
use Rattle.flush_table.proofs.RunOverStore.{store_of_image}
use Rattle.flush_table.proofs.Starting.{number_used, wal_used, table_base}
use Rattle.flush_table.proofs.Tools.{some_is}
use Rattle.flush_table.proofs.Whole.{table_read}

-- ---- the same answer by other batches

pub other_answers : (batches others : List Batch) (next number : ℕ) (now : Files) → ((key : List ℕ) → answer_of batches key ≡ answer_of others key)
    → next ≡ number → ImagesAnswerAs batches next now → ImagesAnswerAs others number now
other_answers batches others next number now same is all dirs image free =
    let a = all dirs image free in
    record { used = a.used; own = a.own; store = a.store; next_is = a.next_is ∙ is; same = λ key. a.same key ∙ same key }

-- a table stands for the batches whose live keys it has
pub table_answers : (next : ℕ) (batches : List Batch) (held : Table) → IsTableOf next batches held → (key : List ℕ)
    → answer_of (batches_of held) key ≡ answer_of batches key
table_answers next batches held of key =
    ap (λ (l : List Batch). answer_of l key) (sym (append-nil (batches_of held)))
    ∙ stands_for_store batches [] held.live (held.next - length held.live) key of.store
    ∙ ap (λ (l : List Batch). answer_of l key) (append-nil batches)

-- ---- what a read finds of files at rest is one of their images

module _ (now : Files) (rested : IsRested now) where
  read_image : IsImage now (dirs_as_read now)
  read_image p = (rested_reads p (now p) (rested p)).image

  read_free : IsChanceFree IsChunkOf now (dirs_as_read now)
  read_free p f bytes at size is has chunk = (rested_reads p (now p) (rested p)).was_sent f bytes at size is has chunk

  -- so what all images answer is what was read
  pub answers_once : (used : Option Used) (own batches : List Batch) (next : ℕ) → StoreOf Strict (dirs_as_read now) used own
      → ImagesAnswerAs batches next now → (next_in used own ≡ next) × ((key : List ℕ) → answer_of own key ≡ answer_of batches key)
  answers_once used own batches next store all =
      let a = all (dirs_as_read now) read_image read_free in
      let once = store_once Strict (dirs_as_read now) used a.used own a.own store a.store in (
        ap (λ (u : Option Used). next_in u own) once.0 ∙ ap (next_in a.used) once.1 ∙ a.next_is,
        λ key. ap (λ (l : List Batch). answer_of l key) once.1 ∙ a.same key,
      )

-- ---- syncs

synced_free : (old now : Files) (dirs : Dirs) → OnlySynced old now → IsChanceFree IsChunkOf now dirs → IsChanceFree IsChunkOf old dirs
synced_free old now dirs only free p f bytes at size is has chunk = elim (only p) [
  | inl e ↦ free p f bytes at size (e ∙ is) has chunk
  | inr (g, was, then_) ↦
      let same : f ≡ g = some_is f g (sym is ∙ was) in
      free p (record g { stable = g.done }) bytes at size then_ has chunk ∙ ap (λ (h : File). take size (drop at h.sent)) (sym same)
]

pub synced_answers : (batches : List Batch) (next : ℕ) (old now : Files) → AddsNoImage old now → OnlySynced old now → ImagesAnswerAs batches next old
    → ImagesAnswerAs batches next now
synced_answers batches next old now adds only all dirs image free = all dirs (adds dirs image) (synced_free old now dirs only free)

-- ---- files that are the same

same_answers : (batches : List Batch) (next : ℕ) (old now : Files) → ((p : Place) → now p ≡ old p) → ImagesAnswerAs batches next old
    → ImagesAnswerAs batches next now
same_answers batches next old now same all dirs image free =
    all dirs (λ p. subst (λ (o : Option File). IsImageOf p o (dirs p)) (same p) (image p))
    (λ p f bytes at size is has chunk. free p f bytes at size (same p ∙ is) has chunk)

-- ---- the table and the removals

module _ (old : Files) (rested : IsRested old) (used : Option Used) (seen : Option TableSeen) (tells : TellsUsed used seen) (batches : List Batch) (next : ℕ)
    (store : StoreOf Strict (dirs_as_read old) used batches) (next_is : next ≡ end_after (number_after seen) batches)
    (stable : AreSegmentsStable (files_from (wal_after seen) old)) (wal : ℕ) (named : IsTableNumber wal)
    (greatest : (side : Side) (name : SegName) (f : File) → IsSegmentName name → old (segment side name) ≡ Some f → name.wal ≤ wal)
    (all : ImagesAnswerAs batches next old) where
  next_here : next_in used batches ≡ next
  next_here = ap (λ (n : ℕ). end_after n batches) (sym (number_used used seen tells)) ∙ sym next_is

  stable_here : AreSegmentsStable (files_from (wal_from used) old)
  stable_here = subst (λ (n : ℕ). AreSegmentsStable (files_from n old)) (wal_used used seen tells) stable

  above_used : IsAboveSeen seen wal → wal_from used ≤ wal
  above_used above = omega (arith, above, wal_used used seen tells)

  put_answers : IsAboveSeen seen wal → (now : Files) → IsPutting wal next batches old now → ImagesAnswerAs batches next now
  put_answers above now putting = elim putting.here [
    | inl same ↦ same_answers batches next old now (λ p. elim (same_place p (table wal)) [
      | inl e ↦ subst (λ (q : Place). now q ≡ old q) (sym e) same
      | inr other ↦ putting.others p other
    ]) all
    | inr (held, of, put) ↦ λ dirs image free.
        elim (put_or_not old rested used batches wal named stable_here store (above_used above) greatest now putting.others dirs image free held of.is put) [
          | inl (bytes, there, reads) ↦ record {
            used = Some (record { upto = wal; table = held });
            own = batches_of held;
            store = new_store old rested used batches wal named stable_here store (above_used above) greatest now putting.others dirs image free held bytes there reads;
            next_is = base_ends held.next (batches_of held) (table_base held of.is) ∙ of.next_is;
            same = table_answers next batches held of;
          }
          | inr bare ↦ record {
            used = used;
            own = batches;
            store = old_store old rested used batches wal named stable_here store (above_used above) greatest now putting.others dirs image free bare;
            next_is = next_here;
            same = λ key. refl;
          }
        ]
  ]

  settling_answers : (now : Files) → IsSettling seen wal next batches old now → ImagesAnswerAs batches next now
  settling_answers now (inl (above, putting)) = put_answers above now putting
  settling_answers now (inr same) = subst (ImagesAnswerAs batches next) (sym same) all

  -- no whole table is above the greatest WAL, or above the used one
  whole_here : (other : ℕ) (f : File) → IsTableNumber other → old (table other) ≡ Some f → IsWhole other f.sent → HasWholeTable (dirs_as_read old) other
  whole_here other f number is full = (number, (f.sent, reads_sent (table other) (old (table other)) f is (rested (table other) f is), full))

  not_above : (u : Option Used) → StoreOf Strict (dirs_as_read old) u batches → wal_from u ≤ wal → (other : ℕ) → wal < other
      → HasWholeTable (dirs_as_read old) other → ⊥
  not_above None s low other high full = s.is_used other full
  not_above (Some u) s low other high full = omega (arith, s.is_used.greatest other full, low, high)

  put_covers : IsAboveSeen seen wal → (now : Files) (t : HasTableOf wal next batches old now) → IsCovered now wal t.held
  put_covers above now t =
      let text = table_text wal t.held in
      let r = readable text (log_number wal) in
      record {
        named = named;
        file = whole text;
        there = t.stands;
        rests = record { created = refl; stays = refl; done = refl; reads = refl };
        reads = written_is_read wal t.held r.read t.of.is r.reads;
        above = λ other f number high is.
            let was : old (table other) ≡ Some f = sym (t.others (table other) (λ e. omega (arith, high, table_number other wal e))) ∙ is in (
              rested (table other) f was,
              λ full. not_above used store (above_used above) other high (whole_here other f number was full),
            );
        none = λ side name f number is. greatest side name f number (sym (t.others (segment side name) (λ e. cc)) ∙ is);
      }
    where
      table_number : (a b : ℕ) → table a ≡ table b → a ≡ b
      table_number a b e = cc

  -- the table that was seen
  stands_up : StandUpTo wal (dirs_as_read old)
  stands_up number stored (number_is, here) =
      let p : Place = place_in number stored.side stored.index in
      let f = image_has_file p (old p) stored.content (subst (λ (o : Option (List ℕ)). IsImageOf p (old p) o) here (read_image old rested p)) in
      greatest stored.side (name_in number stored.index) f.0 number_is f.1

  seen_covers : (u : Used) → StoreOf Strict (dirs_as_read old) (Some u) batches → wal ≤ u.upto
      → IsCovered old u.upto u.table × (batches ≡ batches_of u.table) × (next_in (Some u) (batches_of u.table) ≡ u.table.next)
  seen_covers u s low =
      let is : UsesTable (dirs_as_read old) u.upto u.table = s.is_used in
      let f = table_read u.upto (old (table u.upto)) is.bytes is.there in
      let rests = rested (table u.upto) f.0 f.1 in
      let sent : f.0.sent ≡ is.bytes = some_is f.0.sent is.bytes (sym (reads_sent (table u.upto) (old (table u.upto)) f.0 f.1 rests) ∙ is.there) in
      let up : StandUpTo u.upto (dirs_as_read old) = λ number stored stands. omega (arith, stands_up number stored stands, low) in (
        record {
          named = is.named;
          file = f.0;
          there = f.1;
          rests = rests;
          reads = subst (λ (l : List ℕ). ReadsTable u.upto l u.table) (sym sent) is.reads;
          above = λ other g number high there. (
            rested (table other) g there,
            λ full. omega (arith, is.greatest other (whole_here other g number there full), high),
          );
          none = λ side name g number there. omega (arith, greatest side name g number there, low);
        },
        only_batches (dirs_as_read old) u.upto u.table is up batches s,
        only_next (dirs_as_read old) u.upto u.table is up,
      )

  module _ (upto : ℕ) (mid now : Files) (thinned : IsThinned (IsCoveredBy upto) mid now) where
    seen_answers : (u : Option Used) (s : Option TableSeen) → TellsUsed u s → StoreOf Strict (dirs_as_read old) u batches → next_in u batches ≡ next
        → (told : TableSeen) → s ≡ Some told → wal ≤ told.upto → upto ≡ told.upto → mid ≡ old → ImagesAnswerAs batches next now
    seen_answers None None of st nx told is low up same = let clash : ◌≡◌ {A = Option TableSeen} None (Some told) = is in absurd cc
    seen_answers None (Some x) of st nx told is low up same = absurd of
    seen_answers (Some u) None of st nx told is low up same = absurd of
    seen_answers (Some u) (Some x) of st nx told is low up same =
        let told_is : x ≡ told = some_is x told is in
        let number : told.upto ≡ u.upto = ap (λ (t : TableSeen). t.upto) (sym told_is) ∙ of.0 in
        let c = seen_covers u st (omega (arith, low, number)) in
        let here : IsCovered mid upto u.table = subst (λ (n : ℕ). IsCovered mid n u.table) (sym (up ∙ number)) (subst (λ (fs : Files). IsCovered fs u.upto u.table) (sym same) c.0) in
        covered_answers now upto u.table batches next (covered_thinned mid now upto u.table thinned here)
        (sym c.2 ∙ ap (next_in (Some u)) (sym c.1) ∙ nx) (λ key. ap (λ (l : List Batch). answer_of l key) (sym c.1))

    clear_answers : Covers seen wal next batches upto old mid → ImagesAnswerAs batches next now
    clear_answers (inl (above, is, t)) =
        covered_answers now upto t.held batches next
        (covered_thinned mid now upto t.held thinned (subst (λ (n : ℕ). IsCovered mid n t.held) (sym is) (put_covers above mid t))) t.of.next_is
        (table_answers next batches t.held t.of)
    clear_answers (inr (told, (seen_is, low), up, same)) = seen_answers used seen tells store next_here told seen_is low up same

  pub flushing_answers : (now : Files) → IsFlushing seen wal next batches old now → ImagesAnswerAs batches next now
  flushing_answers now (inl settling) = settling_answers now settling
  flushing_answers now (inr clearing) = clear_answers clearing.upto clearing.mid now clearing.thinned clearing.covers

-- ---- what was read

-- Files at rest were read, and synced since: all images answer what was read.
pub answers_read : (mode : Mode) → mode ≡ Strict → (old now : Files) → IsRested old → OnlySynced old now → (seen : Option TableSeen) (batches : List Batch)
    (next : ℕ) → next ≡ end_after (number_after seen) batches → AreSegmentsStable (files_from (wal_after seen) now)
    → (used : Option Used) × StoreOf mode (dirs_as_read old) used batches × TellsUsed used seen → ImagesAnswerAs batches next now
answers_read mode strict old now rested only seen batches next ends stable (used, store, tells) dirs image free = record {
  used = used;
  own = batches;
  store = store_of_image old now rested only dirs image used batches
      (subst (λ (n : ℕ). AreSegmentsStable (files_from n now)) (wal_used used seen tells) stable) free
      (subst (λ (m : Mode). StoreOf m (dirs_as_read old) used batches) strict store);
  next_is = ap (λ (n : ℕ). end_after n batches) (sym (number_used used seen tells)) ∙ sym ends;
  same = λ key. refl;
}
