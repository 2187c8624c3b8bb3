-- While a table is put over a store every image has that store or the table, whose number is above the used one and below no segment's.
use Rattle.std.proofs.Common.{◌≡◌, ◌≢◌, ◌⊎◌, inl, inr, ℕ, ◌+◌, ◌≤◌, List, Option, Some, None, sym, subst, ap, ◌∙◌, refl, arith}
use Rattle.crc_chunk.specs.Chunk.{IsChunkOf, chunk_len}
use Rattle.crc_chunk.proofs.Laws.{chunk_moved}
use Rattle.batch_repr.specs.declared.batch.Batch.{Batch}
use Rattle.block_record.specs.ReadOut.{ChunksStandIn}
use Rattle.disk_face.specs.declared.Side.{Side}
use Rattle.disk_face.specs.declared.SegName.{SegName}
use Rattle.disk_face.specs.declared.FilePlace.TheVariants.{Segment, Table}
use Rattle.disk_face.specs.View.{Place, segment, table, File, Files, Dirs}
use Rattle.disk_face.specs.Image.{log_number, IsImageOf, IsImage, IsChanceFree, IsRested, as_read, dirs_as_read}
use Rattle.disk_face.specs.Listing.{IsSegmentName, IsTableNumber}
use Rattle.disk_face.specs.Tables.{IsBeingPut}
use Rattle.disk_face.proofs.Laws.{same_number}
use Rattle.table_text.specs.Tables as tables
use Rattle.table_text.specs.Tables.{IsTable, ReadsTable, batches_of, table_text}
use Rattle.table_text.proofs.Laws.{part_or_whole}
use Rattle.wal_recovery.specs.declared.reports.Mode.TheVariants.{Strict}
use Rattle.wal_recovery.specs.Listing.{place_in, name_in, from_wal}
use Rattle.wal_recovery.specs.Rows.{files_from}
use Rattle.wal_recovery.specs.Base.{RecoversOnto}
use Rattle.wal_recovery.specs.Resting.{AreSegmentsStable}
use Rattle.wal_recovery.proofs.Laws.{image_has_file, recovers_alike, rested_reads, stable_recovers_from}
use Rattle.flush_table.specs.Stores.{HasWholeTable, UsesTable, Used, IsUsed, StoreOf, wal_from, first_from, base_of}
use Rattle.flush_table.proofs.OnlyTable.{StandUpTo, only_table}
use Rattle.flush_table.proofs.RunOverStore.{table_image}

-- directories with these segments and those tables
abbrev with_tables : Dirs → Dirs → Dirs
with_tables dirs others (Segment side name) = dirs (segment side name)
with_tables dirs others (Table upto) = others (table upto)

module _ (old : Files) (rested : IsRested old) (used : Option Used) (base : List Batch) (wal : ℕ) (named : IsTableNumber wal)
    (stable : AreSegmentsStable (files_from (wal_from used) old)) (store : StoreOf Strict (dirs_as_read old) used base) (above : wal_from used ≤ wal)
    (greatest : (side : Side) (name : SegName) (f : File) → IsSegmentName name → old (segment side name) ≡ Some f → name.wal ≤ wal)
    (now : Files) (others : (p : Place) → p ≢ table wal → now p ≡ old p) (dirs : Dirs) (image : IsImage now dirs)
    (free : IsChanceFree IsChunkOf now dirs) where
  same_segment : (side : Side) (name : SegName) → now (segment side name) ≡ old (segment side name)
  same_segment side name = others (segment side name) (λ e. cc)

  other_table : (upto : ℕ) → upto ≢ wal → table upto ≢ table wal
  other_table upto other e = other cc

  -- the tables but the one that is put are as they read
  tables_same : (upto : ℕ) → upto ≢ wal → dirs (table upto) ≡ dirs_as_read old (table upto)
  tables_same upto other =
      let same : now (table upto) ≡ old (table upto) = others (table upto) (other_table upto other) in
      table_image upto (now (table upto)) (dirs (table upto)) (λ f is. rested (table upto) f (sym same ∙ is)) (image (table upto))
      ∙ ap (as_read (table upto)) same

  was_whole : (upto : ℕ) → upto ≢ wal → HasWholeTable dirs upto → HasWholeTable (dirs_as_read old) upto
  was_whole upto other (is, (bytes, there, whole)) = (is, (bytes, sym (tables_same upto other) ∙ there, whole))

  -- no other whole table is above the used one
  below_used : (used : Option Used) → IsUsed (dirs_as_read old) used → (upto : ℕ) → HasWholeTable (dirs_as_read old) upto → upto + 1 ≤ wal_from used
  below_used None none upto whole = absurd (none upto whole)
  below_used (Some used) is upto whole = omega (arith, is.greatest upto whole)

  -- ---- the old store

  seen : Dirs
  seen = with_tables dirs (dirs_as_read old)

  seen_image : IsImage old seen
  unfolding seen
  seen_image (Segment side name) =
      subst (λ (o : Option File). IsImageOf (segment side name) o (dirs (segment side name))) (same_segment side name) (image (segment side name))
  seen_image (Table upto) = (rested_reads (table upto) (old (table upto)) (rested (table upto))).image

  seen_free : IsChanceFree IsChunkOf old seen
  unfolding seen
  seen_free (Segment side name) f bytes at size is has chunk = free (segment side name) f bytes at size (same_segment side name ∙ is) has chunk
  seen_free (Table upto) f bytes at size is has chunk =
      (rested_reads (table upto) (old (table upto)) (rested (table upto))).was_sent f bytes at size is has chunk

  from_same : (low : ℕ) (side : Side) (name : SegName) → from_wal low dirs (segment side name) ≡ from_wal low seen (segment side name)
  unfolding seen
  from_same low side name = refl

  used_still : (HasWholeTable dirs wal → ⊥) → (u : Option Used) → wal_from u ≤ wal → IsUsed (dirs_as_read old) u → IsUsed dirs u
  used_still bare None low none = λ upto whole. elim (same_number upto wal) [
    | inl e ↦ bare (subst (HasWholeTable dirs) e whole)
    | inr other ↦ none upto (was_whole upto other whole)
  ]
  used_still bare (Some u) low is = record {
    named = is.named;
    bytes = is.bytes;
    there = tables_same u.upto (λ e. omega (arith, low, e)) ∙ is.there;
    reads = is.reads;
    greatest = λ upto whole. elim (same_number upto wal) [
      | inl e ↦ absurd (bare (subst (HasWholeTable dirs) e whole))
      | inr other ↦ is.greatest upto (was_whole upto other whole)
    ];
  }

  pub old_store : (HasWholeTable dirs wal → ⊥) → StoreOf Strict dirs used base
  old_store bare =
      let r : RecoversOnto (first_from used) (base_of used) (from_wal (wal_from used) (dirs_as_read old)) base = store.recovers in
      record {
        is_used = used_still bare used above store.is_used;
        recovers = record {
          merged = r.merged;
          recovers = recovers_alike (first_from used) (from_wal (wal_from used) dirs) (from_wal (wal_from used) seen) r.merged
              (from_same (wal_from used))
              (stable_recovers_from (wal_from used) old seen rested stable seen_image seen_free (first_from used) r.merged r.recovers);
          behind = r.behind;
        };
      }

  -- ---- the new one

  up_to : StandUpTo wal dirs
  up_to number stored (is, here) =
      let p : Place = place_in number stored.side stored.index in
      let f = image_has_file p (now p) stored.content (subst (λ (o : Option (List ℕ)). IsImageOf p (now p) o) here (image p)) in
      greatest stored.side (name_in number stored.index) f.0 is (sym (same_segment stored.side (name_in number stored.index)) ∙ f.1)

  module _ (held : tables.Table) (bytes : List ℕ) (there : dirs (table wal) ≡ Some bytes) (reads : ReadsTable wal bytes held) where
    uses : UsesTable dirs wal held
    uses = record {
      named = named;
      bytes = bytes;
      there = there;
      reads = reads;
      greatest = λ upto whole. elim (same_number upto wal) [
        | inl e ↦ omega (arith, e)
        | inr other ↦ omega (arith, below_used used store.is_used upto (was_whole upto other whole), above)
      ];
    }

    pub new_store : StoreOf Strict dirs (Some (record { upto = wal; table = held })) (batches_of held)
    new_store = only_table dirs wal held uses up_to

  -- ---- one of both

  -- The table that is put is not whole, or it is this one.
  pub put_or_not : (held : tables.Table) → IsTable held → IsBeingPut (table_text wal held) (now (table wal))
      → ((bytes : List ℕ) × (dirs (table wal) ≡ Some bytes) × ReadsTable wal bytes held) ⊎ (HasWholeTable dirs wal → ⊥)
  put_or_not held is put = go (now (table wal)) refl (dirs (table wal)) refl
    where
      go : (o : Option File) → now (table wal) ≡ o → (content : Option (List ℕ)) → dirs (table wal) ≡ content
          → ((bytes : List ℕ) × (dirs (table wal) ≡ Some bytes) × ReadsTable wal bytes held) ⊎ (HasWholeTable dirs wal → ⊥)
      go o file None has = inr (λ whole. let none : ◌≡◌ {A = Option (List ℕ)} None (Some whole.1.0) = sym has ∙ whole.1.1 in cc)
      go None file (Some bytes) has =
          absurd (subst (λ (c : Option (List ℕ)). IsImageOf (table wal) None c) has (subst (λ (o : Option File). IsImageOf (table wal) o (dirs (table wal))) file (image (table wal))))
      go (Some f) file (Some bytes) has =
          let sent : f.sent ≡ table_text wal held = (subst (IsBeingPut (table_text wal held)) file put).0 in
          let chunks : ChunksStandIn f.sent (log_number wal) bytes =
          λ at c here. chunk_moved bytes f.sent at (free (table wal) f bytes at (chunk_len c) file has (record { chunk = c; stands = here; size_is = refl })) here in
          elim (part_or_whole wal held bytes is (subst (λ (l : List ℕ). ChunksStandIn l (log_number wal) bytes) sent chunks)) [
            | inl reads ↦ inl (bytes, has, reads)
            | inr part ↦ inr (λ whole.
                let same : Some bytes ≡ Some whole.1.0 = sym has ∙ whole.1.1 in
                let bytes_are : whole.1.0 ≡ bytes = cc in
                part (subst (tables.IsWhole wal) bytes_are whole.1.2))
          ]
