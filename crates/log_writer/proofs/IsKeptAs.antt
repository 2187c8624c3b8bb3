-- From the state of a segment's file to what each of its images reads out as. The bytes are looked at by the law of framing alone.
use Rattle.crc_chunk.proofs.Laws.{chunk_moved}
use Rattle.std.proofs.Common.{◌≡◌, ℕ, ◌-◌, ◌^◌, ◌<◌, ◌≤◌, Bool, true, false, List, length, map, take, drop, Option, Some, None, ap, sym, subst, ◌∙◌, refl, arith}
use Rattle.std.proofs.lemmas.List.{length-take, length-drop, take-map, take-take, take-append-le, take_all}
use native.Mathlib.Decide.{dec_le}
use Rattle.wal_base.specs.Prefixes.{IsPrefixOf}
use Rattle.disk_face.specs.declared.Side.{Side}
use Rattle.disk_face.specs.declared.SegName.{SegName}
use Rattle.disk_face.specs.View.{Place, segment, File, Files}
use Rattle.disk_face.specs.Image.{IsImageOf, log_of}
use Rattle.crc_chunk.specs.Chunk.{chunk_len, IsChunkOf}
use Rattle.batch_repr.specs.declared.batch.Batch.{Batch}
use Rattle.batch_repr.specs.Written.{written}
use Rattle.block_record.specs.Framing.{Marked, laid}
use Rattle.block_record.specs.ReadOut.{bytes_of, ReadsPrefix, ChunksStandIn}
use Rattle.block_record.proofs.Laws.{first_are_read}
use Rattle.log_writer.specs.Parts.{part, marked, segment_bytes}
use Rattle.log_writer.specs.Kept.{IsPrefixRead, IsKeptAs, SegmentKept, HasSynced, IsKeptFile}
use Rattle.log_writer.proofs.Parts.{marked_texts, marked_length, marked_take, marked_each, part_front, no_bytes}

-- What begins with the stable bytes has them.
front_of : (f : File) (content : List ℕ) → f.stable ≤ length f.sent → IsPrefixOf (take f.stable f.sent) content → take f.stable content ≡ take f.stable f.sent
front_of f content within begins =
    let front : List ℕ = take f.stable f.sent in
    let len : f.stable ≤ length front = omega (arith, length-take f.stable f.sent, within) in
    ap (take f.stable) begins.1 ∙ take-append-le f.stable front begins.0 len ∙ take_all f.stable front (omega (arith, length-take f.stable f.sent))

module _ (place : Place) (log from synced : ℕ) (records : List Batch) where
  abbrev sent_marked : (ℕ → ℕ) → ℕ → List Marked
  sent_marked offsets upto = marked offsets from (part from upto records)

  -- The front of the records that were sent, up to a number.
  front_marked : (offsets : ℕ → ℕ) (mid upto : ℕ) → mid ≤ upto → take (mid - from) (sent_marked offsets upto) ≡ sent_marked offsets mid
  front_marked offsets mid upto le =
      marked_take offsets from (mid - from) (part from upto records) ∙ ap (marked offsets from) (part_front from mid upto records le)

  few_marked : (offsets : ℕ → ℕ) (mid upto : ℕ) → mid ≤ upto → upto ≤ length records → mid - from ≤ length (sent_marked offsets upto)
  few_marked offsets mid upto le within =
      omega (arith, le, within, marked_length offsets from (part from upto records), length-take (upto - from) (drop from records), length-drop from records)

  -- The records that were read, out of those sent.
  first_of : (f : File) (within : ℕ) (read : List (List ℕ)) (kept : HasSynced log from synced records f)
      → length (segment_bytes log kept.offsets from kept.covers records) ≤ within
      → ReadsPrefix log within (sent_marked kept.offsets kept.upto) read → IsPrefixRead from synced records read
  unfolding segment_bytes
  first_of f within read kept covered first = elim (dec_le first.count n) [
    | yes le ↦ record {
      count = first.count;
      has_synced = omega (arith, enough, kept.has_synced);
      within = omega (arith, le, kept.begins, kept.has_synced, kept.has_covered, kept.within);
      first = texts_are ∙ ap (map written) (take-take first.count n rest le);
    }
    | no h ↦ record {
      count = n;
      has_synced = omega (arith, kept.has_synced, kept.has_covered);
      within = omega (arith, kept.begins, kept.has_synced, kept.has_covered, kept.within);
      first = texts_are ∙ ap (map written) (take_all first.count (take n rest) (omega (arith, h, length-take n rest)));
    }
  ]
    where
      n : ℕ
      n = kept.upto - from

      rest : List Batch
      rest = drop from records

      texts_are : read ≡ map written (take first.count (take n rest))
      texts_are = first.first ∙ ap (take first.count) (marked_texts kept.offsets from (part from kept.upto records)) ∙ take-map written first.count (take n rest)

      enough : kept.covers - from ≤ first.count
      enough =
          first.all_within (kept.covers - from) (few_marked kept.offsets kept.covers kept.upto kept.has_covered kept.within)
          (omega (arith, covered, ap (λ (t : List Marked). length (laid log 0 t)) (front_marked kept.offsets kept.covers kept.upto kept.has_covered)))

  -- Of a file that begins with so many bytes of what was sent.
  reads_first : (f : File) (content : List ℕ) (within : ℕ) (kept : HasSynced log from synced records f) → within ≤ length f.sent
      → take within content ≡ take within f.sent
      → length (segment_bytes log kept.offsets from kept.covers records) ≤ within → ChunksStandIn f.sent log content
      → IsKeptAs log from synced records (Some content)
  unfolding segment_bytes
  reads_first f content within kept short front covered chunks read out =
      let sent : List Marked = sent_marked kept.offsets kept.upto in
      let count : ℕ = kept.covers - from in
      let same : laid log 0 (take count sent) ≡ segment_bytes log kept.offsets from kept.covers records =
      ap (laid log 0) (front_marked kept.offsets kept.covers kept.upto kept.has_covered) in
      let among = first_are_read log within sent content read
      (marked_each (λ (o : ℕ). o < 2 ^ 64) kept.offsets from (part from kept.upto records) kept.fit)
      (omega (arith, short, ap length kept.sent)) (front ∙ ap (take within) kept.sent)
      (subst (λ (l : List ℕ). ChunksStandIn l log content) kept.sent chunks)
      (record {
        count = count;
        among = few_marked kept.offsets kept.covers kept.upto kept.has_covered kept.within;
        whole = omega (arith, covered, ap length same);
        below = marked_each (λ (o : ℕ). o ≤ length (laid log 0 (take count sent))) kept.offsets from (part from kept.upto records)
            (λ number. omega (arith, kept.below number, ap length same));
      }) out in
      (first_of f within (bytes_of read.records) kept covered among.0, among.1)

  -- What of the file makes that its segment is kept.
  kept_in : (f : File) (content : List ℕ) (created : Bool) → f.created ≡ created → HasSynced log from synced records f
      → (f.created ≡ true → IsPrefixOf (take f.stable f.sent) content)
      → ChunksStandIn f.sent log content → IsKeptAs log from synced records (Some content)
  kept_in f content true is kept begins chunks = reads_first f content f.stable kept (kept.stable is)
      (front_of f content (kept.stable is) (begins is)) (kept.covered is) chunks
  kept_in f content false is kept begins chunks =
      reads_first f content 0 kept (omega arith) refl (omega (
        arith,
        ap length (ap (λ (n : ℕ). segment_bytes log kept.offsets from n records) (kept.not_created is)),
        ap length (no_bytes log kept.offsets from records),
      )) chunks

-- Where the file has what is synced, the segment is kept in each image.
pub file_kept : (side : Side) (name : SegName) (log from synced : ℕ) (records : List Batch) (files : Files) → log ≡ log_of (segment side name)
    → IsKeptFile log from synced records (files (segment side name)) → SegmentKept (segment side name) log from synced records files
file_kept side name log from synced records files log_is kept dirs image chance_free = go (files place) (dirs place) refl refl kept (image place)
  where
    place : Place
    place = segment side name

    go : (f : Option File) (o : Option (List ℕ)) → files place ≡ f → dirs place ≡ o → IsKeptFile log from synced records f
        → IsImageOf place f o → IsKeptAs log from synced records o
    go None None f_is o_is k im = k
    go None (Some content) f_is o_is k im = absurd im
    go (Some f) None f_is o_is k im = gone f.created refl k im
      where
        gone : (created : Bool) → f.created ≡ created → HasSynced log from synced records f → (f.created ≡ true → f.leaving ≡ true) → synced ≡ from
        gone true is k im = let clash : true ≡ false = sym (im is) ∙ k.stays is in cc
        gone false is k im = omega (arith, k.begins, k.has_synced, k.not_created is)
    go (Some f) (Some content) f_is o_is k im =
        kept_in place log from synced records f content f.created refl k im
        (λ at c here. chunk_moved content f.sent at
        (chance_free place f content at (chunk_len c) f_is o_is
        (subst (λ (l : ℕ). IsChunkOf content at l (chunk_len c)) log_is (record { chunk = c; stands = here; size_is = refl }))) here)
