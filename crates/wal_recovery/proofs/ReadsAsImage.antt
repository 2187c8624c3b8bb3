-- What a read finds of a file at rest is one of its images, in which each chunk was sent so.
use Rattle.std.proofs.Common.{◌≡◌, ℕ, List, take, drop, Option, Some, None, ap, sym, subst, ◌∙◌, refl}
use Rattle.std.proofs.lemmas.List.{take-append-drop}
use Rattle.crc_chunk.specs.Chunk.{IsChunkOf}
use Rattle.disk_face.specs.declared.FilePlace.TheVariants.{Segment, Table}
use Rattle.disk_face.specs.View.{Place, File}
use Rattle.disk_face.specs.Image.{IsImageOf, IsRestedFile, log_of, as_read}
use Rattle.wal_recovery.proofs.StableImages.{reads_sent}

-- What a read finds of a file is one of its images, and each chunk that stands there was sent so.
pub record ReadsAsImage (place : Place) (f : Option File) : Type 0 where
  pub image : IsImageOf place f (as_read place f)
  pub was_sent : (g : File) (bytes : List ℕ) (at size : ℕ) → f ≡ Some g → as_read place f ≡ Some bytes → IsChunkOf bytes at (log_of place) size
      → take size (drop at bytes) ≡ take size (drop at g.sent)

-- What was sent to a file is an image of it.
sent_is_image : (place : Place) (f : File) → IsImageOf place (Some f) (Some f.sent)
sent_is_image (Segment side name) f = λ made. (drop f.stable f.sent, sym (take-append-drop f.stable f.sent))
sent_is_image (Table upto) f = λ made. refl

pub rested_reads : (place : Place) (f : Option File) → ((g : File) → f ≡ Some g → IsRestedFile g) → ReadsAsImage place f
rested_reads place None rested = record { image = tt; was_sent = λ g bytes at size is read here. absurd cc }
rested_reads place (Some f) rested =
    let read_is : as_read place (Some f) ≡ Some f.sent = reads_sent place (Some f) f refl (rested f refl) in
    record {
      image = subst (λ (o : Option (List ℕ)). IsImageOf place (Some f) o) (sym read_is) (sent_is_image place f);
      was_sent = λ g bytes at size is read here.
          let same : Some bytes ≡ Some f.sent = sym read ∙ read_is in
          let bytes_are : bytes ≡ g.sent = cc in
          ap (λ (l : List ℕ). take size (drop at l)) bytes_are;
    }
