-- Files of which every image has the store of one table: it stands whole, no table above it is, and no segment is above it.
use Rattle.std.proofs.Common.{◌≡◌, inl, inr, ℕ, ◌<◌, ◌≤◌, List, Option, Some, None, sym, subst, ap, ◌∙◌, arith}
use native.Mathlib.Decide.{dec_le}
use Rattle.batch_repr.specs.declared.batch.Batch.{Batch}
use Rattle.disk_face.specs.declared.Side.{Side}
use Rattle.disk_face.specs.declared.SegName.{SegName}
use Rattle.disk_face.specs.View.{Place, segment, table, File, Files, Dirs}
use Rattle.disk_face.specs.Image.{IsImageOf, IsImage, IsRestedFile}
use Rattle.disk_face.specs.Listing.{IsSegmentName, IsTableNumber}
use Rattle.table_text.specs.Tables.{Table, IsWhole, ReadsTable, batches_of}
use Rattle.wal_recovery.specs.declared.reports.Mode.TheVariants.{Strict}
use Rattle.wal_recovery.specs.Listing.{place_in, name_in}
use Rattle.wal_recovery.proofs.Laws.{base_ends, image_has_file}
use Rattle.flush_table.specs.Stores.{HasWholeTable, UsesTable, StoreOf}
use Rattle.flush_table.specs.Flushing.{answer_of, ImagesAnswerAs}
use Rattle.flush_table.specs.Removing.{IsCoveredBy, IsThinned}
use Rattle.flush_table.proofs.OnlyTable.{StandUpTo, only_table}
use Rattle.flush_table.proofs.RunOverStore.{table_image}
use Rattle.flush_table.proofs.Starting.{table_base}

pub record IsCovered (now : Files) (upto : ℕ) (held : Table) : Type 0 where
  pub named : IsTableNumber upto
  pub file : File
  pub there : now (table upto) ≡ Some file
  pub rests : IsRestedFile file
  pub reads : ReadsTable upto file.sent held
  pub above : (other : ℕ) (f : File) → IsTableNumber other → upto < other → now (table other) ≡ Some f → IsRestedFile f × (IsWhole other f.sent → ⊥)
  pub none : (side : Side) (name : SegName) (f : File) → IsSegmentName name → now (segment side name) ≡ Some f → name.wal ≤ upto

-- what a table at rest is in an image
rested_image : (upto : ℕ) (o : Option File) (f : File) (content : Option (List ℕ)) → o ≡ Some f → IsRestedFile f → IsImageOf (table upto) o content
    → content ≡ Some f.sent
rested_image upto None f content is rests im = absurd cc
rested_image upto (Some g) f content is rests im =
    let same : g ≡ f = some_file g f is in
    table_image upto (Some g) content (λ h e. subst IsRestedFile (sym same ∙ some_file g h e) rests) im
    ∙ ap Some (ap (λ (k : File). k.reads) same ∙ rests.reads)
  where
    some_file : (a b : File) → ◌≡◌ {A = Option File} (Some a) (Some b) → a ≡ b
    some_file a b e = cc

module _ (now : Files) (upto : ℕ) (held : Table) (covered : IsCovered now upto held) (dirs : Dirs) (image : IsImage now dirs) where
  stands : dirs (table upto) ≡ Some covered.file.sent
  stands = rested_image upto (now (table upto)) covered.file (dirs (table upto)) covered.there covered.rests (image (table upto))

  -- no whole table is above it
  greatest : (other : ℕ) → HasWholeTable dirs other → other ≤ upto
  greatest other (named, (bytes, there, whole)) = elim (dec_le other upto) [
    | yes le ↦ le
    | no above ↦
        let f = image_has_file (table other) (now (table other)) bytes (subst (λ (o : Option (List ℕ)). IsImageOf (table other) (now (table other)) o) there (image (table other))) in
        let part = covered.above other f.0 named (omega (arith, above)) f.1 in
        let is : Some bytes ≡ Some f.0.sent = sym there ∙ rested_image other (now (table other)) f.0 (dirs (table other)) f.1 part.0 (image (table other)) in
        let same : bytes ≡ f.0.sent = cc in
        absurd (part.1 (subst (IsWhole other) same whole))
  ]

  -- no segment is above it
  up_to : StandUpTo upto dirs
  up_to number stored (named, here) =
      let p : Place = place_in number stored.side stored.index in
      let f = image_has_file p (now p) stored.content (subst (λ (o : Option (List ℕ)). IsImageOf p (now p) o) here (image p)) in
      covered.none stored.side (name_in number stored.index) f.0 named f.1

  pub covered_uses : UsesTable dirs upto held
  covered_uses = record { named = covered.named; bytes = covered.file.sent; there = stands; reads = covered.reads; greatest = greatest }

  pub covered_store : StoreOf Strict dirs (Some (record { upto = upto; table = held })) (batches_of held)
  covered_store = only_table dirs upto held covered_uses up_to

-- so all images answer what the table does
pub covered_answers : (now : Files) (upto : ℕ) (held : Table) (batches : List Batch) (next : ℕ) → IsCovered now upto held → held.next ≡ next
    → ((key : List ℕ) → answer_of (batches_of held) key ≡ answer_of batches key) → ImagesAnswerAs batches next now
covered_answers now upto held batches next covered next_is same dirs image free = record {
  used = Some (record { upto = upto; table = held });
  own = batches_of held;
  store = covered_store now upto held covered dirs image;
  next_is = base_ends held.next (batches_of held) (table_base held covered.reads.is) ∙ next_is;
  same = same;
}

-- ---- removals

pub covered_thinned : (old now : Files) (upto : ℕ) (held : Table) → IsThinned (IsCoveredBy upto) old now → IsCovered old upto held → IsCovered now upto held
covered_thinned old now upto held thinned covered = record {
  named = covered.named;
  file = covered.file;
  there = kept (table upto) (λ low. omega (arith, low)) ∙ covered.there;
  rests = covered.rests;
  reads = covered.reads;
  above = λ other f number high is. covered.above other f number high (sym (kept (table other) (λ low. omega (arith, low, high))) ∙ is);
  none = λ side name f named is. elim (thinned (segment side name)) [
    | inl e ↦ covered.none side name f named (sym e ∙ is)
    | inr (low, gone) ↦ low
  ];
}
  where
    kept : (p : Place) → (IsCoveredBy upto p → ⊥) → now p ≡ old p
    kept p not = elim (thinned p) [ inl e ↦ e | inr (is, gone) ↦ absurd (not is) ]
