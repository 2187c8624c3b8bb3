-- What callers use of images, so that they need not open the definition: by cases on the place, and on whether the image has the file.
use Rattle.std.proofs.Common.{◌≡◌, ◌⊎◌, inl, inr, ℕ, ◌≤◌, Bool, true, false, List, ◌++◌, length, take, drop, Option, Some, None, ap, sym, subst, ◌∙◌, refl, arith, append_assoc}
use Rattle.std.proofs.lemmas.List.{take-append-drop, take-append-le, take-take}
use Rattle.wal_base.specs.Prefixes.{IsPrefixOf}
use Rattle.disk_face.specs.declared.Side.{Side}
use Rattle.disk_face.specs.declared.SegName.{SegName}
use Rattle.disk_face.specs.declared.FilePlace.TheVariants.{Segment, Table}
use Rattle.disk_face.specs.View.{Place, segment, table, Act, creating, writing, syncing, File, Files}
use Rattle.disk_face.specs.Image.{IsImageOf, IsImage, IsChanceFree, IsSoundFile, IsSound, IsRested, as_read, dirs_as_read}
use Rattle.disk_face.specs.Calls.{AfterDone, AfterFailed}
use Rattle.disk_face.specs.Tables.{whole, IsBeingRemoved}

-- bytes that begin with a front begin with less of it too
pub begins_shorter : (n m : ℕ) (sent bytes : List ℕ) → n ≤ m → IsPrefixOf (take m sent) bytes → IsPrefixOf (take n sent) bytes
begins_shorter n m sent bytes le b =
    let front : take n (take m sent) ≡ take n sent = grind (arith, take-take n m sent) in (
      drop n (take m sent) ++ b.0,
      b.1 ∙ ap (λ (l : List ℕ). l ++ b.0) (sym (take-append-drop n (take m sent)))
          ∙ append_assoc (take n (take m sent)) (drop n (take m sent)) b.0 ∙ ap (λ (l : List ℕ). l ++ (drop n (take m sent) ++ b.0)) front,
    )

-- where no file is, no image has one
pub image_of_none : (p : Place) (o : Option (List ℕ)) → IsImageOf p None o → o ≡ None
image_of_none p None im = refl
image_of_none p (Some content) im = absurd im

-- each image has a created segment that stays, and it begins with its stable bytes
pub image_of_created : (side : Side) (name : SegName) (f : File) (o : Option (List ℕ)) → IsImageOf (segment side name) (Some f) o
    → f.created ≡ true → f.leaving ≡ false
    → (content : List ℕ) × (o ≡ Some content) × IsPrefixOf (take f.stable f.sent) content
image_of_created side name f None im made stays = let clash : true ≡ false = sym (im made) ∙ stays in cc
image_of_created side name f (Some content) im made stays = (content, refl, im made)

-- each image has a created table that stays, with the bytes that were sent
pub image_of_table : (upto : ℕ) (f : File) (o : Option (List ℕ)) → IsImageOf (table upto) (Some f) o → f.created ≡ true → f.leaving ≡ false → o ≡ Some f.sent
image_of_table upto f None im made stays = let clash : true ≡ false = sym (im made) ∙ stays in cc
image_of_table upto f (Some content) im made stays = ap (λ (l : List ℕ). Some l) (im made)

-- each image has a table that was put, with its bytes
pub image_of_whole : (upto : ℕ) (bytes : List ℕ) (o : Option (List ℕ)) → IsImageOf (table upto) (Some (whole bytes)) o → o ≡ Some bytes
image_of_whole upto bytes o im = image_of_table upto (whole bytes) o im refl refl

-- a removal leaves the file absent, or as an image had it before
pub removed_image : (p : Place) (f g : Option File) (o : Option (List ℕ)) → IsBeingRemoved f g → IsImageOf p g o → (o ≡ None) ⊎ IsImageOf p f o
removed_image p f None o removed im = inl (image_of_none p o im)
removed_image p None (Some g) o removed im = absurd removed
removed_image p (Some f) (Some g) None removed im = inl refl
removed_image (Segment side name) (Some f) (Some g) (Some bytes) removed im = inr
    (λ made. subst (λ (h : File). IsPrefixOf (take h.stable h.sent) bytes) removed (im (ap (λ (h : File). h.created) removed ∙ made)))
removed_image (Table upto) (Some f) (Some g) (Some bytes) removed im = inr
    (λ made. im (ap (λ (h : File). h.created) removed ∙ made) ∙ ap (λ (h : File). h.sent) removed)

-- a sync only takes images away
pub sync_image : (p : Place) (f : File) (o : Option (List ℕ)) → IsSoundFile f → IsImageOf p (Some (record f { stable = f.done })) o → IsImageOf p (Some f) o
sync_image p f None sound im = im
sync_image (Segment side name) f (Some bytes) sound im = λ made. begins_shorter f.stable f.done f.sent bytes sound.stable (im made)
sync_image (Table n) f (Some bytes) sound im = im

-- the start of a write adds no image of a segment
pub write_image : (side : Side) (name : SegName) (f : File) (more : List ℕ) (o : Option (List ℕ)) → IsSoundFile f
    → IsImageOf (Segment side name) (Some (record f { sent = f.sent ++ more })) o → IsImageOf (segment side name) (Some f) o
write_image side name f more None sound im = im
write_image side name f more (Some bytes) sound im = λ made. subst (λ (l : List ℕ). IsPrefixOf l bytes)
    (take-append-le f.stable f.sent more (omega (arith, sound.stable, sound.done))) (im made)

-- what leaves alone the bytes sent, how many are stable, and whether the file is there, adds no image
same_image : (p : Place) (f : File) (done : ℕ) (reads : List ℕ) (o : Option (List ℕ))
    → IsImageOf p (Some (record f { done = done; reads = reads })) o → IsImageOf p (Some f) o
same_image p f done reads None im = im
same_image (Segment side name) f done reads (Some bytes) im = im
same_image (Table upto) f done reads (Some bytes) im = im

created_image : (p : Place) (f : File) (o : Option (List ℕ)) → IsImageOf p (Some (record f { created = true })) o → IsImageOf p (Some f) o
created_image p f None im = λ made. im refl
created_image (Segment side name) f (Some bytes) im = λ made. im refl
created_image (Table upto) f (Some bytes) im = λ made. im refl

-- an operation that is done only takes images away
pub done_image : (p : Place) (act : Act) (f g : Option File) (o : Option (List ℕ)) → ((h : File) → f ≡ Some h → IsSoundFile h)
    → AfterDone act f g → IsImageOf p g o → IsImageOf p f o
done_image p act None g o sound after im = subst (λ (h : Option File). IsImageOf p h o) after im
done_image p creating (Some f) g o sound after im = created_image p f o (subst (λ (h : Option File). IsImageOf p h o) after im)
done_image p writing (Some f) g o sound after im = same_image p f (length f.sent) after.0 o (subst (λ (h : Option File). IsImageOf p h o) after.2 im)
done_image p syncing (Some f) g o sound after im = sync_image p f o (sound f refl) (subst (λ (h : Option File). IsImageOf p h o) after im)

-- an operation that has failed adds no image
pub failed_image : (p : Place) (act : Act) (f g : Option File) (o : Option (List ℕ)) → AfterFailed act f g → IsImageOf p g o → IsImageOf p f o
failed_image p act None g o after im = subst (λ (h : Option File). IsImageOf p h o) after im
failed_image p creating (Some f) g o after im = subst (λ (h : Option File). IsImageOf p h o) after im
failed_image p writing (Some f) g o after im = same_image p f f.done after.0 o (subst (λ (h : Option File). IsImageOf p h o) after.1 im)
failed_image p syncing (Some f) g o after im = subst (λ (h : Option File). IsImageOf p h o) after im

-- what a read finds of a sound file is one of its images
pub read_image : (p : Place) (f : Option File) → ((g : File) → f ≡ Some g → IsSound p g) → IsImageOf p f (as_read p f)
read_image p None sound = tt
read_image (Table upto) (Some f) sound = (sound f refl).1
read_image (Segment side name) (Some f) sound = go f.created refl (sound f refl)
  where
    go : (made : Bool) → f.created ≡ made → IsSound (segment side name) f → IsImageOf (segment side name) (Some f) (as_read (segment side name) (Some f))
    go false is s = rw is (λ e. cc)
    go true is s = rw is (λ e. begins_shorter f.stable f.done f.sent f.reads s.0.stable s.0.reads)

-- a created file reads as it stands
pub read_created : (p : Place) (o : Option File) (f : File) → o ≡ Some f → f.created ≡ true → as_read p o ≡ Some f.reads
read_created (Segment side name) o f is created = ap (as_read (segment side name)) is ∙ rw created refl
read_created (Table upto) o f is created = ap (as_read (table upto)) is

-- a disk as it reads is one of its images
pub reads_as_image : (files : Files) → ((p : Place) (f : File) → files p ≡ Some f → IsSound p f) → IsImage files (dirs_as_read files)
reads_as_image files sound p = read_image p (files p) (sound p)

-- a disk at rest deceives no reader
pub rested_chance_free : (Chunk : List ℕ → ℕ → ℕ → ℕ → Type 0) (files : Files) → IsRested files → IsChanceFree Chunk files (dirs_as_read files)
rested_chance_free Chunk files rested p f bytes at size is read chunk =
    let rests = rested p f is in
    let found = read_created p (files p) f is rests.created in
    let same : Some bytes ≡ Some f.reads = sym read ∙ found in
    let bytes_are : bytes ≡ f.reads = cc in
    ap (λ (l : List ℕ). take size (drop at l)) (bytes_are ∙ rests.reads)
