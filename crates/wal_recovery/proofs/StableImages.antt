-- Files that are stable in full: what an image has after the bytes that were sent adds no chunk, so each of its segments holds what
-- was read, and the listing is the same with those contents in place. And files at rest that were synced.
use Rattle.std.proofs.Common.{◌≡◌, ◌≢◌, inl, inr, ℕ, suc, ◌<◌, Bool, false, List, [], ◌∷◌, ◌++◌, map, drop, Option, Some, None, ap, sym, subst, ◌∙◌, refl, arith}
use Rattle.std.specs.Prelude.{Contains, ◌==◌, not}
use Rattle.std.specs.Option.{unwrap_or}
use Rattle.std.specs.List.{list_any}
use Rattle.std.proofs.lemmas.List.{take_all}
use Rattle.crc_chunk.specs.Chunk.{Chunk, chunk_len, IsChunkOf}
use Rattle.crc_chunk.proofs.Laws.{chunk_moved, same_in_whole}
use Rattle.batch_repr.specs.declared.batch.Batch.{Batch}
use Rattle.batch_repr.specs.Batches.{end_after}
use Rattle.block_record.specs.declared.records.Shown.{Shown}
use Rattle.block_record.specs.ReadOut.{leaves_open, chunk_end, place_after, stopped_at, IsChain, block_front, IsChunkRow, ShowsCorrupt, TellsShown, ChunksStandIn}
use Rattle.disk_face.specs.declared.Side.{Side}
use Rattle.disk_face.specs.declared.SegName.{SegName}
use Rattle.disk_face.specs.declared.FilePlace.TheVariants.{Segment, Table}
use Rattle.disk_face.specs.View.{Place, segment, File, Files, Dirs}
use Rattle.disk_face.specs.Listing.{IsSegmentName}
use Rattle.disk_face.specs.Image.{IsImageOf, IsImage, IsChanceFree, IsRestedFile, IsRested, as_read, dirs_as_read, log_number}
use Rattle.disk_face.proofs.Laws.{image_of_created, read_created}
use Rattle.segment_merge.proofs.Laws.{none_within, within_head, within_tail, within_cases}
use Rattle.wal_recovery.specs.declared.reports.Mode.TheVariants.{Strict}
use Rattle.wal_recovery.specs.Listing.{Stored, Wal, name_in, place_in, AreByIndex, AreByNumber, IsOf, StandsIn, IsListingOf, IsNextWal}
use Rattle.wal_recovery.specs.Recovering.{HoldsBatches, HoldRow, WalsMerge, RecoversFrom}
use Rattle.wal_recovery.specs.Resting.{IsStable, AreSegmentsStable, IsAsOrSynced, OnlySynced}

-- ---- chunks and chains

-- A chain stands wherever its chunks do.
chain_stands : (log : ℕ) (bytes others : List ℕ) → ChunksStandIn others log bytes → (at : ℕ) (is_open : Bool) (links : List Chunk)
    → IsChain bytes log at is_open links → IsChain others log at is_open links
chain_stands log bytes others stand at is_open [] chain = tt
chain_stands log bytes others stand at is_open (link ∷ links) chain = (
  chain.0,
  stand at link chain.1,
  chain_stands log bytes others stand (place_after at link) (leaves_open link.kind) links chain.2,
)

-- So does a row of chunks, and what shows the bytes at a place corrupt.
row_stands : (log : ℕ) (bytes others : List ℕ) → ChunksStandIn others log bytes → (from to : ℕ) (row : List Chunk)
    → IsChunkRow bytes log from row to → IsChunkRow others log from row to
row_stands log bytes others stand from to [] r = r
row_stands log bytes others stand from to (link ∷ row) r =
    (stand from link r.0, row_stands log bytes others stand (chunk_end from link) to row r.1)

shows_there : (log : ℕ) (bytes others : List ℕ) → ChunksStandIn others log bytes → (at place : ℕ) → ShowsCorrupt bytes log at place → ShowsCorrupt others log at place
shows_there log bytes others stand at place s = record {
  behind = s.behind;
  row = s.row;
  in_row = row_stands log bytes others stand (block_front place) place s.row s.in_row;
  chunk = s.chunk;
  stands = stand place s.chunk s.stands;
  above = s.above;
}

tells_there : (log : ℕ) (bytes others : List ℕ) → ChunksStandIn others log bytes → ChunksStandIn bytes log others → (at : ℕ) (shown : Option Shown)
    → TellsShown bytes log at shown → TellsShown others log at shown
tells_there log bytes others there back at None none = λ place s. none place (shows_there log others bytes back at place s)
tells_there log bytes others there back at (Some shown) h = record {
  at_is = h.at_is;
  shows = shows_there log bytes others there at shown.shown_at h.shows;
  least = λ place s. h.least place (shows_there log others bytes back at place s);
}

-- Bytes in which the same chunks stand hold the same batches.
holds_same : (log : ℕ) (bytes others : List ℕ) (batches : List Batch) → ChunksStandIn others log bytes → ChunksStandIn bytes log others
    → HoldsBatches Strict log bytes batches → HoldsBatches Strict log others batches
holds_same log bytes others batches there back holds = record {
  read = record holds.read { torn = list_any (λ b. not (b == 0)) (drop holds.read.ends_at others) };
  reads = record {
    links = holds.reads.links;
    longest = record {
      chain = chain_stands log bytes others there 0 false holds.reads.links holds.reads.longest.chain;
      longest = λ more chain. holds.reads.longest.longest more (chain_stands log others bytes back 0 false more chain);
    };
    records_are = holds.reads.records_are;
    end_is = holds.reads.end_is;
    torn_is = refl;
    shown_is = tells_there log bytes others there back (stopped_at 0 holds.reads.links) holds.read.shown holds.reads.shown_is;
  };
  passes = holds.passes;
  all = holds.all;
  spelled = holds.spelled;
  counted_are = holds.counted_are;
}

-- What stands stands still with more bytes after.
stands_behind : (log : ℕ) (sent rest : List ℕ) → ChunksStandIn (sent ++ rest) log sent
stands_behind log sent rest at c here = chunk_moved sent (sent ++ rest) at (same_in_whole sent rest at here) here

-- ---- lists that are mapped

within_map : {X Y : Type 0} (f : X → Y) (xs : List X) (x : X) → Contains xs x → Contains (map f xs) (f x)
within_map f [] x h = absurd (none_within x h)
within_map f (a ∷ xs) x h = elim (within_cases a xs x h) [
  | inl e ↦ subst (λ y. Contains (f a ∷ map f xs) (f y)) e (within_head (f a) (map f xs))
  | inr later ↦ within_tail (f a) (map f xs) (f x) (within_map f xs x later)
]

map_within : {X Y : Type 0} (f : X → Y) (xs : List X) (y : Y) → Contains (map f xs) y → (x : X) × Contains xs x × (f x ≡ y)
map_within f [] y h = absurd (none_within y h)
map_within f (a ∷ xs) y h = elim (within_cases (f a) (map f xs) y h) [
  | inl e ↦ (a, within_head a xs, e)
  | inr later ↦ let found = map_within f xs y later in (found.0, within_tail a xs found.0 found.1, found.2)
]

-- ---- the listing of an image

-- a segment with what the directories have at its place
filled : Dirs → ℕ → Stored → Stored
filled dirs number stored = record { side = stored.side; index = stored.index; content = unwrap_or (dirs (place_in number stored.side stored.index)) [] }

filled_wal : Dirs → Wal → Wal
filled_wal dirs wal = record { number = wal.number; segments = map (filled dirs wal.number) wal.segments }

by_index_filled : (dirs : Dirs) (number low : ℕ) (segments : List Stored) → AreByIndex low segments → AreByIndex low (map (filled dirs number) segments)
unfolding AreByIndex filled
by_index_filled dirs number low [] by = tt
by_index_filled dirs number low (stored ∷ segments) by = (by.0, by_index_filled dirs number (suc stored.index) segments by.1)

some_filled : (dirs : Dirs) (number : ℕ) (segments : List Stored) → segments ≢ [] → map (filled dirs number) segments ≢ []
some_filled dirs number [] some e = some refl
some_filled dirs number (stored ∷ segments) some e = cc

by_number_filled : (dirs : Dirs) (low : ℕ) (wals : List Wal) → AreByNumber low wals → AreByNumber low (map (filled_wal dirs) wals)
unfolding AreByNumber filled_wal
by_number_filled dirs low [] by = tt
by_number_filled dirs low (wal ∷ wals) by =
    (by.0, some_filled dirs wal.number wal.segments by.1, by_index_filled dirs wal.number 0 wal.segments by.2, by_number_filled dirs (suc wal.number) wals by.3)

-- ---- files at rest

-- A file at rest reads as it was sent.
pub reads_sent : (p : Place) (o : Option File) (f : File) → o ≡ Some f → IsRestedFile f → as_read p o ≡ Some f.sent
reads_sent p o f is rests = read_created p o f is rests.created ∙ ap Some rests.reads

-- What reads is a file at rest that was sent so.
read_of : (p : Place) (o : Option File) (bytes : List ℕ) → ((f : File) → o ≡ Some f → IsRestedFile f) → as_read p o ≡ Some bytes → (f : File)
    × (o ≡ Some f) × (f.sent ≡ bytes)
read_of p None bytes rested e = absurd (let no : None ≡ Some bytes = e in cc)
read_of p (Some f) bytes rested e = let whole : Some f.sent ≡ Some bytes = sym (reads_sent p (Some f) f refl (rested f refl)) ∙ e in (f, refl, cc)

-- What an image has, has a file.
pub image_has_file : (p : Place) (o : Option File) (content : List ℕ) → IsImageOf p o (Some content) → (f : File) × (o ≡ Some f)
image_has_file p None content im = absurd im
image_has_file p (Some f) content im = (f, refl)

module _ (now : Files) (rested : IsRested now) (stable : AreSegmentsStable now) (dirs : Dirs) (image : IsImage now dirs)
    (chance_free : IsChanceFree IsChunkOf now dirs) where
  -- A segment stands in the image with all that was sent, and what else is after it.
  content_of : (side : Side) (name : SegName) (f : File) → IsSegmentName name → now (segment side name) ≡ Some f → (rest : List ℕ)
      × (dirs (segment side name) ≡ Some (f.sent ++ rest))
  content_of side name f named is =
      let p : Place = segment side name in
      let s : IsStable f = stable side name f named is in
      let has = image_of_created side name f (dirs p) (subst (λ (o : Option File). IsImageOf p o (dirs p)) is (image p)) s.created s.stays in
      (has.2.0, has.1 ∙ ap Some (has.2.1 ∙ ap (λ (front : List ℕ). front ++ has.2.0) (take_all f.stable f.sent (omega (arith, s.whole)))))

  -- No chunk of it reaches after what was sent.
  stood_before : (side : Side) (name : SegName) (f : File) (rest : List ℕ) → now (segment side name) ≡ Some f
      → dirs (segment side name) ≡ Some (f.sent ++ rest) → ChunksStandIn f.sent (log_number name.wal) (f.sent ++ rest)
  stood_before side name f rest is has at c here =
      chunk_moved (f.sent ++ rest) f.sent at
      (chance_free (segment side name) f (f.sent ++ rest) at (chunk_len c) is has (record { chunk = c; stands = here; size_is = refl })) here

  -- A segment that was read stands in the image, and holds there what it held.
  stands_filled : (number : ℕ) (stored : Stored) → StandsIn (dirs_as_read now) number stored → StandsIn dirs number (filled dirs number stored)
  unfolding filled
  stands_filled number stored (named, read) =
      let p : Place = place_in number stored.side stored.index in
      let f = read_of p (now p) stored.content (rested p) read in
      let has = content_of stored.side (name_in number stored.index) f.0 named f.1 in
      (named, has.1 ∙ ap Some (sym (ap (λ (o : Option (List ℕ)). unwrap_or o []) has.1)))

  -- What stands in the image was read.
  was_read : (number : ℕ) (stored : Stored) → StandsIn dirs number stored → (old : Stored) × StandsIn (dirs_as_read now) number old
      × (filled dirs number old ≡ stored)
  unfolding filled
  was_read number stored (named, stands) =
      let p : Place = place_in number stored.side stored.index in
      let f = image_has_file p (now p) stored.content (subst (λ (o : Option (List ℕ)). IsImageOf p (now p) o) stands (image p)) in (
        record { side = stored.side; index = stored.index; content = f.0.sent },
        (named, reads_sent p (now p) f.0 f.1 (rested p f.0 f.1)),
        λ i. record { side = stored.side; index = stored.index; content = ap (λ (o : Option (List ℕ)). unwrap_or o []) stands i },
      )

  listed_image : (wals : List Wal) → IsListingOf (dirs_as_read now) wals → IsListingOf dirs (map (filled_wal dirs) wals)
  unfolding filled_wal
  listed_image wals listed = record { order = by_number_filled dirs 0 wals listed.order; same = λ number stored. (there number stored, here number stored) }
    where
      there : (number : ℕ) (stored : Stored) → IsOf (map (filled_wal dirs) wals) number stored → StandsIn dirs number stored
      there number stored (w, h, is, within) =
          let wal = map_within (filled_wal dirs) wals w h in
          let n : wal.0.number ≡ number = ap (λ (x : Wal). x.number) wal.2 ∙ is in
          let s = map_within (filled dirs wal.0.number) wal.0.segments stored (subst (λ (x : Wal). Contains x.segments stored) (sym wal.2) within) in
          let old = (listed.same wal.0.number s.0).0 (wal.0, wal.1, refl, s.1) in
          subst (λ (k : ℕ). StandsIn dirs k stored) n (subst (StandsIn dirs wal.0.number) s.2 (stands_filled wal.0.number s.0 old))

      here : (number : ℕ) (stored : Stored) → StandsIn dirs number stored → IsOf (map (filled_wal dirs) wals) number stored
      here number stored stands =
          let old = was_read number stored stands in
          let of = (listed.same number old.0).1 old.1 in
          let same : filled dirs of.0.number old.0 ≡ stored = ap (λ (k : ℕ). filled dirs k old.0) of.2 ∙ old.2 in (
            filled_wal dirs of.0,
            within_map (filled_wal dirs) wals of.0 of.1,
            of.2,
            subst (Contains (map (filled dirs of.0.number) of.0.segments)) same
                (within_map (filled dirs of.0.number) of.0.segments old.0 of.3),
          )

  one_holds : (number : ℕ) (stored : Stored) (batches : List Batch) → StandsIn (dirs_as_read now) number stored
      → HoldsBatches Strict (log_number number) stored.content batches
      → HoldsBatches Strict (log_number number) (filled dirs number stored).content batches
  unfolding filled
  one_holds number stored batches (named, read) holds =
      let p : Place = place_in number stored.side stored.index in
      let log : ℕ = log_number number in
      let f = read_of p (now p) stored.content (rested p) read in
      let has = content_of stored.side (name_in number stored.index) f.0 named f.1 in
      let sent : List ℕ = f.0.sent in
      subst (λ (o : Option (List ℕ)). HoldsBatches Strict log (unwrap_or o []) batches) (sym has.1)
      (holds_same log sent (sent ++ has.0) batches (stands_behind log sent has.0) (stood_before stored.side (name_in number stored.index) f.0 has.0 f.1 has.1)
      (subst (λ (bytes : List ℕ). HoldsBatches Strict log bytes batches) (sym f.2) holds))

  -- each of the segments was read
  abbrev WereRead : ℕ → List Stored → Type 0
  WereRead number segments = (stored : Stored) → Contains segments stored → StandsIn (dirs_as_read now) number stored

  row_holds : (number : ℕ) (segments : List Stored) (row : List (List Batch)) → WereRead number segments
      → HoldRow Strict (log_number number) segments row → HoldRow Strict (log_number number) (map (filled dirs number) segments) row
  row_holds number [] [] each holds = tt
  row_holds number [] (batches ∷ row) each holds = holds
  row_holds number (stored ∷ segments) [] each holds = holds
  row_holds number (stored ∷ segments) (batches ∷ row) each holds = (
    one_holds number stored batches (each stored (within_head stored segments)) holds.0,
    row_holds number segments row (λ s h. each s (within_tail stored segments s h)) holds.1,
  )

  wals_merge : (first : ℕ) (wals : List Wal) (merged : List Batch) → ((wal : Wal) → Contains wals wal → WereRead wal.number wal.segments)
      → WalsMerge first wals merged → WalsMerge first (map (filled_wal dirs) wals) merged
  unfolding WalsMerge filled_wal
  wals_merge first [] merged each merges = merges
  wals_merge first (wal ∷ wals) merged each (own, later, here, rest, is) = (
    own,
    later,
    record { row = here.row; holds = row_holds wal.number wal.segments here.row (each wal (within_head wal wals)) here.holds; merges = here.merges },
    wals_merge (end_after first own) wals later (λ w h. each w (within_tail wal wals w h)) rest,
    is,
  )

  -- The image recovers to what the files read as.
  pub stable_recovers : (first : ℕ) (base : List Batch) → RecoversFrom first (dirs_as_read now) base → RecoversFrom first dirs base
  stable_recovers first base read = record {
    wals = map (filled_wal dirs) read.wals;
    listed = listed_image read.wals read.listed;
    merges = wals_merge first read.wals base (λ wal h stored k. (read.listed.same wal.number stored).0 (wal, h, refl, k)) read.merges;
  }

-- ---- after a recovery that only synced

-- The next WAL is above that of each segment of files at rest.
pub rested_above : (wal : ℕ) (now : Files) → IsRested now → IsNextWal (dirs_as_read now) wal
    → (side : Side) (name : SegName) (f : File) → IsSegmentName name → now (segment side name) ≡ Some f → name.wal < wal
rested_above wal now rested next side name f named is =
    next.above name.wal (record { side = side; index = name.index; content = f.sent })
    (named, reads_sent (segment side name) (now (segment side name)) f is (rested (segment side name) f is))

-- A sync leaves what a read finds, and a file at rest.
as_read_synced : (p : Place) (o n : Option File) → IsAsOrSynced o n → as_read p n ≡ as_read p o
as_read_synced p o n (inl e) = ap (as_read p) e
as_read_synced p o n (inr (f, was, is)) = ap (as_read p) is ∙ same p ∙ ap (as_read p) (sym was)
  where
    same : (q : Place) → as_read q (Some (record f { stable = f.done })) ≡ as_read q (Some f)
    same (Segment side name) = refl
    same (Table upto) = refl

pub read_synced : (old now : Files) → OnlySynced old now → dirs_as_read now ≡ dirs_as_read old
read_synced old now only = λ i p. as_read_synced p (old p) (now p) (only p) i

rested_here : (o n : Option File) (g : File) → ((f : File) → o ≡ Some f → IsRestedFile f) → IsAsOrSynced o n → n ≡ Some g → IsRestedFile g
rested_here o n g rested (inl e) is = rested g (sym e ∙ is)
rested_here o n g rested (inr (f, was, then_)) is =
    let rests : IsRestedFile f = rested f was in
    let same : Some (record f { stable = f.done }) ≡ Some g = sym then_ ∙ is in
    let g_is : record f { stable = f.done } ≡ g = cc in
    subst IsRestedFile g_is (record { created = rests.created; stays = rests.stays; done = rests.done; reads = rests.reads })

pub rested_synced : (old now : Files) → IsRested old → OnlySynced old now → IsRested now
rested_synced old now rested only p g is = rested_here (old p) (now p) g (rested p) (only p) is
